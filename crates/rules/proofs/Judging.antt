use Rattle.std.proofs.Common.{◌≡◌, ℕ, List, [], ◌∷◌, ◌++◌, Some, None, Option, sym, refl, ap, ◌∙◌, subst, append_assoc, append-nil}
use Rattle.rules.specs.declared.syntax.Binary.{Binary}
use Rattle.rules.specs.declared.syntax.Word.{Word}
use Rattle.rules.specs.declared.syntax.Word.TheVariants.{Leaf, Prefix, Infix, Open, Close}
use Rattle.rules.specs.Formula.{Formula, atom, unary, binary, spell}
use Rattle.rules.specs.Text.{Lexed, done, stop, word}
use Rattle.rules.specs.Owed.{Owed, formula, sign, bracket, accepted, judge, also_said, said, Splits, OwedExact}

-- Splits
pub splits_append : (ws us : List Word) (l r : Lexed) → Splits l (ws ++ us) r → (m : Lexed) × Splits l ws m × Splits m us r
splits_append [] us l r h = (l, refl, h)
splits_append (w ∷ ws) us l r (o, m, e, h) = let t = splits_append ws us m r h in (t.0, (o, m, e, t.1), t.2)

pub splits_join : (ws us : List Word) (l m r : Lexed) → Splits l ws m → Splits m us r → Splits l (ws ++ us) r
splits_join [] us l m r e h = subst (λ (x : Lexed). Splits x us r) (sym e) h
splits_join (w ∷ ws) us l m r (o, k, e, g) h = (o, k, e, splits_join ws us k m r g h)

-- a formula that was spelled is no longer owed
pub splits_judge : (n : ℕ) (f : Formula) (l r : Lexed) (s : List Owed) → Splits l (spell f) r → judge n l (formula ∷ s) ≡ judge n r s
splits_judge n (atom a) l r s (o, m, e, h) = ap (λ (x : Lexed). judge n x (formula ∷ s)) e ∙ ap (λ (x : Lexed). judge n x s) h
splits_judge n (unary u f) l r s (o, m, e, h) = ap (λ (x : Lexed). judge n x (formula ∷ s)) e ∙ splits_judge n f m r s h
splits_judge n (binary b f g) l r s (o, m, e, h) =
    let a = splits_append (spell f) _ m r h in
    let x = a.2 in
    let c = splits_append (spell g) _ x.1 r x.3 in
    let y = c.2 in
    ap (λ (z : Lexed). judge n z (formula ∷ s)) e
    ∙ splits_judge n f m a.0 (sign ∷ (formula ∷ (bracket ∷ s))) a.1
    ∙ ap (λ (z : Lexed). judge n z (sign ∷ (formula ∷ (bracket ∷ s)))) x.2
    ∙ splits_judge n g x.1 c.0 (bracket ∷ s) c.1
    ∙ ap (λ (z : Lexed). judge n z (bracket ∷ s)) y.2
    ∙ ap (λ (z : Lexed). judge n z s) y.3

pub splits_said : (ws : List Word) (l : Lexed) → Splits l ws done → said l ≡ Some ws
splits_said [] l e = ap said e
splits_said (w ∷ ws) l (o, m, e, h) = ap said e ∙ ap (also_said w) (splits_said ws m h)

also_inv : (v w : Word) (x : Option (List Word)) (ws : List Word) → also_said v x ≡ Some (w ∷ ws) → (v ≡ w) × (x ≡ Some ws)
also_inv v w None ws e = absurd cc
also_inv v w (Some us) ws e = (cc, cc)

also_not : (v : Word) (x : Option (List Word)) → also_said v x ≡ Some [] → ⊥
also_not v None e = cc
also_not v (Some us) e = cc

said_splits : (ws : List Word) (l : Lexed) → said l ≡ Some ws → Splits l ws done
said_splits [] done e = refl
said_splits [] (stop k o) e = absurd cc
said_splits [] (word o w l) e = absurd (also_not w (said l) e)
said_splits (v ∷ ws) done e = absurd cc
said_splits (v ∷ ws) (stop k o) e = absurd cc
said_splits (v ∷ ws) (word o w l) e =
    let i = also_inv w v (said l) ws e in
    (o, l, ap (λ (x : Word). word o x l) i.0, said_splits ws l i.1)

pub complete : (n : ℕ) (l : Lexed) (f : Formula) → said l ≡ Some (spell f) → judge n l (formula ∷ []) ≡ accepted
complete n l f e = splits_judge n f l done [] (said_splits (spell f) l e)

-- what is owed, and words that meet it
abbrev pub Meets : List Owed → List Word → Type 0
Meets [] ws = ws ≡ []
Meets (formula ∷ s) ws = (f : Formula) × (us : List Word) × (ws ≡ spell f ++ us) × Meets s us
Meets (sign ∷ s) ws = (b : Binary) × (us : List Word) × (ws ≡ Infix b ∷ us) × Meets s us
Meets (bracket ∷ s) ws = (us : List Word) × (ws ≡ Close ∷ us) × Meets s us

abbrev Sound : Lexed → List Owed → Type 0
Sound l s = (ws : List Word) × (said l ≡ Some ws) × Meets s ws

pub spelled_two : (b : Binary) (f g : Formula) (us : List Word) → spell (binary b f g) ++ us ≡ Open ∷ (spell f ++ (Infix b ∷ (spell g ++ (Close ∷ us))))
spelled_two b f g us = simp append_assoc

sound_all : (n : ℕ) (l : Lexed) (s : List Owed) → judge n l s ≡ accepted → Sound l s
sound_all n done [] e = ([], refl, refl)
sound_all n done (x ∷ s) e = absurd cc
sound_all n (stop k o) [] e = absurd cc
sound_all n (stop k o) (x ∷ s) e = absurd cc
sound_all n (word o w l) [] e = absurd cc
sound_all n (word o (Leaf a) l) (formula ∷ s) e =
    let i = sound_all n l s e in
    (Leaf a ∷ i.0, ap (also_said (Leaf a)) i.1, (atom a, i.0, refl, i.2))
sound_all n (word o (Prefix u) l) (formula ∷ s) e =
    let i = sound_all n l (formula ∷ s) e in
    let m = i.2 in
    (Prefix u ∷ i.0, ap (also_said (Prefix u)) i.1, (unary u m.0, m.1, ap (λ (ws : List Word). Prefix u ∷ ws) m.2, m.3))
sound_all n (word o (Infix b) l) (formula ∷ s) e = absurd cc
sound_all n (word o Open l) (formula ∷ s) e =
    let i = sound_all n l (formula ∷ (sign ∷ (formula ∷ (bracket ∷ s)))) e in
    let m = i.2 in
    let p = m.3 in
    let q = p.3 in
    let r = q.3 in
    let f = m.0 in
    let b = p.0 in
    let g = q.0 in
    let us = r.0 in
    let z : i.0 ≡ spell f ++ (Infix b ∷ (spell g ++ (Close ∷ us))) =
    m.2 ∙ ap (λ (ws : List Word). spell f ++ ws) (p.2 ∙ ap (λ (ws : List Word). Infix b ∷ ws) (q.2 ∙ ap (λ (ws : List Word). spell g ++ ws) r.1)) in
    (Open ∷ i.0, ap (also_said Open) i.1, (binary b f g, us, ap (λ (ws : List Word). Open ∷ ws) z ∙ sym (spelled_two b f g us), r.2))
sound_all n (word o Close l) (formula ∷ s) e = absurd cc
sound_all n (word o (Leaf a) l) (sign ∷ s) e = absurd cc
sound_all n (word o (Prefix u) l) (sign ∷ s) e = absurd cc
sound_all n (word o (Infix b) l) (sign ∷ s) e =
    let i = sound_all n l s e in
    (Infix b ∷ i.0, ap (also_said (Infix b)) i.1, (b, i.0, refl, i.2))
sound_all n (word o Open l) (sign ∷ s) e = absurd cc
sound_all n (word o Close l) (sign ∷ s) e = absurd cc
sound_all n (word o (Leaf a) l) (bracket ∷ s) e = absurd cc
sound_all n (word o (Prefix u) l) (bracket ∷ s) e = absurd cc
sound_all n (word o (Infix b) l) (bracket ∷ s) e = absurd cc
sound_all n (word o Open l) (bracket ∷ s) e = absurd cc
sound_all n (word o Close l) (bracket ∷ s) e =
    let i = sound_all n l s e in
    (Close ∷ i.0, ap (also_said Close) i.1, (i.0, refl, i.2))

pub sound : (n : ℕ) (l : Lexed) → judge n l (formula ∷ []) ≡ accepted → (f : Formula) × (said l ≡ Some (spell f))
sound n l e =
    let i = sound_all n l (formula ∷ []) e in
    let m = i.2 in
    (m.0, i.1 ∙ ap (λ (ws : List Word). Some ws) (m.2 ∙ ap (λ (ws : List Word). spell m.0 ++ ws) m.3 ∙ append-nil (spell m.0)))

-- no binary formulas are spelled alike
apart : (f g : Formula) (us vs : List Word) → spell f ++ us ≡ spell g ++ vs → (f ≡ g) × (us ≡ vs)
apart (atom a) (atom b) us vs e = (cc, cc)
apart (atom a) (unary v g) us vs e = absurd cc
apart (atom a) (binary b f g) us vs e = absurd cc
apart (unary u f) (atom b) us vs e = absurd cc
apart (unary u f) (unary v g) us vs e =
    let t : spell f ++ us ≡ spell g ++ vs = cc in
    let i = apart f g us vs t in
    let h = i.0 in
    (cc, i.1)
apart (unary u f) (binary b g h) us vs e = absurd cc
apart (binary c f k) (atom b) us vs e = absurd cc
apart (binary c f k) (unary v g) us vs e = absurd cc
apart (binary c f k) (binary b g h) us vs e =
    let t = sym (spelled_two c f k us) ∙ e ∙ spelled_two b g h vs in
    let t1 : spell f ++ (Infix c ∷ (spell k ++ (Close ∷ us))) ≡ spell g ++ (Infix b ∷ (spell h ++ (Close ∷ vs))) = cc in
    let i = apart f g _ _ t1 in
    let i0 = i.0 in
    let i1 = i.1 in
    let t2 : spell k ++ (Close ∷ us) ≡ spell h ++ (Close ∷ vs) = cc in
    let j = apart k h _ _ t2 in
    let j0 = j.0 in
    let j1 = j.1 in
    (cc, cc)

pub unique : (f g : Formula) → spell f ≡ spell g → f ≡ g
unique f g e = (apart f g [] [] (append-nil (spell f) ∙ e ∙ sym (append-nil (spell g)))).0

pub owed_exact : OwedExact
owed_exact = record { sound = sound; complete = complete; unique = unique }
