use Rattle.std.proofs.Common.{◌≡◌, ℕ, List, [], ◌∷◌, ◌++◌, Some, None, Option, sym, refl, ap, ◌∙◌, subst, append_assoc, append-nil}
use Rattle.rules.specs.declared.refusal.FaultKind.{FaultKind}
use Rattle.rules.specs.declared.refusal.FaultKind.TheVariants.{Form as Misplaced}
use Rattle.rules.specs.declared.syntax.Atom.{Atom}
use Rattle.rules.specs.declared.syntax.Atom.TheVariants.{True}
use Rattle.rules.specs.declared.syntax.Unary.{Unary}
use Rattle.rules.specs.declared.syntax.Binary.{Binary}
use Rattle.rules.specs.declared.syntax.Binary.TheVariants.{And}
use Rattle.rules.specs.declared.syntax.Word.{Word}
use Rattle.rules.specs.declared.syntax.Word.TheVariants.{Leaf, Prefix, Infix, Open, Close}
use Rattle.rules.specs.Formula.{Formula, atom, unary, binary, spell}
use Rattle.rules.specs.Text.{Lexed, done, stop, word}
use Rattle.rules.specs.Owed.{Owed, formula, sign, bracket, meets, refused, or_refused, judge, Splits}
use Rattle.rules.specs.First.{Begins, Cause, FaultFirst, FirstOnly}
use Rattle.rules.proofs.Judging.{Meets, spelled_two}

-- what a word does to what is owed
abbrev After : Owed → Word → List Owed → List Word → Option (List Owed) → Type 0
After x w s vs None = Meets (x ∷ s) (w ∷ vs) → ⊥
After x w s vs (Some new) = (Meets (x ∷ s) (w ∷ vs) → Meets (new ++ s) vs) × (Meets (new ++ s) vs → Meets (x ∷ s) (w ∷ vs))

atom_in : (a : Atom) (s : List Owed) (vs : List Word) (f : Formula) (us : List Word) → Leaf a ∷ vs ≡ spell f ++ us → us ≡ vs
atom_in a s vs (atom b) us e = cc
atom_in a s vs (unary u f) us e = absurd cc
atom_in a s vs (binary b f g) us e = absurd cc

before_in : (u : Unary) (vs : List Word) (f : Formula) (us : List Word) → Prefix u ∷ vs ≡ spell f ++ us → (g : Formula) × (vs ≡ spell g ++ us)
before_in u vs (atom b) us e = absurd cc
before_in u vs (unary v f) us e = (f, cc)
before_in u vs (binary b f g) us e = absurd cc

opening_in : (vs : List Word) (f : Formula) (us : List Word) → Open ∷ vs ≡ spell f ++ us → (g : Formula) × (b : Binary) × (h : Formula) × (vs ≡ spell g ++ (Infix b ∷ (spell h ++ (Close ∷ us))))
opening_in vs (atom b) us e = absurd cc
opening_in vs (unary v f) us e = absurd cc
opening_in vs (binary b f g) us e = let t = e ∙ spelled_two b f g us in (f, b, g, cc)

between_in : (b : Binary) (vs : List Word) (f : Formula) (us : List Word) → Infix b ∷ vs ≡ spell f ++ us → ⊥
between_in b vs (atom c) us e = cc
between_in b vs (unary v f) us e = cc
between_in b vs (binary c f g) us e = cc

closing_in : (vs : List Word) (f : Formula) (us : List Word) → Close ∷ vs ≡ spell f ++ us → ⊥
closing_in vs (atom c) us e = cc
closing_in vs (unary v f) us e = cc
closing_in vs (binary c f g) us e = cc

after : (x : Owed) (w : Word) (s : List Owed) (vs : List Word) → After x w s vs (meets x w)
after formula (Leaf a) s vs =
    ((λ (f, us, e, h). subst (λ (ws : List Word). Meets s ws) (atom_in a s vs f us e) h), (λ h. (atom a, vs, refl, h)))
after formula (Prefix u) s vs =
    ((λ (f, us, e, h). let i = before_in u vs f us e in (i.0, us, i.1, h)), (λ (f, us, e, h). (unary u f, us, ap (λ (ws : List Word). Prefix u ∷ ws) e, h)))
after formula (Infix b) s vs = λ (f, us, e, h). between_in b vs f us e
after formula Open s vs = (
  (λ (f, us, e, h). let i = opening_in vs f us e in (i.0, Infix i.1 ∷ (spell i.2 ++ (Close ∷ us)), i.3, (i.1, spell i.2 ++ (Close ∷ us), refl, (i.2, Close ∷ us, refl, (us, refl, h))))),
  (λ (f, u1, e1, (b, u2, e2, (g, u3, e3, (us, e4, h)))).
      let z : vs ≡ spell f ++ (Infix b ∷ (spell g ++ (Close ∷ us))) =
      e1 ∙ ap (λ (ws : List Word). spell f ++ ws) (e2 ∙ ap (λ (ws : List Word). Infix b ∷ ws) (e3 ∙ ap (λ (ws : List Word). spell g ++ ws) e4)) in
      (binary b f g, us, ap (λ (ws : List Word). Open ∷ ws) z ∙ sym (spelled_two b f g us), h)),
)
after formula Close s vs = λ (f, us, e, h). closing_in vs f us e
after sign (Leaf a) s vs = λ (b, us, e, h). cc
after sign (Prefix u) s vs = λ (b, us, e, h). cc
after sign (Infix c) s vs = ((λ (b, us, e, h). let d : us ≡ vs = cc in subst (λ (ws : List Word). Meets s ws) d h), (λ h. (c, vs, refl, h)))
after sign Open s vs = λ (b, us, e, h). cc
after sign Close s vs = λ (b, us, e, h). cc
after bracket (Leaf a) s vs = λ (us, e, h). cc
after bracket (Prefix u) s vs = λ (us, e, h). cc
after bracket (Infix c) s vs = λ (us, e, h). cc
after bracket Open s vs = λ (us, e, h). cc
after bracket Close s vs = ((λ (us, e, h). let d : us ≡ vs = cc in subst (λ (ws : List Word). Meets s ws) d h), (λ h. (vs, refl, h)))

-- whatever is owed can be met, and not by nothing
can : (s : List Owed) → (vs : List Word) × Meets s vs
can [] = ([], refl)
can (formula ∷ s) = let i = can s in (Leaf True ∷ i.0, (atom True, i.0, refl, i.1))
can (sign ∷ s) = let i = can s in (Infix And ∷ i.0, (And, i.0, refl, i.1))
can (bracket ∷ s) = let i = can s in (Close ∷ i.0, (i.0, refl, i.1))

spelled_some : (f : Formula) (us : List Word) → [] ≡ spell f ++ us → ⊥
spelled_some (atom a) us e = cc
spelled_some (unary u f) us e = cc
spelled_some (binary b f g) us e = cc

owes : (x : Owed) (s : List Owed) → Meets (x ∷ s) [] → ⊥
owes formula s (f, us, e, h) = spelled_some f us e
owes sign s (b, us, e, h) = cc
owes bracket s (us, e, h) = cc

-- after the words ws exactly s is owed
record Owes (ws : List Word) (s : List Owed) : Type 0 where
  enough : (vs : List Word) → Meets s vs → (f : Formula) × (ws ++ vs ≡ spell f)
  all : (vs : List Word) (f : Formula) → ws ++ vs ≡ spell f → Meets s vs

begins : (ws : List Word) (s : List Owed) → Owes ws s → Begins ws
begins ws s h = let i = can s in let j = h.enough i.0 i.1 in (i.0, j.0, j.1)

start : Owes [] (formula ∷ [])
start = record {
  enough = λ vs (f, us, e, h). (f, e ∙ ap (λ (ws : List Word). spell f ++ ws) h ∙ append-nil (spell f));
  all = λ vs f e. (f, [], e ∙ sym (append-nil (spell f)), refl);
}

one_more : (ws vs : List Word) (w : Word) → (ws ++ (w ∷ [])) ++ vs ≡ ws ++ (w ∷ vs)
one_more ws vs w = simp append_assoc

more : (ws : List Word) (x : Owed) (s : List Owed) (w : Word) (new : List Owed) → Owes ws (x ∷ s) → ((vs : List Word) → After x w s vs (Some new)) → Owes (ws ++ (w ∷ [])) (new ++ s)
more ws x s w new h a = record {
  enough = λ vs m. let i = h.enough (w ∷ vs) ((a vs).1 m) in (i.0, one_more ws vs w ∙ i.1);
  all = λ vs f e. (a vs).0 (h.all (w ∷ vs) f (sym (one_more ws vs w) ∙ e));
}

-- the fault that ends the reading of l, after the words ws
abbrev Found : ℕ → Lexed → List Word → FaultKind → ℕ → Type 0
Found n l ws k o = (us : List Word) × (m : Lexed) × Splits l us m × Begins (ws ++ us) × Cause n (ws ++ us) m k o

here : (n : ℕ) (l : Lexed) (ws : List Word) (s : List Owed) (k : FaultKind) (o : ℕ) → Owes ws s → Cause n ws l k o → Found n l ws k o
here n l ws s k o h c =
    let e = sym (append-nil ws) in
    ([], l, refl, subst (λ (vs : List Word). Begins vs) e (begins ws s h), subst (λ (vs : List Word). Cause n vs l k o) e c)

step : (n : ℕ) (p : ℕ) (w : Word) (l : Lexed) (x : Owed) (s : List Owed) (ws : List Word) (k : FaultKind) (o : ℕ) → Owes ws (x ∷ s) →
    ((t : List Owed) (us : List Word) → Owes us t → judge n l t ≡ refused k o → Found n l us k o) →
    (v : Option (List Owed)) → ((vs : List Word) → After x w s vs v) → or_refused v p (λ new. judge n l (new ++ s)) ≡ refused k o → Found n (word p w l) ws k o
step n p w l x s ws k o h rec None a g = here n (word p w l) ws (x ∷ s) k o h (cc, cc, λ us f d. a us (h.all (w ∷ us) f d))
step n p w l x s ws k o h rec (Some new) a g =
    let i = rec (new ++ s) (ws ++ (w ∷ [])) (more ws x s w new h a) g in
    let q = one_more ws i.0 w in
    (w ∷ i.0, i.1, (p, l, refl, i.2), subst (λ (vs : List Word). Begins vs) q i.3, subst (λ (vs : List Word). Cause n vs i.1 k o) q i.4)

first : (n : ℕ) (l : Lexed) (s : List Owed) (ws : List Word) (k : FaultKind) (o : ℕ) → Owes ws s → judge n l s ≡ refused k o → Found n l ws k o
first n done [] ws k o h e = absurd cc
first n done (x ∷ s) ws k o h e = here n done ws (x ∷ s) k o h (cc, cc, λ f g. owes x s (h.all [] f (append-nil ws ∙ g)))
first n (stop j p) [] ws k o h e = here n (stop j p) ws [] k o h (cc, cc)
first n (stop j p) (x ∷ s) ws k o h e = here n (stop j p) ws (x ∷ s) k o h (cc, cc)
first n (word p w l) [] ws k o h e = here n (word p w l) ws [] k o h (cc, cc, λ us f g. let d = h.all (w ∷ us) f g in cc)
first n (word p w l) (x ∷ s) ws k o h e = step n p w l x s ws k o h (λ t us hh g. first n l t us k o hh g) (meets x w) (after x w s) e

pub fault_first : FaultFirst
fault_first n l k o e =
    let i = first n l (formula ∷ []) [] k o start e in
    record { words = i.0; rest = i.1; splits = i.2; begins = i.3; cause = i.4 }

-- the other way: a first fault is what the machine finds
as_refused : (k j : FaultKind) (o p : ℕ) → k ≡ j → o ≡ p → refused j p ≡ refused k o
as_refused k j o p e f = cc

stuck_word : (n p : ℕ) (w : Word) (r : Lexed) (x : Owed) (s : List Owed) (pre : List Word) (k : FaultKind) (o : ℕ) → Owes pre (x ∷ s) →
    (v : Option (List Owed)) → ((vs : List Word) → After x w s vs v) → Cause n pre (word p w r) k o → or_refused v p (λ new. judge n r (new ++ s)) ≡ refused k o
stuck_word n p w r x s pre k o h None a c = as_refused k Misplaced o p c.0 c.1
stuck_word n p w r x s pre k o h (Some new) a c =
    let i = can (new ++ s) in
    let j = h.enough (w ∷ i.0) ((a i.0).1 i.1) in
    absurd (c.2 i.0 j.0 j.1)

at_once : (n : ℕ) (l : Lexed) (s : List Owed) (pre : List Word) (k : FaultKind) (o : ℕ) → Owes pre s → Cause n pre l k o → judge n l s ≡ refused k o
at_once n done [] pre k o h c = let j = h.enough [] refl in absurd (c.2 j.0 (sym (append-nil pre) ∙ j.1))
at_once n done (x ∷ s) pre k o h c = as_refused k Misplaced o n c.0 c.1
at_once n (stop j p) [] pre k o h c = as_refused k j o p c.0 c.1
at_once n (stop j p) (x ∷ s) pre k o h c = as_refused k j o p c.0 c.1
at_once n (word p w r) [] pre k o h c = as_refused k Misplaced o p c.0 c.1
at_once n (word p w r) (x ∷ s) pre k o h c = stuck_word n p w r x s pre k o h (meets x w) (after x w s) c

goes_on : (n p : ℕ) (w : Word) (m : Lexed) (x : Owed) (s : List Owed) (pre us : List Word) (k : FaultKind) (o : ℕ) → Owes pre (x ∷ s) → Begins (pre ++ (w ∷ us)) →
    ((t : List Owed) → Owes (pre ++ (w ∷ [])) t → judge n m t ≡ refused k o) →
    (v : Option (List Owed)) → ((vs : List Word) → After x w s vs v) → or_refused v p (λ new. judge n m (new ++ s)) ≡ refused k o
goes_on n p w m x s pre us k o h (vs, f, e) rec None a =
    absurd (a (us ++ vs) (h.all (w ∷ (us ++ vs)) f (sym (append_assoc pre (w ∷ us) vs) ∙ e)))
goes_on n p w m x s pre us k o h b rec (Some new) a = rec (new ++ s) (more pre x s w new h a)

later : (n : ℕ) (us : List Word) (l rest : Lexed) (s : List Owed) (pre : List Word) (k : FaultKind) (o : ℕ) → Owes pre s → Splits l us rest → Begins (pre ++ us) → Cause n (pre ++ us) rest k o → judge n l s ≡ refused k o
later n [] l rest s pre k o h e b c =
    ap (λ (z : Lexed). judge n z s) e ∙ at_once n rest s pre k o h (subst (λ (ws : List Word). Cause n ws rest k o) (append-nil pre) c)
later n (w ∷ us) l rest [] pre k o h (p, m, e, g) (vs, f, d) c =
    let q = h.all (w ∷ (us ++ vs)) f (sym (append_assoc pre (w ∷ us) vs) ∙ d) in
    absurd cc
later n (w ∷ us) l rest (x ∷ s) pre k o h (p, m, e, g) b c =
    let q = sym (one_more pre us w) in
    ap (λ (z : Lexed). judge n z (x ∷ s)) e
    ∙ goes_on n p w m x s pre us k o h b
    (λ t ht. later n us m rest t (pre ++ (w ∷ [])) k o ht g (subst (λ (ws : List Word). Begins ws) q b) (subst (λ (ws : List Word). Cause n ws rest k o) q c))
    (meets x w) (after x w s)

pub first_only : FirstOnly
first_only n l k o f = later n f.words l f.rest (formula ∷ []) [] k o start f.splits f.begins f.cause
