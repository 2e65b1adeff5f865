use Rattle.std.proofs.Common.{◌≡◌, ℕ, ◌-◌, ◌^◌, ◌<◌, List, [], ◌∷◌, ◌++◌, sym, ap, ◌∙◌, ap₂, arith}
use Rattle.std.proofs.lemmas.Nat.{pow_pos}
use Rattle.graph.specs.Numbers.{eventuality}
use Rattle.tables.specs.Lines.{line}
use Rattle.walk.specs.declared.outline.Outline.{Outline}
use Rattle.walk.specs.declared.found.Found.{Found}
use Rattle.walk.specs.declared.found.Pass.{Pass}
use Rattle.walk.specs.Outlines.{outlined}
use Rattle.walk.specs.Walk.{walk, steps}
use Rattle.walk.specs.Remain.{ends}
use Rattle.walk.proofs.Walks.{walk_none, went_by, went_dead, went_one, went_two, two_choice, chs_less, pow_less, rest_push, load_push, room_push}
use Rattle.walk.proofs.branches.Branches.descend.Goals as goal

-- a step at a place is that of its line
step_at : (p o : Outline) (j k : ℕ) (f : Found) (fs : List Found) → p ≡ o → j ≡ k
    → fs ≡ steps (line (outlined p) j) j (eventuality (outlined p) j) f → fs ≡ steps (line (outlined o) k) k (eventuality (outlined o) k) f
step_at p o j k f fs e h s = s ∙ ap₂ (λ (x : Outline) (y : ℕ). steps (line (outlined x) y) y (eventuality (outlined x) y) f) e h

pub returns-in-Dead : goal.returns-in-Dead
returns-in-Dead c =
    let s = c.loop-k.self in
    let k = c.loop-k.k in
    let i = c.loop-k.invariant in
    let p : 0 < 2 ^ k = pow_pos k in
    let d = step_at _ s.outline.now _ (k - 1) c.loop-k.found [] c.at.ensures.outline c.at.ensures.number c.in-Dead.ensures in
    record {
      outline = i.outline;
      node = i.node;
      list = went_dead (outlined s.outline.now) k c.loop-k.found _ (ends s) c.loop-k-test.true c.if-has.ensures d i.list;
      work = omega (arith, i.work);
    }

pub loop-k-preserved-in-One : goal.loop-k-preserved-in-One
loop-k-preserved-in-One c =
    let s = c.loop-k.self in
    let t = outlined s.outline.now in
    let k = c.loop-k.k in
    let i = c.loop-k.invariant in
    let l = c.loop-k-test.true in
    let d = step_at _ s.outline.now _ (k - 1) c.loop-k.found (c.in-One.f ∷ []) c.at.ensures.outline c.at.ensures.number c.in-One.ensures in
    record {
      within = omega (arith, i.within);
      room = omega (arith, chs_less t k l, i.room);
      outline = i.outline;
      node = i.node;
      list = went_one t k c.loop-k.found _ (ends s) l c.if-has.ensures c.in-One.f d i.list;
      work = omega (arith, pow_less k l, i.work);
    }

pub push-requires : goal.push-requires
push-requires c =
    let s = c.loop-k.self in
    let k = c.loop-k.k in
    let d = step_at _ s.outline.now _ (k - 1) c.loop-k.found (c.in-Two.f ∷ c.in-Two.g ∷ []) c.at.ensures.outline c.at.ensures.number c.in-Two.ensures in
    (omega arith, omega (arith, c.loop-k.invariant.room, two_choice (outlined s.outline.now) k c.in-Two.f c.in-Two.g c.loop-k.found c.loop-k-test.true d))

pub invariant_of-self : goal.invariant_of-self
invariant_of-self c =
    let s = c.loop-k.self in
    let t = outlined s.outline.now in
    let k = c.loop-k.k in
    let i = c.loop-k.invariant in
    let d = step_at _ s.outline.now _ (k - 1) c.loop-k.found (c.in-Two.f ∷ c.in-Two.g ∷ []) c.at.ensures.outline c.at.ensures.number c.in-Two.ensures in
    let e = two_choice t k c.in-Two.f c.in-Two.g c.loop-k.found c.loop-k-test.true d in
    record { room = room_push s.stack.items _ _ c.push.ensures.items t s.outline.now.len s.room (omega (arith, i.within)) (omega (arith, i.room, e)) }

pub loop-k-preserved-in-Two : goal.loop-k-preserved-in-Two
loop-k-preserved-in-Two c =
    let s = c.loop-k.self in
    let t = outlined s.outline.now in
    let k = c.loop-k.k in
    let i = c.loop-k.invariant in
    let l = c.loop-k-test.true in
    let f = c.in-Two.f in
    let p : Pass = record { line = k - 1; found = c.in-Two.g } in
    let d = step_at _ s.outline.now _ (k - 1) c.loop-k.found (f ∷ c.in-Two.g ∷ []) c.at.ensures.outline c.at.ensures.number c.in-Two.ensures in
    let e = two_choice t k f c.in-Two.g c.loop-k.found l d in
    record {
      within = omega (arith, i.within);
      room = omega (arith, e, i.room, c.push.ensures.len);
      outline = i.outline;
      node = i.node;
      list =
          ap (λ (xs : List Found). walk t (k - 1) f ++ xs) (rest_push s.stack.items _ p c.push.ensures.items t)
          ∙ went_two t k c.loop-k.found _ (ends s) l c.if-has.ensures f c.in-Two.g d i.list;
      work = omega (arith, pow_less k l, load_push s.stack.items _ p c.push.ensures.items, i.work);
    }

pub loop-k-preserved : goal.loop-k-preserved
loop-k-preserved c =
    let s = c.loop-k.self in
    let t = outlined s.outline.now in
    let k = c.loop-k.k in
    let i = c.loop-k.invariant in
    let l = c.loop-k-test.true in
    record {
      within = omega (arith, i.within);
      room = omega (arith, chs_less t k l, i.room);
      outline = i.outline;
      node = i.node;
      list = went_by t k c.loop-k.found _ (ends s) l (sym c.if-has.ensures) i.list;
      work = omega (arith, pow_less k l, i.work);
    }

pub returns-clause-list : goal.returns-clause-list
returns-clause-list c =
    let s = c.loop-k.self in
    let t = outlined s.outline.now in
    let i = c.loop-k.invariant in
    let z : c.loop-k.k ≡ 0 = omega arith in
    ap (λ (xs : List Found). xs ++ ends s) (sym (walk_none t c.loop-k.found) ∙ ap (λ (x : ℕ). walk t x c.loop-k.found) (sym z)) ∙ i.list
