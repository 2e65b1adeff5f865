-- Membership.
use Rattle.std.proofs.Common.{◌≡◌, ◌⊎◌, List, [], ◌∷◌, ◌++◌, map, refl, ap, subst, inl, inr}
use Rattle.walk.specs.declared.found.Found.{Found}
use Rattle.walk.specs.Walk.{each}
use Rattle.graph.specs.Moves.{Among as In}

pub in_left : {A : Type 0} (x : A) (xs ys : List A) → In x xs → In x (xs ++ ys)
in_left x [] ys h = absurd h
in_left x (y ∷ xs) ys (inl e) = inl e
in_left x (y ∷ xs) ys (inr h) = inr (in_left x xs ys h)

pub in_right : {A : Type 0} (x : A) (xs ys : List A) → In x ys → In x (xs ++ ys)
in_right x [] ys h = h
in_right x (y ∷ xs) ys h = inr (in_right x xs ys h)

pub in_split : {A : Type 0} (x : A) (xs ys : List A) → In x (xs ++ ys) → In x xs ⊎ In x ys
in_split x [] ys h = inr h
in_split x (y ∷ xs) ys (inl e) = inl (inl e)
in_split x (y ∷ xs) ys (inr h) = elim (in_split x xs ys h) [ inl p ↦ inl (inr p) | inr p ↦ inr p ]

pub in_map : {A B : Type 0} (f : A → B) (x : A) (xs : List A) → In x xs → In (f x) (map f xs)
in_map f x [] h = absurd h
in_map f x (y ∷ xs) (inl e) = inl (ap f e)
in_map f x (y ∷ xs) (inr h) = inr (in_map f x xs h)

pub in_map_from : {A B : Type 0} (f : A → B) (y : B) (xs : List A) → In y (map f xs) → (x : A) × In x xs × (y ≡ f x)
in_map_from f y [] h = absurd h
in_map_from f y (x ∷ xs) (inl e) = (x, inl refl, e)
in_map_from f y (x ∷ xs) (inr h) = let r = in_map_from f y xs h in (r.0, inr r.1, r.2)

pub in_each : (x g : Found) (fs : List Found) (w : Found → List Found) → In g fs → In x (w g) → In x (each fs w)
in_each x g [] w h k = absurd h
in_each x g (f ∷ fs) w (inl e) k = in_left x (w f) (each fs w) (subst (λ (y : Found). In x (w y)) e k)
in_each x g (f ∷ fs) w (inr h) k = in_right x (w f) (each fs w) (in_each x g fs w h k)

pub each_from : (x : Found) (fs : List Found) (w : Found → List Found) → In x (each fs w) → (g : Found) × In g fs × In x (w g)
each_from x [] w h = absurd h
each_from x (f ∷ fs) w h =
    elim (in_split x (w f) (each fs w) h) [
      | inl p ↦ (f, inl refl, p)
      | inr p ↦ let r = each_from x fs w p in (r.0, inr r.1, r.2)
    ]
