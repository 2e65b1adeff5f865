-- Reading from the front of a list of bytes: what each method of the reader answers.
use Rattle.std.specs.Prelude.{◌≡◌, ℕ, zero, suc, ◌+◌, ◌*◌, ◌^◌, ◌<◌, ◌≤◌, Bool, true, false, cond, not, ◌&&◌, List, [], ◌∷◌, length, take, drop, Some, None, Option, ◌==◌, nat_le, nat_lt, slice_index}
use Rattle.graph.specs.declared.node.Node.{Node}
use Rattle.graph.specs.declared.node.Ranked.{Ranked}
use Rattle.graph.specs.Sets.{has}
use Rattle.records.specs.declared.limits.Limits.{Limits}
use Rattle.records.specs.Claims.{Claim}

-- what a reading gives: nothing, or a value and the bytes that are left
pub data Got (A : Type 0) : Type 0 where
  lost : Got A
  got : A → List ℕ → Got A

-- one reading after another
abbrev pub next : {A B : Type 0} → Got A → (A → List ℕ → Got B) → Got B
next lost f = lost
next (got a r) f = f a r

-- nothing is read unless the test holds
abbrev pub check : {A : Type 0} → Bool → Got A → Got A
check true g = g
check false g = lost

-- what an answer and the bytes that are left say
abbrev pub given : {A : Type 0} → Option A → List ℕ → Got A
given None r = lost
given (Some a) r = got a r

-- the same, where the items have been put into a table, all of it
abbrev pub filled : {A : Type 0} → Option (Unit {0}) → List A → List ℕ → Got (List A)
filled None xs r = lost
filled (Some _) xs r = got xs r

-- the first n bytes, where there are so many
pub record Front (n : ℕ) (bs xs : List ℕ) : Type 0 where
  pub are : xs ≡ take n bs
  pub long : n ≤ length bs
  pub bytes : (i : ℕ) → slice_index xs i < 256

abbrev pub StartsWith : ℕ → List ℕ → Option (List ℕ) → Type 0
StartsWith n bs None = length bs < n
StartsWith n bs (Some xs) = Front n bs xs

-- and the bytes that are left
abbrev pub SplitsAt : ℕ → List ℕ → Option (List ℕ) → List ℕ → Type 0
SplitsAt n bs None r = length bs < n
SplitsAt n bs (Some xs) r = Front n bs xs × (r ≡ drop n bs)

abbrev pub byte : List ℕ → Got ℕ
byte [] = lost
byte (b ∷ bs) = check (nat_lt b 256) (got b bs)

-- k more bytes of a number that began with v
unfoldable pub number : ℕ → ℕ → List ℕ → Got ℕ
number zero v bs = got v bs
number (suc k) v bs = next (byte bs) (λ b r. number k (v * 256 + b) r)

-- n items
unfoldable pub many : {A : Type 0} → ℕ → (List ℕ → Got A) → List ℕ → Got (List A)
many zero p bs = got [] bs
many (suc n) p bs = next (p bs) (λ a r. next (many n p r) (λ xs q. got (a ∷ xs) q))

-- a count of 1 to top
abbrev pub count : ℕ → List ℕ → Got ℕ
count top bs = next (number 2 0 bs) (λ n r. check (nat_le 1 n && nat_le n top) (got n r))

-- a count, then as many items
abbrev pub counted : {A : Type 0} → ℕ → (List ℕ → Got A) → List ℕ → Got (List A)
counted top p bs = next (count top bs) (λ n r. many n p r)

-- the mask of a position
abbrev pub mask : Limits → List ℕ → Got ℕ
mask l bs = next (number 2 0 bs) (λ m r. check (nat_lt m (2 ^ l.signals)) (got m r))

-- a field that p reads, which is absent, or there and not zero
abbrev pub taken_by : {A : Type 0} → (List ℕ → Got A) → (A → Bool) → A → Bool → List ℕ → Got A
taken_by p is_zero none false bs = got none bs
taken_by p is_zero none true bs = next (p bs) (λ v r. check (not (is_zero v)) (got v r))

-- the same of a number of k bytes
abbrev pub taken : ℕ → Bool → List ℕ → Got ℕ
taken k there bs = taken_by (number k 0) (λ v. v == 0) 0 there bs

-- every bit of a node stands for a line or an eventuality
abbrev pub fitting : Limits → Node → Bool
fitting l n = nat_lt n.label (2 ^ l.lines) && (nat_lt n.marks (2 ^ l.eventualities) && nat_lt n.history (2 ^ l.eventualities))

abbrev pub ranked : ℕ → ℕ → ℕ → ℕ → ℕ → Ranked
ranked a b c d e = record { node = record { label = b * 2 ^ 64 + a; marks = c; history = d }; rank = e }

-- the fields that a node's map says are there
abbrev pub fields : Limits → ℕ → List ℕ → Got Ranked
fields l m bs =
    next (taken 8 (has m 0) bs) (λ a r. next (taken 8 (has m 1) r) (λ b r. next (taken 2 (has m 2) r) (λ c r. next (taken 2 (has m 3) r) (λ d r. next (taken 2 (has m 4) r) (λ e r. check (fitting l (ranked a b c d e).node) (got (ranked a b c d e) r))))))

abbrev pub node : Limits → List ℕ → Got Ranked
node l bs = next (byte bs) (λ m r. check (nat_lt m 32) (fields l m r))

-- a node's fields and a node, whatever its bits stand for
abbrev pub parts : ℕ → List ℕ → Got Ranked
parts m bs =
    next (taken 8 (has m 0) bs) (λ a r. next (taken 8 (has m 1) r) (λ b r. next (taken 2 (has m 2) r) (λ c r. next (taken 2 (has m 3) r) (λ d r. next (taken 2 (has m 4) r) (λ e r. got (ranked a b c d e) r)))))

abbrev pub any_node : List ℕ → Got Ranked
any_node bs = next (byte bs) (λ m r. check (nat_lt m 32) (parts m r))

-- nothing is left
abbrev pub end : List ℕ → Got (Unit {0})
end [] = got tt []
end (b ∷ bs) = lost

abbrev pub ended : Claim → List ℕ → Got Claim
ended c bs = next (end bs) (λ _ r. got c r)

-- what follows the map of a record
abbrev pub body : Limits → ℕ → List ℕ → Got Claim
body l m bs =
    cond (m == 2) (next (counted 1024 (mask l) bs) (λ cycle r. ended (Claim.run [] cycle) r))
    (cond (m == 3) (next (counted 1023 (mask l) bs) (λ lead r. next (counted 1024 (mask l) r) (λ cycle q. ended (Claim.run lead cycle) q)))
    (cond (m == 4) (next (counted 1024 (node l) bs) (λ nodes r. ended (Claim.graph nodes) r)) lost))

-- a whole record
abbrev pub record_of : Limits → List ℕ → Got Claim
record_of l bs = next (byte bs) (λ m r. body l m r)
