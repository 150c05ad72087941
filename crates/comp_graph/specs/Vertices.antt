-- Sets of vertices, and the words that the other definitions use on them.
use Rattle.std.specs.Prelude.{◌≡◌, ℕ, ◌+◌, ◌<◌, ◌≤◌, zero, suc, Bool, true, false, cond, ◌||◌, max, List, [], ◌∷◌, ◌++◌}
use Rattle.std.specs.Ordering.{nat_cmp}
use Rattle.std.specs.FinSet as set

-- a finite set of vertices, which are numbers
abbrev pub Vertices : Type 0
Vertices = set.FinSet nat_cmp

-- v is a member of s
infix 50 ◌∈◌
abbrev pub ◌∈◌ : ℕ → Vertices → Type 0
v ∈ s = set.contains s v ≡ true

-- v is no member of s
infix 50 ◌∉◌
abbrev pub ◌∉◌ : ℕ → Vertices → Type 0
v ∉ s = set.contains s v ≡ false

-- each member of s is a member of t
abbrev pub IsWithin : Vertices → Vertices → Type 0
IsWithin s t = (v : ℕ) → v ∈ s → v ∈ t

-- no member of s is a member of t
abbrev pub IsOutside : Vertices → Vertices → Type 0
IsOutside s t = (v : ℕ) → v ∈ s → v ∉ t

-- the number of members
abbrev pub size : Vertices → ℕ
size s = set.len s

-- each member is below n
pub record AllBelow (n : ℕ) (s : Vertices) : Type 0 where
  pub below : (v : ℕ) → v ∈ s → v < n

-- a member, and no other is smaller
pub record IsLeast (s : Vertices) (v : ℕ) : Type 0 where
  pub member : v ∈ s
  pub least : (u : ℕ) → u ∈ s → v ≤ u

-- a number below n passes the test
abbrev pub any_below : ℕ → (ℕ → Bool) → Bool
any_below zero test = false
any_below (suc n) test = test n || any_below n test

-- the greatest value of f at the numbers below n, or 0 if there is none
abbrev pub greatest_below : ℕ → (ℕ → ℕ) → ℕ
greatest_below zero f = 0
greatest_below (suc n) f = max (f n) (greatest_below n f)

-- the numbers below n that pass a test
unfoldable pub set_below : (ℕ → Bool) → ℕ → Vertices
set_below p zero = set.empty
set_below p (suc n) = cond (p n) (set.insert (set_below p n) n) (set_below p n)

-- how many numbers below n pass a test
unfoldable pub count_below : (ℕ → Bool) → ℕ → ℕ
count_below p zero = 0
count_below p (suc n) = cond (p n) 1 0 + count_below p n

-- the sum of f over the numbers below n
abbrev pub sum_below : ℕ → (ℕ → ℕ) → ℕ
sum_below zero f = 0
sum_below (suc n) f = f n + sum_below n f

-- the members of s below n, in rising order
unfoldable pub rising : ℕ → Vertices → List ℕ
rising zero s = []
rising (suc n) s = rising n s ++ cond (set.contains s n) (n ∷ []) []
