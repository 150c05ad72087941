-- Laws of sets of vertices: members, induction a member at a time, and how many members there are.
use Rattle.std.proofs.Common.{◌≡◌, ℕ, ◌+◌, ◌-◌, ◌≤◌, ◌<◌, zero, suc, Bool, true, false, ltb, List, [], ◌∷◌, ◌⊎◌, inl, inr, cond, sym, refl, ap, ◌∙◌, subst, add-zero, add-suc, arith}
use Rattle.std.specs.Ordering.{nat_cmp}
use Rattle.std.specs.Cmp.{nat_cmp_total}
use Rattle.std.specs.FinSet as set
use Rattle.std.proofs.lemmas.Bool.{cases_Bool, cases_lt, and_left, and_parts, and_from, le-ltb, ltb-true}
use Rattle.comp_graph.specs.Vertices.{Vertices, ◌∈◌, ◌∉◌, IsWithin, IsOutside, size, AllBelow, set_below, count_below}
use Rattle.comp_graph.specs.Sets.{same, membership, has_set_below}

-- ---- how many members each call's result has

pub size_empty : size set.empty ≡ 0
size_empty = set.len-empty nat_cmp

pub size_insert : (s : Vertices) (k : ℕ) → size (set.insert s k) ≡ cond (set.contains s k) (size s) (size s + 1)
size_insert s k = set.len-insert nat_cmp_total s k

pub size_remove_cases : (s : Vertices) (k : ℕ) → size (set.remove s k) ≡ cond (set.contains s k) (size s - 1) (size s)
size_remove_cases = set.len-remove nat_cmp_total

-- ---- members

pub in_insert_same : (s : Vertices) (k : ℕ) → k ∈ set.insert s k
in_insert_same s k = grind (arith, membership)

pub in_insert : (s : Vertices) (k q : ℕ) → q ∈ s → q ∈ set.insert s k
in_insert s k q h = grind (arith, membership)

pub insert_cases : (s : Vertices) (k q : ℕ) → q ∈ set.insert s k → (q ≡ k) ⊎ (q ∈ s)
insert_cases s k q h = grind (arith, membership)

pub insert_old : (s : Vertices) (k : ℕ) → k ∈ s → set.insert s k ≡ s
insert_old s k h = same _ _ (λ q. grind (arith, membership))

pub in_removed : (s : Vertices) (k q : ℕ) → q ∈ set.remove s k → q ∈ s
in_removed s k q h = grind (arith, membership)

pub either_two : (s t : Vertices) (q : ℕ) → q ∈ set.union s t → (q ∈ s) ⊎ (q ∈ t)
either_two s t q h = grind (arith, membership)

-- the members of a union and one more vertex, as after Work
pub worked_cases : (s t : Vertices) (k q : ℕ) → q ∈ set.insert (set.union s t) k → (q ≡ k) ⊎ ((q ∈ s) ⊎ (q ∈ t))
worked_cases s t k q h = grind (arith, membership)

pub in_both : (s t : Vertices) (q : ℕ) → q ∈ s → q ∈ t → q ∈ set.intersection s t
in_both s t q a b = grind (arith, membership)

both_first : (s t : Vertices) (q : ℕ) → q ∈ set.intersection s t → q ∈ s
both_first s t q h = grind (arith, membership)

both_second : (s t : Vertices) (q : ℕ) → q ∈ set.intersection s t → q ∈ t
both_second s t q h = grind (arith, membership)

pub difference_first : (s t : Vertices) (q : ℕ) → q ∈ set.difference s t → q ∈ s
difference_first s t q h = grind (arith, membership)

pub difference_second : (s t : Vertices) (q : ℕ) → q ∈ set.difference s t → q ∉ t
difference_second s t q h = grind (arith, membership)

pub both_parts : (s t : Vertices) (q : ℕ) → q ∈ set.intersection s t → (q ∈ s) × (q ∈ t)
both_parts s t q h = (both_first s t q h, both_second s t q h)

pub left_parts : (s t : Vertices) (q : ℕ) → q ∈ set.difference s t → (q ∈ s) × (q ∉ t)
left_parts s t q h = (difference_first s t q h, difference_second s t q h)

pub in_difference : (s t : Vertices) (q : ℕ) → q ∈ s → q ∉ t → q ∈ set.difference s t
in_difference s t q a b = grind (arith, membership)

-- a vertex that cannot be in t as well as in s is outside t
pub outside_of : (s t : Vertices) (q : ℕ) → (q ∈ t → q ∈ s → ⊥) → q ∈ s → q ∉ t
outside_of s t q apart h = elim (cases_Bool (set.contains t q)) as (λ _. q ∉ t) [
  | inl is ↦ absurd (apart is h)
  | inr out ↦ out
]

union_insert : (s t : Vertices) (k : ℕ) → set.union s (set.insert t k) ≡ set.insert (set.union s t) k
union_insert s t k = same _ _ (λ q. grind (arith, membership))

pub union_empty : (s : Vertices) → set.union s set.empty ≡ s
union_empty s = same _ _ (λ q. grind (arith, membership))

from_items : (s : Vertices) → set.from_list (set.items s) ≡ s
from_items s = same _ _ (λ q. set.contains-from_list nat_cmp_total (set.items s) q ∙ sym (set.contains-items s q))

-- ---- induction, a member at a time

abbrev pub set_of : List ℕ → Vertices
set_of ks = set.from_list {R = nat_cmp} ks

insert_by_case : (P : Vertices → Type 0) → ((s : Vertices) (k : ℕ) → k ∉ s → P s → P (set.insert s k)) → (s : Vertices) (k : ℕ) (b : Bool) → set.contains s k ≡ b → P s → P (set.insert s k)
insert_by_case P step s k true h before = subst P (sym (insert_old s k h)) before
insert_by_case P step s k false h before = step s k h before

by_list : (P : Vertices → Type 0) → P set.empty → ((s : Vertices) (k : ℕ) → k ∉ s → P s → P (set.insert s k)) → (ks : List ℕ) → P (set_of ks)
by_list P base step [] = base
by_list P base step (k ∷ ks) = insert_by_case P step (set_of ks) k (set.contains (set_of ks) k) refl (by_list P base step ks)

pub by_insert : (P : Vertices → Type 0) → P set.empty → ((s : Vertices) (k : ℕ) → k ∉ s → P s → P (set.insert s k)) → (s : Vertices) → P s
by_insert P base step s = subst P (from_items s) (by_list P base step (set.items s))

pub size_insert_new : (s : Vertices) (k : ℕ) → k ∉ s → size (set.insert s k) ≡ size s + 1
size_insert_new s k h = grind (arith, size_insert)

pub size_insert_old : (s : Vertices) (k : ℕ) → k ∈ s → size (set.insert s k) ≡ size s
size_insert_old s k h = grind (arith, size_insert)

pub size_insert_le : (s : Vertices) (k : ℕ) → size (set.insert s k) ≤ size s + 1
size_insert_le s k = grind (arith, size_insert)

remove_insert : (s : Vertices) (k : ℕ) → k ∈ s → set.insert (set.remove s k) k ≡ s
remove_insert s k h = same _ _ (λ q. grind (arith, membership))

pub not_in_remove : (s : Vertices) (k : ℕ) → k ∉ set.remove s k
not_in_remove s k = grind (arith, membership)

pub size_remove : (s : Vertices) (k : ℕ) → k ∈ s → size s ≡ size (set.remove s k) + 1
size_remove s k h = sym (ap size (remove_insert s k h)) ∙ size_insert_new (set.remove s k) k (not_in_remove s k)

apart_before : (s t : Vertices) (k : ℕ) → IsOutside (set.insert t k) s → IsOutside t s
apart_before s t k apart v h = apart v (in_insert t k v h)

apart_last : (s t : Vertices) (k : ℕ) → k ∉ t → k ∉ s → k ∉ set.union s t
apart_last s t k a b = grind (arith, membership)

pub size_union_apart : (s t : Vertices) → IsOutside t s → size (set.union s t) ≡ size s + size t
size_union_apart s = by_insert (λ t. IsOutside t s → size (set.union s t) ≡ size s + size t)
    (λ _. grind (arith, size_empty, union_empty))
    (λ t k new before apart.
    let left = before (apart_before s t k apart) in
    let here = size_insert_new (set.union s t) k (apart_last s t k new (apart k (in_insert_same t k))) in
    let there = size_insert_new t k new in
    let join = ap size (union_insert s t k) in
    grind arith)

split : (s t : Vertices) → set.union (set.intersection s t) (set.difference s t) ≡ s
split s t = same _ _ (λ q. grind (arith, membership))

split_apart : (s t : Vertices) → IsOutside (set.difference s t) (set.intersection s t)
split_apart s t q h = grind (arith, membership)

pub size_split : (s t : Vertices) → size s ≡ size (set.intersection s t) + size (set.difference s t)
size_split s t = sym (ap size (split s t)) ∙ size_union_apart (set.intersection s t) (set.difference s t) (split_apart s t)

both_within : (s t : Vertices) → IsWithin s t → set.intersection t s ≡ s
both_within s t h = same _ _ (λ q. let inside = h q in grind (arith, membership))

pub size_within : (s t : Vertices) → IsWithin s t → size s ≤ size t
size_within s t h = let parts = size_split t s in let whole = ap size (both_within s t h) in grind arith

pub union_difference : (s t : Vertices) → set.union s (set.difference t s) ≡ set.union s t
union_difference s t = same _ _ (λ q. grind (arith, membership))

difference_apart : (s t : Vertices) → IsOutside (set.difference t s) s
difference_apart s t q h = grind (arith, membership)

pub size_union : (s t : Vertices) → size (set.union s t) ≡ size s + size (set.difference t s)
size_union s t = sym (ap size (union_difference s t)) ∙ size_union_apart s (set.difference t s) (difference_apart s t)

difference_within : (s t : Vertices) → IsWithin (set.difference t s) t
difference_within s t q h = grind (arith, membership)

pub size_union_le : (s t : Vertices) → size (set.union s t) ≤ size s + size t
size_union_le s t = let whole = size_union s t in let part = size_within _ _ (difference_within s t) in grind arith

-- ---- a member

pub some_member : (s : Vertices) → 0 < size s → (v : ℕ) × (v ∈ s)
some_member = by_insert (λ s. 0 < size s → (v : ℕ) × (v ∈ s))
    (λ h. absurd (let none = size_empty in grind arith))
    (λ s k new before h. (k, in_insert_same s k))

pub no_member : (s : Vertices) → size s ≡ 0 → s ≡ set.empty
no_member s h = set.empty_of_len s h

pub within_if_none : (s t : Vertices) → size (set.difference s t) ≡ 0 → IsWithin s t
within_if_none s t none q h = elim (cases_Bool (set.contains t q)) as (λ _. q ∈ t) [
  | inl is ↦ is
  | inr out ↦ absurd (
      let at = ap (λ d. set.contains d q) (no_member (set.difference s t) none) in
      let left = in_difference s t q h out in
      grind (arith, membership))
]

-- the larger of two sets has a member that the other lacks
pub member_outside : (s t : Vertices) → size s < size t → (v : ℕ) × (v ∈ t) × (v ∉ s)
member_outside s t h =
    let parts = size_split t s in
    let part = size_within (set.intersection t s) s (λ q i. both_second t s q i) in
    let rest : 0 < size (set.difference t s) = grind arith in
    let m = some_member (set.difference t s) rest in
    (m.0, difference_first t s m.0 m.1, difference_second t s m.0 m.1)

-- a set with a member is not empty
pub size_of_member : (s : Vertices) (v : ℕ) → v ∈ s → 0 < size s
size_of_member s v e = elim (size s) as (λ n. size s ≡ n → 0 < n) [
  | zero ↦ λ z. absurd (let at = ap (λ d. set.contains d v) (set.empty_of_len s z) in grind (arith, membership))
  | suc n ↦ λ _. omega arith
] refl

-- the members of both sets are counted once in the union and once in the intersection
pub size_union_both : (s t : Vertices) → size (set.union s t) + size (set.intersection s t) ≡ size s + size t
size_union_both s t =
    let turned : set.intersection s t ≡ set.intersection t s = same _ _ (λ q. grind (arith, membership)) in
    omega (arith, size_union s t, size_split t s, ap size turned)

pub size_difference : (s t : Vertices) → size (set.difference s t) + size (set.intersection s t) ≡ size s
size_difference s t = omega (arith, size_split s t)

pub size_rest : (s t : Vertices) → IsWithin s t → size (set.difference t s) + size s ≡ size t
size_rest s t h = omega (arith, size_split t s, ap size (both_within s t h))

-- what the calls' results count, for `grind (arith, sizes)`
pub ruleset sizes = (size_empty, size_insert, size_remove_cases, size_union_both, size_difference)

-- a subset that is as large is the whole set
pub same_from_size : (s t : Vertices) → IsWithin s t → size t ≤ size s → s ≡ t
same_from_size s t in_t large =
    let none : set.difference t s ≡ set.empty = set.empty_of_len (set.difference t s) (omega (arith, size_rest s t in_t)) in
    same s t (λ v.
    let at = in_t v in
    let out = ap (λ d. set.contains d v) none in
    grind (arith, membership))

-- ---- the numbers below n that pass a test

pub size_set_below : (p : ℕ → Bool) (n : ℕ) → size (set_below p n) ≡ count_below p n
unfolding set_below count_below
size_set_below p zero = size_empty
size_set_below p (suc n) =
    elim (p n) as (λ b. size (cond b (set.insert (set_below p n) n) (set_below p n)) ≡ cond b 1 0 + count_below p n) [
      | true ↦
          let fresh : n ∉ set_below p n = has_set_below p n n ∙ and_left (ltb n n) (p n) (le-ltb n n (omega arith)) in
          omega (arith, size_insert_new (set_below p n) n fresh, size_set_below p n)
      | false ↦ omega (arith, size_set_below p n)
    ]

pub in_set_below : (n : ℕ) (test : ℕ → Bool) (q : ℕ) → q < n → test q ≡ true → q ∈ set_below test n
in_set_below n test q l h = has_set_below test n q ∙ and_from (ltb q n) (test q) (true_ltb q n l) h
  where
    true_ltb : (q n : ℕ) → q < n → ltb q n ≡ true
    true_ltb q n l = grind arith

-- a member is below n, and passes the test
pub set_below_parts : (n : ℕ) (test : ℕ → Bool) (q : ℕ) → q ∈ set_below test n → (q < n) × (test q ≡ true)
set_below_parts n test q h = let both = and_parts (ltb q n) (test q) (sym (has_set_below test n q) ∙ h) in (ltb-true q n both.0, both.1)

-- a number below n outside the set fails the test
pub not_set_below : (n : ℕ) (test : ℕ → Bool) (q : ℕ) → q < n → q ∉ set_below test n → test q ≡ false
not_set_below n test q l h = elim (cases_Bool (test q)) as (λ _. test q ≡ false) [
  | inl is ↦ absurd (let has = in_set_below n test q l is in grind arith)
  | inr fails ↦ fails
]

pub AllBelow-set_below : (p : ℕ → Bool) (n : ℕ) → AllBelow n (set_below p n)
AllBelow-set_below p n = record { below = λ v e. ltb-true v n (and_parts (ltb v n) (p v) (sym (has_set_below p n v) ∙ e)).0 }

-- a set of numbers below n is counted number by number
pub set_below-contains : (n : ℕ) (s : Vertices) → AllBelow n s → set_below (set.contains s) n ≡ s
set_below-contains n s all = same _ _ (λ v. let at = all.below v in has_set_below (set.contains s) n v ∙ grind (arith, membership))

pub size_by_count : (n : ℕ) (s : Vertices) → AllBelow n s → size s ≡ count_below (set.contains s) n
size_by_count n s all = ap size (sym (set_below-contains n s all)) ∙ size_set_below (set.contains s) n

pub count_below_le : (p : ℕ → Bool) (n : ℕ) → count_below p n ≤ n
unfolding count_below
count_below_le p zero = omega arith
count_below_le p (suc n) = let rest = count_below_le p n in elim (p n) as (λ b. cond b 1 0 + count_below p n ≤ suc n) [ true ↦ omega (arith, rest) | false ↦ omega (arith, rest) ]

pub count_below-same : (p q : ℕ → Bool) (n : ℕ) → ((i : ℕ) → i < n → p i ≡ q i) → count_below p n ≡ count_below q n
unfolding count_below
count_below-same p q zero alike = refl
count_below-same p q (suc n) alike = λ i. cond (alike n (omega arith) i) 1 0 + count_below-same p q n (λ j h. alike j (omega arith)) i

pub count_below-add : (p : ℕ → Bool) (a b : ℕ) → count_below p (a + b) ≡ count_below p a + count_below (λ i. p (a + i)) b
unfolding count_below
count_below-add p a zero = rw add-zero (sym (add-zero _))
count_below-add p a (suc b) = rw add-suc (let rest = count_below-add p a b in omega (arith, rest))

-- the place of v among the members of s is the number of members below v: it grows by 1 behind a member, and not else
pub count_below-in : (s : Vertices) (v : ℕ) → v ∈ s → count_below (set.contains s) (suc v) ≡ count_below (set.contains s) v + 1
unfolding count_below
count_below-in s v h = let e = ap (λ b. cond b 1 0 + count_below (set.contains s) v) h in omega arith

pub count_below-out : (s : Vertices) (v : ℕ) → v ∉ s → count_below (set.contains s) (suc v) ≡ count_below (set.contains s) v
unfolding count_below
count_below-out s v h = let e = ap (λ b. cond b 1 0 + count_below (set.contains s) v) h in omega arith

pub count_below-grows : (s : Vertices) (v : ℕ) → count_below (set.contains s) v ≤ count_below (set.contains s) (suc v)
count_below-grows s v = elim (cases_Bool (set.contains s v)) [
  | inl h ↦ let e = count_below-in s v h in omega arith
  | inr h ↦ let e = count_below-out s v h in omega arith
]

-- so a member comes before each greater number
pub count_below-less : (s : Vertices) (v w : ℕ) → v ∈ s → v < w → count_below (set.contains s) v < count_below (set.contains s) w
count_below-less s v zero h less = absurd (omega arith)
count_below-less s v (suc w) h less = elim (cases_lt v w) [
  | inl lower ↦ let before = count_below-less s v w h lower in let grows = count_below-grows s w in omega arith
  | inr last ↦ let e : v ≡ w = omega arith in let here = count_below-in s v h in let at = ap (λ k. count_below (set.contains s) (suc k)) e in omega arith
]

-- a set of numbers below n has at most n members
pub size_le_below : (n : ℕ) (s : Vertices) → AllBelow n s → size s ≤ n
size_le_below n s all = omega (arith, size_by_count n s all, count_below_le (set.contains s) n)
