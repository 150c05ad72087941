-- The rows of a covered table, from rows in order and names.
use Rattle.std.proofs.Common.{◌≡◌, ℕ, zero, suc, ◌+◌, ◌≤◌, Bool, true, false, List, [], ◌∷◌, map, length, cond, ◌⊎◌, inl, inr, refl, sym, ap, ◌∙◌, subst, arith}
use Rattle.pebble_rules.specs.declared.position.Position.{Position}
use Rattle.comp_graph.specs.Lists.{IsIn}
use Rattle.potential_cert.specs.declared.tables.Row.{Row}
use Rattle.potential_cert.specs.Table.{AreDistinct}
use Rattle.search_laws.specs.Steps.{same_position}
use Rattle.search_laws.proofs.Tests.{same_position_true, true_same_position}
use Rattle.potential_cert.specs.Places.{IsAt}
use Rattle.cover_cert.specs.CoverTable.{plain_rows}
use Rattle.cover_cert.specs.CoverSearch.{Naming, number_of, with_names}

-- ---- distinct rows

pub one_row : (rows : List Row) → AreDistinct rows → (r q : Row) → IsIn r rows → IsIn q rows → r.position ≡ q.position → r ≡ q
one_row [] distinct r q i j same = absurd i
one_row (x ∷ rs) distinct r q (inl a) (inl b) same = a ∙ sym b
one_row (x ∷ rs) distinct r q (inl a) (inr j) same = absurd (distinct.0 q j (sym same ∙ ap (λ x. x.position) a))
one_row (x ∷ rs) distinct r q (inr i) (inl b) same = absurd (distinct.0 r i (same ∙ ap (λ x. x.position) b))
one_row (x ∷ rs) distinct r q (inr i) (inr j) same = one_row rs distinct.1 r q i j same

record IsWithout (r : Row) (rows : List Row) : Type 0 where
  rest : List Row
  shorter : length rows ≡ length rest + 1
  others : (x : Row) → IsIn x rows → (x ≡ r) ⊎ IsIn x rest

without_one : (r : Row) (rows : List Row) → IsIn r rows → IsWithout r rows
without_one r [] i = absurd i
without_one r (q ∷ rows) (inl e) = record { rest = rows; shorter = omega arith; others = λ x i. others x i }
  where
    others : (x : Row) → (x ≡ q) ⊎ IsIn x rows → (x ≡ r) ⊎ IsIn x rows
    others x (inl same) = inl (same ∙ sym e)
    others x (inr i) = inr i
without_one r (q ∷ rows) (inr i) =
    let rest = without_one r rows i in
    record { rest = q ∷ rest.rest; shorter = let shorter = rest.shorter in omega arith; others = λ x j. others x j rest.rest rest.others }
  where
    others : (x : Row) → (x ≡ q) ⊎ IsIn x rows → (left : List Row) → ((x : Row) → IsIn x rows → (x ≡ r) ⊎ IsIn x left) → (x ≡ r) ⊎ IsIn x (q ∷ left)
    others x (inl same) left rest = inr (inl same)
    others x (inr j) left rest = elim (rest x j) [ inl e ↦ inl e | inr k ↦ inr (inr k) ]

-- distinct rows that are all among others are no more than these
pub length_within : (rows others : List Row) → AreDistinct rows → ((r : Row) → IsIn r rows → IsIn r others) → length rows ≤ length others
length_within [] others distinct within = omega arith
length_within (r ∷ rows) others distinct within =
    let left = without_one r others (within r (inl refl)) in
    let few = length_within rows left.rest distinct.1 (λ x i. rest_in x i left.rest left.others) in
    let shorter = left.shorter in
    omega arith
  where
    rest_in : (x : Row) → IsIn x rows → (left : List Row) → ((x : Row) → IsIn x others → (x ≡ r) ⊎ IsIn x left) → IsIn x left
    rest_in x i left cases = elim (cases x (within x (inr i))) [ inl e ↦ absurd (distinct.0 x i (ap (λ r. r.position) e)) | inr j ↦ j ]

-- ---- rows with names

pub same_length : {X Y : Type 0} → (f : X → Y) (xs : List X) → length (map f xs) ≡ length xs
same_length f [] = refl
same_length f (x ∷ xs) = ap suc (same_length f xs)

pub none_mapped : {X Y : Type 0} → (f : X → Y) (xs : List X) → map f xs ≡ [] → xs ≡ []
none_mapped f [] e = refl
none_mapped f (x ∷ xs) e = absurd (subst (λ ys. IsIn (f x) ys) e (inl refl))

pub at_map : {X Y : Type 0} → (f : X → Y) (x : X) (k : ℕ) (xs : List X) → IsAt x k xs → IsAt (f x) k (map f xs)
at_map f x k [] h = absurd h
at_map f x zero (y ∷ ys) h = ap f h
at_map f x (suc k) (y ∷ ys) h = at_map f x k ys h

pub plain_full : (rows : List Row) (names : List Naming) (rs : List Row) → plain_rows (map (with_names rows names) rs) ≡ rs
plain_full rows names [] = refl
plain_full rows names (r ∷ rs) = ap (λ rs. r ∷ rs) (plain_full rows names rs)

number_by : (r : Row) (rs : List Row) (p : Position) (b : Bool) → same_position r.position p ≡ b → (x : Row) → (x ≡ r) ⊎ IsIn x rs → x.position ≡ p
    → (IsIn x rs → (y : Row) × IsAt y (number_of rs p) rs × (y.position ≡ p)) → (y : Row) × IsAt y (cond b 0 (suc (number_of rs p))) (r ∷ rs) × (y.position ≡ p)
number_by r rs p true h x i e before = (r, refl, same_position_true r.position p h)
number_by r rs p false h x (inl same) e before =
    absurd (let is = true_same_position r.position p (ap (λ r. r.position) (sym same) ∙ e) in grind arith)
number_by r rs p false h x (inr i) e before = before i

-- at the number of a position stands a row of this position
pub number_at : (rows : List Row) (x : Row) → IsIn x rows → (p : Position) → x.position ≡ p → (y : Row) × IsAt y (number_of rows p) rows × (y.position ≡ p)
number_at [] x i p e = absurd i
number_at (r ∷ rs) x i p e = number_by r rs p (same_position r.position p) refl x i e (λ j. number_at rs x j p e)
