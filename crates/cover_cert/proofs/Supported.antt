-- Rows with names and a cost have a support.
use Rattle.std.proofs.Common.{◌≡◌, ℕ, zero, suc, ◌+◌, ◌≤◌, min, Bool, true, false, not, ◌&&◌, nat_eq, List, [], ◌∷◌, cond, ◌⊎◌, inl, inr, refl, sym, ◌∙◌, subst, arith}
use Rattle.std.specs.Prelude.{flat_map}
use Rattle.comp_graph.specs.Games.{PebbleGame}
use Rattle.comp_graph.proofs.DagLaws.{both, and-true}
use Rattle.pebble_rules.specs.Rules.{start}
use Rattle.pebble_rules.specs.declared.position.Position.{Position}
use Rattle.pebble_rules.proofs.Possible.{not_member}
use Rattle.normal_steps.specs.Steps.{stepped}
use Rattle.normal_steps.specs.StepTests.{legal_steps}
use Rattle.normal_steps.specs.declared.step.Step.{Step}
use Rattle.comp_graph.specs.Lists.{IsIn}
use Rattle.forced_bounds.specs.Floor.{floor}
use Rattle.forced_bounds.proofs.Paths.{not_true, true_not}
use Rattle.search_laws.specs.Steps.{same_position}
use Rattle.search_laws.proofs.Lists.{any_in, in_any, in_left, in_right, append_cases}
use Rattle.search_laws.proofs.Tests.{same_position_true, true_same_position}
use Rattle.potential_cert.specs.declared.tables.Row.{Row}
use Rattle.potential_cert.specs.Places.{IsAt}
use Rattle.potential_cert.specs.Table.{HasRow, offer}
use Rattle.cover_cert.specs.declared.tables.Cover.{Cover}
use Rattle.cover_cert.specs.CoverTable.{CoverRowParts, IsNamed, plain, plain_rows}
use Rattle.cover_cert.specs.CoverSupport.{is_named_at, is_no_row_of, unnamed_offers, least_of, least_without_offers, cover_support, CoverSupportIsFound}

-- ---- the least

min_cases : (a b : ℕ) → ((min a b ≡ a) × (a ≤ b)) ⊎ ((min a b ≡ b) × (b ≤ a))
min_cases a b = grind arith

least_met : (n : ℕ) (ms : List ℕ) → (least_of n ms ≡ n) ⊎ IsIn (least_of n ms) ms
least_met n [] = inl refl
least_met n (m ∷ ms) = elim (min_cases m (least_of n ms)) [
  | inl first ↦ inr (inl first.0)
  | inr rest ↦ elim (least_met n ms) [ inl e ↦ inl (rest.0 ∙ e) | inr i ↦ inr (inr (subst (λ x. IsIn x ms) (sym rest.0) i)) ]
]

least_below : (n : ℕ) (ms : List ℕ) → least_of n ms ≤ n
least_below n [] = omega arith
least_below n (m ∷ ms) = let rest = least_below n ms in omega arith

least_within : (n x : ℕ) (ms : List ℕ) → IsIn x ms → least_of n ms ≤ x
least_within n x [] i = absurd i
least_within n x (m ∷ ms) (inl e) = omega arith
least_within n x (m ∷ ms) (inr i) = let rest = least_within n x ms i in omega arith

in_flat : {X Y : Type 0} → (f : X → List Y) (x : X) (y : Y) (xs : List X) → IsIn x xs → IsIn y (f x) → IsIn y (flat_map f xs)
in_flat f x y [] i j = absurd i
in_flat f x y (z ∷ xs) (inl e) j = in_left y (f z) (flat_map f xs) (subst (λ x. IsIn y (f x)) e j)
in_flat f x y (z ∷ xs) (inr i) j = in_right y (f z) (flat_map f xs) (in_flat f x y xs i j)

flat_in : {X Y : Type 0} → (f : X → List Y) (y : Y) (xs : List X) → IsIn y (flat_map f xs) → (x : X) × IsIn x xs × IsIn y (f x)
flat_in f y [] i = absurd i
flat_in f y (z ∷ xs) i = elim (append_cases y (f z) (flat_map f xs) i) [
  | inl here ↦ (z, inl refl, here)
  | inr later ↦ let x = flat_in f y xs later in (x.0, inr x.1, x.2)
]

-- ---- the tests

equal_true : (a b : ℕ) → nat_eq a b ≡ true → a ≡ b
equal_true a b h = grind arith

true_equal : (a b : ℕ) → a ≡ b → nat_eq a b ≡ true
true_equal a b e = grind arith

unnamed_true : (names : List Cover) (k : ℕ) → not (is_named_at names k) ≡ true → IsNamed names k → ⊥
unnamed_true names k h named =
    let some = in_any (λ n. nat_eq n.step k) named.0 names named.1 (true_equal named.0.step k named.2) in
    let none = not_true _ h in
    grind arith

true_unnamed : (names : List Cover) (k : ℕ) → (IsNamed names k → ⊥) → not (is_named_at names k) ≡ true
true_unnamed names k none = true_not _ (not_member _ (λ some. let n = any_in (λ n. nat_eq n.step k) names some in none (n.0, n.1, equal_true n.0.step k n.2)))

no_row_true : (rows : List Row) (q : Position) → is_no_row_of rows q ≡ true → HasRow rows q → ⊥
no_row_true rows q h has =
    let some = in_any (λ r. same_position r.position q) has.0 rows has.1 (true_same_position has.0.position q has.2) in
    let none = not_true _ h in
    grind arith

true_no_row : (rows : List Row) (q : Position) → (HasRow rows q → ⊥) → is_no_row_of rows q ≡ true
true_no_row rows q h = true_not _ (not_member _ (λ some. let r = any_in (λ r. same_position r.position q) rows some in h (r.0, r.1, same_position_true r.0.position q r.2)))

-- ---- the offers of a row

-- an offer of the steps from place k on
abbrev FromStep : PebbleGame → List CoverRowParts → CoverRowParts → ℕ → List Step → ℕ → Type 0
FromStep g rows r k ss n =
    (i : ℕ) × (j : ℕ) × (s : Step) × (i ≡ k + j) × IsAt s j ss × (IsNamed r.names i → ⊥) × (HasRow (plain_rows rows) (stepped g r.position s) → ⊥) × (n ≡ offer g (plain r) s)

later : (g : PebbleGame) (rows : List CoverRowParts) (r : CoverRowParts) (k : ℕ) (s : Step) (ss : List Step) (n : ℕ) → FromStep g rows r (suc k) ss n → FromStep g rows r k (s ∷ ss) n
later g rows r k s ss n is = (is.0, suc is.1, is.2, (let same = is.3 in omega arith), is.4, is.5, is.6, is.7)

from_offers_by : (g : PebbleGame) (rows : List CoverRowParts) (r : CoverRowParts) (k : ℕ) (s : Step) (ss : List Step) (n : ℕ) (b : Bool) → (not (is_named_at r.names k) && is_no_row_of (plain_rows rows) (stepped g r.position s)) ≡ b
    → (IsIn n (unnamed_offers g rows r (suc k) ss) → FromStep g rows r (suc k) ss n) → IsIn n (cond b (offer g (plain r) s ∷ unnamed_offers g rows r (suc k) ss) (unnamed_offers g rows r (suc k) ss)) → FromStep g rows r k (s ∷ ss) n
from_offers_by g rows r k s ss n true h rest (inl e) =
    let parts = both (not (is_named_at r.names k)) (is_no_row_of (plain_rows rows) (stepped g r.position s)) h in
    (k, zero, s, omega arith, refl, unnamed_true r.names k parts.0, no_row_true (plain_rows rows) (stepped g r.position s) parts.1, e)
from_offers_by g rows r k s ss n true h rest (inr i) = later g rows r k s ss n (rest i)
from_offers_by g rows r k s ss n false h rest i = later g rows r k s ss n (rest i)

from_offers : (g : PebbleGame) (rows : List CoverRowParts) (r : CoverRowParts) (k : ℕ) (ss : List Step) (n : ℕ) → IsIn n (unnamed_offers g rows r k ss) → FromStep g rows r k ss n
from_offers g rows r k [] n i = absurd i
from_offers g rows r k (s ∷ ss) n i =
    from_offers_by g rows r k s ss n (not (is_named_at r.names k) && is_no_row_of (plain_rows rows) (stepped g r.position s)) refl (λ i. from_offers g rows r (suc k) ss n i) i

in_offers_by : (x : ℕ) (xs : List ℕ) (b : Bool) (n : ℕ) → IsIn n xs → IsIn n (cond b (x ∷ xs) xs)
in_offers_by x xs true n i = inr i
in_offers_by x xs false n i = i

first_offer : (x : ℕ) (xs : List ℕ) (b : Bool) → b ≡ true → IsIn x (cond b (x ∷ xs) xs)
first_offer x xs true h = inl refl
first_offer x xs false h = absurd (grind arith)

in_offers : (g : PebbleGame) (rows : List CoverRowParts) (r : CoverRowParts) (k : ℕ) (ss : List Step) (i j : ℕ) (s : Step) → i ≡ k + j → IsAt s j ss → (IsNamed r.names i → ⊥) → (HasRow (plain_rows rows) (stepped g r.position s) → ⊥)
    → IsIn (offer g (plain r) s) (unnamed_offers g rows r k ss)
in_offers g rows r k [] i j s e at none leaves = absurd at
in_offers g rows r k (x ∷ ss) i zero s e at none leaves =
    let here : i ≡ k = omega arith in
    let unnamed = true_unnamed r.names k (subst (λ i. IsNamed r.names i → ⊥) here none) in
    subst (λ s. IsIn (offer g (plain r) s) (unnamed_offers g rows r k (x ∷ ss))) (sym at)
    (first_offer (offer g (plain r) x) (unnamed_offers g rows r (suc k) ss) _ (and-true _ _ unnamed (subst (λ s. is_no_row_of (plain_rows rows) (stepped g r.position s) ≡ true) at (true_no_row (plain_rows rows) (stepped g r.position s) leaves))))
in_offers g rows r k (x ∷ ss) i (suc j) s e at none leaves =
    in_offers_by (offer g (plain r) x) (unnamed_offers g rows r (suc k) ss) (not (is_named_at r.names k) && is_no_row_of (plain_rows rows) (stepped g r.position x)) (offer g (plain r) s)
    (in_offers g rows r (suc k) ss i j s (omega arith) at none leaves)

-- ---- the support

base_cases : (g : PebbleGame) (rows : List CoverRowParts) (cost : ℕ) → (least_without_offers g rows cost ≤ cost) × (rows ≡ [] → least_without_offers g rows cost ≤ floor g (start g))
    × ((least_without_offers g rows cost ≡ cost) ⊎ ((rows ≡ []) × (least_without_offers g rows cost ≡ floor g (start g))))
base_cases g [] cost = (omega arith, λ _. omega arith, elim (min_cases cost (floor g (start g))) [ inl a ↦ inl a.0 | inr b ↦ inr (refl, b.0) ])
base_cases g (r ∷ rs) cost = (omega arith, λ e. absurd (subst (λ rows. IsIn r rows) e (inl refl)), inl refl)

abbrev offers_of : PebbleGame → List CoverRowParts → CoverRowParts → List ℕ
offers_of g rows r = unnamed_offers g rows r 0 (legal_steps g r.position)

pub cover_support_is_found : CoverSupportIsFound
unfolding cover_support
cover_support_is_found g rows cost =
    let base = base_cases g rows cost in
    let all : List ℕ = flat_map (offers_of g rows) rows in
    let most = least_below (least_without_offers g rows cost) all in
    record {
      within_cost = let few = base.0 in omega arith;
      within_floor = λ e. let few = base.1 e in omega arith;
      within_offers = λ n o.
          let leaving = o.3 in
          let i = in_flat (offers_of g rows) o.0 (offer g (plain o.0) o.2) rows leaving.row
          (in_offers g rows o.0 0 (legal_steps g o.0.position) o.1 o.1 o.2 (omega arith) leaving.at leaving.no_name leaving.leaves) in
          let least = least_within (least_without_offers g rows cost) (offer g (plain o.0) o.2) all i in
          let same = o.4 in
          omega arith;
      is_met = elim (least_met (least_without_offers g rows cost) all) [
        | inl e ↦ elim base.2 [ inl a ↦ inl (e ∙ a) | inr b ↦ inr (inl (b.0, e ∙ b.1)) ]
        | inr i ↦
            let r = flat_in (offers_of g rows) (least_of (least_without_offers g rows cost) all) rows i in
            let s = from_offers g rows r.0 0 (legal_steps g r.0.position) (least_of (least_without_offers g rows cost) all) r.2 in
            let place : s.1 ≡ s.0 = (let same = s.3 in omega arith) in
            inr (inr (r.0, s.0, s.2, record { row = r.1; at = subst (λ k. IsAt s.2 k (legal_steps g r.0.position)) place s.4; no_name = s.5; leaves = s.6 }, s.7))
      ];
    }
