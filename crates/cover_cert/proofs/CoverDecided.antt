-- Each covered table is one of the game or is refused: each of its conditions holds or fails.
use Rattle.std.proofs.Common.{◌≡◌, ◌⊎◌, ℕ, zero, suc, ◌+◌, ◌≤◌, ◌<◌, List, [], ◌∷◌, length, inl, inr, refl, sym, subst, arith}
use Rattle.std.proofs.lemmas.Bool.{cases_eq, cases_lt}
use Rattle.comp_graph.specs.Dags.{IsDag}
use Rattle.comp_graph.specs.Games.{PebbleGame}
use Rattle.pebble_rules.specs.declared.position.Position.{Position as Place}
use Rattle.pebble_rules.specs.Rules.{start}
use Rattle.normal_steps.specs.declared.step.Step.{Step as NormalStep}
use Rattle.normal_steps.specs.declared.step.Step.TheVariants.{Work, Drop, Spill}
use Rattle.normal_steps.specs.Sound.{IsSound}
use Rattle.normal_steps.specs.Steps.{step_cost, stepped}
use Rattle.normal_steps.specs.StepTests.{legal_steps}
use Rattle.forced_bounds.specs.Floor.{floor}
use Rattle.comp_graph.specs.Lists.{IsIn}
use Rattle.potential_cert.specs.Places.{IsAt}
use Rattle.potential_cert.specs.Table.{offer, FinishHolds}
use Rattle.potential_cert.proofs.Places.{at_one}
use Rattle.cert_checker.specs.declared.refusal.Reason.TheVariants as reasons
use Rattle.cert_checker.proofs.Decided.{Decided, at_most, both, by_test, either, finish_holds, first_or_each, rise_or_fall, row_within, sound}
use Rattle.cover_cert.specs.declared.tables.Cover.{Cover}
use Rattle.cover_cert.specs.Covers.{Covers, is_covered_by}
use Rattle.cover_cert.specs.CoverTable.{CanBeNamed, CoverRowParts, CoverTableParts, IsCoveredBy, IsNamed, NamesHold, PlacesRise, StartHolds, StepHolds, StepsHold, plain, plain_rows}
use Rattle.cover_cert.specs.Refusals.{CoverTableIsJudged, CoverTableOrRefusal, Passes, PassesBefore}
use Rattle.cover_cert.proofs.Checked.{before_cover, before_finish, before_order, before_position, before_start, before_step, passes_all}
use Rattle.cover_cert.proofs.Covered.{covers_is_tested}

-- ---- lists

less : (a b : ℕ) → Decided (a < b)
less a b = elim (cases_lt a b) [ inl is ↦ inl is | inr not ↦ inr (λ is. omega (arith, not, is)) ]

-- some member has P, or none has
some_or_none : {X : Type 0} → (P : X → Type 0) → ((x : X) → Decided (P x)) → (xs : List X) → Decided ((x : X) × IsIn x xs × P x)
some_or_none P decided [] = inr (λ h. h.1)
some_or_none {X} P decided (x ∷ xs) = elim (decided x) [
  | inl here ↦ inl (x, inl refl, here)
  | inr not ↦ elim (some_or_none P decided xs) [ inl other ↦ inl (other.0, inr other.1, other.2) | inr none ↦ inr (λ h. neither not none h.0 h.1 h.2) ]
]
  where
    neither : (P x → ⊥) → ((y : X) × IsIn y xs × P y → ⊥) → (y : X) → IsIn y (x ∷ xs) → P y → ⊥
    neither not none y (inl e) is = not (subst P e is)
    neither not none y (inr i) is = none (y, i, is)

-- each member has P, or not
each_or_not : {X : Type 0} → (P : X → Type 0) → ((x : X) → Decided (P x)) → (xs : List X) → Decided ((x : X) → IsIn x xs → P x)
each_or_not P decided [] = inl (λ x i. absurd i)
each_or_not {X} P decided (x ∷ xs) = elim (decided x) [
  | inr not ↦ inr (λ all. not (all x (inl refl)))
  | inl here ↦ elim (each_or_not P decided xs) [ inl rest ↦ inl (all here rest) | inr other ↦ inr (λ every. other (λ y i. every y (inr i))) ]
]
  where
    all : P x → ((y : X) → IsIn y xs → P y) → (y : X) → IsIn y (x ∷ xs) → P y
    all here rest y (inl e) = subst P (sym e) here
    all here rest y (inr i) = rest y i

-- so with its place
each_at_or_not : {X : Type 0} → (P : ℕ → X → Type 0) → ((k : ℕ) (x : X) → Decided (P k x)) → (xs : List X) → Decided ((k : ℕ) (x : X) → IsAt x k xs → P k x)
each_at_or_not P decided [] = inl (λ k x at. absurd at)
each_at_or_not {X} P decided (x ∷ xs) = elim (decided zero x) [
  | inr not ↦ inr (λ all. not (all zero x refl))
  | inl here ↦ elim (each_at_or_not (λ k. P (suc k)) (λ k. decided (suc k)) xs) [ inl rest ↦ inl (all here rest) | inr other ↦ inr (λ every. other (λ k y at. every (suc k) y at)) ]
]
  where
    all : P zero x → ((k : ℕ) (y : X) → IsAt y k xs → P (suc k) y) → (k : ℕ) (y : X) → IsAt y k (x ∷ xs) → P k y
    all here rest zero y at = subst (P zero) (sym at) here
    all here rest (suc k) y at = rest k y at

-- a place has an element, or none
place_or_none : {X : Type 0} → (k : ℕ) (xs : List X) → ((x : X) × IsAt x k xs) ⊎ ((x : X) → IsAt x k xs → ⊥)
place_or_none k [] = inr (λ x at. at)
place_or_none zero (x ∷ xs) = inl (x, refl)
place_or_none (suc k) (x ∷ xs) = place_or_none k xs

-- ---- names

covers_or_not : (g : PebbleGame) → IsDag g.dag → (p q : Place) → Decided (Covers g p q)
covers_or_not g dag p q = let test = covers_is_tested g dag p q in by_test (is_covered_by g p q) test.0 test.1

can_be_named : (s : NormalStep) → Decided (CanBeNamed s)
can_be_named (Work v) = inl tt
can_be_named (Drop u) = inr (λ none. none)
can_be_named (Spill u) = inl tt

places_rise : (names : List Cover) → Decided (PlacesRise names)
places_rise [] = inl tt
places_rise (n ∷ ns) = both (each_or_not (λ (m : Cover). n.step < m.step) (λ m. less n.step m.step) ns) (places_rise ns)

-- the row with a number covers where a step leads, or there is no such row
covered_or_not : (g : PebbleGame) → IsDag g.dag → (rows : List CoverRowParts) (r : CoverRowParts) (s : NormalStep) (number : ℕ) → Decided (IsCoveredBy g rows r s number)
covered_or_not g dag rows r s number = elim (place_or_none number rows) [
  | inr none ↦ inr (λ is. none is.row is.at)
  | inl by ↦ elim (both (can_be_named s) (both (covers_or_not g dag by.0.position (stepped g r.position s)) (at_most by.0.cost (r.cost + step_cost g r.position s)))) [
    | inl h ↦ inl (record { can_be_named = h.0; row = by.0; at = by.1; covers = h.1.0; costs = h.1.1 })
    | inr not ↦ inr (λ is.
        let same = at_one is.row by.0 number rows is.at by.1 in
        not (is.can_be_named, (subst (λ (x : CoverRowParts). Covers g x.position (stepped g r.position s)) same is.covers, subst (λ (x : CoverRowParts). x.cost ≤ r.cost + step_cost g r.position s) same is.costs)))
  ]
]

-- a name is that of a step which the row named covers, or not
name_or_not : (g : PebbleGame) → IsDag g.dag → (rows : List CoverRowParts) (r : CoverRowParts) (n : Cover) → Decided ((s : NormalStep) → IsAt s n.step (legal_steps g r.position) → IsCoveredBy g rows r s n.row)
name_or_not g dag rows r n = elim (place_or_none n.step (legal_steps g r.position)) [
  | inr none ↦ inl (λ s at. absurd (none s at))
  | inl here ↦ elim (covered_or_not g dag rows r here.0 n.row) [
    | inl is ↦ inl (λ s at. subst (λ x. IsCoveredBy g rows r x n.row) (at_one here.0 s n.step (legal_steps g r.position) here.1 at) is)
    | inr not ↦ inr (λ all. not (all here.0 here.1))
  ]
]

names_hold : (g : PebbleGame) → IsDag g.dag → (rows : List CoverRowParts) (r : CoverRowParts) → Decided (NamesHold g rows r)
names_hold g dag rows r =
    let below = each_or_not (λ (n : Cover). n.step < length (legal_steps g r.position)) (λ n. less n.step (length (legal_steps g r.position))) r.names in
    let covered = each_or_not (λ (n : Cover). (s : NormalStep) → IsAt s n.step (legal_steps g r.position) → IsCoveredBy g rows r s n.row) (name_or_not g dag rows r) r.names in
    elim (both (places_rise r.names) (both below covered)) [
      | inl h ↦ inl (record { rise = h.0; below = h.1.0; covered = h.1.1 })
      | inr not ↦ inr (λ is. not (is.rise, (is.below, is.covered)))
    ]

-- ---- rows

start_holds : (g : PebbleGame) (rows : List CoverRowParts) (bound : ℕ) → Decided (StartHolds g rows bound)
start_holds g rows bound = either (at_most bound (floor g (start g))) (some_or_none (λ (r : CoverRowParts). r.cost ≡ 0) (λ r. cases_eq r.cost 0) rows)

named_or_not : (names : List Cover) (k : ℕ) → Decided (IsNamed names k)
named_or_not names k = some_or_none (λ (n : Cover). n.step ≡ k) (λ n. cases_eq n.step k) names

step_holds : (g : PebbleGame) (rows : List CoverRowParts) (bound : ℕ) (r : CoverRowParts) (s : NormalStep) → Decided (StepHolds g rows bound r s)
step_holds g rows bound r s = either (row_within (plain_rows rows) (stepped g r.position s) (r.cost + step_cost g r.position s)) (at_most bound (offer g (plain r) s))

steps_hold : (g : PebbleGame) (rows : List CoverRowParts) (bound : ℕ) (r : CoverRowParts) → Decided (StepsHold g rows bound r)
steps_hold g rows bound r = each_at_or_not (λ k s. (IsNamed r.names k → ⊥) → StepHolds g rows bound r s) unnamed (legal_steps g r.position)
  where
    unnamed : (k : ℕ) (s : NormalStep) → Decided ((IsNamed r.names k → ⊥) → StepHolds g rows bound r s)
    unnamed k s = elim (named_or_not r.names k) [
      | inl named ↦ inl (λ none. absurd (none named))
      | inr none ↦ elim (step_holds g rows bound r s) [ inl holds ↦ inl (λ h. holds) | inr not ↦ inr (λ h. not (h none)) ]
    ]

-- ---- reason by reason

by_finish : (g : PebbleGame) (t : CoverTableParts) → PassesBefore g t 8 → CoverTableIsJudged g t
by_finish g t before = elim (first_or_each (λ (r : CoverRowParts). FinishHolds g t.bound (plain r)) t.rows (λ r i. finish_holds g t.bound (plain r))) [
  | inl all ↦ inl (passes_all g t before all)
  | inr first ↦ inr (reasons.Finish, first.0, record { gives = first.1; first = before })
]

by_step : (g : PebbleGame) (t : CoverTableParts) → PassesBefore g t 7 → CoverTableIsJudged g t
by_step g t before = elim (first_or_each (StepsHold g t.rows t.bound) t.rows (λ r i. steps_hold g t.rows t.bound r)) [
  | inl all ↦ by_finish g t (before_finish g t before all)
  | inr first ↦ inr (reasons.Step, first.0, record { gives = first.1; first = before })
]

by_names : (g : PebbleGame) → IsDag g.dag → (t : CoverTableParts) → PassesBefore g t 6 → CoverTableIsJudged g t
by_names g dag t before = elim (first_or_each (NamesHold g t.rows) t.rows (λ r i. names_hold g dag t.rows r)) [
  | inl all ↦ by_step g t (before_step g t before all)
  | inr first ↦ inr (reasons.Cover, first.0, record { gives = first.1; first = before })
]

by_start : (g : PebbleGame) → IsDag g.dag → (t : CoverTableParts) → PassesBefore g t 5 → CoverTableIsJudged g t
by_start g dag t before = elim (start_holds g t.rows t.bound) [
  | inl holds ↦ by_names g dag t (before_cover g t before holds)
  | inr not ↦ inr (reasons.Start, 0, record { gives = (refl, not); first = before })
]

by_position : (g : PebbleGame) → IsDag g.dag → (t : CoverTableParts) → PassesBefore g t 4 → CoverTableIsJudged g t
by_position g dag t before = elim (first_or_each (λ (r : CoverRowParts). IsSound g r.position) t.rows (λ r i. sound g r.position)) [
  | inl all ↦ by_start g dag t (before_start g t before all)
  | inr first ↦ inr (reasons.Position, first.0, record { gives = first.1; first = before })
]

by_order : (g : PebbleGame) → IsDag g.dag → (t : CoverTableParts) → PassesBefore g t 3 → CoverTableIsJudged g t
by_order g dag t before = elim (rise_or_fall (plain_rows t.rows)) [
  | inl rise ↦ by_position g dag t (before_position g t before rise)
  | inr fall ↦ inr (reasons.Order, fall.0, record { gives = fall.1; first = before })
]

-- the numbers: none is looked at before that of the vertices
before_graph : (g : PebbleGame) (t : CoverTableParts) → PassesBefore g t 0
before_graph g t e less = absurd (omega arith)

before_slots : (g : PebbleGame) (t : CoverTableParts) → Passes g t reasons.Graph → PassesBefore g t 1
before_slots g t vertices reasons.Graph less = vertices
before_slots g t vertices e less = absurd (omega arith)

before_weights : (g : PebbleGame) (t : CoverTableParts) → Passes g t reasons.Graph → Passes g t reasons.Slots → PassesBefore g t 2
before_weights g t vertices slots reasons.Graph less = vertices
before_weights g t vertices slots reasons.Slots less = slots
before_weights g t vertices slots e less = absurd (omega arith)

by_numbers : (g : PebbleGame) → IsDag g.dag → (t : CoverTableParts) → Decided (t.vertices ≡ g.dag.count) → Decided (t.slots ≡ g.slots) → Decided ((t.load ≡ g.load) × (t.store ≡ g.store)) → CoverTableIsJudged g t
by_numbers g dag t (inr not) slots weights = inr (reasons.Graph, 0, record { gives = (refl, not); first = before_graph g t })
by_numbers g dag t (inl vertices) (inr not) weights = inr (reasons.Slots, 0, record { gives = (refl, not); first = before_slots g t vertices })
by_numbers g dag t (inl vertices) (inl slots) (inr not) = inr (reasons.Weights, 0, record { gives = (refl, not); first = before_weights g t vertices slots })
by_numbers g dag t (inl vertices) (inl slots) (inl weights) = by_order g dag t (before_order g t vertices slots weights)

pub cover_table_or_refusal : CoverTableOrRefusal
cover_table_or_refusal g dag t = by_numbers g dag t (cases_eq t.vertices g.dag.count) (cases_eq t.slots g.slots) (both (cases_eq t.load g.load) (cases_eq t.store g.store))
