-- Each table is one of the game or gives a reason to refuse it, since each part of a table's conditions holds or fails.
use Rattle.std.proofs.Common.{◌≡◌, ◌⊎◌, ℕ, zero, suc, ◌+◌, ◌≤◌, ◌<◌, ◌&&◌, Bool, true, false, List, [], ◌∷◌, inl, inr, refl, sym, ap, subst, arith}
use Rattle.std.proofs.lemmas.Bool.{and_parts, and_from, cases_eq, cases_lt}
use Rattle.std.proofs.lemmas.Bool.Decides.{nat_tests}
use Rattle.std.specs.FinSet as set
use Rattle.comp_graph.specs.Dags.{IsDag}
use Rattle.comp_graph.specs.Games.{PebbleGame}
use Rattle.comp_graph.specs.Sets.{has_set_below, is_subset-IsWithin, IsWithin-is_subset, same_members, same_members-itself, same_members-true}
use Rattle.comp_graph.specs.Vertices.{Vertices, ◌∈◌, IsWithin, set_below}
use Rattle.pebble_rules.specs.declared.position.Position.{Position as Place}
use Rattle.pebble_rules.specs.Rules.{start}
use Rattle.normal_steps.specs.declared.step.Step.{Step as NormalStep}
use Rattle.normal_steps.specs.Sound.{IsSound}
use Rattle.normal_steps.specs.Steps.{finish_cost, step_cost, stepped}
use Rattle.normal_steps.specs.StepTests.{can_finish, legal_steps}
use Rattle.normal_steps.proofs.StepTestLaws.{finish_is_tested, legal_steps_are_listed}
use Rattle.forced_bounds.specs.Floor.{floor}
use Rattle.comp_graph.specs.Lists.{IsIn}
use Rattle.potential_cert.specs.declared.tables.Row.{Row}
use Rattle.potential_cert.specs.GameTables.{IsTableOf}
use Rattle.potential_cert.specs.Order.{precedes}
use Rattle.potential_cert.specs.Places.{IsAt}
use Rattle.potential_cert.specs.Table.{TableParts, HasRowWithin, IsRising, offer, FinishHolds, StartHolds, StepHolds, StepsHold}
use Rattle.potential_cert.proofs.Order.{precedes_is_strict}
use Rattle.potential_cert.proofs.Places.{in_at}
use Rattle.cert_checker.specs.declared.refusal.Reason.{Reason}
use Rattle.cert_checker.specs.declared.refusal.Reason.TheVariants as reasons
use Rattle.cert_checker.specs.Refusals.{EachRow, IsFirstFall, IsFirstWithout, IsRefusal, Passes, PassesBefore, TableOrRefusal}
use Rattle.cert_checker.proofs.Checked.{before_finish, before_order, before_position, before_start, before_step, passes_all}

-- ---- what holds or fails

abbrev pub Decided : Type 0 → Type 0
Decided P = P ⊎ (P → ⊥)

pub by_test : {P : Type 0} → (test : Bool) → (test ≡ true → P) → (P → test ≡ true) → Decided P
by_test true to from = inl (to refl)
by_test false to from = inr (λ p. let both = from p in cc)

pub at_most : (a b : ℕ) → Decided (a ≤ b)
at_most a b = elim (cases_lt b a) [ inl less ↦ inr (λ most. omega (arith, less, most)) | inr most ↦ inl (omega (arith, most)) ]

pub either : {P Q : Type 0} → Decided P → Decided Q → Decided (P ⊎ Q)
either (inl p) q = inl (inl p)
either (inr not) (inl q) = inl (inr q)
either (inr not) (inr none) = inr (λ h. elim h [ inl p ↦ not p | inr q ↦ none q ])

pub both : {P Q : Type 0} → Decided P → Decided Q → Decided (P × Q)
both (inl p) (inl q) = inl (p, q)
both (inl p) (inr not) = inr (λ h. not h.1)
both (inr not) q = inr (λ h. not h.0)

implied : {P Q : Type 0} → Decided P → Decided Q → Decided (P → Q)
implied (inl p) (inl q) = inl (λ h. q)
implied (inl p) (inr not) = inr (λ h. not (h p))
implied (inr none) q = inl (λ p. absurd (none p))

-- ---- positions

within : (s t : Vertices) → Decided (IsWithin s t)
within s t = by_test (set.is_subset s t) (is_subset-IsWithin s t) (IsWithin-is_subset s t)

all_below : (n : ℕ) (s : Vertices) → Decided ((v : ℕ) → v ∈ s → v < n)
all_below n s = elim (within s (set_below (λ v. true) n)) [
  | inl in_all ↦ inl (λ v h. let has = in_all v h in let is = has_set_below (λ v. true) n v in grind (arith, nat_tests))
  | inr other ↦ inr (λ below. other (λ v h. let less = below v h in let is = has_set_below (λ v. true) n v in grind (arith, nat_tests)))
]

pub sound : (g : PebbleGame) (p : Place) → Decided (IsSound g p)
sound g p = elim (both (both (all_below g.dag.count p.red) (all_below g.dag.count p.blue)) (both (within g.dag.inputs p.blue) (at_most (set.len p.red) g.slots))) [
  | inl h ↦ inl (record { red_below = h.0.0; blue_below = h.0.1; inputs_blue = h.1.0; fits = h.1.1 })
  | inr not ↦ inr (λ s. not ((s.red_below, s.blue_below), (s.inputs_blue, s.fits)))
]

place_of : Vertices → Vertices → Place
place_of red blue = record { red = red; blue = blue }

same_place : (p q : Place) → Decided (p ≡ q)
same_place p q = by_test (same_members p.red q.red && same_members p.blue q.blue) same from
  where
    same : (same_members p.red q.red && same_members p.blue q.blue) ≡ true → p ≡ q
    same e =
        let parts = and_parts (same_members p.red q.red) (same_members p.blue q.blue) e in
        let red = same_members-true p.red q.red parts.0 in
        let blue = same_members-true p.blue q.blue parts.1 in
        λ i. record { red = red i; blue = blue i }

    from : p ≡ q → (same_members p.red q.red && same_members p.blue q.blue) ≡ true
    from e = subst (λ q. (same_members p.red q.red && same_members p.blue q.blue) ≡ true) e (and_from _ _ (same_members-itself p.red) (same_members-itself p.blue))

-- ---- rows

pub row_within : (rows : List Row) (q : Place) (most : ℕ) → Decided (HasRowWithin rows q most)
row_within [] q most = inr (λ h. h.1)
row_within (r ∷ rows) q most = elim (both (same_place r.position q) (at_most r.cost most)) [
  | inl here ↦ inl (r, inl refl, here.0, here.1)
  | inr not ↦ elim (row_within rows q most) [
    | inl h ↦ inl (h.0, inr h.1, h.2, h.3)
    | inr none ↦ inr (λ h. other not none h.0 h.1 h.2 h.3)
  ]
]
  where
    other : ((r.position ≡ q) × (r.cost ≤ most) → ⊥) → (HasRowWithin rows q most → ⊥) → (x : Row) → IsIn x (r ∷ rows) → x.position ≡ q → x.cost ≤ most → ⊥
    other not none x (inl e) is cheap = not (subst (λ y. (y.position ≡ q) × (y.cost ≤ most)) e (is, cheap))
    other not none x (inr i) is cheap = none (x, i, is, cheap)

start_holds : (g : PebbleGame) (rows : List Row) (bound : ℕ) → Decided (StartHolds g rows bound)
start_holds g rows bound = either (at_most bound (floor g (start g))) (row_within rows (start g) 0)

step_holds : (g : PebbleGame) (rows : List Row) (bound : ℕ) (r : Row) (s : NormalStep) → Decided (StepHolds g rows bound r s)
step_holds g rows bound r s = either (row_within rows (stepped g r.position s) (r.cost + step_cost g r.position s)) (at_most bound (offer g r s))

-- each of a list of steps has P, or one lacks it
each_step : {P : NormalStep → Type 0} → ((s : NormalStep) → Decided (P s)) → (ss : List NormalStep) → ((s : NormalStep) → IsIn s ss → P s) ⊎ ((s : NormalStep) × IsIn s ss × (P s → ⊥))
each_step {P} each [] = inl (λ s i. absurd i)
each_step {P} each (s ∷ ss) = elim (each s) [
  | inr not ↦ inr (s, inl refl, not)
  | inl here ↦ elim (each_step each ss) [ inl rest ↦ inl (all here rest) | inr other ↦ inr (other.0, inr other.1, other.2) ]
]
  where
    all : P s → ((x : NormalStep) → IsIn x ss → P x) → (x : NormalStep) → IsIn x (s ∷ ss) → P x
    all here rest x (inl e) = subst P (sym e) here
    all here rest x (inr i) = rest x i

steps_hold : (g : PebbleGame) → IsDag g.dag → (rows : List Row) (bound : ℕ) (r : Row) → IsSound g r.position → Decided (StepsHold g rows bound r)
steps_hold g dag rows bound r is_sound =
    let listed = legal_steps_are_listed g dag r.position is_sound.red_below in
    elim (each_step {P = StepHolds g rows bound r} (step_holds g rows bound r) (legal_steps g r.position)) [
      | inl all ↦ inl (λ s can. all s ((listed.legal s).1 can))
      | inr bad ↦ inr (λ all. bad.2 (all bad.0 ((listed.legal bad.0).0 bad.1)))
    ]

pub finish_holds : (g : PebbleGame) (bound : ℕ) (r : Row) → Decided (FinishHolds g bound r)
finish_holds g bound r =
    implied (by_test (can_finish g r.position) (finish_is_tested g r.position).0 (finish_is_tested g r.position).1) (at_most bound (r.cost + finish_cost g r.position))

-- each row has P, or there is a first one that lacks it
pub first_or_each : {X : Type 0} → (P : X → Type 0) (rows : List X) → ((r : X) → IsIn r rows → Decided (P r)) → EachRow P rows ⊎ ((k : ℕ) × IsFirstWithout P rows k)
first_or_each P [] decided = inl (λ k r at. absurd at)
first_or_each {X} P (r ∷ rows) decided = elim (decided r (inl refl)) [
  | inr not ↦ inr (zero, record { row = r; at = refl; lacks = not; earlier = λ j q less at. absurd (omega arith) })
  | inl here ↦ elim (first_or_each P rows (λ q i. decided q (inr i))) [
    | inl rest ↦ inl (all here rest)
    | inr first ↦ inr (suc first.0, record { row = first.1.row; at = first.1.at; lacks = first.1.lacks; earlier = before here first.0 first.1.earlier })
  ]
]
  where
    all : P r → EachRow P rows → EachRow P (r ∷ rows)
    all here rest zero q at = subst P (sym at) here
    all here rest (suc k) q at = rest k q at

    before : P r → (k : ℕ) → ((j : ℕ) (q : X) → j < k → IsAt q j rows → P q) → (j : ℕ) (q : X) → j < suc k → IsAt q j (r ∷ rows) → P q
    before here k earlier zero q less at = subst P (sym at) here
    before here k earlier (suc j) q less at = earlier j q (omega arith) at

-- the rows rise, or there is a first one that does not come after the one before it
pub rise_or_fall : (rows : List Row) → IsRising precedes rows ⊎ ((k : ℕ) × IsFirstFall rows k)
rise_or_fall [] = inl tt
rise_or_fall (r ∷ []) = inl (λ q i. absurd i, tt)
rise_or_fall (r ∷ x ∷ rows) = by_order (precedes r.position x.position) refl (rise_or_fall (x ∷ rows))
  where
    after : precedes r.position x.position ≡ true → ((q : Row) → IsIn q rows → precedes x.position q.position ≡ true) → (q : Row) → IsIn q (x ∷ rows) → precedes r.position q.position ≡ true
    after first rest q (inl e) = subst (λ y. precedes r.position y.position ≡ true) (sym e) first
    after first rest q (inr i) = precedes_is_strict.transitive r.position x.position q.position first (rest q i)

    before : precedes r.position x.position ≡ true → (k : ℕ) → ((j : ℕ) (p q : Row) → suc j < k → IsAt p j (x ∷ rows) → IsAt q (suc j) (x ∷ rows) → precedes p.position q.position ≡ true)
        → (j : ℕ) (p q : Row) → suc j < suc k → IsAt p j (r ∷ x ∷ rows) → IsAt q (suc j) (r ∷ x ∷ rows) → precedes p.position q.position ≡ true
    before first k earlier zero p q less at_p at_q = subst (λ y. precedes y.position q.position ≡ true) (sym at_p) (subst (λ y. precedes r.position y.position ≡ true) (sym at_q) first)
    before first k earlier (suc j) p q less at_p at_q = earlier j p q (omega arith) at_p at_q

    by_order : (found : Bool) → precedes r.position x.position ≡ found → IsRising precedes (x ∷ rows) ⊎ ((k : ℕ) × IsFirstFall (x ∷ rows) k)
        → IsRising precedes (r ∷ x ∷ rows) ⊎ ((k : ℕ) × IsFirstFall (r ∷ x ∷ rows) k)
    by_order false e rest = inr (1, record { before = 0; next = refl; low = r; high = x; low_at = refl; high_at = refl; falls = e; earlier = λ j p q less at_p at_q. absurd (omega arith) })
    by_order true e rest = elim rest [
      | inl rise ↦ inl (after e rise.0, rise)
      | inr fall ↦ inr (
        suc fall.0,
        record {
          before = suc fall.1.before;
          next = ap suc fall.1.next;
          low = fall.1.low;
          high = fall.1.high;
          low_at = fall.1.low_at;
          high_at = fall.1.high_at;
          falls = fall.1.falls;
          earlier = before e fall.0 fall.1.earlier;
        },
      )
    ]

-- ---- reason by reason

-- a table of the game, or a refusal
abbrev Outcome : PebbleGame → TableParts → Type 0
Outcome g t = IsTableOf g t ⊎ ((reason : Reason) × (k : ℕ) × IsRefusal g t reason k)

by_finish : (g : PebbleGame) (t : TableParts) → PassesBefore g t 8 → Outcome g t
by_finish g t before = elim (first_or_each (FinishHolds g t.bound) t.rows (λ r i. finish_holds g t.bound r)) [
  | inl all ↦ inl (passes_all g t before all)
  | inr first ↦ inr (reasons.Finish, first.0, record { gives = first.1; first = before })
]

by_step : (g : PebbleGame) → IsDag g.dag → (t : TableParts) → PassesBefore g t 7 → Outcome g t
by_step g dag t before = elim (first_or_each (StepsHold g t.rows t.bound) t.rows (λ r i. let at = in_at r t.rows i in steps_hold g dag t.rows t.bound r (before reasons.Position (omega arith) at.0 r at.1))) [
  | inl all ↦ by_finish g t (before_finish g t before all)
  | inr first ↦ inr (reasons.Step, first.0, record { gives = first.1; first = before })
]

by_start : (g : PebbleGame) → IsDag g.dag → (t : TableParts) → PassesBefore g t 5 → Outcome g t
by_start g dag t before = elim (start_holds g t.rows t.bound) [
  | inl holds ↦ by_step g dag t (before_step g t before holds)
  | inr not ↦ inr (reasons.Start, 0, record { gives = (refl, not); first = before })
]

by_position : (g : PebbleGame) → IsDag g.dag → (t : TableParts) → PassesBefore g t 4 → Outcome g t
by_position g dag t before = elim (first_or_each (λ r. IsSound g r.position) t.rows (λ r i. sound g r.position)) [
  | inl all ↦ by_start g dag t (before_start g t before all)
  | inr first ↦ inr (reasons.Position, first.0, record { gives = first.1; first = before })
]

by_order : (g : PebbleGame) → IsDag g.dag → (t : TableParts) → PassesBefore g t 3 → Outcome g t
by_order g dag t before = elim (rise_or_fall t.rows) [
  | inl rise ↦ by_position g dag t (before_position g t before rise)
  | inr fall ↦ inr (reasons.Order, fall.0, record { gives = fall.1; first = before })
]

-- the numbers: none is looked at before that of the vertices
before_graph : (g : PebbleGame) (t : TableParts) → PassesBefore g t 0
before_graph g t e less = absurd (omega arith)

before_slots : (g : PebbleGame) (t : TableParts) → Passes g t reasons.Graph → PassesBefore g t 1
before_slots g t vertices reasons.Graph less = vertices
before_slots g t vertices e less = absurd (omega arith)

before_weights : (g : PebbleGame) (t : TableParts) → Passes g t reasons.Graph → Passes g t reasons.Slots → PassesBefore g t 2
before_weights g t vertices slots reasons.Graph less = vertices
before_weights g t vertices slots reasons.Slots less = slots
before_weights g t vertices slots e less = absurd (omega arith)

by_numbers : (g : PebbleGame) → IsDag g.dag → (t : TableParts) → Decided (t.vertices ≡ g.dag.count) → Decided (t.slots ≡ g.slots) → Decided ((t.load ≡ g.load) × (t.store ≡ g.store)) → Outcome g t
by_numbers g dag t (inr not) slots weights = inr (reasons.Graph, 0, record { gives = (refl, not); first = before_graph g t })
by_numbers g dag t (inl vertices) (inr not) weights = inr (reasons.Slots, 0, record { gives = (refl, not); first = before_slots g t vertices })
by_numbers g dag t (inl vertices) (inl slots) (inr not) = inr (reasons.Weights, 0, record { gives = (refl, not); first = before_weights g t vertices slots })
by_numbers g dag t (inl vertices) (inl slots) (inl weights) = by_order g dag t (before_order g t vertices slots weights)

pub table_or_refusal : TableOrRefusal
table_or_refusal g dag t = by_numbers g dag t (cases_eq t.vertices g.dag.count) (cases_eq t.slots g.slots) (both (cases_eq t.load g.load) (cases_eq t.store g.store))
