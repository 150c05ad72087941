-- The laws of the search.
use Rattle.std.proofs.Common.{◌≡◌, ℕ, zero, suc, ◌+◌, ◌*◌, ◌≤◌, ◌<◌, ltb, Bool, true, false, not, List, [], ◌∷◌, length, cond, ◌⊎◌, inl, inr, refl, sym, ap, ◌∙◌, subst, arith}
use Rattle.std.specs.FinSet.{empty, contains, difference}
use Rattle.comp_graph.specs.Vertices.{Vertices, ◌∈◌, IsWithin, size}
use Rattle.comp_graph.specs.Games.{PebbleGame}
use Rattle.comp_graph.specs.Dags.{IsDag, IsPath}
use Rattle.pebble_rules.specs.Rules.{start}
use Rattle.normal_steps.specs.Steps.{IsStep, stepped, step_cost, CanFinish, IsFinishing, total_cost}
use Rattle.normal_steps.specs.declared.step.Step.{Step}
use Rattle.normal_steps.specs.declared.step.Step.TheVariants.{Work, Drop, Spill}
use Rattle.comp_graph.specs.Sets.{membership, same}
use Rattle.comp_graph.proofs.Sets.{size_empty}
use Rattle.pebble_rules.proofs.Possible.{true_or_false}
use Rattle.comp_graph.proofs.DagLaws.{live_by_paths}
use Rattle.pebble_rules.proofs.FirstBound.{path_to_no_input}
use Rattle.comp_graph.specs.Lists.{IsIn}
use Rattle.forced_bounds.specs.Floor.{floor}
use Rattle.forced_bounds.specs.FloorLaws.{FloorOfFinish}
use Rattle.potential_cert.specs.declared.tables.Row.{Row}
use Rattle.potential_cert.specs.Table.{HasRowWithin, AreDistinct, offer, IsValid, IsLeaving, IsSupport}
use Rattle.potential_cert.specs.TableLaws.{HaveSameMembers, BoundIsBelowPebblings}
use Rattle.potential_cert.proofs.SupportLaws.{support_ignores_order}
use Rattle.search_laws.specs.Search.{is_waiting, is_expanded, Entry, Search, first_entry, begun, next_waiting, expand, search_on, searched, rows_of, rows_searched}
use Rattle.search_laws.specs.SearchLaws.{PlanIsNoWorse, RowsAreReached, RowsAreMadeInOrder, SearchedTableIsValid, SupportIsHigh, FewRowsAreOptimal, OpenFillsBudget, SupportIsBelowPebblings}
use Rattle.search_laws.specs.Standing.{IsFresh, IsNext, IsReachedBy, IsSettled, Stands, row_of, start_row}
use Rattle.search_laws.proofs.Tests.{ltb_true}
use Rattle.search_laws.proofs.Entries.{NoneWaits, apart_same, rows_in, in_rows, rows_apart}
use Rattle.search_laws.proofs.Turns.{played_sound, HasExpanded, has_expanded, settled_of, settles, HasSearched, search_stops, search_goes, search_ends, has_searched, settle_still, nothing_next_waits}

-- ---- the beginning

path_to_input : (g : PebbleGame) → IsDag g.dag → (v o : ℕ) → o ∈ g.dag.inputs → IsPath g.dag v o → v ∈ g.dag.inputs
path_to_input g dag v o input path = elim (true_or_false (contains g.dag.inputs v)) [
  | inl is ↦ is
  | inr not ↦ absurd (let no_input = path_to_no_input g dag v o not path in grind arith)
]

held_inputs : (g : PebbleGame) → CanFinish g (start g) → IsWithin g.dag.outputs g.dag.inputs
held_inputs g finish v out = let held = finish v out in grind (arith, membership)

-- where the start can finish no step is legal there
no_step : (g : PebbleGame) → IsDag g.dag → CanFinish g (start g) → (s : Step) → IsStep g (start g) s → ⊥
no_step g dag finish (Work v) can =
    let out = (live_by_paths g.dag dag v).0 can.live in
    let input = path_to_input g dag v out.output (held_inputs g finish out.output out.is_output) out.path in
    let no_input = can.no_input in
    grind arith
no_step g dag finish (Drop u) can = let red = can.red in grind (arith, membership)
no_step g dag finish (Spill u) can = let red = can.drop.red in grind (arith, membership)

none_left : (s t : Vertices) → IsWithin s t → difference s t ≡ empty
none_left s t within = same _ _ (λ q. let old = within q in grind (arith, membership))

-- where the start can finish, each play costs nothing
nothing_to_pay : (g : PebbleGame) → IsDag g.dag → CanFinish g (start g) → (ss : List Step) → IsFinishing g (start g) ss → total_cost g (start g) ss ≡ 0
nothing_to_pay g dag finish [] finishing =
    let none = ap (λ s. g.store * size s) (none_left g.dag.outputs g.dag.inputs (held_inputs g finish)) in
    let zero = ap (λ n. g.store * n) size_empty in
    omega arith
nothing_to_pay g dag finish (s ∷ ss) finishing = absurd (no_step g dag finish s finishing.play.0)

no_waiting_row : (b : Bool) (e : Entry) → is_expanded e.mark ≡ false → rows_of (cond b (e ∷ []) []) ≡ []
no_waiting_row true e h = ap (λ b. cond b (row_of e ∷ []) []) h
no_waiting_row false e h = refl

begun_by : (g : PebbleGame) → IsDag g.dag → (plan : List Step) → IsFinishing g (start g) plan → (b : Bool) → ltb (floor g (start g)) (total_cost g (start g) plan) ≡ b
    → Stands g (total_cost g (start g) plan) (record { plan = plan; cost = total_cost g (start g) plan; entries = cond b (first_entry g ∷ []) [] })
begun_by g dag plan finishing true h = record {
  kept = record {
    finishing = finishing;
    costs = refl;
    no_more = omega arith;
    played = λ e i. subst (λ e. IsReachedBy g e.position e.cost e.play) (sym (only e i)) (record { play = tt; ends = refl; costs = refl });
    unfinished = λ e i finish.
        let nothing = nothing_to_pay g dag (subst (λ e. CanFinish g e.position) (only e i) finish) plan finishing in
        let less = ltb_true _ _ h in
        omega arith;
    apart = (λ f i same. absurd i, tt);
    beaten = λ e i w x. absurd (let marks = ap (λ e. is_waiting e.mark) (only e i) in grind arith);
    order = λ e i w r j. absurd j;
    begins = inr (record { no_rows = refl; starts = λ e i. ap row_of (only e i); some = inr (first_entry g, inl refl) });
  };
  settled = λ r i s step. absurd i;
}
  where
    only : (e : Entry) → IsIn e (first_entry g ∷ []) → e ≡ first_entry g
    only e (inl same) = same
    only e (inr i) = absurd i
begun_by g dag plan finishing false h = record {
  kept = record {
    finishing = finishing;
    costs = refl;
    no_more = omega arith;
    played = λ e i. absurd i;
    unfinished = λ e i finish. absurd i;
    apart = tt;
    beaten = λ e i w x. absurd i;
    order = λ e i w r j. absurd i;
    begins = inr (record { no_rows = refl; starts = λ e i. absurd i; some = inl (grind arith) });
  };
  settled = λ r i s step. absurd i;
}

pub begun_stands : (g : PebbleGame) → IsDag g.dag → (plan : List Step) → IsFinishing g (start g) plan → Stands g (total_cost g (start g) plan) (begun g plan)
unfolding begun
begun_stands g dag plan finishing = begun_by g dag plan finishing (ltb (floor g (start g)) (total_cost g (start g) plan)) refl

pub begun_rows : (g : PebbleGame) (plan : List Step) → rows_of (begun g plan).entries ≡ []
unfolding begun
begun_rows g plan = no_waiting_row (ltb (floor g (start g)) (total_cost g (start g) plan)) (first_entry g) refl

pub search_has : FloorOfFinish → (g : PebbleGame) → IsDag g.dag → (plan : List Step) → IsFinishing g (start g) plan → (budget : ℕ)
    → HasSearched g (total_cost g (start g) plan) budget (begun g plan) (searched g plan budget)
search_has ends g dag plan finishing budget = has_searched ends g dag _ budget (begun g plan) (begun_stands g dag plan finishing)

-- ---- the plan and the rows

pub plan_is_no_worse : FloorOfFinish → PlanIsNoWorse
plan_is_no_worse ends g dag plan finishing budget =
    let kept = (search_has ends g dag plan finishing budget).stands.kept in
    record { finishing = kept.finishing; costs = kept.costs; no_more = kept.no_more }

module _ (g : PebbleGame) (dag : IsDag g.dag) (first : ℕ) (t : Search) (stands : Stands g first t) where
  pub row_reached : (r : Row) → IsIn r (rows_of t.entries) → (ss : List Step) × IsReachedBy g r.position r.cost ss
  row_reached r i =
      let e = rows_in r t.entries i in
      (e.0.play, subst (λ r. IsReachedBy g r.position r.cost e.0.play) (sym e.3) (stands.kept.played e.0 e.1))

  pub row_unfinished : (r : Row) → IsIn r (rows_of t.entries) → CanFinish g r.position → ⊥
  row_unfinished r i finish =
      let e = rows_in r t.entries i in
      stands.kept.unfinished e.0 e.1 (subst (λ r. CanFinish g r.position) e.3 finish)

  -- an entry of a row's position is that row
  entry_of_row : (e : Entry) → IsIn e t.entries → (r : Row) → IsIn r (rows_of t.entries) → r.position ≡ e.position → is_expanded e.mark ≡ true
  entry_of_row e i r j at =
      let f = rows_in r t.entries j in
      let one = apart_same t.entries stands.kept.apart f.0 e f.1 i (sym (ap (λ r. r.position) f.3) ∙ at) in
      subst (λ e. is_expanded e.mark ≡ true) one f.2

  -- ---- the support

  abbrev made : List Row
  made = rows_of t.entries

  step_valid : (bound : ℕ) → IsSupport g made t.cost bound → (r : Row) → IsIn r made → (s : Step) → IsStep g r.position s
      → HasRowWithin made (stepped g r.position s) (r.cost + step_cost g r.position s) ⊎ (bound ≤ offer g r s)
  step_valid bound support r i s step = elim (stands.settled r i s step) [
    | inl beaten ↦ inr (let most = support.within_cost in omega arith)
    | inr has ↦ elim (true_or_false (is_expanded has.0.mark)) [
      | inl row ↦ inl (row_of has.0, in_rows has.0 t.entries has.1 row, has.2, has.3)
      | inr not_row ↦ inr (support.within_offers r s (record {
        row = i;
        step = step;
        leaves = λ q. let row = entry_of_row has.0 has.1 q.0 q.1 (q.2 ∙ sym has.2) in grind arith;
      }))
    ]
  ]

  begins_valid : (bound : ℕ) → IsSupport g made t.cost bound → IsIn (start_row g) made ⊎ IsFresh g t → (bound ≤ floor g (start g)) ⊎ HasRowWithin made (start g) 0
  begins_valid bound support (inl row) = inr (start_row g, row, refl, omega arith)
  begins_valid bound support (inr fresh) = inl (support.within_floor fresh.no_rows)

  pub is_valid : (bound : ℕ) → IsSupport g made t.cost bound → IsValid g made bound
  is_valid bound support = record {
    distinct = rows_apart t.entries stands.kept.apart;
    sound = λ r i. let reached = row_reached r i in played_sound g dag r.position r.cost reached.0 reached.1;
    begins = begins_valid bound support stands.kept.begins;
    steps = step_valid bound support;
    finishes = λ r i finish. absurd (row_unfinished r i finish);
  }

  -- what a step that leaves the rows offers is at least the cost of the plan, or there is an entry that waits and costs no more
  abbrev IsOffered : ℕ → Type 0
  IsOffered n = (t.cost ≤ n) ⊎ ((e : Entry) × IsIn e t.entries × (is_waiting e.mark ≡ true) × (e.cost ≤ n))

  offered_by : (r : Row) (s : Step) → IsLeaving g made r s → IsSettled g t r s → IsOffered (offer g r s)
  offered_by r s leaving (inl beaten) = inl beaten
  offered_by r s leaving (inr has) = elim (true_or_false (is_waiting has.0.mark)) [
    | inl waits ↦ inr (has.0, has.1, waits, (let few = has.3 in omega arith))
    | inr not_waiting ↦ elim (true_or_false (is_expanded has.0.mark)) [
      | inl row ↦ absurd (leaving.leaves (row_of has.0, in_rows has.0 t.entries has.1 row, has.2))
      | inr not_row ↦
          let beaten = stands.kept.beaten has.0 has.1 not_waiting not_row in
          let few = has.3 in
          let same_floor = ap (floor g) has.2 in
          inl (omega arith)
    ]
  ]

  offered : (r : Row) (s : Step) → IsLeaving g made r s → IsOffered (offer g r s)
  offered r s leaving = offered_by r s leaving (stands.settled r leaving.row s leaving.step)

  pub is_high : (bound : ℕ) → IsSupport g made t.cost bound → (r : Row) → IsIn r made → (t.cost ≤ bound) ⊎ (r.cost ≤ bound)
  is_high bound support r i = elim support.is_met [
    | inl e ↦ inl (omega arith)
    | inr (inl e) ↦ absurd (subst (λ rows. IsIn r rows) e.0 i)
    | inr (inr q) ↦ elim (offered q.0 q.1 q.2) [
      | inl cost ↦ inl (let is = q.3 in omega arith)
      | inr e ↦ inr (let order = stands.kept.order e.0 e.1 e.2 r i in let few = e.3 in let is = q.3 in omega arith)
    ]
  ]

  none_offered : NoneWaits t.entries → (n : ℕ) → IsOffered n → t.cost ≤ n
  none_offered none n (inl cost) = cost
  none_offered none n (inr e) = absurd (none e.0 e.1 e.2)

  at_start : NoneWaits t.entries → made ≡ [] → IsIn (start_row g) made ⊎ IsFresh g t → t.cost ≤ floor g (start g)
  at_start none empty (inl row) = absurd (subst (λ rows. IsIn (start_row g) rows) empty row)
  at_start none empty (inr fresh) = elim fresh.some [
    | inl cost ↦ cost
    | inr e ↦ elim (true_or_false (is_waiting e.0.mark)) [
      | inl waits ↦ absurd (none e.0 e.1 waits)
      | inr not_waiting ↦ elim (true_or_false (is_expanded e.0.mark)) [
        | inl row ↦ absurd (subst (λ rows. IsIn (row_of e.0) rows) empty (in_rows e.0 t.entries e.1 row))
        | inr not_row ↦
            let beaten = stands.kept.beaten e.0 e.1 not_waiting not_row in
            let at : t.cost ≤ 0 + floor g (start g) = subst (λ r. t.cost ≤ r.cost + floor g r.position) (fresh.starts e.0 e.1) beaten in
            omega arith
      ]
    ]
  ]

  pub is_met_by_cost : NoneWaits t.entries → (bound : ℕ) → IsSupport g made t.cost bound → bound ≡ t.cost
  is_met_by_cost none bound support =
      let most = support.within_cost in
      elim support.is_met [
        | inl e ↦ e
        | inr (inl e) ↦ let least = at_start none e.0 stands.kept.begins in let is = e.1 in omega arith
        | inr (inr q) ↦ let least = none_offered none (offer g q.0 q.1) (offered q.0 q.1 q.2) in let is = q.3 in omega arith
      ]

pub rows_are_reached : FloorOfFinish → RowsAreReached
rows_are_reached ends g dag plan finishing budget r i =
    let stands = (search_has ends g dag plan finishing budget).stands in
    let reached = row_reached g dag _ _ stands r i in
    (record { steps = reached.0; play = reached.1.play; ends = reached.1.ends; costs = reached.1.costs }, row_unfinished g dag _ _ stands r i)

-- ---- the table

pub valid_ignores_order : (g : PebbleGame) (rows others : List Row) (bound : ℕ) → AreDistinct others → HaveSameMembers rows others → IsValid g rows bound → IsValid g others bound
valid_ignores_order g rows others bound distinct members valid = record {
  distinct = distinct;
  sound = λ r i. valid.sound r ((members r).1 i);
  begins = elim valid.begins [ inl few ↦ inl few | inr r ↦ inr (r.0, (members r.0).0 r.1, r.2, r.3) ];
  steps = λ r i s step. elim (valid.steps r ((members r).1 i) s step) [ inl q ↦ inl (q.0, (members q.0).0 q.1, q.2, q.3) | inr few ↦ inr few ];
  finishes = λ r i finish. valid.finishes r ((members r).1 i) finish;
}

pub searched_table_is_valid : FloorOfFinish → SearchedTableIsValid
searched_table_is_valid ends g dag plan finishing budget rows distinct members bound support =
    let stands = (search_has ends g dag plan finishing budget).stands in
    let back = support_ignores_order g rows (rows_searched g plan budget) (searched g plan budget).cost bound (λ r. ((members r).1, (members r).0)) support in
    valid_ignores_order g (rows_searched g plan budget) rows bound distinct members (is_valid g dag _ (searched g plan budget) stands bound back)

pub support_is_high : FloorOfFinish → SupportIsHigh
support_is_high ends g dag plan finishing budget bound support r i =
    is_high g dag _ (searched g plan budget) (search_has ends g dag plan finishing budget).stands bound support r i

-- ---- the budget

pub few_rows_are_optimal : FloorOfFinish → FewRowsAreOptimal
few_rows_are_optimal ends g dag plan finishing budget =
    let has = search_has ends g dag plan finishing budget in
    let none = ap length (begun_rows g plan) in
    record {
      few = elim has.count [ inl all ↦ omega arith | inr few ↦ let most = few.0 in omega arith ];
      fewer = λ less bound support. elim has.count [
        | inl all ↦ absurd (omega arith)
        | inr few ↦ is_met_by_cost g dag _ (searched g plan budget) has.stands few.1 bound support
      ];
    }

-- ---- the order in which rows are made

-- the rows of t are among those of u, and each other row of u costs no less
abbrev OrderedAfter : Search → Search → Type 0
OrderedAfter t u = ((r : Row) → IsIn r (rows_of t.entries) → IsIn r (rows_of u.entries))
    × ((r q : Row) → IsIn r (rows_of t.entries) → IsIn q (rows_of u.entries) → IsIn q (rows_of t.entries) ⊎ (r.cost ≤ q.cost))

one_turn : FloorOfFinish → (g : PebbleGame) → IsDag g.dag → (first : ℕ) (t : Search) → Stands g first t → OrderedAfter t (search_on g 1 t)
one_turn ends g dag first t stands =
    let given = settles g dag first t stands in
    elim given.goes_on [
      | inl none ↦ stopped (search_on g 1 t) (ap (λ t. rows_of t.entries) (search_stops g 0 t none.0) ∙ given.rows)
      | inr e ↦
          let made = has_expanded ends g dag first (settled_of g t) given.stands e.0 e.2 in
          made_one e.0 given.rows given.stands e.2 made (search_on g 1 t) (search_goes g 0 t e.0 e.1 ∙ search_ends g (expand g e.0 (settled_of g t)))
    ]
  where
    stopped : (u : Search) → rows_of u.entries ≡ rows_of t.entries → OrderedAfter t u
    stopped u same = (λ r i. subst (λ rows. IsIn r rows) (sym same) i, λ r q i j. inl (subst (λ rows. IsIn q rows) same j))

    made_one : (e : Entry) → rows_of (settled_of g t).entries ≡ rows_of t.entries → Stands g first (settled_of g t) → IsNext (settled_of g t).entries e
        → HasExpanded g first (settled_of g t) e (expand g e (settled_of g t)) → (u : Search) → u ≡ expand g e (settled_of g t) → OrderedAfter t u
    made_one e same stands next made u is = (
      λ r i. subst (λ u. IsIn r (rows_of u.entries)) (sym is) (made.before r (subst (λ rows. IsIn r rows) (sym same) i)),
      λ r q i j. elim (made.after q (subst (λ u. IsIn q (rows_of u.entries)) is j)) [
        | inl new ↦ inr (let order = stands.kept.order e next.member next.waits r (subst (λ rows. IsIn r rows) (sym same) i) in let costs = ap (λ r. r.cost) new in omega arith)
        | inr old ↦ inl (subst (λ rows. IsIn q rows) same old)
      ],
    )

-- a search with one more in its budget is a search and a turn
stopped_still : (g : PebbleGame) (u : Search) → NoneWaits u.entries → search_on g 1 u ≡ u
stopped_still g u none =
    let still = settle_still g (length u.entries) u (nothing_next_waits u none) in
    search_stops g 0 u (ap (λ u. next_waiting u.entries) still ∙ nothing_next_waits u none) ∙ still

last_turn : FloorOfFinish → (g : PebbleGame) → IsDag g.dag → (first budget : ℕ) (t : Search) → Stands g first t → search_on g (suc budget) t ≡ search_on g 1 (search_on g budget t)
last_turn ends g dag first zero t stands = ap (search_on g 1) (sym (search_ends g t))
last_turn ends g dag first (suc budget) t stands =
    let given = settles g dag first t stands in
    elim given.goes_on [
      | inl none ↦
          search_stops g (suc budget) t none.0 ∙ sym (stopped_still g (settled_of g t) none.1) ∙ ap (search_on g 1) (sym (search_stops g budget t none.0))
      | inr e ↦
          let made = has_expanded ends g dag first (settled_of g t) given.stands e.0 e.2 in
          search_goes g (suc budget) t e.0 e.1 ∙ last_turn ends g dag first budget (expand g e.0 (settled_of g t)) made.stands
          ∙ ap (search_on g 1) (sym (search_goes g budget t e.0 e.1))
    ]

pub rows_are_made_in_order : FloorOfFinish → RowsAreMadeInOrder
rows_are_made_in_order ends g dag plan finishing budget =
    let has = search_has ends g dag plan finishing budget in
    let turn = one_turn ends g dag _ (searched g plan budget) has.stands in
    let same = last_turn ends g dag _ budget (begun g plan) (begun_stands g dag plan finishing) in
    record {
      kept = λ r i. subst (λ u. IsIn r (rows_of u.entries)) (sym same) (turn.0 r i);
      later = λ r q i j. turn.1 r q i (subst (λ u. IsIn q (rows_of u.entries)) same j);
    }

pub support_is_below : FloorOfFinish → BoundIsBelowPebblings → SupportIsBelowPebblings
support_is_below ends below g dag plan finishing budget bound support =
    below g dag (rows_searched g plan budget) bound (is_valid g dag _ (searched g plan budget) (search_has ends g dag plan finishing budget).stands bound support)

fewer_or_all : (a b : ℕ) → a ≤ b → (a < b) ⊎ (a ≡ b)
fewer_or_all a b h = grind arith

pub open_fills_budget : FloorOfFinish → OpenFillsBudget
open_fills_budget ends g dag plan finishing budget bound support less =
    let early = few_rows_are_optimal ends g dag plan finishing budget in
    elim (fewer_or_all (length (rows_searched g plan budget)) budget early.few) [
      | inl fewer ↦ absurd (let met = early.fewer fewer bound support in omega arith)
      | inr all ↦ all
    ]
