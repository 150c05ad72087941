-- The support by the waiting entries.
use Rattle.std.proofs.Common.{◌≡◌, ℕ, zero, suc, ◌+◌, ◌≤◌, ◌<◌, ltb, leb, Bool, true, false, not, ◌&&◌, ◌||◌, List, [], ◌∷◌, ◌++◌, length, cond, ◌⊎◌, inl, inr, refl, sym, ap, ◌∙◌, subst, arith}
use Rattle.std.specs.Prelude.{fold, Option, Some, None}
use Rattle.comp_graph.specs.Games.{PebbleGame}
use Rattle.comp_graph.specs.Dags.{IsDag}
use Rattle.pebble_rules.specs.declared.position.Position.{Position}
use Rattle.pebble_rules.specs.Rules.{start}
use Rattle.normal_steps.specs.Steps.{IsStep, stepped, step_cost, finish_cost, CanFinish, IsFinishing, total_cost}
use Rattle.normal_steps.specs.declared.step.Step.{Step}
use Rattle.pebble_rules.proofs.Possible.{true_or_false}
use Rattle.comp_graph.specs.Lists.{IsIn}
use Rattle.forced_bounds.specs.Floor.{floor}
use Rattle.forced_bounds.specs.FloorLaws.{FloorOfFinish}
use Rattle.potential_cert.specs.declared.tables.Row.{Row}
use Rattle.potential_cert.specs.Table.{HasRow, offer, IsLeaving, IsSupport}
use Rattle.normal_steps.specs.StepTests.{can_finish, legal_steps}
use Rattle.search_laws.specs.Search.{Mark, waiting, expanded, given_up, is_waiting, is_expanded, Entry, Search, first_entry, begun, next_waiting, marked_at, has_within, without, tried, step_tried, becomes_row, expand, is_beaten, give_up, if_next, settle, search_on, searched, rows_of, rows_searched}
use Rattle.search_laws.specs.Standing.{HasEntryWithin, IsFresh, IsKept, IsNext, IsReachedBy, IsSettled, Stands, row_of, start_row}
use Rattle.search_laws.proofs.Lists.{append_cases, filter_in}
use Rattle.search_laws.proofs.Tests.{legal_steps_legal}
use Rattle.search_laws.proofs.Entries.{NoneWaits, NextCases, next_cases, apart_same, MarkCases, marked_in, mark_keeps, FromEntry, rows_in, in_rows}
use Rattle.search_laws.proofs.Kept.{is_tried, play_push}
use Rattle.search_laws.proofs.Turns.{given_up_stands, same_rows, rows_before, row_new, started, rows_below, becomes_row_kept, has_expanded, settled_of, settles, search_stops, search_goes, search_ends, has_searched, played_sound}
use Rattle.search_laws.proofs.Results.{begun_stands}
use Rattle.search_laws.specs.Shortcut.{IsLeastWaiting, SupportIsLeastWaiting}

-- the entry is the start's, or a step from a row leads to it at its cost
pub record IsReachedFrom (g : PebbleGame) (rows : List Row) (r : Row) : Type 0 where
  pub from : Row
  pub step : Step
  pub row : IsIn from rows
  pub legal : IsStep g from.position step
  pub leads : stepped g from.position step ≡ r.position
  pub costs : from.cost + step_cost g from.position step ≡ r.cost

abbrev pub Comes : PebbleGame → List Row → Row → Type 0
Comes g rows r = (r ≡ start_row g) ⊎ IsReachedFrom g rows r

abbrev pub AllCome : PebbleGame → Search → Type 0
AllCome g t = (e : Entry) → IsIn e t.entries → Comes g (rows_of t.entries) (row_of e)

more_rows : (g : PebbleGame) (rows more : List Row) (r : Row) → ((x : Row) → IsIn x rows → IsIn x more) → Comes g rows r → Comes g more r
more_rows g rows more r stay (inl is) = inl is
more_rows g rows more r stay (inr is) = inr (record { from = is.from; step = is.step; row = stay is.from is.row; legal = is.legal; leads = is.leads; costs = is.costs })

come_marked : (g : PebbleGame) (m : Mark) (p : Position) (t : Search) → ((x : Row) → IsIn x (rows_of t.entries) → IsIn x (rows_of (marked_at m p t.entries))) → AllCome g t
    → (f : Entry) → IsIn f (marked_at m p t.entries) → Comes g (rows_of (marked_at m p t.entries)) (row_of f)
come_marked g m p t stay come f i =
    let x = marked_in m p t.entries f i in
    let same : row_of f ≡ row_of x.0 = mark_keeps m p x.0 f x.2 (λ f. row_of f ≡ row_of x.0) refl (λ h. h) in
    subst (Comes g (rows_of (marked_at m p t.entries))) (sym same) (more_rows g (rows_of t.entries) (rows_of (marked_at m p t.entries)) (row_of x.0) stay (come x.0 x.1))

-- ---- a step is tried

OldOrNew : PebbleGame → List Step → Position → ℕ → Search → Entry → Search → Type 0
OldOrNew g play q h t f u = IsIn f u.entries → IsIn f t.entries ⊎ (row_of f ≡ record { position = q; cost = h })

tried_by : (g : PebbleGame) (play : List Step) (q : Position) (h : ℕ) (t : Search) (f : Entry) (b c : Bool)
    → IsIn f (cond b t (cond c
    (record { plan = play; cost = h + finish_cost g q; entries = t.entries })
    (record { plan = t.plan; cost = t.cost; entries = without t.entries q ++ record { position = q; cost = h; play = play; mark = waiting } ∷ [] }))).entries
    → IsIn f t.entries ⊎ (row_of f ≡ record { position = q; cost = h })
tried_by g play q h t f true c i = inl i
tried_by g play q h t f false true i = inl i
tried_by g play q h t f false false i = elim (append_cases f (without t.entries q) (record { position = q; cost = h; play = play; mark = waiting } ∷ []) i) [
  | inl old ↦ inl (filter_in _ f t.entries old).0
  | inr last ↦ last_in last
]
  where
    last_in : IsIn f (record { position = q; cost = h; play = play; mark = waiting } ∷ []) → IsIn f t.entries ⊎ (row_of f ≡ record { position = q; cost = h })
    last_in (inl same) = inr (ap row_of same)
    last_in (inr i) = absurd i

tried_entries : (g : PebbleGame) (play : List Step) (q : Position) (h : ℕ) (t : Search) (f : Entry) → IsIn f (tried g play q h t).entries → IsIn f t.entries ⊎ (row_of f ≡ record { position = q; cost = h })
unfolding tried
tried_entries g play q h t f i = tried_by g play q h t f (leb t.cost (h + floor g q) || has_within t.entries q h) (can_finish g q) i

come_tried : (g : PebbleGame) (e : Entry) (t : Search) (s : Step) → IsStep g e.position s → rows_of (step_tried g e t s).entries ≡ rows_of t.entries → IsIn (row_of e) (rows_of t.entries) → AllCome g t → AllCome g (step_tried g e t s)
come_tried g e t s legal same row come f i =
    subst (λ rows. Comes g rows (row_of f)) (sym same)
    (by_case (tried_entries g (e.play ++ s ∷ []) (stepped g e.position s) (e.cost + step_cost g e.position s) t f i))
  where
    by_case : IsIn f t.entries ⊎ (row_of f ≡ record { position = stepped g e.position s; cost = e.cost + step_cost g e.position s }) → Comes g (rows_of t.entries) (row_of f)
    by_case (inl old) = come f old
    by_case (inr new) = inr (record { from = row_of e; step = s; row = row; legal = legal; leads = sym (ap (λ r. r.position) new); costs = sym (ap (λ r. r.cost) new) })

come_all_tried : FloorOfFinish → (g : PebbleGame) → IsDag g.dag → (first : ℕ) (e : Entry) → IsReachedBy g e.position e.cost e.play
    → (ss : List Step) → ((s : Step) → IsIn s ss → IsStep g e.position s)
    → (t : Search) → IsKept g first t → ((r : Row) → IsIn r (rows_of t.entries) → r.cost ≤ e.cost) → IsIn (start_row g) (rows_of t.entries)
    → IsIn (row_of e) (rows_of t.entries) → AllCome g t → AllCome g (fold (step_tried g e) t ss)
come_all_tried ends g dag first e is [] legal t kept below begins row come = come
come_all_tried ends g dag first e is (s ∷ ss) legal t kept below begins row come =
    let one = is_tried ends g dag first (stepped g e.position s) (e.cost + step_cost g e.position s) (e.play ++ s ∷ [])
    (play_push g e.position e.cost e.play s is (legal s (inl refl))) t kept (λ r i. let most = below r i in omega arith) begins in
    come_all_tried ends g dag first e is ss (λ s i. legal s (inr i)) (step_tried g e t s) one.kept
    (λ r i. below r (subst (λ rows. IsIn r rows) one.rows i)) (subst (λ rows. IsIn (start_row g) rows) (sym one.rows) begins)
    (subst (λ rows. IsIn (row_of e) rows) (sym one.rows) row) (come_tried g e t s (legal s (inl refl)) one.rows row come)

-- ---- turns

come_expanded : FloorOfFinish → (g : PebbleGame) → IsDag g.dag → (first : ℕ) (t : Search) → Stands g first t → (e : Entry) → IsNext t.entries e → AllCome g t → AllCome g (expand g e t)
unfolding expand
come_expanded ends g dag first t stands e next come =
    come_all_tried ends g dag first e (stands.kept.played e next.member) (legal_steps g e.position) (legal_steps_legal g dag e.position (played_sound g dag e.position e.cost e.play (stands.kept.played e next.member))) (becomes_row e t)
    (becomes_row_kept g dag first t stands.kept e next) (rows_below g dag first t stands.kept e next) (started g dag first t stands.kept e next) (row_new g dag first t stands.kept e next)
    (come_marked g expanded e.position t (rows_before g dag first t stands.kept e next) come)

come_given_up : (g : PebbleGame) → IsDag g.dag → (first : ℕ) (t : Search) → Stands g first t → (e : Entry) → IsNext t.entries e → AllCome g t → AllCome g (give_up e t)
come_given_up g dag first t stands e next come =
    come_marked g given_up e.position t (λ x i. subst (λ rows. IsIn x rows) (sym (same_rows g dag first t stands.kept e next)) i) come

come_settled : (g : PebbleGame) → IsDag g.dag → (first n : ℕ) (t : Search) → Stands g first t → AllCome g t → AllCome g (settle g n t)
unfolding settle
come_settled g dag first zero t stands come = come
come_settled g dag first (suc n) t stands come =
    by_next (next_cases t.entries) (λ e next why. come_settled g dag first n (give_up e t) (given_up_stands g dag first t stands e next why) (come_given_up g dag first t stands e next come))
  where
    by_mark : (e : Entry) → next_waiting t.entries ≡ Some e → IsNext t.entries e → (b : Bool) → is_beaten g t e ≡ b → ((is_beaten g t e ≡ true) → AllCome g (settle g n (give_up e t))) → AllCome g (settle g (suc n) t)
    by_mark e is next true why rest =
        subst (AllCome g) (sym (ap (λ o. if_next o t (λ e. cond (is_beaten g t e) (settle g n (give_up e t)) t)) is ∙ ap (λ b. cond b (settle g n (give_up e t)) t) why)) (rest why)
    by_mark e is next false why rest =
        subst (AllCome g) (sym (ap (λ o. if_next o t (λ e. cond (is_beaten g t e) (settle g n (give_up e t)) t)) is ∙ ap (λ b. cond b (settle g n (give_up e t)) t) why)) come

    by_next : NextCases t.entries (next_waiting t.entries) → ((e : Entry) → IsNext t.entries e → is_beaten g t e ≡ true → AllCome g (settle g n (give_up e t))) → AllCome g (settle g (suc n) t)
    by_next (inl none) rest = subst (AllCome g) (sym (ap (λ o. if_next o t (λ e. cond (is_beaten g t e) (settle g n (give_up e t)) t)) none.0)) come
    by_next (inr e) rest = by_mark e.0 e.1 e.2 (is_beaten g t e.0) refl (rest e.0 e.2)

come_searched : FloorOfFinish → (g : PebbleGame) → IsDag g.dag → (first budget : ℕ) (t : Search) → Stands g first t → AllCome g t → AllCome g (search_on g budget t)
come_searched ends g dag first zero t stands come = subst (AllCome g) (sym (search_ends g t)) come
come_searched ends g dag first (suc budget) t stands come =
    let given = settles g dag first t stands in
    let here = come_settled g dag first (length t.entries) t stands come in
    elim given.goes_on [
      | inl none ↦ subst (AllCome g) (sym (search_stops g budget t none.0)) here
      | inr e ↦
          subst (AllCome g) (sym (search_goes g budget t e.0 e.1))
          (come_searched ends g dag first budget (expand g e.0 (settled_of g t)) (has_expanded ends g dag first (settled_of g t) given.stands e.0 e.2).stands
          (come_expanded ends g dag first (settled_of g t) given.stands e.0 e.2 here))
    ]

begun_comes : (g : PebbleGame) (plan : List Step) → AllCome g (begun g plan)
unfolding begun
begun_comes g plan = by_case (ltb (floor g (start g)) (total_cost g (start g) plan))
  where
    by_case : (b : Bool) → (e : Entry) → IsIn e (cond b (first_entry g ∷ []) []) → Comes g (rows_of (cond b (first_entry g ∷ []) [])) (row_of e)
    by_case true e (inl same) = inl (ap row_of same)
    by_case true e (inr i) = absurd i
    by_case false e i = absurd i

-- ---- the support

module _ (g : PebbleGame) (first : ℕ) (t : Search) (stands : Stands g first t) (come : AllCome g t) (least : ℕ) (is : IsLeastWaiting g t least) where
  -- an entry that is no row bounds from above
  below_entry : (m : Mark) (e : Entry) → e.mark ≡ m → IsIn e t.entries → is_expanded e.mark ≡ false → least ≤ e.cost + floor g e.position
  below_entry waiting e at i no_row = is.within_waiting e i (ap is_waiting at)
  below_entry expanded e at i no_row = absurd (let row = ap is_expanded at in grind arith)
  below_entry given_up e at i no_row = let beaten = stands.kept.beaten e i (ap is_waiting at) (ap is_expanded at) in let most = is.within_cost in omega arith

  below_floor : rows_of t.entries ≡ [] → least ≤ floor g (start g)
  below_floor none = elim stands.kept.begins [
    | inl row ↦ absurd (subst (λ rows. IsIn (start_row g) rows) none row)
    | inr fresh ↦ elim fresh.some [
      | inl beaten ↦ let most = is.within_cost in omega arith
      | inr e ↦
          let starts = fresh.starts e.0 e.1 in
          let no_row : is_expanded e.0.mark ≡ false = elim (true_or_false (is_expanded e.0.mark)) [ inl row ↦ absurd (subst (λ rows. IsIn (row_of e.0) rows) none (in_rows e.0 t.entries e.1 row)) | inr no_is ↦ no_is ] in
          let below = below_entry e.0.mark e.0 refl e.1 no_row in
          let cost = ap (λ r. r.cost) starts in
          let at = ap (λ r. floor g r.position) starts in
          omega arith
    ]
  ]

  below_offer : (r : Row) (s : Step) → IsLeaving g (rows_of t.entries) r s → least ≤ offer g r s
  below_offer r s leaving = elim (stands.settled r leaving.row s leaving.step) [
    | inl beaten ↦ let most = is.within_cost in omega arith
    | inr e ↦
        let no_row : is_expanded e.0.mark ≡ false = elim (true_or_false (is_expanded e.0.mark)) [ inl row ↦ absurd (leaving.leaves (row_of e.0, in_rows e.0 t.entries e.1 row, e.2)) | inr no_is ↦ no_is ] in
        let below = below_entry e.0.mark e.0 refl e.1 no_row in
        let at = ap (floor g) e.2 in
        let cost = e.3 in
        omega arith
  ]

  waiting_leaves : (e : Entry) → IsIn e t.entries → is_waiting e.mark ≡ true → HasRow (rows_of t.entries) e.position → ⊥
  waiting_leaves e i waits row =
      let x = rows_in row.0 t.entries row.1 in
      let same = apart_same t.entries stands.kept.apart x.0 e x.1 i (sym (ap (λ r. r.position) x.3) ∙ row.2) in
      no_row e.mark waits (subst (λ e. is_expanded e.mark ≡ true) same x.2)
    where
      no_row : (m : Mark) → is_waiting m ≡ true → is_expanded m ≡ true → ⊥
      no_row waiting w e = absurd (grind arith)
      no_row expanded w e = absurd (grind arith)
      no_row given_up w e = absurd (grind arith)

  abbrev Met : Type 0
  Met = (least ≡ t.cost) ⊎ (((rows_of t.entries ≡ []) × (least ≡ floor g (start g))) ⊎ ((r : Row) × (s : Step) × IsLeaving g (rows_of t.entries) r s × (least ≡ offer g r s)))

  met_at_start : (e : Entry) → IsIn e t.entries → is_waiting e.mark ≡ true → least ≡ e.cost + floor g e.position → row_of e ≡ start_row g → Met
  met_at_start e i waits met starts = elim stands.kept.begins [
    | inl row ↦ absurd (waiting_leaves e i waits (start_row g, row, sym (ap (λ r. r.position) starts)))
    | inr fresh ↦
        let cost = ap (λ r. r.cost) starts in
        let at = ap (λ r. floor g r.position) starts in
        inr (inl (fresh.no_rows, omega arith))
  ]

  met_at_step : (e : Entry) → IsIn e t.entries → is_waiting e.mark ≡ true → least ≡ e.cost + floor g e.position → IsReachedFrom g (rows_of t.entries) (row_of e) → Met
  met_at_step e i waits met from =
      let at = ap (floor g) from.leads in
      let cost = from.costs in
      inr (inr (from.from, from.step, record { row = from.row; step = from.legal; leaves = λ row. waiting_leaves e i waits (subst (HasRow (rows_of t.entries)) from.leads row) }, omega arith))

  met : Met
  met = elim is.is_met [
    | inl same ↦ inl same
    | inr e ↦ elim (come e.0 e.1) [
      | inl starts ↦ met_at_start e.0 e.1 e.2 e.3 starts
      | inr from ↦ met_at_step e.0 e.1 e.2 e.3 from
    ]
  ]

  pub least_is_support : IsSupport g (rows_of t.entries) t.cost least
  least_is_support = record { within_cost = is.within_cost; within_floor = below_floor; within_offers = below_offer; is_met = met }

pub support_is_least_waiting : FloorOfFinish → SupportIsLeastWaiting
support_is_least_waiting ends g dag plan finishing budget least is =
    let begins = begun_stands g dag plan finishing in
    let found = has_searched ends g dag _ budget (begun g plan) begins in
    least_is_support g _ (searched g plan budget) found.stands (come_searched ends g dag _ budget (begun g plan) begins (begun_comes g plan)) least is
