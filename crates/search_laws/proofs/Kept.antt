-- What a search keeps at each turn.
use Rattle.std.proofs.Common.{◌≡◌, ℕ, ◌+◌, ◌≤◌, ◌<◌, leb, Bool, true, false, not, ◌&&◌, ◌||◌, List, [], ◌∷◌, ◌++◌, cond, ◌⊎◌, inl, inr, refl, sym, ap, ◌∙◌, subst, arith}
use Rattle.std.specs.Prelude.{fold}
use Rattle.comp_graph.specs.Games.{PebbleGame}
use Rattle.comp_graph.specs.Dags.{IsDag}
use Rattle.pebble_rules.specs.declared.position.Position.{Position}
use Rattle.pebble_rules.specs.Rules.{start}
use Rattle.normal_steps.specs.Steps.{IsStep, stepped, step_cost, IsPlay, play_after, play_cost, CanFinish, finish_cost, IsFinishing, total_cost}
use Rattle.normal_steps.specs.declared.step.Step.{Step}
use Rattle.comp_graph.proofs.DagLaws.{both, either, and-true}
use Rattle.pebble_rules.proofs.Possible.{not_member, true_or_false}
use Rattle.normal_steps.proofs.Simulation.{append_after, append_play, append_cost}
use Rattle.comp_graph.specs.Lists.{IsIn}
use Rattle.forced_bounds.specs.Floor.{floor}
use Rattle.forced_bounds.specs.FloorLaws.{FloorOfFinish}
use Rattle.forced_bounds.proofs.Paths.{not_true, true_not}
use Rattle.potential_cert.specs.declared.tables.Row.{Row}
use Rattle.potential_cert.specs.Table.{offer}
use Rattle.normal_steps.specs.StepTests.{can_finish}
use Rattle.search_laws.specs.Steps.{same_position}
use Rattle.search_laws.specs.Search.{waiting, is_waiting, is_expanded, Entry, Search, has_within, without, tried, step_tried, rows_of}
use Rattle.search_laws.specs.Standing.{HasEntryWithin, IsKept, IsReachedBy, IsSettled, row_of, start_row}
use Rattle.search_laws.proofs.Lists.{filter_in, in_filter, append_cases, in_left, in_right, any_in, in_any}
use Rattle.search_laws.proofs.Tests.{same_position_true, true_same_position, can_finish_true, true_can_finish, leb_true}
use Rattle.search_laws.proofs.Entries.{apart_push, apart_filter, in_rows, rows_push, NoRowAt, rows_without}

-- ---- a step is tried

-- the search u after the search t, once a step that leads to q at cost h is tried
pub record IsTried (g : PebbleGame) (first : ℕ) (t : Search) (q : Position) (h : ℕ) (u : Search) : Type 0 where
  pub kept : IsKept g first u
  pub rows : rows_of u.entries ≡ rows_of t.entries
  pub lower : u.cost ≤ t.cost
  pub stay : (p : Position) (c : ℕ) → HasEntryWithin t.entries p c → HasEntryWithin u.entries p c
  pub settled : (u.cost ≤ h + floor g q) ⊎ HasEntryWithin u.entries q h

false_or : (a b : Bool) → (a || b) ≡ false → (a ≡ false) × (b ≡ false)
false_or true b h = absurd (grind arith)
false_or false b h = (refl, h)

leb_false : (a b : ℕ) → leb a b ≡ false → b < a
leb_false a b h = grind arith

module _ (ends : FloorOfFinish) (g : PebbleGame) (dag : IsDag g.dag) (first : ℕ) (q : Position) (h : ℕ) (play : List Step) (is : IsReachedBy g q h play) (t : Search) (kept : IsKept g first t)
    (rows_below : (r : Row) → IsIn r (rows_of t.entries) → r.cost ≤ h) (started : IsIn (start_row g) (rows_of t.entries)) where
  passed : (leb t.cost (h + floor g q) || has_within t.entries q h) ≡ true → IsTried g first t q h t
  passed why = record {
    kept = kept;
    rows = refl;
    lower = omega arith;
    stay = λ p c has. has;
    settled = elim (either (leb t.cost (h + floor g q)) (has_within t.entries q h) why) [
      | inl beaten ↦ inl (leb_true _ _ beaten)
      | inr has ↦
          let e = any_in (λ e. same_position e.position q && leb e.cost h) t.entries has in
          let parts = both (same_position e.0.position q) (leb e.0.cost h) e.2 in
          inr (e.0, e.1, same_position_true e.0.position q parts.0, leb_true _ _ parts.1)
    ];
  }

  finished : (leb t.cost (h + floor g q) || has_within t.entries q h) ≡ false → can_finish g q ≡ true
      → IsTried g first t q h (record { plan = play; cost = h + finish_cost g q; entries = t.entries })
  finished why can =
      let finish = can_finish_true g q can in
      let floor_is = ends g dag q finish in
      let less : h + floor g q < t.cost = leb_false _ _ (false_or (leb t.cost (h + floor g q)) (has_within t.entries q h) why).0 in
      let no_more = kept.no_more in
      record {
        kept = record {
          finishing = record { play = is.play; finishes = subst (CanFinish g) (sym is.ends) finish };
          costs = let costs = is.costs in let last = ap (finish_cost g) is.ends in omega arith;
          no_more = omega arith;
          played = kept.played;
          unfinished = kept.unfinished;
          apart = kept.apart;
          beaten = λ e i w x. let old = kept.beaten e i w x in omega arith;
          order = kept.order;
          begins = inl started;
        };
        rows = refl;
        lower = omega arith;
        stay = λ p c has. has;
        settled = inl (omega arith);
      }

  abbrev new_entry : Entry
  new_entry = record { position = q; cost = h; play = play; mark = waiting }

  abbrev elsewhere : Entry → Bool
  elsewhere e = not (same_position e.position q)

  -- an entry of q costs more
  costs_more : has_within t.entries q h ≡ false → (e : Entry) → IsIn e t.entries → e.position ≡ q → h < e.cost
  costs_more none e i same = leb_false _ _ (not_member (leb e.cost h) (λ within.
      let has = in_any (λ e. same_position e.position q && leb e.cost h) e t.entries i (and-true _ _ (true_same_position e.position q same) within) in
      grind arith))

  no_row_here : has_within t.entries q h ≡ false → NoRowAt q t.entries
  no_row_here none e i same = not_member _ (λ row.
      let most = rows_below (row_of e) (in_rows e t.entries i row) in
      let more = costs_more none e i same in
      omega arith)

  pub same_rows : has_within t.entries q h ≡ false → rows_of (without t.entries q ++ new_entry ∷ []) ≡ rows_of t.entries
  same_rows none = rows_push (without t.entries q) new_entry refl ∙ rows_without q t.entries (no_row_here none)

  abbrev OldOrNew : Entry → Type 0
  OldOrNew e = (IsIn e t.entries × (e.position ≡ q → ⊥)) ⊎ (e ≡ new_entry)

  old_or_new : (e : Entry) → IsIn e (without t.entries q ++ new_entry ∷ []) → OldOrNew e
  old_or_new e i = elim (append_cases e (without t.entries q) (new_entry ∷ []) i) [
    | inl old ↦
        let is = filter_in elsewhere e t.entries old in
        inl (is.0, λ same. let yes_same = true_same_position e.position q same in let apart = not_true _ is.1 in grind arith)
    | inr last ↦ inr (last_in e last)
  ]
    where
      last_in : (e : Entry) → IsIn e (new_entry ∷ []) → e ≡ new_entry
      last_in e (inl same) = same
      last_in e (inr i) = absurd i

  each : (P : Entry → Type 0) → ((e : Entry) → IsIn e t.entries → P e) → P new_entry → (e : Entry) → IsIn e (without t.entries q ++ new_entry ∷ []) → P e
  each P old new e i = elim (old_or_new e i) [ inl is ↦ old e is.0 | inr same ↦ subst P (sym same) new ]

  added : (leb t.cost (h + floor g q) || has_within t.entries q h) ≡ false → can_finish g q ≡ false
      → IsTried g first t q h (record { plan = t.plan; cost = t.cost; entries = without t.entries q ++ new_entry ∷ [] })
  added why cannot =
      let none : has_within t.entries q h ≡ false = (false_or (leb t.cost (h + floor g q)) (has_within t.entries q h) why).1 in
      let rows = same_rows none in
      record {
        kept = record {
          finishing = kept.finishing;
          costs = kept.costs;
          no_more = kept.no_more;
          played = each (λ e. IsReachedBy g e.position e.cost e.play) kept.played is;
          unfinished = each (λ e. CanFinish g e.position → ⊥) kept.unfinished (λ finish. let can = true_can_finish g q finish in grind arith);
          apart = apart_push (without t.entries q) new_entry (apart_filter elsewhere t.entries kept.apart)
              (λ f i same. let is = filter_in elsewhere f t.entries i in let yes_same = true_same_position f.position q same in let apart = not_true _ is.1 in grind arith);
          beaten = each (λ e. is_waiting e.mark ≡ false → is_expanded e.mark ≡ false → t.cost ≤ e.cost + floor g e.position) kept.beaten (λ w x. absurd (grind arith));
          order = λ e i w r j.
              each (λ e. is_waiting e.mark ≡ true → (r : Row) → IsIn r (rows_of t.entries) → r.cost ≤ e.cost) kept.order (λ w r j. rows_below r j) e i w r
              (subst (λ rows. IsIn r rows) rows j);
          begins = inl (subst (λ rows. IsIn (start_row g) rows) (sym rows) started);
        };
        rows = rows;
        lower = omega arith;
        stay = λ p c has. elim (true_or_false (same_position has.0.position q)) [
          | inl same ↦
              let at = same_position_true has.0.position q same in
              let more = costs_more none has.0 has.1 at in
              let few = has.3 in
              (new_entry, in_right new_entry (without t.entries q) (new_entry ∷ []) (inl refl), sym at ∙ has.2, omega arith)
          | inr not_same ↦
              (has.0, in_left has.0 (without t.entries q) (new_entry ∷ []) (in_filter elsewhere has.0 t.entries has.1 (true_not _ not_same)), has.2, has.3)
        ];
        settled = inr (new_entry, in_right new_entry (without t.entries q) (new_entry ∷ []) (inl refl), refl, omega arith);
      }

  tried_by : (b c : Bool) → (leb t.cost (h + floor g q) || has_within t.entries q h) ≡ b → can_finish g q ≡ c
      → IsTried g first t q h (cond b t (cond c
      (record { plan = play; cost = h + finish_cost g q; entries = t.entries })
      (record { plan = t.plan; cost = t.cost; entries = without t.entries q ++ new_entry ∷ [] })))
  tried_by true c why can = passed why
  tried_by false true why can = finished why can
  tried_by false false why can = added why can

  pub is_tried : IsTried g first t q h (tried g play q h t)
  unfolding tried
  is_tried = tried_by (leb t.cost (h + floor g q) || has_within t.entries q h) (can_finish g q) refl refl

-- ---- all steps are tried

-- the search u after the search t, once these steps from the entry are tried
pub record AreTried (g : PebbleGame) (first : ℕ) (e : Entry) (t : Search) (ss : List Step) (u : Search) : Type 0 where
  pub kept : IsKept g first u
  pub rows : rows_of u.entries ≡ rows_of t.entries
  pub lower : u.cost ≤ t.cost
  pub stay : (p : Position) (c : ℕ) → HasEntryWithin t.entries p c → HasEntryWithin u.entries p c
  pub settled : (s : Step) → IsIn s ss → IsSettled g u (row_of e) s

pub play_push : (g : PebbleGame) (p : Position) (c : ℕ) (ss : List Step) (s : Step) → IsReachedBy g p c ss → IsStep g p s → IsReachedBy g (stepped g p s) (c + step_cost g p s) (ss ++ s ∷ [])
play_push g p c ss s is step = record {
  play = append_play g (start g) ss (s ∷ []) is.play (subst (λ p. IsStep g p s) (sym is.ends) step, tt);
  ends = append_after g (start g) ss (s ∷ []) ∙ ap (λ p. stepped g p s) is.ends;
  costs =
      let whole = append_cost g (start g) ss (s ∷ []) in
      let costs = is.costs in
      let last = ap (λ p. step_cost g p s) is.ends in
      omega arith;
}

pub all_tried : FloorOfFinish → (g : PebbleGame) → IsDag g.dag → (first : ℕ) (e : Entry) → IsReachedBy g e.position e.cost e.play
    → (ss : List Step) → ((s : Step) → IsIn s ss → IsStep g e.position s)
    → (t : Search) → IsKept g first t → ((r : Row) → IsIn r (rows_of t.entries) → r.cost ≤ e.cost) → IsIn (start_row g) (rows_of t.entries)
    → AreTried g first e t ss (fold (step_tried g e) t ss)
all_tried ends g dag first e is [] legal t kept below started = record {
  kept = kept;
  rows = refl;
  lower = omega arith;
  stay = λ p c has. has;
  settled = λ s i. absurd i;
}
all_tried ends g dag first e is (s ∷ ss) legal t kept below started =
    let one = is_tried ends g dag first (stepped g e.position s) (e.cost + step_cost g e.position s) (e.play ++ s ∷ [])
    (play_push g e.position e.cost e.play s is (legal s (inl refl))) t kept (λ r i. let most = below r i in omega arith) started in
    let rest = all_tried ends g dag first e is ss (λ s i. legal s (inr i)) (step_tried g e t s) one.kept
    (λ r i. below r (subst (λ rows. IsIn r rows) one.rows i)) (subst (λ rows. IsIn (start_row g) rows) (sym one.rows) started) in
    record {
      kept = rest.kept;
      rows = rest.rows ∙ one.rows;
      lower = let a = one.lower in let b = rest.lower in omega arith;
      stay = λ p c has. rest.stay p c (one.stay p c has);
      settled = λ x i. settled_by x i one.settled one.stay rest.lower rest.stay rest.settled;
    }
  where
    settled_by : (x : Step) → (x ≡ s) ⊎ IsIn x ss
        → ((step_tried g e t s).cost ≤ e.cost + step_cost g e.position s + floor g (stepped g e.position s)) ⊎ HasEntryWithin (step_tried g e t s).entries (stepped g e.position s) (e.cost + step_cost g e.position s)
        → ((p : Position) (c : ℕ) → HasEntryWithin t.entries p c → HasEntryWithin (step_tried g e t s).entries p c)
        → (fold (step_tried g e) (step_tried g e t s) ss).cost ≤ (step_tried g e t s).cost
        → ((p : Position) (c : ℕ) → HasEntryWithin (step_tried g e t s).entries p c → HasEntryWithin (fold (step_tried g e) (step_tried g e t s) ss).entries p c)
        → ((x : Step) → IsIn x ss → IsSettled g (fold (step_tried g e) (step_tried g e t s) ss) (row_of e) x)
        → IsSettled g (fold (step_tried g e) (step_tried g e t s) ss) (row_of e) x
    settled_by x (inr i) here stay lower stays rest = rest x i
    settled_by x (inl same) (inl beaten) stay lower stays rest =
        subst (IsSettled g (fold (step_tried g e) (step_tried g e t s) ss) (row_of e)) (sym same) (inl (omega arith))
    settled_by x (inl same) (inr has) stay lower stays rest =
        subst (IsSettled g (fold (step_tried g e) (step_tried g e t s) ss) (row_of e)) (sym same) (inr (stays _ _ has))
