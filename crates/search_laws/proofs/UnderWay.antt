-- The turns of a whole search.
use Rattle.std.proofs.Common.{◌≡◌, ℕ, zero, suc, ◌+◌, ◌-◌, ◌≤◌, ◌<◌, ◌==◌, ltb, Bool, true, false, ◌&&◌, List, [], ◌∷◌, ◌++◌, map, cond, ◌⊎◌, inl, inr, refl, sym, ap, ◌∙◌, subst, arith}
use Rattle.std.specs.Prelude.{fold, filter, Option, Some, None}
use Rattle.comp_graph.specs.Games.{PebbleGame}
use Rattle.comp_graph.specs.Dags.{IsDag}
use Rattle.pebble_rules.specs.declared.position.Position.{Position}
use Rattle.pebble_rules.specs.Rules.{start}
use Rattle.normal_steps.specs.Steps.{IsFinishing, total_cost}
use Rattle.normal_steps.specs.Sound.{IsSound}
use Rattle.normal_steps.specs.declared.step.Step.{Step}
use Rattle.pebble_rules.proofs.Possible.{true_or_false}
use Rattle.comp_graph.specs.Lists.{IsIn}
use Rattle.forced_bounds.specs.Floor.{floor}
use Rattle.forced_bounds.specs.FloorLaws.{FloorOfFinish}
use Rattle.normal_steps.specs.StepTests.{can_finish, legal_steps}
use Rattle.search_laws.specs.Search.{waiting, is_waiting, Entry, Search, first_entry, begun, becomes_row, expand, next_waiting, step_tried, search_on, searched}
use Rattle.search_laws.specs.Buckets.{bucket}
use Rattle.search_laws.specs.Standing.{Stands}
use Rattle.search_laws.proofs.Tests.{can_finish_true}
use Rattle.search_laws.proofs.Turns.{played_sound, has_expanded, search_ends, search_goes, search_stops, settles}
use Rattle.search_laws.proofs.Results.{begun_stands}
use Rattle.search_laws.specs.Packing.{Place, Store, Best, entry_of, entry_at, is_live, IsChild, Packs}
use Rattle.search_laws.specs.Turning.{IsExpanding, AreTried, next_entry, HasNext, FindsNext, HasStopped, Stops, IsUnderWay, IsDone}
use Rattle.search_laws.proofs.Queues.{decide}
use Rattle.search_laws.proofs.Choosing.{is_expanding}

-- ---- the beginning

module _ (g : PebbleGame) (dag : IsDag g.dag) (first : List Step) (finishing : IsFinishing g (start g) first) (budget : ℕ) (s : Store) (b : Best) (cost : b.cost ≡ total_cost g (start g) first) (from : b.from ≡ None) where
  begins_with : (t : Search) → begun g first ≡ t → (plays : ℕ → List Step) → Packs g first s b plays t → IsUnderWay g first budget 0 s b
  begins_with t same plays packs = record {
    plays = plays;
    search = begun g first;
    packs = subst (Packs g first s b plays) (sym same) packs;
    stands = begun_stands g dag first finishing;
    goes = let all : budget - 0 ≡ budget = omega arith in ap (λ n. search_on g n (begun g first)) all;
  }

  abbrev begun_as : List Entry → Search
  begun_as es = record { plan = first; cost = total_cost g (start g) first; entries = es }

  begun_is : (c : Bool) → ltb (floor g (start g)) (total_cost g (start g) first) ≡ c → begun g first ≡ begun_as (cond c (first_entry g ∷ []) [])
  unfolding begun
  begun_is c h = ap (λ c. begun_as (cond c (first_entry g ∷ []) [])) h

  -- the first plan cannot be beaten
  pub begins_closed : s.size ≡ 0 → ((c : ℕ) → s.queue c ≡ []) → total_cost g (start g) first ≤ floor g (start g) → IsUnderWay g first budget 0 s b
  begins_closed none empty beaten =
      begins_with (begun_as []) (begun_is false (let h = beaten in not_less (floor g (start g)) (total_cost g (start g) first) h)) (λ k. []) (record {
        placed = λ k h. absurd (omega arith);
        entered = λ e i. absurd i;
        apart = λ j k h i same. absurd (omega arith);
        queued = λ c. ap (λ ks. map (entry_at s (λ k. [])) (filter (is_live s c) ks)) (sym (empty c));
        below = λ c k i. absurd (subst (λ ks. IsIn k ks) (empty c) i);
        floors = λ k h. absurd (omega arith);
        unfinished = λ k h. absurd (omega arith);
        begins = refl;
        free = λ h. absurd (omega arith);
        child = λ k some h. absurd (omega arith);
        cost = sym cost;
        plan = plan_of b.from from;
      })
    where
      not_less : (x y : ℕ) → y ≤ x → ltb x y ≡ false
      not_less x y h = grind arith

      plan_of : (from : Option ℕ) → from ≡ None → Rattle.search_laws.specs.Packing.IsBest first s (λ k. []) from b.step first
      plan_of None is = refl
      plan_of (Some k) is = absurd (grind arith)

  -- the start is the one place
  pub begins_open : (p : Place) → s.size ≡ 1 → s.at 0 ≡ p → p.position ≡ start g → p.cost ≡ 0 → p.mark ≡ waiting → p.floor ≡ floor g (start g) → s.queue 0 ≡ 0 ∷ [] → ((c : ℕ) → (c ≡ 0 → ⊥) → s.queue c ≡ [])
      → floor g (start g) < total_cost g (start g) first → IsUnderWay g first budget 0 s b
  begins_open p one here at_start at_zero waits floor_is queue others better =
      begins_with (begun_as (first_entry g ∷ [])) begun_open (λ k. []) (record {
        placed = λ k h. inl (entry_is k (zero_is k h));
        entered = λ e i. entered e i;
        apart = λ j k h i same. zero_is j h ∙ sym (zero_is k i);
        queued = queued;
        below = below;
        floors = λ k h. subst (λ k. (s.at k).floor ≡ floor g (s.at k).position) (sym (zero_is k h)) (ap (λ p. p.floor) here ∙ floor_is ∙ ap (floor g) (sym place));
        unfinished = λ k h. subst (λ k. can_finish g (s.at k).position ≡ false) (sym (zero_is k h)) (ap (can_finish g) place ∙ cannot);
        begins = refl;
        free = λ h. ap (λ p. p.cost) here ∙ at_zero;
        child = λ k some h. absurd (omega arith);
        cost = sym cost;
        plan = plan_of b.from from;
      })
    where
      less : (x y : ℕ) → x < y → ltb x y ≡ true
      less x y h = grind arith

      begun_open : begun g first ≡ begun_as (first_entry g ∷ [])
      begun_open = begun_is true (less (floor g (start g)) (total_cost g (start g) first) better)

      place : (s.at 0).position ≡ start g
      place = ap (λ p. p.position) here ∙ at_start

      zero_is : (k : ℕ) → k < s.size → k ≡ 0
      zero_is k h = omega arith

      entry_zero : entry_at s (λ k. []) 0 ≡ first_entry g
      entry_zero =
          ap (λ p. entry_of p []) here ∙ ap (λ q. record { position = q; cost = p.cost; play = []; mark = p.mark }) at_start
          ∙ ap (λ c. record { position = start g; cost = c; play = []; mark = p.mark }) at_zero ∙ ap (λ m. record { position = start g; cost = 0; play = []; mark = m }) waits

      entry_is : (k : ℕ) → k ≡ 0 → entry_at s (λ k. []) k ≡ first_entry g
      entry_is k same = ap (entry_at s (λ k. [])) same ∙ entry_zero

      entered : (e : Entry) → IsIn e (first_entry g ∷ []) → (k : ℕ) × (k < s.size) × (e ≡ entry_at s (λ k. []) k)
      entered e (inl same) = (0, omega arith, same ∙ sym entry_zero)
      entered e (inr i) = absurd i

      live : is_live s 0 0 ≡ true
      live = ap (λ p. is_waiting p.mark && (p.cost == 0)) here ∙ ap (λ m. is_waiting m && (p.cost == 0)) waits ∙ ap (λ c. true && (c == 0)) at_zero

      other_cost : (c : ℕ) → (c ≡ 0 → ⊥) → (true && (0 == c)) ≡ false
      other_cost c other = elim (true_or_false (0 == c)) [ inl is ↦ absurd (other (grind arith)) | inr no_is ↦ no_is ]

      queued : (c : ℕ) → bucket c (first_entry g ∷ []) ≡ map (entry_at s (λ k. [])) (filter (is_live s c) (s.queue c))
      queued c = elim (decide c 0) [
        | inl same ↦ subst (λ c. bucket c (first_entry g ∷ []) ≡ map (entry_at s (λ k. [])) (filter (is_live s c) (s.queue c))) (sym same)
            (ap (λ e. e ∷ []) (sym entry_zero) ∙ ap (λ t. map (entry_at s (λ k. [])) (cond t (0 ∷ []) [])) (sym live) ∙ ap (λ ks. map (entry_at s (λ k. [])) (filter (is_live s 0) ks)) (sym queue))
        | inr other ↦ ap (λ t. cond t (first_entry g ∷ []) []) (other_cost c other) ∙ ap (λ ks. map (entry_at s (λ k. [])) (filter (is_live s c) ks)) (sym (others c other))
      ]

      below : (c k : ℕ) → IsIn k (s.queue c) → (k < s.size) × ((s.at k).cost ≤ c)
      below c k i = elim (decide c 0) [
        | inl same ↦ first_only (subst (λ ks. IsIn k ks) queue (subst (λ c. IsIn k (s.queue c)) same i))
        | inr other ↦ absurd (subst (λ ks. IsIn k ks) (others c other) i)
      ]
        where
          first_only : IsIn k (0 ∷ []) → (k < s.size) × ((s.at k).cost ≤ c)
          first_only (inl is) = (omega arith, subst (λ k. (s.at k).cost ≤ c) (sym is) (let costs = ap (λ p. p.cost) here in omega arith))
          first_only (inr i) = absurd i

      cannot : can_finish g (start g) ≡ false
      cannot = elim (true_or_false (can_finish g (start g))) [
        | inl can ↦
            absurd ((begun_stands g dag first finishing).kept.unfinished (first_entry g) (subst (λ t. IsIn (first_entry g) t.entries) (sym begun_open) (inl refl)) (can_finish_true g (start g) can))
        | inr no_can ↦ no_can
      ]

      plan_of : (from : Option ℕ) → from ≡ None → Rattle.search_laws.specs.Packing.IsBest first s (λ k. []) from b.step first
      plan_of None is = refl
      plan_of (Some k) is = absurd (grind arith)

-- ---- a turn

module _ (g : PebbleGame) (dag : IsDag g.dag) (first : List Step) (budget turns : ℕ) (s u : Store) (b : Best) (on : IsUnderWay g first budget turns s b) where
  has_next : (k : ℕ) → FindsNext s u b k → HasNext g (total_cost g (start g) first) first on.plays u b on.search k
  has_next k finds = finds g dag (total_cost g (start g) first) first on.plays on.search on.packs on.stands.kept

  pub next_expanding : (k : ℕ) → FindsNext s u b k → IsExpanding u k
  next_expanding k finds = is_expanding s u b k g dag (total_cost g (start g) first) first on.plays on.search (has_next k finds)

  pub next_sound : (k : ℕ) → FindsNext s u b k → IsSound g (u.at k).position
  next_sound k finds =
      let has = has_next k finds in
      played_sound g dag (u.at k).position (u.at k).cost (on.plays k) (has.kept.played (next_entry u on.plays k) has.next.member)

  pub turned : FloorOfFinish → turns < budget → (k : ℕ) → FindsNext s u b k → (v : Store) (c : Best) → AreTried g k u b v c (legal_steps g (u.at k).position) → IsUnderWay g first budget (turns + 1) v c
  unfolding expand
  turned ends less k finds v c tried =
      let has = has_next k finds in
      let stands = subst (Stands g (total_cost g (start g) first)) has.settles (settles g dag (total_cost g (start g) first) on.search on.stands).stands in
      let goes : search_on g (suc (budget - (turns + 1))) on.search ≡ search_on g (budget - (turns + 1)) (expand g (next_entry u on.plays k) has.search) =
      search_goes g (budget - (turns + 1)) on.search (next_entry u on.plays k) (ap (λ t. next_waiting t.entries) has.settles ∙ has.is_next)
      ∙ ap (λ t. search_on g (budget - (turns + 1)) (expand g (next_entry u on.plays k) t)) has.settles in
      let went = tried.goes first on.plays (becomes_row (next_entry u on.plays k) has.search) has.packs in
      let left : budget - turns ≡ suc (budget - (turns + 1)) = omega arith in
      record {
        plays = went.0;
        search = expand g (next_entry u on.plays k) has.search;
        packs = went.2;
        stands = (has_expanded ends g dag (total_cost g (start g) first) has.search stands (next_entry u on.plays k) has.next).stands;
        goes = sym goes ∙ ap (λ n. search_on g n on.search) (sym left) ∙ on.goes;
      }

  pub stopped : turns < budget → Stops s u b → IsDone g first budget u b
  stopped less stops =
      let has = stops g dag (total_cost g (start g) first) first on.plays on.search on.packs on.stands.kept in
      let ends = search_stops g (budget - (turns + 1)) on.search (ap (λ t. next_waiting t.entries) has.settles ∙ has.none_waits) ∙ has.settles in
      let left : budget - turns ≡ suc (budget - (turns + 1)) = omega arith in
      record {
        plays = on.plays;
        packs = subst (Packs g first u b on.plays) (sym ends ∙ ap (λ n. search_on g n on.search) (sym left) ∙ on.goes) has.packs;
      }

pub done : (g : PebbleGame) (first : List Step) (budget turns : ℕ) (s : Store) (b : Best) → budget ≤ turns → IsUnderWay g first budget turns s b → IsDone g first budget s b
done g first budget turns s b all on =
    let none : budget - turns ≡ 0 = omega arith in
    record { plays = on.plays; packs = subst (Packs g first s b on.plays) (sym (search_ends g on.search) ∙ ap (λ n. search_on g n on.search) (sym none) ∙ on.goes) on.packs }
