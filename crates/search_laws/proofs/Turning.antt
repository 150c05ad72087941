-- Turns of the packed state.
use Rattle.std.proofs.Common.{◌≡◌, ℕ, zero, suc, ◌+◌, ◌≤◌, ◌<◌, Bool, true, false, List, [], ◌∷◌, ◌++◌, cond, ◌⊎◌, inl, inr, refl, sym, ap, ◌∙◌, subst, arith}
use Rattle.std.specs.Prelude.{fold, filter, Option, Some, None}
use Rattle.comp_graph.specs.Games.{PebbleGame}
use Rattle.pebble_rules.specs.declared.position.Position.{Position}
use Rattle.normal_steps.specs.Steps.{stepped, step_cost, finish_cost}
use Rattle.normal_steps.specs.declared.step.Step.{Step}
use Rattle.forced_bounds.specs.Floor.{floor}
use Rattle.normal_steps.specs.StepTests.{can_finish, is_step}
use Rattle.search_laws.specs.Search.{Mark, waiting, is_waiting, is_expanded, Entry, Search, step_tried}
use Rattle.search_laws.specs.Packing.{Place, Store, Best, entry_of, entry_at, Packs, IsPut}
use Rattle.search_laws.specs.Turning.{IsExpanding, AreTried}
use Rattle.search_laws.proofs.Tries.{beaten_step, known_step, finishing_step, adding_step, plan_noted}
use Rattle.search_laws.proofs.Queues.{decide}
use Rattle.search_laws.proofs.Puts.{CanPut, plays_after, play_other, place_put}

-- ---- joining

pub fold_append : {X S : Type 0} → (f : S → X → S) (s : S) (xs ys : List X) → fold f s (xs ++ ys) ≡ fold f (fold f s xs) ys
fold_append f s [] ys = refl
fold_append f s (x ∷ xs) ys = fold_append f (f s x) xs ys

pub tried_none : (g : PebbleGame) (k : ℕ) (s : Store) (b : Best) → AreTried g k s b s b []
tried_none g k s b = record {
  here = refl;
  grows = omega arith;
  rows = λ j h row. (h, refl);
  still = λ j h row. refl;
  lower = omega arith;
  goes = λ first plays t packs. (plays, refl, packs);
}

pub tried_more : (g : PebbleGame) (k : ℕ) (s u v : Store) (b c d : Best) (xs ys : List Step) → AreTried g k s b u c xs → AreTried g k u c v d ys → AreTried g k s b v d (xs ++ ys)
tried_more g k s u v b c d xs ys one two = record {
  here = two.here ∙ one.here;
  grows = let a = one.grows in let z = two.grows in omega arith;
  rows = λ j h row. rows_by j (two.rows j h row) row;
  still = λ j h row.
      let first = one.still j h row in
      let grows = one.grows in
      two.still j (omega arith) (subst (λ p. is_expanded p.mark ≡ true) (sym first) row) ∙ first;
  lower = let a = one.lower in let z = two.lower in omega arith;
  goes = λ first plays t packs. goes_by first plays t (one.goes first plays t packs);
}
  where
    rows_by : (j : ℕ) → (j < u.size) × (v.at j ≡ u.at j) → is_expanded (v.at j).mark ≡ true → (j < s.size) × (v.at j ≡ s.at j)
    rows_by j is row = let old = one.rows j is.0 (subst (λ p. is_expanded p.mark ≡ true) is.1 row) in (old.0, is.1 ∙ old.1)

    goes_by : (first : List Step) (plays : ℕ → List Step) (t : Search)
        → (after : ℕ → List Step) × (after k ≡ plays k) × Packs g first u c after (fold (step_tried g (entry_at s plays k)) t xs)
        → (after : ℕ → List Step) × (after k ≡ plays k) × Packs g first v d after (fold (step_tried g (entry_at s plays k)) t (xs ++ ys))
    goes_by first plays t mid =
        let rest = two.goes first mid.0 _ mid.2 in
        let same : entry_at u mid.0 k ≡ entry_at s plays k = ap (λ p. entry_of p (mid.0 k)) one.here ∙ ap (entry_of (s.at k)) mid.1 in
        (rest.0, rest.1 ∙ mid.1, subst (Packs g first v d rest.0) (ap (λ e. fold (step_tried g e) (fold (step_tried g (entry_at s plays k)) t xs) ys) same ∙ sym (fold_append (step_tried g (entry_at s plays k)) t xs ys)) rest.2)

pub still_expanding : (g : PebbleGame) (k : ℕ) (s u : Store) (b c : Best) (ss : List Step) → IsExpanding s k → AreTried g k s b u c ss → IsExpanding u k
still_expanding g k s u b c ss is tried = record {
  within = let a = is.within in let z = tried.grows in omega arith;
  is_row = subst (λ p. is_expanded p.mark ≡ true) (sym tried.here) is.is_row;
  rows_below = λ j h row. below j (tried.rows j h row) row;
}
  where
    below : (j : ℕ) → (j < s.size) × (u.at j ≡ s.at j) → is_expanded (u.at j).mark ≡ true → (u.at j).cost ≤ (u.at k).cost
    below j old row =
        let most = is.rows_below j old.0 (subst (λ p. is_expanded p.mark ≡ true) old.1 row) in
        let a = ap (λ p. p.cost) old.1 in
        let z = ap (λ p. p.cost) tried.here in
        omega arith

-- a step that is not legal is not tried
pub tried_if_legal : (g : PebbleGame) (k : ℕ) (s u : Store) (b c : Best) (p : Position) (x : Step) → is_step g p x ≡ true → AreTried g k s b u c (x ∷ []) → AreTried g k s b u c (filter (is_step g p) (x ∷ []))
tried_if_legal g k s u b c p x legal tried = subst (AreTried g k s b u c) (ap (λ t. cond t (x ∷ []) []) (sym legal)) tried

pub not_tried : (g : PebbleGame) (k : ℕ) (s : Store) (b : Best) (p : Position) (x : Step) → is_step g p x ≡ false → AreTried g k s b s b (filter (is_step g p) (x ∷ []))
not_tried g k s b p x not_legal = subst (AreTried g k s b s b) (ap (λ t. cond t (x ∷ []) []) (sym not_legal)) (tried_none g k s b)

-- ---- one step

module _ (g : PebbleGame) (k : ℕ) (s : Store) (b : Best) (x : Step) where
  abbrev q : Position
  q = stepped g (s.at k).position x

  abbrev h : ℕ
  h = (s.at k).cost + step_cost g (s.at k).position x

  -- nothing changes
  nothing_tried : ((first : List Step) (plays : ℕ → List Step) (t : Search) → Packs g first s b plays t → step_tried g (entry_at s plays k) t x ≡ t) → AreTried g k s b s b (x ∷ [])
  nothing_tried same = record {
    here = refl;
    grows = omega arith;
    rows = λ j h row. (h, refl);
    still = λ j h row. refl;
    lower = omega arith;
    goes = λ first plays t packs. (plays, refl, subst (Packs g first s b plays) (sym (same first plays t packs)) packs);
  }

  pub tried_beaten : b.cost ≤ h + floor g q → AreTried g k s b s b (x ∷ [])
  tried_beaten beaten = nothing_tried (λ first plays t packs. beaten_step g first s b plays t packs (plays k ++ x ∷ []) q h beaten)

  -- the floor of the place that the step leads to shows that it is beaten
  pub tried_beaten_at : (j : ℕ) → j < s.size → (s.at j).position ≡ q → b.cost ≤ h + (s.at j).floor → AreTried g k s b s b (x ∷ [])
  tried_beaten_at j within same beaten = nothing_tried (λ first plays t packs.
      let floors = packs.floors j within in
      let at = ap (floor g) same in
      beaten_step g first s b plays t packs (plays k ++ x ∷ []) q h (omega arith))

  pub tried_known : (j : ℕ) → j < s.size → (s.at j).position ≡ q → (s.at j).cost ≤ h → AreTried g k s b s b (x ∷ [])
  tried_known j within same cheap = nothing_tried (λ first plays t packs. known_step g first s b plays t packs (plays k ++ x ∷ []) q h j within same cheap)

  -- a better plan
  pub tried_finishing : IsExpanding s k → h + floor g q < b.cost → can_finish g q ≡ true → h + finish_cost g q ≤ b.cost
      → AreTried g k s b s (record { cost = h + finish_cost g q; from = Some k; step = x }) (x ∷ [])
  tried_finishing is better can lower = record {
    here = refl;
    grows = omega arith;
    rows = λ j h row. (h, refl);
    still = λ j h row. refl;
    lower = lower;
    goes = λ first plays t packs. (
      plays,
      refl,
      subst (Packs g first s (record { cost = h + finish_cost g q; from = Some k; step = x }) plays) (sym (finishing_step g first s b plays t packs (plays k ++ x ∷ []) q h better can))
          (plan_noted g first s b plays t packs k x (h + finish_cost g q) is.within is.is_row),
    );
  }

  -- the place that the step puts
  abbrev pub new_place : ℕ → Place
  new_place f = record { position = q; cost = h; parent = k; step = x; mark = waiting; floor = f }

  module _ (is : IsExpanding s k) (u : Store) (j f : ℕ) (put : IsPut s u j (new_place f)) (larger : s.size ≤ u.size) (better : h + floor g q < b.cost)
      (dearer : j < s.size → h < (s.at j).cost) (can : (first : List Step) (plays : ℕ → List Step) (t : Search) → Packs g first s b plays t → CanPut g s j (new_place f)) where
    other : k ≡ j → ⊥
    other same =
        let more = dearer (subst (λ k. k < s.size) same is.within) in
        let costs = ap (λ k. (s.at k).cost) same in
        omega arith

    not_row : is_expanded (u.at j).mark ≡ true → ⊥
    not_row row = let new = ap (λ p. is_expanded p.mark) put.here in grind arith

    rows_now : (i : ℕ) → i < u.size → is_expanded (u.at i).mark ≡ true → (i < s.size) × (u.at i ≡ s.at i)
    rows_now i within row =
        let differ : i ≡ j → ⊥ = λ same. not_row (subst (λ i. is_expanded (u.at i).mark ≡ true) same row) in
        (put.old i within differ, put.same i differ)

    packed : (first : List Step) (plays : ℕ → List Step) (t : Search) (packs : Packs g first s b plays t)
        → (after : ℕ → List Step) × (after k ≡ plays k) × Packs g first u b after (fold (step_tried g (entry_at s plays k)) t (x ∷ []))
    packed first plays t packs =
        let here = can first plays t packs in (
          plays_after g first s u b plays t packs j (new_place f) put here,
          play_other g first s u b plays t packs j (new_place f) put here k other,
          subst (Packs g first u b (plays_after g first s u b plays t packs j (new_place f) put here))
              (sym (adding_step g first s b plays t packs (plays k ++ x ∷ []) q h better (λ i within same. costs_more here i within (here.mine i within same)) here.cannot))
              (place_put g first s u b plays t packs j (new_place f) put here),
        )
      where
        costs_more : CanPut g s j (new_place f) → (i : ℕ) → i < s.size → i ≡ j → h < (s.at i).cost
        costs_more here i within same = subst (λ i. h < (s.at i).cost) (sym same) (dearer (subst (λ i. i < s.size) same within))

    put_tried : AreTried g k s b u b (x ∷ [])
    put_tried = record {
      here = put.same k other;
      grows = larger;
      rows = rows_now;
      still = λ i within row. put.same i (λ same. absurd (
          let at_j = subst (λ i. i < s.size) same within in
          let most = is.rows_below j at_j (subst (λ i. is_expanded (s.at i).mark ≡ true) same row) in
          let more = dearer at_j in
          omega arith));
      lower = omega arith;
      goes = packed;
    }

  -- a new place
  pub tried_new : IsExpanding s k → (u : Store) (f : ℕ) → IsPut s u s.size (new_place f) → s.size ≤ u.size → f ≡ floor g q → h + floor g q < b.cost → can_finish g q ≡ false
      → ((j : ℕ) → j < s.size → (s.at j).position ≡ q → ⊥) → AreTried g k s b u b (x ∷ [])
  tried_new is u f put larger floor_is better cannot absent =
      put_tried is u s.size f put larger better (λ less. absurd (omega arith)) (λ first plays t packs. record {
        not_first = let within = is.within in omega arith;
        waits = refl;
        mine = λ j within same. absurd (absent j within same);
        was = λ less. absurd (omega arith);
        dearer = λ less. absurd (omega arith);
        no_row = λ less. absurd (omega arith);
        floor = floor_is;
        cannot = cannot;
        parent = is.within;
        is_row = is.is_row;
      })

  -- a place that cost more
  pub tried_again : IsExpanding s k → (u : Store) (j : ℕ) → j < s.size → (s.at j).position ≡ q → h < (s.at j).cost → IsPut s u j (new_place (s.at j).floor) → s.size ≤ u.size
      → h + (s.at j).floor < b.cost → AreTried g k s b u b (x ∷ [])
  tried_again is u j within at_q dearer put larger better = record {
    here = put.same k differs;
    grows = larger;
    rows = λ i h row. let differ : i ≡ j → ⊥ = λ same. no_row_now (subst (λ i. is_expanded (u.at i).mark ≡ true) same row) in (put.old i h differ, put.same i differ);
    still = λ i h row. put.same i (λ same. absurd (let now = subst (λ i. is_expanded (s.at i).mark ≡ true) same row in let before = no_row_before in grind arith));
    lower = omega arith;
    goes = λ first plays t packs.
        let better_here : h + floor g q < b.cost = let floors = packs.floors j within in let at = ap (floor g) at_q in omega arith in
        packed is u j (s.at j).floor put larger better_here (λ less. dearer) can first plays t packs;
  }
    where
      differs : k ≡ j → ⊥
      differs same = let costs = ap (λ k. (s.at k).cost) same in omega arith

      no_row_now : is_expanded (u.at j).mark ≡ true → ⊥
      no_row_now row = let new = ap (λ p. is_expanded p.mark) put.here in grind arith

      no_row_before : is_expanded (s.at j).mark ≡ false
      no_row_before = elim (row_or_not (is_expanded (s.at j).mark)) [ inl row ↦ absurd (let most = is.rows_below j within row in omega arith) | inr no_is ↦ no_is ]
        where
          row_or_not : (b : Bool) → (b ≡ true) ⊎ (b ≡ false)
          row_or_not true = inl refl
          row_or_not false = inr refl

      can : (first : List Step) (plays : ℕ → List Step) (t : Search) → Packs g first s b plays t → CanPut g s j (new_place (s.at j).floor)
      can first plays t packs = record {
        not_first = positive (decide 0 j);
        waits = refl;
        mine = λ i h same. packs.apart i j h within (same ∙ sym at_q);
        was = λ less. at_q;
        dearer = λ less. dearer;
        no_row = λ less. no_row_before;
        floor = packs.floors j within ∙ ap (floor g) at_q;
        cannot = subst (λ p. can_finish g p ≡ false) at_q (packs.unfinished j within);
        parent = is.within;
        is_row = is.is_row;
      }
        where
          positive : (0 ≡ j) ⊎ (0 ≡ j → ⊥) → 0 < j
          positive (inl same) = absurd (let free = packs.free (subst (λ j. j < s.size) (sym same) within) in let costs = ap (λ j. (s.at j).cost) same in omega arith)
          positive (inr other) = above j other
            where
              above : (j : ℕ) → (0 ≡ j → ⊥) → 0 < j
              above zero other = absurd (other refl)
              above (suc j) other = omega arith
