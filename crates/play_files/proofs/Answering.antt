-- How a play answers each move of the pebbling that it follows.
use Rattle.std.proofs.Common.{◌≡◌, ℕ, ◌+◌, ◌*◌, ◌≤◌, ◌<◌, Bool, true, false, cond, List, [], ◌∷◌, ◌++◌, ◌⊎◌, inl, inr, sym, refl, ap, ◌∙◌, subst, arith, mul-le-mul_left, append-nil, append_assoc}
use Rattle.std.specs.Prelude.{Option, Some, None, MatchOption, IfNone, IfSome, Result, Ok, Err, OnOk}
use Rattle.std.specs.FinSet.{contains, insert, remove, union, difference, empty}
use Rattle.comp_graph.specs.Vertices.{Vertices, ◌∈◌, ◌∉◌, IsLeast, size}
use Rattle.comp_graph.specs.Sets.{membership, same, has_empty}
use Rattle.comp_graph.specs.Dags.{Dag, IsDag, is_live, live_of}
use Rattle.comp_graph.specs.Games.{PebbleGame}
use Rattle.comp_graph.proofs.Sets.{size_insert_le, size_remove, size_union_le, member_outside, difference_first, difference_second}
use Rattle.comp_graph.proofs.DagLaws.{degree_bounds}
use Rattle.comp_graph.proofs.Live.{has_live_of}
use Rattle.pebble_rules.specs.Rules.{IsMove, moved}
use Rattle.pebble_rules.specs.declared.position.Position.{Position}
use Rattle.pebble_rules.specs.declared.moves.Move.{Move}
use Rattle.pebble_rules.specs.declared.moves.Move.TheVariants.{Load, Store, Compute, DropRed, DropBlue}
use Rattle.pebble_rules.proofs.Possible.{true_or_false}
use Rattle.normal_steps.specs.Subsequences.{IsSubsequence, none, kept}
use Rattle.normal_steps.specs.Steps.{CanDrop, IsStep, worked, stepped, IsPlay, play_after, play_cost, work_vertices}
use Rattle.normal_steps.specs.Simulation.{Debts, weight, Follows}
use Rattle.normal_steps.specs.declared.step.Step.{Step}
use Rattle.normal_steps.specs.declared.step.Step.TheVariants.{Work, Drop, Spill}
use Rattle.normal_steps.proofs.Simulation.{none_of, load_owed, load_free, store_owed, store_free, drop_red_free, drop_blue_free, compute_free, work_follows, work_is_step, work_pays, drop_follows, spill_follows, missing_raw, append_after, append_play, append_cost, append_works}
use Rattle.play_files.specs.Followed.{removal_of}
use Rattle.play_files.specs.Tidying.{Following, IsFollowing, Answers, AnswersMove}

-- these stores and loads are owed
abbrev pub owed : Vertices → Vertices → Debts
owed stores loads = record { stores = stores; loads = loads }

-- ---- no step

pub no_step : (g : PebbleGame) (raw : Position) (before after : Following) (paid : ℕ) (vertices : List ℕ)
    → after.normal ≡ before.normal → after.steps ≡ before.steps → Follows g raw before.normal after.debts → weight g after.debts ≤ paid + weight g before.debts
    → Answers g raw before after paid vertices
no_step g raw before after paid vertices normal steps follows costs = record {
  more = [];
  grown = steps ∙ sym (append-nil before.steps);
  play = tt;
  leads = normal;
  follows = subst (λ p. Follows g raw p after.debts) (sym normal) follows;
  costs = omega arith;
  works = none_of vertices;
}

-- what is owed stays as it was
pub same_debts : (g : PebbleGame) (raw : Position) (before after : Following) (paid : ℕ) (vertices : List ℕ)
    → after.normal ≡ before.normal → after.steps ≡ before.steps → after.debts ≡ before.debts → Follows g raw before.normal before.debts
    → Answers g raw before after paid vertices
same_debts g raw before after paid vertices normal steps debts follows =
    no_step g raw before after paid vertices normal steps (subst (Follows g raw before.normal) (sym debts) follows)
    (let e = ap (weight g) debts in omega arith)

module _ (g : PebbleGame) (before after : Following) (f : IsFollowing g before) (v : ℕ) (normal : after.normal ≡ before.normal) (steps : after.steps ≡ before.steps) where
  pub load_answered : v ∈ before.raw.blue → v ∈ before.normal.blue → v ∉ before.normal.red
      → after.debts ≡ record { stores = before.debts.stores; loads = insert before.debts.loads v } → AnswersMove g (Load v) before after
  load_answered here blue not_red debts =
      no_step g (moved before.raw (Load v)) before after g.load [] normal steps
      (subst (Follows g (moved before.raw (Load v)) before.normal) (sym debts) (load_owed g before.raw before.normal before.debts f v blue not_red))
      (let e = ap (weight g) debts in
      let grows = mul-le-mul_left g.load (size_insert_le before.debts.loads v) in
      omega arith)

  pub load_ignored : v ∈ before.raw.blue → (v ∉ before.normal.blue) ⊎ (v ∈ before.normal.red) → after.debts ≡ before.debts → AnswersMove g (Load v) before after
  load_ignored here why debts = same_debts g (moved before.raw (Load v)) before after g.load [] normal steps debts (load_free g before.raw before.normal before.debts f v here (widened why))
    where
      widened : (v ∉ before.normal.blue) ⊎ (v ∈ before.normal.red) → (v ∉ before.normal.blue) ⊎ ((v ∈ before.normal.red) ⊎ (v ∈ before.debts.loads))
      widened (inl a) = inl a
      widened (inr b) = inr (inl b)

  pub store_answered : v ∈ before.raw.red → v ∈ before.normal.red → v ∉ before.normal.blue
      → after.debts ≡ record { stores = insert before.debts.stores v; loads = before.debts.loads } → AnswersMove g (Store v) before after
  store_answered here red not_blue debts =
      no_step g (moved before.raw (Store v)) before after g.store [] normal steps
      (subst (Follows g (moved before.raw (Store v)) before.normal) (sym debts) (store_owed g before.raw before.normal before.debts f v red not_blue))
      (let e = ap (weight g) debts in
      let grows = mul-le-mul_left g.store (size_insert_le before.debts.stores v) in
      omega arith)

  pub store_ignored : v ∈ before.raw.red → (v ∉ before.normal.red) ⊎ (v ∈ before.normal.blue) → after.debts ≡ before.debts → AnswersMove g (Store v) before after
  store_ignored here why debts = same_debts g (moved before.raw (Store v)) before after g.store [] normal steps debts (store_free g before.raw before.normal before.debts f v here (widened why))
    where
      widened : (v ∉ before.normal.red) ⊎ (v ∈ before.normal.blue) → (v ∉ before.normal.red) ⊎ ((v ∈ before.normal.blue) ⊎ (v ∈ before.debts.stores))
      widened (inl a) = inl a
      widened (inr b) = inr (inl b)

  pub compute_ignored : (is_live g.dag v ≡ false) ⊎ (v ∈ union before.normal.red before.debts.loads) → after.debts ≡ before.debts → AnswersMove g (Compute v) before after
  compute_ignored why debts = same_debts g (moved before.raw (Compute v)) before after 0 (v ∷ []) normal steps debts (compute_free g before.raw before.normal before.debts f v why)

  pub drop_red_answered : after.debts ≡ before.debts → AnswersMove g (DropRed v) before after
  drop_red_answered debts = same_debts g (moved before.raw (DropRed v)) before after 0 [] normal steps debts (drop_red_free g before.raw before.normal before.debts f v)

  pub drop_blue_answered : after.debts ≡ before.debts → AnswersMove g (DropBlue v) before after
  drop_blue_answered debts = same_debts g (moved before.raw (DropBlue v)) before after 0 [] normal steps debts (drop_blue_free g before.raw before.normal before.debts f v)

-- a load and a store are answered where what they need is there
pub load_of_move : (g : PebbleGame) (before after : Following) (m : Move) (v : ℕ) → m ≡ Load v → IsMove g before.raw m → (v ∈ before.raw.blue → AnswersMove g (Load v) before after) → AnswersMove g m before after
load_of_move g before after m v e move answers = subst (λ k. AnswersMove g k before after) (sym e) (answers (subst (IsMove g before.raw) e move).needs)

pub store_of_move : (g : PebbleGame) (before after : Following) (m : Move) (v : ℕ) → m ≡ Store v → IsMove g before.raw m → (v ∈ before.raw.red → AnswersMove g (Store v) before after) → AnswersMove g m before after
store_of_move g before after m v e move answers = subst (λ k. AnswersMove g k before after) (sym e) (answers (subst (IsMove g before.raw) e move).needs)

-- a removal of a pebble is answered by nothing
pub drop_answered : (g : PebbleGame) (f : Following) → IsFollowing g f → (m : Move) → ((v : ℕ) × (m ≡ DropRed v)) ⊎ ((v : ℕ) × (m ≡ DropBlue v)) → AnswersMove g m f f
drop_answered g f following m (inl red) = subst (λ k. AnswersMove g k f f) (sym red.1) (drop_red_answered g f f following red.0 refl refl refl)
drop_answered g f following m (inr blue) = subst (λ k. AnswersMove g k f f) (sym blue.1) (drop_blue_answered g f f following blue.0 refl refl refl)

-- ---- one step

-- a vertex is live by the set of the live ones
pub live_by_set : (d : Dag) → IsDag d → (v : ℕ) → v ∈ live_of d → is_live d v ≡ true
live_by_set d dag v h = sym (has_live_of d dag v) ∙ h

-- where there are too few slots, a vertex of Work(v) that the pebbling does without may go
pub victim_can_go : (g : PebbleGame) → IsDag g.dag → (raw : Position) (v : ℕ) → is_live g.dag v ≡ true → IsMove g raw (Compute v)
    → (normal : Position) → g.slots < size (worked g normal.red v) → (u : ℕ) → u ∈ worked g normal.red v → u ∉ insert raw.red v → CanDrop g normal u × (u ∉ raw.red)
victim_can_go g dag raw v live move normal full u held missing =
    let is = missing_raw g dag raw v live move normal u held missing in
    let few = degree_bounds g.dag dag v live in
    let one = size_insert_le (union normal.red (g.dag.preds v)) v in
    let rest = size_union_le normal.red (g.dag.preds v) in
    (record { red = is.1; crowded = omega arith }, is.0)

-- the least vertex in the way, or none, where the pebbling has these red vertices
module _ (g : PebbleGame) (dag : IsDag g.dag) (raw : Position) (v : ℕ) (live : is_live g.dag v ≡ true) (move : IsMove g raw (Compute v)) (normal : Position) (full : g.slots < size (worked g normal.red v))
    (way : Vertices) (way_is : way ≡ difference (worked g normal.red v) (insert raw.red v)) where
  in_way : (u : ℕ) → u ∈ way → CanDrop g normal u × (u ∉ raw.red)
  in_way u h =
      let member = subst (λ s. u ∈ s) way_is h in
      victim_can_go g dag raw v live move normal full u (difference_first _ _ u member) (difference_second _ _ u member)

  pub way_room : (r : Option ℕ) → MatchOption r (way ≡ empty) (IsLeast way) → IfNone r (size (worked g normal.red v) ≤ g.slots)
  way_room None nothing =
      let fits = move.fits in
      let some = member_outside (insert raw.red v) (worked g normal.red v) (omega arith) in
      absurd (none_in some.0 (subst (λ s. some.0 ∈ s) (sym way_is ∙ nothing) (both some.0 some.1 some.2)))
    where
      both : (u : ℕ) → u ∈ worked g normal.red v → u ∉ insert raw.red v → u ∈ difference (worked g normal.red v) (insert raw.red v)
      both u a b = grind (arith, membership)

      none_in : (u : ℕ) → u ∈ empty → ⊥
      none_in u h = let e = has_empty u in cc
  way_room (Some u) least = tt

  pub way_victim : (r : Option ℕ) → MatchOption r (way ≡ empty) (IsLeast way) → IfSome r (λ u. CanDrop g normal u)
  way_victim None nothing = tt
  way_victim (Some u) least = (in_way u least.member).0

  pub way_spare : (r : Option ℕ) → MatchOption r (way ≡ empty) (IsLeast way) → IfSome r (λ u. u ∉ raw.red)
  way_spare None nothing = tt
  way_spare (Some u) least = (in_way u least.member).1

cases : (b : Bool) (s t : Step) (P : Step → Type 0) → (b ≡ true → P s) → (b ≡ false → P t) → P (cond b s t)
cases true s t P h k = h refl
cases false s t P h k = k refl

pub removal_is_step : (g : PebbleGame) (f : Following) → IsFollowing g f → (u : ℕ) → CanDrop g f.normal u → IsStep g f.normal (removal_of f.debts u)
removal_is_step g f following u can =
    cases (contains f.debts.stores u) (Spill u) (Drop u) (IsStep g f.normal) (λ owed. record { drop = can; not_blue = following.stores_not_blue u owed }) (λ free. can)

remove_other : (s : Vertices) (u : ℕ) → u ∉ s → remove s u ≡ s
remove_other s u h = same _ _ (λ w. grind (arith, membership))

-- the step that the code takes is that one
pub removal_spills : (debts : Debts) (u : ℕ) (s : Step) (here : Bool) → here ≡ contains debts.stores u → here ≡ true → s ≡ Spill u → s ≡ removal_of debts u
removal_spills debts u s here tested is e = e ∙ sym (ap (λ b. cond b (Spill u) (Drop u)) (sym tested ∙ is))

pub removal_drops : (debts : Debts) (u : ℕ) (s : Step) (here : Bool) → here ≡ contains debts.stores u → here ≡ false → s ≡ Drop u → s ≡ removal_of debts u
removal_drops debts u s here tested is e = e ∙ sym (ap (λ b. cond b (Spill u) (Drop u)) (sym tested ∙ is))

pub removal_answers : (g : PebbleGame) (before after : Following) (u : ℕ) (s : Step) → IsFollowing g before → CanDrop g before.normal u → u ∉ before.raw.red
    → s ≡ removal_of before.debts u → after.normal ≡ stepped g before.normal s → after.steps ≡ before.steps ++ s ∷ []
    → after.debts ≡ record { stores = remove before.debts.stores u; loads = before.debts.loads }
    → Answers g before.raw before after 0 []
removal_answers g before after u s f can spare s_is normal steps debts =
    elim (true_or_false (contains before.debts.stores u)) [
      | inl owed ↦ spilled owed (s_is ∙ ap (λ b. cond b (Spill u) (Drop u)) owed)
      | inr free ↦ dropped free (s_is ∙ ap (λ b. cond b (Spill u) (Drop u)) free)
    ]
  where
    spilled : u ∈ before.debts.stores → s ≡ Spill u → Answers g before.raw before after 0 []
    spilled owed e = record {
      more = Spill u ∷ [];
      grown = steps ∙ ap (λ t. before.steps ++ t ∷ []) e;
      play = (record { drop = can; not_blue = f.stores_not_blue u owed }, tt);
      leads = normal ∙ ap (stepped g before.normal) e;
      follows =
          subst (λ p. Follows g before.raw p after.debts) (sym (normal ∙ ap (stepped g before.normal) e))
          (subst (Follows g before.raw (stepped g before.normal (Spill u))) (sym debts) (spill_follows g before.raw before.normal before.debts f u spare owed));
      costs =
          let owes = ap (weight g) debts in
          let less = ap (λ n. g.store * n) (size_remove before.debts.stores u owed) in
          omega arith;
      works = none;
    }

    dropped : u ∉ before.debts.stores → s ≡ Drop u → Answers g before.raw before after 0 []
    dropped free e = record {
      more = Drop u ∷ [];
      grown = steps ∙ ap (λ t. before.steps ++ t ∷ []) e;
      play = (can, tt);
      leads = normal ∙ ap (stepped g before.normal) e;
      follows =
          subst (λ p. Follows g before.raw p after.debts) (sym (normal ∙ ap (stepped g before.normal) e))
          (subst (Follows g before.raw (stepped g before.normal (Drop u))) (sym same_owed) (drop_follows g before.raw before.normal before.debts f u spare free));
      costs = let owes = ap (weight g) same_owed in omega arith;
      works = none;
    }
      where
        same_owed : after.debts ≡ before.debts
        same_owed = debts ∙ ap (λ s. let owed : Debts = record { stores = s; loads = before.debts.loads } in owed) (remove_other before.debts.stores u free)

pub work_answers : (g : PebbleGame) → IsDag g.dag → (before after : Following) (v : ℕ) → is_live g.dag v ≡ true → IsMove g before.raw (Compute v) → IsFollowing g before
    → v ∉ before.normal.red → v ∉ before.debts.loads → size (worked g before.normal.red v) ≤ g.slots
    → after.normal ≡ stepped g before.normal (Work v) → after.steps ≡ before.steps ++ Work v ∷ []
    → after.debts ≡ record { stores = before.debts.stores; loads = difference before.debts.loads (g.dag.preds v) }
    → AnswersMove g (Compute v) before after
work_answers g dag before after v live move f not_red not_owed room normal steps debts = record {
  more = Work v ∷ [];
  grown = steps;
  play = (work_is_step g dag before.raw v live move before.normal before.debts f not_red room, tt);
  leads = normal;
  follows =
      subst (λ p. Follows g (moved before.raw (Compute v)) p after.debts) (sym normal)
      (subst (Follows g (moved before.raw (Compute v)) (stepped g before.normal (Work v))) (sym debts)
      (work_follows g dag before.raw v live move before.normal before.debts f not_owed));
  costs =
      let owes = ap (weight g) debts in
      let pays = work_pays g dag before.raw v live move before.normal before.debts f in
      omega arith;
  works = kept v none;
}

-- ---- one answer after another

pub then_answers : (g : PebbleGame) (middle raw : Position) (before now after : Following) (paid more all : ℕ) (us vs ws : List ℕ)
    → Answers g middle before now paid us → Answers g raw now after more vs → paid + more ≡ all → us ++ vs ≡ ws → Answers g raw before after all ws
then_answers g middle raw before now after paid more all us vs ws first second sum joined = record {
  more = first.more ++ second.more;
  grown = second.grown ∙ ap (λ ss. ss ++ second.more) first.grown ∙ append_assoc before.steps first.more second.more;
  play = append_play g before.normal first.more second.more first.play (subst (λ p. IsPlay g p second.more) first.leads second.play);
  leads = second.leads ∙ ap (λ p. play_after g p second.more) first.leads ∙ sym (append_after g before.normal first.more second.more);
  follows = second.follows;
  costs =
      let a = first.costs in
      let b = second.costs in
      let at = ap (λ p. play_cost g p second.more) first.leads in
      let whole = append_cost g before.normal first.more second.more in
      omega arith;
  works = subst (IsSubsequence (work_vertices (first.more ++ second.more))) joined (append_works first.more second.more us vs first.works second.works);
}

-- ---- tests of sets

pub dead_by_set : (d : Dag) → IsDag d → (v : ℕ) → v ∉ live_of d → is_live d v ≡ false
dead_by_set d dag v h = sym (has_live_of d dag v) ∙ h

pub out_of_first : (s t : Vertices) (v : ℕ) → v ∉ union s t → v ∉ s
out_of_first s t v h = grind (arith, membership)

pub out_of_second : (s t : Vertices) (v : ℕ) → v ∉ union s t → v ∉ t
out_of_second s t v h = grind (arith, membership)

-- ---- answers

pub OnOk-weaker : {T E P Q : Type 0} (r : Result T E) → (P → Q) → OnOk r P → OnOk r Q
OnOk-weaker (Ok x) f h = f h
OnOk-weaker (Err e) f h = h
