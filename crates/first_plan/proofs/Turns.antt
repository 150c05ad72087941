-- The turns of the first plan: each step is legal where it stands, and before each turn the position is ready for it.
use Rattle.std.proofs.Common.{◌≡◌, ℕ, zero, suc, ◌+◌, ◌≤◌, ◌<◌, ◌⊎◌, inl, inr, Bool, true, false, not, ◌&&◌, ◌||◌, ltb, cond, List, [], ◌∷◌, ◌++◌, refl, sym, ap, ◌∙◌, subst, arith, append-nil}
use Rattle.std.proofs.lemmas.Bool.Decides.{nat_tests}
use Rattle.std.specs.FinSet as set
use Rattle.comp_graph.specs.Vertices.{Vertices, ◌∈◌, ◌∉◌, AllBelow, size}
use Rattle.comp_graph.specs.Sets.{membership}
use Rattle.comp_graph.specs.Dags.{Dag, IsDag, is_live, degree}
use Rattle.comp_graph.specs.Games.{PebbleGame}
use Rattle.comp_graph.proofs.Sets.{size_insert_le, size_remove, size_union_le, member_outside, difference_first, difference_second}
use Rattle.comp_graph.proofs.DagLaws.{live_output, live_before, degree_bounds}
use Rattle.pebble_rules.specs.Rules.{start}
use Rattle.pebble_rules.specs.declared.position.Position.{Position}
use Rattle.normal_steps.specs.Steps.{worked, CanWork, CanDrop, IsStep, stepped, IsPlay, play_after}
use Rattle.normal_steps.specs.declared.step.Step.{Step}
use Rattle.normal_steps.specs.declared.step.Step.TheVariants.{Work, Drop, Spill}
use Rattle.normal_steps.proofs.Sound.{start_is_sound, step_sound, in_remove}
use Rattle.normal_steps.proofs.Simulation.{append_play, append_after}
use Rattle.first_plan.specs.NextUses.{is_planned, is_used_later, next_use}
use Rattle.first_plan.specs.Victims.{IsLastNeeded, victim, is_missed, removal_of, removal}
use Rattle.first_plan.specs.FirstPlan.{is_short, removals, room_steps, turn_steps, steps_below}
use Rattle.first_plan.specs.Ready.{IsReadFrom, IsReady}
use Rattle.first_plan.specs.Laws.{FirstPlanFinishes}
use Rattle.first_plan.proofs.NextUses.{wanted_live, wanted_no_input, not_wanted, wanted_vertex, next_use_before}
use Rattle.first_plan.proofs.Chosen.{last_needed_is_last}

not_both : (b : Bool) → b ≡ true → b ≡ false → ⊥
not_both b t f = let both : true ≡ false = sym t ∙ f in cc

less : (a b : ℕ) → ltb a b ≡ true → a < b
less a b h = grind (arith, nat_tests)

not_less : (a b : ℕ) → ltb a b ≡ false → b ≤ a
not_less a b h = grind (arith, nat_tests)

-- ---- the victim

-- a member of the red vertices, the predecessors and v that is no predecessor and not v is red
red_of_worked : (red preds : Vertices) (v x : ℕ) → x ∈ set.insert (set.union red preds) v → x ∉ set.insert preds v → x ∈ set.difference red preds
red_of_worked red preds v x a b = grind (arith, membership)

module _ (g : PebbleGame) (dag : IsDag g.dag) (room : degree g.dag < g.slots) (v : ℕ) (planned : is_planned g.dag v ≡ true) where
  own_size : size (set.insert (g.dag.preds v) v) ≤ degree g.dag + 1
  own_size = let few = degree_bounds g.dag dag v (wanted_live g.dag v planned) in let one = size_insert_le (g.dag.preds v) v in omega arith

  worked_size : (p : Position) → size (worked g p.red v) ≤ size p.red + degree g.dag + 1
  worked_size p =
      let few = degree_bounds g.dag dag v (wanted_live g.dag v planned) in
      let one = size_insert_le (set.union p.red (g.dag.preds v)) v in
      let sum = size_union_le p.red (g.dag.preds v) in
      omega arith

  module _ (p : Position) (ready : IsReady g v p) where
    pub spare_below : AllBelow g.dag.count (set.difference p.red (g.dag.preds v))
    spare_below = record { below = λ x h. ready.sound.red_below x (difference_first p.red (g.dag.preds v) x h) }

    module _ (short : is_short g p v ≡ true) where
      short_by : g.slots < size (worked g p.red v)
      short_by = less g.slots (size (worked g p.red v)) short

      pub spare_member : (x : ℕ) × (x ∈ set.difference p.red (g.dag.preds v))
      spare_member =
          let one = member_outside (set.insert (g.dag.preds v) v) (worked g p.red v) (let a = own_size in let b = short_by in omega arith) in
          (one.0, red_of_worked p.red (g.dag.preds v) v one.0 one.1 one.2)

      pub victim_is : IsLastNeeded g.dag v (set.difference p.red (g.dag.preds v)) (victim g p v)
      victim_is = last_needed_is_last g.dag v (set.difference p.red (g.dag.preds v)) spare_below spare_member.0 spare_member.1

      pub victim_red : victim g p v ∈ p.red
      victim_red = difference_first p.red (g.dag.preds v) (victim g p v) victim_is.member

      pub victim_not_read : victim g p v ∉ g.dag.preds v
      victim_not_read = difference_second p.red (g.dag.preds v) (victim g p v) victim_is.member

      can_drop : CanDrop g p (victim g p v)
      can_drop = record { red = victim_red; crowded = let a = worked_size p in let b = short_by in omega arith }

  -- ---- one removal

  -- the step is a Spill of a vertex that is not blue, or a Drop of one that is not missed
  data IsRemoval (p : Position) (u : ℕ) : Step → Type 0 where
    spilled : u ∉ p.blue → IsRemoval p u (Spill u)
    dropped : is_missed g p v u ≡ false → IsRemoval p u (Drop u)

  removal_cases : (p : Position) (u : ℕ) → IsRemoval p u (removal_of g p v u)
  unfolding removal_of
  removal_cases p u = by_test (is_missed g p v u) refl
    where
      not_blue : (b a : Bool) → (not b && a) ≡ true → b ≡ false
      not_blue b a h = grind arith

      by_test : (missed : Bool) → is_missed g p v u ≡ missed → IsRemoval p u (removal_of g p v u)
      by_test true h = subst (λ b. IsRemoval p u (cond b (Spill u) (Drop u))) (sym h) (spilled (not_blue _ _ h))
      by_test false h = subst (λ b. IsRemoval p u (cond b (Spill u) (Drop u))) (sym h) (dropped h)

  removal_legal : (p : Position) (u : ℕ) (s : Step) → IsRemoval p u s → CanDrop g p u → IsStep g p s
  removal_legal p u (Spill w) (spilled h) can = record { drop = can; not_blue = h }
  removal_legal p u (Drop w) (dropped h) can = can
  removal_legal p u (Work w) h can = elim h [ ]

  removal_smaller : (p : Position) (u : ℕ) (s : Step) → IsRemoval p u s → u ∈ p.red → size p.red ≡ suc (size (stepped g p s).red)
  removal_smaller p u (Spill w) (spilled h) red = let one = size_remove p.red u red in omega arith
  removal_smaller p u (Drop w) (dropped h) red = let one = size_remove p.red u red in omega arith
  removal_smaller p u (Work w) h red = elim h [ ]

  removal_red : (p : Position) (u : ℕ) (s : Step) → IsRemoval p u s → (x : ℕ) → x ∈ (stepped g p s).red → x ∈ p.red
  removal_red p u (Spill w) (spilled h) x red = in_remove p.red u x red
  removal_red p u (Drop w) (dropped h) x red = in_remove p.red u x red
  removal_red p u (Work w) h x red = elim h [ ]

  at_or_after : (w : ℕ) → v ≤ w → (w ≡ v) ⊎ (v < w)
  at_or_after w h = grind arith

  blue_unless : (b used out : Bool) → (not b && (used || out)) ≡ false → (used ≡ true) ⊎ (out ≡ true) → b ≡ true
  blue_unless b used out h (inl e) = grind arith
  blue_unless b used out h (inr e) = grind arith

  -- what is not missed, and not read by v, is blue or not needed
  blue_if_needed : (p : Position) (u : ℕ) → u ∉ g.dag.preds v → is_missed g p v u ≡ false → (u ∈ g.dag.outputs) ⊎ IsReadFrom g.dag v u → u ∈ p.blue
  blue_if_needed p u out missed (inl output) = blue_unless (set.contains p.blue u) (is_used_later g.dag v u) (set.contains g.dag.outputs u) missed (inr output)
  blue_if_needed p u out missed (inr read) =
      elim (at_or_after read.reader read.late) [
        | inl e ↦ absurd (not_both (set.contains (g.dag.preds v) u) (ap (λ w. set.contains (g.dag.preds w) u) (sym e) ∙ read.reads) out)
        | inr later ↦
            let next = next_use_before g.dag dag v u read.reader later read.planned read.reads in
            let vertex = wanted_vertex g.dag dag read.reader read.planned in
            blue_unless (set.contains p.blue u) (is_used_later g.dag v u) (set.contains g.dag.outputs u) missed (inl (used (next_use g.dag v u) g.dag.count (omega arith)))
      ]
    where
      used : (a b : ℕ) → a < b → ltb a b ≡ true
      used a b h = grind (arith, nat_tests)

  same_or_not : (x u : ℕ) → (x ≡ u) ⊎ (x ≡ u → ⊥)
  same_or_not x u = grind arith

  kept_held : (red blue : Vertices) (u x : ℕ) → (x ≡ u → ⊥) → x ∈ set.union red blue → x ∈ set.union (set.remove red u) blue
  kept_held red blue u x other h = grind (arith, membership)

  blue_held : (red blue : Vertices) (x : ℕ) → x ∈ blue → x ∈ set.union red blue
  blue_held red blue x h = grind (arith, membership)

  spilled_held : (red blue : Vertices) (u x : ℕ) → x ∈ set.union red blue → x ∈ set.union (set.remove red u) (set.insert blue u)
  spilled_held red blue u x h = grind (arith, membership)

  removal_held : (p : Position) (u : ℕ) (s : Step) → IsRemoval p u s → u ∉ g.dag.preds v → (x : ℕ) → (x ∈ g.dag.outputs) ⊎ IsReadFrom g.dag v x → x ∈ set.union p.red p.blue
      → x ∈ set.union (stepped g p s).red (stepped g p s).blue
  removal_held p u (Spill w) (spilled h) out x needed held = spilled_held p.red p.blue u x held
  removal_held p u (Drop w) (dropped h) out x needed held =
      elim (same_or_not x u) [
        | inl e ↦ blue_held (set.remove p.red u) p.blue x (subst (λ y. y ∈ p.blue) (sym e) (blue_if_needed p u out h (subst (λ y. (y ∈ g.dag.outputs) ⊎ IsReadFrom g.dag v y) e needed)))
        | inr other ↦ kept_held p.red p.blue u x other held
      ]
  removal_held p u (Work w) h out x needed held = elim h [ ]

  module _ (p : Position) (ready : IsReady g v p) (short : is_short g p v ≡ true) where
    the_removal : IsRemoval p (victim g p v) (removal g p v)
    the_removal = removal_cases p (victim g p v)

    pub removal_is_step : IsStep g p (removal g p v)
    removal_is_step = removal_legal p (victim g p v) (removal g p v) the_removal (can_drop p ready short)

    pub fewer_red : size p.red ≡ suc (size (stepped g p (removal g p v)).red)
    fewer_red = removal_smaller p (victim g p v) (removal g p v) the_removal (victim_red p ready short)

    pub removal_ready : IsReady g v (stepped g p (removal g p v))
    removal_ready = record {
      sound = step_sound g dag p ready.sound (removal g p v) removal_is_step;
      red_before = λ x h. ready.red_before x (removal_red p (victim g p v) (removal g p v) the_removal x h);
      held = λ x l live needed. removal_held p (victim g p v) (removal g p v) the_removal (victim_not_read p ready short) x needed (ready.held x l live needed);
    }

  -- ---- room is made

  -- a play from p that leads to a position that is ready and has room for v
  pub record MakesRoom (p : Position) (ss : List Step) : Type 0 where
    pub play : IsPlay g p ss
    pub ready : IsReady g v (play_after g p ss)
    pub enough : is_short g (play_after g p ss) v ≡ false

  no_red_no_shortage : (p : Position) → size p.red ≡ 0 → is_short g p v ≡ false
  no_red_no_shortage p none = let most = worked_size p in enough g.slots (size (worked g p.red v)) (omega arith)
    where
      enough : (a b : ℕ) → b ≤ a → ltb a b ≡ false
      enough a b h = grind (arith, nat_tests)

  removals_step : (times : ℕ) (p : Position) → IsReady g v p → size p.red ≡ suc times → (short : Bool) → is_short g p v ≡ short
      → ((q : Position) → IsReady g v q → size q.red ≡ times → MakesRoom q (removals g v times q))
      → MakesRoom p (cond short (removal g p v ∷ removals g v times (stepped g p (removal g p v))) [])
  removals_step times p ready many true short before =
      let fewer = fewer_red p ready short in
      let rest = before (stepped g p (removal g p v)) (removal_ready p ready short) (omega arith) in
      record { play = (removal_is_step p ready short, rest.play); ready = rest.ready; enough = rest.enough }
  removals_step times p ready many false enough before = record { play = tt; ready = ready; enough = enough }

  removals_make_room : (times : ℕ) (p : Position) → IsReady g v p → size p.red ≡ times → MakesRoom p (removals g v times p)
  unfolding removals
  removals_make_room zero p ready many = record { play = tt; ready = ready; enough = no_red_no_shortage p many }
  removals_make_room (suc times) p ready many = removals_step times p ready many (is_short g p v) refl (removals_make_room times)

  pub room_made : (p : Position) → IsReady g v p → MakesRoom p (room_steps g v p)
  room_made p ready = removals_make_room (size p.red) p ready refl

  -- where the slots are too few, the room steps begin with a removal, and go on from there
  removals_first : (n : ℕ) (p : Position) → (size p.red ≡ suc n) → is_short g p v ≡ true → removals g v (size p.red) p ≡ removal g p v ∷ removals g v n (stepped g p (removal g p v))
  unfolding removals
  removals_first n p many short =
      ap (λ k. removals g v k p) many ∙ ap (λ b. cond b (removal g p v ∷ removals g v n (stepped g p (removal g p v))) []) short

  pub room_first : (p : Position) → IsReady g v p → is_short g p v ≡ true → room_steps g v p ≡ removal g p v ∷ room_steps g v (stepped g p (removal g p v))
  room_first p ready short = removals_first (size (stepped g p (removal g p v)).red) p (fewer_red p ready short) short

  -- ---- one Work

  worked_cases : (s t : Vertices) (k x : ℕ) → x ∈ set.insert (set.union s t) k → (x ≡ k) ⊎ ((x ∈ s) ⊎ (x ∈ t))
  worked_cases s t k x h = grind (arith, membership)

  read_held : (s t blue : Vertices) (k x : ℕ) → x ∈ set.union s blue → x ∈ set.union (set.insert (set.union s t) k) blue
  read_held s t blue k x h = grind (arith, membership)

  own_held : (s blue : Vertices) (k : ℕ) → k ∈ set.union (set.insert s k) blue
  own_held s blue k = grind (arith, membership)

  false_unless : (b : Bool) → (b ≡ true → ⊥) → b ≡ false
  false_unless true h = absurd (h refl)
  false_unless false h = refl

  -- where there is room, v can be worked on
  pub can_work : (p : Position) → IsReady g v p → is_short g p v ≡ false → CanWork g p v
  can_work p ready enough = record {
    live = wanted_live g.dag v planned;
    no_input = wanted_no_input g.dag v planned;
    not_red = false_unless (set.contains p.red v) (λ h. let before = ready.red_before v h in absurd (omega arith));
    preds_held = λ x h.
        ready.held x (dag.preds_below v x h) (live_before g.dag dag x v h (wanted_live g.dag v planned))
        (inr (record { reader = v; late = omega arith; planned = planned; reads = h }));
    fits = not_less g.slots (size (worked g p.red v)) enough;
  }

  earlier_or_last : (n x : ℕ) → x < n + 1 → (x ≡ n) ⊎ (x < n)
  earlier_or_last n x h = grind arith

  needed_before : (x : ℕ) → (x ∈ g.dag.outputs) ⊎ IsReadFrom g.dag (v + 1) x → (x ∈ g.dag.outputs) ⊎ IsReadFrom g.dag v x
  needed_before x (inl output) = inl output
  needed_before x (inr read) = inr (record { reader = read.reader; late = let l = read.late in omega arith; planned = read.planned; reads = read.reads })

  pub work_ready : (p : Position) → IsReady g v p → is_short g p v ≡ false → IsReady g (v + 1) (stepped g p (Work v))
  work_ready p ready enough = record {
    sound = step_sound g dag p ready.sound (Work v) (can_work p ready enough);
    red_before = λ x h. elim (worked_cases p.red (g.dag.preds v) v x h) [
      | inl e ↦ omega arith
      | inr (inl red) ↦ let before = ready.red_before x red in omega arith
      | inr (inr read) ↦ let before = dag.preds_below v x read in omega arith
    ];
    held = λ x l live needed. elim (earlier_or_last v x l) [
      | inl e ↦ subst (λ y. y ∈ set.union (worked g p.red v) p.blue) (sym e) (own_held (set.union p.red (g.dag.preds v)) p.blue v)
      | inr before ↦ read_held p.red (g.dag.preds v) p.blue v x (ready.held x before live (needed_before x needed))
    ];
  }

  -- ---- one turn

  turn_after : (p : Position) → play_after g p (turn_steps g v p) ≡ stepped g (play_after g p (room_steps g v p)) (Work v)
  turn_after p = append_after g p (room_steps g v p) (Work v ∷ [])

  pub turn_play : (p : Position) → IsReady g v p → IsPlay g p (turn_steps g v p)
  turn_play p ready =
      let made = room_made p ready in
      append_play g p (room_steps g v p) (Work v ∷ []) made.play (can_work (play_after g p (room_steps g v p)) made.ready made.enough, tt)

  pub turn_ready : (p : Position) → IsReady g v p → IsReady g (v + 1) (play_after g p (turn_steps g v p))
  turn_ready p ready =
      let made = room_made p ready in
      subst (IsReady g (v + 1)) (sym (turn_after p)) (work_ready (play_after g p (room_steps g v p)) made.ready made.enough)

-- where there is room, no step is needed
no_removals : (g : PebbleGame) (v times : ℕ) (p : Position) → is_short g p v ≡ false → removals g v times p ≡ []
unfolding removals
no_removals g v zero p enough = refl
no_removals g v (suc times) p enough = ap (λ b. cond b (removal g p v ∷ removals g v times (stepped g p (removal g p v))) []) enough

pub no_room_steps : (g : PebbleGame) (v : ℕ) (p : Position) → is_short g p v ≡ false → room_steps g v p ≡ []
no_room_steps g v p enough = no_removals g v (size p.red) p enough

-- ---- all turns

pub start_ready : (g : PebbleGame) → IsDag g.dag → IsReady g 0 (start g)
start_ready g dag = record {
  sound = start_is_sound g dag;
  red_before = λ x h. absurd (grind (arith, membership));
  held = λ x l live needed. absurd (omega arith);
}

blue_too : (red blue : Vertices) (x : ℕ) → x ∈ blue → x ∈ set.union red blue
blue_too red blue x h = grind (arith, membership)

earlier_or_at : (n x : ℕ) → x < n + 1 → (x ≡ n) ⊎ (x < n)
earlier_or_at n x h = grind arith

needed_too : (d : Dag) (n x : ℕ) → (x ∈ d.outputs) ⊎ IsReadFrom d (n + 1) x → (x ∈ d.outputs) ⊎ IsReadFrom d n x
needed_too d n x (inl output) = inl output
needed_too d n x (inr read) = inr (record { reader = read.reader; late = let l = read.late in omega arith; planned = read.planned; reads = read.reads })

-- a vertex that the plan does not work on is an input, or not live
pub passed_ready : (g : PebbleGame) (v : ℕ) (p : Position) → is_planned g.dag v ≡ false → IsReady g v p → IsReady g (v + 1) p
passed_ready g v p out ready = record {
  sound = ready.sound;
  red_before = λ x h. let before = ready.red_before x h in omega arith;
  held = λ x l live needed. elim (earlier_or_at v x l) [
    | inl e ↦ blue_too p.red p.blue x (ready.sound.inputs_blue x (subst (λ y. y ∈ g.dag.inputs) (sym e) (not_wanted g.dag v out (subst (λ y. is_live g.dag y ≡ true) e live))))
    | inr before ↦ ready.held x before live (needed_too g.dag v x needed)
  ];
}

-- the steps below n are a play that leads to a position that is ready for n
pub record AreUnderWay (g : PebbleGame) (n : ℕ) (ss : List Step) : Type 0 where
  pub play : IsPlay g (start g) ss
  pub ready : IsReady g n (play_after g (start g) ss)

under_way_step : (g : PebbleGame) → IsDag g.dag → degree g.dag < g.slots → (n : ℕ) (ss : List Step) (planned : Bool) → is_planned g.dag n ≡ planned → AreUnderWay g n ss
    → AreUnderWay g (n + 1) (ss ++ cond planned (turn_steps g n (play_after g (start g) ss)) [])
under_way_step g dag room n ss true planned before =
    let at = play_after g (start g) ss in
    record {
      play = append_play g (start g) ss (turn_steps g n at) before.play (turn_play g dag room n planned at before.ready);
      ready = subst (IsReady g (n + 1)) (sym (append_after g (start g) ss (turn_steps g n at))) (turn_ready g dag room n planned at before.ready);
    }
under_way_step g dag room n ss false out before =
    let same : ss ++ [] ≡ ss = append-nil ss in
    subst (AreUnderWay g (n + 1)) (sym same) (record { play = before.play; ready = passed_ready g n (play_after g (start g) ss) out before.ready })

ready_at : (g : PebbleGame) (n m : ℕ) (ss : List Step) → n ≡ m → AreUnderWay g n ss → AreUnderWay g m ss
ready_at g n m ss e h = subst (λ k. AreUnderWay g k ss) e h

pub steps_are_under_way : (g : PebbleGame) → IsDag g.dag → degree g.dag < g.slots → (n : ℕ) → AreUnderWay g n (steps_below g n)
unfolding steps_below
steps_are_under_way g dag room zero = record { play = tt; ready = start_ready g dag }
steps_are_under_way g dag room (suc n) =
    ready_at g (n + 1) (suc n) _ (omega arith) (under_way_step g dag room n (steps_below g n) (is_planned g.dag n) refl (steps_are_under_way g dag room n))

pub first_plan_finishes : FirstPlanFinishes
first_plan_finishes g dag room =
    let all = steps_are_under_way g dag room g.dag.count in
    record { play = all.play; finishes = λ x h. all.ready.held x (dag.outputs_are_vertices x h) (live_output g.dag x h) (inl h) }
