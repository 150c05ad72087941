-- What the calls do, one step at a time.
use Rattle.std.proofs.Common.{◌≡◌, ℕ, suc, ◌+◌, ◌<◌, ◌⊎◌, inl, inr, Bool, true, false, not, ◌&&◌, ◌||◌, ltb, cond, List, [], ◌∷◌, ◌++◌, length, get_or, refl, sym, ap, ◌∙◌, subst, arith, append-nil, append_assoc}
use Rattle.std.proofs.lemmas.Bool.Decides.{nat_tests}
use Rattle.std.specs.Option.{IfNone, IsSome}
use Rattle.std.specs.Prelude.{Option, Some, None}
use Rattle.std.specs.FinSet as set
use Rattle.comp_graph.specs.Vertices.{Vertices, ◌∈◌, AllBelow, size, set_below}
use Rattle.comp_graph.specs.Sets.{membership}
use Rattle.comp_graph.specs.Dags.{Dag, IsDag, degree, live_of}
use Rattle.comp_graph.specs.Graphs.{GraphParts, dag_of}
use Rattle.comp_graph.specs.Games.{PebbleGame, GameParts, game_of}
use Rattle.comp_graph.proofs.Sets.{size_of_member}
use Rattle.pebble_rules.specs.Rules.{start}
use Rattle.pebble_rules.specs.declared.position.Position.{Position}
use Rattle.normal_steps.specs.Steps.{CanWork, IsStep, stepped, play_after}
use Rattle.normal_steps.specs.declared.step.Step.{Step}
use Rattle.normal_steps.specs.declared.step.Step.TheVariants.{Work, Drop, Spill}
use Rattle.normal_steps.proofs.Simulation.{append_after}
use Rattle.first_plan.specs.NextUses.{is_planned, next_use}
use Rattle.first_plan.specs.Victims.{last_needed, victim, is_missed, removal_of, removal}
use Rattle.first_plan.specs.FirstPlan.{is_short, room_steps, turn_steps, steps_below}
use Rattle.first_plan.specs.Ready.{readers_of, AreReaders, AreAhead, IsReady}
use Rattle.first_plan.proofs.NextUses.{wanted_is}
use Rattle.first_plan.proofs.Turns.{removal_is_step, removal_ready, fewer_red, room_first, room_made, can_work, no_room_steps, steps_are_under_way}

-- ---- readers

pub readers_none : (d : Dag) (u : ℕ) → set.empty ≡ set_below (λ w. set.contains (d.preds w) u) 0
unfolding set_below
readers_none d u = refl

pub below_next : (p : ℕ → Bool) (n : ℕ) (here : Bool) → p n ≡ here → set_below p (n + 1) ≡ cond here (set.insert (set_below p n) n) (set_below p n)
unfolding set_below
below_next p n here e = (let one : n + 1 ≡ suc n = omega arith in ap (set_below p) one) ∙ ap (λ b. cond b (set.insert (set_below p n) n) (set_below p n)) e

pub readers_more : (d : Dag) (u w : ℕ) (readers more preds : Vertices) (here : Bool) → readers ≡ set_below (λ w. set.contains (d.preds w) u) w → preds ≡ d.preds w → here ≡ set.contains preds u → here ≡ true
    → more ≡ set.insert readers w → more ≡ set_below (λ w. set.contains (d.preds w) u) (w + 1)
readers_more d u w readers more preds here before preds_are tested is grown =
    grown ∙ ap (λ s. set.insert s w) before
    ∙ sym (below_next (λ w. set.contains (d.preds w) u) w true (ap (λ s. set.contains s u) (sym preds_are) ∙ sym tested ∙ is))

pub readers_same : (d : Dag) (u w : ℕ) (readers preds : Vertices) (here : Bool) → readers ≡ set_below (λ w. set.contains (d.preds w) u) w → preds ≡ d.preds w → here ≡ set.contains preds u → here ≡ false
    → readers ≡ set_below (λ w. set.contains (d.preds w) u) (w + 1)
readers_same d u w readers preds here before preds_are tested out =
    before ∙ sym (below_next (λ w. set.contains (d.preds w) u) w false (ap (λ s. set.contains s u) (sym preds_are) ∙ sym tested ∙ out))

-- the readers of the vertices below n
pub record AreReadersBelow (d : Dag) (n : ℕ) (readers : List Vertices) : Type 0 where
  pub many : length readers ≡ n
  pub each : (u : ℕ) → u < n → (other : Vertices) → get_or readers u other ≡ readers_of d u

pub all_readers_none : (d : Dag) → AreReadersBelow d 0 []
all_readers_none d = record { many = refl; each = λ u l other. absurd (omega arith) }

pub all_readers_done : (d : Dag) (n : ℕ) (readers : List Vertices) → AreReadersBelow d n readers → n ≡ d.count → AreReaders d readers
all_readers_done d n readers are e = record { count = are.many ∙ e; each = λ u l other. are.each u (omega arith) other }

-- ---- the vertices ahead

-- the vertices from n on that the plan works on
pub record AreLeft (d : Dag) (n : ℕ) (ahead : Vertices) : Type 0 where
  pub members : (w : ℕ) → set.contains ahead w ≡ (not (ltb w n) && is_planned d w)

pub all_left : (d : Dag) → IsDag d → (ahead : Vertices) → ahead ≡ set.difference (live_of d) d.inputs → AreLeft d 0 ahead
all_left d dag ahead e = record { members = λ w. ap (λ s. set.contains s w) e ∙ wanted_is d dag w ∙ from_none (is_planned d w) w }
  where
    from_none : (a : Bool) (w : ℕ) → a ≡ (not (ltb w 0) && a)
    from_none a w = grind (arith, nat_tests)

pub left_wanted : (d : Dag) (v : ℕ) (ahead : Vertices) (here : Bool) → AreLeft d v ahead → set.contains ahead v ≡ here → is_planned d v ≡ here
left_wanted d v ahead here left e = own (set.contains ahead v) (is_planned d v) v (left.members v) ∙ e
  where
    own : (b a : Bool) (v : ℕ) → b ≡ (not (ltb v v) && a) → a ≡ b
    own b a v h = grind (arith, nat_tests)

pub left_ahead : (d : Dag) (v : ℕ) (ahead after : Vertices) → AreLeft d v ahead → after ≡ set.remove ahead v → AreAhead d v after
left_ahead d v ahead after left e = record { members = λ w. let before = left.members w in ap (λ s. set.contains s w) e ∙ taken ahead v w (is_planned d w) before }
  where
    taken : (s : Vertices) (v w : ℕ) (a : Bool) → set.contains s w ≡ (not (ltb w v) && a) → set.contains (set.remove s v) w ≡ (ltb v w && a)
    taken s v w a h = grind (arith, membership)

pub ahead_left : (d : Dag) (v : ℕ) (after : Vertices) → AreAhead d v after → AreLeft d (v + 1) after
ahead_left d v after ahead = record { members = λ w. ahead.members w ∙ next (is_planned d w) v w }
  where
    next : (a : Bool) (v w : ℕ) → (ltb v w && a) ≡ (not (ltb w (v + 1)) && a)
    next a v w = grind (arith, nat_tests)

pub left_passed : (d : Dag) (v : ℕ) (ahead : Vertices) → AreLeft d v ahead → set.contains ahead v ≡ false → AreLeft d (v + 1) ahead
left_passed d v ahead left out = record {
  members = λ w. elim (same_or_not w v) [
    | inl e ↦ ap (set.contains ahead) e ∙ out ∙ passed w v (is_planned d w) e
    | inr other ↦ left.members w ∙ later w v (is_planned d w) other
  ];
}
  where
    same_or_not : (x u : ℕ) → (x ≡ u) ⊎ (x ≡ u → ⊥)
    same_or_not x u = grind arith

    passed : (w v : ℕ) (a : Bool) → w ≡ v → false ≡ (not (ltb w (v + 1)) && a)
    passed w v a e = grind (arith, nat_tests)

    later : (w v : ℕ) (a : Bool) → (w ≡ v → ⊥) → (not (ltb w v) && a) ≡ (not (ltb w (v + 1)) && a)
    later w v a other = grind (arith, nat_tests)

-- ---- one removal

pub removal_spills : (g : PebbleGame) (p : Position) (v u : ℕ) (missed : Bool) → u ≡ victim g p v → missed ≡ is_missed g p v u → missed ≡ true → Spill u ≡ removal g p v
unfolding removal_of
removal_spills g p v u missed e tested is = ap (λ b. cond b (Spill u) (Drop u)) (sym (sym tested ∙ is)) ∙ ap (removal_of g p v) e

pub removal_drops : (g : PebbleGame) (p : Position) (v u : ℕ) (missed : Bool) → u ≡ victim g p v → missed ≡ is_missed g p v u → missed ≡ false → Drop u ≡ removal g p v
unfolding removal_of
removal_drops g p v u missed e tested is = ap (λ b. cond b (Spill u) (Drop u)) (sym (sym tested ∙ is)) ∙ ap (removal_of g p v) e

-- the victim and what is asked of it, where the graph is that of the game
module _ (game : GameParts) (graph : GraphParts) (p : Position) (v : ℕ) (preds spare : Vertices) (graph_is : graph ≡ game.graph) (preds_are : preds ≡ (dag_of graph).preds v) (spare_is : spare ≡ set.difference p.red preds) where
  pub spare_of_game : spare ≡ set.difference p.red ((dag_of game.graph).preds v)
  spare_of_game = spare_is ∙ ap (set.difference p.red) (preds_are ∙ ap (λ x. (dag_of x).preds v) graph_is)

  pub vertices_below : AllBelow (length game.graph.nodes) (set.difference p.red ((dag_of game.graph).preds v)) → AllBelow (length graph.nodes) spare
  vertices_below below = subst (λ x. AllBelow (length x.nodes) spare) (sym graph_is) (subst (AllBelow (length game.graph.nodes)) (sym spare_of_game) below)

  pub some_spare : (x : ℕ) → x ∈ set.difference p.red ((dag_of game.graph).preds v) → 0 < size spare
  some_spare x h = size_of_member spare x (subst (λ s. x ∈ s) (sym spare_of_game) h)

  pub victim_found : (u : ℕ) → u ≡ last_needed (dag_of graph) v spare → u ≡ victim (game_of game) p v
  victim_found u e = e ∙ (λ i. last_needed (dag_of (graph_is i)) v (spare_of_game i))

  pub missed_is : (u next : ℕ) (missed : Bool) → next ≡ next_use (dag_of graph) v u
      → missed ≡ (not (set.contains p.blue u) && (ltb next (length graph.nodes) || set.contains (dag_of graph).outputs u)) → missed ≡ is_missed (game_of game) p v u
  missed_is u next missed e h =
      h
      ∙ ap (λ k. not (set.contains p.blue u) && (ltb k (length graph.nodes) || set.contains (dag_of graph).outputs u)) e
      ∙ ap (λ x. not (set.contains p.blue u) && (ltb (next_use (dag_of x) v u) (length x.nodes) || set.contains (dag_of x).outputs u)) graph_is

-- ---- room is made

-- on the way to room for v: these steps are made so far, `all` is what they will be, and `target` the position then
pub record IsMakingRoom (g : PebbleGame) (v : ℕ) (p : Position) (made all : List Step) (target : Position) : Type 0 where
  pub ready : IsReady g v p
  pub steps : made ++ room_steps g v p ≡ all
  pub leads : play_after g p (room_steps g v p) ≡ target

pub room_more : (g : PebbleGame) → IsDag g.dag → degree g.dag < g.slots → (v : ℕ) → is_planned g.dag v ≡ true → (p q : Position) (s : Step) (made more all : List Step) (target : Position)
    → IsMakingRoom g v p made all target → is_short g p v ≡ true → s ≡ removal g p v → q ≡ stepped g p s → more ≡ made ++ s ∷ [] → IsMakingRoom g v q more all target
room_more g dag room v planned p q s made more all target making short s_is q_is more_is =
    let next : q ≡ stepped g p (removal g p v) = q_is ∙ ap (stepped g p) s_is in
    let first = room_first g dag room v planned p making.ready short in
    let grown : more ≡ made ++ removal g p v ∷ [] = more_is ∙ ap (λ x. made ++ x ∷ []) s_is in
    record {
      ready = subst (IsReady g v) (sym next) (removal_ready g dag room v planned p making.ready short);
      steps =
          ap (λ x. more ++ room_steps g v x) next
          ∙ ap (λ x. x ++ room_steps g v (stepped g p (removal g p v))) grown
          ∙ append_assoc made (removal g p v ∷ []) (room_steps g v (stepped g p (removal g p v)))
          ∙ ap (λ x. made ++ x) (sym first)
          ∙ making.steps;
      leads = ap (λ x. play_after g x (room_steps g v x)) next ∙ sym (ap (play_after g p) first) ∙ making.leads;
    }

pub room_steps_made : (g : PebbleGame) (v : ℕ) (p : Position) (made all : List Step) (target : Position) → IsMakingRoom g v p made all target → is_short g p v ≡ false → made ≡ all
room_steps_made g v p made all target making enough = sym (append-nil made) ∙ ap (λ x. made ++ x) (sym (no_room_steps g v p enough)) ∙ making.steps

pub room_reached : (g : PebbleGame) (v : ℕ) (p : Position) (made all : List Step) (target : Position) → IsMakingRoom g v p made all target → is_short g p v ≡ false → p ≡ target
room_reached g v p made all target making enough = ap (play_after g p) (sym (no_room_steps g v p enough)) ∙ making.leads

pub removal_step : (g : PebbleGame) → IsDag g.dag → degree g.dag < g.slots → (v : ℕ) → is_planned g.dag v ≡ true → (p : Position) (s : Step) → IsReady g v p → is_short g p v ≡ true → s ≡ removal g p v → IsStep g p s
removal_step g dag room v planned p s ready short e = subst (IsStep g p) (sym e) (removal_is_step g dag room v planned p ready short)

pub removal_takes : (g : PebbleGame) → IsDag g.dag → degree g.dag < g.slots → (v : ℕ) → is_planned g.dag v ≡ true → (p q : Position) (s : Step) → IsReady g v p → is_short g p v ≡ true → s ≡ removal g p v → q ≡ stepped g p s
    → size q.red < size p.red
removal_takes g dag room v planned p q s ready short e f =
    let fewer = fewer_red g dag room v planned p ready short in
    let same = ap (λ x. size x.red) (f ∙ ap (stepped g p) e) in
    omega arith

-- ---- one turn

pub work_step : (g : PebbleGame) → IsDag g.dag → degree g.dag < g.slots → (v : ℕ) → is_planned g.dag v ≡ true → (p q : Position) → IsReady g v p → q ≡ play_after g p (room_steps g v p) → CanWork g q v
work_step g dag room v planned p q ready e =
    let made = room_made g dag room v planned p ready in
    subst (λ x. CanWork g x v) (sym e) (can_work g dag room v planned (play_after g p (room_steps g v p)) made.ready made.enough)

pub turn_steps_made : (g : PebbleGame) (v : ℕ) (p : Position) (before made more : List Step) → made ≡ before ++ room_steps g v p → more ≡ made ++ Work v ∷ [] → more ≡ before ++ turn_steps g v p
turn_steps_made g v p before made more e f = f ∙ ap (λ x. x ++ Work v ∷ []) e ∙ append_assoc before (room_steps g v p) (Work v ∷ [])

pub turn_reached : (g : PebbleGame) (v : ℕ) (p q r : Position) → q ≡ play_after g p (room_steps g v p) → r ≡ stepped g q (Work v) → r ≡ play_after g p (turn_steps g v p)
turn_reached g v p q r e f = f ∙ ap (λ x. stepped g x (Work v)) e ∙ sym (append_after g p (room_steps g v p) (Work v ∷ []))

-- ---- all turns

-- the turns of the vertices below n are done
pub record AreDone (g : PebbleGame) (n : ℕ) (steps : List Step) (p : Position) (ahead : Vertices) : Type 0 where
  pub made : steps ≡ steps_below g n
  pub position : p ≡ play_after g (start g) (steps_below g n)
  pub left : AreLeft g.dag n ahead

pub none_done : (g : PebbleGame) → IsDag g.dag → (p : Position) (ahead : Vertices) → p ≡ start g → ahead ≡ set.difference (live_of g.dag) g.dag.inputs → AreDone g 0 [] p ahead
unfolding steps_below
none_done g dag p ahead e left = record { made = refl; position = e; left = all_left g.dag dag ahead left }

pub done_ready : (g : PebbleGame) → IsDag g.dag → degree g.dag < g.slots → (n : ℕ) (steps : List Step) (p : Position) (ahead : Vertices) → AreDone g n steps p ahead → IsReady g n p
done_ready g dag room n steps p ahead done = subst (IsReady g n) (sym done.position) (steps_are_under_way g dag room n).ready

below_step : (g : PebbleGame) (n : ℕ) (planned : Bool) → is_planned g.dag n ≡ planned
    → steps_below g (n + 1) ≡ steps_below g n ++ cond planned (turn_steps g n (play_after g (start g) (steps_below g n))) []
unfolding steps_below
below_step g n planned e =
    (let one : n + 1 ≡ suc n = omega arith in ap (steps_below g) one)
    ∙ ap (λ b. steps_below g n ++ cond b (turn_steps g n (play_after g (start g) (steps_below g n))) []) e

pub done_turn : (g : PebbleGame) (n : ℕ) (steps more : List Step) (p q : Position) (ahead after : Vertices) → AreDone g n steps p ahead → set.contains ahead n ≡ true → AreAhead g.dag n after
    → more ≡ steps ++ turn_steps g n p → q ≡ play_after g p (turn_steps g n p) → AreDone g (n + 1) more q after
done_turn g n steps more p q ahead after done is later more_is q_is =
    let at = play_after g (start g) (steps_below g n) in
    let grown = below_step g n true (left_wanted g.dag n ahead true done.left is) in
    record {
      made = more_is ∙ (λ i. done.made i ++ turn_steps g n (done.position i)) ∙ sym grown;
      position = q_is ∙ ap (λ x. play_after g x (turn_steps g n x)) done.position ∙ sym (append_after g (start g) (steps_below g n) (turn_steps g n at)) ∙ ap (play_after g (start g)) (sym grown);
      left = ahead_left g.dag n after later;
    }

pub done_passed : (g : PebbleGame) (n : ℕ) (steps more : List Step) (p q : Position) (ahead after : Vertices) → AreDone g n steps p ahead → set.contains ahead n ≡ false → more ≡ steps → q ≡ p → after ≡ ahead
    → AreDone g (n + 1) more q after
done_passed g n steps more p q ahead after done out more_is q_is after_is =
    let same : steps_below g (n + 1) ≡ steps_below g n = below_step g n false (left_wanted g.dag n ahead false done.left out) ∙ append-nil (steps_below g n) in
    record {
      made = more_is ∙ done.made ∙ sym same;
      position = q_is ∙ done.position ∙ ap (play_after g (start g)) (sym same);
      left = subst (AreLeft g.dag (n + 1)) (sym after_is) (left_passed g.dag n ahead done.left out);
    }

-- ---- the plan

-- a value is there where its want is refuted
pub some_unless : {T : Type 0} (P : Type 0) (r : Option T) → IfNone r P → (P → ⊥) → IsSome r
some_unless P None h refuted = absurd (refuted h)
some_unless P (Some x) h refuted = refl
