-- What the steps of the first plan cost, and which vertices they work on.
use Rattle.std.proofs.Common.{◌≡◌, ℕ, zero, suc, ◌+◌, ◌*◌, ◌≤◌, ◌<◌, inl, inr, Bool, true, false, ◌&&◌, ltb, cond, List, [], ◌∷◌, ◌++◌, refl, sym, ap, ◌∙◌, subst, arith, append-nil}
use Rattle.std.proofs.lemmas.Bool.Decides.{nat_tests}
use Rattle.std.proofs.lemmas.Nat.{mul-le}
use Rattle.std.proofs.lemmas.List.Quantifiers.{all_pairs_push}
use Rattle.std.specs.List.{AllPairs}
use Rattle.std.specs.FinSet as set
use Rattle.comp_graph.specs.Vertices.{Vertices, size, rising}
use Rattle.comp_graph.specs.Sets.{has_set_below}
use Rattle.comp_graph.specs.Dags.{Dag, IsDag}
use Rattle.comp_graph.specs.Games.{PebbleGame, GameParts, game_of, IsGame}
use Rattle.comp_graph.proofs.Sets.{size_le_below, difference_first}
use Rattle.comp_graph.proofs.Rising.{All-rising}
use Rattle.comp_graph.proofs.GraphLaws.{IsDag-dag_of}
use Rattle.pebble_rules.specs.Rules.{start}
use Rattle.pebble_rules.specs.declared.position.Position.{Position}
use Rattle.normal_steps.specs.Steps.{stepped, step_cost, play_after, play_cost, finish_cost, work_vertices}
use Rattle.normal_steps.specs.Plans.{IsNoPlan}
use Rattle.normal_steps.specs.declared.step.Step.{Step}
use Rattle.normal_steps.specs.declared.step.Step.TheVariants.{Work, Drop, Spill}
use Rattle.normal_steps.proofs.Simulation.{append_cost}
use Rattle.first_plan.specs.NextUses.{is_planned, planned_of}
use Rattle.first_plan.specs.Victims.{is_missed, removal_of, removal, victim}
use Rattle.first_plan.specs.FirstPlan.{is_short, removals, room_steps, turn_steps, steps_below, first_steps}
use Rattle.first_plan.specs.Ready.{IsReady}
use Rattle.first_plan.specs.Laws.{WorksInOrder, WorksOnce}
use Rattle.first_plan.proofs.Turns.{steps_are_under_way, first_plan_finishes}

-- ---- the vertices that the steps work on

works_append : (ss ts : List Step) → work_vertices (ss ++ ts) ≡ work_vertices ss ++ work_vertices ts
works_append [] ts = refl
works_append (Work v ∷ ss) ts = ap (λ vs. v ∷ vs) (works_append ss ts)
works_append (Drop u ∷ ss) ts = works_append ss ts
works_append (Spill u ∷ ss) ts = works_append ss ts

removal_works : (missed : Bool) (u : ℕ) (ss : List Step) → work_vertices (cond missed (Spill u) (Drop u) ∷ ss) ≡ work_vertices ss
removal_works true u ss = refl
removal_works false u ss = refl

one_removal : (g : PebbleGame) (p : Position) (v u : ℕ) (ss : List Step) → work_vertices (removal_of g p v u ∷ ss) ≡ work_vertices ss
unfolding removal_of
one_removal g p v u ss = removal_works (is_missed g p v u) u ss

short_works : (short : Bool) (s : Step) (ss : List Step) → work_vertices (s ∷ ss) ≡ [] → work_vertices (cond short (s ∷ ss) []) ≡ []
short_works true s ss h = h
short_works false s ss h = refl

removals_work : (g : PebbleGame) (v times : ℕ) (p : Position) → work_vertices (removals g v times p) ≡ []
unfolding removals
removals_work g v zero p = refl
removals_work g v (suc times) p =
    short_works (is_short g p v) (removal g p v) (removals g v times (stepped g p (removal g p v)))
    (one_removal g p v (victim g p v) (removals g v times (stepped g p (removal g p v))) ∙ removals_work g v times (stepped g p (removal g p v)))

turn_works : (g : PebbleGame) (v : ℕ) (p : Position) → work_vertices (turn_steps g v p) ≡ v ∷ []
turn_works g v p = works_append (room_steps g v p) (Work v ∷ []) ∙ ap (λ vs. vs ++ v ∷ []) (removals_work g v (size p.red) p)

next_works : (g : PebbleGame) (n : ℕ) (p : Position) (planned : Bool) → work_vertices (cond planned (turn_steps g n p) []) ≡ cond planned (n ∷ []) []
next_works g n p true = turn_works g n p
next_works g n p false = refl

has_early : (b a : Bool) (n count : ℕ) → b ≡ (ltb n count && a) → n < count → a ≡ b
has_early b a n count e l = grind (arith, nat_tests)

steps_work : (g : PebbleGame) (n : ℕ) → n ≤ g.dag.count → work_vertices (steps_below g n) ≡ rising n (planned_of g.dag)
unfolding steps_below rising
steps_work g zero small = refl
steps_work g (suc n) small =
    let at = play_after g (start g) (steps_below g n) in
    works_append (steps_below g n) (cond (is_planned g.dag n) (turn_steps g n at) [])
    ∙ (λ i. steps_work g n (omega arith) i ++ next_works g n at (is_planned g.dag n) i)
    ∙ ap (λ b. rising n (planned_of g.dag) ++ cond b (n ∷ []) [])
    (has_early (set.contains (planned_of g.dag) n) (is_planned g.dag n) n g.dag.count (has_set_below (is_planned g.dag) g.dag.count n) (omega arith))

pub works_in_order : WorksInOrder
works_in_order g = steps_work g g.dag.count (omega arith)

pairs_last : (n : ℕ) (s : Vertices) (here : Bool) → AllPairs (λ v w. v < w) (rising n s) → AllPairs (λ v w. v < w) (rising n s ++ cond here (n ∷ []) [])
pairs_last n s true before = all_pairs_push (λ v w. v < w) (rising n s) n before (All-rising n s)
pairs_last n s false before = subst (AllPairs (λ v w. v < w)) (sym (append-nil (rising n s))) before

rising_pairs : (n : ℕ) (s : Vertices) → AllPairs (λ v w. v < w) (rising n s)
unfolding rising
rising_pairs zero s = λ i j d l h. absurd (omega arith)
rising_pairs (suc n) s = pairs_last n s (set.contains s n) (rising_pairs n s)

pub works_once : WorksOnce
works_once g = subst (AllPairs (λ v w. v < w)) (sym (works_in_order g)) (rising_pairs g.dag.count (planned_of g.dag))

-- ---- the cost, where a load and a store cost at most 16

removal_cost : (game : GameParts) → IsGame game → (p : Position) (u : ℕ) (missed : Bool) → step_cost (game_of game) p (cond missed (Spill u) (Drop u)) ≤ 16
removal_cost game valid p u true = valid.weights.store_most
removal_cost game valid p u false = omega arith

one_removal_cost : (game : GameParts) → IsGame game → (p : Position) (v u : ℕ) → step_cost (game_of game) p (removal_of (game_of game) p v u) ≤ 16
unfolding removal_of
one_removal_cost game valid p v u = removal_cost game valid p u (is_missed (game_of game) p v u)

short_cost : (game : GameParts) (p : Position) (short : Bool) (s : Step) (ss : List Step) (times : ℕ) → step_cost (game_of game) p s ≤ 16 → play_cost (game_of game) (stepped (game_of game) p s) ss ≤ 16 * times
    → play_cost (game_of game) p (cond short (s ∷ ss) []) ≤ 16 * (times + 1)
short_cost game p true s ss times first rest = omega arith
short_cost game p false s ss times first rest = omega arith

removals_cost : (game : GameParts) → IsGame game → (v times : ℕ) (p : Position) → play_cost (game_of game) p (removals (game_of game) v times p) ≤ 16 * times
unfolding removals
removals_cost game valid v zero p = omega arith
removals_cost game valid v (suc times) p =
    let s = removal (game_of game) p v in
    let q = stepped (game_of game) p s in
    let sum = short_cost game p (is_short (game_of game) p v) s (removals (game_of game) v times q) times (one_removal_cost game valid p v (victim (game_of game) p v)) (removals_cost game valid v times q) in
    omega arith

preds_few : (d : Dag) → IsDag d → (v : ℕ) (red : Vertices) → size (set.difference (d.preds v) red) ≤ v
preds_few d dag v red = size_le_below v (set.difference (d.preds v) red) (record { below = λ w h. dag.preds_below v w (difference_first (d.preds v) red w h) })

-- a weight times a number of vertices
few_times : (weight count : ℕ) → weight ≤ 16 → count ≤ 256 → weight * count ≤ 4096
few_times weight count small few = mul-le weight count 16 256 small few

-- a turn costs at most a store for each red vertex and a load for each predecessor
turn_cost : (game : GameParts) → IsGame game → (v : ℕ) (p : Position) → v < 256 → IsReady (game_of game) v p → play_cost (game_of game) p (turn_steps (game_of game) v p) ≤ 5120
turn_cost game valid v p small ready =
    let g = game_of game in
    let room = room_steps g v p in
    let sum = append_cost g p room (Work v ∷ []) in
    let removed = removals_cost game valid v (size p.red) p in
    let fits = ready.sound.fits in
    let few = valid.most in
    let preds = preds_few g.dag (IsDag-dag_of game.graph valid.valid) v (play_after g p room).red in
    let loads = few_times g.load (size (set.difference (g.dag.preds v) (play_after g p room).red)) valid.weights.load_most (omega arith) in
    omega arith

next_cost : (game : GameParts) → IsGame game → (n : ℕ) (p : Position) (planned : Bool) → n < 256 → IsReady (game_of game) n p → play_cost (game_of game) p (cond planned (turn_steps (game_of game) n p) []) ≤ 5120
next_cost game valid n p true small ready = turn_cost game valid n p small ready
next_cost game valid n p false small ready = omega arith

steps_cost : (game : GameParts) → IsGame game → (n : ℕ) → n ≤ 256 → play_cost (game_of game) (start (game_of game)) (steps_below (game_of game) n) ≤ 5120 * n
unfolding steps_below
steps_cost game valid zero small = omega arith
steps_cost game valid (suc n) small =
    let g = game_of game in
    let dag = IsDag-dag_of game.graph valid.valid in
    let at = play_after g (start g) (steps_below g n) in
    let sum = append_cost g (start g) (steps_below g n) (cond (is_planned g.dag n) (turn_steps g n at) []) in
    let before = steps_cost game valid n (omega arith) in
    let last = next_cost game valid n at (is_planned g.dag n) (omega arith) (steps_are_under_way g dag valid.room n).ready in
    omega arith

finish_few : (game : GameParts) → IsGame game → (p : Position) → finish_cost (game_of game) p ≤ 4096
finish_few game valid p =
    let g = game_of game in
    let dag = IsDag-dag_of game.graph valid.valid in
    let small = valid.valid.small in
    let few = size_le_below g.dag.count (set.difference g.dag.outputs p.blue) (record { below = λ w h. dag.outputs_are_vertices w (difference_first g.dag.outputs p.blue w h) }) in
    few_times g.store (size (set.difference g.dag.outputs p.blue)) valid.weights.store_most (omega arith)

-- the first plan of a game is a plan
pub first_is_plan : (game : GameParts) → IsGame game → (ss : List Step) → ss ≡ first_steps (game_of game) → IsNoPlan (game_of game) ss → ⊥
first_is_plan game valid ss e none = refuted (subst (IsNoPlan (game_of game)) e none)
  where
    refuted : IsNoPlan (game_of game) (first_steps (game_of game)) → ⊥
    refuted (inl unfinished) = unfinished (first_plan_finishes (game_of game) (IsDag-dag_of game.graph valid.valid) valid.room)
    refuted (inr dear) =
        let g = game_of game in
        let steps = steps_cost game valid g.dag.count valid.valid.small in
        let small = valid.valid.small in
        let finish = finish_few game valid (play_after g (start g) (first_steps g)) in
        omega arith
