-- The moves of a normal play place no pebble where one of its colour stands.
use Rattle.std.proofs.Common.{◌≡◌, ℕ, zero, suc, ◌<◌, Bool, true, false, cond, List, [], ◌∷◌, ◌++◌, map, refl, sym, ap, ◌∙◌, subst, arith, append-nil}
use Rattle.std.specs.Prelude.{⊤}
use Rattle.std.specs.List.{All}
use Rattle.std.proofs.lemmas.List.Elements.{All-head, All-tail}
use Rattle.std.proofs.lemmas.Bool.{false_from_ne_true}
use Rattle.std.specs.FinSet.{contains, insert, union, difference}
use Rattle.comp_graph.specs.Vertices.{Vertices, ◌∈◌, ◌∉◌, IsOutside, rising}
use Rattle.comp_graph.specs.Sets.{membership}
use Rattle.comp_graph.specs.Dags.{IsDag}
use Rattle.comp_graph.specs.Games.{PebbleGame}
use Rattle.comp_graph.proofs.DagLaws.{live_vertex}
use Rattle.comp_graph.proofs.Rising.{All-rising, set_of_rising}
use Rattle.comp_graph.proofs.Sets.{difference_first, difference_second, union_difference}
use Rattle.pebble_rules.specs.Rules.{moved, position_after}
use Rattle.pebble_rules.specs.declared.position.Position.{Position}
use Rattle.pebble_rules.specs.declared.moves.Move.{Move}
use Rattle.pebble_rules.specs.declared.moves.Move.TheVariants.{Load, Store, Compute}
use Rattle.pebble_rules.proofs.Possible.{append_position}
use Rattle.normal_steps.specs.declared.step.Step.{Step}
use Rattle.normal_steps.specs.declared.step.Step.TheVariants.{Work, Drop, Spill}
use Rattle.normal_steps.specs.Steps.{IsStep, CanWork, stepped}
use Rattle.normal_steps.specs.PlanMoves.{step_moves, play_moves}
use Rattle.normal_steps.proofs.PlanMoves.{loads_after}
use Rattle.slot_alloc.specs.Neat.{AreNeat}
use Rattle.slot_alloc.specs.PlanCode.{PlaysAreNeat}

-- ---- lists of new vertices

-- each number of the list is new where it comes, from the members of s on
abbrev AreNew : Vertices → List ℕ → Type 0
AreNew s [] = ⊤
AreNew s (k ∷ ks) = (k ∉ s) × AreNew (insert s k) ks

still_new : (s : Vertices) (x k : ℕ) → x < k → k ∉ s → k ∉ insert s x
still_new s x k less new = grind (arith, membership)

new_behind : (s : Vertices) (ks : List ℕ) (k : ℕ) → All (λ x. x < k) ks → k ∉ s → AreNew s ks → AreNew s (ks ++ k ∷ [])
new_behind s [] k below new all = (new, tt)
new_behind s (x ∷ ks) k below new all =
    (all.0, new_behind (insert s x) ks k (All-tail (λ x. x < k) x ks below) (still_new s x k (All-head (λ x. x < k) x ks below) new) all.1)

new_step : (s t : Vertices) (n : ℕ) → IsOutside t s → (here : Bool) → contains t n ≡ here → AreNew s (rising n t) → AreNew s (rising n t ++ cond here (n ∷ []) [])
new_step s t n out true member before = new_behind s (rising n t) n (All-rising n t) (out n member) before
new_step s t n out false member before = subst (AreNew s) (sym (append-nil (rising n t))) before

rising_new : (s t : Vertices) → IsOutside t s → (n : ℕ) → AreNew s (rising n t)
unfolding rising
rising_new s t out zero = tt
rising_new s t out (suc n) = new_step s t n out (contains t n) refl (rising_new s t out n)

-- ---- lists of moves

append_neat : (p : Position) (ms ns : List Move) → AreNeat p ms → AreNeat (position_after p ms) ns → AreNeat p (ms ++ ns)
append_neat p [] ns a b = b
append_neat p (m ∷ ms) ns a b = (a.0, append_neat (moved p m) ms ns a.1 b)

loads_neat : (p : Position) (ks : List ℕ) → AreNew p.red ks → AreNeat p (map Load ks)
loads_neat p [] new = tt
loads_neat p (k ∷ ks) new = (new.0, loads_neat (moved p (Load k)) ks new.1)

stores_neat : (p : Position) (ks : List ℕ) → AreNew p.blue ks → AreNeat p (map Store ks)
stores_neat p [] new = tt
stores_neat p (k ∷ ks) new = (new.0, stores_neat (moved p (Store k)) ks new.1)

-- ---- a step

module _ (g : PebbleGame) (dag : IsDag g.dag) (p : Position) (v : ℕ) (can : CanWork g p v) where
  missing_below : (q : ℕ) → q ∈ difference (g.dag.preds v) p.red → q < g.dag.count
  missing_below q h =
      let vertex = live_vertex g.dag dag v can.live in let below = dag.preds_below v q (difference_first (g.dag.preds v) p.red q h) in omega arith

  missing_out : IsOutside (difference (g.dag.preds v) p.red) p.red
  missing_out q h = difference_second (g.dag.preds v) p.red q h

  loaded : position_after p (map Load (rising g.dag.count (difference (g.dag.preds v) p.red))) ≡ record { red = union p.red (g.dag.preds v); blue = p.blue }
  loaded =
      loads_after p _
      ∙ ap (λ s. record { red = union p.red s; blue = p.blue }) (set_of_rising g.dag.count _ missing_below)
      ∙ ap (λ r. record { red = r; blue = p.blue }) (union_difference p.red (g.dag.preds v))

  not_own : v ∉ g.dag.preds v
  not_own = false_from_ne_true _ (λ h. let less = dag.preds_below v v h in absurd (omega arith))

  computed_new : v ∉ union p.red (g.dag.preds v)
  computed_new = let own = not_own in let red = can.not_red in grind (arith, membership)

  work_neat : AreNeat p (step_moves g p (Work v))
  work_neat =
      append_neat p (map Load (rising g.dag.count (difference (g.dag.preds v) p.red))) (Compute v ∷ [])
      (loads_neat p _ (rising_new p.red (difference (g.dag.preds v) p.red) missing_out g.dag.count))
      (subst (λ q. v ∉ q.red) (sym loaded) computed_new, tt)

  work_after : position_after p (step_moves g p (Work v)) ≡ stepped g p (Work v)
  work_after = append_position p (map Load (rising g.dag.count (difference (g.dag.preds v) p.red))) (Compute v ∷ []) ∙ ap (λ q. moved q (Compute v)) loaded

step_neat : (g : PebbleGame) → IsDag g.dag → (p : Position) (s : Step) → IsStep g p s → AreNeat p (step_moves g p s)
step_neat g dag p (Work v) can = work_neat g dag p v can
step_neat g dag p (Drop u) can = (tt, tt)
step_neat g dag p (Spill u) can = (can.not_blue, (tt, tt))

step_after : (g : PebbleGame) → IsDag g.dag → (p : Position) (s : Step) → IsStep g p s → position_after p (step_moves g p s) ≡ stepped g p s
step_after g dag p (Work v) can = work_after g dag p v can
step_after g dag p (Drop u) can = refl
step_after g dag p (Spill u) can = refl

-- ---- a play

pub plays_are_neat : PlaysAreNeat
plays_are_neat g dag p [] h =
    stores_neat p _ (rising_new p.blue (difference g.dag.outputs p.blue) (λ q i. difference_second g.dag.outputs p.blue q i) g.dag.count)
plays_are_neat g dag p (s ∷ ss) h =
    append_neat p (step_moves g p s) (play_moves g (stepped g p s) ss)
    (step_neat g dag p s h.play.0)
    (subst (λ q. AreNeat q (play_moves g (stepped g p s) ss)) (sym (step_after g dag p s h.play.0))
    (plays_are_neat g dag (stepped g p s) ss (record { play = h.play.1; finishes = h.finishes })))
