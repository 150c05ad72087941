-- The first plan of each game, the labels of a code, and too few slots.
use Rattle.std.proofs.Common.{◌≡◌, ℕ, ◌+◌, ◌≤◌, ◌<◌, List, [], ◌∷◌, map, Option, None, inr, refl, ap, ◌∙◌, arith}
use Rattle.comp_graph.specs.declared.node.Output.{Output}
use Rattle.comp_graph.specs.declared.costs.Weights.{Weights}
use Rattle.comp_graph.specs.Dags.{degree}
use Rattle.comp_graph.specs.Graphs.{GraphParts, IsGraph, dag_of}
use Rattle.comp_graph.specs.Games.{GameParts, IsGame, game_of}
use Rattle.comp_graph.proofs.GraphLaws.{IsDag-dag_of}
use Rattle.pebble_rules.specs.declared.moves.Move.{Move}
use Rattle.pebble_rules.specs.Rules.{start, IsComplete}
use Rattle.pebble_rules.proofs.Possible.{possible_above_degree}
use Rattle.scratch_machine.specs.declared.code.OutWord.{OutWord}
use Rattle.command_answers.specs.declared.status.Status.{Status}
use Rattle.command_answers.specs.declared.status.Status.TheVariants.{TooSmall}
use Rattle.kernel_ast.specs.KernelParts.{KernelParts}
use Rattle.command_answers.specs.Accepted.{IsAccepted}
use Rattle.normal_steps.specs.Plans.{PlanParts, IsPlan}
use Rattle.normal_steps.specs.Steps.{total_cost}
use Rattle.first_plan.specs.FirstPlan.{first_steps}
use Rattle.first_plan.proofs.Turns.{first_plan_finishes}
use Rattle.first_plan.proofs.Costs.{first_is_plan}
use Rattle.slot_alloc.specs.Emitted.{Layout, output_words}
use Rattle.command_answers.specs.PlanAnswers.{first_plan_of}
use Rattle.command_answers.specs.PlayedGames.{played_on}
use Rattle.command_answers.specs.Refusals.{IsTooSmall, too_small_text}
use Rattle.command_answers.proofs.Accepting.{accepted_graph}

pub labels_kept : (l : Layout) (os : List Output) → map (λ (o : OutWord). o.label) (output_words l os) ≡ map (λ (o : Output). o.label) os
labels_kept l [] = refl
labels_kept l (o ∷ os) = ap (λ xs. o.label ∷ xs) (labels_kept l os)

-- a plan with the game, the steps and the cost of the first plan is the first plan
pub first_plan_is : (g : GameParts) (plan : PlanParts) → plan.game ≡ g → plan.steps ≡ first_steps (game_of g)
    → plan.total ≡ total_cost (game_of g) (start (game_of g)) (first_steps (game_of g)) → plan ≡ first_plan_of g
first_plan_is g plan game steps total = λ i. record { game = game i; steps = steps i; total = total i }

-- the first plan of a game is a plan
pub first_plan_valid : (g : GameParts) → IsGame g → IsPlan (first_plan_of g)
first_plan_valid g game = record {
  finishing = first_plan_finishes (game_of g) (IsDag-dag_of g.graph game.valid) game.room;
  costs = refl;
  fits = let small = first_is_plan g game (first_steps (game_of g)) refl in fits (first_plan_of g).total (λ dear. small (inr dear));
}
  where
    fits : (n : ℕ) → (4294967295 < n → ⊥) → n ≤ 4294967295
    fits n few = grind (arith, few)

-- with too few slots there is no complete pebbling
too_few_slots : (graph : GraphParts) (slots : ℕ) → IsGraph graph → 0 < slots → slots ≤ degree (dag_of graph)
    → (weights : Weights) (moves : List Move) → IsComplete (played_on graph slots weights) (start (played_on graph slots weights)) moves → ⊥
too_few_slots graph slots valid some small weights = (possible_above_degree (played_on graph slots weights) (IsDag-dag_of graph valid) some).0 small

-- a kernel with too few slots
pub is_too_small : (slots needs : ℕ) (text : List ℕ) (kernel : KernelParts) (graph : GraphParts) (status : Status) (printed : List ℕ) (table : Option (List ℕ))
    → 0 < slots → IsAccepted text kernel graph → slots ≤ degree (dag_of graph) → needs ≡ degree (dag_of graph) + 1
    → status ≡ TooSmall → printed ≡ too_small_text needs → table ≡ None → IsTooSmall slots text status printed table
is_too_small slots needs text kernel graph status printed table some accepted small needed is line none = record {
  kernel = kernel;
  graph = graph;
  accepted = accepted;
  small = small;
  impossible = too_few_slots graph slots (accepted_graph accepted) some small;
  ends = is;
  line = line ∙ ap too_small_text needed;
  none = none;
}
