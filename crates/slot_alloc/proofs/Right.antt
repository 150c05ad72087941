-- The code of a plan is right.
use Rattle.std.proofs.Common.{◌≡◌, ℕ, List, sym, ◌∙◌, subst, arith}
use Rattle.comp_graph.specs.Graphs.{GraphParts}
use Rattle.comp_graph.specs.Games.{IsGame, game_of}
use Rattle.comp_graph.proofs.GraphLaws.{IsDag-dag_of}
use Rattle.pebble_rules.specs.Rules.{start}
use Rattle.pebble_rules.specs.declared.moves.Move.{Move}
use Rattle.pebble_rules.proofs.Transfers.{cost_weighs}
use Rattle.normal_steps.specs.Plans.{PlanParts, IsPlan}
use Rattle.normal_steps.specs.PlanMoves.{IsPlayed}
use Rattle.normal_steps.proofs.PlanMoves.{plans_are_pebblings}
use Rattle.scratch_machine.specs.CodePlays.{CodePlays}
use Rattle.scratch_machine.specs.Codes.{CodeParts}
use Rattle.scratch_machine.proofs.GraphValues.{codes_run}
use Rattle.slot_alloc.specs.Emitted.{code_of}
use Rattle.slot_alloc.specs.Neat.{AreNeat}
use Rattle.slot_alloc.specs.PlanCode.{plan_moves, plan_code, CanBeEmitted, IsCodeOf, PlanCodeIsRight}
use Rattle.slot_alloc.proofs.Emitting.{emitted_code_plays}
use Rattle.slot_alloc.proofs.Neatness.{plays_are_neat}

module _ (plan : PlanParts) (is : IsGame plan.game) (ok : IsPlan plan) where
  plan_played : IsPlayed (game_of plan.game) (start (game_of plan.game)) plan.steps
  plan_played = plans_are_pebblings (game_of plan.game) (IsDag-dag_of plan.game.graph is.valid) plan.steps ok.finishing

  plan_neat : AreNeat (start (game_of plan.game)) (plan_moves plan)
  plan_neat = plays_are_neat (game_of plan.game) (IsDag-dag_of plan.game.graph is.valid) (start (game_of plan.game)) plan.steps ok.finishing

  plan_code_of : IsCodeOf plan.game.graph plan.game.slots (plan_moves plan)
  plan_code_of = let room = is.room in emitted_code_plays plan.game.graph plan.game.slots plan.game.weights (plan_moves plan) is.valid (omega arith) is.most plan_played.complete plan_neat

  -- the same where the graph, the slots and the moves go by other names
  pub emittable_at : (graph : GraphParts) (slots : ℕ) (ms : List Move) → graph ≡ plan.game.graph → slots ≡ plan.game.slots → ms ≡ plan_moves plan
      → CanBeEmitted graph slots ms
  emittable_at graph slots ms e f h =
      let here : CanBeEmitted plan.game.graph plan.game.slots (plan_moves plan) = record { weights = plan.game.weights; complete = plan_played.complete; neat = plan_neat } in
      subst (λ x. CanBeEmitted x slots ms) (sym e)
      (subst (λ k. CanBeEmitted plan.game.graph k ms) (sym f)
      (subst (CanBeEmitted plan.game.graph plan.game.slots) (sym h) here))

  pub plays_at : (graph : GraphParts) (slots : ℕ) (ms : List Move) → graph ≡ plan.game.graph → slots ≡ plan.game.slots → ms ≡ plan_moves plan
      → (code : CodeParts) → code ≡ code_of graph slots ms → CodePlays plan.game.graph code (plan_moves plan)
  plays_at graph slots ms e f h code made =
      subst (λ c. CodePlays plan.game.graph c (plan_moves plan)) (sym (made ∙ (λ i. code_of (e i) (f i) (h i)))) plan_code_of.plays

pub plan_code_is_right : PlanCodeIsRight
plan_code_is_right plan is ok =
    let played = plan_played plan is ok in
    let code = plan_code_of plan is ok in
    let costs = played.costs ∙ sym ok.costs in
    record {
      complete = played.complete;
      costs = costs;
      plays = code.plays;
      valid = code.valid;
      words = code.words;
      weighs = sym (cost_weighs (game_of plan.game) (plan_moves plan)) ∙ costs;
      runs = λ inputs counts. codes_run plan.game.graph (plan_code plan) (plan_moves plan) is.valid code.valid code.plays inputs counts;
    }
