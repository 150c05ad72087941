-- The moves of a plan are a complete pebbling that places no pebble where one of its colour stands, and its code plays them.
use Rattle.std.proofs.Common.{ap, ◌∙◌, subst}
use Rattle.std.proofs.lemmas.Result.{IfOk-weaker}
use Rattle.comp_graph.specs.Games.{IsGame}
use Rattle.slot_alloc.proofs.Right.{emittable_at, plays_at, plan_code_is_right}
use Rattle.slot_alloc.proofs.code.emit.Goals as goal

pub code_of_moves-requires-clause-moves : goal.code_of_moves-requires-clause-moves
code_of_moves-requires-clause-moves c =
    emittable_at c.args.plan.now (subst IsGame c.game-game.ensures.value c.graph.ensures.valid) c.game-game.ensures.valid c.graph.result.now c.slots.result c.deref.result.now
    (c.graph.ensures.value ∙ ap (λ g. g.graph) c.game-game.ensures.value)
    (c.slots.ensures.value ∙ ap (λ g. g.slots) c.game-game.ensures.value)
    (c.deref.ensures.value ∙ c.in_ok-moves.ensures)

pub returns-clause-plays : goal.returns-clause-plays
returns-clause-plays c =
    IfOk-weaker c.code_of_moves.result _ _
    (λ code made.
    plays_at c.args.plan.now (subst IsGame c.game-game.ensures.value c.graph.ensures.valid) c.game-game.ensures.valid c.graph.result.now c.slots.result c.deref.result.now
    (c.graph.ensures.value ∙ ap (λ g. g.graph) c.game-game.ensures.value)
    (c.slots.ensures.value ∙ ap (λ g. g.slots) c.game-game.ensures.value)
    (c.deref.ensures.value ∙ c.in_ok-moves.ensures)
    code made)
    c.code_of_moves.ensures

pub returns-clause-right : goal.returns-clause-right
returns-clause-right c =
    IfOk-weaker c.code_of_moves.result _ _
    (λ code made. plan_code_is_right c.args.plan.now (subst IsGame c.game-game.ensures.value c.graph.ensures.valid) c.game-game.ensures.valid)
    c.code_of_moves.ensures
