use Rattle.std.proofs.Common.{◌≡◌, length, refl, ap, ◌∙◌, arith}
use Rattle.comp_graph.specs.Games.{game_of}
use Rattle.window_steps.specs.Sets.{window_of}
use Rattle.window_floor.proofs.WindowLaws.{loads_all, past_free}
use Rattle.window_floor.proofs.testing.are_loads.Goals as goal

pub returns : goal.returns
returns c =
    let end = c.len-v-end.ensures.value ∙ ap (λ g. length g.nodes) c.graph.ensures.value in
    let all : length c.args.window.now.loads.now ≡ c.loop-v.v = (let past = c.loop-v-test.false in let below = c.loop-v.invariant.below in omega (arith, c.requires)) in
    (λ _. loads_all (game_of c.args.game.now) (window_of c.args.window.now) c.loop-v.v c.loop-v.invariant.loads (past_free c.args.window.now c.loop-v.v all), λ _. refl)
