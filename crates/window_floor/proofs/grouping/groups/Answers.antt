use Rattle.std.proofs.Common.{◌≡◌, length, ap, ◌∙◌, arith}
use Rattle.comp_graph.specs.Games.{game_of}
use Rattle.window_steps.specs.Sets.{window_of}
use Rattle.window_floor.proofs.GroupLaws.{all_groups}
use Rattle.window_floor.proofs.grouping.groups.Goals as goal

pub returns-clause-exact : goal.returns-clause-exact
returns-clause-exact c =
    let end = c.len-v-end.ensures.value ∙ ap (λ g. length g.nodes) c.graph.ensures.value in
    let all : c.loop-v.v ≡ length c.args.game.now.graph.nodes = (let past = c.loop-v-test.false in let below = c.loop-v.invariant.below in omega arith) in
    all_groups (game_of c.args.game.now) (window_of c.args.window.now) c.loop-v.v _ c.loop-v.invariant.found all
