use Rattle.std.proofs.Common.{sym, ◌∙◌}
use Rattle.comp_graph.specs.Games.{game_of}
use Rattle.window_steps.specs.Sets.{window_of}
use Rattle.window_floor.proofs.WindowLaws.{all_parts, first_part, second_part, apart}
use Rattle.window_floor.proofs.testing.is_window.Goals.{then-are_loads, else-are_loads}
use Rattle.window_floor.proofs.testing.is_window.Goals as goal

pub returns-then-within : goal.returns-then-within
returns-then-within c =
    let g = game_of c.args.game.now in
    let w = window_of c.args.window.now in
    elim c.if-are_loads.branch [
      | then-are_loads b ↦ all_parts g w c.are_loads.result b.within.result c.are_required.result c.are_loads.ensures b.within.ensures c.are_required.ensures
          b.if-are_loads.true (sym b.value-is ∙ c.if-within.true)
      | else-are_loads b ↦ absurd (apart c.if-are_loads.value c.if-within.true (b.value-is ∙ b.if-are_loads.false))
    ]

pub returns-else-within : goal.returns-else-within
returns-else-within c =
    let g = game_of c.args.game.now in
    let w = window_of c.args.window.now in
    elim c.if-are_loads.branch [
      | then-are_loads b ↦ second_part g w b.within.result c.if-are_loads.value b.within.ensures (sym b.value-is) c.if-within.false
      | else-are_loads b ↦ first_part g w c.are_loads.result c.if-are_loads.value c.are_loads.ensures b.if-are_loads.false c.if-within.false
    ]
