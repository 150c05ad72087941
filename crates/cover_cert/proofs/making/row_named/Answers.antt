use Rattle.std.proofs.Common.{◌+◌, ◌∷◌, ap, ◌∙◌, arith}
use Rattle.comp_graph.specs.Games.{game_of}
use Rattle.cover_cert.specs.Covers.{live_part}
use Rattle.cover_cert.specs.CoverMaking.{made_rows}
use Rattle.cover_cert.proofs.FirstFits.{names_by}
use Rattle.cover_cert.proofs.making.row_named.Goals as goal

pub returns-then-not-can_be_named : goal.returns-then-not-can_be_named
returns-then-not-can_be_named c can = absurd (let tested = c.can_be_named.ensures.1 can in let untrue = c.if-not-can_be_named.true in grind arith)

pub returns : goal.returns
returns c =
    let g = game_of c.args.game.now in
    names_by g (c.args.row.now ∷ made_rows c.args.made.now) c.args.row.now c.args.step c.first_fit.result c.live_part-wanted.result (c.args.row.now.cost + c.cost.result)
    (c.can_be_named.ensures.0 c.if-not-can_be_named.false) (c.live_part-wanted.ensures ∙ ap (live_part g) c.after.ensures) (ap (λ n. c.args.row.now.cost + n) c.cost.ensures) c.first_fit.ensures
