-- The k-th set has the vertices of part k.
use Rattle.std.proofs.Common.{◌≡◌, length, sym, ◌∙◌, subst}
use Rattle.std.specs.Prelude.{IfOk}
use Rattle.comp_graph.specs.Vertices.{AllBelow}
use Rattle.comp_graph.proofs.Sets.{AllBelow-set_below}
use Rattle.part_bounds.specs.Induced.{induced_game}
use Rattle.part_bounds.proofs.inducing.induced.Goals as goal

pub cut_game-requires : goal.cut_game-requires
cut_game-requires c =
    subst (AllBelow (length c.args.game.now.graph.nodes)) (sym (c.index.ensures ∙ c.in_ok-sets.ensures.each c.args.k c.requires.part c.index.result.now)) (AllBelow-set_below _ _)

pub returns : goal.returns
returns c =
    subst (λ s. IfOk c.cut_game.result (λ on_part. on_part ≡ induced_game c.args.game.now s))
    (c.index.ensures ∙ c.in_ok-sets.ensures.each c.args.k c.requires.part c.index.result.now) c.cut_game.ensures
