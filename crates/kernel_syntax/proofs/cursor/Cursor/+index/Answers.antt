-- Reading indices ends, and goes as the readers of the grammar do.
use Rattle.std.proofs.Common.{◌-◌, refl, ap, sym, ◌∙◌, subst, arith}
use Rattle.kernel_syntax.specs.Trees as tree
use Rattle.kernel_syntax.specs.Tokens.{is_operator}
use Rattle.kernel_syntax.specs.Parsing as spec
use Rattle.kernel_syntax.specs.Reading.{Follows, tokens_of}
use Rattle.token_grammar.specs.Readers.{sees, with_front}
use Rattle.token_grammar.proofs.Loops.{many_turn}
use Rattle.kernel_syntax.proofs.Turns.{index_link_shrinks, ranked_chained, index_unary_leaf, index_unary_opened}
use Rattle.kernel_syntax.proofs.cursor.Cursor.+index.Goals as goal

pub index_links-links-smaller : goal.index_links-links-smaller
index_links-links-smaller t c = index_link_shrinks c.args.rank c.args.levels c.requires.known c.requires.some (tokens_of c.links.self) _ _ c.in_ok-next.ensures

pub index_links-links-preserved : goal.index_links-links-preserved
index_links-links-preserved t c =
    let below = spec.ranked tree.index_link tree.index_chain (c.args.rank - 1) (spec.index_unary c.args.levels) in
    let e = many_turn (sees (is_operator c.args.rank)) (spec.linked tree.index_link c.args.rank below) refl (index_link_shrinks c.args.rank c.args.levels c.requires.known c.requires.some) c.links.found (tokens_of c.links.self) _ _ (sym c.sees.ensures ∙ c.links-test.true) c.in_ok-next.ensures in
    ap (λ l. with_front l (spec.links tree.index_link c.args.rank below (tokens_of c.index_link.new.self))) c.in_ok-push.ensures.ok ∙ sym e ∙ c.links.invariant

pub index_ranked-returns-else-rank-eq0 : goal.index_ranked-returns-else-rank-eq0
index_ranked-returns-else-rank-eq0 t c =
    let e = ranked_chained tree.index_link tree.index_chain c.args.rank (spec.index_unary c.args.levels) (tokens_of c.args.self.now) (omega arith) in
    subst (λ r. Follows r c.index_chain.result (tokens_of c.index_chain.new.self)) (sym e) c.index_chain.ensures

pub index_unary-returns-then-not-sees : goal.index_unary-returns-then-not-sees
index_unary-returns-then-not-sees t c =
    let e = index_unary_leaf c.args.levels (tokens_of c.args.self.now) (sym c.sees.ensures ∙ c.if-not-sees.true) in
    subst (λ r. Follows r c.index_leaf.result (tokens_of c.index_leaf.new.self)) (sym e) c.index_leaf.ensures

pub index_unary-returns-else-levels-eq0 : goal.index_unary-returns-else-levels-eq0
index_unary-returns-else-levels-eq0 t c =
    let e = index_unary_opened c.args.levels (tokens_of c.args.self.now) (omega arith) (sym c.sees.ensures ∙ c.if-not-sees.false) in
    subst (λ r. Follows r c.index_opened.result (tokens_of c.index_opened.new.self)) (sym e) c.index_opened.ensures
