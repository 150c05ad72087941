-- Reading expressions ends, and goes as the readers of the grammar do.
use Rattle.std.proofs.Common.{◌-◌, refl, ap, sym, ◌∙◌, subst, arith}
use Rattle.kernel_syntax.specs.Trees as tree
use Rattle.kernel_syntax.specs.Tokens.{is_operator}
use Rattle.kernel_syntax.specs.Parsing as spec
use Rattle.kernel_syntax.specs.Reading.{Follows, tokens_of}
use Rattle.token_grammar.specs.Readers.{sees, with_front}
use Rattle.token_grammar.proofs.Loops.{many_turn}
use Rattle.kernel_syntax.proofs.Turns.{link_shrinks, ranked_chained, unary_leaf, unary_opened, opened_pair, opened_triple}
use Rattle.kernel_syntax.proofs.cursor.Cursor.+expr.Goals as goal

pub links-links-smaller : goal.links-links-smaller
links-links-smaller t c = link_shrinks c.args.rank c.args.levels c.requires.known c.requires.some (tokens_of c.links.self) _ _ c.in_ok-next.ensures

pub links-links-preserved : goal.links-links-preserved
links-links-preserved t c =
    let below = spec.ranked tree.link tree.chain (c.args.rank - 1) (spec.unary c.args.levels) in
    let e = many_turn (sees (is_operator c.args.rank)) (spec.linked tree.link c.args.rank below) refl (link_shrinks c.args.rank c.args.levels c.requires.known c.requires.some) c.links.found (tokens_of c.links.self) _ _ (sym c.sees.ensures ∙ c.links-test.true) c.in_ok-next.ensures in
    ap (λ l. with_front l (spec.links tree.link c.args.rank below (tokens_of c.link.new.self))) c.in_ok-push.ensures.ok ∙ sym e ∙ c.links.invariant

pub ranked-returns-else-rank-eq0 : goal.ranked-returns-else-rank-eq0
ranked-returns-else-rank-eq0 t c =
    let e = ranked_chained tree.link tree.chain c.args.rank (spec.unary c.args.levels) (tokens_of c.args.self.now) (omega arith) in
    subst (λ r. Follows r c.chain.result (tokens_of c.chain.new.self)) (sym e) c.chain.ensures

pub unary-returns-then-not-sees : goal.unary-returns-then-not-sees
unary-returns-then-not-sees t c =
    let e = unary_leaf c.args.levels (tokens_of c.args.self.now) (sym c.sees.ensures ∙ c.if-not-sees.true) in
    subst (λ r. Follows r c.leaf.result (tokens_of c.leaf.new.self)) (sym e) c.leaf.ensures

pub unary-returns-else-levels-eq0 : goal.unary-returns-else-levels-eq0
unary-returns-else-levels-eq0 t c =
    let e = unary_opened c.args.levels (tokens_of c.args.self.now) (omega arith) (sym c.sees.ensures ∙ c.if-not-sees.false) in
    subst (λ r. Follows r c.opened.result (tokens_of c.opened.new.self)) (sym e) c.opened.ensures

pub opened-returns-then-sees-3 : goal.opened-returns-then-sees-3
opened-returns-then-sees-3 t c =
    let e = opened_pair c.args.levels (tokens_of c.args.self.now) (sym c.sees.ensures ∙ c.if-sees.false) (sym c.sees-else-sees.ensures ∙ c.if-sees-2.false) (sym c.sees-else-sees-2.ensures ∙ c.if-sees-3.true) in
    subst (λ r. Follows r c.pair.result (tokens_of c.pair.new.self)) (sym e) c.pair.ensures

pub opened-returns-else-sees-3 : goal.opened-returns-else-sees-3
opened-returns-else-sees-3 t c =
    let e = opened_triple c.args.levels (tokens_of c.args.self.now) (sym c.sees.ensures ∙ c.if-sees.false) (sym c.sees-else-sees.ensures ∙ c.if-sees-2.false) (sym c.sees-else-sees-2.ensures ∙ c.if-sees-3.false) in
    subst (λ r. Follows r c.triple.result (tokens_of c.triple.new.self)) (sym e) c.triple.ensures
