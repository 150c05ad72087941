-- Reading statements ends, and goes as the readers of the grammar do.
use Rattle.std.proofs.Common.{refl, ap, sym, ◌∙◌, subst, arith}
use Rattle.kernel_syntax.specs.Tokens as token
use Rattle.kernel_syntax.specs.Parsing as spec
use Rattle.kernel_syntax.specs.Reading.{Follows, tokens_of}
use Rattle.token_grammar.specs.Readers.{sees, with_front, many}
use Rattle.token_grammar.proofs.Loops.{many_turn}
use Rattle.kernel_syntax.proofs.Turns.{statement_assigned, statement_nested, nested_looped, nested_branched, statement_shrinks}
use Rattle.kernel_syntax.proofs.cursor.Cursor.+stmt.Goals as goal

pub statement-returns-then-not-sees : goal.statement-returns-then-not-sees
statement-returns-then-not-sees t c =
    let e = statement_assigned c.args.levels (tokens_of c.args.self.now) (sym c.sees.ensures ∙ c.if-not-sees.true) in
    subst (λ r. Follows r c.assigned.result (tokens_of c.assigned.new.self)) (sym e) c.assigned.ensures

pub statement-returns-else-levels-eq0 : goal.statement-returns-else-levels-eq0
statement-returns-else-levels-eq0 t c =
    let e = statement_nested c.args.levels (tokens_of c.args.self.now) (omega arith) (sym c.sees.ensures ∙ c.if-not-sees.false) in
    subst (λ r. Follows r c.nested.result (tokens_of c.nested.new.self)) (sym e) c.nested.ensures

pub nested-returns-then-sees : goal.nested-returns-then-sees
nested-returns-then-sees t c =
    let e = nested_looped c.args.levels (tokens_of c.args.self.now) (sym c.sees.ensures ∙ c.if-sees.true) in
    subst (λ r. Follows r c.looped.result (tokens_of c.looped.new.self)) (sym e) c.looped.ensures

pub nested-returns-else-sees : goal.nested-returns-else-sees
nested-returns-else-sees t c =
    let e = nested_branched c.args.levels (tokens_of c.args.self.now) (sym c.sees.ensures ∙ c.if-sees.false) in
    subst (λ r. Follows r c.branched.result (tokens_of c.branched.new.self)) (sym e) c.branched.ensures

pub statements-body-smaller : goal.statements-body-smaller
statements-body-smaller t c = statement_shrinks c.args.levels (tokens_of c.body.self) _ _ c.in_ok-next.ensures

pub statements-body-preserved : goal.statements-body-preserved
statements-body-preserved t c =
    let e = many_turn (sees token.starts) (spec.statement c.args.levels) refl (statement_shrinks c.args.levels) c.body.found (tokens_of c.body.self) _ _ (sym c.sees.ensures ∙ c.body-test.true) c.in_ok-next.ensures in
    ap (λ l. with_front l (many (sees token.starts) (spec.statement c.args.levels) (tokens_of c.statement.new.self))) c.in_ok-push.ensures.ok ∙ sym e ∙ c.body.invariant
