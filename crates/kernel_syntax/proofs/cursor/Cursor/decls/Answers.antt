-- Reading declarations ends, and goes as the reader of the grammar does.
use Rattle.std.proofs.Common.{refl, sym, ap, ◌∙◌}
use Rattle.kernel_syntax.specs.Tokens as token
use Rattle.kernel_syntax.specs.Parsing as spec
use Rattle.kernel_syntax.specs.Reading.{tokens_of}
use Rattle.token_grammar.specs.Readers.{sees, with_front, many}
use Rattle.token_grammar.proofs.Loops.{many_turn}
use Rattle.kernel_syntax.proofs.Turns.{declared_shrinks}
use Rattle.kernel_syntax.proofs.cursor.Cursor.decls.Goals as goal

pub decls-preserved : goal.decls-preserved
decls-preserved c =
    let e = many_turn (sees token.is_role) spec.declared refl declared_shrinks c.decls.found (tokens_of c.decls.self) _ _ (sym c.sees.ensures ∙ c.decls-test.true) c.in_ok-next.ensures in
    ap (λ l. with_front l (many (sees token.is_role) spec.declared (tokens_of c.declared.new.self))) c.in_ok-push.ensures.ok ∙ sym e ∙ c.decls.invariant
