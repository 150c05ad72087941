-- The bodies of light loops and branches are light, and smaller.
use Rattle.std.proofs.Common.{rules, arith}
use Rattle.kernel_ast.specs.declared.tree.Stmt.{the_lemmas}
use Rattle.kernel_walk.proofs.LightBodies.{is_light_loop, is_light_branch}
use Rattle.loop_unroll.proofs.execution.Execution.+statements.Goals as goal

pub statement-turns-requires : goal.statement-turns-requires
statement-turns-requires t c = (search (rules, the_lemmas), grind (arith, is_light_loop, c.requires.light, c.in-Loop.is, c.as_slice-in-Loop-2.ensures))

pub statement-statements-requires : goal.statement-statements-requires
statement-statements-requires t c = (search (rules, the_lemmas), grind (arith, is_light_branch, c.requires.light, c.in-Branch.is, c.as_slice-then-branch.ensures))

pub statement-statements-requires-else-branch : goal.statement-statements-requires-else-branch
statement-statements-requires-else-branch t c = (search (rules, the_lemmas), grind (arith, is_light_branch, c.requires.light, c.in-Branch.is, c.as_slice-else-branch.ensures))
