-- The law holds of every machine.
use Rattle.kernel_ast.specs.Meaning.{numbered}
use Rattle.loop_unroll.proofs.Unrolls.{flats_execute}
use Rattle.loop_unroll.proofs.laws.flats_do_what_statements_do.Goals as goal

pub returns : goal.returns
returns c kernel executed start fits is = flats_execute numbered kernel.decls kernel.body executed start fits is
