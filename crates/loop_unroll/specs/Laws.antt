-- A law of executed assignments.
use Rattle.std.specs.Prelude.{◌≡◌, true, List, Ok}
use Rattle.kernel_ast.specs.KernelParts.{KernelParts}
use Rattle.kernel_ast.specs.Steps.{each}
use Rattle.kernel_ast.specs.Machine.{State, execute_all}
use Rattle.kernel_ast.specs.Meaning.{Held, Entry, numbered}
use Rattle.kernel_ast.specs.WellFormed.{body_fits}
use Rattle.loop_unroll.specs.declared.flat.Flat.{Flat}
use Rattle.loop_unroll.specs.Flats.{flats}
use Rattle.loop_unroll.specs.Plays.{play_flat}

-- to go through the executed assignments of a well-formed kernel, each with a stack, is to execute its statements: elements then hold the
-- same numbers of the same origins, with the same log, or the fault is the same
abbrev pub FlatsDoWhatStatementsDo : Type 0
FlatsDoWhatStatementsDo = (kernel : KernelParts) (executed : List Flat) (start : State Held (List Entry)) → body_fits kernel.decls 0 kernel.body ≡ true → flats kernel.decls kernel.body ≡ Ok executed
    → each (play_flat numbered) executed start ≡ execute_all numbered kernel.decls kernel.body start
