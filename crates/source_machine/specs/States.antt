-- What contracts see of an execution that is under way.
use Rattle.std.specs.Prelude.{ℕ, List}
use Rattle.kernel_ast.specs.Machine.{State}
use Rattle.kernel_walk.specs.SetElements.{elements}
use Rattle.source_machine.specs.declared.value.Value.{Value}
use Rattle.source_machine.specs.declared.inputs.Inputs.{Inputs}
use Rattle.source_machine.specs.declared.running.Ended.{Ended}
use Rattle.source_machine.specs.declared.outputs.Outputs.{Outputs}
use Rattle.source_machine.specs.declared.execution.Execution.{Execution}

-- the input elements so far, and the number of vertices
abbrev pub entered : Inputs → State Value ℕ
entered i = (elements i.written, i.vertices)

-- the elements that are set, and the number of vertices
abbrev pub state : Execution → State Value ℕ
state e = (elements e.written, e.vertices)

-- what the output elements so far hold, and the number of vertices
abbrev pub left : Outputs → List Value × ℕ
left o = (o.held.items, o.vertices)

-- what the output elements hold in the end, and the number of vertices
abbrev pub ended : Ended → List Value × ℕ
ended e = left e.outputs
