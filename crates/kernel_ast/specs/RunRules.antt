-- The rules of a kernel's run, and its limits (this project's convention).
use Rattle.std.specs.Prelude.{ℕ}
use Rattle.kernel_ast.specs.declared.rule.RunRule.{RunRule}
use Rattle.kernel_ast.specs.declared.rule.RunRule.TheVariants.{OutOfRange, Unset, OutputUnset, TooManyVertices, TooManyTurns, BigIndex, BadStep}

-- the codes of the faults where a rule is broken
abbrev pub code_of : RunRule → ℕ
code_of OutOfRange = 7
code_of Unset = 8
code_of OutputUnset = 10
code_of TooManyVertices = 11
code_of TooManyTurns = 12
code_of BigIndex = 14
code_of BadStep = 17

-- the most turns that a run may count, and the most that one statement may weigh
abbrev pub most_turns : ℕ
most_turns = 65536

-- the most vertices that a graph may have
abbrev pub most_vertices : ℕ
most_vertices = 256
