-- The numbers of the statuses, and which stand where in a run (this project's convention).
use Rattle.std.specs.Prelude.{◌≡◌, ◌⊎◌, ℕ, Bool, true, false}
use Rattle.command_answers.specs.declared.status.Status.{Status}
use Rattle.command_answers.specs.declared.status.Status.TheVariants.{Optimal, Done, Refused, Usage, Kernel, TooSmall, Open, ReadFault, WriteFault, NoMemory, Code, Values, ExecFault, Play}

-- the number that the process ends with
abbrev pub status_number : Status → ℕ
status_number Optimal = 0
status_number Done = 0
status_number Refused = 1
status_number Usage = 2
status_number Kernel = 3
status_number TooSmall = 4
status_number Open = 5
status_number ReadFault = 6
status_number WriteFault = 7
status_number NoMemory = 8
status_number Code = 9
status_number Values = 10
status_number ExecFault = 11
status_number Play = 12

-- an answer that a command gives where nothing refuses its words or its subject and no call of the desk fails
abbrev pub is_own : Status → Bool
is_own Usage = false
is_own Kernel = false
is_own TooSmall = false
is_own ReadFault = false
is_own WriteFault = false
is_own NoMemory = false
is_own Code = false
is_own status = true

-- An answer that needs the whole subject: a command whose subject is in the input gives it once the input is read to its end. A fault of the
-- kernel or of the code needs no more of it than shows the fault.
abbrev pub NeedsWholeInput : Status → Type 0
NeedsWholeInput status = (status ≡ TooSmall) ⊎ (is_own status ≡ true)

-- the result is the status, or one of the three answers that may stand in its place: a read fault, a write fault, want of memory
abbrev pub IsYielded : Status → Status → Type 0
IsYielded result status = (result ≡ status) ⊎ ((result ≡ ReadFault) ⊎ ((result ≡ WriteFault) ⊎ (result ≡ NoMemory)))
