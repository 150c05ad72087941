-- What an answer of a run says, by the run of the definition; and the machine of arrays, as the machine of the definition.
use Rattle.std.specs.Prelude.{◌≡◌, ◌≢◌, ℕ, ℤ, Option, None, Some, Result, Ok, Err, List, ◌++◌, length, slice_get, Vec, ⊤}
use Rattle.scratch_machine.specs.declared.machine.Machine.{Machine as Arrays}
use Rattle.scratch_machine.specs.declared.machine.Empty.{Empty}
use Rattle.scratch_machine.specs.declared.machine.Empty.TheVariants.{Slot, Word}
use Rattle.scratch_machine.specs.declared.machine.Ran.{Ran}
use Rattle.scratch_machine.specs.declared.machine.ExecEnd.{ExecEnd}
use Rattle.scratch_machine.specs.declared.machine.ExecEnd.TheVariants.{WrongCount, EmptySlot, EmptyWord, NoMemory}
use Rattle.scratch_machine.specs.declared.code.Instr.{Instr}
use Rattle.scratch_machine.specs.Cells.{Cells}
use Rattle.scratch_machine.specs.Codes.{CodeParts}
use Rattle.scratch_machine.specs.Machines.{Machine, Fault, empty_slot, empty_word, Ending, transfers, stepped, and_then, run}

-- the run ended with these outputs and this number of transfers
pub record IsEnding (ran : Ran) (r : Result Ending Fault) : Type 0 where
  pub ending : Ending
  pub ends : r ≡ Ok ending
  pub outputs : ran.outputs.items ≡ ending.outputs
  pub transfers : ran.transfers ≡ transfers ending

-- the answer for a code and a list of values: the wrong count where the numbers of values and inputs differ, and else what the run
-- comes to, its ending or its first fault; memory may always be wanting
abbrev pub IsRunAnswer : Result Ran ExecEnd → CodeParts → List ℤ → Type 0
IsRunAnswer (Ok ran) c values = (length values ≡ length c.inputs) × IsEnding ran (run c values)
IsRunAnswer (Err (WrongCount needs got)) c values = (length values ≢ length c.inputs) × (needs ≡ length c.inputs) × (got ≡ length values)
IsRunAnswer (Err (EmptySlot at)) c values = (length values ≡ length c.inputs) × (run c values ≡ Err (empty_slot at))
IsRunAnswer (Err (EmptyWord at)) c values = (length values ≡ length c.inputs) × (run c values ≡ Err (empty_word at))
IsRunAnswer (Err NoMemory) c values = ⊤

-- nothing where there is no place or where the place holds nothing, and else what it holds
abbrev pub joined : {A : Type 0} → Option (Option A) → Option A
joined None = None
joined (Some x) = x

-- an array of places, each with something or nothing, as numbered places
abbrev pub cells_of : List (Option ℤ) → Cells ℤ
cells_of xs = λ k. joined (slice_get xs k)

-- the machine of arrays as a machine
abbrev pub machine_of : Arrays → Machine
machine_of a = record { slots = cells_of a.slots; words = cells_of a.words; loads = a.loads; stores = a.stores }

-- the answer for one instruction i, from the machine m to the machine n, whatever number the instruction has
abbrev pub IsStep : Result Unit Empty → Machine → Machine → Instr → Type 0
IsStep (Ok u) m n i = (at : ℕ) → stepped at m i ≡ Ok n
IsStep (Err Slot) m n i = (at : ℕ) → stepped at m i ≡ Err (empty_slot at)
IsStep (Err Word) m n i = (at : ℕ) → stepped at m i ≡ Err (empty_word at)

-- the answer for the outputs, where r is what reading them comes to
abbrev pub IsOutputs : {Z : Type 0} → Result (Vec ℤ Z) ExecEnd → Result (List ℤ) Fault → Type 0
IsOutputs (Ok v) r = r ≡ Ok v.items
IsOutputs (Err (EmptyWord at)) r = r ≡ Err (empty_word at)
IsOutputs (Err (EmptySlot at)) r = ⊥
IsOutputs (Err (WrongCount needs got)) r = ⊥
IsOutputs (Err NoMemory) r = ⊤

-- the outputs read so far, before the rest
abbrev pub with_front : List ℤ → Result (List ℤ) Fault → Result (List ℤ) Fault
with_front xs r = and_then r (λ ys. Ok (xs ++ ys))
