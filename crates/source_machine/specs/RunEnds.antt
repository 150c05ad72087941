-- What a run of a kernel on a list of values gives, and when it gives none (this project's convention).
use Rattle.std.specs.Prelude.{◌≡◌, ◌≢◌, ℕ, ℤ, List, length, Some, None}
use Rattle.kernel_ast.specs.KernelParts.{KernelParts}
use Rattle.kernel_ast.specs.Places.{fault}
use Rattle.kernel_ast.specs.Meaning.{shape_fault, outputs}
use Rattle.source_machine.specs.declared.run_end.RunEnd.{RunEnd}
use Rattle.source_machine.specs.declared.run_end.RunEnd.TheVariants.{Shape, WrongCount, NoMemory}
use Rattle.kernel_walk.specs.declared.stop.Stop.{Stop}
use Rattle.kernel_walk.specs.declared.stop.Stop.TheVariants as stop
use Rattle.source_machine.specs.Inputs.{input_count}

-- the kernel has no fault, there is a value for each input element, and these are the numbers of the output elements
pub record IsRun (k : KernelParts) (values found : List ℤ) : Type 0 where
  pub faultless : shape_fault k ≡ None
  pub count : length values ≡ input_count k
  pub outputs : found ≡ outputs k values

-- the kernel has no fault, and another number of input elements than there are values
pub record IsWrongCount (k : KernelParts) (values : List ℤ) (needs got : ℕ) : Type 0 where
  pub faultless : shape_fault k ≡ None
  pub needed : needs ≡ input_count k
  pub given : got ≡ length values
  pub differ : needs ≢ got

-- why a run has no answer; nothing is said where memory was wanted
abbrev pub EndMeans : KernelParts → List ℤ → RunEnd → Type 0
EndMeans k values (Shape code at) = shape_fault k ≡ Some (fault code at)
EndMeans k values (WrongCount needs got) = IsWrongCount k values needs got
EndMeans k values NoMemory = Unit {0}

-- the end of a run that stops there
abbrev pub end_of : Stop → RunEnd
end_of (stop.Fault f) = Shape f.code f.at
end_of stop.NoMemory = NoMemory
