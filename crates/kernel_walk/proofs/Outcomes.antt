-- Steps that may stop.
use Rattle.std.proofs.Common.{◌≡◌, Result, Err}
use Rattle.kernel_ast.specs.declared.element.Fault.{Fault}
use Rattle.kernel_walk.specs.declared.stop.Stop.{Stop}
use Rattle.kernel_walk.specs.declared.stop.Stop.TheVariants as stop
use Rattle.kernel_walk.specs.Outcomes.{Gives}

-- what stops one step stops all, where its fault is the fault of all
pub stops : {S : Type 0} (o whole : Result S Fault) (new : S) (e : Stop) → ((f : Fault) → o ≡ Err f → whole ≡ Err f) → Gives o new (Err e) → Gives whole new (Err e)
stops o whole new (stop.Fault f) k h = k f h
stops o whole new stop.NoMemory k h = tt
