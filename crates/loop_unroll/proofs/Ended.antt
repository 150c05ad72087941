-- How an execution that stops ends a call.
use Rattle.std.proofs.Common.{◌≡◌, sym, subst, Result, Err}
use Rattle.kernel_ast.specs.declared.element.Fault.{Fault}
use Rattle.kernel_walk.specs.declared.stop.Stop.{Stop}
use Rattle.kernel_walk.specs.declared.stop.Stop.TheVariants as stop
use Rattle.kernel_walk.specs.Outcomes as outcomes
use Rattle.loop_unroll.specs.declared.flat.ShapeEnd.{ShapeEnd}
use Rattle.loop_unroll.specs.Ends.{Answers}
use Rattle.loop_unroll.specs.ShapeEnds.{end_of}

-- it ends with the same fault
pub answers_end : {A : Type 0} (o : Result A Fault) (s : Stop) (e : ShapeEnd) → e ≡ end_of s → outcomes.Answers o (Err s) → Answers o (Err e)
answers_end {A} o s e is h = subst (λ z. Answers o (Err z)) (sym is) (known s h)
  where
    known : (t : Stop) → outcomes.Answers o (Err t) → Answers o (Err (end_of t))
    known (stop.Fault f) g = g
    known stop.NoMemory g = tt
