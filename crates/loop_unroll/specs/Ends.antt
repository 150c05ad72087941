-- What a call says of an outcome, where it may also want memory.
use Rattle.std.specs.Prelude.{◌≡◌, Result, Ok, Err}
use Rattle.kernel_ast.specs.declared.element.Fault.{Fault}
use Rattle.kernel_ast.specs.Places.{fault}
use Rattle.loop_unroll.specs.declared.flat.ShapeEnd.{ShapeEnd}
use Rattle.loop_unroll.specs.declared.flat.ShapeEnd.TheVariants as end

-- a result is the outcome, and a fault is the outcome's; nothing is said where memory was wanted
abbrev pub Answers : {A : Type 0} → Result A Fault → Result A ShapeEnd → Type 0
Answers outcome (Ok a) = outcome ≡ Ok a
Answers outcome (Err (end.Fault code at)) = outcome ≡ Err (fault code at)
Answers outcome (Err end.NoMemory) = Unit {0}

-- the walk has no fault where there is a result, and where there is a fault it is the walk's
abbrev pub Walked : {A B : Type 0} → Result B Fault → Result A ShapeEnd → Type 0
Walked {A} {B} walk (Ok a) = (turns : B) × (walk ≡ Ok turns)
Walked walk (Err (end.Fault code at)) = walk ≡ Err (fault code at)
Walked walk (Err end.NoMemory) = Unit {0}
