-- How a call ends that a step of an execution stops.
use Rattle.kernel_walk.specs.declared.stop.Stop.{Stop}
use Rattle.kernel_walk.specs.declared.stop.Stop.TheVariants as stop
use Rattle.loop_unroll.specs.declared.flat.ShapeEnd.{ShapeEnd}
use Rattle.loop_unroll.specs.declared.flat.ShapeEnd.TheVariants as end

-- the same fault, or want of memory
abbrev pub end_of : Stop → ShapeEnd
end_of (stop.Fault f) = end.Fault f.code f.at
end_of stop.NoMemory = end.NoMemory
