-- Which texts the program accepts, and which fault it prints of another (this project's convention). The faults are those of the text
-- and, where the text has none, the first fault of its kernel's run.
use Rattle.std.specs.Prelude.{◌≡◌, ◌⊎◌, ℕ, List, Some}
use Rattle.comp_graph.specs.Graphs.{GraphParts}
use Rattle.kernel_ast.specs.KernelParts.{KernelParts}
use Rattle.kernel_ast.specs.Meaning.{shape_fault}
use Rattle.kernel_ast.specs.Places.{fault}
use Rattle.kernel_parser.specs.declared.parse_end.ParseEnd.{ParseEnd}
use Rattle.kernel_parser.specs.declared.parse_end.ParseEnd.TheVariants as parsing
use Rattle.kernel_parser.specs.KernelTexts.{Reads, IsFaultOfText}
use Rattle.loop_unroll.specs.declared.flat.ShapeEnd.{ShapeEnd}
use Rattle.loop_unroll.specs.declared.flat.ShapeEnd.TheVariants as shape
use Rattle.command_answers.specs.declared.kernel.KernelEnd.{KernelEnd}
use Rattle.command_answers.specs.declared.kernel.KernelEnd.TheVariants.{Fault, NoMemory}
-- a text is accepted where it stands for a kernel that has a graph
pub use Rattle.kernel_parser.specs.Accepted.{IsAccepted}

-- The text has no fault of its own, and this is the first fault of its kernel's run: of the walk, or else of the values.
pub record IsShapeFault (text : List ℕ) (code at : ℕ) : Type 0 where
  pub kernel : KernelParts
  pub reads : Reads text kernel
  pub faulty : shape_fault kernel ≡ Some (fault code at)

-- the fault of a text that is not accepted: its own first fault, or that of its kernel's run
abbrev pub IsKernelFault : List ℕ → ℕ → ℕ → Type 0
IsKernelFault text code at = IsFaultOfText text code at ⊎ IsShapeFault text code at

-- without a kernel and a graph the text has a fault with this code and place; want of memory means nothing
abbrev pub EndMeans : List ℕ → KernelEnd → Type 0
EndMeans text (Fault code at) = IsKernelFault text code at
EndMeans text NoMemory = Unit {0}

-- the end without a kernel
abbrev pub end_of_text : ParseEnd → KernelEnd
end_of_text (parsing.Fault code at) = Fault code at
end_of_text parsing.NoMemory = NoMemory

-- the end without a graph
abbrev pub end_of_shape : ShapeEnd → KernelEnd
end_of_shape (shape.Fault code at) = Fault code at
end_of_shape shape.NoMemory = NoMemory

-- ---- laws

-- a text is accepted in one way at most, with one kernel and one graph
abbrev pub AcceptedOnce : Type 0
AcceptedOnce = (text : List ℕ) (k j : KernelParts) (g h : GraphParts) → IsAccepted text k g → IsAccepted text j h → (k ≡ j) × (g ≡ h)

-- a text has at most one fault
abbrev pub OneKernelFault : Type 0
OneKernelFault = (text : List ℕ) (c d at place : ℕ) → IsKernelFault text c at → IsKernelFault text d place → (c ≡ d) × (at ≡ place)

-- a text that is accepted has no fault
abbrev pub NoFaultOfAccepted : Type 0
NoFaultOfAccepted = (text : List ℕ) (kernel : KernelParts) (graph : GraphParts) (code at : ℕ) → IsAccepted text kernel graph → IsKernelFault text code at → ⊥

-- each text is accepted or has a fault
abbrev pub AcceptedOrFault : Type 0
AcceptedOrFault = (text : List ℕ) → ((kernel : KernelParts) × (graph : GraphParts) × IsAccepted text kernel graph) ⊎ ((code : ℕ) × (at : ℕ) × IsKernelFault text code at)
