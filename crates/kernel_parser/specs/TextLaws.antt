-- Laws of the texts of kernels. Calls of this crate carry them.
use Rattle.std.specs.Prelude.{◌≡◌, ◌⊎◌, ℕ, List}
use Rattle.kernel_ast.specs.KernelParts.{KernelParts}
use Rattle.kernel_ast.specs.WellFormed.{IsWellFormed}
use Rattle.kernel_lexer.specs.declared.token.Token.{Token}
use Rattle.kernel_syntax.specs.declared.raw.RawKernel.{RawKernel}
use Rattle.kernel_parser.specs.KernelTexts.{IsWritten, Reads, IsFaultOfText}
use Rattle.kernel_parser.specs.NameOrder.{AreInOrder}
use Rattle.kernel_parser.specs.Names.{name_faults}

-- A text stands for at most one kernel.
abbrev pub OneKernel : Type 0
OneKernel = (text : List ℕ) (a b : KernelParts) → Reads text a → Reads text b → a ≡ b

-- The kernel that a text stands for is well formed.
abbrev pub KernelsAreWellFormed : Type 0
KernelsAreWellFormed = (text : List ℕ) (kernel : KernelParts) → Reads text kernel → IsWellFormed kernel

-- A text has at most one first fault.
abbrev pub OneTextFault : Type 0
OneTextFault = (text : List ℕ) (c d at place : ℕ) → IsFaultOfText text c at → IsFaultOfText text d place → (c ≡ d) × (at ≡ place)

-- A text that stands for a kernel has no fault.
abbrev pub KernelWithoutFault : Type 0
KernelWithoutFault = (text : List ℕ) (kernel : KernelParts) (code at : ℕ) → Reads text kernel → IsFaultOfText text code at → ⊥

-- Each text stands for a kernel or has a first fault.
abbrev pub KernelOrFault : Type 0
KernelOrFault = (text : List ℕ) → ((kernel : KernelParts) × Reads text kernel) ⊎ ((code : ℕ) × (at : ℕ) × IsFaultOfText text code at)

-- The faults of the names of a text's own tree stand in order. So the first of them is the least: no other has an earlier place, and at its
-- place none stands before it.
abbrev pub NameFaultsInOrder : Type 0
NameFaultsInOrder = (text : List ℕ) (tokens : List Token) (raw : RawKernel) → IsWritten text tokens raw → AreInOrder (name_faults text raw)
