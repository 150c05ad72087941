-- How many values a kernel wants (this project's convention): one for each input element.
use Rattle.std.specs.Prelude.{ℕ, length}
use Rattle.kernel_ast.specs.declared.tree.DeclKind.TheVariants as kinds
use Rattle.kernel_ast.specs.KernelParts.{KernelParts}
use Rattle.kernel_ast.specs.Machine.{cells_of}

-- the number of input elements
abbrev pub input_count : KernelParts → ℕ
input_count k = length (cells_of kinds.Input 0 k.decls)
