-- Declarations whose sizes are sizes.
use Rattle.std.specs.Prelude.{Bool, List}
use Rattle.std.specs.List.{list_all}
use Rattle.kernel_ast.specs.KernelParts.{Declared}
use Rattle.kernel_ast.specs.WellFormed.{is_size}

-- each size of a declaration is from 1 to 64
abbrev pub is_sized : Declared → Bool
is_sized d = list_all is_size d.1.sizes

-- the same of all declarations
abbrev pub are_sized : List Declared → Bool
are_sized = list_all is_sized
