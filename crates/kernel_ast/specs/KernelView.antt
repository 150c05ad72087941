-- What contracts see of a `Kernel`.
use Rattle.kernel_ast.specs.declared.kernel.Kernel.TheInside.{Inside}
use Rattle.kernel_ast.specs.KernelParts.{KernelParts}

-- the fields, with the map as the list of its entries
abbrev pub parts : Inside → KernelParts
parts k = record { title = k.title; decls = k.decls.entries; body = k.body }
