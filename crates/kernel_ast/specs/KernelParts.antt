-- A kernel as its title, its declarations and its statements.
use Rattle.std.specs.Prelude.{ℕ, List}
use Rattle.kernel_ast.specs.declared.tree.Decl.{Decl}
use Rattle.kernel_ast.specs.declared.tree.Stmt.{Stmt}

-- a declaration with its name
abbrev pub Declared : Type 0
Declared = List ℕ × Decl

-- what a kernel holds
pub record KernelParts : Type 0 where
  pub title : List ℕ
  pub decls : List Declared
  pub body : List Stmt
