-- The faults and the tree of a whole kernel, from its declarations and its statements.
use Rattle.std.proofs.Common.{◌≡◌, ◌++◌, [], ℕ, List, map, sym, ap, ◌∙◌}
use Rattle.kernel_ast.specs.KernelParts.{Declared, KernelParts}
use Rattle.kernel_ast.specs.declared.tree.Stmt.{Stmt}
use Rattle.kernel_syntax.specs.declared.raw.RawDecl.{RawDecl}
use Rattle.kernel_syntax.specs.declared.raw.RawStmt.{RawStmt}
use Rattle.kernel_syntax.specs.declared.raw.RawKernel.{RawKernel}
use Rattle.kernel_parser.specs.Names.{word, declared, decls_faults, body_faults, name_faults}
use Rattle.kernel_parser.specs.Resolved.{body_of, tree_of}

module _ (text : List ℕ) (raw : RawKernel) (ds : List RawDecl) (table : List Declared) (b : List RawStmt) (loops : List (List ℕ))
    (all : ds ≡ raw.decls) (made : table ≡ map (declared text) ds) (whole : b ≡ raw.body) (none : loops ≡ []) where
  decls_are : table ≡ map (declared text) raw.decls
  decls_are = made ∙ ap (λ z. map (declared text) z) all

  pub faults_are : decls_faults text [] ds ≡ [] → name_faults text raw ≡ body_faults text table b loops
  faults_are h =
      ap (λ z. z ++ body_faults text (map (declared text) raw.decls) raw.body []) (ap (decls_faults text []) (sym all) ∙ h)
      ∙ ap (λ d. body_faults text d raw.body []) (sym decls_are) ∙ ap (λ z. body_faults text table z []) (sym whole) ∙ ap (body_faults text table b) (sym none)

  pub tree_is : (title : List ℕ) (body : List Stmt) → title ≡ word text raw.title → body ≡ body_of text table b loops → record { title = title; decls = table; body = body } ≡ tree_of text raw
  tree_is title body t s =
      let stmts : body ≡ body_of text (map (declared text) raw.decls) raw.body []
      = s ∙ ap (body_of text table b) none ∙ ap (λ z. body_of text table z []) whole ∙ ap (λ d. body_of text d raw.body []) decls_are in
      let a : KernelParts = record { title = title; decls = table; body = body } in
      ap (λ z. record a { title = z }) t ∙ ap (λ z. record a { title = word text raw.title; decls = z }) decls_are
      ∙ ap (λ z. record a { title = word text raw.title; decls = map (declared text) raw.decls; body = z }) stmts
