-- What the definitions say of a statement of each kind.
use Rattle.std.proofs.Common.{◌≡◌, ◌++◌, ◌∷◌, [], ℕ, List, sym, ap, ◌∙◌}
use Rattle.kernel_ast.specs.KernelParts.{Declared}
use Rattle.kernel_ast.specs.declared.tree.Stmt.{Stmt}
use Rattle.kernel_ast.specs.declared.tree.Stmt.TheVariants as stmt
use Rattle.kernel_syntax.specs.declared.raw.RawPlace.{RawPlace}
use Rattle.kernel_syntax.specs.declared.raw.RawExpr.{RawExpr}
use Rattle.kernel_syntax.specs.declared.raw.RawLoop.{RawLoop}
use Rattle.kernel_syntax.specs.declared.raw.RawBranch.{RawBranch}
use Rattle.kernel_syntax.specs.declared.raw.RawStmt.{RawStmt}
use Rattle.kernel_syntax.specs.declared.raw.RawStmt.TheVariants as raw
use Rattle.kernel_syntax.specs.declared.raw.RawStmt.TheOpen as open_raw
use Rattle.kernel_syntax.specs.declared.raw.RawStmt.TheFolds.{fold-roll-RawStmt}
use Rattle.kernel_parser.specs.NameFaults.{NameFault}
use Rattle.kernel_parser.specs.Names.{known_in, word, stmt_faults_step, assign_faults, header_faults, condition_faults, stmt_faults, body_faults}
use Rattle.kernel_parser.specs.Resolved.{stmt_step, assign_of, index_of, step_of, stmt_of, body_of}

module _ (text : List ℕ) (decls : List Declared) (loops : List (List ℕ)) where
  pub assign_has_faults : (target : RawPlace) (value : RawExpr) → stmt_faults text decls (raw.Assign target value) loops ≡ assign_faults (known_in text decls loops) target value
  assign_has_faults target value =
      ap (λ r. stmt_faults text decls r loops) (sym (raw.rolls-Assign target value))
      ∙ ap (λ f. f loops) (fold-roll-RawStmt (List (List ℕ) → List NameFault) (stmt_faults_step text decls) (open_raw.Assign target value))

  pub loop_has_faults : (header : RawLoop) (body : List RawStmt)
      → stmt_faults text decls (raw.Loop header body) loops ≡ header_faults (known_in text decls loops) header ++ body_faults text decls body (loops ++ word text header.name ∷ [])
  loop_has_faults header body =
      ap (λ r. stmt_faults text decls r loops) (sym (raw.rolls-Loop header body))
      ∙ ap (λ f. f loops) (fold-roll-RawStmt (List (List ℕ) → List NameFault) (stmt_faults_step text decls) (open_raw.Loop header body))

  pub assign_gives : (target : RawPlace) (value : RawExpr) → stmt_of text decls (raw.Assign target value) loops ≡ assign_of (known_in text decls loops) target value
  assign_gives target value =
      ap (λ r. stmt_of text decls r loops) (sym (raw.rolls-Assign target value))
      ∙ ap (λ f. f loops) (fold-roll-RawStmt (List (List ℕ) → Stmt) (stmt_step text decls) (open_raw.Assign target value))

  pub loop_gives : (header : RawLoop) (body : List RawStmt)
      → stmt_of text decls (raw.Loop header body) loops
      ≡ stmt.Loop (index_of (known_in text decls loops) header.from) (index_of (known_in text decls loops) header.to) (step_of (known_in text decls loops) header.by)
      (body_of text decls body (loops ++ word text header.name ∷ [])) header.at
  loop_gives header body =
      ap (λ r. stmt_of text decls r loops) (sym (raw.rolls-Loop header body))
      ∙ ap (λ f. f loops) (fold-roll-RawStmt (List (List ℕ) → Stmt) (stmt_step text decls) (open_raw.Loop header body))

  pub branch_has_faults : (condition : RawBranch) (taken other : List RawStmt)
      → stmt_faults text decls (raw.Branch condition taken other) loops ≡ condition_faults (known_in text decls loops) condition ++ (body_faults text decls taken loops ++ body_faults text decls other loops)
  branch_has_faults condition taken other =
      ap (λ r. stmt_faults text decls r loops) (sym (raw.rolls-Branch condition taken other))
      ∙ ap (λ f. f loops) (fold-roll-RawStmt (List (List ℕ) → List NameFault) (stmt_faults_step text decls) (open_raw.Branch condition taken other))

  pub branch_gives : (condition : RawBranch) (taken other : List RawStmt)
      → stmt_of text decls (raw.Branch condition taken other) loops
      ≡ stmt.Branch (index_of (known_in text decls loops) condition.left) condition.rel (index_of (known_in text decls loops) condition.right) (body_of text decls taken loops) (body_of text decls other loops) condition.at
  branch_gives condition taken other =
      ap (λ r. stmt_of text decls r loops) (sym (raw.rolls-Branch condition taken other))
      ∙ ap (λ f. f loops) (fold-roll-RawStmt (List (List ℕ) → Stmt) (stmt_step text decls) (open_raw.Branch condition taken other))
