-- Well-formed statements are light.
use Rattle.std.proofs.Common.{◌≡◌, ℕ, suc, Option, nat_le, nat_lt, Bool, true, false, ◌&&◌, List, [], ◌∷◌, map, refl, sym, ap, subst, ◌∙◌}
use Rattle.std.specs.List.{list_all}
use Rattle.std.proofs.lemmas.List.Folds.{list_all-map}
use Rattle.kernel_ast.specs.declared.tree.Stmt.{Stmt, roll-Stmt}
use Rattle.kernel_ast.specs.declared.tree.Stmt.TheVariants as stmt
use Rattle.kernel_ast.specs.declared.tree.Stmt.TheOpen.{Stmt-F, Assign, Loop, Branch}
use Rattle.kernel_ast.specs.declared.tree.Stmt.TheFolds.{fold-roll-Stmt, ind-Stmt, map-Stmt}
use Rattle.kernel_ast.specs.declared.tree.Index.{Index}
use Rattle.kernel_ast.specs.declared.tree.Relation.{Relation}
use Rattle.kernel_ast.specs.KernelParts.{Declared}
use Rattle.kernel_ast.specs.Weights.{assign_weight, loop_weight, branch_weight}
use Rattle.kernel_ast.specs.WellFormed.{stmt_fits, stmt_fits_step, body_fits, target_fits, expr_fits, index_fits, step_fits}
use Rattle.kernel_walk.specs.LightStatements.{is_light, light_step}

-- both of two that hold together
both_hold : (a b : Bool) → (a && b) ≡ true → (a ≡ true) × (b ≡ true)
both_hold true b h = (refl, h)
both_hold false b h = elim (no h) [ ]
  where
    no : false ≡ true → ⊥
    no e = cc

-- a loop is light where its bounds are, and its body
pub is_light_loop : (from to : Index) (by : Option Index) (body : List Stmt) (at : ℕ) → is_light (stmt.Loop from to by body at) ≡ (nat_le (loop_weight from to by) 65536 && list_all is_light body)
is_light_loop from to by body at =
    ap is_light (sym (stmt.rolls-Loop from to by body at)) ∙ fold-roll-Stmt Bool light_step (Loop from to by body at)
    ∙ ap (λ b. nat_le (loop_weight from to by) 65536 && b) (list_all-map (λ b. b) is_light body)

-- a branch is light where its sides are, and both its bodies
pub is_light_branch : (left : Index) (rel : Relation) (right : Index) (taken other : List Stmt) (at : ℕ)
    → is_light (stmt.Branch left rel right taken other at) ≡ (nat_le (branch_weight left right) 65536 && (list_all is_light taken && list_all is_light other))
is_light_branch left rel right taken other at =
    ap is_light (sym (stmt.rolls-Branch left rel right taken other at)) ∙ fold-roll-Stmt Bool light_step (Branch left rel right taken other at)
    ∙ ap (λ b. nat_le (branch_weight left right) 65536 && (b && list_all (λ r. r) (map is_light other))) (list_all-map (λ b. b) is_light taken)
    ∙ ap (λ b. nat_le (branch_weight left right) 65536 && (list_all is_light taken && b)) (list_all-map (λ b. b) is_light other)

module _ (decls : List Declared) where
  abbrev IsLightWhereFit : Stmt → Type 0
  IsLightWhereFit s = (loops : ℕ) → stmt_fits decls s loops ≡ true → is_light s ≡ true

  all_light : (body : List ((s : Stmt) × IsLightWhereFit s)) (loops : ℕ) → body_fits decls loops (map (λ e. e.0) body) ≡ true
      → list_all is_light (map (λ e. e.0) body) ≡ true
  all_light [] loops h = refl
  all_light (e ∷ body) loops h =
      let both = both_hold (stmt_fits decls e.0 loops) (body_fits decls loops (map (λ e. e.0) body)) h in
      ap (λ b. b && list_all is_light (map (λ e. e.0) body)) (e.1 loops both.0) ∙ all_light body loops both.1

  layer_light : (y : Stmt-F ((s : Stmt) × IsLightWhereFit s)) (loops : ℕ)
      → stmt_fits_step decls (map-Stmt Stmt (ℕ → Bool) (stmt_fits decls) (map-Stmt ((s : Stmt) × IsLightWhereFit s) Stmt (λ e. e.0) y)) loops ≡ true
      → light_step (map-Stmt Stmt Bool is_light (map-Stmt ((s : Stmt) × IsLightWhereFit s) Stmt (λ e. e.0) y)) ≡ true
  layer_light (Assign target value at) loops h =
      let one = both_hold (target_fits decls loops target) (expr_fits decls loops value && nat_le (assign_weight target value) 65536) h in
      (both_hold (expr_fits decls loops value) (nat_le (assign_weight target value) 65536) one.1).1
  layer_light (Loop from to by body at) loops h =
      let stmts : List Stmt = map (λ e. e.0) body in
      let fits : Bool = body_fits decls (suc loops) stmts in
      let light : Bool = nat_le (loop_weight from to by) 65536 in
      let one = both_hold (nat_lt loops 32) (index_fits loops from && (index_fits loops to && (step_fits loops by && (light && fits)))) h in
      let two = both_hold (index_fits loops from) (index_fits loops to && (step_fits loops by && (light && fits))) one.1 in
      let three = both_hold (index_fits loops to) (step_fits loops by && (light && fits)) two.1 in
      let four = both_hold (step_fits loops by) (light && fits) three.1 in
      let five = both_hold light fits four.1 in
      ap (λ b. b && list_all (λ r. r) (map is_light stmts)) five.0 ∙ list_all-map (λ b. b) is_light stmts ∙ all_light body (suc loops) five.1
  layer_light (Branch left rel right taken other at) loops h =
      let first : List Stmt = map (λ e. e.0) taken in
      let second : List Stmt = map (λ e. e.0) other in
      let fits : Bool = body_fits decls loops first && body_fits decls loops second in
      let light : Bool = nat_le (branch_weight left right) 65536 in
      let one = both_hold (index_fits loops left) (index_fits loops right && (light && fits)) h in
      let two = both_hold (index_fits loops right) (light && fits) one.1 in
      let three = both_hold light fits two.1 in
      let four = both_hold (body_fits decls loops first) (body_fits decls loops second) three.1 in
      ap (λ b. b && (list_all (λ r. r) (map is_light first) && list_all (λ r. r) (map is_light second))) three.0
      ∙ ap (λ b. b && list_all (λ r. r) (map is_light second)) (list_all-map (λ b. b) is_light first ∙ all_light taken loops four.0)
      ∙ list_all-map (λ b. b) is_light second ∙ all_light other loops four.1

  rolled : (x : Stmt-F Stmt) (y : Stmt-F ((s : Stmt) × IsLightWhereFit s)) → map-Stmt ((s : Stmt) × IsLightWhereFit s) Stmt (λ e. e.0) y ≡ x → IsLightWhereFit (roll-Stmt x)
  rolled x y is = subst (λ z. IsLightWhereFit (roll-Stmt z)) is (λ loops h.
      fold-roll-Stmt Bool light_step (map-Stmt ((s : Stmt) × IsLightWhereFit s) Stmt (λ e. e.0) y)
      ∙ layer_light y loops (sym (ap (λ f. f loops) (fold-roll-Stmt (ℕ → Bool) (stmt_fits_step decls) (map-Stmt ((s : Stmt) × IsLightWhereFit s) Stmt (λ e. e.0) y))) ∙ h))

  pub fits_light : (s : Stmt) (loops : ℕ) → stmt_fits decls s loops ≡ true → is_light s ≡ true
  fits_light = ind-Stmt IsLightWhereFit rolled

  -- the statements of a well-formed body are light
  pub body_fits_light : (body : List Stmt) (loops : ℕ) → body_fits decls loops body ≡ true → list_all is_light body ≡ true
  body_fits_light [] loops h = refl
  body_fits_light (s ∷ body) loops h =
      let both = both_hold (stmt_fits decls s loops) (body_fits decls loops body) h in
      ap (λ b. b && list_all is_light body) (fits_light s loops both.0) ∙ body_fits_light body loops both.1
