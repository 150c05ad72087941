-- A tree that fits and has no fault gives a well formed kernel.
use Rattle.std.proofs.Common.{◌≡◌, ◌+◌, ◌≤◌, ◌&&◌, ◌++◌, ◌∷◌, [], ℕ, ℤ, pos, negsuc, suc, Bool, true, List, map, length, Option, Some, None, nat_lt, nat_le, refl, sym, ap, ◌∙◌, subst}
use Rattle.std.specs.Prelude.{unsigned_abs}
use Rattle.std.specs.List.{All, list_all}
use Rattle.std.proofs.lemmas.List.{length-map}
use Rattle.std.proofs.lemmas.List.Elements.{All-nil, All-cons, All-head, All-tail}
use Rattle.kernel_ast.specs.KernelParts.{Declared}
use Rattle.kernel_ast.specs.declared.tree.Stmt.{Stmt, roll-Stmt}
use Rattle.kernel_ast.specs.declared.tree.Stmt.TheOpen as open_stmt
use Rattle.kernel_ast.specs.declared.tree.Stmt.TheVariants as stmt
use Rattle.kernel_ast.specs.declared.tree.Stmt.TheFolds.{fold-roll-Stmt, map-Stmt}
use Rattle.kernel_ast.specs.WellFormed as good
use Rattle.kernel_ast.specs.WellFormed.{IsDeclared, IsWellFormed}
use Rattle.kernel_ast.specs.Weights as weights
use Rattle.kernel_syntax.specs.declared.raw.RawSize.{RawSize}
use Rattle.kernel_syntax.specs.declared.raw.RawDecl.{RawDecl}
use Rattle.kernel_syntax.specs.declared.raw.RawPlace.{RawPlace}
use Rattle.kernel_syntax.specs.declared.raw.RawExpr.{RawExpr}
use Rattle.kernel_syntax.specs.declared.raw.RawLoop.{RawLoop}
use Rattle.kernel_syntax.specs.declared.raw.RawIndex.{RawIndex}
use Rattle.kernel_syntax.specs.declared.raw.RawBranch.{RawBranch}
use Rattle.kernel_syntax.specs.declared.raw.RawStmt.{RawStmt, roll-RawStmt}
use Rattle.kernel_syntax.specs.declared.raw.RawStmt.TheOpen.{RawStmt-F, Assign, Loop, Branch}
use Rattle.kernel_syntax.specs.declared.raw.RawStmt.TheFolds.{fold-roll-RawStmt, ind-RawStmt, map-RawStmt}
use Rattle.kernel_syntax.specs.declared.raw.RawKernel.{RawKernel}
use Rattle.kernel_parser.specs.Names as names
use Rattle.kernel_parser.specs.declared.names.fault.NameRule.TheVariants as faults
use Rattle.kernel_parser.specs.NameFaults.{NameFault, unless}
use Rattle.kernel_parser.specs.Names.{known_in, word}
use Rattle.kernel_parser.specs.Resolved as tree
use Rattle.kernel_parser.specs.RawFits as fits
use Rattle.kernel_parser.specs.RawFits.{DeclFits, Fits}
use Rattle.kernel_parser.specs.RawWeights as raw_weights
use Rattle.kernel_parser.proofs.Lists.{and_left, and_right, first_none, second_none, length_more}
use Rattle.kernel_parser.proofs.Faults.{passed}
use Rattle.kernel_parser.proofs.GoodIndices.{index_tree_holds}
use Rattle.kernel_parser.proofs.GoodExprs.{target_holds, expr_holds}

-- ---- statements

module _ (text : List ℕ) (decls : List Declared) where
  stmt_fits_rolled : (t : open_stmt.Stmt-F Stmt) (n : ℕ) → good.stmt_fits decls (roll-Stmt t) n ≡ good.stmt_fits_step decls (map-Stmt Stmt (ℕ → Bool) (good.stmt_fits decls) t) n
  stmt_fits_rolled t n = ap (λ f. f n) (fold-roll-Stmt (ℕ → Bool) (good.stmt_fits_step decls) t)

  abbrev Holds : RawStmt → Type 0
  Holds r = (loops : List (List ℕ)) → fits.stmt_fits r (length loops) ≡ true → names.stmt_faults text decls r loops ≡ [] → good.stmt_fits decls (tree.stmt_of text decls r loops) (length loops) ≡ true

  opened : (x : RawStmt-F RawStmt)
      → ((loops : List (List ℕ)) → fits.stmt_fits_step (map-RawStmt RawStmt (ℕ → Bool) fits.stmt_fits x) (length loops) ≡ true
      → names.stmt_faults_step text decls (map-RawStmt RawStmt (List (List ℕ) → List NameFault) (names.stmt_faults text decls) x) loops ≡ []
      → good.stmt_fits decls (tree.stmt_step text decls (map-RawStmt RawStmt (List (List ℕ) → Stmt) (tree.stmt_of text decls) x) loops) (length loops) ≡ true)
      → Holds (roll-RawStmt x)
  opened x h loops p q =
      ap (λ f. good.stmt_fits decls (f loops) (length loops)) (fold-roll-RawStmt (List (List ℕ) → Stmt) (tree.stmt_step text decls) x)
      ∙ h loops (sym (ap (λ f. f (length loops)) (fold-roll-RawStmt (ℕ → Bool) fits.stmt_fits_step x)) ∙ p)
      (sym (ap (λ f. f loops) (fold-roll-RawStmt (List (List ℕ) → List NameFault) (names.stmt_faults_step text decls) x)) ∙ q)

  assign_holds : (target : RawPlace) (value : RawExpr) (loops : List (List ℕ))
      → (fits.place_fits target && (fits.expr_fits value && nat_le (raw_weights.assign_weight target value) 65536)) ≡ true
      → names.assign_faults (known_in text decls loops) target value ≡ []
      → good.stmt_fits decls (tree.assign_of (known_in text decls loops) target value) (length loops) ≡ true
  assign_holds target value loops p q =
      let known = known_in text decls loops in
      let place = tree.target_of known target in
      let e = tree.expr_of known value in
      let more = and_right (fits.place_fits target) _ p in
      let a = target_holds known target (and_left _ _ p) (first_none (names.target_place_faults known target) _ q) in
      let b = expr_holds known value (and_left _ _ more) (second_none (names.target_place_faults known target) _ q) in
      let weight : weights.assign_weight place e ≡ raw_weights.assign_weight target value = ap (λ w. 1 + (w + weights.expr_weight e)) a.1 ∙ ap (λ w. 1 + (raw_weights.place_weight target + w)) b.1 in
      ap (λ s. good.stmt_fits decls s (length loops)) (sym (stmt.rolls-Assign place e target.name.from))
      ∙ stmt_fits_rolled (open_stmt.Assign place e target.name.from) (length loops)
      ∙ ap (λ z. z && (good.expr_fits decls (length loops) e && nat_le (weights.assign_weight place e) 65536)) a.0
      ∙ ap (λ z. z && nat_le (weights.assign_weight place e) 65536) b.0
      ∙ ap (λ w. nat_le w 65536) weight ∙ and_right (fits.expr_fits value) _ more

  all_hold : (body : List ((r : RawStmt) × Holds r)) (loops : List (List ℕ))
      → good.all_at (length loops) (map fits.stmt_fits (map (λ e. e.0) body)) ≡ true
      → names.all_in (map (names.stmt_faults text decls) (map (λ e. e.0) body)) loops ≡ []
      → good.all_at (length loops) (map (good.stmt_fits decls) (tree.all_in (map (tree.stmt_of text decls) (map (λ e. e.0) body)) loops)) ≡ true
  all_hold [] loops p q = refl
  all_hold (r ∷ more) loops p q =
      ap (λ z. z && good.all_at (length loops) (map (good.stmt_fits decls) (tree.all_in (map (tree.stmt_of text decls) (map (λ e. e.0) more)) loops)))
      (r.1 loops (and_left _ _ p) (first_none (names.stmt_faults text decls r.0 loops) _ q))
      ∙ all_hold more loops (and_right (fits.stmt_fits r.0 (length loops)) _ p) (second_none (names.stmt_faults text decls r.0 loops) _ q)

  -- a step that fits is well formed, and of the same weight
  step_holds : (loops : List (List ℕ)) (by : Option RawIndex) → fits.step_fits by ≡ true → names.step_faults (known_in text decls loops) by ≡ []
      → (good.step_fits (length loops) (tree.step_of (known_in text decls loops) by) ≡ true) × (weights.step_weight (tree.step_of (known_in text decls loops) by) ≡ raw_weights.step_weight by)
  step_holds loops None p q = (refl, refl)
  step_holds loops (Some by) p q = index_tree_holds (known_in text decls loops) by.tree p q

  loop_holds : (h : RawLoop) (body : List ((r : RawStmt) × Holds r)) (loops : List (List ℕ))
      → fits.stmt_fits_step (Loop h (map fits.stmt_fits (map (λ e. e.0) body))) (length loops) ≡ true
      → names.header_faults (known_in text decls loops) h ++ names.all_in (map (names.stmt_faults text decls) (map (λ e. e.0) body)) (loops ++ word text h.name ∷ []) ≡ []
      → good.stmt_fits decls (tree.stmt_step text decls (Loop h (map (tree.stmt_of text decls) (map (λ e. e.0) body))) loops) (length loops) ≡ true
  loop_holds h body loops p q =
      let known = known_in text decls loops in
      let inner = loops ++ word text h.name ∷ [] in
      let from = tree.index_of known h.from in
      let to = tree.index_of known h.to in
      let b = tree.all_in (map (tree.stmt_of text decls) (map (λ e. e.0) body)) inner in
      let after = and_right (nat_lt (length loops) 32) _ p in
      let last = and_right (fits.header_fits h) _ after in
      let both = and_left (fits.header_fits h) _ after in
      let header = first_none (names.header_faults known h) _ q in
      let bounds = second_none (names.twice_faults (names.name_meaning known h.name) h.name.from) _ header in
      let end = second_none (names.index_faults known h.from) (names.index_faults known h.to ++ names.step_faults known h.by) bounds in
      let later = and_right (fits.index_fits h.from) (fits.index_fits h.to && fits.step_fits h.by) both in
      let by = tree.step_of known h.by in
      let x = index_tree_holds known h.from.tree (and_left (fits.index_fits h.from) (fits.index_fits h.to && fits.step_fits h.by) both) (first_none (names.index_faults known h.from) (names.index_faults known h.to ++ names.step_faults known h.by) bounds) in
      let y = index_tree_holds known h.to.tree (and_left (fits.index_fits h.to) (fits.step_fits h.by) later) (first_none (names.index_faults known h.to) (names.step_faults known h.by) end) in
      let z = step_holds loops h.by (and_right (fits.index_fits h.to) (fits.step_fits h.by) later) (second_none (names.index_faults known h.to) (names.step_faults known h.by) end) in
      let weight : weights.loop_weight from to by ≡ raw_weights.loop_weight h =
      ap (λ w. 1 + (w + (weights.index_weight to + weights.step_weight by))) x.1 ∙ ap (λ w. 1 + (raw_weights.index_weight h.from + (w + weights.step_weight by))) y.1
      ∙ ap (λ w. 1 + (raw_weights.index_weight h.from + (raw_weights.index_weight h.to + w))) z.1 in
      let light = ap (λ w. nat_le w 65536) weight ∙ and_left (nat_le (raw_weights.loop_weight h) 65536) _ last in
      let deeper = length_more loops (word text h.name) in
      let rest : good.all_at (suc (length loops)) (map (good.stmt_fits decls) b) ≡ true
      = subst (λ k. good.all_at k (map (good.stmt_fits decls) b) ≡ true) deeper
      (all_hold body inner (ap (λ k. good.all_at k (map fits.stmt_fits (map (λ e. e.0) body))) deeper ∙ and_right (nat_le (raw_weights.loop_weight h) 65536) _ last) (second_none (names.header_faults known h) _ q)) in
      let fit : Bool = nat_le (weights.loop_weight from to by) 65536 && good.all_at (suc (length loops)) (map (good.stmt_fits decls) b) in
      ap (λ s. good.stmt_fits decls s (length loops)) (sym (stmt.rolls-Loop from to by b h.at))
      ∙ stmt_fits_rolled (open_stmt.Loop from to by b h.at) (length loops)
      ∙ ap (λ z. z && (good.index_fits (length loops) from && (good.index_fits (length loops) to && (good.step_fits (length loops) by && fit)))) (and_left (nat_lt (length loops) 32) _ p)
      ∙ ap (λ z. z && (good.index_fits (length loops) to && (good.step_fits (length loops) by && fit))) x.0
      ∙ ap (λ z. z && (good.step_fits (length loops) by && fit)) y.0
      ∙ ap (λ z. z && fit) z.0
      ∙ ap (λ z. z && good.all_at (suc (length loops)) (map (good.stmt_fits decls) b)) light
      ∙ rest

  branch_holds : (c : RawBranch) (taken other : List ((r : RawStmt) × Holds r)) (loops : List (List ℕ))
      → fits.stmt_fits_step (Branch c (map fits.stmt_fits (map (λ e. e.0) taken)) (map fits.stmt_fits (map (λ e. e.0) other))) (length loops) ≡ true
      → names.condition_faults (known_in text decls loops) c ++ (names.all_in (map (names.stmt_faults text decls) (map (λ e. e.0) taken)) loops ++ names.all_in (map (names.stmt_faults text decls) (map (λ e. e.0) other)) loops) ≡ []
      → good.stmt_fits decls (tree.stmt_step text decls (Branch c (map (tree.stmt_of text decls) (map (λ e. e.0) taken)) (map (tree.stmt_of text decls) (map (λ e. e.0) other))) loops) (length loops) ≡ true
  branch_holds c taken other loops p q =
      let known = known_in text decls loops in
      let left = tree.index_of known c.left in
      let right = tree.index_of known c.right in
      let first = tree.all_in (map (tree.stmt_of text decls) (map (λ e. e.0) taken)) loops in
      let second = tree.all_in (map (tree.stmt_of text decls) (map (λ e. e.0) other)) loops in
      let first_fits = good.all_at (length loops) (map fits.stmt_fits (map (λ e. e.0) taken)) in
      let second_fits = good.all_at (length loops) (map fits.stmt_fits (map (λ e. e.0) other)) in
      let sides = and_left (fits.condition_fits c) _ p in
      let after = and_right (fits.condition_fits c) (nat_le (raw_weights.branch_weight c) 65536 && (first_fits && second_fits)) p in
      let bodies = and_right (nat_le (raw_weights.branch_weight c) 65536) (first_fits && second_fits) after in
      let first_faults = names.all_in (map (names.stmt_faults text decls) (map (λ e. e.0) taken)) loops in
      let second_faults = names.all_in (map (names.stmt_faults text decls) (map (λ e. e.0) other)) loops in
      let condition = first_none (names.condition_faults known c) (first_faults ++ second_faults) q in
      let inside = second_none (names.condition_faults known c) (first_faults ++ second_faults) q in
      let x = index_tree_holds known c.left.tree (and_left (fits.index_fits c.left) (fits.index_fits c.right) sides) (first_none (names.index_faults known c.left) (names.index_faults known c.right) condition) in
      let y = index_tree_holds known c.right.tree (and_right (fits.index_fits c.left) (fits.index_fits c.right) sides) (second_none (names.index_faults known c.left) (names.index_faults known c.right) condition) in
      let weight : weights.branch_weight left right ≡ raw_weights.branch_weight c = ap (λ w. 1 + (w + weights.index_weight right)) x.1 ∙ ap (λ w. 1 + (raw_weights.index_weight c.left + w)) y.1 in
      let light = ap (λ w. nat_le w 65536) weight ∙ and_left (nat_le (raw_weights.branch_weight c) 65536) (first_fits && second_fits) after in
      let one = all_hold taken loops (and_left first_fits second_fits bodies) (first_none first_faults second_faults inside) in
      let two = all_hold other loops (and_right first_fits second_fits bodies) (second_none first_faults second_faults inside) in
      let fit : Bool = good.all_at (length loops) (map (good.stmt_fits decls) first) && good.all_at (length loops) (map (good.stmt_fits decls) second) in
      ap (λ s. good.stmt_fits decls s (length loops)) (sym (stmt.rolls-Branch left c.rel right first second c.at))
      ∙ stmt_fits_rolled (open_stmt.Branch left c.rel right first second c.at) (length loops)
      ∙ ap (λ z. z && (good.index_fits (length loops) right && (nat_le (weights.branch_weight left right) 65536 && fit))) x.0
      ∙ ap (λ z. z && (nat_le (weights.branch_weight left right) 65536 && fit)) y.0
      ∙ ap (λ z. z && fit) light
      ∙ ap (λ z. z && good.all_at (length loops) (map (good.stmt_fits decls) second)) one
      ∙ two

  layer_parts : (y : RawStmt-F ((r : RawStmt) × Holds r)) → Holds (roll-RawStmt (map-RawStmt ((r : RawStmt) × Holds r) RawStmt (λ e. e.0) y))
  layer_parts (Assign target value) = opened (Assign target value) (assign_holds target value)
  layer_parts (Loop header body) = opened (Loop header (map (λ e. e.0) body)) (loop_holds header body)
  layer_parts (Branch condition taken other) = opened (Branch condition (map (λ e. e.0) taken) (map (λ e. e.0) other)) (branch_holds condition taken other)

  layer : (x : RawStmt-F RawStmt) (y : RawStmt-F ((r : RawStmt) × Holds r)) → map-RawStmt ((r : RawStmt) × Holds r) RawStmt (λ e. e.0) y ≡ x → Holds (roll-RawStmt x)
  layer x y is = subst (λ z. Holds (roll-RawStmt z)) is (layer_parts y)

  stmt_holds : (r : RawStmt) → Holds r
  stmt_holds = ind-RawStmt Holds layer

  pub body_holds : (body : List RawStmt) (loops : List (List ℕ)) → fits.body_fits (length loops) body ≡ true → names.body_faults text decls body loops ≡ []
      → good.body_fits decls (length loops) (tree.body_of text decls body loops) ≡ true
  body_holds [] loops p q = refl
  body_holds (r ∷ more) loops p q =
      ap (λ z. z && good.body_fits decls (length loops) (tree.body_of text decls more loops)) (stmt_holds r loops (and_left _ _ p) (first_none (names.stmt_faults text decls r loops) _ q))
      ∙ body_holds more loops (and_right (fits.stmt_fits r (length loops)) _ p) (second_none (names.stmt_faults text decls r loops) _ q)

-- ---- declarations

size_holds : (z : ℤ) → names.is_size z ≡ true → good.is_size (unsigned_abs z) ≡ true
size_holds (pos n) h = h
size_holds (negsuc n) h = absurd (cc)

sizes_hold : (sizes : List RawSize) → names.sizes_faults sizes ≡ [] → list_all good.is_size (map names.size_of sizes) ≡ true
sizes_hold [] q = refl
sizes_hold (s ∷ more) q =
    ap (λ z. z && list_all good.is_size (map names.size_of more)) (size_holds s.value (passed (names.is_size s.value) faults.BadSize s.at (first_none _ (names.sizes_faults more) q)))
    ∙ sizes_hold more (second_none (unless (names.is_size s.value) faults.BadSize s.at) (names.sizes_faults more) q)

decl_holds : (text : List ℕ) (d : RawDecl) → DeclFits text d → names.sizes_faults d.sizes ≡ [] → IsDeclared (names.declared text d)
decl_holds text d f q = record { name = f.name; few = subst (λ k. k ≤ 2) (sym (length-map d.sizes names.size_of)) f.few; sizes = sizes_hold d.sizes q }

decls_hold : (text : List ℕ) (earlier : List Declared) (ds : List RawDecl) → All (DeclFits text) ds → names.decls_faults text earlier ds ≡ [] → All IsDeclared (map (names.declared text) ds)
decls_hold text earlier [] f q = All-nil IsDeclared
decls_hold text earlier (d ∷ more) f q =
    let twice = names.twice_faults (names.name_meaning (known_in text earlier []) d.name) d.name.from in
    let here = first_none (twice ++ names.sizes_faults d.sizes) (names.decls_faults text (earlier ++ names.declared text d ∷ []) more) q in
    let there = second_none (twice ++ names.sizes_faults d.sizes) (names.decls_faults text (earlier ++ names.declared text d ∷ []) more) q in
    All-cons IsDeclared (names.declared text d) (map (names.declared text) more) (decl_holds text d (All-head (DeclFits text) d more f) (second_none twice (names.sizes_faults d.sizes) here))
    (decls_hold text (earlier ++ names.declared text d ∷ []) more (All-tail (DeclFits text) d more f) there)

-- ---- kernels

pub kernel_holds : (text : List ℕ) (raw : RawKernel) → Fits text raw → names.name_faults text raw ≡ [] → IsWellFormed (tree.tree_of text raw)
kernel_holds text raw f q =
    let decls = map (names.declared text) raw.decls in
    record {
      title = f.title;
      few = subst (λ k. k ≤ 65536) (sym (length-map raw.decls (names.declared text))) f.few;
      decls = decls_hold text [] raw.decls f.decls (first_none (names.decls_faults text [] raw.decls) _ q);
      body = body_holds text decls raw.body [] f.body (second_none (names.decls_faults text [] raw.decls) _ q);
    }
