-- What the grammar reads of a text's tokens fits.
use Rattle.std.proofs.Common.{◌≡◌, ◌+◌, ◌≤◌, ◌&&◌, ◌∷◌, [], ℕ, zero, suc, Bool, true, List, length, nat_lt, nat_le, Option, Some, None, refl, sym, ap, ◌∙◌, subst, arith, inl, inr}
use Rattle.std.specs.List.{All}
use Rattle.std.proofs.lemmas.Bool.{le-leb, lt-ltb}
use Rattle.std.proofs.lemmas.List.Elements.{All-nil, All-cons}
use Rattle.kernel_lexer.specs.declared.token.Token.{Token}
use Rattle.kernel_lexer.specs.Texts.{AreTextTokens}
use Rattle.kernel_syntax.specs.declared.raw.RawSize.{RawSize}
use Rattle.kernel_syntax.specs.declared.raw.RawPlace.{RawPlace}
use Rattle.kernel_syntax.specs.declared.raw.RawExpr.{RawExpr}
use Rattle.kernel_syntax.specs.declared.raw.RawLoop.{RawLoop}
use Rattle.kernel_syntax.specs.declared.raw.RawBranch.{RawBranch}
use Rattle.kernel_syntax.specs.declared.raw.RawStmt.{RawStmt}
use Rattle.kernel_syntax.specs.declared.raw.RawStmt.TheOpen as open_stmt
use Rattle.kernel_syntax.specs.declared.raw.RawStmt.TheVariants as stmt
use Rattle.kernel_syntax.specs.declared.raw.RawStmt.TheFolds.{fold-roll-RawStmt}
use Rattle.kernel_syntax.specs.declared.raw.RawKernel.{RawKernel}
use Rattle.kernel_syntax.specs.Trees as tree
use Rattle.kernel_syntax.specs.Grammar.{Block, Step, Header, Condition, Otherwise, Assigned, Statement, Declared, Whole}
use Rattle.kernel_parser.specs.RawFits as fits
use Rattle.kernel_parser.specs.RawFits.{DeclFits, Fits}
use Rattle.kernel_parser.specs.RawWeights as weights
use Rattle.kernel_parser.proofs.Spelled.{Spelled, tokens_spelled, name_spelled}
use Rattle.kernel_parser.proofs.Levels.{Gives, Fit, two_parts}
use Rattle.kernel_parser.proofs.ReadIndices.{index_read, place_read}
use Rattle.kernel_parser.proofs.ReadExprs.{expr_read}
use Rattle.token_grammar.specs.Phrases.{Many, Maybe}

-- ---- statements

assign_fits : (target : RawPlace) (value : RawExpr) (loops : ℕ) → fits.stmt_fits (stmt.Assign target value) loops ≡ (fits.place_fits target && (fits.expr_fits value && nat_le (weights.assign_weight target value) 65536))
assign_fits target value loops = ap (λ s. fits.stmt_fits s loops) (sym (stmt.rolls-Assign target value)) ∙ ap (λ f. f loops) (fold-roll-RawStmt (ℕ → Bool) fits.stmt_fits_step (open_stmt.Assign target value))

loop_fits : (header : RawLoop) (body : List RawStmt) (loops : ℕ)
    → fits.stmt_fits (stmt.Loop header body) loops ≡ (nat_lt loops 32 && (fits.header_fits header && (nat_le (weights.loop_weight header) 65536 && fits.body_fits (suc loops) body)))
loop_fits header body loops = ap (λ s. fits.stmt_fits s loops) (sym (stmt.rolls-Loop header body)) ∙ ap (λ f. f loops) (fold-roll-RawStmt (ℕ → Bool) fits.stmt_fits_step (open_stmt.Loop header body))

branch_fits : (condition : RawBranch) (taken other : List RawStmt) (loops : ℕ)
    → fits.stmt_fits (stmt.Branch condition taken other) loops ≡ (fits.condition_fits condition && (nat_le (weights.branch_weight condition) 65536 && (fits.body_fits loops taken && fits.body_fits loops other)))
branch_fits condition taken other loops =
    ap (λ s. fits.stmt_fits s loops) (sym (stmt.rolls-Branch condition taken other)) ∙ ap (λ f. f loops) (fold-roll-RawStmt (ℕ → Bool) fits.stmt_fits_step (open_stmt.Branch condition taken other))

module _ (text : List ℕ) where
  step_read : (d : ℕ) → Gives text (Maybe (Step d)) (Fit fits.step_fits weights.step_weight)
  step_read d word None s e = (refl, omega arith)
  step_read d word (Some by) s ((t, index), (u, v, w, one, r), is) =
      let p = two_parts text word u v w s in
      let f = index_read text d v index p.1 r in
      (ap fits.index_fits is ∙ f.0, omega (arith, ap weights.index_weight is, f.1, p.2))

  header_read : (d : ℕ) → Gives text (Header d) (Fit fits.header_fits weights.loop_weight)
  header_read d word header s ((t, (name, (t1, (from, (t2, (to, by)))))), (u, v, w, (one, h), (u1, v1, w1, o1, (u2, v2, w2, o2, (u3, v3, w3, r, (u4, v4, w4, o4, (u5, v5, w5, q, b)))))), is) =
      let p = two_parts text word u v w s in
      let p1 = two_parts text v u1 v1 w1 p.1 in
      let p2 = two_parts text v1 u2 v2 w2 p1.1 in
      let p3 = two_parts text v2 u3 v3 w3 p2.1 in
      let p4 = two_parts text v3 u4 v4 w4 p3.1 in
      let p5 = two_parts text v4 u5 v5 w5 p4.1 in
      let f = index_read text d u3 from p3.0 r in
      let g = index_read text d u5 to p5.0 q in
      let k = step_read d v5 by p5.1 b in (
        ap fits.header_fits is ∙ ap (λ z. z && (fits.index_fits to && fits.step_fits by)) f.0 ∙ ap (λ z. z && fits.step_fits by) g.0 ∙ k.0,
        omega (arith, ap weights.loop_weight is, f.1, g.1, k.1, p.2, p1.2, p2.2, p3.2, p4.2, p5.2, ap length one),
      )

  condition_read : (d : ℕ) → Gives text (Condition d) (Fit fits.condition_fits weights.branch_weight)
  condition_read d word condition s ((t, (left, (sign, right))), (u, v, w, (one, h), (u1, v1, w1, r, (u2, v2, w2, o2, q))), is) =
      let p = two_parts text word u v w s in
      let p1 = two_parts text v u1 v1 w1 p.1 in
      let p2 = two_parts text v1 u2 v2 w2 p1.1 in
      let f = index_read text d u1 left p1.0 r in
      let g = index_read text d v2 right p2.1 q in (
        ap fits.condition_fits is ∙ ap (λ z. z && fits.index_fits right) f.0 ∙ g.0,
        omega (arith, ap weights.branch_weight is, f.1, g.1, p.2, p1.2, p2.2, ap length one),
      )

  -- A statement fits in so many loops, where as many levels are left.
  abbrev StmtFits : ℕ → RawStmt → Type 0
  StmtFits d s = (loops : ℕ) → loops + d ≤ 32 → fits.stmt_fits s loops ≡ true

  assigned_read : (d : ℕ) (word : List Token) (x : RawStmt) → Spelled text word → length word ≤ 65536 → Assigned d word x → StmtFits d x
  assigned_read d word x s few ((target, (t1, (value, t2))), (u, v, w, r, (u1, v1, w1, (one, h), (u2, v2, w2, q, (last, h2)))), is) loops l =
      let p = two_parts text word u v w s in
      let p1 = two_parts text v u1 v1 w1 p.1 in
      let p2 = two_parts text v1 u2 v2 w2 p1.1 in
      let f = place_read text d u target p.0 r in
      let g = expr_read text d u2 value p2.0 q in
      let light = le-leb (weights.assign_weight target value) 65536 (omega (arith, few, f.1, g.1, p.2, p1.2, p2.2, ap length one, ap length last)) in
      ap (λ z. fits.stmt_fits z loops) is ∙ assign_fits target value loops
      ∙ ap (λ z. z && (fits.expr_fits value && nat_le (weights.assign_weight target value) 65536)) f.0
      ∙ ap (λ z. z && nat_le (weights.assign_weight target value) 65536) g.0 ∙ light

  -- what is read as a statement fits
  abbrev StatementsFit : ℕ → Type 0
  StatementsFit d = (word : List Token) (x : RawStmt) → Spelled text word → length word ≤ 65536 → Statement d word x → StmtFits d x

  statements_read : (d : ℕ) → StatementsFit d → (word : List Token) (body : List RawStmt) → Spelled text word → length word ≤ 65536 → Many (Statement d) word body → (loops : ℕ) → loops + d ≤ 32 → fits.body_fits loops body ≡ true
  statements_read d f word [] s few e loops l = refl
  statements_read d f word (x ∷ more) s few (u, v, w, r, rs) loops l =
      let p = two_parts text word u v w s in
      ap (λ z. z && fits.body_fits loops more) (f u x p.0 (omega (arith, few, p.2)) r loops l)
      ∙ statements_read d f v more p.1 (omega (arith, few, p.2)) rs loops l

  block_read : (d : ℕ) → StatementsFit d → (word : List Token) (body : List RawStmt) → Spelled text word → length word ≤ 65536 → Block (Statement d) word body → (loops : ℕ) → loops + d ≤ 32 → fits.body_fits loops body ≡ true
  block_read d f word body s few ((t1, (found, t2)), (u, v, w, o, (u1, v1, w1, q, o2)), is) loops l =
      let p = two_parts text word u v w s in
      let p1 = two_parts text v u1 v1 w1 p.1 in
      ap (fits.body_fits loops) is ∙ statements_read d f u1 found p1.0 (omega (arith, few, p.2, p1.2)) q loops l

  other_read : (d : ℕ) → StatementsFit d → (word : List Token) (o : Option (List RawStmt)) → Spelled text word → length word ≤ 65536 → Maybe (Otherwise (Statement d)) word o → (loops : ℕ) → loops + d ≤ 32 → fits.body_fits loops (tree.or_none o) ≡ true
  other_read d f word None s few e loops l = refl
  other_read d f word (Some other) s few ((t, body), (u, v, w, one, r), is) loops l =
      let p = two_parts text word u v w s in
      ap (fits.body_fits loops) is ∙ block_read d f v body p.1 (omega (arith, few, p.2)) r loops l

  statement_read : (d : ℕ) → StatementsFit d
  statement_read zero word x s few r loops l = assigned_read 0 word x s few r loops l
  statement_read (suc d) word x s few (inr r) loops l = assigned_read (suc d) word x s few r loops l
  statement_read (suc d) word x s few (inl (inl ((header, body), (u, v, w, r, b), is))) loops l =
      let p = two_parts text word u v w s in
      let f = header_read d u header p.0 r in
      let inner = block_read d (statement_read d) v body p.1 (omega (arith, few, p.2)) b (suc loops) (omega (arith, l)) in
      ap (λ z. fits.stmt_fits z loops) is ∙ loop_fits header body loops
      ∙ ap (λ z. z && (fits.header_fits header && (nat_le (weights.loop_weight header) 65536 && fits.body_fits (suc loops) body))) (lt-ltb loops 32 (omega (arith, l)))
      ∙ ap (λ z. z && (nat_le (weights.loop_weight header) 65536 && fits.body_fits (suc loops) body)) f.0
      ∙ ap (λ z. z && fits.body_fits (suc loops) body) (le-leb (weights.loop_weight header) 65536 (omega (arith, few, f.1, p.2)))
      ∙ inner
  statement_read (suc d) word x s few (inl (inr ((condition, (taken, o)), (u, v, w, r, (u1, v1, w1, b, b')), is))) loops l =
      let p = two_parts text word u v w s in
      let p1 = two_parts text v u1 v1 w1 p.1 in
      let f = condition_read d u condition p.0 r in
      let other = tree.or_none o in
      let first = block_read d (statement_read d) u1 taken p1.0 (omega (arith, few, p.2, p1.2)) b loops (omega (arith, l)) in
      let second = other_read d (statement_read d) v1 o p1.1 (omega (arith, few, p.2, p1.2)) b' loops (omega (arith, l)) in
      ap (λ z. fits.stmt_fits z loops) is ∙ branch_fits condition taken other loops
      ∙ ap (λ z. z && (nat_le (weights.branch_weight condition) 65536 && (fits.body_fits loops taken && fits.body_fits loops other))) f.0
      ∙ ap (λ z. z && (fits.body_fits loops taken && fits.body_fits loops other)) (le-leb (weights.branch_weight condition) 65536 (omega (arith, few, f.1, p.2)))
      ∙ ap (λ z. z && fits.body_fits loops other) first
      ∙ second

  -- ---- declarations

  at_most_two : (o : Option (RawSize × Option RawSize)) → length (tree.listed o) ≤ 2
  at_most_two None = omega arith
  at_most_two (Some (a, None)) = omega arith
  at_most_two (Some (a, Some b)) = omega arith

  decl_read : Gives text Declared (λ n d. DeclFits text d × (1 ≤ n))
  decl_read word d s ((t, (name, (sizes, t2))), (u, v, w, (one, h), (u1, v1, w1, (named, h1), (u2, v2, w2, (o, r, made), last))), is) =
      let p = two_parts text word u v w s in
      let p1 = two_parts text v u1 v1 w1 p.1 in
      let spelled = subst (Spelled text) named p1.0 in
      let few : length sizes ≤ 2 = omega (arith, ap length made, at_most_two o) in
      (subst (DeclFits text) (sym is) (record { name = name_spelled text name spelled.0 h1; few = few }), omega (arith, p.2, ap length one))

  decls_read : Gives text (Many Declared) (λ n ds. All (DeclFits text) ds × (length ds ≤ n))
  decls_read word [] s e = (All-nil (DeclFits text), omega arith)
  decls_read word (d ∷ more) s (u, v, w, r, rs) =
      let p = two_parts text word u v w s in
      let f = decl_read u d p.0 r in
      let g = decls_read v more p.1 rs in
      (All-cons (DeclFits text) d more f.0 g.0, omega (arith, f.1, g.1, p.2))

  -- ---- kernels

  whole_read : (word : List Token) (raw : RawKernel) → Spelled text word → length word ≤ 65536 → Whole 32 word raw → Fits text raw
  whole_read word raw s few ((t, (title, (t1, (decls, (body, t2))))), (u, v, w, o, (u1, v1, w1, (named, h1), (u2, v2, w2, o2, (u3, v3, w3, r, (u4, v4, w4, q, o4))))), is) =
      let p = two_parts text word u v w s in
      let p1 = two_parts text v u1 v1 w1 p.1 in
      let p2 = two_parts text v1 u2 v2 w2 p1.1 in
      let p3 = two_parts text v2 u3 v3 w3 p2.1 in
      let p4 = two_parts text v3 u4 v4 w4 p3.1 in
      let spelled = subst (Spelled text) named p1.0 in
      let ds = decls_read u3 decls p3.0 r in
      subst (Fits text) (sym is) (record {
        title = name_spelled text title spelled.0 h1;
        few = omega (arith, few, ds.1, p.2, p1.2, p2.2, p3.2);
        decls = ds.0;
        body = statements_read 32 (statement_read 32) u4 body p4.0 (omega (arith, few, p.2, p1.2, p2.2, p3.2, p4.2)) q 0 (omega arith);
      })

-- what is read of the tokens of a text that is not too long fits
pub text_fits : (text : List ℕ) (tokens : List Token) (raw : RawKernel) → length text ≤ 65536 → AreTextTokens text tokens → Whole 32 tokens raw → Fits text raw
text_fits text tokens raw few a r =
    let s = tokens_spelled text tokens a in
    whole_read text tokens raw s.0 (omega (arith, few, s.1)) r
