-- The expressions that the grammar reads fit, and weigh at most the number of their tokens.
use Rattle.std.proofs.Common.{◌≡◌, ◌+◌, ◌≤◌, ◌&&◌, ◌==◌, ◌∷◌, [], ℕ, zero, suc, ℤ, Bool, true, List, map, sum, length, eqb, refl, sym, ap, ◌∙◌, subst, arith, inl, inr}
use Rattle.std.specs.Prelude.{◌||◌}
use Rattle.std.proofs.lemmas.Bool.{eq-eqb}
use Rattle.comp_graph.specs.declared.operation.Op.{Op}
use Rattle.comp_graph.specs.Operations.{arity_of}
use Rattle.kernel_ast.specs.WellFormed.{is_number, are_operators, is_function, all}
use Rattle.kernel_lexer.specs.declared.token.Keyword.TheVariants as w
use Rattle.kernel_lexer.specs.declared.token.Mark.TheVariants as m
use Rattle.kernel_lexer.specs.declared.token.TokenKind.{TokenKind}
use Rattle.kernel_lexer.specs.declared.token.TokenKind.TheVariants as k
use Rattle.kernel_lexer.specs.declared.token.Token.{Token}
use Rattle.kernel_syntax.specs.declared.raw.RawPlace.{RawPlace}
use Rattle.kernel_syntax.specs.declared.raw.RawExpr.{RawExpr}
use Rattle.kernel_syntax.specs.declared.raw.RawExpr.TheOpen as open_expr
use Rattle.kernel_syntax.specs.declared.raw.RawExpr.TheVariants as expr
use Rattle.kernel_syntax.specs.declared.raw.RawExpr.TheFolds.{fold-RawLink, fold-roll-RawExpr, fold-roll-RawLink}
use Rattle.kernel_syntax.specs.declared.raw.RawLink.{RawLink}
use Rattle.kernel_syntax.specs.Tokens.{tag, number_of, op_of}
use Rattle.kernel_syntax.specs.Trees as tree
use Rattle.kernel_syntax.specs.Grammar.{Leaf, ExprOf, Unary, Expr}
use Rattle.kernel_parser.specs.RawFits as fits
use Rattle.kernel_parser.specs.RawWeights as weights
use Rattle.kernel_parser.proofs.Spelled.{Spelled, number_spelled}
use Rattle.kernel_parser.proofs.Levels.{Gives, Fit, two_parts, sum_cons, ranked}
use Rattle.kernel_parser.proofs.ReadIndices.{place_read}
use Rattle.token_grammar.specs.Phrases.{Phrase}

-- an operator, with whether its right operand fits
abbrev link_pair : RawLink → Op × Bool
link_pair = fold-RawLink Bool (Op × Bool) fits.expr_fits_step fits.link_step

-- the weight of an operator with its right operand
abbrev link_weight : RawLink → ℕ
link_weight = fold-RawLink ℕ ℕ weights.expr_weight_step weights.link_step

-- ---- the definitions at each kind of part

number_fits : (n : ℤ) → fits.expr_fits (expr.Number n) ≡ is_number n
number_fits n = ap fits.expr_fits (sym (expr.rolls-Number n)) ∙ fold-roll-RawExpr Bool (Op × Bool) fits.expr_fits_step fits.link_step (open_expr.Number n)

number_weighs : (n : ℤ) → weights.expr_weight (expr.Number n) ≡ 1
number_weighs n = ap weights.expr_weight (sym (expr.rolls-Number n)) ∙ fold-roll-RawExpr ℕ ℕ weights.expr_weight_step weights.link_step (open_expr.Number n)

place_fits : (p : RawPlace) → fits.expr_fits (expr.Place p) ≡ fits.place_fits p
place_fits p = ap fits.expr_fits (sym (expr.rolls-Place p)) ∙ fold-roll-RawExpr Bool (Op × Bool) fits.expr_fits_step fits.link_step (open_expr.Place p)

place_weighs : (p : RawPlace) → weights.expr_weight (expr.Place p) ≡ weights.place_weight p
place_weighs p = ap weights.expr_weight (sym (expr.rolls-Place p)) ∙ fold-roll-RawExpr ℕ ℕ weights.expr_weight_step weights.link_step (open_expr.Place p)

minus_fits : (e : RawExpr) (at : ℕ) → fits.expr_fits (expr.Minus e at) ≡ fits.expr_fits e
minus_fits e at = ap fits.expr_fits (sym (expr.rolls-Minus e at)) ∙ fold-roll-RawExpr Bool (Op × Bool) fits.expr_fits_step fits.link_step (open_expr.Minus e at)

minus_weighs : (e : RawExpr) (at : ℕ) → weights.expr_weight (expr.Minus e at) ≡ 1 + weights.expr_weight e
minus_weighs e at = ap weights.expr_weight (sym (expr.rolls-Minus e at)) ∙ fold-roll-RawExpr ℕ ℕ weights.expr_weight_step weights.link_step (open_expr.Minus e at)

chain_fits : (e : RawExpr) (l : RawLink) (ls : List RawLink) → fits.expr_fits (tree.chain (e, l ∷ ls)) ≡ (fits.expr_fits e && (are_operators (map (λ p. p.0) (map link_pair (l ∷ ls))) && all (map (λ p. p.1) (map link_pair (l ∷ ls)))))
chain_fits e l ls = ap fits.expr_fits (sym (expr.rolls-Chain e (l ∷ ls))) ∙ fold-roll-RawExpr Bool (Op × Bool) fits.expr_fits_step fits.link_step (open_expr.Chain e (l ∷ ls))

chain_weighs : (e : RawExpr) (l : RawLink) (ls : List RawLink) → weights.expr_weight (tree.chain (e, l ∷ ls)) ≡ weights.expr_weight e + sum (map link_weight (l ∷ ls))
chain_weighs e l ls = ap weights.expr_weight (sym (expr.rolls-Chain e (l ∷ ls))) ∙ fold-roll-RawExpr ℕ ℕ weights.expr_weight_step weights.link_step (open_expr.Chain e (l ∷ ls))

link_is : (t : Token) (e : RawExpr) → link_pair (tree.link (t, e)) ≡ (op_of t.kind, fits.expr_fits e)
link_is t e = fold-roll-RawLink Bool (Op × Bool) fits.expr_fits_step fits.link_step (record { op = op_of t.kind; value = e; at = t.from })

link_weighs : (t : Token) (e : RawExpr) → link_weight (tree.link (t, e)) ≡ 1 + weights.expr_weight e
link_weighs t e = fold-roll-RawLink ℕ ℕ weights.expr_weight_step weights.link_step (record { op = op_of t.kind; value = e; at = t.from })

call_fits : (op : Op) (args : List RawExpr) (at : ℕ) → fits.expr_fits (expr.Call op args at) ≡ (is_function op && ((length (map fits.expr_fits args) == arity_of op) && all (map fits.expr_fits args)))
call_fits op args at = ap fits.expr_fits (sym (expr.rolls-Call op args at)) ∙ fold-roll-RawExpr Bool (Op × Bool) fits.expr_fits_step fits.link_step (open_expr.Call op args at)

call_weighs : (op : Op) (args : List RawExpr) (at : ℕ) → weights.expr_weight (expr.Call op args at) ≡ 1 + sum (map weights.expr_weight args)
call_weighs op args at = ap weights.expr_weight (sym (expr.rolls-Call op args at)) ∙ fold-roll-RawExpr ℕ ℕ weights.expr_weight_step weights.link_step (open_expr.Call op args at)

-- ---- function words

pair_word : (kind : TokenKind) → (eqb (tag kind) 7 || eqb (tag kind) 8) ≡ true → (is_function (op_of kind) ≡ true) × (arity_of (op_of kind) ≡ 2)
pair_word (k.Word w.Min) h = (refl, refl)
pair_word (k.Word w.Max) h = (refl, refl)
pair_word (k.Sign m.Plus) h = absurd (cc)
pair_word _ h = absurd (cc)

triple_word : (kind : TokenKind) → (eqb (tag kind) 9 || eqb (tag kind) 10) ≡ true → (is_function (op_of kind) ≡ true) × (arity_of (op_of kind) ≡ 3)
triple_word (k.Word w.Sel) h = (refl, refl)
triple_word (k.Word w.Mad) h = (refl, refl)
triple_word (k.Sign m.Plus) h = absurd (cc)
triple_word _ h = absurd (cc)

-- an expression's test and weight
abbrev pub ExprFit : ℕ → RawExpr → Type 0
ExprFit = Fit fits.expr_fits weights.expr_weight

-- arguments fit, and weigh at most this
abbrev ArgsFit : ℕ → List RawExpr → Type 0
ArgsFit n args = (all (map fits.expr_fits args) ≡ true) × (sum (map weights.expr_weight args) ≤ n)

no_arg : ArgsFit 0 []
no_arg = (refl, omega arith)

add_arg : (m n : ℕ) (e : RawExpr) (es : List RawExpr) → ExprFit m e → ArgsFit n es → ArgsFit (m + n) (e ∷ es)
add_arg m n e es f g = (ap (λ z. z && all (map fits.expr_fits es)) f.0 ∙ g.0, omega (arith, sum_cons (weights.expr_weight e) (map weights.expr_weight es), f.1, g.1))

call_read : (n size : ℕ) (op : Op) (args : List RawExpr) (at : ℕ) → length (map fits.expr_fits args) ≡ size → (is_function op ≡ true) × (arity_of op ≡ size) → ArgsFit n args → ExprFit (1 + n) (expr.Call op args at)
call_read n size op args at l word f = (
  call_fits op args at ∙ ap (λ z. z && ((length (map fits.expr_fits args) == arity_of op) && all (map fits.expr_fits args))) word.0
      ∙ ap (λ z. z && all (map fits.expr_fits args)) (eq-eqb (length (map fits.expr_fits args)) (arity_of op) (l ∙ sym word.1)) ∙ f.0,
  omega (arith, call_weighs op args at, f.1),
)

same_fit : (m n : ℕ) (e f : RawExpr) → e ≡ f → m ≤ n → ExprFit m f → ExprFit n e
same_fit m n e f is l h = (ap fits.expr_fits is ∙ h.0, omega (arith, ap weights.expr_weight is, l, h.1))

-- ---- rule by rule

module _ (text : List ℕ) where
  expr_of : (R : Phrase Token RawExpr) → Gives text R ExprFit → Gives text (ExprOf R) ExprFit
  expr_of R g = ranked text tree.link tree.chain 1 fits.expr_fits weights.expr_weight link_pair link_weight link_is link_weighs (λ e. refl) chain_fits chain_weighs 5 (omega arith) R g

  leaf : (d : ℕ) → Gives text (Leaf d) ExprFit
  leaf d word e s (inl (t, (one, h), is)) =
      let spelled = subst (Spelled text) one s in
      (ap fits.expr_fits is ∙ number_fits (number_of t.kind) ∙ number_spelled text t spelled.0 h, omega (arith, ap weights.expr_weight is, number_weighs (number_of t.kind), ap length one))
  leaf d word e s (inr (place, r, is)) =
      let f = place_read text d word place s r in
      (ap fits.expr_fits is ∙ place_fits place ∙ f.0, omega (arith, ap weights.expr_weight is, place_weighs place, f.1))

  unary : (d : ℕ) → Gives text (Unary d) ExprFit
  unary zero word e s r = leaf 0 word e s r
  unary (suc d) word e s (inr r) = leaf (suc d) word e s r
  unary (suc d) word e s (inl (inl ((t, x), (u, v, w, (one, h), r), is))) =
      let p = two_parts text word u v w s in
      let f = unary d v x p.1 r in
      (ap fits.expr_fits is ∙ minus_fits x t.from ∙ f.0, omega (arith, ap weights.expr_weight is, minus_weighs x t.from, f.1, p.2, ap length one))
  unary (suc d) word e s (inl (inr (inl ((t, (x, t')), (u, v, w, begin, (u', v', w', r, close)), is)))) =
      let p = two_parts text word u v w s in
      let q = two_parts text v u' v' w' p.1 in
      same_fit (length u') (length word) e x is (omega (arith, p.2, q.2)) (expr_of (Unary d) (unary d) u' x q.0 r)
  unary (suc d) word e s (inl (inr (inr (inl ((t, (t1, (x, (t2, (y, t3))))), (u, v, w, (one, h), (u1, v1, w1, o1, (u2, v2, w2, r, (u3, v3, w3, o3, (u4, v4, w4, q, o4))))), is))))) =
      let below = expr_of (Unary d) (unary d) in
      let p = two_parts text word u v w s in
      let p1 = two_parts text v u1 v1 w1 p.1 in
      let p2 = two_parts text v1 u2 v2 w2 p1.1 in
      let p3 = two_parts text v2 u3 v3 w3 p2.1 in
      let p4 = two_parts text v3 u4 v4 w4 p3.1 in
      same_fit (1 + (length u2 + (length u4 + 0))) (length word) e (expr.Call (op_of t.kind) (x ∷ y ∷ []) t.from) is (omega (arith, p.2, p1.2, p2.2, p3.2, p4.2, ap length one))
      (call_read (length u2 + (length u4 + 0)) 2 (op_of t.kind) (x ∷ y ∷ []) t.from refl (pair_word t.kind h)
      (add_arg (length u2) (length u4 + 0) x (y ∷ []) (below u2 x p2.0 r) (add_arg (length u4) 0 y [] (below u4 y p4.0 q) no_arg)))
  unary (suc d) word e s (inl (inr (inr (inr ((t, (t1, (x, (t2, (y, (t3, (z, t4))))))), (u, v, w, (one, h), (u1, v1, w1, o1, (u2, v2, w2, r, (u3, v3, w3, o3, (u4, v4, w4, q, (u5, v5, w5, o5, (u6, v6, w6, k, o6))))))), is))))) =
      let below = expr_of (Unary d) (unary d) in
      let p = two_parts text word u v w s in
      let p1 = two_parts text v u1 v1 w1 p.1 in
      let p2 = two_parts text v1 u2 v2 w2 p1.1 in
      let p3 = two_parts text v2 u3 v3 w3 p2.1 in
      let p4 = two_parts text v3 u4 v4 w4 p3.1 in
      let p5 = two_parts text v4 u5 v5 w5 p4.1 in
      let p6 = two_parts text v5 u6 v6 w6 p5.1 in
      let args = x ∷ y ∷ z ∷ [] in
      same_fit (1 + (length u2 + (length u4 + (length u6 + 0)))) (length word) e (expr.Call (op_of t.kind) args t.from) is (omega (arith, p.2, p1.2, p2.2, p3.2, p4.2, p5.2, p6.2, ap length one))
      (call_read (length u2 + (length u4 + (length u6 + 0))) 3 (op_of t.kind) args t.from refl (triple_word t.kind h)
      (add_arg (length u2) (length u4 + (length u6 + 0)) x (y ∷ z ∷ []) (below u2 x p2.0 r)
      (add_arg (length u4) (length u6 + 0) y (z ∷ []) (below u4 y p4.0 q) (add_arg (length u6) 0 z [] (below u6 z p6.0 k) no_arg))))

  pub expr_read : (d : ℕ) → Gives text (Expr d) ExprFit
  expr_read d = expr_of (Unary d) (unary d)
