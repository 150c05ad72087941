-- The indices and places that the grammar reads fit, and weigh at most the number of their tokens.
use Rattle.std.proofs.Common.{◌≡◌, ◌+◌, ◌≤◌, ◌&&◌, ◌∷◌, [], ℕ, zero, suc, ℤ, Bool, true, List, map, sum, length, Some, None, refl, sym, ap, ◌∙◌, subst, arith, inl, inr}
use Rattle.comp_graph.specs.declared.operation.Op.{Op}
use Rattle.kernel_ast.specs.WellFormed.{is_number, are_index_operators, all}
use Rattle.kernel_lexer.specs.declared.token.Token.{Token}
use Rattle.kernel_syntax.specs.declared.raw.Span.{Span}
use Rattle.kernel_syntax.specs.declared.raw.RawIndexTree.{RawIndexTree}
use Rattle.kernel_syntax.specs.declared.raw.RawIndexTree.TheOpen as open_index
use Rattle.kernel_syntax.specs.declared.raw.RawIndexTree.TheVariants as index
use Rattle.kernel_syntax.specs.declared.raw.RawIndexTree.TheFolds.{fold-RawIndexLink, fold-roll-RawIndexTree, fold-roll-RawIndexLink}
use Rattle.kernel_syntax.specs.declared.raw.RawIndexLink.{RawIndexLink}
use Rattle.kernel_syntax.specs.declared.raw.RawIndex.{RawIndex}
use Rattle.kernel_syntax.specs.Tokens.{span, number_of, op_of}
use Rattle.kernel_syntax.specs.Trees as tree
use Rattle.kernel_syntax.specs.Grammar.{Bracket, Brackets, IndexLeaf, IndexOf, IndexUnary, Index, Place}
use Rattle.kernel_parser.specs.RawFits as fits
use Rattle.kernel_parser.specs.RawWeights as weights
use Rattle.kernel_parser.proofs.Spelled.{Spelled, number_spelled}
use Rattle.kernel_parser.proofs.Levels.{Gives, Fit, two_parts, sum_cons, ranked}
use Rattle.token_grammar.specs.Phrases.{Phrase}

-- an operator of an index, with whether its right operand fits
abbrev link_pair : RawIndexLink → Op × Bool
link_pair = fold-RawIndexLink Bool (Op × Bool) fits.index_fits_step fits.index_link_step

-- the weight of an operator of an index with its right operand
abbrev link_weight : RawIndexLink → ℕ
link_weight = fold-RawIndexLink ℕ ℕ weights.tree_weight_step weights.index_link_step

-- ---- the definitions at each kind of part

number_fits : (n : ℤ) → fits.index_tree_fits (index.Number n) ≡ is_number n
number_fits n = ap fits.index_tree_fits (sym (index.rolls-Number n)) ∙ fold-roll-RawIndexTree Bool (Op × Bool) fits.index_fits_step fits.index_link_step (open_index.Number n)

number_weighs : (n : ℤ) → weights.tree_weight (index.Number n) ≡ 1
number_weighs n = ap weights.tree_weight (sym (index.rolls-Number n)) ∙ fold-roll-RawIndexTree ℕ ℕ weights.tree_weight_step weights.index_link_step (open_index.Number n)

name_fits : (s : Span) → fits.index_tree_fits (index.Name s) ≡ true
name_fits s = ap fits.index_tree_fits (sym (index.rolls-Name s)) ∙ fold-roll-RawIndexTree Bool (Op × Bool) fits.index_fits_step fits.index_link_step (open_index.Name s)

name_weighs : (s : Span) → weights.tree_weight (index.Name s) ≡ 1
name_weighs s = ap weights.tree_weight (sym (index.rolls-Name s)) ∙ fold-roll-RawIndexTree ℕ ℕ weights.tree_weight_step weights.index_link_step (open_index.Name s)

minus_fits : (t : RawIndexTree) → fits.index_tree_fits (index.Minus t) ≡ fits.index_tree_fits t
minus_fits t = ap fits.index_tree_fits (sym (index.rolls-Minus t)) ∙ fold-roll-RawIndexTree Bool (Op × Bool) fits.index_fits_step fits.index_link_step (open_index.Minus t)

minus_weighs : (t : RawIndexTree) → weights.tree_weight (index.Minus t) ≡ 1 + weights.tree_weight t
minus_weighs t = ap weights.tree_weight (sym (index.rolls-Minus t)) ∙ fold-roll-RawIndexTree ℕ ℕ weights.tree_weight_step weights.index_link_step (open_index.Minus t)

chain_fits : (i : RawIndex) (l : RawIndexLink) (ls : List RawIndexLink) → fits.index_fits (tree.index_chain (i, l ∷ ls)) ≡ (fits.index_fits i && (are_index_operators (map (λ p. p.0) (map link_pair (l ∷ ls))) && all (map (λ p. p.1) (map link_pair (l ∷ ls)))))
chain_fits i l ls = ap fits.index_tree_fits (sym (index.rolls-Chain i.tree (l ∷ ls))) ∙ fold-roll-RawIndexTree Bool (Op × Bool) fits.index_fits_step fits.index_link_step (open_index.Chain i.tree (l ∷ ls))

chain_weighs : (i : RawIndex) (l : RawIndexLink) (ls : List RawIndexLink) → weights.index_weight (tree.index_chain (i, l ∷ ls)) ≡ weights.index_weight i + sum (map link_weight (l ∷ ls))
chain_weighs i l ls = ap weights.tree_weight (sym (index.rolls-Chain i.tree (l ∷ ls))) ∙ fold-roll-RawIndexTree ℕ ℕ weights.tree_weight_step weights.index_link_step (open_index.Chain i.tree (l ∷ ls))

link_is : (t : Token) (i : RawIndex) → link_pair (tree.index_link (t, i)) ≡ (op_of t.kind, fits.index_fits i)
link_is t i = fold-roll-RawIndexLink Bool (Op × Bool) fits.index_fits_step fits.index_link_step (record { op = op_of t.kind; value = i.tree })

link_weighs : (t : Token) (i : RawIndex) → link_weight (tree.index_link (t, i)) ≡ 1 + weights.index_weight i
link_weighs t i = fold-roll-RawIndexLink ℕ ℕ weights.tree_weight_step weights.index_link_step (record { op = op_of t.kind; value = i.tree })

-- an index's test and weight
abbrev pub IndexFit : ℕ → RawIndex → Type 0
IndexFit = Fit fits.index_fits weights.index_weight

-- ---- rule by rule

module _ (text : List ℕ) where
  index_of : (R : Phrase Token RawIndex) → Gives text R IndexFit → Gives text (IndexOf R) IndexFit
  index_of R g = ranked text tree.index_link tree.index_chain 4 fits.index_fits weights.index_weight link_pair link_weight link_is link_weighs (λ i. refl) chain_fits chain_weighs 2 (omega arith) R g

  index_leaf : Gives text IndexLeaf IndexFit
  index_leaf word i s (inl (t, (one, h), is)) =
      let spelled = subst (Spelled text) one s in
      (ap fits.index_fits is ∙ number_fits (number_of t.kind) ∙ number_spelled text t spelled.0 h, omega (arith, ap weights.index_weight is, number_weighs (number_of t.kind), ap length one))
  index_leaf word i s (inr (t, (one, h), is)) =
      (ap fits.index_fits is ∙ name_fits (span t), omega (arith, ap weights.index_weight is, name_weighs (span t), ap length one))

  index_unary : (d : ℕ) → Gives text (IndexUnary d) IndexFit
  index_unary zero word i s r = index_leaf word i s r
  index_unary (suc d) word i s (inr r) = index_leaf word i s r
  index_unary (suc d) word i s (inl (inl ((t, x), (u, v, w, (one, h), r), is))) =
      let p = two_parts text word u v w s in
      let f = index_unary d v x p.1 r in
      (ap fits.index_fits is ∙ minus_fits x.tree ∙ f.0, omega (arith, ap weights.index_weight is, minus_weighs x.tree, f.1, p.2, ap length one))
  index_unary (suc d) word i s (inl (inr ((t, (x, t')), (u, v, w, (one, h), (u', v', w', r, close)), is))) =
      let p = two_parts text word u v w s in
      let q = two_parts text v u' v' w' p.1 in
      let f = index_of (IndexUnary d) (index_unary d) u' x q.0 r in
      (ap fits.index_fits is ∙ f.0, omega (arith, ap weights.index_weight is, f.1, p.2, q.2))

  pub index_read : (d : ℕ) → Gives text (Index d) IndexFit
  index_read d = index_of (IndexUnary d) (index_unary d)

  -- the indices of a place fit, and weigh at most this
  abbrev IndicesFit : ℕ → List RawIndex → Type 0
  IndicesFit n is = (all (map fits.index_fits is) ≡ true) × (sum (map weights.index_weight is) ≤ n)

  bracket_read : (d : ℕ) → Gives text (Bracket tree.inside (Index d)) IndexFit
  bracket_read d word i s ((t, (x, t')), (u, v, w, begin, (u', v', w', r, close)), is) =
      let p = two_parts text word u v w s in
      let q = two_parts text v u' v' w' p.1 in
      let f = index_read d u' x q.0 r in
      (ap fits.index_fits is ∙ f.0, omega (arith, ap weights.index_weight is, f.1, p.2, q.2))

  add_index : (m n : ℕ) (i : RawIndex) (is : List RawIndex) → IndexFit m i → IndicesFit n is → IndicesFit (m + n) (i ∷ is)
  add_index m n i is f g = (ap (λ z. z && all (map fits.index_fits is)) f.0 ∙ g.0, omega (arith, sum_cons (weights.index_weight i) (map weights.index_weight is), f.1, g.1))

  more_room : (m n : ℕ) (is js : List RawIndex) → m ≤ n → js ≡ is → IndicesFit m is → IndicesFit n js
  more_room m n is js l e f = (ap (λ z. all (map fits.index_fits z)) e ∙ f.0, omega (arith, ap (λ z. sum (map weights.index_weight z)) e, l, f.1))

  no_index : IndicesFit 0 []
  no_index = (refl, omega arith)

  brackets_read : (d : ℕ) → Gives text (Brackets (Bracket tree.inside (Index d))) IndicesFit
  brackets_read d word is s (None, e, made) = more_room 0 (length word) [] is (omega arith) made no_index
  brackets_read d word is s (Some (a, None), (u, v, w, r, e), made) =
      let p = two_parts text word u v w s in
      more_room (length u + 0) (length word) (a ∷ []) is (omega (arith, p.2)) made (add_index (length u) 0 a [] (bracket_read d u a p.0 r) no_index)
  brackets_read d word is s (Some (a, Some b), (u, v, w, r, q), made) =
      let p = two_parts text word u v w s in
      more_room (length u + (length v + 0)) (length word) (a ∷ b ∷ []) is (omega (arith, p.2)) made
      (add_index (length u) (length v + 0) a (b ∷ []) (bracket_read d u a p.0 r) (add_index (length v) 0 b [] (bracket_read d v b p.1 q) no_index))

  pub place_read : (d : ℕ) → Gives text (Place d) (Fit fits.place_fits weights.place_weight)
  place_read d word place s ((t, is), (u, v, w, (one, h), r), made) =
      let p = two_parts text word u v w s in
      let f = brackets_read d v is p.1 r in
      (ap fits.place_fits made ∙ f.0, omega (arith, ap weights.place_weight made, f.1, p.2, ap length one))
