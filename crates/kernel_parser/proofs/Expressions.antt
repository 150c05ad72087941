-- What the definitions say of an index and of an expression of each kind.
use Rattle.std.proofs.Common.{◌≡◌, ◌++◌, [], ℕ, ℤ, List, map, sym, ap, ◌∙◌}
use Rattle.comp_graph.specs.declared.operation.Op.{Op}
use Rattle.kernel_ast.specs.Walk.{joined}
use Rattle.kernel_ast.specs.declared.tree.IndexTree.{IndexTree}
use Rattle.kernel_ast.specs.declared.tree.IndexTree.TheVariants as index
use Rattle.kernel_ast.specs.declared.tree.IndexLink.{IndexLink, roll-IndexLink}
use Rattle.kernel_ast.specs.declared.tree.Expr.{Expr}
use Rattle.kernel_ast.specs.declared.tree.Expr.TheVariants as expr
use Rattle.kernel_ast.specs.declared.tree.Link.{Link, roll-Link}
use Rattle.kernel_syntax.specs.declared.raw.Span.{Span}
use Rattle.kernel_syntax.specs.declared.raw.RawIndexTree.{RawIndexTree}
use Rattle.kernel_syntax.specs.declared.raw.RawIndexTree.TheOpen as open_index
use Rattle.kernel_syntax.specs.declared.raw.RawIndexTree.TheVariants as raw_index
use Rattle.kernel_syntax.specs.declared.raw.RawIndexTree.TheFolds.{fold-roll-RawIndexTree, fold-roll-RawIndexLink, fold_out-RawIndexLink}
use Rattle.kernel_syntax.specs.declared.raw.RawIndexLink.{RawIndexLink, roll-RawIndexLink, out-RawIndexLink}
use Rattle.kernel_syntax.specs.declared.raw.RawPlace.{RawPlace}
use Rattle.kernel_syntax.specs.declared.raw.RawExpr.{RawExpr}
use Rattle.kernel_syntax.specs.declared.raw.RawExpr.TheOpen as open_expr
use Rattle.kernel_syntax.specs.declared.raw.RawExpr.TheVariants as raw
use Rattle.kernel_syntax.specs.declared.raw.RawExpr.TheFolds.{fold-roll-RawExpr, fold-roll-RawLink, fold_out-RawLink}
use Rattle.kernel_syntax.specs.declared.raw.RawLink.{RawLink, roll-RawLink, out-RawLink}
use Rattle.kernel_parser.specs.NameFaults.{NameFault}
use Rattle.kernel_parser.specs.Names.{Known, name_meaning, index_name_faults, index_tree_faults, index_link_faults, place_faults, expr_faults, link_faults}
use Rattle.kernel_parser.specs.Names as faults
use Rattle.kernel_parser.specs.Resolved.{turn_of, index_tree, index_link, place_of, expr_of, link_of}
use Rattle.kernel_parser.specs.Resolved as tree

module _ (known : Known) where
  -- ---- the faults of an index

  pub index_number_has_faults : (n : ℤ) → index_tree_faults known (raw_index.Number n) ≡ []
  index_number_has_faults n = ap (index_tree_faults known) (sym (raw_index.rolls-Number n)) ∙ fold-roll-RawIndexTree (List NameFault) (List NameFault) (faults.index_faults_step known) faults.index_link_step (open_index.Number n)

  pub index_name_has_faults : (s : Span) → index_tree_faults known (raw_index.Name s) ≡ index_name_faults (name_meaning known s) s.from
  index_name_has_faults s = ap (index_tree_faults known) (sym (raw_index.rolls-Name s)) ∙ fold-roll-RawIndexTree (List NameFault) (List NameFault) (faults.index_faults_step known) faults.index_link_step (open_index.Name s)

  pub index_minus_has_faults : (t : RawIndexTree) → index_tree_faults known (raw_index.Minus t) ≡ index_tree_faults known t
  index_minus_has_faults t = ap (index_tree_faults known) (sym (raw_index.rolls-Minus t)) ∙ fold-roll-RawIndexTree (List NameFault) (List NameFault) (faults.index_faults_step known) faults.index_link_step (open_index.Minus t)

  pub index_chain_has_faults : (t : RawIndexTree) (ls : List RawIndexLink) → index_tree_faults known (raw_index.Chain t ls) ≡ index_tree_faults known t ++ joined (map (index_link_faults known) ls)
  index_chain_has_faults t ls = ap (index_tree_faults known) (sym (raw_index.rolls-Chain t ls)) ∙ fold-roll-RawIndexTree (List NameFault) (List NameFault) (faults.index_faults_step known) faults.index_link_step (open_index.Chain t ls)

  pub index_link_has_faults : (op : Op) (t : RawIndexTree) → index_link_faults known (roll-RawIndexLink (record { op = op; value = t })) ≡ index_tree_faults known t
  index_link_has_faults op t = fold-roll-RawIndexLink (List NameFault) (List NameFault) (faults.index_faults_step known) faults.index_link_step (record { op = op; value = t })

  pub index_operand_has_faults : (l : RawIndexLink) → index_link_faults known l ≡ index_tree_faults known (out-RawIndexLink l).value
  index_operand_has_faults l = fold_out-RawIndexLink (List NameFault) (List NameFault) (faults.index_faults_step known) faults.index_link_step l

  -- ---- the faults of an expression

  pub number_has_faults : (n : ℤ) → expr_faults known (raw.Number n) ≡ []
  number_has_faults n = ap (expr_faults known) (sym (raw.rolls-Number n)) ∙ fold-roll-RawExpr (List NameFault) (List NameFault) (faults.expr_faults_step known) faults.link_step (open_expr.Number n)

  pub place_has_faults : (p : RawPlace) → expr_faults known (raw.Place p) ≡ place_faults known p
  place_has_faults p = ap (expr_faults known) (sym (raw.rolls-Place p)) ∙ fold-roll-RawExpr (List NameFault) (List NameFault) (faults.expr_faults_step known) faults.link_step (open_expr.Place p)

  pub minus_has_faults : (e : RawExpr) (at : ℕ) → expr_faults known (raw.Minus e at) ≡ expr_faults known e
  minus_has_faults e at = ap (expr_faults known) (sym (raw.rolls-Minus e at)) ∙ fold-roll-RawExpr (List NameFault) (List NameFault) (faults.expr_faults_step known) faults.link_step (open_expr.Minus e at)

  pub chain_has_faults : (e : RawExpr) (ls : List RawLink) → expr_faults known (raw.Chain e ls) ≡ expr_faults known e ++ joined (map (link_faults known) ls)
  chain_has_faults e ls = ap (expr_faults known) (sym (raw.rolls-Chain e ls)) ∙ fold-roll-RawExpr (List NameFault) (List NameFault) (faults.expr_faults_step known) faults.link_step (open_expr.Chain e ls)

  pub call_has_faults : (op : Op) (args : List RawExpr) (at : ℕ) → expr_faults known (raw.Call op args at) ≡ joined (map (expr_faults known) args)
  call_has_faults op args at = ap (expr_faults known) (sym (raw.rolls-Call op args at)) ∙ fold-roll-RawExpr (List NameFault) (List NameFault) (faults.expr_faults_step known) faults.link_step (open_expr.Call op args at)

  pub link_has_faults : (op : Op) (e : RawExpr) (at : ℕ) → link_faults known (roll-RawLink (record { op = op; value = e; at = at })) ≡ expr_faults known e
  link_has_faults op e at = fold-roll-RawLink (List NameFault) (List NameFault) (faults.expr_faults_step known) faults.link_step (record { op = op; value = e; at = at })

  pub operand_has_faults : (l : RawLink) → link_faults known l ≡ expr_faults known (out-RawLink l).value
  operand_has_faults l = fold_out-RawLink (List NameFault) (List NameFault) (faults.expr_faults_step known) faults.link_step l

  -- ---- the tree of an index

  pub index_number_gives : (n : ℤ) → index_tree known (raw_index.Number n) ≡ index.Number n
  index_number_gives n = ap (index_tree known) (sym (raw_index.rolls-Number n)) ∙ fold-roll-RawIndexTree IndexTree IndexLink (tree.index_tree_step known) tree.index_link_step (open_index.Number n)

  pub index_name_gives : (s : Span) → index_tree known (raw_index.Name s) ≡ turn_of (name_meaning known s)
  index_name_gives s = ap (index_tree known) (sym (raw_index.rolls-Name s)) ∙ fold-roll-RawIndexTree IndexTree IndexLink (tree.index_tree_step known) tree.index_link_step (open_index.Name s)

  pub index_minus_gives : (t : RawIndexTree) → index_tree known (raw_index.Minus t) ≡ index.Minus (index_tree known t)
  index_minus_gives t = ap (index_tree known) (sym (raw_index.rolls-Minus t)) ∙ fold-roll-RawIndexTree IndexTree IndexLink (tree.index_tree_step known) tree.index_link_step (open_index.Minus t)

  pub index_chain_gives : (t : RawIndexTree) (ls : List RawIndexLink) → index_tree known (raw_index.Chain t ls) ≡ index.Chain (index_tree known t) (map (index_link known) ls)
  index_chain_gives t ls = ap (index_tree known) (sym (raw_index.rolls-Chain t ls)) ∙ fold-roll-RawIndexTree IndexTree IndexLink (tree.index_tree_step known) tree.index_link_step (open_index.Chain t ls)

  pub index_link_gives : (l : RawIndexLink) → index_link known l ≡ roll-IndexLink (record { op = (out-RawIndexLink l).op; value = index_tree known (out-RawIndexLink l).value })
  index_link_gives l = fold_out-RawIndexLink IndexTree IndexLink (tree.index_tree_step known) tree.index_link_step l

  -- ---- the tree of an expression

  pub number_gives : (n : ℤ) → expr_of known (raw.Number n) ≡ expr.Number n
  number_gives n = ap (expr_of known) (sym (raw.rolls-Number n)) ∙ fold-roll-RawExpr Expr Link (tree.expr_step known) tree.link_step (open_expr.Number n)

  pub place_gives : (p : RawPlace) → expr_of known (raw.Place p) ≡ place_of known p
  place_gives p = ap (expr_of known) (sym (raw.rolls-Place p)) ∙ fold-roll-RawExpr Expr Link (tree.expr_step known) tree.link_step (open_expr.Place p)

  pub minus_gives : (e : RawExpr) (at : ℕ) → expr_of known (raw.Minus e at) ≡ expr.Minus (expr_of known e) at
  minus_gives e at = ap (expr_of known) (sym (raw.rolls-Minus e at)) ∙ fold-roll-RawExpr Expr Link (tree.expr_step known) tree.link_step (open_expr.Minus e at)

  pub chain_gives : (e : RawExpr) (ls : List RawLink) → expr_of known (raw.Chain e ls) ≡ expr.Chain (expr_of known e) (map (link_of known) ls)
  chain_gives e ls = ap (expr_of known) (sym (raw.rolls-Chain e ls)) ∙ fold-roll-RawExpr Expr Link (tree.expr_step known) tree.link_step (open_expr.Chain e ls)

  pub call_gives : (op : Op) (args : List RawExpr) (at : ℕ) → expr_of known (raw.Call op args at) ≡ expr.Call op (map (expr_of known) args) at
  call_gives op args at = ap (expr_of known) (sym (raw.rolls-Call op args at)) ∙ fold-roll-RawExpr Expr Link (tree.expr_step known) tree.link_step (open_expr.Call op args at)

  pub link_gives : (l : RawLink) → link_of known l ≡ roll-Link (record { op = (out-RawLink l).op; value = expr_of known (out-RawLink l).value; at = (out-RawLink l).at })
  link_gives l = fold_out-RawLink Expr Link (tree.expr_step known) tree.link_step l
