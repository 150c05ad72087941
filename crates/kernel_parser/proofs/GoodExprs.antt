-- The expressions of a tree that fits and has no fault are well formed, and weigh what they weigh as they are written.
use Rattle.std.proofs.Common.{◌≡◌, ◌+◌, ◌&&◌, ◌==◌, ◌++◌, ◌∷◌, [], ℕ, Bool, true, List, map, sum, length, Option, Some, None, nat_lt, refl, sym, ap, ◌∙◌, subst}
use Rattle.std.specs.Prelude.{slice_get}
use Rattle.std.proofs.lemmas.List.{length-map}
use Rattle.comp_graph.specs.declared.operation.Op.{Op}
use Rattle.comp_graph.specs.Operations.{arity_of}
use Rattle.kernel_ast.specs.KernelParts.{Declared}
use Rattle.kernel_ast.specs.declared.tree.Place.{Place}
use Rattle.kernel_ast.specs.declared.tree.Expr.{Expr, roll-Expr}
use Rattle.kernel_ast.specs.declared.tree.Expr.TheOpen as open_expr
use Rattle.kernel_ast.specs.declared.tree.Expr.TheVariants as expr
use Rattle.kernel_ast.specs.declared.tree.Expr.TheFolds.{fold-Link, fold-roll-Expr, fold-roll-Link, map-Expr}
use Rattle.kernel_ast.specs.declared.tree.Link.{Link}
use Rattle.kernel_ast.specs.WellFormed as good
use Rattle.kernel_ast.specs.Weights as weights
use Rattle.kernel_syntax.specs.declared.raw.RawIndex.{RawIndex}
use Rattle.kernel_syntax.specs.declared.raw.RawPlace.{RawPlace}
use Rattle.kernel_syntax.specs.declared.raw.RawExpr.{RawExpr, roll-RawExpr}
use Rattle.kernel_syntax.specs.declared.raw.RawExpr.TheOpen.{RawExpr-F, RawLink-F, Number, Minus, Chain, Call}
use Rattle.kernel_syntax.specs.declared.raw.RawExpr.TheOpen as open_raw
use Rattle.kernel_syntax.specs.declared.raw.RawExpr.TheFolds.{fold-RawLink, fold-roll-RawExpr, fold-roll-RawLink, ind-RawExpr, map-RawExpr, map-RawLink}
use Rattle.kernel_syntax.specs.declared.raw.RawLink.{RawLink, roll-RawLink}
use Rattle.kernel_parser.specs.Names as names
use Rattle.kernel_parser.specs.declared.names.fault.NameRule.TheVariants as faults
use Rattle.kernel_ast.specs.Walk.{joined}
use Rattle.kernel_parser.specs.NameFaults.{NameFault, unless}
use Rattle.kernel_parser.specs.Names.{Known}
use Rattle.kernel_parser.specs.Resolved as tree
use Rattle.kernel_parser.specs.RawFits as fits
use Rattle.kernel_parser.specs.RawWeights as raw_weights
use Rattle.kernel_parser.proofs.Lists.{and_left, and_right, first_none, second_none, sum_same, position_within, no_elements}
use Rattle.kernel_parser.proofs.Faults.{passed}
use Rattle.kernel_parser.proofs.GoodIndices.{indices_hold}

-- an operator, and whether its right operand is well formed
abbrev pub link_fits : List Declared → ℕ → Link → Op × Bool
link_fits decls n = fold-Link Bool (Op × Bool) (good.expr_fits_step decls n) good.link_step

expr_fits_rolled : (decls : List Declared) (n : ℕ) (t : open_expr.Expr-F Expr Link)
    → good.expr_fits decls n (roll-Expr t) ≡ good.expr_fits_step decls n (map-Expr Expr Link Bool (Op × Bool) (good.expr_fits decls n) (link_fits decls n) t)
expr_fits_rolled decls n t = fold-roll-Expr Bool (Op × Bool) (good.expr_fits_step decls n) good.link_step t

expr_weighs : (t : open_expr.Expr-F Expr Link) → weights.expr_weight (roll-Expr t) ≡ weights.expr_weight_step (map-Expr Expr Link ℕ ℕ weights.expr_weight weights.link_weight t)
expr_weighs t = fold-roll-Expr ℕ ℕ weights.expr_weight_step weights.link_step t

module _ (known : Known) where
  abbrev n : ℕ
  n = length known.loops

  abbrev fits_here : Expr → Bool
  fits_here = good.expr_fits known.decls n

  -- a place that is read
  read_holds : (o d : Option ℕ) (at : ℕ) (is : List RawIndex) → ((k : ℕ) → o ≡ Some k → nat_lt k n ≡ true)
      → good.all (map fits.index_fits is) ≡ true
      → names.read_faults known.decls (names.name_meaning_by o d) (length is) at ++ names.indices_faults known is ≡ []
      → (fits_here (tree.read_of (names.name_meaning_by o d) (map (tree.index_of known) is) at) ≡ true)
      × (weights.expr_weight (tree.read_of (names.name_meaning_by o d) (map (tree.index_of known) is) at) ≡ 1 + sum (map raw_weights.index_weight is))
  read_holds (Some k) d at is h p q =
      let none : is ≡ [] = no_elements is (passed (length is == 0) faults.Indices at (first_none _ (names.indices_faults known is) q)) in (
        ap fits_here (sym (expr.rolls-Turn k)) ∙ expr_fits_rolled known.decls n (open_expr.Turn k) ∙ h k refl,
        ap weights.expr_weight (sym (expr.rolls-Turn k)) ∙ expr_weighs (open_expr.Turn k) ∙ ap (λ z. 1 + sum (map raw_weights.index_weight z)) (sym none),
      )
  read_holds None (Some d) at is h p q =
      let all = indices_hold known is p (second_none (unless (good.has_sizes (length is) (slice_get known.decls d)) faults.Indices at) (names.indices_faults known is) q) in
      let sized = passed (good.has_sizes (length is) (slice_get known.decls d)) faults.Indices at (first_none _ (names.indices_faults known is) q) in
      let place : Place = record { decl = d; indices = map (tree.index_of known) is; at = at } in (
        ap fits_here (sym (expr.rolls-Cell place)) ∙ expr_fits_rolled known.decls n (open_expr.Cell place)
            ∙ ap (λ k. good.has_sizes k (slice_get known.decls d) && good.all (map (good.index_fits n) (map (tree.index_of known) is))) (length-map is (tree.index_of known))
            ∙ ap (λ b. b && good.all (map (good.index_fits n) (map (tree.index_of known) is))) sized ∙ all.0,
        ap weights.expr_weight (sym (expr.rolls-Cell place)) ∙ expr_weighs (open_expr.Cell place) ∙ ap (λ w. 1 + w) all.1,
      )
  read_holds None None at is h p q = absurd (cc)

  -- a place that is assigned to
  written_holds : (o d : Option ℕ) (at : ℕ) (is : List RawIndex)
      → good.all (map fits.index_fits is) ≡ true
      → names.target_faults known.decls (names.name_meaning_by o d) (length is) at ++ names.indices_faults known is ≡ []
      → (good.target_fits known.decls n (record { decl = tree.decl_of (names.name_meaning_by o d); indices = map (tree.index_of known) is; at = at }) ≡ true)
      × (weights.place_weight (record { decl = tree.decl_of (names.name_meaning_by o d); indices = map (tree.index_of known) is; at = at }) ≡ 1 + sum (map raw_weights.index_weight is))
  written_holds (Some k) d at is p q = absurd (cc)
  written_holds None (Some d) at is p q =
      let writable = unless (good.is_writable (slice_get known.decls d)) faults.NotWritable at in
      let sizes = unless (good.has_sizes (length is) (slice_get known.decls d)) faults.Indices at in
      let all = indices_hold known is p (second_none (writable ++ sizes) (names.indices_faults known is) q) in
      let both = first_none (writable ++ sizes) (names.indices_faults known is) q in
      let sized = passed (good.has_sizes (length is) (slice_get known.decls d)) faults.Indices at (second_none writable sizes both) in
      let free = passed (good.is_writable (slice_get known.decls d)) faults.NotWritable at (first_none writable sizes both) in (
        ap (λ b. b && (good.has_sizes (length (map (tree.index_of known) is)) (slice_get known.decls d) && good.all (map (good.index_fits n) (map (tree.index_of known) is)))) free
            ∙ ap (λ k. good.has_sizes k (slice_get known.decls d) && good.all (map (good.index_fits n) (map (tree.index_of known) is))) (length-map is (tree.index_of known))
            ∙ ap (λ b. b && good.all (map (good.index_fits n) (map (tree.index_of known) is))) sized ∙ all.0,
        ap (λ w. 1 + w) all.1,
      )
  written_holds None None at is p q = absurd (cc)

  pub target_holds : (p : RawPlace) → fits.place_fits p ≡ true → names.target_place_faults known p ≡ []
      → (good.target_fits known.decls n (tree.target_of known p) ≡ true) × (weights.place_weight (tree.target_of known p) ≡ raw_weights.place_weight p)
  target_holds p f q = written_holds (names.open_at known.loops (names.word known.text p.name)) (names.declared_at known.decls (names.word known.text p.name)) p.name.from p.indices f q

  abbrev raw_link : RawLink → Op × Bool
  raw_link = fold-RawLink Bool (Op × Bool) fits.expr_fits_step fits.link_step

  abbrev raw_link_weight : RawLink → ℕ
  raw_link_weight = fold-RawLink ℕ ℕ raw_weights.expr_weight_step raw_weights.link_step

  abbrev Holds : RawExpr → Type 0
  Holds r = fits.expr_fits r ≡ true → names.expr_faults known r ≡ [] → (fits_here (tree.expr_of known r) ≡ true) × (weights.expr_weight (tree.expr_of known r) ≡ raw_weights.expr_weight r)

  record LinkHolds (l : RawLink) : Type 0 where
    op : (link_fits known.decls n (tree.link_of known l)).0 ≡ (raw_link l).0
    value : (raw_link l).1 ≡ true → names.link_faults known l ≡ [] → ((link_fits known.decls n (tree.link_of known l)).1 ≡ true) × (weights.link_weight (tree.link_of known l) ≡ raw_link_weight l)

  opened : (x : RawExpr-F RawExpr RawLink)
      → (fits.expr_fits_step (map-RawExpr RawExpr RawLink Bool (Op × Bool) fits.expr_fits raw_link x) ≡ true
      → names.expr_faults_step known (map-RawExpr RawExpr RawLink (List NameFault) (List NameFault) (names.expr_faults known) (names.link_faults known) x) ≡ []
      → (fits_here (tree.expr_step known (map-RawExpr RawExpr RawLink Expr Link (tree.expr_of known) (tree.link_of known) x)) ≡ true)
      × (weights.expr_weight (tree.expr_step known (map-RawExpr RawExpr RawLink Expr Link (tree.expr_of known) (tree.link_of known) x)) ≡ raw_weights.expr_weight_step (map-RawExpr RawExpr RawLink ℕ ℕ raw_weights.expr_weight raw_link_weight x)))
      → Holds (roll-RawExpr x)
  opened x h p q =
      let e = fold-roll-RawExpr Expr Link (tree.expr_step known) tree.link_step x in
      let r = h (sym (fold-roll-RawExpr Bool (Op × Bool) fits.expr_fits_step fits.link_step x) ∙ p)
      (sym (fold-roll-RawExpr (List NameFault) (List NameFault) (names.expr_faults_step known) names.link_step x) ∙ q) in
      (ap fits_here e ∙ r.0, ap weights.expr_weight e ∙ r.1 ∙ sym (fold-roll-RawExpr ℕ ℕ raw_weights.expr_weight_step raw_weights.link_step x))

  links_hold : (rest : List ((l : RawLink) × LinkHolds l))
      → good.all (map (λ l. l.1) (map raw_link (map (λ l. l.0) rest))) ≡ true → joined (map (names.link_faults known) (map (λ l. l.0) rest)) ≡ []
      → (map (λ l. l.0) (map (link_fits known.decls n) (map (tree.link_of known) (map (λ l. l.0) rest))) ≡ map (λ l. l.0) (map raw_link (map (λ l. l.0) rest)))
      × (good.all (map (λ l. l.1) (map (link_fits known.decls n) (map (tree.link_of known) (map (λ l. l.0) rest)))) ≡ true)
      × (sum (map weights.link_weight (map (tree.link_of known) (map (λ l. l.0) rest))) ≡ sum (map raw_link_weight (map (λ l. l.0) rest)))
  links_hold [] p q = (refl, refl, refl)
  links_hold (l ∷ more) p q =
      let here = l.1.value (and_left _ _ p) (first_none (names.link_faults known l.0) _ q) in
      let there = links_hold more (and_right _ _ p) (second_none (names.link_faults known l.0) _ q) in
      let others = map (link_fits known.decls n) (map (tree.link_of known) (map (λ l. l.0) more)) in (
        ap (λ o. o ∷ map (λ l. l.0) others) l.1.op ∙ ap (λ os. (raw_link l.0).0 ∷ os) there.0,
        ap (λ b. b && good.all (map (λ l. l.1) others)) here.0 ∙ there.1,
        sum_same _ _ (map weights.link_weight (map (tree.link_of known) (map (λ l. l.0) more))) (map raw_link_weight (map (λ l. l.0) more)) here.1 there.2,
      )

  arguments_hold : (args : List ((e : RawExpr) × Holds e))
      → good.all (map fits.expr_fits (map (λ e. e.0) args)) ≡ true → joined (map (names.expr_faults known) (map (λ e. e.0) args)) ≡ []
      → (good.all (map fits_here (map (tree.expr_of known) (map (λ e. e.0) args))) ≡ true)
      × (sum (map weights.expr_weight (map (tree.expr_of known) (map (λ e. e.0) args))) ≡ sum (map raw_weights.expr_weight (map (λ e. e.0) args)))
  arguments_hold [] p q = (refl, refl)
  arguments_hold (a ∷ more) p q =
      let here = a.1 (and_left _ _ p) (first_none (names.expr_faults known a.0) _ q) in
      let there = arguments_hold more (and_right _ _ p) (second_none (names.expr_faults known a.0) _ q) in (
        ap (λ b. b && good.all (map fits_here (map (tree.expr_of known) (map (λ e. e.0) more)))) here.0 ∙ there.0,
        sum_same _ _ (map weights.expr_weight (map (tree.expr_of known) (map (λ e. e.0) more))) (map raw_weights.expr_weight (map (λ e. e.0) more)) here.1 there.1,
      )

  layer_parts : (y : RawExpr-F ((r : RawExpr) × Holds r) ((l : RawLink) × LinkHolds l))
      → Holds (roll-RawExpr (map-RawExpr ((r : RawExpr) × Holds r) ((l : RawLink) × LinkHolds l) RawExpr RawLink (λ e. e.0) (λ l. l.0) y))
  layer_parts (Number z) =
      opened (Number z) (λ p q. (ap fits_here (sym (expr.rolls-Number z)) ∙ expr_fits_rolled known.decls n (open_expr.Number z) ∙ p, ap weights.expr_weight (sym (expr.rolls-Number z)) ∙ expr_weighs (open_expr.Number z)))
  layer_parts (open_raw.Place p) =
      opened (open_raw.Place p) (λ f q. read_holds (names.open_at known.loops (names.word known.text p.name)) (names.declared_at known.decls (names.word known.text p.name)) p.name.from p.indices (λ k e. position_within _ known.loops k e) f q)
  layer_parts (Minus value at) =
      opened (Minus value.0 at) (λ p q.
      let r = value.1 p q in
      let t = tree.expr_of known value.0 in
      (ap fits_here (sym (expr.rolls-Minus t at)) ∙ expr_fits_rolled known.decls n (open_expr.Minus t at) ∙ r.0, ap weights.expr_weight (sym (expr.rolls-Minus t at)) ∙ expr_weighs (open_expr.Minus t at) ∙ ap (λ w. 1 + w) r.1))
  layer_parts (Chain left rest) =
      opened (Chain left.0 (map (λ l. l.0) rest)) (λ p q.
      let ls = map (λ l. l.0) rest in
      let t = tree.expr_of known left.0 in
      let us = map (tree.link_of known) ls in
      let a = left.1 (and_left _ _ p) (first_none (names.expr_faults known left.0) _ q) in
      let ops = and_left (good.are_operators (map (λ l. l.0) (map raw_link ls))) _ (and_right (fits.expr_fits left.0) _ p) in
      let b = links_hold rest (and_right (good.are_operators (map (λ l. l.0) (map raw_link ls))) _ (and_right (fits.expr_fits left.0) _ p)) (second_none (names.expr_faults known left.0) _ q) in (
        ap fits_here (sym (expr.rolls-Chain t us)) ∙ expr_fits_rolled known.decls n (open_expr.Chain t us)
            ∙ ap (λ z. z && (good.are_operators (map (λ l. l.0) (map (link_fits known.decls n) us)) && good.all (map (λ l. l.1) (map (link_fits known.decls n) us)))) a.0
            ∙ ap (λ os. good.are_operators os && good.all (map (λ l. l.1) (map (link_fits known.decls n) us))) b.0
            ∙ ap (λ z. z && good.all (map (λ l. l.1) (map (link_fits known.decls n) us))) ops ∙ b.1,
        ap weights.expr_weight (sym (expr.rolls-Chain t us)) ∙ expr_weighs (open_expr.Chain t us)
            ∙ ap (λ w. w + sum (map weights.link_weight us)) a.1 ∙ ap (λ w. raw_weights.expr_weight left.0 + w) b.2,
      ))
  layer_parts (Call op args at) =
      opened (Call op (map (λ e. e.0) args) at) (λ p q.
      let rs = map (λ e. e.0) args in
      let us = map (tree.expr_of known) rs in
      let is_one = and_left (good.is_function op) _ p in
      let count = and_left (length (map fits.expr_fits rs) == arity_of op) _ (and_right (good.is_function op) _ p) in
      let b = arguments_hold args (and_right (length (map fits.expr_fits rs) == arity_of op) _ (and_right (good.is_function op) _ p)) q in
      let same : length (map fits_here us) ≡ length (map fits.expr_fits rs) = length-map us fits_here ∙ length-map rs (tree.expr_of known) ∙ sym (length-map rs fits.expr_fits) in (
        ap fits_here (sym (expr.rolls-Call op us at)) ∙ expr_fits_rolled known.decls n (open_expr.Call op us at)
            ∙ ap (λ z. z && ((length (map fits_here us) == arity_of op) && good.all (map fits_here us))) is_one
            ∙ ap (λ k. (k == arity_of op) && good.all (map fits_here us)) same
            ∙ ap (λ z. z && good.all (map fits_here us)) count ∙ b.0,
        ap weights.expr_weight (sym (expr.rolls-Call op us at)) ∙ expr_weighs (open_expr.Call op us at) ∙ ap (λ w. 1 + w) b.1,
      ))

  layer : (x : RawExpr-F RawExpr RawLink) (y : RawExpr-F ((r : RawExpr) × Holds r) ((l : RawLink) × LinkHolds l))
      → map-RawExpr ((r : RawExpr) × Holds r) ((l : RawLink) × LinkHolds l) RawExpr RawLink (λ e. e.0) (λ l. l.0) y ≡ x → Holds (roll-RawExpr x)
  layer x y is = subst (λ z. Holds (roll-RawExpr z)) is (layer_parts y)

  link_opened : (x : RawLink-F RawExpr RawLink) → Holds x.value → LinkHolds (roll-RawLink x)
  link_opened x h =
      let u : open_expr.Link-F Expr Link = record { op = x.op; value = tree.expr_of known x.value; at = x.at } in
      let t = fold-roll-RawLink Expr Link (tree.expr_step known) tree.link_step x in
      let f : link_fits known.decls n (tree.link_of known (roll-RawLink x)) ≡ (x.op, fits_here (tree.expr_of known x.value))
      = ap (link_fits known.decls n) t ∙ fold-roll-Link Bool (Op × Bool) (good.expr_fits_step known.decls n) good.link_step u in
      let g : raw_link (roll-RawLink x) ≡ (x.op, fits.expr_fits x.value) = fold-roll-RawLink Bool (Op × Bool) fits.expr_fits_step fits.link_step x in
      let w : weights.link_weight (tree.link_of known (roll-RawLink x)) ≡ 1 + weights.expr_weight (tree.expr_of known x.value)
      = ap weights.link_weight t ∙ fold-roll-Link ℕ ℕ weights.expr_weight_step weights.link_step u in
      let v : raw_link_weight (roll-RawLink x) ≡ 1 + raw_weights.expr_weight x.value = fold-roll-RawLink ℕ ℕ raw_weights.expr_weight_step raw_weights.link_step x in
      let z : names.link_faults known (roll-RawLink x) ≡ names.expr_faults known x.value
      = fold-roll-RawLink (List NameFault) (List NameFault) (names.expr_faults_step known) names.link_step x in
      record {
        op = ap (λ r. r.0) f ∙ sym (ap (λ r. r.0) g);
        value = λ p q.
            let r = h (sym (ap (λ r. r.1) g) ∙ p) (sym z ∙ q) in
            (ap (λ r. r.1) f ∙ r.0, w ∙ ap (λ k. 1 + k) r.1 ∙ sym v);
      }

  link_layer : (x : RawLink-F RawExpr RawLink) (y : RawLink-F ((r : RawExpr) × Holds r) ((l : RawLink) × LinkHolds l))
      → map-RawLink ((r : RawExpr) × Holds r) ((l : RawLink) × LinkHolds l) RawExpr RawLink (λ e. e.0) (λ l. l.0) y ≡ x → LinkHolds (roll-RawLink x)
  link_layer x y is =
      subst (λ z. LinkHolds (roll-RawLink z)) is (link_opened (map-RawLink ((r : RawExpr) × Holds r) ((l : RawLink) × LinkHolds l) RawExpr RawLink (λ e. e.0) (λ l. l.0) y) y.value.1)

  pub expr_holds : (r : RawExpr) → fits.expr_fits r ≡ true → names.expr_faults known r ≡ []
      → (fits_here (tree.expr_of known r) ≡ true) × (weights.expr_weight (tree.expr_of known r) ≡ raw_weights.expr_weight r)
  expr_holds = ind-RawExpr Holds LinkHolds layer link_layer
