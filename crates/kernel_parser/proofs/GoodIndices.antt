-- The indices of a tree that fits and has no fault are well formed, and weigh what they weigh as they are written.
use Rattle.std.proofs.Common.{◌≡◌, ◌+◌, ◌&&◌, ◌∷◌, [], ℕ, Bool, true, List, map, sum, length, Option, Some, None, nat_lt, refl, sym, ap, ◌∙◌, subst}
use Rattle.comp_graph.specs.declared.operation.Op.{Op}
use Rattle.kernel_ast.specs.declared.tree.IndexTree.{IndexTree, fold-IndexTree, roll-IndexTree}
use Rattle.kernel_ast.specs.declared.tree.IndexTree.TheOpen as open_index
use Rattle.kernel_ast.specs.declared.tree.IndexTree.TheVariants as index
use Rattle.kernel_ast.specs.declared.tree.IndexTree.TheFolds.{fold-IndexLink, fold-roll-IndexTree, fold-roll-IndexLink, map-IndexTree}
use Rattle.kernel_ast.specs.declared.tree.IndexLink.{IndexLink}
use Rattle.kernel_ast.specs.WellFormed as good
use Rattle.kernel_ast.specs.Weights as weights
use Rattle.kernel_syntax.specs.declared.raw.RawIndexTree.{RawIndexTree, roll-RawIndexTree}
use Rattle.kernel_syntax.specs.declared.raw.RawIndexTree.TheOpen.{RawIndexTree-F, RawIndexLink-F, Number, Name, Minus, Chain}
use Rattle.kernel_syntax.specs.declared.raw.RawIndexTree.TheFolds.{fold-RawIndexLink, fold-roll-RawIndexTree, fold-roll-RawIndexLink, ind-RawIndexTree, map-RawIndexTree, map-RawIndexLink}
use Rattle.kernel_syntax.specs.declared.raw.RawIndexLink.{RawIndexLink, roll-RawIndexLink}
use Rattle.kernel_syntax.specs.declared.raw.RawIndex.{RawIndex}
use Rattle.kernel_parser.specs.Names as names
use Rattle.kernel_ast.specs.Walk.{joined}
use Rattle.kernel_parser.specs.NameFaults.{NameFault}
use Rattle.kernel_parser.specs.Names.{Known}
use Rattle.kernel_parser.specs.Resolved as tree
use Rattle.kernel_parser.specs.RawFits as fits
use Rattle.kernel_parser.specs.RawWeights as raw_weights
use Rattle.kernel_parser.proofs.Lists.{and_left, and_right, first_none, second_none, sum_same, position_within}

-- an index's tree is well formed in so many loops
abbrev pub tree_fits : ℕ → IndexTree → Bool
tree_fits n = fold-IndexTree Bool (Op × Bool) (good.index_fits_step n) good.index_link_step

-- an operator of an index, and whether its right operand is well formed
abbrev pub link_fits : ℕ → IndexLink → Op × Bool
link_fits n = fold-IndexLink Bool (Op × Bool) (good.index_fits_step n) good.index_link_step

tree_fits_rolled : (n : ℕ) (t : open_index.IndexTree-F IndexTree IndexLink) → tree_fits n (roll-IndexTree t) ≡ good.index_fits_step n (map-IndexTree IndexTree IndexLink Bool (Op × Bool) (tree_fits n) (link_fits n) t)
tree_fits_rolled n t = fold-roll-IndexTree Bool (Op × Bool) (good.index_fits_step n) good.index_link_step t

tree_weighs : (t : open_index.IndexTree-F IndexTree IndexLink) → weights.tree_weight (roll-IndexTree t) ≡ weights.tree_weight_step (map-IndexTree IndexTree IndexLink ℕ ℕ weights.tree_weight weights.index_link_weight t)
tree_weighs t = fold-roll-IndexTree ℕ ℕ weights.tree_weight_step weights.index_link_step t

-- a name that is an open loop
turn_holds : (n : ℕ) (o d : Option ℕ) (at : ℕ) → ((k : ℕ) → o ≡ Some k → nat_lt k n ≡ true) → names.index_name_faults (names.name_meaning_by o d) at ≡ []
    → (tree_fits n (tree.turn_of (names.name_meaning_by o d)) ≡ true) × (weights.tree_weight (tree.turn_of (names.name_meaning_by o d)) ≡ 1)
turn_holds n (Some k) d at h none = (
  ap (tree_fits n) (sym (index.rolls-Turn k)) ∙ tree_fits_rolled n (open_index.Turn k) ∙ h k refl,
  ap weights.tree_weight (sym (index.rolls-Turn k)) ∙ tree_weighs (open_index.Turn k),
)
turn_holds n None (Some d) at h none = absurd (cc)
turn_holds n None None at h none = absurd (cc)

module _ (known : Known) where
  abbrev n : ℕ
  n = length known.loops

  abbrev raw_link : RawIndexLink → Op × Bool
  raw_link = fold-RawIndexLink Bool (Op × Bool) fits.index_fits_step fits.index_link_step

  abbrev raw_link_weight : RawIndexLink → ℕ
  raw_link_weight = fold-RawIndexLink ℕ ℕ raw_weights.tree_weight_step raw_weights.index_link_step

  abbrev Holds : RawIndexTree → Type 0
  Holds r = fits.index_tree_fits r ≡ true → names.index_tree_faults known r ≡ [] → (tree_fits n (tree.index_tree known r) ≡ true) × (weights.tree_weight (tree.index_tree known r) ≡ raw_weights.tree_weight r)

  record LinkHolds (l : RawIndexLink) : Type 0 where
    op : (link_fits n (tree.index_link known l)).0 ≡ (raw_link l).0
    value : (raw_link l).1 ≡ true → names.index_link_faults known l ≡ [] → ((link_fits n (tree.index_link known l)).1 ≡ true) × (weights.index_link_weight (tree.index_link known l) ≡ raw_link_weight l)

  opened : (x : RawIndexTree-F RawIndexTree RawIndexLink)
      → (fits.index_fits_step (map-RawIndexTree RawIndexTree RawIndexLink Bool (Op × Bool) fits.index_tree_fits raw_link x) ≡ true
      → names.index_faults_step known (map-RawIndexTree RawIndexTree RawIndexLink (List NameFault) (List NameFault) (names.index_tree_faults known) (names.index_link_faults known) x) ≡ []
      → (tree_fits n (tree.index_tree_step known (map-RawIndexTree RawIndexTree RawIndexLink IndexTree IndexLink (tree.index_tree known) (tree.index_link known) x)) ≡ true)
      × (weights.tree_weight (tree.index_tree_step known (map-RawIndexTree RawIndexTree RawIndexLink IndexTree IndexLink (tree.index_tree known) (tree.index_link known) x)) ≡ raw_weights.tree_weight_step (map-RawIndexTree RawIndexTree RawIndexLink ℕ ℕ raw_weights.tree_weight raw_link_weight x)))
      → Holds (roll-RawIndexTree x)
  opened x h p q =
      let e = fold-roll-RawIndexTree IndexTree IndexLink (tree.index_tree_step known) tree.index_link_step x in
      let r = h (sym (fold-roll-RawIndexTree Bool (Op × Bool) fits.index_fits_step fits.index_link_step x) ∙ p)
      (sym (fold-roll-RawIndexTree (List NameFault) (List NameFault) (names.index_faults_step known) names.index_link_step x) ∙ q) in
      (ap (tree_fits n) e ∙ r.0, ap weights.tree_weight e ∙ r.1 ∙ sym (fold-roll-RawIndexTree ℕ ℕ raw_weights.tree_weight_step raw_weights.index_link_step x))

  links_hold : (rest : List ((l : RawIndexLink) × LinkHolds l))
      → good.all (map (λ l. l.1) (map raw_link (map (λ l. l.0) rest))) ≡ true → joined (map (names.index_link_faults known) (map (λ l. l.0) rest)) ≡ []
      → (map (λ l. l.0) (map (link_fits n) (map (tree.index_link known) (map (λ l. l.0) rest))) ≡ map (λ l. l.0) (map raw_link (map (λ l. l.0) rest)))
      × (good.all (map (λ l. l.1) (map (link_fits n) (map (tree.index_link known) (map (λ l. l.0) rest)))) ≡ true)
      × (sum (map weights.index_link_weight (map (tree.index_link known) (map (λ l. l.0) rest))) ≡ sum (map raw_link_weight (map (λ l. l.0) rest)))
  links_hold [] p q = (refl, refl, refl)
  links_hold (l ∷ more) p q =
      let here = l.1.value (and_left _ _ p) (first_none (names.index_link_faults known l.0) _ q) in
      let there = links_hold more (and_right _ _ p) (second_none (names.index_link_faults known l.0) _ q) in
      let others = map (link_fits n) (map (tree.index_link known) (map (λ l. l.0) more)) in (
        ap (λ o. o ∷ map (λ l. l.0) others) l.1.op ∙ ap (λ os. (raw_link l.0).0 ∷ os) there.0,
        ap (λ b. b && good.all (map (λ l. l.1) others)) here.0 ∙ there.1,
        sum_same _ _ (map weights.index_link_weight (map (tree.index_link known) (map (λ l. l.0) more))) (map raw_link_weight (map (λ l. l.0) more)) here.1 there.2,
      )

  layer_parts : (y : RawIndexTree-F ((r : RawIndexTree) × Holds r) ((l : RawIndexLink) × LinkHolds l))
      → Holds (roll-RawIndexTree (map-RawIndexTree ((r : RawIndexTree) × Holds r) ((l : RawIndexLink) × LinkHolds l) RawIndexTree RawIndexLink (λ e. e.0) (λ l. l.0) y))
  layer_parts (Number z) =
      opened (Number z) (λ p q. (ap (tree_fits n) (sym (index.rolls-Number z)) ∙ tree_fits_rolled n (open_index.Number z) ∙ p, ap weights.tree_weight (sym (index.rolls-Number z)) ∙ tree_weighs (open_index.Number z)))
  layer_parts (Name s) = opened (Name s) (λ p q. turn_holds n (names.open_at known.loops (names.word known.text s)) (names.declared_at known.decls (names.word known.text s)) s.from (λ k e. position_within _ known.loops k e) q)
  layer_parts (Minus value) =
      opened (Minus value.0) (λ p q.
      let r = value.1 p q in
      let t = tree.index_tree known value.0 in
      (ap (tree_fits n) (sym (index.rolls-Minus t)) ∙ tree_fits_rolled n (open_index.Minus t) ∙ r.0, ap weights.tree_weight (sym (index.rolls-Minus t)) ∙ tree_weighs (open_index.Minus t) ∙ ap (λ w. 1 + w) r.1))
  layer_parts (Chain left rest) =
      opened (Chain left.0 (map (λ l. l.0) rest)) (λ p q.
      let ls = map (λ l. l.0) rest in
      let t = tree.index_tree known left.0 in
      let us = map (tree.index_link known) ls in
      let a = left.1 (and_left _ _ p) (first_none (names.index_tree_faults known left.0) _ q) in
      let ops = and_left (good.are_index_operators (map (λ l. l.0) (map raw_link ls))) _ (and_right (fits.index_tree_fits left.0) _ p) in
      let b = links_hold rest (and_right (good.are_index_operators (map (λ l. l.0) (map raw_link ls))) _ (and_right (fits.index_tree_fits left.0) _ p)) (second_none (names.index_tree_faults known left.0) _ q) in (
        ap (tree_fits n) (sym (index.rolls-Chain t us)) ∙ tree_fits_rolled n (open_index.Chain t us)
            ∙ ap (λ z. z && (good.are_index_operators (map (λ l. l.0) (map (link_fits n) us)) && good.all (map (λ l. l.1) (map (link_fits n) us)))) a.0
            ∙ ap (λ os. good.are_index_operators os && good.all (map (λ l. l.1) (map (link_fits n) us))) b.0
            ∙ ap (λ z. z && good.all (map (λ l. l.1) (map (link_fits n) us))) ops ∙ b.1,
        ap weights.tree_weight (sym (index.rolls-Chain t us)) ∙ tree_weighs (open_index.Chain t us)
            ∙ ap (λ w. w + sum (map weights.index_link_weight us)) a.1 ∙ ap (λ w. raw_weights.tree_weight left.0 + w) b.2,
      ))

  layer : (x : RawIndexTree-F RawIndexTree RawIndexLink) (y : RawIndexTree-F ((r : RawIndexTree) × Holds r) ((l : RawIndexLink) × LinkHolds l))
      → map-RawIndexTree ((r : RawIndexTree) × Holds r) ((l : RawIndexLink) × LinkHolds l) RawIndexTree RawIndexLink (λ e. e.0) (λ l. l.0) y ≡ x → Holds (roll-RawIndexTree x)
  layer x y is = subst (λ z. Holds (roll-RawIndexTree z)) is (layer_parts y)

  link_opened : (x : RawIndexLink-F RawIndexTree RawIndexLink) → Holds x.value → LinkHolds (roll-RawIndexLink x)
  link_opened x h =
      let u : open_index.IndexLink-F IndexTree IndexLink = record { op = x.op; value = tree.index_tree known x.value } in
      let t = fold-roll-RawIndexLink IndexTree IndexLink (tree.index_tree_step known) tree.index_link_step x in
      let f : link_fits n (tree.index_link known (roll-RawIndexLink x)) ≡ (x.op, tree_fits n (tree.index_tree known x.value))
      = ap (link_fits n) t ∙ fold-roll-IndexLink Bool (Op × Bool) (good.index_fits_step n) good.index_link_step u in
      let g : raw_link (roll-RawIndexLink x) ≡ (x.op, fits.index_tree_fits x.value) = fold-roll-RawIndexLink Bool (Op × Bool) fits.index_fits_step fits.index_link_step x in
      let w : weights.index_link_weight (tree.index_link known (roll-RawIndexLink x)) ≡ 1 + weights.tree_weight (tree.index_tree known x.value)
      = ap weights.index_link_weight t ∙ fold-roll-IndexLink ℕ ℕ weights.tree_weight_step weights.index_link_step u in
      let v : raw_link_weight (roll-RawIndexLink x) ≡ 1 + raw_weights.tree_weight x.value = fold-roll-RawIndexLink ℕ ℕ raw_weights.tree_weight_step raw_weights.index_link_step x in
      let z : names.index_link_faults known (roll-RawIndexLink x) ≡ names.index_tree_faults known x.value
      = fold-roll-RawIndexLink (List NameFault) (List NameFault) (names.index_faults_step known) names.index_link_step x in
      record {
        op = ap (λ r. r.0) f ∙ sym (ap (λ r. r.0) g);
        value = λ p q.
            let r = h (sym (ap (λ r. r.1) g) ∙ p) (sym z ∙ q) in
            (ap (λ r. r.1) f ∙ r.0, w ∙ ap (λ k. 1 + k) r.1 ∙ sym v);
      }

  link_layer : (x : RawIndexLink-F RawIndexTree RawIndexLink) (y : RawIndexLink-F ((r : RawIndexTree) × Holds r) ((l : RawIndexLink) × LinkHolds l))
      → map-RawIndexLink ((r : RawIndexTree) × Holds r) ((l : RawIndexLink) × LinkHolds l) RawIndexTree RawIndexLink (λ e. e.0) (λ l. l.0) y ≡ x → LinkHolds (roll-RawIndexLink x)
  link_layer x y is =
      subst (λ z. LinkHolds (roll-RawIndexLink z)) is (link_opened (map-RawIndexLink ((r : RawIndexTree) × Holds r) ((l : RawIndexLink) × LinkHolds l) RawIndexTree RawIndexLink (λ e. e.0) (λ l. l.0) y) y.value.1)

  pub index_tree_holds : (r : RawIndexTree) → fits.index_tree_fits r ≡ true → names.index_tree_faults known r ≡ []
      → (tree_fits n (tree.index_tree known r) ≡ true) × (weights.tree_weight (tree.index_tree known r) ≡ raw_weights.tree_weight r)
  index_tree_holds = ind-RawIndexTree Holds LinkHolds layer link_layer

  pub indices_hold : (is : List RawIndex) → good.all (map fits.index_fits is) ≡ true → names.indices_faults known is ≡ []
      → (good.all (map (good.index_fits n) (map (tree.index_of known) is)) ≡ true) × (sum (map weights.index_weight (map (tree.index_of known) is)) ≡ sum (map raw_weights.index_weight is))
  indices_hold [] p q = (refl, refl)
  indices_hold (i ∷ more) p q =
      let here = index_tree_holds i.tree (and_left _ _ p) (first_none (names.index_faults known i) _ q) in
      let there = indices_hold more (and_right _ _ p) (second_none (names.index_faults known i) _ q) in (
        ap (λ b. b && good.all (map (good.index_fits n) (map (tree.index_of known) more))) here.0 ∙ there.0,
        sum_same _ _ (map weights.index_weight (map (tree.index_of known) more)) (map raw_weights.index_weight more) here.1 there.1,
      )
