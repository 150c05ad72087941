-- The moves on all parts cost together no more than all moves, and bounds add up.
use Rattle.std.proofs.Common.{◌≡◌, ℕ, zero, suc, ◌+◌, ◌<◌, Bool, true, false, cond, ltb, eqb, ◌&&◌, List, [], ◌∷◌, length, sym, refl, ◌∙◌, arith}
use Rattle.std.proofs.lemmas.Bool.Decides.{nat_tests}
use Rattle.std.specs.FinSet.{contains}
use Rattle.comp_graph.specs.Vertices.{Vertices, ◌∈◌, sum_below}
use Rattle.comp_graph.specs.Sets.{has_set_below}
use Rattle.comp_graph.proofs.Sums.{sum_below-le, sum_below-add, sum_below-once}
use Rattle.comp_graph.specs.Graphs.{GraphParts}
use Rattle.comp_graph.specs.Games.{PebbleGame, GameParts, game_of}
use Rattle.pebble_rules.specs.Rules.{move_cost, cost}
use Rattle.pebble_rules.specs.Refusals.{vertex_of}
use Rattle.pebble_rules.specs.declared.moves.Move.{Move}
use Rattle.pebble_rules.specs.declared.moves.Move.TheVariants.{Load, Store, Compute, DropRed, DropBlue}
use Rattle.part_bounds.specs.Cuts.{cut_game, renumbered, moves_on}
use Rattle.part_bounds.specs.Parts.{part_of, part, part_game}
use Rattle.part_bounds.specs.Laws.{PartsCostNoMore, SumsAreBounds}
use Rattle.part_bounds.proofs.Cutting.{parts_are_pebbled}

-- ---- costs

cost_renumbered : (g : PebbleGame) (s : Vertices) (m : Move) → move_cost (cut_game g s) (renumbered s m) ≡ move_cost g m
cost_renumbered g s (Load v) = refl
cost_renumbered g s (Store v) = refl
cost_renumbered g s (Compute v) = refl
cost_renumbered g s (DropRed v) = refl
cost_renumbered g s (DropBlue v) = refl

pub cost_on : (g : PebbleGame) (s : Vertices) (m : Move) (ms : List Move)
    → cost (cut_game g s) (moves_on s (m ∷ ms)) ≡ cond (contains s (vertex_of m)) (move_cost g m) 0 + cost (cut_game g s) (moves_on s ms)
cost_on g s m ms = by_test (contains s (vertex_of m))
  where
    by_test : (b : Bool) → cost (cut_game g s) (cond b (renumbered s m ∷ moves_on s ms) (moves_on s ms)) ≡ cond b (move_cost g m) 0 + cost (cut_game g s) (moves_on s ms)
    by_test true = let e = cost_renumbered g s m in omega arith
    by_test false = omega arith

-- a vertex lies in the part that it is given
in_part : (g : GraphParts) (parts k v : ℕ) → v ∈ part g parts k → part_of g parts v ≡ k
in_part g parts k v h =
    let e = sym (has_set_below (λ v. eqb (part_of g parts v) k) (length g.nodes) v) ∙ h in
    tested (part_of g parts v) (ltb v (length g.nodes)) e
  where
    tested : (q : ℕ) (b : Bool) → (b && eqb q k) ≡ true → q ≡ k
    tested q b e = grind (arith, nat_tests)

-- and in no other
one_part : (g : GraphParts) (parts v j k : ℕ) → j < k → v ∈ part g parts j → v ∈ part g parts k → ⊥
one_part g parts v j k less h i =
    let a = in_part g parts j v h in
    let b = in_part g parts k v i in
    omega arith

pub no_cost : (g : GameParts) (n parts : ℕ) → sum_below n (λ k. cost (part_game g parts k) []) ≡ 0
no_cost g zero parts = refl
no_cost g (suc n) parts = let rest = no_cost g n parts in omega arith

pub parts_cost_no_more : PartsCostNoMore
parts_cost_no_more g parts [] = let none = no_cost g parts parts in omega arith
parts_cost_no_more g parts (m ∷ ms) =
    let each = sum_below-le parts (λ k. cost (part_game g parts k) (moves_on (part g.graph parts k) (m ∷ ms)))
    (λ k. cond (contains (part g.graph parts k) (vertex_of m)) (move_cost (game_of g) m) 0 + cost (part_game g parts k) (moves_on (part g.graph parts k) ms))
    (λ k below. let e = cost_on (game_of g) (part g.graph parts k) m ms in omega arith) in
    let two = sum_below-add parts (λ k. cond (contains (part g.graph parts k) (vertex_of m)) (move_cost (game_of g) m) 0) (λ k. cost (part_game g parts k) (moves_on (part g.graph parts k) ms)) in
    let first = sum_below-once parts (λ k. contains (part g.graph parts k) (vertex_of m)) (move_cost (game_of g) m) (λ j k less a b. one_part g.graph parts (vertex_of m) j k less a b) in
    let rest = parts_cost_no_more g parts ms in
    omega arith

pub sums_are_bounds : SumsAreBounds
sums_are_bounds g valid parts bounds are ms complete =
    let each = sum_below-le parts bounds (λ k. cost (part_game g parts k) (moves_on (part g.graph parts k) ms))
    (λ k below. are k below _ (parts_are_pebbled g valid parts k ms complete)) in
    let all = parts_cost_no_more g parts ms in
    omega arith
