-- A list of moves is played move by move.
use Rattle.std.proofs.Common.{◌≡◌, ℕ, ◌+◌, ◌*◌, ◌≤◌, ◌<◌, List, [], ◌∷◌, ◌++◌, length, take, get_or, sym, ap, ◌∙◌, subst, arith}
use Rattle.std.proofs.lemmas.List.{take_more}
use Rattle.comp_graph.specs.Games.{PebbleGame}
use Rattle.pebble_rules.specs.declared.position.Position.{Position}
use Rattle.pebble_rules.specs.declared.moves.Move.{Move}
use Rattle.pebble_rules.specs.Rules.{start, IsMove, moved, move_cost, position_after, IsPebbling, cost}
use Rattle.pebble_rules.proofs.Possible.{append_position, append_pebbling}

pub append_costs : (g : PebbleGame) (ms ns : List Move) → cost g (ms ++ ns) ≡ cost g ms + cost g ns
append_costs g [] ns = omega arith
append_costs g (m ∷ ms) ns = omega (arith, append_costs g ms ns)

-- the first moves of a list are played: they are a pebbling that leads to p and costs c, at most 16 each
pub record IsUnderWay (g : PebbleGame) (ms : List Move) (n : ℕ) (p : Position) (c : ℕ) : Type 0 where
  pub pebbling : IsPebbling g (start g) (take n ms)
  pub position : p ≡ position_after (start g) (take n ms)
  pub cost : c ≡ cost g (take n ms)
  pub few : c ≤ 16 * n

-- and so are they with one move more
pub under_way_next : (g : PebbleGame) (ms : List Move) (n : ℕ) (p q : Position) (c t : ℕ) (d : Move) → IsUnderWay g ms n p c → n < length ms
    → IsMove g p (get_or ms n d) → q ≡ moved p (get_or ms n d) → t ≡ move_cost g (get_or ms n d) → t ≤ 16 → IsUnderWay g ms (n + 1) q (c + t)
under_way_next g ms n p q c t d before more is_move after costs most =
    let m = get_or ms n d in
    let grown = take_more ms n d more in
    record {
      pebbling = subst (IsPebbling g (start g)) (sym grown)
          (append_pebbling g (start g) (take n ms) (m ∷ []) before.pebbling (subst (λ p. IsMove g p m) before.position is_move, tt));
      position = after ∙ ap (λ p. moved p m) before.position
          ∙ sym (append_position (start g) (take n ms) (m ∷ [])) ∙ ap (position_after (start g)) (sym grown);
      cost =
          let sum = append_costs g (take n ms) (m ∷ []) in
          let whole = ap (cost g) grown in
          let old = before.cost in
          omega arith;
      few = let few = before.few in omega arith;
    }
