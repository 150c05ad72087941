-- A search that meets no free place has seen them all, and one was free.
use Rattle.std.proofs.Common.{length, ap, arith}
use Rattle.position_arena.specs.Index.{homed, free_count}
use Rattle.position_arena.proofs.IndexLaws.{all_taken}
use Rattle.position_arena.proofs.index.insert.Goals as goal

pub unreachable-requires : goal.unreachable-requires
unreachable-requires c =
    let is = c.turns.invariant in
    let none = all_taken c.turns.places (homed (length c.turns.places) c.args.hash) is.1 (λ t h. is.3 t (omega (arith, h, c.turns.auto.places, c.turns-test.false))) in
    let same = ap free_count is.0 in omega (arith, none, same, c.requires)
