use Rattle.std.proofs.Common.{◌≡◌, ◌≤◌, cond}
use Rattle.std.specs.FinSet as set
use Rattle.comp_graph.specs.Games.{game_of}
use Rattle.window_checker.specs.ValidCerts.{sets_below, tracked_operands}
use Rattle.window_checker.proofs.preparing.by_works.Given as goal

abbrev pub invariant-loop-v : goal.invariant-loop-v
invariant-loop-v l = record {
  below : l.v ≤ l.v-end;
  sets : l.sets.items ≡ sets_below l.v (λ v. cond (set.contains l.works v) (tracked_operands (game_of l.game) l.tracked v) set.empty);
}
