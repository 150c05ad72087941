use Rattle.std.proofs.Common.{◌≡◌, ◌+◌, ◌*◌, ◌^◌}
use Rattle.std.specs.FinSet.{contains}
use Rattle.comp_graph.specs.Words.{bits_below}
use Rattle.window_cert.proofs.sets.set_byte.Given as goal

abbrev pub invariant-bits : goal.invariant-bits
invariant-bits l = record {
  value : l.value ≡ bits_below (λ i. contains l.set (8 * l.k + i)) l.i;
  power : l.power ≡ 2 ^ l.i;
}
