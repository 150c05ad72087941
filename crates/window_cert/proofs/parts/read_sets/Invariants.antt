use Rattle.comp_graph.specs.Vertices.{AllBelow}
use Rattle.window_cert.specs.Bytes.{set_bytes}
use Rattle.window_cert.specs.Readings.{BeginsWithMany}
use Rattle.window_cert.proofs.parts.read_sets.Given as goal

abbrev pub invariant-sets : goal.invariant-sets
invariant-sets l = BeginsWithMany (set_bytes l.vertices) (AllBelow l.vertices) l._k l.fn.cursor l.cursor l.sets.items
