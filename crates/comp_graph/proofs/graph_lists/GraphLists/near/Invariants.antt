use Rattle.std.proofs.Common.{◌≡◌, ℕ, ◌<◌, length, get_or}
use Rattle.comp_graph.specs.Graphs.{preds_of}
use Rattle.comp_graph.specs.Words.{word_of}
use Rattle.comp_graph.proofs.graph_lists.GraphLists.near.Given as goal

abbrev pub invariant-loop-v : goal.invariant-loop-v
invariant-loop-v l = (length l.near ≡ 64) × ((u : ℕ) → u < l.v → get_or l.near u 0 ≡ word_of (preds_of l.self u) 0)
