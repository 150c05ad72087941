-- The order of positions, this project's own: it serves to look positions up and to write lists of them in one way.
use Rattle.std.specs.Prelude.{ℕ, List, ◌++◌}
use Rattle.std.specs.declared.cmp.Ordering.{Ordering}
use Rattle.std.specs.Ordering.{nat_cmp}
use Rattle.std.specs.Cmp.{IsTotalOrder}
use Rattle.std.proofs.lemmas.Cmp.{on_total, nat_list_cmp_total}
use Rattle.std.specs.Cmp.Lexicographic.{slice_cmp}
use Rattle.comp_graph.specs.Words.{words_of}
use Rattle.pebble_rules.specs.declared.position.Position.{Position}

-- the four words of the red set, and then the four of the blue set
abbrev pub position_words : Position → List ℕ
position_words p = words_of p.red ++ words_of p.blue

-- the words are compared as numbers, from the first one on, and the first two that differ decide
abbrev pub position_order : Position → Position → Ordering
position_order p q = slice_cmp nat_cmp (position_words p) (position_words q)

-- so positions are totally preordered
pub position_order_total : IsTotalOrder position_order
position_order_total = on_total position_words nat_list_cmp_total
