-- What is left to be written leads from the items so far to what all leads to from the start.
use Rattle.std.proofs.Common.{◌≡◌, map, drop}
use Rattle.kernel_ast.specs.Steps.{in_turn}
use Rattle.loop_unroll.specs.Flats as spec
use Rattle.loop_unroll.proofs.right_side.+items.Given as goal

abbrev pub invariant-items_of_arguments-each_argument : goal.invariant-items_of_arguments-each_argument
invariant-items_of_arguments-each_argument l =
    in_turn (map (spec.items_of l.kernel.decls l.indices) (drop l.arg-index l.args)) l.items ≡ in_turn (map (spec.items_of l.kernel.decls l.indices) l.args) l.fn.items

abbrev pub invariant-items_of_links-each_link : goal.invariant-items_of_links-each_link
invariant-items_of_links-each_link l =
    spec.link_items (map (spec.link_of l.kernel.decls l.indices) (drop l.link-index l.rest)) l.items ≡ spec.link_items (map (spec.link_of l.kernel.decls l.indices) l.rest) l.fn.items
