-- The places so far have no fault, so the first fault is that of those that are left.
use Rattle.std.proofs.Common.{◌≡◌, map, drop}
use Rattle.kernel_ast.specs.Walk.{joined, places_of}
use Rattle.kernel_walk.specs.PlacesLookedAt.{all_located, places_of_link}
use Rattle.kernel_walk.proofs.walking.+places.Given as goal

abbrev pub invariant-look_at_links-each_link : goal.invariant-look_at_links-each_link
invariant-look_at_links-each_link l =
    all_located l.kernel.decls l.indices (joined (map places_of_link (drop l.link-index l.rest))) ≡ all_located l.kernel.decls l.indices (joined (map places_of_link l.rest))

abbrev pub invariant-look_at_arguments-each_argument : goal.invariant-look_at_arguments-each_argument
invariant-look_at_arguments-each_argument l =
    all_located l.kernel.decls l.indices (joined (map places_of (drop l.arg-index l.args))) ≡ all_located l.kernel.decls l.indices (joined (map places_of l.args))
