-- The image under which a position is looked up, this project's own. A round goes to the least image of a position, and the rounds end
-- when no image is less. It need not be the least position that renamings of the list reach, one after another. A search that makes a
-- table and a checker that reads it have to use the same rule.
use Rattle.std.specs.Prelude.{ℕ, zero, suc, cond, List, [], ◌∷◌}
use Rattle.pebble_rules.specs.declared.position.Position.{Position}
use Rattle.potential_cert.specs.Order.{precedes}
use Rattle.window_laws.specs.Images.{Renaming}
use Rattle.window_images.specs.Permutations.{position_image}

-- the second position if it comes before the first, and else the first
abbrev pub lesser : Position → Position → Position
lesser p q = cond (precedes q p) q p

-- the least of `best` and the images of p under the renamings of the list; of equal ones it is the first
abbrev pub least_among : List Renaming → Position → Position → Position
least_among [] p best = best
least_among (r ∷ rs) p best = least_among rs p (lesser best (position_image r p))

-- the least of p and its images
abbrev pub least_of : List Renaming → Position → Position
least_of rs p = least_among rs p p

-- at most so many rounds: each goes to the least image, and if no image is less than the position, that is the end
abbrev pub rounds : ℕ → List Renaming → Position → Position
rounds zero rs p = p
rounds (suc n) rs p = cond (precedes (least_of rs p) p) (rounds n rs (least_of rs p)) p

-- The position that the rounds reach from p. They would end without a limit, since the position gets less in each; the limit bounds the
-- time, whatever renamings the list has.
unfoldable pub least_image : List Renaming → Position → Position
least_image rs p = rounds 256 rs p
