-- The first numbers of a row are the words of its position.
use Rattle.std.proofs.Common.{◌*◌, take, ap, ◌∙◌}
use Rattle.position_arena.proofs.ArenaLaws.{row_is}
use Rattle.position_arena.proofs.rows.Positions.words_at.Goals as goal

pub returns : goal.returns
returns c = ap (take (2 * c.self.inside.words)) c.row-row.ensures ∙ row_is c.self.inside.words c.self.inside.store c.self.inside.places.items c.self.invariant c.args.self.now c.self.view_is c.args.k c.requires
