-- The count of rows.
use Rattle.std.proofs.Common.{sym}
use Rattle.position_arena.proofs.StoreLaws.{seen_len}
use Rattle.position_arena.proofs.store.Store.len.Goals as goal

pub returns : goal.returns
returns c = sym (seen_len c.self.inside.wide c.self.inside.len c.self.inside.chunks.items c.self.invariant c.args.self.now c.self.view_is)
