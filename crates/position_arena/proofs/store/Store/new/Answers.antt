-- No chunk, no row.
use Rattle.std.proofs.Common.{ap, ◌∙◌}
use Rattle.position_arena.proofs.StoreLaws.{table, new_table}
use Rattle.position_arena.proofs.store.Store.new.Goals as goal

pub returns : goal.returns
returns c = ap (table c.args.wide 0) c.new.ensures.items ∙ new_table c.args.wide
