-- One table more is written.
use Rattle.std.proofs.Common.{◌++◌, ap, ◌∙◌}
use Rattle.part_bounds.proofs.PartSearches.{one_more_written}
use Rattle.part_bounds.proofs.searching.write_tables.Goals as goal

pub loop-one-preserved : goal.loop-one-preserved
loop-one-preserved c =
    one_more_written c.args.found.now c.loop-one.one-index c.one-item.result c.loop-one.bytes.items c.in_ok-write_table.field-0.items c.extend_from_slice.new.self.items
    c.loop-one-test.true c.one-item.is c.loop-one.invariant c.in_ok-write_table.ensures
    (c.in_ok-extend_from_slice.ensures.items ∙ ap (λ piece. c.loop-one.bytes.items ++ piece) c.deref.ensures.value)
