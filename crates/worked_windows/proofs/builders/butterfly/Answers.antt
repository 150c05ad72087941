use Rattle.std.proofs.Common.{length, ap}
use Rattle.worked_windows.proofs.Nodes.{butterfly_is}
use Rattle.worked_windows.proofs.builders.butterfly.Goals as goal

pub new-requires : goal.new-requires
new-requires c =
    butterfly_is _ c.in_ok-nodes.ensures.items (ap length c.in_ok-names.ensures.items) c.in_ok-output.field-0 c.in_ok-output-2.field-0 c.in_ok-output-3.field-0 c.in_ok-output-4.field-0 c.in_ok-outputs.ensures.items
    c.in_ok-output.ensures c.in_ok-output-2.ensures c.in_ok-output-3.ensures c.in_ok-output-4.ensures
