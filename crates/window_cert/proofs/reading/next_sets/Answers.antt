use Rattle.comp_graph.specs.Vertices.{AllBelow}
use Rattle.window_cert.specs.Bytes.{set_bytes}
use Rattle.window_cert.specs.Faults.{in_first, in_second}
use Rattle.window_cert.proofs.Missing.{missing}
use Rattle.window_cert.proofs.reading.next_sets.Goals as goal

pub returns-in-None-clause-fault : goal.returns-in-None-clause-fault
returns-in-None-clause-fault c left e =
    in_first (missing (set_bytes c.args.vertices) (AllBelow c.args.vertices) c.args.cursor.now c.left-left.result left c.in-None.ensures c.left-left.ensures e)

pub returns-in-None-next_set-clause-fault : goal.returns-in-None-next_set-clause-fault
returns-in-None-next_set-clause-fault c left e =
    in_second c.in-Some.stores c.next_set.new.cursor c.in-Some.ensures
    (in_first (missing (set_bytes c.args.vertices) (AllBelow c.args.vertices) c.next_set.new.cursor c.left-left-2.result left c.in-None-next_set.ensures c.left-left-2.ensures e))

pub returns-in-None-next_set-2-clause-fault : goal.returns-in-None-next_set-2-clause-fault
returns-in-None-next_set-2-clause-fault c left e =
    in_second c.in-Some.stores c.next_set.new.cursor c.in-Some.ensures
    (in_second c.in-Some-next_set.tracked c.next_set-2.new.cursor c.in-Some-next_set.ensures
    (missing (set_bytes c.args.vertices) (AllBelow c.args.vertices) c.next_set-2.new.cursor c.left-left-3.result left c.in-None-next_set-2.ensures c.left-left-3.ensures e))
