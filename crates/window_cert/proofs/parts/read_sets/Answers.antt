use Rattle.window_cert.proofs.Missing.{missing}
use Rattle.std.proofs.Common.{◌+◌, sym, subst}
use Rattle.comp_graph.specs.Vertices.{AllBelow}
use Rattle.window_cert.specs.Bytes.{set_bytes}
use Rattle.window_cert.specs.Readings.{BeginsWithMany}
use Rattle.window_cert.proofs.Begins.{one_more}
use Rattle.window_cert.proofs.parts.read_sets.Goals as goal

pub returns-in-None-clause-fault : goal.returns-in-None-clause-fault
returns-in-None-clause-fault c left e = record {
  before = c.sets._k;
  less = c.sets-test.true;
  items = c.sets.sets.items;
  rest = c.sets.cursor;
  read = c.sets.invariant;
  fault = missing (set_bytes c.args.vertices) (AllBelow c.args.vertices) c.sets.cursor c.left-left.result left c.in-None.ensures c.left-left.ensures e;
}

pub sets-preserved : goal.sets-preserved
sets-preserved c =
    subst (BeginsWithMany (set_bytes c.args.vertices) (AllBelow c.args.vertices) (c.sets._k + 1) c.args.cursor.now c.next_set.new.cursor) (sym c.in_ok-push.ensures.items)
    (one_more (set_bytes c.args.vertices) (AllBelow c.args.vertices) c.sets._k c.args.cursor.now c.sets.cursor c.next_set.new.cursor c.sets.sets.items c.in-Some.set c.sets.invariant c.in-Some.ensures)
