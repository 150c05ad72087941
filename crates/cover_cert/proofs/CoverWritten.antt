-- What can be written can be spelled.
use Rattle.std.proofs.Common.{◌<◌, ◌^◌, arith}
use Rattle.comp_graph.specs.Lists.{IsIn}
use Rattle.cover_cert.specs.CoverBytes.{AreRowWords, CanBeSpelled, IsCoverInRange}
use Rattle.cover_cert.specs.CoverTable.{CoverRowParts, CoverTableParts}

pub can_be_spelled : (t : CoverTableParts) → IsCoverInRange t → t.bound < 2 ^ 32 → ((r : CoverRowParts) → IsIn r t.rows → AreRowWords r) → CanBeSpelled t
can_be_spelled t range bound words = record {
  numbers = record {
    vertices = range.vertices;
    some_slots = range.some_slots;
    slots = range.slots;
    some_load = range.some_load;
    load = range.load;
    some_store = range.some_store;
    store = range.store;
    bound = bound;
    rows = range.few;
  };
  rows = λ r i. record {
    plain_fits = record { cost = (words r i).cost; red = range.red r i; blue = range.blue r i };
    few = let few = range.names r i in omega arith;
    names = (words r i).names;
  };
}
