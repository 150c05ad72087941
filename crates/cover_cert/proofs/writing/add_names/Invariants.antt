use Rattle.std.proofs.Common.{◌≡◌, ◌++◌, take}
use Rattle.std.specs.Prelude.{flat_map}
use Rattle.cert_checker.proofs.RowTests.{EachBefore}
use Rattle.cover_cert.specs.CoverBytes.{name_bytes, NameFits}
use Rattle.cover_cert.proofs.writing.add_names.Given as goal

abbrev pub invariant-loop-name : goal.invariant-loop-name
invariant-loop-name l = record {
  bytes : l.bytes.items ≡ l.fn.bytes.items ++ flat_map name_bytes (take l.name-index l.names);
  fit : EachBefore NameFits l.names l.name-index;
}
