use Rattle.potential_cert.proofs.Written.{can_be_spelled}
use Rattle.potential_cert.proofs.writing.write_table.Goals as goal

pub returns : goal.returns
returns c = record {
  fits = can_be_spelled c.args.t.now c.requires c.in_ok-bytes.ensures.bound c.in_ok-bytes.ensures.costs;
  bytes_are = c.in_ok-bytes.ensures.bytes;
}
