use Rattle.cover_cert.proofs.CoverWritten.{can_be_spelled}
use Rattle.cover_cert.proofs.writing.write_cover.Goals as goal

pub returns : goal.returns
returns c = record {
  fits = can_be_spelled c.args.t.now c.requires c.in_ok-bytes.ensures.bound c.in_ok-bytes.ensures.rows;
  bytes_are = c.in_ok-bytes.ensures.bytes;
}
