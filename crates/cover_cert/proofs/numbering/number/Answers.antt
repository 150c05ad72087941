use Rattle.cover_cert.proofs.Numbered.{number_is}
use Rattle.std.proofs.Common.{sym}
use Rattle.cover_cert.proofs.numbering.number.Goals as goal

pub returns : goal.returns
returns c =
    let row = c.in-Some.ensures.some in
    sym (number_is c.args.rows.now c.requires.rise c.in-Some.k row.0 c.args.position.now row.1 row.2)

pub unreachable-requires : goal.unreachable-requires
unreachable-requires c = c.in-None.ensures.none c.requires.known
