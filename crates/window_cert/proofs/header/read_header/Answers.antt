use Rattle.std.proofs.Common.{arith}
use Rattle.window_cert.proofs.HeaderLaws.{short_header}
use Rattle.window_cert.proofs.header.read_header.Goals as goal

pub returns-then-left-lt16 : goal.returns-then-left-lt16
returns-then-left-lt16 c = short_header c.args.cursor.now (let left = c.left.ensures in let short = c.if-left-lt16.true in omega arith)
