-- The sign that was found is the longest token, and where there is none no token begins.
use Rattle.std.proofs.Common.{sym}
use Rattle.kernel_lexer.proofs.Cuts.{sign_cut, no_sign_cut}
use Rattle.kernel_lexer.proofs.cut.cut_sign.Goals as goal

pub returns-in-Some : goal.returns-in-Some
returns-in-Some c = sign_cut c.args.rest.now c.in-Some.mark c.in-Some.len c.requires (sym c.in-Some.ensures)

pub returns-in-None : goal.returns-in-None
returns-in-None c = no_sign_cut c.args.rest.now c.requires (sym c.in-None.ensures)
