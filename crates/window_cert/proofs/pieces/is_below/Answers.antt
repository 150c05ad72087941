use Rattle.std.proofs.Common.{refl, arith}
use Rattle.window_cert.proofs.PieceLaws.{all_below}
use Rattle.window_cert.proofs.pieces.is_below.Goals as goal

pub returns : goal.returns
returns c = (
  λ _. all_below c.args.vertices 256 c.args.set.now c.requires.bounded (λ u more less. c.rest.invariant u more (let end = c.rest-test.false in omega arith)),
  λ _. refl,
)
