use Rattle.std.proofs.Common.{arith}
use Rattle.cover_cert.proofs.making.is_fit.Goals as goal

pub returns-then-row-most : goal.returns-then-row-most
returns-then-row-most c = (
  λ h. record { costs = (let few = c.if-row-most.true in omega arith); has = c.has_pebbles.ensures.0 h },
  λ fits. c.has_pebbles.ensures.1 fits.has,
)

pub returns-else-row-most : goal.returns-else-row-most
returns-else-row-most c = (λ h. absurd (grind arith), λ fits. absurd (let few = fits.costs in let more = c.if-row-most.false in omega arith))
