use Rattle.std.proofs.Common.{◌≤◌, length, sym, subst}
use Rattle.potential_cert.proofs.Codes.{number_read, drop_small}
use Rattle.potential_cert.proofs.cursor.Cursor.take_u16.Goals as goal

pub returns : goal.returns
returns c =
    let long = subst (λ xs. 2 ≤ length xs) (sym c.self.view_is) c.requires in
    number_read 2 c.read_u16-number.result c.args.self.now c.self.inside.rest.now c.self.view_is c.self.invariant long c.read_u16-number.ensures

pub invariant_of-self : goal.invariant_of-self
invariant_of-self c = drop_small 2 c.self.inside.rest.now c.self.invariant
