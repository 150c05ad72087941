-- At the start all elements are left.
use Rattle.three_address.proofs.ElementsLeft.{rest_started}
use Rattle.three_address.proofs.elements.Elements.new.Goals as goal

pub returns : goal.returns
returns c = rest_started c.args.kind c.args.decls.now.entries 0
