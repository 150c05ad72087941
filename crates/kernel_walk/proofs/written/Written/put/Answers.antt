-- An element that is set holds the new value, and each other one what it held.
use Rattle.std.proofs.Common.{Some, if◌then◌else◌, ap, ◌∙◌}
use Rattle.kernel_walk.specs.SetElements.{elements}
use Rattle.kernel_walk.proofs.SameCells.{is_eq-compared}
use Rattle.kernel_walk.proofs.written.Written.put.Goals as goal

pub returns : goal.returns
returns g c = λ i other.
    (c.in_ok-insert.ensures.updates.0 (other.decl, other.offset)
    ∙ ap (λ b. if b then Some c.args.value else elements c.args.self.now other) (is_eq-compared c.args.cell other)) i
