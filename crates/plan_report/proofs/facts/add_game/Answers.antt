-- The lines, added one by one, are those on the game.
use Rattle.std.proofs.Common.{ap}
use Rattle.std.specs.Prelude.{codes}
use Rattle.std.specs.Fmt.{decimal}
use Rattle.plan_report.proofs.AddedLines.{not_grown}
use Rattle.plan_report.proofs.Remarks.{more}
use Rattle.plan_report.proofs.facts.add_game.Goals as goal

pub returns : goal.returns
returns c =
    let f = c.args.facts.now in
    let none = not_grown c.args.text.now.items in
    let kernel = more (codes "kernel") c.args.title.now none c.bytes.ensures c.in_ok-add_remark.ensures in
    let vertices = more (codes "vertices") (decimal f.vertices) kernel (ap decimal c.from.ensures) c.in_ok-add_number.ensures in
    let inputs = more (codes "inputs") (decimal f.inputs) vertices (ap decimal c.from-2.ensures) c.in_ok-add_number-2.ensures in
    let degree = more (codes "degree") (decimal f.degree) inputs (ap decimal c.from-3.ensures) c.in_ok-add_number-3.ensures in
    let slots = more (codes "slots") (decimal f.slots) degree (ap decimal c.from-4.ensures) c.in_ok-add_number-4.ensures in
    slots.same
