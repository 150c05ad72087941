use Rattle.window_checker.proofs.Parts.{at_place, next_permutation}
use Rattle.window_checker.proofs.preparing.permutations.Goals as goal

pub returns-in_default : goal.returns-in_default
returns-in_default c ps are =
    let found = at_place c.args.vertices c.args.renamings.now ps c.loop-renaming.renaming-index c.renaming-item.result are c.loop-renaming-test.true c.renaming-item.is in
    c.in_default.ensures found.0 found.1

pub loop-renaming-preserved : goal.loop-renaming-preserved
loop-renaming-preserved c =
    next_permutation c.args.vertices c.args.renamings.now c.loop-renaming.found.items c.push.new.self.items c.loop-renaming.renaming-index c.renaming-item.result
    c.in-Some.permutation c.loop-renaming.invariant c.loop-renaming-test.true c.renaming-item.is c.in-Some.ensures c.in_ok-push.ensures.items
