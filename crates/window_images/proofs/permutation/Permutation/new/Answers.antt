use Rattle.window_images.proofs.Inverses.{twice_is_none, are_parts, is_renaming_by}
use Rattle.window_images.proofs.permutation.Permutation.new.Goals as goal

pub returns-in_default : goal.returns-in_default
returns-in_default c =
    twice_is_none c.args.there.now c.padded-there.result c.requires c.padded-there.ensures.long c.padded-there.ensures.each c.in_default.ensures

pub invariant_of-result : goal.invariant_of-result
invariant_of-result c =
    are_parts c.args.there.now c.padded-there.result c.requires c.padded-there.ensures.long c.padded-there.ensures.each c.in-Some.back c.in-Some.ensures

pub returns : goal.returns
returns c =
    is_renaming_by c.args.there.now c.padded-there.result c.requires c.padded-there.ensures.long c.padded-there.ensures.each c.in-Some.back c.in-Some.ensures
