use Rattle.std.proofs.Common.{◌+◌, sym, subst}
use Rattle.window_cert.proofs.PartLaws.{AreImages, image_more}
use Rattle.window_cert.proofs.parts.read_renaming.Goals as goal

pub images-preserved : goal.images-preserved
images-preserved c =
    subst (AreImages (c.images._v + 1) c.args.cursor.now c.next_u8.new.cursor) (sym c.in_ok-push.ensures.items)
    (image_more c.images._v c.in-Some.image c.args.cursor.now c.images.cursor c.next_u8.new.cursor c.images.images.items c.images.invariant c.in-Some.ensures)
