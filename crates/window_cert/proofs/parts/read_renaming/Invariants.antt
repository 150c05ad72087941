use Rattle.window_cert.proofs.PartLaws.{AreImages}
use Rattle.window_cert.proofs.parts.read_renaming.Given as goal

abbrev pub invariant-images : goal.invariant-images
invariant-images l = AreImages l._v l.fn.cursor l.cursor l.images.items
