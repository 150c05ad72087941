use Rattle.window_steps.specs.Sets.{window_of}
use Rattle.std.proofs.Common.{sym, ◌∙◌}
use Rattle.window_images.proofs.Tested.{worker_vertex}
use Rattle.window_images.proofs.automorphism.keeps_work.Goals as goal

pub is_like-requires-clause-image : goal.is_like-requires-clause-image
is_like-requires-clause-image c =
    worker_vertex c.args.game.now c.graph.ensures.valid.valid (window_of c.args.window.now) c.args.workers.now c.requires.workers c.there-image.result
    (sym c.has.ensures.value ∙ c.if-has.true)
