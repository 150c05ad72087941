use Rattle.std.proofs.Common.{ℕ, ◌<◌, sym, subst}
use Rattle.window_steps.specs.Sets.{window_of}
use Rattle.window_steps.proofs.Calls.{work_vertex}
use Rattle.window_steps.proofs.stepping.cost.Goals as goal

pub charged-requires : goal.charged-requires
charged-requires c =
    subst (λ (n : ℕ). c.in-Work.v < n) (sym c.requires.loads)
    (work_vertex c.args.game.now c.weights-weights.ensures.valid.valid (window_of c.args.window.now) c.args.position.now c.args.step c.in-Work.v c.in-Work.is c.requires.legal)
