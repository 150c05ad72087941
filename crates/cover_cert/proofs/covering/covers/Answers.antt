use Rattle.std.proofs.Common.{sym, subst}
use Rattle.comp_graph.specs.Games.{game_of}
use Rattle.comp_graph.proofs.GraphLaws.{IsDag-dag_of}
use Rattle.cover_cert.specs.Covers.{HasPebbles}
use Rattle.cover_cert.proofs.Covered.{covers_pebbles}
use Rattle.cover_cert.proofs.covering.covers.Goals as goal

pub returns : goal.returns
returns c =
    let same = covers_pebbles (game_of c.args.game.now) (IsDag-dag_of c.args.game.now.graph c.slots-slots.ensures.valid.valid) c.args.p.now c.args.q.now in (
      λ h. same.1 (subst (HasPebbles c.args.p.now) c.live_part.ensures (c.has_pebbles.ensures.0 h)),
      λ covers. c.has_pebbles.ensures.1 (subst (HasPebbles c.args.p.now) (sym c.live_part.ensures) (same.0 covers)),
    )
