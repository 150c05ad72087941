use Rattle.std.proofs.Common.{refl}
use Rattle.comp_graph.specs.Games.{game_of}
use Rattle.cert_checker.proofs.RowTests.{bare_cannot}
use Rattle.cert_checker.proofs.row_tests.finish_holds.Goals as goal

pub returns-in-None : goal.returns-in-None
returns-in-None c =
    let g = game_of c.args.game.now in
    let bare = c.in-None.ensures.bare in
    (λ _ can. absurd (bare_cannot g c.args.row.now.position bare can), λ _. refl)
