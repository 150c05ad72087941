-- The moves that are loads are counted.
use Rattle.std.proofs.Common.{◌≡◌, rules, ◌∙◌}
use Rattle.std.specs.Prelude.{count_by}
use Rattle.cache_model.proofs.Calls.{is_load, loads_counted}
use Rattle.cache_model.proofs.caching.loads.Goals as goal

pub returns : goal.returns
returns c =
    let counted : c.count.result ≡ count_by is_load c.args.moves.now = search rules in
    counted ∙ loads_counted c.args.moves.now
