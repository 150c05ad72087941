-- The moves that are stores are counted.
use Rattle.std.proofs.Common.{◌≡◌, rules, ◌∙◌}
use Rattle.std.specs.Prelude.{count_by}
use Rattle.cache_model.proofs.Calls.{is_store, stores_counted}
use Rattle.cache_model.proofs.caching.stores.Goals as goal

pub returns : goal.returns
returns c =
    let counted : c.count.result ≡ count_by is_store c.args.moves.now = search rules in
    counted ∙ stores_counted c.args.moves.now
