-- The run is the whole run, whose moves are a complete pebbling.
use Rattle.std.proofs.Common.{◌≡◌, length, sym, ap, ◌∙◌, subst, arith}
use Rattle.comp_graph.specs.Games.{game_of}
use Rattle.comp_graph.proofs.GraphLaws.{IsDag-dag_of}
use Rattle.pebble_rules.specs.Rules.{start, IsComplete}
use Rattle.pebble_rules.specs.Transfers.{loads, stores}
use Rattle.pebble_rules.proofs.Transfers.{transfers_few}
use Rattle.cache_model.specs.Caches.{Cache}
use Rattle.cache_model.specs.Steps.{cache_of}
use Rattle.cache_model.proofs.Calls.{run_is_whole, run_moves_few, counted_cost}
use Rattle.cache_model.proofs.Pebbling.{caches_are_pebblings}
use Rattle.cache_model.proofs.caching.cached.Goals as goal

pub loads-requires : goal.loads-requires
loads-requires c =
    let g = game_of c.args.game.now in
    let whole = run_is_whole g (cache_of c.in_ok-caching.caching) (cache_of c.store_outputs.new.self) c.in_ok-caching.ensures.cache c.in_ok-store_outputs.ensures in
    let few = run_moves_few g c.in_ok-caching.ensures.valid.valid.small (cache_of c.store_outputs.new.self) whole in
    let as_slice = ap length c.deref.ensures.value in
    omega arith

pub stores-requires : goal.stores-requires
stores-requires c =
    let g = game_of c.args.game.now in
    let whole = run_is_whole g (cache_of c.in_ok-caching.caching) (cache_of c.store_outputs.new.self) c.in_ok-caching.ensures.cache c.in_ok-store_outputs.ensures in
    let few = run_moves_few g c.in_ok-caching.ensures.valid.valid.small (cache_of c.store_outputs.new.self) whole in
    let as_slice = ap length c.deref-2.ensures.value in
    omega arith

pub returns-clause-exact : goal.returns-clause-exact
returns-clause-exact c =
    let g = game_of c.args.game.now in
    let whole = run_is_whole g (cache_of c.in_ok-caching.caching) (cache_of c.store_outputs.new.self) c.in_ok-caching.ensures.cache c.in_ok-store_outputs.ensures in
    let moves = ap (λ (r : Cache). r.moves) whole in
    record {
      moves = moves;
      hits = ap (λ (r : Cache). r.hits) whole;
      loads = c.loads.ensures ∙ ap loads (c.deref.ensures.value ∙ moves);
      stores = c.stores.ensures ∙ ap stores (c.deref-2.ensures.value ∙ moves);
    }

pub returns-clause-complete : goal.returns-clause-complete
returns-clause-complete c =
    let g = game_of c.args.game.now in
    let whole = run_is_whole g (cache_of c.in_ok-caching.caching) (cache_of c.store_outputs.new.self) c.in_ok-caching.ensures.cache c.in_ok-store_outputs.ensures in
    let valid = c.in_ok-caching.ensures.valid in
    subst (λ ms. IsComplete g (start g) ms) (sym (ap (λ (r : Cache). r.moves) whole))
    (caches_are_pebblings g (IsDag-dag_of c.args.game.now.graph valid.valid) valid.room)

pub returns-clause-cost : goal.returns-clause-cost
returns-clause-cost c =
    counted_cost (game_of c.args.game.now) c.store_outputs.new.self.moves.items c.loads.result c.stores.result
    (c.loads.ensures ∙ ap loads c.deref.ensures.value) (c.stores.ensures ∙ ap stores c.deref-2.ensures.value)

pub returns-clause-few : goal.returns-clause-few
returns-clause-few c =
    let g = game_of c.args.game.now in
    let moves = c.store_outputs.new.self.moves.items in
    let whole = run_is_whole g (cache_of c.in_ok-caching.caching) (cache_of c.store_outputs.new.self) c.in_ok-caching.ensures.cache c.in_ok-store_outputs.ensures in
    let few = run_moves_few g c.in_ok-caching.ensures.valid.valid.small (cache_of c.store_outputs.new.self) whole in
    let transfers = transfers_few moves in
    let loaded : c.loads.result ≡ loads moves = c.loads.ensures ∙ ap loads c.deref.ensures.value in
    let saved : c.stores.result ≡ stores moves = c.stores.ensures ∙ ap stores c.deref-2.ensures.value in
    omega (arith, few, transfers, loaded, saved)
