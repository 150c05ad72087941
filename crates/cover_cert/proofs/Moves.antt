-- The search that names covering rows, turn by turn.
use Rattle.std.proofs.Common.{◌≡◌, ℕ, zero, suc, length, ap, ◌∙◌}
use Rattle.std.specs.Prelude.{None}
use Rattle.comp_graph.specs.Games.{PebbleGame}
use Rattle.search_laws.specs.Search.{next_waiting, give_up, if_next, settle}
use Rattle.search_laws.proofs.Turns.{settle_still}
use Rattle.search_laws.proofs.Moves.{settle_unbeaten, given_up_settles}
use Rattle.cover_cert.specs.CoverSearch.{CoverSearch, cover_expand, cover_settled, cover_search_on}
use Rattle.cover_cert.specs.CoverSearchLaws.{CoverSearchGoesByTurns}
use Rattle.cover_cert.proofs.Turns.{search_stops, search_goes, search_ends}

search_from : (g : PebbleGame) (budget : ℕ) (t u : CoverSearch) → cover_settled g t ≡ cover_settled g u → cover_search_on g (suc budget) t ≡ cover_search_on g (suc budget) u
unfolding cover_search_on
search_from g budget t u same = ap (λ s. if_next (next_waiting s.search.entries) s (λ e. cover_search_on g budget (cover_expand g e s))) same

still : (g : PebbleGame) (t : CoverSearch) → settle g (length t.search.entries) t.search ≡ t.search → cover_settled g t ≡ t
still g t same = ap (λ s. record { search = s; names = t.names }) same

none_left : (g : PebbleGame) (budget : ℕ) (t : CoverSearch) → next_waiting t.search.entries ≡ None → cover_search_on g budget t ≡ t
none_left g zero t none = search_ends g t
none_left g (suc budget) t none =
    let same = still g t (settle_still g (length t.search.entries) t.search none) in
    search_stops g budget t (ap (λ t. next_waiting t.search.entries) same ∙ none) ∙ same

pub cover_search_goes_by_turns : CoverSearchGoesByTurns
cover_search_goes_by_turns g t = record {
  budget_spent = search_ends g t;
  none_waits = λ budget none. none_left g budget t none;
  given_up = λ budget e is why. search_from g budget t (record { search = give_up e t.search; names = t.names }) (ap (λ s. record { search = s; names = t.names }) (given_up_settles g t.search e is why));
  expanded = λ budget e is why.
      let same = still g t (settle_unbeaten g (length t.search.entries) t.search e is why) in
      search_goes g budget t e (ap (λ t. next_waiting t.search.entries) same ∙ is) ∙ ap (λ t. cover_search_on g budget (cover_expand g e t)) same;
}
