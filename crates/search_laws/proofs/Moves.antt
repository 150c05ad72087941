-- The search turn by turn.
use Rattle.std.proofs.Common.{◌≡◌, ℕ, zero, suc, ◌+◌, ◌≤◌, Bool, true, false, List, [], ◌∷◌, map, length, cond, ◌⊎◌, inl, inr, refl, sym, ap, ◌∙◌, arith}
use Rattle.std.specs.Prelude.{Option, Some, None}
use Rattle.comp_graph.specs.Games.{PebbleGame}
use Rattle.search_laws.specs.Search.{Entry, Search, given_up, next_waiting, marked_at, expand, is_beaten, give_up, if_next, settle, search_on}
use Rattle.search_laws.specs.SearchLaws.{GoesByTurns, SearchGoesByTurns}
use Rattle.search_laws.specs.Standing.{IsNext}
use Rattle.search_laws.proofs.Entries.{NextCases, next_cases, how_many_wait, wait_within, fewer_wait, none_wait}
use Rattle.search_laws.proofs.Turns.{settled_of, settle_still, nothing_next_waits, search_stops, search_goes, search_ends}

settle_beaten : (g : PebbleGame) (n : ℕ) (t : Search) (e : Entry) → next_waiting t.entries ≡ Some e → is_beaten g t e ≡ true → settle g (suc n) t ≡ settle g n (give_up e t)
unfolding settle
settle_beaten g n t e is why =
    ap (λ o. if_next o t (λ e. cond (is_beaten g t e) (settle g n (give_up e t)) t)) is ∙ ap (λ b. cond b (settle g n (give_up e t)) t) why

pub settle_unbeaten : (g : PebbleGame) (n : ℕ) (t : Search) (e : Entry) → next_waiting t.entries ≡ Some e → is_beaten g t e ≡ false → settle g n t ≡ t
unfolding settle
settle_unbeaten g zero t e is why = refl
settle_unbeaten g (suc n) t e is why =
    ap (λ o. if_next o t (λ e. cond (is_beaten g t e) (settle g n (give_up e t)) t)) is ∙ ap (λ b. cond b (settle g n (give_up e t)) t) why

settle_more : (g : PebbleGame) (n : ℕ) (t : Search) → how_many_wait t.entries ≤ n → settle g (suc n) t ≡ settle g n t
settle_more g zero t few =
    let none = nothing_next_waits t (none_wait t.entries (omega arith)) in
    settle_still g 1 t none ∙ sym (settle_still g zero t none)
settle_more g (suc n) t few = elim (next_cases t.entries) [
  | inl none ↦ settle_still g (suc (suc n)) t none.0 ∙ sym (settle_still g (suc n) t none.0)
  | inr e ↦ by_case e.0 e.1 e.2 (is_beaten g t e.0) refl (let fewer = fewer_wait e.0 t.entries e.2.member e.2.waits in settle_more g n (give_up e.0 t) (omega arith))
]
  where
    by_case : (e : Entry) → next_waiting t.entries ≡ Some e → IsNext t.entries e → (b : Bool) → is_beaten g t e ≡ b
        → settle g (suc n) (give_up e t) ≡ settle g n (give_up e t) → settle g (suc (suc n)) t ≡ settle g (suc n) t
    by_case e is next true why rest = settle_beaten g (suc n) t e is why ∙ rest ∙ sym (settle_beaten g n t e is why)
    by_case e is next false why rest = settle_unbeaten g (suc (suc n)) t e is why ∙ sym (settle_unbeaten g (suc n) t e is why)

same_length : {X Y : Type 0} → (f : X → Y) (xs : List X) → length (map f xs) ≡ length xs
same_length f [] = refl
same_length f (x ∷ xs) = ap suc (same_length f xs)

pub given_up_settles : (g : PebbleGame) (t : Search) (e : Entry) → next_waiting t.entries ≡ Some e → is_beaten g t e ≡ true → settled_of g t ≡ settled_of g (give_up e t)
given_up_settles g t e is why =
    sym (settle_more g (length t.entries) t (wait_within t.entries)) ∙ settle_beaten g (length t.entries) t e is why
    ∙ ap (λ n. settle g n (give_up e t)) (sym (same_length _ t.entries))

search_from : (g : PebbleGame) (budget : ℕ) (t u : Search) → settled_of g t ≡ settled_of g u → search_on g (suc budget) t ≡ search_on g (suc budget) u
unfolding search_on
search_from g budget t u same = ap (λ s. if_next (next_waiting s.entries) s (λ e. search_on g budget (expand g e s))) same

none_left : (g : PebbleGame) (budget : ℕ) (t : Search) → next_waiting t.entries ≡ None → search_on g budget t ≡ t
none_left g zero t none = search_ends g t
none_left g (suc budget) t none =
    let still = settle_still g (length t.entries) t none in
    search_stops g budget t (ap (λ t. next_waiting t.entries) still ∙ none) ∙ still

pub search_goes_by_turns : SearchGoesByTurns
search_goes_by_turns g t = record {
  budget_spent = search_ends g t;
  none_waits = λ budget none. none_left g budget t none;
  given_up = λ budget e is why. search_from g budget t (give_up e t) (given_up_settles g t e is why);
  expanded = λ budget e is why.
      let still = settle_unbeaten g (length t.entries) t e is why in
      search_goes g budget t e (ap (λ t. next_waiting t.entries) still ∙ is) ∙ ap (λ t. search_on g budget (expand g e t)) still;
}
