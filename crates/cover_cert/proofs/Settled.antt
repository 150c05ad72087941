-- Giving up beaten entries keeps whatever giving up one keeps.
use Rattle.std.proofs.Common.{◌≡◌, ℕ, zero, suc, ◌≤◌, Bool, true, false, length, cond, inl, inr, refl, sym, ap, ◌∙◌, subst, arith}
use Rattle.std.specs.Prelude.{Some}
use Rattle.comp_graph.specs.Dags.{IsDag}
use Rattle.comp_graph.specs.Games.{PebbleGame}
use Rattle.search_laws.specs.Search.{Entry, Search, next_waiting, is_beaten, give_up, if_next, settle, rows_of}
use Rattle.search_laws.specs.Standing.{IsNext, IsKept}
use Rattle.search_laws.proofs.Entries.{next_cases, how_many_wait, wait_within, fewer_wait, none_wait}
use Rattle.search_laws.proofs.Turns.{CanGoOn, same_rows, nothing_next}

pub record HasSettled (g : PebbleGame) (P : Search → Type 0) (t u : Search) : Type 0 where
  pub stands : P u
  pub rows : rows_of u.entries ≡ rows_of t.entries
  pub goes_on : CanGoOn g u

module _ (g : PebbleGame) (dag : IsDag g.dag) (first : ℕ) (P : Search → Type 0) (kept : (t : Search) → P t → IsKept g first t)
    (given_up : (t : Search) → P t → (e : Entry) → IsNext t.entries e → is_beaten g t e ≡ true → P (give_up e t)) where
  stays_as_it_is : (t u : Search) → P t → CanGoOn g t → u ≡ t → HasSettled g P t u
  stays_as_it_is t u stands on same = subst (HasSettled g P t) (sym same) (record { stands = stands; rows = refl; goes_on = on })

  settle_next : (n : ℕ) (t : Search) → P t → (e : Entry) → next_waiting t.entries ≡ Some e → IsNext t.entries e → (b : Bool) → is_beaten g t e ≡ b
      → (is_beaten g t e ≡ true → HasSettled g P (give_up e t) (settle g n (give_up e t))) → HasSettled g P t (settle g (suc n) t)
  unfolding settle
  settle_next n t stands e is next true why rest =
      let given = rest why in
      let same : settle g (suc n) t ≡ settle g n (give_up e t) =
      ap (λ o. if_next o t (λ e. cond (is_beaten g t e) (settle g n (give_up e t)) t)) is ∙ ap (λ b. cond b (settle g n (give_up e t)) t) why in
      subst (HasSettled g P t) (sym same)
      (record { stands = given.stands; rows = given.rows ∙ same_rows g dag first t (kept t stands) e next; goes_on = given.goes_on })
  settle_next n t stands e is next false why rest =
      stays_as_it_is t _ stands (inr (e, is, next, why))
      (ap (λ o. if_next o t (λ e. cond (is_beaten g t e) (settle g n (give_up e t)) t)) is ∙ ap (λ b. cond b (settle g n (give_up e t)) t) why)

  settle_keeps : (n : ℕ) (t : Search) → P t → how_many_wait t.entries ≤ n → HasSettled g P t (settle g n t)
  unfolding settle
  settle_keeps zero t stands few =
      let none = none_wait t.entries (omega arith) in
      record { stands = stands; rows = refl; goes_on = inl (nothing_next t none (next_cases t.entries), none) }
  settle_keeps (suc n) t stands few = elim (next_cases t.entries) [
    | inl none ↦ stays_as_it_is t _ stands (inl none) (ap (λ o. if_next o t (λ e. cond (is_beaten g t e) (settle g n (give_up e t)) t)) none.0)
    | inr e ↦
        settle_next n t stands e.0 e.1 e.2 (is_beaten g t e.0) refl
        (λ why.
        let fewer = fewer_wait e.0 t.entries e.2.member e.2.waits in
        settle_keeps n (give_up e.0 t) (given_up t stands e.0 e.2 why) (omega arith))
  ]

  pub settled_keeps : (t : Search) → P t → HasSettled g P t (settle g (length t.entries) t)
  settled_keeps t stands = settle_keeps (length t.entries) t stands (wait_within t.entries)
