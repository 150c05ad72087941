-- A search adds only rows that cost less than its first plan.
use Rattle.std.proofs.Common.{◌≡◌, ◌⊎◌, ℕ, zero, suc, ◌+◌, ◌≤◌, ◌<◌, false, List, [], inl, inr, ap, subst, arith}
use Rattle.std.proofs.lemmas.Bool.{cases_lt}
use Rattle.comp_graph.specs.Dags.{IsDag}
use Rattle.comp_graph.specs.Games.{PebbleGame}
use Rattle.pebble_rules.specs.Rules.{start}
use Rattle.normal_steps.specs.Steps.{IsFinishing, total_cost}
use Rattle.normal_steps.specs.declared.step.Step.{Step}
use Rattle.forced_bounds.specs.Floor.{floor}
use Rattle.forced_bounds.specs.FloorLaws.{FloorOfFinish}
use Rattle.comp_graph.specs.Lists.{IsIn}
use Rattle.potential_cert.specs.declared.tables.Row.{Row}
use Rattle.search_laws.specs.Search.{Entry, Search, begun, is_beaten, rows_of}
use Rattle.search_laws.specs.Standing.{row_of}
use Rattle.search_laws.proofs.Results.{begun_rows}
use Rattle.search_laws.proofs.Tests.{true_leb}
use Rattle.cover_cert.specs.CoverSearch.{CoverSearch, cover_expand, cover_search_on, cover_settled, rows_covered}
use Rattle.cover_cert.proofs.Results.{cover_begun_stands}
use Rattle.cover_cert.specs.CoverStanding.{CoverStands}
use Rattle.cover_cert.proofs.Turns.{HasCoverExpanded, has_cover_expanded, search_ends, search_goes, search_stops, settles}

added_are_cheap : FloorOfFinish → (g : PebbleGame) → IsDag g.dag → (first budget : ℕ) (t : CoverSearch) → CoverStands g first t → (r : Row) → IsIn r (rows_of (cover_search_on g budget t).search.entries)
    → IsIn r (rows_of t.search.entries) ⊎ (r.cost < first)
added_are_cheap ends g dag first zero t stands r i = inl (subst (λ (u : CoverSearch). IsIn r (rows_of u.search.entries)) (search_ends g t) i)
added_are_cheap ends g dag first (suc budget) t stands r i =
    let given = settles g dag first t stands in
    elim given.goes_on [
      | inl none ↦ inl (subst (λ rows. IsIn r rows) given.rows (subst (λ (u : CoverSearch). IsIn r (rows_of u.search.entries)) (search_stops g budget t none.0) i))
      | inr e ↦
          let made = has_cover_expanded ends g dag first (cover_settled g t) given.stands e.0 e.2 in
          one_more e.0 given.rows given.stands e.3 made
          (added_are_cheap ends g dag first budget (cover_expand g e.0 (cover_settled g t)) made.stands r (subst (λ (u : CoverSearch). IsIn r (rows_of u.search.entries)) (search_goes g budget t e.0 e.1) i))
    ]
  where
    cheap : (e : Entry) (u : Search) → u.cost ≤ first → is_beaten g u e ≡ false → r ≡ row_of e → r.cost < first
    cheap e u most beaten same = elim (cases_lt (e.cost + floor g e.position) u.cost) [
      | inl less ↦ let cost = ap (λ (q : Row). q.cost) same in omega (arith, less, most, cost)
      | inr more ↦ absurd (let true_here = true_leb u.cost (e.cost + floor g e.position) (omega (arith, more)) in cc)
    ]

    one_more : (e : Entry) → rows_of (cover_settled g t).search.entries ≡ rows_of t.search.entries → CoverStands g first (cover_settled g t) → is_beaten g (cover_settled g t).search e ≡ false
        → HasCoverExpanded g first (cover_settled g t) e (cover_expand g e (cover_settled g t)) → IsIn r (rows_of (cover_expand g e (cover_settled g t)).search.entries) ⊎ (r.cost < first)
        → IsIn r (rows_of t.search.entries) ⊎ (r.cost < first)
    one_more e rows given beaten made (inr less) = inr less
    one_more e rows given beaten made (inl row) = elim (made.after r row) [
      | inl new ↦ inr (cheap e (cover_settled g t).search given.kept.no_more beaten new)
      | inr old ↦ inl (subst (λ rows. IsIn r rows) rows old)
    ]

-- each row of the search costs less than its first plan
pub cover_rows_are_cheap : FloorOfFinish → (g : PebbleGame) → IsDag g.dag → (plan : List Step) → IsFinishing g (start g) plan → (budget : ℕ) → (r : Row) → IsIn r (rows_covered g plan budget)
    → r.cost < total_cost g (start g) plan
cover_rows_are_cheap ends g dag plan finishing budget r i =
    elim (added_are_cheap ends g dag (total_cost g (start g) plan) budget (record { search = begun g plan; names = [] }) (cover_begun_stands g dag plan finishing) r i) [
      | inl old ↦ absurd (subst (λ rows. IsIn r rows) (begun_rows g plan) old)
      | inr less ↦ less
    ]
