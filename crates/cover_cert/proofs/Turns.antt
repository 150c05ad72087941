-- The turns of the search that names covering rows.
use Rattle.std.proofs.Common.{◌≡◌, ℕ, zero, suc, ◌+◌, ◌≤◌, ◌<◌, true, List, [], ◌∷◌, ◌++◌, length, ◌⊎◌, inl, inr, refl, sym, ap, ◌∙◌, subst, arith}
use Rattle.std.specs.Prelude.{Option, Some, None}
use Rattle.comp_graph.specs.Dags.{IsDag}
use Rattle.comp_graph.specs.Games.{PebbleGame}
use Rattle.pebble_rules.specs.declared.position.Position.{Position}
use Rattle.normal_steps.specs.Steps.{IsStep, stepped, step_cost}
use Rattle.normal_steps.specs.StepTests.{legal_steps}
use Rattle.normal_steps.specs.declared.step.Step.{Step}
use Rattle.comp_graph.specs.Lists.{IsIn}
use Rattle.forced_bounds.specs.FloorLaws.{FloorOfFinish}
use Rattle.potential_cert.specs.declared.tables.Row.{Row}
use Rattle.search_laws.specs.Search.{expanded, given_up, Entry, Search, next_waiting, step_tried, becomes_row, is_beaten, give_up, if_next, rows_of}
use Rattle.search_laws.proofs.Lists.{in_left, in_right, append_cases}
use Rattle.search_laws.proofs.Tests.{legal_steps_legal}
use Rattle.search_laws.specs.Standing.{row_of, IsNext, IsReachedBy, HasEntryWithin, start_row, IsKept}
use Rattle.search_laws.proofs.Entries.{NoneWaits, rows_in, in_rows, one_row_more}
use Rattle.search_laws.proofs.Kept.{play_push, is_tried}
use Rattle.search_laws.proofs.Turns.{waiting_no_row, within_marked, played_sound, rows_after, rows_before, row_new, started, becomes_row_kept, rows_below, no_row_here, same_rows, given_up_kept}
use Rattle.potential_cert.specs.Places.{IsAt}
use Rattle.cover_cert.specs.CoverTable.{CanBeNamed}
use Rattle.cover_cert.specs.CoverSearch.{Naming, CoverSearch, named_or_tried, all_named_or_tried, cover_expand, cover_settled, cover_search_on}
use Rattle.cover_cert.proofs.Namings.{IsCovering, NamedCases, named_cases, namings_more, namings_push}
use Rattle.cover_cert.proofs.Settled.{HasSettled, settled_keeps}
use Rattle.cover_cert.specs.CoverStanding.{IsGoodNaming, AreNamings, IsSettledOrNamed, CoverStands}

-- the names of steps from p are at places below k
abbrev NamingsBelow : Position → ℕ → List Naming → Type 0
NamingsBelow p k names = (n : Naming) → IsIn n names → n.row ≡ p → n.step < k

-- ---- one step

-- the search u after the search t, once the step at place k from an entry's position has a name or is tried
record IsDone (g : PebbleGame) (first : ℕ) (e : Entry) (k : ℕ) (s : Step) (t u : CoverSearch) : Type 0 where
  kept : IsKept g first u.search
  rows : rows_of u.search.entries ≡ rows_of t.search.entries
  lower : u.search.cost ≤ t.search.cost
  stay : (p : Position) (c : ℕ) → HasEntryWithin t.search.entries p c → HasEntryWithin u.search.entries p c
  named : AreNamings g (rows_of u.search.entries) u.names
  more : (n : Naming) → IsIn n t.names → IsIn n u.names
  below : NamingsBelow e.position (suc k) u.names
  settled : IsSettledOrNamed g u (row_of e) k s

abbrev naming : Entry → ℕ → Entry → Naming
naming e k f = record { row = e.position; step = k; by = f.position }

module _ (ends : FloorOfFinish) (g : PebbleGame) (dag : IsDag g.dag) (first : ℕ) (e : Entry) (played : IsReachedBy g e.position e.cost e.play) where
  module _ (k : ℕ) (s : Step) (at : IsAt s k (legal_steps g e.position)) (step : IsStep g e.position s) (t : CoverSearch) (kept : IsKept g first t.search)
      (below : (r : Row) → IsIn r (rows_of t.search.entries) → r.cost ≤ e.cost) (begins : IsIn (start_row g) (rows_of t.search.entries))
      (here : IsIn (row_of e) (rows_of t.search.entries)) (named : AreNamings g (rows_of t.search.entries) t.names) (before : NamingsBelow e.position k t.names) where
    is_tried_here : IsDone g first e k s t (record { search = step_tried g e t.search s; names = t.names })
    is_tried_here =
        let tried = is_tried ends g dag first (stepped g e.position s) (e.cost + step_cost g e.position s) (e.play ++ s ∷ [])
        (play_push g e.position e.cost e.play s played step) t.search kept (λ r i. let most = below r i in omega arith) begins in
        record {
          kept = tried.kept;
          rows = tried.rows;
          lower = tried.lower;
          stay = tried.stay;
          named = namings_more g (rows_of t.search.entries) _ t.names (λ r i. subst (λ rows. IsIn r rows) (sym tried.rows) i) named;
          more = λ n i. i;
          below = λ n i same. let less = before n i same in omega arith;
          settled = inr tried.settled;
        }

    is_named_here : (f : Entry) → IsCovering g (stepped g e.position s) (e.cost + step_cost g e.position s) t.search.entries f → CanBeNamed s
        → IsDone g first e k s t (record { search = t.search; names = t.names ++ naming e k f ∷ [] })
    is_named_here f is can = record {
      kept = kept;
      rows = refl;
      lower = omega arith;
      stay = λ p c has. has;
      named = namings_push g (rows_of t.search.entries) t.names (naming e k f) named good before;
      more = λ n i. in_left n t.names (naming e k f ∷ []) i;
      below = λ n i same. elim (append_cases n t.names (naming e k f ∷ []) i) [
        | inl old ↦ let less = before n old same in omega arith
        | inr last ↦ let place = ap (λ n. n.step) (last_in n last) in omega arith
      ];
      settled = inl (naming e k f, in_right (naming e k f) t.names (naming e k f ∷ []) (inl refl), refl, refl);
    }
      where
        last_in : (n : Naming) → IsIn n (naming e k f ∷ []) → n ≡ naming e k f
        last_in n (inl same) = same
        last_in n (inr i) = absurd i

        good : IsGoodNaming g (rows_of t.search.entries) (naming e k f)
        good = record {
          row = row_of e;
          is_row = here;
          row_at = refl;
          by = row_of f;
          is_by = in_rows f t.search.entries is.member is.row;
          by_at = refl;
          step = s;
          is_step = at;
          can_be_named = can;
          covers = is.covers;
          costs = is.costs;
        }

    abbrev after_name : Option Entry → CoverSearch
    after_name o = if_next o (record { search = step_tried g e t.search s; names = t.names }) (λ f. record { search = t.search; names = t.names ++ naming e k f ∷ [] })

    done_by : (o : Option Entry) → NamedCases g s (stepped g e.position s) (e.cost + step_cost g e.position s) t.search.entries o → IsDone g first e k s t (after_name o)
    done_by o (inl none) = subst (λ o. IsDone g first e k s t (after_name o)) (sym none) is_tried_here
    done_by o (inr f) = subst (λ o. IsDone g first e k s t (after_name o)) (sym f.1) (is_named_here f.0 f.3 f.2)

    is_done : IsDone g first e k s t (named_or_tried g e k s t)
    unfolding named_or_tried
    is_done = done_by _ (named_cases g dag s (stepped g e.position s) (e.cost + step_cost g e.position s) t.search.entries)

  -- ---- all steps

  -- the search u after the search t, once these steps, the first of which stands at place k, have names or are tried
  record AreDone (k : ℕ) (ss : List Step) (t u : CoverSearch) : Type 0 where
    kept : IsKept g first u.search
    rows : rows_of u.search.entries ≡ rows_of t.search.entries
    lower : u.search.cost ≤ t.search.cost
    stay : (p : Position) (c : ℕ) → HasEntryWithin t.search.entries p c → HasEntryWithin u.search.entries p c
    named : AreNamings g (rows_of u.search.entries) u.names
    more : (n : Naming) → IsIn n t.names → IsIn n u.names
    settled : (i j : ℕ) → i ≡ k + j → (s : Step) → IsAt s j ss → IsSettledOrNamed g u (row_of e) i s

  -- a settled step stays one
  still : (t u : CoverSearch) (r : Row) (k : ℕ) (s : Step) → u.search.cost ≤ t.search.cost
      → ((p : Position) (c : ℕ) → HasEntryWithin t.search.entries p c → HasEntryWithin u.search.entries p c) → ((n : Naming) → IsIn n t.names → IsIn n u.names)
      → IsSettledOrNamed g t r k s → IsSettledOrNamed g u r k s
  still t u r k s lower stay more (inl n) = inl (n.0, more n.0 n.1, n.2, n.3)
  still t u r k s lower stay more (inr (inl beaten)) = inr (inl (omega arith))
  still t u r k s lower stay more (inr (inr has)) = inr (inr (stay _ _ has))

  are_done : (k : ℕ) (ss : List Step) → ((i j : ℕ) → i ≡ k + j → (s : Step) → IsAt s j ss → IsAt s i (legal_steps g e.position)) → ((s : Step) → IsIn s ss → IsStep g e.position s)
      → (t : CoverSearch) → IsKept g first t.search
      → ((r : Row) → IsIn r (rows_of t.search.entries) → r.cost ≤ e.cost) → IsIn (start_row g) (rows_of t.search.entries)
      → IsIn (row_of e) (rows_of t.search.entries) → AreNamings g (rows_of t.search.entries) t.names → NamingsBelow e.position k t.names
      → AreDone k ss t (all_named_or_tried g e k ss t)
  are_done k [] places legal t kept below begins here named before = record {
    kept = kept;
    rows = refl;
    lower = omega arith;
    stay = λ p c has. has;
    named = named;
    more = λ n i. i;
    settled = λ i j same s h. absurd h;
  }
  are_done k (s ∷ ss) places legal t kept below begins here named before =
      let one = is_done k s (places k zero (omega arith) s refl) (legal s (inl refl)) t kept below begins here named before in
      let rest = are_done (suc k) ss (λ i j same x h. places i (suc j) (omega arith) x h) (λ x i. legal x (inr i)) (named_or_tried g e k s t) one.kept
      (λ r i. below r (subst (λ rows. IsIn r rows) one.rows i)) (subst (λ rows. IsIn (start_row g) rows) (sym one.rows) begins)
      (subst (λ rows. IsIn (row_of e) rows) (sym one.rows) here) one.named one.below in
      record {
        kept = rest.kept;
        rows = rest.rows ∙ one.rows;
        lower = let a = one.lower in let b = rest.lower in omega arith;
        stay = λ p c has. rest.stay p c (one.stay p c has);
        named = rest.named;
        more = λ n i. rest.more n (one.more n i);
        settled = λ i j same x h. by_place i j same x h
            (still (named_or_tried g e k s t) (all_named_or_tried g e (suc k) ss (named_or_tried g e k s t)) (row_of e) k s rest.lower rest.stay rest.more one.settled)
            (rest.settled i);
      }
    where
      by_place : (i j : ℕ) → i ≡ k + j → (x : Step) → IsAt x j (s ∷ ss)
          → IsSettledOrNamed g (all_named_or_tried g e (suc k) ss (named_or_tried g e k s t)) (row_of e) k s
          → ((j : ℕ) → i ≡ suc k + j → (x : Step) → IsAt x j ss → IsSettledOrNamed g (all_named_or_tried g e (suc k) ss (named_or_tried g e k s t)) (row_of e) i x)
          → IsSettledOrNamed g (all_named_or_tried g e (suc k) ss (named_or_tried g e k s t)) (row_of e) i x
      by_place i zero same x h first_settled rest =
          let place : i ≡ k = omega arith in
          subst (λ x. IsSettledOrNamed g (all_named_or_tried g e (suc k) ss (named_or_tried g e k s t)) (row_of e) i x) (sym h)
          (subst (λ i. IsSettledOrNamed g (all_named_or_tried g e (suc k) ss (named_or_tried g e k s t)) (row_of e) i s) (sym place) first_settled)
      by_place i (suc j) same x h first_settled rest = rest j (omega arith) x h

-- ---- expanding

pub record HasCoverExpanded (g : PebbleGame) (first : ℕ) (t : CoverSearch) (e : Entry) (u : CoverSearch) : Type 0 where
  pub stands : CoverStands g first u
  pub after : (r : Row) → IsIn r (rows_of u.search.entries) → (r ≡ row_of e) ⊎ IsIn r (rows_of t.search.entries)
  pub count : length (rows_of u.search.entries) ≡ length (rows_of t.search.entries) + 1

-- no step from a position that waits has a name yet
none_named : (g : PebbleGame) (dag : IsDag g.dag) (first : ℕ) (t : CoverSearch) → CoverStands g first t → (e : Entry) → IsNext t.search.entries e → NamingsBelow e.position 0 t.names
none_named g dag first t stands e next n i same =
    let is = stands.named.good n i in
    let f = rows_in is.row t.search.entries is.is_row in
    absurd (
    let marks = no_row_here g dag first t.search stands.kept e next f.0 f.1 (sym (ap (λ r. r.position) f.3) ∙ is.row_at ∙ same) in
    let row = f.2 in
    grind arith)

abbrev made : PebbleGame → CoverSearch → Entry → CoverSearch
made g t e = all_named_or_tried g e 0 (legal_steps g e.position) (record { search = becomes_row e t.search; names = t.names })

pub has_cover_expanded : FloorOfFinish → (g : PebbleGame) → IsDag g.dag → (first : ℕ) (t : CoverSearch) → CoverStands g first t → (e : Entry) → IsNext t.search.entries e
    → HasCoverExpanded g first t e (cover_expand g e t)
unfolding cover_expand
has_cover_expanded ends g dag first t stands e next =
    let played = stands.kept.played e next.member in
    let all = are_done ends g dag first e played 0 (legal_steps g e.position) (λ i j same s h. subst (λ i. IsAt s i (legal_steps g e.position)) (same_place i j same) h)
    (legal_steps_legal g dag e.position (played_sound g dag e.position e.cost e.play played)) (record { search = becomes_row e t.search; names = t.names })
    (becomes_row_kept g dag first t.search stands.kept e next) (rows_below g dag first t.search stands.kept e next) (started g dag first t.search stands.kept e next)
    (row_new g dag first t.search stands.kept e next)
    (namings_more g (rows_of t.search.entries) _ t.names (rows_before g dag first t.search stands.kept e next) stands.named)
    (none_named g dag first t stands e next) in
    record {
      stands = record {
        kept = all.kept;
        settled = λ r i k s at. settled_by r k s at all (rows_after g dag first t.search stands.kept e next r (subst (λ rows. IsIn r rows) all.rows i));
        named = all.named;
      };
      after = λ r i. rows_after g dag first t.search stands.kept e next r (subst (λ rows. IsIn r rows) all.rows i);
      count = ap length all.rows ∙ one_row_more e t.search.entries stands.kept.apart next.member (waiting_no_row e.mark next.waits);
    }
  where
    same_place : (i j : ℕ) → i ≡ 0 + j → j ≡ i
    same_place i j h = omega arith

    settled_by : (r : Row) (k : ℕ) (s : Step) → IsAt s k (legal_steps g r.position)
        → AreDone ends g dag first e (stands.kept.played e next.member) 0 (legal_steps g e.position) (record { search = becomes_row e t.search; names = t.names }) (made g t e)
        → (r ≡ row_of e) ⊎ IsIn r (rows_of t.search.entries) → IsSettledOrNamed g (made g t e) r k s
    settled_by r k s at all (inl same) =
        subst (λ r. IsSettledOrNamed g (made g t e) r k s) (sym same) (all.settled k k (omega arith) s (subst (λ r. IsAt s k (legal_steps g r.position)) same at))
    settled_by r k s at all (inr old) = elim (stands.settled r old k s at) [
      | inl n ↦ inl (n.0, all.more n.0 n.1, n.2, n.3)
      | inr (inl beaten) ↦ let lower = all.lower in inr (inl (omega arith))
      | inr (inr has) ↦ inr (inr (all.stay _ _ (within_marked expanded e.position t.search.entries _ _ has)))
    ]

-- ---- giving up

cover_given_up : (g : PebbleGame) → IsDag g.dag → (first : ℕ) (names : List Naming) (t : Search) → CoverStands g first (record { search = t; names = names })
    → (e : Entry) → IsNext t.entries e → is_beaten g t e ≡ true → CoverStands g first (record { search = give_up e t; names = names })
cover_given_up g dag first names t stands e next why = record {
  kept = given_up_kept g dag first t stands.kept e next why;
  settled = λ r i k s at. settled_by r k s (stands.settled r (subst (λ rows. IsIn r rows) (same_rows g dag first t stands.kept e next) i) k s at);
  named = subst (λ rows. AreNamings g rows names) (sym (same_rows g dag first t stands.kept e next)) stands.named;
}
  where
    settled_by : (r : Row) (k : ℕ) (s : Step) → IsSettledOrNamed g (record { search = t; names = names }) r k s → IsSettledOrNamed g (record { search = give_up e t; names = names }) r k s
    settled_by r k s (inl n) = inl n
    settled_by r k s (inr (inl beaten)) = inr (inl beaten)
    settled_by r k s (inr (inr has)) = inr (inr (within_marked given_up e.position t.entries _ _ has))

abbrev pub StandsWith : PebbleGame → ℕ → List Naming → Search → Type 0
StandsWith g first names t = CoverStands g first (record { search = t; names = names })

pub settles : (g : PebbleGame) → IsDag g.dag → (first : ℕ) (t : CoverSearch) → CoverStands g first t
    → HasSettled g (StandsWith g first t.names) t.search (cover_settled g t).search
settles g dag first t stands = settled_keeps g dag first (StandsWith g first t.names) (λ t stands. stands.kept) (cover_given_up g dag first t.names) t.search stands

-- ---- searching

pub record HasCoverSearched (g : PebbleGame) (first budget : ℕ) (t u : CoverSearch) : Type 0 where
  pub stands : CoverStands g first u
  pub count : (length (rows_of u.search.entries) ≡ length (rows_of t.search.entries) + budget)
      ⊎ ((length (rows_of u.search.entries) ≤ length (rows_of t.search.entries) + budget) × NoneWaits u.search.entries)

pub search_stops : (g : PebbleGame) (budget : ℕ) (t : CoverSearch) → next_waiting (cover_settled g t).search.entries ≡ None → cover_search_on g (suc budget) t ≡ cover_settled g t
unfolding cover_search_on
search_stops g budget t none = ap (λ o. if_next o (cover_settled g t) (λ e. cover_search_on g budget (cover_expand g e (cover_settled g t)))) none

pub search_goes : (g : PebbleGame) (budget : ℕ) (t : CoverSearch) (e : Entry) → next_waiting (cover_settled g t).search.entries ≡ Some e
    → cover_search_on g (suc budget) t ≡ cover_search_on g budget (cover_expand g e (cover_settled g t))
unfolding cover_search_on
search_goes g budget t e is = ap (λ o. if_next o (cover_settled g t) (λ e. cover_search_on g budget (cover_expand g e (cover_settled g t)))) is

pub search_ends : (g : PebbleGame) (t : CoverSearch) → cover_search_on g zero t ≡ t
unfolding cover_search_on
search_ends g t = refl

pub has_cover_searched : FloorOfFinish → (g : PebbleGame) → IsDag g.dag → (first budget : ℕ) (t : CoverSearch) → CoverStands g first t
    → HasCoverSearched g first budget t (cover_search_on g budget t)
has_cover_searched ends g dag first zero t stands = subst (HasCoverSearched g first zero t) (sym (search_ends g t)) (record { stands = stands; count = inl (omega arith) })
has_cover_searched ends g dag first (suc budget) t stands =
    let given = settles g dag first t stands in
    elim given.goes_on [
      | inl none ↦
          subst (HasCoverSearched g first (suc budget) t) (sym (search_stops g budget t none.0))
          (record { stands = given.stands; count = inr (let same = ap length given.rows in omega arith, none.1) })
      | inr e ↦
          let made = has_cover_expanded ends g dag first (cover_settled g t) given.stands e.0 e.2 in
          subst (HasCoverSearched g first (suc budget) t) (sym (search_goes g budget t e.0 e.1))
          (one_more e.0 made given.rows (has_cover_searched ends g dag first budget (cover_expand g e.0 (cover_settled g t)) made.stands))
    ]
  where
    one_more : (e : Entry) → HasCoverExpanded g first (cover_settled g t) e (cover_expand g e (cover_settled g t)) → rows_of (cover_settled g t).search.entries ≡ rows_of t.search.entries
        → HasCoverSearched g first budget (cover_expand g e (cover_settled g t)) (cover_search_on g budget (cover_expand g e (cover_settled g t)))
        → HasCoverSearched g first (suc budget) t (cover_search_on g budget (cover_expand g e (cover_settled g t)))
    one_more e made rows rest = record {
      stands = rest.stands;
      count = elim rest.count [
        | inl all ↦ inl (let same = ap length rows in let count = made.count in omega arith)
        | inr few ↦ inr (let same = ap length rows in let count = made.count in omega (arith, few.0), few.1)
      ];
    }
