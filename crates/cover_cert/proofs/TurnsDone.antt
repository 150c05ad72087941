-- The turns of the search that names covering rows, in the packed state.
use Rattle.std.proofs.Common.{◌≡◌, ℕ, suc, ◌+◌, ◌-◌, ◌≤◌, ◌<◌, false, List, [], ◌∷◌, ◌++◌, ◌⊎◌, inl, inr, sym, ap, ◌∙◌, subst, arith}
use Rattle.comp_graph.specs.Dags.{IsDag}
use Rattle.comp_graph.specs.Games.{PebbleGame}
use Rattle.pebble_rules.specs.Rules.{start}
use Rattle.pebble_rules.specs.declared.position.Position.{Position}
use Rattle.pebble_rules.proofs.Possible.{not_member}
use Rattle.normal_steps.specs.Sound.{IsSound}
use Rattle.normal_steps.specs.Steps.{IsFinishing, total_cost}
use Rattle.normal_steps.specs.StepTests.{legal_steps}
use Rattle.normal_steps.specs.declared.step.Step.{Step}
use Rattle.comp_graph.specs.Lists.{IsIn}
use Rattle.forced_bounds.specs.FloorLaws.{FloorOfFinish}
use Rattle.potential_cert.specs.declared.tables.Row.{Row}
use Rattle.search_laws.specs.Search.{waiting, Search, begun, next_waiting, becomes_row, rows_of}
use Rattle.search_laws.specs.Steps.{same_position}
use Rattle.search_laws.proofs.Entries.{rows_in}
use Rattle.search_laws.proofs.Lists.{append_cases, in_left, in_right, map_in, in_map}
use Rattle.search_laws.proofs.Results.{begun_rows}
use Rattle.search_laws.proofs.Tests.{same_position_true, true_same_position}
use Rattle.search_laws.proofs.Turns.{no_row_here, played_sound, rows_after, rows_before, search_ends as plain_ends}
use Rattle.search_laws.specs.Packing.{Store, Best, Packs, entry_at}
use Rattle.search_laws.specs.Turning.{FindsNext, HasNext, HasStopped, IsExpanding, IsUnderWay, Stops, next_entry}
use Rattle.search_laws.proofs.Bounds.{row_places}
use Rattle.search_laws.proofs.Choosing.{is_expanding}
use Rattle.branch_bound.specs.Frontiers.{StandApart}
use Rattle.branch_bound.proofs.RowLaws.{apart_push}
use Rattle.cover_cert.specs.declared.making.Made.{Made}
use Rattle.cover_cert.specs.CoverMaking.{made_namings, made_row, made_rows, naming_of}
use Rattle.cover_cert.specs.CoverSearch.{CoverSearch, Naming, all_named_or_tried, cover_expand, cover_search_on, cover_searched, cover_settled, namings_of}
use Rattle.cover_cert.specs.CoverStanding.{CoverStands}
use Rattle.cover_cert.specs.CoverTurns.{AreMade, AreNamedOrTried, CoverPacks, IsCoverDone, IsCoverUnderWay, IsMadePlace, row_at}
use Rattle.cover_cert.proofs.MadeLists.{append_none, filter_all, filter_append, filter_none, map_push}
use Rattle.cover_cert.proofs.Results.{cover_begun_stands}
use Rattle.cover_cert.proofs.Settled.{HasSettled}
use Rattle.cover_cert.proofs.StepsDone.{all_marked, still_made}
use Rattle.cover_cert.proofs.Turns.{StandsWith, has_cover_expanded, search_ends, search_goes, search_stops, settles}

-- ---- the beginning

-- with no budget the search that the places stand for is the beginning
pub cover_begins : (g : PebbleGame) → IsDag g.dag → (first : List Step) → IsFinishing g (start g) first → (budget : ℕ) (s : Store) (b : Best) → IsUnderWay g first 0 0 s b → IsCoverUnderWay g first budget 0 s b []
cover_begins g dag first finishing budget s b on =
    let search_is : on.search ≡ begun g first = sym (plain_ends g on.search) ∙ on.goes ∙ plain_ends g (begun g first) in
    let packs = subst (Packs g first s b on.plays) search_is on.packs in
    let all : budget - 0 ≡ budget = omega arith in
    record {
      search = record { search = begun g first; names = [] };
      packs = record {
        plays = on.plays;
        packs = packs;
        rows = record {
          places = λ r i. absurd i;
          all = λ r place. absurd (subst (IsIn r) (begun_rows g first) ((row_places g first s b on.plays (begun g first) packs r).1 place));
        };
        apart = λ i j d x y same. absurd (omega arith);
        names = λ m i. absurd i;
      };
      stands = cover_begun_stands g dag first finishing;
      goes = ap (λ n. cover_search_on g n (record { search = begun g first; names = [] })) all;
    }

-- ---- a turn

-- rows, the first of which goes behind the others
made_moved : (s : Store) (r : Row) (rows : List Row) → AreMade s (r ∷ rows) → AreMade s (rows ++ r ∷ [])
made_moved s r rows made = record {
  places = λ x i. elim (append_cases x rows (r ∷ []) i) [ inl old ↦ made.places x (inr old) | inr last ↦ made.places x (first x last) ];
  all = λ x place. by_case x (made.all x place);
}
  where
    first : (x : Row) → IsIn x (r ∷ []) → IsIn x (r ∷ rows)
    first x (inl e) = inl e
    first x (inr i) = absurd i

    by_case : (x : Row) → IsIn x (r ∷ rows) → IsIn x (rows ++ r ∷ [])
    by_case x (inl e) = in_right x rows (r ∷ []) (inl e)
    by_case x (inr i) = in_left x rows (r ∷ []) i

not_same : (p q : Position) → (p ≡ q → ⊥) → same_position p q ≡ false
not_same p q other = not_member _ (λ same. other (same_position_true p q same))

module _ (g : PebbleGame) (dag : IsDag g.dag) (first : List Step) (budget turns : ℕ) (s u : Store) (b : Best) (made : List Made) (on : IsCoverUnderWay g first budget turns s b made) where
  abbrev most : ℕ
  most = total_cost g (start g) first

  abbrev plays : ℕ → List Step
  plays = on.packs.plays

  abbrev names : List Naming
  names = on.search.names

  has_settled : HasSettled g (StandsWith g most names) on.search.search (cover_settled g on.search).search
  has_settled = settles g dag most on.search on.stands

  -- the rows that were made are those of a search into which the beaten entries settle
  made_are : (t : Search) → (cover_settled g on.search).search ≡ t → Packs g first s b plays on.search.search → (r : Row) → (IsIn r (made_rows made) → IsIn r (rows_of t.entries)) × (IsIn r (rows_of t.entries) → IsIn r (made_rows made))
  made_are t same packs r =
      let places = row_places g first s b plays on.search.search packs r in
      let rows = subst (λ t. rows_of t.entries ≡ rows_of on.search.search.entries) same has_settled.rows in (
        λ i. subst (IsIn r) (sym rows) (places.1 (on.packs.rows.places r i)),
        λ i. on.packs.rows.all r (places.0 (subst (IsIn r) rows i)),
      )

  module _ (k : ℕ) (finds : FindsNext s u b k) where
    has : HasNext g most first plays u b on.search.search k
    has = finds g dag most first plays on.search.search on.packs.packs on.stands.kept

    pub cover_expanding : IsExpanding u k
    cover_expanding = is_expanding s u b k g dag most first plays on.search.search has

    pub cover_sound : IsSound g (u.at k).position
    cover_sound = played_sound g dag (u.at k).position (u.at k).cost (plays k) (has.kept.played (next_entry u plays k) has.next.member)

    abbrev next_search : CoverSearch
    next_search = record { search = has.search; names = names }

    next_stands : CoverStands g most next_search
    next_stands = subst (λ t. CoverStands g most (record { search = t; names = names })) has.settles has_settled.stands

    -- the rows, the next one included
    pub cover_made : AreMade u (row_at u k ∷ made_rows made)
    cover_made = record { places = places; all = λ r place. all r place }
      where
        places : (r : Row) → IsIn r (row_at u k ∷ made_rows made) → IsMadePlace u r
        places r (inl e) = (k, has.within, has.is_row, e)
        places r (inr i) =
            (row_places g first u b plays (becomes_row (next_entry u plays k) has.search) has.packs r).0
            (rows_before g dag most has.search has.kept (next_entry u plays k) has.next r ((made_are has.search has.settles on.packs.packs r).0 i))

        by_case : (r : Row) → (r ≡ row_at u k) ⊎ IsIn r (rows_of has.search.entries) → IsIn r (row_at u k ∷ made_rows made)
        by_case r (inl e) = inl e
        by_case r (inr i) = inr ((made_are has.search has.settles on.packs.packs r).1 i)

        all : (r : Row) → IsMadePlace u r → IsIn r (row_at u k ∷ made_rows made)
        all r place = by_case r (rows_after g dag most has.search has.kept (next_entry u plays k) has.next r ((row_places g first u b plays (becomes_row (next_entry u plays k) has.search) has.packs r).1 place))

    -- no row stands where the next one does
    no_row_there : (r : Row) → IsIn r (rows_of has.search.entries) → r.position ≡ (u.at k).position → ⊥
    no_row_there r i same =
        let e = rows_in r has.search.entries i in
        let none = no_row_here g dag most has.search has.kept (next_entry u plays k) has.next e.0 e.1 (sym (ap (λ r. r.position) e.3) ∙ same) in
        let row = e.2 in
        grind arith

    module _ (v : Store) (c : Best) (m : Made) (done : AreNamedOrTried g k 0 u b v c (legal_steps g m.position) (made_namings m)) (row : made_row m ≡ row_at u k) where
      at : m.position ≡ (u.at k).position
      at = ap (λ r. r.position) row

      new_here : (r : Row) → IsIn r (made_rows made) → r.position ≡ m.position → ⊥
      new_here r i same = no_row_there r ((made_are has.search has.settles on.packs.packs r).0 i) (same ∙ at)

      abbrev others : List Naming
      others = made_namings m

      -- each of its names is at its position
      other_row : (n : Naming) → IsIn n others → n.row ≡ m.position
      other_row n i = let x = map_in (naming_of m.position) n m.names.items i in ap (λ n. n.row) x.2

      old_names : (x : Made) → IsIn x made → made_namings x ≡ namings_of (names ++ others) x.position
      old_names x i =
          let differ : m.position ≡ x.position → ⊥ = λ same. new_here (made_row x) (in_map made_row x made i) (sym same) in
          let none : namings_of others x.position ≡ [] =
          filter_none (λ n. same_position n.row x.position) others (λ n j. ap (λ p. same_position p x.position) (other_row n j) ∙ not_same m.position x.position differ) in
          on.packs.names x i ∙ sym (append_none (namings_of names x.position)) ∙ ap (λ ns. namings_of names x.position ++ ns) (sym none)
          ∙ sym (filter_append (λ n. same_position n.row x.position) names others)

      new_names : made_namings m ≡ namings_of (names ++ others) m.position
      new_names =
          let none : namings_of names m.position ≡ [] =
          filter_none (λ n. same_position n.row m.position) names (λ n j. not_same n.row m.position (λ same.
          let good = next_stands.named.good n j in
          no_row_there good.row good.is_row (good.row_at ∙ same ∙ at))) in
          let all : namings_of others m.position ≡ others = filter_all (λ n. same_position n.row m.position) others (λ n j. true_same_position n.row m.position (other_row n j)) in
          sym all ∙ ap (λ ns. ns ++ namings_of others m.position) (sym none) ∙ sym (filter_append (λ n. same_position n.row m.position) names others)

      all_names : (x : Made) → IsIn x made ⊎ IsIn x (m ∷ []) → made_namings x ≡ namings_of (names ++ others) x.position
      all_names x (inl old) = old_names x old
      all_names x (inr (inl e)) = subst (λ x. made_namings x ≡ namings_of (names ++ others) x.position) (sym e) new_names
      all_names x (inr (inr i)) = absurd i

      abbrev went_plays : ℕ → List Step
      went_plays = (done.goes first plays (becomes_row (next_entry u plays k) has.search) has.packs).0

      abbrev went_search : Search
      went_search = (done.goes first plays (becomes_row (next_entry u plays k) has.search) has.packs).2

      abbrev new_search : CoverSearch
      new_search = record { search = went_search; names = names ++ others }

      expanded_is : cover_expand g (next_entry u plays k) next_search ≡ new_search
      unfolding cover_expand
      expanded_is =
          all_marked g waiting (entry_at u plays k) 0 (legal_steps g (u.at k).position) (record { search = becomes_row (next_entry u plays k) has.search; names = names })
          ∙ ap (λ p. all_named_or_tried g (entry_at u plays k) 0 (legal_steps g p) (record { search = becomes_row (next_entry u plays k) has.search; names = names })) (sym at)
          ∙ (done.goes first plays (becomes_row (next_entry u plays k) has.search) has.packs).4 names

      goes_on : turns < budget → cover_search_on g (budget - (turns + 1)) new_search ≡ cover_searched g first budget
      goes_on less =
          let n = budget - (turns + 1) in
          let left : budget - turns ≡ suc (budget - (turns + 1)) = omega arith in
          ap (cover_search_on g n) (sym expanded_is)
          ∙ ap (λ t. cover_search_on g n (cover_expand g (next_entry u plays k) (record { search = t; names = names }))) (sym has.settles)
          ∙ sym (search_goes g n on.search (next_entry u plays k) (ap (λ t. next_waiting t.entries) has.settles ∙ has.is_next))
          ∙ ap (λ n. cover_search_on g n on.search) (sym left) ∙ on.goes

      rows_now : AreMade v (made_rows (made ++ m ∷ []))
      rows_now =
          subst (AreMade v) (sym (map_push made_row made m))
          (made_moved v (made_row m) (made_rows made) (subst (λ r. AreMade v (r ∷ made_rows made)) (sym row) (still_made u v (row_at u k ∷ made_rows made) done.grows done.rows done.still cover_made)))

      pub cover_turned : FloorOfFinish → turns < budget → IsCoverUnderWay g first budget (turns + 1) v c (made ++ m ∷ [])
      cover_turned ends less = record {
        search = new_search;
        packs = record {
          plays = went_plays;
          packs = (done.goes first plays (becomes_row (next_entry u plays k) has.search) has.packs).3;
          rows = rows_now;
          apart = subst StandApart (sym (map_push made_row made m)) (apart_push (made_rows made) (made_row m) on.packs.apart new_here);
          names = λ x i. all_names x (append_cases x made (m ∷ []) i);
        };
        stands = subst (CoverStands g most) expanded_is (has_cover_expanded ends g dag most next_search next_stands (next_entry u plays k) has.next).stands;
        goes = goes_on less;
      }

  -- no entry waits
  pub cover_stopped : turns < budget → Stops s u b → IsCoverDone g first budget u b made
  cover_stopped less stops = subst (CoverPacks g first u b made) (ended (stopped stops)) (packed (stopped stops))
    where
      stopped : Stops s u b → HasStopped g most first plays u b on.search.search
      stopped stops = stops g dag most first plays on.search.search on.packs.packs on.stands.kept

      ended : (has : HasStopped g most first plays u b on.search.search) → record { search = has.search; names = names } ≡ cover_searched g first budget
      ended has =
          let left : budget - turns ≡ suc (budget - (turns + 1)) = omega arith in
          ap (λ t. record { search = t; names = names }) (sym has.settles)
          ∙ sym (search_stops g (budget - (turns + 1)) on.search (ap (λ t. next_waiting t.entries) has.settles ∙ has.none_waits))
          ∙ ap (λ n. cover_search_on g n on.search) (sym left) ∙ on.goes

      packed : (has : HasStopped g most first plays u b on.search.search) → CoverPacks g first u b made (record { search = has.search; names = names })
      packed has = record {
        plays = plays;
        packs = has.packs;
        rows = record {
          places = λ r i. (row_places g first u b plays has.search has.packs r).0 ((made_are has.search has.settles on.packs.packs r).0 i);
          all = λ r place. (made_are has.search has.settles on.packs.packs r).1 ((row_places g first u b plays has.search has.packs r).1 place);
        };
        apart = on.packs.apart;
        names = on.packs.names;
      }

-- the budget is spent
pub cover_done : (g : PebbleGame) (first : List Step) (budget turns : ℕ) (s : Store) (b : Best) (made : List Made) → budget ≤ turns → IsCoverUnderWay g first budget turns s b made → IsCoverDone g first budget s b made
cover_done g first budget turns s b made all on =
    let none : budget - turns ≡ 0 = omega arith in
    subst (CoverPacks g first s b made) (sym (search_ends g on.search) ∙ ap (λ n. cover_search_on g n on.search) (sym none) ∙ on.goes) on.packs
