-- Steps from a row get names or are tried, in the packed state.
use Rattle.std.proofs.Common.{◌≡◌, ℕ, suc, ◌+◌, ◌≤◌, ◌<◌, true, List, [], ◌∷◌, ◌++◌, length, None, Some, ◌↔◌, refl, sym, ap, ◌∙◌, subst, arith, append_assoc}
use Rattle.comp_graph.specs.Dags.{IsDag}
use Rattle.comp_graph.specs.Games.{PebbleGame}
use Rattle.pebble_rules.specs.declared.position.Position.{Position}
use Rattle.normal_steps.specs.Steps.{stepped, step_cost}
use Rattle.normal_steps.specs.declared.step.Step.{Step}
use Rattle.comp_graph.specs.Lists.{IsIn}
use Rattle.potential_cert.specs.declared.tables.Row.{Row}
use Rattle.search_laws.specs.Search.{Mark, is_expanded, Entry, Search, if_next, rows_of, step_tried}
use Rattle.search_laws.specs.Packing.{Store, Best, Packs, entry_at, entry_of}
use Rattle.search_laws.specs.Turning.{AreTried}
use Rattle.search_laws.proofs.Bounds.{row_places}
use Rattle.cover_cert.specs.CoverMaking.{NamesFirst}
use Rattle.cover_cert.specs.CoverSearch.{CoverSearch, Naming, all_named_or_tried, named_or_tried}
use Rattle.cover_cert.specs.CoverTurns.{AreMade, AreNamedOrTried, row_at}
use Rattle.cover_cert.proofs.FirstFits.{names_none, names_some}
use Rattle.cover_cert.proofs.MadeLists.{append_none}

-- ---- joining

all_append : (g : PebbleGame) (e : Entry) (k : ℕ) (xs ys : List Step) (t : CoverSearch) → all_named_or_tried g e k (xs ++ ys) t ≡ all_named_or_tried g e (k + length xs) ys (all_named_or_tried g e k xs t)
all_append g e k [] ys t = let same : k ≡ k + length {A = Step} [] = omega arith in ap (λ n. all_named_or_tried g e n ys t) same
all_append g e k (x ∷ xs) ys t =
    let same : suc k + length xs ≡ k + length (x ∷ xs) = omega arith in
    all_append g e (suc k) xs ys (named_or_tried g e k x t) ∙ ap (λ n. all_named_or_tried g e n ys (all_named_or_tried g e (suc k) xs (named_or_tried g e k x t))) same

one_marked : (g : PebbleGame) (m : Mark) (e : Entry) (k : ℕ) (s : Step) (t : CoverSearch) → named_or_tried g (record e { mark = m }) k s t ≡ named_or_tried g e k s t
unfolding named_or_tried
one_marked g m e k s t = refl

-- the mark of the entry does not matter
pub all_marked : (g : PebbleGame) (m : Mark) (e : Entry) (k : ℕ) (ss : List Step) (t : CoverSearch) → all_named_or_tried g (record e { mark = m }) k ss t ≡ all_named_or_tried g e k ss t
all_marked g m e k [] t = refl
all_marked g m e k (s ∷ ss) t = ap (all_named_or_tried g (record e { mark = m }) (suc k) ss) (one_marked g m e k s t) ∙ all_marked g m e (suc k) ss (named_or_tried g e k s t)

pub done_none : (g : PebbleGame) (k from : ℕ) (s : Store) (b : Best) → AreNamedOrTried g k from s b s b [] []
done_none g k from s b = record {
  here = refl;
  grows = omega arith;
  rows = λ j h row. (h, refl);
  still = λ j h row. refl;
  goes = λ first plays t packs. (plays, refl, t, packs, λ before. ap (λ names. record { search = t; names = names }) (sym (append_none before)));
}

pub done_more : (g : PebbleGame) (k from after : ℕ) (s u v : Store) (b c d : Best) (xs ys : List Step) (ns ms : List Naming) → after ≡ from + length xs
    → AreNamedOrTried g k from s b u c xs ns → AreNamedOrTried g k after u c v d ys ms → AreNamedOrTried g k from s b v d (xs ++ ys) (ns ++ ms)
done_more g k from after s u v b c d xs ys ns ms after_is one two = record {
  here = two.here ∙ one.here;
  grows = let a = one.grows in let z = two.grows in omega arith;
  rows = λ j h row. rows_by j (two.rows j h row) row;
  still = λ j h row.
      let first = one.still j h row in
      let grows = one.grows in
      two.still j (omega arith) (subst (λ p. is_expanded p.mark ≡ true) (sym first) row) ∙ first;
  goes = λ first plays t packs.
      let mid = one.goes first plays t packs in
      let rest = two.goes first mid.0 mid.2 mid.3 in
      let same : entry_at u mid.0 k ≡ entry_at s plays k = ap (λ p. entry_of p (mid.0 k)) one.here ∙ ap (entry_of (s.at k)) mid.1 in (
        rest.0,
        rest.1 ∙ mid.1,
        rest.2,
        rest.3,
        λ before.
            all_append g (entry_at s plays k) from xs ys (record { search = t; names = before })
            ∙ ap (all_named_or_tried g (entry_at s plays k) (from + length xs) ys) (mid.4 before)
            ∙ ap (λ n. all_named_or_tried g (entry_at s plays k) n ys (record { search = mid.2; names = before ++ ns })) (sym after_is)
            ∙ ap (λ e. all_named_or_tried g e after ys (record { search = mid.2; names = before ++ ns })) (sym same)
            ∙ rest.4 (before ++ ns)
            ∙ ap (λ names. record { search = rest.2; names = names }) (append_assoc before ns ms),
      );
}
  where
    rows_by : (j : ℕ) → (j < u.size) × (v.at j ≡ u.at j) → is_expanded (v.at j).mark ≡ true → (j < s.size) × (v.at j ≡ s.at j)
    rows_by j is row = let old = one.rows j is.0 (subst (λ p. is_expanded p.mark ≡ true) is.1 row) in (old.0, is.1 ∙ old.1)

-- ---- the rows that were made

-- the rows stay where no row goes and none comes
pub still_made : (s u : Store) (rows : List Row) → s.size ≤ u.size → ((j : ℕ) → j < u.size → is_expanded (u.at j).mark ≡ true → (j < s.size) × (u.at j ≡ s.at j))
    → ((j : ℕ) → j < s.size → is_expanded (s.at j).mark ≡ true → u.at j ≡ s.at j) → AreMade s rows → AreMade u rows
still_made s u rows grows old still made = record {
  places = λ r i.
      let j = made.places r i in
      let same = still j.0 j.1 j.2 in
      let within = j.1 in
      (j.0, omega arith, subst (λ p. is_expanded p.mark ≡ true) (sym same) j.2, j.3 ∙ ap (λ p. record { position = p.position; cost = p.cost }) (sym same));
  all = λ r j.
      let was = old j.0 j.1 j.2 in
      made.all r (j.0, was.0, subst (λ p. is_expanded p.mark ≡ true) was.1 j.2, j.3 ∙ ap (λ p. record { position = p.position; cost = p.cost }) was.1);
}

-- ---- one step

-- the rows of a search that the state stands for are those that were made
rows_are : (g : PebbleGame) (first : List Step) (s : Store) (b : Best) (plays : ℕ → List Step) (t : Search) → Packs g first s b plays t → (rows : List Row) → AreMade s rows → (r : Row) → IsIn r (rows_of t.entries) ↔ IsIn r rows
rows_are g first s b plays t packs rows made r =
    let places = row_places g first s b plays t packs r in
    (λ i. made.all r (places.0 i), λ i. places.1 (made.places r i))

-- no two entries have one position
one_entry : (g : PebbleGame) (first : List Step) (s : Store) (b : Best) (plays : ℕ → List Step) (t : Search) → Packs g first s b plays t → (x e : Entry) → IsIn x t.entries → IsIn e t.entries → x.position ≡ e.position → x ≡ e
one_entry g first s b plays t packs x e i j same =
    let at_x = packs.entered x i in
    let at_e = packs.entered e j in
    let place = packs.apart at_x.0 at_e.0 at_x.1 at_e.1 (sym (ap (λ e. e.position) at_x.2) ∙ same ∙ ap (λ e. e.position) at_e.2) in
    at_x.2 ∙ ap (entry_at s plays) place ∙ sym at_e.2

module _ (g : PebbleGame) (dag : IsDag g.dag) (k from : ℕ) (s : Store) (b : Best) (x : Step) (rows : List Row) (made : AreMade s rows) where
  abbrev q : Position
  q = stepped g (s.at k).position x

  abbrev h : ℕ
  h = (s.at k).cost + step_cost g (s.at k).position x

  one_tried : NamesFirst g rows (row_at s k) x None → (first : List Step) (plays : ℕ → List Step) (t : Search) → Packs g first s b plays t → (before : List Naming)
      → named_or_tried g (entry_at s plays k) from x (record { search = t; names = before }) ≡ record { search = step_tried g (entry_at s plays k) t x; names = before ++ [] }
  unfolding named_or_tried
  one_tried none first plays t packs before =
      ap (λ o. if_next o (record { search = step_tried g (entry_at s plays k) t x; names = before })
      (λ f. record { search = t; names = before ++ record { row = (s.at k).position; step = from; by = f.position } ∷ [] }))
      (names_none g dag t.entries (one_entry g first s b plays t packs) rows (rows_are g first s b plays t packs rows made) q h x none)
      ∙ ap (λ names. record { search = step_tried g (entry_at s plays k) t x; names = names }) (sym (append_none before))

  -- a step without a name is tried
  pub done_tried : NamesFirst g rows (row_at s k) x None → (u : Store) (c : Best) → AreTried g k s b u c (x ∷ []) → AreNamedOrTried g k from s b u c (x ∷ []) []
  done_tried none u c tried = record {
    here = tried.here;
    grows = tried.grows;
    rows = tried.rows;
    still = tried.still;
    goes = λ first plays t packs.
        let went = tried.goes first plays t packs in
        (went.0, went.1, step_tried g (entry_at s plays k) t x, went.2, λ before. one_tried none first plays t packs before);
  }

  one_named : (by : Position) → NamesFirst g rows (row_at s k) x (Some by) → (first : List Step) (plays : ℕ → List Step) (t : Search) → Packs g first s b plays t → (before : List Naming)
      → named_or_tried g (entry_at s plays k) from x (record { search = t; names = before }) ≡ record { search = t; names = before ++ record { row = (s.at k).position; step = from; by = by } ∷ [] }
  unfolding named_or_tried
  one_named by names first plays t packs before =
      let f = names_some g dag t.entries (one_entry g first s b plays t packs) rows (rows_are g first s b plays t packs rows made) q h x by names.0 names.1 in
      ap (λ o. if_next o (record { search = step_tried g (entry_at s plays k) t x; names = before })
      (λ f. record { search = t; names = before ++ record { row = (s.at k).position; step = from; by = f.position } ∷ [] })) f.1
      ∙ ap (λ p. record { search = t; names = before ++ record { row = (s.at k).position; step = from; by = p } ∷ [] }) f.2

  -- a step that a row covers gets its name
  pub done_named : (by : Position) → NamesFirst g rows (row_at s k) x (Some by) → AreNamedOrTried g k from s b s b (x ∷ []) (record { row = (s.at k).position; step = from; by = by } ∷ [])
  done_named by names = record {
    here = refl;
    grows = omega arith;
    rows = λ j h row. (h, refl);
    still = λ j h row. refl;
    goes = λ first plays t packs. (plays, refl, t, packs, λ before. one_named by names first plays t packs before);
  }
