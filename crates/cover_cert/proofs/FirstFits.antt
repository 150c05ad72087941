-- The row that a step names: what the scan of the rows has shown so far, and that it is the row of the search.
use Rattle.std.proofs.Common.{◌≡◌, ℕ, ◌+◌, ◌≤◌, leb, Bool, true, false, ◌&&◌, List, [], ◌∷◌, ◌++◌, cond, Option, None, Some, ◌↔◌, ◌⊎◌, inl, inr, refl, sym, ap, ◌∙◌, subst, arith}
use Rattle.std.specs.Prelude.{filter}
use Rattle.comp_graph.specs.Dags.{IsDag}
use Rattle.comp_graph.specs.Games.{PebbleGame}
use Rattle.comp_graph.proofs.DagLaws.{both, and-true}
use Rattle.pebble_rules.specs.declared.position.Position.{Position}
use Rattle.normal_steps.specs.Steps.{stepped, step_cost}
use Rattle.normal_steps.specs.declared.step.Step.{Step}
use Rattle.normal_steps.specs.declared.step.Step.TheVariants.{Work, Drop, Spill}
use Rattle.comp_graph.specs.Lists.{IsIn}
use Rattle.potential_cert.specs.declared.tables.Row.{Row}
use Rattle.potential_cert.specs.Order.{precedes}
use Rattle.potential_cert.proofs.Order.{precedes_is_strict}
use Rattle.search_laws.specs.Search.{is_expanded, Entry, rows_of}
use Rattle.search_laws.specs.Standing.{row_of}
use Rattle.search_laws.proofs.Entries.{in_rows, rows_in}
use Rattle.search_laws.proofs.Lists.{append_cases, filter_in, in_filter, in_left, in_right}
use Rattle.search_laws.proofs.Tests.{leb_true, true_leb}
use Rattle.cover_cert.specs.Covers.{Covers, is_covered_by, HasPebbles, live_part}
use Rattle.cover_cert.specs.CoverTable.{CanBeNamed}
use Rattle.cover_cert.specs.CoverSearch.{covering, earlier, earliest, is_covering, row_named}
use Rattle.cover_cert.specs.CoverMaking.{FitsFirst, IsFirstFit, IsFit, IsSooner, NamesFirst}
use Rattle.cover_cert.proofs.Covered.{covers_is_tested, covers_pebbles}
use Rattle.cover_cert.proofs.Namings.{EarliestCases, earliest_cases, CoveringCases, covering_cases}

-- ---- one row more

last_in : (x r : Row) → IsIn x (r ∷ []) → x ≡ r
last_in x r (inl e) = e
last_in x r (inr i) = absurd i

-- the last row does not fit
pub fits_not : (rows : List Row) (r : Row) (q : Position) (h : ℕ) (o : Option Position) → (IsFit q h r → ⊥) → FitsFirst rows q h o → FitsFirst (rows ++ r ∷ []) q h o
fits_not rows r q h None not none = λ x i fit. elim (append_cases x rows (r ∷ []) i) [
  | inl old ↦ none x old fit
  | inr last ↦ not (subst (IsFit q h) (last_in x r last) fit)
]
fits_not rows r q h (Some by) not is = record {
  row = is.row;
  member = in_left is.row rows (r ∷ []) is.member;
  at = is.at;
  fits = is.fits;
  first = λ x i fit. elim (append_cases x rows (r ∷ []) i) [
    | inl old ↦ is.first x old fit
    | inr last ↦ absurd (not (subst (IsFit q h) (last_in x r last) fit))
  ];
}

-- the last row fits, and is the only one
only_fit : (rows : List Row) (r : Row) (q : Position) (h : ℕ) → IsFit q h r → FitsFirst rows q h None → IsFirstFit (rows ++ r ∷ []) q h r.position
only_fit rows r q h fits none = record {
  row = r;
  member = in_right r rows (r ∷ []) (inl refl);
  at = refl;
  fits = fits;
  first = λ x i fit. elim (append_cases x rows (r ∷ []) i) [
    | inl old ↦ absurd (none x old fit)
    | inr last ↦ inl (sym (ap (λ r. r.position) (last_in x r last)))
  ];
}

-- the last row fits, and comes before the first that did
new_first : (rows : List Row) (r : Row) (q : Position) (h : ℕ) (by : Position) → IsFit q h r → precedes r.position by ≡ true → IsFirstFit rows q h by → IsFirstFit (rows ++ r ∷ []) q h r.position
new_first rows r q h by fits before is = record {
  row = r;
  member = in_right r rows (r ∷ []) (inl refl);
  at = refl;
  fits = fits;
  first = λ x i fit. elim (append_cases x rows (r ∷ []) i) [
    | inl old ↦ inr (elim (is.first x old fit) [
      | inl same ↦ subst (λ p. precedes r.position p ≡ true) same before
      | inr less ↦ precedes_is_strict.transitive r.position by x.position before less
    ])
    | inr last ↦ inl (sym (ap (λ r. r.position) (last_in x r last)))
  ];
}

-- the last row fits, but does not come before the first that did
old_first : (rows : List Row) (r : Row) (q : Position) (h : ℕ) (by : Position) → (by ≡ r.position) ⊎ (precedes by r.position ≡ true) → IsFirstFit rows q h by → IsFirstFit (rows ++ r ∷ []) q h by
old_first rows r q h by after is = record {
  row = is.row;
  member = in_left is.row rows (r ∷ []) is.member;
  at = is.at;
  fits = is.fits;
  first = λ x i fit. elim (append_cases x rows (r ∷ []) i) [
    | inl old ↦ is.first x old fit
    | inr last ↦ subst (λ p. (by ≡ p) ⊎ (precedes by p ≡ true)) (sym (ap (λ r. r.position) (last_in x r last))) after
  ];
}

pub fits_sooner : (rows : List Row) (r : Row) (q : Position) (h : ℕ) (o : Option Position) (p : Position) → IsFit q h r → IsSooner o r.position p → FitsFirst rows q h o → IsFirstFit (rows ++ r ∷ []) q h p
fits_sooner rows r q h None p fits is none = subst (IsFirstFit (rows ++ r ∷ []) q h) (sym is) (only_fit rows r q h fits none)
fits_sooner rows r q h (Some by) p fits (inl is) first = subst (IsFirstFit (rows ++ r ∷ []) q h) (sym is.0) (new_first rows r q h by fits is.1 first)
fits_sooner rows r q h (Some by) p fits (inr is) first = subst (IsFirstFit (rows ++ r ∷ []) q h) (sym is.0) (old_first rows r q h by is.1 first)

-- one row alone
pub fits_one : (r : Row) (q : Position) (h : ℕ) → IsFit q h r → FitsFirst (r ∷ []) q h (Some r.position)
fits_one r q h fits = only_fit [] r q h fits (λ x i fit. absurd i)

pub fits_none : (r : Row) (q : Position) (h : ℕ) → (IsFit q h r → ⊥) → FitsFirst (r ∷ []) q h None
fits_none r q h not x i fit = not (subst (IsFit q h) (last_in x r i) fit)

-- ---- the name

pub names_by : (g : PebbleGame) (rows : List Row) (r : Row) (s : Step) (o : Option Position) (q : Position) (h : ℕ) → CanBeNamed s → q ≡ live_part g (stepped g r.position s) → h ≡ r.cost + step_cost g r.position s
    → FitsFirst rows q h o → NamesFirst g rows r s o
names_by g rows r s None q h can q_is h_is fits = λ can_be. subst (λ q. FitsFirst rows q (r.cost + step_cost g r.position s) None) q_is (subst (λ h. FitsFirst rows q h None) h_is fits)
names_by g rows r s (Some by) q h can q_is h_is fits = (can, subst (λ q. IsFirstFit rows q (r.cost + step_cost g r.position s) by) q_is (subst (λ h. IsFirstFit rows q h by) h_is fits))

-- ---- the row of the search

cond_same : {X : Type 0} → (b : Bool) (x y : X) → x ≡ y → cond b x y ≡ y
cond_same true x y e = e
cond_same false x y e = refl

-- an entry that comes before all others is the earliest
earliest_is : (e : Entry) (es : List Entry) → IsIn e es → ((x : Entry) → IsIn x es → (x ≡ e) ⊎ (precedes e.position x.position ≡ true)) → earliest es ≡ Some e
earliest_is e [] i first = absurd i
earliest_is e (y ∷ ys) (inr i) first = ap (λ o. Some (earlier y o)) (earliest_is e ys i (λ x j. first x (inr j))) ∙ by_case (first y (inl refl))
  where
    by_case : (y ≡ e) ⊎ (precedes e.position y.position ≡ true) → Some (earlier y (Some e)) ≡ Some e
    by_case (inl same) = ap Some (cond_same (precedes e.position y.position) e y (sym same) ∙ same)
    by_case (inr before) = ap (λ b. Some (cond b e y)) before
earliest_is e (y ∷ ys) (inl same) first = by_rest (earliest_cases ys)
  where
    by_order : (f : Entry) → (f ≡ e) ⊎ (precedes e.position f.position ≡ true) → cond (precedes f.position y.position) f y ≡ e
    by_order f (inl is) = cond_same (precedes f.position y.position) f y (is ∙ same) ∙ sym same
    by_order f (inr before) = ap (λ b. cond b f y) (not_before (precedes f.position y.position) refl) ∙ sym same
      where
        not_before : (b : Bool) → precedes f.position y.position ≡ b → b ≡ false
        not_before true is = absurd (
            let after : precedes f.position e.position ≡ true = subst (λ z. precedes f.position z.position ≡ true) (sym same) is in
            let itself = precedes_is_strict.transitive e.position f.position e.position before after in
            let never = precedes_is_strict.irreflexive e.position in
            grind arith)
        not_before false is = refl

    by_rest : EarliestCases ys (earliest ys) → Some (earlier y (earliest ys)) ≡ Some e
    by_rest (inl none) = ap (λ o. Some (earlier y o)) none ∙ ap Some (sym same)
    by_rest (inr f) = ap (λ o. Some (earlier y o)) f.1 ∙ ap Some (by_order f.0 (first f.0 (inr f.2)))

module _ (g : PebbleGame) (dag : IsDag g.dag) (es : List Entry) (one : (x e : Entry) → IsIn x es → IsIn e es → x.position ≡ e.position → x ≡ e) (rows : List Row) (same : (r : Row) → IsIn r (rows_of es) ↔ IsIn r rows) (q : Position) (h : ℕ) where
  entry_fit : (e : Entry) → e.cost ≤ h → Covers g e.position q → IsFit (live_part g q) h (row_of e)
  entry_fit e costs covers = record { costs = costs; has = (covers_pebbles g dag e.position q).0 covers }

  entry_row : (e : Entry) → IsIn e es → is_expanded e.mark ≡ true → IsIn (row_of e) rows
  entry_row e i is = (same (row_of e)).0 (in_rows e es i is)

  none_covers : FitsFirst rows (live_part g q) h None → covering g q h es ≡ None
  none_covers none = by_case (covering g q h es) (covering_cases g dag q h es)
    where
      by_case : (o : Option Entry) → CoveringCases g q h es o → o ≡ None
      by_case o (inl is) = is
      by_case o (inr e) = absurd (none (row_of e.0) (entry_row e.0 e.2.member e.2.row) (entry_fit e.0 e.2.costs e.2.covers))

  -- the entry is the covering one
  abbrev IsFound : Position → Option Entry → Type 0
  IsFound by o = (e : Entry) × (o ≡ Some e) × (e.position ≡ by)

  first_covers : (by : Position) → IsFirstFit rows (live_part g q) h by → IsFound by (covering g q h es)
  unfolding covering
  first_covers by fit =
      let e = rows_in fit.row es ((same fit.row).1 fit.member) in
      let at : e.0.position ≡ by = sym (ap (λ r. r.position) e.3) ∙ fit.at in
      let costs = ap (λ r. r.cost) e.3 in
      let fits = fit.fits.costs in
      let covers : Covers g e.0.position q = (covers_pebbles g dag e.0.position q).1 (subst (λ r. HasPebbles r.position (live_part g q)) e.3 fit.fits.has) in
      let test : is_covering g q h e.0 ≡ true = and-true _ _ e.2 (and-true _ _ (true_leb e.0.cost h (omega arith)) ((covers_is_tested g dag e.0.position q).1 covers)) in
      (e.0, earliest_is e.0 (filter (is_covering g q h) es) (in_filter (is_covering g q h) e.0 es e.1 test) (λ x i. before e.0 e.1 at x (filter_in (is_covering g q h) x es i)), at)
    where
      before : (e : Entry) → IsIn e es → e.position ≡ by → (x : Entry) → IsIn x es × (is_covering g q h x ≡ true) → (x ≡ e) ⊎ (precedes e.position x.position ≡ true)
      before e j at x is =
          let parts = both (is_expanded x.mark) (leb x.cost h && is_covered_by g x.position q) is.1 in
          let rest = both (leb x.cost h) (is_covered_by g x.position q) parts.1 in
          elim (fit.first (row_of x) (entry_row x is.0 parts.0) (entry_fit x (leb_true x.cost h rest.0) ((covers_is_tested g dag x.position q).0 rest.1))) [
            | inl here ↦ inl (one x e is.0 j (sym here ∙ sym at))
            | inr less ↦ inr (subst (λ p. precedes p x.position ≡ true) (sym at) less)
          ]

  pub names_none : (s : Step) → (CanBeNamed s → FitsFirst rows (live_part g q) h None) → row_named g s q h es ≡ None
  names_none (Work v) none = none_covers (none tt)
  names_none (Drop u) none = refl
  names_none (Spill u) none = none_covers (none tt)

  pub names_some : (s : Step) (by : Position) → CanBeNamed s → IsFirstFit rows (live_part g q) h by → IsFound by (row_named g s q h es)
  names_some (Work v) by can fit = first_covers by fit
  names_some (Drop u) by can fit = absurd can
  names_some (Spill u) by can fit = first_covers by fit
