-- What the search of a covering row gives, and the names that steps were given.
use Rattle.std.proofs.Common.{◌≡◌, ℕ, ◌≤◌, ◌<◌, leb, Bool, true, false, ◌&&◌, List, [], ◌∷◌, ◌++◌, map, cond, ◌⊎◌, inl, inr, refl, sym, ap, ◌∙◌, subst, arith}
use Rattle.std.specs.Prelude.{filter, Option, Some, None}
use Rattle.comp_graph.specs.Dags.{IsDag}
use Rattle.comp_graph.specs.Games.{PebbleGame}
use Rattle.comp_graph.proofs.DagLaws.{both}
use Rattle.pebble_rules.specs.declared.position.Position.{Position}
use Rattle.normal_steps.specs.declared.step.Step.{Step}
use Rattle.normal_steps.specs.declared.step.Step.TheVariants.{Work, Drop, Spill}
use Rattle.comp_graph.specs.Lists.{IsIn}
use Rattle.potential_cert.specs.declared.tables.Row.{Row}
use Rattle.potential_cert.specs.Order.{precedes}
use Rattle.search_laws.specs.Steps.{same_position}
use Rattle.search_laws.specs.Search.{is_expanded, Entry}
use Rattle.search_laws.proofs.Lists.{filter_in, in_filter, append_cases, map_in, in_map}
use Rattle.search_laws.proofs.Tests.{leb_true, same_position_true, true_same_position}
use Rattle.cover_cert.specs.Covers.{Covers, is_covered_by}
use Rattle.cover_cert.specs.declared.tables.Cover.{Cover}
use Rattle.cover_cert.specs.CoverTable.{CanBeNamed, PlacesRise, IsNamed}
use Rattle.cover_cert.specs.CoverSearch.{Naming, is_covering, earlier, earliest, covering, row_named, namings_of, numbered}
use Rattle.cover_cert.proofs.Covered.{covers_is_tested}
use Rattle.cover_cert.specs.CoverStanding.{HasNaming, IsGoodNaming, NamingsRise, AreNamings}

-- ---- the covering row

abbrev pub EarliestCases : List Entry → Option Entry → Type 0
EarliestCases es o = (o ≡ None) ⊎ ((e : Entry) × (o ≡ Some e) × IsIn e es)

one_of : (e f : Entry) (es : List Entry) (b : Bool) → IsIn f es → IsIn (cond b f e) (e ∷ es)
one_of e f es true i = inr i
one_of e f es false i = inl refl

earlier_in : (e : Entry) (es : List Entry) (o : Option Entry) → EarliestCases es o → IsIn (earlier e o) (e ∷ es)
earlier_in e es o (inl is) = subst (λ o. IsIn (earlier e o) (e ∷ es)) (sym is) (inl refl)
earlier_in e es o (inr f) = subst (λ o. IsIn (earlier e o) (e ∷ es)) (sym f.1) (one_of e f.0 es (precedes f.0.position e.position) f.2)

pub earliest_cases : (es : List Entry) → EarliestCases es (earliest es)
earliest_cases [] = inl refl
earliest_cases (e ∷ es) = inr (earlier e (earliest es), refl, earlier_in e es (earliest es) (earliest_cases es))

-- an entry that is a row, covers q and costs at most h
pub record IsCovering (g : PebbleGame) (q : Position) (h : ℕ) (es : List Entry) (e : Entry) : Type 0 where
  pub member : IsIn e es
  pub row : is_expanded e.mark ≡ true
  pub costs : e.cost ≤ h
  pub covers : Covers g e.position q

abbrev pub CoveringCases : PebbleGame → Position → ℕ → List Entry → Option Entry → Type 0
CoveringCases g q h es o = (o ≡ None) ⊎ ((e : Entry) × (o ≡ Some e) × IsCovering g q h es e)

pub covering_cases : (g : PebbleGame) → IsDag g.dag → (q : Position) (h : ℕ) (es : List Entry) → CoveringCases g q h es (covering g q h es)
unfolding covering
covering_cases g dag q h es = elim (earliest_cases (filter (is_covering g q h) es)) [
  | inl none ↦ inl none
  | inr e ↦
      let is = filter_in (is_covering g q h) e.0 es e.2 in
      let parts = both (is_expanded e.0.mark) (leb e.0.cost h && is_covered_by g e.0.position q) is.1 in
      let rest = both (leb e.0.cost h) (is_covered_by g e.0.position q) parts.1 in
      inr (e.0, e.1, record { member = is.0; row = parts.0; costs = leb_true _ _ rest.0; covers = (covers_is_tested g dag e.0.position q).0 rest.1 })
]

abbrev pub NamedCases : PebbleGame → Step → Position → ℕ → List Entry → Option Entry → Type 0
NamedCases g s q h es o = (o ≡ None) ⊎ ((e : Entry) × (o ≡ Some e) × CanBeNamed s × IsCovering g q h es e)

pub named_cases : (g : PebbleGame) → IsDag g.dag → (s : Step) (q : Position) (h : ℕ) (es : List Entry) → NamedCases g s q h es (row_named g s q h es)
named_cases g dag (Work v) q h es = elim (covering_cases g dag q h es) [ inl none ↦ inl none | inr e ↦ inr (e.0, e.1, tt, e.2) ]
named_cases g dag (Drop u) q h es = inl refl
named_cases g dag (Spill u) q h es = elim (covering_cases g dag q h es) [ inl none ↦ inl none | inr e ↦ inr (e.0, e.1, tt, e.2) ]

-- ---- names

pub good_more : (g : PebbleGame) (rows others : List Row) (n : Naming) → ((r : Row) → IsIn r rows → IsIn r others) → IsGoodNaming g rows n → IsGoodNaming g others n
good_more g rows others n more is = record {
  row = is.row;
  is_row = more is.row is.is_row;
  row_at = is.row_at;
  by = is.by;
  is_by = more is.by is.is_by;
  by_at = is.by_at;
  step = is.step;
  is_step = is.is_step;
  can_be_named = is.can_be_named;
  covers = is.covers;
  costs = is.costs;
}

pub namings_more : (g : PebbleGame) (rows others : List Row) (names : List Naming) → ((r : Row) → IsIn r rows → IsIn r others) → AreNamings g rows names → AreNamings g others names
namings_more g rows others names more are = record { good = λ n i. good_more g rows others n more (are.good n i); rise = are.rise }

rise_push : (ns : List Naming) (n : Naming) → NamingsRise ns → ((m : Naming) → IsIn m ns → m.row ≡ n.row → m.step < n.step) → NamingsRise (ns ++ n ∷ [])
rise_push [] n rise less = (λ m i same. absurd i, tt)
rise_push (x ∷ ns) n rise less = (head, rise_push ns n rise.1 (λ m i. less m (inr i)))
  where
    last_in : (m : Naming) → IsIn m (n ∷ []) → m ≡ n
    last_in m (inl e) = e
    last_in m (inr i) = absurd i

    head : (m : Naming) → IsIn m (ns ++ n ∷ []) → m.row ≡ x.row → x.step < m.step
    head m i same = elim (append_cases m ns (n ∷ []) i) [
      | inl old ↦ rise.0 m old same
      | inr last ↦
          let is = last_in m last in
          let before = less x (inl refl) (sym same ∙ ap (λ n. n.row) is) in
          let place = ap (λ n. n.step) is in
          omega arith
    ]

-- one name more
pub namings_push : (g : PebbleGame) (rows : List Row) (ns : List Naming) (n : Naming) → AreNamings g rows ns → IsGoodNaming g rows n
    → ((m : Naming) → IsIn m ns → m.row ≡ n.row → m.step < n.step) → AreNamings g rows (ns ++ n ∷ [])
namings_push g rows ns n are is less = record { good = good; rise = rise_push ns n are.rise less }
  where
    good : (m : Naming) → IsIn m (ns ++ n ∷ []) → IsGoodNaming g rows m
    good m i = elim (append_cases m ns (n ∷ []) i) [ inl old ↦ are.good m old | inr last ↦ subst (IsGoodNaming g rows) (sym (last_in m last)) is ]
      where
        last_in : (m : Naming) → IsIn m (n ∷ []) → m ≡ n
        last_in m (inl e) = e
        last_in m (inr i) = absurd i

-- ---- the names of one row, as numbers

pub naming_in : (names : List Naming) (p : Position) (n : Naming) → IsIn n (namings_of names p) → IsIn n names × (n.row ≡ p)
naming_in names p n i = let is = filter_in (λ n. same_position n.row p) n names i in (is.0, same_position_true n.row p is.1)

pub in_namings : (names : List Naming) (p : Position) (n : Naming) → IsIn n names → n.row ≡ p → IsIn n (namings_of names p)
in_namings names p n i e = in_filter (λ n. same_position n.row p) n names i (true_same_position n.row p e)

rise_by : (rows : List Row) (p : Position) (n : Naming) (ns : List Naming) (b : Bool) → same_position n.row p ≡ b
    → ((m : Naming) → IsIn m ns → m.row ≡ n.row → n.step < m.step) → PlacesRise (map (numbered rows) (namings_of ns p))
    → PlacesRise (map (numbered rows) (cond b (n ∷ namings_of ns p) (namings_of ns p)))
rise_by rows p n ns true h less rest = (λ m i. here m (map_in (numbered rows) m (namings_of ns p) i), rest)
  where
    here : (m : Cover) → (x : Naming) × IsIn x (namings_of ns p) × (m ≡ numbered rows x) → n.step < m.step
    here m x =
        let is = naming_in ns p x.0 x.1 in
        let before = less x.0 is.0 (is.1 ∙ sym (same_position_true n.row p h)) in
        let place = ap (λ m. m.step) x.2 in
        omega arith
rise_by rows p n ns false h less rest = rest

pub places_rise : (rows : List Row) (p : Position) (names : List Naming) → NamingsRise names → PlacesRise (map (numbered rows) (namings_of names p))
places_rise rows p [] rise = tt
places_rise rows p (n ∷ ns) rise = rise_by rows p n ns (same_position n.row p) refl rise.0 (places_rise rows p ns rise.1)

-- a step that was given a name has one as a number
pub naming_named : (rows : List Row) (names : List Naming) (p : Position) (k : ℕ) → HasNaming names p k → IsNamed (map (numbered rows) (namings_of names p)) k
naming_named rows names p k n =
    (numbered rows n.0, in_map (numbered rows) n.0 (namings_of names p) (in_namings names p n.0 n.1 n.2), n.3)
