-- What the offers that were gone through have shown so far.
use Rattle.std.proofs.Common.{◌≡◌, ℕ, ◌+◌, ◌≤◌, ◌<◌, List, [], ◌∷◌, length, ◌⊎◌, inl, inr, refl, sym, ◌∙◌, subst, arith}
use Rattle.comp_graph.specs.Games.{PebbleGame}
use Rattle.pebble_rules.specs.Rules.{start}
use Rattle.normal_steps.specs.Steps.{stepped}
use Rattle.normal_steps.specs.StepTests.{legal_steps}
use Rattle.normal_steps.specs.declared.step.Step.{Step}
use Rattle.comp_graph.specs.Lists.{IsIn}
use Rattle.forced_bounds.specs.Floor.{floor}
use Rattle.potential_cert.specs.Places.{IsAt}
use Rattle.potential_cert.specs.Table.{HasRow, offer}
use Rattle.potential_cert.proofs.Places.{in_at, at_below, at_one}
use Rattle.cover_cert.specs.CoverOffers.{IsWithCoverOffer, IsWithCoverOffers}
use Rattle.cover_cert.specs.CoverTable.{CoverRowParts, IsCoverSupport, IsLeavingUnnamed, IsNamed, IsOffered, plain, plain_rows}
use Rattle.cover_cert.proofs.RowTests.{IsFrom, from_at, from_end, from_more}

less_or_here : (k n : ℕ) → k < n + 1 → (k < n) ⊎ (k ≡ n)
less_or_here k n h = grind arith

-- ---- steps of a row

-- the steps before `place` are gone through
pub record OffersSoFar (g : PebbleGame) (rows : List CoverRowParts) (r : CoverRowParts) (most least : ℕ) (rest : List Step) (place : ℕ) : Type 0 where
  pub from : IsFrom place rest (legal_steps g r.position)
  pub within : least ≤ most
  pub below : (k : ℕ) (s : Step) → k < place → IsLeavingUnnamed g rows r k s → least ≤ offer g (plain r) s
  pub is_met : (least ≡ most) ⊎ ((k : ℕ) × (s : Step) × IsLeavingUnnamed g rows r k s × (least ≡ offer g (plain r) s))

pub offers_begin : (g : PebbleGame) (rows : List CoverRowParts) (r : CoverRowParts) (most : ℕ) (steps : List Step) → steps ≡ legal_steps g r.position → OffersSoFar g rows r most most steps 0
offers_begin g rows r most steps same = record { from = same; within = omega arith; below = λ k s l. absurd (omega arith); is_met = inl refl }

pub offers_next : (g : PebbleGame) (rows : List CoverRowParts) (r : CoverRowParts) (most least less : ℕ) (s : Step) (rest : List Step) (place : ℕ) → OffersSoFar g rows r most least (s ∷ rest) place
    → IsWithCoverOffer g rows r place s least less → OffersSoFar g rows r most less rest (place + 1)
offers_next g rows r most least less s rest place so_far is = record {
  from = from_more place s rest (legal_steps g r.position) so_far.from;
  within = let a = so_far.within in let b = is.within in omega arith;
  below = λ k t l leaving. elim (less_or_here k place l) [
    | inl before ↦ let a = so_far.below k t before leaving in let b = is.within in omega arith
    | inr here ↦
        let there = subst (λ k. IsLeavingUnnamed g rows r k t) here leaving in
        let same = at_one t s place (legal_steps g r.position) there.at (from_at place s rest (legal_steps g r.position) so_far.from) in
        subst (λ t. less ≤ offer g (plain r) t) (sym same) (is.within_offer (subst (λ t. IsLeavingUnnamed g rows r place t) same there))
  ];
  is_met = elim is.is_met [
    | inl same ↦ elim so_far.is_met [
      | inl e ↦ inl (same ∙ e)
      | inr met ↦ inr (met.0, met.1, met.2, same ∙ met.3)
    ]
    | inr met ↦ inr (place, s, met.0, met.1)
  ];
}

pub offers_end : (g : PebbleGame) (rows : List CoverRowParts) (r : CoverRowParts) (most least place : ℕ) → OffersSoFar g rows r most least [] place → IsWithCoverOffers g rows r most least
offers_end g rows r most least place so_far = record {
  within = so_far.within;
  within_offers = λ k s leaving.
      let below = at_below s k (legal_steps g r.position) leaving.at in
      let many = from_end place (legal_steps g r.position) so_far.from in
      so_far.below k s (omega arith) leaving;
  is_met = so_far.is_met;
}

-- ---- rows

pub record RowsSoFar (g : PebbleGame) (rows : List CoverRowParts) (cost least n : ℕ) : Type 0 where
  pub within : least ≤ cost
  pub within_offers : (k : ℕ) (r : CoverRowParts) → k < n → IsAt r k rows → (j : ℕ) (s : Step) → IsLeavingUnnamed g rows r j s → least ≤ offer g (plain r) s
  pub is_met : (least ≡ cost) ⊎ IsOffered g rows least

pub rows_begin : (g : PebbleGame) (rows : List CoverRowParts) (cost : ℕ) → RowsSoFar g rows cost cost 0
rows_begin g rows cost = record { within = omega arith; within_offers = λ k r l. absurd (omega arith); is_met = inl refl }

pub rows_next : (g : PebbleGame) (rows : List CoverRowParts) (cost least less n : ℕ) (r : CoverRowParts) → IsAt r n rows → RowsSoFar g rows cost least n → IsWithCoverOffers g rows r least less
    → RowsSoFar g rows cost less (n + 1)
rows_next g rows cost least less n r at so_far is = record {
  within = let a = so_far.within in let b = is.within in omega arith;
  within_offers = λ k q l at_q j s leaving. elim (less_or_here k n l) [
    | inl before ↦ let a = so_far.within_offers k q before at_q j s leaving in let b = is.within in omega arith
    | inr here ↦
        let same = at_one q r n rows (subst (λ k. IsAt q k rows) here at_q) at in
        let most = is.within_offers j s (subst (λ q. IsLeavingUnnamed g rows q j s) same leaving) in
        subst (λ r. less ≤ offer g (plain r) s) (sym same) most
  ];
  is_met = elim is.is_met [
    | inl same ↦ elim so_far.is_met [
      | inl e ↦ inl (same ∙ e)
      | inr met ↦ inr (met.0, met.1, met.2, met.3, same ∙ met.4)
    ]
    | inr met ↦ inr (r, met.0, met.1, met.2, met.3)
  ];
}

pub rows_end : (g : PebbleGame) (rows : List CoverRowParts) (cost least n : ℕ) → (rows ≡ [] → ⊥) → length rows ≤ n → RowsSoFar g rows cost least n → IsCoverSupport g rows cost least
rows_end g rows cost least n some all so_far = record {
  within_cost = so_far.within;
  within_floor = λ none. absurd (some none);
  within_offers = λ m o.
      let leaving = o.3 in
      let at = in_at o.0 rows leaving.row in
      let below = at_below o.0 at.0 rows at.1 in
      let few = so_far.within_offers at.0 o.0 (omega arith) at.1 o.1 o.2 leaving in
      let same = o.4 in
      omega arith;
  is_met = elim so_far.is_met [ inl e ↦ inl e | inr met ↦ inr (inr met) ];
}

pub no_rows : (g : PebbleGame) (rows : List CoverRowParts) (cost least bound : ℕ) → rows ≡ [] → bound ≡ floor g (start g) → least ≤ cost → least ≤ bound → (least ≡ cost) ⊎ (least ≡ bound) → IsCoverSupport g rows cost least
no_rows g rows cost least bound none is few low met = record {
  within_cost = few;
  within_floor = λ _. omega arith;
  within_offers = λ m o. let leaving = o.3 in absurd (subst (IsIn o.0) none leaving.row);
  is_met = elim met [ inl e ↦ inl e | inr e ↦ inr (inl (none, e ∙ is)) ];
}

-- ---- one step

-- a step that offers no less
pub no_less : (g : PebbleGame) (rows : List CoverRowParts) (r : CoverRowParts) (k : ℕ) (s : Step) (most : ℕ) → most ≤ offer g (plain r) s → IsWithCoverOffer g rows r k s most most
no_less g rows r k s most few = record { within = omega arith; within_offer = λ leaving. few; is_met = inl refl }

-- a step with a name, or to a row, offers nothing
pub stays_named : (g : PebbleGame) (rows : List CoverRowParts) (r : CoverRowParts) (k : ℕ) (s : Step) (most : ℕ) → IsNamed r.names k → IsWithCoverOffer g rows r k s most most
stays_named g rows r k s most named = record { within = omega arith; within_offer = λ leaving. absurd (leaving.no_name named); is_met = inl refl }

pub stays_in : (g : PebbleGame) (rows : List CoverRowParts) (r : CoverRowParts) (k : ℕ) (s : Step) (most : ℕ) → HasRow (plain_rows rows) (stepped g r.position s) → IsWithCoverOffer g rows r k s most most
stays_in g rows r k s most has = record { within = omega arith; within_offer = λ leaving. absurd (leaving.leaves has); is_met = inl refl }

-- a step without a name to no row that offers less
pub leaves_here : (g : PebbleGame) (rows : List CoverRowParts) (r : CoverRowParts) (k : ℕ) (s : Step) (most least : ℕ) → IsIn r rows → IsAt s k (legal_steps g r.position) → (IsNamed r.names k → ⊥)
    → (HasRow (plain_rows rows) (stepped g r.position s) → ⊥) → least ≡ offer g (plain r) s → least ≤ most → IsWithCoverOffer g rows r k s most least
leaves_here g rows r k s most least row at no_name leaves is few = record {
  within = few;
  within_offer = λ _. omega arith;
  is_met = inr (record { row = row; at = at; no_name = no_name; leaves = leaves }, is);
}
