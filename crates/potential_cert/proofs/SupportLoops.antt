-- What the offers that were gone through have shown so far.
use Rattle.std.proofs.Common.{◌≡◌, ℕ, ◌+◌, ◌≤◌, ◌<◌, List, [], ◌∷◌, length, ◌⊎◌, inl, inr, refl, sym, ◌∙◌, subst, arith}
use Rattle.comp_graph.specs.Games.{PebbleGame}
use Rattle.pebble_rules.specs.Rules.{start}
use Rattle.normal_steps.specs.Steps.{IsStep, stepped}
use Rattle.normal_steps.specs.LegalSteps.{AreLegalSteps}
use Rattle.normal_steps.specs.declared.step.Step.{Step}
use Rattle.comp_graph.specs.Lists.{IsIn}
use Rattle.forced_bounds.specs.Floor.{floor}
use Rattle.potential_cert.specs.declared.tables.Row.{Row}
use Rattle.potential_cert.specs.Places.{IsAt}
use Rattle.potential_cert.specs.Table.{HasRow, IsLeaving, IsSupport, offer}
use Rattle.potential_cert.specs.Offers.{IsWithOffersOfStep, IsWithOffersOfRow}
use Rattle.potential_cert.proofs.Places.{in_at, at_below, at_one}
use Rattle.potential_cert.proofs.StepsLeft.{AreLeft, all_left, next_left, none_left}

-- ---- steps of a row

-- the step offers no less than `least` where it leaves the rows
abbrev pub IsBelow : PebbleGame → List Row → Row → ℕ → Step → Type 0
IsBelow g rows r least s = IsLeaving g rows r s → least ≤ offer g r s

pub record OffersSoFar (g : PebbleGame) (rows : List Row) (r : Row) (most least : ℕ) (rest : List Step) : Type 0 where
  pub within : least ≤ most
  pub left : AreLeft g r.position (IsBelow g rows r least) rest
  pub is_met : (least ≡ most) ⊎ ((s : Step) × IsLeaving g rows r s × (least ≡ offer g r s))

pub offers_begin : (g : PebbleGame) (rows : List Row) (r : Row) (most : ℕ) (ss rest : List Step) → AreLegalSteps g r.position ss → rest ≡ ss → OffersSoFar g rows r most most rest
offers_begin g rows r most ss rest are same = record { within = omega arith; left = all_left g r.position (IsBelow g rows r most) ss rest are same; is_met = inl refl }

pub offers_next : (g : PebbleGame) (rows : List Row) (r : Row) (most least less : ℕ) (s : Step) (rest : List Step) → OffersSoFar g rows r most least (s ∷ rest)
    → IsWithOffersOfStep g rows r s least less → OffersSoFar g rows r most less rest
offers_next g rows r most least less s rest so_far is = record {
  within = let a = so_far.within in let b = is.within in omega arith;
  left = next_left g r.position (IsBelow g rows r least) (IsBelow g rows r less) s rest so_far.left
      (λ x below leaving. let a = below leaving in let b = is.within in omega arith) is.within_offer;
  is_met = elim is.is_met [
    | inl same ↦ elim so_far.is_met [
      | inl e ↦ inl (same ∙ e)
      | inr met ↦ inr (met.0, met.1, same ∙ met.2)
    ]
    | inr met ↦ inr (s, met.0, met.1)
  ];
}

pub offers_end : (g : PebbleGame) (rows : List Row) (r : Row) (most least : ℕ) (rest : List Step) → OffersSoFar g rows r most least rest → rest ≡ [] → IsWithOffersOfRow g rows r most least
offers_end g rows r most least rest so_far none = record {
  within = so_far.within;
  within_offers = λ s leaving. none_left g r.position (IsBelow g rows r least) rest so_far.left none s leaving.step leaving;
  is_met = so_far.is_met;
}

-- ---- rows

pub record RowsSoFar (g : PebbleGame) (rows : List Row) (cost least n : ℕ) : Type 0 where
  pub within : least ≤ cost
  pub within_offers : (k : ℕ) (r : Row) → k < n → IsAt r k rows → (s : Step) → IsLeaving g rows r s → least ≤ offer g r s
  pub is_met : (least ≡ cost) ⊎ ((r : Row) × (s : Step) × IsLeaving g rows r s × (least ≡ offer g r s))

pub rows_begin : (g : PebbleGame) (rows : List Row) (cost : ℕ) → RowsSoFar g rows cost cost 0
rows_begin g rows cost = record { within = omega arith; within_offers = λ k r l. absurd (omega arith); is_met = inl refl }

less_or_here : (k n : ℕ) → k < n + 1 → (k < n) ⊎ (k ≡ n)
less_or_here k n h = grind arith

pub rows_next : (g : PebbleGame) (rows : List Row) (cost least less n : ℕ) (r : Row) → IsAt r n rows → RowsSoFar g rows cost least n → IsWithOffersOfRow g rows r least less → RowsSoFar g rows cost less (n + 1)
rows_next g rows cost least less n r at so_far is = record {
  within = let a = so_far.within in let b = is.within in omega arith;
  within_offers = λ k q l at_q s leaving. elim (less_or_here k n l) [
    | inl before ↦ let a = so_far.within_offers k q before at_q s leaving in let b = is.within in omega arith
    | inr here ↦
        let same = at_one q r n rows (subst (λ k. IsAt q k rows) here at_q) at in
        let most = is.within_offers s (subst (λ q. IsLeaving g rows q s) same leaving) in
        subst (λ r. less ≤ offer g r s) (sym same) most
  ];
  is_met = elim is.is_met [
    | inl same ↦ elim so_far.is_met [
      | inl e ↦ inl (same ∙ e)
      | inr met ↦ inr (met.0, met.1, met.2, same ∙ met.3)
    ]
    | inr met ↦ inr (r, met.0, met.1, met.2)
  ];
}

pub rows_end : (g : PebbleGame) (rows : List Row) (cost least n : ℕ) → (rows ≡ [] → ⊥) → length rows ≤ n → RowsSoFar g rows cost least n → IsSupport g rows cost least
rows_end g rows cost least n some all so_far = record {
  within_cost = so_far.within;
  within_floor = λ none. absurd (some none);
  within_offers = λ r s leaving. let at = in_at r rows leaving.row in let below = at_below r at.0 rows at.1 in so_far.within_offers at.0 r (omega arith) at.1 s leaving;
  is_met = elim so_far.is_met [ inl e ↦ inl e | inr met ↦ inr (inr met) ];
}

pub no_rows : (g : PebbleGame) (rows : List Row) (cost least bound : ℕ) → rows ≡ [] → bound ≡ floor g (start g) → least ≤ cost → least ≤ bound → (least ≡ cost) ⊎ (least ≡ bound) → IsSupport g rows cost least
no_rows g rows cost least bound none is few low met = record {
  within_cost = few;
  within_floor = λ _. omega arith;
  within_offers = λ r s leaving. absurd (subst (IsIn r) none leaving.row);
  is_met = elim met [ inl e ↦ inl e | inr e ↦ inr (inl (none, e ∙ is)) ];
}

-- ---- one step

-- a step to a row offers nothing
pub stays_in : (g : PebbleGame) (rows : List Row) (r : Row) (s : Step) (most : ℕ) → HasRow rows (stepped g r.position s) → IsWithOffersOfStep g rows r s most most
stays_in g rows r s most has = record { within = omega arith; within_offer = λ leaving. absurd (leaving.leaves has); is_met = inl refl }

-- a step to no row that offers less
pub leaves_here : (g : PebbleGame) (rows : List Row) (r : Row) (s : Step) (most least : ℕ) → IsIn r rows → IsStep g r.position s → (HasRow rows (stepped g r.position s) → ⊥)
    → least ≡ offer g r s → least ≤ most → IsWithOffersOfStep g rows r s most least
leaves_here g rows r s most least row step leaves is few = record {
  within = few;
  within_offer = λ _. omega arith;
  is_met = inr (record { row = row; step = step; leaves = leaves }, is);
}
