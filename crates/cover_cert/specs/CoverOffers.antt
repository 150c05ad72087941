-- The support of rows with names, step by step and row by row.
use Rattle.std.specs.Prelude.{◌≡◌, ◌⊎◌, ℕ, ◌≤◌, List}
use Rattle.comp_graph.specs.Games.{PebbleGame}
use Rattle.normal_steps.specs.declared.step.Step.{Step}
use Rattle.potential_cert.specs.Table.{offer}
use Rattle.cover_cert.specs.CoverTable.{CoverRowParts, IsLeavingUnnamed, plain}

-- the least of a number and of what the step at a place offers, where it leaves the rows without a name
pub record IsWithCoverOffer (g : PebbleGame) (rows : List CoverRowParts) (r : CoverRowParts) (k : ℕ) (s : Step) (most least : ℕ) : Type 0 where
  pub within : least ≤ most
  pub within_offer : IsLeavingUnnamed g rows r k s → least ≤ offer g (plain r) s
  pub is_met : (least ≡ most) ⊎ (IsLeavingUnnamed g rows r k s × (least ≡ offer g (plain r) s))

-- the least of a number and of what the steps from a row offer, where they leave the rows without a name
pub record IsWithCoverOffers (g : PebbleGame) (rows : List CoverRowParts) (r : CoverRowParts) (most least : ℕ) : Type 0 where
  pub within : least ≤ most
  pub within_offers : (k : ℕ) (s : Step) → IsLeavingUnnamed g rows r k s → least ≤ offer g (plain r) s
  pub is_met : (least ≡ most) ⊎ ((k : ℕ) × (s : Step) × IsLeavingUnnamed g rows r k s × (least ≡ offer g (plain r) s))
