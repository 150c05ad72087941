-- A valid table whose rows rise is a covered table without names.
use Rattle.std.proofs.Common.{◌≡◌, List, [], ◌∷◌, map, inl, inr, sym, subst, arith, refl, ap, ◌+◌}
use Rattle.normal_steps.specs.Sound.{IsSound}
use Rattle.comp_graph.specs.Lists.{IsIn}
use Rattle.potential_cert.specs.declared.tables.Row.{Row}
use Rattle.potential_cert.specs.Table.{IsRising, HasRowWithin, FinishHolds}
use Rattle.potential_cert.specs.Order.{precedes}
use Rattle.search_laws.proofs.Lists.{in_map, map_in}
use Rattle.cover_cert.specs.CoverTable.{CoverRowParts, without_names, NamesHold, StepsHold, plain, plain_rows}
use Rattle.cover_cert.specs.CoverLaws.{PlainTablesAreCoverTables}
use Rattle.cover_cert.proofs.RowTests.{legal_at}
use Rattle.normal_steps.specs.Steps.{stepped, step_cost}

plain_without : (rows : List Row) → plain_rows (map without_names rows) ≡ rows
plain_without [] = refl
plain_without (r ∷ rows) = ap (λ rs. r ∷ rs) (plain_without rows)

pub plain_tables_are_cover_tables : PlainTablesAreCoverTables
plain_tables_are_cover_tables g dag rows bound rise valid = record {
  rise = subst (IsRising precedes) (sym (plain_without rows)) rise;
  sound = each (λ r. IsSound g r.position) valid.sound;
  starts = elim valid.begins [
    | inl few ↦ inl few
    | inr r ↦ inr (without_names r.0, in_map without_names r.0 rows r.1, (let few = r.3 in omega arith))
  ];
  names = each (NamesHold g (map without_names rows)) (λ r i. record { rise = tt; below = λ n j. absurd j; covered = λ n j. absurd j });
  steps = each (StepsHold g (map without_names rows) bound) (λ r i k s at no_name. elim (valid.steps r i s (legal_at g dag r.position (valid.sound r i) s k at)) [
    | inl has ↦ inl (subst (λ rs. HasRowWithin rs (stepped g r.position s) (r.cost + step_cost g r.position s)) (sym (plain_without rows)) has)
    | inr few ↦ inr few
  ]);
  finishes = each (λ r. FinishHolds g bound (plain r)) valid.finishes;
}
  where
    each : (P : CoverRowParts → Type 0) → ((r : Row) → IsIn r rows → P (without_names r)) → (r : CoverRowParts) → IsIn r (map without_names rows) → P r
    each P h r i = let x = map_in without_names r rows i in subst P (sym x.2) (h x.0 x.1)
