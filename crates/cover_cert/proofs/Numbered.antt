-- Rows that were made, in order and with numbers.
use Rattle.std.proofs.Common.{◌≡◌, ℕ, zero, suc, ◌+◌, ◌≤◌, ◌<◌, true, List, [], ◌∷◌, length, cond, sym, ap, ◌∙◌, subst, arith}
use Rattle.std.specs.List.Sorted.{IsPermutation, IsSortedBy}
use Rattle.std.proofs.lemmas.List.{get_or-map, length-map}
use Rattle.std.proofs.lemmas.List.Sorted.{IsPermutation-map, length_permutation, ranks_by}
use Rattle.std.proofs.lemmas.Cmp.{nat_list_cmp_total}
use Rattle.std.specs.Cmp.{IsStrictWeakOrder}
use Rattle.pebble_rules.specs.Positions.{position_words}
use Rattle.pebble_rules.specs.declared.position.Position.{Position}
use Rattle.pebble_rules.proofs.Possible.{not_member}
use Rattle.comp_graph.specs.Lists.{IsIn}
use Rattle.potential_cert.specs.Order.{precedes}
use Rattle.potential_cert.specs.Places.{IsAt}
use Rattle.potential_cert.specs.Table.{IsRising}
use Rattle.potential_cert.specs.declared.tables.Row.{Row}
use Rattle.potential_cert.proofs.Order.{precedes_is_strict}
use Rattle.potential_cert.proofs.Places.{at_in}
use Rattle.search_laws.proofs.Lists.{map_in}
use Rattle.search_laws.proofs.Tests.{same_position_true, true_same_position}
use Rattle.branch_bound.proofs.RowLaws.{IsSmall, rows_rise, same_rows, still_apart}
use Rattle.cover_cert.specs.declared.making.Made.{Made}
use Rattle.cover_cert.specs.CoverMaking.{made_row, made_rows}
use Rattle.cover_cert.specs.CoverNumbers.{AreKnown, CanBeOrdered}
use Rattle.cover_cert.specs.CoverSearch.{number_of}

-- ---- numbers

-- the number of a position is the place of its row
pub number_is : (rows : List Row) → IsRising precedes rows → (k : ℕ) (r : Row) (p : Position) → IsAt r k rows → r.position ≡ p → number_of rows p ≡ k
number_is [] rise k r p at same = absurd at
number_is (x ∷ rows) rise zero r p at same =
    ap (λ b. cond b 0 (suc (number_of rows p))) (true_same_position x.position p (ap (λ r. r.position) (sym at) ∙ same))
number_is (x ∷ rows) rise (suc k) r p at same =
    ap (λ b. cond b 0 (suc (number_of rows p))) (not_member _ (λ here.
    let before = rise.0 r (at_in r k rows at) in
    let itself : precedes x.position x.position ≡ true = subst (λ q. precedes x.position q ≡ true) (same ∙ sym (same_position_true x.position p here)) before in
    let never = precedes_is_strict.irreflexive x.position in
    grind arith))
    ∙ ap suc (number_is rows rise.1 k r p at same)

-- ---- rows in order

pub by_position : IsStrictWeakOrder (λ (r q : Made). precedes r.position q.position)
unfolding precedes
by_position = ranks_by nat_list_cmp_total (λ r. position_words r.position)

-- rows that are sorted by position, without their names
sorted_rows : (ms : List Made) → IsSortedBy (λ (r q : Made). precedes r.position q.position) ms → IsSortedBy (λ (r q : Row). precedes r.position q.position) (made_rows ms)
sorted_rows [] s k d a b = absurd (omega arith)
sorted_rows (m ∷ ms) s k d a b =
    let l = m ∷ ms in
    let many = length-map l made_row in
    let within : k + 1 < length l = omega arith in
    let first = get_or-map made_row l (k + 1) m d within in
    let second = get_or-map made_row l k m d (omega arith) in
    (λ j. precedes (first j).position (second j).position) ∙ s k m a within

module _ (made sorted : List Made) (can : CanBeOrdered made) (moved : IsPermutation made sorted) where
  rows_moved : IsPermutation (made_rows made) (made_rows sorted)
  rows_moved = IsPermutation-map made_row made sorted moved

  small : (r : Row) → IsIn r (made_rows sorted) → IsSmall r.position
  small r i =
      let m = map_in made_row r sorted i in
      let old = (same_rows made sorted moved m.0).1 m.1 in
      subst (λ r. IsSmall r.position) (sym m.2) (record { red = can.red m.0 old; blue = can.blue m.0 old })

  pub ordered_rise : IsSortedBy (λ (r q : Made). precedes r.position q.position) sorted → IsRising precedes (made_rows sorted)
  ordered_rise sorted_by = rows_rise (made_rows sorted) (sorted_rows sorted sorted_by) (still_apart (made_rows made) (made_rows sorted) rows_moved can.apart) small

  pub ordered_known : AreKnown (made_rows sorted) sorted
  ordered_known m i n j =
      let row = can.known m ((same_rows made sorted moved m).1 i) n j in
      (row.0, (same_rows (made_rows made) (made_rows sorted) rows_moved row.0).0 row.1, row.2)

  pub ordered_few : length (made_rows sorted) ≤ 4294967295
  ordered_few =
      let few = can.few in
      let many = length-map sorted made_row in
      let same = length_permutation made sorted moved in
      omega arith
