-- Distinct rows can be put in an order in which they rise.
use Rattle.std.proofs.Common.{◌≡◌, ◌≢◌, ◌↔◌, ◌⊎◌, Bool, true, false, cond, List, [], ◌∷◌, inl, inr, refl, sym, ap, ◌∙◌, subst, arith}
use Rattle.std.specs.Ordering.{is_lt, ordering_reverse}
use Rattle.std.specs.declared.cmp.Ordering.{Ordering}
use Rattle.std.specs.declared.cmp.Ordering.TheVariants.{Less, Equal, Greater}
use Rattle.pebble_rules.specs.declared.position.Position.{Position}
use Rattle.pebble_rules.specs.Positions.{position_order, position_order_total}
use Rattle.pebble_rules.proofs.Order.{order_equal}
use Rattle.comp_graph.specs.Lists.{IsIn}
use Rattle.potential_cert.specs.declared.tables.Row.{Row}
use Rattle.potential_cert.specs.Order.{precedes}
use Rattle.potential_cert.specs.Table.{AreDistinct, IsRising}
use Rattle.potential_cert.specs.TableLaws.{HaveSameMembers}
use Rattle.potential_cert.proofs.Order.{precedes_is_strict}
use Rattle.branch_bound.proofs.RowLaws.{IsSmall}

-- of two positions one comes before the other
before_or_after : (p q : Position) → IsSmall p → IsSmall q → p ≢ q → precedes q p ≡ false → precedes p q ≡ true
unfolding precedes
before_or_after p q a b apart not_after = by_order (position_order p q) refl
  where
    by_order : (o : Ordering) → o ≡ position_order p q → is_lt (position_order p q) ≡ true
    by_order Less is = ap is_lt (sym is)
    by_order Equal is = absurd (apart ((order_equal p q Equal a.red a.blue b.red b.blue is).0 refl))
    by_order Greater is =
        let before : position_order q p ≡ Less = position_order_total.antisymm q p ∙ ap ordering_reverse (sym is) in
        absurd (let untrue = sym (ap is_lt before) ∙ not_after in grind arith)

-- a row put among rows, before the first one that it precedes
abbrev insert_row : Row → List Row → List Row
insert_row r [] = r ∷ []
insert_row r (q ∷ qs) = cond (precedes r.position q.position) (r ∷ q ∷ qs) (q ∷ insert_row r qs)

-- rows in the order of their positions
abbrev pub in_order : List Row → List Row
in_order [] = []
in_order (r ∷ rs) = insert_row r (in_order rs)

inserted : (r : Row) (rows : List Row) (x : Row) → IsIn x (insert_row r rows) ↔ ((x ≡ r) ⊎ IsIn x rows)
inserted r [] x = (λ i. i, λ i. i)
inserted r (q ∷ qs) x = by_test (precedes r.position q.position) (inserted r qs x)
  where
    to : IsIn x (insert_row r qs) ↔ ((x ≡ r) ⊎ IsIn x qs) → (x ≡ q) ⊎ IsIn x (insert_row r qs) → (x ≡ r) ⊎ ((x ≡ q) ⊎ IsIn x qs)
    to rest (inl e) = inr (inl e)
    to rest (inr i) = elim (rest.0 i) [ inl e ↦ inl e | inr j ↦ inr (inr j) ]

    from : IsIn x (insert_row r qs) ↔ ((x ≡ r) ⊎ IsIn x qs) → (x ≡ r) ⊎ ((x ≡ q) ⊎ IsIn x qs) → (x ≡ q) ⊎ IsIn x (insert_row r qs)
    from rest (inl e) = inr (rest.1 (inl e))
    from rest (inr (inl e)) = inl e
    from rest (inr (inr j)) = inr (rest.1 (inr j))

    by_test : (b : Bool) → IsIn x (insert_row r qs) ↔ ((x ≡ r) ⊎ IsIn x qs) → IsIn x (cond b (r ∷ q ∷ qs) (q ∷ insert_row r qs)) ↔ ((x ≡ r) ⊎ ((x ≡ q) ⊎ IsIn x qs))
    by_test true rest = (λ i. i, λ i. i)
    by_test false rest = (to rest, from rest)

insert_rises : (r : Row) (rows : List Row) → IsSmall r.position → ((q : Row) → IsIn q rows → IsSmall q.position) → ((q : Row) → IsIn q rows → q.position ≡ r.position → ⊥)
    → IsRising precedes rows → IsRising precedes (insert_row r rows)
insert_rises r [] small others apart rise = (λ q none. absurd none, tt)
insert_rises r (q ∷ qs) small others apart rise =
    by_test (precedes r.position q.position) refl (insert_rises r qs small (λ x i. others x (inr i)) (λ x i. apart x (inr i)) rise.1)
  where
    first : precedes r.position q.position ≡ true → (x : Row) → (x ≡ q) ⊎ IsIn x qs → precedes r.position x.position ≡ true
    first before x (inl e) = subst (λ x. precedes r.position x.position ≡ true) (sym e) before
    first before x (inr i) = precedes_is_strict.transitive r.position q.position x.position before (rise.0 x i)

    later : precedes r.position q.position ≡ false → (x : Row) → (x ≡ r) ⊎ IsIn x qs → precedes q.position x.position ≡ true
    later not_before x (inl e) =
        subst (λ x. precedes q.position x.position ≡ true) (sym e)
        (before_or_after q.position r.position (others q (inl refl)) small (apart q (inl refl)) not_before)
    later not_before x (inr i) = rise.0 x i

    by_test : (b : Bool) → precedes r.position q.position ≡ b → IsRising precedes (insert_row r qs) → IsRising precedes (cond b (r ∷ q ∷ qs) (q ∷ insert_row r qs))
    by_test true before rest = (first before, rise)
    by_test false not_before rest = (λ x i. later not_before x ((inserted r qs x).0 i), rest)

-- they have the same members
pub order_keeps : (rows : List Row) → HaveSameMembers rows (in_order rows)
order_keeps [] x = (λ i. i, λ i. i)
order_keeps (r ∷ rs) x = (to (order_keeps rs x).0, λ i. from (order_keeps rs x).1 ((inserted r (in_order rs) x).0 i))
  where
    to : (IsIn x rs → IsIn x (in_order rs)) → (x ≡ r) ⊎ IsIn x rs → IsIn x (insert_row r (in_order rs))
    to rest (inl e) = (inserted r (in_order rs) x).1 (inl e)
    to rest (inr i) = (inserted r (in_order rs) x).1 (inr (rest i))

    from : (IsIn x (in_order rs) → IsIn x rs) → (x ≡ r) ⊎ IsIn x (in_order rs) → (x ≡ r) ⊎ IsIn x rs
    from rest (inl e) = inl e
    from rest (inr i) = inr (rest i)

-- and rise
pub order_rises : (rows : List Row) → ((r : Row) → IsIn r rows → IsSmall r.position) → AreDistinct rows → IsRising precedes (in_order rows)
order_rises [] small distinct = tt
order_rises (r ∷ rs) small distinct =
    insert_rises r (in_order rs) (small r (inl refl)) (λ q i. small q (inr ((order_keeps rs q).1 i))) (λ q i. distinct.0 q ((order_keeps rs q).1 i))
    (order_rises rs (λ q i. small q (inr i)) distinct.1)
