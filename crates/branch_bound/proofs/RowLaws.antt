-- The rows in order.
use Rattle.std.proofs.Common.{◌≡◌, ℕ, zero, suc, ◌+◌, ◌<◌, Bool, true, false, List, [], ◌∷◌, ◌++◌, length, length-append, get_or, cond, ◌⊎◌, inl, inr, ◌↔◌, refl, sym, ap, ◌∙◌, subst, arith}
use Rattle.std.proofs.Math.ListN.{set as put}
use Rattle.std.proofs.lemmas.List.{get_or-set_same, get_or-set_other, length-set}
use Rattle.std.proofs.lemmas.List.Edits.{swap_is}
use Rattle.std.proofs.lemmas.List.Sorted.{IsPermutation-sym, IsPermutation-keeps, Contains-permutation, sorted_far, ranks_by}
use Rattle.std.proofs.lemmas.Bool.{cases_eq}
use Rattle.std.proofs.lemmas.Cmp.{nat_list_cmp_total}
use Rattle.std.specs.List.{swap}
use Rattle.std.specs.List.Sorted.{IsPermutation, IsSortedBy}
use Rattle.std.specs.Ordering.{is_lt, ordering_reverse}
use Rattle.std.specs.Cmp.{IsStrictWeakOrder}
use Rattle.std.specs.declared.cmp.Ordering.{Ordering}
use Rattle.std.specs.declared.cmp.Ordering.TheVariants.{Less, Equal, Greater}
use Rattle.comp_graph.specs.Vertices.{AllBelow}
use Rattle.pebble_rules.specs.declared.position.Position.{Position}
use Rattle.pebble_rules.specs.Positions.{position_order, position_words}
use Rattle.pebble_rules.proofs.Order.{order_equal}
use Rattle.comp_graph.specs.Lists.{IsIn}
use Rattle.potential_cert.specs.declared.tables.Row.{Row}
use Rattle.potential_cert.specs.Table.{IsRising}
use Rattle.potential_cert.specs.Order.{precedes}
use Rattle.search_laws.specs.Search.{is_expanded}
use Rattle.search_laws.proofs.Lists.{append_cases, in_left, in_right}
use Rattle.comp_graph.proofs.Lists.{contains_in, in_contains}
use Rattle.search_laws.specs.Packing.{Store}
use Rattle.search_laws.proofs.Bounds.{row_at}
use Rattle.branch_bound.specs.Frontiers.{StandApart, rows_below}

-- ---- the rows among the places

abbrev pub IsRowBelow : Store → ℕ → Row → Type 0
IsRowBelow s n r = (k : ℕ) × (k < n) × (is_expanded (s.at k).mark ≡ true) × (r ≡ row_at s k)

pub rows_below_are : (s : Store) (n : ℕ) (r : Row) → IsIn r (rows_below s n) → IsRowBelow s n r
rows_below_are s zero r i = absurd i
rows_below_are s (suc k) r i = elim (append_cases r (rows_below s k) _ i) [
  | inl old ↦ let is = rows_below_are s k r old in (is.0, omega (arith, is.1), is.2, is.3)
  | inr last ↦ last_is (is_expanded (s.at k).mark) refl last
]
  where
    last_is : (b : Bool) → is_expanded (s.at k).mark ≡ b → IsIn r (cond b (row_at s k ∷ []) []) → IsRowBelow s (suc k) r
    last_is true is (inl same) = (k, omega arith, is, same)
    last_is true is (inr none) = absurd none
    last_is false is none = absurd none

pub are_rows_below : (s : Store) (n : ℕ) (r : Row) → IsRowBelow s n r → IsIn r (rows_below s n)
are_rows_below s zero r is = absurd (omega (arith, is.1))
are_rows_below s (suc n) r is = elim (cases_eq is.0 n) [
  | inl last ↦ in_right r (rows_below s n) _ (last_in (is_expanded (s.at n).mark) refl last)
  | inr other ↦ in_left r (rows_below s n) _ (are_rows_below s n r (is.0, omega (arith, is.1, other), is.2, is.3))
]
  where
    last_in : (b : Bool) → is_expanded (s.at n).mark ≡ b → is.0 ≡ n → IsIn r (cond b (row_at s n ∷ []) [])
    last_in true b_is same = inl (is.3 ∙ ap (row_at s) same)
    last_in false b_is same = absurd (let row = subst (λ k. is_expanded (s.at k).mark ≡ true) same is.2 in grind arith)

append_none : (xs : List Row) → xs ++ [] ≡ xs
append_none [] = refl
append_none (x ∷ xs) = ap (λ xs. x ∷ xs) (append_none xs)

one_more : (s : Store) (k : ℕ) (b : Bool) → is_expanded (s.at k).mark ≡ b → rows_below s k ++ cond b (row_at s k ∷ []) [] ≡ rows_below s (k + 1)
one_more s k b is = let same : suc k ≡ k + 1 = omega arith in ap (λ b. rows_below s k ++ cond b (row_at s k ∷ []) []) (sym is) ∙ ap (rows_below s) same

pub row_added : (s : Store) (k : ℕ) (rows : List Row) (p : Position) (c : ℕ) → rows ≡ rows_below s k → is_expanded (s.at k).mark ≡ true → p ≡ (s.at k).position → c ≡ (s.at k).cost
    → rows ++ record { position = p; cost = c } ∷ [] ≡ rows_below s (k + 1)
row_added s k rows p c are is p_is c_is =
    ap (λ rows. rows ++ record { position = p; cost = c } ∷ []) are
    ∙ ap (λ p. rows_below s k ++ record { position = p; cost = c } ∷ []) p_is
    ∙ ap (λ c. rows_below s k ++ record { position = (s.at k).position; cost = c } ∷ []) c_is
    ∙ one_more s k true is

pub row_passed : (s : Store) (k : ℕ) (rows : List Row) → rows ≡ rows_below s k → is_expanded (s.at k).mark ≡ false → rows ≡ rows_below s (k + 1)
row_passed s k rows are is = are ∙ sym (append_none (rows_below s k)) ∙ one_more s k false is

-- ---- rows apart

pub get_in : (rows : List Row) (a : ℕ) (d : Row) → a < length rows → IsIn (get_or rows a d) rows
get_in [] a d h = absurd (omega arith)
get_in (r ∷ rs) zero d h = inl refl
get_in (r ∷ rs) (suc a) d h = inr (get_in rs a d (omega arith))

-- the place is an old one, or the last
abbrev Place : List Row → Row → Row → ℕ → Type 0
Place rows r d a = ((a < length rows) × (get_or (rows ++ r ∷ []) a d ≡ get_or rows a d)) ⊎ ((a ≡ length rows) × (get_or (rows ++ r ∷ []) a d ≡ r))

pub apart_push : (rows : List Row) (r : Row) → StandApart rows → ((q : Row) → IsIn q rows → q.position ≡ r.position → ⊥) → StandApart (rows ++ r ∷ [])
apart_push rows r apart new a b d x y same = by_case (place a x) (place b y)
  where
    size : length (rows ++ r ∷ []) ≡ length rows + 1
    size = length-append rows (r ∷ [])

    old : (xs : List Row) (a : ℕ) → a < length xs → get_or (xs ++ r ∷ []) a d ≡ get_or xs a d
    old [] a h = absurd (omega arith)
    old (x ∷ xs) zero h = refl
    old (x ∷ xs) (suc a) h = old xs a (omega arith)

    last : (xs : List Row) (a : ℕ) → a ≡ length xs → get_or (xs ++ r ∷ []) a d ≡ r
    last [] a h = ap (λ a. get_or (r ∷ []) a d) h
    last (x ∷ xs) zero h = absurd (omega arith)
    last (x ∷ xs) (suc a) h = last xs a (omega arith)

    place : (a : ℕ) → a < length (rows ++ r ∷ []) → Place rows r d a
    place a h = elim (cases_eq a (length rows)) [
      | inl e ↦ inr (e, last rows a e)
      | inr other ↦ let less : a < length rows = omega (arith, size) in inl (less, old rows a less)
    ]

    by_case : Place rows r d a → Place rows r d b → a ≡ b
    by_case (inl x) (inl y) = apart a b d x.0 y.0 (ap (λ r. r.position) (sym x.1) ∙ same ∙ ap (λ r. r.position) y.1)
    by_case (inl x) (inr y) = absurd (new (get_or rows a d) (get_in rows a d x.0) (ap (λ r. r.position) (sym x.1) ∙ same ∙ ap (λ r. r.position) y.1))
    by_case (inr x) (inl y) = absurd (new (get_or rows b d) (get_in rows b d y.0) (ap (λ r. r.position) (sym y.1) ∙ sym same ∙ ap (λ r. r.position) x.1))
    by_case (inr x) (inr y) = x.0 ∙ sym y.0

one_more_apart : (s : Store) (n : ℕ) → ((j k : ℕ) → j < suc n → k < suc n → (s.at j).position ≡ (s.at k).position → j ≡ k) → StandApart (rows_below s n) → (b : Bool)
    → StandApart (rows_below s n ++ cond b (row_at s n ∷ []) [])
one_more_apart s n apart before true = apart_push (rows_below s n) (row_at s n) before (λ q i same.
    let is = rows_below_are s n q i in
    let less = is.1 in
    let e = apart is.0 n (omega arith) (omega arith) (sym (ap (λ r. r.position) is.3) ∙ same) in
    absurd (omega arith))
one_more_apart s n apart before false = subst StandApart (sym (append_none (rows_below s n))) before

pub rows_below_apart : (s : Store) (n : ℕ) → ((j k : ℕ) → j < n → k < n → (s.at j).position ≡ (s.at k).position → j ≡ k) → StandApart (rows_below s n)
rows_below_apart s zero apart = λ a b d x y same. absurd (omega arith)
rows_below_apart s (suc n) apart = one_more_apart s n apart (rows_below_apart s n (λ j k x y. apart j k (omega arith) (omega arith))) (is_expanded (s.at n).mark)

abbrev Moved : ℕ → ℕ → ℕ → ℕ → Type 0
Moved i j a was = ((a ≡ j) × (was ≡ i)) ⊎ (((a ≡ j → ⊥) × (a ≡ i) × (was ≡ j)) ⊎ ((a ≡ j → ⊥) × (a ≡ i → ⊥) × (was ≡ a)))

-- where the place a stood before i and j were swapped
record Was (rows : List Row) (i j a : ℕ) (d : Row) : Type 0 where
  was : ℕ
  within : was < length rows
  here : get_or (put (put rows i (get_or rows j d)) j (get_or rows i d)) a d ≡ get_or rows was d
  moved : Moved i j a was

was_at : (rows : List Row) (i j a : ℕ) (d : Row) → i < length rows → j < length rows → a < length rows → Was rows i j a d
was_at rows i j a d x y z = elim (cases_eq a j) [
  | inl e ↦ record {
    was = i;
    within = x;
    here = ap (λ a. get_or (put first j (get_or rows i d)) a d) e ∙ get_or-set_same first j (get_or rows i d) d (subst (λ n. j < n) (sym (length-set rows i (get_or rows j d))) y);
    moved = inl (e, refl);
  }
  | inr other ↦ elim (cases_eq a i) [
    | inl e ↦ record {
      was = j;
      within = y;
      here = get_or-set_other first j a (get_or rows i d) d other ∙ ap (λ a. get_or first a d) e ∙ get_or-set_same rows i (get_or rows j d) d x;
      moved = inr (inl (other, e, refl));
    }
    | inr third ↦ record {
      was = a;
      within = z;
      here = get_or-set_other first j a (get_or rows i d) d other ∙ get_or-set_other rows i a (get_or rows j d) d third;
      moved = inr (inr (other, third, refl));
    }
  ]
]
  where
    first : List Row
    first = put rows i (get_or rows j d)

apart_swapped : (rows : List Row) (i j : ℕ) → i < length rows → j < length rows → StandApart rows → StandApart (swap rows i j)
apart_swapped rows i j x y apart a b d u v same =
    let is = swap_is rows i j d x y in
    let size : length (swap rows i j) ≡ length rows = ap length (sym is) ∙ length-set (put rows i (get_or rows j d)) j (get_or rows i d) ∙ length-set rows i (get_or rows j d) in
    let m = was_at rows i j a d x y (omega arith) in
    let n = was_at rows i j b d x y (omega arith) in
    let at_a : get_or (swap rows i j) a d ≡ get_or rows m.was d = ap (λ xs. get_or xs a d) (sym is) ∙ m.here in
    let at_b : get_or (swap rows i j) b d ≡ get_or rows n.was d = ap (λ xs. get_or xs b d) (sym is) ∙ n.here in
    let e = apart m.was n.was d m.within n.within (ap (λ r. r.position) (sym at_a) ∙ same ∙ ap (λ r. r.position) at_b) in
    back m.was n.was e m.moved n.moved
  where
    back : (m n : ℕ) → m ≡ n → Moved i j a m → Moved i j b n → a ≡ b
    back m n e (inl p) (inl q) = p.0 ∙ sym q.0
    back m n e (inl p) (inr (inl q)) = absurd (q.0 (q.1 ∙ sym p.1 ∙ e ∙ q.2))
    back m n e (inl p) (inr (inr q)) = absurd (q.1 (sym q.2 ∙ sym e ∙ p.1))
    back m n e (inr (inl p)) (inl q) = absurd (p.0 (p.1 ∙ sym q.1 ∙ sym e ∙ p.2))
    back m n e (inr (inl p)) (inr (inl q)) = p.1 ∙ sym q.1
    back m n e (inr (inl p)) (inr (inr q)) = absurd (q.0 (sym q.2 ∙ sym e ∙ p.2))
    back m n e (inr (inr p)) (inl q) = absurd (p.1 (sym p.2 ∙ e ∙ q.1))
    back m n e (inr (inr p)) (inr (inl q)) = absurd (p.0 (sym p.2 ∙ e ∙ q.2))
    back m n e (inr (inr p)) (inr (inr q)) = sym p.2 ∙ e ∙ q.2

pub still_apart : (rows sorted : List Row) → IsPermutation rows sorted → StandApart rows → StandApart sorted
still_apart rows sorted moved apart = IsPermutation-keeps rows StandApart apart (λ l i j x y. apart_swapped l i j x y) sorted moved

-- ---- the same rows

pub same_rows : {X : Type 0} → (rows sorted : List X) → IsPermutation rows sorted → (r : X) → IsIn r rows ↔ IsIn r sorted
same_rows rows sorted moved r = (
  λ i. contains_in sorted r (Contains-permutation rows sorted r moved (in_contains r rows i)),
  λ i. contains_in rows r (Contains-permutation sorted rows r (IsPermutation-sym rows sorted moved) (in_contains r sorted i)),
)

-- ---- rows that rise

pub by_position : IsStrictWeakOrder (λ (r q : Row). precedes r.position q.position)
unfolding precedes
by_position = ranks_by nat_list_cmp_total (λ r. position_words r.position)

-- the sets of the position are below 256
pub record IsSmall (p : Position) : Type 0 where
  pub red : AllBelow 256 p.red
  pub blue : AllBelow 256 p.blue

first_or_last : (p q : Position) → IsSmall p → IsSmall q → precedes q p ≡ false → (p ≡ q → ⊥) → precedes p q ≡ true
unfolding precedes
first_or_last p q a b not_last apart = by_order (position_order p q) refl
  where
    by_order : (o : Ordering) → o ≡ position_order p q → is_lt (position_order p q) ≡ true
    by_order Less is = ap is_lt (sym is)
    by_order Equal is = absurd (apart ((order_equal p q Equal a.red a.blue b.red b.blue is).0 refl))
    by_order Greater is =
        let before : position_order q p ≡ Less = nat_list_cmp_total.antisymm (position_words q) (position_words p) ∙ ap ordering_reverse (sym is) in
        absurd (let untrue = sym (ap is_lt before) ∙ not_last in grind arith)

rise_from : (rows : List Row) → ((i j : ℕ) (d : Row) → i < j → j < length rows → precedes (get_or rows i d).position (get_or rows j d).position ≡ true) → IsRising precedes rows
rise_from [] h = tt
rise_from (r ∷ rs) h = (
  λ q i. let at = in_contains q rs i in subst (λ q. precedes r.position q.position ≡ true) at.2 (h zero (suc at.0) q (omega arith) (let less = at.1 in omega arith)),
  rise_from rs (λ i j d l m. h (suc i) (suc j) d (omega arith) (omega arith)),
)

pub rows_rise : (rows : List Row) → IsSortedBy (λ (r q : Row). precedes r.position q.position) rows → StandApart rows → ((r : Row) → IsIn r rows → IsSmall r.position) → IsRising precedes rows
rows_rise rows sorted apart small = rise_from rows (λ i j d l m.
    first_or_last (get_or rows i d).position (get_or rows j d).position (small _ (get_in rows i d (omega arith))) (small _ (get_in rows j d m))
    (sorted_far (λ (r q : Row). precedes r.position q.position) by_position rows sorted i j d (omega arith) m)
    (λ same. let e = apart i j d (omega arith) m same in absurd (omega arith)))

-- ---- what the sort compares by

pub compared : {F : Type 0} (r : Ordering) (p q : Position) (f g : F) → (r ≡ position_order p q) × (g ≡ f) → (is_lt r ≡ precedes p q) × (g ≡ f)
unfolding precedes
compared r p q f g h = (ap is_lt h.0, h.1)
