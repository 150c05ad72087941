-- How rows lie in chunks.
use Rattle.std.proofs.Common.{◌≡◌, ℕ, zero, suc, ◌+◌, ◌-◌, ◌*◌, ◌/◌, ◌%◌, ◌^◌, ◌<◌, ◌≤◌, List, [], ◌∷◌, ◌++◌, length, take, drop, get_or, set, ◌⊎◌, inl, inr, refl, sym, ap, ◌∙◌, subst, arith, length-append, length-set}
use Rattle.std.proofs.lemmas.List.{length-drop, get_or_append_left, get_or_push, get_or-set_same, get_or-set_other, ext_get_or, length_push, drop_at, take_all, take-append-le, drop-append-le, take-set-le, drop-set-lt, drop-set-add, get_or_default}
use Rattle.std.proofs.lemmas.Bool.{cases_eq, cases_lt}
use Rattle.std.proofs.Math.Nat.{mul-le-mul_right}
use Rattle.raw_chunk.specs.Numbers.{Numbers, with_items}
use Rattle.position_arena.specs.Stores.{StoredRows, with_rows, row_at, values_below, no_chunk, laid_row}
use Rattle.position_arena.specs.StoreInside.{rows_in, IsLaid, AreLaid}

-- ---- the values of a function at the numbers below n

module _ {X : Type 0} where
  pub length-values_below : (f : ℕ → X) (n : ℕ) → length (values_below f n) ≡ n
  unfolding values_below
  length-values_below f zero = refl
  length-values_below f (suc n) = let rest = length-values_below f n in omega (arith, length_push (values_below f n) (f n))

  pub get_or-values_below : (f : ℕ → X) (n k : ℕ) (d : X) → k < n → get_or (values_below f n) k d ≡ f k
  unfolding values_below
  get_or-values_below f zero k d h = absurd (omega arith)
  get_or-values_below f (suc n) k d h = elim (cases_eq k n) [
    | inl same ↦ get_or_push (values_below f n) (f n) d k (omega (arith, length-values_below f n, same)) ∙ ap f (sym same)
    | inr other ↦
        let less : k < n = omega arith in
        get_or_append_left (values_below f n) (f n ∷ []) d k (omega (arith, length-values_below f n)) ∙ get_or-values_below f n k d less
  ]

  pub same_values : (f g : ℕ → X) (n : ℕ) → ((k : ℕ) → k < n → f k ≡ g k) → values_below f n ≡ values_below g n
  unfolding values_below
  same_values f g zero same = refl
  same_values f g (suc n) same = λ i. same_values f g n (λ k h. same k (omega arith)) i ++ same n (omega arith) i ∷ []

  -- one value more
  pub values_below_more : (f g : ℕ → X) (n : ℕ) (x : X) → ((k : ℕ) → k < n → g k ≡ f k) → g n ≡ x → values_below g (n + 1) ≡ values_below f n ++ x ∷ []
  unfolding values_below
  values_below_more f g n x same here =
      let e : n + 1 ≡ suc n = omega arith in
      let more : values_below g (suc n) ≡ values_below f n ++ x ∷ [] = λ i. same_values g f n same i ++ here i ∷ [] in
      ap (values_below g) e ∙ more

  -- another value at k
  pub values_below_set : (f g : ℕ → X) (n k : ℕ) (x : X) → k < n → ((j : ℕ) → j < n → (j ≡ k → ⊥) → g j ≡ f j) → g k ≡ x → values_below g n ≡ set (values_below f n) k x
  values_below_set f g n k x within others here =
      let long = length-values_below f n in let long_now = length-values_below g n in let kept = length-set (values_below f n) k x in
      ext_get_or x (values_below g n) (set (values_below f n) k x) (omega arith) (λ j h. at j (omega arith) (cases_eq j k))
    where
      at : (j : ℕ) → j < n → (j ≡ k) ⊎ (j ≡ k → ⊥) → get_or (values_below g n) j x ≡ get_or (set (values_below f n) k x) j x
      at j less (inl same) = get_or-values_below g n j x less ∙ ap g same ∙ here ∙ sym (ap (λ j. get_or (set (values_below f n) k x) j x) same ∙ get_or-set_same (values_below f n) k x x (omega (arith, length-values_below f n)))
      at j less (inr other) = get_or-values_below g n j x less ∙ others j less other ∙ sym (get_or-set_other (values_below f n) k j x x other ∙ get_or-values_below f n j x less)

-- ---- a part of a list of numbers

-- the r-th part, of `wide` numbers
abbrev part : ℕ → List ℕ → ℕ → List ℕ
part wide items r = take wide (drop (r * wide) items)

part_append : (wide : ℕ) (items row : List ℕ) (r : ℕ) → r * wide + wide ≤ length items → part wide (items ++ row) r ≡ part wide items r
part_append wide items row r h =
    ap (take wide) (drop-append-le (r * wide) items row (omega arith)) ∙ take-append-le wide (drop (r * wide) items) row (omega (arith, length-drop (r * wide) items))

part_new : (wide : ℕ) (items row : List ℕ) (r : ℕ) → length items ≡ r * wide → length row ≡ wide → part wide (items ++ row) r ≡ row
part_new wide items row r h size = ap (take wide) (drop_at items row (r * wide) h) ∙ take_all wide row (omega arith)

take_set_lt : (n : ℕ) (xs : List ℕ) (i x : ℕ) → i < n → take n (set xs i x) ≡ set (take n xs) i x
take_set_lt zero xs i x h = absurd (omega arith)
take_set_lt (suc n) [] i x h = refl
take_set_lt (suc n) (y ∷ xs) zero x h = refl
take_set_lt (suc n) (y ∷ xs) (suc i) x h = λ j. y ∷ take_set_lt n xs i x (omega arith) j

part_set_same : (wide : ℕ) (items : List ℕ) (r at x : ℕ) → at < wide → part wide (set items (r * wide + at) x) r ≡ set (part wide items r) at x
part_set_same wide items r at x h = ap (take wide) (drop-set-add (r * wide) items at x) ∙ take_set_lt wide (drop (r * wide) items) at x h

-- a part before another ends where the other begins, or before
apart : (wide r s : ℕ) → r < s → r * wide + wide ≤ s * wide
apart wide r s h = let up : r + 1 ≤ s = omega arith in omega (arith, mul-le-mul_right wide up)

part_set_other : (wide : ℕ) (items : List ℕ) (r s at x : ℕ) → at < wide → (r ≡ s → ⊥) → part wide (set items (s * wide + at) x) r ≡ part wide items r
part_set_other wide items r s at x h other = cases (cases_lt r s)
  where
    cases : (r < s) ⊎ (s ≤ r) → part wide (set items (s * wide + at) x) r ≡ part wide items r
    cases (inl less) =
        let far = apart wide r s less in
        let on : s * wide + at ≡ r * wide + (s * wide + at - r * wide) = omega (arith, far) in
        ap (λ k. part wide (set items k x) r) on ∙ ap (take wide) (drop-set-add (r * wide) items (s * wide + at - r * wide) x)
        ∙ take-set-le wide (drop (r * wide) items) (s * wide + at - r * wide) x (omega (arith, far, h))
    cases (inr more) = let less : s < r = omega arith in ap (take wide) (drop-set-lt (r * wide) items (s * wide + at) x (omega (arith, apart wide s r less, h)))

-- two other numbers, at p and behind it
abbrev set_two : List ℕ → ℕ → ℕ → ℕ → List ℕ
set_two items p x y = set (set items p x) (p + 1) y

length-set_two : (items : List ℕ) (p x y : ℕ) → length (set_two items p x y) ≡ length items
length-set_two items p x y = length-set (set items p x) (p + 1) y ∙ length-set items p x

part_set_two_same : (wide : ℕ) (items : List ℕ) (r at x y : ℕ) → at + 1 < wide → part wide (set_two items (r * wide + at) x y) r ≡ set_two (part wide items r) at x y
part_set_two_same wide items r at x y h =
    let behind : r * wide + at + 1 ≡ r * wide + (at + 1) = omega arith in
    ap (λ p. part wide (set (set items (r * wide + at) x) p y) r) behind
    ∙ part_set_same wide (set items (r * wide + at) x) r (at + 1) y h
    ∙ ap (λ row. set row (at + 1) y) (part_set_same wide items r at x (omega (arith, h)))

part_set_two_other : (wide : ℕ) (items : List ℕ) (r s at x y : ℕ) → at + 1 < wide → (r ≡ s → ⊥) → part wide (set_two items (s * wide + at) x y) r ≡ part wide items r
part_set_two_other wide items r s at x y h other =
    let behind : s * wide + at + 1 ≡ s * wide + (at + 1) = omega arith in
    ap (λ p. part wide (set (set items (s * wide + at) x) p y) r) behind
    ∙ part_set_other wide (set items (s * wide + at) x) r s (at + 1) y h other
    ∙ part_set_other wide items r s at x (omega (arith, h)) other

-- ---- where a row lies

pub chunk_within : (n count k : ℕ) → k < n → n ≤ 4096 * count → k / 4096 < count
chunk_within n count k h enough = omega (arith, h, enough)

row_before : (n k : ℕ) → k < n → k % 4096 + 1 ≤ rows_in n (k / 4096)
row_before n k h = omega (arith, h)

module _ (wide n : ℕ) (chunks : List Numbers) (is : AreLaid wide n chunks) where
  pub row_within : (k : ℕ) → k < n → (k % 4096) * wide + wide ≤ length (get_or chunks (k / 4096) no_chunk).items
  row_within k h =
      let laid = is.laid (k / 4096) (chunk_within n (length chunks) k h is.enough) in
      omega (arith, mul-le-mul_right wide (row_before n k h), laid.items)

  -- where the next row goes
  module _ (room : n < 4096 * length chunks) where
    pub next_within : n / 4096 < length chunks
    next_within = omega (arith, room)

    pub next_size : length (get_or chunks (n / 4096) no_chunk).items ≡ (n % 4096) * wide
    next_size =
        let laid = is.laid (n / 4096) next_within in
        let held : rows_in n (n / 4096) ≡ n % 4096 = omega arith in laid.items ∙ ap (λ k. k * wide) held

    pub next_fits : (size : ℕ) → size ≡ wide → length (get_or chunks (n / 4096) no_chunk).items + size ≤ (get_or chunks (n / 4096) no_chunk).room
    next_fits size e =
        let laid = is.laid (n / 4096) next_within in
        let held : n % 4096 + 1 ≤ 4096 = omega arith in
        omega (arith, laid.room, next_size, mul-le-mul_right wide held, e)

    module _ (row : List ℕ) (size : length row ≡ wide) where
      abbrev more : List Numbers
      more = set chunks (n / 4096) (with_items (get_or chunks (n / 4096) no_chunk) ((get_or chunks (n / 4096) no_chunk).items ++ row))

      old_row : (k : ℕ) → k < n → laid_row wide more k ≡ laid_row wide chunks k
      old_row k h = cases (cases_eq (k / 4096) (n / 4096))
        where
          cases : (k / 4096 ≡ n / 4096) ⊎ (k / 4096 ≡ n / 4096 → ⊥) → laid_row wide more k ≡ laid_row wide chunks k
          cases (inl same) =
              let chunk = get_or chunks (n / 4096) no_chunk in
              let here : get_or more (k / 4096) no_chunk ≡ with_items chunk (chunk.items ++ row) = ap (λ c. get_or more c no_chunk) same ∙ get_or-set_same chunks (n / 4096) (with_items chunk (chunk.items ++ row)) no_chunk next_within in
              let within = row_within k h in
              let inside : (k % 4096) * wide + wide ≤ length chunk.items = subst (λ c. (k % 4096) * wide + wide ≤ length (get_or chunks c no_chunk).items) same within in
              ap (λ c. part wide c.items (k % 4096)) here ∙ part_append wide chunk.items row (k % 4096) inside ∙ ap (λ c. part wide (get_or chunks c no_chunk).items (k % 4096)) (sym same)
          cases (inr other) = ap (λ c. part wide c.items (k % 4096)) (get_or-set_other chunks (n / 4096) (k / 4096) _ no_chunk other)

      new_row : laid_row wide more n ≡ row
      new_row =
          let chunk = get_or chunks (n / 4096) no_chunk in
          ap (λ c. part wide c.items (n % 4096)) (get_or-set_same chunks (n / 4096) (with_items chunk (chunk.items ++ row)) no_chunk next_within)
          ∙ part_new wide chunk.items row (n % 4096) next_size size

      pub pushed_rows : values_below (laid_row wide more) (n + 1) ≡ values_below (laid_row wide chunks) n ++ row ∷ []
      pushed_rows = values_below_more (laid_row wide chunks) (laid_row wide more) n row old_row new_row

      pub pushed_laid : AreLaid wide (n + 1) more
      pushed_laid =
          let kept = length-set chunks (n / 4096) (with_items (get_or chunks (n / 4096) no_chunk) ((get_or chunks (n / 4096) no_chunk).items ++ row)) in record {
            narrow = is.narrow;
            enough = omega (arith, kept, room);
            few = let few = is.few in omega (arith, kept);
            laid = λ c h. at c (omega (arith, kept)) (cases_eq c (n / 4096));
          }
        where
          at : (c : ℕ) → c < length chunks → (c ≡ n / 4096) ⊎ (c ≡ n / 4096 → ⊥) → IsLaid wide (n + 1) c (get_or more c no_chunk)
          at c h (inl same) =
              let chunk = get_or chunks (n / 4096) no_chunk in
              let laid = is.laid (n / 4096) next_within in
              let held : rows_in (n + 1) (n / 4096) ≡ n % 4096 + 1 = omega arith in
              subst (λ c. IsLaid wide (n + 1) c (get_or more c no_chunk)) (sym same)
              (subst (IsLaid wide (n + 1) (n / 4096)) (sym (get_or-set_same chunks (n / 4096) (with_items chunk (chunk.items ++ row)) no_chunk next_within)) (record {
                room = laid.room;
                items = length-append chunk.items row ∙ (let one : length chunk.items + length row ≡ (n % 4096 + 1) * wide = omega (arith, next_size, size) in one) ∙ ap (λ k. k * wide) (sym held);
              }))
          at c h (inr other) =
              let laid = is.laid c h in
              let held : rows_in (n + 1) c ≡ rows_in n c = grind (arith, other) in
              subst (IsLaid wide (n + 1) c) (sym (get_or-set_other chunks (n / 4096) c _ no_chunk other)) (record { room = laid.room; items = laid.items ∙ ap (λ k. k * wide) (sym held) })

  -- a chunk more
  pub reserved_laid : n ≡ 4096 * length chunks → AreLaid wide n (chunks ++ record { room = 4096 * wide; items = [] } ∷ [])
  reserved_laid full =
      let fresh : Numbers = record { room = 4096 * wide; items = [] } in
      let size = length_push chunks fresh in record {
        narrow = is.narrow;
        enough = omega (arith, size, full);
        few = omega (arith, size, full);
        laid = λ c h. at c h (cases_lt c (length chunks));
      }
    where
      fresh : Numbers
      fresh = record { room = 4096 * wide; items = [] }

      at : (c : ℕ) → c < length (chunks ++ fresh ∷ []) → (c < length chunks) ⊎ (length chunks ≤ c) → IsLaid wide n c (get_or (chunks ++ fresh ∷ []) c no_chunk)
      at c h (inl less) = subst (IsLaid wide n c) (sym (get_or_append_left chunks (fresh ∷ []) no_chunk c less)) (is.laid c less)
      at c h (inr more) =
          let here : length chunks ≡ c = omega (arith, length_push chunks fresh) in
          let none : rows_in n c ≡ 0 = omega (arith, here, full) in
          subst (IsLaid wide n c) (sym (get_or_push chunks fresh no_chunk c here)) (record { room = refl; items = sym (ap (λ k. k * wide) none ∙ omega arith) })

  pub reserved_rows : (more : List Numbers) → values_below (laid_row wide (chunks ++ more)) n ≡ values_below (laid_row wide chunks) n
  reserved_rows more = same_values (laid_row wide (chunks ++ more)) (laid_row wide chunks) n (λ k h.
      ap (λ c. part wide c.items (k % 4096)) (get_or_append_left chunks more no_chunk (k / 4096) (chunk_within n (length chunks) k h is.enough)))

  -- two other numbers in a row
  module _ (k at x y : ℕ) (within : k < n) (place : at + 1 < wide) where
    abbrev other_chunks : List Numbers
    other_chunks = set chunks (k / 4096) (with_items (get_or chunks (k / 4096) no_chunk) (set_two (get_or chunks (k / 4096) no_chunk).items ((k % 4096) * wide + at) x y))

    same_row : (j : ℕ) → j < n → (j ≡ k → ⊥) → laid_row wide other_chunks j ≡ laid_row wide chunks j
    same_row j h other = cases (cases_eq (j / 4096) (k / 4096))
      where
        cases : (j / 4096 ≡ k / 4096) ⊎ (j / 4096 ≡ k / 4096 → ⊥) → laid_row wide other_chunks j ≡ laid_row wide chunks j
        cases (inl same) =
            let chunk = get_or chunks (k / 4096) no_chunk in
            let apart : j % 4096 ≡ k % 4096 → ⊥ = λ e. other (omega (arith, e, same)) in
            ap (λ c. part wide (get_or other_chunks c no_chunk).items (j % 4096)) same
            ∙ ap (λ c. part wide c.items (j % 4096)) (get_or-set_same chunks (k / 4096) (with_items chunk (set_two chunk.items ((k % 4096) * wide + at) x y)) no_chunk (chunk_within n (length chunks) k within is.enough))
            ∙ part_set_two_other wide chunk.items (j % 4096) (k % 4096) at x y place apart ∙ ap (λ c. part wide (get_or chunks c no_chunk).items (j % 4096)) (sym same)
        cases (inr elsewhere) = ap (λ c. part wide c.items (j % 4096)) (get_or-set_other chunks (k / 4096) (j / 4096) _ no_chunk elsewhere)

    set_row : laid_row wide other_chunks k ≡ set_two (laid_row wide chunks k) at x y
    set_row =
        let chunk = get_or chunks (k / 4096) no_chunk in
        ap (λ c. part wide c.items (k % 4096)) (get_or-set_same chunks (k / 4096) (with_items chunk (set_two chunk.items ((k % 4096) * wide + at) x y)) no_chunk (chunk_within n (length chunks) k within is.enough))
        ∙ part_set_two_same wide chunk.items (k % 4096) at x y place

    pub set_laid : AreLaid wide n other_chunks
    set_laid =
        let kept = length-set chunks (k / 4096) (with_items (get_or chunks (k / 4096) no_chunk) (set_two (get_or chunks (k / 4096) no_chunk).items ((k % 4096) * wide + at) x y)) in record {
          narrow = is.narrow;
          enough = let enough = is.enough in omega (arith, kept);
          few = let few = is.few in omega (arith, kept);
          laid = λ c h. laid_at c (omega (arith, kept)) (cases_eq c (k / 4096));
        }
      where
        laid_at : (c : ℕ) → c < length chunks → (c ≡ k / 4096) ⊎ (c ≡ k / 4096 → ⊥) → IsLaid wide n c (get_or other_chunks c no_chunk)
        laid_at c h (inl same) =
            let chunk = get_or chunks (k / 4096) no_chunk in let old = is.laid (k / 4096) (chunk_within n (length chunks) k within is.enough) in
            subst (λ c. IsLaid wide n c (get_or other_chunks c no_chunk)) (sym same)
            (subst (IsLaid wide n (k / 4096)) (sym (get_or-set_same chunks (k / 4096) (with_items chunk (set_two chunk.items ((k % 4096) * wide + at) x y)) no_chunk (chunk_within n (length chunks) k within is.enough)))
            (record { room = old.room; items = length-set_two chunk.items ((k % 4096) * wide + at) x y ∙ old.items }))
        laid_at c h (inr other) = subst (IsLaid wide n c) (sym (get_or-set_other chunks (k / 4096) c _ no_chunk other)) (is.laid c h)

    pub set_rows : values_below (laid_row wide other_chunks) n ≡ set (values_below (laid_row wide chunks) n) k (set_two (laid_row wide chunks k) at x y)
    set_rows = values_below_set (laid_row wide chunks) (laid_row wide other_chunks) n k (set_two (laid_row wide chunks k) at x y) within same_row set_row

-- ---- the same, as a contract sees it

abbrev pub table : ℕ → ℕ → List Numbers → StoredRows
table wide n chunks = record { wide = wide; room = 4096 * length chunks; rows = values_below (laid_row wide chunks) n }

module _ (wide n : ℕ) (chunks : List Numbers) (is : AreLaid wide n chunks) (t : StoredRows) (seen : table wide n chunks ≡ t) where
  pub seen_len : length t.rows ≡ n
  seen_len = ap (λ t. length t.rows) (sym seen) ∙ length-values_below (laid_row wide chunks) n

  pub seen_room : t.room ≡ 4096 * length chunks
  seen_room = ap (λ t. t.room) (sym seen)

  seen_wide : t.wide ≡ wide
  seen_wide = ap (λ t. t.wide) (sym seen)

  pub has_room : length t.rows < t.room → n < 4096 * length chunks
  has_room h = omega (arith, h, seen_len, seen_room)

  pub has_row : (k : ℕ) → k < length t.rows → k < n
  has_row k h = omega (arith, h, seen_len)

  -- a row more
  module _ (room : length t.rows < t.room) (chunk : Numbers) (read : chunk ≡ get_or chunks (n / 4096) chunk) where
    last_chunk : chunk ≡ get_or chunks (n / 4096) no_chunk
    last_chunk = read ∙ get_or_default chunks (n / 4096) chunk no_chunk (next_within wide n chunks is (has_room room))

    pub row_fits : (size : ℕ) → size ≡ t.wide → length chunk.items + size ≤ chunk.room
    row_fits size e = subst (λ (c : Numbers). length c.items + size ≤ c.room) (sym last_chunk) (next_fits wide n chunks is (has_room room) size (e ∙ seen_wide))

    module _ (row : List ℕ) (size : length row ≡ t.wide) (grown : Numbers) (is_grown : grown ≡ with_items chunk (chunk.items ++ row)) where
      grown_is : set chunks (n / 4096) grown ≡ more wide n chunks is (has_room room) row (size ∙ seen_wide)
      grown_is = ap (set chunks (n / 4096)) (is_grown ∙ ap (λ c. with_items c (c.items ++ row)) last_chunk)

      pub pushed_store : AreLaid wide (n + 1) (set chunks (n / 4096) grown)
      pushed_store = subst (AreLaid wide (n + 1)) (sym grown_is) (pushed_laid wide n chunks is (has_room room) row (size ∙ seen_wide))

      pub pushed_table : table wide (n + 1) (set chunks (n / 4096) grown) ≡ with_rows t (t.rows ++ row ∷ [])
      pushed_table =
          ap (table wide (n + 1)) grown_is
          ∙ (λ i. record {
            wide = wide;
            room = 4096 * length-set chunks (n / 4096) (with_items (get_or chunks (n / 4096) no_chunk) ((get_or chunks (n / 4096) no_chunk).items ++ row)) i;
            rows = pushed_rows wide n chunks is (has_room room) row (size ∙ seen_wide) i;
          })
          ∙ ap (λ (t : StoredRows). with_rows t (t.rows ++ row ∷ [])) seen

  -- a row
  module _ (k : ℕ) (h : k < length t.rows) where
    pub row_chunk : k / 4096 < length chunks
    row_chunk = chunk_within n (length chunks) k (has_row k h) is.enough

    pub row_index : (k % 4096) * wide < 2 ^ 64
    row_index = let few : k % 4096 ≤ 4096 = omega arith in omega (arith, mul-le-mul_right wide few, is.narrow)

    module _ (chunk : Numbers) (read : chunk ≡ get_or chunks (k / 4096) chunk) where
      its_chunk : chunk ≡ get_or chunks (k / 4096) no_chunk
      its_chunk = read ∙ get_or_default chunks (k / 4096) chunk no_chunk row_chunk

      pub row_inside : (k % 4096) * wide + wide ≤ length chunk.items
      row_inside = subst (λ (c : Numbers). (k % 4096) * wide + wide ≤ length c.items) (sym its_chunk) (row_within wide n chunks is k (has_row k h))

      pub row_seen : part wide chunk.items (k % 4096) ≡ row_at t k
      row_seen =
          ap (λ (c : Numbers). part wide c.items (k % 4096)) its_chunk ∙ sym (get_or-values_below (laid_row wide chunks) n k [] (has_row k h)) ∙ ap (λ t. row_at t k) seen

      -- two other numbers in it
      module _ (at x y : ℕ) (place : at + 1 < t.wide) (other : Numbers) (is_other : other ≡ with_items chunk (set_two chunk.items ((k % 4096) * wide + at) x y)) where
        in_wide : at + 1 < wide
        in_wide = omega (arith, place, seen_wide)

        pub place_inside : (k % 4096) * wide + at + 1 < length chunk.items
        place_inside = omega (arith, row_inside, in_wide)

        other_is : set chunks (k / 4096) other ≡ other_chunks wide n chunks is k at x y (has_row k h) in_wide
        other_is = ap (set chunks (k / 4096)) (is_other ∙ ap (λ (c : Numbers). with_items c (set_two c.items ((k % 4096) * wide + at) x y)) its_chunk)

        pub set_store : AreLaid wide n (set chunks (k / 4096) other)
        set_store = subst (AreLaid wide n) (sym other_is) (set_laid wide n chunks is k at x y (has_row k h) in_wide)

        pub set_table : table wide n (set chunks (k / 4096) other) ≡ with_rows t (set t.rows k (set_two (row_at t k) at x y))
        set_table =
            ap (table wide n) other_is
            ∙ (λ i. record {
              wide = wide;
              room = 4096 * length-set chunks (k / 4096) (with_items (get_or chunks (k / 4096) no_chunk) (set_two (get_or chunks (k / 4096) no_chunk).items ((k % 4096) * wide + at) x y)) i;
              rows = set_rows wide n chunks is k at x y (has_row k h) in_wide i;
            })
            ∙ ap (λ row. with_rows (table wide n chunks) (set (values_below (laid_row wide chunks) n) k (set_two row at x y))) (sym (get_or-values_below (laid_row wide chunks) n k [] (has_row k h)))
            ∙ ap (λ (t : StoredRows). with_rows t (set t.rows k (set_two (row_at t k) at x y))) seen

pub new_table : (wide : ℕ) → table wide 0 [] ≡ record { wide = wide; room = 0; rows = [] }
unfolding values_below
new_table wide = refl
