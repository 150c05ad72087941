-- The rows of positions as a list.
use Rattle.std.proofs.Common.{◌≡◌, ℕ, zero, suc, ◌+◌, ◌*◌, ◌<◌, ◌≤◌, ◌≢◌, List, [], ◌∷◌, ◌++◌, length, take, drop, map, get_or, set, ◌⊎◌, inl, inr, refl, sym, ap, ◌∙◌, subst, arith, length-set, MatchOption, Option, None, Some}
use Rattle.std.proofs.lemmas.List.{length-map, map-append, map-set, set-get_or, get_or_append_left, get_or_push, get_or-set_same, get_or-set_other, length_push}
use Rattle.std.proofs.lemmas.Bool.{cases_eq}
use Rattle.pebble_rules.specs.declared.position.Position.{Position}
use Rattle.position_arena.specs.declared.rows.Head.{Head}
use Rattle.position_arena.specs.Arenas.{Arena, Slot, no_slot, slot_at, IsWithinWords, IsAbsent, IsPlaceOf, row_words, pushed, with_head}
use Rattle.position_arena.specs.Index.{hash_of, homed, probed, home_of, IsIndex, IsPlaced, keys_of, IsNoKey, IsKeyAt}
use Rattle.position_arena.specs.RowsInside.{AreRows}
use Rattle.position_arena.specs.SlotRows.{step_number, link_number, slot_row, slot_of, IsHead, IsSlotRow}
use Rattle.position_arena.specs.Stores.{StoredRows, with_rows, row_at}
use Rattle.position_arena.proofs.IndexLaws.{hash_below, homed_below, length-keys, key_at-keys, placed_index, whole_after}
use Rattle.position_arena.proofs.SlotLaws.{take-slot_row, slot_back, same_words, row_made, head_changed}

get_or_map : {X Y : Type 0} (f : X → Y) (xs : List X) (k : ℕ) (d : Y) (e : X) → k < length xs → get_or (map f xs) k d ≡ f (get_or xs k e)
get_or_map f [] k d e h = absurd (omega arith)
get_or_map f (x ∷ xs) zero d e h = refl
get_or_map f (x ∷ xs) (suc k) d e h = get_or_map f xs k d e (omega arith)

abbrev pub arena : ℕ → List (List ℕ) → Arena
arena words rows = record { words = words; slots = map (slot_of words) rows }

-- other rows in the same store
pub same_rows : (words : ℕ) (store other : StoredRows) (places more : List ℕ) → AreRows words store places → other.wide ≡ store.wide → other.rows ≡ store.rows
    → IsIndex (keys_of (2 * words) store.rows) more → 3 * length store.rows ≤ 2 * length more → AreRows words other more
same_rows words store other places more is wide rows index loose = record {
  narrow = is.narrow;
  wide = wide ∙ is.wide;
  few = subst (λ rows. length rows ≤ 4294967295) (sym rows) is.few;
  laid = subst (λ (rows : List (List ℕ)). (k : ℕ) → k < length rows → IsSlotRow words (get_or rows k [])) (sym rows) is.laid;
  index = subst (λ rows. IsIndex (keys_of (2 * words) rows) more) (sym rows) index;
  loose = subst (λ (rows : List (List ℕ)). 3 * length rows ≤ 2 * length more) (sym rows) loose;
}

module _ (words : ℕ) (store : StoredRows) (places : List ℕ) (is : AreRows words store places) (a : Arena) (seen : arena words store.rows ≡ a) where
  pub seen_words : a.words ≡ words
  seen_words = ap (λ a. a.words) (sym seen)

  pub seen_len : length a.slots ≡ length store.rows
  seen_len = ap (λ a. length a.slots) (sym seen) ∙ length-map store.rows (slot_of words)

  module _ (k : ℕ) (h : k < length store.rows) where
    abbrev slot : Slot
    slot = (is.laid k h).slot

    slot_seen : slot_at a k ≡ slot
    slot_seen =
        let laid = is.laid k h in
        ap (λ a. slot_at a k) (sym seen) ∙ get_or_map (slot_of words) store.rows k no_slot [] h ∙ ap (slot_of words) laid.is ∙ slot_back words laid.slot is.narrow laid.fits laid.head

    pub words_seen : take (2 * words) (row_at store k) ≡ row_words words (slot_at a k).position
    words_seen = let laid = is.laid k h in ap (take (2 * words)) laid.is ∙ take-slot_row words is.narrow laid.slot ∙ ap (λ (s : Slot). row_words words s.position) (sym slot_seen)

    pub fits_seen : IsWithinWords words (slot_at a k).position
    fits_seen = let laid = is.laid k h in subst (λ (s : Slot). IsWithinWords words s.position) (sym slot_seen) laid.fits

  pub row_is : (k : ℕ) → k < length a.slots → take (2 * words) (row_at store k) ≡ row_words a.words (slot_at a k).position
  row_is k h = words_seen k (omega (arith, h, seen_len)) ∙ ap (λ w. row_words w (slot_at a k).position) (sym seen_words)

  pub position_is : (k : ℕ) → k < length a.slots → (slot_of words (row_at store k)).position ≡ (slot_at a k).position
  position_is k h = sym (ap (λ (s : Slot). s.position) (ap (λ a. slot_at a k) (sym seen) ∙ get_or_map (slot_of words) store.rows k no_slot [] (omega (arith, h, seen_len))))

  -- ---- find

  pub absent_outside : (p : Position) → (IsWithinWords words p → ⊥) → IsAbsent a p
  absent_outside p outside k h e = outside (subst (IsWithinWords words) e (fits_seen k (omega (arith, h, seen_len))))

  pub found : (p : Position) (key : List ℕ) (width : ℕ) (r : Option ℕ) → IsWithinWords words p → key ≡ row_words words p → width ≡ 2 * words
      → MatchOption r (IsNoKey (keys_of width store.rows) key) (IsKeyAt (keys_of width store.rows) key) → MatchOption r (IsAbsent a p) (IsPlaceOf a p)
  found p key width None fits key_is width_is none = λ k h e.
      let within : k < length store.rows = omega (arith, h, seen_len) in
      none k (omega (arith, within, length-keys width store.rows))
      (key_at-keys width store.rows k within ∙ ap (λ n. take n (row_at store k)) width_is ∙ words_seen k within ∙ ap (row_words words) e ∙ sym key_is)
  found p key width (Some k) fits key_is width_is some =
      let within : k < length store.rows = omega (arith, some.0, length-keys width store.rows) in (
        omega (arith, within, seen_len),
        same_words words (slot_at a k).position p is.narrow (fits_seen k within) fits
            (sym (words_seen k within) ∙ ap (λ n. take n (row_at store k)) (sym width_is) ∙ sym (key_at-keys width store.rows k within) ∙ some.1 ∙ key_is),
      )

  -- ---- another head

  module _ (k : ℕ) (h : k < length a.slots) (head : Head) (is_head : IsHead head) (next : StoredRows)
      (made : next ≡ with_rows store (set store.rows k (set (set (row_at store k) (2 * words) (link_number head)) (2 * words + 1) (step_number head.step)))) where
    inside : k < length store.rows
    inside = omega (arith, h, seen_len)

    abbrev changed : Slot
    changed = record { position = (slot_at a k).position; head = head }

    rows_are : next.rows ≡ set store.rows k (slot_row words changed)
    rows_are =
        let laid = is.laid k inside in
        ap (λ t. t.rows) made
        ∙ ap (λ row. set store.rows k (set (set row (2 * words) (link_number head)) (2 * words + 1) (step_number head.step))) (laid.is ∙ ap (slot_row words) (sym (slot_seen k inside)))
        ∙ ap (set store.rows k) (head_changed words (slot_at a k) head is.narrow)

    fits : IsWithinWords words (slot_at a k).position
    fits = fits_seen k inside

    same_keys : keys_of (2 * words) (set store.rows k (slot_row words changed)) ≡ keys_of (2 * words) store.rows
    same_keys =
        map-set (take (2 * words)) store.rows k (slot_row words changed)
        ∙ ap (set (keys_of (2 * words) store.rows) k) (take-slot_row words is.narrow changed ∙ sym (words_seen k inside) ∙ sym (key_at-keys (2 * words) store.rows k inside))
        ∙ set-get_or (keys_of (2 * words) store.rows) k []

    pub head_rows : AreRows words next places
    head_rows = record {
      narrow = is.narrow;
      wide = ap (λ t. t.wide) made ∙ is.wide;
      few = omega (arith, ap length rows_are, length-set store.rows k (slot_row words changed), is.few);
      laid = subst (λ (rows : List (List ℕ)). (j : ℕ) → j < length rows → IsSlotRow words (get_or rows j [])) (sym rows_are) (λ j l. laid j (omega (arith, l, length-set store.rows k (slot_row words changed))) (cases_eq j k));
      index = subst (λ rows. IsIndex (keys_of (2 * words) rows) places) (sym rows_are) (subst (λ keys. IsIndex keys places) (sym same_keys) is.index);
      loose = omega (arith, ap length rows_are, length-set store.rows k (slot_row words changed), is.loose);
    }
      where
        laid : (j : ℕ) → j < length store.rows → (j ≡ k) ⊎ (j ≢ k) → IsSlotRow words (get_or (set store.rows k (slot_row words changed)) j [])
        laid j l (inl same) =
            subst (λ j. IsSlotRow words (get_or (set store.rows k (slot_row words changed)) j [])) (sym same)
            (subst (IsSlotRow words) (sym (get_or-set_same store.rows k (slot_row words changed) [] inside)) (record { slot = changed; fits = fits; head = is_head; is = refl }))
        laid j l (inr elsewhere) = subst (IsSlotRow words) (sym (get_or-set_other store.rows k j (slot_row words changed) [] elsewhere)) (is.laid j l)

    pub head_arena : arena words next.rows ≡ with_head a k head
    head_arena =
        ap (arena words) rows_are
        ∙ (λ i. record { words = words; slots = (map-set (slot_of words) store.rows k (slot_row words changed) ∙ ap (set (map (slot_of words) store.rows) k) (slot_back words changed is.narrow fits is_head)) i })
        ∙ ap (λ (b : Arena). let s : Arena = record { words = b.words; slots = set b.slots k changed } in s) seen

  -- ---- a row more

  module _ (p : Position) (head : Head) (fits : IsWithinWords a.words p) (is_head : IsHead head) (room : length a.slots < 4294967295) where
    abbrev fresh : Slot
    fresh = record { position = p; head = head }

    within_words : IsWithinWords words p
    within_words = subst (λ w. IsWithinWords w p) seen_words fits

    pub more_arena : (rows : List (List ℕ)) → rows ≡ store.rows ++ slot_row words fresh ∷ [] → arena words rows ≡ pushed a p head
    more_arena rows e =
        ap (arena words) e
        ∙ (λ i. record { words = words; slots = (map-append (slot_of words) store.rows (slot_row words fresh ∷ []) ∙ ap (λ s. map (slot_of words) store.rows ++ s ∷ []) (slot_back words fresh is.narrow within_words is_head)) i })
        ∙ ap (λ (b : Arena). let s : Arena = record { words = b.words; slots = b.slots ++ fresh ∷ [] } in s) seen

    pub more_rows : (next : StoredRows) (before after : List ℕ) → next.wide ≡ store.wide → next.rows ≡ store.rows ++ slot_row words fresh ∷ [] → IsIndex (keys_of (2 * words) store.rows) before
        → 3 * (length store.rows + 1) ≤ 2 * length before → IsPlaced before after (home_of before (row_words words p)) (length store.rows) → AreRows words next after
    more_rows next before after wide rows index loose placed = record {
      narrow = is.narrow;
      wide = wide ∙ is.wide;
      few = omega (arith, ap length rows, length_push store.rows (slot_row words fresh), room, seen_len);
      laid = subst (λ (rows : List (List ℕ)). (k : ℕ) → k < length rows → IsSlotRow words (get_or rows k [])) (sym rows) (λ k l. laid k (omega (arith, l, length_push store.rows (slot_row words fresh))) (cases_eq k (length store.rows)));
      index = subst (λ rows. IsIndex (keys_of (2 * words) rows) after) (sym rows) (subst (λ keys. IsIndex keys after) (sym more_keys) indexed);
      loose = omega (arith, ap length rows, length_push store.rows (slot_row words fresh), loose, ap length placed.written, length-set before (probed (length before) (home_of before (row_words words p)) placed.turn) (length store.rows));
    }
      where
        laid : (k : ℕ) → k < length store.rows + 1 → (k ≡ length store.rows) ⊎ (k ≢ length store.rows) → IsSlotRow words (get_or (store.rows ++ slot_row words fresh ∷ []) k [])
        laid k l (inl same) = subst (IsSlotRow words) (sym (get_or_push store.rows (slot_row words fresh) [] k (sym same))) (record { slot = fresh; fits = within_words; head = is_head; is = refl })
        laid k l (inr other) = let less : k < length store.rows = omega (arith, l, other) in subst (IsSlotRow words) (sym (get_or_append_left store.rows (slot_row words fresh ∷ []) [] k less)) (is.laid k less)

        more_keys : keys_of (2 * words) (store.rows ++ slot_row words fresh ∷ []) ≡ keys_of (2 * words) store.rows ++ row_words words p ∷ []
        more_keys = map-append (take (2 * words)) store.rows (slot_row words fresh ∷ []) ∙ ap (λ key. keys_of (2 * words) store.rows ++ key ∷ []) (take-slot_row words is.narrow fresh)

        count : length (keys_of (2 * words) store.rows) ≡ length store.rows
        count = length-keys (2 * words) store.rows

        indexed : IsIndex (keys_of (2 * words) store.rows ++ row_words words p ∷ []) after
        indexed = placed_index (keys_of (2 * words) store.rows) before after (row_words words p) index (omega (arith, count, room, seen_len))
            (subst (IsPlaced before after (home_of before (row_words words p))) (sym count) placed) (homed_below (length before) (hash_of (row_words words p)) (omega (arith, loose)) (hash_below (row_words words p)))

    -- what `push` writes
    module _ (other next : StoredRows) (wide : other.wide ≡ store.wide) (rows : other.rows ≡ store.rows) (numbers : List ℕ) (long : length numbers ≡ 10) (made : take (2 * words) numbers ≡ row_words words p) (link step : ℕ)
        (link_is : link ≡ link_number head) (step_is : step ≡ step_number head.step) (next_is : next ≡ with_rows other (other.rows ++ take (2 * words + 2) (set (set numbers (2 * words) link) (2 * words + 1) step) ∷ [])) where
      row_is_made : take (2 * words + 2) (set (set numbers (2 * words) link) (2 * words + 1) step) ≡ slot_row words fresh
      row_is_made =
          (λ i. take (2 * words + 2) (set (set numbers (2 * words) (link_is i)) (2 * words + 1) (step_is i))) ∙ row_made words numbers fresh (let narrow = is.narrow in omega (arith, long)) made

      next_rows : next.rows ≡ store.rows ++ slot_row words fresh ∷ []
      next_rows = ap (λ t. t.rows) next_is ∙ (λ i. rows i ++ row_is_made i ∷ [])

      pub written_arena : arena words next.rows ≡ pushed a p head
      written_arena = more_arena next.rows next_rows

      pub written_rows : (before given after : List ℕ) (hash count len : ℕ) → IsIndex (keys_of (2 * words) other.rows) before → 3 * (length other.rows + 1) ≤ 2 * length before → given ≡ before
          → hash ≡ hash_of (take (2 * words) numbers) → count ≡ length other.rows → IsPlaced given after (homed (length given) hash) count → len ≡ length before → AreRows words next (take len (after ++ drop (length after) before))
      written_rows before given after hash count len index loose same hash_is count_is placed len_is =
          let size : length after ≡ length before = ap length placed.written ∙ length-set given (probed (length given) (homed (length given) hash) placed.turn) count ∙ ap length same in
          let hash_now : hash ≡ hash_of (row_words words p) = hash_is ∙ ap hash_of made in
          let count_now : count ≡ length store.rows = count_is ∙ ap length rows in
          subst (AreRows words next) (sym (whole_after len after before size len_is))
          (more_rows next before after (ap (λ t. t.wide) next_is ∙ wide) next_rows (subst (λ rows. IsIndex (keys_of (2 * words) rows) before) rows index) (omega (arith, loose, ap length rows))
          (subst (λ n. IsPlaced before after (home_of before (row_words words p)) n) count_now
          (subst (λ n. IsPlaced before after (homed (length before) n) count) hash_now (subst (λ l. IsPlaced l after (homed (length l) hash) count) same placed))))
