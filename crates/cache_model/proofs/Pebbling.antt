-- The moves of the cache are a complete pebbling.
use Rattle.std.proofs.Common.{◌≡◌, ℕ, zero, suc, ◌+◌, ◌-◌, ◌≤◌, ◌<◌, Bool, true, false, cond, eqb, ◌&&◌, List, [], ◌∷◌, ◌++◌, ◌⊎◌, inl, inr, length, take, map, sym, refl, ap, ◌∙◌, subst, arith, length-take, length-append}
use Rattle.std.proofs.lemmas.List.{map-append}
use Rattle.std.specs.Prelude.{Option, Some, None, slice_get, unwrap_or}
use Rattle.std.specs.Map.{lookup, lookup_entry, remove_entry}
use Rattle.std.proofs.lemmas.Bool.Decides.{nat_tests}
use Rattle.std.specs.FinSet.{contains, insert, remove, union, difference, retain, empty, contains-retain, nat_cmp-IsAntisymmetric}
use Rattle.comp_graph.specs.Vertices.{Vertices, ◌∈◌, ◌∉◌, IsWithin, size, rising}
use Rattle.comp_graph.specs.Sets.{membership, same, has_insert, has_empty, has_remove, has_difference}
use Rattle.comp_graph.specs.Dags.{IsDag, is_live, live_of, degree}
use Rattle.comp_graph.specs.Games.{PebbleGame}
use Rattle.comp_graph.proofs.Sets.{size_insert_le, size_remove}
use Rattle.comp_graph.proofs.Rising.{length-rising, rising-in, rising-out, rising-zero}
use Rattle.comp_graph.proofs.Live.{has_live_of}
use Rattle.comp_graph.proofs.DagLaws.{live_before, live_output, live_vertex, degree_bounds}
use Rattle.pebble_rules.specs.Rules.{start, IsMove, moved, position_after, IsPebbling, IsComplete}
use Rattle.pebble_rules.specs.declared.position.Position.{Position}
use Rattle.pebble_rules.specs.declared.moves.Move.{Move}
use Rattle.pebble_rules.specs.declared.moves.Move.TheVariants.{Load, Store, Compute, DropRed}
use Rattle.pebble_rules.proofs.Possible.{true_or_false, append_position, append_pebbling}
use Rattle.cache_model.specs.Caches.{Line, Cache, empty_cache, without_last, with_room, placed, touched_at, touched, all_touched, with_computed, with_turn, with_turns, turns_of, is_dirty, with_outputs_stored, whole_run}
use Rattle.cache_model.specs.Laws.{CachesArePebblings, keys, AreApart, LinesFit, RoomIsKept, RoomIsMade}
use Rattle.cache_model.proofs.Lines.{size_keys, found_in, missing_out, found_is, lookup_in, in_front, apart_front, front_of_front, lookup_front, get_in, last_keys, last_apart, lookup_at, removed_keys, removed_apart, removed_lookup, front_removed, length_removed}
use Rattle.cache_model.proofs.Runs.{rising_mono, touches_in, touches_out, turns_in, turns_out}

-- The moves of a cache lead to p before the turn of n. The red vertices are those of the lines, at most as many as slots, each of one line
-- and below n; each clean line's vertex is blue, each input is, and each live vertex below n is red or blue
pub record IsCached (g : PebbleGame) (n : ℕ) (c : Cache) (p : Position) : Type 0 where
  pub pebbling : IsPebbling g (start g) c.moves
  pub leads : position_after (start g) c.moves ≡ p
  pub red : p.red ≡ keys c.lines
  pub apart : AreApart c.lines
  pub few : length c.lines ≤ g.slots
  pub below : (v : ℕ) → v ∈ keys c.lines → v < n
  pub clean : (v : ℕ) → lookup (eqb v) c.lines ≡ Some false → v ∈ p.blue
  pub inputs : IsWithin g.dag.inputs p.blue
  pub held : (v : ℕ) → v < n → is_live g.dag v ≡ true → v ∈ union p.red p.blue

-- ---- more moves

module _ (g : PebbleGame) (ms ns : List Move) (p : Position) (leads : position_after (start g) ms ≡ p) where
  pub more_pebbling : IsPebbling g (start g) ms → IsPebbling g p ns → IsPebbling g (start g) (ms ++ ns)
  more_pebbling h more = append_pebbling g (start g) ms ns h (subst (λ q. IsPebbling g q ns) (sym leads) more)

  pub more_leads : position_after (start g) (ms ++ ns) ≡ position_after p ns
  more_leads = append_position (start g) ms ns ∙ ap (λ q. position_after q ns) leads

size_red : (g : PebbleGame) (n : ℕ) (c : Cache) (p : Position) → IsCached g n c p → size p.red ≡ length c.lines
size_red g n c p is = ap size is.red ∙ size_keys c.lines is.apart

-- ---- room for a line

-- a cache with room for one more line, which keeps what stands in front and what is blue
pub record HasRoom (g : PebbleGame) (n : ℕ) (c : Cache) (p : Position) (d : Cache) : Type 0 where
  pub position : Position
  pub cached : IsCached g n d position
  pub room : length d.lines < g.slots
  pub blue : IsWithin p.blue position.blue
  pub front : (m v : ℕ) → m < g.slots → v ∈ keys (take m c.lines) → v ∈ keys (take m d.lines)
  pub fewer : (v : ℕ) → v ∉ keys c.lines → v ∉ keys d.lines

pub none_past : {A : Type 0} (xs : List A) (n : ℕ) → slice_get xs n ≡ None → length xs ≤ n
none_past [] n e = omega arith
none_past (x ∷ xs) zero e = absurd (cc)
none_past (x ∷ xs) (suc n) e = let rest = none_past xs n e in omega arith

not_in : (s : Vertices) (v : ℕ) → (v ∈ s → ⊥) → v ∉ s
not_in s v no_member = grind (arith, nat_tests)

clash : (s : Vertices) (v : ℕ) → v ∈ s → v ∉ s → ⊥
clash s v a b = cc

module _ (g : PebbleGame) (n : ℕ) (c : Cache) (p : Position) (is : IsCached g n c p) (some : 0 < g.slots) where
  -- the last line, which is in the last slot
  module _ (last : Line) (at : slice_get c.lines (g.slots - 1) ≡ Some last) where
    abbrev left : List Line
    left = take (g.slots - 1) c.lines

    last_red : last.0 ∈ p.red
    last_red = subst (λ s. last.0 ∈ s) (sym is.red) (get_in c.lines (g.slots - 1) last at)

    left_red : remove p.red last.0 ≡ keys left
    left_red = same _ _ (λ v.
        let few = is.few in
        let all = last_keys c.lines (g.slots - 1) last at (omega arith) v in
        let red = ap (λ s. contains s v) is.red in
        let gone = has_remove p.red last.0 v in
        let out = last_apart c.lines (g.slots - 1) last is.apart at in
        elim (true_or_false (eqb v last.0)) [
          | inl here ↦ let at_last = ap (contains (keys left)) (tested v last.0 here) in grind (arith, nat_tests)
          | inr other ↦ grind (arith, nat_tests)
        ])
      where
        tested : (a b : ℕ) → eqb a b ≡ true → a ≡ b
        tested a b e = grind (arith, nat_tests)

    left_few : length left < g.slots
    left_few = let cut = length-take (g.slots - 1) c.lines in omega arith

    left_held : (blue : Vertices) → IsWithin p.blue blue → last.0 ∈ blue → (v : ℕ) → v < n → is_live g.dag v ≡ true → v ∈ union (remove p.red last.0) blue
    left_held blue more here v below live = let old = is.held v below live in let blue_more = more v in found old blue_more here
      where
        found : v ∈ union p.red p.blue → (v ∈ p.blue → v ∈ blue) → last.0 ∈ blue → v ∈ union (remove p.red last.0) blue
        found old more here = elim (true_or_false (eqb v last.0)) [
          | inl same ↦ let at_last = ap (contains blue) (tested v last.0 same) in grind (arith, membership)
          | inr other ↦ grind (arith, membership)
        ]
          where
            tested : (a b : ℕ) → eqb a b ≡ true → a ≡ b
            tested a b e = grind (arith, nat_tests)

    -- the cache without the last line, where its vertex is blue
    evicted : (moves : List Move) (blue : Vertices) → IsWithin p.blue blue → last.0 ∈ blue → IsPebbling g p moves
        → position_after p moves ≡ record { red = remove p.red last.0; blue = blue }
        → HasRoom g n c p (record { lines = left; hits = c.hits; moves = c.moves ++ moves })
    evicted moves blue more here pebbling leads = record {
      position = record { red = remove p.red last.0; blue = blue };
      cached = record {
        pebbling = more_pebbling g c.moves moves p is.leads is.pebbling pebbling;
        leads = more_leads g c.moves moves p is.leads ∙ leads;
        red = left_red;
        apart = apart_front c.lines (g.slots - 1) is.apart;
        few = let few = left_few in omega arith;
        below = λ v h. is.below v (in_front c.lines (g.slots - 1) v h);
        clean = λ v e. more v (is.clean v (lookup_front c.lines (g.slots - 1) v false e));
        inputs = λ v h. more v (is.inputs v h);
        held = left_held blue more here;
      };
      room = left_few;
      blue = more;
      front = λ m v less h. front_of_front c.lines m (g.slots - 1) v (omega arith) h;
      fewer = λ v out. not_in (keys left) v (λ h. clash (keys c.lines) v (in_front c.lines (g.slots - 1) v h) out);
    }

    size_left : size (remove p.red last.0) ≤ g.slots
    size_left = let all = size_red g n c p is in let few = is.few in let less = size_remove p.red last.0 last_red in omega arith

    size_all : size p.red ≤ g.slots
    size_all = let all = size_red g n c p is in let few = is.few in omega arith

    by_mark : (dirty : Bool) → last.1 ≡ dirty → HasRoom g n c p (record { lines = left; hits = c.hits; moves = c.moves ++ cond dirty (Store last.0 ∷ DropRed last.0 ∷ []) (DropRed last.0 ∷ []) })
    by_mark true e =
        evicted (Store last.0 ∷ DropRed last.0 ∷ []) (insert p.blue last.0)
        (λ v h. grind (arith, membership)) (grind (arith, membership))
        (record { needs = last_red; fits = size_all }, (record { needs = last_red; fits = size_left }, tt))
        refl
    by_mark false e =
        evicted (DropRed last.0 ∷ []) p.blue (λ v h. h)
        (is.clean last.0 (lookup_at c.lines (g.slots - 1) last is.apart at ∙ ap Some e))
        (record { needs = last_red; fits = size_left }, tt)
        refl

  made : (o : Option Line) → slice_get c.lines (g.slots - 1) ≡ o → HasRoom g n c p (without_last g.slots c o)
  made None e = record {
    position = p;
    cached = is;
    room = let past = none_past c.lines (g.slots - 1) e in omega arith;
    blue = λ v h. h;
    front = λ m v less h. h;
    fewer = λ v out. out;
  }
  made (Some last) e = by_mark last e last.1 refl

  room_made : HasRoom g n c p (with_room g.slots c)
  room_made = made (slice_get c.lines (g.slots - 1)) refl

-- ---- a line goes first

module _ (g : PebbleGame) (n : ℕ) (d : Cache) (q : Position) (is : IsCached g n d q) (room : length d.lines < g.slots) (v : ℕ) (out : v ∉ keys d.lines) where
  first_red : insert q.red v ≡ insert (keys d.lines) v
  first_red = ap (λ s. insert s v) is.red

  first_fits : size (insert q.red v) ≤ g.slots
  first_fits = let one = size_insert_le q.red v in let all = size_red g n d q is in omega arith

  -- by a move that makes v red; its mark is clean only where v is blue
  placed_first : (k : ℕ) (m : Move) (dirty : Bool) → n ≤ k → v < k → IsMove g q m → moved q m ≡ record { red = insert q.red v; blue = q.blue }
      → (dirty ≡ false → v ∈ q.blue) → ((w : ℕ) → w < k → is_live g.dag w ≡ true → (w < n) ⊎ ((w ∈ g.dag.inputs) ⊎ (w ≡ v)))
      → IsCached g k (placed d (v, dirty) m) (record { red = insert q.red v; blue = q.blue })
  placed_first k m dirty grows below move leads clean held = record {
    pebbling = more_pebbling g d.moves (m ∷ []) q is.leads is.pebbling (move, tt);
    leads = more_leads g d.moves (m ∷ []) q is.leads ∙ leads;
    red = first_red;
    apart = (out, is.apart);
    few = omega arith;
    below = λ w h. lower w h;
    clean = λ w e. by_test w (eqb w v) refl e;
    inputs = is.inputs;
    held = λ w less live. elim (held w less live) [
      | inl old ↦ (let has = is.held w old live in grind (arith, membership))
      | inr rest ↦ elim rest [
        | inl input ↦ (let blue = is.inputs w input in grind (arith, membership))
        | inr here ↦ (let test = itself w here in grind (arith, membership))
      ]
    ];
  }
    where
      itself : (w : ℕ) → w ≡ v → eqb w v ≡ true
      itself w e = grind (arith, nat_tests)

      lower : (w : ℕ) → w ∈ insert (keys d.lines) v → w < k
      lower w h = elim (true_or_false (eqb w v)) [
        | inl same ↦ (let e = tested w same in omega arith)
        | inr other ↦ (let old = is.below w (rest w other h) in omega arith)
      ]
        where
          tested : (w : ℕ) → eqb w v ≡ true → w ≡ v
          tested w e = grind (arith, nat_tests)

          rest : (w : ℕ) → eqb w v ≡ false → w ∈ insert (keys d.lines) v → w ∈ keys d.lines
          rest w other h = grind (arith, membership)

      by_test : (w : ℕ) (b : Bool) → eqb w v ≡ b → cond b (Some dirty) (lookup (eqb w) d.lines) ≡ Some false → w ∈ q.blue
      by_test w true t e = subst (λ u. u ∈ q.blue) (sym (tested w t)) (clean (cc))
        where
          tested : (w : ℕ) → eqb w v ≡ true → w ≡ v
          tested w e = grind (arith, nat_tests)
      by_test w false t e = is.clean w e

-- ---- one touch

-- the cache after a touch of u: what stood among the first m lines stands among the first m + 1, and so does u
pub record IsTouched (g : PebbleGame) (n m u : ℕ) (c : Cache) (d : Cache) : Type 0 where
  pub position : Position
  pub cached : IsCached g n d position
  pub front : (v : ℕ) → v ∈ keys (take m c.lines) → v ∈ keys (take (suc m) d.lines)
  pub here : u ∈ keys (take (suc m) d.lines)

module _ (g : PebbleGame) (n m u : ℕ) (c : Cache) (p : Position) (is : IsCached g n c p) (room : m < g.slots) (below : u < n) (live : is_live g.dag u ≡ true) where
  tested : (v w : ℕ) → eqb v w ≡ true → v ≡ w
  tested v w e = grind (arith, nat_tests)

  module _ (l : Line) (e : lookup_entry (eqb u) c.lines ≡ Some l) where
    line_of : (l.0 ≡ u) × (lookup (eqb u) c.lines ≡ Some l.1)
    line_of = found_is c.lines u l e

    rest : List Line
    rest = remove_entry (eqb u) c.lines

    -- the same vertices have lines
    kept : (v : ℕ) → contains (keys c.lines) v ≡ contains (insert (keys (remove_entry (eqb u) c.lines)) l.0) v
    kept v =
        let gone = removed_keys u c.lines is.apart v in
        let whole = has_insert (keys (remove_entry (eqb u) c.lines)) l.0 v in
        let there = found_in c.lines u l e in
        let at = line_of.0 in
        elim (true_or_false (eqb v u)) [
          | inl same ↦ (let is_there = ap (contains (keys c.lines)) (tested v u same) in let v_is = tested v u same in grind (arith, nat_tests))
          | inr other ↦ grind (arith, nat_tests)
        ]

    apart_rest : l.0 ∉ keys (remove_entry (eqb u) c.lines)
    apart_rest = let gone = removed_keys u c.lines is.apart l.0 in let at = line_of.0 in grind (arith, nat_tests)

    clean_line : (v : ℕ) (b : Bool) → eqb v l.0 ≡ b → cond b (Some l.1) (lookup (eqb v) (remove_entry (eqb u) c.lines)) ≡ Some false → v ∈ p.blue
    clean_line v true t h = is.clean v (subst (λ w. lookup (eqb w) c.lines ≡ Some false) (sym (tested v l.0 t ∙ line_of.0)) (line_of.1 ∙ h))
    clean_line v false t h = is.clean v (sym (removed_lookup u c.lines v (other t line_of.0)) ∙ h)
      where
        other : eqb v l.0 ≡ false → l.0 ≡ u → eqb v u ≡ false
        other a b = grind (arith, nat_tests)

    hit : IsTouched g n m u c (touched_at g.slots c u (Some l))
    hit = record {
      position = p;
      cached = record {
        pebbling = is.pebbling;
        leads = is.leads;
        red = is.red ∙ same _ _ kept;
        apart = (apart_rest, removed_apart u c.lines is.apart);
        few = let as_many = length_removed u c.lines l e in let few = is.few in omega arith;
        below = λ v h. is.below v (kept v ∙ h);
        clean = λ v h. clean_line v (eqb v l.0) refl h;
        inputs = is.inputs;
        held = is.held;
      };
      front = λ v h. in_first v h;
      here = (let whole = has_insert (keys (take m (remove_entry (eqb u) c.lines))) l.0 u in let at = line_of.0 in grind (arith, nat_tests));
    }
      where
        in_first : (v : ℕ) → v ∈ keys (take m c.lines) → v ∈ insert (keys (take m (remove_entry (eqb u) c.lines))) l.0
        in_first v h =
            let whole = has_insert (keys (take m (remove_entry (eqb u) c.lines))) l.0 v in
            let at = line_of.0 in
            elim (true_or_false (eqb v u)) [
              | inl same ↦ (let v_is = tested v u same in grind (arith, nat_tests))
              | inr other ↦ (let old = front_removed u c.lines m v other h in grind (arith, nat_tests))
            ]

  missed : lookup_entry (eqb u) c.lines ≡ None → IsTouched g n m u c (touched_at g.slots c u None)
  missed e =
      let made = room_made g n c p is (omega arith) in
      let out = made.fewer u (missing_out c.lines u e) in
      let blue = made.blue u (blue_now e) in
      let move : IsMove g made.position (Load u) = record { needs = blue; fits = first_fits g n (with_room g.slots c) made.position made.cached made.room u out } in
      record {
        position = record { red = insert made.position.red u; blue = made.position.blue };
        cached = placed_first g n (with_room g.slots c) made.position made.cached made.room u out n (Load u) false (omega arith) below move refl (λ _. blue) (λ w less is_live. inl less);
        front = λ v h. in_first made v (made.front m v room h);
        here = (let whole = has_insert (keys (take m (with_room g.slots c).lines)) u u in grind (arith, nat_tests));
      }
    where
      blue_now : lookup_entry (eqb u) c.lines ≡ None → u ∈ p.blue
      blue_now e =
          let held = is.held u below live in
          let out = missing_out c.lines u e in
          let red = ap (λ s. contains s u) is.red in
          grind (arith, membership)

      in_first : HasRoom g n c p (with_room g.slots c) → (v : ℕ) → v ∈ keys (take m (with_room g.slots c).lines) → v ∈ insert (keys (take m (with_room g.slots c).lines)) u
      in_first made v h = let whole = has_insert (keys (take m (with_room g.slots c).lines)) u v in grind (arith, nat_tests)

  by_line : (o : Option Line) → lookup_entry (eqb u) c.lines ≡ o → IsTouched g n m u c (touched_at g.slots c u o)
  by_line None e = missed e
  by_line (Some l) e = hit l e

  pub touch : IsTouched g n m u c (touched g.slots c u)
  touch = by_line (lookup_entry (eqb u) c.lines) refl

-- ---- the touches of a turn

-- the cache after the touches of the members of s below k: all of them stand in front
pub record AreTouched (g : PebbleGame) (n : ℕ) (s : Vertices) (k : ℕ) (d : Cache) : Type 0 where
  pub position : Position
  pub cached : IsCached g n d position
  pub front : (v : ℕ) → v < k → v ∈ s → v ∈ keys (take (length (rising k s)) d.lines)

last_or_before : (v k : ℕ) → v < suc k → (v ≡ k) ⊎ (v < k)
last_or_before v k h = grind arith

module _ (g : PebbleGame) (n : ℕ) (c : Cache) (p : Position) (is : IsCached g n c p) (s : Vertices)
    (members : (u : ℕ) → u ∈ s → (u < n) × (is_live g.dag u ≡ true)) (few : (k : ℕ) → length (rising k s) < g.slots) where
  pub touches : (k : ℕ) → AreTouched g n s k (all_touched g.slots c (rising k s))
  touches zero = subst (λ us. AreTouched g n s zero (all_touched g.slots c us)) (sym (rising-zero s)) (record { position = p; cached = is; front = λ v less h. absurd (omega arith) })
  touches (suc k) =
      let before = touches k in
      elim (true_or_false (contains s k)) [
        | inl h ↦ subst (AreTouched g n s (suc k)) (sym (touches_in g.slots c k s h)) (one_more before h)
        | inr h ↦ subst (AreTouched g n s (suc k)) (sym (touches_out g.slots c k s h)) (same_as before h)
      ]
    where
      as_long : k ∈ s → suc (length (rising k s)) ≡ length (rising (suc k) s)
      as_long h = let e = ap length (rising-in k s h) in let sum = length-append (rising k s) (k ∷ []) in omega arith

      one_more : AreTouched g n s k (all_touched g.slots c (rising k s)) → k ∈ s → AreTouched g n s (suc k) (touched g.slots (all_touched g.slots c (rising k s)) k)
      one_more before h =
          let after = touch g n (length (rising k s)) k (all_touched g.slots c (rising k s)) before.position before.cached (few k) (members k h).0 (members k h).1 in
          record {
            position = after.position;
            cached = after.cached;
            front = λ v less in_s.
                subst (λ m. v ∈ keys (take m (touched g.slots (all_touched g.slots c (rising k s)) k).lines)) (as_long h)
                (elim (last_or_before v k less) [
                  | inl e ↦ subst (λ w. w ∈ keys (take (suc (length (rising k s))) (touched g.slots (all_touched g.slots c (rising k s)) k).lines)) (sym e) after.here
                  | inr lower ↦ after.front v (before.front v lower in_s)
                ]);
          }

      same_as : AreTouched g n s k (all_touched g.slots c (rising k s)) → k ∉ s → AreTouched g n s (suc k) (all_touched g.slots c (rising k s))
      same_as before h = record {
        position = before.position;
        cached = before.cached;
        front = λ v less in_s.
            subst (λ us. v ∈ keys (take (length us) (all_touched g.slots c (rising k s)).lines)) (sym (rising-out k s h))
            (elim (last_or_before v k less) [
              | inl e ↦ absurd (clash s k (subst (λ w. w ∈ s) e in_s) h)
              | inr lower ↦ before.front v lower in_s
            ]);
      }

-- ---- one turn

-- some position that the cache's moves lead to
abbrev pub IsReady : PebbleGame → ℕ → Cache → Type 0
IsReady g n c = (p : Position) × IsCached g n c p

module _ (g : PebbleGame) (dag : IsDag g.dag) (room : degree g.dag < g.slots) (v : ℕ) (live : is_live g.dag v ≡ true) (no_input : v ∉ g.dag.inputs) where
  preds_few : (k : ℕ) → length (rising k (g.dag.preds v)) < g.slots
  preds_few k = elim (either k g.dag.count) [
    | inl low ↦ (let mono = rising_mono k g.dag.count (g.dag.preds v) low in let few = all_few in omega arith)
    | inr high ↦ (let whole = length-rising k (g.dag.preds v) (λ w h. let less = dag.preds_below v w h in let low = live_vertex g.dag dag v live in omega arith) in
        let most = degree_bounds g.dag dag v live in omega arith)
  ]
    where
      either : (a b : ℕ) → (a ≤ b) ⊎ (b ≤ a)
      either a b = grind arith

      all_few : length (rising g.dag.count (g.dag.preds v)) < g.slots
      all_few =
          let whole = length-rising g.dag.count (g.dag.preds v) (λ w h. let less = dag.preds_below v w h in let low = live_vertex g.dag dag v live in omega arith) in
          let most = degree_bounds g.dag dag v live in
          omega arith

  pub turn_taken : (c : Cache) → IsReady g v c → IsReady g (suc v) (with_turn g c v)
  turn_taken c ready =
      let preds = g.dag.preds v in
      let all = touches g v c ready.0 ready.1 preds (λ u h. (dag.preds_below v u h, live_before g.dag dag u v h live)) preds_few g.dag.count in
      computed_after (all_touched g.slots c (rising g.dag.count preds)) all
    where
      computed_after : (d : Cache) → AreTouched g v (g.dag.preds v) g.dag.count d → IsReady g (suc v) (with_computed g.slots d v)
      computed_after d all =
          let made = room_made g v d all.position all.cached (omega arith) in
          let out : v ∉ keys (with_room g.slots d).lines = not_in _ v (λ h. let less = made.cached.below v h in omega arith) in
          let move : IsMove g made.position (Compute v) = record {
            needs = record {
              vertex = live_vertex g.dag dag v live;
              no_input = no_input;
              preds_red = λ w h.
                  subst (λ s. w ∈ s) (sym made.cached.red)
                  (in_front (with_room g.slots d).lines _ w (made.front _ w (preds_few g.dag.count)
                  (all.front w (let less = dag.preds_below v w h in let low = live_vertex g.dag dag v live in omega arith) h)));
            };
            fits = first_fits g v (with_room g.slots d) made.position made.cached made.room v out;
          } in (
            record { red = insert made.position.red v; blue = made.position.blue },
            placed_first g v (with_room g.slots d) made.position made.cached made.room v out (suc v) (Compute v) true (omega arith) (omega arith) move refl
                (λ e. absurd (cc)) (λ w less is_live. last_case w less),
          )
        where
          last_case : (w : ℕ) → w < suc v → (w < v) ⊎ ((w ∈ g.dag.inputs) ⊎ (w ≡ v))
          last_case w less = elim (last_or_before w v less) [ inl e ↦ inr (inr e) | inr lower ↦ inl lower ]

-- ---- all turns

begun : (g : PebbleGame) → IsReady g zero empty_cache
begun g = (
  start g,
  record {
    pebbling = tt;
    leads = refl;
    red = refl;
    apart = tt;
    few = omega arith;
    below = λ v h. absurd (clash empty v h (has_empty v));
    clean = λ v e. absurd (cc);
    inputs = λ v h. h;
    held = λ v less live. absurd (omega arith);
  },
)

module _ (g : PebbleGame) (dag : IsDag g.dag) (room : degree g.dag < g.slots) where
  abbrev taken : Vertices
  taken = difference (live_of g.dag) g.dag.inputs

  skipped : (n : ℕ) (c : Cache) → n ∉ taken → IsReady g n c → IsReady g (suc n) c
  skipped n c out ready = (
    ready.0,
    record {
      pebbling = ready.1.pebbling;
      leads = ready.1.leads;
      red = ready.1.red;
      apart = ready.1.apart;
      few = ready.1.few;
      below = λ v h. let old = ready.1.below v h in omega arith;
      clean = ready.1.clean;
      inputs = ready.1.inputs;
      held = λ v less live. elim (last_or_before v n less) [
        | inl e ↦ (let blue = ready.1.inputs v (an_input v e live) in grind (arith, membership))
        | inr lower ↦ ready.1.held v lower live
      ];
    },
  )
    where
      an_input : (v : ℕ) → v ≡ n → is_live g.dag v ≡ true → v ∈ g.dag.inputs
      an_input v e live =
          let out_now : v ∉ taken = subst (λ w. w ∉ taken) (sym e) out in
          let tested = has_live_of g.dag dag v in
          let parts = has_difference (live_of g.dag) g.dag.inputs v in
          grind (arith, nat_tests)

  in_taken : (n : ℕ) → n ∈ taken → (is_live g.dag n ≡ true) × (n ∉ g.dag.inputs)
  in_taken n h =
      let tested = has_live_of g.dag dag n in
      let parts = has_difference (live_of g.dag) g.dag.inputs n in
      (grind (arith, nat_tests), grind (arith, nat_tests))

  turns_taken : (n : ℕ) → IsReady g n (with_turns g empty_cache (rising n taken))
  turns_taken zero = subst (λ vs. IsReady g zero (with_turns g empty_cache vs)) (sym (rising-zero taken)) (begun g)
  turns_taken (suc n) =
      let before = turns_taken n in
      elim (true_or_false (contains taken n)) [
        | inl h ↦ subst (IsReady g (suc n)) (sym (turns_in g empty_cache n taken h)) (turn_taken g dag room n (in_taken n h).0 (in_taken n h).1 (with_turns g empty_cache (rising n taken)) before)
        | inr h ↦ subst (IsReady g (suc n)) (sym (turns_out g empty_cache n taken h)) (skipped n (with_turns g empty_cache (rising n taken)) h before)
      ]

-- ---- the outputs at the end

module _ (g : PebbleGame) (p : Position) (s : Vertices) (within : IsWithin s p.red) (few : size p.red ≤ g.slots) where
  -- these moves store the members of s below n, and change no red pebble
  record StoredBy (n : ℕ) (ms : List Move) : Type 0 where
    pub pebbling : IsPebbling g p ms
    pub red : (position_after p ms).red ≡ p.red
    pub blue : IsWithin p.blue (position_after p ms).blue
    pub stored : (v : ℕ) → v < n → v ∈ s → v ∈ (position_after p ms).blue

  stored_all : (n : ℕ) → StoredBy n (map Store (rising n s))
  stored_all zero = subst (λ vs. StoredBy zero (map Store vs)) (sym (rising-zero s)) (record { pebbling = tt; red = refl; blue = λ v h. h; stored = λ v less h. absurd (omega arith) })
  stored_all (suc n) =
      let before = stored_all n in
      elim (true_or_false (contains s n)) [
        | inl h ↦ subst (StoredBy (suc n)) (sym (ap (map Store) (rising-in n s h) ∙ map-append Store (rising n s) (n ∷ []))) (one_more before h)
        | inr h ↦ subst (StoredBy (suc n)) (sym (ap (map Store) (rising-out n s h))) (same_as before h)
      ]
    where
      one_more : StoredBy n (map Store (rising n s)) → n ∈ s → StoredBy (suc n) (map Store (rising n s) ++ Store n ∷ [])
      one_more before h =
          let at = append_position p (map Store (rising n s)) (Store n ∷ []) in
          record {
            pebbling = append_pebbling g p (map Store (rising n s)) (Store n ∷ []) before.pebbling
                (record { needs = subst (λ r. n ∈ r) (sym before.red) (within n h); fits = let same_size = ap size before.red in omega arith }, tt);
            red = ap (λ q. q.red) at ∙ before.red;
            blue = λ v in_p. subst (λ q. v ∈ q.blue) (sym at) (let old = before.blue v in_p in grind (arith, membership));
            stored = λ v less in_s. subst (λ q. v ∈ q.blue) (sym at) (elim (last_or_before v n less) [
              | inl e ↦ subst (λ w. w ∈ insert (position_after p (map Store (rising n s))).blue n) (sym e) (grind (arith, membership))
              | inr lower ↦ (let old = before.stored v lower in_s in grind (arith, membership))
            ]);
          }

      same_as : StoredBy n (map Store (rising n s)) → n ∉ s → StoredBy (suc n) (map Store (rising n s))
      same_as before h = record {
        pebbling = before.pebbling;
        red = before.red;
        blue = before.blue;
        stored = λ v less in_s. elim (last_or_before v n less) [
          | inl e ↦ absurd (clash s n (subst (λ w. w ∈ s) e in_s) h)
          | inr lower ↦ before.stored v lower in_s
        ];
      }

-- a vertex with a line has a mark
marked : (ls : List Line) (v : ℕ) → v ∈ keys ls → (b : Bool) × (lookup (eqb v) ls ≡ Some b)
marked [] v h = absurd (clash empty v h (has_empty v))
marked (l ∷ ls) v h = by_test (marked ls v) (eqb v l.0) refl
  where
    by_test : (v ∈ keys ls → (b : Bool) × (lookup (eqb v) ls ≡ Some b)) → (t : Bool) → eqb v l.0 ≡ t → (b : Bool) × (cond t (Some l.1) (lookup (eqb v) ls) ≡ Some b)
    by_test rest true e = (l.1, refl)
    by_test rest false e = rest (let whole = has_insert (keys ls) l.0 v in grind (arith, nat_tests))

pub has_dirty : (outputs : Vertices) (lines : List Line) (v : ℕ) → contains (retain outputs (is_dirty lines)) v ≡ (contains outputs v && is_dirty lines v)
has_dirty outputs lines v = contains-retain outputs (is_dirty lines) v (λ x tie. ap (is_dirty lines) (sym (nat_cmp-IsAntisymmetric v x tie)))

module _ (g : PebbleGame) (dag : IsDag g.dag) (c : Cache) (p : Position) (is : IsCached g g.dag.count c p) where
  abbrev dirty : Vertices
  dirty = retain g.dag.outputs (is_dirty c.lines)

  dirty_is_red : IsWithin dirty p.red
  dirty_is_red v h = subst (λ s. v ∈ s) (sym is.red) (by_mark (lookup (eqb v) c.lines) refl)
    where
      by_mark : (o : Option Bool) → lookup (eqb v) c.lines ≡ o → v ∈ keys c.lines
      by_mark None e = absurd (let test = has_dirty g.dag.outputs c.lines v in let none = ap (λ o. unwrap_or o false) e in grind (arith, nat_tests))
      by_mark (Some b) e = lookup_in c.lines v b e

  stored : StoredBy g p dirty dirty_is_red (let all = size_red g g.dag.count c p is in let few = is.few in omega arith) g.dag.count (map Store (rising g.dag.count dirty))
  stored = stored_all g p dirty dirty_is_red (let all = size_red g g.dag.count c p is in let few = is.few in omega arith) g.dag.count

  output_blue : (v : ℕ) → v ∈ g.dag.outputs → v ∈ (position_after p (map Store (rising g.dag.count dirty))).blue
  output_blue v h = elim (true_or_false (contains p.blue v)) [
    | inl blue ↦ stored.blue v blue
    | inr bare ↦ by_mark (marked c.lines v (has_line bare)).0 (marked c.lines v (has_line bare)).1
  ]
    where
      has_line : v ∉ p.blue → v ∈ keys c.lines
      has_line bare =
          let held = is.held v (dag.outputs_are_vertices v h) (live_output g.dag v h) in
          let red = ap (λ s. contains s v) is.red in
          grind (arith, membership)

      by_mark : (b : Bool) → lookup (eqb v) c.lines ≡ Some b → v ∈ (position_after p (map Store (rising g.dag.count dirty))).blue
      by_mark true e = stored.stored v (dag.outputs_are_vertices v h) (has_dirty g.dag.outputs c.lines v ∙ both h (ap (λ o. unwrap_or o false) e))
        where
          both : v ∈ g.dag.outputs → is_dirty c.lines v ≡ true → (contains g.dag.outputs v && is_dirty c.lines v) ≡ true
          both a b = grind (arith, nat_tests)
      by_mark false e = stored.blue v (is.clean v e)

  pub run_complete : IsComplete g (start g) (with_outputs_stored g c).moves
  run_complete = record {
    pebbling = more_pebbling g c.moves (map Store (rising g.dag.count dirty)) p is.leads is.pebbling stored.pebbling;
    outputs_blue = λ v h. subst (λ q. v ∈ q.blue) (sym (more_leads g c.moves (map Store (rising g.dag.count dirty)) p is.leads)) (output_blue v h);
  }

pub caches_are_pebblings : CachesArePebblings
unfolding whole_run
caches_are_pebblings g dag room =
    let ready = turns_taken g dag room g.dag.count in
    run_complete g dag (with_turns g empty_cache (turns_of g)) ready.0 ready.1

-- ---- how many lines there are

pub lines_fit : LinesFit
lines_fit g dag room n = let ready = turns_taken g dag room n in (ready.1.few, ready.1.apart)

past_none : {A : Type 0} (xs : List A) (n : ℕ) → length xs ≤ n → slice_get xs n ≡ None
past_none [] n h = refl
past_none (x ∷ xs) zero h = absurd (omega arith)
past_none (x ∷ xs) (suc n) h = past_none xs n (omega arith)

pub room_is_kept : RoomIsKept
room_is_kept slots c less = ap (without_last slots c) (past_none c.lines (slots - 1) (omega arith))

pub room_is_made : RoomIsMade
room_is_made slots c some full = by_last (slice_get c.lines (slots - 1)) refl
  where
    by_last : (o : Option Line) → slice_get c.lines (slots - 1) ≡ o → length (without_last slots c o).lines + 1 ≡ slots
    by_last None e = absurd (let past = none_past c.lines (slots - 1) e in omega arith)
    by_last (Some last) e = let cut = length-take (slots - 1) c.lines in omega arith
