-- What the calls do, one step at a time.
use Rattle.std.proofs.Common.{◌≡◌, ℕ, zero, suc, ◌+◌, ◌-◌, ◌*◌, ◌^◌, ◌≤◌, ◌<◌, Bool, true, false, cond, eqb, ◌&&◌, List, [], ◌∷◌, ◌++◌, ◌⊎◌, inl, inr, length, take, map, sym, refl, ap, ◌∙◌, subst, arith, append-nil, append_assoc}
use Rattle.std.specs.Prelude.{Option, Some, None, slice_get, is_some, Result, Ok, Err, OnOk, count_by}
use Rattle.std.specs.Option.{option_map_or}
use Rattle.std.specs.Map.{lookup, lookup_entry, remove_entry}
use Rattle.std.proofs.lemmas.List.{take_all, map-append}
use Rattle.std.proofs.lemmas.List.Sums.{sum_by-cons}
use Rattle.std.proofs.lemmas.Bool.Decides.{nat_tests}
use Rattle.std.specs.FinSet.{contains, retain}
use Rattle.lru.specs.LruCache.{lru_cache, promoted, put_entries, displaced}
use Rattle.comp_graph.specs.Vertices.{Vertices, ◌∈◌, ◌∉◌, rising}
use Rattle.comp_graph.specs.Dags.{IsDag}
use Rattle.comp_graph.specs.Games.{PebbleGame}
use Rattle.comp_graph.proofs.Rising.{rising-in, rising-out, rising-zero, rising-past}
use Rattle.pebble_rules.specs.Rules.{cost}
use Rattle.pebble_rules.specs.Transfers.{loads, stores}
use Rattle.pebble_rules.proofs.Transfers.{cost_weighs}
use Rattle.cache_model.proofs.Pebbling.{none_past, has_dirty}
use Rattle.pebble_rules.specs.declared.moves.Move.{Move}
use Rattle.pebble_rules.specs.declared.moves.Move.TheVariants.{Load, Store, Compute, DropRed, DropBlue}
use Rattle.pebble_rules.proofs.Possible.{true_or_false}
use Rattle.cache_model.specs.Caches.{Line, Cache, eviction, without_last, with_room, placed, touched_at, touched, all_touched, with_computed, with_turn, with_turns, turns_of, empty_cache, is_dirty, with_outputs_stored, whole_run}
use Rattle.cache_model.specs.Steps.{AreBelow}
use Rattle.cache_model.proofs.Runs.{touches_in, touches_out, turns_in, turns_out}
use Rattle.cache_model.proofs.Bounds.{grows_touched, grows_turn, moves_of_run}

pub same_cache : (c d : Cache) → c.lines ≡ d.lines → c.hits ≡ d.hits → c.moves ≡ d.moves → c ≡ d
same_cache c d e f h = λ i. record { lines = e i; hits = f i; moves = h i }

pub OnOk-weaker : {T E P Q : Type 0} (r : Result T E) → (P → Q) → OnOk r P → OnOk r Q
OnOk-weaker (Ok x) f h = f h
OnOk-weaker (Err e) f h = h

-- ---- a look-up

none_if : (b : Bool) (l : Line) (rest : Option Line) (value : Option Bool) → (rest ≡ None → value ≡ None) → cond b (Some l) rest ≡ None → cond b (Some l.1) value ≡ None
none_if true l rest value f e = absurd (cc)
none_if false l rest value f e = f e

-- where there is no line there is no mark
pub no_mark : (ls : List Line) (v : ℕ) → lookup_entry (eqb v) ls ≡ None → lookup (eqb v) ls ≡ None
no_mark [] v e = refl
no_mark (l ∷ ls) v e = none_if (eqb v l.0) l (lookup_entry (eqb v) ls) (lookup (eqb v) ls) (no_mark ls v) e

some_if : (b : Bool) (l : Line) (rest : Option Line) (value : Option Bool) → is_some rest ≡ is_some value → is_some (cond b (Some l) rest) ≡ is_some (cond b (Some l.1) value)
some_if true l rest value e = refl
some_if false l rest value e = e

-- a line is there where a mark is
pub same_there : (ls : List Line) (v : ℕ) → is_some (lookup_entry (eqb v) ls) ≡ is_some (lookup (eqb v) ls)
same_there [] v = refl
same_there (l ∷ ls) v = some_if (eqb v l.0) l (lookup_entry (eqb v) ls) (lookup (eqb v) ls) (same_there ls v)

is_none : {A : Type 0} (o : Option A) → is_some o ≡ false → o ≡ None
is_none None e = refl
is_none (Some x) e = absurd (cc)

is_there : {A : Type 0} (o : Option A) → is_some o ≡ true → (x : A) × (o ≡ Some x)
is_there None e = absurd (cc)
is_there (Some x) e = (x, refl)

-- ---- a line goes first

pub put_absent : (es : List Line) (slots v : ℕ) (dirty : Bool) → lookup_entry (eqb v) es ≡ None → put_entries eqb (lru_cache es slots) v dirty ≡ (v, dirty) ∷ take (slots - 1) es
put_absent es slots v dirty e = ap (λ o. option_map_or (λ (l : Line). (l.0, dirty) ∷ remove_entry (eqb v) es) o ((v, dirty) ∷ take (slots - 1) es)) e

pub displaced_absent : (es : List Line) (slots v : ℕ) (dirty : Bool) → lookup_entry (eqb v) es ≡ None → displaced eqb (lru_cache es slots) v dirty ≡ slice_get es (slots - 1)
displaced_absent es slots v dirty e = ap (λ o. option_map_or (λ (old : Bool). let line : Line = (v, old) in Some line) o (slice_get es (slots - 1))) (no_mark es v e)

module _ (slots : ℕ) (c d : Cache) (line : Line) (m : Move) (lines : d.lines ≡ line ∷ take (slots - 1) c.lines) (hits : d.hits ≡ c.hits) where
  pub placed_full : (last : Line) → slice_get c.lines (slots - 1) ≡ Some last → d.moves ≡ (c.moves ++ eviction last) ++ m ∷ [] → d ≡ placed (with_room slots c) line m
  placed_full last e moves =
      same_cache d (placed (record { lines = take (slots - 1) c.lines; hits = c.hits; moves = c.moves ++ eviction last }) line m) lines hits moves
      ∙ ap (λ k. placed k line m) (sym (room last e))
    where
      room : (last : Line) → slice_get c.lines (slots - 1) ≡ Some last → with_room slots c ≡ record { lines = take (slots - 1) c.lines; hits = c.hits; moves = c.moves ++ eviction last }
      room last e = rw e refl

  pub placed_free : slice_get c.lines (slots - 1) ≡ None → d.moves ≡ c.moves ++ m ∷ [] → d ≡ placed (with_room slots c) line m
  placed_free e moves =
      same_cache d (placed c line m) (lines ∙ ap (λ ls. line ∷ ls) (take_all (slots - 1) c.lines (none_past c.lines (slots - 1) e))) hits moves
      ∙ ap (λ k. placed k line m) (sym (room e))
    where
      room : slice_get c.lines (slots - 1) ≡ None → with_room slots c ≡ c
      room e = rw e refl

-- ---- a touch

pub promoted_missing : (es : List Line) (u : ℕ) → lookup_entry (eqb u) es ≡ None → promoted (eqb u) es ≡ es
promoted_missing es u e = ap (λ o. option_map_or (λ (l : Line). l ∷ remove_entry (eqb u) es) o es) e

promoted_there : (es : List Line) (u : ℕ) (l : Line) → lookup_entry (eqb u) es ≡ Some l → promoted (eqb u) es ≡ l ∷ remove_entry (eqb u) es
promoted_there es u l e = ap (λ o. option_map_or (λ (l : Line). l ∷ remove_entry (eqb u) es) o es) e

pub touched_hit : (slots : ℕ) (c d : Cache) (u : ℕ) → is_some (lookup (eqb u) c.lines) ≡ true → d.lines ≡ promoted (eqb u) c.lines → d.hits ≡ c.hits + 1 → d.moves ≡ c.moves → d ≡ touched slots c u
touched_hit slots c d u there lines hits moves =
    let line = is_there (lookup_entry (eqb u) c.lines) (same_there c.lines u ∙ there) in
    same_cache d (touched_at slots c u (Some line.0)) (lines ∙ promoted_there c.lines u line.0 line.1) hits moves
    ∙ ap (touched_at slots c u) (sym line.1)

pub missing_line : (ls : List Line) (u : ℕ) → is_some (lookup (eqb u) ls) ≡ false → lookup_entry (eqb u) ls ≡ None
missing_line ls u e = is_none (lookup_entry (eqb u) ls) (same_there ls u ∙ e)

pub touched_missed : (slots : ℕ) (c : Cache) (u : ℕ) → lookup_entry (eqb u) c.lines ≡ None → touched slots c u ≡ placed (with_room slots c) (u, false) (Load u)
touched_missed slots c u e = ap (touched_at slots c u) e

-- ---- lines below a number

abbrev IsBelow : ℕ → Line → Type 0
IsBelow n line = line.0 < n

below_take : (n k : ℕ) (ls : List Line) → AreBelow n ls → AreBelow n (take k ls)
below_take n zero ls h = tt
below_take n (suc k) [] h = h
below_take n (suc k) (l ∷ ls) h = (h.0, below_take n k ls h.1)

below_if : (n : ℕ) (b : Bool) (l : Line) (ls rest : List Line) → AreBelow n ls → l.0 < n → AreBelow n rest → AreBelow n (cond b ls (l ∷ rest))
below_if n true l ls rest h i k = h
below_if n false l ls rest h i k = (i, k)

below_removed : (n u : ℕ) (ls : List Line) → AreBelow n ls → AreBelow n (remove_entry (eqb u) ls)
below_removed n u [] h = h
below_removed n u (l ∷ ls) h = below_if n (eqb u l.0) l ls (remove_entry (eqb u) ls) h.1 h.0 (below_removed n u ls h.1)

below_room : (n slots : ℕ) (c : Cache) → AreBelow n c.lines → AreBelow n (with_room slots c).lines
below_room n slots c h = by_last (slice_get c.lines (slots - 1))
  where
    by_last : (o : Option Line) → AreBelow n (without_last slots c o).lines
    by_last None = h
    by_last (Some last) = below_take n (slots - 1) c.lines h

found_below : (n u : ℕ) (ls : List Line) (l : Line) → lookup_entry (eqb u) ls ≡ Some l → AreBelow n ls → l.0 < n
found_below n u [] l e h = absurd (cc)
found_below n u (k ∷ ls) l e h = by_test (found_below n u ls l) (eqb u k.0) e
  where
    by_test : (lookup_entry (eqb u) ls ≡ Some l → AreBelow n ls → l.0 < n) → (b : Bool) → cond b (Some k) (lookup_entry (eqb u) ls) ≡ Some l → l.0 < n
    by_test rest true e = subst (IsBelow n) (let is : k ≡ l = cc in is) h.0
    by_test rest false e = rest e h.1

pub below_touched : (n slots : ℕ) (c : Cache) (u : ℕ) → u < n → AreBelow n c.lines → AreBelow n (touched slots c u).lines
below_touched n slots c u less h = by_line (lookup_entry (eqb u) c.lines) refl
  where
    by_line : (o : Option Line) → lookup_entry (eqb u) c.lines ≡ o → AreBelow n (touched_at slots c u o).lines
    by_line None e = (less, below_room n slots c h)
    by_line (Some l) e = (found_below n u c.lines l e h, below_removed n u c.lines h)

pub below_more : (n k : ℕ) (ls : List Line) → n ≤ k → AreBelow n ls → AreBelow k ls
below_more n k [] less h = h
below_more n k (l ∷ ls) less h = ((let below = h.0 in omega arith), below_more n k ls less h.1)

pub below_computed : (slots : ℕ) (c : Cache) (v : ℕ) → AreBelow v c.lines → AreBelow (suc v) (with_computed slots c v).lines
below_computed slots c v h = ((omega arith), below_more v (suc v) _ (omega arith) (below_room v slots c h))

missing_if : (b : Bool) (l : Line) (rest : Option Line) → b ≡ false → rest ≡ None → cond b (Some l) rest ≡ None
missing_if true l rest e f = absurd (cc)
missing_if false l rest e f = f

-- a number that is above all is missing
pub missing_above : (v : ℕ) (ls : List Line) → AreBelow v ls → lookup_entry (eqb v) ls ≡ None
missing_above v [] h = refl
missing_above v (l ∷ ls) h = missing_if (eqb v l.0) l (lookup_entry (eqb v) ls) (apart v l.0 h.0) (missing_above v ls h.1)
  where
    apart : (v w : ℕ) → w < v → eqb v w ≡ false
    apart v w less = grind (arith, nat_tests)

next : (k : ℕ) → k + 1 ≡ suc k
next k = omega arith

-- ---- the touches of a turn

-- the members of `preds` below u are touched, from the cache `before`
pub record IsTouching (slots n : ℕ) (preds : Vertices) (u : ℕ) (before now : Cache) (cap : ℕ) : Type 0 where
  pub slots_same : cap ≡ slots
  pub below : AreBelow n now.lines
  pub few : now.hits ≤ before.hits + u
  pub cache : now ≡ all_touched slots before (rising u preds)

pub touching_begins : (slots n : ℕ) (preds : Vertices) (c : Cache) → AreBelow n c.lines → IsTouching slots n preds 0 c c slots
touching_begins slots n preds c below = record {
  slots_same = refl;
  below = below;
  few = omega arith;
  cache = sym (ap (all_touched slots c) (rising-zero preds));
}

pub touching_more : (slots n : ℕ) (preds : Vertices) (u : ℕ) (before now after : Cache) (cap cap_after : ℕ) → IsTouching slots n preds u before now cap
    → u < n → u ∈ preds → cap_after ≡ cap → after ≡ touched cap now u → IsTouching slots n preds (u + 1) before after cap_after
touching_more slots n preds u before now after cap cap_after is less member same_cap e =
    let made : after ≡ touched slots now u = e ∙ ap (λ k. touched k now u) is.slots_same in
    record {
      slots_same = same_cap ∙ is.slots_same;
      below = subst (λ c. AreBelow n c.lines) (sym made) (below_touched n slots now u less is.below);
      few = (let more = grows_touched slots now u in let few = more.hits_few in let old = is.few in let hits = ap (λ (c : Cache). c.hits) made in omega arith);
      cache = made ∙ ap (λ c. touched slots c u) is.cache ∙ sym (touches_in slots before u preds member) ∙ ap (λ k. all_touched slots before (rising k preds)) (sym (next u));
    }

pub touching_passed : (slots n : ℕ) (preds : Vertices) (u : ℕ) (before now : Cache) (cap : ℕ) → IsTouching slots n preds u before now cap
    → u ∉ preds → IsTouching slots n preds (u + 1) before now cap
touching_passed slots n preds u before now cap is out = record {
  slots_same = is.slots_same;
  below = is.below;
  few = let old = is.few in omega arith;
  cache = is.cache ∙ sym (touches_out slots before u preds out) ∙ ap (λ k. all_touched slots before (rising k preds)) (sym (next u));
}

-- all predecessors are touched, and v is computed
pub turn_made : (g : PebbleGame) → IsDag g.dag → (v u : ℕ) → v < g.dag.count → (before now after : Cache) (cap : ℕ) → IsTouching g.slots v (g.dag.preds v) u before now cap
    → u ≡ v → after ≡ placed (with_room cap now) (v, true) (Compute v) → after ≡ with_turn g before v
turn_made g dag v u vertex before now after cap is end e =
    e ∙ ap (λ k. placed (with_room k now) (v, true) (Compute v)) is.slots_same
    ∙ ap (λ c. with_computed g.slots c v) (is.cache ∙ ap (λ k. all_touched g.slots before (rising k (g.dag.preds v))) end
    ∙ ap (all_touched g.slots before) (sym (rising-past (g.dag.preds v) v (λ w h. dag.preds_below v w h) g.dag.count (omega arith))))

-- ---- the turns

below_touches : (slots n : ℕ) (c : Cache) (s : Vertices) → ((u : ℕ) → u ∈ s → u < n) → AreBelow n c.lines → (k : ℕ) → AreBelow n (all_touched slots c (rising k s)).lines
below_touches slots n c s members below zero = subst (λ us. AreBelow n (all_touched slots c us).lines) (sym (rising-zero s)) below
below_touches slots n c s members below (suc k) =
    let old = below_touches slots n c s members below k in
    elim (true_or_false (contains s k)) [
      | inl h ↦ subst (λ d. AreBelow n d.lines) (sym (touches_in slots c k s h)) (below_touched n slots (all_touched slots c (rising k s)) k (members k h) old)
      | inr h ↦ subst (λ d. AreBelow n d.lines) (sym (touches_out slots c k s h)) old
    ]

-- the turns of the members of `taken` below v are over
pub record IsTurning (g : PebbleGame) (taken : Vertices) (v : ℕ) (now : Cache) (cap : ℕ) : Type 0 where
  pub slots_same : cap ≡ g.slots
  pub below : AreBelow v now.lines
  pub few : now.hits ≤ 256 * v
  pub cache : now ≡ with_turns g empty_cache (rising v taken)

pub turning_begins : (g : PebbleGame) (taken : Vertices) (now : Cache) (cap : ℕ) → cap ≡ g.slots → now ≡ empty_cache → IsTurning g taken 0 now cap
turning_begins g taken now cap same_cap e = subst (λ c. IsTurning g taken 0 c cap) (sym e) (record {
  slots_same = same_cap;
  below = tt;
  few = omega arith;
  cache = sym (ap (with_turns g empty_cache) (rising-zero taken));
})

pub turning_more : (g : PebbleGame) → IsDag g.dag → g.dag.count ≤ 256 → (taken : Vertices) (v : ℕ) (now after : Cache) (cap cap_after : ℕ) → IsTurning g taken v now cap
    → v ∈ taken → cap_after ≡ cap → after ≡ with_turn g now v → IsTurning g taken (v + 1) after cap_after
turning_more g dag small taken v now after cap cap_after is member same_cap e = record {
  slots_same = same_cap ∙ is.slots_same;
  below = subst (λ c. AreBelow (v + 1) c.lines) (sym e) (subst (λ k. AreBelow k (with_turn g now v).lines) (sym (next v))
      (below_computed g.slots (all_touched g.slots now (rising g.dag.count (g.dag.preds v))) v
      (below_touches g.slots v now (g.dag.preds v) (λ u h. dag.preds_below v u h) is.below g.dag.count)));
  few = (let more = grows_turn g now v in let few = more.hits_few in let old = is.few in let hits = ap (λ (c : Cache). c.hits) e in omega arith);
  cache = e ∙ ap (λ c. with_turn g c v) is.cache ∙ sym (turns_in g empty_cache v taken member) ∙ ap (λ k. with_turns g empty_cache (rising k taken)) (sym (next v));
}

pub turning_passed : (g : PebbleGame) (taken : Vertices) (v : ℕ) (now : Cache) (cap : ℕ) → IsTurning g taken v now cap → v ∉ taken → IsTurning g taken (v + 1) now cap
turning_passed g taken v now cap is out = record {
  slots_same = is.slots_same;
  below = below_more v (v + 1) now.lines (omega arith) is.below;
  few = let old = is.few in omega arith;
  cache = is.cache ∙ sym (turns_out g empty_cache v taken out) ∙ ap (λ k. with_turns g empty_cache (rising k taken)) (sym (next v));
}

-- ---- the outputs

-- the dirty outputs below v are stored
pub record IsStoring (outputs : Vertices) (before now : Cache) (v : ℕ) : Type 0 where
  pub lines : now.lines ≡ before.lines
  pub hits : now.hits ≡ before.hits
  pub moves : now.moves ≡ before.moves ++ map Store (rising v (retain outputs (is_dirty before.lines)))

pub storing_begins : (outputs : Vertices) (c : Cache) → IsStoring outputs c c 0
storing_begins outputs c = record {
  lines = refl;
  hits = refl;
  moves = sym (append-nil c.moves) ∙ ap (λ vs. c.moves ++ map Store vs) (sym (rising-zero (retain outputs (is_dirty c.lines))));
}

module _ (outputs : Vertices) (before now after : Cache) (v : ℕ) (is : IsStoring outputs before now v) (lines : after.lines ≡ now.lines) (hits : after.hits ≡ now.hits) where
  abbrev dirty : Vertices
  dirty = retain outputs (is_dirty before.lines)

  pub storing_more : v ∈ outputs → is_dirty now.lines v ≡ true → after.moves ≡ now.moves ++ Store v ∷ [] → IsStoring outputs before after (v + 1)
  storing_more member is_dirty_now moves = record {
    lines = lines ∙ is.lines;
    hits = hits ∙ is.hits;
    moves = moves ∙ ap (λ ms. ms ++ Store v ∷ []) is.moves
        ∙ append_assoc before.moves (map Store (rising v dirty)) (Store v ∷ [])
        ∙ ap (λ ms. before.moves ++ ms) (sym (map-append Store (rising v dirty) (v ∷ [])))
        ∙ ap (λ vs. before.moves ++ map Store vs) (sym (rising-in v dirty there))
        ∙ ap (λ k. before.moves ++ map Store (rising k dirty)) (sym (next v));
  }
    where
      there : v ∈ dirty
      there = has_dirty outputs before.lines v ∙ both member (ap (λ ls. is_dirty ls v) (sym is.lines) ∙ is_dirty_now)
        where
          both : v ∈ outputs → is_dirty before.lines v ≡ true → (contains outputs v && is_dirty before.lines v) ≡ true
          both a b = grind (arith, nat_tests)

  pub storing_passed : (v ∉ outputs) ⊎ (is_dirty now.lines v ≡ false) → after.moves ≡ now.moves → IsStoring outputs before after (v + 1)
  storing_passed why moves = record {
    lines = lines ∙ is.lines;
    hits = hits ∙ is.hits;
    moves = moves ∙ is.moves ∙ ap (λ vs. before.moves ++ map Store vs) (sym (rising-out v dirty out)) ∙ ap (λ k. before.moves ++ map Store (rising k dirty)) (sym (next v));
  }
    where
      out : v ∉ dirty
      out = has_dirty outputs before.lines v ∙ either why (ap (λ ls. is_dirty ls v) is.lines)
        where
          either : (v ∉ outputs) ⊎ (is_dirty now.lines v ≡ false) → is_dirty now.lines v ≡ is_dirty before.lines v → (contains outputs v && is_dirty before.lines v) ≡ false
          either why same_now = grind (arith, nat_tests)

pub storing_over : (g : PebbleGame) (outputs : Vertices) (before now : Cache) (v : ℕ) → IsStoring outputs before now v → v ≡ g.dag.count → outputs ≡ g.dag.outputs → now ≡ with_outputs_stored g before
storing_over g outputs before now v is end e =
    same_cache now (with_outputs_stored g before) is.lines is.hits
    (is.moves ∙ ap (λ k. before.moves ++ map Store (rising k (retain outputs (is_dirty before.lines)))) end
    ∙ ap (λ s. before.moves ++ map Store (rising g.dag.count (retain s (is_dirty before.lines)))) e)

-- ---- the whole run

pub run_is_whole : (g : PebbleGame) (turned run : Cache) → turned ≡ with_turns g empty_cache (turns_of g) → run ≡ with_outputs_stored g turned → run ≡ whole_run g
unfolding whole_run
run_is_whole g turned run e f = f ∙ ap (with_outputs_stored g) e

pub run_moves_few : (g : PebbleGame) → g.dag.count ≤ 256 → (run : Cache) → run ≡ whole_run g → length run.moves < 2 ^ 31
unfolding whole_run
run_moves_few g small run e = let few = moves_of_run g small in let same_moves = ap (λ (c : Cache). length c.moves) e in omega arith

-- ---- the loads and the stores

-- whether a move is a load
abbrev pub is_load : Move → Bool
is_load (Load v) = true
is_load _ = false

-- whether a move is a store
abbrev pub is_store : Move → Bool
is_store (Store v) = true
is_store _ = false

one_more : (p : Move → Bool) (m : Move) (ms : List Move) → count_by p (m ∷ ms) ≡ cond (p m) 1 0 + count_by p ms
one_more p m ms = sum_by-cons (λ x. cond (p x) 1 0) m ms

pub loads_counted : (ms : List Move) → count_by is_load ms ≡ loads ms
loads_counted [] = refl
loads_counted (Load v ∷ ms) = omega (arith, one_more is_load (Load v) ms, loads_counted ms)
loads_counted (Store v ∷ ms) = omega (arith, one_more is_load (Store v) ms, loads_counted ms)
loads_counted (Compute v ∷ ms) = omega (arith, one_more is_load (Compute v) ms, loads_counted ms)
loads_counted (DropRed v ∷ ms) = omega (arith, one_more is_load (DropRed v) ms, loads_counted ms)
loads_counted (DropBlue v ∷ ms) = omega (arith, one_more is_load (DropBlue v) ms, loads_counted ms)

pub stores_counted : (ms : List Move) → count_by is_store ms ≡ stores ms
stores_counted [] = refl
stores_counted (Load v ∷ ms) = omega (arith, one_more is_store (Load v) ms, stores_counted ms)
stores_counted (Store v ∷ ms) = omega (arith, one_more is_store (Store v) ms, stores_counted ms)
stores_counted (Compute v ∷ ms) = omega (arith, one_more is_store (Compute v) ms, stores_counted ms)
stores_counted (DropRed v ∷ ms) = omega (arith, one_more is_store (DropRed v) ms, stores_counted ms)
stores_counted (DropBlue v ∷ ms) = omega (arith, one_more is_store (DropBlue v) ms, stores_counted ms)

-- the cost of moves whose loads and stores are counted
pub counted_cost : (g : PebbleGame) (ms : List Move) (l s : ℕ) → l ≡ loads ms → s ≡ stores ms → cost g ms ≡ g.load * l + g.store * s
counted_cost g ms l s e f = cost_weighs g ms ∙ ap (λ n. g.load * n + g.store * stores ms) (sym e) ∙ ap (λ n. g.load * l + g.store * n) (sym f)
