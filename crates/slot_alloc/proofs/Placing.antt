-- What a layout says of the slots and words, and how it stays true as vertices are placed, stored and dropped.
use Rattle.std.proofs.Common.{◌≡◌, ℕ, zero, suc, ◌+◌, ◌<◌, ◌≤◌, Bool, true, false, cond, eqb, Option, None, Some, List, refl, sym, ap, ◌∙◌, subst, inl, inr, ◌⊎◌, arith, eq-eqb}
use Rattle.std.proofs.Common.{length, take, get_or}
use Rattle.std.proofs.Math.ListN.{set as put_at}
use Rattle.std.specs.List.{All}
use Rattle.std.proofs.lemmas.List.{get_or-set_same, get_or-set_other, get_or-take, get_or_past, length-take}
use Rattle.std.proofs.lemmas.List.Elements.{All-get_or}
use Rattle.comp_graph.specs.declared.node.Operand.{Operand}
use Rattle.comp_graph.specs.declared.node.Operand.TheVariants.{Vertex}
use Rattle.comp_graph.specs.Graphs.{IsOperandBelow}
use Rattle.std.specs.FinSet as set
use Rattle.std.proofs.lemmas.Bool.{cases_lt, cases_eq, false_from_ne_true, false≢true, eqb-true}
use Rattle.std.proofs.lemmas.Option.{none-some, same_Some}
use Rattle.comp_graph.specs.Vertices.{Vertices, ◌∈◌, ◌∉◌, size, AllBelow, IsLeast}
use Rattle.comp_graph.proofs.Rising.{rising-least}
use Rattle.pebble_rules.specs.declared.position.Position.{Position}
use Rattle.comp_graph.specs.Sets.{membership}
use Rattle.comp_graph.proofs.Sets.{in_insert_same, in_insert, insert_cases, size_insert_new, size_remove, some_member, not_in_remove}
use Rattle.scratch_machine.specs.Cells.{Cells, put, cleared, IsNowhere}
use Rattle.scratch_machine.specs.CodePlays.{Places, with_slot, with_word, without_slot}
use Rattle.slot_alloc.specs.Emitted.{Layout, changed, first, lowest, slot_given, slot_freed, word_given}

-- ---- the lowest member

least_at : (s : Vertices) (n : ℕ) → ((u : ℕ) → u < n → u ∉ s) → (b : Bool) → set.contains s n ≡ b
    → ((u : ℕ) → u < suc n → u ∉ s) ⊎ ((v : ℕ) × IsLeast s v × (v < suc n))
least_at s n below true e = inr (n, record { member = e; least = λ u h. elim (cases_lt u n) [ inl l ↦ absurd (false≢true (sym (below u l) ∙ h)) | inr g ↦ g ] }, omega arith)
least_at s n below false e = inl (λ u h. elim (cases_lt u n) [ inl l ↦ below u l | inr g ↦ (let same : n ≡ u = omega arith in subst (λ w. w ∉ s) same e) ])

least_below : (s : Vertices) (n : ℕ) → ((u : ℕ) → u < n → u ∉ s) ⊎ ((v : ℕ) × IsLeast s v × (v < n))
least_below s zero = inl (λ u h. absurd (omega arith))
least_below s (suc n) = elim (least_below s n) [
  | inl below ↦ least_at s n below (set.contains s n) refl
  | inr w ↦ inr (w.0, w.1, (let less = w.2 in omega arith))
]

pub IsLeast-lowest : (s : Vertices) → AllBelow 256 s → 0 < size s → IsLeast s (lowest s)
unfolding lowest
IsLeast-lowest s below some =
    let w = some_member s some in
    elim (least_below s 256) [
      | inl out ↦ absurd (false≢true (sym (out w.0 (below.below w.0 w.1)) ∙ w.1))
      | inr l ↦ subst (IsLeast s) (sym (ap first (rising-least s l.0 256 l.1 l.2))) l.1
    ]

pub IsLeast-is_lowest : (s : Vertices) (v : ℕ) → IsLeast s v → v < 256 → lowest s ≡ v
unfolding lowest
IsLeast-is_lowest s v is less = ap first (rising-least s v 256 is less)

-- ---- places and numbers that change at one place

test_same : (k : ℕ) → eqb k k ≡ true
test_same k = eq-eqb k k refl

test_other : (q k : ℕ) → (q ≡ k → ⊥) → eqb q k ≡ false
test_other q k ne = false_from_ne_true (eqb q k) (λ e. ne (eqb-true q k e))

put_same : (c : Cells ℕ) (k q x : ℕ) → q ≡ k → put c k x q ≡ Some x
put_same c k q x e = ap (λ b. cond b (Some x) (c q)) (eq-eqb q k e)

put_other : (c : Cells ℕ) (k q x : ℕ) → (q ≡ k → ⊥) → put c k x q ≡ c q
put_other c k q x ne = ap (λ b. cond b (Some x) (c q)) (test_other q k ne)

cleared_same : (c : Cells ℕ) (k q : ℕ) → q ≡ k → cleared c k q ≡ None
cleared_same c k q e = ap (λ b. cond b None (c q)) (eq-eqb q k e)

cleared_other : (c : Cells ℕ) (k q : ℕ) → (q ≡ k → ⊥) → cleared c k q ≡ c q
cleared_other c k q ne = ap (λ b. cond b None (c q)) (test_other q k ne)

changed_same : (f : ℕ → ℕ) (k q x : ℕ) → q ≡ k → changed f k x q ≡ x
changed_same f k q x e = ap (λ b. cond b x (f q)) (eq-eqb q k e)

changed_other : (f : ℕ → ℕ) (k q x : ℕ) → (q ≡ k → ⊥) → changed f k x q ≡ f q
changed_other f k q x ne = ap (λ b. cond b x (f q)) (test_other q k ne)

-- nothing and something
clash : {o : Option ℕ} (x : ℕ) → o ≡ None → o ≡ Some x → ⊥
clash x e f = none-some x (sym e ∙ f)

one_thing : {o : Option ℕ} (x y : ℕ) → o ≡ Some x → o ≡ Some y → x ≡ y
one_thing x y e f = same_Some x y (sym e ∙ f)

-- ---- what a layout says

-- The layout says where the pebbles stand: each red vertex in its slot and each blue one in its word, with as many free slots as there
-- is room for red pebbles
pub record IsLaid (slots n : ℕ) (p : Position) (l : Layout) (q : Places) : Type 0 where
  pub red_at : (v : ℕ) → v ∈ p.red → q.slots (l.slot_of v) ≡ Some v
  pub only_red : (s v : ℕ) → q.slots s ≡ Some v → (v ∈ p.red) × (l.slot_of v ≡ s)
  pub slot_below : (v : ℕ) → v ∈ p.red → l.slot_of v < slots
  pub free_empty : (s : ℕ) → s ∈ l.free → q.slots s ≡ None
  pub free_below : (s : ℕ) → s ∈ l.free → s < slots
  pub count : size l.free + size p.red ≡ slots
  pub blue_at : (v : ℕ) → v ∈ p.blue → q.words (l.word_of v) ≡ Some v
  pub word_below : (v : ℕ) → v ∈ p.blue → l.word_of v < l.words
  pub past : (a : ℕ) → l.words ≤ a → q.words a ≡ None
  pub words : l.words ≡ size p.blue
  pub red_vertex : (v : ℕ) → v ∈ p.red → v < n
  pub blue_vertex : (v : ℕ) → v ∈ p.blue → v < n

in_rest : (s : Vertices) (k u : ℕ) → u ∈ set.remove s k → (u ≡ k → ⊥) × (u ∈ s)
in_rest s k u h = (λ e. false≢true (sym (not_in_remove s k) ∙ subst (λ w. w ∈ set.remove s k) e h), grind (arith, membership))

into_rest : (s : Vertices) (k u : ℕ) → (u ≡ k → ⊥) → u ∈ s → u ∈ set.remove s k
into_rest s k u ne h = grind (arith, membership)

module _ (slots n : ℕ) (few : slots ≤ 64) (p : Position) (l : Layout) (q : Places) (ok : IsLaid slots n p l q) (v : ℕ) where
  -- ---- a vertex takes the lowest free slot

  pub lowest_is_least : v ∉ p.red → size (set.insert p.red v) ≤ slots → IsLeast l.free (lowest l.free)
  lowest_is_least new fits =
      IsLeast-lowest l.free
      (record { below = λ s h. (let less = ok.free_below s h in omega arith) })
      (let one = size_insert_new p.red v new in let all = ok.count in omega arith)

  pub nowhere : v ∉ p.red → IsNowhere q.slots v
  nowhere new s e = false≢true (sym new ∙ (ok.only_red s v e).0)

  pub placed_laid : v ∉ p.red → IsLeast l.free (lowest l.free) → v < n
      → IsLaid slots n (record { red = set.insert p.red v; blue = p.blue }) (slot_given l v) (with_slot q (lowest l.free) v)
  placed_laid new least vertex =
      let s : ℕ = lowest l.free in
      let is_free : q.slots (lowest l.free) ≡ None = ok.free_empty _ least.member in
      record {
        red_at = λ u h. elim (cases_eq u v) [
          | inl e ↦ put_same q.slots (lowest l.free) _ v (changed_same l.slot_of v u (lowest l.free) e) ∙ ap Some (sym e)
          | inr ne ↦
              let old : u ∈ p.red = grind (arith, membership) in
              let at = ok.red_at u old in
              let same = changed_other l.slot_of v u (lowest l.free) ne in
              put_other q.slots (lowest l.free) _ v (λ e. clash u (ap q.slots (sym same ∙ e) ∙ is_free) at) ∙ ap q.slots same ∙ at
        ];
        only_red = λ k u e. elim (cases_eq k (lowest l.free)) [
          | inl same ↦
              let is : v ≡ u = one_thing v u (put_same q.slots (lowest l.free) k v same) e in
              (subst (λ w. w ∈ set.insert p.red v) is (in_insert_same p.red v), changed_same l.slot_of v u (lowest l.free) (sym is) ∙ sym same)
          | inr ne ↦
              let old = ok.only_red k u (sym (put_other q.slots (lowest l.free) k v ne) ∙ e) in
              (in_insert p.red v u old.0, changed_other l.slot_of v u (lowest l.free) (λ is. false≢true (sym new ∙ subst (λ w. w ∈ p.red) is old.0)) ∙ old.1)
        ];
        slot_below = λ u h. elim (cases_eq u v) [
          | inl e ↦ subst (λ k. k < slots) (sym (changed_same l.slot_of v u (lowest l.free) e)) (ok.free_below _ least.member)
          | inr ne ↦
              let old : u ∈ p.red = grind (arith, membership) in
              subst (λ k. k < slots) (sym (changed_other l.slot_of v u (lowest l.free) ne)) (ok.slot_below u old)
        ];
        free_empty = λ k h. let parts = in_rest l.free (lowest l.free) k h in put_other q.slots (lowest l.free) k v parts.0 ∙ ok.free_empty k parts.1;
        free_below = λ k h. ok.free_below k (in_rest l.free (lowest l.free) k h).1;
        count = (let one = size_insert_new p.red v new in let less = size_remove l.free (lowest l.free) least.member in let all = ok.count in omega arith);
        blue_at = ok.blue_at;
        word_below = ok.word_below;
        past = ok.past;
        words = ok.words;
        red_vertex = λ u h. elim (insert_cases p.red v u h) [ inl e ↦ subst (λ w. w < n) (sym e) vertex | inr old ↦ ok.red_vertex u old ];
        blue_vertex = ok.blue_vertex;
      }

  -- ---- a vertex is stored in the next word

  pub filed_laid : v ∈ p.red → v ∉ p.blue → IsLaid slots n (record { red = p.red; blue = set.insert p.blue v }) (word_given l v) (with_word q l.words v)
  filed_laid red new = record {
    red_at = ok.red_at;
    only_red = ok.only_red;
    slot_below = ok.slot_below;
    free_empty = ok.free_empty;
    free_below = ok.free_below;
    count = ok.count;
    blue_at = λ u h. elim (cases_eq u v) [
      | inl e ↦ put_same q.words l.words _ v (changed_same l.word_of v u l.words e) ∙ ap Some (sym e)
      | inr ne ↦
          let old : u ∈ p.blue = grind (arith, membership) in
          let less = ok.word_below u old in
          let same = changed_other l.word_of v u l.words ne in
          put_other q.words l.words _ v (λ e. absurd (omega arith)) ∙ ap q.words same ∙ ok.blue_at u old
    ];
    word_below = λ u h. elim (cases_eq u v) [
      | inl e ↦ (let same = changed_same l.word_of v u l.words e in omega arith)
      | inr ne ↦
          let old : u ∈ p.blue = grind (arith, membership) in
          let less = ok.word_below u old in
          let same = changed_other l.word_of v u l.words ne in
          omega arith
    ];
    past = λ a h. put_other q.words l.words a v (λ e. absurd (omega arith)) ∙ ok.past a (omega arith);
    words = (let one = size_insert_new p.blue v new in let all = ok.words in omega arith);
    red_vertex = ok.red_vertex;
    blue_vertex = λ u h. elim (insert_cases p.blue v u h) [ inl e ↦ subst (λ w. w < n) (sym e) (ok.red_vertex v red) | inr old ↦ ok.blue_vertex u old ];
  }

  -- ---- a vertex leaves its slot

  pub freed_laid : v ∈ p.red → IsLaid slots n (record { red = set.remove p.red v; blue = p.blue }) (slot_freed l v) (without_slot q (l.slot_of v))
  freed_laid red =
      let here = ok.red_at v red in
      record {
        red_at = λ u h.
            let parts = in_rest p.red v u h in
            let at = ok.red_at u parts.1 in
            cleared_other q.slots (l.slot_of v) (l.slot_of u) (λ e. parts.0 (one_thing u v at (ap q.slots e ∙ here))) ∙ at;
        only_red = λ k u e. elim (cases_eq k (l.slot_of v)) [
          | inl same ↦ absurd (clash u (cleared_same q.slots (l.slot_of v) k same) e)
          | inr ne ↦
              let old = ok.only_red k u (sym (cleared_other q.slots (l.slot_of v) k ne) ∙ e) in
              (into_rest p.red v u (λ is. ne (sym old.1 ∙ ap l.slot_of is)) old.0, old.1)
        ];
        slot_below = λ u h. ok.slot_below u (in_rest p.red v u h).1;
        free_empty = λ k h. elim (cases_eq k (l.slot_of v)) [
          | inl same ↦ cleared_same q.slots (l.slot_of v) k same
          | inr ne ↦ (let old : k ∈ l.free = grind (arith, membership) in cleared_other q.slots (l.slot_of v) k ne ∙ ok.free_empty k old)
        ];
        free_below = λ k h. elim (insert_cases l.free (l.slot_of v) k h) [ inl e ↦ subst (λ w. w < slots) (sym e) (ok.slot_below v red) | inr old ↦ ok.free_below k old ];
        count =
            let new : l.slot_of v ∉ l.free = false_from_ne_true _ (λ h. clash v (ok.free_empty _ h) here) in
            let one = size_insert_new l.free (l.slot_of v) new in
            let less = size_remove p.red v red in
            let all = ok.count in
            omega arith;
        blue_at = ok.blue_at;
        word_below = ok.word_below;
        past = ok.past;
        words = ok.words;
        red_vertex = λ u h. ok.red_vertex u (in_rest p.red v u h).1;
        blue_vertex = ok.blue_vertex;
      }

-- ---- the emitter's arrays

pub set_changed : (xs : List ℕ) (k x : ℕ) → k < length xs → (q : ℕ) → get_or (put_at xs k x) q 0 ≡ changed (λ v. get_or xs v 0) k x q
set_changed xs k x h q = elim (cases_eq q k) [
  | inl e ↦ ap (λ r. get_or (put_at xs k x) r 0) e ∙ get_or-set_same xs k x 0 h ∙ sym (changed_same (λ v. get_or xs v 0) k q x e)
  | inr ne ↦ get_or-set_other xs k q x 0 ne ∙ sym (changed_other (λ v. get_or xs v 0) k q x ne)
]

pub operand_small : (n k u : ℕ) (args : List Operand) → All (IsOperandBelow 256) (take n args) → k < n → get_or args k (Vertex 0) ≡ Vertex u → u < 256
operand_small n k u args all h e = elim (cases_lt k (length args)) [
  | inl l ↦ subst (IsOperandBelow 256) (get_or-take n args k (Vertex 0) h ∙ e) (All-get_or (IsOperandBelow 256) (take n args) k (Vertex 0) (omega (arith, length-take n args)) all)
  | inr g ↦ (let none : Vertex 0 ≡ Vertex u = sym (get_or_past args k (Vertex 0) g) ∙ e in let zero_u : 0 ≡ u = cc in omega arith)
]
