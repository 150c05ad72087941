-- The code that is emitted for a pebbling that places no pebble where one of its colour stands plays it, and keeps the bounds of a code.
use Rattle.std.proofs.Common.{◌≡◌, ℕ, zero, suc, ◌+◌, ◌<◌, ◌≤◌, true, false, cond, ltb, pos, None, Some, List, [], ◌∷◌, ◌++◌, length, map, take, drop, get_or, slice_get, refl, sym, ap, ◌∙◌, subst, inl, inr, arith, lt-ltb}
use Rattle.std.specs.FinSet as set
use Rattle.std.specs.List.{All}
use Rattle.std.proofs.lemmas.Bool.{false≢true}
use Rattle.std.proofs.lemmas.Bool.Decides.{nat_tests}
use Rattle.std.proofs.lemmas.Option.{slice_get_cases}
use Rattle.std.proofs.lemmas.List.Elements.{All-head, All-tail, All-nil, All-cons, All-append, All-weaker}
use Rattle.std.proofs.lemmas.List.{take-append-drop, at_drop_more, drop_all}
use Rattle.std.proofs.Common.{replicate, ◌≢◌, append_assoc, append-nil}
use Rattle.slot_alloc.specs.Emitters.{CanBePlayed}
use Rattle.comp_graph.specs.declared.operation.Op.{Op}
use Rattle.comp_graph.specs.declared.operation.Op.TheVariants.{Input, Set, Add, Sub, Mul, And, Or, Xor, Neg, Min, Max, Sel, Mad}
use Rattle.comp_graph.specs.declared.node.Operand.{Operand}
use Rattle.comp_graph.specs.declared.node.Operand.TheVariants.{Vertex, Const as Constant}
use Rattle.comp_graph.specs.declared.node.Node.{Node}
use Rattle.comp_graph.specs.declared.node.Output.{Output}
use Rattle.comp_graph.specs.Operations.{arity_of}
use Rattle.comp_graph.specs.Vertices.{Vertices, ◌∈◌, ◌∉◌, IsWithin, size, AllBelow, set_below, count_below}
use Rattle.comp_graph.specs.Sets.{membership, has_set_below}
use Rattle.comp_graph.specs.declared.costs.Weights.{Weights}
use Rattle.comp_graph.specs.Games.{game_on}
use Rattle.comp_graph.specs.Graphs.{GraphParts, IsGraph, operands_of, vertices_of, inputs_of, outputs_of, is_input, IsConstant as IsConstantOperand}
use Rattle.comp_graph.proofs.GraphLaws.{preds_of-node, contains-inputs_of, inputs_of-first}
use Rattle.pebble_rules.specs.declared.position.Position.{Position}
use Rattle.pebble_rules.specs.Rules.{start, moved, position_after, IsMove, IsPebbling}
use Rattle.pebble_rules.specs.declared.moves.Move.{Move}
use Rattle.pebble_rules.specs.declared.moves.Move.TheVariants.{Load as LoadMove, Store as StoreMove, Compute, DropRed, DropBlue}
use Rattle.pebble_rules.specs.Transfers.{stores}
use Rattle.comp_graph.proofs.Sets.{size_empty, in_insert_same, in_insert, size_set_below, size_le_below}
use Rattle.scratch_machine.specs.declared.code.Source.{Source}
use Rattle.scratch_machine.specs.declared.code.Source.TheVariants.{Const}
use Rattle.scratch_machine.specs.declared.code.Instr.{Instr}
use Rattle.scratch_machine.specs.declared.code.Instr.TheVariants.{Apply}
use Rattle.scratch_machine.specs.declared.code.OutWord.{OutWord}
use Rattle.scratch_machine.specs.Cells.{Cells}
use Rattle.scratch_machine.specs.Codes.{IsInstr, IsSource, IsConstant, IsApply}
use Rattle.scratch_machine.specs.CodePlays.{Places, NamesAll, IsComputeOf, with_slot, with_word, without_slot, Plays, first_places, HasOutputs}
use Rattle.slot_alloc.specs.Emitted.{Layout, lowest, slot_given, slot_freed, word_given, source_of, sources, application, code_of_move, layout_after, emitted, layout_after_all, first_layout, output_words}
use Rattle.slot_alloc.specs.Neat.{IsNeat, AreNeat}
use Rattle.slot_alloc.specs.PlanCode.{EmittedCodePlays}
use Rattle.slot_alloc.proofs.Placing.{IsLaid, lowest_is_least, nowhere, placed_laid, filed_laid, freed_laid}

-- ---- the operands of an instruction

three_places : (xs : List Operand) → length xs ≡ 3 → (a : Operand) × (b : Operand) × (c : Operand) × (xs ≡ a ∷ b ∷ c ∷ [])
three_places [] h = absurd (omega arith)
three_places (a ∷ []) h = absurd (omega arith)
three_places (a ∷ b ∷ []) h = absurd (omega arith)
three_places (a ∷ b ∷ c ∷ []) h = (a, b, c, refl)
three_places (a ∷ b ∷ c ∷ d ∷ xs) h = absurd (omega arith)

taken : (slot_of : ℕ → ℕ) (op : Op) (a b c : Operand) → take (arity_of op) (sources slot_of op (a ∷ b ∷ c ∷ [])) ≡ map (source_of slot_of) (take (arity_of op) (a ∷ b ∷ c ∷ []))
taken slot_of Input a b c = refl
taken slot_of Set a b c = refl
taken slot_of Add a b c = refl
taken slot_of Sub a b c = refl
taken slot_of Mul a b c = refl
taken slot_of And a b c = refl
taken slot_of Or a b c = refl
taken slot_of Xor a b c = refl
taken slot_of Neg a b c = refl
taken slot_of Min a b c = refl
taken slot_of Max a b c = refl
taken slot_of Sel a b c = refl
taken slot_of Mad a b c = refl

sources_taken : (slot_of : ℕ → ℕ) (op : Op) (args : List Operand) → length args ≡ 3 → take (arity_of op) (sources slot_of op args) ≡ map (source_of slot_of) (take (arity_of op) args)
sources_taken slot_of op args h =
    let w = three_places args h in
    subst (λ xs. take (arity_of op) (sources slot_of op xs) ≡ map (source_of slot_of) (take (arity_of op) xs)) (sym w.3) (taken slot_of op w.0 w.1 w.2)

-- a place of operands that is not taken
abbrev IsZero : Source → Type 0
IsZero a = a ≡ Const (pos 0)

zeros : (n : ℕ) → List Source
zeros zero = []
zeros (suc n) = Const (pos 0) ∷ zeros n

all_zero : (n : ℕ) → All IsZero (zeros n)
unfolding zeros
all_zero zero = All-nil IsZero
all_zero (suc n) = All-cons IsZero (Const (pos 0)) (zeros n) refl (all_zero n)

sources_rest : (slot_of : ℕ → ℕ) (op : Op) (args : List Operand) → All IsZero (drop (arity_of op) (sources slot_of op args))
unfolding zeros
sources_rest slot_of Input args = all_zero 3
sources_rest slot_of Set args = all_zero 2
sources_rest slot_of Add args = all_zero 1
sources_rest slot_of Sub args = all_zero 1
sources_rest slot_of Mul args = all_zero 1
sources_rest slot_of And args = all_zero 1
sources_rest slot_of Or args = all_zero 1
sources_rest slot_of Xor args = all_zero 1
sources_rest slot_of Neg args = all_zero 2
sources_rest slot_of Min args = all_zero 1
sources_rest slot_of Max args = all_zero 1
sources_rest slot_of Sel args = all_zero 0
sources_rest slot_of Mad args = all_zero 0

-- the operands' vertices are red, and each red vertex stands in its slot
names_all : (slots : Cells ℕ) (slot_of : ℕ → ℕ) (red : Vertices) → ((u : ℕ) → u ∈ red → slots (slot_of u) ≡ Some u) → (xs : List Operand) → IsWithin (vertices_of xs) red
    → NamesAll slots xs (map (source_of slot_of) xs)
unfolding vertices_of
names_all slots slot_of red at [] h = tt
names_all slots slot_of red at (Vertex u ∷ xs) h = (at u (h u (in_insert_same (vertices_of xs) u)), names_all slots slot_of red at xs (λ w i. h w (in_insert (vertices_of xs) u w i)))
names_all slots slot_of red at (Constant k ∷ xs) h = (refl, names_all slots slot_of red at xs h)

sources_within : (slots : ℕ) (slot_of : ℕ → ℕ) (red : Vertices) → ((u : ℕ) → u ∈ red → slot_of u < slots) → (xs : List Operand) → IsWithin (vertices_of xs) red
    → All (IsSource slots) (map (source_of slot_of) xs)
unfolding vertices_of
sources_within slots slot_of red below [] h = All-nil (IsSource slots)
sources_within slots slot_of red below (Vertex u ∷ xs) h =
    All-cons (IsSource slots) _ _ (below u (h u (in_insert_same (vertices_of xs) u))) (sources_within slots slot_of red below xs (λ w i. h w (in_insert (vertices_of xs) u w i)))
sources_within slots slot_of red below (Constant k ∷ xs) h = All-cons (IsSource slots) _ _ tt (sources_within slots slot_of red below xs h)

all_sources : (slots k : ℕ) (xs : List Source) → All (IsSource slots) (take k xs) → All IsZero (drop k xs) → All (IsSource slots) xs
all_sources slots k xs h z =
    subst (All (IsSource slots)) (take-append-drop k xs)
    (All-append (IsSource slots) (take k xs) (drop k xs) h (All-weaker IsZero (IsSource slots) (λ a e. subst (IsSource slots) (sym e) tt) (drop k xs) z))

constant_sources : (slot_of : ℕ → ℕ) (xs : List Operand) → All IsConstantOperand xs → All IsConstant (map (source_of slot_of) xs)
constant_sources slot_of [] h = All-nil IsConstant
constant_sources slot_of (Vertex u ∷ xs) h = absurd (All-head IsConstantOperand (Vertex u) xs h)
constant_sources slot_of (Constant k ∷ xs) h = All-cons IsConstant _ _ tt (constant_sources slot_of xs (All-tail IsConstantOperand (Constant k) xs h))

-- ---- the moves, one after another

-- the instructions of the moves play them, and the layout says where they lead
record Emits (g : GraphParts) (slots : ℕ) (p : Position) (l : Layout) (q : Places) (ms : List Move) : Type 0 where
  last : Places
  plays : Plays g q ms (emitted g l ms) last
  ends : IsLaid slots (length g.nodes) (position_after p ms) (layout_after_all l ms) last
  grows : l.words ≤ (layout_after_all l ms).words
  bounds : All (IsInstr slots (layout_after_all l ms).words) (emitted g l ms)

module _ (g : GraphParts) (is : IsGraph g) (slots : ℕ) (few : slots ≤ 64) (weights : Weights) where
  node_at : (v : ℕ) → v < length g.nodes → (n : Node) × (slice_get g.nodes v ≡ Some n)
  node_at v h = elim ((slice_get_cases g.nodes v).1) [ inl w ↦ (w.0, w.2) | inr past ↦ absurd (omega arith) ]

  emits : (ms : List Move) (p : Position) (l : Layout) (q : Places) → IsLaid slots (length g.nodes) p l q → IsPebbling (game_on g slots weights) p ms → AreNeat p ms
      → Emits g slots p l q ms
  emits [] p l q ok moves neat = record { last = q; plays = refl; ends = ok; grows = omega arith; bounds = All-nil (IsInstr slots l.words) }
  emits (LoadMove v ∷ ms) p l q ok moves neat =
      let least = lowest_is_least slots (length g.nodes) few p l q ok v neat.0 moves.0.fits in
      let next = placed_laid slots (length g.nodes) few p l q ok v neat.0 least (ok.blue_vertex v moves.0.needs) in
      let rest = emits ms (moved p (LoadMove v)) (slot_given l v) (with_slot q (lowest l.free) v) next moves.1 neat.1 in
      let grows = rest.grows in
      let less = ok.word_below v moves.0.needs in
      record {
        last = rest.last;
        plays = (record { from_word = ok.blue_at v moves.0.needs; free_slot = ok.free_empty _ least.member; in_no_slot = nowhere slots (length g.nodes) few p l q ok v neat.0 }, rest.plays);
        ends = rest.ends;
        grows = grows;
        bounds = All-cons (IsInstr slots (layout_after_all (slot_given l v) ms).words) _ _ (ok.free_below _ least.member, omega arith) rest.bounds;
      }
  emits (StoreMove v ∷ ms) p l q ok moves neat =
      let next = filed_laid slots (length g.nodes) few p l q ok v moves.0.needs neat.0 in
      let rest = emits ms (moved p (StoreMove v)) (word_given l v) (with_word q l.words v) next moves.1 neat.1 in
      let grows = rest.grows in
      record {
        last = rest.last;
        plays = (record { from_slot = ok.red_at v moves.0.needs; free_word = ok.past l.words (omega arith) }, rest.plays);
        ends = rest.ends;
        grows = omega arith;
        bounds = All-cons (IsInstr slots (layout_after_all (word_given l v) ms).words) _ _ (ok.slot_below v moves.0.needs, omega arith) rest.bounds;
      }
  emits (Compute v ∷ ms) p l q ok moves neat =
      let can = moves.0.needs in
      let least = lowest_is_least slots (length g.nodes) few p l q ok v neat.0 moves.0.fits in
      let next = placed_laid slots (length g.nodes) few p l q ok v neat.0 least can.vertex in
      let rest = emits ms (moved p (Compute v)) (slot_given l v) (with_slot q (lowest l.free) v) next moves.1 neat.1 in
      let grows = rest.grows in
      let w = node_at v can.vertex in
      let within : IsWithin (vertices_of (operands_of w.0)) p.red = λ u h. can.preds_red u (ap (λ s. set.contains s u) (preds_of-node g v w.0 w.1) ∙ h) in
      let taken = sources_taken l.slot_of w.0.op w.0.args (is.nodes v w.0 w.1).three in
      let here : emitted g l (Compute v ∷ ms) ≡ Apply w.0.op (lowest l.free) (sources l.slot_of w.0.op w.0.args) ∷ emitted g (slot_given l v) ms
      = ap (λ o. application l o ++ emitted g (slot_given l v) ms) w.1 in
      let computes : IsComputeOf g q v w.0.op (lowest l.free) (sources l.slot_of w.0.op w.0.args) = record {
        node = w.0;
        is_node = w.1;
        same_op = refl;
        operands = subst (NamesAll q.slots (operands_of w.0)) (sym taken) (names_all q.slots l.slot_of p.red ok.red_at (operands_of w.0) within);
        free_slot = ok.free_empty _ least.member;
        in_no_slot = nowhere slots (length g.nodes) few p l q ok v neat.0;
      } in
      let applies : IsApply slots w.0.op (lowest l.free) (sources l.slot_of w.0.op w.0.args) = record {
        no_input = λ e. false≢true (sym can.no_input ∙ contains-inputs_of g v w.0 w.1 ∙ ap is_input e);
        within = ok.free_below _ least.member;
        three = refl;
        operands = all_sources slots (arity_of w.0.op) _
            (subst (All (IsSource slots)) (sym taken) (sources_within slots l.slot_of p.red ok.slot_below (operands_of w.0) within))
            (sources_rest l.slot_of w.0.op w.0.args);
        rest = sources_rest l.slot_of w.0.op w.0.args;
        set_constant = λ e. subst (All IsConstant) (sym taken) (constant_sources l.slot_of (operands_of w.0) ((is.nodes v w.0 w.1).set_constant e));
      } in
      record {
        last = rest.last;
        plays = subst (λ c. Plays g q (Compute v ∷ ms) c rest.last) (sym here) (computes, rest.plays);
        ends = rest.ends;
        grows = grows;
        bounds = subst (All (IsInstr slots (layout_after_all (slot_given l v) ms).words)) (sym here) (All-cons (IsInstr slots (layout_after_all (slot_given l v) ms).words) _ _ applies rest.bounds);
      }
  emits (DropRed v ∷ ms) p l q ok moves neat =
      let next = freed_laid slots (length g.nodes) few p l q ok v moves.0.needs in
      let rest = emits ms (moved p (DropRed v)) (slot_freed l v) (without_slot q (l.slot_of v)) next moves.1 neat.1 in
      record { last = rest.last; plays = (l.slot_of v, ok.red_at v moves.0.needs, rest.plays); ends = rest.ends; grows = rest.grows; bounds = rest.bounds }
  emits (DropBlue v ∷ ms) p l q ok moves neat = absurd neat.0

-- ---- the start and the end

count_all : (n : ℕ) → count_below (λ s. true) n ≡ n
unfolding count_below
count_all zero = refl
count_all (suc n) = omega (arith, count_all n)

size_all : (n : ℕ) → size (set_below (λ s. true) n) ≡ n
size_all n = size_set_below (λ s. true) n ∙ count_all n

none_red : (v : ℕ) → v ∈ set.empty → ⊥
none_red v h = absurd (let e : v ∉ set.empty = grind (arith, membership) in false≢true (sym e ∙ h))

below_from_in : (v n : ℕ) → v ∈ set_below (λ s. true) n → v < n
below_from_in v n h = let e = has_set_below (λ s. true) n v in grind (arith, nat_tests)

word_at : (v n : ℕ) → v < n → cond (ltb v n) v 0 ≡ v
word_at v n h = ap (λ b. cond b v 0) (lt-ltb v n h)

first_word : (a n : ℕ) → a < n → cond (ltb a n) (Some a) None ≡ Some a
first_word a n h = ap (λ b. cond b (Some a) None) (lt-ltb a n h)

past_words : (a n : ℕ) → n ≤ a → cond (ltb a n) (Some a) None ≡ None
past_words a n h = let e : ltb a n ≡ false = grind (arith, nat_tests) in ap (λ b. cond b (Some a) None) e

starts_laid : (g : GraphParts) → IsGraph g → (slots : ℕ) (weights : Weights) → IsLaid slots (length g.nodes) (start (game_on g slots weights)) (first_layout g slots) (first_places g)
starts_laid g is slots weights =
    let input : (v : ℕ) → v ∈ inputs_of g → v < length g.names = λ v h. below_from_in v (length g.names) (ap (λ s. set.contains s v) (inputs_of-first g is) ∙ h) in
    record {
      red_at = λ v h. absurd (none_red v h);
      only_red = λ s v e. absurd (cc);
      slot_below = λ v h. absurd (none_red v h);
      free_empty = λ s h. refl;
      free_below = λ s h. below_from_in s slots h;
      count = (let all = size_all slots in let none = size_empty in omega arith);
      blue_at = λ v h. ap (λ w. cond (ltb w (length g.names)) (Some w) None) (word_at v (length g.names) (input v h)) ∙ first_word v (length g.names) (input v h);
      word_below = λ v h. subst (λ w. w < length g.names) (sym (word_at v (length g.names) (input v h))) (input v h);
      past = λ a h. past_words a (length g.names) h;
      words = sym (ap size (sym (inputs_of-first g is)) ∙ size_all (length g.names));
      red_vertex = λ v h. absurd (none_red v h);
      blue_vertex = λ v h. (let less = input v h in let named = is.named in omega arith);
    }

-- the vertex of an output element is a member
abbrev IsMemberOf : Vertices → Output → Type 0
IsMemberOf s o = o.vertex ∈ s

head_in : (v : ℕ) (vs : List ℕ) → v ∈ set.from_list (v ∷ vs)
head_in v vs = let e = set.contains-from_list_nat (v ∷ vs) v in grind (arith, nat_tests)

tail_in : (v : ℕ) (vs : List ℕ) → IsWithin (set.from_list vs) (set.from_list (v ∷ vs))
tail_in v vs u h = let e = set.contains-from_list_nat (v ∷ vs) u in let f = set.contains-from_list_nat vs u in grind (arith, nat_tests)

outputs_in : (os : List Output) (s : Vertices) → IsWithin (set.from_list (map (λ o. o.vertex) os)) s → All (IsMemberOf s) os
outputs_in [] s h = All-nil (IsMemberOf s)
outputs_in (o ∷ os) s h = All-cons (IsMemberOf s) o os (h o.vertex (head_in o.vertex _)) (outputs_in os s (λ u i. h u (tail_in o.vertex _ u i)))

module _ (slots n : ℕ) (p : Position) (l : Layout) (q : Places) (ok : IsLaid slots n p l q) where
  has_outputs : (os : List Output) → All (IsMemberOf p.blue) os → HasOutputs q os (output_words l os)
  has_outputs [] h = tt
  has_outputs (o ∷ os) h = (ok.blue_at o.vertex (All-head (IsMemberOf p.blue) o os h), has_outputs os (All-tail (IsMemberOf p.blue) o os h))

  output_bounds : (os : List Output) → All (IsMemberOf p.blue) os → All (λ (o : OutWord). o.word < l.words) (output_words l os)
  output_bounds [] h = All-nil (λ (o : OutWord). o.word < l.words)
  output_bounds (o ∷ os) h = All-cons (λ (w : OutWord). w.word < l.words) _ _ (ok.word_below o.vertex (All-head (IsMemberOf p.blue) o os h)) (output_bounds os (All-tail (IsMemberOf p.blue) o os h))

-- each store takes one more word
words_stored : (l : Layout) (ms : List Move) → (layout_after_all l ms).words ≡ l.words + stores ms
words_stored l [] = omega arith
words_stored l (LoadMove v ∷ ms) = omega (arith, words_stored (slot_given l v) ms)
words_stored l (StoreMove v ∷ ms) = omega (arith, words_stored (word_given l v) ms)
words_stored l (Compute v ∷ ms) = omega (arith, words_stored (slot_given l v) ms)
words_stored l (DropRed v ∷ ms) = omega (arith, words_stored (slot_freed l v) ms)
words_stored l (DropBlue v ∷ ms) = omega (arith, words_stored l ms)

pub emitted_code_plays : EmittedCodePlays
unfolding outputs_of
emitted_code_plays g slots weights ms is some few complete neat =
    let ran = emits g is slots few weights ms (start (game_on g slots weights)) (first_layout g slots) (first_places g) (starts_laid g is slots weights) complete.pebbling neat in
    let blue = outputs_in g.outputs _ complete.outputs_blue in
    let grows = ran.grows in
    let all = size_le_below (length g.nodes) (position_after (start (game_on g slots weights)) ms).blue (record { below = ran.ends.blue_vertex }) in
    let words = ran.ends.words in
    let small = is.small in
    record {
      plays = record { last = ran.last; plays = ran.plays; outputs = has_outputs _ _ _ _ _ ran.ends g.outputs blue };
      valid = record {
        some_slot = some;
        few_slots = few;
        few_words = omega arith;
        few_inputs = grows;
        outputs = output_bounds _ _ _ _ _ ran.ends g.outputs blue;
        instructions = ran.bounds;
      };
      words = words_stored (first_layout g slots) ms;
    }

-- ---- the emitter, a move at a time

pub zero_words : (n v : ℕ) → get_or {A = ℕ} (replicate n 0) v 0 ≡ 0
zero_words zero v = refl
zero_words (suc n) zero = refl
zero_words (suc n) (suc v) = zero_words n v

pub zero_filled : (n v : ℕ) → get_or {A = ℕ} (replicate n 0) v 0 ≡ cond (ltb v 0) v 0
zero_filled n v = zero_words n v ∙ (let e : ltb v 0 ≡ false = grind (arith, nat_tests) in ap (λ b. cond b v 0) (sym e))

module _ (g : GraphParts) (is : IsGraph g) (slots : ℕ) (few : slots ≤ 64) (weights : Weights) where
  laid_next : (p : Position) (l : Layout) (q : Places) (m : Move) → IsLaid slots (length g.nodes) p l q → IsMove (game_on g slots weights) p m → IsNeat p m
      → (r : Places) × IsLaid slots (length g.nodes) (moved p m) (layout_after l m) r
  laid_next p l q (LoadMove v) ok move neat =
      (with_slot q (lowest l.free) v, placed_laid slots (length g.nodes) few p l q ok v neat (lowest_is_least slots (length g.nodes) few p l q ok v neat move.fits) (ok.blue_vertex v move.needs))
  laid_next p l q (StoreMove v) ok move neat = (with_word q l.words v, filed_laid slots (length g.nodes) few p l q ok v move.needs neat)
  laid_next p l q (Compute v) ok move neat =
      (with_slot q (lowest l.free) v, placed_laid slots (length g.nodes) few p l q ok v neat (lowest_is_least slots (length g.nodes) few p l q ok v neat move.fits) move.needs.vertex)
  laid_next p l q (DropRed v) ok move neat = (without_slot q (l.slot_of v), freed_laid slots (length g.nodes) few p l q ok v move.needs)
  laid_next p l q (DropBlue v) ok move neat = absurd neat

  no_room : (s : Vertices) (v : ℕ) → v ∈ s → set.empty ≢ s
  no_room s v h e = none_red v (subst (λ t. v ∈ t) (sym e) h)

  small_slots : (p : Position) (l : Layout) (q : Places) → IsLaid slots (length g.nodes) p l q → AllBelow 64 l.free
  small_slots p l q ok = record { below = λ s h. (let less = ok.free_below s h in omega arith) }

  ready : (p : Position) (l : Layout) (q : Places) (m : Move) → IsLaid slots (length g.nodes) p l q → IsMove (game_on g slots weights) p m → IsNeat p m → CanBePlayed g l m
  ready p l q (LoadMove v) ok move neat =
      (let less = ok.blue_vertex v move.needs in let n = is.small in omega arith, no_room l.free (lowest l.free) (lowest_is_least slots (length g.nodes) few p l q ok v neat move.fits).member, small_slots p l q ok)
  ready p l q (StoreMove v) ok move neat =
      let next = filed_laid slots (length g.nodes) few p l q ok v move.needs neat in
      let all = size_le_below (length g.nodes) (set.insert p.blue v) (record { below = next.blue_vertex }) in
      let words = next.words in let n = is.small in
      (let less = ok.red_vertex v move.needs in omega arith, omega arith)
  ready p l q (Compute v) ok move neat =
      (move.needs.vertex, no_room l.free (lowest l.free) (lowest_is_least slots (length g.nodes) few p l q ok v neat move.fits).member, small_slots p l q ok)
  ready p l q (DropRed v) ok move neat = (let less = ok.red_vertex v move.needs in let n = is.small in omega arith, let less = ok.slot_below v move.needs in omega arith)
  ready p l q (DropBlue v) ok move neat = absurd neat

-- the code holds the first k moves' instructions, and the rest can be emitted
pub record IsEmitting (g : GraphParts) (slots : ℕ) (ms : List Move) (k : ℕ) (l : Layout) (code : List Instr) : Type 0 where
  pub weights : Weights
  pub position : Position
  pub places : Places
  pub laid_so : IsLaid slots (length g.nodes) position l places
  pub moves : IsPebbling (game_on g slots weights) position (drop k ms)
  pub neat : AreNeat position (drop k ms)
  pub code_is : code ++ emitted g l (drop k ms) ≡ emitted g (first_layout g slots) ms
  pub layout_is : layout_after_all l (drop k ms) ≡ layout_after_all (first_layout g slots) ms

pub emitting_first : (g : GraphParts) → IsGraph g → (slots : ℕ) (weights : Weights) (ms : List Move) (code : List Instr) (l : Layout) → IsPebbling (game_on g slots weights) (start (game_on g slots weights)) ms → AreNeat (start (game_on g slots weights)) ms
    → code ≡ [] → l ≡ first_layout g slots → IsEmitting g slots ms 0 l code
emitting_first g is slots weights ms code l moves neat none first = subst (λ w. IsEmitting g slots ms 0 w code) (sym first) (record {
  weights = weights;
  position = start (game_on g slots weights);
  places = first_places g;
  laid_so = starts_laid g is slots weights;
  moves = moves;
  neat = neat;
  code_is = ap (λ xs. xs ++ emitted g (first_layout g slots) ms) none;
  layout_is = refl;
})

module _ (g : GraphParts) (is : IsGraph g) (slots : ℕ) (few : slots ≤ 64) (ms : List Move) (k : ℕ) (l : Layout) (code : List Instr) (so : IsEmitting g slots ms k l code) (d : Move) (within : k < length ms) where
  rest_is : drop k ms ≡ get_or ms k d ∷ drop (k + 1) ms
  rest_is = at_drop_more (λ xs. xs) ms k d within

  moves_now : IsPebbling (game_on g slots so.weights) so.position (get_or ms k d ∷ drop (k + 1) ms)
  moves_now = subst (IsPebbling (game_on g slots so.weights) so.position) rest_is so.moves

  neat_now : AreNeat so.position (get_or ms k d ∷ drop (k + 1) ms)
  neat_now = subst (AreNeat so.position) rest_is so.neat

  pub emitting_ready : CanBePlayed g l (get_or ms k d)
  emitting_ready = ready g is slots few so.weights so.position l so.places (get_or ms k d) so.laid_so moves_now.0 neat_now.0

  pub emitting_more : (next : Layout) (more : List Instr) → next ≡ layout_after l (get_or ms k d) → more ≡ code ++ code_of_move g l (get_or ms k d) → IsEmitting g slots ms (k + 1) next more
  emitting_more next more e f =
      let w = laid_next g is slots few so.weights so.position l so.places (get_or ms k d) so.laid_so moves_now.0 neat_now.0 in
      subst (λ n. IsEmitting g slots ms (k + 1) n more) (sym e) (record {
        weights = so.weights;
        position = moved so.position (get_or ms k d);
        places = w.0;
        laid_so = w.1;
        moves = moves_now.1;
        neat = neat_now.1;
        code_is =
            ap (λ xs. xs ++ emitted g (layout_after l (get_or ms k d)) (drop (k + 1) ms)) f
            ∙ append_assoc code (code_of_move g l (get_or ms k d)) (emitted g (layout_after l (get_or ms k d)) (drop (k + 1) ms))
            ∙ ap (λ xs. code ++ emitted g l xs) (sym rest_is)
            ∙ so.code_is;
        layout_is = ap (layout_after_all l) (sym rest_is) ∙ so.layout_is;
      })

pub emitting_done : (g : GraphParts) (slots : ℕ) (ms : List Move) (k : ℕ) (l : Layout) (code : List Instr) → IsEmitting g slots ms k l code → length ms ≤ k → code ≡ emitted g (first_layout g slots) ms
emitting_done g slots ms k l code so h = sym (append-nil code) ∙ ap (λ xs. code ++ emitted g l xs) (sym (drop_all k ms h)) ∙ so.code_is

pub emitting_layout : (g : GraphParts) (slots : ℕ) (ms : List Move) (k : ℕ) (l : Layout) (code : List Instr) → IsEmitting g slots ms k l code → length ms ≤ k → l ≡ layout_after_all (first_layout g slots) ms
emitting_layout g slots ms k l code so h = ap (layout_after_all l) (sym (drop_all k ms h)) ∙ so.layout_is
