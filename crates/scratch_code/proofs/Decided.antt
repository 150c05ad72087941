-- It can be told of each line whether it says an item that may come next, so each text reads as a code or has a bad line.
use Rattle.std.proofs.Common.{◌≡◌, ◌≢◌, ℕ, zero, suc, ◌<◌, ◌≤◌, ◌^◌, pos, Bool, true, false, List, [], ◌∷◌, ◌++◌, take, drop, length, Option, Some, None, refl, sym, ap, ◌∙◌, subst, ◌⊎◌, inl, inr, arith}
use Rattle.std.specs.Bool.{Decides}
use Rattle.std.specs.List.{All}
use Rattle.std.specs.Int.Signed.{mag}
use Rattle.std.specs.Str.{is_utf8, chars, bytes_eq}
use Rattle.std.proofs.lemmas.Bool.{cases_eq, cases_lt}
use Rattle.std.proofs.lemmas.Bool.Decides.{Decides-int_eq}
use Rattle.std.proofs.lemmas.List.Elements.{All-nil, All-cons, All-head, All-tail}
use Rattle.std.proofs.lemmas.Slice.Eq.{bytes_eq-Decides}
use Rattle.std.proofs.lemmas.Str.{IsUtf8-from_is_utf8, is_utf8-from_IsUtf8}
use Rattle.comp_graph.specs.declared.operation.Op.{Op}
use Rattle.comp_graph.specs.declared.operation.Op.TheVariants.{Input, Set}
use Rattle.comp_graph.specs.Operations.{arity_of}
use Rattle.scratch_machine.specs.declared.code.Source.{Source}
use Rattle.scratch_machine.specs.declared.code.Source.TheVariants.{Slot, Const}
use Rattle.scratch_machine.specs.declared.code.Instr.{Instr}
use Rattle.scratch_machine.specs.declared.code.Instr.TheVariants.{Load, Store, Apply}
use Rattle.scratch_machine.specs.declared.code.OutWord.{OutWord}
use Rattle.scratch_machine.specs.Codes.{CodeParts, IsSource, IsConstant, IsApply, IsInstr}
use Rattle.kernel_lexer.specs.Spelling.{is_word}
use Rattle.line_texts.specs.Lines.{HasLines}
use Rattle.line_texts.proofs.Cuts.{cut_exists}
use Rattle.line_texts.proofs.Reading as reading
use Rattle.scratch_code.specs.declared.item.Item.{Item}
use Rattle.scratch_code.specs.declared.item.Item.TheVariants.{Slots, Words, In, Out, Do, End}
use Rattle.scratch_code.specs.declared.draft.Stage.{Stage}
use Rattle.scratch_code.specs.declared.draft.Stage.TheVariants.{Fresh, Sized, Inputs, Outputs, Instructions, Done}
use Rattle.scratch_code.specs.Labels.{IsName, bracketed, AreIndices, IsLabel, IsBehindIndex, HasNoIndex}
use Rattle.scratch_code.specs.CodeTexts.{HasSmallConstant, HasSmallConstants, AreCodeLines}
use Rattle.scratch_code.specs.Items.{spelled, IsItem}
use Rattle.scratch_code.specs.Laws.{AlwaysOne}
use Rattle.scratch_code.specs.Sections.{State, start, with_slots, with_words, with_input, with_output, with_instr, Takes, takes_outputs, takes_instructions, has_places, Step, Ends}
use Rattle.scratch_code.proofs.Guesses.{guess, item_back}
use Rattle.scratch_code.proofs.Names.{label_parts, no_indices, one_index, two_indices, not_none, not_one, not_two}
use Rattle.scratch_code.proofs.Places.{takes_output, output_taken, takes_instr, instr_taken, takes_end, end_taken, places_named, named_places}
use Rattle.scratch_code.proofs.Reader.{reader}
use Rattle.scratch_code.proofs.Spellings.{IsZero, one_item}

-- it holds or it does not
abbrev IsTold : Type 0 → Type 0
IsTold P = P ⊎ (P → ⊥)

-- ---- parts of what is told

by_test : {P : Type 0} (b : Bool) → Decides b P → IsTold P
by_test true d = inl (d.0 refl)
by_test false d = inr (λ p. let yes = d.1 p in absurd (cc))

both_told : {P Q : Type 0} → IsTold P → IsTold Q → IsTold (P × Q)
both_told (inl p) (inl q) = inl (p, q)
both_told (inl p) (inr n) = inr (λ h. n h.1)
both_told (inr n) q = inr (λ h. n h.0)

told_as : {P Q : Type 0} → (P → Q) → (Q → P) → IsTold P → IsTold Q
told_as f g (inl p) = inl (f p)
told_as f g (inr n) = inr (λ q. n (g q))

all_told : {A : Type 0} (P : A → Type 0) → ((a : A) → IsTold (P a)) → (xs : List A) → IsTold (All P xs)
all_told P tell [] = inl (All-nil P)
all_told P tell (x ∷ xs) = told_as (λ h. All-cons P x xs h.0 h.1) (λ h. (All-head P x xs h, All-tail P x xs h)) (both_told (tell x) (all_told P tell xs))

less_told : (m n : ℕ) → IsTold (m < n)
less_told m n = elim (cases_lt m n) [
  | inl less ↦ inl less
  | inr most ↦ inr (λ less. absurd (omega arith))
]

most_told : (m n : ℕ) → IsTold (m ≤ n)
most_told m n = elim (cases_lt n m) [
  | inl less ↦ inr (λ most. absurd (omega arith))
  | inr most ↦ inl most
]

test_told : (b : Bool) → IsTold (b ≡ true)
test_told true = inl refl
test_told false = inr (λ e. absurd (cc))

-- ---- labels

abbrev HasFront : List ℕ → List ℕ → Type 0
HasFront front bytes = (more : List ℕ) × (bytes ≡ front ++ more)

front_told : (front bytes : List ℕ) → IsTold (HasFront front bytes)
front_told [] bytes = inl (bytes, refl)
front_told (f ∷ front) [] = inr (λ h. let e = h.1 in absurd (cc))
front_told (f ∷ front) (b ∷ bytes) = elim (cases_eq b f) [
  | inl same ↦ told_as (λ h. (h.0, (λ i. same i ∷ h.1 i))) (λ h. let e = h.1 in (h.0, cc)) (front_told front bytes)
  | inr other ↦ inr (λ h. let e = h.1 in other (cc))
]

-- an index below a limit stands at the front
abbrev HasIndexBelow : ℕ → List ℕ → Type 0
HasIndexBelow limit bytes = (index : ℕ) × (index < limit) × HasFront (bracketed index) bytes

index_below : (limit : ℕ) (bytes : List ℕ) → IsTold (HasIndexBelow limit bytes)
index_below zero bytes = inr (λ h. let none = h.1 in absurd (omega arith))
index_below (suc limit) bytes = elim (front_told (bracketed limit) bytes) [
  | inl here ↦ inl (limit, omega arith, here)
  | inr other ↦ elim (index_below limit bytes) [
    | inl less ↦ inl (less.0, (let small = less.1 in omega arith), less.2)
    | inr none ↦ inr (λ h. elim (cases_eq h.0 limit) [
      | inl same ↦ other (subst (λ k. HasFront (bracketed k) bytes) same h.2)
      | inr apart ↦ none (h.0, (let small = h.1 in omega arith), h.2)
    ])
  ]
]

index_told : (bytes : List ℕ) → ((more : List ℕ) × IsBehindIndex bytes more) ⊎ HasNoIndex bytes
index_told bytes = elim (index_below 64 bytes) [
  | inl h ↦ inl (h.2.0, (h.0, h.1, h.2.1))
  | inr none ↦ inr (λ index more small e. none (index, small, (more, e)))
]

some_bytes : (b : ℕ) (bs : List ℕ) → b ∷ bs ≢ []
some_bytes b bs e = cc

indices_told : (rest : List ℕ) → IsTold (AreIndices rest)
indices_told [] = inl (no_indices [] refl)
indices_told (b ∷ bs) = elim (index_told (b ∷ bs)) [
  | inl first ↦ after_one first.0 first.1
  | inr none ↦ inr (not_none (b ∷ bs) (some_bytes b bs) none)
]
  where
    after_two : (more end : List ℕ) → IsBehindIndex (b ∷ bs) more → IsBehindIndex more end → IsTold (AreIndices (b ∷ bs))
    after_two more [] at next = inl (two_indices (b ∷ bs) more [] at next refl)
    after_two more (c ∷ cs) at next = inr (not_two (b ∷ bs) more (c ∷ cs) at next (some_bytes c cs))

    after_one : (more : List ℕ) → IsBehindIndex (b ∷ bs) more → IsTold (AreIndices (b ∷ bs))
    after_one [] at = inl (one_index (b ∷ bs) [] at refl)
    after_one (c ∷ cs) at = elim (index_told (c ∷ cs)) [
      | inl next ↦ after_two (c ∷ cs) next.0 at next.1
      | inr none ↦ inr (not_one (b ∷ bs) (c ∷ cs) at (some_bytes c cs) none)
    ]

name_told : (bytes : List ℕ) → IsTold (IsName bytes)
name_told bytes =
    told_as (λ h. record { utf8 = IsUtf8-from_is_utf8 bytes h.0; word = h.1.0; short = h.1.1 }) (λ n. (is_utf8-from_IsUtf8 bytes n.utf8, (n.word, n.short)))
    (both_told (test_told (is_utf8 bytes)) (both_told (test_told (is_word (chars bytes))) (most_told (length bytes) 64)))

label_told : (label : List ℕ) → IsTold (IsLabel label)
label_told label =
    let cut = cut_exists 91 label in
    told_as (λ h. record { name = cut.0; rest = cut.1; name_is = h.0; indices = h.1; split = cut.2.split }) (label_parts label cut.0 cut.1 cut.2)
    (both_told (name_told cut.0) (indices_told cut.1))

-- ---- items

source_told : (a : Source) → IsTold (IsSource 64 a)
source_told (Slot k) = less_told k 64
source_told (Const z) = inl tt

zero_told : (a : Source) → IsTold (IsZero a)
zero_told (Slot k) = inr (λ e. absurd (cc))
zero_told (Const z) = told_as (λ e. ap Const e) (λ e. cc) (by_test _ (Decides-int_eq z (pos 0)))

constant_told : (a : Source) → IsTold (IsConstant a)
constant_told (Slot k) = inr (λ h. h)
constant_told (Const z) = inl tt

small_told : (a : Source) → IsTold (HasSmallConstant a)
small_told (Slot k) = inl tt
small_told (Const z) = told_as (λ h. record { sfits = h }) (λ h. h.sfits) (less_told (mag z) (2 ^ 63))

no_input_told : (op : Op) → IsTold (op ≢ Input)
no_input_told Input = inr (λ ne. ne refl)
no_input_told _ = inl (λ e. absurd (cc))

set_told : (op : Op) (args : List Source) → IsTold (op ≡ Set → All IsConstant (take (arity_of op) args))
set_told Set args = told_as (λ h e. h) (λ h. h refl) (all_told IsConstant constant_told (take 1 args))
set_told _ args = inl (λ e. absurd (cc))

apply_told : (op : Op) (s : ℕ) (args : List Source) → IsTold (IsApply 64 op s args)
apply_told op s args =
    told_as (λ h. record { no_input = h.0; within = h.1.0; three = h.1.1.0; operands = h.1.1.1.0; rest = h.1.1.1.1.0; set_constant = h.1.1.1.1.1 })
    (λ h. (h.no_input, (h.within, (h.three, (h.operands, (h.rest, h.set_constant))))))
    (both_told (no_input_told op) (both_told (less_told s 64) (both_told (cases_eq (length args) 3)
    (both_told (all_told (IsSource 64) source_told args) (both_told (all_told IsZero zero_told (drop (arity_of op) args)) (set_told op args))))))

instr_told : (i : Instr) → IsTold (IsInstr 64 256 i)
instr_told (Load s a) = both_told (less_told s 64) (less_told a 256)
instr_told (Store s a) = both_told (less_told s 64) (less_told a 256)
instr_told (Apply op s args) = apply_told op s args

constants_told : (i : Instr) → IsTold (HasSmallConstants i)
constants_told (Load s a) = inl tt
constants_told (Store s a) = inl tt
constants_told (Apply op s args) = all_told HasSmallConstant small_told args

item_told : (i : Item) → IsTold (IsItem i)
item_told (Slots n) = most_told n 64
item_told (Words n) = most_told n 256
item_told (In label) = label_told label
item_told (Out o) = both_told (label_told o.label) (less_told o.word 256)
item_told (Do i) = both_told (instr_told i) (constants_told i)
item_told End = inl tt

abbrev SaysItem : List ℕ → Type 0
SaysItem text = (i : Item) × IsItem i × (text ≡ spelled i)

-- the only item that a line could say, where it says it
by_guess : (text : List ℕ) (r : Option Item) → guess text ≡ r → IsTold (SaysItem text)
by_guess text None e = inr (λ h. let back : Some h.0 ≡ None = sym (item_back h.0 h.1) ∙ ap guess (sym h.2) ∙ e in absurd (cc))
by_guess text (Some j) e = told_as (λ h. (j, h.0, h.1)) only (both_told (item_told j) (by_test (bytes_eq text (spelled j)) (bytes_eq-Decides text (spelled j))))
  where
    only : SaysItem text → IsItem j × (text ≡ spelled j)
    only h =
        let back : Some h.0 ≡ Some j = sym (item_back h.0 h.1) ∙ ap guess (sym h.2) ∙ e in
        let same : h.0 ≡ j = cc in
        (subst IsItem same h.1, h.2 ∙ ap spelled same)

-- ---- steps

abbrev MayCome : Stage → CodeParts → Item → Type 0
MayCome stage c i = (t : State) × Takes stage c i t

slots_told : (stage : Stage) (c : CodeParts) (n : ℕ) → n ≤ 64 → IsTold (MayCome stage c (Slots n))
slots_told Fresh c n small = told_as (λ h. (record { stage = Sized; code = with_slots c n }, (h, small, refl))) (λ h. h.1.0) (less_told 0 n)
slots_told _ c n small = inr (λ h. h.1)

words_told : (stage : Stage) (c : CodeParts) (n : ℕ) → n ≤ 256 → IsTold (MayCome stage c (Words n))
words_told Sized c n small = inl (record { stage = Inputs; code = with_words c n }, (small, refl))
words_told _ c n small = inr (λ h. h.1)

input_told : (stage : Stage) (c : CodeParts) (label : List ℕ) → IsLabel label → IsTold (MayCome stage c (In label))
input_told Inputs c label is = told_as (λ h. (record { stage = Inputs; code = with_input c label }, (h, is, refl))) (λ h. h.1.0) (less_told (length c.inputs) c.words)
input_told _ c label is = inr (λ h. h.1)

output_told : (stage : Stage) (c : CodeParts) (o : OutWord) → IsLabel o.label → IsTold (MayCome stage c (Out o))
output_told stage c o is =
    let t : State = record { stage = Outputs; code = with_output c o } in
    told_as (λ h. (t, takes_output stage c o t h.0 (h.1, is, refl))) (λ h. let taken = output_taken stage c o h.0 h.1 in (taken.0, taken.1.0))
    (both_told (test_told (takes_outputs stage)) (less_told o.word c.words))

do_told : (stage : Stage) (c : CodeParts) (i : Instr) → IsItem (Do i) → IsTold (MayCome stage c (Do i))
do_told stage c i is =
    let t : State = record { stage = Instructions; code = with_instr c i } in
    told_as (λ h. (t, takes_instr stage c i t h.0 (places_named c.slots c.words i is.0 h.1, is.1, refl)))
    (λ h. let taken = instr_taken stage c i h.0 h.1 in (taken.0, named_places c.slots c.words i taken.1.0))
    (both_told (test_told (takes_instructions stage)) (test_told (has_places c.slots c.words i)))

end_told : (stage : Stage) (c : CodeParts) → IsTold (MayCome stage c End)
end_told stage c =
    let t : State = record { stage = Done; code = c } in
    told_as (λ h. (t, takes_end stage c t h refl)) (λ h. end_taken stage c h.0 h.1) (test_told (takes_instructions stage))

may_come_told : (stage : Stage) (c : CodeParts) (i : Item) → IsItem i → IsTold (MayCome stage c i)
may_come_told stage c (Slots n) is = slots_told stage c n is
may_come_told stage c (Words n) is = words_told stage c n is
may_come_told stage c (In label) is = input_told stage c label is
may_come_told stage c (Out o) is = output_told stage c o is.0
may_come_told stage c (Do i) is = do_told stage c i is
may_come_told stage c End is = end_told stage c

step_told : (s : State) (text : List ℕ) → ((t : State) × Step s text t) ⊎ ((t : State) → Step s text t → ⊥)
step_told s text = elim (by_guess text (guess text) refl) [
  | inl said ↦ elim (may_come_told s.stage s.code said.0 said.1) [
    | inl may ↦ inl (may.0, (said.0, said.1, said.2, may.1))
    | inr never ↦ inr (λ t step. never (t, other said step.0 step.1 step.2 t step.3))
  ]
  | inr none ↦ inr (λ t step. none (step.0, step.1, step.2))
]
  where
    other : (said : SaysItem text) (i : Item) → IsItem i → text ≡ spelled i → (t : State) → Takes s.stage s.code i t → Takes s.stage s.code said.0 t
    other said i is e t h = subst (λ j. Takes s.stage s.code j t) (one_item i said.0 is said.1 (sym e ∙ said.2)) h

end_or_not : (s : State) → IsTold (Ends s)
end_or_not s = at_stage s.stage
  where
    at_stage : (stage : Stage) → IsTold (stage ≡ Done)
    at_stage Done = inl refl
    at_stage _ = inr (λ e. absurd (cc))

pub always_one : AlwaysOne
always_one text = elim (reading.some_answer AreCodeLines State start Step Ends reader step_told end_or_not text) [
  | inl h ↦ inl (h.2.0, (h.2.1, subst (HasLines text) h.2.2 h.1))
  | inr bad ↦ inr bad
]
