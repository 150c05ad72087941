-- The parts of a text between its spaces, and the numbers that they spell: they are the numbers of the text.
use Rattle.std.proofs.Common.{◌≡◌, ℕ, ℤ, ◌+◌, ◌<◌, true, false, List, [], ◌∷◌, ◌++◌, length, drop, get_or, Option, Some, None, refl, sym, ap, ◌∙◌, subst, ⊎_elim, append_assoc, append-nil, arith}
use Rattle.std.specs.List.{list_all, All, slice_split, onto_first}
use Rattle.std.proofs.lemmas.Bool.{and_parts, and_from, cases_Bool}
use Rattle.std.proofs.lemmas.List.{at_drop_more, at_drop_all}
use Rattle.std.proofs.lemmas.List.Splits.{slice_split-cons_yes, slice_split-cons_no, slice_split_none, slice_split_at, length-slice_split}
use Rattle.values_text.specs.Numbers.{number_of}
use Rattle.values_text.specs.Values.{is_space, EndsWord, Spells, SpellsOneList}
use Rattle.values_text.proofs.NumberLaws.{number_is_word}

-- a number before others
abbrev pub before : Option ℤ → Option (List ℤ) → Option (List ℤ)
before (Some value) (Some values) = Some (value ∷ values)
before (Some value) None = None
before None others = None

-- numbers that were found before others
abbrev pub behind : List ℤ → Option (List ℤ) → Option (List ℤ)
behind found (Some values) = Some (found ++ values)
behind found None = None

-- the numbers that parts spell, where the empty ones are passed over
abbrev pub numbers_of : List (List ℕ) → Option (List ℤ)
numbers_of [] = Some []
numbers_of ([] ∷ parts) = numbers_of parts
numbers_of ((c ∷ cs) ∷ parts) = before (number_of (c ∷ cs)) (numbers_of parts)

-- how a text goes on behind its first part: it ends, or a space comes and the text of the other parts
abbrev GoesOn : List ℕ → List (List ℕ) → Type 0
GoesOn rest [] = rest ≡ []
GoesOn rest (part ∷ parts) = (c : ℕ) × (more : List ℕ) × (rest ≡ c ∷ more) × (is_space c ≡ true) × (slice_split is_space more ≡ part ∷ parts)

record BeginsPart (text word : List ℕ) (parts : List (List ℕ)) : Type 0 where
  rest : List ℕ
  split : text ≡ word ++ rest
  goes_on : GoesOn rest parts

split_some : (text : List ℕ) → slice_split is_space text ≡ [] → ⊥
split_some text e =
    let many = length-slice_split is_space text in
    let none : length (slice_split is_space text) ≡ 0 = ap length e in
    omega arith

-- what `onto_first` put a byte before
onto_first_parts : (c : ℕ) (all : List (List ℕ)) (word : List ℕ) (parts : List (List ℕ)) → (all ≡ [] → ⊥) → onto_first c all ≡ word ∷ parts → (front : List ℕ) × (all ≡ front ∷ parts) × (c ∷ front ≡ word)
onto_first_parts c [] word parts some e = absurd (some refl)
onto_first_parts c (front ∷ others) word parts some e =
    let same : others ≡ parts = cc in
    let first : c ∷ front ≡ word = cc in
    (front, ap (λ z. front ∷ z) same, first)

space_goes_on : (c : ℕ) (cs : List ℕ) (parts : List (List ℕ)) → is_space c ≡ true → slice_split is_space cs ≡ parts → GoesOn (c ∷ cs) parts
space_goes_on c cs [] space e = absurd (split_some cs e)
space_goes_on c cs (part ∷ parts) space e = (c, cs, refl, space, e)

begins_part : (text word : List ℕ) (parts : List (List ℕ)) → slice_split is_space text ≡ word ∷ parts → BeginsPart text word parts
begins_part [] word parts e =
    let none : [] ≡ parts = cc in
    let empty : [] ≡ word = cc in
    record { rest = []; split = empty ∙ sym (append-nil word); goes_on = subst (GoesOn []) none refl }
begins_part (c ∷ cs) word parts e = ⊎_elim
    (λ space.
    let cut : [] ∷ slice_split is_space cs ≡ word ∷ parts = sym (slice_split-cons_yes is_space c cs space) ∙ e in
    let others : slice_split is_space cs ≡ parts = cc in
    let empty : [] ≡ word = cc in
    record { rest = c ∷ cs; split = ap (λ z. z ++ c ∷ cs) empty; goes_on = space_goes_on c cs parts space others })
    (λ none.
    let cut = onto_first_parts c (slice_split is_space cs) word parts (split_some cs) (sym (slice_split-cons_no is_space c cs none) ∙ e) in
    let more = begins_part cs cut.0 parts cut.1 in
    record { rest = more.rest; split = ap (λ z. c ∷ z) more.split ∙ ap (λ z. z ++ more.rest) cut.2; goes_on = more.goes_on })
    (cases_Bool (is_space c))

-- ---- from the parts to the text

space_before : (c : ℕ) (text : List ℕ) (values : List ℤ) → is_space c ≡ true → Spells text values → Spells (c ∷ text) values
space_before c text [] space s = and_from _ _ space s
space_before c text (value ∷ values) space s =
    let b = s.1 in
    (s.0, record { gap = c ∷ b.gap; word = b.word; split = ap (λ z. c ∷ z) b.split; spaces = and_from _ _ space b.spaces; number = b.number; ends = b.ends }, s.2)

ends_word : (rest : List ℕ) (parts : List (List ℕ)) → GoesOn rest parts → EndsWord rest
ends_word rest [] g = subst EndsWord (sym g) tt
ends_word rest (part ∷ parts) g = subst EndsWord (sym g.2) g.3

before_parts : (first : Option ℤ) (others : Option (List ℤ)) (values : List ℤ) → before first others ≡ Some values → (z : ℤ) × (zs : List ℤ) × (first ≡ Some z) × (others ≡ Some zs) × (z ∷ zs ≡ values)
before_parts (Some z) (Some zs) values e = let same : z ∷ zs ≡ values = cc in (z, zs, refl, refl, same)
before_parts (Some z) None values e = absurd (cc)
before_parts None others values e = absurd (cc)

-- a text spells what its first part and the rest spell
part_spells : (text word rest : List ℕ) (parts : List (List ℕ)) (values : List ℤ) → text ≡ word ++ rest → EndsWord rest → ((others : List ℤ) → numbers_of parts ≡ Some others → Spells rest others) → numbers_of (word ∷ parts) ≡ Some values → Spells text values
part_spells text [] rest parts values split ends later n = subst (λ z. Spells z values) (sym split) (later values n)
part_spells text (c ∷ cs) rest parts values split ends later n =
    let b = before_parts (number_of (c ∷ cs)) (numbers_of parts) values n in
    subst (Spells text) b.4 (rest, record { gap = []; word = c ∷ cs; split = split; spaces = refl; number = b.2; ends = ends }, later b.1 b.3)

last_spells : (rest : List ℕ) (others : List ℤ) → rest ≡ [] → numbers_of [] ≡ Some others → Spells rest others
last_spells rest others e n = let none : [] ≡ others = cc in subst (Spells rest) none (subst (λ z. Spells z []) (sym e) refl)

pub sound : (parts : List (List ℕ)) (text : List ℕ) (values : List ℤ) → slice_split is_space text ≡ parts → numbers_of parts ≡ Some values → Spells text values
sound [] text values e n = absurd (split_some text e)
sound (word ∷ []) text values e n =
    let b = begins_part text word [] e in
    part_spells text word b.rest [] values b.split (ends_word b.rest [] b.goes_on) (λ others m. last_spells b.rest others b.goes_on m) n
sound (word ∷ part ∷ parts) text values e n =
    let b = begins_part text word (part ∷ parts) e in
    let g = b.goes_on in
    part_spells text word b.rest (part ∷ parts) values b.split (ends_word b.rest (part ∷ parts) g)
    (λ others m. subst (λ z. Spells z others) (sym g.2) (space_before g.0 g.1 others g.3 (sound (part ∷ parts) g.1 others g.4 m))) n

-- ---- from the text to the parts

gap_passed : (gap text : List ℕ) → list_all is_space gap ≡ true → numbers_of (slice_split is_space (gap ++ text)) ≡ numbers_of (slice_split is_space text)
gap_passed [] text s = refl
gap_passed (c ∷ gap) text s =
    let both = and_parts (is_space c) (list_all is_space gap) s in
    ap numbers_of (slice_split-cons_yes is_space c (gap ++ text) both.0) ∙ gap_passed gap text both.1

word_first : (word : List ℕ) (parts : List (List ℕ)) → 0 < length word → numbers_of (word ∷ parts) ≡ before (number_of word) (numbers_of parts)
word_first [] parts some = absurd (omega arith)
word_first (c ∷ cs) parts some = refl

word_passed : (word rest : List ℕ) → All (λ c. is_space c ≡ false) word → 0 < length word → EndsWord rest → numbers_of (slice_split is_space (word ++ rest)) ≡ before (number_of word) (numbers_of (slice_split is_space rest))
word_passed word [] all some ends = ap (λ z. numbers_of (slice_split is_space z)) (append-nil word) ∙ ap numbers_of (slice_split_none is_space word all) ∙ word_first word [] some
word_passed word (c ∷ more) all some ends = ap numbers_of (slice_split_at is_space word c more all ends) ∙ word_first word (slice_split is_space more) some ∙ ap (λ z. before (number_of word) (numbers_of z)) (sym (slice_split-cons_yes is_space c more ends))

pub complete : (values : List ℤ) (text : List ℕ) → Spells text values → numbers_of (slice_split is_space text) ≡ Some values
complete [] text s = ap (λ z. numbers_of (slice_split is_space z)) (sym (append-nil text)) ∙ gap_passed text [] s
complete (value ∷ values) text s =
    let b = s.1 in
    let word = number_is_word b.word value b.number in
    ap (λ z. numbers_of (slice_split is_space z)) b.split ∙ gap_passed b.gap (b.word ++ s.0) b.spaces ∙ word_passed b.word s.0 word.0 word.1 b.ends
    ∙ ap (λ z. before z (numbers_of (slice_split is_space s.0))) b.number ∙ ap (before (Some value)) (complete values s.0 s.2)

some_same : (a b : List ℤ) → Some a ≡ Some b → a ≡ b
some_same a b e = cc

pub one_list : SpellsOneList
one_list text a b p q = some_same a b (sym (complete a text p) ∙ complete b text q)

-- ---- a loop over the parts

behind_none : (others : Option (List ℤ)) → behind [] others ≡ others
behind_none (Some values) = refl
behind_none None = refl

pub behind_first : (all : List (List ℕ)) → behind [] (numbers_of (drop 0 all)) ≡ numbers_of all
behind_first all = behind_none (numbers_of all)

-- the next part, and then those behind it
turn : (all : List (List ℕ)) (n : ℕ) (word : List ℕ) → (n < length all) × (word ≡ get_or all n word) → numbers_of (drop n all) ≡ numbers_of (word ∷ drop (n + 1) all)
turn all n word h = at_drop_more numbers_of all n word h.0 ∙ ap (λ z. numbers_of (z ∷ drop (n + 1) all)) (sym h.1)

empty_first : (word : List ℕ) (parts : List (List ℕ)) → length word ≡ 0 → numbers_of (word ∷ parts) ≡ numbers_of parts
empty_first [] parts e = refl
empty_first (c ∷ cs) parts e = absurd (omega arith)

pub turn_empty : (all : List (List ℕ)) (n m : ℕ) (word : List ℕ) (found : List ℤ) → (n < length all) × (word ≡ get_or all n word) → m ≡ n + 1 → length word ≡ 0
    → behind found (numbers_of (drop n all)) ≡ numbers_of all → behind found (numbers_of (drop m all)) ≡ numbers_of all
turn_empty all n m word found h next empty e =
    ap (λ z. behind found (numbers_of (drop z all))) next ∙ ap (behind found) (sym (turn all n word h ∙ empty_first word (drop (n + 1) all) empty)) ∙ e

behind_before : (found : List ℤ) (value : ℤ) (others : Option (List ℤ)) → behind found (before (Some value) others) ≡ behind (found ++ value ∷ []) others
behind_before found value (Some values) = ap Some (sym (append_assoc found (value ∷ []) values))
behind_before found value None = refl

pub turn_value : (all : List (List ℕ)) (n m : ℕ) (word : List ℕ) (found : List ℤ) (value : ℤ) → (n < length all) × (word ≡ get_or all n word) → m ≡ n + 1 → 0 < length word → number_of word ≡ Some value
    → behind found (numbers_of (drop n all)) ≡ numbers_of all → behind (found ++ value ∷ []) (numbers_of (drop m all)) ≡ numbers_of all
turn_value all n m word found value h next some number e =
    ap (λ z. behind (found ++ value ∷ []) (numbers_of (drop z all))) next ∙ sym (behind_before found value (numbers_of (drop (n + 1) all)))
    ∙ ap (λ z. behind found (before z (numbers_of (drop (n + 1) all)))) (sym number) ∙ ap (behind found) (sym (turn all n word h ∙ word_first word (drop (n + 1) all) some)) ∙ e

pub turn_none : (text : List ℕ) (n : ℕ) (word : List ℕ) (found : List ℤ) → let all = slice_split is_space text in (n < length all) × (word ≡ get_or all n word) → 0 < length word → number_of word ≡ None
    → behind found (numbers_of (drop n all)) ≡ numbers_of all → (values : List ℤ) → Spells text values → ⊥
turn_none text n word found h some number e values s =
    let all = slice_split is_space text in
    let here = turn all n word h ∙ word_first word (drop (n + 1) all) some ∙ ap (λ z. before z (numbers_of (drop (n + 1) all))) number in
    let clash : None ≡ Some values = ap (behind found) (sym here) ∙ e ∙ complete values text s in
    absurd (cc)

-- all parts were gone through
pub turns_end : (text : List ℕ) (n : ℕ) (found : List ℤ) → let all = slice_split is_space text in n ≡ length all → behind found (numbers_of (drop n all)) ≡ numbers_of all → Spells text found
turns_end text n found e is =
    let all = slice_split is_space text in
    let none : numbers_of (drop n all) ≡ Some [] = at_drop_all numbers_of all n (omega arith) in
    let whole : numbers_of all ≡ Some found = sym is ∙ ap (behind found) none ∙ ap Some (append-nil found) in
    sound all text found refl whole
