-- What the parser of std reads of a word is the number that it spells, and a word that spells a number has no space.
use Rattle.std.proofs.Common.{◌≡◌, ℕ, ℤ, zero, suc, ◌+◌, ◌-◌, ◌*◌, ◌<◌, ◌≤◌, ◌^◌, Bool, true, false, cond, eqb, List, [], ◌∷◌, length, pos, Some, None, Result, Ok, Err, refl, sym, ap, ◌∙◌, subst, ⊎_elim, arith, rules}
use Rattle.std.specs.Prelude.{not, neg_ℤ, fold}
use Rattle.std.specs.Char.{is_ascii_digit}
use Rattle.std.specs.List.{list_all, All}
use Rattle.std.specs.Result.{OkIff, result_ok}
use Rattle.std.specs.Int.{w64}
use Rattle.std.specs.Str.{IsUtf8, IsAscii}
use Rattle.std.specs.Str.Parse.{ParsesSigned}
use Rattle.std.proofs.lemmas.Bool.{and_parts, and_from, leb-true, le-leb, ltb-true, lt-ltb, eqb-true, eqb-false, ne_eqb, cases_Bool, cond-true, cond-false}
use Rattle.std.proofs.lemmas.Bool.Decides.{nat_tests}
use Rattle.std.proofs.lemmas.Str.{IsUtf8-from_ascii}
use Rattle.std.proofs.lemmas.Str.Parse.{IsNumeralModel, numerals_by_fold, parse_signed_minus, parse_signed_plain}
use Rattle.std.proofs.lemmas.Fmt.{IsAscii-from_digits}
use Rattle.values_text.specs.Numbers.{are_digits, value_of, number_of, negative_of, positive_of, without_sign}
use Rattle.values_text.specs.Values.{is_space}
use Rattle.std.proofs.lemmas.List.Elements.{All-nil, All-cons}

own : IsNumeralModel (λ ds. list_all is_ascii_digit ds ≡ true) value_of
own = numerals_by_fold _ (search rules) (fold (λ n c. 10 * n + (c - 48))) (search rules)

-- a result that is Ok exactly where a test holds
from_test : {E : Type 0} (r : Result ℤ E) (P : Type 0) (z : ℤ) (b : Bool) → OkIff r P z → (b ≡ true → P) → (P → b ≡ true) → result_ok r ≡ cond b (Some z) None
from_test (Ok x) P z true ok to from = ap Some ok.1
from_test (Ok x) P z false ok to from = let e : false ≡ true = from ok.0 in absurd (cc)
from_test (Err e) P z true ok to from = absurd (ok (to refl))
from_test (Err e) P z false ok to from = refl

-- digits are some
digits_some : (ds : List ℕ) → are_digits ds ≡ true → (list_all is_ascii_digit ds ≡ true) × (0 < length ds)
digits_some [] d = absurd (cc)
digits_some (c ∷ cs) d = ((and_parts _ _ d).1, omega arith)

digits_from : (ds : List ℕ) → list_all is_ascii_digit ds ≡ true → 0 < length ds → are_digits ds ≡ true
digits_from [] d some = absurd (omega arith)
digits_from (c ∷ cs) d some =
    let filled : eqb (length (c ∷ cs)) 0 ≡ false = ne_eqb _ 0 (λ e. omega arith) in
    and_from _ _ (ap not filled) d

ascii_cons : (c : ℕ) (cs : List ℕ) → c < 128 → IsAscii cs → IsAscii (c ∷ cs)
ascii_cons c cs small ascii zero = small
ascii_cons c cs small ascii (suc i) = ascii i

pub digits_utf8 : (word : List ℕ) → are_digits (without_sign word) ≡ true → IsUtf8 word
digits_utf8 [] d = absurd (cc)
digits_utf8 (c ∷ cs) d = ⊎_elim
    (λ minus. let e = subst (λ b. are_digits (cond b cs (c ∷ cs)) ≡ true) minus d in
    let is : c ≡ 45 = eqb-true c 45 minus in
    IsUtf8-from_ascii _ (ascii_cons c cs (omega arith) (IsAscii-from_digits cs (own.to cs (digits_some cs e).0))))
    (λ plain. let e = subst (λ b. are_digits (cond b cs (c ∷ cs)) ≡ true) plain d in
    IsUtf8-from_ascii _ (IsAscii-from_digits (c ∷ cs) (own.to (c ∷ cs) (digits_some (c ∷ cs) e).0)))
    (cases_Bool (eqb c 45))

minus_parsed : {E : Type 0} (digits : List ℕ) (r : Result ℤ E) → OkIff r ((list_all is_ascii_digit digits ≡ true) × (0 < length digits) × (value_of digits ≤ 2 ^ 63)) (neg_ℤ (pos (value_of digits))) → result_ok r ≡ negative_of digits
minus_parsed digits r ok = from_test r _ _ _ ok
    (λ b. let both = and_parts _ _ b in let d = digits_some digits both.0 in (d.0, d.1, leb-true _ _ both.1))
    (λ p. and_from _ _ (digits_from digits p.0 p.1) (le-leb _ _ p.2))

plain_parsed : {E : Type 0} (digits : List ℕ) (r : Result ℤ E) → OkIff r ((list_all is_ascii_digit digits ≡ true) × (0 < length digits) × (value_of digits < 2 ^ 63)) (pos (value_of digits)) → result_ok r ≡ positive_of digits
plain_parsed digits r ok = from_test r _ _ _ ok
    (λ b. let both = and_parts _ _ b in let d = digits_some digits both.0 in (d.0, d.1, ltb-true _ _ both.1))
    (λ p. and_from _ _ (digits_from digits p.0 p.1) (lt-ltb _ _ p.2))

first_digit : (c : ℕ) (cs : List ℕ) → are_digits (c ∷ cs) ≡ true → 48 ≤ c
first_digit c cs d = let first = (and_parts (is_ascii_digit c) (list_all is_ascii_digit cs) (digits_some (c ∷ cs) d).0).0 in grind (arith, nat_tests)

pub number_parsed : {E : Type 0} (word : List ℕ) (r : Result ℤ E) → ParsesSigned w64 10 word r → are_digits (without_sign word) ≡ true → result_ok r ≡ number_of word
number_parsed [] r p d = absurd (cc)
number_parsed (c ∷ cs) r p d = ⊎_elim
    (λ minus. minus_parsed cs r (parse_signed_minus own w64 (c ∷ cs) r p (eqb-true c 45 minus)) ∙ sym (cond-true _ _ _ minus))
    (λ plain. let e = subst (λ b. are_digits (cond b cs (c ∷ cs)) ≡ true) plain d in
    let high = first_digit c cs e in
    let no_plus : c ≡ 43 → ⊥ = λ e. omega arith in
    plain_parsed (c ∷ cs) r (parse_signed_plain own w64 (c ∷ cs) r p no_plus (eqb-false c 45 plain)) ∙ sym (cond-false _ _ _ plain))
    (cases_Bool (eqb c 45))

digit_no_space : (c : ℕ) → is_ascii_digit c ≡ true → is_space c ≡ false
digit_no_space c d = grind (arith, nat_tests)

digits_no_space : (digits : List ℕ) → list_all is_ascii_digit digits ≡ true → All (λ c. is_space c ≡ false) digits
digits_no_space [] d = All-nil (λ c. is_space c ≡ false)
digits_no_space (c ∷ cs) d =
    let both = and_parts (is_ascii_digit c) (list_all is_ascii_digit cs) d in
    All-cons (λ c. is_space c ≡ false) c cs (digit_no_space c both.0) (digits_no_space cs both.1)

-- where a choice has an answer its test holds
chosen : (b : Bool) (z y : ℤ) → cond b (Some z) None ≡ Some y → b ≡ true
chosen true z y e = refl
chosen false z y e = absurd (cc)

-- a word that spells a number is some bytes, and none of them is a space
pub number_is_word : (word : List ℕ) (z : ℤ) → number_of word ≡ Some z → All (λ c. is_space c ≡ false) word × (0 < length word)
number_is_word [] z e = absurd (cc)
number_is_word (c ∷ cs) z e = ⊎_elim
    (λ minus.
    let digits = (and_parts (are_digits cs) _ (chosen _ _ z (sym (cond-true _ _ _ minus) ∙ e))).0 in
    let first : is_space c ≡ false = subst (λ x. is_space x ≡ false) (sym (eqb-true c 45 minus)) refl in
    (All-cons (λ x. is_space x ≡ false) c cs first (digits_no_space cs (digits_some cs digits).0), omega arith))
    (λ plain.
    let digits = (and_parts (are_digits (c ∷ cs)) _ (chosen _ _ z (sym (cond-false _ _ _ plain) ∙ e))).0 in
    (digits_no_space (c ∷ cs) (digits_some (c ∷ cs) digits).0, omega arith))
    (cases_Bool (eqb c 45))
