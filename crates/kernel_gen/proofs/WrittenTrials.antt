-- The text of a trial kernel is written as the grammar says.
use Rattle.std.proofs.Common.{◌≡◌, ℕ, zero, suc, ◌+◌, ◌-◌, ◌*◌, ◌/◌, ◌%◌, ◌≤◌, ◌<◌, Bool, true, false, cond, ltb, List, [], ◌∷◌, ◌++◌, length, nat_eq, codes, decimal, refl, sym, ap, ◌∙◌, subst, arith, append-nil, length-append}
use Rattle.std.specs.Str.{chars}
use Rattle.std.proofs.lemmas.Fmt.{length-decimal-le}
use Rattle.std.proofs.lemmas.Str.{chars_from_encodes, encodes-IsAscii, IsUtf8-from_ascii}
use Rattle.kernel_lexer.specs.Spelling.{Text, bytes}
use Rattle.kernel_lexer.specs.Lexing.{AreTokens}
use Rattle.kernel_lexer.specs.Texts.{AreTextTokens}
use Rattle.kernel_parser.specs.KernelTexts.{IsWritten}
use Rattle.kernel_gen.specs.Trials.{left_operand, operator, trial_kernel}
use Rattle.kernel_gen.proofs.Pieces.{AreSpelled, Piece, is_plain, lexed, plain_ascii, plain_bytes, spell, spell_plain, spelled, tokens}
use Rattle.kernel_gen.proofs.TrialPieces.{assign, body_pieces, close_brace, element_pieces, heading_pieces, input_pieces, left_below, operator_piece, output_pieces, semicolon, space, line_feed, statement_pieces, temporary_pieces, text_spelled, trial_fits, trial_pieces, value_pieces}
use Rattle.kernel_gen.proofs.ReadTrials.{trial_raw, trial_read}

-- ---- how long the text is

-- how many characters pieces have
abbrev size : List Piece → ℕ
size [] = 0
size (p ∷ ps) = length p.gap + (length p.word + size ps)

size-append : (ps qs : List Piece) → size (ps ++ qs) ≡ size ps + size qs
size-append [] qs = omega arith
size-append (p ∷ ps) qs = omega (arith, size-append ps qs)

spell_size : (ps : List Piece) (rest : Text) → length (spell ps rest) ≡ size ps + length rest
spell_size [] rest = omega arith
spell_size (p ∷ ps) rest = omega (arith, length-append p.gap (p.word ++ spell ps rest), length-append p.word (spell ps rest), spell_size ps rest)

few_digits : (n : ℕ) → n < 1000 → length (decimal n) ≤ 3
few_digits n h = length-decimal-le 3 n (omega arith) (omega arith) (omega arith)

element_size : (gap : Text) (j : ℕ) → j < 1000 → size (element_pieces gap j) ≤ length gap + 11
element_size gap j h = step (ltb j 16)
  where
    step : (b : Bool) → size (cond b (input_pieces gap j) (temporary_pieces gap (j - 16))) ≤ length gap + 11
    step true = omega (arith, few_digits j h)
    step false = omega (arith, few_digits ((j - 16) % 64) (omega arith), few_digits ((j - 16) / 64) (omega arith))

operator_size : (i : ℕ) → length (operator i) ≤ 1
operator_size i = step (nat_eq (i % 2) 0)
  where
    step : (b : Bool) → length {A = ℕ} (cond b (codes "+") (codes "*")) ≤ 1
    step true = omega arith
    step false = omega arith

statement_size : (n i : ℕ) → i < 900 → size (statement_pieces n i) ≤ 60
statement_size n i h =
    let x = left_below n i in
    let more = operator_piece i ∷ (element_pieces space (15 + i) ++ (semicolon ∷ [])) in
    omega (
      arith,
      size-append (element_pieces line_feed (16 + i)) (assign ∷ value_pieces n i),
      size-append (element_pieces space (left_operand n i)) more,
      size-append (element_pieces space (15 + i)) (semicolon ∷ []),
      element_size line_feed (16 + i) (omega arith),
      element_size space (left_operand n i) (omega arith),
      element_size space (15 + i) (omega arith),
      operator_size i,
    )

output_size : (n : ℕ) → n ≤ 200 → size (output_pieces n) ≤ 60
output_size n h = omega (arith, size-append (element_pieces space (15 + n)) (semicolon ∷ []), element_size space (15 + n) (omega arith))

body_size : (n i more : ℕ) → n ≤ 200 → i + more < 900 → size (body_pieces n i more) ≤ 60 * more + 60
body_size n i zero h k = omega (arith, output_size n h)
body_size n i (suc more) h k =
    omega (arith, size-append (statement_pieces n i) (body_pieces n (i + 1) more), statement_size n i (omega arith), body_size n (i + 1) more h (omega arith))

heading_size : size heading_pieces ≤ 100
heading_size = omega arith

text_size : (n : ℕ) → n ≤ 200 → length (trial_kernel n) ≤ 65536
text_size n h =
    omega (
      arith,
      ap length (text_spelled n),
      spell_size (trial_pieces n) (10 ∷ []),
      size-append heading_pieces (body_pieces n 0 n ++ (close_brace ∷ [])),
      size-append (body_pieces n 0 n) (close_brace ∷ []),
      body_size n 0 n h (omega arith),
      heading_size,
    )

-- ---- the tokens of the text

text_plain : (n : ℕ) → n ≤ 200 → is_plain (trial_kernel n) ≡ true
text_plain n h = subst (λ z. is_plain z ≡ true) (text_spelled n) (spell_plain (trial_pieces n) (10 ∷ []) (trial_fits n h) refl)

text_tokens : (n : ℕ) → n ≤ 200 → AreTextTokens (trial_kernel n) (tokens 0 (trial_pieces n))
text_tokens n h =
    let text = trial_kernel n in
    let ts = tokens 0 (trial_pieces n) in
    let p = text_plain n h in
    let ascii = plain_ascii text p in
    let utf8 = IsUtf8-from_ascii text ascii in
    let same : text ≡ chars text = chars_from_encodes text text utf8 (encodes-IsAscii text ascii) in
    let end : 0 + bytes (spell (trial_pieces n) (10 ∷ [])) ≡ length text = omega (arith, ap bytes (text_spelled n), plain_bytes text p) in
    let l : AreTokens (length text) (spell (trial_pieces n) (10 ∷ [])) (ts ++ []) = lexed (length text) 0 (trial_pieces n) (10 ∷ []) [] (trial_fits n h) end refl in
    (utf8, subst (λ z. AreTokens (length text) z ts) (text_spelled n ∙ same) (subst (AreTokens (length text) (spell (trial_pieces n) (10 ∷ []))) (append-nil ts) l))

pub trial_written : (n : ℕ) → n ≤ 200 → IsWritten (trial_kernel n) (tokens 0 (trial_pieces n)) (trial_raw n)
trial_written n h = record { short = text_size n h; spelled = text_tokens n h; read = trial_read n }

-- each token's span holds what it was made of
pub trial_spelled : (n : ℕ) → n ≤ 200 → AreSpelled (trial_kernel n) 0 (trial_pieces n)
trial_spelled n h = spelled (trial_kernel n) [] 0 (trial_pieces n) (10 ∷ []) (sym (text_spelled n)) refl (trial_fits n h)
