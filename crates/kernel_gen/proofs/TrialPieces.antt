-- The text of a trial kernel, piece by piece.
use Rattle.std.proofs.Common.{◌≡◌, ℕ, zero, suc, ◌+◌, ◌-◌, ◌/◌, ◌%◌, ◌^◌, ◌<◌, ◌≤◌, Bool, true, false, cond, eqb, ltb, List, [], ◌∷◌, ◌++◌, codes, decimal, pos, Some, refl, sym, ap, ◌∙◌, arith, append_assoc}
use Rattle.std.specs.List.{list_all}
use Rattle.unicode_ident.proofs.Computing.{unicode_ident}
use Rattle.kernel_lexer.specs.declared.token.Keyword.TheVariants as w
use Rattle.kernel_lexer.specs.declared.token.Mark.TheVariants as m
use Rattle.kernel_lexer.specs.declared.token.TokenKind.{TokenKind}
use Rattle.kernel_lexer.specs.declared.token.TokenKind.TheVariants as k
use Rattle.kernel_lexer.specs.Spelling.{Text, is_spelling, kind_of}
use Rattle.kernel_lexer.specs.Lexing.{is_space}
use Rattle.line_texts.specs.Lines.{ended}
use Rattle.kernel_gen.specs.Trials.{element, input, left_operand, operator, output, statement, statements, temporary, trial_kernel}
use Rattle.kernel_gen.proofs.Pieces.{AllFit, Fits, Piece, begins_token, ends_at, fit-append, is_plain, spell, spell-append}
use Rattle.kernel_gen.proofs.Decimals.{number, number_fits}

-- ---- pieces with known words

-- a piece with this word, and these spaces before it
abbrev pub piece : Text → Text → TokenKind → Piece
piece gap word kind = record { gap = gap; word = word; kind = kind }

abbrev pub space : Text
space = codes " "

abbrev pub line_feed : Text
line_feed = 10 ∷ []

abbrev pub open_bracket : Piece
open_bracket = piece [] (codes "[") (k.Sign m.OpenBracket)

abbrev pub close_bracket : Piece
close_bracket = piece [] (codes "]") (k.Sign m.CloseBracket)

abbrev pub semicolon : Piece
semicolon = piece [] (codes ";") (k.Sign m.Semicolon)

abbrev pub assign : Piece
assign = piece space (codes "=") (k.Sign m.Assign)

-- ---- the pieces of the kernel

abbrev pub input_pieces : Text → ℕ → List Piece
input_pieces gap i = piece gap (codes "x") k.Name ∷ open_bracket ∷ number i ∷ close_bracket ∷ []

abbrev pub temporary_pieces : Text → ℕ → List Piece
temporary_pieces gap i = piece gap (codes "t") k.Name ∷ open_bracket ∷ number (i % 64) ∷ close_bracket ∷ open_bracket ∷ number (i / 64) ∷ close_bracket ∷ []

-- an element of the pool
abbrev pub element_pieces : Text → ℕ → List Piece
element_pieces gap j = cond (ltb j 16) (input_pieces gap j) (temporary_pieces gap (j - 16))

-- an operator, by whether it is `+`
abbrev pub operator_by : Bool → Piece
operator_by b = piece space (cond b (codes "+") (codes "*")) (cond b (k.Sign m.Plus) (k.Sign m.Star))

abbrev pub operator_piece : ℕ → Piece
operator_piece i = operator_by (eqb (i % 2) 0)

-- the value of a statement, and what ends it
abbrev pub value_pieces : ℕ → ℕ → List Piece
value_pieces n i = element_pieces space (left_operand n i) ++ (operator_piece i ∷ (element_pieces space (15 + i) ++ (semicolon ∷ [])))

abbrev pub statement_pieces : ℕ → ℕ → List Piece
statement_pieces n i = element_pieces line_feed (16 + i) ++ (assign ∷ value_pieces n i)

abbrev pub output_pieces : ℕ → List Piece
output_pieces n = piece line_feed (codes "y") k.Name ∷ assign ∷ (element_pieces space (15 + n) ++ (semicolon ∷ []))

-- so many of n statements from the k-th on, and then the output
abbrev pub body_pieces : ℕ → ℕ → ℕ → List Piece
body_pieces n k zero = output_pieces n
body_pieces n k (suc more) = statement_pieces n k ++ body_pieces n (k + 1) more

abbrev pub heading_pieces : List Piece
heading_pieces =
    piece [] (codes "kernel") (k.Word w.Kernel) ∷ piece space (codes "trial") k.Name ∷ piece space (codes "{") (k.Sign m.OpenBrace)
    ∷ piece line_feed (codes "in") (k.Word w.Input) ∷ piece space (codes "x") k.Name ∷ open_bracket ∷ piece [] (codes "16") (k.Number (pos 16)) ∷ close_bracket ∷ semicolon
    ∷ piece line_feed (codes "out") (k.Word w.Output) ∷ piece space (codes "y") k.Name ∷ semicolon
    ∷ piece line_feed (codes "tmp") (k.Word w.Temp) ∷ piece space (codes "t") k.Name ∷ open_bracket ∷ piece [] (codes "64") (k.Number (pos 64)) ∷ close_bracket
    ∷ open_bracket ∷ piece [] (codes "4") (k.Number (pos 4)) ∷ close_bracket ∷ semicolon ∷ []

abbrev pub close_brace : Piece
close_brace = piece line_feed (codes "}") (k.Sign m.CloseBrace)

abbrev pub trial_pieces : ℕ → List Piece
trial_pieces n = heading_pieces ++ (body_pieces n 0 n ++ (close_brace ∷ []))

-- ---- they spell the text

pub element_spelled : (gap : Text) (j : ℕ) (rest : Text) → spell (element_pieces gap j) rest ≡ gap ++ (element j ++ rest)
element_spelled gap j rest =
    elim (ltb j 16) as (λ b. spell (cond b (input_pieces gap j) (temporary_pieces gap (j - 16))) rest ≡ gap ++ (cond b (input j) (temporary (j - 16)) ++ rest))
    [ true ↦ simp append_assoc | false ↦ simp append_assoc ]

last_spelled : (q : ℕ) (rest : Text) → spell (element_pieces space q ++ (semicolon ∷ [])) rest ≡ space ++ (element q ++ 59 ∷ rest)
last_spelled q rest = spell-append (element_pieces space q) (semicolon ∷ []) rest ∙ element_spelled space q (59 ∷ rest)

value_spelled : (n k : ℕ) (rest : Text) → spell (value_pieces n k) rest ≡ space ++ (element (left_operand n k) ++ (space ++ (operator k ++ (space ++ (element (15 + k) ++ 59 ∷ rest)))))
value_spelled n k rest =
    spell-append (element_pieces space (left_operand n k)) (operator_piece k ∷ (element_pieces space (15 + k) ++ (semicolon ∷ []))) rest
    ∙ element_spelled space (left_operand n k) (space ++ (operator k ++ spell (element_pieces space (15 + k) ++ (semicolon ∷ [])) rest))
    ∙ ap (λ z. space ++ (element (left_operand n k) ++ (space ++ (operator k ++ z)))) (last_spelled (15 + k) rest)

-- statements nest to the right
regrouped : (a b c d rest : Text) → (a ++ (codes " = " ++ (b ++ (codes " " ++ (c ++ (codes " " ++ (d ++ codes ";"))))))) ++ rest ≡ a ++ (32 ∷ 61 ∷ 32 ∷ (b ++ (32 ∷ (c ++ (32 ∷ (d ++ 59 ∷ rest))))))
regrouped a b c d rest = simp append_assoc

statement_spelled : (n k : ℕ) (rest : Text) → spell (statement_pieces n k) rest ≡ 10 ∷ (statement n k ++ rest)
statement_spelled n k rest =
    spell-append (element_pieces line_feed (16 + k)) (assign ∷ value_pieces n k) rest
    ∙ element_spelled line_feed (16 + k) (32 ∷ 61 ∷ spell (value_pieces n k) rest)
    ∙ ap (λ z. 10 ∷ (element (16 + k) ++ (32 ∷ 61 ∷ z))) (value_spelled n k rest)
    ∙ ap (λ z. 10 ∷ z) (sym (regrouped (element (16 + k)) (element (left_operand n k)) (operator k) (element (15 + k)) rest))

output_spelled : (n : ℕ) (rest : Text) → spell (output_pieces n) rest ≡ 10 ∷ (output n ++ rest)
output_spelled n rest =
    ap (λ z. 10 ∷ 121 ∷ 32 ∷ 61 ∷ z) (last_spelled (15 + n) rest) ∙ ap (λ z. 10 ∷ 121 ∷ 32 ∷ 61 ∷ 32 ∷ z) (sym (append_assoc (element (15 + n)) (codes ";") rest))

pub body_spelled : (n k more : ℕ) → spell (body_pieces n k more) (10 ∷ 125 ∷ 10 ∷ []) ≡ 10 ∷ ended (statements n k more ++ (output n ∷ codes "}" ∷ []))
body_spelled n k zero = output_spelled n (10 ∷ 125 ∷ 10 ∷ [])
body_spelled n k (suc more) =
    spell-append (statement_pieces n k) (body_pieces n (k + 1) more) (10 ∷ 125 ∷ 10 ∷ [])
    ∙ ap (spell (statement_pieces n k)) (body_spelled n (k + 1) more)
    ∙ statement_spelled n k (10 ∷ ended (statements n (k + 1) more ++ (output n ∷ codes "}" ∷ [])))

pub text_spelled : (n : ℕ) → spell (trial_pieces n) (10 ∷ []) ≡ trial_kernel n
text_spelled n =
    spell-append heading_pieces (body_pieces n 0 n ++ (close_brace ∷ [])) (10 ∷ [])
    ∙ ap (spell heading_pieces) (spell-append (body_pieces n 0 n) (close_brace ∷ []) (10 ∷ []) ∙ body_spelled n 0 n)

-- ---- each piece is a token

-- a piece that nothing makes longer
free : (gap word : Text) (kind : TokenKind) (rest : Text) → list_all is_space gap ≡ true → is_plain gap ≡ true → begins_token word ≡ true → is_spelling word ≡ true
    → kind_of word ≡ Some kind → is_plain word ≡ true → ((c : ℕ) → is_spelling (word ++ c ∷ []) ≡ false) → Fits (piece gap word kind) rest
free gap word kind rest g pg b s e pw f =
    record { gap = g; begun = b; spelling = s; kind = e; ended = record { ends = λ c after _. f c }; plain_gap = pg; plain_word = pw }

-- a piece before a character that does not make it longer
before : (gap word : Text) (kind : TokenKind) (c : ℕ) (rest : Text) → list_all is_space gap ≡ true → is_plain gap ≡ true → begins_token word ≡ true → is_spelling word ≡ true
    → kind_of word ≡ Some kind → is_plain word ≡ true → is_spelling (word ++ c ∷ []) ≡ false → Fits (piece gap word kind) (c ∷ rest)
before gap word kind c rest g pg b s e pw f =
    record { gap = g; begun = b; spelling = s; kind = e; ended = ends_at word c rest f; plain_gap = pg; plain_word = pw }

open_fits : (rest : Text) → Fits open_bracket rest
unfolding unicode_ident lib.Utf8.encode
open_fits rest = free [] (codes "[") (k.Sign m.OpenBracket) rest refl refl refl refl refl refl (λ c. refl)

close_fits : (rest : Text) → Fits close_bracket rest
unfolding unicode_ident lib.Utf8.encode
close_fits rest = free [] (codes "]") (k.Sign m.CloseBracket) rest refl refl refl refl refl refl (λ c. refl)

semicolon_fits : (rest : Text) → Fits semicolon rest
unfolding unicode_ident lib.Utf8.encode
semicolon_fits rest = free [] (codes ";") (k.Sign m.Semicolon) rest refl refl refl refl refl refl (λ c. refl)

close_brace_fits : (rest : Text) → Fits close_brace rest
unfolding unicode_ident lib.Utf8.encode
close_brace_fits rest = free line_feed (codes "}") (k.Sign m.CloseBrace) rest refl refl refl refl refl refl (λ c. refl)

assign_fits : (rest : Text) → Fits assign (32 ∷ rest)
unfolding unicode_ident lib.Utf8.encode
assign_fits rest = before space (codes "=") (k.Sign m.Assign) 32 rest refl refl refl refl refl refl refl

plus_fits : (rest : Text) → Fits (piece space (codes "+") (k.Sign m.Plus)) rest
unfolding unicode_ident lib.Utf8.encode
plus_fits rest = free space (codes "+") (k.Sign m.Plus) rest refl refl refl refl refl refl (λ c. refl)

star_fits : (rest : Text) → Fits (piece space (codes "*") (k.Sign m.Star)) rest
unfolding unicode_ident lib.Utf8.encode
star_fits rest = free space (codes "*") (k.Sign m.Star) rest refl refl refl refl refl refl (λ c. refl)

x_fits : (gap rest : Text) → list_all is_space gap ≡ true → is_plain gap ≡ true → Fits (piece gap (codes "x") k.Name) (91 ∷ rest)
unfolding unicode_ident lib.Utf8.encode
x_fits gap rest g p = before gap (codes "x") k.Name 91 rest g p refl refl refl refl refl

t_fits : (gap rest : Text) → list_all is_space gap ≡ true → is_plain gap ≡ true → Fits (piece gap (codes "t") k.Name) (91 ∷ rest)
unfolding unicode_ident lib.Utf8.encode
t_fits gap rest g p = before gap (codes "t") k.Name 91 rest g p refl refl refl refl refl

y_fits : (gap rest : Text) (c : ℕ) → list_all is_space gap ≡ true → is_plain gap ≡ true → is_spelling (121 ∷ c ∷ []) ≡ false → Fits (piece gap (codes "y") k.Name) (c ∷ rest)
unfolding unicode_ident lib.Utf8.encode
y_fits gap rest c g p s = before gap (codes "y") k.Name c rest g p refl refl refl refl s

operator_fits : (i : ℕ) (rest : Text) → Fits (operator_piece i) rest
operator_fits i rest = step (eqb (i % 2) 0)
  where
    step : (b : Bool) → Fits (operator_by b) rest
    step true = plus_fits rest
    step false = star_fits rest

pub element_fits : (gap : Text) (j : ℕ) (rest : Text) → list_all is_space gap ≡ true → is_plain gap ≡ true → j < 2 ^ 63 → AllFit (element_pieces gap j) rest
element_fits gap j rest g p h = step (ltb j 16)
  where
    step : (b : Bool) → AllFit (cond b (input_pieces gap j) (temporary_pieces gap (j - 16))) rest
    step true = (x_fits gap (decimal j ++ 93 ∷ rest) g p, (open_fits (decimal j ++ 93 ∷ rest), (number_fits j 93 rest h refl, (close_fits rest, tt))))
    step false =
        let i = j - 16 in
        let after = 91 ∷ (decimal (i / 64) ++ 93 ∷ rest) in
        let whole = decimal (i % 64) ++ 93 ∷ after in (
          t_fits gap whole g p,
          (
            open_fits whole,
            (
              number_fits (i % 64) 93 after (omega arith) refl,
              (
                close_fits after,
                (open_fits (decimal (i / 64) ++ 93 ∷ rest), (number_fits (i / 64) 93 rest (omega arith) refl, (close_fits rest, tt))),
              ),
            ),
          ),
        )

last_fits : (q : ℕ) (rest : Text) → q < 2 ^ 63 → AllFit (element_pieces space q ++ (semicolon ∷ [])) rest
last_fits q rest h = fit-append (element_pieces space q) (semicolon ∷ []) rest (element_fits space q (59 ∷ rest) refl refl h) (semicolon_fits rest, tt)

-- the operands are in the pool
pub left_below : (n i : ℕ) → left_operand n i < 16 + i
left_below n i = omega arith

value_fits : (n i : ℕ) (rest : Text) → i < 1000 → AllFit (value_pieces n i) rest
value_fits n i rest h =
    let more = operator_piece i ∷ (element_pieces space (15 + i) ++ (semicolon ∷ [])) in
    let x = left_below n i in
    fit-append (element_pieces space (left_operand n i)) more rest (element_fits space (left_operand n i) (spell more rest) refl refl (omega arith))
    (operator_fits i (spell (element_pieces space (15 + i) ++ (semicolon ∷ [])) rest), last_fits (15 + i) rest (omega arith))

-- a text that begins with a space
spaced : (p : Piece) (x y : Text) → x ≡ 32 ∷ y → Fits p (32 ∷ y) → Fits p x
spaced p x y e f = record {
  gap = f.gap;
  begun = f.begun;
  spelling = f.spelling;
  kind = f.kind;
  plain_gap = f.plain_gap;
  plain_word = f.plain_word;
  ended = record { ends = λ c after g. f.ended.ends c after (sym e ∙ g) };
}

statement_fits : (n i : ℕ) (rest : Text) → i < 1000 → AllFit (statement_pieces n i) rest
statement_fits n i rest h =
    let more = assign ∷ value_pieces n i in
    let y = element (left_operand n i) ++ (space ++ (operator i ++ (space ++ (element (15 + i) ++ 59 ∷ rest)))) in
    fit-append (element_pieces line_feed (16 + i)) more rest (element_fits line_feed (16 + i) (spell more rest) refl refl (omega arith))
    (spaced assign (spell (value_pieces n i) rest) y (value_spelled n i rest) (assign_fits y), value_fits n i rest h)

blank : is_spelling (121 ∷ 32 ∷ []) ≡ false
unfolding unicode_ident lib.Utf8.encode
blank = refl

output_fits : (n : ℕ) (rest : Text) → n < 1000 → AllFit (output_pieces n) rest
output_fits n rest h =
    let last = spell (element_pieces space (15 + n) ++ (semicolon ∷ [])) rest in (
      y_fits line_feed (61 ∷ last) 32 refl refl blank,
      (spaced assign last (element (15 + n) ++ 59 ∷ rest) (last_spelled (15 + n) rest) (assign_fits (element (15 + n) ++ 59 ∷ rest)), last_fits (15 + n) rest (omega arith)),
    )

pub body_fits : (n i more : ℕ) (rest : Text) → n ≤ 200 → i + more < 1000 → AllFit (body_pieces n i more) rest
body_fits n i zero rest small h = output_fits n rest (omega arith)
body_fits n i (suc more) rest small h =
    fit-append (statement_pieces n i) (body_pieces n (i + 1) more) rest (statement_fits n i (spell (body_pieces n (i + 1) more) rest) (omega arith))
    (body_fits n (i + 1) more rest small (omega arith))

kernel_fits : (rest : Text) → Fits (piece [] (codes "kernel") (k.Word w.Kernel)) (32 ∷ rest)
unfolding unicode_ident lib.Utf8.encode
kernel_fits rest = before [] (codes "kernel") (k.Word w.Kernel) 32 rest refl refl refl refl refl refl refl

title_fits : (rest : Text) → Fits (piece space (codes "trial") k.Name) (32 ∷ rest)
unfolding unicode_ident lib.Utf8.encode
title_fits rest = before space (codes "trial") k.Name 32 rest refl refl refl refl refl refl refl

brace_fits : (rest : Text) → Fits (piece space (codes "{") (k.Sign m.OpenBrace)) rest
unfolding unicode_ident lib.Utf8.encode
brace_fits rest = free space (codes "{") (k.Sign m.OpenBrace) rest refl refl refl refl refl refl (λ c. refl)

in_fits : (rest : Text) → Fits (piece line_feed (codes "in") (k.Word w.Input)) (32 ∷ rest)
unfolding unicode_ident lib.Utf8.encode
in_fits rest = before line_feed (codes "in") (k.Word w.Input) 32 rest refl refl refl refl refl refl refl

out_fits : (rest : Text) → Fits (piece line_feed (codes "out") (k.Word w.Output)) (32 ∷ rest)
unfolding unicode_ident lib.Utf8.encode
out_fits rest = before line_feed (codes "out") (k.Word w.Output) 32 rest refl refl refl refl refl refl refl

tmp_fits : (rest : Text) → Fits (piece line_feed (codes "tmp") (k.Word w.Temp)) (32 ∷ rest)
unfolding unicode_ident lib.Utf8.encode
tmp_fits rest = before line_feed (codes "tmp") (k.Word w.Temp) 32 rest refl refl refl refl refl refl refl

y_before : (rest : Text) → Fits (piece space (codes "y") k.Name) (59 ∷ rest)
unfolding unicode_ident lib.Utf8.encode
y_before rest = before space (codes "y") k.Name 59 rest refl refl refl refl refl refl refl

sixteen_fits : (rest : Text) → Fits (piece [] (codes "16") (k.Number (pos 16))) (93 ∷ rest)
unfolding unicode_ident lib.Utf8.encode
sixteen_fits rest = before [] (codes "16") (k.Number (pos 16)) 93 rest refl refl refl refl refl refl refl

rows_fits : (rest : Text) → Fits (piece [] (codes "64") (k.Number (pos 64))) (93 ∷ rest)
unfolding unicode_ident lib.Utf8.encode
rows_fits rest = before [] (codes "64") (k.Number (pos 64)) 93 rest refl refl refl refl refl refl refl

four_fits : (rest : Text) → Fits (piece [] (codes "4") (k.Number (pos 4))) (93 ∷ rest)
unfolding unicode_ident lib.Utf8.encode
four_fits rest = before [] (codes "4") (k.Number (pos 4)) 93 rest refl refl refl refl refl refl refl

pub heading_fits : (rest : Text) → AllFit heading_pieces rest
heading_fits rest = (
  kernel_fits _,
  (
    title_fits _,
    (
      brace_fits _,
      (
        in_fits _,
        (
          x_fits space _ refl refl,
          (
            open_fits _,
            (
              sixteen_fits _,
              (
                close_fits _,
                (
                  semicolon_fits _,
                  (out_fits _, (y_before _, (semicolon_fits _, (tmp_fits _, (t_fits space _ refl refl, (open_fits _, (rows_fits _, (close_fits _, (open_fits _, (four_fits _, (close_fits _, (semicolon_fits _, tt)))))))))))),
                ),
              ),
            ),
          ),
        ),
      ),
    ),
  ),
)

-- all pieces of the text are its tokens
pub trial_fits : (n : ℕ) → n ≤ 200 → AllFit (trial_pieces n) (10 ∷ [])
trial_fits n h =
    fit-append heading_pieces (body_pieces n 0 n ++ (close_brace ∷ [])) (10 ∷ []) (heading_fits (spell (body_pieces n 0 n ++ (close_brace ∷ [])) (10 ∷ [])))
    (fit-append (body_pieces n 0 n) (close_brace ∷ []) (10 ∷ []) (body_fits n 0 n (10 ∷ 125 ∷ 10 ∷ []) h (omega arith)) (close_brace_fits (10 ∷ []), tt))
