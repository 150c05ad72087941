-- How the tokens of a trial kernel are read.
use Rattle.std.proofs.Common.{◌≡◌, ℕ, zero, suc, ◌+◌, ◌-◌, ◌/◌, ◌%◌, Bool, true, false, cond, eqb, ltb, List, [], ◌∷◌, ◌++◌, codes, pos, Some, None, refl, sym, ap, ◌∙◌, subst, inl, inr, arith, append_assoc, append-nil}
use Rattle.kernel_lexer.specs.declared.token.Token.{Token}
use Rattle.kernel_lexer.specs.declared.token.Keyword.TheVariants as w
use Rattle.kernel_lexer.specs.declared.token.Mark.TheVariants as m
use Rattle.kernel_lexer.specs.declared.token.TokenKind.{TokenKind}
use Rattle.kernel_lexer.specs.declared.token.TokenKind.TheVariants as k
use Rattle.kernel_lexer.specs.Spelling.{Text}
use Rattle.kernel_ast.specs.declared.tree.DeclKind.TheVariants as role
use Rattle.kernel_syntax.specs.declared.raw.RawIndex.{RawIndex}
use Rattle.kernel_syntax.specs.declared.raw.RawPlace.{RawPlace}
use Rattle.kernel_syntax.specs.declared.raw.RawExpr.{RawExpr}
use Rattle.kernel_syntax.specs.declared.raw.RawExpr.TheVariants as expr
use Rattle.kernel_syntax.specs.declared.raw.RawStmt.{RawStmt}
use Rattle.kernel_syntax.specs.declared.raw.RawStmt.TheVariants as stmt
use Rattle.kernel_syntax.specs.declared.raw.RawDecl.{RawDecl}
use Rattle.kernel_syntax.specs.declared.raw.RawKernel.{RawKernel}
use Rattle.kernel_syntax.specs.Tokens.{is_name, is_number, is_operator, is_role, sign}
use Rattle.kernel_syntax.specs.Trees as tree
use Rattle.kernel_syntax.specs.Grammar.{Bracket, Declared, Expr, Index, IndexLeaf, Leaf, Place, Ranked, Size, Statement, Whole}
use Rattle.kernel_syntax.specs.Parsing.{whole}
use Rattle.kernel_syntax.proofs.KernelSteps.{whole_step}
use Rattle.token_grammar.specs.Phrases.{Phrase, Many}
use Rattle.token_grammar.proofs.Texts.{more_levels}
use Rattle.kernel_gen.specs.Trials.{left_operand}
use Rattle.kernel_gen.proofs.Pieces.{Piece, behind, token, tokens, tokens-append}
use Rattle.kernel_gen.proofs.Decimals.{number}
use Rattle.kernel_gen.proofs.TrialPieces.{assign, body_pieces, close_bracket, close_brace, element_pieces, input_pieces, line_feed, open_bracket, operator_by, operator_piece, output_pieces, piece, semicolon, space, statement_pieces, temporary_pieces, trial_pieces, value_pieces}

-- ---- chains

-- a part without an operator
no_link : {E L : Type 0} (link : Token × E → L) (chain : E × List L → E) → ((e : E) → chain (e, []) ≡ e) → (rank : ℕ) (R : Phrase Token E) (word : List Token) (e : E)
    → Ranked link chain rank R word e → Ranked link chain (suc rank) R word e
no_link link chain alone rank R word e r = ((e, []), (word, [], sym (append-nil word), r, refl), sym (alone e))

-- two parts with an operator between them
one_link : {E L : Type 0} (link : Token × E → L) (chain : E × List L → E) (rank : ℕ) (R : Phrase Token E) (u v : List Token) (t : Token) (a b : E)
    → is_operator (suc rank) t ≡ true → Ranked link chain rank R u a → Ranked link chain rank R v b → Ranked link chain (suc rank) R (u ++ t ∷ v) (chain (a, link (t, b) ∷ []))
one_link link chain rank R u v t a b is r s =
    ((a, link (t, b) ∷ []), (u, t ∷ v, refl, r, (t ∷ v, [], sym (append-nil (t ∷ v)), ((t, b), (t ∷ [], v, refl, (refl, is), s), refl), refl)), refl)

-- ---- places

index_read : (t : Token) → is_number t ≡ true → Index 0 (t ∷ []) (tree.index_number t)
index_read t h =
    let leaf : IndexLeaf (t ∷ []) (tree.index_number t) = inl (t, (refl, h), refl) in
    no_link tree.index_link tree.index_chain (λ e. refl) 1 IndexLeaf (t ∷ []) (tree.index_number t)
    (no_link tree.index_link tree.index_chain (λ e. refl) 0 IndexLeaf (t ∷ []) (tree.index_number t) leaf)

bracket_read : (a t b : Token) → sign m.OpenBracket a ≡ true → is_number t ≡ true → sign m.CloseBracket b ≡ true → Bracket tree.inside (Index 0) (a ∷ t ∷ b ∷ []) (tree.index_number t)
bracket_read a t b ha ht hb = ((a, (tree.index_number t, b)), (a ∷ [], t ∷ b ∷ [], refl, (refl, ha), (t ∷ [], b ∷ [], refl, index_read t ht, (refl, hb))), refl)

place_plain : (n : Token) → is_name n ≡ true → Place 0 (n ∷ []) (tree.place (n, []))
place_plain n h = ((n, []), (n ∷ [], [], refl, (refl, h), (None, refl, refl)), refl)

place_one : (n a t b : Token) → is_name n ≡ true → sign m.OpenBracket a ≡ true → is_number t ≡ true → sign m.CloseBracket b ≡ true
    → Place 0 (n ∷ a ∷ t ∷ b ∷ []) (tree.place (n, tree.index_number t ∷ []))
place_one n a t b hn ha ht hb =
    ((n, tree.index_number t ∷ []), (n ∷ [], a ∷ t ∷ b ∷ [], refl, (refl, hn), (Some (tree.index_number t, None), (a ∷ t ∷ b ∷ [], [], refl, bracket_read a t b ha ht hb, refl), refl)), refl)

place_two : (n a t b c u d : Token) → is_name n ≡ true → sign m.OpenBracket a ≡ true → is_number t ≡ true → sign m.CloseBracket b ≡ true
    → sign m.OpenBracket c ≡ true → is_number u ≡ true → sign m.CloseBracket d ≡ true
    → Place 0 (n ∷ a ∷ t ∷ b ∷ c ∷ u ∷ d ∷ []) (tree.place (n, tree.index_number t ∷ tree.index_number u ∷ []))
place_two n a t b c u d hn ha ht hb hc hu hd = (
  (n, tree.index_number t ∷ tree.index_number u ∷ []),
  (
    n ∷ [],
    a ∷ t ∷ b ∷ c ∷ u ∷ d ∷ [],
    refl,
    (refl, hn),
    (Some (tree.index_number t, Some (tree.index_number u)), (a ∷ t ∷ b ∷ [], c ∷ u ∷ d ∷ [], refl, bracket_read a t b ha ht hb, bracket_read c u d hc hu hd), refl),
  ),
  refl,
)

-- ---- elements of the pool

-- a number that is a piece behind others
abbrev pub index_behind : ℕ → List Piece → ℕ → RawIndex
index_behind at ps i = tree.index_number (token (behind at ps) (number i))

abbrev pub input_raw : ℕ → Text → ℕ → RawPlace
input_raw at gap i =
    let name = piece gap (codes "x") k.Name in
    tree.place (token at name, index_behind at (name ∷ open_bracket ∷ []) i ∷ [])

abbrev pub temporary_raw : ℕ → Text → ℕ → RawPlace
temporary_raw at gap i =
    let name = piece gap (codes "t") k.Name in
    tree.place (token at name, index_behind at (name ∷ open_bracket ∷ []) (i % 64) ∷ index_behind at (name ∷ open_bracket ∷ number (i % 64) ∷ close_bracket ∷ open_bracket ∷ []) (i / 64) ∷ [])

-- the place that the pieces of an element are read as
abbrev pub element_raw : ℕ → Text → ℕ → RawPlace
element_raw at gap j = cond (ltb j 16) (input_raw at gap j) (temporary_raw at gap (j - 16))

pub element_read : (at : ℕ) (gap : Text) (j : ℕ) → Place 0 (tokens at (element_pieces gap j)) (element_raw at gap j)
element_read at gap j = step (ltb j 16)
  where
    step : (b : Bool) → Place 0 (tokens at (cond b (input_pieces gap j) (temporary_pieces gap (j - 16)))) (cond b (input_raw at gap j) (temporary_raw at gap (j - 16)))
    step true =
        let name = piece gap (codes "x") k.Name in
        place_one (token at name) (token (behind at (name ∷ [])) open_bracket) (token (behind at (name ∷ open_bracket ∷ [])) (number j)) (token (behind at (name ∷ open_bracket ∷ number j ∷ [])) close_bracket) refl refl refl refl
    step false =
        let i = j - 16 in
        let name = piece gap (codes "t") k.Name in
        let a = number (i % 64) in
        let b = number (i / 64) in
        place_two (token at name) (token (behind at (name ∷ [])) open_bracket) (token (behind at (name ∷ open_bracket ∷ [])) a) (token (behind at (name ∷ open_bracket ∷ a ∷ [])) close_bracket)
        (token (behind at (name ∷ open_bracket ∷ a ∷ close_bracket ∷ [])) open_bracket) (token (behind at (name ∷ open_bracket ∷ a ∷ close_bracket ∷ open_bracket ∷ [])) b) (token (behind at (name ∷ open_bracket ∷ a ∷ close_bracket ∷ open_bracket ∷ b ∷ [])) close_bracket)
        refl refl refl refl refl refl refl

-- ---- statements

-- an expression without an operator
lone : (word : List Token) (p : RawPlace) → Place 0 word p → Expr 0 word (expr.Place p)
lone word p r =
    let up = λ (rank : ℕ). no_link tree.link tree.chain (λ e. refl) rank (Leaf 0) word (expr.Place p) in
    up 4 (up 3 (up 2 (up 1 (up 0 (inr (p, r, refl))))))

-- the value of a statement
abbrev pub value_raw : ℕ → ℕ → ℕ → RawExpr
value_raw at n i =
    let first = element_pieces space (left_operand n i) in
    let t = token (behind at first) (operator_piece i) in
    tree.chain (expr.Place (element_raw at space (left_operand n i)), tree.link (t, expr.Place (element_raw t.to space (15 + i))) ∷ [])

-- two places with `+` or `*` between them
sum_read : (u v : List Token) (t : Token) (p q : RawPlace) → is_operator 2 t ≡ true → Place 0 u p → Place 0 v q → Expr 0 (u ++ t ∷ v) (tree.chain (expr.Place p, tree.link (t, expr.Place q) ∷ []))
sum_read u v t p q is r s =
    let low = λ (word : List Token) (p : RawPlace) (r : Place 0 word p). no_link tree.link tree.chain (λ e. refl) 0 (Leaf 0) word (expr.Place p) (inr (p, r, refl)) in
    let value = tree.chain (expr.Place p, tree.link (t, expr.Place q) ∷ []) in
    let up = λ (rank : ℕ). no_link tree.link tree.chain (λ e. refl) rank (Leaf 0) (u ++ t ∷ v) value in
    up 4 (up 3 (up 2 (one_link tree.link tree.chain 1 (Leaf 0) u v t (expr.Place p) (expr.Place q) is (low u p r) (low v q s))))

product_read : (u v : List Token) (t : Token) (p q : RawPlace) → is_operator 1 t ≡ true → Place 0 u p → Place 0 v q → Expr 0 (u ++ t ∷ v) (tree.chain (expr.Place p, tree.link (t, expr.Place q) ∷ []))
product_read u v t p q is r s =
    let value = tree.chain (expr.Place p, tree.link (t, expr.Place q) ∷ []) in
    let up = λ (rank : ℕ). no_link tree.link tree.chain (λ e. refl) rank (Leaf 0) (u ++ t ∷ v) value in
    up 4 (up 3 (up 2 (up 1 (one_link tree.link tree.chain 0 (Leaf 0) u v t (expr.Place p) (expr.Place q) is (inr (p, r, refl)) (inr (q, s, refl))))))

operation_read : (b : Bool) (u v : List Token) (at : ℕ) (p q : RawPlace) → Place 0 u p → Place 0 v q
    → Expr 0 (u ++ token at (operator_by b) ∷ v) (tree.chain (expr.Place p, tree.link (token at (operator_by b), expr.Place q) ∷ []))
operation_read true u v at p q r s = sum_read u v (token at (operator_by true)) p q refl r s
operation_read false u v at p q r s = product_read u v (token at (operator_by false)) p q refl r s

-- a target, and a value with the semicolon behind it
assigned : (u v : List Token) (t s : Token) (p : RawPlace) (e : RawExpr) → sign m.Assign t ≡ true → sign m.Semicolon s ≡ true → Place 0 u p → Expr 0 v e → Statement 0 (u ++ t ∷ (v ++ s ∷ [])) (stmt.Assign p e)
assigned u v t s p e ht hs rp re = ((p, (t, (e, s))), (u, t ∷ (v ++ s ∷ []), refl, rp, (t ∷ [], v ++ s ∷ [], refl, (refl, ht), (v, s ∷ [], refl, re, (refl, hs)))), refl)

abbrev pub statement_raw : ℕ → ℕ → ℕ → RawStmt
statement_raw at n i = stmt.Assign (element_raw at line_feed (16 + i)) (value_raw (token (behind at (element_pieces line_feed (16 + i))) assign).to n i)

value_tokens : (at n i : ℕ) → tokens at (value_pieces n i)
    ≡ (tokens at (element_pieces space (left_operand n i)) ++ token (behind at (element_pieces space (left_operand n i))) (operator_piece i)
    ∷ tokens (token (behind at (element_pieces space (left_operand n i))) (operator_piece i)).to (element_pieces space (15 + i)))
    ++ token (behind (token (behind at (element_pieces space (left_operand n i))) (operator_piece i)).to (element_pieces space (15 + i))) semicolon ∷ []
value_tokens at n i =
    let first = element_pieces space (left_operand n i) in
    let second = element_pieces space (15 + i) in
    let t = token (behind at first) (operator_piece i) in
    let last = token (behind t.to second) semicolon ∷ [] in
    tokens-append at first (operator_piece i ∷ (second ++ (semicolon ∷ [])))
    ∙ ap (λ z. tokens at first ++ t ∷ z) (tokens-append t.to second (semicolon ∷ []))
    ∙ sym (append_assoc (tokens at first) (t ∷ tokens t.to second) last)

pub statement_read : (at n i : ℕ) → Statement 0 (tokens at (statement_pieces n i)) (statement_raw at n i)
statement_read at n i =
    let target = element_pieces line_feed (16 + i) in
    let t = token (behind at target) assign in
    let first = element_pieces space (left_operand n i) in
    let second = element_pieces space (15 + i) in
    let o = token (behind t.to first) (operator_piece i) in
    let end = token (behind o.to second) semicolon in
    let e = tokens-append at target (assign ∷ value_pieces n i) ∙ ap (λ z. tokens at target ++ t ∷ z) (value_tokens t.to n i) in
    let value = operation_read (eqb (i % 2) 0) (tokens t.to first) (tokens o.to second) (behind t.to first) (element_raw t.to space (left_operand n i)) (element_raw o.to space (15 + i)) (element_read t.to space (left_operand n i)) (element_read o.to space (15 + i)) in
    subst (λ z. Statement 0 z (statement_raw at n i)) (sym e)
    (assigned (tokens at target) (tokens t.to first ++ o ∷ tokens o.to second) t end (element_raw at line_feed (16 + i)) (value_raw t.to n i) refl refl (element_read at line_feed (16 + i)) value)

abbrev pub output_name : Piece
output_name = piece line_feed (codes "y") k.Name

abbrev pub output_raw : ℕ → ℕ → RawStmt
output_raw at n = stmt.Assign (tree.place (token at output_name, [])) (expr.Place (element_raw (behind at (output_name ∷ assign ∷ [])) space (15 + n)))

output_read : (at n : ℕ) → Statement 0 (tokens at (output_pieces n)) (output_raw at n)
output_read at n =
    let name = token at output_name in
    let t = token name.to assign in
    let value = element_pieces space (15 + n) in
    let end = token (behind t.to value) semicolon in
    subst (λ z. Statement 0 (name ∷ t ∷ z) (output_raw at n)) (sym (tokens-append t.to value (semicolon ∷ [])))
    (assigned (name ∷ []) (tokens t.to value) t end (tree.place (name, [])) (expr.Place (element_raw t.to space (15 + n))) refl refl (place_plain name refl) (lone (tokens t.to value) (element_raw t.to space (15 + n)) (element_read t.to space (15 + n))))

abbrev pub body_raw : ℕ → ℕ → ℕ → ℕ → List RawStmt
body_raw at n i zero = output_raw at n ∷ []
body_raw at n i (suc more) = statement_raw at n i ∷ body_raw (behind at (statement_pieces n i)) n (i + 1) more

pub body_read : (at n i more : ℕ) → Many (Statement 0) (tokens at (body_pieces n i more)) (body_raw at n i more)
body_read at n i zero = (tokens at (output_pieces n), [], sym (append-nil (tokens at (output_pieces n))), output_read at n, refl)
body_read at n i (suc more) =
    let next = behind at (statement_pieces n i) in
    (tokens at (statement_pieces n i), tokens next (body_pieces n (i + 1) more), tokens-append at (statement_pieces n i) (body_pieces n (i + 1) more), statement_read at n i, body_read next n (i + 1) more)

-- ---- declarations

size_read : (a t b : Token) → sign m.OpenBracket a ≡ true → is_number t ≡ true → sign m.CloseBracket b ≡ true → Size (a ∷ t ∷ b ∷ []) (tree.size (a, (t, b)))
size_read a t b ha ht hb = ((a, (t, b)), (a ∷ [], t ∷ b ∷ [], refl, (refl, ha), (t ∷ [], b ∷ [], refl, (refl, ht), (refl, hb))), refl)

declared_none : (r n s : Token) → is_role r ≡ true → is_name n ≡ true → sign m.Semicolon s ≡ true → Declared (r ∷ n ∷ s ∷ []) (tree.declare (r, (n, ([], s))))
declared_none r n s hr hn hs = ((r, (n, ([], s))), (r ∷ [], n ∷ s ∷ [], refl, (refl, hr), (n ∷ [], s ∷ [], refl, (refl, hn), ([], s ∷ [], refl, (None, refl, refl), (refl, hs)))), refl)

declared_one : (r n a t b s : Token) → is_role r ≡ true → is_name n ≡ true → sign m.OpenBracket a ≡ true → is_number t ≡ true → sign m.CloseBracket b ≡ true → sign m.Semicolon s ≡ true
    → Declared (r ∷ n ∷ a ∷ t ∷ b ∷ s ∷ []) (tree.declare (r, (n, (tree.size (a, (t, b)) ∷ [], s))))
declared_one r n a t b s hr hn ha ht hb hs =
    let size = tree.size (a, (t, b)) in (
      (r, (n, (size ∷ [], s))),
      (
        r ∷ [],
        n ∷ a ∷ t ∷ b ∷ s ∷ [],
        refl,
        (refl, hr),
        (
          n ∷ [],
          a ∷ t ∷ b ∷ s ∷ [],
          refl,
          (refl, hn),
          (
            a ∷ t ∷ b ∷ [],
            s ∷ [],
            refl,
            (Some (size, None), (a ∷ t ∷ b ∷ [], [], refl, size_read a t b ha ht hb, refl), refl),
            (refl, hs),
          ),
        ),
      ),
      refl,
    )

declared_two : (r n a t b c u d s : Token) → is_role r ≡ true → is_name n ≡ true → sign m.OpenBracket a ≡ true → is_number t ≡ true → sign m.CloseBracket b ≡ true
    → sign m.OpenBracket c ≡ true → is_number u ≡ true → sign m.CloseBracket d ≡ true → sign m.Semicolon s ≡ true
    → Declared (r ∷ n ∷ a ∷ t ∷ b ∷ c ∷ u ∷ d ∷ s ∷ []) (tree.declare (r, (n, (tree.size (a, (t, b)) ∷ tree.size (c, (u, d)) ∷ [], s))))
declared_two r n a t b c u d s hr hn ha ht hb hc hu hd hs =
    let rows = tree.size (a, (t, b)) in
    let columns = tree.size (c, (u, d)) in (
      (r, (n, (rows ∷ columns ∷ [], s))),
      (
        r ∷ [],
        n ∷ a ∷ t ∷ b ∷ c ∷ u ∷ d ∷ s ∷ [],
        refl,
        (refl, hr),
        (
          n ∷ [],
          a ∷ t ∷ b ∷ c ∷ u ∷ d ∷ s ∷ [],
          refl,
          (refl, hn),
          (
            a ∷ t ∷ b ∷ c ∷ u ∷ d ∷ [],
            s ∷ [],
            refl,
            (Some (rows, Some columns), (a ∷ t ∷ b ∷ [], c ∷ u ∷ d ∷ [], refl, size_read a t b ha ht hb, size_read c u d hc hu hd), refl),
            (refl, hs),
          ),
        ),
      ),
      refl,
    )

-- ---- the kernel

-- a token by its kind and its stretch
abbrev stretch : TokenKind → ℕ → ℕ → Token
stretch kind from to = record { kind = kind; from = from; to = to }

abbrev input_tokens : List Token
input_tokens =
    stretch (k.Word w.Input) 15 17 ∷ stretch k.Name 18 19 ∷ stretch (k.Sign m.OpenBracket) 19 20 ∷ stretch (k.Number (pos 16)) 20 22 ∷ stretch (k.Sign m.CloseBracket) 22 23
    ∷ stretch (k.Sign m.Semicolon) 23 24 ∷ []

abbrev output_tokens : List Token
output_tokens = stretch (k.Word w.Output) 25 28 ∷ stretch k.Name 29 30 ∷ stretch (k.Sign m.Semicolon) 30 31 ∷ []

abbrev temporary_tokens : List Token
temporary_tokens =
    stretch (k.Word w.Temp) 32 35 ∷ stretch k.Name 36 37 ∷ stretch (k.Sign m.OpenBracket) 37 38 ∷ stretch (k.Number (pos 64)) 38 40 ∷ stretch (k.Sign m.CloseBracket) 40 41
    ∷ stretch (k.Sign m.OpenBracket) 41 42 ∷ stretch (k.Number (pos 4)) 42 43 ∷ stretch (k.Sign m.CloseBracket) 43 44 ∷ stretch (k.Sign m.Semicolon) 44 45 ∷ []

-- the declarations as they are written
abbrev pub decls_raw : List RawDecl
decls_raw =
    record { kind = role.Input; name = record { from = 18; to = 19 }; sizes = record { value = pos 16; at = 20 } ∷ [] }
    ∷ record { kind = role.Output; name = record { from = 29; to = 30 }; sizes = [] }
    ∷ record { kind = role.Temp; name = record { from = 36; to = 37 }; sizes = record { value = pos 64; at = 38 } ∷ record { value = pos 4; at = 42 } ∷ [] }
    ∷ []

decls_read : Many Declared (input_tokens ++ (output_tokens ++ (temporary_tokens ++ []))) decls_raw
decls_read = (
  input_tokens,
  output_tokens ++ (temporary_tokens ++ []),
  refl,
  declared_one (stretch (k.Word w.Input) 15 17) (stretch k.Name 18 19) (stretch (k.Sign m.OpenBracket) 19 20) (stretch (k.Number (pos 16)) 20 22) (stretch (k.Sign m.CloseBracket) 22 23) (stretch (k.Sign m.Semicolon) 23 24) refl refl refl refl refl refl,
  (
    output_tokens,
    temporary_tokens ++ [],
    refl,
    declared_none (stretch (k.Word w.Output) 25 28) (stretch k.Name 29 30) (stretch (k.Sign m.Semicolon) 30 31) refl refl refl,
    (
      temporary_tokens,
      [],
      refl,
      declared_two (stretch (k.Word w.Temp) 32 35) (stretch k.Name 36 37) (stretch (k.Sign m.OpenBracket) 37 38) (stretch (k.Number (pos 64)) 38 40) (stretch (k.Sign m.CloseBracket) 40 41)
          (stretch (k.Sign m.OpenBracket) 41 42) (stretch (k.Number (pos 4)) 42 43) (stretch (k.Sign m.CloseBracket) 43 44) (stretch (k.Sign m.Semicolon) 44 45) refl refl refl refl refl refl refl refl refl,
      refl,
    ),
  ),
)

-- the kernel as it is written
abbrev pub trial_raw : ℕ → RawKernel
trial_raw n = record { title = record { from = 7; to = 12 }; decls = decls_raw; body = body_raw 45 n 0 n }

whole_read : (n : ℕ) → Whole 0 (tokens 0 (trial_pieces n)) (trial_raw n)
unfolding lib.Utf8.encode
whole_read n =
    let body = tokens 45 (body_pieces n 0 n) in
    let last = token (behind 45 (body_pieces n 0 n)) close_brace in
    let word = stretch (k.Word w.Kernel) 0 6 in
    let title = stretch k.Name 7 12 in
    let brace = stretch (k.Sign m.OpenBrace) 13 14 in
    let declared = input_tokens ++ (output_tokens ++ (temporary_tokens ++ [])) in
    let rest = tokens 45 (body_pieces n 0 n ++ (close_brace ∷ [])) in (
      (word, (title, (brace, (decls_raw, (body_raw 45 n 0 n, last))))),
      (
        word ∷ [],
        title ∷ brace ∷ (declared ++ rest),
        refl,
        (refl, refl),
        (
          title ∷ [],
          brace ∷ (declared ++ rest),
          refl,
          (refl, refl),
          (
            brace ∷ [],
            declared ++ rest,
            refl,
            (refl, refl),
            (
              declared,
              rest,
              refl,
              decls_read,
              (body, last ∷ [], tokens-append 45 (body_pieces n 0 n) (close_brace ∷ []), body_read 45 n 0 n, (refl, refl)),
            ),
          ),
        ),
      ),
      refl,
    )

-- the tokens of the text have this reading
pub trial_read : (n : ℕ) → Whole 32 (tokens 0 (trial_pieces n)) (trial_raw n)
trial_read n = more_levels whole Whole whole_step 0 32 (tokens 0 (trial_pieces n)) (trial_raw n) (omega arith) (whole_read n)
