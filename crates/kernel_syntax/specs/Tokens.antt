-- Tests of tokens, and what tokens stand for.
use Rattle.std.specs.Prelude.{◌==◌, ℕ, Bool, ◌||◌, ℤ, pos}
use Rattle.kernel_lexer.specs.declared.token.Keyword.{Keyword}
use Rattle.kernel_lexer.specs.declared.token.Keyword.TheVariants as w
use Rattle.kernel_lexer.specs.declared.token.Mark.{Mark}
use Rattle.kernel_lexer.specs.declared.token.Mark.TheVariants as m
use Rattle.kernel_lexer.specs.declared.token.TokenKind.{TokenKind}
use Rattle.kernel_lexer.specs.declared.token.TokenKind.TheVariants as k
use Rattle.kernel_lexer.specs.declared.token.Token.{Token}
use Rattle.comp_graph.specs.declared.operation.Op.{Op}
use Rattle.comp_graph.specs.declared.operation.Op.TheVariants as op
use Rattle.kernel_ast.specs.declared.tree.Relation.{Relation}
use Rattle.kernel_ast.specs.declared.tree.Relation.TheVariants as rel
use Rattle.kernel_ast.specs.declared.tree.DeclKind.{DeclKind}
use Rattle.kernel_ast.specs.declared.tree.DeclKind.TheVariants as role
use Rattle.kernel_syntax.specs.declared.class.TokenClass.{TokenClass}
use Rattle.kernel_syntax.specs.declared.class.TokenClass.TheVariants as class
use Rattle.kernel_syntax.specs.declared.raw.Span.{Span}

-- ---- a number for each kind of token, by which tests compare kinds; two kinds have two numbers (`KindsAreApart` in Laws.antt)

-- the numbers of reserved words
abbrev pub keyword_tag : Keyword → ℕ
keyword_tag w.Kernel = 2
keyword_tag w.Input = 3
keyword_tag w.Output = 4
keyword_tag w.Temp = 5
keyword_tag w.Loop = 6
keyword_tag w.Min = 7
keyword_tag w.Max = 8
keyword_tag w.Sel = 9
keyword_tag w.Mad = 10
keyword_tag w.If = 11
keyword_tag w.Else = 12
keyword_tag w.By = 13

-- the numbers of signs
abbrev pub mark_tag : Mark → ℕ
mark_tag m.OpenBrace = 14
mark_tag m.CloseBrace = 15
mark_tag m.OpenBracket = 16
mark_tag m.CloseBracket = 17
mark_tag m.OpenParen = 18
mark_tag m.CloseParen = 19
mark_tag m.Semicolon = 20
mark_tag m.Comma = 21
mark_tag m.Assign = 22
mark_tag m.Dots = 23
mark_tag m.Plus = 24
mark_tag m.Minus = 25
mark_tag m.Star = 26
mark_tag m.And = 27
mark_tag m.Or = 28
mark_tag m.Xor = 29
mark_tag m.Same = 30
mark_tag m.Differs = 31
mark_tag m.Less = 32
mark_tag m.AtMost = 33
mark_tag m.More = 34
mark_tag m.AtLeast = 35

-- the number of a kind
abbrev pub tag : TokenKind → ℕ
tag k.Name = 0
tag (k.Number n) = 1
tag (k.Word word) = keyword_tag word
tag (k.Sign mark) = mark_tag mark

-- a token of this kind; of numbers, any number
abbrev pub is : TokenKind → Token → Bool
is kind t = tag t.kind == tag kind

-- a name
abbrev pub is_name : Token → Bool
is_name = is k.Name

-- a number
abbrev pub is_number : Token → Bool
is_number = is (k.Number (pos 0))

-- a reserved word
abbrev pub word : Keyword → Token → Bool
word keyword = is (k.Word keyword)

-- a sign
abbrev pub sign : Mark → Token → Bool
sign mark = is (k.Sign mark)

-- ---- classes of tokens

-- the word that begins a declaration
abbrev pub is_role : Token → Bool
is_role t = word w.Input t || (word w.Output t || word w.Temp t)

-- a function of two arguments, and one of three
abbrev pub is_pair : Token → Bool
is_pair t = word w.Min t || word w.Max t

abbrev pub is_triple : Token → Bool
is_triple t = word w.Sel t || word w.Mad t

-- a token that opens a part of an index
abbrev pub opens_index : Token → Bool
opens_index t = sign m.Minus t || sign m.OpenParen t

-- a token that opens a part of an expression
abbrev pub opens : Token → Bool
opens t = opens_index t || (is_pair t || is_triple t)

-- a token that opens a loop or a branch
abbrev pub opens_statement : Token → Bool
opens_statement t = word w.Loop t || word w.If t

-- a token that begins a statement
abbrev pub starts : Token → Bool
starts t = opens_statement t || is_name t

-- a sign that compares the sides of a branch
abbrev pub is_relation : Token → Bool
is_relation t = sign m.Same t || (sign m.Differs t || (sign m.Less t || (sign m.AtMost t || (sign m.More t || sign m.AtLeast t))))

-- The levels of operators between operands, from the one that binds most: `*`, then `+` and `-`, `&`, `^`, `|`; 0 for other tokens.
abbrev pub rank_of : TokenKind → ℕ
rank_of (k.Sign m.Star) = 1
rank_of (k.Sign m.Plus) = 2
rank_of (k.Sign m.Minus) = 2
rank_of (k.Sign m.And) = 3
rank_of (k.Sign m.Xor) = 4
rank_of (k.Sign m.Or) = 5
rank_of _ = 0

-- an operator of the rank
abbrev pub is_operator : ℕ → Token → Bool
is_operator rank t = rank_of t.kind == rank

-- the test of a class
abbrev pub passes : TokenClass → Token → Bool
passes class.Name = is_name
passes class.Number = is_number
passes (class.Word keyword) = word keyword
passes (class.Sign mark) = sign mark
passes (class.Operator rank) = is_operator rank
passes class.Role = is_role
passes class.Pair = is_pair
passes class.Triple = is_triple
passes class.IndexPart = opens_index
passes class.Part = opens
passes class.Nested = opens_statement
passes class.Statement = starts
passes class.Relation = is_relation

-- ---- what tokens stand for

-- the stretch of a token
abbrev pub span : Token → Span
span t = record { from = t.from; to = t.to }

-- the number of a number token
abbrev pub number_of : TokenKind → ℤ
number_of (k.Number n) = n
number_of _ = pos 0

-- the operation of an operator sign between operands, or of a function's word; the grammar asks it of no other token
abbrev pub op_of : TokenKind → Op
op_of (k.Sign m.Plus) = op.Add
op_of (k.Sign m.Minus) = op.Sub
op_of (k.Sign m.Star) = op.Mul
op_of (k.Sign m.And) = op.And
op_of (k.Sign m.Or) = op.Or
op_of (k.Sign m.Xor) = op.Xor
op_of (k.Word w.Min) = op.Min
op_of (k.Word w.Max) = op.Max
op_of (k.Word w.Sel) = op.Sel
op_of (k.Word w.Mad) = op.Mad
op_of _ = op.Add

-- how the sign of a relation compares; the grammar asks it of no other token
abbrev pub relation_of : TokenKind → Relation
relation_of (k.Sign m.Same) = rel.Equal
relation_of (k.Sign m.Differs) = rel.NotEqual
relation_of (k.Sign m.Less) = rel.Less
relation_of (k.Sign m.AtMost) = rel.AtMost
relation_of (k.Sign m.More) = rel.More
relation_of (k.Sign m.AtLeast) = rel.AtLeast
relation_of _ = rel.Equal

-- what the word before a declared name says of it; the grammar asks it of no other token
abbrev pub role_of : TokenKind → DeclKind
role_of (k.Word w.Input) = role.Input
role_of (k.Word w.Output) = role.Output
role_of (k.Word w.Temp) = role.Temp
role_of _ = role.Temp
