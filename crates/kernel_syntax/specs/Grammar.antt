-- The grammar of a kernel, rule by rule. The number of a rule says how many parts may still be opened in one another there: a rule
-- that opens a part is there only where the number is above 0, and what it opens has one less.
use Rattle.std.specs.Prelude.{ℕ, zero, suc, List}
use Rattle.kernel_lexer.specs.declared.token.Keyword.TheVariants as w
use Rattle.kernel_lexer.specs.declared.token.Mark.TheVariants as m
use Rattle.kernel_lexer.specs.declared.token.Token.{Token}
use Rattle.kernel_syntax.specs.declared.raw.RawSize.{RawSize}
use Rattle.kernel_syntax.specs.declared.raw.RawDecl.{RawDecl}
use Rattle.kernel_syntax.specs.declared.raw.RawIndex.{RawIndex}
use Rattle.kernel_syntax.specs.declared.raw.RawPlace.{RawPlace}
use Rattle.kernel_syntax.specs.declared.raw.RawExpr.{RawExpr}
use Rattle.kernel_syntax.specs.declared.raw.RawExpr.TheVariants as node
use Rattle.kernel_syntax.specs.declared.raw.RawLoop.{RawLoop}
use Rattle.kernel_syntax.specs.declared.raw.RawBranch.{RawBranch}
use Rattle.kernel_syntax.specs.declared.raw.RawStmt.{RawStmt}
use Rattle.kernel_syntax.specs.declared.raw.RawKernel.{RawKernel}
use Rattle.kernel_syntax.specs.Tokens.{is_name, is_number, word, sign, is_role, is_pair, is_triple, is_relation, is_operator}
use Rattle.kernel_syntax.specs.Trees as tree
use Rattle.token_grammar.specs.Phrases.{Phrase, One, Both, Either, Made, Many, Maybe}

-- ---- chains and brackets

-- an operator of the rank, and the part behind it
abbrev pub Linked : {E L : Type 0} → (Token × E → L) → ℕ → Phrase Token E → Phrase Token L
Linked link rank R = Made link (Both (One (is_operator rank)) R)

-- parts with operators of the rank between them
abbrev pub Chained : {E L : Type 0} → (Token × E → L) → (E × List L → E) → ℕ → Phrase Token E → Phrase Token E
Chained link chain rank R = Made chain (Both R (Many (Linked link rank R)))

-- The levels of operators up to a rank: each is a chain of parts of the level below, and the lowest are the operands.
abbrev pub Ranked : {E L : Type 0} → (Token × E → L) → (E × List L → E) → ℕ → Phrase Token E → Phrase Token E
Ranked link chain zero R = R
Ranked link chain (suc rank) R = Chained link chain (suc rank) (Ranked link chain rank R)

-- "[" part "]"
abbrev pub Bracket : {A B : Type 0} → (Token × (A × Token) → B) → Phrase Token A → Phrase Token B
Bracket make R = Made make (Both (One (sign m.OpenBracket)) (Both R (One (sign m.CloseBracket))))

-- [ bracket [ bracket ] ]
abbrev pub Brackets : {A : Type 0} → Phrase Token A → Phrase Token (List A)
Brackets R = Made tree.listed (Maybe (Both R (Maybe R)))

-- ---- indices

-- number | name
abbrev pub IndexLeaf : Phrase Token RawIndex
IndexLeaf = Either (Made tree.index_number (One is_number)) (Made tree.index_name (One is_name))

-- index = iprod { ( "+" | "-" ) iprod }, iprod = iun { "*" iun }
abbrev pub IndexOf : Phrase Token RawIndex → Phrase Token RawIndex
IndexOf R = Ranked tree.index_link tree.index_chain 2 R

-- "-" iun
abbrev pub IndexNegated : Phrase Token RawIndex → Phrase Token RawIndex
IndexNegated R = Made tree.index_minus (Both (One (sign m.Minus)) R)

-- "(" index ")"
abbrev pub IndexGroup : Phrase Token RawIndex → Phrase Token RawIndex
IndexGroup R = Made tree.index_group (Both (One (sign m.OpenParen)) (Both R (One (sign m.CloseParen))))

-- a part of an index that a token opens
abbrev pub IndexOpened : Phrase Token RawIndex → Phrase Token RawIndex
IndexOpened R = Either (IndexNegated R) (IndexGroup (IndexOf R))

-- iun = "-" iun | number | name | "(" index ")"
abbrev pub IndexUnary : ℕ → Phrase Token RawIndex
IndexUnary zero = IndexLeaf
IndexUnary (suc d) = Either (IndexOpened (IndexUnary d)) IndexLeaf

-- index, as a rule of its own
abbrev pub Index : ℕ → Phrase Token RawIndex
Index d = IndexOf (IndexUnary d)

-- ---- expressions

-- place = name [ "[" index "]" [ "[" index "]" ] ]
abbrev pub Place : ℕ → Phrase Token RawPlace
Place d = Made tree.place (Both (One is_name) (Brackets (Bracket tree.inside (Index d))))

-- number | place
abbrev pub Leaf : ℕ → Phrase Token RawExpr
Leaf d = Either (Made tree.number (One is_number)) (Made node.Place (Place d))

-- expr = xor { "|" xor }, xor = and { "^" and }, and = sum { "&" sum }, sum = product { ( "+" | "-" ) product }, product = unary { "*" unary }
abbrev pub ExprOf : Phrase Token RawExpr → Phrase Token RawExpr
ExprOf R = Ranked tree.link tree.chain 5 R

-- "-" unary
abbrev pub Negated : Phrase Token RawExpr → Phrase Token RawExpr
Negated R = Made tree.minus (Both (One (sign m.Minus)) R)

-- "(" expr ")"
abbrev pub Group : Phrase Token RawExpr → Phrase Token RawExpr
Group R = Made tree.inside (Both (One (sign m.OpenParen)) (Both R (One (sign m.CloseParen))))

-- ( "min" | "max" ) "(" expr "," expr ")"
abbrev pub Pair : Phrase Token RawExpr → Phrase Token RawExpr
Pair R = Made tree.pair (Both (One is_pair) (Both (One (sign m.OpenParen)) (Both R (Both (One (sign m.Comma)) (Both R (One (sign m.CloseParen)))))))

-- ( "sel" | "mad" ) "(" expr "," expr "," expr ")"
abbrev pub Triple : Phrase Token RawExpr → Phrase Token RawExpr
Triple R = Made tree.triple (Both (One is_triple) (Both (One (sign m.OpenParen)) (Both R (Both (One (sign m.Comma)) (Both R (Both (One (sign m.Comma)) (Both R (One (sign m.CloseParen)))))))))

-- a part of an expression that a token opens
abbrev pub Opened : Phrase Token RawExpr → Phrase Token RawExpr
Opened R = Either (Negated R) (Either (Group (ExprOf R)) (Either (Pair (ExprOf R)) (Triple (ExprOf R))))

-- unary = "-" unary | atom
abbrev pub Unary : ℕ → Phrase Token RawExpr
Unary zero = Leaf 0
Unary (suc d) = Either (Opened (Unary d)) (Leaf (suc d))

-- expr, as a rule of its own
abbrev pub Expr : ℕ → Phrase Token RawExpr
Expr d = ExprOf (Unary d)

-- ---- statements

-- place "=" expr ";"
abbrev pub Assigned : ℕ → Phrase Token RawStmt
Assigned d = Made tree.assign (Both (Place d) (Both (One (sign m.Assign)) (Both (Expr d) (One (sign m.Semicolon)))))

-- "{" { stmt } "}"
abbrev pub Block : Phrase Token RawStmt → Phrase Token (List RawStmt)
Block R = Made tree.inside (Both (One (sign m.OpenBrace)) (Both (Many R) (One (sign m.CloseBrace))))

-- "by" index
abbrev pub Step : ℕ → Phrase Token RawIndex
Step d = Made tree.behind (Both (One (word w.By)) (Index d))

-- "for" name "in" index ".." index [ "by" index ]
abbrev pub Header : ℕ → Phrase Token RawLoop
Header d = Made tree.header (Both (One (word w.Loop)) (Both (One is_name) (Both (One (word w.Input)) (Both (Index d) (Both (One (sign m.Dots)) (Both (Index d) (Maybe (Step d))))))))

-- the header of a loop, and its body
abbrev pub Looped : ℕ → Phrase Token RawStmt → Phrase Token RawStmt
Looped d R = Made tree.loop (Both (Header d) (Block R))

-- "if" index rel index
abbrev pub Condition : ℕ → Phrase Token RawBranch
Condition d = Made tree.condition (Both (One (word w.If)) (Both (Index d) (Both (One is_relation) (Index d))))

-- "else" "{" { stmt } "}"
abbrev pub Otherwise : Phrase Token RawStmt → Phrase Token (List RawStmt)
Otherwise R = Made tree.behind (Both (One (word w.Else)) (Block R))

-- the condition of a branch, and its bodies
abbrev pub Branched : ℕ → Phrase Token RawStmt → Phrase Token RawStmt
Branched d R = Made tree.branch (Both (Condition d) (Both (Block R) (Maybe (Otherwise R))))

-- a loop or a branch
abbrev pub Nested : ℕ → Phrase Token RawStmt → Phrase Token RawStmt
Nested d R = Either (Looped d R) (Branched d R)

-- stmt = place "=" expr ";" | "for" name "in" index ".." index [ "by" index ] "{" { stmt } "}"
--      | "if" index rel index "{" { stmt } "}" [ "else" "{" { stmt } "}" ]
abbrev pub Statement : ℕ → Phrase Token RawStmt
Statement zero = Assigned 0
Statement (suc d) = Either (Nested d (Statement d)) (Assigned (suc d))

-- ---- kernels

-- "[" number "]"
abbrev pub Size : Phrase Token RawSize
Size = Bracket tree.size (One is_number)

-- decl = ( "in" | "out" | "tmp" ) name [ "[" number "]" [ "[" number "]" ] ] ";"
abbrev pub Declared : Phrase Token RawDecl
Declared = Made tree.declare (Both (One is_role) (Both (One is_name) (Both (Brackets Size) (One (sign m.Semicolon)))))

-- kernel = "kernel" name "{" { decl } { stmt } "}"
abbrev pub Whole : ℕ → Phrase Token RawKernel
Whole d = Made tree.kernel (Both (One (word w.Kernel)) (Both (One is_name) (Both (One (sign m.OpenBrace)) (Both (Many Declared) (Both (Many (Statement d)) (One (sign m.CloseBrace)))))))
