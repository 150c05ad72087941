-- The readers of the grammar's rules, one for each rule of the same name.
use Rattle.std.specs.Prelude.{◌++◌, ℕ, zero, suc, Bool, List, [], ◌∷◌, Option}
use Rattle.kernel_lexer.specs.declared.token.Keyword.TheVariants as w
use Rattle.kernel_lexer.specs.declared.token.Mark.{Mark}
use Rattle.kernel_lexer.specs.declared.token.Mark.TheVariants as m
use Rattle.kernel_lexer.specs.declared.token.Token.{Token}
use Rattle.kernel_syntax.specs.declared.raw.RawSize.{RawSize}
use Rattle.kernel_syntax.specs.declared.raw.RawDecl.{RawDecl}
use Rattle.kernel_syntax.specs.declared.raw.RawIndex.{RawIndex}
use Rattle.kernel_syntax.specs.declared.raw.RawPlace.{RawPlace}
use Rattle.kernel_syntax.specs.declared.raw.RawExpr.{RawExpr}
use Rattle.kernel_syntax.specs.declared.raw.RawExpr.TheVariants as node
use Rattle.kernel_syntax.specs.declared.raw.RawLoop.{RawLoop}
use Rattle.kernel_syntax.specs.declared.raw.RawBranch.{RawBranch}
use Rattle.kernel_syntax.specs.declared.raw.RawStmt.{RawStmt}
use Rattle.kernel_syntax.specs.declared.raw.RawKernel.{RawKernel}
use Rattle.kernel_syntax.specs.Tokens.{is_name, is_number, word, sign, is_role, is_pair, is_triple, opens_index, opens, opens_statement, starts, is_relation, is_operator, op_of}
use Rattle.kernel_syntax.specs.Trees as tree
use Rattle.token_grammar.specs.Readers.{Reader, and_then, sees, one, deep, both, made, either, many, maybe, closed}

-- ---- chains and brackets

abbrev pub linked : {E L : Type 0} → (Token × E → L) → ℕ → Reader Token E → Reader Token L
linked link rank p = made link (both (one (is_operator rank)) p)

abbrev pub links : {E L : Type 0} → (Token × E → L) → ℕ → Reader Token E → Reader Token (List L)
links link rank p = many (sees (is_operator rank)) (linked link rank p)

abbrev pub chained : {E L : Type 0} → (Token × E → L) → (E × List L → E) → ℕ → Reader Token E → Reader Token E
chained link chain rank p = made chain (both p (links link rank p))

abbrev pub ranked : {E L : Type 0} → (Token × E → L) → (E × List L → E) → ℕ → Reader Token E → Reader Token E
ranked link chain zero p = p
ranked link chain (suc rank) p = chained link chain (suc rank) (ranked link chain rank p)

abbrev pub bracket : {A B : Type 0} → (Token × (A × Token) → B) → Reader Token A → Reader Token B
bracket make p = made make (both (one (sign m.OpenBracket)) (both p (one (sign m.CloseBracket))))

-- behind two brackets stands no third
abbrev pub brackets : {A : Type 0} → Reader Token A → Reader Token (List A)
brackets p = made tree.listed (maybe (sees (sign m.OpenBracket)) (both p (maybe (sees (sign m.OpenBracket)) (closed (sees (sign m.OpenBracket)) p))))

-- ---- indices

abbrev pub index_leaf : Reader Token RawIndex
index_leaf = either (sees is_number) (made tree.index_number (one is_number)) (made tree.index_name (one is_name))

abbrev pub index_of : Reader Token RawIndex → Reader Token RawIndex
index_of p = ranked tree.index_link tree.index_chain 2 p

abbrev pub index_negated : Reader Token RawIndex → Reader Token RawIndex
index_negated p = made tree.index_minus (both (one (sign m.Minus)) p)

abbrev pub index_group : Reader Token RawIndex → Reader Token RawIndex
index_group p = made tree.index_group (both (one (sign m.OpenParen)) (both p (one (sign m.CloseParen))))

abbrev pub index_opened : Reader Token RawIndex → Reader Token RawIndex
index_opened p = either (sees (sign m.Minus)) (index_negated p) (index_group (index_of p))

abbrev pub index_unary : ℕ → Reader Token RawIndex
index_unary zero = either (sees opens_index) deep index_leaf
index_unary (suc d) = either (sees opens_index) (index_opened (index_unary d)) index_leaf

abbrev pub index : ℕ → Reader Token RawIndex
index d = index_of (index_unary d)

-- ---- expressions

-- a last token of an expression that is no place: no bracket stands behind it
abbrev pub last : (Token → Bool) → Reader Token Token
last passes = closed (sees (sign m.OpenBracket)) (one passes)

abbrev pub place : ℕ → Reader Token RawPlace
place d = made tree.place (both (one is_name) (brackets (bracket tree.inside (index d))))

abbrev pub leaf : ℕ → Reader Token RawExpr
leaf d = either (sees is_number) (made tree.number (last is_number)) (made node.Place (place d))

abbrev pub expr_of : Reader Token RawExpr → Reader Token RawExpr
expr_of p = ranked tree.link tree.chain 5 p

abbrev pub negated : Reader Token RawExpr → Reader Token RawExpr
negated p = made tree.minus (both (one (sign m.Minus)) p)

abbrev pub group : Reader Token RawExpr → Reader Token RawExpr
group p = made tree.inside (both (one (sign m.OpenParen)) (both p (last (sign m.CloseParen))))

-- a sign and the argument after it, which joins those before
abbrev pub argument : Mark → List RawExpr → Reader Token RawExpr → Reader Token (List RawExpr)
argument mark before p = made (λ q. before ++ q.1 ∷ []) (both (one (sign mark)) p)

-- the last argument of a call, of which the word and the arguments before it are read
abbrev pub last_argument : Token → List RawExpr → Reader Token RawExpr → Reader Token RawExpr
last_argument word before p = made (λ q. node.Call (op_of word.kind) q.0 word.from) (both (argument m.Comma before p) (last (sign m.CloseParen)))

abbrev pub pair : Reader Token RawExpr → Reader Token RawExpr
pair p = made tree.pair (both (one is_pair) (both (one (sign m.OpenParen)) (both p (both (one (sign m.Comma)) (both p (last (sign m.CloseParen)))))))

abbrev pub triple : Reader Token RawExpr → Reader Token RawExpr
triple p = made tree.triple (both (one is_triple) (both (one (sign m.OpenParen)) (both p (both (one (sign m.Comma)) (both p (both (one (sign m.Comma)) (both p (last (sign m.CloseParen)))))))))

-- the reader of a pair, argument by argument
abbrev pub pair_by_arguments : Reader Token RawExpr → Reader Token RawExpr
pair_by_arguments p ts = and_then (one is_pair ts) (λ word behind. and_then (argument m.OpenParen [] p behind) (λ args rest. last_argument word args p rest))

-- and that of a triple
abbrev pub triple_by_arguments : Reader Token RawExpr → Reader Token RawExpr
triple_by_arguments p ts =
    and_then (one is_triple ts) (λ word behind.
    and_then (argument m.OpenParen [] p behind) (λ args more.
    and_then (argument m.Comma args p more) (λ two rest. last_argument word two p rest)))

abbrev pub opened : Reader Token RawExpr → Reader Token RawExpr
opened p = either (sees (sign m.Minus)) (negated p) (either (sees (sign m.OpenParen)) (group (expr_of p)) (either (sees is_pair) (pair (expr_of p)) (triple (expr_of p))))

abbrev pub unary : ℕ → Reader Token RawExpr
unary zero = either (sees opens) deep (leaf 0)
unary (suc d) = either (sees opens) (opened (unary d)) (leaf (suc d))

abbrev pub expr : ℕ → Reader Token RawExpr
expr d = expr_of (unary d)

-- ---- statements

-- behind a statement stands no `else`
abbrev pub whole_statement : {A : Type 0} → Reader Token A → Reader Token A
whole_statement p = closed (sees (word w.Else)) p

abbrev pub assigned : ℕ → Reader Token RawStmt
assigned d = made tree.assign (both (place d) (both (one (sign m.Assign)) (both (expr d) (whole_statement (one (sign m.Semicolon))))))

abbrev pub block : Reader Token RawStmt → Reader Token (List RawStmt)
block p = made tree.inside (both (one (sign m.OpenBrace)) (both (many (sees starts) p) (one (sign m.CloseBrace))))

-- behind a step stands no other
abbrev pub step : ℕ → Reader Token RawIndex
step d = made tree.behind (both (one (word w.By)) (closed (sees (word w.By)) (index d)))

-- the upper bound and the step of a loop
abbrev pub limits : ℕ → Reader Token (RawIndex × Option RawIndex)
limits d = made tree.behind (both (one (sign m.Dots)) (both (index d) (maybe (sees (word w.By)) (step d))))

-- the bounds and the step of a loop, of which the word and the name are read
abbrev pub bounds : ℕ → Token → Token → Reader Token RawLoop
bounds d first name = made (λ q. tree.header (first, (name, (first, (q.0, (first, q.1)))))) (both (index d) (limits d))

abbrev pub header : ℕ → Reader Token RawLoop
header d = made tree.header (both (one (word w.Loop)) (both (one is_name) (both (one (word w.Input)) (both (index d) (both (one (sign m.Dots)) (both (index d) (maybe (sees (word w.By)) (step d))))))))

abbrev pub looped : ℕ → Reader Token RawStmt → Reader Token RawStmt
looped d p = made tree.loop (both (header d) (whole_statement (block p)))

abbrev pub condition : ℕ → Reader Token RawBranch
condition d = made tree.condition (both (one (word w.If)) (both (index d) (both (one is_relation) (index d))))

abbrev pub otherwise : Reader Token RawStmt → Reader Token (List RawStmt)
otherwise p = made tree.behind (both (one (word w.Else)) (whole_statement (block p)))

abbrev pub branched : ℕ → Reader Token RawStmt → Reader Token RawStmt
branched d p = made tree.branch (both (condition d) (both (block p) (maybe (sees (word w.Else)) (otherwise p))))

abbrev pub nested : ℕ → Reader Token RawStmt → Reader Token RawStmt
nested d p = either (sees (word w.Loop)) (looped d p) (branched d p)

abbrev pub statement : ℕ → Reader Token RawStmt
statement zero = either (sees opens_statement) deep (assigned 0)
statement (suc d) = either (sees opens_statement) (nested d (statement d)) (assigned (suc d))

-- ---- kernels

abbrev pub size : Reader Token RawSize
size = bracket tree.size (one is_number)

abbrev pub declared : Reader Token RawDecl
declared = made tree.declare (both (one is_role) (both (one is_name) (both (brackets size) (one (sign m.Semicolon)))))

abbrev pub whole : ℕ → Reader Token RawKernel
whole d = made tree.kernel (both (one (word w.Kernel)) (both (one is_name) (both (one (sign m.OpenBrace)) (both (many (sees is_role) declared) (both (many (sees starts) (statement d)) (one (sign m.CloseBrace)))))))
