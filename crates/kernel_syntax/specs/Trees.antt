-- What is made of the parts of each rule: the tree of a kernel as it is written.
use Rattle.std.specs.Prelude.{List, [], ◌∷◌, Option, Some, None}
use Rattle.kernel_lexer.specs.declared.token.Token.{Token}
use Rattle.kernel_syntax.specs.declared.raw.RawSize.{RawSize}
use Rattle.kernel_syntax.specs.declared.raw.RawDecl.{RawDecl}
use Rattle.kernel_syntax.specs.declared.raw.RawIndexTree.TheVariants as tree
use Rattle.kernel_syntax.specs.declared.raw.RawIndexLink.{RawIndexLink, roll-RawIndexLink}
use Rattle.kernel_syntax.specs.declared.raw.RawIndex.{RawIndex}
use Rattle.kernel_syntax.specs.declared.raw.RawPlace.{RawPlace}
use Rattle.kernel_syntax.specs.declared.raw.RawExpr.{RawExpr}
use Rattle.kernel_syntax.specs.declared.raw.RawExpr.TheVariants as expr
use Rattle.kernel_syntax.specs.declared.raw.RawLink.{RawLink, roll-RawLink}
use Rattle.kernel_syntax.specs.declared.raw.RawStmt.{RawStmt}
use Rattle.kernel_syntax.specs.declared.raw.RawStmt.TheVariants as stmt
use Rattle.kernel_syntax.specs.declared.raw.RawLoop.{RawLoop}
use Rattle.kernel_syntax.specs.declared.raw.RawBranch.{RawBranch}
use Rattle.kernel_syntax.specs.declared.raw.RawKernel.{RawKernel}
use Rattle.kernel_syntax.specs.Tokens.{span, number_of, op_of, relation_of, role_of}

-- ---- brackets

-- none, one or two in a list
abbrev pub listed : {A : Type 0} → Option (A × Option A) → List A
listed None = []
listed (Some p) = with_second p.0 p.1
  where
    with_second : {A : Type 0} → A → Option A → List A
    with_second a None = a ∷ []
    with_second a (Some b) = a ∷ b ∷ []

-- what stands between an opening and a closing token
abbrev pub inside : {A : Type 0} → Token × (A × Token) → A
inside p = p.1.0

-- ---- indices

-- a number
abbrev pub index_number : Token → RawIndex
index_number t = record { at = t.from; tree = tree.Number (number_of t.kind) }

-- a name of an open loop
abbrev pub index_name : Token → RawIndex
index_name t = record { at = t.from; tree = tree.Name (span t) }

-- a minus sign and its operand
abbrev pub index_minus : Token × RawIndex → RawIndex
index_minus p = record { at = p.0.from; tree = tree.Minus p.1.tree }

-- an index in parentheses begins with the parenthesis
abbrev pub index_group : Token × (RawIndex × Token) → RawIndex
index_group p = record { at = p.0.from; tree = p.1.0.tree }

-- an operator and its right operand
abbrev pub index_link : Token × RawIndex → RawIndexLink
index_link p = roll-RawIndexLink (record { op = op_of p.0.kind; value = p.1.tree })

-- a chain without a link is its first part
abbrev pub index_chain : RawIndex × List RawIndexLink → RawIndex
index_chain p = chained p.0 p.1
  where
    chained : RawIndex → List RawIndexLink → RawIndex
    chained first [] = first
    chained first (l ∷ more) = record { at = first.at; tree = tree.Chain first.tree (l ∷ more) }

-- ---- expressions

-- a name and the indices in brackets
abbrev pub place : Token × List RawIndex → RawPlace
place p = record { name = span p.0; indices = p.1 }

-- a number
abbrev pub number : Token → RawExpr
number t = expr.Number (number_of t.kind)

-- a minus sign and its operand
abbrev pub minus : Token × RawExpr → RawExpr
minus p = expr.Minus p.1 p.0.from

-- a call of two arguments
abbrev pub pair : Token × (Token × (RawExpr × (Token × (RawExpr × Token)))) → RawExpr
pair p = expr.Call (op_of p.0.kind) (p.1.1.0 ∷ p.1.1.1.1.0 ∷ []) p.0.from

-- a call of three arguments
abbrev pub triple : Token × (Token × (RawExpr × (Token × (RawExpr × (Token × (RawExpr × Token)))))) → RawExpr
triple p = expr.Call (op_of p.0.kind) (p.1.1.0 ∷ p.1.1.1.1.0 ∷ p.1.1.1.1.1.1.0 ∷ []) p.0.from

-- an operator and its right operand
abbrev pub link : Token × RawExpr → RawLink
link p = roll-RawLink (record { op = op_of p.0.kind; value = p.1; at = p.0.from })

-- a chain without a link is its first part
abbrev pub chain : RawExpr × List RawLink → RawExpr
chain p = chained p.0 p.1
  where
    chained : RawExpr → List RawLink → RawExpr
    chained first [] = first
    chained first (l ∷ more) = expr.Chain first (l ∷ more)

-- ---- statements

-- a target and its value
abbrev pub assign : RawPlace × (Token × (RawExpr × Token)) → RawStmt
assign p = stmt.Assign p.0 p.1.1.0

-- what stands behind a token
abbrev pub behind : {A : Type 0} → Token × A → A
behind p = p.1

-- the name, the bounds and the step of a loop
abbrev pub header : Token × (Token × (Token × (RawIndex × (Token × (RawIndex × Option RawIndex))))) → RawLoop
header p = record { name = span p.1.0; from = p.1.1.1.0; to = p.1.1.1.1.1.0; by = p.1.1.1.1.1.1; at = p.0.from }

-- a loop and its body
abbrev pub loop : RawLoop × List RawStmt → RawStmt
loop p = stmt.Loop p.0 p.1

-- the sides of a branch
abbrev pub condition : Token × (RawIndex × (Token × RawIndex)) → RawBranch
condition p = record { left = p.1.0; rel = relation_of p.1.1.0.kind; right = p.1.1.1; at = p.0.from }

-- the second body of a branch, which is empty where none is written
abbrev pub or_none : Option (List RawStmt) → List RawStmt
or_none None = []
or_none (Some body) = body

-- a branch and its bodies
abbrev pub branch : RawBranch × (List RawStmt × Option (List RawStmt)) → RawStmt
branch p = stmt.Branch p.0 p.1.0 (or_none p.1.1)

-- ---- declarations and kernels

-- a size in brackets
abbrev pub size : Token × (Token × Token) → RawSize
size p = record { value = number_of p.1.0.kind; at = p.1.0.from }

-- a declaration
abbrev pub declare : Token × (Token × (List RawSize × Token)) → RawDecl
declare p = record { kind = role_of p.0.kind; name = span p.1.0; sizes = p.1.1.0 }

-- a kernel: its title, its declarations and its statements
abbrev pub kernel : Token × (Token × (Token × (List RawDecl × (List RawStmt × Token)))) → RawKernel
kernel p = record { title = span p.1.0; decls = p.1.1.1.0; body = p.1.1.1.1.0 }
