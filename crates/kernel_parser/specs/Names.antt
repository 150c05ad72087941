-- What the names of a kernel stand for, and all faults of its names, as they are read (this project's convention).
use Rattle.std.specs.Prelude.{ℕ, ℤ, pos, int_le, Bool, ◌&&◌, ◌==◌, List, [], ◌∷◌, ◌++◌, map, length, Option, Some, None, position, slice_get, slice_range, bytes_eq, unsigned_abs}
use Rattle.kernel_ast.specs.KernelParts.{Declared}
use Rattle.kernel_ast.specs.WellFormed.{has_sizes, is_writable}
use Rattle.kernel_parser.specs.declared.names.scope.NameMeaning.{NameMeaning}
use Rattle.kernel_parser.specs.declared.names.scope.NameMeaning.TheVariants.{Turn, Element, Unknown}
use Rattle.kernel_parser.specs.declared.names.fault.NameRule.TheVariants as faults
use Rattle.kernel_ast.specs.Walk.{joined}
use Rattle.kernel_parser.specs.NameFaults.{NameFault, fault, unless}
use Rattle.kernel_syntax.specs.declared.raw.Span.{Span}
use Rattle.kernel_syntax.specs.declared.raw.RawSize.{RawSize}
use Rattle.kernel_syntax.specs.declared.raw.RawDecl.{RawDecl}
use Rattle.kernel_syntax.specs.declared.raw.RawIndexTree.{RawIndexTree, fold-RawIndexTree}
use Rattle.kernel_syntax.specs.declared.raw.RawIndexTree.TheOpen as index
use Rattle.kernel_syntax.specs.declared.raw.RawIndexTree.TheFolds.{fold-RawIndexLink}
use Rattle.kernel_syntax.specs.declared.raw.RawIndexLink.{RawIndexLink}
use Rattle.kernel_syntax.specs.declared.raw.RawIndex.{RawIndex}
use Rattle.kernel_syntax.specs.declared.raw.RawPlace.{RawPlace}
use Rattle.kernel_syntax.specs.declared.raw.RawExpr.{RawExpr, fold-RawExpr}
use Rattle.kernel_syntax.specs.declared.raw.RawExpr.TheOpen.{RawExpr-F, RawLink-F, Number, Place, Minus, Chain, Call}
use Rattle.kernel_syntax.specs.declared.raw.RawExpr.TheFolds.{fold-RawLink}
use Rattle.kernel_syntax.specs.declared.raw.RawLink.{RawLink}
use Rattle.kernel_syntax.specs.declared.raw.RawLoop.{RawLoop}
use Rattle.kernel_syntax.specs.declared.raw.RawBranch.{RawBranch}
use Rattle.kernel_syntax.specs.declared.raw.RawStmt.{RawStmt, fold-RawStmt}
use Rattle.kernel_syntax.specs.declared.raw.RawStmt.TheOpen.{RawStmt-F, Assign, Loop, Branch}
use Rattle.kernel_syntax.specs.declared.raw.RawKernel.{RawKernel}

-- ---- what names stand for

-- what is known where a name stands: the text, the declarations, and the names of the open loops, from outside
pub record Known : Type 0 where
  pub text : List ℕ
  pub decls : List Declared
  pub loops : List (List ℕ)

-- the bytes of a stretch of the text
abbrev pub word : List ℕ → Span → List ℕ
word text s = slice_range text s.from s.to

-- the number of the open loop of this name, from outside
abbrev pub open_at : List (List ℕ) → List ℕ → Option ℕ
open_at loops name = position (λ other. bytes_eq other name) loops

-- the number of the declaration of this name
abbrev pub declared_at : List Declared → List ℕ → Option ℕ
declared_at decls name = position (bytes_eq name) (map (λ d. d.0) decls)

-- an open loop stands before a declaration
abbrev pub name_meaning_by : Option ℕ → Option ℕ → NameMeaning
name_meaning_by (Some k) d = Turn k
name_meaning_by None (Some d) = Element d
name_meaning_by None None = Unknown

-- what the name stands for
abbrev pub name_meaning : Known → Span → NameMeaning
name_meaning known s = name_meaning_by (open_at known.loops (word known.text s)) (declared_at known.decls (word known.text s))

-- ---- faults

-- in an index only open loops are known
abbrev pub index_name_faults : NameMeaning → ℕ → List NameFault
index_name_faults (Turn k) at = []
index_name_faults (Element d) at = fault faults.Unknown at ∷ []
index_name_faults Unknown at = fault faults.Unknown at ∷ []

-- one layer of an index
abbrev pub index_faults_step : Known → index.RawIndexTree-F (List NameFault) (List NameFault) → List NameFault
index_faults_step known (index.Number n) = []
index_faults_step known (index.Name s) = index_name_faults (name_meaning known s) s.from
index_faults_step known (index.Minus value) = value
index_faults_step known (index.Chain left rest) = left ++ joined rest

-- an operator of an index, with the faults of its right operand
abbrev pub index_link_step : index.RawIndexLink-F (List NameFault) (List NameFault) → List NameFault
index_link_step l = l.value

-- the faults of an index's tree
abbrev pub index_tree_faults : Known → RawIndexTree → List NameFault
index_tree_faults known = fold-RawIndexTree (List NameFault) (List NameFault) (index_faults_step known) index_link_step

-- the faults of an operator of an index with its right operand
abbrev pub index_link_faults : Known → RawIndexLink → List NameFault
index_link_faults known = fold-RawIndexLink (List NameFault) (List NameFault) (index_faults_step known) index_link_step

-- the faults of an index
abbrev pub index_faults : Known → RawIndex → List NameFault
index_faults known i = index_tree_faults known i.tree

-- the faults of indices, from left to right
abbrev pub indices_faults : Known → List RawIndex → List NameFault
indices_faults known is = joined (map (index_faults known) is)

-- the faults of a name with so many indices in an expression: an open loop has none, an element as many as it has sizes
abbrev pub read_faults : List Declared → NameMeaning → ℕ → ℕ → List NameFault
read_faults decls (Turn k) count at = unless (count == 0) faults.Indices at
read_faults decls (Element d) count at = unless (has_sizes count (slice_get decls d)) faults.Indices at
read_faults decls Unknown count at = fault faults.Unknown at ∷ []

-- the faults of a name with so many indices that is assigned to: it is an element and no input
abbrev pub target_faults : List Declared → NameMeaning → ℕ → ℕ → List NameFault
target_faults decls (Turn k) count at = fault faults.NotWritable at ∷ []
target_faults decls (Element d) count at = unless (is_writable (slice_get decls d)) faults.NotWritable at ++ unless (has_sizes count (slice_get decls d)) faults.Indices at
target_faults decls Unknown count at = fault faults.Unknown at ∷ []

-- the faults of a place in an expression: of its name, and of its indices
abbrev pub place_faults : Known → RawPlace → List NameFault
place_faults known p = read_faults known.decls (name_meaning known p.name) (length p.indices) p.name.from ++ indices_faults known p.indices

-- the faults of a place that is assigned to
abbrev pub target_place_faults : Known → RawPlace → List NameFault
target_place_faults known p = target_faults known.decls (name_meaning known p.name) (length p.indices) p.name.from ++ indices_faults known p.indices

-- one layer of an expression
abbrev pub expr_faults_step : Known → RawExpr-F (List NameFault) (List NameFault) → List NameFault
expr_faults_step known (Number n) = []
expr_faults_step known (Place p) = place_faults known p
expr_faults_step known (Minus value at) = value
expr_faults_step known (Chain left rest) = left ++ joined rest
expr_faults_step known (Call op args at) = joined args

-- an operator, with the faults of its right operand
abbrev pub link_step : RawLink-F (List NameFault) (List NameFault) → List NameFault
link_step l = l.value

-- the faults of an expression
abbrev pub expr_faults : Known → RawExpr → List NameFault
expr_faults known = fold-RawExpr (List NameFault) (List NameFault) (expr_faults_step known) link_step

-- the faults of an operator with its right operand
abbrev pub link_faults : Known → RawLink → List NameFault
link_faults known = fold-RawLink (List NameFault) (List NameFault) (expr_faults_step known) link_step

-- a name that is made known must not be known yet
abbrev pub twice_faults : NameMeaning → ℕ → List NameFault
twice_faults (Turn k) at = fault faults.Twice at ∷ []
twice_faults (Element d) at = fault faults.Twice at ∷ []
twice_faults Unknown at = []

-- the faults of a step, if one is written
abbrev pub step_faults : Known → Option RawIndex → List NameFault
step_faults known None = []
step_faults known (Some by) = index_faults known by

-- the faults of what stands before a loop's body: the loop's name is not known there
abbrev pub header_faults : Known → RawLoop → List NameFault
header_faults known l = twice_faults (name_meaning known l.name) l.name.from ++ (index_faults known l.from ++ (index_faults known l.to ++ step_faults known l.by))

-- the faults of the sides of a branch
abbrev pub condition_faults : Known → RawBranch → List NameFault
condition_faults known b = index_faults known b.left ++ index_faults known b.right

-- what is known in this text, with these declarations and open loops
abbrev pub known_in : List ℕ → List Declared → List (List ℕ) → Known
known_in text decls loops = record { text = text; decls = decls; loops = loops }

-- the faults of the statements of a body, all in the same loops
abbrev pub all_in : List (List (List ℕ) → List NameFault) → List (List ℕ) → List NameFault
all_in [] loops = []
all_in (f ∷ fs) loops = f loops ++ all_in fs loops

-- the faults of an assignment: of its target, and of its value
abbrev pub assign_faults : Known → RawPlace → RawExpr → List NameFault
assign_faults known target value = target_place_faults known target ++ expr_faults known value

-- one layer of a statement in these loops: the name of a loop is known in its body
abbrev pub stmt_faults_step : List ℕ → List Declared → RawStmt-F (List (List ℕ) → List NameFault) → List (List ℕ) → List NameFault
stmt_faults_step text decls (Assign target value) loops = assign_faults (known_in text decls loops) target value
stmt_faults_step text decls (Loop header body) loops = header_faults (known_in text decls loops) header ++ all_in body (loops ++ word text header.name ∷ [])
stmt_faults_step text decls (Branch condition taken other) loops = condition_faults (known_in text decls loops) condition ++ (all_in taken loops ++ all_in other loops)

-- the faults of a statement in these loops
abbrev pub stmt_faults : List ℕ → List Declared → RawStmt → List (List ℕ) → List NameFault
stmt_faults text decls = fold-RawStmt (List (List ℕ) → List NameFault) (stmt_faults_step text decls)

-- the faults of a body in these loops
abbrev pub body_faults : List ℕ → List Declared → List RawStmt → List (List ℕ) → List NameFault
body_faults text decls body = all_in (map (stmt_faults text decls) body)

-- a size is from 1 to 64
abbrev pub is_size : ℤ → Bool
is_size n = int_le (pos 1) n && int_le n (pos 64)

-- the faults of a declaration's sizes, from left to right
abbrev pub sizes_faults : List RawSize → List NameFault
sizes_faults [] = []
sizes_faults (size ∷ more) = unless (is_size size.value) faults.BadSize size.at ++ sizes_faults more

-- a size as it is declared
abbrev pub size_of : RawSize → ℕ
size_of size = unsigned_abs size.value

-- a declaration with its name
abbrev pub declared : List ℕ → RawDecl → Declared
declared text d = (word text d.name, record { kind = d.kind; sizes = map size_of d.sizes; at = d.name.from })

-- the faults of declarations that stand behind others
abbrev pub decls_faults : List ℕ → List Declared → List RawDecl → List NameFault
decls_faults text earlier [] = []
decls_faults text earlier (d ∷ more) =
    (twice_faults (name_meaning (known_in text earlier []) d.name) d.name.from ++ sizes_faults d.sizes) ++ decls_faults text (earlier ++ declared text d ∷ []) more

-- all faults of the names of a kernel, as they are read
abbrev pub name_faults : List ℕ → RawKernel → List NameFault
name_faults text raw = decls_faults text [] raw.decls ++ body_faults text (map (declared text) raw.decls) raw.body []
