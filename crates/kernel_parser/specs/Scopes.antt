-- What the code of names knows and answers.
use Rattle.std.specs.Prelude.{◌≡◌, ℕ, List, Some}
use Rattle.kernel_ast.specs.KernelParts.{Declared}
use Rattle.kernel_parser.specs.declared.names.scope.Scope.{Scope}
use Rattle.kernel_parser.specs.declared.names.scope.Table.{Table}
use Rattle.kernel_parser.specs.declared.parse_end.ParseEnd.{ParseEnd}
use Rattle.kernel_parser.specs.declared.parse_end.ParseEnd.TheVariants.{Fault, NoMemory}
use Rattle.kernel_parser.specs.NameFaults.{NameFault}
use Rattle.token_grammar.specs.Readers.{first}
use Rattle.kernel_parser.specs.Names.{Known, known_in}

-- the declarations of a table, in order
abbrev pub entries : Table → List Declared
entries t = t.decls.now.entries

-- what is known under a table in these loops
abbrev pub known_under : Table → List (List ℕ) → Known
known_under t loops = known_in t.text.now (entries t) loops

-- what is known in a scope
abbrev pub known : Scope → Known
known s = known_under s.table.now s.loops.now

-- reading ends at the first of these faults, unless memory fails
abbrev pub EndsAt : List NameFault → ParseEnd → Type 0
EndsAt faults (Fault code at) = first faults ≡ Some (record { code = code; at = at })
EndsAt faults NoMemory = Unit {0}
