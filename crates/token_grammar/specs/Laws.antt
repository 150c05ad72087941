-- Laws of the small grammar, as what the general laws say of it. Calls of this crate carry them.
use Rattle.std.specs.Prelude.{◌≡◌, ℕ, ◌⊎◌, List}
use Rattle.token_grammar.specs.declared.fault.GrammarFault.{GrammarFault}
use Rattle.token_grammar.specs.Readers.{Got, Bad, ended}
use Rattle.token_grammar.specs.Faults.{IsGrammarFault}
use Rattle.token_grammar.specs.Nested.{Part, part}

-- A word has at most one value, whatever the levels.
abbrev pub OneReading : Type 0
OneReading = (d e : ℕ) (word : List ℕ) (a b : ℕ) → Part d word a → Part e word b → a ≡ b

-- A text has at most one first fault.
abbrev pub OneFault : Type 0
OneFault = (limit : ℕ) (f g : GrammarFault) (text r s : List ℕ) → IsGrammarFault Part limit f text r → IsGrammarFault Part limit g text s → (f ≡ g) × (r ≡ s)

-- No text within the limit has a fault.
abbrev pub NeverBoth : Type 0
NeverBoth = (limit : ℕ) (text : List ℕ) (a : ℕ) (f : GrammarFault) (rest : List ℕ) → Part limit text a → IsGrammarFault Part limit f text rest → ⊥

-- Each text has a value or a fault.
abbrev pub ReadingOrFault : Type 0
ReadingOrFault = (limit : ℕ) (text : List ℕ) → ((a : ℕ) × Part limit text a) ⊎ ((f : GrammarFault) × (rest : List ℕ) × IsGrammarFault Part limit f text rest)

-- What the reader gets is a value.
abbrev pub ReadsValue : Type 0
ReadsValue = (limit : ℕ) (text : List ℕ) (a : ℕ) (rest : List ℕ) → ended (part limit text) ≡ Got a rest → Part limit text a

-- Where the reader stops is the first fault.
abbrev pub StopsAtFault : Type 0
StopsAtFault = (limit : ℕ) (text : List ℕ) (f : GrammarFault) (rest : List ℕ) → ended (part limit text) ≡ Bad f rest → IsGrammarFault Part limit f text rest
