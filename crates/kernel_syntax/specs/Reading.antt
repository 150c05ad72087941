-- What a function of the parser owes its reader.
use Rattle.std.specs.Prelude.{◌≡◌, ℕ, List, [], ◌∷◌, Result, Ok, Err}
use Rattle.kernel_lexer.specs.declared.token.Token.{Token}
use Rattle.kernel_syntax.specs.declared.cursor.Cursor.{Cursor}
use Rattle.kernel_syntax.specs.declared.cursor.ReadStop.{ReadStop}
use Rattle.kernel_syntax.specs.declared.cursor.ReadStop.TheVariants.{NoMemory, Fault}
use Rattle.token_grammar.specs.Readers.{Read, Got, Bad}

-- the tokens that a cursor has not read
abbrev pub tokens_of : Cursor → List Token
tokens_of c = c.ahead.now

-- The function answers as the reader does, unless memory fails. At a fault the cursor stands before its token.
abbrev pub Follows : {A : Type 0} → Read Token A → Result A ReadStop → List Token → Type 0
Follows read (Ok a) new = read ≡ Got a new
Follows read (Err NoMemory) new = Unit {0}
Follows read (Err (Fault c)) new = read ≡ Bad c new

-- the place of a fault: its token's, or the text's end
abbrev pub place_of : ℕ → List Token → ℕ
place_of end [] = end
place_of end (t ∷ ts) = t.from
