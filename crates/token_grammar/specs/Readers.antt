-- Readers of phrases: what stands at the front of a list of tokens, or the first fault. One reader for each form of a phrase.
use Rattle.std.specs.Prelude.{◌++◌, ℕ, zero, suc, Bool, false, if◌then◌else◌, List, [], ◌∷◌, Option, Some, None, length}
use Rattle.token_grammar.specs.declared.fault.GrammarFault.{GrammarFault}
use Rattle.token_grammar.specs.declared.fault.GrammarFault.TheVariants.{Syntax, TooDeep}

-- what was read with the tokens after it, or a fault with the tokens from the fault on
pub data Read (T A : Type 0) : Type 0 where
  Got : A → List T → Read T A
  Bad : GrammarFault → List T → Read T A

-- A reader answers for each list of tokens.
abbrev pub Reader : Type 0 → Type 0 → Type 0
Reader T A = List T → Read T A

-- the next token, if there is one
abbrev pub first : {T : Type 0} → List T → Option T
first [] = None
first (t ∷ ts) = Some t

-- whether there is a next token, and it passes a test
abbrev pub sees : {T : Type 0} → (T → Bool) → Option T → Bool
sees passes None = false
sees passes (Some t) = passes t

-- what comes after a reading, unless that has a fault
abbrev pub and_then : {T A B : Type 0} → Read T A → (A → Reader T B) → Read T B
and_then (Got a rest) f = f a rest
and_then (Bad c rest) f = Bad c rest

-- one token that passes a test
abbrev pub one : {T : Type 0} → (T → Bool) → Reader T T
one passes [] = Bad Syntax []
one passes (t ∷ ts) = if passes t then Got t ts else Bad Syntax (t ∷ ts)

-- a part that may not be opened here
abbrev pub deep : {T A : Type 0} → Reader T A
deep ts = Bad TooDeep ts

-- one reader and then another
abbrev pub both : {T A B : Type 0} → Reader T A → Reader T B → Reader T (A × B)
both p q ts = and_then (p ts) (λ a mid. and_then (q mid) (λ b rest. Got (a, b) rest))

-- what is made of what was read
abbrev pub made : {T A B : Type 0} → (A → B) → Reader T A → Reader T B
made f p ts = and_then (p ts) (λ a rest. Got (f a) rest)

-- the first reader where the next token passes the test, and else the second
abbrev pub either : {T A : Type 0} → (Option T → Bool) → Reader T A → Reader T A → Reader T A
either test p q ts = if test (first ts) then p ts else q ts

-- at most so many turns of a reader, as long as the next token passes the test
abbrev pub many_by : {T A : Type 0} → ℕ → (Option T → Bool) → Reader T A → Reader T (List A)
many_by zero test p ts = Got [] ts
many_by (suc n) test p ts =
    if test (first ts) then and_then (p ts) (λ a mid. and_then (many_by n test p mid) (λ others rest. Got (a ∷ others) rest)) else Got [] ts

-- turns of a reader as long as the next token passes the test, of which there are enough for a reader that takes a token each turn
abbrev pub many : {T A : Type 0} → (Option T → Bool) → Reader T A → Reader T (List A)
many test p ts = many_by (length ts) test p ts

-- a list that goes on after what was found before
abbrev pub with_front : {T A : Type 0} → List A → Read T (List A) → Read T (List A)
with_front found read = and_then read (λ more rest. Got (found ++ more) rest)

-- a reader where the next token passes the test, and else nothing
abbrev pub maybe : {T A : Type 0} → (Option T → Bool) → Reader T A → Reader T (Option A)
maybe test p ts = if test (first ts) then and_then (p ts) (λ a rest. Got (Some a) rest) else Got None ts

-- what was read, unless a token that passes the test follows
abbrev pub closed : {T A : Type 0} → (Option T → Bool) → Reader T A → Reader T A
closed test p ts = and_then (p ts) (λ a rest. if test (first rest) then Bad Syntax rest else Got a rest)

-- A text ends with what was read: a token after it is a fault.
abbrev pub ended : {T A : Type 0} → Read T A → Read T A
ended (Got a []) = Got a []
ended (Got a (t ∷ ts)) = Bad Syntax (t ∷ ts)
ended (Bad c ts) = Bad c ts
