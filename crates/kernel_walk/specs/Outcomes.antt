-- What a call that may want memory says of an outcome of the meaning. A result is the outcome, a fault is the outcome's, and nothing is
-- said where memory was wanted.
use Rattle.std.specs.Prelude.{◌≡◌, Result, Ok, Err, Option, Some, None}
use Rattle.kernel_ast.specs.declared.element.Fault.{Fault}
use Rattle.kernel_walk.specs.declared.stop.Stop.{Stop}
use Rattle.kernel_walk.specs.declared.stop.Stop.TheVariants as stop

-- the outcome is what the call leaves
abbrev pub Gives : {S : Type 0} → Result S Fault → S → Result Unit Stop → Type 0
Gives outcome new (Ok u) = outcome ≡ Ok new
Gives outcome new (Err (stop.Fault f)) = outcome ≡ Err f
Gives outcome new (Err stop.NoMemory) = Unit {0}

-- the outcome is what the call answers, and what it leaves
abbrev pub Yields : {A S : Type 0} → Result (A × S) Fault → S → Result A Stop → Type 0
Yields outcome new (Ok a) = outcome ≡ Ok (a, new)
Yields outcome new (Err (stop.Fault f)) = outcome ≡ Err f
Yields outcome new (Err stop.NoMemory) = Unit {0}

-- the outcome is what the call answers
abbrev pub Answers : {A : Type 0} → Result A Fault → Result A Stop → Type 0
Answers outcome (Ok a) = outcome ≡ Ok a
Answers outcome (Err (stop.Fault f)) = outcome ≡ Err f
Answers outcome (Err stop.NoMemory) = Unit {0}

-- the outcome is what is seen of the call's answer
abbrev pub AnswersAs : {A B : Type 0} → Result B Fault → (A → B) → Result A Stop → Type 0
AnswersAs outcome seen (Ok a) = outcome ≡ Ok (seen a)
AnswersAs outcome seen (Err (stop.Fault f)) = outcome ≡ Err f
AnswersAs outcome seen (Err stop.NoMemory) = Unit {0}

-- the call answers a fault where there is one
abbrev pub Finds : {A : Type 0} → Option Fault → Result A Stop → Type 0
Finds fault (Ok a) = fault ≡ None
Finds fault (Err (stop.Fault f)) = fault ≡ Some f
Finds fault (Err stop.NoMemory) = Unit {0}
