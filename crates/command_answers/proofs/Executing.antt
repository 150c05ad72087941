-- What `exec` answers to the values of a file.
use Rattle.std.proofs.Common.{◌≡◌, ◌≢◌, ◌+◌, ℕ, suc, ℤ, List, [], ◌∷◌, ◌++◌, length, map, None, Result, Ok, Err, IfOk, inl, inr, refl, sym, ap, ◌∙◌, subst}
use Rattle.std.specs.Prelude.{Vec}
use Rattle.std.specs.declared.alloc.Global.{Global}
use Rattle.desk_io.specs.Known.{ToldFile, TellsFile, TellsMoreFile, file_items}
use Rattle.plan_report.specs.OutputsText.{outputs_text}
use Rattle.scratch_machine.specs.declared.code.OutWord.{OutWord}
use Rattle.scratch_machine.specs.declared.machine.Ran.{Ran}
use Rattle.scratch_machine.specs.Cells.{Cells}
use Rattle.scratch_machine.specs.Codes.{CodeParts}
use Rattle.scratch_machine.specs.Exec.{IsEnding}
use Rattle.scratch_machine.specs.Machines.{Ending, Fault, Machine, and_then, begun, run_from, word_read, outputs_read, run}
use Rattle.values_text.specs.Values.{Spells}
use Rattle.command_answers.specs.declared.answer.Answer.{Answer}
use Rattle.command_answers.specs.declared.answer.FileBytes.{FileBytes}
use Rattle.command_answers.specs.declared.answer.FileBytes.TheVariants.{Whole, TooLong}
use Rattle.command_answers.specs.declared.status.Status.TheVariants.{Done, Values, ExecFault}
use Rattle.command_answers.specs.CodeInputs.{IsCodeInput}
use Rattle.command_answers.specs.ExecAnswers.{Executes, exec_fault_text, place_of, transfers_text}
use Rattle.command_answers.specs.MadeAnswers.{Meets, IsFileOf}
use Rattle.command_answers.specs.ValuesFiles.{HoldsValues, HoldsNone, values_fault_text}
use Rattle.command_answers.proofs.ToldBytes.{told_more_file}
use Rattle.command_answers.proofs.ValuesFiles.{no_room}

-- ---- runs

-- what goes on to an end went through its first part
went_on : {A B : Type 0} (r : Result A Fault) (f : A → Result B Fault) (b : B) → and_then r f ≡ Ok b → (a : A) × (r ≡ Ok a) × (f a ≡ Ok b)
went_on (Ok a) f b e = (a, refl, e)
went_on (Err x) f b e = absurd (cc)

-- as many outputs are read as there are
read_counted : (at : ℕ) (words : Cells ℤ) (os : List OutWord) (xs : List ℤ) → outputs_read at words os ≡ Ok xs → length xs ≡ length os
read_counted at words [] xs e = let same : [] ≡ xs = cc in sym (ap length same)
read_counted at words (o ∷ os) xs e =
    let one = went_on (word_read at (words o.word)) (λ x. and_then (outputs_read (at + 1) words os) (λ xs. Ok (x ∷ xs))) xs e in
    let rest = went_on (outputs_read (at + 1) words os) (λ xs. Ok (one.0 ∷ xs)) xs one.2 in
    let same : one.0 ∷ rest.0 ≡ xs = (let made = rest.2 in cc) in
    sym (ap length same) ∙ ap suc (read_counted (at + 1) words os rest.0 rest.1)

-- a run that comes to an end gives as many outputs as the code has
pub outputs_counted : (code : CodeParts) (values : List ℤ) (ending : Ending) → run code values ≡ Ok ending → length code.outputs ≡ length ending.outputs
outputs_counted code values ending e =
    let ran = went_on (run_from 0 (begun values) code.instructions) (λ m. and_then (outputs_read (length code.instructions) m.words code.outputs) (λ xs. Ok (record { outputs = xs; loads = m.loads; stores = m.stores }))) ending e in
    let m : Machine = ran.0 in
    let read = went_on (outputs_read (length code.instructions) m.words code.outputs) (λ xs. Ok (record { outputs = xs; loads = m.loads; stores = m.stores })) ending ran.2 in
    let made : record { outputs = read.0; loads = m.loads; stores = m.stores } ≡ ending = (let last = read.2 in cc) in
    sym (read_counted (length code.instructions) m.words code.outputs read.0 read.1) ∙ ap (λ (z : Ending). length z.outputs) made

-- ---- answers

-- an answer to each text that reads as the code, where the file holds these bytes
abbrev AnswersCode : CodeParts → List ℕ → Answer → Type 0
AnswersCode code bytes a = (text : List ℕ) (file : ToldFile) → IsCodeInput text code → TellsFile file bytes → Meets (Executes text file) a

is_wrong : (code : CodeParts) (bytes : List ℕ) (a : Answer) → a.status ≡ Values → a.text.items ≡ values_fault_text → file_items a.table ≡ None → HoldsNone (length code.inputs) bytes → AnswersCode code bytes a
is_wrong code bytes a is line none wrong text file input held =
    inr (inr (record { code = code; input = input; bytes = bytes; held = held; wrong = wrong; ends = is; line = line; none = none }))

-- the answer where the file holds no values of the code
pub wrong_values : {E : Type 0} (r : Result Answer E) (code : CodeParts) (bytes : List ℕ)
    → IfOk r (λ a. a.status ≡ Values) → IfOk r (λ a. a.text.items ≡ values_fault_text) → IfOk r (λ a. file_items a.table ≡ None) → HoldsNone (length code.inputs) bytes
    → IfOk r (AnswersCode code bytes)
wrong_values (Ok a) code bytes is line none wrong = is_wrong code bytes a is line none wrong
wrong_values (Err e) code bytes is line none wrong = tt

-- a file that spells another number of values holds none
pub wrong_count : (code : CodeParts) (bytes : List ℕ) (values : List ℤ) → ((others : List ℤ) → Spells bytes others → others ≡ values) → length values ≢ length code.inputs
    → HoldsNone (length code.inputs) bytes
wrong_count code bytes values only differ others file = differ (sym (ap length (only others file.spelled)) ∙ file.counted)

-- the answer where the run reads what is empty
pub empty_read : {E : Type 0} (r : Result Answer E) (code : CodeParts) (bytes : List ℕ) (values : List ℤ) (fault : Fault)
    → IfOk r (λ a. a.status ≡ ExecFault) → IfOk r (λ a. a.text.items ≡ exec_fault_text (place_of fault)) → IfOk r (λ a. file_items a.table ≡ None)
    → HoldsValues (length code.inputs) bytes values → run code values ≡ Err fault → IfOk r (AnswersCode code bytes)
empty_read (Ok a) code bytes values fault is line none given faults = λ text file input held.
    inr (inl (record { code = code; input = input; bytes = bytes; held = held; values = values; given = given; fault = fault; faults = faults; ends = is; line = line; none = none }))
empty_read (Err e) code bytes values fault is line none given faults = tt

-- the answer where the run comes to an end
pub run_to_end : {E : Type 0} (r : Result Answer E) (code : CodeParts) (bytes : List ℕ) (values : List ℤ) (ran : Ran)
    → IfOk r (λ a. a.status ≡ Done)
    → IfOk r (λ a. a.text.items ≡ outputs_text (map (λ (o : OutWord). o.label) code.outputs) ran.outputs.items ++ transfers_text ran.transfers) → IfOk r (λ a. file_items a.table ≡ None)
    → HoldsValues (length code.inputs) bytes values → IsEnding ran (run code values) → IfOk r (AnswersCode code bytes)
run_to_end (Ok a) code bytes values ran is lines none given end = λ text file input held. inl (record {
  code = code;
  input = input;
  bytes = bytes;
  held = held;
  values = values;
  given = given;
  ending = end.ending;
  runs = end.ends;
  ends = is;
  lines = lines ∙ (λ i. outputs_text (map (λ (o : OutWord). o.label) code.outputs) (end.outputs i) ++ transfers_text (end.transfers i));
  none = none;
})
run_to_end (Err e) code bytes values ran is lines none given end = tt

-- an answer to each text that reads as the code and each file that was read
abbrev AnswersRead : CodeParts → FileBytes → Answer → Type 0
AnswersRead code file a = (text : List ℕ) (held : ToldFile) → IsCodeInput text code → IsFileOf held 1000000 file → Meets (Executes text held) a

-- what answers the bytes of a file answers what was read of it
pub of_whole : {E : Type 0} (r : Result Answer E) (code : CodeParts) (file : FileBytes) (held : Vec ℕ Global) (bytes : List ℕ) → file ≡ Whole held → bytes ≡ held.items
    → IfOk r (AnswersCode code bytes) → IfOk r (AnswersRead code file)
of_whole (Ok a) code file held bytes is same h = λ text told input of_file. h text told input (subst (TellsFile told) (sym same) (subst (IsFileOf told 1000000) is of_file).0)
of_whole (Err e) code file held bytes is same h = tt

-- the answer where the file is too long
pub of_long : {E : Type 0} (r : Result Answer E) (code : CodeParts) (file : FileBytes) → file ≡ TooLong
    → IfOk r (λ a. a.status ≡ Values) → IfOk r (λ a. a.text.items ≡ values_fault_text) → IfOk r (λ a. file_items a.table ≡ None) → IfOk r (AnswersRead code file)
of_long (Ok a) code file too_long is line none = λ text told input of_file.
    let more : TellsMoreFile told 1000000 = subst (IsFileOf told 1000000) too_long of_file in
    let bytes = told_more_file told 1000000 more in
    is_wrong code bytes.0 a is line none (no_room (length code.inputs) bytes.0 bytes.2) text told input bytes.1
of_long (Err e) code file too_long is line none = tt
