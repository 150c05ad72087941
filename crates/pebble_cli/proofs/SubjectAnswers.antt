-- How the answer of a command to its kernel becomes its answer to the input, as far as the desk tells it.
use Rattle.std.proofs.Common.{◌≡◌, ◌⊎◌, ◌≤◌, ◌∙◌, ℕ, true, false, List, [], Option, Some, None, Result, Err, inl, inr, refl, sym, ap, subst}
use Rattle.desk_io.specs.declared.desk.Kind.{Kind}
use Rattle.desk_io.specs.declared.desk.Kind.TheVariants.{TakeInput, TakeFile}
use Rattle.desk_io.specs.Counts.{Rose}
use Rattle.desk_io.specs.Known.{ToldFile, Tells}
use Rattle.kernel_gen.specs.Trials.{trial_kernel}
use Rattle.scratch_machine.specs.Codes.{CodeParts}
use Rattle.command_answers.specs.declared.answer.Answer.{Answer}
use Rattle.command_answers.specs.declared.answer.EarlyEnd.{EarlyEnd}
use Rattle.command_answers.specs.declared.answer.EarlyEnd.TheVariants.{Refused, ReadFault, NoMemory}
use Rattle.command_words.specs.declared.commands.Command.{Command}
use Rattle.command_words.specs.declared.commands.Command.TheVariants.{Plan, Check, Run, Exec, Graph, Trial, Cover, CoverCheck, Parts, Judge, Tidy, Cache}
use Rattle.command_words.specs.declared.commands.Subject.TheVariants.{InputKernel, InputCode, TrialKernel}
use Rattle.pebble_cli.specs.Answers.{Answers, usage, faulty_kernel, no_code, own_answer, IsAdmitted, code_input}
use Rattle.command_answers.specs.CodeInputs.{IsCodeInput, IsNoCode}
use Rattle.command_words.specs.Commands.{subject, reads_file}
use Rattle.command_answers.specs.Subjects.{kernel_text}
use Rattle.command_answers.specs.ExecAnswers.{Executes}
use Rattle.pebble_cli.specs.Faults.{ReadCause, of_file}
use Rattle.command_answers.specs.MadeAnswers.{Meets, IfRefused, IfAnswer}
use Rattle.pebble_cli.specs.InputAnswers.{AnswersInput}
use Rattle.command_answers.specs.Refusals.{IsUsage, IsFaulty}
use Rattle.command_words.specs.Words.{IsInLimits}
use Rattle.command_answers.proofs.EarlyEnds.{more_of}
use Rattle.command_answers.proofs.ToldBytes.{told_text}

-- the text of a kernel that the input is
pub input_is_text : (command : Command) (input : List ℕ) → subject command ≡ InputKernel → kernel_text (subject command) input ≡ Some input
input_is_text command input is = ap (λ s. kernel_text s input) is

-- an input that is too long
pub long_answers : {A : Type 0} (r : Result Answer EarlyEnd) (text : Result A EarlyEnd) (end : EarlyEnd) (command : Command) (known : Option (List ℕ)) (file : ToldFile)
    → r ≡ Err end → text ≡ Err end → IfRefused text (λ a. (t : List ℕ) × Tells known t × Meets (IsFaulty t) a) → subject command ≡ InputKernel
    → IfAnswer r (AnswersInput (Some command) known file)
long_answers {A} r text (Refused a) command known file is was k e =
    let met : (t : List ℕ) × Tells known t × Meets (IsFaulty t) a = subst (λ z. IfRefused z (λ b. (t : List ℕ) × Tells known t × Meets (IsFaulty t) b)) was k in
    let answer : AnswersInput (Some command) known file a = (met.0, met.1, faulty_kernel command met.0 refl (input_is_text command met.0 e) met.2) in
    subst (λ z. IfAnswer z (AnswersInput (Some command) known file)) (sym is) answer
long_answers {A} r text ReadFault command known file is was k e = subst (λ z. IfAnswer z (AnswersInput (Some command) known file)) (sym is) tt
long_answers {A} r text NoMemory command known file is was k e = subst (λ z. IfAnswer z (AnswersInput (Some command) known file)) (sym is) tt

-- what answers the text that was read answers the input
pub told_answers : (r : Result Answer EarlyEnd) (command : Command) (known : Option (List ℕ)) (text : List ℕ) (file held : ToldFile)
    → Tells known text → held ≡ file → subject command ≡ InputKernel
    → ((input : List ℕ) → kernel_text (subject command) input ≡ Some text → IfAnswer r (Meets (Answers (Some command) input held)))
    → IfAnswer r (AnswersInput (Some command) known file)
told_answers r command known text file held told same e h =
    more_of r (Meets (Answers (Some command) text held)) (AnswersInput (Some command) known file)
    (λ a k. (text, told, subst (λ f. Meets (Answers (Some command) text f) a) same k)) (h text (input_is_text command text e))

-- a take of the file that failed once the input was read
pub file_fault : (command : Command) (known : Option (List ℕ)) (text : List ℕ) (before mid now : Kind → ℕ) → Tells known text → subject command ≡ InputKernel
    → mid TakeFile ≡ before TakeFile → mid TakeInput ≡ before TakeInput → now TakeInput ≡ mid TakeInput
    → ((input : List ℕ) → kernel_text (subject command) input ≡ Some text → (reads_file (Some command) ≡ true) × IsAdmitted command input × Rose (mid TakeFile) (now TakeFile))
    → ReadCause (Some command) known before now
file_fault command known text before mid now told e same early late h =
    let cause = h text (input_is_text command text e) in
    of_file command refl cause.0 (record { text = text; told = told; admitted = cause.1 }) (subst (λ n. Rose n (now TakeFile)) same cause.2) (late ∙ early)

-- ---- code

-- the one command on code
pub only_exec : (command : Command) → subject command ≡ InputCode → command ≡ Exec
only_exec (Plan asked) e = absurd (cc)
only_exec (Check asked) e = absurd (cc)
only_exec Run e = absurd (cc)
only_exec Exec e = refl
only_exec Graph e = absurd (cc)
only_exec (Trial asked) e = absurd (cc)
only_exec (Cover asked) e = absurd (cc)
only_exec (CoverCheck slots) e = absurd (cc)
only_exec (Parts asked) e = absurd (cc)
only_exec (Judge slots) e = absurd (cc)
only_exec (Tidy slots) e = absurd (cc)
only_exec (Cache asked) e = absurd (cc)

-- a code that is too long
pub long_code_answers : {A : Type 0} (r : Result Answer EarlyEnd) (text : Result A EarlyEnd) (end : EarlyEnd) (command : Command) (known : Option (List ℕ)) (file : ToldFile)
    → r ≡ Err end → text ≡ Err end → IfRefused text (λ a. (t : List ℕ) × Tells known t × Meets (IsNoCode t) a) → subject command ≡ InputCode
    → IfAnswer r (AnswersInput (Some command) known file)
long_code_answers {A} r text (Refused a) command known file is was k e =
    let met : (t : List ℕ) × Tells known t × Meets (IsNoCode t) a = subst (λ z. IfRefused z (λ b. (t : List ℕ) × Tells known t × Meets (IsNoCode t) b)) was k in
    let answer : AnswersInput (Some command) known file a = (met.0, met.1, no_code command refl e met.2) in
    subst (λ z. IfAnswer z (AnswersInput (Some command) known file)) (sym is) answer
long_code_answers {A} r text ReadFault command known file is was k e = subst (λ z. IfAnswer z (AnswersInput (Some command) known file)) (sym is) tt
long_code_answers {A} r text NoMemory command known file is was k e = subst (λ z. IfAnswer z (AnswersInput (Some command) known file)) (sym is) tt

-- what answers the text that was read answers the input
pub code_answers : (r : Result Answer EarlyEnd) (command : Command) (known : Option (List ℕ)) (text : List ℕ) (file held : ToldFile)
    → Tells known text → held ≡ file → subject command ≡ InputCode → IfAnswer r (λ a. Meets (IsNoCode text) a ⊎ Meets (Executes text held) a)
    → IfAnswer r (AnswersInput (Some command) known file)
code_answers r command known text file held told same e h =
    more_of r (λ a. Meets (IsNoCode text) a ⊎ Meets (Executes text held) a) (AnswersInput (Some command) known file) each h
  where
    ran : (a : Answer) → Meets (Executes text held) a → Meets (Answers (Some Exec) text file) a
    ran a k = own_answer Exec refl (subst (λ f. Meets (Executes text f) a) same k)

    each : (a : Answer) → Meets (IsNoCode text) a ⊎ Meets (Executes text held) a → AnswersInput (Some command) known file a
    each a (inl none) = (text, told, no_code command refl e none)
    each a (inr k) = (text, told, subst (λ c. Meets (Answers (Some c) text file) a) (sym (only_exec command e)) (ran a k))

-- a take of the file that failed once the input was read
pub code_file_fault : (command : Command) (known : Option (List ℕ)) (text : List ℕ) (before mid now : Kind → ℕ) → Tells known text → subject command ≡ InputCode
    → mid TakeFile ≡ before TakeFile → mid TakeInput ≡ before TakeInput → now TakeInput ≡ mid TakeInput → ((code : CodeParts) × IsCodeInput text code) × Rose (mid TakeFile) (now TakeFile) → ReadCause (Some command) known before now
code_file_fault command known text before mid now told e same early late cause =
    of_file command refl (ap (λ c. reads_file (Some c)) (only_exec command e)) (record { text = text; told = told; admitted = code_input cause.0.0 e cause.0.1 })
    (subst (λ n. Rose n (now TakeFile)) same cause.1) (late ∙ early)

-- ---- a trial kernel

-- the text of a trial kernel is the command's, whatever stands in the input
pub trial_is_text : (command : Command) (statements : ℕ) (input : List ℕ) → subject command ≡ TrialKernel statements → kernel_text (subject command) input ≡ Some (trial_kernel statements)
trial_is_text command statements input is = ap (λ s. kernel_text s input) is

-- the numbers of a trial are in their range
pub trial_in_limits : (command : Command) (statements : ℕ) → subject command ≡ TrialKernel statements → IsInLimits command → (1 ≤ statements) × (statements ≤ 200)
trial_in_limits (Plan asked) statements e limits = absurd (cc)
trial_in_limits (Check asked) statements e limits = absurd (cc)
trial_in_limits Run statements e limits = absurd (cc)
trial_in_limits Exec statements e limits = absurd (cc)
trial_in_limits Graph statements e limits = absurd (cc)
trial_in_limits (Cover asked) statements e limits = absurd (cc)
trial_in_limits (CoverCheck slots) statements e limits = absurd (cc)
trial_in_limits (Parts asked) statements e limits = absurd (cc)
trial_in_limits (Judge slots) statements e limits = absurd (cc)
trial_in_limits (Tidy slots) statements e limits = absurd (cc)
trial_in_limits (Cache asked) statements e limits = absurd (cc)
trial_in_limits (Trial asked) statements e limits = let same : asked.statements ≡ statements = cc in subst (λ n. (1 ≤ n) × (n ≤ 200)) same limits.0

-- a trial reads no file
trial_reads_nothing : (command : Command) (statements : ℕ) → subject command ≡ TrialKernel statements → reads_file (Some command) ≡ false
trial_reads_nothing (Plan asked) statements e = refl
trial_reads_nothing (Check asked) statements e = absurd (cc)
trial_reads_nothing Run statements e = absurd (cc)
trial_reads_nothing Exec statements e = absurd (cc)
trial_reads_nothing Graph statements e = refl
trial_reads_nothing (Cover asked) statements e = refl
trial_reads_nothing (CoverCheck slots) statements e = absurd (cc)
trial_reads_nothing (Parts asked) statements e = refl
trial_reads_nothing (Judge slots) statements e = absurd (cc)
trial_reads_nothing (Tidy slots) statements e = absurd (cc)
trial_reads_nothing (Cache asked) statements e = refl
trial_reads_nothing (Trial asked) statements e = refl

-- what answers the trial kernel answers any input
pub trial_answers : (r : Result Answer EarlyEnd) (command : Command) (statements : ℕ) (known : Option (List ℕ)) (text : List ℕ) (file : ToldFile)
    → subject command ≡ TrialKernel statements → text ≡ trial_kernel statements
    → ((input : List ℕ) → kernel_text (subject command) input ≡ Some text → IfAnswer r (Meets (Answers (Some command) input file)))
    → IfAnswer r (AnswersInput (Some command) known file)
trial_answers r command statements known text file e is h =
    let told = told_text known in
    more_of r (Meets (Answers (Some command) told.0 file)) (AnswersInput (Some command) known file) (λ a k. (told.0, told.1, k))
    (h told.0 (trial_is_text command statements told.0 e ∙ ap (λ t. Some t) (sym is)))

-- no take of the file fails for it
pub trial_file_fault : {X : Type 0} (command : Command) (statements : ℕ) (text : List ℕ) (before now : Kind → ℕ) → subject command ≡ TrialKernel statements → text ≡ trial_kernel statements
    → ((input : List ℕ) → kernel_text (subject command) input ≡ Some text → (reads_file (Some command) ≡ true) × IsAdmitted command input × Rose (before TakeFile) (now TakeFile)) → X
trial_file_fault command statements text before now e is h =
    let cause = h [] (trial_is_text command statements [] e ∙ ap (λ t. Some t) (sym is)) in
    let none = trial_reads_nothing command statements e in
    absurd (let both : true ≡ false = sym cause.0 ∙ none in cc)

-- words that spell no command
pub usage_answers : (command : Option Command) (known : Option (List ℕ)) (file : ToldFile) (a : Answer) → command ≡ None → Meets IsUsage a → AnswersInput command known file a
usage_answers command known file a is k = let told = told_text known in (told.0, told.1, usage is k)
