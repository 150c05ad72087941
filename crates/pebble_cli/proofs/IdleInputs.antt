-- What answers words that read no input: with one input it answers them with any.
use Rattle.std.proofs.Common.{◌≡◌, ℕ, Bool, true, false, List, Option, Some, refl, sym, ap, ◌∙◌, subst}
use Rattle.desk_io.specs.Known.{ToldFile, Tells}
use Rattle.command_words.specs.declared.commands.Command.{Command}
use Rattle.command_words.specs.declared.commands.Command.TheVariants.{Trial}
use Rattle.command_words.specs.declared.commands.Subject.{Subject}
use Rattle.command_words.specs.declared.commands.Subject.TheVariants.{InputKernel, InputCode, TrialKernel}
use Rattle.command_words.specs.Commands.{subject, is_in_input, reads_input}
use Rattle.command_answers.specs.declared.status.Status.{Status}
use Rattle.command_answers.specs.Subjects.{kernel_text}
use Rattle.command_answers.proofs.ToldBytes.{told_is}
use Rattle.pebble_cli.specs.AnswerLaws.{AnswersAnyInput, AdmitsAnyInput}
use Rattle.pebble_cli.specs.Answers.{Answers, usage, faulty_kernel, no_code, too_few_slots, own_answer, OwnAnswers, kernel_with_room, code_input}

-- a kernel that does not stand in the input
same_kernel : (s : Subject) (input other text : List ℕ) → is_in_input s ≡ false → kernel_text s input ≡ Some text → kernel_text s other ≡ Some text
same_kernel InputKernel input other text idle is = absurd (cc)
same_kernel InputCode input other text idle is = absurd (cc)
same_kernel (TrialKernel statements) input other text idle is = is

-- code stands in the input
no_idle_code : {X : Type 0} (s : Subject) → is_in_input s ≡ false → s ≡ InputCode → X
no_idle_code s idle is = absurd (let both : true ≡ false = sym (ap is_in_input is) ∙ idle in cc)

pub admits_any_input : AdmitsAnyInput
admits_any_input asked input other idle (kernel_with_room text is h) = kernel_with_room text (same_kernel (subject asked) input other text idle is) h
admits_any_input asked input other idle (code_input code is h) = no_idle_code (subject asked) idle is

-- the own answers of a command that reads no input
same_own : (asked : Command) (input other : List ℕ) (file : ToldFile) (status : Status) (printed : List ℕ) (table : Option (List ℕ))
    → reads_input (Some asked) ≡ false → OwnAnswers asked input file status printed table → OwnAnswers asked other file status printed table
same_own (Trial asked) input other file status printed table idle k = k
same_own asked input other file status printed table idle k = absurd (cc)

pub answers_any_input : AnswersAnyInput
answers_any_input command input file status printed table (usage is k) other idle = usage is k
answers_any_input command input file status printed table (faulty_kernel asked text is e k) other idle =
    faulty_kernel asked text is (same_kernel (subject asked) input other text (sym (ap reads_input is) ∙ idle) e) k
answers_any_input command input file status printed table (no_code asked is e k) other idle = no_idle_code (subject asked) (sym (ap reads_input is) ∙ idle) e
answers_any_input command input file status printed table (too_few_slots asked text slots is e has k) other idle =
    too_few_slots asked text slots is (same_kernel (subject asked) input other text (sym (ap reads_input is) ∙ idle) e) has k
answers_any_input command input file status printed table (own_answer asked is k) other idle =
    own_answer asked is (same_own asked input other file status printed table (sym (ap reads_input is) ∙ idle) k)

-- what answers the input that is told answers the text that it is known to be, where it is read, and else any text
pub answers_text : (command : Option Command) (known : Option (List ℕ)) (told text : List ℕ) (file : ToldFile) (status : Status) (printed : List ℕ) (table : Option (List ℕ))
    → Tells known told → (reads_input command ≡ true → known ≡ Some text) → Answers command told file status printed table → Answers command text file status printed table
answers_text command known told text file status printed table tells is h = by_use (reads_input command) refl
  where
    by_use : (reads : Bool) → reads_input command ≡ reads → Answers command text file status printed table
    by_use true reads = subst (λ t. Answers command t file status printed table) (told_is known told text tells (is reads)) h
    by_use false idle = answers_any_input command told file status printed table h text idle
