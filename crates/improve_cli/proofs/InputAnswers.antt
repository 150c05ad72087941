-- How what the parts of the top call make becomes the answer to the input, as far as the desk tells it.
use Rattle.std.proofs.Common.{◌≡◌, ◌⊎◌, ℕ, true, false, List, Option, Some, None, Result, Err, inl, inr, refl, sym, subst}
use Rattle.desk_io.specs.Known.{ToldFile, Tells}
use Rattle.command_answers.specs.declared.answer.Answer.{Answer}
use Rattle.command_answers.specs.declared.answer.EarlyEnd.{EarlyEnd}
use Rattle.command_answers.specs.declared.answer.EarlyEnd.TheVariants.{Refused, ReadFault, NoMemory}
use Rattle.command_answers.specs.declared.status.Status.{Status}
use Rattle.command_answers.specs.MadeAnswers.{Meets, IfRefused, IfAnswer}
use Rattle.command_answers.specs.Refusals.{IsFaulty, IsTooSmall}
use Rattle.command_answers.proofs.EarlyEnds.{more_of}
use Rattle.command_answers.proofs.ToldBytes.{told_is, told_text}
use Rattle.improve_answers.specs.declared.commands.ImproveCommand.{ImproveCommand}
use Rattle.improve_answers.specs.ImproveUsage.{IsUsage}
use Rattle.improve_answers.specs.ImproveWords.{slots_of}
use Rattle.improve_cli.specs.Answers.{Answers, AnswersInput, usage, faulty_kernel, too_few_slots, own_answer, OwnAnswers, IsAdmitted}
use Rattle.improve_cli.specs.Faults.{reads_input}

-- a fault of the kernel
pub faulty_answers : {A : Type 0} (r : Result Answer EarlyEnd) (kernel : Result A EarlyEnd) (end : EarlyEnd) (command : ImproveCommand) (text : List ℕ) (file : ToldFile)
    → r ≡ Err end → kernel ≡ Err end → IfRefused kernel (Meets (IsFaulty text)) → IfAnswer r (Meets (Answers (Some command) text file))
faulty_answers {A} r kernel (Refused a) command text file is was k =
    let met : Meets (IsFaulty text) a = subst (λ z. IfRefused z (Meets (IsFaulty text))) was k in
    subst (λ z. IfAnswer z (Meets (Answers (Some command) text file))) (sym is) (faulty_kernel command refl met)
faulty_answers {A} r kernel ReadFault command text file is was k = subst (λ z. IfAnswer z (Meets (Answers (Some command) text file))) (sym is) tt
faulty_answers {A} r kernel NoMemory command text file is was k = subst (λ z. IfAnswer z (Meets (Answers (Some command) text file))) (sym is) tt

-- too few slots, or an own answer
pub slotted_answers : (r : Result Answer EarlyEnd) (command asked : ImproveCommand) (text : List ℕ) (file : ToldFile) → command ≡ asked
    → IfAnswer r (λ a. Meets (IsTooSmall (slots_of asked) text) a ⊎ Meets (OwnAnswers asked text file) a) → IfAnswer r (Meets (Answers (Some command) text file))
slotted_answers r command asked text file is h =
    subst (λ k. IfAnswer r (Meets (Answers (Some k) text file))) (sym is)
    (more_of r (λ a. Meets (IsTooSmall (slots_of asked) text) a ⊎ Meets (OwnAnswers asked text file) a) (Meets (Answers (Some asked) text file)) each h)
  where
    each : (a : Answer) → Meets (IsTooSmall (slots_of asked) text) a ⊎ Meets (OwnAnswers asked text file) a → Meets (Answers (Some asked) text file) a
    each a (inl small) = too_few_slots asked refl small
    each a (inr made) = own_answer asked refl made

-- an end that is no refusal gives no answer
pub unrefused : {A : Type 0} (r : Result Answer EarlyEnd) (value : Result A EarlyEnd) (end : EarlyEnd) (P : Answer → Type 0) → r ≡ Err end → value ≡ Err end
    → IfRefused value (λ a. ⊥) → IfAnswer r P
unrefused {A} r value (Refused a) P is was k = absurd (subst (λ z. IfRefused z (λ b. ⊥)) was k)
unrefused {A} r value ReadFault P is was k = subst (λ z. IfAnswer z P) (sym is) tt
unrefused {A} r value NoMemory P is was k = subst (λ z. IfAnswer z P) (sym is) tt

-- an input that is too long
pub long_answers : {A : Type 0} (r : Result Answer EarlyEnd) (text : Result A EarlyEnd) (end : EarlyEnd) (command : ImproveCommand) (known : Option (List ℕ)) (file : ToldFile)
    → r ≡ Err end → text ≡ Err end → IfRefused text (λ a. (t : List ℕ) × Tells known t × Meets (IsFaulty t) a) → IfAnswer r (AnswersInput (Some command) known file)
long_answers {A} r text (Refused a) command known file is was k =
    let met : (t : List ℕ) × Tells known t × Meets (IsFaulty t) a = subst (λ z. IfRefused z (λ b. (t : List ℕ) × Tells known t × Meets (IsFaulty t) b)) was k in
    let answer : AnswersInput (Some command) known file a = (met.0, met.1, faulty_kernel command refl met.2) in
    subst (λ z. IfAnswer z (AnswersInput (Some command) known file)) (sym is) answer
long_answers {A} r text ReadFault command known file is was k = subst (λ z. IfAnswer z (AnswersInput (Some command) known file)) (sym is) tt
long_answers {A} r text NoMemory command known file is was k = subst (λ z. IfAnswer z (AnswersInput (Some command) known file)) (sym is) tt

-- what answers the text that was read answers the input
pub told_answers : (r : Result Answer EarlyEnd) (command : ImproveCommand) (known : Option (List ℕ)) (text : List ℕ) (file held : ToldFile)
    → Tells known text → held ≡ file → IfAnswer r (Meets (Answers (Some command) text held)) → IfAnswer r (AnswersInput (Some command) known file)
told_answers r command known text file held told same h =
    more_of r (Meets (Answers (Some command) text held)) (AnswersInput (Some command) known file)
    (λ a k. (text, told, subst (λ f. Meets (Answers (Some command) text f) a) same k)) h

-- words that spell no command
pub usage_answers : (command : Option ImproveCommand) (known : Option (List ℕ)) (file : ToldFile) (a : Answer) → command ≡ None → Meets IsUsage a → AnswersInput command known file a
usage_answers command known file a is k = let told = told_text known in (told.0, told.1, usage is k)

-- what answers the input that is told answers the text that it is known to be, if it is read, and else any text
pub answers_text : (command : Option ImproveCommand) (known : Option (List ℕ)) (told text : List ℕ) (file : ToldFile) (status : Status) (printed : List ℕ) (table : Option (List ℕ))
    → Tells known told → (reads_input command ≡ true → known ≡ Some text) → Answers command told file status printed table → Answers command text file status printed table
answers_text (Some asked) known told text file status printed table tells is h =
    subst (λ t. Answers (Some asked) t file status printed table) (told_is known told text tells (is refl)) h
answers_text None known told text file status printed table tells is (usage none k) = usage none k
answers_text None known told text file status printed table tells is (faulty_kernel asked some k) = absurd (cc)
answers_text None known told text file status printed table tells is (too_few_slots asked some k) = absurd (cc)
answers_text None known told text file status printed table tells is (own_answer asked some k) = absurd (cc)
