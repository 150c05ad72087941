-- How what the parts of the top call make becomes the answer of a command to its kernel.
use Rattle.std.proofs.Common.{◌≡◌, ◌⊎◌, ◌<◌, ℕ, true, List, Some, Result, Err, inl, inr, refl, sym, subst}
use Rattle.comp_graph.specs.Dags.{degree}
use Rattle.comp_graph.specs.Graphs.{GraphParts, dag_of}
use Rattle.kernel_ast.specs.KernelParts.{KernelParts}
use Rattle.kernel_gen.specs.Trials.{trial_kernel}
use Rattle.command_answers.specs.declared.answer.Answer.{Answer}
use Rattle.command_answers.specs.declared.answer.EarlyEnd.{EarlyEnd}
use Rattle.command_answers.specs.declared.answer.EarlyEnd.TheVariants.{Refused, ReadFault, NoMemory}
use Rattle.command_words.specs.declared.commands.Command.{Command}
use Rattle.command_words.specs.declared.commands.Command.TheVariants.{Run, Trial}
use Rattle.command_words.specs.declared.commands.Subject.TheVariants.{InputKernel}
use Rattle.command_words.specs.declared.commands.TrialPlanning.{TrialPlanning}
use Rattle.command_answers.specs.Accepted.{IsAccepted}
use Rattle.pebble_cli.specs.Answers.{Answers, OwnAnswers, faulty_kernel, too_few_slots, own_answer, IsAdmitted, kernel_with_room}
use Rattle.command_words.specs.Commands.{subject, slots_of, reads_file}
use Rattle.command_answers.specs.Subjects.{kernel_text}
use Rattle.command_answers.specs.MadeAnswers.{Meets, IfRefused, IfAnswer}
use Rattle.command_answers.specs.Refusals.{IsFaulty, IsTooSmall}
use Rattle.desk_io.specs.Known.{ToldFile}
use Rattle.command_answers.specs.TrialAnswers.{IsTried}
use Rattle.command_answers.proofs.EarlyEnds.{more_of}
use Rattle.pebble_cli.proofs.Admitting.{text_is_input, room_of}
use Rattle.pebble_cli.proofs.RunKept.{admits}

-- the text of the kernel in the input is the input
abbrev IsText : Command → List ℕ → List ℕ → Type 0
IsText command input text = kernel_text (subject command) input ≡ Some text

-- a fault of the kernel
pub faulty_answers : {A : Type 0} (r : Result Answer EarlyEnd) (kernel : Result A EarlyEnd) (end : EarlyEnd) (command : Command) (input text : List ℕ) (file : ToldFile)
    → r ≡ Err end → kernel ≡ Err end → IfRefused kernel (Meets (IsFaulty text)) → IsText command input text
    → IfAnswer r (Meets (Answers (Some command) input file))
faulty_answers {A} r kernel (Refused a) command input text file is was k e =
    let met : Meets (IsFaulty text) a = subst (λ z. IfRefused z (Meets (IsFaulty text))) was k in
    subst (λ z. IfAnswer z (Meets (Answers (Some command) input file))) (sym is) (faulty_kernel command text refl e met)
faulty_answers {A} r kernel ReadFault command input text file is was k e = subst (λ z. IfAnswer z (Meets (Answers (Some command) input file))) (sym is) tt
faulty_answers {A} r kernel NoMemory command input text file is was k e = subst (λ z. IfAnswer z (Meets (Answers (Some command) input file))) (sym is) tt

-- the answer of a command with slots to the kernel in the input
pub slotted_answers : (r : Result Answer EarlyEnd) (command asked : Command) (slots : ℕ) (input text : List ℕ) (file : ToldFile)
    → command ≡ asked → subject asked ≡ InputKernel → slots_of asked ≡ Some slots → IsText command input text
    → IfAnswer r (λ a. Meets (IsTooSmall slots text) a ⊎ Meets (OwnAnswers asked text file) a) → IfAnswer r (Meets (Answers (Some command) input file))
slotted_answers r command asked slots input text file is works has e h = subst (λ k. IsText k input text → IfAnswer r (Meets (Answers (Some k) input file))) (sym is) at e
  where
    at : IsText asked input text → IfAnswer r (Meets (Answers (Some asked) input file))
    at e = more_of r (λ a. Meets (IsTooSmall slots text) a ⊎ Meets (OwnAnswers asked text file) a) (Meets (Answers (Some asked) input file)) each h
      where
        each : (a : Answer) → Meets (IsTooSmall slots text) a ⊎ Meets (OwnAnswers asked text file) a → Meets (Answers (Some asked) input file) a
        each a (inl small) = too_few_slots asked text slots refl e has small
        each a (inr made) = own_answer asked refl (subst (λ t. Meets (OwnAnswers asked t file) a) (text_is_input asked input text works e) made)

-- the answer of a command without slots to it
pub plain_answers : (r : Result Answer EarlyEnd) (command asked : Command) (input text : List ℕ) (file : ToldFile)
    → command ≡ asked → subject asked ≡ InputKernel → IsText command input text → IfAnswer r (Meets (OwnAnswers asked text file)) → IfAnswer r (Meets (Answers (Some command) input file))
plain_answers r command asked input text file is works e h = subst (λ k. IsText k input text → IfAnswer r (Meets (Answers (Some k) input file))) (sym is) at e
  where
    at : IsText asked input text → IfAnswer r (Meets (Answers (Some asked) input file))
    at e = more_of r (Meets (OwnAnswers asked text file)) (Meets (Answers (Some asked) input file))
        (λ a k. own_answer asked refl (subst (λ t. Meets (OwnAnswers asked t file) a) (text_is_input asked input text works e) k)) h

-- the answer of `trial` to its kernel
pub tried_answers : (r : Result Answer EarlyEnd) (command : Command) (asked : TrialPlanning) (input text : List ℕ) (file : ToldFile) (kernel : KernelParts) (graph : GraphParts)
    → command ≡ Trial asked → IsText command input text → IsAccepted text kernel graph
    → ((k : KernelParts) → IsAccepted (trial_kernel asked.statements) k graph
    → IfAnswer r (λ a. Meets (IsTooSmall asked.slots (trial_kernel asked.statements)) a ⊎ Meets (IsTried asked) a))
    → IfAnswer r (Meets (Answers (Some command) input file))
tried_answers r command asked input text file kernel graph is e accepted h = subst (λ k. IsText k input text → IfAnswer r (Meets (Answers (Some k) input file))) (sym is) at e
  where
    each : (a : Answer) → Meets (IsTooSmall asked.slots (trial_kernel asked.statements)) a ⊎ Meets (IsTried asked) a → Meets (Answers (Some (Trial asked)) input file) a
    each a (inl small) = too_few_slots (Trial asked) (trial_kernel asked.statements) asked.slots refl refl refl small
    each a (inr tried) = own_answer (Trial asked) refl tried

    at : IsText (Trial asked) input text → IfAnswer r (Meets (Answers (Some (Trial asked)) input file))
    at e = let same : text ≡ trial_kernel asked.statements = cc in
        more_of r (λ a. Meets (IsTooSmall asked.slots (trial_kernel asked.statements)) a ⊎ Meets (IsTried asked) a) (Meets (Answers (Some (Trial asked)) input file)) each
        (h kernel (subst (λ t. IsAccepted t kernel graph) same accepted))

-- `run` reads its file only where the kernel is accepted
pub ran_fault : (command : Command) (input text : List ℕ) (kernel : KernelParts) (graph : GraphParts) → command ≡ Run → IsText command input text → IsAccepted text kernel graph
    → (reads_file (Some command) ≡ true) × IsAdmitted command input
ran_fault command input text kernel graph is e accepted = subst (λ k. IsText k input text → (reads_file (Some k) ≡ true) × IsAdmitted k input) (sym is) at e
  where
    at : IsText Run input text → (reads_file (Some Run) ≡ true) × IsAdmitted Run input
    at e = let same : text ≡ input = cc in (refl, admits input kernel graph (subst (λ t. IsAccepted t kernel graph) same accepted))

-- a command with slots reads its file only where the kernel is accepted and the slots are enough
pub slotted_fault : (command asked : Command) (slots : ℕ) (input text : List ℕ) (kernel : KernelParts) (graph : GraphParts) → command ≡ asked → reads_file (Some asked) ≡ true → slots_of asked ≡ Some slots
    → IsText command input text → IsAccepted text kernel graph → degree (dag_of graph) < slots → (reads_file (Some command) ≡ true) × IsAdmitted command input
slotted_fault command asked slots input text kernel graph is reads has e accepted room = subst (λ k. IsText k input text → (reads_file (Some k) ≡ true) × IsAdmitted k input) (sym is) at e
  where
    at : IsText asked input text → (reads_file (Some asked) ≡ true) × IsAdmitted asked input
    at e = (reads, kernel_with_room text e (record { kernel = kernel; graph = graph; accepted = accepted; room = room_of asked slots graph has room }))
