-- The own answers of `exec`: one to each input that is a code and each file that is there.
use Rattle.std.proofs.Common.{◌≡◌, ◌⊎◌, ℕ, ℤ, List, length, Option, Some, None, Result, Ok, Err, inl, inr, refl, sym, ap, ◌∙◌, subst}
use Rattle.desk_io.specs.Known.{ToldFile, TellsFile}
use Rattle.scratch_machine.specs.Codes.{CodeParts}
use Rattle.scratch_machine.specs.Machines.{Ending, Fault, run}
use Rattle.values_text.specs.Values.{Spells}
use Rattle.values_text.proofs.Parts.{one_list}
use Rattle.command_words.specs.declared.commands.Command.TheVariants.{Exec}
use Rattle.command_answers.specs.declared.status.Status.{Status}
use Rattle.command_answers.specs.declared.status.Status.TheVariants.{Done, Values, ExecFault}
use Rattle.pebble_cli.specs.Answers.{IsAdmitted, kernel_with_room, code_input}
use Rattle.command_answers.specs.CodeInputs.{IsCodeInput}
use Rattle.command_answers.specs.ExecAnswers.{Executes, IsRunToEnd, IsEmptyRead, IsWrongInputs, ran_text, exec_fault_text, place_of}
use Rattle.command_answers.specs.Status.{is_own}
use Rattle.command_answers.specs.ValuesFiles.{HoldsValues, HoldsNone, values_fault_text}
use Rattle.command_answers.proofs.CodeInputs.{one_code}
use Rattle.pebble_cli.proofs.OwnAnswers.{IsKept, HasOwn, AreKept, AreOne}
use Rattle.command_answers.proofs.ToldBytes.{not_missing, told_bytes, bytes_of}
use Rattle.command_answers.proofs.ValuesFiles.{holds_or_not}

-- a code is admitted
pub admits : (input : List ℕ) (code : CodeParts) → IsCodeInput input code → IsAdmitted Exec input
admits input code h = code_input code refl h

kept : (input : List ℕ) (file : ToldFile) (status : Status) (printed : List ℕ) (table : Option (List ℕ))
    → Executes input file status printed table → IsKept Exec input file status printed table
kept input file status printed table (inl h) =
    record { admitted = admits input h.code h.input; last = ap is_own h.ends; untold = λ e. h.none; held = λ e. not_missing file h.bytes h.held }
kept input file status printed table (inr (inl h)) =
    record { admitted = admits input h.code h.input; last = ap is_own h.ends; untold = λ e. h.none; held = λ e. not_missing file h.bytes h.held }
kept input file status printed table (inr (inr h)) =
    record { admitted = admits input h.code h.input; last = ap is_own h.ends; untold = λ e. h.none; held = λ e. not_missing file h.bytes h.held }

-- ---- one answer

-- values of the one code of a text
pub values_of : (text : List ℕ) (c d : CodeParts) (bytes held : List ℕ) (values : List ℤ) → IsCodeInput text c → IsCodeInput text d → bytes ≡ held
    → HoldsValues (length c.inputs) bytes values → HoldsValues (length d.inputs) held values
values_of text c d bytes held values a b same given =
    let code : length c.inputs ≡ length d.inputs = ap (λ (e : CodeParts). length e.inputs) (one_code text c d a b) in
    subst (λ z. HoldsValues (length d.inputs) z values) same (subst (λ n. HoldsValues n bytes values) code given)

-- the one run of the code of a text on the values of a file
pub one_run : (text : List ℕ) (c d : CodeParts) (bytes held : List ℕ) (values others : List ℤ) → IsCodeInput text c → IsCodeInput text d → bytes ≡ held
    → HoldsValues (length c.inputs) bytes values → HoldsValues (length d.inputs) held others → run c values ≡ run d others
one_run text c d bytes held values others a b same given also =
    let code : c ≡ d = one_code text c d a b in
    let list : values ≡ others = one_list bytes values others given.spelled (subst (λ z. Spells z others) (sym same) also.spelled) in
    λ i. run (code i) (list i)

-- a run does not both come to an end and read what is empty
ends_or_faults : {X : Type 0} (text : List ℕ) (file : ToldFile) (held : Option (List ℕ)) (s t : Status) (p q : List ℕ) (a b : Option (List ℕ))
    → file ≡ Some held → IsRunToEnd text file s p a → IsEmptyRead text file t q b → X
ends_or_faults text file held s t p q a b told h k =
    let same = one_run text h.code k.code h.bytes k.bytes h.values k.values h.input k.input (told_bytes file held h.bytes k.bytes told h.held k.held) h.given k.given in
    let both : Ok h.ending ≡ Err k.fault = sym h.runs ∙ same ∙ k.faults in
    absurd (cc)

-- values are not both there and not there
values_or_none : {X : Type 0} (text : List ℕ) (file : ToldFile) (held : Option (List ℕ)) (code : CodeParts) (bytes : List ℕ) (values : List ℤ) (t : Status) (q : List ℕ) (b : Option (List ℕ))
    → file ≡ Some held → IsCodeInput text code → TellsFile file bytes → HoldsValues (length code.inputs) bytes values → IsWrongInputs text file t q b → X
values_or_none text file held code bytes values t q b told input holds given k =
    absurd (k.wrong values (values_of text code k.code bytes k.bytes values input k.input (told_bytes file held bytes k.bytes told holds k.held) given))

-- the one run comes to one end
one_end : (text : List ℕ) (file : ToldFile) (held : Option (List ℕ)) (s t : Status) (p q : List ℕ) (a b : Option (List ℕ))
    → file ≡ Some held → IsRunToEnd text file s p a → IsRunToEnd text file t q b → AreOne s t p q a b
one_end text file held s t p q a b told h k =
    let same = one_run text h.code k.code h.bytes k.bytes h.values k.values h.input k.input (told_bytes file held h.bytes k.bytes told h.held k.held) h.given k.given in
    let both : Ok h.ending ≡ Ok k.ending = sym h.runs ∙ same ∙ k.runs in
    let ending : h.ending ≡ k.ending = cc in
    let code : h.code ≡ k.code = one_code text h.code k.code h.input k.input in
    let lines : ran_text h.code h.ending ≡ ran_text k.code k.ending = λ i. ran_text (code i) (ending i) in
    (h.ends ∙ sym k.ends, h.lines ∙ lines ∙ sym k.lines, h.none ∙ sym k.none)

-- or reads what is empty at one place
one_empty_read : (text : List ℕ) (file : ToldFile) (held : Option (List ℕ)) (s t : Status) (p q : List ℕ) (a b : Option (List ℕ))
    → file ≡ Some held → IsEmptyRead text file s p a → IsEmptyRead text file t q b → AreOne s t p q a b
one_empty_read text file held s t p q a b told h k =
    let same = one_run text h.code k.code h.bytes k.bytes h.values k.values h.input k.input (told_bytes file held h.bytes k.bytes told h.held k.held) h.given k.given in
    let both : Err h.fault ≡ Err k.fault = sym h.faults ∙ same ∙ k.faults in
    let fault : h.fault ≡ k.fault = cc in
    let line : exec_fault_text (place_of h.fault) ≡ exec_fault_text (place_of k.fault) = ap (λ f. exec_fault_text (place_of f)) fault in
    (h.ends ∙ sym k.ends, h.line ∙ line ∙ sym k.line, h.none ∙ sym k.none)

once : (text : List ℕ) (file : ToldFile) (held : Option (List ℕ)) (s t : Status) (p q : List ℕ) (a b : Option (List ℕ))
    → file ≡ Some held → Executes text file s p a → Executes text file t q b → AreOne s t p q a b
once text file held s t p q a b told (inl h) (inl k) = one_end text file held s t p q a b told h k
once text file held s t p q a b told (inl h) (inr (inl k)) = ends_or_faults text file held s t p q a b told h k
once text file held s t p q a b told (inl h) (inr (inr k)) = values_or_none text file held h.code h.bytes h.values t q b told h.input h.held h.given k
once text file held s t p q a b told (inr (inl h)) (inl k) = ends_or_faults text file held t s q p b a told k h
once text file held s t p q a b told (inr (inl h)) (inr (inl k)) = one_empty_read text file held s t p q a b told h k
once text file held s t p q a b told (inr (inl h)) (inr (inr k)) = values_or_none text file held h.code h.bytes h.values t q b told h.input h.held h.given k
once text file held s t p q a b told (inr (inr h)) (inl k) = values_or_none text file held k.code k.bytes k.values s p a told k.input k.held k.given h
once text file held s t p q a b told (inr (inr h)) (inr (inl k)) = values_or_none text file held k.code k.bytes k.values s p a told k.input k.held k.given h
once text file held s t p q a b told (inr (inr h)) (inr (inr k)) = (h.ends ∙ sym k.ends, h.line ∙ sym k.line, h.none ∙ sym k.none)

-- ---- there is an answer

by_run : (input bytes : List ℕ) (file : ToldFile) (code : CodeParts) (values : List ℤ) (found : Result Ending Fault) → IsCodeInput input code → TellsFile file bytes
    → HoldsValues (length code.inputs) bytes values → run code values ≡ found → HasOwn Exec input file
by_run input bytes file code values (Ok ending) h held given is = record {
  status = Done;
  printed = ran_text code ending;
  table = None;
  answer = inl (record { code = code; input = h; bytes = bytes; held = held; values = values; given = given; ending = ending; runs = is; ends = refl; lines = refl; none = refl });
}
by_run input bytes file code values (Err fault) h held given is = record {
  status = ExecFault;
  printed = exec_fault_text (place_of fault);
  table = None;
  answer = inr (inl (record { code = code; input = h; bytes = bytes; held = held; values = values; given = given; fault = fault; faults = is; ends = refl; line = refl; none = refl }));
}

answer_by : (input bytes : List ℕ) (file : ToldFile) (code : CodeParts) → IsCodeInput input code → TellsFile file bytes
    → ((values : List ℤ) × HoldsValues (length code.inputs) bytes values) ⊎ HoldsNone (length code.inputs) bytes → HasOwn Exec input file
answer_by input bytes file code h held (inl given) = by_run input bytes file code given.0 (run code given.0) h held given.1 refl
answer_by input bytes file code h held (inr none) = record {
  status = Values;
  printed = values_fault_text;
  table = None;
  answer = inr (inr (record { code = code; input = h; bytes = bytes; held = held; wrong = none; ends = refl; line = refl; none = refl }));
}

some : (input : List ℕ) (file : ToldFile) → (file ≡ Some None → ⊥) → IsAdmitted Exec input → HasOwn Exec input file
some input file there (kernel_with_room text e h) = absurd (cc)
some input file there (code_input code is h) =
    let bytes = bytes_of file there in
    answer_by input bytes.0 file code h bytes.1 (holds_or_not (length code.inputs) bytes.0)

pub exec_kept : AreKept Exec
exec_kept = record {
  each = kept;
  once = λ input file s t p q a b told h k. let known = told refl in once input file known.0 s t p q a b known.1 h k;
  some = λ input file limits there admitted. some input file (there refl) admitted;
}
