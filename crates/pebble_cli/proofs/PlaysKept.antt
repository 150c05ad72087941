-- The own answers of `judge` and `tidy`: one to each accepted kernel with enough slots and each file that is there.
use Rattle.std.proofs.Common.{◌≡◌, ℕ, List, Option, Some, None, inl, inr, refl, ap}
use Rattle.command_words.specs.declared.commands.Command.TheVariants.{Judge, Tidy}
use Rattle.command_words.specs.Words.{IsInLimits}
use Rattle.command_answers.specs.declared.status.Status.{Status}
use Rattle.command_answers.specs.PlayAnswers.{Judges, Tidies}
use Rattle.command_answers.specs.Status.{is_own}
use Rattle.desk_io.specs.Known.{ToldFile}
use Rattle.command_answers.proofs.PlayedOnce.{judged_once, tidied_once, judged_some, tidied_some}
use Rattle.command_answers.proofs.ToldBytes.{bytes_of, not_missing}
use Rattle.pebble_cli.specs.Answers.{IsAdmitted}
use Rattle.pebble_cli.proofs.Admitting.{admits, admitted}
use Rattle.pebble_cli.proofs.OwnAnswers.{IsKept, HasOwn, AreKept}

-- ---- judge

judge_each : (slots : ℕ) (input : List ℕ) (file : ToldFile) (status : Status) (printed : List ℕ) (table : Option (List ℕ))
    → Judges slots input file status printed table → IsKept (Judge slots) input file status printed table
judge_each slots input file status printed table (inl h) = record {
  admitted = admits (Judge slots) slots input h.kernel h.graph refl refl h.accepted h.room;
  last = ap is_own h.ends;
  untold = λ e. h.none;
  held = λ e. not_missing file h.bytes h.held;
}
judge_each slots input file status printed table (inr h) = record {
  admitted = admits (Judge slots) slots input h.kernel h.graph refl refl h.accepted h.room;
  last = ap is_own h.ends;
  untold = λ e. h.none;
  held = λ e. not_missing file h.bytes h.held;
}

judge_some : (slots : ℕ) (input : List ℕ) (file : ToldFile) → (file ≡ Some None → ⊥) → IsAdmitted (Judge slots) input → HasOwn (Judge slots) input file
judge_some slots input file there may =
    let is = admitted (Judge slots) slots input refl refl may in
    let bytes = bytes_of file there in
    let answer = judged_some slots input bytes.0 file is.kernel is.graph is.accepted is.room bytes.1 in
    record { status = answer.0; printed = answer.1; table = answer.2; answer = answer.3 }

pub judge_kept : (slots : ℕ) → AreKept (Judge slots)
judge_kept slots = record {
  each = judge_each slots;
  once = λ input file s t p q a b told h k. let is = told refl in judged_once slots input file is.0 is.1 s t p q a b h k;
  some = λ input file limits held may. judge_some slots input file (held refl) may;
}

-- ---- tidy

tidy_each : (slots : ℕ) (input : List ℕ) (file : ToldFile) (status : Status) (printed : List ℕ) (table : Option (List ℕ))
    → Tidies slots input file status printed table → IsKept (Tidy slots) input file status printed table
tidy_each slots input file status printed table (inl h) = record {
  admitted = admits (Tidy slots) slots input h.kernel h.graph refl refl h.accepted h.room;
  last = ap is_own h.ends;
  untold = λ e. h.none;
  held = λ e. not_missing file h.bytes h.held;
}
tidy_each slots input file status printed table (inr h) = record {
  admitted = admits (Tidy slots) slots input h.kernel h.graph refl refl h.accepted h.room;
  last = ap is_own h.ends;
  untold = λ e. h.none;
  held = λ e. not_missing file h.bytes h.held;
}

tidy_some : (slots : ℕ) (input : List ℕ) (file : ToldFile) → IsInLimits (Tidy slots) → (file ≡ Some None → ⊥) → IsAdmitted (Tidy slots) input → HasOwn (Tidy slots) input file
tidy_some slots input file limits there may =
    let is = admitted (Tidy slots) slots input refl refl may in
    let bytes = bytes_of file there in
    let answer = tidied_some slots input bytes.0 file is.kernel is.graph is.accepted is.room bytes.1 limits.1 in
    record { status = answer.0; printed = answer.1; table = answer.2; answer = answer.3 }

pub tidy_kept : (slots : ℕ) → AreKept (Tidy slots)
tidy_kept slots = record {
  each = tidy_each slots;
  once = λ input file s t p q a b told h k. let is = told refl in tidied_once slots input file is.0 is.1 s t p q a b h k;
  some = λ input file limits held may. tidy_some slots input file limits (held refl) may;
}
