-- The own answers of `cover`, one to each accepted kernel with enough slots, and of `covercheck`, one to each such kernel and each file that is
-- there.
use Rattle.std.proofs.Common.{◌≡◌, ℕ, List, Option, Some, None, inl, inr, refl, ap, ◌∙◌}
use Rattle.command_words.specs.declared.commands.Command.TheVariants.{Cover, CoverCheck}
use Rattle.command_words.specs.declared.commands.Covering.{Covering}
use Rattle.command_words.specs.Words.{IsInLimits}
use Rattle.command_answers.specs.declared.status.Status.{Status}
use Rattle.command_answers.specs.CoverAnswers.{IsCovered}
use Rattle.command_answers.specs.CoverCheckAnswers.{CoverChecks}
use Rattle.command_answers.specs.Status.{is_own}
use Rattle.desk_io.specs.Known.{ToldFile}
use Rattle.command_answers.proofs.CoverFiles.{cover_check_is_one, cover_check_is_some}
use Rattle.command_answers.proofs.OneCovers.{covered_is_one}
use Rattle.command_answers.proofs.SomeCovers.{covered_is_some}
use Rattle.command_answers.proofs.ToldBytes.{not_missing}
use Rattle.pebble_cli.specs.Answers.{IsAdmitted}
use Rattle.pebble_cli.proofs.Admitting.{admits, admitted}
use Rattle.pebble_cli.proofs.OwnAnswers.{IsKept, HasOwn, AreKept}
use Rattle.pebble_cli.proofs.PlanKept.{verdict_is_own}

-- ---- cover

cover_each : (asked : Covering) (input : List ℕ) (file : ToldFile) (status : Status) (printed : List ℕ) (table : Option (List ℕ))
    → IsCovered asked input status printed table → IsKept (Cover asked) input file status printed table
cover_each asked input file status printed table h = record {
  admitted = admits (Cover asked) asked.slots input h.kernel h.graph refl refl h.accepted h.room;
  last = ap is_own h.ends ∙ verdict_is_own h.plan.numbers.optimal;
  untold = λ e. absurd (cc);
  held = λ e. absurd (cc);
}

cover_some : (asked : Covering) (input : List ℕ) (file : ToldFile) → IsInLimits (Cover asked) → IsAdmitted (Cover asked) input → HasOwn (Cover asked) input file
cover_some asked input file limits may =
    let is = admitted (Cover asked) asked.slots input refl refl may in
    let answer = covered_is_some asked input is.kernel is.graph limits.1 limits.2 is.accepted is.room in
    record { status = answer.0; printed = answer.1; table = answer.2; answer = answer.3 }

pub cover_kept : (asked : Covering) → AreKept (Cover asked)
cover_kept asked = record {
  each = cover_each asked;
  once = λ input file s t p q a b told h k. covered_is_one asked input s t p q a b h k;
  some = λ input file limits held may. cover_some asked input file limits may;
}

-- ---- covercheck

check_each : (slots : ℕ) (input : List ℕ) (file : ToldFile) (status : Status) (printed : List ℕ) (table : Option (List ℕ))
    → CoverChecks slots input file status printed table → IsKept (CoverCheck slots) input file status printed table
check_each slots input file status printed table (inl h) = record {
  admitted = admits (CoverCheck slots) slots input h.kernel h.graph refl refl h.accepted h.room;
  last = ap is_own h.ends;
  untold = λ e. h.none;
  held = λ e. not_missing file h.bytes h.held;
}
check_each slots input file status printed table (inr h) = record {
  admitted = admits (CoverCheck slots) slots input h.kernel h.graph refl refl h.accepted h.room;
  last = ap is_own h.ends;
  untold = λ e. h.none;
  held = λ e. not_missing file h.bytes h.held;
}

check_some : (slots : ℕ) (input : List ℕ) (file : ToldFile) → (file ≡ Some None → ⊥) → IsAdmitted (CoverCheck slots) input → HasOwn (CoverCheck slots) input file
check_some slots input file there may =
    let is = admitted (CoverCheck slots) slots input refl refl may in
    let answer = cover_check_is_some slots input file is.kernel is.graph there is.accepted is.room in
    record { status = answer.0; printed = answer.1; table = answer.2; answer = answer.3 }

pub cover_check_kept : (slots : ℕ) → AreKept (CoverCheck slots)
cover_check_kept slots = record {
  each = check_each slots;
  once = λ input file s t p q a b told h k. let is = told refl in cover_check_is_one slots input file is.0 s t p q a b is.1 h k;
  some = λ input file limits held may. check_some slots input file (held refl) may;
}
