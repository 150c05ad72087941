-- The own answers of `parts`: one to each accepted kernel with enough slots, by the search of each part.
use Rattle.std.proofs.Common.{ℕ, List, Option, refl, ap}
use Rattle.command_words.specs.declared.commands.Command.TheVariants.{Parts}
use Rattle.command_words.specs.declared.commands.PartPlanning.{PartPlanning}
use Rattle.command_words.specs.Words.{IsInLimits}
use Rattle.command_answers.specs.declared.status.Status.{Status}
use Rattle.command_answers.specs.PartAnswers.{IsParted}
use Rattle.command_answers.specs.Status.{is_own}
use Rattle.desk_io.specs.Known.{ToldFile}
use Rattle.command_answers.proofs.OneParts.{parted_is_one}
use Rattle.command_answers.proofs.SomeParts.{parted_is_some}
use Rattle.pebble_cli.specs.Answers.{IsAdmitted}
use Rattle.pebble_cli.proofs.Admitting.{admits, admitted}
use Rattle.pebble_cli.proofs.OwnAnswers.{IsKept, HasOwn, AreKept}

kept : (asked : PartPlanning) (input : List ℕ) (file : ToldFile) (status : Status) (printed : List ℕ) (table : Option (List ℕ))
    → IsParted asked input status printed table → IsKept (Parts asked) input file status printed table
kept asked input file status printed table h = record {
  admitted = admits (Parts asked) asked.slots input h.kernel h.graph refl refl h.accepted h.room;
  last = ap is_own h.ends;
  untold = λ e. absurd (cc);
  held = λ e. absurd (cc);
}

some : (asked : PartPlanning) (input : List ℕ) (file : ToldFile) → IsInLimits (Parts asked) → IsAdmitted (Parts asked) input → HasOwn (Parts asked) input file
some asked input file limits may =
    let is = admitted (Parts asked) asked.slots input refl refl may in
    let answer = parted_is_some asked input is.kernel is.graph limits.0 limits.1 limits.4 is.accepted is.room in
    record { status = answer.0; printed = answer.1; table = answer.2; answer = answer.3 }

pub parts_kept : (asked : PartPlanning) → AreKept (Parts asked)
parts_kept asked = record {
  each = kept asked;
  once = λ input file s t p q a b told h k. parted_is_one asked input s t p q a b h k;
  some = λ input file limits held may. some asked input file limits may;
}
