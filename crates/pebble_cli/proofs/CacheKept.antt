-- The own answers of `cache`: one to each accepted kernel with enough slots, by the run of the cache and the plan that the search finds.
use Rattle.std.proofs.Common.{ℕ, List, Option, refl, ap, ◌∙◌}
use Rattle.command_words.specs.declared.commands.Caching.{Caching}
use Rattle.command_words.specs.declared.commands.Command.TheVariants.{Cache}
use Rattle.command_words.specs.Words.{IsInLimits}
use Rattle.command_answers.specs.declared.status.Status.{Status}
use Rattle.command_answers.specs.CacheAnswers.{IsCached}
use Rattle.command_answers.specs.Status.{is_own}
use Rattle.desk_io.specs.Known.{ToldFile}
use Rattle.command_answers.proofs.FoundCaches.{cached_is_one, cached_is_some}
use Rattle.pebble_cli.specs.Answers.{IsAdmitted}
use Rattle.pebble_cli.proofs.Admitting.{admits, admitted}
use Rattle.pebble_cli.proofs.OwnAnswers.{IsKept, HasOwn, AreKept}
use Rattle.pebble_cli.proofs.PlanKept.{verdict_is_own}

kept : (asked : Caching) (input : List ℕ) (file : ToldFile) (status : Status) (printed : List ℕ) (table : Option (List ℕ))
    → IsCached asked input status printed table → IsKept (Cache asked) input file status printed table
kept asked input file status printed table h = record {
  admitted = admits (Cache asked) asked.slots input h.kernel h.graph refl refl h.accepted h.room;
  last = ap is_own h.ends ∙ verdict_is_own h.numbers.optimal;
  untold = λ e. absurd (cc);
  held = λ e. absurd (cc);
}

some : (asked : Caching) (input : List ℕ) (file : ToldFile) → IsInLimits (Cache asked) → IsAdmitted (Cache asked) input → HasOwn (Cache asked) input file
some asked input file limits may =
    let is = admitted (Cache asked) asked.slots input refl refl may in
    let answer = cached_is_some asked input is.kernel is.graph limits.0 limits.1 limits.2 is.accepted is.room in
    record { status = answer.0; printed = answer.1; table = answer.2; answer = answer.3 }

pub cache_kept : (asked : Caching) → AreKept (Cache asked)
cache_kept asked = record {
  each = kept asked;
  once = λ input file s t p q a b told h k. cached_is_one asked input s t p q a b h k;
  some = λ input file limits held may. some asked input file limits may;
}
