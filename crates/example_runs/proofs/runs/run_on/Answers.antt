-- What is left is what was said: the output was empty before, and the input was that of the caller.
use Rattle.std.proofs.Common.{◌≡◌, ◌∙◌, sym, subst, Some}
use Rattle.desk_io.specs.Known.{file_items}
use Rattle.pebble_cli.specs.Answers.{Answers}
use Rattle.command_words.specs.Words.{asked_by}
use Rattle.std.specs.Io.KnownBytes.{append_known}
use Rattle.example_runs.proofs.runs.run_on.Goals as goal

pub returns : goal.returns
returns c = record {
  answered = λ reads writes memory.
      let said = c.pebble-status.ensures.said reads writes memory in
      let words = c.args.words.now in
      let left = c.pebble-status.new.desk.output.items in
      let input : said.0 ≡ c.args.input.now = sym said.3 ∙ c.in_ok-from_slice.ensures.items in
      let grown = subst (λ xs. Some left ≡ append_known (Some xs) said.1) c.new.ensures.items said.5.said in
      let printed : said.1 ≡ left = cc in (
        said.2,
        subst (λ text. Answers (asked_by words) text (Some (file_items c.args.file)) c.pebble-status.result left said.2) input
            (subst (λ out. Answers (asked_by words) said.0 (Some (file_items c.args.file)) c.pebble-status.result out said.2) printed said.4),
        said.5.written,
      );
}
