-- What the bytes read as, and what is judged of the moves, is what they hold.
use Rattle.std.proofs.Common.{◌≡◌, length, sym, ap, ◌∙◌, subst}
use Rattle.comp_graph.specs.Graphs.{GraphParts}
use Rattle.play_files.specs.PlayTexts.{ReadsAs}
use Rattle.command_answers.specs.PlayAnswers.{IsPlayFile, faulty, no_text}
use Rattle.command_answers.proofs.PlayedFiles.{bad_line_answered, few_moves, is_play_file}
use Rattle.command_answers.proofs.play.bytes_play.Goals as goal

pub returns-in-Err-BadLine : goal.returns-in-Err-BadLine
returns-in-Err-BadLine c =
    let count : c.len.result ≡ length c.args.game.now.graph.nodes = c.len.ensures.value ∙ ap (λ (g : GraphParts). length g.nodes) c.graph.ensures.value in
    let answer = c.in_ok-bad_line-in-Err-BadLine.ensures in
    let line = c.in-Err-BadLine.line in
    record {
      holds_none = no_text line c.requires.short (bad_line_answered c.args.game.now c.len.result c.args.bytes.now c.in-Err-BadLine.field-0 line count c.in-Err-BadLine.field-0-is c.in-Err-BadLine.ensures) answer.text;
      ends = answer.status;
      none = answer.none;
    }

pub judge-requires-clause-few : goal.judge-requires-clause-few
judge-requires-clause-few c =
    let count : c.len.result ≡ length c.args.game.now.graph.nodes = c.len.ensures.value ∙ ap (λ (g : GraphParts). length g.nodes) c.graph.ensures.value in
    few_moves c.args.game.now c.args.bytes.now c.deref.result.now (is_play_file c.args.game.now c.len.result c.args.bytes.now c.deref.result.now count c.requires.short (subst (ReadsAs c.len.result c.args.bytes.now) (sym c.deref.ensures.value) c.in-Ok.ensures))

pub returns-in_ok-faulty-in-Err : goal.returns-in_ok-faulty-in-Err
returns-in_ok-faulty-in-Err c =
    let count : c.len.result ≡ length c.args.game.now.graph.nodes = c.len.ensures.value ∙ ap (λ (g : GraphParts). length g.nodes) c.graph.ensures.value in
    let answer = c.in_ok-faulty-in-Err.ensures in
    let file : IsPlayFile c.args.game.now c.args.bytes.now c.deref.result.now = is_play_file c.args.game.now c.len.result c.args.bytes.now c.deref.result.now count c.requires.short (subst (ReadsAs c.len.result c.args.bytes.now) (sym c.deref.ensures.value) c.in-Ok.ensures) in
    record {
      holds_none = faulty c.deref.result.now c.in-Err.fault file c.in-Err.ensures.fault answer.text;
      ends = answer.status;
      none = answer.none;
    }
