-- Each move is ready to be played, and the parts at the end are those of the code of all moves.
use Rattle.std.proofs.Common.{◌≡◌, ◌++◌, get_or, length, ◌≤◌, sym, ap, ◌∙◌, subst, arith}
use Rattle.pebble_rules.specs.declared.moves.Move.TheVariants.{Load}
use Rattle.slot_alloc.specs.Emitted.{code_of_move, output_words}
use Rattle.slot_alloc.specs.Emitters.{layout_of}
use Rattle.slot_alloc.proofs.Emitting.{emitting_first, emitting_ready, emitting_more, emitting_layout, emitting_done, emitted_code_plays}
use Rattle.slot_alloc.proofs.Calls.{code_made}
use Rattle.slot_alloc.specs.PlanCode.{IsCodeOf}
use Rattle.scratch_machine.specs.Codes.{IsCode}
use Rattle.slot_alloc.proofs.code.code_of_moves.Goals as goal

pub loop-mv-init : goal.loop-mv-init
loop-mv-init c =
    let is = c.len-valid.ensures.valid in
    emitting_first c.args.graph.now is c.args.slots c.requires.moves.weights c.args.moves.now c.begin-emitter.result.instructions.items (layout_of c.begin-emitter.result)
    c.requires.moves.complete.pebbling c.requires.moves.neat c.begin-emitter.ensures.code c.begin-emitter.ensures.layout

pub play-requires : goal.play-requires
play-requires c =
    let is = c.len-valid.ensures.valid in
    emitting_ready c.args.graph.now is c.args.slots c.requires.few c.args.moves.now c.loop-mv.mv-index (layout_of c.loop-mv.emitter) c.loop-mv.emitter.instructions.items c.loop-mv.invariant (Load 0) c.loop-mv-test.true

pub loop-mv-preserved : goal.loop-mv-preserved
loop-mv-preserved c =
    let is = c.len-valid.ensures.valid in
    let code : c.play.new.self.instructions.items ≡ c.loop-mv.emitter.instructions.items ++ code_of_move c.args.graph.now (layout_of c.loop-mv.emitter) (get_or c.args.moves.now c.loop-mv.mv-index (Load 0)) = c.in_ok-play.ensures.code in
    emitting_more c.args.graph.now is c.args.slots c.requires.few c.args.moves.now c.loop-mv.mv-index (layout_of c.loop-mv.emitter) c.loop-mv.emitter.instructions.items c.loop-mv.invariant (Load 0) c.loop-mv-test.true
    (layout_of c.play.new.self) c.play.new.self.instructions.items c.play.ensures.layout code

pub new-requires : goal.new-requires
new-requires c =
    let valid = c.len-valid.ensures.valid in
    let code : IsCodeOf c.args.graph.now c.args.slots c.args.moves.now = emitted_code_plays c.args.graph.now c.args.slots c.requires.moves.weights c.args.moves.now valid c.requires.some c.requires.few c.requires.moves.complete c.requires.moves.neat in
    let done : length c.args.moves.now ≤ c.loop-mv.mv-index = omega arith in
    subst IsCode
    (sym (code_made c.args.graph.now c.args.slots c.args.moves.now (layout_of c.loop-mv.emitter) c.in_ok-inputs.inputs.items c.in_ok-outputs.outputs.items c.loop-mv.emitter.instructions.items
    (emitting_layout c.args.graph.now c.args.slots c.args.moves.now c.loop-mv.mv-index _ _ c.loop-mv.invariant done)
    (c.in_ok-inputs.ensures ∙ c.names.ensures)
    (c.in_ok-outputs.ensures ∙ ap (output_words (layout_of c.loop-mv.emitter)) c.outputs.ensures)
    (emitting_done c.args.graph.now c.args.slots c.args.moves.now c.loop-mv.mv-index _ _ c.loop-mv.invariant done)))
    code.valid
