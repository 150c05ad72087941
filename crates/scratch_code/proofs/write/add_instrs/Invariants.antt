-- The text so far and the lines that are left are the whole text, and the constants so far have 64 bits.
use Rattle.std.proofs.Common.{◌≡◌, ◌++◌, map, take, drop}
use Rattle.std.specs.List.{All}
use Rattle.line_texts.specs.Lines.{ended}
use Rattle.scratch_code.specs.CodeText.{line_of_instr}
use Rattle.scratch_code.specs.CodeTexts.{WritesSmallConstants}
use Rattle.scratch_code.proofs.write.add_instrs.Given as goal

abbrev pub invariant-loop-instr : goal.invariant-loop-instr
invariant-loop-instr l = record {
  text : l.text.items ++ ended (map line_of_instr (drop l.instr-index l.instrs)) ≡ l.initial.text.items ++ ended (map line_of_instr l.instrs);
  constants : All WritesSmallConstants (take l.instr-index l.instrs);
}
