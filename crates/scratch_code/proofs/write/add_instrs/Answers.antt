-- The constants so far have 64 bits, with those of the instruction that was written.
use Rattle.std.proofs.Common.{subst, arith, rules}
use Rattle.std.specs.List.{All}
use Rattle.std.proofs.lemmas.Grind.{common_steps}
use Rattle.std.proofs.lemmas.List.{take_all}
use Rattle.std.proofs.lemmas.List.Elements.{All-more}
use Rattle.scratch_machine.specs.declared.code.Instr.TheVariants.{Load}
use Rattle.scratch_code.specs.CodeTexts.{WritesSmallConstants}
use Rattle.scratch_code.proofs.write.add_instrs.Goals as goal

pub loop-instr-preserved : goal.loop-instr-preserved
loop-instr-preserved c = record {
  text = first_of (search rules, grind (arith, common_steps));
  constants = All-more WritesSmallConstants c.args.instrs.now c.loop-instr.instr-index (Load 0 0) (omega arith) c.loop-instr.invariant.constants c.in_ok-add_instr.ensures.constants;
}

pub returns-clause-constants : goal.returns-clause-constants
returns-clause-constants c = subst (All WritesSmallConstants) (take_all c.loop-instr.instr-index c.args.instrs.now (omega arith)) c.loop-instr.invariant.constants
