-- One output more, or a fault at an empty word.
use Rattle.std.proofs.Common.{◌≡◌, ◌+◌, [], ◌∷◌, ◌++◌, drop, sym, ◌∙◌, ap, rules, arith, w64, to_z, of_z}
use Rattle.scratch_machine.specs.Exec.{cells_of, with_front}
use Rattle.scratch_machine.specs.Machines.{outputs_read}
use Rattle.scratch_machine.proofs.Execs.{joined_get, output_more, output_fails}
use Rattle.scratch_machine.proofs.machine.Machine.outputs.Goals as goal

pub returns-in_default : goal.returns-in_default
returns-in_default c =
    let os = c.args.outputs.now in
    let words = cells_of c.args.self.now.words in
    sym c.loop-k.invariant
    ∙ output_fails words c.args.first c.loop-k.k os c.index-outputs-k.result c.loop-k.values.items (omega arith)
    (ap (λ o. cells_of c.args.self.now.words o.word) (sym c.index-outputs-k.is) ∙ joined_get c.args.self.now.words c.index-outputs-k.result.word ∙ c.in_default.is)

pub loop-k-preserved : goal.loop-k-preserved
loop-k-preserved c =
    let os = c.args.outputs.now in
    let words = cells_of c.args.self.now.words in
    let value : to_z w64 (of_z w64 c.in-Some.value) ≡ c.in-Some.value = search rules in
    let pushed : c.push.new.self.items ≡ c.loop-k.values.items ++ to_z w64 (of_z w64 c.in-Some.value) ∷ [] = search rules in
    ap (λ vs. with_front vs (outputs_read (c.args.first + (c.loop-k.k + 1)) words (drop (c.loop-k.k + 1) os))) (pushed ∙ ap (λ x. c.loop-k.values.items ++ x ∷ []) value)
    ∙ output_more words c.args.first c.loop-k.k os c.index-outputs-k.result c.loop-k.values.items (omega arith) c.in-Some.value
    (ap (λ o. cells_of c.args.self.now.words o.word) (sym c.index-outputs-k.is) ∙ joined_get c.args.self.now.words c.index-outputs-k.result.word ∙ c.in-Some.is)
    ∙ c.loop-k.invariant
