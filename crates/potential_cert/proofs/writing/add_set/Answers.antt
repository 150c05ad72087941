use Rattle.std.proofs.Common.{◌+◌, ◌++◌, ap, ◌∙◌, arith}
use Rattle.comp_graph.specs.Words.{word_of}
use Rattle.potential_cert.specs.TableBytes.{big_endian, set_bytes}
use Rattle.potential_cert.proofs.Written.{set_more, added_more}
use Rattle.potential_cert.proofs.writing.add_set.Goals as goal

pub loop-k-preserved : goal.loop-k-preserved
loop-k-preserved c =
    added_more c.args.bytes.now.items c.loop-k.bytes.items c.add_u64.new.bytes.items (set_bytes c.loop-k.k c.args.set.now) (big_endian 8 (word_of c.args.set.now c.loop-k.k)) (set_bytes (c.loop-k.k + 1) c.args.set.now)
    c.loop-k.invariant (c.in_ok-add_u64.ensures ∙ ap (λ n. c.loop-k.bytes.items ++ big_endian 8 n) c.word.ensures.value)
    (set_more c.args.set.now c.loop-k.k (let few = c.requires in let less = c.loop-k-test.true in omega arith))
