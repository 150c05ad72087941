-- What `kernel_of_text` owes `resolve`, and that the first fault of the names is that of the text.
use Rattle.std.proofs.Common.{subst}
use Rattle.kernel_syntax.specs.Grammar.{Whole}
use Rattle.kernel_parser.proofs.ReadKernels.{text_fits}
use Rattle.kernel_parser.proofs.NameEnds.{ends_at_name}
use Rattle.kernel_parser.proofs.kernel_text.kernel_of_text.Goals as goal

pub resolve-requires : goal.resolve-requires
resolve-requires c =
    let read = subst (λ ts. Whole 32 ts c.in_ok-raw.raw) c.as_slice.ensures.value c.in_ok-raw.ensures.read in
    text_fits c.args.text.now c.in_ok-tokens.tokens.items c.in_ok-raw.raw c.if-text-gt-MAX_LENGTH.false c.in_ok-tokens.ensures.tokens read

pub returns-clause-fault : goal.returns-clause-fault
returns-clause-fault c =
    let read = subst (λ ts. Whole 32 ts c.in_ok-raw.raw) c.as_slice.ensures.value c.in_ok-raw.ensures.read in
    ends_at_name c.args.text.now c.in_ok-tokens.tokens.items c.in_ok-raw.raw
    (record { short = c.if-text-gt-MAX_LENGTH.false; spelled = c.in_ok-tokens.ensures.tokens; read = read }) c.resolve.result c.resolve.ensures.fault
