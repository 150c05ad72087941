-- The first fault of the names of a text's tree is the first fault of the text.
use Rattle.std.proofs.Common.{ℕ, List, inr}
use Rattle.std.specs.Prelude.{IfErr, Result, Ok, Err}
use Rattle.kernel_lexer.specs.declared.token.Token.{Token}
use Rattle.kernel_parser.specs.declared.parse_end.ParseEnd.{ParseEnd}
use Rattle.kernel_parser.specs.declared.parse_end.ParseEnd.TheVariants.{Fault, NoMemory}
use Rattle.kernel_syntax.specs.declared.raw.RawKernel.{RawKernel}
use Rattle.kernel_parser.specs.KernelTexts.{IsWritten, EndMeans}
use Rattle.kernel_parser.specs.Names.{name_faults}
use Rattle.kernel_parser.specs.Scopes.{EndsAt}

pub ends_at_name : {A : Type 0} (text : List ℕ) (ts : List Token) (raw : RawKernel) → IsWritten text ts raw → (r : Result A ParseEnd) → IfErr r (EndsAt (name_faults text raw)) → IfErr r (EndMeans text)
ends_at_name text ts raw w (Ok a) h = h
ends_at_name text ts raw w (Err NoMemory) h = tt
ends_at_name text ts raw w (Err (Fault code at)) h = inr (inr (inr (record { tokens = ts; raw = raw; written = w; here = h })))
