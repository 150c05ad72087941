-- The text of the kernel that a command works on.
use Rattle.std.specs.Prelude.{ℕ, List, Option, None, Some}
use Rattle.command_words.specs.declared.commands.Subject.{Subject}
use Rattle.command_words.specs.declared.commands.Subject.TheVariants.{InputKernel, InputCode, TrialKernel}
use Rattle.kernel_gen.specs.Trials.{trial_kernel}

-- the text of the kernel that a subject is, with this input, if it is a kernel
abbrev pub kernel_text : Subject → List ℕ → Option (List ℕ)
kernel_text InputKernel input = Some input
kernel_text InputCode input = None
kernel_text (TrialKernel statements) input = Some (trial_kernel statements)
