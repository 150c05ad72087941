-- Each input reads as one code or has one line that is printed; and a code that a text reads as is no longer than the text.
use Rattle.std.proofs.Common.{◌≡◌, ◌⊎◌, ◌≤◌, ◌+◌, ℕ, suc, Bool, true, false, if◌then◌else◌, List, [], ◌∷◌, ◌++◌, length, map, codes, inl, inr, refl, sym, ap, ◌∙◌, arith}
use Rattle.std.proofs.lemmas.Bool.{cases_lt}
use Rattle.std.proofs.lemmas.List.{length-append, length-map}
use Rattle.line_texts.specs.Lines.{ended, is_comment, without_comments}
use Rattle.scratch_machine.specs.Codes.{CodeParts}
use Rattle.scratch_code.specs.CodeText.{lines_of_code, line_of_input, line_of_output, line_of_instr}
use Rattle.scratch_code.specs.CodeTexts.{ReadsAs}
use Rattle.scratch_code.proofs.Decided.{always_one}
use Rattle.scratch_code.proofs.Reader.{one_reading, one_bad_line, never_both}
use Rattle.command_answers.specs.CodeInputs.{IsCodeInput, IsCodeFault, OneCode, OneCodeFault, NoFaultOfCode, CodeOrFault}

-- ---- the laws

pub one_code : OneCode
one_code text code other a b = one_reading text code other a.reads b.reads

pub one_code_fault : OneCodeFault
one_code_fault text line other (inl a) (inl b) = a.1 ∙ sym b.1
one_code_fault text line other (inl a) (inr b) = absurd (omega (arith, a.0, b.0))
one_code_fault text line other (inr a) (inl b) = absurd (omega (arith, a.0, b.0))
one_code_fault text line other (inr a) (inr b) = one_bad_line text line other a.1 b.1

pub no_fault_of_code : NoFaultOfCode
no_fault_of_code text code line a (inl b) = let short = a.short in omega (arith, short, b.0)
no_fault_of_code text code line a (inr b) = never_both text code line a.reads b.1

pub code_or_fault : CodeOrFault
code_or_fault text = elim (cases_lt 20000000 (length text)) [
  | inl long ↦ inr (0, inl (long, refl))
  | inr short ↦ read (omega (arith, short))
]
  where
    read : length text ≤ 20000000 → ((code : CodeParts) × IsCodeInput text code) ⊎ ((line : ℕ) × IsCodeFault text line)
    read short = elim (always_one text) [
      | inl c ↦ inl (c.0, record { short = short; reads = c.1 })
      | inr m ↦ inr (m.0, inr (short, m.1))
    ]

-- ---- the length of a code

-- each line has a byte
lines_below : (lines : List (List ℕ)) → length lines ≤ length (ended lines)
lines_below [] = omega arith
lines_below (line ∷ lines) = let rest = lines_below lines in let here = length-append line (10 ∷ ended lines) in omega (arith, rest, here)

-- no more lines are left without comments
kept_below : (lines : List (List ℕ)) → length (without_comments lines) ≤ length lines
kept_below [] = omega arith
kept_below (line ∷ lines) = tested (is_comment line) (kept_below lines)
  where
    tested : (b : Bool) → length (without_comments lines) ≤ length lines → length (if b then without_comments lines else line ∷ without_comments lines) ≤ suc (length lines)
    tested true rest = omega (arith, rest)
    tested false rest = omega (arith, rest)

-- a text has at least as many bytes as the code that it reads as has instructions and outputs
pub few_parts : (text : List ℕ) (code : CodeParts) → ReadsAs text code → length code.instructions + length code.outputs ≤ length text
few_parts text code (valid, lines) =
    let inputs : List (List ℕ) = map line_of_input code.inputs in
    let outputs : List (List ℕ) = map line_of_output code.outputs in
    let instructions : List (List ℕ) = map line_of_instr code.instructions in
    let front = length-append inputs (outputs ++ (instructions ++ codes "end" ∷ [])) in
    let middle = length-append outputs (instructions ++ codes "end" ∷ []) in
    let back = length-append instructions (codes "end" ∷ []) in
    let some = length-map code.outputs line_of_output in
    let more = length-map code.instructions line_of_instr in
    let whole = ap length lines.begins.split ∙ length-append (ended lines.all) [] in
    let below = lines_below lines.all in
    let kept = kept_below lines.all in
    let same : length (without_comments lines.all) ≡ length (lines_of_code code) = ap length lines.same in
    omega (arith, front, middle, back, some, more, whole, below, kept, same)
