-- The text of a code is the lines of its parts, one part behind the other.
use Rattle.std.proofs.Common.{◌≡◌, ℕ, List, [], ◌∷◌, ◌++◌, map, sym, ap, ◌∙◌, arith}
use Rattle.std.proofs.lemmas.Grind.{common_steps}
use Rattle.std.specs.Prelude.{codes}
use Rattle.scratch_machine.specs.Codes.{CodeParts}
use Rattle.line_texts.specs.Lines.{ended}
use Rattle.line_texts.proofs.Fronts.{ended-append}
use Rattle.scratch_code.specs.CodeText.{head_lines, line_of_input, line_of_output, line_of_instr, code_text}

ended_parts : (xs ys zs : List (List ℕ)) → ended (xs ++ (ys ++ (zs ++ codes "end" ∷ []))) ≡ ended xs ++ (ended ys ++ (ended zs ++ codes "end\n"))
ended_parts xs ys zs =
    ended-append xs (ys ++ (zs ++ codes "end" ∷ []))
    ∙ ap (λ r. ended xs ++ r) (ended-append ys (zs ++ codes "end" ∷ []) ∙ ap (λ r. ended ys ++ r) (ended-append zs (codes "end" ∷ [])))

joined : (head a b c d t u v w : List ℕ) → t ≡ head ++ a → u ≡ t ++ b → v ≡ u ++ c → w ≡ v ++ d → w ≡ head ++ (a ++ (b ++ (c ++ d)))
joined head a b c d t u v w e f g h = grind (arith, common_steps)

-- the text after the inputs, the outputs, the instructions and the end were written behind the head
pub text_of_parts : (c : CodeParts) (head t u v text : List ℕ)
    → head ≡ ended (head_lines c.slots c.words)
    → t ≡ head ++ ended (map line_of_input c.inputs)
    → u ≡ t ++ ended (map line_of_output c.outputs)
    → v ≡ u ++ ended (map line_of_instr c.instructions)
    → text ≡ v ++ codes "end\n"
    → text ≡ code_text c
text_of_parts c head t u v text h a b d e =
    let inputs = map line_of_input c.inputs in
    let outputs = map line_of_output c.outputs in
    let instrs = map line_of_instr c.instructions in
    joined head (ended inputs) (ended outputs) (ended instrs) (codes "end\n") t u v text a b d e
    ∙ ap (λ front. front ++ (ended inputs ++ (ended outputs ++ (ended instrs ++ codes "end\n")))) h
    ∙ ap (λ r. ended (head_lines c.slots c.words) ++ r) (sym (ended_parts inputs outputs instrs))
    ∙ sym (ended-append (head_lines c.slots c.words) (inputs ++ (outputs ++ (instrs ++ codes "end" ∷ []))))
