-- Before the output elements stand the first lines and those of the vertices.
use Rattle.std.proofs.Common.{◌≡◌, ℕ, List, ◌++◌, map, sym, ap, ◌∙◌, append_assoc}
use Rattle.line_texts.specs.Lines.{ended}
use Rattle.line_texts.proofs.Fronts.{ended-append}
use Rattle.plan_report.specs.GraphText as spec
use Rattle.plan_report.proofs.graph.graph_text.Goals as goal

three_parts : (text front : List ℕ) (first second third : List (List ℕ)) → front ≡ ended first → text ≡ front ++ ended second → text ++ ended third ≡ ended (first ++ (second ++ third))
three_parts text front first second third begins goes =
    ap (λ z. z ++ ended third) (goes ∙ ap (λ z. z ++ ended second) begins) ∙ append_assoc (ended first) (ended second) (ended third)
    ∙ ap (λ z. ended first ++ z) (sym (ended-append second third)) ∙ sym (ended-append first (second ++ third))

pub loop-output-init : goal.loop-output-init
loop-output-init c =
    let g = c.args.graph.now in
    three_parts c.add_vertices.new.text.items c.in_ok-text.text.items (spec.heading g) (spec.vertex_lines g.names 0 g.nodes) (map spec.output_line g.outputs) c.in_ok-text.ensures c.in_ok-add_vertices.ensures
