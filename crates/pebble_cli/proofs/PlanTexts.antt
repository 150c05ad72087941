-- What `plan` prints reads as its code: the report's lines are comments, the labels are labels, and the constants have 64 bits.
use Rattle.std.proofs.Common.{◌≡◌, ◌^◌, ◌<◌, ℕ, zero, suc, Bool, true, false, List, [], ◌∷◌, ◌++◌, map, take, slice_get, Option, Some, refl, sym, subst, arith}
use Rattle.std.specs.Fmt.{decimal}
use Rattle.std.specs.List.{All}
use Rattle.std.specs.Prelude.{codes, ◌==◌, ◌&&◌, if◌then◌else◌}
use Rattle.std.proofs.lemmas.List.Elements.{All-nil, All-cons, All-head, All-tail, All-take, All-append, All-from_recursion}
use Rattle.comp_graph.specs.declared.node.Operand.{Operand}
use Rattle.comp_graph.specs.declared.node.Operand.TheVariants.{Vertex, Const as Constant}
use Rattle.comp_graph.specs.Games.{IsGame}
use Rattle.comp_graph.specs.Graphs.{GraphParts, operands_of}
use Rattle.comp_graph.specs.Operations.{arity_of}
use Rattle.pebble_rules.specs.declared.moves.Move.{Move}
use Rattle.pebble_rules.specs.declared.moves.Move.TheVariants.{Load as LoadMove, Store as StoreMove, Compute, DropRed, DropBlue}
use Rattle.scratch_machine.specs.declared.code.Source.{Source}
use Rattle.scratch_machine.specs.declared.code.Source.TheVariants.{Slot, Const}
use Rattle.scratch_machine.specs.declared.code.Instr.{Instr}
use Rattle.scratch_machine.specs.declared.code.Instr.TheVariants.{Load, Store, Apply}
use Rattle.scratch_machine.specs.declared.code.OutWord.{OutWord}
use Rattle.scratch_machine.specs.Cells.{Cells}
use Rattle.scratch_machine.specs.CodePlays.{Places, NamesAll, Plays, with_slot, with_word, without_slot, first_places}
use Rattle.kernel_ast.specs.declared.tree.DeclKind.TheVariants as kinds
use Rattle.kernel_ast.specs.WellFormed.{IsWellFormed}
use Rattle.kernel_parser.proofs.OneText.{kernels_are_well_formed}
use Rattle.line_texts.specs.Lines.{IsLine, is_comment}
use Rattle.line_texts.proofs.Cuts.{IsNot, has_not, not_in_decimal, line_is_line}
use Rattle.plan_report.specs.declared.facts.Facts.{Facts}
use Rattle.plan_report.specs.ReportText.{remark, game_lines, weight_lines, plan_lines, report_lines, verdict_word}
use Rattle.scratch_code.specs.CodeTexts.{HasText, HasSmallConstant, WritesSmallConstants, ReadsAs}
use Rattle.scratch_code.specs.Labels.{IsLabel}
use Rattle.scratch_code.proofs.Constants.{code_constants}
use Rattle.scratch_code.proofs.Names.{name_has_not, no_feed}
use Rattle.scratch_code.proofs.Reader.{reads_behind_comments}
use Rattle.three_address.specs.Laws as graphs
use Rattle.three_address.proofs.SmallConstants.{constants_are_small}
use Rattle.command_words.specs.declared.commands.Command.TheVariants.{Plan}
use Rattle.command_words.specs.declared.commands.Planning.{Planning}
use Rattle.command_answers.specs.declared.status.Status.{Status}
use Rattle.command_answers.specs.PlanAnswers.{IsPlanned, facts_of}
use Rattle.command_answers.specs.PlayedGames.{game_asked}
use Rattle.command_words.specs.Words.{IsInLimits}
use Rattle.command_answers.proofs.FirstPlans.{first_plan_valid}
use Rattle.command_answers.proofs.KernelLabels.{labels_are_labels, name_is_name}

-- ---- constants

-- what names operands with constants of 64 bits has such constants
named_small : (slots : Cells ℕ) (xs : List Operand) (args : List Source) → NamesAll slots xs args → All graphs.HasSmallConstant xs → All HasSmallConstant args
named_small slots [] [] h small = All-nil HasSmallConstant
named_small slots [] (a ∷ args) h small = absurd h
named_small slots (x ∷ xs) [] h small = absurd h
named_small slots (Vertex u ∷ xs) (Slot k ∷ args) h small = All-cons HasSmallConstant (Slot k) args tt (named_small slots xs args h.1 (All-tail graphs.HasSmallConstant (Vertex u) xs small))
named_small slots (Vertex u ∷ xs) (Const c ∷ args) h small = absurd h.0
named_small slots (Constant d ∷ xs) (Slot k ∷ args) h small = absurd h.0
named_small slots (Constant d ∷ xs) (Const c ∷ args) h small =
    let same : c ≡ d = h.0 in
    let here : HasSmallConstant (Const c) = subst (λ z. HasSmallConstant (Const z)) (sym same) (All-head graphs.HasSmallConstant (Constant d) xs small) in
    All-cons HasSmallConstant (Const c) args here (named_small slots xs args h.1 (All-tail graphs.HasSmallConstant (Constant d) xs small))

-- the node at a place
at_place : {A : Type 0} (P : A → Type 0) (xs : List A) (k : ℕ) (x : A) → All P xs → slice_get xs k ≡ Some x → P x
at_place P [] k x all e = absurd (cc)
at_place P (y ∷ ys) zero x all e = let same : y ≡ x = cc in subst P same (All-head P y ys all)
at_place P (y ∷ ys) (suc k) x all e = at_place P ys k x (All-tail P y ys all) e

-- what plays on a graph with constants of 64 bits writes such constants
plays_small : (g : GraphParts) → All graphs.HasSmallConstants g.nodes → (p q : Places) (ms : List Move) (is : List Instr) → Plays g p ms is q → All WritesSmallConstants is
plays_small g small p q [] [] h = All-nil WritesSmallConstants
plays_small g small p q [] (i ∷ is) h = absurd h
plays_small g small p q (LoadMove v ∷ ms) [] h = absurd h
plays_small g small p q (LoadMove v ∷ ms) (Load s a ∷ is) h = All-cons WritesSmallConstants (Load s a) is tt (plays_small g small (with_slot p s v) q ms is h.1)
plays_small g small p q (LoadMove v ∷ ms) (Store s a ∷ is) h = absurd h
plays_small g small p q (LoadMove v ∷ ms) (Apply op s args ∷ is) h = absurd h
plays_small g small p q (StoreMove v ∷ ms) [] h = absurd h
plays_small g small p q (StoreMove v ∷ ms) (Load s a ∷ is) h = absurd h
plays_small g small p q (StoreMove v ∷ ms) (Store s a ∷ is) h = All-cons WritesSmallConstants (Store s a) is tt (plays_small g small (with_word p a v) q ms is h.1)
plays_small g small p q (StoreMove v ∷ ms) (Apply op s args ∷ is) h = absurd h
plays_small g small p q (Compute v ∷ ms) [] h = absurd h
plays_small g small p q (Compute v ∷ ms) (Load s a ∷ is) h = absurd h
plays_small g small p q (Compute v ∷ ms) (Store s a ∷ is) h = absurd h
plays_small g small p q (Compute v ∷ ms) (Apply op s args ∷ is) h =
    let node = h.0.node in
    let whole : graphs.HasSmallConstants node = at_place graphs.HasSmallConstants g.nodes v node small h.0.is_node in
    let taken : All graphs.HasSmallConstant (operands_of node) = All-take graphs.HasSmallConstant (arity_of node.op) node.args whole in
    All-cons WritesSmallConstants (Apply op s args) is (named_small p.slots (operands_of node) (take (arity_of op) args) h.0.operands taken) (plays_small g small (with_slot p s v) q ms is h.1)
plays_small g small p q (DropRed v ∷ ms) is h = plays_small g small (without_slot p h.0) q ms is h.2
plays_small g small p q (DropBlue v ∷ ms) is h = absurd h

-- ---- labels

-- a fact of the images is one of the members
of_mapped : {A B : Type 0} (P : B → Type 0) (f : A → B) (xs : List A) → All P (map f xs) → All (λ a. P (f a)) xs
of_mapped P f [] all = All-nil (λ a. P (f a))
of_mapped P f (x ∷ xs) all = All-cons (λ a. P (f a)) x xs (All-head P (f x) (map f xs) all) (of_mapped P f xs (All-tail P (f x) (map f xs) all))

-- the code of a plan can be written
plan_has_text : (asked : Planning) (text : List ℕ) (status : Status) (printed : List ℕ) (table : Option (List ℕ)) (h : IsPlanned asked text status printed table) → HasText h.plan.code
plan_has_text asked text status printed table h =
    let well : IsWellFormed h.kernel = kernels_are_well_formed text h.kernel h.accepted.reads in
    let nodes = constants_are_small h.kernel h.graph well h.accepted.evaluated in
    let played = h.answer.right.played in
    record {
      bounds = h.answer.right.bounds;
      inputs = subst (All IsLabel) (sym h.answer.right.inputs) (labels_are_labels h.kernel kinds.Input well);
      outputs = of_mapped IsLabel (λ (o : OutWord). o.label) h.plan.code.outputs (subst (All IsLabel) (sym h.answer.right.outputs) (labels_are_labels h.kernel kinds.Output well));
      constants = code_constants h.plan.code h.answer.right.bounds
          (plays_small h.graph nodes (first_places h.graph) played.plays.last played.moves h.plan.code.instructions played.plays.plays);
    }

-- ---- the report

-- words without a line feed make a line
remark_is_line : (name value : List ℕ) → All (IsNot 10) name → All (IsNot 10) value → IsLine (remark name value)
remark_is_line name value a b =
    line_is_line (codes ";") (name ∷ value ∷ []) (has_not 10 (codes ";") refl)
    (All-cons (All (IsNot 10)) name (value ∷ []) a (All-cons (All (IsNot 10)) value [] b (All-nil (All (IsNot 10)))))

number_is_line : (name : List ℕ) (n : ℕ) → All (IsNot 10) name → n < 2 ^ 64 → IsLine (remark name (decimal n))
number_is_line name n a small = remark_is_line name (decimal n) a (not_in_decimal 10 n (omega arith) small)

verdict_is_line : (optimal : Bool) → IsLine (remark (codes "verdict") (verdict_word optimal))
verdict_is_line true = remark_is_line (codes "verdict") (codes "Optimal") (has_not 10 (codes "verdict") refl) (has_not 10 (codes "Optimal") refl)
verdict_is_line false = remark_is_line (codes "verdict") (codes "Open") (has_not 10 (codes "verdict") refl) (has_not 10 (codes "Open") refl)

-- the numbers of a report are of 64 bits
record AreSmallFacts (f : Facts) : Type 0 where
  vertices : f.vertices < 2 ^ 64
  inputs : f.inputs < 2 ^ 64
  degree : f.degree < 2 ^ 64
  slots : f.slots < 2 ^ 64
  load : f.weights.load < 2 ^ 64
  store : f.weights.store < 2 ^ 64
  first : f.first < 2 ^ 64
  cost : f.cost < 2 ^ 64
  bound : f.bound < 2 ^ 64
  expanded : f.expanded < 2 ^ 64
  budget : f.budget < 2 ^ 64

-- a choice between no lines and these
chosen_lines : (P : List ℕ → Type 0) (none : Bool) (lines : List (List ℕ)) → All P lines → All P (if none then [] else lines)
chosen_lines P true lines all = All-nil P
chosen_lines P false lines all = all

game_is_lines : (title : List ℕ) (f : Facts) → All (IsNot 10) title → AreSmallFacts f → All IsLine (game_lines title f)
game_is_lines title f name small = All-from_recursion IsLine (game_lines title f) (
  remark_is_line (codes "kernel") title (has_not 10 (codes "kernel") refl) name,
  (
    number_is_line (codes "vertices") f.vertices (has_not 10 (codes "vertices") refl) small.vertices,
    (
      number_is_line (codes "inputs") f.inputs (has_not 10 (codes "inputs") refl) small.inputs,
      (
        number_is_line (codes "degree") f.degree (has_not 10 (codes "degree") refl) small.degree,
        (number_is_line (codes "slots") f.slots (has_not 10 (codes "slots") refl) small.slots, tt),
      ),
    ),
  ),
)

weights_are_lines : (f : Facts) → AreSmallFacts f → All IsLine (weight_lines f.weights)
weights_are_lines f small =
    let both = remark (codes "load") (decimal f.weights.load) ∷ remark (codes "store") (decimal f.weights.store) ∷ [] in
    chosen_lines IsLine _ both (All-from_recursion IsLine both (
      number_is_line (codes "load") f.weights.load (has_not 10 (codes "load") refl) small.load,
      (number_is_line (codes "store") f.weights.store (has_not 10 (codes "store") refl) small.store, tt),
    ))

plan_is_lines : (f : Facts) → AreSmallFacts f → All IsLine (plan_lines f)
plan_is_lines f small = All-from_recursion IsLine (plan_lines f) (
  number_is_line (codes "first") f.first (has_not 10 (codes "first") refl) small.first,
  (
    number_is_line (codes "cost") f.cost (has_not 10 (codes "cost") refl) small.cost,
    (
      number_is_line (codes "bound") f.bound (has_not 10 (codes "bound") refl) small.bound,
      (
        number_is_line (codes "expanded") f.expanded (has_not 10 (codes "expanded") refl) small.expanded,
        (
          number_is_line (codes "budget") f.budget (has_not 10 (codes "budget") refl) small.budget,
          (verdict_is_line f.optimal, tt),
        ),
      ),
    ),
  ),
)

report_is_lines : (title : List ℕ) (f : Facts) → All (IsNot 10) title → AreSmallFacts f → All IsLine (report_lines title f)
report_is_lines title f name small =
    All-append IsLine (game_lines title f) (weight_lines f.weights ++ plan_lines f) (game_is_lines title f name small)
    (All-append IsLine (weight_lines f.weights) (plan_lines f) (weights_are_lines f small) (plan_is_lines f small))

abbrev IsComment : List ℕ → Type 0
IsComment line = is_comment line ≡ true

report_is_comments : (title : List ℕ) (f : Facts) → All IsComment (report_lines title f)
report_is_comments title f =
    let both = remark (codes "load") (decimal f.weights.load) ∷ remark (codes "store") (decimal f.weights.store) ∷ [] in
    let game = All-from_recursion IsComment (game_lines title f) (refl, (refl, (refl, (refl, (refl, tt))))) in
    let weights = chosen_lines IsComment ((f.weights.load == 1) && (f.weights.store == 1)) both (All-from_recursion IsComment both (refl, (refl, tt))) in
    let plan = All-from_recursion IsComment (plan_lines f) (refl, (refl, (refl, (refl, (refl, (refl, tt)))))) in
    All-append IsComment (game_lines title f) (weight_lines f.weights ++ plan_lines f) game (All-append IsComment (weight_lines f.weights) (plan_lines f) weights plan)

plan_facts_small : (asked : Planning) (text : List ℕ) (status : Status) (printed : List ℕ) (table : Option (List ℕ)) → IsInLimits (Plan asked)
    → (h : IsPlanned asked text status printed table) → AreSmallFacts (facts_of h.graph asked h.plan.numbers)
plan_facts_small asked text status printed table limits h =
    let game : IsGame (game_asked asked h.graph) = record {
      valid = h.valid;
      most = limits.1;
      room = h.room;
      weights = limits.3;
    } in
    let vertices = h.valid.small in
    let named = h.valid.named in
    let room = h.room in
    let most = limits.1 in
    let few = (first_plan_valid (game_asked asked h.graph) game).fits in
    let first = h.answer.shown.first in
    let no_more = h.answer.shown.no_more in
    let low = h.answer.shown.lowest h.answer.right.played.moves h.answer.right.played.complete in
    let costs = h.answer.right.played.costs in
    let expanded = h.answer.shown.few in
    let budget = limits.2 in
    record {
      vertices = omega (arith, vertices);
      inputs = omega (arith, vertices, named);
      degree = omega (arith, room, most);
      slots = omega (arith, most);
      load = let load = limits.3.load_most in omega (arith, load);
      store = let store = limits.3.store_most in omega (arith, store);
      first = omega (arith, few, first);
      cost = omega (arith, few, first, no_more);
      bound = omega (arith, few, first, no_more, low, costs);
      expanded = omega (arith, expanded, budget);
      budget = omega (arith, budget);
    }

-- what `plan` prints reads as the code of the plan
pub printed_code : (asked : Planning) (text : List ℕ) (status : Status) (printed : List ℕ) (table : Option (List ℕ)) → IsInLimits (Plan asked)
    → (h : IsPlanned asked text status printed table) → ReadsAs printed h.plan.code
printed_code asked text status printed table limits h =
    let well : IsWellFormed h.kernel = kernels_are_well_formed text h.kernel h.accepted.reads in
    let facts = facts_of h.graph asked h.plan.numbers in
    let title = name_has_not 10 (omega arith) no_feed h.kernel.title (name_is_name h.kernel.title well.title) in
    let lines = report_is_lines h.kernel.title facts title (plan_facts_small asked text status printed table limits h) in
    subst (λ t. ReadsAs t h.plan.code) (sym h.report)
    (reads_behind_comments h.plan.code (report_lines h.kernel.title facts) (plan_has_text asked text status printed table h) lines (report_is_comments h.kernel.title facts))
