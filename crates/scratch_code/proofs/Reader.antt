-- The reader of code texts: its steps are those of the grammar, so the laws of readers hold of it.
use Rattle.std.proofs.Common.{◌≡◌, ◌≢◌, ℕ, ◌+◌, Bool, true, false, Result, Ok, Err, IfOk, Some, None, List, [], ◌∷◌, ◌++◌, map, refl, sym, ap, ◌∙◌, subst, inr, append-nil}
use Rattle.std.specs.List.{All}
use Rattle.std.proofs.lemmas.List.{map-append}
use Rattle.std.proofs.lemmas.List.Elements.{All-nil, All-cons, All-head, All-tail}
use Rattle.scratch_machine.specs.declared.code.Instr.{Instr}
use Rattle.scratch_machine.specs.declared.code.Instr.TheVariants.{Load, Store, Apply}
use Rattle.scratch_machine.specs.Codes.{CodeParts}
use Rattle.line_texts.specs.Lines.{IsLine, ended, BeginsWith, is_comment, without_comments, HasLines}
use Rattle.line_texts.specs.BadLines.{BeginsText, IsBadLine}
use Rattle.line_texts.specs.Steps.{IsPassed, IsRefused, IsLineAnswer}
use Rattle.line_texts.proofs.Fronts.{one_list_of_lines, has_lines, has_lines_behind, none_dropped, same_bad_line, text_is_not_bad}
use Rattle.line_texts.proofs.Reading as reading
use Rattle.scratch_code.specs.declared.item.Item.{Item}
use Rattle.scratch_code.specs.declared.item.Item.TheVariants.{Slots, Words, In, Out, Do, End}
use Rattle.scratch_code.specs.declared.draft.Stage.{Stage}
use Rattle.scratch_code.specs.declared.draft.Stage.TheVariants.{Done}
use Rattle.scratch_code.specs.CodeText.{line_of_instr, line_of_input, line_of_output, lines_of_code}
use Rattle.scratch_code.specs.CodeTexts.{HasText, AreCodeLines, ReadsAs}
use Rattle.scratch_code.specs.Items.{IsItem, IsItemOf, items_of, spelled}
use Rattle.scratch_code.specs.Laws.{ReadsBack, ReadsBehindComments, OneReading, OneText, NoPrefix, OneBadLine, NeverBoth}
use Rattle.scratch_code.specs.Sections.{State, start, Takes, Step, Ends}
use Rattle.scratch_code.specs.Reading.{IsTaken}
use Rattle.scratch_code.proofs.Spellings.{one_item, spelled_is_line, spelled_is_no_comment}
use Rattle.scratch_code.proofs.Sections.{IsSoFar, so_far, takes_same, Leads, leads_to, lead_code, goes_on}

-- ---- the lines of a code are those of its items

instr_line : (i : Instr) → line_of_instr i ≡ spelled (Do i)
instr_line (Load s a) = refl
instr_line (Store s a) = refl
instr_line (Apply op s args) = refl

map_spelled : {A : Type 0} (f : A → Item) (g : A → List ℕ) → ((a : A) → g a ≡ spelled (f a)) → (xs : List A) → map g xs ≡ map spelled (map f xs)
map_spelled f g same [] = refl
map_spelled f g same (x ∷ xs) = λ i. same x i ∷ map_spelled f g same xs i

append_spelled : {A : Type 0} (f : A → Item) (g : A → List ℕ) → ((a : A) → g a ≡ spelled (f a)) → (xs : List A) (ls : List (List ℕ)) (is : List Item) → ls ≡ map spelled is
    → map g xs ++ ls ≡ map spelled (map f xs ++ is)
append_spelled f g same xs ls is e = (λ i. map_spelled f g same xs i ++ e i) ∙ sym (map-append spelled (map f xs) is)

pub lines_are_items : (c : CodeParts) → lines_of_code c ≡ map spelled (items_of c)
lines_are_items c =
    ap (λ z. spelled (Slots c.slots) ∷ spelled (Words c.words) ∷ z)
    (append_spelled In line_of_input (λ l. refl) c.inputs _ (map Out c.outputs ++ (map Do c.instructions ++ End ∷ []))
    (append_spelled Out line_of_output (λ o. refl) c.outputs _ (map Do c.instructions ++ End ∷ [])
    (append_spelled Do line_of_instr instr_line c.instructions (spelled End ∷ []) (End ∷ []) refl)))

-- ---- the reader

abbrev pub Runs : State → List (List ℕ) → State → Type 0
Runs = reading.Runs AreCodeLines State start Step Ends

lines_run : (is : List Item) (s t : State) → Leads s is t → Runs s (map spelled is) t
lines_run [] s t h = h
lines_run (i ∷ is) s t h = (h.0, (i, h.1, refl, h.2), lines_run is h.0 t h.3)

items_run : (ls : List (List ℕ)) (s t : State) → Runs s ls t → (is : List Item) × (ls ≡ map spelled is) × Leads s is t
items_run [] s t h = ([], refl, h)
items_run (l ∷ ls) s t h =
    let more = items_run ls h.0 t h.2 in
    let step = h.1 in
    (step.0 ∷ more.0, (λ i. step.2 i ∷ more.1 i), (h.0, step.1, step.3, more.2))

pub run_code : (c : CodeParts) → HasText c → Runs start (lines_of_code c) (record { stage = Done; code = c })
run_code c ok = subst (λ ls. Runs start ls (record { stage = Done; code = c })) (sym (lines_are_items c)) (lines_run (items_of c) start (record { stage = Done; code = c }) (lead_code c ok))

one_step : (s : State) (l : List ℕ) (t u : State) → Step s l t → Step s l u → t ≡ u
one_step s l t u h k =
    let same = one_item h.0 k.0 h.1 k.1 (sym h.2 ∙ k.2) in
    takes_same s.stage s.code k.0 t u (subst (λ i. Takes s.stage s.code i t) same h.3) k.3

-- what a run to a code so far has read
pub record Reached (ls : List (List ℕ)) (t : State) : Type 0 where
  pub state : IsSoFar t.stage t.code
  pub lines : ls ≡ map spelled (so_far t.stage t.code)

pub reached : (ls : List (List ℕ)) (t : State) → Runs start ls t → Reached ls t
reached ls t h =
    let w = items_run ls start t h in
    let to = leads_to w.0 start t refl w.2 in
    record { state = to.state; lines = w.1 ∙ ap (map spelled) (sym to.items) }

done_lines : (stage : Stage) (c : CodeParts) (ls : List (List ℕ)) → stage ≡ Done → IsSoFar stage c → ls ≡ map spelled (so_far stage c) → HasText c × (ls ≡ lines_of_code c)
done_lines stage c ls e ok lines = (subst (λ k. IsSoFar k c) e ok, lines ∙ ap (λ k. map spelled (so_far k c)) e ∙ sym (lines_are_items c))

pub whole_lines : (ls : List (List ℕ)) (t : State) → Runs start ls t → Ends t → HasText t.code × (ls ≡ lines_of_code t.code)
whole_lines ls t h end = let r = reached ls t h in done_lines t.stage t.code ls end r.state r.lines

begins : (ls : List (List ℕ)) (t : State) → Runs start ls t → BeginsText AreCodeLines ls
begins ls t h =
    let r = reached ls t h in
    let on = goes_on t.stage t.code r.state in (
      map spelled on.more,
      (
        on.code,
        on.text,
        ap (λ xs. xs ++ map spelled on.more) r.lines ∙ sym (map-append spelled (so_far t.stage t.code) on.more) ∙ ap (map spelled) on.whole ∙ sym (lines_are_items on.code),
      ),
    )

pub reader : reading.IsReader AreCodeLines State start Step Ends
reader = record {
  one = one_step;
  reads = λ ls g. (record { stage = Done; code = g.0 }, subst (λ xs. Runs start xs (record { stage = Done; code = g.0 })) (sym g.2) (run_code g.0 g.1), refl);
  whole = λ ls t h end. let w = whole_lines ls t h end in (t.code, w.0, w.1);
  goes_on = begins;
}

-- nothing follows the end
nothing_follows : (stage : Stage) (c : CodeParts) (i : Item) (t : State) → stage ≡ Done → Takes stage c i t → ⊥
nothing_follows stage c i t e h = at_done i (subst (λ k. Takes k c i t) e h)
  where
    at_done : (i : Item) → Takes Done c i t → ⊥
    at_done (Slots n) h = h
    at_done (Words n) h = h
    at_done (In l) h = h
    at_done (Out o) h = h
    at_done (Do i) h = h
    at_done End h = h

last : (s : State) (l : List ℕ) (t : State) → Ends s → Step s l t → ⊥
last s l t end step = nothing_follows s.stage s.code step.0 t end step.3

-- ---- the laws

code_same : (c d : CodeParts) → HasText c → HasText d → lines_of_code c ≡ lines_of_code d → c ≡ d
code_same c d a b e =
    let same = reading.runs_same AreCodeLines State start Step Ends reader (lines_of_code d) start (record { stage = Done; code = c }) (record { stage = Done; code = d })
    (subst (λ ls. Runs start ls (record { stage = Done; code = c })) e (run_code c a)) (run_code d b) in
    ap (λ (s : State). s.code) same

leads_are_items : (is : List Item) (s t : State) → Leads s is t → All IsItem is
leads_are_items [] s t h = All-nil IsItem
leads_are_items (i ∷ is) s t h = All-cons IsItem i is h.1 (leads_are_items is h.0 t h.3)

items_are_lines : (is : List Item) → All IsItem is → All IsLine (map spelled is)
items_are_lines [] all = All-nil IsLine
items_are_lines (i ∷ is) all = All-cons IsLine (spelled i) (map spelled is) (spelled_is_line i (All-head IsItem i is all)) (items_are_lines is (All-tail IsItem i is all))

abbrev IsNoComment : List ℕ → Type 0
IsNoComment l = is_comment l ≡ false

items_no_comments : (is : List Item) → All IsNoComment (map spelled is)
items_no_comments [] = All-nil IsNoComment
items_no_comments (i ∷ is) = All-cons IsNoComment (spelled i) (map spelled is) (spelled_is_no_comment i) (items_no_comments is)

pub code_lines : (c : CodeParts) → HasText c → All IsLine (lines_of_code c)
code_lines c ok = subst (All IsLine) (sym (lines_are_items c)) (items_are_lines (items_of c) (leads_are_items (items_of c) start (record { stage = Done; code = c }) (lead_code c ok)))

pub reads_back : ReadsBack
reads_back c ok = (ok, has_lines (lines_of_code c) (code_lines c ok) (subst (All IsNoComment) (sym (lines_are_items c)) (items_no_comments (items_of c))))

pub reads_behind_comments : ReadsBehindComments
reads_behind_comments c comments ok lines all =
    (ok, has_lines_behind comments (lines_of_code c) lines all (code_lines c ok) (subst (All IsNoComment) (sym (lines_are_items c)) (items_no_comments (items_of c))))

pub one_reading : OneReading
one_reading text c d a b = code_same c d a.0 b.0 (one_list_of_lines text (lines_of_code c) (lines_of_code d) a.1 b.1)

pub one_text : OneText
one_text text c lines none = lines.begins.split ∙ append-nil (ended lines.all) ∙ ap ended (sym (none_dropped lines.all none) ∙ lines.same)

pub no_prefix : NoPrefix
no_prefix c d more a b e =
    let w = reading.no_prefix AreCodeLines State start Step Ends reader last (lines_of_code c) (lines_of_code d) more (code_lines c a) (code_lines d b) (c, a, refl) (d, b, refl) e in
    (code_same c d a b (sym w.0), w.1)

pub one_bad_line : OneBadLine
one_bad_line text m n a b = same_bad_line AreCodeLines text m n a b

pub never_both : NeverBoth
never_both text c m a b = text_is_not_bad AreCodeLines text (lines_of_code c) m a.1 (c, a.0, refl) b

-- ---- what the code answers

abbrev pub IsReadUpTo : List ℕ → List ℕ → ℕ → State → Type 0
IsReadUpTo text rest n s = reading.IsReadUpTo AreCodeLines State start Step Ends reader text rest n s

-- an item that was read and taken is a step, and one that may not come next is none
pub taken_line : {E : Type 0} (r : Result Bool E) (s t : State) (line : List ℕ) (i : Item) → is_comment line ≡ false → IsItemOf line (Some i) → IfOk r (λ b. IsTaken b s i t) → IfOk r (λ b. IsLineAnswer Step b s line t)
taken_line (Ok true) s t line i c is h = inr (c, (i, is.0, is.1, h))
taken_line (Ok false) s t line i c is h = (c, λ u step. h u (subst (λ k. Takes s.stage s.code k u) (one_item step.0 i step.1 is.0 (sym step.2 ∙ is.1)) step.3))
taken_line (Err e) s t line i c is h = tt

pub no_line : (s : State) (line : List ℕ) → is_comment line ≡ false → IsItemOf line None → (t : State) → IsLineAnswer Step false s line t
no_line s line c none t = (c, λ u step. none step.0 step.1 step.2)

-- ---- what the loop over the lines has read

module _ (text rest : List ℕ) (n : ℕ) (s : State) (up : IsReadUpTo text rest n s) where
  module _ (line after : List ℕ) (next : BeginsWith rest (line ∷ []) after) where
    pub line_read : (t : State) → IsPassed Step s line t → IsReadUpTo text after (n + 1) t
    line_read t passed = reading.line_read AreCodeLines State start Step Ends reader text rest n s up line after next t passed

    pub bad_line : IsRefused Step s line → IsBadLine AreCodeLines text n
    bad_line refused = reading.bad_line AreCodeLines State start Step Ends reader text rest n s up line after next refused

  pub bad_last : IsLine rest → rest ≢ [] → IsBadLine AreCodeLines text n
  bad_last last some = reading.bad_last AreCodeLines State start Step Ends reader text rest n s up last some

  pub bad_end : rest ≡ [] → (Ends s → ⊥) → IsBadLine AreCodeLines text n
  bad_end none open_yet = reading.bad_end AreCodeLines State start Step Ends reader text rest n s up none open_yet

  -- where nothing is left and the code is whole, the text reads as it
  pub all_read : rest ≡ [] → Ends s → ReadsAs text s.code
  all_read none end =
      let w = whole_lines (without_comments up.before) s up.runs end in
      (w.0, subst (HasLines text) w.1 (reading.all_read AreCodeLines State start Step Ends reader text rest n s up none))

  pub whole_code : Ends s → HasText s.code
  whole_code end = (whole_lines (without_comments up.before) s up.runs end).0

pub first_line : (text : List ℕ) → IsReadUpTo text text 1 start
first_line text = reading.nothing_read AreCodeLines State start Step Ends reader text
