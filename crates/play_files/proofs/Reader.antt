-- The reader of play texts: its steps are those of the grammar, so the laws of readers hold of it.
use Rattle.std.proofs.Common.{◌≡◌, ◌≢◌, ℕ, suc, ◌+◌, ◌<◌, ◌≤◌, ◌^◌, Bool, true, false, if◌then◌else◌, Option, Some, None, List, [], ◌∷◌, ◌++◌, map, length, refl, sym, ap, ◌∙◌, subst, inl, inr, arith, append_assoc, append-nil, length-append}
use Rattle.std.specs.Prelude.{codes}
use Rattle.std.specs.List.{All}
use Rattle.std.specs.Fmt.{decimal}
use Rattle.std.proofs.lemmas.Fmt.{decimal_injective}
use Rattle.std.proofs.lemmas.List.{map-append}
use Rattle.std.proofs.lemmas.List.Elements.{All-nil, All-cons, All-head, All-tail, All-push}
use Rattle.pebble_rules.specs.declared.moves.Move.{Move}
use Rattle.pebble_rules.specs.Refusals.{vertex_of}
use Rattle.line_texts.specs.Lines.{IsLine, BeginsWith, ended, is_comment, without_comments, HasLines}
use Rattle.line_texts.specs.Words.{IsUpTo, after_spaces}
use Rattle.line_texts.specs.BadLines.{BeginsText, IsBadLine}
use Rattle.line_texts.specs.Steps.{IsPassed, IsRefused}
use Rattle.line_texts.proofs.Cuts.{has_not}
use Rattle.line_texts.proofs.Fronts.{one_list_of_lines, has_lines, same_bad_line, text_is_not_bad}
use Rattle.line_texts.proofs.Reading as reading
use Rattle.play_files.specs.PlayText.{word_of, line_of_move, lines_of_play, play_text}
use Rattle.play_files.specs.PlayTexts.{NameVertices, ArePlayLines, ReadsAs}
use Rattle.play_files.specs.Reading.{State, none_read, IsNextLine, Ends, IsMoveOf, IsMoveLine}
use Rattle.play_files.specs.Laws.{ReadsBack, OneReading, NoPrefix, OneBadLine, NeverBoth, PlaysAreShort}
use Rattle.play_files.proofs.Moves.{one_move, move_is_line, move_is_no_comment, move_is_not_end, move_parts}

abbrev opened : List Move → State
opened moves = record { moves = moves; done = false }

abbrev closed : List Move → State
closed moves = record { moves = moves; done = true }

abbrev IsBelow : ℕ → Move → Type 0
IsBelow n m = vertex_of m < n

module _ (n : ℕ) (small : n < 2 ^ 16) where
  one_step : (s : State) (l : List ℕ) (t u : State) → IsNextLine n s l t → IsNextLine n s l u → t ≡ u
  one_step s l t u (a, inl h) (b, inl k) =
      let same = one_move h.0 k.0 (let p = h.1 in omega arith) (let p = k.1 in omega arith) (sym h.2 ∙ k.2) in
      h.3 ∙ ap (λ m. opened (s.moves ++ m ∷ [])) same ∙ sym k.3
  one_step s l t u (a, inl h) (b, inr k) = absurd (move_is_not_end h.0 (sym h.2 ∙ k.0))
  one_step s l t u (a, inr h) (b, inl k) = absurd (move_is_not_end k.0 (sym k.2 ∙ h.0))
  one_step s l t u (a, inr h) (b, inr k) = h.1 ∙ sym k.1

  abbrev pub Runs : State → List (List ℕ) → State → Type 0
  Runs = reading.Runs (ArePlayLines n) State none_read (IsNextLine n) Ends

  -- the lines of moves lead behind others
  run_moves : (before moves : List Move) → NameVertices n moves → Runs (opened before) (lines_of_play moves) (closed (before ++ moves))
  run_moves before [] all = (closed before, (refl, inr (refl, refl)), ap closed (sym (append-nil before)))
  run_moves before (m ∷ moves) all = (
    opened (before ++ m ∷ []),
    (refl, inl (m, All-head (IsBelow n) m moves all, refl, refl)),
    subst (λ ms. Runs (opened (before ++ m ∷ [])) (lines_of_play moves) (closed ms)) (append_assoc before (m ∷ []) moves) (run_moves (before ++ m ∷ []) moves (All-tail (IsBelow n) m moves all)),
  )

  -- the lines that led to a state
  abbrev said : Bool → List Move → List (List ℕ)
  said false moves = map line_of_move moves
  said true moves = lines_of_play moves

  -- behind moves that are whole comes nothing, and behind others a move or the end
  pub record Reached (before : List Move) (done : Bool) (ls : List (List ℕ)) (t : State) : Type 0 where
    pub names : NameVertices n t.moves
    pub lines : said done before ++ ls ≡ said t.done t.moves

  step_reached : (before : List Move) (done : Bool) (l : List ℕ) (t : State) → NameVertices n before → IsNextLine n (record { moves = before; done = done }) l t → Reached before done (l ∷ []) t
  step_reached before true l t all h = absurd (let e = h.0 in cc)
  step_reached before false l t all (a, inl h) = subst (Reached before false (l ∷ [])) (sym h.3) (record {
    names = All-push (IsBelow n) before h.0 all h.1;
    lines = ap (λ z. map line_of_move before ++ z ∷ []) h.2 ∙ sym (map-append line_of_move before (h.0 ∷ []));
  })
  step_reached before false l t all (a, inr h) = subst (Reached before false (l ∷ [])) (sym h.1) (record {
    names = all;
    lines = ap (λ z. map line_of_move before ++ z ∷ []) h.0;
  })

  run_reached : (ls : List (List ℕ)) (s t : State) → NameVertices n s.moves → Runs s ls t → Reached s.moves s.done ls t
  run_reached [] s t all h = subst (Reached s.moves s.done []) h (record { names = all; lines = append-nil (said s.done s.moves) })
  run_reached (l ∷ ls) s t all h =
      let one = step_reached s.moves s.done l h.0 all h.1 in
      let rest = run_reached ls h.0 t one.names h.2 in
      record { names = rest.names; lines = sym (append_assoc (said s.done s.moves) (l ∷ []) ls) ∙ ap (λ z. z ++ ls) one.lines ∙ rest.lines }

  pub reached : (ls : List (List ℕ)) (t : State) → Runs none_read ls t → NameVertices n t.moves × (ls ≡ said t.done t.moves)
  reached ls t h = let r = run_reached ls none_read t (All-nil (IsBelow n)) h in (r.names, r.lines)

  pub whole_lines : (ls : List (List ℕ)) (t : State) → Runs none_read ls t → Ends t → NameVertices n t.moves × (ls ≡ lines_of_play t.moves)
  whole_lines ls t h end = let r = reached ls t h in (r.0, r.1 ∙ ap (λ b. said b t.moves) end)

  begins_by : (done : Bool) (moves : List Move) (ls : List (List ℕ)) → NameVertices n moves → ls ≡ said done moves → BeginsText (ArePlayLines n) ls
  begins_by false moves ls all e = (codes "end" ∷ [], (moves, all, ap (λ z. z ++ codes "end" ∷ []) e))
  begins_by true moves ls all e = ([], (moves, all, append-nil ls ∙ e))

  pub reader : reading.IsReader (ArePlayLines n) State none_read (IsNextLine n) Ends
  reader = record {
    one = one_step;
    reads = λ ls g. (closed g.0, subst (λ xs. Runs none_read xs (closed g.0)) (sym g.2) (run_moves [] g.0 g.1), refl);
    whole = λ ls t h end. let w = whole_lines ls t h end in (t.moves, w.0, w.1);
    goes_on = λ ls t h. let r = reached ls t h in begins_by t.done t.moves ls r.0 r.1;
  }

  last : (s : State) (l : List ℕ) (t : State) → Ends s → IsNextLine n s l t → ⊥
  last s l t end step = let open_yet = step.0 in cc

  moves_same : (some others : List Move) → NameVertices n some → NameVertices n others → lines_of_play some ≡ lines_of_play others → some ≡ others
  moves_same some others a b e =
      let same = reading.runs_same (ArePlayLines n) State none_read (IsNextLine n) Ends reader (lines_of_play others) none_read (closed some) (closed others)
      (subst (λ ls. Runs none_read ls (closed some)) e (run_moves [] some a)) (run_moves [] others b) in
      ap (λ (s : State). s.moves) same

  end_is_line : IsLine (codes "end")
  end_is_line = has_not 10 (codes "end") refl

  play_are_lines : (moves : List Move) → NameVertices n moves → All IsLine (lines_of_play moves)
  play_are_lines [] all = All-cons IsLine (codes "end") [] end_is_line (All-nil IsLine)
  play_are_lines (m ∷ moves) all =
      let here = All-head (IsBelow n) m moves all in
      All-cons IsLine (line_of_move m) (lines_of_play moves) (move_is_line m (omega (arith, here))) (play_are_lines moves (All-tail (IsBelow n) m moves all))

  abbrev IsNoComment : List ℕ → Type 0
  IsNoComment l = is_comment l ≡ false

  play_no_comments : (moves : List Move) → All IsNoComment (lines_of_play moves)
  play_no_comments [] = All-cons IsNoComment (codes "end") [] refl (All-nil IsNoComment)
  play_no_comments (m ∷ moves) = All-cons IsNoComment (line_of_move m) (lines_of_play moves) (move_is_no_comment m) (play_no_comments moves)

  pub reads_back_below : (moves : List Move) → NameVertices n moves → ReadsAs n (play_text moves) moves
  reads_back_below moves all = (all, has_lines (lines_of_play moves) (play_are_lines moves all) (play_no_comments moves))

  pub one_reading_below : (text : List ℕ) (some others : List Move) → ReadsAs n text some → ReadsAs n text others → some ≡ others
  one_reading_below text some others a b = moves_same some others a.0 b.0 (one_list_of_lines text (lines_of_play some) (lines_of_play others) a.1 b.1)

  pub no_prefix_below : (some others : List Move) (more : List ℕ) → NameVertices n some → NameVertices n others → play_text others ≡ play_text some ++ more → (some ≡ others) × (more ≡ [])
  no_prefix_below some others more a b e =
      let w = reading.no_prefix (ArePlayLines n) State none_read (IsNextLine n) Ends reader last (lines_of_play some) (lines_of_play others) more (play_are_lines some a) (play_are_lines others b) (some, a, refl) (others, b, refl) e in
      (moves_same some others a b (sym w.0), w.1)

  -- ---- what the loop over the lines has read

  abbrev pub IsReadUpTo : List ℕ → List ℕ → ℕ → State → Type 0
  IsReadUpTo text rest k s = reading.IsReadUpTo (ArePlayLines n) State none_read (IsNextLine n) Ends reader text rest k s

  pub first_line : (text : List ℕ) → IsReadUpTo text text 1 none_read
  first_line text = reading.nothing_read (ArePlayLines n) State none_read (IsNextLine n) Ends reader text

  module _ (text rest : List ℕ) (k : ℕ) (s : State) (up : IsReadUpTo text rest k s) where
    module _ (line after : List ℕ) (next : BeginsWith rest (line ∷ []) after) where
      pub line_read : (t : State) → IsPassed (IsNextLine n) s line t → IsReadUpTo text after (k + 1) t
      line_read t passed = reading.line_read (ArePlayLines n) State none_read (IsNextLine n) Ends reader text rest k s up line after next t passed

      pub bad_line : IsRefused (IsNextLine n) s line → IsBadLine (ArePlayLines n) text k
      bad_line refused = reading.bad_line (ArePlayLines n) State none_read (IsNextLine n) Ends reader text rest k s up line after next refused

    pub bad_last : IsLine rest → rest ≢ [] → IsBadLine (ArePlayLines n) text k
    bad_last piece some = reading.bad_last (ArePlayLines n) State none_read (IsNextLine n) Ends reader text rest k s up piece some

    pub bad_end : rest ≡ [] → (Ends s → ⊥) → IsBadLine (ArePlayLines n) text k
    bad_end none not_end = reading.bad_end (ArePlayLines n) State none_read (IsNextLine n) Ends reader text rest k s up none not_end

    -- where nothing is left and the moves are whole, the text reads as them
    pub all_read : rest ≡ [] → Ends s → ReadsAs n text s.moves
    all_read none end =
        let w = whole_lines (without_comments up.before) s up.runs end in
        (w.0, subst (HasLines text) w.1 (reading.all_read (ArePlayLines n) State none_read (IsNextLine n) Ends reader text rest k s up none))

pub reads_back : ReadsBack
reads_back n moves small all = reads_back_below n small moves all

pub one_reading : OneReading
one_reading n text some others small a b = one_reading_below n small text some others a b

pub no_prefix : NoPrefix
no_prefix n some others more small a b e = no_prefix_below n small some others more a b e

pub one_bad_line : OneBadLine
one_bad_line n text k m a b = same_bad_line (ArePlayLines n) text k m a b

pub never_both : NeverBoth
never_both n text moves m a b = text_is_not_bad (ArePlayLines n) text (lines_of_play moves) m a.1 (moves, a.0, refl) b

-- ---- what the code answers

pub no_vertex : (n : ℕ) (text word rest : List ℕ) → IsUpTo 32 text word rest → ((v : ℕ) → v < n → rest ≢ after_spaces (decimal v ∷ [])) → IsMoveLine n text None
no_vertex n text word rest up none m below e = none (vertex_of m) below (move_parts text word rest m up e).1

pub move_answer : (n : ℕ) (text word rest : List ℕ) (v : ℕ) (r : Option Move) → n < 2 ^ 16 → IsUpTo 32 text word rest → rest ≡ after_spaces (decimal v ∷ []) → v < n → IsMoveOf word v r → IsMoveLine n text r
move_answer n text word rest v None small up e below none = λ m h f.
    let p = move_parts text word rest m up f in
    let digits : decimal (vertex_of m) ≡ decimal v = last_digits (vertex_of m) v (sym p.1 ∙ e) in
    none m (decimal_injective (vertex_of m) v (omega arith) (omega arith) digits) p.0
  where
    last_digits : (a b : ℕ) → after_spaces (decimal a ∷ []) ≡ after_spaces (decimal b ∷ []) → decimal a ≡ decimal b
    last_digits a b e = let same : decimal a ++ [] ≡ decimal b ++ [] = cc in sym (append-nil (decimal a)) ∙ same ∙ append-nil (decimal b)
move_answer n text word rest v (Some m) small up e below h = (subst (λ k. k < n) (sym h.1) below, up.split ∙ (λ i. h.0 i ++ e i) ∙ ap (λ k. word_of m ++ after_spaces (decimal k ∷ [])) (sym h.1))

-- ---- a text has more bytes than its play has moves

fewer_lines : (lines : List (List ℕ)) → length (without_comments lines) ≤ length (ended lines)
fewer_lines [] = omega arith
fewer_lines (line ∷ lines) =
    let rest = fewer_lines lines in
    let whole = length-append line (10 ∷ ended lines) in
    at_sign (is_comment line) (omega arith)
  where
    at_sign : (b : Bool) → suc (length (without_comments lines)) ≤ length (line ++ 10 ∷ ended lines) → length (if b then without_comments lines else line ∷ without_comments lines) ≤ length (line ++ 10 ∷ ended lines)
    at_sign true more = omega arith
    at_sign false more = more

play_lines : (moves : List Move) → length (lines_of_play moves) ≡ suc (length moves)
play_lines [] = refl
play_lines (m ∷ moves) = ap suc (play_lines moves)

pub plays_are_short : PlaysAreShort
plays_are_short n text moves reads =
    let lines = reads.1 in
    let few = fewer_lines lines.all in
    let said = ap length lines.same in
    let count = play_lines moves in
    let bytes = ap length lines.begins.split in
    let whole = length-append (ended lines.all) [] in
    omega arith
