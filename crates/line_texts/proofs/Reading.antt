-- A reader goes through the lines of a text with a state. Where its states are those of a grammar, it finds the text or its bad line.
use Rattle.std.proofs.Common.{◌≡◌, ◌≢◌, ℕ, zero, suc, ◌+◌, ◌<◌, List, [], ◌∷◌, ◌++◌, length, refl, sym, ap, ◌∙◌, subst, ◌⊎◌, inl, inr, arith, append-nil, length-append}
use Rattle.std.specs.List.{All}
use Rattle.std.proofs.lemmas.Bool.{cases_lt, cases_Bool}
use Rattle.line_texts.specs.Lines.{IsLine, ended, BeginsWith, is_comment, without_comments, HasLines}
use Rattle.line_texts.specs.BadLines.{Grammar, BeginsText, IsBadLine}
use Rattle.line_texts.specs.Steps.{IsPassed, IsRefused}
use Rattle.line_texts.proofs.Fronts.{begins_none, begins_more, comment_more, line_more, front_of, no_lines, line_or_none, shorter}

module _ (G : Grammar) (State : Type 0) (start : State) (Step : State → List ℕ → State → Type 0) (Ends : State → Type 0) where
  -- the lines lead from one state to another
  abbrev pub Runs : State → List (List ℕ) → State → Type 0
  Runs s [] t = s ≡ t
  Runs s (l ∷ ls) t = (u : State) × Step s l u × Runs u ls t

  -- a line leads to one state; the texts lead from the start to an end, and no other lines; what was read so far begins a text
  pub record IsReader : Type 0 where
    pub one : (s : State) (l : List ℕ) (t u : State) → Step s l t → Step s l u → t ≡ u
    pub reads : (ls : List (List ℕ)) → G ls → (t : State) × Runs start ls t × Ends t
    pub whole : (ls : List (List ℕ)) (t : State) → Runs start ls t → Ends t → G ls
    pub goes_on : (ls : List (List ℕ)) (t : State) → Runs start ls t → BeginsText G ls

  pub runs_split : (xs ys : List (List ℕ)) (s t : State) → Runs s (xs ++ ys) t → (u : State) × Runs s xs u × Runs u ys t
  runs_split [] ys s t h = (s, refl, h)
  runs_split (x ∷ xs) ys s t h = let w = runs_split xs ys h.0 t h.2 in (w.0, (h.0, h.1, w.1), w.2)

  pub runs_append : (xs ys : List (List ℕ)) (s u t : State) → Runs s xs u → Runs u ys t → Runs s (xs ++ ys) t
  runs_append [] ys s u t h k = subst (λ w. Runs w ys t) (sym h) k
  runs_append (x ∷ xs) ys s u t h k = (h.0, h.1, runs_append xs ys h.0 u t h.2 k)

  module _ (r : IsReader) where
    pub runs_same : (ls : List (List ℕ)) (s t u : State) → Runs s ls t → Runs s ls u → t ≡ u
    runs_same [] s t u h k = sym h ∙ k
    runs_same (l ∷ ls) s t u h k = runs_same ls k.0 t u (subst (λ w. Runs w ls t) (r.one s l h.0 k.0 h.1 k.1) h.2) k.2

    -- lines that begin a text lead somewhere
    begins_runs : (ls : List (List ℕ)) → BeginsText G ls → (t : State) × Runs start ls t
    begins_runs ls b =
        let all = r.reads (ls ++ b.0) b.1 in
        let parts = runs_split ls b.0 start all.0 all.1 in
        (parts.0, parts.1)

    -- ---- what is read so far

    -- the lines before the one of this number are read, without the comments they led to the state, and the rest is left
    pub record IsReadUpTo (text rest : List ℕ) (number : ℕ) (s : State) : Type 0 where
      pub before : List (List ℕ)
      pub split : BeginsWith text before rest
      pub place : number ≡ length before + 1
      pub runs : Runs start (without_comments before) s

    pub nothing_read : (text : List ℕ) → IsReadUpTo text text 1 start
    nothing_read text = record { before = []; split = begins_none text; place = refl; runs = refl }

    module _ (text rest : List ℕ) (n : ℕ) (s : State) (up : IsReadUpTo text rest n s) where
      alive : BeginsText G (without_comments up.before)
      alive = r.goes_on (without_comments up.before) s up.runs

      module _ (line after : List ℕ) (next : BeginsWith rest (line ∷ []) after) where
        place_more : n + 1 ≡ length (up.before ++ line ∷ []) + 1
        place_more = (let place = up.place in let one = length-append up.before (line ∷ []) in omega arith)

        read_to : (t : State) → Runs start (without_comments (up.before ++ line ∷ [])) t → IsReadUpTo text after (n + 1) t
        read_to t runs = record {
          before = up.before ++ line ∷ [];
          split = begins_more text rest after up.before line up.split next;
          place = place_more;
          runs = runs;
        }

        -- a line that was passed
        pub line_read : (t : State) → IsPassed Step s line t → IsReadUpTo text after (n + 1) t
        line_read t (inl comment) = read_to t (subst (λ ls. Runs start ls t) (sym (comment_more up.before line comment.0)) (subst (Runs start (without_comments up.before)) comment.1 up.runs))
        line_read t (inr step) =
            read_to t (subst (λ ls. Runs start ls t) (sym (line_more up.before line step.0)) (runs_append (without_comments up.before) (line ∷ []) start s t up.runs (t, step.1, refl)))

        -- a line that was refused is the bad line
        pub bad_line : IsRefused Step s line → IsBadLine G text n
        bad_line refused = record {
          before = up.before;
          rest = rest;
          split = up.split;
          place = up.place;
          begins = alive;
          bad = inl (
            line,
            after,
            next,
            λ b.
                let runs = begins_runs (without_comments up.before ++ line ∷ []) (subst (BeginsText G) (line_more up.before line refused.0) b) in
                let parts = runs_split (without_comments up.before) (line ∷ []) start runs.0 runs.1 in
                let same = runs_same (without_comments up.before) start parts.0 s parts.1 up.runs in
                refused.1 parts.2.0 (subst (λ w. Step w line parts.2.0) same parts.2.1),
          );
        }

      -- a last piece without a line feed is a bad line
      pub bad_last : IsLine rest → rest ≢ [] → IsBadLine G text n
      bad_last last some = record { before = up.before; rest = rest; split = up.split; place = up.place; begins = alive; bad = inr (inl (some, last)) }

      -- the text ends before its grammar does
      pub bad_end : rest ≡ [] → (Ends s → ⊥) → IsBadLine G text n
      bad_end none not_end = record {
        before = up.before;
        rest = rest;
        split = up.split;
        place = up.place;
        begins = alive;
        bad = inr (inr (
          none,
          λ whole.
              let reads = r.reads (without_comments up.before) whole in
              not_end (subst Ends (runs_same (without_comments up.before) start reads.0 s reads.1 up.runs) reads.2),
        ));
      }

      -- all lines are read
      pub all_read : rest ≡ [] → HasLines text (without_comments up.before)
      all_read none = record { all = up.before; begins = subst (BeginsWith text up.before) none up.split; same = refl }

    -- ---- each text has an answer

    -- a text of the grammar with its lines, or a bad line
    abbrev pub HasAnswer : List ℕ → Type 0
    HasAnswer text = ((ls : List (List ℕ)) × HasLines text ls × G ls) ⊎ ((m : ℕ) × IsBadLine G text m)

    -- where it can be told of each line whether it leads on, and of each state whether it is an end
    module _ (leads : (s : State) (l : List ℕ) → ((t : State) × Step s l t) ⊎ ((t : State) → Step s l t → ⊥)) (is_end : (s : State) → Ends s ⊎ (Ends s → ⊥)) where
      last_answer : (text rest : List ℕ) (n : ℕ) (s : State) → IsReadUpTo text rest n s → IsLine rest → HasAnswer text
      last_answer text [] n s up last = elim (is_end s) [
        | inl end ↦ inl (without_comments up.before, all_read text [] n s up refl, r.whole (without_comments up.before) s up.runs end)
        | inr more ↦ inr (n, bad_end text [] n s up refl more)
      ]
      last_answer text (b ∷ bs) n s up last = inr (n, bad_last text (b ∷ bs) n s up last (λ e. absurd (cc)))

      read_on : (most : ℕ) (text rest : List ℕ) (n : ℕ) (s : State) → IsReadUpTo text rest n s → length rest < most → HasAnswer text
      read_on zero text rest n s up few = absurd (omega arith)
      read_on (suc most) text rest n s up few = elim (line_or_none rest) [
        | inl next ↦ (
            let fewer : length next.1 < most = (let less = shorter rest next.0 next.1 next.2 in omega arith) in
            elim (cases_Bool (is_comment next.0)) [
              | inl comment ↦ read_on most text next.1 (n + 1) s (line_read text rest n s up next.0 next.1 next.2 s (inl (comment, refl))) fewer
              | inr said ↦ elim (leads s next.0) [
                | inl step ↦ read_on most text next.1 (n + 1) step.0 (line_read text rest n s up next.0 next.1 next.2 step.0 (inr (said, step.1))) fewer
                | inr none ↦ inr (n, bad_line text rest n s up next.0 next.1 next.2 (said, none))
              ]
            ]
            )
        | inr last ↦ last_answer text rest n s up last
      ]

      pub some_answer : (text : List ℕ) → HasAnswer text
      some_answer text = read_on (suc (length text)) text text 1 start (nothing_read text) (omega arith)

    -- ---- no text is a prefix of another

    module _ (last : (s : State) (l : List ℕ) (t : State) → Ends s → Step s l t → ⊥) where
      -- behind a text come no lines
      pub no_more : (xs ys : List (List ℕ)) → G xs → G (xs ++ ys) → ys ≡ []
      no_more xs [] a b = refl
      no_more xs (y ∷ ys) a b =
          let short = r.reads xs a in
          let long = r.reads (xs ++ y ∷ ys) b in
          let parts = runs_split xs (y ∷ ys) start long.0 long.1 in
          absurd (last parts.0 y parts.2.0 (subst Ends (runs_same xs start short.0 parts.0 short.1 parts.1) short.2) parts.2.1)

      pub no_prefix : (xs ys : List (List ℕ)) (more : List ℕ) → All IsLine xs → All IsLine ys → G xs → G ys → ended ys ≡ ended xs ++ more → (ys ≡ xs) × (more ≡ [])
      no_prefix xs ys more a b c d e = elim (cases_lt (length ys) (length xs)) [
        | inl less ↦ (
            let cut = front_of ys xs [] more b a (append-nil (ended ys) ∙ e) (omega arith) in
            elim cut.0 as (λ zs. xs ≡ ys ++ zs → [] ≡ ended zs ++ more → (ys ≡ xs) × (more ≡ [])) [
              | [] ↦ (λ f g. absurd (let same : length xs ≡ length ys = ap length (f ∙ append-nil ys) in omega arith))
              | z ∷ zs ↦ (λ f g. absurd (no_lines z zs more g))
            ] cut.1 cut.2
            )
        | inr least ↦ (
            let cut = front_of xs ys more [] a b (sym e ∙ sym (append-nil (ended ys))) (omega arith) in
            let none = no_more xs cut.0 c (subst G cut.1 d) in
            (cut.1 ∙ ap (λ zs. xs ++ zs) none ∙ append-nil xs, cut.2 ∙ ap (λ zs. ended zs ++ []) none)
            )
      ]
