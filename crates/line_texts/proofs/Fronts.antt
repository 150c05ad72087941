-- The whole lines at the front of a text, the comments among them, and the bad line.
use Rattle.std.proofs.Common.{◌≡◌, ℕ, ◌<◌, ◌≤◌, Bool, true, false, cond, List, [], ◌∷◌, ◌++◌, length, refl, sym, ap, ◌∙◌, subst, ◌⊎◌, inl, inr, arith, append_assoc, append-nil, length-append}
use Rattle.std.specs.List.{All}
use Rattle.std.proofs.lemmas.Bool.{cases_lt}
use Rattle.std.proofs.lemmas.List.Elements.{All-nil, All-cons, All-head, All-tail, All-push, All-append}
use Rattle.line_texts.specs.Lines.{IsLine, ended, BeginsWith, is_comment, without_comments, HasLines}
use Rattle.line_texts.specs.Words.{IsUpTo}
use Rattle.line_texts.specs.BadLines.{Grammar, BeginsText, IsStuck, IsUnfinished, EndsEarly, IsBadLine}
use Rattle.line_texts.specs.Laws.{OneListOfLines, OneBadLine, NeverBoth}
use Rattle.line_texts.proofs.Cuts.{IsNot, same_cut, no_cut, cut_exists}

pub ended-append : (xs ys : List (List ℕ)) → ended (xs ++ ys) ≡ ended xs ++ ended ys
ended-append [] ys = refl
ended-append (x ∷ xs) ys = ap (λ z. x ++ 10 ∷ z) (ended-append xs ys) ∙ sym (append_assoc x (10 ∷ ended xs) (ended ys))

-- the first line, and what follows it
ended_first : (x : List ℕ) (xs : List (List ℕ)) (r : List ℕ) → ended (x ∷ xs) ++ r ≡ x ++ 10 ∷ (ended xs ++ r)
ended_first x xs r = append_assoc x (10 ∷ ended xs) r

pub begins_none : (text : List ℕ) → BeginsWith text [] text
begins_none text = record { split = refl; whole = All-nil IsLine }

-- one line more
pub begins_more : (text rest after : List ℕ) (lines : List (List ℕ)) (line : List ℕ) → BeginsWith text lines rest → BeginsWith rest (line ∷ []) after → BeginsWith text (lines ++ line ∷ []) after
begins_more text rest after lines line b c = record {
  split =
      b.split ∙ ap (λ z. ended lines ++ z) c.split ∙ sym (append_assoc (ended lines) (ended (line ∷ [])) after)
      ∙ ap (λ z. z ++ after) (sym (ended-append lines (line ∷ [])));
  whole = All-push IsLine lines line b.whole (All-head IsLine line [] c.whole);
}

-- of two fronts of a text the longer has the shorter before it
pub front_of : (xs ys : List (List ℕ)) (r s : List ℕ) → All IsLine xs → All IsLine ys → ended xs ++ r ≡ ended ys ++ s → length xs ≤ length ys
    → (zs : List (List ℕ)) × (ys ≡ xs ++ zs) × (r ≡ ended zs ++ s)
front_of [] ys r s a b e few = (ys, refl, e)
front_of (x ∷ xs) [] r s a b e few = absurd (omega arith)
front_of (x ∷ xs) (y ∷ ys) r s a b e few =
    let one = same_cut 10 x (ended xs ++ r) y (ended ys ++ s) (All-head IsLine x xs a) (All-head IsLine y ys b) (sym (ended_first x xs r) ∙ e ∙ ended_first y ys s) in
    let more = front_of xs ys r s (All-tail IsLine x xs a) (All-tail IsLine y ys b) one.1 (omega arith) in
    (more.0, (λ i. sym one.0 i ∷ more.1 i), more.2)

-- a whole line is no piece without a line feed
pub has_feed : (z : List ℕ) (zs : List (List ℕ)) (s : List ℕ) (rest : List ℕ) → rest ≡ ended (z ∷ zs) ++ s → IsLine rest → ⊥
has_feed z zs s rest e none = no_cut 10 z (ended zs ++ s) (subst IsLine (e ∙ ended_first z zs s) none)

pub no_lines : (z : List ℕ) (zs : List (List ℕ)) (s : List ℕ) → [] ≡ ended (z ∷ zs) ++ s → ⊥
no_lines z zs s e = has_feed z zs s [] e (All-nil (IsNot 10))

-- a text begins with a line, or has none
pub line_or_none : (text : List ℕ) → ((line : List ℕ) × (after : List ℕ) × BeginsWith text (line ∷ []) after) ⊎ IsLine text
line_or_none text = let cut = cut_exists 10 text in at_cut cut.0 cut.1 cut.2
  where
    at_cut : (front rest : List ℕ) → IsUpTo 10 text front rest → ((line : List ℕ) × (after : List ℕ) × BeginsWith text (line ∷ []) after) ⊎ IsLine text
    at_cut front [] up = inr (subst IsLine (sym (up.split ∙ append-nil front)) up.free)
    at_cut front (b ∷ bs) up = inl (
      front,
      bs,
      record {
        split = up.split ∙ ap (λ c. front ++ c ∷ bs) up.ends ∙ sym (append_assoc front (10 ∷ []) bs);
        whole = All-cons IsLine front [] up.free (All-nil IsLine);
      },
    )

-- what follows a line is shorter than what it stands before
pub shorter : (rest line after : List ℕ) → BeginsWith rest (line ∷ []) after → length after < length rest
shorter rest line after b =
    let whole = ap length b.split in
    let cut = length-append (line ++ 10 ∷ []) after in
    let one = length-append line (10 ∷ []) in
    omega arith

-- ---- comments

more_by : (b : Bool) (line : List ℕ) (xs ys : List (List ℕ)) → cond b (xs ++ ys) (line ∷ (xs ++ ys)) ≡ cond b xs (line ∷ xs) ++ ys
more_by true line xs ys = refl
more_by false line xs ys = refl

pub without_comments-append : (xs ys : List (List ℕ)) → without_comments (xs ++ ys) ≡ without_comments xs ++ without_comments ys
without_comments-append [] ys = refl
without_comments-append (l ∷ xs) ys =
    ap (λ z. cond (is_comment l) z (l ∷ z)) (without_comments-append xs ys) ∙ more_by (is_comment l) l (without_comments xs) (without_comments ys)

pub comment_more : (before : List (List ℕ)) (line : List ℕ) → is_comment line ≡ true → without_comments (before ++ line ∷ []) ≡ without_comments before
comment_more before line c = without_comments-append before (line ∷ []) ∙ ap (λ b. without_comments before ++ cond b [] (line ∷ [])) c ∙ append-nil (without_comments before)

pub line_more : (before : List (List ℕ)) (line : List ℕ) → is_comment line ≡ false → without_comments (before ++ line ∷ []) ≡ without_comments before ++ line ∷ []
line_more before line c = without_comments-append before (line ∷ []) ∙ ap (λ b. without_comments before ++ cond b [] (line ∷ [])) c

-- where no line is a comment, all stay
pub none_dropped : (lines : List (List ℕ)) → All (λ line. is_comment line ≡ false) lines → without_comments lines ≡ lines
none_dropped [] all = refl
none_dropped (l ∷ lines) all =
    ap (λ b. cond b (without_comments lines) (l ∷ without_comments lines)) (All-head (λ line. is_comment line ≡ false) l lines all)
    ∙ ap (λ z. l ∷ z) (none_dropped lines (All-tail (λ line. is_comment line ≡ false) l lines all))

-- lines are a text without comments
pub has_lines : (lines : List (List ℕ)) → All IsLine lines → All (λ line. is_comment line ≡ false) lines → HasLines (ended lines) lines
has_lines lines whole none = record {
  all = lines;
  begins = record { split = sym (append-nil (ended lines)); whole = whole };
  same = none_dropped lines none;
}

abbrev IsComment : List ℕ → Type 0
IsComment line = is_comment line ≡ true

all_dropped : (lines : List (List ℕ)) → All IsComment lines → without_comments lines ≡ []
all_dropped [] all = refl
all_dropped (l ∷ lines) all =
    ap (λ b. cond b (without_comments lines) (l ∷ without_comments lines)) (All-head IsComment l lines all) ∙ all_dropped lines (All-tail IsComment l lines all)

-- comments may stand before them
pub has_lines_behind : (comments lines : List (List ℕ)) → All IsLine comments → All (λ line. is_comment line ≡ true) comments → All IsLine lines → All (λ line. is_comment line ≡ false) lines
    → HasLines (ended comments ++ ended lines) lines
has_lines_behind comments lines a b c d = record {
  all = comments ++ lines;
  begins = record { split = sym (ended-append comments lines) ∙ sym (append-nil (ended (comments ++ lines))); whole = All-append IsLine comments lines a c };
  same = without_comments-append comments lines ∙ ap (λ z. z ++ without_comments lines) (all_dropped comments b) ∙ none_dropped lines d;
}

-- ---- the laws

-- the two lists of all lines of a text are the same
same_all : (text : List ℕ) (xs ys : List (List ℕ)) → BeginsWith text xs [] → BeginsWith text ys [] → xs ≡ ys
same_all text xs ys a b = elim (cases_lt (length xs) (length ys)) [
  | inl less ↦ (
      let more = front_of xs ys [] [] a.whole b.whole (sym a.split ∙ b.split) (omega arith) in
      elim more.0 as (λ zs. [] ≡ ended zs ++ [] → ys ≡ xs ++ zs → xs ≡ ys) [
        | [] ↦ (λ e f. sym (f ∙ append-nil xs))
        | z ∷ zs ↦ (λ e f. absurd (no_lines z zs [] e))
      ] more.2 more.1
      )
  | inr least ↦ (
      let more = front_of ys xs [] [] b.whole a.whole (sym b.split ∙ a.split) (omega arith) in
      elim more.0 as (λ zs. [] ≡ ended zs ++ [] → xs ≡ ys ++ zs → xs ≡ ys) [
        | [] ↦ (λ e f. f ∙ append-nil ys)
        | z ∷ zs ↦ (λ e f. absurd (no_lines z zs [] e))
      ] more.2 more.1
      )
]

pub one_list_of_lines : OneListOfLines
one_list_of_lines text some others a b = sym a.same ∙ ap without_comments (same_all text a.all b.all a.begins b.begins) ∙ b.same

middle_line : (xs : List (List ℕ)) (z : List ℕ) (zs : List (List ℕ)) → All IsLine (xs ++ z ∷ zs) → IsLine z
middle_line [] z zs all = All-head IsLine z zs all
middle_line (x ∷ xs) z zs all = middle_line xs z zs (All-tail IsLine x (xs ++ z ∷ zs) all)

module _ (G : Grammar) where
  pub begins_shorter : (xs ys : List (List ℕ)) → BeginsText G (xs ++ ys) → BeginsText G xs
  begins_shorter xs ys b = (ys ++ b.0, subst G (append_assoc xs ys b.0) b.1)

  -- where a line comes next and all lines with it begin a text, nothing is bad
  not_bad : (before : List (List ℕ)) (rest : List ℕ) (z : List ℕ) (zs : List (List ℕ)) (s : List ℕ) → rest ≡ ended (z ∷ zs) ++ s → IsLine z
      → BeginsText G (without_comments (before ++ z ∷ zs)) → IsStuck G before rest ⊎ (IsUnfinished rest ⊎ EndsEarly G before rest) → ⊥
  not_bad before rest z zs s e whole b (inl (line, after, split, dead)) =
      let same = same_cut 10 line ([] ++ after) z (ended zs ++ s) (All-head IsLine line [] split.whole) whole (sym (ended_first line [] after) ∙ sym split.split ∙ e ∙ ended_first z zs s) in
      let all : without_comments (before ++ z ∷ zs) ≡ without_comments (before ++ z ∷ []) ++ without_comments zs
      = ap without_comments (sym (append_assoc before (z ∷ []) zs)) ∙ without_comments-append (before ++ z ∷ []) zs in
      dead (subst (λ l. BeginsText G (without_comments (before ++ l ∷ []))) (sym same.0)
      (begins_shorter (without_comments (before ++ z ∷ [])) (without_comments zs) (subst (BeginsText G) all b)))
  not_bad before rest z zs s e whole b (inr (inl last)) = has_feed z zs s rest e last.1
  not_bad before rest z zs s e whole b (inr (inr end)) = no_lines z zs s (sym end.0 ∙ e)

  -- the first bad line is not behind another
  not_later : (text : List ℕ) (m n : ℕ) (a : IsBadLine G text m) (b : IsBadLine G text n) → length a.before < length b.before → ⊥
  not_later text m n a b less =
      let more = front_of a.before b.before a.rest b.rest a.split.whole b.split.whole (sym a.split.split ∙ b.split.split) (omega arith) in
      elim more.0 as (λ zs. b.before ≡ a.before ++ zs → a.rest ≡ ended zs ++ b.rest → ⊥) [
        | [] ↦ (λ f e. let same : length b.before ≡ length a.before = ap length (f ∙ append-nil a.before) in absurd (omega arith))
        | z ∷ zs ↦ (
            λ f e.
            let lines : All IsLine (a.before ++ z ∷ zs) = subst (All IsLine) f b.split.whole in
            not_bad a.before a.rest z zs b.rest e (middle_line a.before z zs lines) (subst (λ ls. BeginsText G (without_comments ls)) f b.begins) a.bad
            )
      ] more.1 more.2

pub same_bad_line : (G : Grammar) (text : List ℕ) (m n : ℕ) → IsBadLine G text m → IsBadLine G text n → m ≡ n
same_bad_line G text m n a b = elim (cases_lt (length a.before) (length b.before)) [
  | inl less ↦ absurd (not_later G text m n a b less)
  | inr least ↦ elim (cases_lt (length b.before) (length a.before)) [
    | inl less ↦ absurd (not_later G text n m b a less)
    | inr most ↦ (let p = a.place in let q = b.place in omega arith)
  ]
]

pub one_bad_line : OneBadLine
one_bad_line is_text text m n a b = same_bad_line (λ lines. is_text lines ≡ true) text m n a b

at_end : (G : Grammar) (before : List (List ℕ)) (rest : List ℕ) → rest ≡ [] → G (without_comments before) → IsStuck G before rest ⊎ (IsUnfinished rest ⊎ EndsEarly G before rest) → ⊥
at_end G before rest none whole (inl (line, after, split, dead)) = no_lines line [] after (sym none ∙ split.split)
at_end G before rest none whole (inr (inl last)) = last.0 none
at_end G before rest none whole (inr (inr end)) = end.1 whole

pub text_is_not_bad : (G : Grammar) (text : List ℕ) (lines : List (List ℕ)) (m : ℕ) → HasLines text lines → G lines → IsBadLine G text m → ⊥
text_is_not_bad G text lines m has is bad =
    let whole : G (without_comments has.all) = subst G (sym has.same) is in
    elim (cases_lt (length has.all) (length bad.before)) [
      | inl less ↦ (
          let cut = front_of has.all bad.before [] bad.rest has.begins.whole bad.split.whole (sym has.begins.split ∙ bad.split.split) (omega arith) in
          elim cut.0 as (λ zs. bad.before ≡ has.all ++ zs → [] ≡ ended zs ++ bad.rest → ⊥) [
            | [] ↦ (λ f g. let same : length bad.before ≡ length has.all = ap length (f ∙ append-nil has.all) in absurd (omega arith))
            | z ∷ zs ↦ (λ f g. no_lines z zs bad.rest g)
          ] cut.1 cut.2
          )
      | inr least ↦ (
          let cut = front_of bad.before has.all bad.rest [] bad.split.whole has.begins.whole (sym bad.split.split ∙ has.begins.split) (omega arith) in
          elim cut.0 as (λ zs. has.all ≡ bad.before ++ zs → bad.rest ≡ ended zs ++ [] → ⊥) [
            | [] ↦ (λ f g. at_end G bad.before bad.rest g (subst (λ ls. G (without_comments ls)) (f ∙ append-nil bad.before) whole) bad.bad)
            | z ∷ zs ↦ (
                λ f g.
                let lines : All IsLine (bad.before ++ z ∷ zs) = subst (All IsLine) f has.begins.whole in
                let here : G (without_comments (bad.before ++ z ∷ zs)) = subst (λ ls. G (without_comments ls)) f whole in
                not_bad G bad.before bad.rest z zs [] g (middle_line bad.before z zs lines) ([], subst G (sym (append-nil (without_comments (bad.before ++ z ∷ zs)))) here) bad.bad
                )
          ] cut.1 cut.2
          )
    ]

pub never_both : NeverBoth
never_both is_text text lines m has is bad = text_is_not_bad (λ some. is_text some ≡ true) text lines m has is bad
