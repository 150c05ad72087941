-- It can be told of each line whether it may come next, so each text reads as moves or has a bad line.
use Rattle.std.proofs.Common.{◌≡◌, ℕ, zero, suc, ◌<◌, Bool, true, false, List, [], ◌∷◌, ◌++◌, refl, ap, ◌∙◌, subst, ◌⊎◌, inl, inr, arith}
use Rattle.std.specs.Prelude.{codes}
use Rattle.std.specs.Bool.{Decides}
use Rattle.std.specs.Str.{bytes_eq}
use Rattle.std.proofs.lemmas.Bool.{cases_eq}
use Rattle.std.proofs.lemmas.Slice.Eq.{bytes_eq-Decides}
use Rattle.pebble_rules.specs.declared.moves.Move.{Move}
use Rattle.pebble_rules.specs.declared.moves.Move.TheVariants.{Load, Store, Compute, DropRed, DropBlue}
use Rattle.pebble_rules.specs.Refusals.{vertex_of}
use Rattle.line_texts.specs.Lines.{HasLines}
use Rattle.line_texts.proofs.Reading as reading
use Rattle.play_files.specs.PlayText.{line_of_move}
use Rattle.play_files.specs.PlayTexts.{ArePlayLines}
use Rattle.play_files.specs.Reading.{State, none_read, IsNextLine, Ends}
use Rattle.play_files.specs.Laws.{AlwaysOne}
use Rattle.play_files.proofs.Reader.{reader}

-- it holds or it does not
abbrev IsTold : Type 0 → Type 0
IsTold P = P ⊎ (P → ⊥)

by_test : {P : Type 0} (b : Bool) → Decides b P → IsTold P
by_test true d = inl (d.0 refl)
by_test false d = inr (λ p. let held = d.1 p in absurd (cc))

bytes_told : (xs ys : List ℕ) → IsTold (xs ≡ ys)
bytes_told xs ys = by_test (bytes_eq xs ys) (bytes_eq-Decides xs ys)

-- the line says a move of a vertex below the limit
abbrev SaysMove : ℕ → List ℕ → Type 0
SaysMove n line = (m : Move) × (vertex_of m < n) × (line ≡ line_of_move m)

-- the line says one of the five moves of a vertex
abbrev SaysMoveOf : ℕ → List ℕ → Type 0
SaysMoveOf v line = (m : Move) × (vertex_of m ≡ v) × (line ≡ line_of_move m)

one_of_five : (v : ℕ) (line : List ℕ) → IsTold (SaysMoveOf v line)
one_of_five v line = elim (bytes_told line (line_of_move (Load v))) [
  | inl e ↦ inl (Load v, refl, e)
  | inr load ↦ elim (bytes_told line (line_of_move (Store v))) [
    | inl e ↦ inl (Store v, refl, e)
    | inr store ↦ elim (bytes_told line (line_of_move (Compute v))) [
      | inl e ↦ inl (Compute v, refl, e)
      | inr compute ↦ elim (bytes_told line (line_of_move (DropRed v))) [
        | inl e ↦ inl (DropRed v, refl, e)
        | inr drop_red ↦ elim (bytes_told line (line_of_move (DropBlue v))) [
          | inl e ↦ inl (DropBlue v, refl, e)
          | inr drop_blue ↦ inr (λ h. none load store compute drop_red drop_blue h.0 h.1 h.2)
        ]
      ]
    ]
  ]
]
  where
    none : (line ≡ line_of_move (Load v) → ⊥) → (line ≡ line_of_move (Store v) → ⊥) → (line ≡ line_of_move (Compute v) → ⊥) → (line ≡ line_of_move (DropRed v) → ⊥) → (line ≡ line_of_move (DropBlue v) → ⊥)
        → (m : Move) → vertex_of m ≡ v → line ≡ line_of_move m → ⊥
    none a b c d e (Load u) same is = a (is ∙ ap (λ w. line_of_move (Load w)) same)
    none a b c d e (Store u) same is = b (is ∙ ap (λ w. line_of_move (Store w)) same)
    none a b c d e (Compute u) same is = c (is ∙ ap (λ w. line_of_move (Compute w)) same)
    none a b c d e (DropRed u) same is = d (is ∙ ap (λ w. line_of_move (DropRed w)) same)
    none a b c d e (DropBlue u) same is = e (is ∙ ap (λ w. line_of_move (DropBlue w)) same)

move_told : (n : ℕ) (line : List ℕ) → IsTold (SaysMove n line)
move_told zero line = inr (λ h. let small = h.1 in absurd (omega arith))
move_told (suc n) line = elim (one_of_five n line) [
  | inl said ↦ inl (said.0, (let same = said.1 in omega arith), said.2)
  | inr other ↦ elim (move_told n line) [
    | inl below ↦ inl (below.0, (let small = below.1 in omega arith), below.2)
    | inr none ↦ inr (λ h. elim (cases_eq (vertex_of h.0) n) [
      | inl same ↦ other (h.0, same, h.2)
      | inr apart ↦ none (h.0, (let small = h.1 in omega arith), h.2)
    ])
  ]
]

step_told : (n : ℕ) (s : State) (line : List ℕ) → ((t : State) × IsNextLine n s line t) ⊎ ((t : State) → IsNextLine n s line t → ⊥)
step_told n s line = at_end s.done refl
  where
    at_end : (b : Bool) → s.done ≡ b → ((t : State) × IsNextLine n s line t) ⊎ ((t : State) → IsNextLine n s line t → ⊥)
    at_end true e = inr (λ t step. let more = step.0 in cc)
    at_end false e = elim (move_told n line) [
      | inl said ↦ inl (record { moves = s.moves ++ said.0 ∷ []; done = false }, (e, inl (said.0, said.1, said.2, refl)))
      | inr none ↦ elim (bytes_told line (codes "end")) [
        | inl end ↦ inl (record { moves = s.moves; done = true }, (e, inr (end, refl)))
        | inr other ↦ inr (λ t step. neither none other t step.1)
      ]
    ]
      where
        neither : (SaysMove n line → ⊥) → (line ≡ codes "end" → ⊥) → (t : State)
            → ((m : Move) × (vertex_of m < n) × (line ≡ line_of_move m) × (t ≡ record { moves = s.moves ++ m ∷ []; done = false })) ⊎ ((line ≡ codes "end") × (t ≡ record { moves = s.moves; done = true }))
            → ⊥
        neither none other t (inl move) = none (move.0, move.1, move.2)
        neither none other t (inr end) = other end.0

end_or_not : (s : State) → IsTold (Ends s)
end_or_not s = at s.done
  where
    at : (b : Bool) → IsTold (b ≡ true)
    at true = inl refl
    at false = inr (λ e. absurd (cc))

pub always_one : AlwaysOne
always_one n text small = elim (reading.some_answer (ArePlayLines n) State none_read (IsNextLine n) Ends (reader n small) (step_told n) end_or_not text) [
  | inl h ↦ inl (h.2.0, (h.2.1, subst (HasLines text) h.2.2 h.1))
  | inr bad ↦ inr bad
]
