-- The bytes of a file as a table file of a game: each list of bytes is one or is refused, and a written table with few rows is one.
use Rattle.std.proofs.Common.{◌⊎◌, ◌≤◌, ℕ, List, length, inl, inr, refl, arith}
use Rattle.std.proofs.lemmas.Bool.{cases_lt}
use Rattle.comp_graph.specs.Dags.{IsDag}
use Rattle.comp_graph.specs.Games.{PebbleGame}
use Rattle.cert_checker.specs.Refusals.{number_of_reason}
use Rattle.cert_checker.proofs.Decided.{table_or_refusal}
use Rattle.potential_cert.specs.GameTables.{IsTableOf}
use Rattle.potential_cert.specs.Table.{TableParts}
use Rattle.potential_cert.specs.TableBytes.{IsSpelling}
use Rattle.potential_cert.proofs.Readable.{length_table, spelled_or_not}
use Rattle.command_answers.specs.CheckAnswers.{IsCertificate, IsRefused, IsTableFile, broken, no_table}

-- the bytes are a table file of the game, or are refused
abbrev pub Outcome : PebbleGame → List ℕ → Type 0
Outcome g bytes = ((t : TableParts) × IsCertificate g bytes t) ⊎ ((reason : ℕ) × (row : ℕ) × IsRefused g bytes reason row)

by_table : (g : PebbleGame) → IsDag g.dag → (bytes : List ℕ) (t : TableParts) → IsTableFile bytes t → Outcome g bytes
by_table g dag bytes t file = elim (table_or_refusal g dag t) [
  | inl of_game ↦ inl (t, record { file = file; of_game = of_game })
  | inr refusal ↦ inr (number_of_reason refusal.0, refusal.1, broken t refusal.0 file refusal.2 refl)
]

pub certified_or_refused : (g : PebbleGame) → IsDag g.dag → (bytes : List ℕ) → Outcome g bytes
certified_or_refused g dag bytes = elim (cases_lt 20000000 (length bytes)) [
  | inl long ↦ inr (1, 0, no_table (λ t file. (let short = file.short in omega (arith, long, short))) refl refl)
  | inr short ↦ elim (spelled_or_not bytes) [
    | inl spelled ↦ by_table g dag bytes spelled.0 (record { short = omega (arith, short); spelled = spelled.1 })
    | inr none ↦ inr (1, 0, no_table (λ t file. none t file.spelled) refl refl)
  ]
]

-- the spelling of a table of the game is a table file of it, if its rows are few
pub written_table : (g : PebbleGame) (bytes : List ℕ) (t : TableParts) → IsSpelling bytes t → IsTableOf g t → length t.rows ≤ 150000 → IsCertificate g bytes t
written_table g bytes t spelled of_game few = record {
  file = record { short = let long = length_table bytes t spelled in omega arith; spelled = spelled };
  of_game = of_game;
}
