-- The positions of a search as a list, each with its head, in the order of pushing.
use Rattle.std.specs.Prelude.{◌≡◌, ℕ, ◌*◌, ◌<◌, List, [], ◌∷◌, ◌++◌, length, take, slice_index_or, slice_set}
use Rattle.std.specs.FinSet as set
use Rattle.comp_graph.specs.Vertices.{AllBelow}
use Rattle.comp_graph.specs.Words.{words_of}
use Rattle.pebble_rules.specs.declared.position.Position.{Position}
use Rattle.normal_steps.specs.declared.step.Step.TheVariants.{Drop}
use Rattle.position_arena.specs.declared.rows.Head.{Head}

-- a position with its head
pub record Slot : Type 0 where
  pub position : Position
  pub head : Head

-- positions below 64 times `words`, each with its head
pub record Arena : Type 0 where
  pub words : ℕ
  pub slots : List Slot

-- what stands past the end
abbrev pub no_slot : Slot
no_slot = record { position = record { red = set.empty; blue = set.empty }; head = record { cost = 0; parent = 0; step = Drop 0 } }

-- position k with its head
abbrev pub slot_at : Arena → ℕ → Slot
slot_at a k = slice_index_or a.slots k no_slot

-- both sets are below 64 times `words`
pub record IsWithinWords (words : ℕ) (p : Position) : Type 0 where
  pub red : AllBelow (64 * words) p.red
  pub blue : AllBelow (64 * words) p.blue

-- the position is not there
abbrev pub IsAbsent : Arena → Position → Type 0
IsAbsent a p = (k : ℕ) → k < length a.slots → (slot_at a k).position ≡ p → ⊥

-- this is position k
abbrev pub IsPlaceOf : Arena → Position → ℕ → Type 0
IsPlaceOf a p k = (k < length a.slots) × ((slot_at a k).position ≡ p)

-- the first red words and then the first blue words of a position
abbrev pub row_words : ℕ → Position → List ℕ
row_words words p = take words (words_of p.red) ++ take words (words_of p.blue)

-- with a position behind the others
abbrev pub pushed : Arena → Position → Head → Arena
pushed a p head = record { words = a.words; slots = a.slots ++ record { position = p; head = head } ∷ [] }

-- with another head at position k
abbrev pub with_head : Arena → ℕ → Head → Arena
with_head a k head = record { words = a.words; slots = slice_set a.slots k (record { position = (slot_at a k).position; head = head }) }
