-- The bytes of a certificate by windows, this project's own. Numbers are big-endian. A set of n vertices takes n bits, eight to a byte.
use Rattle.std.specs.Prelude.{◌≡◌, ℕ, zero, suc, ◌+◌, ◌*◌, ◌/◌, ◌^◌, ◌≤◌, ◌<◌, List, [], ◌∷◌, ◌++◌, length, flat_map, codes, ⊤}
use Rattle.std.specs.FinSet as set
use Rattle.comp_graph.specs.Vertices.{Vertices, AllBelow}
use Rattle.comp_graph.specs.Words.{bits_below}
use Rattle.comp_graph.specs.Lists.{IsIn}
use Rattle.potential_cert.specs.declared.tables.Row.{Row}
use Rattle.potential_cert.specs.Table.{IsRising}
use Rattle.potential_cert.specs.Order.{precedes}
use Rattle.potential_cert.specs.TableBytes.{big_endian}
use Rattle.window_cert.specs.Certs.{ChargedParts, each, of_tracked, by_works, WindowParts, Numbers, CertParts, numbers_of}

-- how many bytes a set of n vertices takes
abbrev pub bytes_in : ℕ → ℕ
bytes_in n = (n + 7) / 8

-- byte k of a set: vertex 8 k + i is the bit of value 2^i
unfoldable pub byte_of : Vertices → ℕ → ℕ
byte_of s k = bits_below (λ i. set.contains s (8 * k + i)) 8

-- the first bytes of a set
unfoldable pub first_bytes : ℕ → Vertices → List ℕ
first_bytes zero s = []
first_bytes (suc k) s = first_bytes k s ++ byte_of s k ∷ []

-- the bytes of a set of n vertices
abbrev pub set_bytes : ℕ → Vertices → List ℕ
set_bytes n s = first_bytes (bytes_in n) s

-- how many there are, and each of them
abbrev pub counted : {X : Type 0} → (X → List ℕ) → List X → List ℕ
counted spell xs = big_endian 4 (length xs) ++ flat_map spell xs

-- the form of the charged loads, and the sets of this form
abbrev pub charged_bytes : ℕ → ChargedParts → List ℕ
charged_bytes n (each sets) = 0 ∷ flat_map (set_bytes n) sets
charged_bytes n of_tracked = 1 ∷ []
charged_bytes n (by_works works) = 2 ∷ set_bytes n works

-- a renaming is the list of its images, a byte for each
abbrev pub renaming_bytes : List ℕ → List ℕ
renaming_bytes images = images

-- the red set of a row, its blue set and its cost
abbrev pub row_bytes : ℕ → Row → List ℕ
row_bytes n r = set_bytes n r.position.red ++ (set_bytes n r.position.blue ++ big_endian 4 r.cost)

-- a window of a graph with n vertices
abbrev pub window_bytes : ℕ → WindowParts → List ℕ
window_bytes n w =
    charged_bytes n w.charged ++ (set_bytes n w.stores ++ (set_bytes n w.tracked ++ (set_bytes n w.required
    ++ (counted renaming_bytes w.renamings ++ (big_endian 4 w.bound ++ counted (row_bytes n) w.rows)))))

-- the mark, the version 1 and the numbers
abbrev pub header_bytes : Numbers → List ℕ
header_bytes h =
    codes "RBPW" ++ (big_endian 2 1 ++ (big_endian 2 h.vertices ++ (big_endian 2 h.slots
    ++ (big_endian 1 h.load ++ (big_endian 1 h.store ++ big_endian 4 h.bound)))))

-- the bytes of a certificate
abbrev pub bytes_of : CertParts → List ℕ
bytes_of c = header_bytes (numbers_of c) ++ counted (window_bytes c.vertices) c.windows

-- ---- what can be spelled

-- there are fewer than 2^32, and each fits
pub record AllFit {X : Type 0} (Fits : X → Type 0) (xs : List X) : Type 0 where
  pub few : length xs < 2 ^ 32
  pub fit : (x : X) → IsIn x xs → Fits x

-- sets of vertices: one for each vertex in the first form
abbrev pub ChargedFits : ℕ → ChargedParts → Type 0
ChargedFits n (each sets) = (length sets ≡ n) × ((s : Vertices) → IsIn s sets → AllBelow n s)
ChargedFits n of_tracked = ⊤
ChargedFits n (by_works works) = AllBelow n works

-- an image of one byte for each vertex
pub record RenamingFits (n : ℕ) (images : List ℕ) : Type 0 where
  pub many : length images ≡ n
  pub small : (v : ℕ) → IsIn v images → v < 256

-- sets of vertices, and a cost of 32 bits
pub record RowFits (n : ℕ) (r : Row) : Type 0 where
  pub red : AllBelow n r.position.red
  pub blue : AllBelow n r.position.blue
  pub cost : r.cost < 2 ^ 32

-- sets of vertices, fewer than 2^32 renamings and rows, and the rows rise
pub record WindowFits (n : ℕ) (w : WindowParts) : Type 0 where
  pub charged : ChargedFits n w.charged
  pub stores : AllBelow n w.stores
  pub tracked : AllBelow n w.tracked
  pub required : AllBelow n w.required
  pub renamings : AllFit (RenamingFits n) w.renamings
  pub bound : w.bound < 2 ^ 32
  pub rows : AllFit (RowFits n) w.rows
  pub rise : IsRising precedes w.rows

-- from 1 to 256 vertices, from 1 to 64 slots, weights from 1 to 16, and a bound of 32 bits
pub record HeaderFits (h : Numbers) : Type 0 where
  pub some_vertices : 1 ≤ h.vertices
  pub vertices : h.vertices ≤ 256
  pub some_slots : 1 ≤ h.slots
  pub slots : h.slots ≤ 64
  pub some_load : 1 ≤ h.load
  pub load : h.load ≤ 16
  pub some_store : 1 ≤ h.store
  pub store : h.store ≤ 16
  pub bound : h.bound < 2 ^ 32

-- the numbers of the certificate and its windows are in their ranges
pub record IsCertShape (c : CertParts) : Type 0 where
  pub numbers : HeaderFits (numbers_of c)
  pub windows : AllFit (WindowFits c.vertices) c.windows

-- the bytes spell the certificate
pub record IsSpelling (bytes : List ℕ) (c : CertParts) : Type 0 where
  pub fits : IsCertShape c
  pub bytes_are : bytes ≡ bytes_of c

-- what writing asks of a certificate: at most 256 vertices, and fewer than 2^32 of what is counted
pub record IsCountable (c : CertParts) : Type 0 where
  pub vertices : c.vertices ≤ 256
  pub windows : length c.windows < 2 ^ 32
  pub renamings : (w : WindowParts) → IsIn w c.windows → length w.renamings < 2 ^ 32
  pub rows : (w : WindowParts) → IsIn w c.windows → length w.rows < 2 ^ 32

-- there is one spelling per certificate, bytes spell one certificate, and no spelling begins another
abbrev pub CertSpellingIsOne : Type 0
CertSpellingIsOne = (c d : CertParts) (r s : List ℕ) → IsCertShape c → IsCertShape d → bytes_of c ++ r ≡ bytes_of d ++ s → (c ≡ d) × (r ≡ s)
