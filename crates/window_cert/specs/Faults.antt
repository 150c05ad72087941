-- The place at which bytes fail to spell a certificate, this project's own: the first part that is not there. The header is one part; each
-- other number, each set and each renaming is one; and the number of rows is not there if the rows after it do not rise. `left` is how many
-- bytes are left where the part begins.
use Rattle.std.specs.Prelude.{◌≡◌, ℕ, zero, suc, ◌-◌, ◌^◌, ◌≤◌, ◌<◌, List, [], ◌∷◌, length}
use Rattle.comp_graph.specs.Vertices.{AllBelow}
use Rattle.potential_cert.specs.declared.tables.Row.{Row}
use Rattle.potential_cert.specs.Table.{IsRising}
use Rattle.potential_cert.specs.Order.{precedes}
use Rattle.potential_cert.specs.TableBytes.{big_endian}
use Rattle.window_cert.specs.Certs.{CertParts}
use Rattle.window_cert.specs.Bytes.{set_bytes, counted, charged_bytes, renaming_bytes, row_bytes, window_bytes, header_bytes}
use Rattle.window_cert.specs.Bytes.{AllFit, ChargedFits, RenamingFits, RowFits, WindowFits, HeaderFits, IsSpelling}
use Rattle.window_cert.specs.Parts.{sets_bytes, SetsFit}
use Rattle.window_cert.specs.Readings.{BeginsWith, BeginsWithNone, BeginsWithMany}

-- the bytes begin with no such part
pub record IsMissing {X : Type 0} (spell : X → List ℕ) (Fits : X → Type 0) (bytes : List ℕ) (left : ℕ) : Type 0 where
  pub none : BeginsWithNone spell Fits bytes
  pub here : left ≡ length bytes

-- the first part has a fault, or it is there and what follows has one
pub data FaultOfBoth {X : Type 0} (spell : X → List ℕ) (Fits : X → Type 0) (First : List ℕ → ℕ → Type 0)
    (Second : X → List ℕ → ℕ → Type 0) (bytes : List ℕ) (left : ℕ) : Type 0 where
  in_first : First bytes left → FaultOfBoth spell Fits First Second bytes left
  in_second : (x : X) (rest : List ℕ) → BeginsWith spell Fits bytes rest x → Second x rest left → FaultOfBoth spell Fits First Second bytes left

-- fewer than so many are there, and the next has a fault
pub record FaultOfMany {X : Type 0} (spell : X → List ℕ) (Fits : X → Type 0) (Fault : List ℕ → ℕ → Type 0) (count : ℕ)
    (bytes : List ℕ) (left : ℕ) : Type 0 where
  pub before : ℕ
  pub less : before < count
  pub items : List X
  pub rest : List ℕ
  pub read : BeginsWithMany spell Fits before bytes rest items
  pub fault : Fault rest left

-- a number of 32 bits is missing
abbrev pub IsWord : ℕ → Type 0
IsWord n = n < 2 ^ 32

abbrev pub FaultOfNumber : List ℕ → ℕ → Type 0
FaultOfNumber = IsMissing (big_endian 4) IsWord

-- the number of a list is missing, or one of the list has a fault
abbrev pub FaultOfCounted : {X : Type 0} → (X → List ℕ) → (X → Type 0) → (List ℕ → ℕ → Type 0) → List ℕ → ℕ → Type 0
FaultOfCounted spell Fits Fault = FaultOfBoth (big_endian 4) IsWord FaultOfNumber (FaultOfMany spell Fits Fault)

-- a set of n vertices is missing
abbrev pub FaultOfSet : ℕ → List ℕ → ℕ → Type 0
FaultOfSet n = IsMissing (set_bytes n) (AllBelow n)

-- a set of n vertices is missing, or what follows has a fault
abbrev pub FaultFromSet : ℕ → (List ℕ → ℕ → Type 0) → List ℕ → ℕ → Type 0
FaultFromSet n Rest = FaultOfBoth (set_bytes n) (AllBelow n) (FaultOfSet n) (λ s. Rest)

-- a form of charged loads: 0, 1 or 2
abbrev pub form_bytes : ℕ → List ℕ
form_bytes form = form ∷ []

abbrev pub IsForm : ℕ → Type 0
IsForm form = form ≤ 2

-- a set of the form is missing: of form 0 one of n sets, of form 2 the one set
abbrev pub FaultOfForm : ℕ → ℕ → List ℕ → ℕ → Type 0
FaultOfForm n zero = FaultOfMany (set_bytes n) (AllBelow n) (FaultOfSet n) n
FaultOfForm n (suc zero) = λ bytes left. ⊥
FaultOfForm n (suc (suc form)) = FaultOfSet n

abbrev pub FaultOfCharged : ℕ → List ℕ → ℕ → Type 0
FaultOfCharged n = FaultOfBoth form_bytes IsForm (IsMissing form_bytes IsForm) (FaultOfForm n)

-- the stores, the tracked or the required vertices are missing
abbrev pub FaultOfSets : ℕ → List ℕ → ℕ → Type 0
FaultOfSets n = FaultFromSet n (FaultFromSet n (FaultOfSet n))

-- the red set, the blue set or the cost is missing
abbrev pub FaultOfRow : ℕ → List ℕ → ℕ → Type 0
FaultOfRow n = FaultFromSet n (FaultFromSet n FaultOfNumber)

abbrev pub FaultOfRows : ℕ → List ℕ → ℕ → Type 0
FaultOfRows n = FaultOfCounted (row_bytes n) (RowFits n) (FaultOfRow n)

-- the rows have a fault, or they are there and do not rise
pub data FaultOfTable (n : ℕ) (bytes : List ℕ) (left : ℕ) : Type 0 where
  in_rows : FaultOfRows n bytes left → FaultOfTable n bytes left
  in_order : (rows : List Row) (rest : List ℕ) → BeginsWith (counted (row_bytes n)) (AllFit (RowFits n)) bytes rest rows
      → (IsRising precedes rows → ⊥) → left ≡ length bytes → FaultOfTable n bytes left

-- a renaming of n vertices is missing
abbrev pub FaultOfRenaming : ℕ → List ℕ → ℕ → Type 0
FaultOfRenaming n = IsMissing renaming_bytes (RenamingFits n)

abbrev pub FaultOfRenamings : ℕ → List ℕ → ℕ → Type 0
FaultOfRenamings n = FaultOfCounted renaming_bytes (RenamingFits n) (FaultOfRenaming n)

-- a part of a window has a fault: the charged loads, the sets, the renamings, the bound or the table
abbrev pub FaultOfWindow : ℕ → List ℕ → ℕ → Type 0
FaultOfWindow n =
    FaultOfBoth (charged_bytes n) (ChargedFits n) (FaultOfCharged n) (λ c. FaultOfBoth (sets_bytes n) (SetsFit n) (FaultOfSets n)
    (λ s. FaultOfBoth (counted renaming_bytes) (AllFit (RenamingFits n)) (FaultOfRenamings n)
    (λ r. FaultOfBoth (big_endian 4) IsWord FaultOfNumber (λ b. FaultOfTable n))))

abbrev pub FaultOfWindows : ℕ → List ℕ → ℕ → Type 0
FaultOfWindows n = FaultOfCounted (window_bytes n) (WindowFits n) (FaultOfWindow n)

-- bytes are left
pub record IsLeft (bytes : List ℕ) (left : ℕ) : Type 0 where
  pub some : 0 < length bytes
  pub here : left ≡ length bytes

-- the header is missing, a window has a fault, or bytes are left after the last window
abbrev pub FaultOfCert : List ℕ → ℕ → Type 0
FaultOfCert =
    FaultOfBoth header_bytes HeaderFits (IsMissing header_bytes HeaderFits)
    (λ h. FaultOfBoth (counted (window_bytes h.vertices)) (AllFit (WindowFits h.vertices)) (FaultOfWindows h.vertices) (λ w. IsLeft))

-- the part that is not there begins at this place
abbrev pub IsFaultAt : List ℕ → ℕ → Type 0
IsFaultAt bytes at = (left : ℕ) × FaultOfCert bytes left × (at ≡ length bytes - left)

-- bytes with such a fault spell no certificate
abbrev pub FaultsSpellNone : Type 0
FaultsSpellNone = (bytes : List ℕ) (at : ℕ) → IsFaultAt bytes at → (c : CertParts) → IsSpelling bytes c → ⊥

-- bytes have at most one such place
abbrev pub FaultIsOne : Type 0
FaultIsOne = (bytes : List ℕ) (a b : ℕ) → IsFaultAt bytes a → IsFaultAt bytes b → a ≡ b
