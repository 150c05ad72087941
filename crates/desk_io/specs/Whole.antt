-- What reading a whole input or file and writing a whole text promise, each promise in one record, for the calls that count their steps
-- (`src/counted.rt`). The calls that count nothing (`src/transfer.rt`) promise the same, a clause for each field, which are proved from these
-- records. All of it is this project's convention. `D` is the type of a desk, with its meanings `name`, `input`, `file`, `output` and `faults`;
-- `old` is the desk before the call and `new` after it.
use Rattle.std.specs.Prelude.{◌≡◌, ℕ, ◌<◌, ◌≤◌, ◌⊎◌, List, length, take, Vec, Option, Result, Err, IfOk, OnOk, OnErr, ⊤}
use Rattle.std.specs.declared.alloc.Global.{Global}
use Rattle.std.specs.Io.KnownBytes.{append_known, prepend_known}
use Rattle.desk_io.specs.declared.desk.Kind.{Kind}
use Rattle.desk_io.specs.declared.desk.Kind.TheVariants.{TakeInput, TakeFile, PutOutput, PutFile, ClearFile}
use Rattle.desk_io.specs.declared.transfer.ReadEnd.{ReadEnd}
use Rattle.desk_io.specs.declared.transfer.ReadEnd.TheVariants.{TooLong, ReadFault}
use Rattle.desk_io.specs.declared.transfer.WriteFault.{WriteFault}
use Rattle.desk_io.specs.Counts.{Rose}
use Rattle.desk_io.specs.Known.{ToldFile, file_of, Tells, TellsMore, TookAtMost, TookMore, TellsFile, TellsMoreFile, input_end}

-- the input was read to its end, if it has at most so many bytes
pub record ReadsInput {D : Type 0} (name : D → List ℕ) (input : D → Option (List ℕ)) (file : D → ToldFile) (output : D → Option (List ℕ))
    (faults : D → Kind → ℕ) (old new : D) (limit : ℕ) (result : Result (Vec ℕ Global) ReadEnd) : Type 0 where
  -- the text is the whole input, within the limit, and the input is at its end
  pub whole : IfOk result (λ text. Tells (input old) text.items)
  pub fits : IfOk result (λ text. length text.items ≤ limit)
  pub end : OnOk result (input new ≡ input_end (input old))
  -- `TooLong` comes only of more bytes than the limit, after more than the limit were taken
  pub too_long : result ≡ Err TooLong → TellsMore (input old) limit
  pub late : result ≡ Err TooLong → TookMore (input old) (input new) limit
  -- `ReadFault` comes only of a failed take, before more than the limit were taken
  pub cause : result ≡ Err ReadFault → Rose (faults old TakeInput) (faults new TakeInput)
  pub early : result ≡ Err ReadFault → TookAtMost (input old) (input new) limit
  -- what was taken stood at the front, and the rest is left
  pub lost : OnErr result ((taken : List ℕ) × (input old ≡ prepend_known taken (input new)))
  -- no take failed but where `ReadFault` comes, and all else stays
  pub no_fault : (result ≡ Err ReadFault → ⊥) → faults new TakeInput ≡ faults old TakeInput
  pub other_faults : (other : Kind) → (other ≡ TakeInput → ⊥) → faults new other ≡ faults old other
  pub same_name : name new ≡ name old
  pub same_file : file new ≡ file old
  pub same_output : output new ≡ output old

-- the file was read whole, if it has at most so many bytes
pub record ReadsFile {D : Type 0} (name : D → List ℕ) (input : D → Option (List ℕ)) (file : D → ToldFile) (output : D → Option (List ℕ))
    (faults : D → Kind → ℕ) (old new : D) (limit : ℕ) (result : Result (Vec ℕ Global) ReadEnd) : Type 0 where
  -- the text is the whole file, within the limit
  pub whole : IfOk result (λ text. TellsFile (file old) text.items)
  pub fits : IfOk result (λ text. length text.items ≤ limit)
  -- `TooLong` comes only of more bytes than the limit
  pub too_long : result ≡ Err TooLong → TellsMoreFile (file old) limit
  -- `ReadFault` comes only of a failed take, and no take failed but where it comes
  pub cause : result ≡ Err ReadFault → Rose (faults old TakeFile) (faults new TakeFile)
  pub no_fault : (result ≡ Err ReadFault → ⊥) → faults new TakeFile ≡ faults old TakeFile
  -- all else stays
  pub other_faults : (other : Kind) → (other ≡ TakeFile → ⊥) → faults new other ≡ faults old other
  pub same_name : name new ≡ name old
  pub same_input : input new ≡ input old
  pub same_file : file new ≡ file old
  pub same_output : output new ≡ output old

-- the text was appended to the output
pub record WritesOutput {D : Type 0} (name : D → List ℕ) (input : D → Option (List ℕ)) (file : D → ToldFile) (output : D → Option (List ℕ))
    (faults : D → Kind → ℕ) (old new : D) (text : List ℕ) (result : Result ⊤ WriteFault) : Type 0 where
  pub ok : OnOk result (output new ≡ append_known (output old) text)
  -- a fault comes only of a failed put, and leaves a part of the text that is not the whole
  pub prefix : OnErr result ((count : ℕ) × (count < length text) × (output new ≡ append_known (output old) (take count text)))
  pub cause : OnErr result (Rose (faults old PutOutput) (faults new PutOutput))
  -- else no put failed, and all else stays
  pub no_fault : OnOk result (faults new PutOutput ≡ faults old PutOutput)
  pub other_faults : (other : Kind) → (other ≡ PutOutput → ⊥) → faults new other ≡ faults old other
  pub same_name : name new ≡ name old
  pub same_input : input new ≡ input old
  pub same_file : file new ≡ file old

-- the file is there with exactly these bytes
pub record WritesFile {D : Type 0} (name : D → List ℕ) (input : D → Option (List ℕ)) (file : D → ToldFile) (output : D → Option (List ℕ))
    (faults : D → Kind → ℕ) (old new : D) (bytes : List ℕ) (result : Result ⊤ WriteFault) : Type 0 where
  pub ok : OnOk result (file new ≡ file_of (file old) bytes)
  -- a fault comes only of a failed clear, and then the file stays; or of a failed put, and then it holds a part of the bytes that is not the whole
  pub fault : OnErr result (
      (Rose (faults old ClearFile) (faults new ClearFile) × (file new ≡ file old) × (faults new PutFile ≡ faults old PutFile))
      ⊎ (Rose (faults old PutFile) (faults new PutFile) × (faults new ClearFile ≡ faults old ClearFile)
      × ((count : ℕ) × (count < length bytes) × (file new ≡ file_of (file old) (take count bytes)))))
  -- else none failed, and all else stays
  pub no_fault : OnOk result ((faults new ClearFile ≡ faults old ClearFile) × (faults new PutFile ≡ faults old PutFile))
  pub other_faults : (other : Kind) → (other ≡ ClearFile → ⊥) → (other ≡ PutFile → ⊥) → faults new other ≡ faults old other
  pub same_name : name new ≡ name old
  pub same_input : input new ≡ input old
  pub same_output : output new ≡ output old
