-- What is left on a desk once a text is printed, with or without a table, and that no write was tried in vain.
use Rattle.std.specs.Prelude.{◌≡◌, ℕ, ◌<◌, List, length, take, None, Some, ◌⊎◌}
use Rattle.std.specs.declared.option.Option.{Option}
use Rattle.std.specs.Io.KnownBytes.{append_known}
use Rattle.desk_io.specs.declared.desk.Kind.{Kind}
use Rattle.desk_io.specs.declared.desk.Kind.TheVariants.{PutOutput, PutFile, ClearFile}
use Rattle.desk_io.specs.Counts.{Rose}
use Rattle.desk_io.specs.Known.{ToldFile, file_of}

-- the file after a table is written to it, or none
abbrev pub file_after : ToldFile → Option (List ℕ) → ToldFile
file_after file None = file
file_after file (Some table) = file_of file table

-- the text is printed, and the table written
pub record Delivered {D : Type 0} (file : D → ToldFile) (output : D → Option (List ℕ)) (old new : D) (printed : List ℕ) (table : Option (List ℕ)) : Type 0 where
  pub written : file new ≡ file_after (file old) table
  pub said : output new ≡ append_known (output old) printed

-- the table is not written whole, and nothing is printed; no other write was tried in vain
pub record TableCut {D : Type 0} (file : D → ToldFile) (output : D → Option (List ℕ)) (faults : D → Kind → ℕ) (old new : D) (table : List ℕ) : Type 0 where
  pub cause : (Rose (faults old ClearFile) (faults new ClearFile) × (file new ≡ file old) × (faults new PutFile ≡ faults old PutFile))
      ⊎ (Rose (faults old PutFile) (faults new PutFile) × (faults new ClearFile ≡ faults old ClearFile)
      × ((count : ℕ) × (count < length table) × (file new ≡ file_of (file old) (take count table))))
  pub silent : output new ≡ output old
  pub unsaid : faults new PutOutput ≡ faults old PutOutput

-- the table is written whole, and not all of the text is printed; no other write was tried in vain
pub record TextCut {D : Type 0} (file : D → ToldFile) (output : D → Option (List ℕ)) (faults : D → Kind → ℕ) (old new : D) (printed : List ℕ) (table : Option (List ℕ)) : Type 0 where
  pub cause : Rose (faults old PutOutput) (faults new PutOutput)
  pub written : file new ≡ file_after (file old) table
  pub prefix : (count : ℕ) × (count < length printed) × (output new ≡ append_known (output old) (take count printed))
  pub kept : (faults new PutFile ≡ faults old PutFile) × (faults new ClearFile ≡ faults old ClearFile)

-- a write failed
abbrev pub CutShort : {D : Type 0} (file : D → ToldFile) (output : D → Option (List ℕ)) (faults : D → Kind → ℕ) (old new : D) (printed : List ℕ) (table : Option (List ℕ)) → Type 0
CutShort file output faults old new printed None = TextCut file output faults old new printed None
CutShort file output faults old new printed (Some table) = TableCut file output faults old new table ⊎ TextCut file output faults old new printed (Some table)

-- the counts of the calls that write stay as they were, so none of them was tried in vain
pub record SameWriteFaults (before now : Kind → ℕ) : Type 0 where
  pub output : now PutOutput ≡ before PutOutput
  pub file : now PutFile ≡ before PutFile
  pub clear : now ClearFile ≡ before ClearFile
