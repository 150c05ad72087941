-- A window as sets of vertices, this project's own.
use Rattle.std.specs.Prelude.{slice_index_or}
use Rattle.std.specs.FinSet as set
use Rattle.window_game.specs.Windows.{Window}
use Rattle.window_steps.specs.declared.window_sets.WindowSets.{WindowSets}

-- the window that the sets are: its list has the charged loads of vertex v at place v
abbrev pub window_of : WindowSets → Window
window_of s = record {
  loads = λ v. slice_index_or s.loads.now v set.empty;
  stores = s.stores;
  tracked = s.tracked;
  required = s.required;
}
