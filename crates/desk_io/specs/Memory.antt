-- Which calls on a desk in memory are Failed, and what a call does to its counts. All of it is this project's convention.
use Rattle.std.specs.Prelude.{ℕ, ◌+◌, ◌-◌, ◌^◌, ◌==◌, ◌&&◌, ◌||◌, if◌then◌else◌, Bool, not, List}
use Rattle.std.specs.List.{list_any}
use Rattle.desk_io.specs.declared.desk.Kind.{Kind}
use Rattle.desk_io.specs.declared.memory.Fail.{Fail}
use Rattle.desk_io.specs.declared.memory.MemoryDesk.{MemoryDesk}
use Rattle.desk_io.specs.Counts.{place_of, count_of, raised}

-- a list of failures names the n-th call of a kind, counted from 0
abbrev pub is_named : List Fail → Kind → ℕ → Bool
is_named fails kind n = list_any (λ (fail : Fail). (place_of fail.kind == place_of kind) && (fail.nth == n)) fails

-- the next call of a kind fails whatever it asks: it is named, or a counter stands at its last value
abbrev pub is_barred : MemoryDesk → Kind → Bool
is_barred desk kind =
    is_named desk.fail.items kind (count_of desk.calls kind) || (desk.starved == 2 ^ 64 - 1) || (count_of desk.faults kind == 2 ^ 64 - 1)

-- the faults after a call of a kind: raised where it failed
abbrev pub faults_after : MemoryDesk → Kind → Bool → List ℕ
faults_after desk kind failed = if failed then raised desk.faults kind (2 ^ 64 - 1) else desk.faults

-- the growths without memory after a put: one more where it failed though nothing barred it
abbrev pub starved_after : MemoryDesk → Kind → Bool → ℕ
starved_after desk kind failed = if failed && not (is_barred desk kind) then desk.starved + 1 else desk.starved
