-- `codes::note_rows` meets its contract. The invariant is `Noting`: the rows that are left, noted, give the whole.
-- Assumes nothing.
use Prim.Native.Nat.{ℕ, ◌≤◌}
use mathlib.Core.Path.{◌≡◌}
use mathlib.Core.List.{List}
use lib.ListN.{length}
use Rattle.codes.specs.Lookup.{note_down}
use Rattle.codes.proofs.note_rows.Given as goal

pub record Noting (ids first : List ℕ) (row : ℕ) (hints : List ℕ) : Type 0 where
  pub within : row ≤ length ids
  pub same : length hints ≡ length first
  pub goes_on : note_down ids row hints ≡ note_down ids (length ids) first

abbrev pub invariant-loop-row : goal.invariant-loop-row
invariant-loop-row l = Noting l.ids l.initial.hints l.row l.hints

abbrev pub decreases-loop-row : goal.decreases-loop-row
decreases-loop-row l = l.row
