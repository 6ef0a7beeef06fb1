-- `codes::sound_rows` meets its contract: no row before `row` is faulty. Each turn passes a block.
-- Assumes nothing.
use Rattle.std.proofs.Common.{ℕ, ◌≡◌, ◌<◌, ◌≤◌, ◌-◌, false, List, length}
use Rattle.codes.specs.Rows.{faulty}
use Rattle.codes.proofs.sound_rows.Given as goal

pub record Front (ids flags : List ℕ) (row : ℕ) : Type 0 where
  pub begun : 0 < row
  pub inside : row ≤ length ids
  pub sound : (k : ℕ) → k < row → faulty ids flags k ≡ false

abbrev pub invariant-loop-row : goal.invariant-loop-row
invariant-loop-row l = Front l.ids l.flags l.row

abbrev pub decreases-loop-row : goal.decreases-loop-row
decreases-loop-row l = length l.ids - l.row
