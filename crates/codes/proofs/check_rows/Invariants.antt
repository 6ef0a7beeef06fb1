-- `codes::check_rows` meets its contract: no row that was passed is faulty, and `low` is the least id that the next row may have.
-- Assumes nothing.
use Prim.Native.Nat.{ℕ, ◌≤◌, ◌<◌, ◌-◌}
use mathlib.Core.Path.{◌≡◌}
use mathlib.Core.List.{List}
use mathlib.Core.Bool.{false}
use lib.ListN.{length}
use Rattle.codes.specs.Rows.{low_at, faulty}
use Rattle.codes.proofs.check_rows.Given as goal

-- the rows before row i are passed, and `low` is the least id that row i may have
pub record Passed (ids flags : List ℕ) (low i : ℕ) : Type 0 where
  pub inside : i ≤ length ids
  pub lowest : low ≡ low_at ids i
  pub sound : (k : ℕ) → k < i → faulty ids flags k ≡ false

abbrev pub invariant-loop-i : goal.invariant-loop-i
invariant-loop-i l = Passed l.ids l.flags l.low l.i

abbrev pub decreases-loop-i : goal.decreases-loop-i
decreases-loop-i l = length l.ids - l.i
