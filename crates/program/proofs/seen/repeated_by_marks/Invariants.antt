-- `program::seen::repeated_by_marks` meets its contract: what is seen is what stands in the rows that were passed, and none of them repeats an id.
-- Assumes nothing.
use Prim.Native.Nat.{ℕ, ◌≤◌, ◌<◌}
use mathlib.Core.Path.{◌≡◌}
use mathlib.Core.List.{List}
use mathlib.Core.Bool.{false}
use lib.ListN.{length}
use Rattle.program.specs.Refusals.{stands_in, repeats}
use Rattle.program.specs.Seen.{seen}
use Rattle.program.proofs.seen.repeated_by_marks.Given as goal

-- what is seen is what stands in the rows before row i, none of which repeats an id
pub record Met (ids marks : List ℕ) (i : ℕ) : Type 0 where
  pub inside : i ≤ length ids
  pub cells : length marks ≡ 8192
  pub exact : (x : ℕ) → seen marks x ≡ stands_in ids x i
  pub single : (k : ℕ) → k < i → repeats ids k ≡ false

abbrev pub invariant-loop-i : goal.invariant-loop-i
invariant-loop-i l = Met l.ids l.marks l.i
