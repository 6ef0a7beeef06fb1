-- `program::bodies::outside_row` meets its contract: no body that was passed is outside the code.
-- Assumes nothing.
use Prim.Native.Nat.{ℕ, ◌≤◌, ◌<◌}
use mathlib.Core.Path.{◌≡◌}
use mathlib.Core.Bool.{false}
use lib.ListN.{length}
use Rattle.program.specs.Refusals.{outside}
use Rattle.program.proofs.bodies.outside_row.Given as goal

abbrev pub invariant-loop-i : goal.invariant-loop-i
invariant-loop-i l = (l.i ≤ length l.functions.offsets.now) × ((k : ℕ) → k < l.i → outside l.functions.offsets.now l.functions.lengths.now l.code k ≡ false)
