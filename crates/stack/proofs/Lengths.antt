-- What the stack call leaves of a lent column is as long as the column was: all zero, or the column itself.
-- Assumes nothing.
use Rattle.std.specs.Prelude.{ℕ, ◌≡◌, refl, List, length, Ok, Err}
use Rattle.cells.specs.Zeros.{length_zeros}
use Rattle.stack.specs.declared.Fault.{Fault}
use Rattle.stack.specs.Stack.{Verdict, scratch_after}

pub length-scratch_after : (v : Verdict) (column : List ℕ) → length (scratch_after v column) ≡ length column
unfolding scratch_after
length-scratch_after (Ok _) column = length_zeros _ (length column) refl
length-scratch_after (Err (Fault.Refused refusal)) column = refl
length-scratch_after (Err (Fault.Violated function v)) column = length_zeros _ (length column) refl
