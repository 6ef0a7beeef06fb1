-- `codes::find` meets its contract: halving what is left, in the turns that are left, gives the answer of the whole.
-- Assumes nothing.
use Prim.Native.Nat.{suc, ℕ, ◌≤◌, ◌+◌}
use mathlib.Core.Path.{◌≡◌}
use mathlib.Core.List.{List}
use lib.ListN.{length}
use Rattle.codes.specs.Lookup.{halve, halved_of}
use Rattle.codes.proofs.find.Given as goal

-- halving the rows from lo on, `size` of them, in the turns that are left, gives the whole's answer
pub record Halves (ids : List ℕ) (id lo size : ℕ) : Type 0 where
  pub high : lo + size ≤ length ids
  pub turns : ℕ
  pub left : size ≤ suc turns
  pub rest : halve turns ids id lo size ≡ halved_of ids id

abbrev pub invariant-loop-size : goal.invariant-loop-size
invariant-loop-size l = Halves l.ids l.id l.lo l.size

abbrev pub decreases-loop-size : goal.decreases-loop-size
decreases-loop-size l = l.size
