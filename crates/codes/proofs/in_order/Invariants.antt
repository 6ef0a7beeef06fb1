-- `codes::in_order` meets its contract: a fault was met exactly if a row that was passed is faulty.
-- Assumes nothing.
use Rattle.std.proofs.Common.{ℕ, ◌≡◌, ◌<◌, ◌≤◌, Bool, true, false, List}
use Rattle.codes.specs.Rows.{faulty}
use Rattle.codes.proofs.in_order.Given as goal

pub record Met (ids flags : List ℕ) (first : ℕ) (fault : Bool) (i : ℕ) : Type 0 where
  pub sound : fault ≡ false → (k : ℕ) → first ≤ k → k < i → faulty ids flags k ≡ false
  pub found : fault ≡ true → (k : ℕ) × (first ≤ k) × (k < i) × (faulty ids flags k ≡ true)

abbrev pub invariant-loop-i : goal.invariant-loop-i
invariant-loop-i l = Met l.ids l.flags l.first l.fault l.i
