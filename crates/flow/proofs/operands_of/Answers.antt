-- `flow::operands_of` meets its contract: past the body, and without a size, there are none; else they are the part that `cells::part` gives.
-- Assumes nothing.
use Prim.Native.Nat.{ℕ, ◌+◌, ◌-◌, ◌≤◌}
use mathlib.Core.Path.{◌≡◌, ◌∙◌, sym}
use mathlib.Core.List.{List, []}
use native.Mathlib.Omega.{arith}
use lib.ListN.{length, drop_of_length-le}
use lib.Seq.{take-nil}
use Rattle.flow.specs.Decode.{operands_at}
use Rattle.flow.proofs.operands_of.Goals as goal

past : (s : List ℕ) (at size : ℕ) → length s ≤ at → operands_at s at size ≡ []
unfolding operands_at
past s at size h = rw (drop_of_length-le s {i = at + 1} (omega arith), take-nil (size - 1))

sizeless : (s : List ℕ) (at size : ℕ) → size ≡ 0 → operands_at s at size ≡ []
unfolding operands_at
sizeless s at size e = rw e

pub returns-then-body-at : goal.returns-then-body-at
returns-then-body-at c = c.part.ensures ∙ sym (past c.args.body.now c.args.at c.args.size c.if-body-at.true)

pub returns-then-size-eq0 : goal.returns-then-size-eq0
returns-then-size-eq0 c = c.part-then-size-eq0.ensures ∙ sym (sizeless c.args.body.now c.args.at c.args.size c.if-size-eq0.true)

pub returns : goal.returns
unfolding operands_at
returns c = rw c.from.ensures at c.part-2.ensures
