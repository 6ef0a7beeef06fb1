-- `flow::word_at` meets its contract: past the end both bytes are 0.
-- Assumes nothing.
use Prim.Native.Nat.{◌+◌}
use mathlib.Core.Path.{◌≡◌}
use native.Mathlib.Omega.{arith}
use lib.ListN.{get_or, get_or-eq_default}
use Rattle.flow.specs.Decode.{word_at}
use Rattle.flow.proofs.word_at.Goals as goal

pub returns-then-operands-i : goal.returns-then-operands-i
unfolding word_at
returns-then-operands-i c = let s = c.args.operands.now in
    let i = c.args.i in
    let a : get_or s i 0 ≡ 0 = get_or-eq_default s 0 c.if-operands-i.true in
    let b : get_or s (i + 1) 0 ≡ 0 = get_or-eq_default s 0 (omega (arith, c.if-operands-i.true)) in
    omega (arith, a, b)

pub returns : goal.returns
unfolding word_at
returns c = omega (arith, c.at.ensures, c.from.ensures, c.from-2.ensures)
