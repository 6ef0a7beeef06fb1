-- `coppernudge::put_words` meets its contract: a turn lays one word over the next four bytes. Assumes nothing.
use native.Mathlib.Omega.{arith}
use lib.ListN.{length-set, get_or}
use Prim.Native.Nat.{◌*◌}
use Rattle.coppernudge.proofs.EntryLaws.{begins, turns, done, four}
use Rattle.coppernudge.proofs.put_words.Goals as goal

pub loop-i-init : goal.loop-i-init
loop-i-init c = begins c.args.out.now c.args.words.now

pub bounds-out-at : goal.bounds-out-at
bounds-out-at c = omega (arith, c.loop-i-test.true, c.loop-i.invariant.len)

pub overflow_add-out : goal.overflow_add-out
overflow_add-out c = omega (arith, c.loop-i-test.true, c.loop-i.invariant.len)

pub bounds-out-at-in-loop-i : goal.bounds-out-at-in-loop-i
bounds-out-at-in-loop-i c = simp length-set (omega (arith, c.loop-i-test.true, c.loop-i.invariant.len))

pub overflow_add-out-in-loop-i : goal.overflow_add-out-in-loop-i
overflow_add-out-in-loop-i c = omega (arith, c.loop-i-test.true, c.loop-i.invariant.len)

pub bounds-out-at-in-loop-i-2 : goal.bounds-out-at-in-loop-i-2
bounds-out-at-in-loop-i-2 c = simp length-set (omega (arith, c.loop-i-test.true, c.loop-i.invariant.len))

pub overflow_add-out-in-loop-i-2 : goal.overflow_add-out-in-loop-i-2
overflow_add-out-in-loop-i-2 c = omega (arith, c.loop-i-test.true, c.loop-i.invariant.len)

pub bounds-out-at-in-loop-i-3 : goal.bounds-out-at-in-loop-i-3
bounds-out-at-in-loop-i-3 c = simp length-set (omega (arith, c.loop-i-test.true, c.loop-i.invariant.len))

pub loop-i-preserved : goal.loop-i-preserved
loop-i-preserved c = let l = c.loop-i in
    rw (four l.out c.to_le_bytes.result (4 * l.i) (get_or c.args.words.now l.i 0) c.to_le_bytes.ensures) (turns c.requires c.loop-i-test.true l.invariant)

pub returns : goal.returns
returns c = done c.loop-i-test.false c.loop-i.invariant
