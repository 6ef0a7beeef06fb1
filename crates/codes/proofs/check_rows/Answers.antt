-- `codes::check_rows` meets its contract: no row that was passed is faulty, and `low` is the least id that the next row may have.
-- Assumes nothing.
use Prim.Native.Nat.{ℕ, ◌≤◌, ◌<◌, ◌+◌}
use mathlib.Core.Path.{sym}
use mathlib.Core.List.{List}
use native.Mathlib.Numerals.{add-one}
use native.Mathlib.Omega.{arith}
use borrow.Author.Count.{below_more}
use lib.ListN.{get_or, length}
use Rattle.codes.specs.Laws.{faulty_id, faulty_flag, sound_row, none_rises}
use Rattle.codes.proofs.Laws.{fault_if}
use Rattle.codes.proofs.check_rows.Invariants.{Passed}
use Rattle.codes.proofs.check_rows.Goals as goal

module _ (ids flags : List ℕ) (low i : ℕ) (p : Passed ids flags low i) (h : i < length ids) where
  next : low ≤ get_or ids i 0 → get_or flags i 0 ≤ 1 → Passed ids flags (get_or ids i 0 + 1) (i + 1)
  next a b =
      record {
        inside = omega arith;
        lowest = simp add-one;
        sound = below_more _ _ p.sound (sound_row ids flags i (omega (arith, p.lowest)) b);
      }

pub loop-i-init : goal.loop-i-init
loop-i-init c = let f = c.sound_rows-first.ensures in record { inside = f.rows; lowest = c.least-low.ensures; sound = f.sound }

pub returns-then-id-low : goal.returns-then-id-low
returns-then-id-low c = let l = c.loop-i in
    let a = c.args in
    sym
    (fault_if a.ids.now a.flags.now l.i
    (record { inside = c.loop-i-test.true; picked = faulty_id _ _ l.i (omega (arith, l.invariant.lowest)); earlier = l.invariant.sound }))

pub returns-then-flag-gt1 : goal.returns-then-flag-gt1
returns-then-flag-gt1 c = let l = c.loop-i in
    let a = c.args in
    sym
    (fault_if a.ids.now a.flags.now l.i
    (record { inside = c.loop-i-test.true; picked = faulty_flag _ _ l.i (omega (arith, c.at-flag.ensures)); earlier = l.invariant.sound }))

pub loop-i-preserved : goal.loop-i-preserved
loop-i-preserved c = let l = c.loop-i in
    next _ _ l.low l.i l.invariant c.loop-i-test.true c.if-id-low.false (omega (arith, c.at-flag.ensures))

pub returns : goal.returns
returns c = let l = c.loop-i in
    sym (none_rises _ _ (record { passed = λ k h. l.invariant.sound k (omega arith) }))
