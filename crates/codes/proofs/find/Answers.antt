-- `codes::find` meets its contract: halving what is left, in the turns that are left, gives the answer of the whole.
-- Assumes nothing.
use Prim.Native.Nat.{zero, suc, ℕ, ◌≤◌, ◌<◌, ◌-◌, ◌+◌, ◌/◌}
use mathlib.Core.Path.{refl, ◌∙◌, sym, ◌≡◌}
use mathlib.Core.Bool.{Bool, true, false, cond}
use mathlib.Core.List.{List}
use native.Mathlib.Omega.{arith}
use borrow.Author.Rules.{rules}
use lib.Dec.{leb}
use lib.ListN.{get_or, length}
use Rattle.codes.specs.Lookup.{row_if, half_of, halve, halved_of}
use Rattle.codes.specs.LookupLaws.{row_here, row_other, row_past, halve_turn, halve_one}
use Rattle.codes.proofs.find.Invariants.{Halves}
use Rattle.codes.proofs.find.Goals as goal

either : (t : Bool) (lo middle : ℕ) → lo ≤ middle → cond t middle lo ≤ middle
either true lo middle h = omega arith
either false lo middle h = h

module _ (ids : List ℕ) (id lo size : ℕ) where
  turn : 1 < size → lo + size ≤ length ids → (turns : ℕ) → size ≤ suc turns → halve turns ids id lo size ≡ halved_of ids id → (r : ℕ)
      → r ≡ half_of ids id lo size → Halves ids id r (size - size / 2)
  turn w top zero t e r z = absurd (omega arith)
  turn w top (suc turns) t e r z =
      let h = either (leb (get_or ids (lo + size / 2) 0) id) lo (lo + size / 2) (omega arith) in
      record { high = omega arith; turns = turns; left = omega arith; rest = rw z (sym (halve_turn ids id turns lo size w) ∙ e) }

  end : size ≤ 1 → Halves ids id lo size → row_if ids id lo ≡ halved_of ids id
  end l h = sym (halve_one ids id h.turns lo size l) ∙ h.rest

pub loop-size-init : goal.loop-size-init
unfolding halved_of
loop-size-init c = record { high = search rules; turns = length c.args.ids.now; left = search rules; rest = refl }

pub loop-size-preserved : goal.loop-size-preserved
loop-size-preserved c = let l = c.loop-size in
    turn _ _ l.lo l.size c.loop-size-test.true l.invariant.high l.invariant.turns l.invariant.left l.invariant.rest c.later-lo.result c.later-lo.ensures

pub returns-then-ids-lo : goal.returns-then-ids-lo
returns-then-ids-lo c = let l = c.loop-size in
    sym (row_here _ _ l.lo c.if-lo-ids.true (omega (arith, c.if-ids-lo.true))) ∙ end _ _ l.lo l.size c.loop-size-test.false l.invariant

pub returns-else-ids-lo : goal.returns-else-ids-lo
returns-else-ids-lo c = let l = c.loop-size in
    sym (row_other _ _ l.lo c.if-lo-ids.true c.if-ids-lo.false) ∙ end _ _ l.lo l.size c.loop-size-test.false l.invariant

pub returns-else-lo-ids : goal.returns-else-lo-ids
returns-else-lo-ids c = let l = c.loop-size in
    sym (row_past _ _ l.lo c.if-lo-ids.false) ∙ end _ _ l.lo l.size c.loop-size-test.false l.invariant
