-- `codes::find_hinted` meets its contract: the hinted row where it has the id, else what `find` gives.
-- Assumes nothing.
use Prim.Native.Nat.{ℕ}
use native.Mathlib.Omega.{arith}
use mathlib.Core.Path.{◌∙◌, ap, sym}
use lib.ListN.{get_or}
use Rattle.codes.proofs.LookupLaws.{hinted_here, hinted_other, hinted_past}
use Rattle.codes.proofs.find_hinted.Goals as goal
use Rattle.codes.proofs.find_hinted.Goals.{then-row-ids+else-ids-row, else-row-ids}

pub returns-then-ids-row : goal.returns-then-ids-row
returns-then-ids-row c = let a = c.args in
    let w = c.at-row.ensures ∙ ap (λ (k : ℕ). get_or a.hints.now k 0) c.hint_cell.ensures in
    sym (hinted_here a.ids.now a.id a.hints.now c.at-row.result w c.if-row-ids.true (omega (arith, c.if-ids-row.true)))

pub returns : goal.returns
returns c = let a = c.args in
    let w = c.at-row.ensures ∙ ap (λ (k : ℕ). get_or a.hints.now k 0) c.hint_cell.ensures in
    elim c.if-row-ids.branch [ then-row-ids+else-ids-row d ↦ c.find.ensures ∙ sym (hinted_other a.ids.now a.id a.hints.now c.at-row.result w d.if-row-ids.true d.if-ids-row.false) | else-row-ids d ↦ c.find.ensures ∙ sym (hinted_past a.ids.now a.id a.hints.now c.at-row.result w d.if-row-ids.false) ]
