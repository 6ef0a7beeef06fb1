-- `pool::walk::note` meets its contract: no function, one that is listed, or a new one, for which there is room.
-- Assumes nothing.
use mathlib.Core.Path.{sym, ◌∙◌}
use Prim.Native.Nat.{◌<◌}
use native.Mathlib.Omega.{arith}
use lib.ListN.{take}
use Rattle.pool.proofs.Listing.{listed_any, note_none, note_met, note_room, note_new}
use Rattle.pool.proofs.walk.note.Goals as goal

room : (c : goal.Else-contains) → c.args.met < 128
room c = note_room _ _ _ c.requires.0 c.if-cell-eq0.false c.requires.1 (sym (listed_any c.args.cell (take c.args.met c.args.row.now)) ∙ sym c.contains.ensures.value ∙ c.if-contains.false)

pub returns-then-cell-eq0 : goal.returns-then-cell-eq0
returns-then-cell-eq0 c = note_none _ _ _ c.requires.0 c.if-cell-eq0.true

pub returns-then-contains : goal.returns-then-contains
returns-then-contains c = note_met _ _ _ c.requires.0 _ (c.contains.ensures.value ∙ listed_any c.args.cell (take c.args.met c.args.row.now)) c.if-contains.true

pub bounds-row-met : goal.bounds-row-met
bounds-row-met c = let r = room c in omega (arith, c.requires.0.wide)

pub returns : goal.returns
returns c = note_new _ _ _ c.requires.0 c.if-cell-eq0.false c.requires.1 (sym (listed_any c.args.cell (take c.args.met c.args.row.now)) ∙ sym c.contains.ensures.value ∙ c.if-contains.false)
