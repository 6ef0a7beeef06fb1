-- `stack::walk::turn_at` meets its contract: what the look names is within the columns, by the marks that fit.
-- Assumes nothing.
use mathlib.Core.Path.{◌∙◌, sym}
use native.Mathlib.Omega.{arith}
use Rattle.stack.proofs.Putting.{look_fits}
use Rattle.stack.proofs.walk.turn_at.Goals as goal

pub follow_on-requires : goal.follow_on-requires
follow_on-requires c = look_fits _ c.args.marks.now c.args.body.now c.args.maximum _ _ _ _ c.requires.fits.0 c.requires.long (omega (arith, c.ranges.maximum.fits)) (sym c.in_ok-onward.was ∙ c.look.ensures)
