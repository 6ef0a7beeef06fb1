-- `coppernudge::coppernudge_check` meets its contract: one of the three cases of `entry_of` (EntryLaws.antt). Assumes nothing.
use native.Mathlib.Omega.{arith}
use lib.ListN.{length}
use mathlib.Core.Path.{sym, ap, ◌∙◌}
use Rattle.coppernudge.proofs.EntryLaws.{checked, twelve_length}
use Rattle.coppernudge.proofs.coppernudge_check.Goals as goal

pub slice_bounds-put_words-end : goal.slice_bounds-put_words-end
slice_bounds-put_words-end c = sym (ap length c.twelve.ensures ∙ twelve_length _ _)

pub returns-in-Ok : goal.returns-in-Ok
returns-in-Ok c = checked c.args.file.now c.args.answer.now (omega (arith, c)) _ _ _ (sym c.check_file.ensures ∙ c.in-Ok.is) c.twelve.ensures c.put_words.ensures
