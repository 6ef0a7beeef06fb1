-- `codes::lookup` meets its contract: what the list says at the place that `find` gives.
-- Assumes nothing.
use mathlib.Core.Path.{◌∙◌, ap}
use Rattle.codes.specs.Lookup.{entry_at, looked_up}
use Rattle.codes.proofs.lookup.Goals as goal

pub returns : goal.returns
unfolding looked_up
returns c = c.entry_at.ensures ∙ ap (entry_at c.args.list.now.counts.now c.args.list.now.flags.now) c.find.ensures
