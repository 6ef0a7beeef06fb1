-- `codes::look_up` meets its contract: what the list says at the place that `find_hinted` gives.
-- Assumes nothing.
use mathlib.Core.Path.{◌∙◌, ap}
use Rattle.codes.specs.Lookup.{entry_at, hinted_up}
use Rattle.codes.proofs.look_up.Goals as goal

pub returns : goal.returns
unfolding hinted_up
returns c = c.entry_at.ensures ∙ ap (entry_at c.args.list.now.counts.now c.args.list.now.flags.now) c.find_hinted.ensures
