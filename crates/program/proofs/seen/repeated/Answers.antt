-- `program::seen::repeated` meets its contract: ids that rise repeat nothing.
-- Assumes nothing.
use Rattle.std.specs.Prelude.{Ok, Err, is_ok, true}
use Rattle.std.proofs.lemmas.Bool.{false≢true}
use mathlib.Core.Path.{◌≡◌, ◌∙◌, refl, sym}
use mathlib.Core.List.{[]}
use Rattle.codes.specs.Rows.{Order}
use Rattle.program.specs.Laws.{rising_distinct}
use Rattle.program.proofs.seen.repeated.Goals as goal

in_order : (o : Order) → is_ok o ≡ true → o ≡ Ok tt
in_order (Ok _) e = refl
in_order (Err row) e = absurd (false≢true e)

pub returns-then-is_ok : goal.returns-then-is_ok
returns-then-is_ok c = sym (rising_distinct _ [] (sym c.check_rows.ensures ∙ in_order _ (sym c.is_ok.ensures.value ∙ c.if-is_ok.true)))
