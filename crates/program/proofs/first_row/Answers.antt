-- `program::first_row` meets its contract: what `position` says of the rows.
-- Assumes nothing.
use Rattle.std.proofs.Common.{ℕ, ◌∙◌, rules, refl, ◌+◌, ap, arith, ◌≡◌}
use Rattle.std.specs.Prelude.{eqb, get_or}
use borrow.Author.Tests.{tests}
use Rattle.std.proofs.lemmas.Iterator.{YieldsList-from_slice}
use Rattle.std.proofs.lemmas.Iterator.Search.{position_from_yields_List}
use Rattle.std.proofs.lemmas.Iterator.Adapters.{position_from-zero}
use Rattle.codes.specs.Lookup.{place_of, has_id}
use Rattle.codes.specs.First.{first_of}
use Rattle.program.proofs.Found.{first_list}
use Rattle.program.proofs.first_row.Goals as goal

pub returns : goal.returns
unfolding place_of first_of
returns c = let ids = c.args.ids.now in let id = c.args.id in
    position_from_yields_List (λ (n : ℕ). eqb n id) _ _ _ c.position.ensures.ran (YieldsList-from_slice ids cc) (λ x b q k. search (rules, tests))
    ∙ (position_from-zero (λ (n : ℕ). eqb n id) ids ∙ first_list (has_id ids id) id 0 ids (λ j. let z : 0 + j ≡ j = omega arith in ap (has_id ids id) z))
