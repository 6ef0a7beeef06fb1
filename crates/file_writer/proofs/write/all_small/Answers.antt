-- `file_writer::write::all_small` meets its contract: what `all` says, in the words of `all_small`. Assumes nothing.
use Rattle.std.proofs.Common.{ℕ, ◌∙◌, rules, ltb}
use borrow.Author.Tests.{tests}
use Rattle.std.proofs.lemmas.Iterator.{YieldsList-from_slice}
use Rattle.std.proofs.lemmas.Iterator.Search.{all_from_yields_List}
use Rattle.file_writer.proofs.WriteLaws.{small_list}
use Rattle.file_writer.proofs.write.all_small.Goals as goal

pub returns : goal.returns
returns c = all_from_yields_List (λ (n : ℕ). ltb n 65536) _ _ _ c.all.ensures.ran (YieldsList-from_slice c.args.column.now cc) (λ x b q k. search (rules, tests)) ∙ small_list c.args.column.now
