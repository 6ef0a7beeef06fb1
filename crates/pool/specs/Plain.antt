-- What the walk asks of a table of words: whatever is plain turns nowhere and is no FB_CALL. The stored table has it.
-- Assumes nothing.
use Rattle.std.specs.Prelude.{ℕ, ◌≡◌, true, false, List, eqb}
use Rattle.std.proofs.Common.{◌∙◌, sym}
use Rattle.tables.specs.Packed.{turns, word_table, plain_in}
use Rattle.tables.specs.Laws.{plain}
use Rattle.tables.specs.Stored.{plain_stored}

abbrev pub PlainGoesOn : List ℕ → Type 0
PlainGoesOn words = (op : ℕ) → plain_in words op ≡ true → (turns op ≡ false) × (eqb op 0xA4 ≡ false)

pub plain_goes_on : PlainGoesOn word_table
plain_goes_on op e = let k = plain op (sym (plain_stored op) ∙ e) in (k.goes_on, k.no_block)
