-- `codes::note_for` meets its contract, by the one comparison.
-- Assumes nothing.
use mathlib.Core.Path.{◌≡◌, ◌∙◌}
use borrow.Author.Tests.{le-leb, lt-leb}
use Prim.Native.Nat.{ℕ, ◌+◌, ◌/◌, ◌≤◌, ◌<◌}
use mathlib.Core.List.{List}
use lib.ListN.{length}
use Rattle.codes.specs.Lookup.{noted, noted_for}
use Rattle.codes.proofs.note_for.Goals as goal

noted-for : (bytes : ℕ) (ids hints : List ℕ) → length ids / 4 + 256 ≤ bytes → noted ids hints ≡ noted_for bytes ids hints
unfolding noted_for
noted-for bytes ids hints h = simp (le-leb (length ids / 4 + 256) bytes h)

not_noted : (bytes : ℕ) (ids hints : List ℕ) → bytes < length ids / 4 + 256 → hints ≡ noted_for bytes ids hints
unfolding noted_for
not_noted bytes ids hints h = simp (lt-leb (length ids / 4 + 256) bytes h)

pub returns-then-ids-bytes : goal.returns-then-ids-bytes
returns-then-ids-bytes c = let a = c.args in c.note_rows.ensures ∙ noted-for a.bytes a.ids.now a.hints.now c.if-ids-bytes.true

pub returns-else-ids-bytes : goal.returns-else-ids-bytes
returns-else-ids-bytes c = let a = c.args in not_noted a.bytes a.ids.now a.hints.now c.if-ids-bytes.false
