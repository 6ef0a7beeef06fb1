-- What the code of `write_number` leaves is `written`: the bytes stored one by one are the number's form, laid over the buffer.
-- Assumes nothing.
use Prim.Native.Nat.{ℕ, ◌+◌, ◌<◌, ◌≤◌}
use mathlib.Core.Path.{◌≡◌, ◌∙◌, ap}
use mathlib.Core.List.{List, append_assoc}
use lib.ListN.{length, take, drop}
use lib.Seq.{sets, sets-eq}
use borrow.Author.Tests.{le-leb, lt-leb}
use Rattle.std.specs.Prelude.{Some, None}
use Rattle.seven.specs.Write.{form, laid, written}

pub stored : (out : List ℕ) (at n : ℕ) (bytes : List ℕ) → form n ≡ bytes → at + length bytes ≤ length out →
    (Some (at + length bytes), sets out at bytes) ≡ written out at n
unfolding written laid
stored out at n bytes e h =
    rw (e, le-leb _ _ h)
    (ap (λ (l : List ℕ). (Some (at + length bytes), l))
    (sets-eq bytes out at h ∙ append_assoc (take at out) bytes (drop (at + length bytes) out)))

pub no_room : (out : List ℕ) (at n : ℕ) → length out < at + length (form n) → (None, out) ≡ written out at n
unfolding written
no_room out at n h = rw (lt-leb _ _ h)
