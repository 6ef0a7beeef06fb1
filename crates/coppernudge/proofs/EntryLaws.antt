-- `entry_of` by cases, and the words one after the other into the buffer.
-- Assumes nothing.
use Prim.Native.Nat.{ℕ, zero, suc, ◌+◌, ◌*◌, ◌<◌, ◌≤◌, ◌/◌, ◌%◌}
use native.Mathlib.Omega.{arith}
use mathlib.Core.Path.{◌≡◌, refl, sym, ap, ◌∙◌}
use mathlib.Core.List.{List, [], ◌∷◌}
use lib.ListN.{length, get_or, set, drop, length-set}
use native.Mathlib.Numerals.{add-one}
use lib.Seq.{drop-cons}
use borrow.Author.Tests.{le-ltb, lt-ltb}
use Rattle.std.specs.Int.{to_le_bytes}
use Rattle.std.proofs.Common.{w32}
use Rattle.file.specs.Columns.{over}
use Rattle.seven.specs.Write.{laid}
use Rattle.file.proofs.LaidLaws.{laid_start, laid_step, laid_done}
use Rattle.answers.specs.declared.Fields.{Fields}
use Rattle.std.specs.Prelude.{Ok, Err}
use Rattle.file.specs.declared.Refused.{Refused}
use Rattle.desk.specs.declared.Checked.{Checked}
use Rattle.desk.specs.Desk.{desk_answer}
use Rattle.coppernudge.specs.Entry.{twelve_of, bytes_of, written, entry_of}

pub short : (file buffer : List ℕ) → length buffer < 48 → (30, buffer) ≡ entry_of file buffer
unfolding entry_of
short file buffer h = rw (lt-ltb _ _ h)

module _ (file buffer : List ℕ) (room : 48 ≤ length buffer) where
  pub refused : {r : Refused} → desk_answer file ≡ Err r → (r.number, buffer) ≡ entry_of file buffer
  unfolding entry_of written
  refused e = rw (le-ltb _ _ room, e)

  pub checked : (c : Checked) (words after : List ℕ) → desk_answer file ≡ Ok c → words ≡ twelve_of c.stack c.pool → after ≡ over (bytes_of words) buffer →
      (0, after) ≡ entry_of file buffer
  unfolding entry_of written
  checked c words after e w a = rw (le-ltb _ _ room, e, a, w)

-- the loop: so many words are in their places
pub record Putting (out₀ words out : List ℕ) (i : ℕ) : Type 0 where
  pub within : i ≤ length words
  pub len : length out ≡ length out₀
  pub goes_on : laid out (4 * i) (bytes_of (drop i words)) ≡ over (bytes_of words) out₀

pub begins : (out words : List ℕ) → Putting out words out 0
begins out words = record { within = omega arith; len = refl; goes_on = laid_start out (bytes_of words) }

-- a word's four bytes, stored
abbrev pub stored : List ℕ → ℕ → ℕ → List ℕ
stored out at w = set (set (set (set out at (w % 256)) (at + 1) (w / 256 % 256)) (at + 2) (w / 65536 % 256)) (at + 3) (w / 16777216 % 256)

-- the library's four bytes of a word are those
pub four : (out bytes : List ℕ) (at w : ℕ) → bytes ≡ to_le_bytes w32 w →
    set (set (set (set out at (get_or bytes 0 0)) (at + 1) (get_or bytes 1 0)) (at + 2) (get_or bytes 2 0)) (at + 3) (get_or bytes 3 0) ≡ stored out at w
four out bytes at w e = rw e

stored_length : (out : List ℕ) (at w : ℕ) → length (stored out at w) ≡ length out
stored_length out at w =
    let o1 : List ℕ = set out at (w % 256) in
    let o2 : List ℕ = set o1 (at + 1) (w / 256 % 256) in
    let o3 : List ℕ = set o2 (at + 2) (w / 65536 % 256) in
    length-set o3 (at + 3) (w / 16777216 % 256)
    ∙ (length-set o2 (at + 2) (w / 65536 % 256) ∙ (length-set o1 (at + 1) (w / 256 % 256) ∙ length-set out at (w % 256)))

step_to : (column rest : List ℕ) (i j v : ℕ) → j ≡ i + 1 → i < length column → laid (set column i v) j rest ≡ laid column i (v ∷ rest)
step_to column rest i j v e h = ap (λ (k : ℕ). laid (set column i v) k rest) e ∙ laid_step column rest i v h

stored_laid : (out rest : List ℕ) (at w : ℕ) → at + 4 ≤ length out →
    laid (stored out at w) (at + 4) rest ≡ laid out at (w % 256 ∷ (w / 256 % 256 ∷ (w / 65536 % 256 ∷ (w / 16777216 % 256 ∷ rest))))
stored_laid out rest at w h =
    let o1 : List ℕ = set out at (w % 256) in
    let o2 : List ℕ = set o1 (at + 1) (w / 256 % 256) in
    let o3 : List ℕ = set o2 (at + 2) (w / 65536 % 256) in
    let l1 : length o1 ≡ length out = length-set out at (w % 256) in
    let l2 : length o2 ≡ length o1 = length-set o1 (at + 1) (w / 256 % 256) in
    let l3 : length o3 ≡ length o2 = length-set o2 (at + 2) (w / 65536 % 256) in
    step_to o3 rest (at + 3) (at + 4) (w / 16777216 % 256) (omega arith) (omega arith)
    ∙ (step_to o2 (w / 16777216 % 256 ∷ rest) (at + 2) (at + 3) (w / 65536 % 256) (omega arith) (omega arith)
    ∙ (step_to o1 (w / 65536 % 256 ∷ (w / 16777216 % 256 ∷ rest)) (at + 1) (at + 2) (w / 256 % 256) (omega arith) (omega arith)
    ∙ laid_step out (w / 256 % 256 ∷ (w / 65536 % 256 ∷ (w / 16777216 % 256 ∷ rest))) at (w % 256) (omega arith)))

bytes_next : (words : List ℕ) (i : ℕ) → i < length words →
    bytes_of (drop i words) ≡ get_or words i 0 % 256 ∷ (get_or words i 0 / 256 % 256 ∷ (get_or words i 0 / 65536 % 256 ∷ (get_or words i 0 / 16777216 % 256 ∷ bytes_of (drop (i + 1) words))))
unfolding bytes_of
bytes_next words i h = rw (add-one i) (ap bytes_of (drop-cons words i 0 h))

pub turns : {out₀ words out : List ℕ} {i : ℕ} → 4 * length words ≤ length out₀ → i < length words → Putting out₀ words out i →
    Putting out₀ words (stored out (4 * i) (get_or words i 0)) (i + 1)
turns {out₀} {words} {out} {i} room h v =
    let w = get_or words i 0 in
    let rest : List ℕ = bytes_of (drop (i + 1) words) in
    let next : 4 * (i + 1) ≡ 4 * i + 4 = omega arith in
    record {
      within = omega arith;
      len = stored_length out (4 * i) w ∙ v.len;
      goes_on =
          ap (λ (n : ℕ). laid (stored out (4 * i) w) n rest) next
          ∙ (stored_laid out rest (4 * i) w (omega (arith, v.len)) ∙ (ap (laid out (4 * i)) (sym (bytes_next words i (omega arith))) ∙ v.goes_on));
    }

none_left : (words : List ℕ) (i : ℕ) → length words ≤ i → bytes_of (drop i words) ≡ []
unfolding bytes_of
none_left [] i h = ap bytes_of (nothing i)
  where
    nothing : (i : ℕ) → drop {A = ℕ} i [] ≡ []
    nothing zero = refl
    nothing (suc i) = refl
none_left (w ∷ words) zero h = absurd (omega arith)
none_left (w ∷ words) (suc i) h = none_left words i (omega arith)

pub done : {out₀ words out : List ℕ} {i : ℕ} → length words ≤ i → Putting out₀ words out i → out ≡ over (bytes_of words) out₀
done {out₀} {words} {out} {i} h v = laid_done out (over (bytes_of words) out₀) (4 * i) (bytes_of (drop i words)) (none_left words i h) v.goes_on

pub twelve_length : (s p : Fields) → length (twelve_of s p) ≡ 12
unfolding twelve_of
twelve_length s p = refl
