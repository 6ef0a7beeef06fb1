-- `codes::later` meets its contract: the quotient is 1 or 0, by the two ids, so the product is the half or nothing.
-- Assumes nothing.
use Prim.Native.Nat.{ℕ, ◌+◌, ◌-◌, ◌*◌, ◌/◌, ◌≤◌, ◌<◌}
use native.Mathlib.Decide.{dec_lt}
use native.Mathlib.Omega.{arith}
use mathlib.Core.Path.{◌≡◌}
use mathlib.Core.Bool.{cond}
use lib.Dec.{leb}
use borrow.Author.Tests.{le-leb, lt-leb}
use Rattle.codes.proofs.later.Goals as goal

module _ (middle id half : ℕ) (m : middle < 65536) (i : id < 65536) where
  abbrev product : ℕ
  product = half * ((id + 65536 - middle) / 65536)

  small_by : Dec (id < middle) → product ≤ half
  small_by (yes w) = let z : (id + 65536 - middle) / 65536 ≡ 0 = omega arith in rw z (omega arith)
  small_by (no w) = let z : (id + 65536 - middle) / 65536 ≡ 1 = omega arith in rw z (omega arith)

  small : product ≤ half
  small = small_by (dec_lt id middle)

  begins-by : (low : ℕ) → Dec (id < middle) → low + product ≡ cond (leb middle id) (low + half) low
  begins-by low (yes w) =
      let z : (id + 65536 - middle) / 65536 ≡ 0 = omega arith in
      rw (z, lt-leb middle id w) (omega arith)
  begins-by low (no w) =
      let z : (id + 65536 - middle) / 65536 ≡ 1 = omega arith in
      rw (z, le-leb middle id (omega arith)) (omega arith)

  begins : (low : ℕ) → low + product ≡ cond (leb middle id) (low + half) low
  begins low = begins-by low (dec_lt id middle)

pub overflow_mul-result : goal.overflow_mul-result
overflow_mul-result c = let a = c.args in
    omega (arith, small a.middle a.id a.half (omega arith) (omega arith))

pub overflow_add-result-2 : goal.overflow_add-result-2
overflow_add-result-2 c = let a = c.args in
    omega (arith, small a.middle a.id a.half (omega arith) (omega arith))

pub returns : goal.returns
returns c = let a = c.args in
    begins a.middle a.id a.half (omega arith) (omega arith) a.low
