-- The same in signed numbers: a place is an integer, and `moved` is a sum. Promises speak of places; this page says what they mean.
-- Assumes nothing.
use Rattle.std.specs.Prelude.{ℕ, suc, ◌+◌, ◌-◌, ◌≤◌, ◌<◌, ◌≡◌, refl, Bool, true, false, cond, ltb, leb, ℤ, pos, negsuc, neg_ℤ, ◌+ℤ◌}
use Rattle.std.proofs.Common.{ap, arith, leb-true, leb-false, lt-ltb, le-ltb}
use Rattle.std.proofs.Math.IntN.{sub_ℕ}
use Rattle.flow.specs.Decode.{moved}
use Rattle.flow.specs.declared.Spot.{Spot}
use Rattle.flow.specs.declared.Spot.TheVariants.{At, Before}

-- the integer that a place is
abbrev pub value : Spot → ℤ
value (At n) = pos n
value (Before n) = neg_ℤ (pos n)

-- a word of 16 bits, read as signed: two's complement
abbrev pub signed16 : ℕ → ℤ
signed16 word = cond (ltb word 32768) (pos word) (sub_ℕ word 65536)

sum_by : (next word : ℕ) → word < 65536 → (b1 b2 : Bool) → ltb word 32768 ≡ b1 → leb (65536 - word) next ≡ b2
    → value (cond b1 (At (next + word)) (cond b2 (At (next - (65536 - word))) (Before (65536 - word - next)))) ≡ pos next +ℤ cond b1 (pos word) (negsuc (65536 - suc word))
sum_by next word h true b2 e1 e2 = refl
sum_by next word h false true e1 e2 =
    let l = leb-true (65536 - word) next e2 in
    rw (le-ltb next (suc (65536 - suc word)) (omega arith)) (ap pos (omega arith))
sum_by next word h false false e1 e2 =
    let l = leb-false (65536 - word) next e2 in
    let p : 65536 - word - next ≡ suc (suc (65536 - suc word) - suc next) = omega arith in
    rw (lt-ltb next (suc (65536 - suc word)) (omega arith)) (ap (λ (n : ℕ). neg_ℤ (pos n)) p)

-- a branch's target is the next instruction's offset plus the signed word
pub moved_value : (next word : ℕ) → next ≤ 65536 → word < 65536 → value (moved next word) ≡ pos next +ℤ signed16 word
unfolding moved
moved_value next word l h = rw (le-ltb 65536 next l, lt-ltb word 65536 h) (sum_by next word h (ltb word 32768) (leb (65536 - word) next) refl refl)
