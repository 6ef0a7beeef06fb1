-- One bit of a cell, and of a column of cells: adding the weight of a bit that is clear sets that bit and no other.
-- Assumes nothing.
use Prim.Native.Nat.{ℕ, zero, suc, ◌+◌, ◌/◌, ◌%◌, ◌^◌, ◌<◌}
use native.Mathlib.Nat.{pow-suc, pow-succ', div-div-eq-div-mul, zero-div, not-suc-le-zero, le_of_suc-le-suc, one-le-pow}
use native.Mathlib.Omega.{arith}
use mathlib.Core.Path.{◌≡◌, refl, ◌∙◌, ap, sym}
use mathlib.Core.Bool.{Bool, true, false, cond}
use mathlib.Core.List.{List}
use mathlib.Core.Logic.{◌⊎◌, inl, inr}
use lib.Dec.{eqb}
use lib.ListN.{length, get_or, set, replicate, length-set}
use lib.Seq.{get_or-set_same, get_or-set_other}
use borrow.Author.Tests.{eq-eqb, ne_eqb, eqb-true, eqb-false}
use Rattle.program.specs.Seen.{bit, with_bit, seen, met}

bit_down : (v k : ℕ) → bit v (suc k) ≡ bit (v / 2) k
bit_down v k = ap (λ (n : ℕ). n % 2) (ap (λ (n : ℕ). v / n) (pow-succ' 2 k) ∙ sym (div-div-eq-div-mul v 2 (2 ^ k)))

half : (v a : ℕ) → (v + 2 ^ suc a) / 2 ≡ v / 2 + 2 ^ a
half v a = omega (arith, pow-suc 2 a)

pub flip_same : (a v : ℕ) → bit v a ≡ 0 → bit (v + 2 ^ a) a ≡ 1
flip_same zero v e = omega arith
flip_same (suc a) v e =
    bit_down (v + 2 ^ suc a) a ∙ ap (λ (n : ℕ). bit n a) (half v a) ∙ flip_same a (v / 2) (sym (bit_down v a) ∙ e)

pub flip_other : (a b v : ℕ) → bit v a ≡ 0 → (a ≡ b → ⊥) → bit (v + 2 ^ a) b ≡ bit v b
flip_other zero zero v e n = absurd (n refl)
flip_other zero (suc b) v e n =
    let h : (v + 2 ^ zero) / 2 ≡ v / 2 = omega arith in
    bit_down (v + 2 ^ zero) b ∙ ap (λ (n : ℕ). bit n b) h ∙ sym (bit_down v b)
flip_other (suc a) zero v e n = omega (arith, pow-suc 2 a)
flip_other (suc a) (suc b) v e n =
    bit_down (v + 2 ^ suc a) b
    ∙ ap (λ (n : ℕ). bit n b) (half v a)
    ∙ flip_other a b (v / 2) (sym (bit_down v a) ∙ e) (λ w. n (ap suc w))
    ∙ sym (bit_down v b)

pub flip_fits : (n a v : ℕ) → a < n → v < 2 ^ n → bit v a ≡ 0 → v + 2 ^ a < 2 ^ n
flip_fits zero a v l h e = absurd (not-suc-le-zero l)
flip_fits (suc n) zero v l h e = omega (arith, pow-suc 2 n)
flip_fits (suc n) (suc a) v l h e =
    let p = pow-suc 2 n in
    let q = pow-suc 2 a in
    let r = flip_fits n a (v / 2) (le_of_suc-le-suc l) (omega arith) (sym (bit_down v a) ∙ e) in
    omega arith

equal_or_not : (m n : ℕ) → (m ≡ n) ⊎ ((m ≡ n) → ⊥)
equal_or_not m n = by_test (eqb m n) refl
  where
    by_test : (b : Bool) → eqb m n ≡ b → (m ≡ n) ⊎ ((m ≡ n) → ⊥)
    by_test true e = inl (eqb-true m n e)
    by_test false e = inr (eqb-false m n e)

-- a cell with a bit set: that bit, every other bit, and whether it was set before
module _ (v a : ℕ) where
  set_clear : eqb (bit v a) 1 ≡ false → bit v a ≡ 0
  set_clear e = let n = eqb-false (bit v a) 1 e in omega arith

  set_bit : bit (with_bit v a) a ≡ 1
  unfolding with_bit
  set_bit = by_test (eqb (bit v a) 1) refl
    where
      by_test : (b : Bool) → eqb (bit v a) 1 ≡ b → bit (cond b v (v + 2 ^ a)) a ≡ 1
      by_test true e = eqb-true (bit v a) 1 e
      by_test false e = flip_same a v (set_clear e)

  other_bit : (k : ℕ) → (a ≡ k → ⊥) → bit (with_bit v a) k ≡ bit v k
  unfolding with_bit
  other_bit k n = by_test (eqb (bit v a) 1) refl
    where
      by_test : (b : Bool) → eqb (bit v a) 1 ≡ b → bit (cond b v (v + 2 ^ a)) k ≡ bit v k
      by_test true e = refl
      by_test false e = flip_other a k v (set_clear e) n

  -- the cell stays as it was exactly where the bit was set
  pub same_cell : eqb (with_bit v a) v ≡ eqb (bit v a) 1
  unfolding with_bit
  same_cell = by_test (eqb (bit v a) 1) refl
    where
      by_test : (b : Bool) → eqb (bit v a) 1 ≡ b → eqb (cond b v (v + 2 ^ a)) v ≡ b
      by_test true e = eq-eqb v v refl
      by_test false e = let h = one-le-pow a 2 (omega arith) in ne_eqb (v + 2 ^ a) v (λ w. omega arith)

module _ (marks : List ℕ) (id : ℕ) where
  pub length_met : length (met marks id) ≡ length marks
  unfolding met
  length_met = length-set marks (id / 8) (with_bit (get_or marks (id / 8) 0) (id % 8))

  -- an id that is met is seen
  pub met_same : id / 8 < length marks → seen (met marks id) id ≡ true
  unfolding seen met
  met_same h =
      rw (get_or-set_same marks (id / 8) (with_bit (get_or marks (id / 8) 0) (id % 8)) 0 h) (eq-eqb _ 1 (set_bit (get_or marks (id / 8) 0) (id % 8)))

  -- every other id is seen if it was
  pub met_other : (x : ℕ) → (id ≡ x → ⊥) → id / 8 < length marks → seen (met marks id) x ≡ seen marks x
  unfolding seen met
  met_other x n h = ap (λ (v : ℕ). eqb v 1) (by_cell (equal_or_not (x / 8) (id / 8)))
    where
      by_cell : (x / 8 ≡ id / 8) ⊎ ((x / 8 ≡ id / 8) → ⊥)
          → bit (get_or (set marks (id / 8) (with_bit (get_or marks (id / 8) 0) (id % 8))) (x / 8) 0) (x % 8) ≡ bit (get_or marks (x / 8) 0) (x % 8)
      by_cell (inl w) =
          rw (w, get_or-set_same marks (id / 8) (with_bit (get_or marks (id / 8) 0) (id % 8)) 0 h)
          (other_bit (get_or marks (id / 8) 0) (id % 8) (x % 8) (λ z. n (omega arith)))
      by_cell (inr w) = ap (λ (v : ℕ). bit v (x % 8)) (get_or-set_other marks (id / 8) (x / 8) (with_bit (get_or marks (id / 8) 0) (id % 8)) 0 w)

zero_cell : (n i : ℕ) → get_or (replicate {A = ℕ} n 0) i 0 ≡ 0
zero_cell zero i = refl
zero_cell (suc n) zero = refl
zero_cell (suc n) (suc i) = zero_cell n i

-- in a cleared column nothing is seen
pub seen_none : (n id : ℕ) → seen (replicate {A = ℕ} n 0) id ≡ false
unfolding seen
seen_none n id = rw (zero_cell n (id / 8), zero-div (2 ^ (id % 8)))
