-- What the check of the rows means: it decides exactly, and rising ids are in strict order; what a fault means: proofs/Laws.antt.
-- Assumes nothing.
use Rattle.std.specs.Prelude.{ℕ, zero, suc, ◌≤◌, ◌<◌, ◌≡◌, refl, ◌⊎◌, Bool, true, false, ◌||◌, List, ltb, length, get_or, Ok, Some, None}
use Rattle.std.proofs.Common.{le_of_eq, le_of_lt, eq-or-lt_of_le, not-suc-le-zero, le_of_suc-le-suc, arith, true≢false}
use Rattle.std.proofs.Math.Path.{ap}
use Rattle.std.proofs.Math.Logic.{inl, inr, ⊎_elim}
use borrow.Author.Tests.{ltb-true, ltb-false, lt-ltb, le-ltb}
use Rattle.codes.specs.First.{NoneOf, nowhere_means, nowhere_if, Place}
use Rattle.codes.specs.Rows.{low_at, faulty, order_of, rows_of}

pub or_true : (a b : Bool) → (a || b) ≡ true → (a ≡ true) ⊎ (b ≡ true)
or_true true b e = inl refl
or_true false b e = inr e

pub or_false : (a b : Bool) → (a || b) ≡ false → (a ≡ false) × (b ≡ false)
or_false true b e = absurd (true≢false e)
or_false false b e = (refl, e)

pub or_right : (a b : Bool) → b ≡ true → (a || b) ≡ true
or_right true b e = refl
or_right false b e = e

-- each id is above its predecessor's, and each flag of a row is at most 1
pub record Rising (ids flags : List ℕ) : Type 0 where
  pub above : (k : ℕ) → suc k < length ids → get_or ids k 0 < get_or ids (suc k) 0
  pub flagged : (k : ℕ) → k < length ids → get_or flags k 0 ≤ 1

module _ (ids flags : List ℕ) where
  -- a faulty row, said in plain words
  pub faulty_means : (k : ℕ) → faulty ids flags k ≡ true → (get_or ids k 0 < low_at ids k) ⊎ (1 < get_or flags k 0)
  unfolding faulty
  faulty_means k e =
      ⊎_elim (λ w. inl (ltb-true _ _ w)) (λ w. inr (ltb-true _ _ w)) (or_true (ltb (get_or ids k 0) (low_at ids k)) (ltb 1 (get_or flags k 0)) e)

  pub sound_means : (k : ℕ) → faulty ids flags k ≡ false → (low_at ids k ≤ get_or ids k 0) × (get_or flags k 0 ≤ 1)
  unfolding faulty
  sound_means k e =
      let p = or_false (ltb (get_or ids k 0) (low_at ids k)) (ltb 1 (get_or flags k 0)) e in
      (ltb-false (get_or ids k 0) (low_at ids k) p.0, ltb-false 1 (get_or flags k 0) p.1)

  pub faulty_id : (k : ℕ) → get_or ids k 0 < low_at ids k → faulty ids flags k ≡ true
  unfolding faulty
  faulty_id k h = rw (lt-ltb (get_or ids k 0) (low_at ids k) h)

  pub faulty_flag : (k : ℕ) → 1 < get_or flags k 0 → faulty ids flags k ≡ true
  unfolding faulty
  faulty_flag k h = or_right (ltb (get_or ids k 0) (low_at ids k)) _ (lt-ltb 1 (get_or flags k 0) h)

  pub sound_row : (k : ℕ) → low_at ids k ≤ get_or ids k 0 → get_or flags k 0 ≤ 1 → faulty ids flags k ≡ false
  unfolding faulty
  sound_row k h l = rw (le-ltb (get_or ids k 0) (low_at ids k) h) (le-ltb 1 (get_or flags k 0) l)

  rises_by : (p : Place) → order_of p ≡ Ok tt → p ≡ None
  rises_by (Some k) e = absurd (let z : ◌≡◌ {A = ℕ} 0 1 = cc in omega arith)
  rises_by None e = refl

  -- no fault: no row is faulty
  pub rises_none : rows_of ids flags ≡ Ok tt → NoneOf (faulty ids flags) (length ids)
  unfolding rows_of
  rises_none e = nowhere_means _ _ (rises_by _ e)

  pub none_rises : NoneOf (faulty ids flags) (length ids) → rows_of ids flags ≡ Ok tt
  unfolding rows_of
  none_rises n = ap order_of (nowhere_if _ _ n)

  -- the rows rise exactly where each id is above its predecessor's and each flag is at most 1
  pub rises_means : rows_of ids flags ≡ Ok tt → Rising ids flags
  rises_means e =
      let n = rises_none e in
      record {
        above = λ k h. (sound_means (suc k) (n.passed (suc k) h)).0;
        flagged = λ k h. (sound_means k (n.passed k h)).1;
      }

  low_row : Rising ids flags → (k : ℕ) → k < length ids → low_at ids k ≤ get_or ids k 0
  low_row r zero h = omega arith
  low_row r (suc k) h = r.above k h

  pub rises_if : Rising ids flags → rows_of ids flags ≡ Ok tt
  rises_if r = none_rises (record { passed = λ k h. sound_row k (low_row r k h) (r.flagged k h) })

  ordered : Rising ids flags → (p q : ℕ) → p < q → q < length ids → get_or ids p 0 < get_or ids q 0
  ordered r p zero l h = absurd (not-suc-le-zero l)
  ordered r p (suc q) l h =
      let a = r.above q h in
      ⊎_elim
      (λ w. rw w a)
      (λ w. let b = ordered r p q w (omega arith) in omega arith)
      (eq-or-lt_of_le (le_of_suc-le-suc l))

  -- ids that rise are in strict order
  pub rising_order : rows_of ids flags ≡ Ok tt → (p q : ℕ) → p < q → q < length ids → get_or ids p 0 < get_or ids q 0
  rising_order e p q l h = ordered (rises_means e) p q l h

  -- the same, where the rows may be one
  pub rising_le : rows_of ids flags ≡ Ok tt → (p q : ℕ) → p ≤ q → q < length ids → get_or ids p 0 ≤ get_or ids q 0
  rising_le e p q l h =
      ⊎_elim (λ w. le_of_eq (ap (λ (k : ℕ). get_or ids k 0) w)) (λ w. le_of_lt (rising_order e p q w h)) (eq-or-lt_of_le l)
