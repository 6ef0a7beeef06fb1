-- What the check of the rows means, of a fault: it is the first faulty row. The other laws of the check are in specs/Laws.antt.
-- Assumes nothing.
use Rattle.std.specs.Prelude.{ℕ, ◌+◌, ◌≤◌, ◌<◌, ◌≡◌, refl, Bool, true, false, leb, List, length, Err, Some, None}
use Rattle.std.proofs.Common.{arith, ap, eq-or-lt_of_le}
use Rattle.std.proofs.Math.Logic.{⊎_elim}
use Rattle.std.proofs.lemmas.Bool.{leb-true, leb-false}
use Rattle.codes.specs.First.{First, row_means, row_if_lem, Place}
use Rattle.codes.specs.Rows.{faulty, order_of, rows_of}

module _ (ids flags : List ℕ) where
  fault_by : (k : ℕ) (p : Place) → order_of p ≡ Err k → p ≡ Some k
  fault_by k (Some j) e = let z : j ≡ k = cc in ap Some z
  fault_by k None e = absurd (let z : ◌≡◌ {A = ℕ} 0 1 = cc in omega arith)

  -- a fault at row k: row k is faulty and no earlier row is
  pub fault_means : (k : ℕ) → rows_of ids flags ≡ Err k → First (faulty ids flags) (length ids) k
  unfolding rows_of
  fault_means k e = row_means _ _ _ (fault_by k _ e)

  pub fault_if : (k : ℕ) → First (faulty ids flags) (length ids) k → rows_of ids flags ≡ Err k
  unfolding rows_of
  fault_if k f = ap order_of (row_if_lem _ _ _ f)

  -- rows that are in order, and one more
  pub sound_more : (first i : ℕ) → ((k : ℕ) → first ≤ k → k < i → faulty ids flags k ≡ false) → faulty ids flags i ≡ false →
      (k : ℕ) → first ≤ k → k < i + 1 → faulty ids flags k ≡ false
  sound_more first i before one k h l =
      ⊎_elim (λ (e : k ≡ i). rw e one) (λ (m : k < i). before k h m) (eq-or-lt_of_le (omega arith))

  -- rows at the front that are in order, and those after them
  pub sound_both : (row end : ℕ) → ((k : ℕ) → k < row → faulty ids flags k ≡ false) → ((k : ℕ) → row ≤ k → k < end → faulty ids flags k ≡ false) →
      (k : ℕ) → k < end → faulty ids flags k ≡ false
  sound_both row end before more k l = by (leb row k) refl
    where
      by : (b : Bool) → leb row k ≡ b → faulty ids flags k ≡ false
      by true e = more k (leb-true row k e) l
      by false e = before k (leb-false row k e)
