-- What refusal 33 means: it decides exactly which bodies are within the code. The laws of the other refusals are in specs/Laws.antt.
-- Assumes nothing.
use Rattle.std.specs.Prelude.{ℕ, ◌+◌, ◌-◌, ◌≤◌, ◌<◌, ◌≡◌, true, false, List, ltb, length, Some, None}
use native.Mathlib.Omega.{arith}
use Rattle.std.proofs.Math.Logic.{⊎_elim}
use Rattle.std.proofs.Math.ListN.{get_or}
use borrow.Author.Tests.{ltb-true, ltb-false, lt-ltb, le-ltb}
use Rattle.codes.specs.First.{row_means, nowhere_means, nowhere_if}
use Rattle.codes.specs.Laws.{or_true, or_false, or_right}
use Rattle.program.specs.Refusals.{outside, outside_of}

module _ (offsets lengths : List ℕ) (code : ℕ) where
  pub inside_row : (k : ℕ) → get_or offsets k 0 ≤ code → get_or lengths k 0 ≤ code - get_or offsets k 0 → outside offsets lengths code k ≡ false
  unfolding outside
  inside_row k h l = rw (le-ltb code (get_or offsets k 0) h) (le-ltb (code - get_or offsets k 0) (get_or lengths k 0) l)

  pub offset_outside : (k : ℕ) → code < get_or offsets k 0 → outside offsets lengths code k ≡ true
  unfolding outside
  offset_outside k h = rw (lt-ltb code (get_or offsets k 0) h)

  pub length_outside : (k : ℕ) → code - get_or offsets k 0 < get_or lengths k 0 → outside offsets lengths code k ≡ true
  unfolding outside
  length_outside k h =
      or_right (ltb code (get_or offsets k 0)) (ltb (code - get_or offsets k 0) (get_or lengths k 0)) (lt-ltb (code - get_or offsets k 0) (get_or lengths k 0) h)

  row_inside : (k : ℕ) → outside offsets lengths code k ≡ false → get_or offsets k 0 + get_or lengths k 0 ≤ code
  unfolding outside
  row_inside k e =
      let p = or_false (ltb code (get_or offsets k 0)) (ltb (code - get_or offsets k 0) (get_or lengths k 0)) e in
      let a = ltb-false code (get_or offsets k 0) p.0 in
      let b = ltb-false (code - get_or offsets k 0) (get_or lengths k 0) p.1 in
      omega arith

  row_outside : (k : ℕ) → outside offsets lengths code k ≡ true → code < get_or offsets k 0 + get_or lengths k 0
  unfolding outside
  row_outside k e =
      ⊎_elim
      (λ w. let a = ltb-true code (get_or offsets k 0) w in omega arith)
      (λ w. let a = ltb-true (code - get_or offsets k 0) (get_or lengths k 0) w in omega arith)
      (or_true (ltb code (get_or offsets k 0)) (ltb (code - get_or offsets k 0) (get_or lengths k 0)) e)

  -- no body is outside exactly where each ends within the code
  pub inside_means : outside_of offsets lengths code ≡ None → (k : ℕ) → k < length offsets → get_or offsets k 0 + get_or lengths k 0 ≤ code
  unfolding outside_of
  inside_means e k h = row_inside k ((nowhere_means (outside offsets lengths code) (length offsets) e).passed k h)

  pub inside_if : ((k : ℕ) → k < length offsets → get_or offsets k 0 + get_or lengths k 0 ≤ code) → outside_of offsets lengths code ≡ None
  unfolding outside_of
  inside_if n = nowhere_if _ _ (record { passed = λ k h. inside_row k (let a = n k h in omega arith) (let a = n k h in omega arith) })

  -- the first body that ends past the code
  pub outside_means : (k : ℕ) → outside_of offsets lengths code ≡ Some k
      → (k < length offsets) × ((code < get_or offsets k 0 + get_or lengths k 0) × ((j : ℕ) → j < k → get_or offsets j 0 + get_or lengths j 0 ≤ code))
  unfolding outside_of
  outside_means k e =
      let f = row_means (outside offsets lengths code) (length offsets) k e in
      (f.inside, (row_outside k f.picked, λ j l. row_inside j (f.earlier j l)))
