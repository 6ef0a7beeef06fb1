-- What the refusals mean: each part decides exactly; that of the bodies: proofs/Laws.antt.
-- Assumes nothing.
use Rattle.std.specs.Prelude.{ℕ, zero, suc, ◌≤◌, ◌<◌, ◌≡◌, Bool, true, false, cond, ◌&&◌, List, [], ◌∷◌, ltb, eqb, length, Ok, Some, None}
use Rattle.std.proofs.Common.{suc-le-suc, zero-le, eq-or-lt_of_le, not-suc-le-zero, le_of_suc-le-suc, ◌∙◌, ap, sym}
use native.Mathlib.Omega.{arith}
use Rattle.std.proofs.Math.Path.{refl}
use Rattle.std.proofs.Math.Logic.{⊎_elim}
use Rattle.std.proofs.Math.Bool.{true≢false}
use Rattle.std.proofs.Math.ListN.{get_or}
use borrow.Author.Tests.{ltb-true, ltb-false, eqb-true, eq-eqb, ne_eqb}
use Rattle.codes.specs.First.{row_means, nowhere_means, nowhere_if}
use Rattle.codes.specs.Rows.{rows_of}
use Rattle.codes.specs.Laws.{or_true, or_false, or_right, rising_order}
use Rattle.codes.specs.Lookup.{has_id, place_of}
use Rattle.codes.specs.LookupLaws.{place_row}
use Rattle.program.specs.Refusals.{differs, table_refused, stands_in, repeats, repeated_of}
use Rattle.program.specs.Seat.{seat_of}

-- the columns of a table have one length exactly where none differs
pub differs_none : (rows : ℕ) (others : List ℕ) → ((k : ℕ) → k < length others → get_or others k 0 ≡ rows) → differs rows others ≡ false
differs_none rows [] all = refl
differs_none rows (n ∷ others) all =
    rw (eq-eqb n rows (all 0 (suc-le-suc zero-le))) (differs_none rows others (λ k h. all (suc k) (suc-le-suc h)))

pub differs_one : (rows : ℕ) (others : List ℕ) (k : ℕ) → k < length others → (get_or others k 0 ≡ rows → ⊥) → differs rows others ≡ true
differs_one rows [] k h n = absurd (not-suc-le-zero h)
differs_one rows (x ∷ others) zero h n = rw (ne_eqb x rows n)
differs_one rows (x ∷ others) (suc k) h n = or_else (eqb x rows) (differs_one rows others k (le_of_suc-le-suc h) n)
  where
    or_else : (b : Bool) → differs rows others ≡ true → cond b (differs rows others) true ≡ true
    or_else true e = e
    or_else false e = refl

differs_step : (rows n : ℕ) (others : List ℕ) → differs rows (n ∷ others) ≡ false → (n ≡ rows) × (differs rows others ≡ false)
differs_step rows n others e = step (eqb n rows) refl e
  where
    step : (b : Bool) → eqb n rows ≡ b → cond b (differs rows others) true ≡ false → (n ≡ rows) × (differs rows others ≡ false)
    step true t w = (eqb-true n rows t, w)
    step false t w = absurd (true≢false w)

pub differs_means : (rows : ℕ) (others : List ℕ) → differs rows others ≡ false → (k : ℕ) → k < length others → get_or others k 0 ≡ rows
differs_means rows [] e k h = absurd (not-suc-le-zero h)
differs_means rows (n ∷ others) e zero h = (differs_step rows n others e).0
differs_means rows (n ∷ others) e (suc k) h = differs_means rows others (differs_step rows n others e).1 k (le_of_suc-le-suc h)

-- a table that is not refused: its rows are within the limit, and its columns have one length
pub table_means : (limit rows : ℕ) (others : List ℕ) → table_refused limit rows others ≡ false
    → (rows ≤ limit) × ((k : ℕ) → k < length others → get_or others k 0 ≡ rows)
unfolding table_refused
table_means limit rows others e =
    let p = or_false (ltb limit rows) (differs rows others) e in
    (ltb-false limit rows p.0, differs_means rows others p.1)

-- an id stands in the first rows exactly where one of them has it
pub record Stands (ids : List ℕ) (id rows : ℕ) : Type 0 where
  pub row : ℕ
  pub earlier : row < rows
  pub has : get_or ids row 0 ≡ id

module _ (ids : List ℕ) (id : ℕ) where
  pub stands_if : (rows j : ℕ) → j < rows → get_or ids j 0 ≡ id → stands_in ids id rows ≡ true
  stands_if zero j h e = absurd (not-suc-le-zero h)
  stands_if (suc rows) j h e =
      ⊎_elim
      (λ w. rw (eq-eqb (get_or ids rows 0) id (ap (λ (k : ℕ). get_or ids k 0) (sym w) ∙ e)))
      (λ w. or_right (has_id ids id rows) (stands_in ids id rows) (stands_if rows j w e))
      (eq-or-lt_of_le (le_of_suc-le-suc h))

  pub stands_means : (rows : ℕ) → stands_in ids id rows ≡ true → Stands ids id rows
  stands_means zero e = absurd (true≢false (sym e))
  stands_means (suc rows) e =
      ⊎_elim
      (λ w. record { row = rows; earlier = omega arith; has = eqb-true (get_or ids rows 0) id w })
      (λ w. let s = stands_means rows w in record { row = s.row; earlier = omega arith; has = s.has })
      (or_true (has_id ids id rows) (stands_in ids id rows) e)

module _ (ids : List ℕ) where
  -- no id repeats exactly where two rows never have one id
  pub distinct : repeated_of ids ≡ None → (p q : ℕ) → p < q → q < length ids → get_or ids p 0 ≡ get_or ids q 0 → ⊥
  unfolding repeated_of repeats
  distinct e p q l h w =
      true≢false (sym (stands_if ids (get_or ids q 0) q p l w) ∙ (nowhere_means (repeats ids) (length ids) e).passed q h)

  not_repeated : (q : ℕ) → ((p : ℕ) → p < q → get_or ids p 0 ≡ get_or ids q 0 → ⊥) → (b : Bool) → stands_in ids (get_or ids q 0) q ≡ b → b ≡ false
  not_repeated q n true e = let s = stands_means ids (get_or ids q 0) q e in absurd (n s.row s.earlier s.has)
  not_repeated q n false e = refl

  pub distinct_row : (q : ℕ) → ((p : ℕ) → p < q → get_or ids p 0 ≡ get_or ids q 0 → ⊥) → repeats ids q ≡ false
  unfolding repeats
  distinct_row q n = not_repeated q n (stands_in ids (get_or ids q 0) q) refl

  pub distinct_if : ((p q : ℕ) → p < q → q < length ids → get_or ids p 0 ≡ get_or ids q 0 → ⊥) → repeated_of ids ≡ None
  unfolding repeated_of
  distinct_if n = nowhere_if _ _ (record { passed = λ q h. distinct_row q (λ p l. n p q l h) })

  -- ids that rise repeat nothing
  pub rising_distinct : (flags : List ℕ) → rows_of ids flags ≡ Ok tt → repeated_of ids ≡ None
  rising_distinct flags e = distinct_if (λ p q l h w. omega (arith, rising_order ids flags e p q l h))

  -- the later of the first pair: its id stands in an earlier row, and up to it no id repeats
  pub repeated_means : (k : ℕ) → repeated_of ids ≡ Some k → (k < length ids) × Stands ids (get_or ids k 0) k
  unfolding repeated_of repeats
  repeated_means k e = let f = row_means (repeats ids) (length ids) k e in (f.inside, stands_means ids (get_or ids k 0) k f.picked)

  pub repeated_first : (k : ℕ) → repeated_of ids ≡ Some k → (p q : ℕ) → p < q → q < k → get_or ids p 0 ≡ get_or ids q 0 → ⊥
  unfolding repeated_of repeats
  repeated_first k e p q l h w =
      true≢false (sym (stands_if ids (get_or ids q 0) q p l w) ∙ (row_means (repeats ids) (length ids) k e).earlier q h)

-- where no id repeats, a function's own number is the row that reading row after row finds
seat_by : (ids : List ℕ) (id : ℕ) → repeated_of ids ≡ None → (a b : Bool) → ltb id (length ids) ≡ a → has_id ids id id ≡ b
    → cond (a && b) (Some id) (place_of ids id) ≡ place_of ids id
seat_by ids id e true true h w =
    let l = ltb-true id (length ids) h in
    let z = eqb-true (get_or ids id 0) id w in
    sym (place_row ids id id l z (λ j k y. distinct ids e j id k l (y ∙ sym z)))
seat_by ids id e true false h w = refl
seat_by ids id e false b h w = refl

pub seat_place : (ids : List ℕ) (id : ℕ) → repeated_of ids ≡ None → seat_of ids id ≡ place_of ids id
unfolding seat_of
seat_place ids id e = seat_by ids id e (ltb id (length ids)) (has_id ids id id) refl refl
