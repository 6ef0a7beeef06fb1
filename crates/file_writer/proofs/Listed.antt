-- The numbers of a table one by one, counted by index and row, are its rows: the law that a writer needs which goes on from number to number.
-- Assumes nothing.
use Prim.Native.Nat.{ℕ, zero, suc, ◌+◌, ◌*◌, ◌<◌, ◌≤◌}
use Rattle.std.specs.Prelude.{◌≡◌, cond, ltb, eqb, map}
use Rattle.std.proofs.Math.Path.{refl, ap}
use Rattle.std.proofs.Common.{◌∙◌, sym}
use mathlib.Core.List.{List, [], ◌∷◌, ◌++◌}
use native.Mathlib.Omega.{arith}
use Rattle.std.proofs.Math.Numerals.{add-one}
use Rattle.std.proofs.Math.ListN.{get_or}
use borrow.Author.Tests.{lt-ltb, le-ltb, ltb-true}
use Rattle.seven.proofs.Forms.{by_test}
use Rattle.file.specs.Written.{row_at, rows_from}
use Rattle.file_writer.specs.declared.Tables.{Tables}
use Rattle.file_writer.specs.declared.write.Column.{Column}
use Rattle.file_writer.specs.declared.write.Column.TheVariants.{Narrow, Wide}
use Rattle.file_writer.specs.Writing.{column_of, fit, all_small}
use Rattle.file_writer.specs.NumbersLaws.{smalls, fit_small}
use Rattle.file_writer.proofs.WriteLaws.{fit_at}

-- the number at an index of a row
unfoldable pub cell_of : List ℕ → List ℕ → List ℕ → List ℕ → List ℕ → ℕ → ℕ → ℕ
cell_of c0 c1 c2 c3 c4 index row =
    cond (eqb index 0) (get_or c0 row 0)
    (cond (eqb index 1) (get_or c1 row 0)
    (cond (eqb index 2) (get_or c2 row 0) (cond (eqb index 3) (fit (get_or c3 row 0)) (fit (get_or c4 row 0)))))

-- where the number after one stands
unfoldable pub next_index : ℕ → ℕ → ℕ
next_index width index = cond (ltb (index + 1) width) (index + 1) 0

unfoldable pub next_row : ℕ → ℕ → ℕ → ℕ
next_row width index row = cond (ltb (index + 1) width) row (row + 1)

-- the numbers of a table one by one, from an index of a row on
unfoldable pub listed : List ℕ → List ℕ → List ℕ → List ℕ → List ℕ → ℕ → ℕ → ℕ → ℕ → List ℕ
listed c0 c1 c2 c3 c4 width zero index row = []
listed c0 c1 c2 c3 c4 width (suc left) index row =
    cell_of c0 c1 c2 c3 c4 index row ∷ listed c0 c1 c2 c3 c4 width left (next_index width index) (next_row width index row)

-- in the place of the columns that a narrower table has not
abbrev pub spare : List ℕ
spare = 0 ∷ []

spare_small : (i : ℕ) → get_or spare i 0 < 65536
unfolding all_small
spare_small = smalls spare refl

-- the numbers of a table one by one are its rows, whatever its width: of five columns a narrower table has the first
module _ (c0 c1 c2 c3 c4 : List ℕ) (a : (i : ℕ) → get_or c3 i 0 < 65536) (b : (i : ℕ) → get_or c4 i 0 < 65536) where
  unfoldable pub column : ℕ → List ℕ
  column zero = c0
  column (suc zero) = c1
  column (suc (suc zero)) = c2
  column (suc (suc (suc zero))) = c3
  column (suc (suc (suc (suc k)))) = c4

  unfoldable pub columns_from : ℕ → ℕ → List (List ℕ)
  columns_from zero index = []
  columns_from (suc left) index = column index ∷ columns_from left (suc index)

  cell_of_lem : (index i : ℕ) → index < 5 → cell_of c0 c1 c2 c3 c4 index i ≡ get_or (column index) i 0
  unfolding cell_of column
  cell_of_lem zero i h = refl
  cell_of_lem (suc zero) i h = refl
  cell_of_lem (suc (suc zero)) i h = refl
  cell_of_lem (suc (suc (suc zero))) i h = fit_small (get_or c3 i 0) (a i)
  cell_of_lem (suc (suc (suc (suc zero)))) i h = fit_small (get_or c4 i 0) (b i)
  cell_of_lem (suc (suc (suc (suc (suc k))))) i h = absurd (omega arith)

  -- the rest of a row from an index on, then the rows after it
  rest_of_row : (left index width more i : ℕ) → index + suc left ≡ width → width ≤ 5 →
      listed c0 c1 c2 c3 c4 width (suc left + more) index i ≡
      row_at (columns_from (suc left) index) i ++ listed c0 c1 c2 c3 c4 width more 0 (suc i)
  unfolding listed next_index next_row row_at columns_from
  rest_of_row zero index width more i e h =
      let n : suc zero + more ≡ suc more = omega arith in
      rw (n, cell_of_lem index i (omega arith), le-ltb (index + 1) width (omega arith))
      (ap (λ (r : ℕ). get_or (column index) i 0 ∷ listed c0 c1 c2 c3 c4 width more 0 r) (add-one i))
  rest_of_row (suc left) index width more i e h =
      let n : suc (suc left) + more ≡ suc (suc left + more) = omega arith in
      rw (n, cell_of_lem index i (omega arith), lt-ltb (index + 1) width (omega arith), add-one index)
      (ap (λ (l : List ℕ). get_or (column index) i 0 ∷ l) (rest_of_row left (suc index) width more i (omega arith) h))

  pub rows : (narrow : ℕ) (table : List (List ℕ)) → narrow < 5 → columns_from (suc narrow) 0 ≡ table → (count i : ℕ) →
      listed c0 c1 c2 c3 c4 (suc narrow) (count * suc narrow) 0 i ≡ rows_from table count i
  unfolding listed rows_from
  rows narrow table h e zero i =
      let n : 0 * suc narrow ≡ 0 = omega arith in
      rw n
  rows narrow table h e (suc count) i =
      let n : suc count * suc narrow ≡ suc narrow + count * suc narrow = omega arith in
      rw n
      (rest_of_row narrow 0 (suc narrow) (count * suc narrow) i (omega arith) (omega arith)
      ∙ (ap (λ (l : List ℕ). row_at (columns_from (suc narrow) 0) i ++ l) (rows narrow table h e count (suc i))
      ∙ ap (λ (t : List (List ℕ)). row_at t i ++ rows_from table count (suc i)) e))

-- what has no form counts as 0 in both, so the numbers one by one are what `put_rows` puts, whatever the cells
fit_below : (n : ℕ) → fit n < 65536
unfolding fit
fit_below n = by_test (ltb n 65536) (λ t. rw t (ltb-true n 65536 t)) (λ t. rw t (omega arith))

fit_twice : (c : List ℕ) (i : ℕ) → fit (get_or c i 0) ≡ fit (get_or (map fit c) i 0)
fit_twice c i = sym (fit_small (fit (get_or c i 0)) (fit_below (get_or c i 0))) ∙ ap fit (fit_at c i)

pub fitted : (c : List ℕ) (i : ℕ) → get_or (map fit c) i 0 < 65536
fitted c i = rw (← fit_at c i) (fit_below (get_or c i 0))

module _ (c0 c1 c2 c3 c4 : List ℕ) where
  cell_of_fit : (index i : ℕ) → cell_of c0 c1 c2 c3 c4 index i ≡ cell_of c0 c1 c2 (map fit c3) (map fit c4) index i
  unfolding cell_of
  cell_of_fit index i = rw (fit_twice c3 i, fit_twice c4 i) refl

  listed_fit : (width left index i : ℕ) → listed c0 c1 c2 c3 c4 width left index i ≡ listed c0 c1 c2 (map fit c3) (map fit c4) width left index i
  unfolding listed
  listed_fit width zero index i = refl
  listed_fit width (suc left) index i =
      rw (cell_of_fit index i)
      (ap (λ (l : List ℕ). cell_of c0 c1 c2 (map fit c3) (map fit c4) index i ∷ l) (listed_fit width left (next_index width index) (next_row width index i)))

  pub put_listed : (columns : List Column) (narrow : ℕ) → narrow < 5 →
      columns_from c0 c1 c2 (map fit c3) (map fit c4) (fitted c3) (fitted c4) (suc narrow) 0 ≡ map column_of columns → (count i : ℕ) →
      listed c0 c1 c2 c3 c4 (suc narrow) (count * suc narrow) 0 i ≡ rows_from (map column_of columns) count i
  put_listed columns narrow h e count i =
      listed_fit (suc narrow) (count * suc narrow) 0 i
      ∙ rows c0 c1 c2 (map fit c3) (map fit c4) (fitted c3) (fitted c4) narrow (map column_of columns) h e count i

-- the five columns of the functions
pub functions_listed : (t : Tables) (count : ℕ) →
    listed t.function_ids.now t.parameters.now t.maxima.now t.offsets.now t.lengths.now 5 (count * 5) 0 0 ≡
    rows_from (map column_of (Narrow t.function_ids ∷ (Narrow t.parameters ∷ (Narrow t.maxima ∷ (Wide t.offsets ∷ (Wide t.lengths ∷ [])))))) count 0
unfolding columns_from column
functions_listed t count =
    put_listed t.function_ids.now t.parameters.now t.maxima.now t.offsets.now t.lengths.now
    (Narrow t.function_ids ∷ (Narrow t.parameters ∷ (Narrow t.maxima ∷ (Wide t.offsets ∷ (Wide t.lengths ∷ []))))) 4 (omega arith) refl count 0
