-- A column filled from its front, cell by cell, and the columns of a table over its width and the column's index.
-- Assumes nothing.
use Prim.Native.Nat.{ℕ, zero, suc, ◌+◌, ◌*◌, ◌<◌, ◌≤◌}
use mathlib.Core.Path.{◌≡◌, refl, sym, ◌∙◌, ap}
use mathlib.Core.List.{List, [], ◌∷◌, ◌++◌, append_assoc}
use native.Mathlib.Omega.{arith}
use native.Mathlib.Numerals.{add-one}
use native.Mathlib.Nat.{add-zero, zero-add, zero-mul, suc-mul}
use lib.ListN.{length, drop_of_length-le, get_or, set, take, drop, take-append-drop, length-drop, get_or-append}
use Rattle.std.specs.Prelude.{map}
use Rattle.std.proofs.lemmas.List.{set_at, map-id}
use Rattle.std.proofs.Common.{length-append, append-nil}
use lib.Seq.{take-suc-set, drop-cons, drop-set-lt, get_or-drop, drop-append-le}
use Rattle.seven.specs.Write.{laid}
use Rattle.file.specs.Columns.{column_of, over}
use Rattle.file.specs.Transposed.{column_length}

pub laid_start : (column front : List ℕ) → laid column 0 front ≡ over front column
unfolding laid over
laid_start column front = ap (λ (n : ℕ). front ++ drop n column) (zero-add (length front))

pub laid_step : (column rest : List ℕ) (i v : ℕ) → i < length column → laid (set column i v) (i + 1) rest ≡ laid column i (v ∷ rest)
unfolding laid
laid_step column rest i v h =
    let front : take (i + 1) (set column i v) ≡ take i column ++ (v ∷ []) =
    ap (λ (k : ℕ). take k (set column i v)) (add-one i) ∙ take-suc-set column i v h in
    let same : i + 1 + length rest ≡ i + suc (length rest) = omega arith in
    let back : drop (i + 1 + length rest) (set column i v) ≡ drop (i + suc (length rest)) column =
    drop-set-lt (i + 1 + length rest) column i v (omega arith) ∙ ap (λ (k : ℕ). drop k column) same in
    rw (front, back) (append_assoc (take i column) (v ∷ []) (rest ++ drop (i + suc (length rest)) column))

pub laid_end : (column : List ℕ) (i : ℕ) → laid column i [] ≡ column
unfolding laid
laid_end column i = rw add-zero (take-append-drop i column)

-- the loop's end
pub laid_done : (column whole : List ℕ) (i : ℕ) (front : List ℕ) → front ≡ [] → laid column i front ≡ whole → column ≡ whole
laid_done column whole i front e goes_on =
    sym (laid_end column i) ∙ (ap (λ (l : List ℕ). laid column i l) (sym e) ∙ goes_on)

pub over_all : (front column : List ℕ) → length front ≡ length column → over front column ≡ front
unfolding over
over_all front column e =
    let rest : drop (length front) column ≡ [] = drop_of_length-le column (omega arith) in
    ap (λ (l : List ℕ). front ++ l) rest ∙ append-nil front

-- one number more in front of a column
pub over_next : (front column : List ℕ) (i v : ℕ) → length front ≡ i → i < length column →
    set (over front column) i v ≡ over (front ++ (v ∷ [])) column
unfolding over
over_next front column i v e h =
    let there : drop (length front) column ≡ get_or column (length front) 0 ∷ drop (suc (length front)) column = drop-cons column (length front) 0 (omega arith) in
    let n : suc (length front) ≡ length (front ++ (v ∷ [])) = sym (length-append front (v ∷ []) ∙ add-one (length front)) in
    rw there
    (set_at front (get_or column (length front) 0) (drop (suc (length front)) column) v i e
    ∙ (sym (append_assoc front (v ∷ []) (drop (suc (length front)) column)) ∙ ap (λ (k : ℕ). (front ++ (v ∷ [])) ++ drop k column) n))

-- one cell more of a table's column
pub column_next : (width k i : ℕ) (ns : List ℕ) → column_of width k (suc i) ns ≡ column_of width k i ns ++ (get_or ns (i * width + k) 0 ∷ [])
unfolding column_of
column_next width k zero ns = rw (zero-mul, zero-add)
column_next width k (suc i) ns =
    let there : suc i * width + k ≡ width + (i * width + k) = ap (λ (n : ℕ). n + k) (suc-mul i width) ∙ omega arith in
    ap (λ (l : List ℕ). get_or ns k 0 ∷ l)
    (column_next width k i (drop width ns)
    ∙ ap (λ (n : ℕ). column_of width k i (drop width ns) ++ (n ∷ [])) (get_or-drop width ns (i * width + k) 0 ∙ ap (λ (n : ℕ). get_or ns n 0) (sym there)))

-- a loop that fills a table's column: as it begins, and at a turn
pub filled_none : (ns column : List ℕ) (width k : ℕ) → column ≡ over (column_of width k 0 ns) column
unfolding column_of over
filled_none ns column width k = refl

pub filled_next : (ns column₀ column : List ℕ) (width k i v : ℕ) → i < length column₀ → v ≡ get_or ns (i * width + k) 0 →
    column ≡ over (column_of width k i ns) column₀ → set column i v ≡ over (column_of width k (i + 1) ns) column₀
filled_next ns column₀ column width k i v h value e =
    rw e
    (over_next (column_of width k i ns) column₀ i v (column_length width k i ns) h
    ∙ ap (λ (l : List ℕ). over l column₀)
    (ap (λ (n : ℕ). column_of width k i ns ++ (n ∷ [])) value ∙ (sym (column_next width k i ns) ∙ ap (λ (n : ℕ). column_of width k n ns) (sym (add-one i)))))

-- a front that was copied
pub copied : (front part column : List ℕ) (n : ℕ) → part ≡ front → length front ≡ n → part ++ drop n column ≡ over front column
unfolding over
copied front part column n e f = rw (e, f)

-- what stands behind the numbers of a table has no part in its columns
pub column_front : (width k count : ℕ) (front back : List ℕ) → k < width → count * width ≤ length front →
    column_of width k count (front ++ back) ≡ column_of width k count front
unfolding column_of
column_front width k zero front back lt h = refl
column_front width k (suc count) front back lt h =
    let h' : count * width + width ≤ length front = rw suc-mul at h in
    rw (get_or-append front back 0 k (omega arith), drop-append-le width front back (omega arith), column_front width k count (drop width front) back lt (rw length-drop (omega arith)))

-- a column whose cells are the numbers themselves
pub column_laid : (front column last : List ℕ) → map (λ (n : ℕ). n) last ≡ over front (map (λ (n : ℕ). n) column) → last ≡ over front column
column_laid front column last e = sym (map-id last) ∙ e ∙ ap (over front) (map-id column)
