-- A loop that fills a column row after row: what is left to fill from a row on, filled, is the whole.
-- Assumes nothing.
use Prim.Native.Nat.{ℕ, suc, ◌+◌, ◌-◌, ◌≤◌, ◌<◌}
use native.Mathlib.Numerals.{add-one}
use native.Mathlib.Omega.{arith}
use mathlib.Core.Path.{◌≡◌, refl, ◌∙◌, ap, sym}
use mathlib.Core.List.{List}
use lib.ListN.{length, set, length-set}
use Rattle.effects.specs.Effects.{fill_from}

pub record Filling (value : ℕ → ℕ) (n : ℕ) (first : List ℕ) (row : ℕ) (column : List ℕ) : Type 0 where
  pub within : row ≤ n
  pub same : length column ≡ length first
  pub goes_on : fill_from value (n - row) row column ≡ fill_from value n 0 first

fill_one : (value : ℕ → ℕ) (left row : ℕ) (column : List ℕ) → fill_from value (suc left) row column ≡ fill_from value left (row + 1) (set column row (value row))
fill_one value left row column = rw (add-one row)

pub filling_more : (value : ℕ → ℕ) (n : ℕ) (first : List ℕ) (row : ℕ) (column last : List ℕ) → Filling value n first row column → row < n → last ≡ set column row (value row) → Filling value n first (row + 1) last
filling_more value n first row column last f h e =
    let d : n - row ≡ suc (n - (row + 1)) = omega arith in
    record {
      within = omega arith;
      same = ap length e ∙ length-set column row (value row) ∙ f.same;
      goes_on = ap (fill_from value (n - (row + 1)) (row + 1)) e ∙ sym (fill_one value (n - (row + 1)) row column) ∙ ap (λ (k : ℕ). fill_from value k row column) (sym d) ∙ f.goes_on;
    }

pub filling_none : (value : ℕ → ℕ) (n : ℕ) (first : List ℕ) → Filling value n first 0 first
filling_none value n first =
    let d : n - 0 ≡ n = omega arith in
    record { within = omega arith; same = refl; goes_on = ap (λ (k : ℕ). fill_from value k 0 first) d }

pub filling_all : (value : ℕ → ℕ) (n : ℕ) (first : List ℕ) (row : ℕ) (column : List ℕ) → Filling value n first row column → n ≤ row → column ≡ fill_from value n 0 first
filling_all value n first row column f h =
    let d : n - row ≡ 0 = omega arith in
    sym (ap (λ (k : ℕ). fill_from value k row column) d) ∙ f.goes_on
