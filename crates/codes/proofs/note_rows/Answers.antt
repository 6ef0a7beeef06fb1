-- `codes::note_rows` meets its contract. The invariant is `Noting`: the rows that are left, noted, give the whole.
-- Assumes nothing.
use borrow.Author.Rules.{rules}
use Prim.Native.Nat.{ℕ, suc, ◌-◌, ◌%◌, ◌≤◌, ◌<◌}
use native.Mathlib.Omega.{arith}
use mathlib.Core.Path.{◌≡◌, refl, ◌∙◌, ap, ap₂, sym}
use mathlib.Core.List.{List}
use lib.ListN.{length, get_or, set, length-set}
use Rattle.codes.specs.Lookup.{note_down, noted}
use Rattle.codes.proofs.note_rows.Invariants.{Noting}
use Rattle.codes.proofs.note_rows.Goals as goal

module _ (ids first : List ℕ) (row : ℕ) (hints : List ℕ) (n : Noting ids first row hints) where
  noting-more : 0 < row → (last : List ℕ) (cell value : ℕ) → cell ≡ get_or ids (row - 1) 0 % 8192 → value ≡ (row - 1) % 65536 → last ≡ set hints cell value → Noting ids first (row - 1) last
  noting-more h last cell value a b e =
      let d : row ≡ suc (row - 1) = omega arith in
      record {
        within = omega (arith, n.within);
        same = ap length e ∙ length-set hints cell value ∙ n.same;
        goes_on = ap (note_down ids (row - 1)) (e ∙ ap₂ (set hints) a b) ∙ ap (λ (k : ℕ). note_down ids k hints) (sym d) ∙ n.goes_on;
      }

  noting-all : row ≤ 0 → hints ≡ note_down ids (length ids) first
  noting-all h =
      let d : 0 ≡ row = omega arith in
      ap (λ (k : ℕ). note_down ids k hints) d ∙ n.goes_on

pub loop-row-init : goal.loop-row-init
loop-row-init c = record { within = search rules; same = refl; goes_on = refl }

pub loop-row-preserved : goal.loop-row-preserved
loop-row-preserved c = let l = c.loop-row in
    noting-more _ _ l.row l.hints l.invariant c.loop-row-test.true c.put.new.column c.hint_cell.result c.hint_of.result c.hint_cell.ensures c.hint_of.ensures c.put.ensures

pub returns : goal.returns
unfolding noted
returns c = noting-all _ _ c.loop-row.row _ c.loop-row.invariant c.loop-row-test.false
