-- What a hint gives, and that a lookup with hints finds the row that reading row after row finds. The laws of the lookup without hints are in
-- specs/LookupLaws.antt. Assumes nothing.
use Rattle.codes.specs.First.{Place}
use Rattle.std.specs.Prelude.{ℕ, ◌%◌, ◌≤◌, ◌<◌, ◌≡◌, refl, List, length, get_or, Ok, Some}
use Rattle.std.proofs.Common.{arith, ◌∙◌, sym}
use Rattle.std.proofs.Math.Decide.{dec_lt, ℕ_discrete}
use Rattle.std.proofs.Math.Path.{ap}
use Rattle.codes.specs.Rows.{rows_of}
use Rattle.codes.specs.Lookup.{place_of, row_if, halved_of, entry_at, entry_of, or_else, hinted_of, hinted_up}
use Rattle.codes.specs.Laws.{rising_order}
use Rattle.codes.specs.LookupLaws.{place_row, row_here, row_other, row_past, halved_place}

module _ (ids : List ℕ) (id : ℕ) where
  -- what a hint gives: its row, or the halving
  pub hinted_here : (hints : List ℕ) (k : ℕ) → k ≡ get_or hints (id % 8192) 0 → k < length ids → get_or ids k 0 ≡ id → hinted_of hints ids id ≡ Some k
  unfolding hinted_of
  hinted_here hints k w h e = ap (λ (j : ℕ). or_else (row_if ids id j) (halved_of ids id)) (sym w) ∙ ap (λ (p : Place). or_else p (halved_of ids id)) (row_here ids id k h e)

  pub hinted_other : (hints : List ℕ) (k : ℕ) → k ≡ get_or hints (id % 8192) 0 → k < length ids → (get_or ids k 0 ≡ id → ⊥) → hinted_of hints ids id ≡ halved_of ids id
  unfolding hinted_of
  hinted_other hints k w h e = ap (λ (j : ℕ). or_else (row_if ids id j) (halved_of ids id)) (sym w) ∙ ap (λ (p : Place). or_else p (halved_of ids id)) (row_other ids id k h e)

  pub hinted_past : (hints : List ℕ) (k : ℕ) → k ≡ get_or hints (id % 8192) 0 → length ids ≤ k → hinted_of hints ids id ≡ halved_of ids id
  unfolding hinted_of
  hinted_past hints k w h = ap (λ (j : ℕ). or_else (row_if ids id j) (halved_of ids id)) (sym w) ∙ ap (λ (p : Place). or_else p (halved_of ids id)) (row_past ids id k h)

module _ (ids flags : List ℕ) (rises : rows_of ids flags ≡ Ok tt) (id : ℕ) where
  -- a row with the id is the one that reading row after row finds: an earlier one has a smaller id
  only_row : (k : ℕ) → k < length ids → get_or ids k 0 ≡ id → place_of ids id ≡ Some k
  only_row k h e = place_row ids id k h e (λ j l z. omega (arith, rising_order ids flags rises j k l h))

  hinted_by : (hints : List ℕ) (k : ℕ) → k ≡ get_or hints (id % 8192) 0 → Dec (k < length ids) → Dec (get_or ids k 0 ≡ id) → hinted_of hints ids id ≡ place_of ids id
  hinted_by hints k w (no l) d = hinted_past ids id hints k w (omega arith) ∙ halved_place ids flags rises id
  hinted_by hints k w (yes h) (yes e) = hinted_here ids id hints k w h e ∙ sym (only_row k h e)
  hinted_by hints k w (yes h) (no n) = hinted_other ids id hints k w h n ∙ halved_place ids flags rises id

  -- and so it is with hints, whatever they hold
  pub hinted_place : (hints : List ℕ) → hinted_of hints ids id ≡ place_of ids id
  hinted_place hints =
      let k : ℕ = get_or hints (id % 8192) 0 in
      hinted_by hints k refl (dec_lt k (length ids)) (ℕ_discrete (get_or ids k 0) id)

  pub hinted_up_lem : (hints counts : List ℕ) → hinted_up hints ids counts flags id ≡ entry_of ids counts flags id
  unfolding hinted_up entry_of
  hinted_up_lem hints counts = ap (entry_at counts flags) (hinted_place hints)
