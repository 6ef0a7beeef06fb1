-- The loop over the directory, over any walk of a body: what it has done up to a row, and a law for each way that a row can go.
-- Assumes nothing.
use Rattle.std.specs.Prelude.{Err, Ok}
use Prim.Native.Nat.{ℕ, suc, ◌+◌, ◌-◌, ◌*◌, ◌≤◌, ◌<◌}
use native.Mathlib.Omega.{arith}
use native.Mathlib.Decide.{ℕ_discrete}
use native.Mathlib.Numerals.{add-one}
use mathlib.Core.Path.{◌≡◌, refl, ◌∙◌, ap, ap₂, sym}
use mathlib.Core.List.{List}
use lib.ListN.{length, get_or, set, take, drop, length-set, replicate}
use lib.Seq.{get_or-set_same, get_or-set_other}
use Rattle.cells.specs.Zeros.{zeros, zeros_are, length_zeros, any_zero}
use Rattle.buffers.specs.declared.Usage as told
use Rattle.buffers.specs.declared.Unwalked.{Unwalked}
use Rattle.buffers.specs.Walk.{Walked, undecodable, crowded, unfinished, walked, used_of, callees_of, Used}
use Rattle.visit.specs.Cells.{callees_in}
use Rattle.pool.specs.declared.Fault.{Fault}
use Rattle.pool.specs.declared.bodies.Usages.{Usages}
use Rattle.pool.specs.Columns.{Walks, RowHolds, Listed, Laid, Lays}
use Rattle.pool.specs.Pool.{weight_of, peak_of, rows_in, fault_of, on_used, functions_from, Verdict}
use Rattle.pool.specs.Usages.{walks_by, Told, IfWalked, Found}
use Rattle.pool.proofs.Rows.{row_read, row_empty, row_stays}

-- the body of a row
pub row_walk : (walk : List ℕ → Walked) (offsets lengths code : List ℕ) (row offset n : ℕ) (body : List ℕ) (r : Used) (at : ℕ) (first last : List ℕ) → offset ≡ get_or offsets row 0 → n ≡ get_or lengths row 0 → body ≡ take n (drop offset code)
    → Lays r at first last (walk body) → Lays r at first last (walks_by walk offsets lengths code row)
unfolding walks_by
row_walk walk offsets lengths code row offset n body r at first last o l b y =
    let e : body ≡ take (get_or lengths row 0) (drop (get_or offsets row 0) code) = b ∙ ap₂ (λ (m k : ℕ). take m (drop k code)) l o in
    rw (← e) y

pub record Going (walk : ℕ → Walked) (ids cells₀ cells weights peaks : List ℕ) (row : ℕ) : Type 0 where
  pub within : row ≤ length ids
  pub cells_same : length cells ≡ length cells₀
  pub blank : (i : ℕ) → row * 128 ≤ i → get_or cells i 0 ≡ 0
  pub calls : (f : ℕ) → f < row → callees_in cells f ≡ rows_in (callees_of (walk f))
  pub weights_wide : length weights ≡ 128
  pub weighs : (f : ℕ) → f < row → get_or weights f 0 ≡ weight_of (walk f)
  pub blank_weights : (f : ℕ) → row ≤ f → get_or weights f 0 ≡ 0
  pub peaks_wide : length peaks ≡ 128
  pub peak_at : (f : ℕ) → f < row → get_or peaks f 0 ≡ peak_of (walk f)
  pub blank_peaks : (f : ℕ) → row ≤ f → get_or peaks f 0 ≡ 0
  pub goes_on : (rest : Verdict) → functions_from walk ids rest (length ids - row) row ≡ functions_from walk ids rest (length ids) 0

pub going_first : (walk : ℕ → Walked) (ids cells weights peaks : List ℕ) → cells ≡ zeros (length cells) → weights ≡ replicate 128 0 → peaks ≡ replicate 128 0
    → Going walk ids cells cells weights peaks 0
going_first walk ids cells weights peaks z w p =
    let n : length ids - 0 ≡ length ids = omega arith in
    let w' : weights ≡ zeros 128 = w ∙ sym (zeros_are 128) in
    let p' : peaks ≡ zeros 128 = p ∙ sym (zeros_are 128) in
    record {
      within = omega arith;
      cells_same = refl;
      blank = λ i h. any_zero cells (length cells) z i;
      calls = λ f h. absurd (omega arith);
      weights_wide = length_zeros weights 128 w';
      weighs = λ f h. absurd (omega arith);
      blank_weights = λ f h. any_zero weights 128 w' f;
      peaks_wide = length_zeros peaks 128 p';
      peak_at = λ f h. absurd (omega arith);
      blank_peaks = λ f h. any_zero peaks 128 p' f;
      goes_on = λ rest. ap (λ (k : ℕ). functions_from walk ids rest k 0) n;
    }

-- what a walk's answer says of the walk
uses_walked : (w : Walked) (usage : told.Usage) → Ok usage ≡ used_of w → (usage.weight ≡ weight_of w) × (usage.peak ≡ peak_of w)
uses_walked undecodable usage e = cc
uses_walked crowded usage e = cc
uses_walked unfinished usage e = cc
uses_walked (walked numbers u) usage e = let s : usage ≡ record { weight = u.weight; peak = u.peak } = cc in (ap (λ (x : told.Usage). x.weight) s, ap (λ (x : told.Usage). x.peak) s)

lays_used : (r : Used) (at : ℕ) (first last : List ℕ) (w : Walked) → Lays r at first last w → r ≡ used_of w
unfolding Walks
lays_used r at first last w y = y.holds.0

held_by : (used : Used) (usage : told.Usage) (found callees : List ℕ) → used ≡ Ok usage → RowHolds used found callees → (met : ℕ) × (Listed found met × (take met found ≡ callees))
unfolding RowHolds
held_by used usage found callees e h = rw e at h

-- a column in which one more row is on record
set_by : (column : List ℕ) (row value : ℕ) (on : ℕ → ℕ) → row < length column → ((f : ℕ) → f < row → get_or column f 0 ≡ on f) → value ≡ on row → (f : ℕ) → f < row + 1 → Dec (f ≡ row) → get_or (set column row value) f 0 ≡ on f
set_by column row value on l h v f k (yes e) = rw e (get_or-set_same column row value 0 l ∙ v)
set_by column row value on l h v f k (no n) = get_or-set_other column row f value 0 n ∙ h f (omega arith)

module _ (walk : ℕ → Walked) (ids cells₀ cells weights peaks : List ℕ) (row : ℕ)
    (g : Going walk ids cells₀ cells weights peaks row) where
  -- every function was walked
  pub going_end : length ids ≤ row → length ids ≤ 128 → (usages : Usages) → usages.weights ≡ weights → usages.peaks ≡ peaks → Found (Ok usages) cells walk ids
  unfolding Told IfWalked
  going_end h few usages ew ep =
      let n : row ≡ length ids = omega (arith, g.within) in
      let z : length ids - row ≡ 0 = omega arith in
      record {
        told = λ rest. sym (g.goes_on rest) ∙ ap (λ (k : ℕ). functions_from walk ids rest k row) z;
        recorded =
            rw (ew, ep) (record {
              calls = λ f k. g.calls f (omega arith);
              blank_calls = λ f k l. row_empty cells f (λ i j. g.blank (f * 128 + i) (omega arith));
              weighs = λ f k. g.weighs f (omega arith);
              blank_weights = λ f k. g.blank_weights f (omega arith);
              peak_at = λ f k. g.peak_at f (omega arith);
              blank_peaks = λ f k. g.blank_peaks f (omega arith);
            });
      }

  module _ (more : row < length ids) where
    step : (rest : Verdict) → functions_from walk ids rest (length ids) 0 ≡ on_used (get_or ids row 0) (used_of (walk row)) (functions_from walk ids rest (length ids - (row + 1)) (row + 1))
    step rest =
        let z : length ids - row ≡ suc (length ids - (row + 1)) = omega arith in
        sym (g.goes_on rest) ∙ ap (λ (k : ℕ). functions_from walk ids rest k row) z ∙ ap (λ (k : ℕ). on_used (get_or ids row 0) (used_of (walk row)) (functions_from walk ids rest (length ids - (row + 1)) k)) (sym (add-one row))

    module _ (used : Used) (at : ℕ) (first last : List ℕ) (lays : Lays used at first last (walk row)) where
      used_is : used ≡ used_of (walk row)
      used_is = lays_used used at first last (walk row) lays

      pub going_stopped : (unwalked : Unwalked) → used ≡ Err unwalked → (fault : Fault) (cells' : List ℕ) → fault ≡ fault_of (get_or ids row 0) unwalked → Found (Err fault) cells' walk ids
      unfolding Told IfWalked
      going_stopped unwalked e fault cells' f =
          record { told = λ rest. step rest ∙ ap (λ (u : Used). on_used (get_or ids row 0) u (functions_from walk ids rest (length ids - (row + 1)) (row + 1))) (sym used_is ∙ e) ∙ ap Err (sym f); recorded = tt }

    calls_by : (last found : List ℕ) (met : ℕ) → Laid (row * 128) cells last found → Listed found met → take met found ≡ callees_of (walk row) → (f : ℕ) → f < row + 1 → Dec (f ≡ row) → callees_in last f ≡ rows_in (callees_of (walk f))
    calls_by last found met laid listed t f k (yes e) = rw e (row_read last found row met listed laid.here ∙ ap rows_in t)
    calls_by last found met laid listed t f k (no n) = row_stays cells last f (λ i j. laid.before (f * 128 + i) (omega arith)) ∙ g.calls f (omega arith)

    pub going_more : row < 128 → (usage : told.Usage) (used : Used) (last : List ℕ) → Lays used (row * 128) cells last (walk row) → used ≡ Ok usage
        → length last ≡ length cells
        → Going walk ids cells₀ last (set weights row usage.weight) (set peaks row usage.peak) (row + 1)
    unfolding Walks RowHolds
    going_more small usage used last lays e el =
        let u = uses_walked (walk row) usage (sym e ∙ lays_used used (row * 128) cells last (walk row) lays) in
        let laid = lays.laid in
        let held : (met : ℕ) × (Listed lays.found met × (take met lays.found ≡ callees_of (walk row))) = held_by used usage lays.found (callees_of (walk row)) e lays.holds.1 in
        record {
          within = omega arith;
          cells_same = el ∙ g.cells_same;
          blank = λ i h. laid.after i (omega arith) ∙ g.blank i (omega arith);
          calls = λ f h. calls_by last lays.found held.0 laid held.1.0 held.1.1 f h (ℕ_discrete f row);
          weights_wide = length-set weights row usage.weight ∙ g.weights_wide;
          weighs = λ f h. set_by weights row usage.weight (λ k. weight_of (walk k)) (omega (arith, g.weights_wide)) g.weighs u.0 f h (ℕ_discrete f row);
          blank_weights = λ f h. get_or-set_other weights row f usage.weight 0 (λ q. omega arith) ∙ g.blank_weights f (omega arith);
          peaks_wide = length-set peaks row usage.peak ∙ g.peaks_wide;
          peak_at = λ f h. set_by peaks row usage.peak (λ k. peak_of (walk k)) (omega (arith, g.peaks_wide)) g.peak_at u.1 f h (ℕ_discrete f row);
          blank_peaks = λ f h. get_or-set_other peaks row f usage.peak 0 (λ q. omega arith) ∙ g.blank_peaks f (omega arith);
          goes_on = λ rest. sym (ap (λ (v : Used). on_used (get_or ids row 0) v (functions_from walk ids rest (length ids - (row + 1)) (row + 1))) (sym (lays_used used (row * 128) cells last (walk row) lays) ∙ e)) ∙ sym (step rest);
        }
