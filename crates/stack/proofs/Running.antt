-- A body's answer by how its decoding ends, the columns that its walk begins with, and the directory's rows one after the other.
-- Assumes nothing.
use Rattle.std.specs.Prelude.{Ok, Err}
use Prim.Native.Nat.{ℕ, suc, ◌+◌, ◌-◌, ◌≤◌, ◌<◌}
use native.Mathlib.Omega.{arith}
use mathlib.Core.Path.{◌≡◌, refl, ◌∙◌, ap, ap₂, sym}
use native.Mathlib.Numerals.{add-one}
use mathlib.Core.List.{List}
use lib.ListN.{length, get_or, set, take, drop, length-take, length-drop}
use Rattle.cells.specs.Zeros.{zeros, zeros_are, length_zeros, any_zero}
use Rattle.flow.specs.Walk.{walk_by, end_of, mark_all, marks_of, Decoded}
use Rattle.flow.proofs.Next.{marks_fit, marks_are}
use Rattle.program.specs.Program.{Program, body_of, body_is}
use Rattle.rules.specs.declared.Violation.{Violation}
use Rattle.rules.specs.Look.{Effects, look_of}
use Rattle.rules.specs.Walk.{begun, walk_of, Walked}
use Rattle.rules.proofs.Counting.{begun_is}
use Rattle.stack.specs.declared.Fault.{Fault}
use Rattle.stack.specs.Columns.{Fitting, Cleared, Roomy}
use Rattle.stack.specs.Stack.{on_decoded, body_answer, on_walked, functions_from, functions_answer}

module _ (sizes : ℕ → ℕ) (known : Effects) (body : List ℕ) (maximum : ℕ) where
  pub body_stops : (d : Decoded) → d ≡ end_of (walk_by sizes body 0) → on_decoded d (walk_of (look_of known (marks_of sizes body) body maximum) (length body + 1)) ≡ body_answer sizes known body maximum
  unfolding body_answer
  body_stops d e = ap (λ (w : Decoded). on_decoded w (walk_of (look_of known (marks_of sizes body) body maximum) (length body + 1))) e

  pub body_walks : (marks first : List ℕ) → marks ≡ mark_all (walk_by sizes body 0) first → first ≡ zeros (length body) → (Ok tt) ≡ end_of (walk_by sizes body 0) → walk_of (look_of known marks body maximum) (length body + 1) ≡ body_answer sizes known body maximum
  body_walks marks first m z e =
      ap (λ (u : List ℕ). walk_of (look_of known u body maximum) (length body + 1)) (m ∙ ap (mark_all (walk_by sizes body 0)) z ∙ sym (marks_are sizes body)) ∙ body_stops (Ok tt) e

pub marks_fitting : (sizes : ℕ → ℕ) (body marks first : List ℕ) → marks ≡ mark_all (walk_by sizes body 0) first → first ≡ zeros (length body) → Fitting marks body
marks_fitting sizes body marks first m z offset h =
    let l = length_zeros first (length body) z in
    rw m (marks_fit sizes body first (omega arith) (any_zero first (length body) z) offset h)

pub begins_walk : (depths : List ℕ) (n : ℕ) → depths ≡ zeros n → set depths 0 1 ≡ begun n
begins_walk depths n z = ap (λ (u : List ℕ). set u 0 1) (z ∙ zeros_are n) ∙ sym (begun_is n)

-- a body that is a part of the code has room where the code has
pub roomy_part : (marks depths queue code : List ℕ) (from n : ℕ) (body : List ℕ) → body ≡ take n (drop from code) → Roomy (length code) marks depths queue → Roomy (length body) marks depths queue
roomy_part marks depths queue code from n body e r =
    let l : length body ≤ length code = rw e (simp (length-take, length-drop) (omega arith)) in
    record { marks_room = omega (arith, r); depths_room = omega (arith, r); queue_room = omega (arith, r); small = omega (arith, r) }

-- the rows of a directory, one after the other
pub record Going (sizes : ℕ → ℕ) (known : Effects) (p : Program) (marks₀ depths₀ queue₀ marks depths queue : List ℕ) (row : ℕ) : Type 0 where
  pub within : row ≤ length p.functions.ids
  pub marks_zero : marks ≡ zeros (length marks₀)
  pub depths_zero : depths ≡ zeros (length depths₀)
  pub queue_same : length queue ≡ length queue₀
  pub goes_on : functions_from sizes known p (length p.functions.ids - row) row ≡ functions_answer sizes known p

module _ (sizes : ℕ → ℕ) (known : Effects) (p : Program) where
  abbrev row_answer : ℕ → Walked
  row_answer row = body_answer sizes known (body_of p row) (get_or p.functions.maxima row 0)

  pub row_is : (row offset length maximum : ℕ) (body : List ℕ) (walked : Walked) → offset ≡ get_or p.functions.offsets row 0 → length ≡ get_or p.functions.lengths row 0 → maximum ≡ get_or p.functions.maxima row 0
      → body ≡ take length (drop offset p.code) → walked ≡ body_answer sizes known body maximum → walked ≡ row_answer row
  row_is row offset length maximum body walked o l m b w =
      let e : body ≡ body_of p row = b ∙ ap₂ (λ (n k : ℕ). take n (drop k p.code)) l o ∙ sym (body_is p row) in
      w ∙ ap₂ (body_answer sizes known) e m

  pub going_first : (marks depths queue : List ℕ) → Cleared marks depths → Going sizes known p marks depths queue marks depths queue 0
  unfolding functions_answer
  going_first marks depths queue c =
      let z : length p.functions.ids - 0 ≡ length p.functions.ids = omega arith in
      record {
        within = omega arith;
        marks_zero = c.marks_zero;
        depths_zero = c.depths_zero;
        queue_same = refl;
        goes_on = ap (λ (k : ℕ). functions_from sizes known p k 0) z;
      }

  module _ (marks₀ depths₀ queue₀ marks depths queue : List ℕ) (row : ℕ) (g : Going sizes known p marks₀ depths₀ queue₀ marks depths queue row) where
    cleared : Cleared marks depths
    cleared =
        record { marks_zero = g.marks_zero ∙ ap zeros (sym (length_zeros marks (length marks₀) g.marks_zero)); depths_zero = g.depths_zero ∙ ap zeros (sym (length_zeros depths (length depths₀) g.depths_zero)) }

    pub going_cleared : Cleared marks depths
    going_cleared = cleared

    pub going_room : (n : ℕ) → Roomy n marks₀ depths₀ queue₀ → Roomy n marks depths queue
    going_room n r =
        let m = length_zeros marks (length marks₀) g.marks_zero in
        let d = length_zeros depths (length depths₀) g.depths_zero in
        record { marks_room = omega (arith, r); depths_room = omega (arith, r); queue_room = omega (arith, r, g.queue_same); small = r.small }

    pub going_end : length p.functions.ids ≤ row → Ok tt ≡ functions_answer sizes known p
    going_end h =
        let z : length p.functions.ids - row ≡ 0 = omega arith in
        sym (ap (λ (k : ℕ). functions_from sizes known p k row) z) ∙ g.goes_on

    module _ (more : row < length p.functions.ids) where
      step : functions_from sizes known p (length p.functions.ids - row) row ≡ on_walked (get_or p.functions.ids row 0) (row_answer row) (functions_from sizes known p (length p.functions.ids - (row + 1)) (row + 1))
      step =
          let z : length p.functions.ids - row ≡ suc (length p.functions.ids - (row + 1)) = omega arith in
          ap (λ (k : ℕ). functions_from sizes known p k row) z ∙ ap (λ (k : ℕ). on_walked (get_or p.functions.ids row 0) (row_answer row) (functions_from sizes known p (length p.functions.ids - (row + 1)) k)) (sym (add-one row))

      pub going_stop : (v : Violation) (function : ℕ) → function ≡ get_or p.functions.ids row 0 → Err v ≡ row_answer row → Err (Fault.Violated function v) ≡ functions_answer sizes known p
      going_stop v function f e =
          ap (λ (k : ℕ). Err (Fault.Violated k v)) f ∙ ap (λ (w : Walked). on_walked (get_or p.functions.ids row 0) w (functions_from sizes known p (length p.functions.ids - (row + 1)) (row + 1))) e ∙ sym step ∙ g.goes_on

      pub going_more : (m d q : List ℕ) → m ≡ zeros (length marks) → d ≡ zeros (length depths) → length q ≡ length queue → Ok tt ≡ row_answer row → Going sizes known p marks₀ depths₀ queue₀ m d q (row + 1)
      going_more m d q em ed eq e =
          record {
            within = omega arith;
            marks_zero = em ∙ ap zeros (length_zeros marks (length marks₀) g.marks_zero);
            depths_zero = ed ∙ ap zeros (length_zeros depths (length depths₀) g.depths_zero);
            queue_same = eq ∙ g.queue_same;
            goes_on = ap (λ (w : Walked). on_walked (get_or p.functions.ids row 0) w (functions_from sizes known p (length p.functions.ids - (row + 1)) (row + 1))) e ∙ sym step ∙ g.goes_on;
          }
