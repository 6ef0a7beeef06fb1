-- One entry, and the entries in order. Assumes nothing.
use mathlib.Core.Path.{◌≡◌, refl, sym, ap, ◌∙◌}
use mathlib.Core.Bool.{Bool}
use mathlib.Core.List.{List, ◌∷◌}
use Prim.Native.Nat.{ℕ, ◌+◌, ◌≤◌, ◌<◌, max}
use native.Mathlib.Omega.{arith}
use native.Mathlib.Numerals.{add-one}
use lib.ListN.{length, get_or, drop, drop_of_length-le}
use lib.Seq.{drop-cons}
use borrow.Author.Tests.{eqb-false}
use Rattle.program.specs.Seat.{seat_of}
use Rattle.std.specs.Prelude.{Result, Ok, Err}
use Rattle.visit.specs.declared.Overrun.{Overrun}
use Rattle.visit.specs.declared.State.{State}
use Rattle.visit.specs.Graph.{Graph}
use Rattle.visit.specs.Visit.{callee_of, largest_of, total_of, met_of, none, visit_of}
use Rattle.visit.specs.Cells.{row_at, entry_rows}
use Rattle.visit.proofs.Answers.{handed, callee_unknown, callee_new, largest_next, largest_stops}
use Rattle.visit.specs.Marks.{answer_of, Visits, AtRest, Meets}
use Rattle.visit.proofs.Colours.{two, met_closed}

module _ (G : Graph) (pool : ℕ) where
  module _ (f : ℕ) (s : State) (R : AtRest G pool s) where
    pub met_unknown : 128 ≤ f → Meets G pool f (Ok (0, s))
    met_unknown h = record { answers = sym (callee_unknown none (total_of G pool none) f h); leaves = λ t left e. handed (λ t left. AtRest G pool left) e R }

    pub met_new : f < 128 → (v : Result (ℕ × State) Overrun) → Visits G pool f s v → Meets G pool f v
    met_new h v told = record {
      answers = told.answers ∙ ap (λ (p : ℕ → Bool). total_of G pool p f) R.none_open ∙ sym (callee_new none (total_of G pool none) f h refl);
      leaves = λ t left e. let a = (told.leaves t left e).0 in record { kept = a.kept; none_open = a.same_open ∙ R.none_open };
    }

    pub met_again : f < 128 → (get_or s.colours f 0 ≡ 0 → ⊥) → Meets G pool f (Ok (get_or s.totals f 0, s))
    met_again h n = record {
      answers = sym (met_closed G pool s R.kept f h (two (get_or s.colours f 0) (eqb-false (get_or s.colours f 0) 1 (ap (λ (p : ℕ → Bool). p f) R.none_open)) n) none R.none_open);
      leaves = λ t left e. handed (λ t left. AtRest G pool left) e R;
    }

  module _ (ids entries : List ℕ) where
    -- the entries from i on, from the largest so far, have the answer of all
    pub record Entries (best : ℕ) (state : State) (i : ℕ) : Type 0 where
      pub place : i ≤ length entries
      pub rest : AtRest G pool state
      pub goes_on : visit_of G pool (entry_rows ids entries) ≡ met_of G pool none (entry_rows ids (drop i entries)) best

    pub entries_begin : (state : State) → AtRest G pool state → Entries 0 state 0
    unfolding visit_of
    entries_begin state R = record { place = omega arith; rest = R; goes_on = refl }

    module _ (best : ℕ) (state : State) (i : ℕ) (E : Entries best state i) where
      pub entries_end : length entries ≤ i → Ok best ≡ visit_of G pool (entry_rows ids entries)
      unfolding entry_rows largest_of
      entries_end h = sym (E.goes_on ∙ rw (drop_of_length-le entries {i = i} h))

      module _ (h : i < length entries) (f : ℕ) (ef : f ≡ row_at (seat_of ids (get_or entries i 0))) (v : Result (ℕ × State) Overrun) (M : Meets G pool f v) where
        rows_are : entry_rows ids (drop i entries) ≡ f ∷ entry_rows ids (drop (i + 1) entries)
        unfolding entry_rows
        rows_are = rw (drop-cons entries i 0 h, add-one i, ef)

        pub entry_failed : (o : Overrun) → v ≡ Err o → Err o ≡ visit_of G pool (entry_rows ids entries)
        entry_failed o e =
            sym (E.goes_on ∙ rw rows_are (largest_stops (callee_of none (total_of G pool none)) f (entry_rows ids (drop (i + 1) entries)) best o (sym M.answers ∙ ap answer_of e)))

        pub entry_fine : (t : ℕ) (left : State) → v ≡ Ok (t, left) → (b : ℕ) → b ≡ max best t → Entries b left (i + 1)
        entry_fine t left e b eb = record {
          place = omega arith;
          rest = M.leaves t left e;
          goes_on =
              E.goes_on
              ∙ rw (rows_are, eb) (largest_next (callee_of none (total_of G pool none)) f (entry_rows ids (drop (i + 1) entries)) best t (sym M.answers ∙ ap answer_of e));
        }
