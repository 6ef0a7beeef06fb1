-- What each way through `largest` and `total` comes to: one law for each turn of the loop and each return. Assumes nothing.
--     Along            the loop of `largest`: what is left of the row, from the largest so far, has the answer of the whole row
--     row-..           the turns and returns of `largest`
--     closes-..        the returns of `total`
use mathlib.Core.Path.{◌≡◌, refl, sym, ap, ◌∙◌, subst}
use mathlib.Core.Bool.{Bool, true, false}
use mathlib.Core.List.{List, [], ◌∷◌}
use mathlib.Core.Logic.{◌⊎◌, inl, inr, ⊎_elim}
use Prim.Native.Nat.{ℕ, zero, suc, ◌+◌, ◌*◌, ◌-◌, ◌≤◌, ◌<◌, max, min}
use native.Mathlib.Omega.{arith}
use lib.ListN.{get_or, length, take, drop}
use Rattle.std.proofs.lemmas.List.{length-take, get_or-take, get_or-drop}
use native.Mathlib.Decide.{dec_le}
use borrow.Author.Tests.{eq-eqb}
use Rattle.std.specs.Prelude.{Result, Ok, Err}
use Rattle.visit.specs.declared.Overrun.{Overrun}
use Rattle.visit.specs.declared.Overrun.TheVariants.{Cycle, Over}
use Rattle.visit.specs.declared.CallGraph.{CallGraph}
use Rattle.visit.specs.declared.State.{State}
use Rattle.visit.specs.Graph.{Graph, Among, Calls}
use Rattle.visit.specs.Visit.{Visited, onward, callee_of, largest_of, sum_of, closes, total_of, met_of, none}
use Rattle.visit.specs.Cells.{at_cell, callees_from, callees_in, graph_of}
use Rattle.visit.proofs.Answers.{handed, closes_over, closes_within, callee_unknown, callee_open, callee_new, largest_next, largest_stops}
use Rattle.visit.specs.Fuel.{total_step}
use Rattle.visit.proofs.Exact.{independent}
use Rattle.visit.specs.Marks.{open_in, ClosedIn, opened, closed, answer_of, Kept, After, Visits, Walks}
use Rattle.visit.proofs.Colours.{open_not, two, opened_open, after_itself, after_both, closed_self, closed_total, closed_after, met_closed}

-- ---- what is left of a row
abbrev pub rest : List ℕ → ℕ → ℕ → List ℕ
rest cells f cell = callees_from cells (128 - cell) (f * 128 + cell)

-- as the row is lent: 128 cells, or what there is of them
module _ (cells : List ℕ) (f : ℕ) (row : List ℕ) (er : row ≡ take 128 (drop (f * 128) cells)) where
  row_short : length row ≤ 128
  row_short = rw er (omega (arith, length-take 128 (drop (f * 128) cells)))

  row_at : (cell : ℕ) → cell < 128 → get_or row cell 0 ≡ get_or cells (f * 128 + cell) 0
  row_at cell h = rw er (get_or-take 128 (drop (f * 128) cells) cell 0 h ∙ get_or-drop (f * 128) cells cell 0)

  rest_next : (cell : ℕ) → cell < 128 → rest cells f cell ≡ at_cell (get_or row cell 0) (rest cells f (cell + 1))
  unfolding callees_from
  rest_next cell h =
      let a : 128 - cell ≡ suc (128 - (cell + 1)) = omega arith in
      let b : suc (f * 128 + cell) ≡ f * 128 + (cell + 1) = omega arith in
      rw (row_at cell h, a, b)

rest_none : (cells : List ℕ) (f cell : ℕ) → 128 ≤ cell → rest cells f cell ≡ []
unfolding callees_from
rest_none cells f cell h = let a : 128 - cell ≡ 0 = omega arith in rw a

cell_end : (c : ℕ) (gs : List ℕ) → c ≡ 0 → at_cell c gs ≡ []
unfolding at_cell
cell_end c gs e = rw e

cell_callee : (c : ℕ) (gs : List ℕ) → (c ≡ 0 → ⊥) → at_cell c gs ≡ (c - 1) ∷ gs
unfolding at_cell
cell_callee zero gs n = absurd (n refl)
cell_callee (suc g) gs n = let e : suc g - 1 ≡ g = omega arith in rw e

module _ (graph : CallGraph) (f : ℕ) (s : State) where
  abbrev cells : List ℕ
  cells = graph.cells.now

  abbrev pool : ℕ
  pool = graph.pool

  abbrev G : Graph
  G = graph_of graph

  abbrev is_open : ℕ → Bool
  is_open = open_in s.colours

  abbrev callee : ℕ → Visited
  callee = callee_of is_open (total_of G pool is_open)

  pub record Along (best : ℕ) (state : State) (cell : ℕ) : Type 0 where
    pub place : cell ≤ 128
    pub after : After G pool s state
    pub goes_on : met_of G pool is_open (callees_in cells f) 0 ≡ met_of G pool is_open (rest cells f cell) best
    pub passed_closed : (h : ℕ) → Calls G f h → ClosedIn state h ⊎ Among h (rest cells f cell)

  pub row_begins : Kept G pool s → Along 0 s 0
  unfolding callees_in
  row_begins K = record {
    place = omega arith;
    after = after_itself G pool s K;
    goes_on = let e : f * 128 + 0 ≡ f * 128 = omega arith in rw e;
    passed_closed = λ h c. let e : f * 128 + 0 ≡ f * 128 = omega arith in inr (rw e c.0);
  }

  module _ (row : List ℕ) (er : row ≡ take 128 (drop (f * 128) cells)) (best : ℕ) (state : State) (cell : ℕ) (A : Along best state cell) where
    ends : rest cells f cell ≡ [] → Walks G pool f s (Ok (best, state))
    unfolding largest_of
    ends e = record {
      answers = sym (A.goes_on ∙ rw e);
      leaves = λ b left q.
          handed (λ b left. After G pool s left × ((h : ℕ) → Calls G f h → ClosedIn left h)) q
          (A.after, λ h c. ⊎_elim (λ d. d) (λ i. absurd (rw e at i)) (A.passed_closed h c));
    }

    pub row_ends : (cell < 128 → get_or row cell 0 ≡ 0) → Walks G pool f s (Ok (best, state))
    row_ends z = ends (by (dec_le 128 cell))
      where
        by : Dec (128 ≤ cell) → rest cells f cell ≡ []
        by (yes h) = rest_none cells f cell h
        by (no n) = let h : cell < 128 = omega arith in rest_next cells f row er cell h ∙ cell_end (get_or row cell 0) (rest cells f (cell + 1)) (z h)

    module _ (h : cell < length row) (n : get_or row cell 0 ≡ 0 → ⊥) where
      abbrev g : ℕ
      g = get_or row cell 0 - 1

      short : cell < 128
      short = omega (arith, row_short cells f row er)

      row_is : rest cells f cell ≡ g ∷ rest cells f (cell + 1)
      row_is = rest_next cells f row er cell short ∙ cell_callee (get_or row cell 0) (rest cells f (cell + 1)) n

      -- a callee with a total is passed
      passes : (t : ℕ) → callee g ≡ Ok t → (state' : State) → After G pool state state' → (g < 128 → ClosedIn state' g) → Along (max best t) state' (cell + 1)
      passes t e state' B k = record {
        place = omega (arith, short);
        after = after_both G pool s state state' A.after B;
        goes_on = A.goes_on ∙ rw row_is (largest_next callee g (rest cells f (cell + 1)) best t e);
        passed_closed = λ x d. ⊎_elim (λ o. inl (B.still x o))
            (λ i. ⊎_elim (λ q. inl (subst (λ (y : ℕ). ClosedIn state' y) q (k (rw q d.1)))) (λ j. inr j) (rw row_is at i)) (A.passed_closed x d);
      }

      -- a callee without one ends it
      stops : (o : Overrun) → callee g ≡ Err o → Walks G pool f s (Err o)
      stops o e = record {
        answers = sym (A.goes_on ∙ rw row_is (largest_stops callee g (rest cells f (cell + 1)) best o e));
        leaves = λ b left q. absurd (cc);
      }

      pub row_unknown : 128 ≤ g → Along best state (cell + 1)
      row_unknown far =
          let e : max best 0 ≡ best = omega arith in
          subst (λ (b : ℕ). Along b state (cell + 1)) e
          (passes 0 (callee_unknown is_open (total_of G pool is_open) g far) state (after_itself G pool state A.after.kept) (λ l. absurd (omega arith)))

      module _ (l : g < 128) where
        open_as : (b : Bool) → open_in state.colours g ≡ b → is_open g ≡ b
        open_as b e = ap (λ (p : ℕ → Bool). p g) (sym A.after.same_open) ∙ e

        pub row_open : get_or state.colours g 0 ≡ 1 → Walks G pool f s (Err (Cycle g))
        row_open e =
            stops (Cycle g) (callee_open is_open (total_of G pool is_open) g l (open_as true (eq-eqb (get_or state.colours g 0) 1 e)))

        pub row_closed : (get_or state.colours g 0 ≡ 1 → ⊥) → (get_or state.colours g 0 ≡ 0 → ⊥) → (b : ℕ) → b ≡ max best (get_or state.totals g 0)
            → Along b state (cell + 1)
        row_closed n₁ n₀ b eb =
            let d : ClosedIn state g = two (get_or state.colours g 0) n₁ n₀ in
            rw eb (passes (get_or state.totals g 0) (met_closed G pool state A.after.kept g l d is_open A.after.same_open) state
            (after_itself G pool state A.after.kept) (λ k. d))

        module _ (new : get_or state.colours g 0 ≡ 0) (v : Result (ℕ × State) Overrun) (told : Visits G pool g state v) where
          visited : answer_of v ≡ callee g
          visited =
              told.answers
              ∙ ap (λ (p : ℕ → Bool). total_of G pool p g) A.after.same_open
              ∙ sym (callee_new is_open (total_of G pool is_open) g l (open_as false (open_not state.colours g (λ z. omega arith))))

          pub row_failed : (o : Overrun) → v ≡ Err o → Walks G pool f s (Err o)
          row_failed o e = stops o (sym visited ∙ ap answer_of e)

          pub row_fine : (t : ℕ) (left : State) → v ≡ Ok (t, left) → (b : ℕ) → b ≡ max best t → Along b left (cell + 1)
          row_fine t left e b eb = let w = told.leaves t left e in rw eb (passes t (sym visited ∙ ap answer_of e) left w.0 (λ k. w.1))

-- ---- the returns of `total`
module _ (G : Graph) (pool f : ℕ) (s : State) (hf : f < 128) (new : get_or s.colours f 0 ≡ 0) (K : Kept G pool s)
    (v : Result (ℕ × State) Overrun) (W : Walks G pool f (opened f s) v) where
  comes_to : onward (answer_of v) (closes G pool f) ≡ total_of G pool (open_in s.colours) f
  comes_to =
      ap (λ (a : Visited). onward a (closes G pool f))
      (W.answers ∙ ap (λ (p : ℕ → Bool). met_of G pool p (G.calls f) 0) (opened_open s.colours f (omega (arith, K.colours_long))))
      ∙ sym (total_step G pool f (open_in s.colours) hf (open_not s.colours f (λ z. omega arith)))

  pub closes_failed : (o : Overrun) → v ≡ Err o → Visits G pool f s (Err o)
  unfolding onward
  closes_failed o e = record { answers = rw e at comes_to; leaves = λ t left q. absurd (cc) }

  module _ (best : ℕ) (left : State) (e : v ≡ Ok (best, left)) (w t : ℕ) (ew : w ≡ G.weight f) (et : t ≡ min (w + best) 65535) where
    sum : t ≡ sum_of G f best
    sum = rw (← ew) (omega arith)

    closes_by : closes G pool f best ≡ total_of G pool (open_in s.colours) f
    unfolding onward
    closes_by = (rw e at comes_to)

    pub closes_above : pool < t → Visits G pool f s (Err (Over f t))
    closes_above h = record {
      answers = rw sum (sym (closes_over G pool f best (rw sum at h))) ∙ closes_by;
      leaves = λ b left q. absurd (cc);
    }

    pub closes_below : t ≤ pool → Visits G pool f s (Ok (t, closed f t left))
    closes_below h = record {
      answers = here;
      leaves = λ b after q. handed (λ b after. After G pool s after × ClosedIn after f × (get_or after.totals f 0 ≡ b)) q (
        closed_after G pool f t s left hf new K walked.0 own walked.1,
        closed_self G pool f t s left hf new K walked.0 own walked.1,
        closed_total G pool f t s left hf new K walked.0 own walked.1,
      );
    }
      where
        here : Ok t ≡ total_of G pool (open_in s.colours) f
        here = rw sum (sym (closes_within G pool f best (rw sum at h))) ∙ closes_by

        walked : After G pool (opened f s) left × ((x : ℕ) → Calls G f x → ClosedIn left x)
        walked = W.leaves best left e

        own : total_of G pool none f ≡ Ok t
        own = independent G pool (open_in s.colours) f hf (open_not s.colours f (λ z. omega arith)) t (sym here) none (λ x r. refl)
