-- For the crates above: which graph lent cells hold, which rows the entries have, and that the visit looks at nothing else. Assumes nothing.
--     row_holds        the callees of a row are those that its cells hold, up to the first 0
--     callees_are      a row is 128 cells
--     same_cells       cells that agree along a row hold the same callees
--     entry_known      an entry that is in the directory has its row among the rows of the entries
--     known_entry      and a row below 128 among them is an entry's
--     row_known        the row of a place is its row
--     known_row        and a row below 128 is that of a place which has it
--     same_graph       graphs that agree on the 128 functions have the same visit
--     reaches_on       what is called from what is reached is reached
--     tame_self        a tame function weighs no more than the pool
--     tame_callee      and what it calls is tame within what it leaves of the pool
--     tame_reached     and what it reaches is tame within the pool
use Rattle.codes.specs.First.{Place}
use Rattle.std.specs.Prelude.{◌≡◌, Bool, List, [], ◌∷◌, length, get_or, Some, None}
use Rattle.std.proofs.Math.Path.{refl, ap, fun_ext}
use Rattle.std.proofs.Common.{ap₂, ◌∙◌, inl, inr, ⊎_elim, arith}
use Prim.Native.Nat.{ℕ, zero, suc, ◌+◌, ◌-◌, ◌*◌, ◌≤◌, ◌<◌}
use Rattle.program.specs.Seat.{seat_of}
use Rattle.visit.specs.Graph.{Graph, Among, Calls, last, call, weigh, Reaches, same, more, Tame}
use Rattle.visit.specs.Visit.{Visited, onward, largest_of, closes, opening, total_by, total_of, none, visit_of}
use Rattle.visit.specs.Cells.{at_cell, callees_from, callees_in, row_at, entry_rows}
use Rattle.visit.specs.Fuel.{callee_same}
use Rattle.visit.proofs.Chains.{longer}

pub row_holds : (cells : List ℕ) (n place : ℕ) (gs : List ℕ) → length gs ≤ n
    → ((i : ℕ) → i < length gs → get_or cells (place + i) 0 ≡ suc (get_or gs i 0))
    → (length gs < n → get_or cells (place + length gs) 0 ≡ 0)
    → callees_from cells n place ≡ gs
unfolding callees_from at_cell
row_holds cells zero place [] h on end = refl
row_holds cells zero place (g ∷ gs) h on end = absurd (omega arith)
row_holds cells (suc n) place [] h on end =
    let e : get_or cells place 0 ≡ 0 = ap (λ (k : ℕ). get_or cells k 0) (omega arith) ∙ end (omega arith) in
    rw e
row_holds cells (suc n) place (g ∷ gs) h on end =
    let e : get_or cells place 0 ≡ suc g = ap (λ (k : ℕ). get_or cells k 0) (omega arith) ∙ on 0 (omega arith) in
    rw e (ap (λ (l : List ℕ). g ∷ l) (row_holds cells n (suc place) gs (omega arith)
    (λ i k. ap (λ (m : ℕ). get_or cells m 0) (omega arith) ∙ on (suc i) (omega arith))
    (λ k. ap (λ (m : ℕ). get_or cells m 0) (omega arith) ∙ end (omega arith))))

pub callees_are : (cells : List ℕ) (f : ℕ) → callees_in cells f ≡ callees_from cells 128 (f * 128)
unfolding callees_in
callees_are cells f = refl

pub same_cells : (cells cells' : List ℕ) (n place : ℕ) → ((i : ℕ) → i < n → get_or cells (place + i) 0 ≡ get_or cells' (place + i) 0) → callees_from cells n place ≡ callees_from cells' n place
unfolding callees_from
same_cells cells cells' zero place on = refl
same_cells cells cells' (suc n) place on =
    let e : get_or cells place 0 ≡ get_or cells' place 0 = ap (λ (k : ℕ). get_or cells k 0) (omega arith) ∙ on 0 (omega arith) ∙ ap (λ (k : ℕ). get_or cells' k 0) (omega arith) in
    ap₂ (λ (c : ℕ) (l : List ℕ). at_cell c l) e (same_cells cells cells' n (suc place)
    (λ i k. ap (λ (m : ℕ). get_or cells m 0) (omega arith) ∙ on (suc i) (omega arith) ∙ ap (λ (m : ℕ). get_or cells' m 0) (omega arith)))

pub entry_known : (ids entries : List ℕ) (e f : ℕ) → Among e entries → seat_of ids e ≡ Some f → Among f (entry_rows ids entries)
unfolding entry_rows row_at
entry_known ids [] e f i q = i
entry_known ids (x ∷ es) e f i q = ⊎_elim (λ z. inl (ap (λ (y : ℕ). row_at (seat_of ids y)) z ∙ ap row_at q)) (λ j. inr (entry_known ids es e f j q)) i

pub row_known : (f : ℕ) → row_at (Some f) ≡ f
unfolding row_at
row_known f = refl

row_of : (p : Place) (f : ℕ) → row_at p ≡ f → f < 128 → p ≡ Some f
unfolding row_at
row_of (Some g) f e h = ap Some e
row_of None f e h = absurd (omega arith)

pub known_row : (p : Place) (f : ℕ) → row_at p ≡ f → f < 128 → p ≡ Some f
known_row p f e h = row_of p f e h

pub known_entry : (ids entries : List ℕ) (f : ℕ) → Among f (entry_rows ids entries) → f < 128 → (e : ℕ) × Among e entries × (seat_of ids e ≡ Some f)
unfolding entry_rows
known_entry ids [] f i h = absurd i
known_entry ids (x ∷ es) f i h =
    ⊎_elim (λ q. (x, inl refl, row_of (seat_of ids x) f q h)) (λ j. let r = known_entry ids es f j h in (r.0, inr r.1, r.2)) i

module _ (G H : Graph) (pool : ℕ) (calls : (f : ℕ) → f < 128 → G.calls f ≡ H.calls f) (weight : (f : ℕ) → f < 128 → G.weight f ≡ H.weight f) where
  same_close : (f : ℕ) → f < 128 → (best : ℕ) → closes G pool f best ≡ closes H pool f best
  unfolding closes
  same_close f hf best = rw (weight f hf)

  same_by : (k : ℕ) (is_open : ℕ → Bool) (f : ℕ) → f < 128 → total_by G pool k is_open f ≡ total_by H pool k is_open f
  unfolding total_by
  same_by zero is_open f hf = refl
  same_by (suc k) is_open f hf =
      ap (λ (callee : ℕ → Visited). onward (largest_of callee (G.calls f) 0) (closes G pool f))
      (fun_ext (callee_same (opening f is_open) (total_by G pool k (opening f is_open)) (total_by H pool k (opening f is_open)) (λ g hg q. same_by k (opening f is_open) g hg)))
      ∙ rw (calls f hf, fun_ext (same_close f hf))

  pub same_graph : (entries : List ℕ) → visit_of G pool entries ≡ visit_of H pool entries
  unfolding visit_of total_of
  same_graph entries =
      ap (λ (callee : ℕ → Visited). largest_of callee entries 0)
      (fun_ext (callee_same none (total_by G pool 128 none) (total_by H pool 128 none) (λ g hg q. same_by 128 none g hg)))

pub reaches_on : (G : Graph) (f x y : ℕ) → Reaches G f x → Calls G x y → Reaches G f y
reaches_on G f _ y same c = more c same
reaches_on G f x y (more {h = h} d r) c = more d (reaches_on G h x y r c)

module _ (G : Graph) (pool : ℕ) where
  pub tame_self : (f : ℕ) → Tame G pool f → G.weight f ≤ pool
  unfolding weigh
  tame_self f tame = omega (arith, (tame (f ∷ []) last).1)

  pub tame_callee : (f h : ℕ) → Tame G pool f → Calls G f h → Tame G (pool - G.weight f) h
  unfolding weigh
  tame_callee f h tame c p r = let t = tame (f ∷ p) (call c r) in (t.0.1, omega (arith, t.1))

  pub tame_reached : (f x : ℕ) → Tame G pool f → Reaches G f x → Tame G pool x
  tame_reached f x tame s p r =
      let l = longer G p s r in
      let t = tame l.whole l.chain in
      (l.distinct t.0, omega (arith, t.1, l.light))
