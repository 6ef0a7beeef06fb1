-- Opening and closing a function, on colours and totals. Assumes nothing.
--     opened_kept, opened_open         a function opens
--     closed_after                     a function closes with its total
--     met_closed                       a closed function that is met again has the total that is kept for it
use mathlib.Core.Path.{◌≡◌, refl, sym, ap, ◌∙◌, subst, fun_ext}
use mathlib.Core.Bool.{Bool, false}
use mathlib.Core.List.{List, [], ◌∷◌}
use Prim.Native.Nat.{ℕ, zero, suc, ◌+◌, ◌*◌, ◌≤◌, ◌<◌}
use native.Mathlib.Nat.{le_refl, le_trans}
use native.Mathlib.Omega.{arith}
use native.Mathlib.Decide.{ℕ_discrete}
use lib.Dec.{eqb}
use lib.ListN.{length, get_or, set, replicate, length-set, length-replicate}
use lib.Seq.{get_or-set_same, get_or-set_other}
use borrow.Author.Tests.{eq-eqb, ne_eqb}
use Rattle.std.specs.Prelude.{Ok}
use Rattle.visit.specs.declared.State.{State}
use Rattle.visit.specs.Graph.{Graph, Calls, Reaches, same, more}
use Rattle.visit.specs.Visit.{callee_of, opening, total_of, none}
use Rattle.visit.proofs.Answers.{callee_new}
use Rattle.visit.proofs.Exact.{independent}
use Rattle.visit.specs.Marks.{open_in, ClosedIn, unopened, opened, closed, fresh, Kept, After, AtRest}

-- a mark that is not 0 opens nothing anew
pub unopened_set : (l : List ℕ) (i a : ℕ) → unopened (set l i (suc a)) ≤ unopened l
unfolding unopened
unopened_set [] i a = omega arith
unopened_set (zero ∷ l) zero a = omega arith
unopened_set (suc c ∷ l) zero a = omega arith
unopened_set (zero ∷ l) (suc i) a = omega (arith, unopened_set l i a)
unopened_set (suc c ∷ l) (suc i) a = omega (arith, unopened_set l i a)

-- a function that was not yet open is one less
pub unopened_open : (l : List ℕ) (i a : ℕ) → i < length l → get_or l i 0 ≡ 0 → suc (unopened (set l i (suc a))) ≡ unopened l
unfolding unopened
unopened_open [] i a h e = omega arith
unopened_open (zero ∷ l) zero a h e = refl
unopened_open (suc c ∷ l) zero a h e = omega arith
unopened_open (zero ∷ l) (suc i) a h e = omega (arith, unopened_open l i a (omega arith) e)
unopened_open (suc c ∷ l) (suc i) a h e = omega (arith, unopened_open l i a (omega arith) e)

-- the measures of the cycle: 2 for each function not yet open, and 1 more for `largest`
pub into : (t u u' : ℕ) → 2 * u ≡ t → suc u' ≡ u → 2 * u' + 1 < t
into t u u' e h = omega arith

-- a colour that is not new and not open is closed
pub two : (k : ℕ) → (k ≡ 1 → ⊥) → (k ≡ 0 → ⊥) → 2 ≤ k
two zero n₁ n₀ = absurd (n₀ refl)
two (suc zero) n₁ n₀ = absurd (n₁ refl)
two (suc (suc k)) n₁ n₀ = omega arith

-- ---- the open functions
pub open_not : (colours : List ℕ) (g : ℕ) → (get_or colours g 0 ≡ 1 → ⊥) → open_in colours g ≡ false
open_not colours g n = ne_eqb (get_or colours g 0) 1 n

pub opened_open : (colours : List ℕ) (f : ℕ) → f < length colours → open_in (set colours f 1) ≡ opening f (open_in colours)
opened_open colours f h = fun_ext (λ g. by g (ℕ_discrete g f))
  where
    by : (g : ℕ) → Dec (g ≡ f) → open_in (set colours f 1) g ≡ opening f (open_in colours) g
    by g (yes q) = rw (eq-eqb g f q) (eq-eqb (get_or (set colours f 1) g 0) 1 (ap (λ (x : ℕ). get_or (set colours f 1) x 0) q ∙ get_or-set_same colours f 1 0 h))
    by g (no n) = rw (ne_eqb g f n) (ap (λ (x : ℕ). eqb x 1) (get_or-set_other colours f g 1 0 n))

-- f closes: of what was open while it was, it alone is no longer
closed_open : (colours before : List ℕ) (f : ℕ) → f < length colours → f < length before → get_or before f 0 ≡ 0
    → open_in colours ≡ open_in (set before f 1) → open_in (set colours f 2) ≡ open_in before
closed_open colours before f h hb new e = fun_ext (λ g. by g (ℕ_discrete g f))
  where
    by : (g : ℕ) → Dec (g ≡ f) → open_in (set colours f 2) g ≡ open_in before g
    by g (yes q) =
        let a : get_or (set colours f 2) g 0 ≡ 2 = ap (λ (x : ℕ). get_or (set colours f 2) x 0) q ∙ get_or-set_same colours f 2 0 h in
        let b : get_or before g 0 ≡ 0 = ap (λ (x : ℕ). get_or before x 0) q ∙ new in
        ne_eqb (get_or (set colours f 2) g 0) 1 (λ z. omega arith) ∙ sym (ne_eqb (get_or before g 0) 1 (λ z. omega arith))
    by g (no n) =
        ap (λ (x : ℕ). eqb x 1) (get_or-set_other colours f g 2 0 n)
        ∙ ap (λ (p : ℕ → Bool). p g) e
        ∙ ap (λ (x : ℕ). eqb x 1) (get_or-set_other before f g 1 0 n)

module _ (G : Graph) (pool : ℕ) where
  -- ---- a function opens
  still_closed : (f : ℕ) (s : State) → get_or s.colours f 0 ≡ 0 → (g : ℕ) → ClosedIn s g → ClosedIn (opened f s) g
  still_closed f s new g c = by (ℕ_discrete g f)
    where
      by : Dec (g ≡ f) → ClosedIn (opened f s) g
      by (yes q) = let z : get_or s.colours g 0 ≡ 0 = ap (λ (x : ℕ). get_or s.colours x 0) q ∙ new in absurd (omega arith)
      by (no n) = rw (get_or-set_other s.colours f g 1 0 n) c

  was_closed : (f : ℕ) (s : State) → f < length s.colours → (g : ℕ) → ClosedIn (opened f s) g → ClosedIn s g
  was_closed f s h g c = by (ℕ_discrete g f)
    where
      by : Dec (g ≡ f) → ClosedIn s g
      by (yes q) =
          let z : get_or (set s.colours f 1) g 0 ≡ 1 = ap (λ (x : ℕ). get_or (set s.colours f 1) x 0) q ∙ get_or-set_same s.colours f 1 0 h in
          absurd (omega (arith, c))
      by (no n) = rw (get_or-set_other s.colours f g 1 0 n) at c

  pub opened_kept : (f : ℕ) (s : State) → f < 128 → get_or s.colours f 0 ≡ 0 → Kept G pool s → Kept G pool (opened f s)
  opened_kept f s hf new K = record {
    colours_long = length-set s.colours f 1 ∙ K.colours_long;
    totals_long = K.totals_long;
    total = λ g c. K.total g (was_closed f s (omega (arith, K.colours_long)) g c);
    callees = λ g h c k. still_closed f s new h (K.callees g h (was_closed f s (omega (arith, K.colours_long)) g c) k);
  }

  pub after_itself : (s : State) → Kept G pool s → After G pool s s
  after_itself s K = record { kept = K; same_open = refl; fewer = le_refl (unopened s.colours); still = λ g c. c }

  pub after_both : (a b d : State) → After G pool a b → After G pool b d → After G pool a d
  after_both a b d A B = record {
    kept = B.kept;
    same_open = B.same_open ∙ A.same_open;
    fewer = le_trans B.fewer A.fewer;
    still = λ g c. B.still g (A.still g c);
  }

  -- ---- a function closes
  closed_still : (f t : ℕ) (r : State) → f < length r.colours → (g : ℕ) → ClosedIn r g → ClosedIn (closed f t r) g
  closed_still f t r h g c = by (ℕ_discrete g f)
    where
      by : Dec (g ≡ f) → ClosedIn (closed f t r) g
      by (yes q) = rw q (omega (arith, get_or-set_same r.colours f 2 0 h))
      by (no n) = rw (get_or-set_other r.colours f g 2 0 n) c

  module _ (f t : ℕ) (s r : State) (hf : f < 128) (new : get_or s.colours f 0 ≡ 0) (K : Kept G pool s) (A : After G pool (opened f s) r)
      (own : total_of G pool none f ≡ Ok t) (row : (h : ℕ) → Calls G f h → ClosedIn r h) where
    hr : f < length r.colours
    hr = omega (arith, A.kept.colours_long)

    pub closed_self : ClosedIn (closed f t r) f
    closed_self = omega (arith, get_or-set_same r.colours f 2 0 hr)

    pub closed_total : get_or (set r.totals f t) f 0 ≡ t
    closed_total = get_or-set_same r.totals f t 0 (omega (arith, A.kept.totals_long))

    closed_kept : Kept G pool (closed f t r)
    closed_kept = record {
      colours_long = length-set r.colours f 2 ∙ A.kept.colours_long;
      totals_long = length-set r.totals f t ∙ A.kept.totals_long;
      total = λ g c. total_by_lem g c (ℕ_discrete g f);
      callees = λ g h c k. closed_still f t r hr h (callee_by g h c k (ℕ_discrete g f));
    }
      where
        total_by_lem : (g : ℕ) → ClosedIn (closed f t r) g → Dec (g ≡ f) → total_of G pool none g ≡ Ok (get_or (set r.totals f t) g 0)
        total_by_lem g c (yes q) = rw q (own ∙ ap Ok (sym closed_total))
        total_by_lem g c (no n) = A.kept.total g (rw (get_or-set_other r.colours f g 2 0 n) at c) ∙ ap Ok (sym (get_or-set_other r.totals f g t 0 n))

        callee_by : (g h : ℕ) → ClosedIn (closed f t r) g → Calls G g h → Dec (g ≡ f) → ClosedIn r h
        callee_by g h c k (yes q) = row h (subst (λ (x : ℕ). Calls G x h) q k)
        callee_by g h c k (no n) = A.kept.callees g h (rw (get_or-set_other r.colours f g 2 0 n) at c) k

    pub closed_after : After G pool s (closed f t r)
    closed_after = record {
      kept = closed_kept;
      same_open = closed_open r.colours s.colours f hr (omega (arith, K.colours_long)) new A.same_open;
      fewer = le_trans (unopened_set r.colours f 1) (le_trans A.fewer (unopened_set s.colours f 0));
      still = λ g c. closed_still f t r hr g (A.still g (still_closed f s new g c));
    }

  -- ---- a closed function is met
  closed_reached : (s : State) → Kept G pool s → {g x : ℕ} → Reaches G g x → ClosedIn s g → ClosedIn s x
  closed_reached s K same c = c
  closed_reached s K (more k r) c = closed_reached s K r (K.callees _ _ c k)

  closed_not_open : (s : State) (g : ℕ) → ClosedIn s g → open_in s.colours g ≡ false
  closed_not_open s g c = open_not s.colours g (λ z. omega arith)

  pub met_closed : (s : State) → Kept G pool s → (g : ℕ) → g < 128 → ClosedIn s g → (is_open : ℕ → Bool) → open_in s.colours ≡ is_open
      → callee_of is_open (total_of G pool is_open) g ≡ Ok (get_or s.totals g 0)
  met_closed s K g hg c is_open e =
      callee_new is_open (total_of G pool is_open) g hg (away g c)
      ∙ independent G pool none g hg refl (get_or s.totals g 0) (K.total g c) is_open (λ x r. away x (closed_reached s K r c))
    where
      away : (x : ℕ) → ClosedIn s x → is_open x ≡ false
      away x d = ap (λ (p : ℕ → Bool). p x) (sym e) ∙ closed_not_open s x d

  -- ---- no function is open
  all_zero : (n g : ℕ) → get_or {A = ℕ} (replicate n 0) g 0 ≡ 0
  all_zero zero g = refl
  all_zero (suc n) zero = refl
  all_zero (suc n) (suc g) = all_zero n g

  pub fresh_rest : AtRest G pool fresh
  unfolding fresh
  fresh_rest = record {
    kept = record {
      colours_long = length-replicate {A = ℕ} 128 0;
      totals_long = length-replicate {A = ℕ} 128 0;
      total = λ g c. absurd (omega (arith, c, all_zero 128 g));
      callees = λ g h c k. absurd (omega (arith, c, all_zero 128 g));
    };
    none_open = fun_ext (λ g. open_not (replicate 128 0) g (λ z. omega (arith, all_zero 128 g)));
  }
