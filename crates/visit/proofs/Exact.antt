-- What an answer of the visit says of the call graph. Assumes nothing.
--     clear            a function with a total: its chains of calls repeat no function and pass none that is open
--     within           a total is at most the pool
--     weighs           below the pool 65,535: its total is the largest sum along its chains
--     loops            21: a function on a cycle, or one that is open, is called from what is reached
--     overruns         20: a function is reached, and its largest sum passes the pool
--     independent      a total does not depend on which functions are open, as long as none of them is reached
use Rattle.std.specs.Prelude.{◌≡◌, refl, Bool, true, false, ◌||◌, ◌⊎◌, ℕ, ◌+◌, ◌≤◌, ◌<◌, min, ltb, eqb, Ok, Err}
use Rattle.std.proofs.Common.{sym, ◌∙◌, true≢false, inl, inr, ltb-true, ltb-false, eqb-true, eq-eqb, ne_eqb}
use mathlib.Core.List.{List, [], ◌∷◌}
use Rattle.std.proofs.Math.Logic.{⊎_elim}
use native.Mathlib.Omega.{arith}
use Rattle.std.proofs.lemmas.Bool.{eqb-false}
use Rattle.visit.specs.declared.Overrun.TheVariants.{Cycle, Over}
use Rattle.visit.specs.Graph.{Graph, Among, Calls, Chain, last, call, weigh, Distinct, Reaches, same, more, Heaviest}
use Rattle.visit.specs.Visit.{Visited, onward, callee_of, sum_of, closes, opening, total_of, met_of}
use Rattle.visit.proofs.Answers.{AllFine, onward_fine, onward_failed, closes_fine, closes_failed, callee_unknown, callee_new, callee_fine, callee_failed, fine_callees, failed_callee, same_fine}
use Rattle.visit.specs.Fuel.{total_step, by_callees}

-- ---- what stays open while one more function is
module _ (f : ℕ) (is_open : ℕ → Bool) where
  opening_self : opening f is_open f ≡ true
  opening_self = rw (eq-eqb f f refl)

  -- not open while f is: not f, and not open before
  pub opening_not : (x : ℕ) → opening f is_open x ≡ false → (is_open x ≡ false) × (x ≡ f → ⊥)
  opening_not x e = by (eqb x f) refl e
    where
      by : (b : Bool) → eqb x f ≡ b → (b || is_open x) ≡ false → (is_open x ≡ false) × (x ≡ f → ⊥)
      by true q e = absurd (true≢false e)
      by false q e = (e, eqb-false x f q)

  pub opening_still : (x : ℕ) → is_open x ≡ false → (x ≡ f → ⊥) → opening f is_open x ≡ false
  opening_still x e n = rw (ne_eqb x f n) e

  opening_is : (x : ℕ) → opening f is_open x ≡ true → (x ≡ f) ⊎ (is_open x ≡ true)
  opening_is x e = by (eqb x f) refl e
    where
      by : (b : Bool) → eqb x f ≡ b → (b || is_open x) ≡ true → (x ≡ f) ⊎ (is_open x ≡ true)
      by true q e = inl (eqb-true x f q)
      by false q e = inr e

-- nothing in a list is open
abbrev pub Clear : (ℕ → Bool) → List ℕ → Type 0
Clear is_open p = (x : ℕ) → Among x p → is_open x ≡ false

pub reached_chain : (G : Graph) {f x : ℕ} → Reaches G f x → (p : List ℕ) × Chain G f p × Among x p
reached_chain G {f} same = (f ∷ [], last, inl refl)
reached_chain G {f} (more c r) = let q = reached_chain G r in (f ∷ q.0, call c q.1, inr q.2)

module _ (G : Graph) (pool : ℕ) where
  -- the callees of f were met while it was open, and each has a total
  pub record Walked (is_open : ℕ → Bool) (f best : ℕ) : Type 0 where
    pub walked : met_of G pool (opening f is_open) (G.calls f) 0 ≡ Ok best
    pub callees : (h : ℕ) → Calls G f h → (u : ℕ) × (opening f is_open h ≡ false) × (total_of G pool (opening f is_open) h ≡ Ok u) × (u ≤ best)
    pub largest : (best ≡ 0) ⊎ ((h : ℕ) × Calls G f h × (opening f is_open h ≡ false) × (total_of G pool (opening f is_open) h ≡ Ok best))

  walked_of : (is_open : ℕ → Bool) (f best : ℕ) → met_of G pool (opening f is_open) (G.calls f) 0 ≡ Ok best → Walked is_open f best
  walked_of is_open f best e = record {
    walked = e;
    callees = λ h c. let r = all.each h c.0 in let q = callee_fine (opening f is_open) (total_of G pool (opening f is_open)) h c.1 r.0 r.1 in (r.0, q.0, q.1, r.2);
    largest = ⊎_elim (λ z. inl z) (λ m. by m.0 m.1 m.2 (ltb m.0 128) refl) all.made;
  }
    where
      all : AllFine (callee_of (opening f is_open) (total_of G pool (opening f is_open))) (G.calls f) 0 best
      all = fine_callees (callee_of (opening f is_open) (total_of G pool (opening f is_open))) (G.calls f) 0 best e

      by : (h : ℕ) → Among h (G.calls f) → callee_of (opening f is_open) (total_of G pool (opening f is_open)) h ≡ Ok best → (k : Bool) → ltb h 128 ≡ k
          → (best ≡ 0) ⊎ ((h : ℕ) × Calls G f h × (opening f is_open h ≡ false) × (total_of G pool (opening f is_open) h ≡ Ok best))
      by h i q true k =
          let l : h < 128 = ltb-true h 128 k in
          let r = callee_fine (opening f is_open) (total_of G pool (opening f is_open)) h l best q in
          inr (h, (i, l), r.0, r.1)
      by h i q false k = let z = callee_unknown (opening f is_open) (total_of G pool (opening f is_open)) h (ltb-false h 128 k) in inl (cc)

  -- a function closed with the total t
  pub record Closed (is_open : ℕ → Bool) (f t : ℕ) : Type 0 where
    pub best : ℕ
    pub row : Walked is_open f best
    pub sum : sum_of G f best ≡ t
    pub bounded : t ≤ pool

  abbrev Visit : (ℕ → Bool) → ℕ → Visited
  Visit is_open f = onward (met_of G pool (opening f is_open) (G.calls f) 0) (closes G pool f)

  closed_of : (is_open : ℕ → Bool) (f t : ℕ) → Visit is_open f ≡ Ok t → Closed is_open f t
  closed_of is_open f t e =
      let o = onward_fine (met_of G pool (opening f is_open) (G.calls f) 0) (closes G pool f) t e in
      let c = closes_fine G pool f o.0 t o.2 in
      record { best = o.0; row = walked_of is_open f o.0 o.1; sum = c.0; bounded = c.1 }

  pub within : (is_open : ℕ → Bool) (f : ℕ) → f < 128 → is_open f ≡ false → (t : ℕ) → total_of G pool is_open f ≡ Ok t → t ≤ pool
  within is_open f hf new t e = (closed_of is_open f t (sym (total_step G pool f is_open hf new) ∙ e)).bounded

  -- ---- a total: no chain repeats a function or passes one that is open
  abbrev ClearOf : (ℕ → Bool) → ℕ → Visited → Type 0
  ClearOf is_open f v = (t : ℕ) → v ≡ Ok t → (p : List ℕ) → Chain G f p → Clear is_open p × Distinct p

  clear_chain : (is_open : ℕ → Bool) {f : ℕ} {p : List ℕ} → is_open f ≡ false → (best : ℕ) → Walked is_open f best
      → ((h : ℕ) → Calls G f h → opening f is_open h ≡ false → ClearOf (opening f is_open) h (total_of G pool (opening f is_open) h))
      → Chain G f p → Clear is_open p × Distinct p
  clear_chain is_open new best W on last = (λ x i. ⊎_elim (λ q. rw (← q) new) (λ j. absurd j) i, (λ i. absurd i, tt))
  clear_chain is_open {f} new best W on (call {h = h} {p = q} c r) =
      let k = W.callees h c in
      let a = on h c k.1 k.0 k.2 q r in (
        λ x i. ⊎_elim (λ e. rw (← e) new) (λ j. (opening_not f is_open x (a.0 x j)).0) i,
        (λ j. (opening_not f is_open f (a.0 f j)).1 refl, a.1),
      )

  pub clear : (is_open : ℕ → Bool) (f : ℕ) → f < 128 → is_open f ≡ false → ClearOf is_open f (total_of G pool is_open f)
  clear =
      by_callees G pool ClearOf
      (λ is_open f hf new on t e p r. let c = closed_of is_open f t e in clear_chain is_open new c.best c.row on r)

  clear_reached : (is_open : ℕ → Bool) (f t : ℕ) → f < 128 → is_open f ≡ false → total_of G pool is_open f ≡ Ok t → (x : ℕ) → Reaches G f x → is_open x ≡ false
  clear_reached is_open f t hf new e x r =
      let q = reached_chain G r in
      (clear is_open f hf new t e q.0 q.1).0 x q.2

  -- ---- a total does not depend on what is open and not reached
  abbrev IndependentOf : (ℕ → Bool) → ℕ → Visited → Type 0
  IndependentOf is_open f v = (t : ℕ) → v ≡ Ok t → (is_open' : ℕ → Bool) → ((x : ℕ) → Reaches G f x → is_open' x ≡ false) → total_of G pool is_open' f ≡ Ok t

  module _ (is_open : ℕ → Bool) (f : ℕ) (hf : f < 128) (new : is_open f ≡ false)
      (on : (h : ℕ) → Calls G f h → opening f is_open h ≡ false → IndependentOf (opening f is_open) h (total_of G pool (opening f is_open) h))
      (is_open' : ℕ → Bool) (away : (x : ℕ) → Reaches G f x → is_open' x ≡ false) where
    callee_elsewhere : (h u : ℕ) → Among h (G.calls f) → callee_of (opening f is_open) (total_of G pool (opening f is_open)) h ≡ Ok u
        → callee_of (opening f is_open') (total_of G pool (opening f is_open')) h ≡ Ok u
    callee_elsewhere h u i e = by (ltb h 128) refl
      where
        by : (k : Bool) → ltb h 128 ≡ k → callee_of (opening f is_open') (total_of G pool (opening f is_open')) h ≡ Ok u
        by true k =
            let l : h < 128 = ltb-true h 128 k in
            let c : Calls G f h = (i, l) in
            let q = callee_fine (opening f is_open) (total_of G pool (opening f is_open)) h l u e in
            callee_new (opening f is_open') (total_of G pool (opening f is_open')) h l
            (opening_still f is_open' h (away h (more c same)) (opening_not f is_open h q.0).1)
            ∙ on h c q.0 u q.1 (opening f is_open')
            (λ x r. opening_still f is_open' x (away x (more c r)) (opening_not f is_open x (clear_reached (opening f is_open) h u l q.0 q.1 x r)).1)
        by false k =
            callee_unknown (opening f is_open') (total_of G pool (opening f is_open')) h (ltb-false h 128 k)
            ∙ sym (callee_unknown (opening f is_open) (total_of G pool (opening f is_open)) h (ltb-false h 128 k))
            ∙ e

    elsewhere : (t : ℕ) → Visit is_open f ≡ Ok t → total_of G pool is_open' f ≡ Ok t
    unfolding onward
    elsewhere t e =
        let o = onward_fine (met_of G pool (opening f is_open) (G.calls f) 0) (closes G pool f) t e in
        total_step G pool f is_open' hf (away f same)
        ∙ rw (same_fine (callee_of (opening f is_open) (total_of G pool (opening f is_open))) (callee_of (opening f is_open') (total_of G pool (opening f is_open'))) (G.calls f) 0 o.0 callee_elsewhere o.1, onward)
        o.2

  pub independent : (is_open : ℕ → Bool) (f : ℕ) → f < 128 → is_open f ≡ false → IndependentOf is_open f (total_of G pool is_open f)
  independent = by_callees G pool IndependentOf (λ is_open f hf new on t e is_open' away. elsewhere is_open f hf new on is_open' away t e)

  -- ---- 21
  abbrev pub Looped : (ℕ → Bool) → ℕ → ℕ → Type 0
  Looped is_open f x = (y : ℕ) × Calls G y x × ((Reaches G f y × (is_open x ≡ true)) ⊎ (Reaches G f x × Reaches G x y))

  abbrev LoopOf : (ℕ → Bool) → ℕ → Visited → Type 0
  LoopOf is_open f v = (x : ℕ) → v ≡ Err (Cycle x) → Looped is_open f x

  loop_through : (is_open : ℕ → Bool) (f h : ℕ) → Calls G f h → (x : ℕ) → Looped (opening f is_open) h x → Looped is_open f x
  loop_through is_open f h c x (y, d, o) = (
    y,
    d,
    ⊎_elim
        (λ a. ⊎_elim (λ q. inr (rw q same, rw q (more c a.0))) (λ q. inl (more c a.0, q)) (opening_is f is_open x a.1))
        (λ a. inr (more c a.0, a.1)) o,
  )

  loop_callee : (is_open : ℕ → Bool) (f : ℕ)
      → ((h : ℕ) → Calls G f h → opening f is_open h ≡ false → LoopOf (opening f is_open) h (total_of G pool (opening f is_open) h))
      → (x : ℕ) → met_of G pool (opening f is_open) (G.calls f) 0 ≡ Err (Cycle x) → Looped is_open f x
  loop_callee is_open f on x e =
      let a = failed_callee (callee_of (opening f is_open) (total_of G pool (opening f is_open))) (G.calls f) 0 (Cycle x) e in
      let b = callee_failed (opening f is_open) (total_of G pool (opening f is_open)) a.0 (Cycle x) a.2 in
      let c : Calls G f a.0 = (a.1, b.0) in
      ⊎_elim (λ o. met a.0 c o.0 o.1) (λ o. loop_through is_open f a.0 c x (on a.0 c o.0 x o.1)) b.1
    where
      met : (h : ℕ) → Calls G f h → opening f is_open h ≡ true → Cycle x ≡ Cycle h → Looped is_open f x
      met h c o q =
          let z : x ≡ h = cc in
          (f, rw z c, ⊎_elim (λ w. let l : x ≡ f = z ∙ w in inr (rw l same, rw l same)) (λ w. inl (same, rw z w)) (opening_is f is_open h o))

  pub loops : (is_open : ℕ → Bool) (f : ℕ) → f < 128 → is_open f ≡ false → LoopOf is_open f (total_of G pool is_open f)
  loops =
      by_callees G pool LoopOf
      (λ is_open f hf new on x e. ⊎_elim (λ q. loop_callee is_open f on x q)
      (λ o. absurd (let z = (closes_failed G pool f o.0 (Cycle x) o.2).0 in cc))
      (onward_failed (met_of G pool (opening f is_open) (G.calls f) 0) (closes G pool f) (Cycle x) e))

  -- ---- the sums, for a pool below 65,535
  module _ (small : pool < 65535) where
    abbrev WeighsOf : (ℕ → Bool) → ℕ → Visited → Type 0
    WeighsOf is_open f v = (t : ℕ) → v ≡ Ok t → Heaviest G f t

    lighter : (is_open : ℕ → Bool) {f : ℕ} {p : List ℕ} (best : ℕ) → Walked is_open f best
        → ((h : ℕ) → Calls G f h → opening f is_open h ≡ false → WeighsOf (opening f is_open) h (total_of G pool (opening f is_open) h))
        → Chain G f p → weigh G p ≤ G.weight f + best
    unfolding weigh
    lighter is_open best W on last = omega arith
    lighter is_open {f} best W on (call {h = h} {p = q} c r) =
        let k = W.callees h c in
        omega (arith, (on h c k.1 k.0 k.2).0 q r, k.3)

    attained : (is_open : ℕ → Bool) (f best : ℕ) → Walked is_open f best
        → ((h : ℕ) → Calls G f h → opening f is_open h ≡ false → WeighsOf (opening f is_open) h (total_of G pool (opening f is_open) h))
        → (p : List ℕ) × Chain G f p × (weigh G p ≡ G.weight f + best)
    unfolding weigh
    attained is_open f best W on =
        ⊎_elim (λ z. (f ∷ [], last, omega arith))
        (λ m. let a = (on m.0 m.1 m.2 best m.3).1 in (f ∷ a.0, call m.1 a.1, omega (arith, a.2)))
        W.largest

    heaviest : (is_open : ℕ → Bool) (f best : ℕ) → Walked is_open f best
        → ((h : ℕ) → Calls G f h → opening f is_open h ≡ false → WeighsOf (opening f is_open) h (total_of G pool (opening f is_open) h))
        → Heaviest G f (G.weight f + best)
    heaviest is_open f best W on = (λ p r. lighter is_open best W on r, attained is_open f best W on)

    pub weighs : (is_open : ℕ → Bool) (f : ℕ) → f < 128 → is_open f ≡ false → WeighsOf is_open f (total_of G pool is_open f)
    weighs =
        by_callees G pool WeighsOf
        (λ is_open f hf new on t e.
        let c = closed_of is_open f t e in
        let q : G.weight f + c.best ≡ t = omega (arith, c.sum, c.bounded, small) in
        rw (← q) (heaviest is_open f c.best c.row on))

    -- ---- 20
    abbrev pub Overruns : ℕ → ℕ → ℕ → Type 0
    Overruns f x d = Reaches G f x × ((t : ℕ) × Heaviest G x t × (d ≡ min 65535 t)) × (pool < d)

    abbrev OverOf : (ℕ → Bool) → ℕ → Visited → Type 0
    OverOf is_open f v = (x d : ℕ) → v ≡ Err (Over x d) → Overruns f x d

    over_callee : (is_open : ℕ → Bool) (f : ℕ)
        → ((h : ℕ) → Calls G f h → opening f is_open h ≡ false → OverOf (opening f is_open) h (total_of G pool (opening f is_open) h))
        → (x d : ℕ) → met_of G pool (opening f is_open) (G.calls f) 0 ≡ Err (Over x d) → Overruns f x d
    over_callee is_open f on x d e =
        let a = failed_callee (callee_of (opening f is_open) (total_of G pool (opening f is_open))) (G.calls f) 0 (Over x d) e in
        let b = callee_failed (opening f is_open) (total_of G pool (opening f is_open)) a.0 (Over x d) a.2 in
        ⊎_elim (λ o. absurd (let z = o.1 in cc))
        (λ o. let r = on a.0 (a.1, b.0) o.0 x d o.1 in (more (a.1, b.0) r.0, r.1, r.2))
        b.1

    over_here : (is_open : ℕ → Bool) (f : ℕ) (x d best : ℕ) → met_of G pool (opening f is_open) (G.calls f) 0 ≡ Ok best → closes G pool f best ≡ Err (Over x d) → Overruns f x d
    over_here is_open f x d best e q =
        let c = closes_failed G pool f best (Over x d) q in
        let ex : x ≡ f = (let z = c.0 in cc) in
        let ed : d ≡ sum_of G f best = (let z = c.0 in cc) in
        let W = walked_of is_open f best e in
        rw (ex, ed)
        (same, (G.weight f + best, heaviest is_open f best W (λ h k o. weighs (opening f is_open) h k.1 o), refl), c.1)

    pub overruns : (is_open : ℕ → Bool) (f : ℕ) → f < 128 → is_open f ≡ false → OverOf is_open f (total_of G pool is_open f)
    overruns =
        by_callees G pool OverOf
        (λ is_open f hf new on x d e. ⊎_elim (λ q. over_callee is_open f on x d q) (λ o. over_here is_open f x d o.0 o.1 o.2)
        (onward_failed (met_of G pool (opening f is_open) (G.calls f) 0) (closes G pool f) (Over x d) e))
