-- What the visit's answer means for the call graph. Chains of calls, their weight and what is reached are Graph.antt's: the visit is not in them.
-- Entries are rows of the directory; those from 128 on are unknown. Where sums are spoken of, the pool is below 65,535, as 35 has it. Assumes nothing.
--     fuel_lasts             no fuel is spoken of: a function's total is its weight and the largest total among its callees while it is open too
--     accepted               a total is answered exactly if from every known entry no chain of calls repeats a function or weighs more than the pool
--     entry_total            then each known entry has a total, which is the largest weight of its chains, and at most the answer and the pool
--     chains_light           and along each chain from it functions are distinct, and the sum of the weights is at most that total
--     largest_total          and the answer is the largest of these totals, or 0
--     least_pool             and is the smallest pool at which this graph is accepted
--     chains_end             (Chains.antt) a chain that repeats no function has at most 128
--     names_cycle            21 names a function that an entry reaches and that reaches itself
--     names_overrun          20 names a function that an entry reaches, with the largest weight of its chains, which passes the pool
--     same_total             a total does not depend on the entry: a function that is closed with a total has it as an entry too
use Rattle.std.specs.Prelude.{◌≡◌, refl, Bool, true, false, List, ◌↔◌, ◌⊎◌, ℕ, ◌≤◌, ◌<◌, min, ltb, Ok, Err}
use Rattle.std.proofs.Common.{sym, true≢false, inl, inr, le_trans, arith, ltb-true, ltb-false}
use Rattle.std.proofs.Math.Logic.{⊎_elim}
use Rattle.visit.specs.declared.Overrun.{Overrun}
use Rattle.visit.specs.declared.Overrun.TheVariants.{Cycle, Over}
use Rattle.visit.specs.Graph.{Graph, Among, Calls, Chain, weigh, Distinct, Reaches, Heaviest, Tame}
use Rattle.visit.specs.Visit.{Visited, onward, callee_of, closes, opening, total_of, met_of, none, visit_of}
use Rattle.visit.proofs.Answers.{AllFine, callee_unknown, callee_fine, callee_failed, fine_callees, failed_callee}
use Rattle.visit.specs.Fuel.{total_step}
use Rattle.visit.proofs.Chains.{longer, no_cycle}
use Rattle.visit.proofs.Exact.{within, clear, independent, loops, weighs, overruns}

-- each known entry is tame
abbrev pub AllTame : Graph → ℕ → List ℕ → Type 0
AllTame G pool entries = (f : ℕ) → Among f entries → f < 128 → Tame G pool f

module _ (G : Graph) (pool : ℕ) where
  pub fuel_lasts : (f : ℕ) (is_open : ℕ → Bool) → f < 128 → is_open f ≡ false
      → total_of G pool is_open f ≡ onward (met_of G pool (opening f is_open) (G.calls f) 0) (closes G pool f)
  fuel_lasts = total_step G pool

  pub same_total : (f t : ℕ) (is_open : ℕ → Bool) → f < 128 → is_open f ≡ false → total_of G pool is_open f ≡ Ok t → total_of G pool none f ≡ Ok t
  same_total f t is_open hf new e = independent G pool is_open f hf new t e none (λ x r. refl)

  module _ (entries : List ℕ) where
    all_fine : (t : ℕ) → visit_of G pool entries ≡ Ok t → AllFine (callee_of none (total_of G pool none)) entries 0 t
    unfolding visit_of
    all_fine t e = fine_callees (callee_of none (total_of G pool none)) entries 0 t e

    -- a failure is an entry's
    failed_entry : (o : Overrun) → visit_of G pool entries ≡ Err o → (f : ℕ) × Among f entries × (f < 128) × (total_of G pool none f ≡ Err o)
    unfolding visit_of
    failed_entry o e =
        let a = failed_callee (callee_of none (total_of G pool none)) entries 0 o e in
        let b = callee_failed none (total_of G pool none) a.0 o a.2 in
        (a.0, a.1, b.0, ⊎_elim (λ p. absurd (true≢false (sym p.0))) (λ p. p.1) b.1)

    -- each known entry has a total
    has_total : (t : ℕ) → visit_of G pool entries ≡ Ok t → (f : ℕ) → Among f entries → f < 128 → (u : ℕ) × (total_of G pool none f ≡ Ok u) × (u ≤ t)
    has_total t e f i hf =
        let a = (all_fine t e).each f i in
        (a.0, (callee_fine none (total_of G pool none) f hf a.0 a.1).1, a.2)

    pub largest_total : (t : ℕ) → visit_of G pool entries ≡ Ok t → (t ≡ 0) ⊎ ((f : ℕ) × Among f entries × (f < 128) × (total_of G pool none f ≡ Ok t))
    largest_total t e = ⊎_elim (λ z. inl z) (λ m. by m.0 m.1 m.2 (ltb m.0 128) refl) (all_fine t e).made
      where
        by : (f : ℕ) → Among f entries → callee_of none (total_of G pool none) f ≡ Ok t → (k : Bool) → ltb f 128 ≡ k
            → (t ≡ 0) ⊎ ((f : ℕ) × Among f entries × (f < 128) × (total_of G pool none f ≡ Ok t))
        by f i q true k = let l : f < 128 = ltb-true f 128 k in inr (f, i, l, (callee_fine none (total_of G pool none) f l t q).1)
        by f i q false k = let z = callee_unknown none (total_of G pool none) f (ltb-false f 128 k) in inl (cc)

    pub names_cycle : (x : ℕ) → visit_of G pool entries ≡ Err (Cycle x)
        → (f : ℕ) × Among f entries × (f < 128) × Reaches G f x × ((y : ℕ) × Reaches G x y × Calls G y x)
    names_cycle x e =
        let a = failed_entry (Cycle x) e in
        let l = loops G pool none a.0 a.2 refl x a.3 in
        ⊎_elim (λ o. absurd (true≢false (sym o.1))) (λ o. (a.0, a.1, a.2, o.0, (l.0, o.1, l.1))) l.2

    module _ (small : pool < 65535) where
      pub names_overrun : (x d : ℕ) → visit_of G pool entries ≡ Err (Over x d)
          → (f : ℕ) × Among f entries × (f < 128) × Reaches G f x × ((t : ℕ) × Heaviest G x t × (d ≡ min 65535 t)) × (pool < d)
      names_overrun x d e =
          let a = failed_entry (Over x d) e in
          let o = overruns G pool small none a.0 a.2 refl x d a.3 in
          (a.0, a.1, a.2, o.0, o.1, o.2)

      pub entry_total : (t : ℕ) → visit_of G pool entries ≡ Ok t → (f : ℕ) → Among f entries → f < 128
          → (u : ℕ) × (total_of G pool none f ≡ Ok u) × Heaviest G f u × (u ≤ t) × (u ≤ pool)
      entry_total t e f i hf =
          let a = has_total t e f i hf in
          (a.0, a.1, weighs G pool small none f hf refl a.0 a.1, a.2, within G pool none f hf refl a.0 a.1)

      pub chains_light : (f u : ℕ) → f < 128 → total_of G pool none f ≡ Ok u → (p : List ℕ) → Chain G f p → Distinct p × (weigh G p ≤ u) × (u ≤ pool)
      chains_light f u hf e p r =
          ((clear G pool none f hf refl u e p r).1, (weighs G pool small none f hf refl u e).0 p r, within G pool none f hf refl u e)

      is_tame : (t : ℕ) → visit_of G pool entries ≡ Ok t → AllTame G pool entries
      is_tame t e f i hf p r =
          let a = has_total t e f i hf in
          let l = chains_light f a.0 hf a.1 p r in
          (l.0, le_trans l.1 l.2)

      tame_fine : AllTame G pool entries → (v : Visited) → visit_of G pool entries ≡ v → (t : ℕ) × (visit_of G pool entries ≡ Ok t)
      tame_fine tame (Ok t) e = (t, e)
      tame_fine tame (Err (Cycle x)) e =
          let a = names_cycle x e in
          absurd (no_cycle G pool (tame a.0 a.1 a.2) a.3 a.4.1 a.4.2)
      tame_fine tame (Err (Over x d)) e =
          let a = names_overrun x d e in
          let h = a.4.1.1 in
          let l = longer G h.0 a.3 h.1 in
          absurd (omega (arith, a.4.2, a.5, h.2, l.light, (tame a.0 a.1 a.2 l.whole l.chain).1))

      pub accepted : ((t : ℕ) × (visit_of G pool entries ≡ Ok t)) ↔ AllTame G pool entries
      accepted = (λ o. is_tame o.0 o.1, λ tame. tame_fine tame (visit_of G pool entries) refl)

      -- the visit at another pool, over the same weights
      module _ (t : ℕ) (e : visit_of G pool entries ≡ Ok t) where
        needs : (u : ℕ) → (f : ℕ) → Among f entries → f < 128 → total_of G pool none f ≡ Ok t → Tame G u f → t ≤ u
        needs u f i hf q tame = let h = (weighs G pool small none f hf refl t q).1 in omega (arith, h.2, (tame h.0 h.1).1)

        suffices : (u : ℕ) → t ≤ u → (f : ℕ) → Among f entries → f < 128 → Tame G u f
        suffices u h f i hf p r =
            let a = has_total t e f i hf in
            let l = chains_light f a.0 hf a.1 p r in
            (l.0, le_trans l.1 (le_trans a.2 h))

module _ (G : Graph) (pool : ℕ) (entries : List ℕ) (small : pool < 65535) (t : ℕ) (e : visit_of G pool entries ≡ Ok t) (other : ℕ) (other-small : other < 65535) where
  pub least_pool : ((u : ℕ) × (visit_of G other entries ≡ Ok u)) ↔ (t ≤ other)
  least_pool = (
    λ o. ⊎_elim (λ z. omega arith)
        (λ m. needs G pool entries small t e other m.0 m.1 m.2 m.3 ((accepted G other entries other-small).0 o m.0 m.1 m.2))
        (largest_total G pool entries t e),
    λ h. (accepted G other entries other-small).1 (suffices G pool entries small t e other h),
  )
