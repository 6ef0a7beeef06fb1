-- What an answer of each part of the visit's definition says of the parts below it. Assumes nothing.
--     onward_fine, onward_failed       of a function's closing
--     fine_callees, failed_callee      of a list of functions
--     callee_fine, callee_failed       of one callee
-- And `handed`: what holds of a total and a state holds of them as they are handed on.
use Rattle.std.specs.Prelude.{◌≡◌, Bool, true, false, ◌⊎◌, ℕ, ◌≤◌, ◌<◌, max, ltb, Result, Ok, Err}
use Rattle.std.proofs.Math.Path.{refl}
use Rattle.std.proofs.Common.{sym, ap, ◌∙◌, subst, le_trans, arith, ltb-true, ltb-false, lt-ltb, le-ltb}
use mathlib.Core.List.{List, [], ◌∷◌}
use Rattle.std.proofs.Math.Logic.{inl, inr, ⊎_elim}
use Rattle.std.proofs.Math.Nat.{le-max_left, le-max_right, max-eq_left, max-eq_right}
use Rattle.std.proofs.Math.Decide.{dec_le}
use Rattle.visit.specs.declared.Overrun.{Overrun}
use Rattle.visit.specs.declared.State.{State}
use Rattle.visit.specs.declared.Overrun.TheVariants.{Cycle, Over}
use Rattle.visit.specs.Graph.{Graph, Among}
use Rattle.visit.specs.Visit.{Visited, onward, if_open, if_known, callee_of, largest_of, sum_of, closes}

-- 20 and 21
pub data Failed : Visited → Type 0 where
  cycled : {g : ℕ} → Failed (Err (Cycle g))
  passed : {g t : ℕ} → Failed (Err (Over g t))

-- an answer is one thing
pub fine_is : {t u : ℕ} → ◌≡◌ {A = Visited} (Ok t) (Ok u) → t ≡ u
fine_is e = cc

pub fine_not_cycle : {A : Type 0} {g t : ℕ} → ◌≡◌ {A = Visited} (Ok t) (Err (Cycle g)) → A
fine_not_cycle e = let z : ◌≡◌ {A = ℕ} 0 1 = cc in absurd (omega arith)

pub fine_not_over : {A : Type 0} {g d t : ℕ} → ◌≡◌ {A = Visited} (Ok t) (Err (Over g d)) → A
fine_not_over e = let z : ◌≡◌ {A = ℕ} 0 1 = cc in absurd (omega arith)

pub cycle_not_over : {A : Type 0} {g x d : ℕ} → ◌≡◌ {A = Visited} (Err (Cycle g)) (Err (Over x d)) → A
cycle_not_over e = let z : ◌≡◌ {A = ℕ} 0 1 = cc in absurd (omega arith)

pub fine_not_failed : {A : Type 0} {v : Visited} {t : ℕ} → Failed v → Ok t ≡ v → A
fine_not_failed cycled e = fine_not_cycle e
fine_not_failed passed e = fine_not_over e

-- a failure ends what comes after it
pub onward_stops : (v : Visited) (next : ℕ → Visited) → Failed v → onward v next ≡ v
unfolding onward
onward_stops (Ok t) next h = fine_not_failed h refl
onward_stops (Err o) next h = refl

-- a total goes on
pub onward_fine : (v : Visited) (next : ℕ → Visited) (t : ℕ) → onward v next ≡ Ok t → (b : ℕ) × (v ≡ Ok b) × (next b ≡ Ok t)
unfolding onward
onward_fine (Ok b) next t e = (b, refl, e)
onward_fine (Err o) next t e = absurd (cc)

pub onward_failed : (v : Visited) (next : ℕ → Visited) (o : Overrun) → onward v next ≡ Err o → (v ≡ Err o) ⊎ ((b : ℕ) × (v ≡ Ok b) × (next b ≡ Err o))
unfolding onward
onward_failed (Ok b) next o e = inr (b, refl, e)
onward_failed (Err x) next o e = inl e

-- what holds of a total and a state holds of what is equal to both at once
pub handed : (P : ℕ → State → Type 0) {t u : ℕ} {s r : State} → ◌≡◌ {A = Result (ℕ × State) Overrun} (Ok (t, s)) (Ok (u, r)) → P t s → P u r
handed P {t} {u} {s} {r} e h = let z : ◌≡◌ {A = ℕ × State} (t, s) (u, r) = cc in subst (λ (p : ℕ × State). P p.0 p.1) z h

-- ---- the close of a function
module _ (G : Graph) (pool f best : ℕ) where
  pub closes_over : pool < sum_of G f best → closes G pool f best ≡ Err (Over f (sum_of G f best))
  unfolding closes
  closes_over h = rw (lt-ltb pool (sum_of G f best) h)

  pub closes_within : sum_of G f best ≤ pool → closes G pool f best ≡ Ok (sum_of G f best)
  unfolding closes
  closes_within h = rw (le-ltb pool (sum_of G f best) h)

  pub closes_fine : (t : ℕ) → closes G pool f best ≡ Ok t → (sum_of G f best ≡ t) × (t ≤ pool)
  closes_fine t e = by (ltb pool (sum_of G f best)) refl
    where
      by : (o : Bool) → ltb pool (sum_of G f best) ≡ o → (sum_of G f best ≡ t) × (t ≤ pool)
      by true q = absurd (let z = closes_over (ltb-true pool (sum_of G f best) q) in cc)
      by false q =
          let h : sum_of G f best ≤ pool = ltb-false pool (sum_of G f best) q in
          let z = closes_within h in
          let s : sum_of G f best ≡ t = cc in
          (s, rw (← s) h)

  pub closes_failed : (o : Overrun) → closes G pool f best ≡ Err o → (o ≡ Over f (sum_of G f best)) × (pool < sum_of G f best)
  closes_failed o e = by (ltb pool (sum_of G f best)) refl
    where
      by : (b : Bool) → ltb pool (sum_of G f best) ≡ b → (o ≡ Over f (sum_of G f best)) × (pool < sum_of G f best)
      by true q = let g : pool < sum_of G f best = ltb-true pool (sum_of G f best) q in let z = closes_over g in (cc, g)
      by false q = absurd (let z = closes_within (ltb-false pool (sum_of G f best) q) in cc)

-- ---- one callee
module _ (is_open : ℕ → Bool) (total : ℕ → Visited) (g : ℕ) where
  pub callee_unknown : 128 ≤ g → callee_of is_open total g ≡ Ok 0
  unfolding if_known
  callee_unknown h = rw (le-ltb g 128 h)

  pub callee_open : g < 128 → is_open g ≡ true → callee_of is_open total g ≡ Err (Cycle g)
  unfolding if_known if_open
  callee_open h o = rw (lt-ltb g 128 h, o)

  pub callee_new : g < 128 → is_open g ≡ false → callee_of is_open total g ≡ total g
  unfolding if_known if_open
  callee_new h o = rw (lt-ltb g 128 h, o)

  pub callee_fine : g < 128 → (t : ℕ) → callee_of is_open total g ≡ Ok t → (is_open g ≡ false) × (total g ≡ Ok t)
  callee_fine h t e = by (is_open g) refl
    where
      by : (o : Bool) → is_open g ≡ o → (is_open g ≡ false) × (total g ≡ Ok t)
      by true q = absurd (let z = callee_open h q in cc)
      by false q = (q, sym (callee_new h q) ∙ e)

  pub callee_failed : (o : Overrun) → callee_of is_open total g ≡ Err o
      → (g < 128) × (((is_open g ≡ true) × (o ≡ Cycle g)) ⊎ ((is_open g ≡ false) × (total g ≡ Err o)))
  callee_failed o e = by (ltb g 128) (is_open g) refl refl
    where
      by : (k b : Bool) → ltb g 128 ≡ k → is_open g ≡ b → (g < 128) × (((is_open g ≡ true) × (o ≡ Cycle g)) ⊎ ((is_open g ≡ false) × (total g ≡ Err o)))
      by true true p q = let l : g < 128 = ltb-true g 128 p in let z = callee_open l q in (l, inl (q, cc))
      by true false p q = let l : g < 128 = ltb-true g 128 p in (l, inr (q, sym (callee_new l q) ∙ e))
      by false b p q = absurd (let z = callee_unknown (ltb-false g 128 p) in cc)

-- ---- a list of functions
module _ (callee : ℕ → Visited) where
  pub largest_next : (g : ℕ) (gs : List ℕ) (best t : ℕ) → callee g ≡ Ok t → largest_of callee (g ∷ gs) best ≡ largest_of callee gs (max best t)
  unfolding largest_of onward
  largest_next g gs best t e = rw e

  pub largest_stops : (g : ℕ) (gs : List ℕ) (best : ℕ) (o : Overrun) → callee g ≡ Err o → largest_of callee (g ∷ gs) best ≡ Err o
  unfolding largest_of onward
  largest_stops g gs best o e = rw e

  -- every callee has a total, and the largest is the one they began with or one of theirs
  pub record AllFine (gs : List ℕ) (best b : ℕ) : Type 0 where
    pub least : best ≤ b
    pub each : (h : ℕ) → Among h gs → (t : ℕ) × (callee h ≡ Ok t) × (t ≤ b)
    pub made : (b ≡ best) ⊎ ((h : ℕ) × Among h gs × (callee h ≡ Ok b))

  grown : (g : ℕ) (gs : List ℕ) (best t b : ℕ) → callee g ≡ Ok t → AllFine gs (max best t) b → AllFine (g ∷ gs) best b
  grown g gs best t b e A = record {
    least = le_trans (le-max_left best t) A.least;
    each = λ h i. ⊎_elim (λ q. (t, rw (← q) e, le_trans (le-max_right best t) A.least)) (λ j. A.each h j) i;
    made = ⊎_elim (λ q. by q (dec_le best t)) (λ m. inr (m.0, inr m.1, m.2)) A.made;
  }
    where
      by : b ≡ max best t → Dec (best ≤ t) → (b ≡ best) ⊎ ((h : ℕ) × Among h (g ∷ gs) × (callee h ≡ Ok b))
      by q (yes h) = inr (g, inl refl, e ∙ ap Ok (sym (q ∙ max-eq_right h)))
      by q (no n) = let h : t ≤ best = omega arith in inl (q ∙ max-eq_left h)

  pub fine_callees : (gs : List ℕ) (best b : ℕ) → largest_of callee gs best ≡ Ok b → AllFine gs best b
  unfolding largest_of
  fine_callees [] best b e = let q : best ≡ b = cc in record { least = omega arith; each = λ h i. absurd i; made = inl (sym q) }
  fine_callees (g ∷ gs) best b e =
      let o = onward_fine (callee g) (λ t. largest_of callee gs (max best t)) b e in
      grown g gs best o.0 b o.1 (fine_callees gs (max best o.0) b o.2)

  -- a failure is a callee's
  pub failed_callee : (gs : List ℕ) (best : ℕ) (o : Overrun) → largest_of callee gs best ≡ Err o → (h : ℕ) × Among h gs × (callee h ≡ Err o)
  unfolding largest_of
  failed_callee [] best o e = absurd (cc)
  failed_callee (g ∷ gs) best o e =
      ⊎_elim (λ q. (g, inl refl, q))
      (λ r. let m = failed_callee gs (max best r.0) o r.2 in (m.0, inr m.1, m.2))
      (onward_failed (callee g) (λ t. largest_of callee gs (max best t)) o e)

  -- where the callees have these totals for another reason too, so has the list
  pub same_fine : (callee' : ℕ → Visited) (gs : List ℕ) (best b : ℕ) → ((h t : ℕ) → Among h gs → callee h ≡ Ok t → callee' h ≡ Ok t)
      → largest_of callee gs best ≡ Ok b → largest_of callee' gs best ≡ Ok b
  unfolding largest_of onward
  same_fine callee' [] best b on e = e
  same_fine callee' (g ∷ gs) best b on e =
      let o = onward_fine (callee g) (λ t. largest_of callee gs (max best t)) b e in
      rw (on g o.0 (inl refl) o.1, onward) (same_fine callee' gs (max best o.0) b (λ h t i. on h t (inr i)) o.2)
