-- The fuel of the visit's definition never runs out: at most 128 functions are open at once, and one more is with each function that opens.
-- Assumes nothing.
--     total_step       a function's total is its weight and the largest among its callees while it is open too: no fuel is spoken of
--     enough           more fuel changes nothing
--     by_callees       what holds of a function if it holds of its callees while it is open, holds of every function
use Rattle.std.specs.Prelude.{◌≡◌, Bool, true, cond, ltb}
use Rattle.std.proofs.Math.Path.{refl, ap, fun_ext}
use Rattle.std.proofs.Common.{sym, ◌∙◌, subst, zero-add, suc-add, arith, ltb-true, eq-eqb, ne_eqb}
use Rattle.std.proofs.Math.Bool.{false}
use Prim.Native.Nat.{ℕ, zero, suc, ◌+◌, ◌≤◌, ◌<◌}
use Rattle.std.proofs.Math.Decide.{ℕ_discrete}
use Rattle.visit.specs.Graph.{Graph, Calls}
use Rattle.visit.specs.Visit.{Visited, onward, if_open, if_known, callee_of, largest_of, closes, opening, total_by, total_of, met_of}

-- how many of the first n functions are not open
unfoldable pub left : ℕ → (ℕ → Bool) → ℕ
left zero is_open = 0
left (suc n) is_open = cond (is_open n) (left n is_open) (suc (left n is_open))

most : (b : Bool) (x n : ℕ) → x ≤ n → cond b x (suc x) ≤ suc n
most true x n h = omega arith
most false x n h = omega arith

pub left_most : (n : ℕ) (is_open : ℕ → Bool) → left n is_open ≤ n
unfolding left
left_most zero is_open = omega arith
left_most (suc n) is_open = most (is_open n) (left n is_open) n (left_most n is_open)

left_same : (n f : ℕ) (is_open : ℕ → Bool) → n ≤ f → left n (opening f is_open) ≡ left n is_open
unfolding left
left_same zero f is_open h = refl
left_same (suc n) f is_open h =
    rw (ne_eqb n f (λ e. omega arith)) (ap (λ (x : ℕ). cond (is_open n) x (suc x)) (left_same n f is_open (omega arith)))

less : (b : Bool) (x y : ℕ) → suc x ≡ y → suc (cond b x (suc x)) ≡ cond b y (suc y)
less true x y e = e
less false x y e = ap suc e

-- a function that opens is one less
pub left_less : (n f : ℕ) (is_open : ℕ → Bool) → f < n → is_open f ≡ false → suc (left n (opening f is_open)) ≡ left n is_open
unfolding left
left_less zero f is_open h e = absurd (omega arith)
left_less (suc n) f is_open h e = by (λ g. left_less n f is_open g e) (ℕ_discrete n f)
  where
    by : (f < n → suc (left n (opening f is_open)) ≡ left n is_open) → Dec (n ≡ f) → suc (left (suc n) (opening f is_open)) ≡ left (suc n) is_open
    by below (yes q) =
        let new : is_open n ≡ false = subst (λ (x : ℕ). is_open x ≡ false) (sym q) e in
        rw (eq-eqb n f q, new) (ap suc (left_same n f is_open (omega arith)))
    by below (no d) = rw (ne_eqb n f d) (less (is_open n) (left n (opening f is_open)) (left n is_open) (below (omega arith)))

-- two visitors that agree on the functions not open agree on every callee
pub callee_same : (is_open : ℕ → Bool) (total total' : ℕ → Visited) → ((g : ℕ) → g < 128 → is_open g ≡ false → total g ≡ total' g) → (g : ℕ)
    → callee_of is_open total g ≡ callee_of is_open total' g
callee_same is_open total total' same g = known (ltb g 128) refl
  where
    fresh : (o : Bool) → g < 128 → is_open g ≡ o → if_open total g o ≡ if_open total' g o
    fresh true h q = unfold if_open in refl
    fresh false h q = unfold if_open in (same g h q)

    known : (k : Bool) → ltb g 128 ≡ k → if_known is_open total g k ≡ if_known is_open total' g k
    known true q = unfold if_known in (fresh (is_open g) (ltb-true g 128 q) refl)
    known false q = unfold if_known in refl

module _ (G : Graph) (pool : ℕ) where
  one_more : (k f : ℕ) (is_open : ℕ → Bool) → left 128 is_open ≤ k → f < 128 → is_open f ≡ false → total_by G pool k is_open f ≡ total_by G pool (suc k) is_open f
  unfolding total_by
  one_more zero f is_open h hf new = absurd (omega (arith, left_less 128 f is_open hf new))
  one_more (suc k) f is_open h hf new =
      ap (λ (callee : ℕ → Visited). onward (largest_of callee (G.calls f) 0) (closes G pool f))
      (fun_ext (callee_same (opening f is_open) (total_by G pool k (opening f is_open)) (total_by G pool (suc k) (opening f is_open))
      (λ g hg q. one_more k g (opening f is_open) (omega (arith, left_less 128 f is_open hf new)) hg q)))

  pub enough : (n k f : ℕ) (is_open : ℕ → Bool) → left 128 is_open ≤ k → f < 128 → is_open f ≡ false → total_by G pool k is_open f ≡ total_by G pool (n + k) is_open f
  enough zero k f is_open h hf new = simp zero-add
  enough (suc n) k f is_open h hf new = enough n k f is_open h hf new ∙ one_more (n + k) f is_open (omega arith) hf new ∙ simp suc-add

  pub total_step : (f : ℕ) (is_open : ℕ → Bool) → f < 128 → is_open f ≡ false
      → total_of G pool is_open f ≡ onward (met_of G pool (opening f is_open) (G.calls f) 0) (closes G pool f)
  unfolding total_of total_by
  total_step f is_open hf new =
      ap (λ (callee : ℕ → Visited). onward (largest_of callee (G.calls f) 0) (closes G pool f))
      (fun_ext (callee_same (opening f is_open) (total_by G pool 127 (opening f is_open)) (total_by G pool 128 (opening f is_open))
      (λ g hg q. one_more 127 g (opening f is_open) (omega (arith, left_less 128 f is_open hf new, left_most 128 is_open)) hg q)))

  module _ (P : (ℕ → Bool) → ℕ → Visited → Type 0)
      (step : (is_open : ℕ → Bool) (f : ℕ) → f < 128 → is_open f ≡ false
      → ((h : ℕ) → Calls G f h → opening f is_open h ≡ false → P (opening f is_open) h (total_of G pool (opening f is_open) h))
      → P is_open f (onward (met_of G pool (opening f is_open) (G.calls f) 0) (closes G pool f))) where
    rounds : (n : ℕ) (is_open : ℕ → Bool) (f : ℕ) → left 128 is_open ≤ n → f < 128 → is_open f ≡ false → P is_open f (total_of G pool is_open f)
    rounds zero is_open f h hf new = absurd (omega (arith, left_less 128 f is_open hf new))
    rounds (suc n) is_open f h hf new =
        rw (total_step f is_open hf new)
        (step is_open f hf new (λ g c q. rounds n (opening f is_open) g (omega (arith, left_less 128 f is_open hf new)) c.1 q))

    pub by_callees : (is_open : ℕ → Bool) (f : ℕ) → f < 128 → is_open f ≡ false → P is_open f (total_of G pool is_open f)
    by_callees is_open f hf new = rounds 128 is_open f (left_most 128 is_open) hf new
