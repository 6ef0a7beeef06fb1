-- Lemmas on chains of calls. Assumes nothing.
--     chains_end       a chain that repeats no function has at most 128
--     longer           a chain from what is reached is the end of a chain
--     no_cycle         what a tame function reaches does not reach itself
use Rattle.std.specs.Prelude.{◌≡◌, refl, Bool, false, List, [], ◌∷◌, ℕ, ◌≤◌, ◌<◌, length}
use Rattle.std.proofs.Common.{subst, inl, inr, ⊎_elim, le_trans, arith}
use Rattle.visit.specs.Graph.{Graph, Among, Calls, Chain, last, call, weigh, Distinct, Reaches, same, more, Tame}
use Rattle.visit.specs.Visit.{opening, none}
use Rattle.visit.specs.Fuel.{left, left_most, left_less}
use Rattle.visit.proofs.Exact.{opening_still}

-- a list of known functions, none of them open and none twice, is no longer than the count of those not open
short : (p : List ℕ) (is_open : ℕ → Bool) → Distinct p → ((x : ℕ) → Among x p → (x < 128) × (is_open x ≡ false)) → length p ≤ left 128 is_open
short [] is_open d a = omega arith
short (g ∷ p) is_open d a =
    let own = a g (inl refl) in
    let on : length p ≤ left 128 (opening g is_open) = short p (opening g is_open) d.1
    (λ x i. ((a x (inr i)).0, opening_still g is_open x (a x (inr i)).1 (λ e. d.0 (subst (λ (y : ℕ). Among y p) e i)))) in
    omega (arith, left_less 128 g is_open own.0 own.1)

known_on : (G : Graph) {f : ℕ} {p : List ℕ} → Chain G f p → f < 128 → (x : ℕ) → Among x p → x < 128
known_on G last hf x i = ⊎_elim (λ q. rw (← q) hf) (λ j. absurd j) i
known_on G (call c r) hf x i = ⊎_elim (λ q. rw (← q) hf) (λ j. known_on G r c.1 x j) i

-- a chain that repeats no function ends: it has at most 128
pub chains_end : (G : Graph) {f : ℕ} (p : List ℕ) → f < 128 → Chain G f p → Distinct p → length p ≤ 128
chains_end G p hf r d = le_trans (short p none d (λ x i. (known_on G r hf x i, refl))) (left_most 128 none)

-- a chain from what is reached is the end of a chain
pub record Longer (G : Graph) (f : ℕ) (p : List ℕ) : Type 0 where
  pub whole : List ℕ
  pub chain : Chain G f whole
  pub distinct : Distinct whole → Distinct p
  pub light : weigh G p ≤ weigh G whole

pub longer : (G : Graph) {f x : ℕ} (p : List ℕ) → Reaches G f x → Chain G x p → Longer G f p
unfolding weigh
longer G p same r = record { whole = p; chain = r; distinct = λ d. d; light = omega arith }
longer G {f} p (more c s) r =
    let l = longer G p s r in
    record { whole = f ∷ l.whole; chain = call c l.chain; distinct = λ d. l.distinct d.1; light = omega (arith, l.light) }

-- what is called from a chain's end stands on a longer one
round : (G : Graph) {x y z : ℕ} → Reaches G x y → Calls G y z → (q : List ℕ) × Chain G x (x ∷ q) × Among z q
round G {z = z} same c = (z ∷ [], call c last, inl refl)
round G (more {h = h} d r) c = let t = round G r c in (h ∷ t.0, call d t.1, inr t.2)

-- no function that a tame one reaches is reached from itself
pub no_cycle : (G : Graph) (pool : ℕ) {f x y : ℕ} → Tame G pool f → Reaches G f x → Reaches G x y → Calls G y x → ⊥
no_cycle G pool {x = x} tame r s c =
    let t = round G s c in
    let l = longer G (x ∷ t.0) r t.1 in
    (l.distinct (tame l.whole l.chain).0).0 t.2
