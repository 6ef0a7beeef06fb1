-- What the successors of one instruction do to the depths and the queue: depths stay, each offset that gets one joins the queue and is counted,
-- and each successor has its depth afterwards. By the three ways of one successor.
-- Assumes nothing.
use Rattle.std.specs.Prelude.{Ok, Err}
use mathlib.Core.Path.{◌≡◌, refl, sym, ◌∙◌}
use mathlib.Core.List.Memᴰ
use mathlib.Core.List.{List, [], ◌∷◌, ◌++◌, Memᴰ}
use mathlib.Core.Logic.{◌⊎◌, inl, inr, ⊎_elim}
use Prim.Native.Nat.{ℕ, ◌+◌, ◌-◌, ◌<◌}
use native.Mathlib.Decide.{ℕ_discrete}
use native.Mathlib.Omega.{arith}
use lib.ListN.{length, get_or, set, length-append, length-set}
use lib.Seq.{get_or-set_same, get_or-set_other}
use Rattle.rules.specs.declared.Onward.TheVariants.{Leaves, Goes, Forks}
use Rattle.rules.specs.declared.Violation.{Violation}
use Rattle.rules.specs.Look.{Bounded, Look}
use Rattle.rules.specs.Walk.{Outcome, stop, go, put, follow, count}
use Rattle.rules.specs.Assigned.{Holds, Names}
use Rattle.rules.proofs.Counting.{count_set}
use Rattle.rules.proofs.Queue.{put_new, put_same, put_clash, follow_bad, follow_leaves, follow_goes, follow_forks_stop, follow_forks_go}

-- it waits
abbrev pub In : ℕ → List ℕ → Type 0
In offset queue = Memᴰ offset queue

-- after a store: the cell itself, and the others
pub stored : (d : List ℕ) (t v : ℕ) → t < length d → (i : ℕ) → ((i ≡ t) × (get_or (set d t v) i 0 ≡ v)) ⊎ ((i ≡ t → ⊥) × (get_or (set d t v) i 0 ≡ get_or d i 0))
stored d t v l i = by (ℕ_discrete i t)
  where
    by : Dec (i ≡ t) → ((i ≡ t) × (get_or (set d t v) i 0 ≡ v)) ⊎ ((i ≡ t → ⊥) × (get_or (set d t v) i 0 ≡ get_or d i 0))
    by (yes e) = inl (e, rw e (get_or-set_same d t v 0 l))
    by (no n) = inr (n, get_or-set_other d t i v 0 n)

pub data Way (d q : List ℕ) (to out : ℕ) : Outcome → Type 0 where
  fresh : get_or d to 0 ≡ 0 → Way d q to out (go (set d to (out + 1)) (q ++ (to ∷ [])))
  again : get_or d to 0 ≡ out + 1 → Way d q to out (go d q)
  clash : (get_or d to 0 ≡ 0 → ⊥) → (get_or d to 0 ≡ out + 1 → ⊥) → Way d q to out (stop (Violation.MergeConflict to (get_or d to 0 - 1) out))

pub way : (d q : List ℕ) (to out : ℕ) → Way d q to out (put d q to out)
way d q to out = by (ℕ_discrete (get_or d to 0) 0) (ℕ_discrete (get_or d to 0) (out + 1))
  where
    by : Dec (get_or d to 0 ≡ 0) → Dec (get_or d to 0 ≡ out + 1) → Way d q to out (put d q to out)
    by (yes e) g = rw (put_new d q to out e) (fresh e)
    by (no e) (yes g) = rw (put_same d q to out g) (again g)
    by (no e) (no g) = rw (put_clash d q to out e g) (clash e g)

pub record Spread (d q d' q' : List ℕ) : Type 0 where
  pub long : length d' ≡ length d
  pub stays : (i v : ℕ) → get_or d i 0 ≡ v + 1 → get_or d' i 0 ≡ v + 1
  pub counted : count d' + length q ≡ count d + length q'
  pub kept : (i : ℕ) → In i q → In i q'
  pub new : (i : ℕ) → get_or d i 0 ≡ 0 → (get_or d' i 0 ≡ 0) ⊎ In i q'
  pub deep : (i : ℕ) → In i q' → In i q ⊎ ((v : ℕ) × (get_or d' i 0 ≡ v + 1))

spread_none : (d q : List ℕ) → Spread d q d q
spread_none d q = record { long = refl; stays = λ i v e. e; counted = refl; kept = λ i m. m; new = λ i e. inl e; deep = λ i m. inl m }

spread_more : {d q d' q' d'' q'' : List ℕ} → Spread d q d' q' → Spread d' q' d'' q'' → Spread d q d'' q''
spread_more a b = record {
  long = b.long ∙ a.long;
  stays = λ i v e. b.stays i v (a.stays i v e);
  counted = omega (arith, a.counted, b.counted);
  kept = λ i m. b.kept i (a.kept i m);
  new = λ i e. ⊎_elim (λ z. b.new i z) (λ m. inr (b.kept i m)) (a.new i e);
  deep = λ i m. ⊎_elim (λ g. ⊎_elim (λ h. inl h) (λ h. inr (h.0, b.stays i h.0 h.1)) (a.deep i g)) (λ h. inr h) (b.deep i m);
}

put_spreads : (d q : List ℕ) (to out : ℕ) (d' q' : List ℕ) → to < length d → put d q to out ≡ go d' q' → Spread d q d' q' × (get_or d' to 0 ≡ out + 1)
put_spreads d q to out d' q' l e = by (put d q to out) (way d q to out) e
  where
    by : (o : Outcome) → Way d q to out o → o ≡ go d' q' → Spread d q d' q' × (get_or d' to 0 ≡ out + 1)
    by _ (fresh z) g =
        let a : set d to (out + 1) ≡ d' = cc in
        let b : q ++ (to ∷ []) ≡ q' = cc in
        let c = count_set d to out l z in
        let n = length-append q (to ∷ []) in
        rw (← a, ← b) (
          record {
            long = length-set d to (out + 1);
            stays = λ i v h. ⊎_elim (λ u. absurd (let y : get_or d i 0 ≡ 0 = rw u.0 z in omega arith)) (λ u. u.1 ∙ h) (stored d to (out + 1) l i);
            counted = omega arith;
            kept = λ i m. Memᴰ.append_left (to ∷ []) m;
            new = λ i h. ⊎_elim (λ u. inr (Memᴰ.append_right q (Memᴰ.head u.0))) (λ u. inl (u.1 ∙ h)) (stored d to (out + 1) l i);
            deep = λ i m. ⊎_elim (λ g. inl g) (λ g. let u : i ≡ to = Memᴰ.eq_of_singleton g in inr (out, rw u (get_or-set_same d to (out + 1) 0 l))) (Memᴰ.append_cases q m);
          },
          get_or-set_same d to (out + 1) 0 l,
        )
    by _ (again z) g =
        let a : d ≡ d' = cc in
        let b : q ≡ q' = cc in
        rw (← a, ← b) (spread_none d q, z)
    by _ (clash n m) g = absurd (let y : ◌≡◌ {A = ℕ} 0 1 = cc in omega arith)

-- where the walk goes on, no rule is broken, and each successor has its depth
pub follow_spreads : (n x : ℕ) (d q : List ℕ) (L : Look) (d' q' : List ℕ) → length d ≡ n → Bounded n x L → follow d q L ≡ go d' q'
    → Spread d q d' q' × Holds L × ((s out : ℕ) → Names L s out → get_or d' s 0 ≡ out + 1)
follow_spreads n x d q (Err v) d' q' l b e = absurd (let y : ◌≡◌ {A = ℕ} 0 1 = cc (follow_bad d q v) in omega arith)
follow_spreads n x d q (Ok Leaves) d' q' l b e =
    let a : d ≡ d' = cc (follow_leaves d q) in
    let c : q ≡ q' = cc (follow_leaves d q) in
    (rw (← a, ← c) (spread_none d q), tt, λ s out m. absurd m)
follow_spreads n x d q (Ok (Goes out to)) d' q' l b e =
    let p = put_spreads d q to out d' q' (omega arith) (sym (follow_goes d q out to) ∙ e) in
    (p.0, tt, λ s o m. rw (← m.0, ← m.1) p.1)
follow_spreads n x d q (Ok (Forks out to next)) d' q' l b e = by (put d q to out) refl
  where
    by : (o : Outcome) → put d q to out ≡ o → Spread d q d' q' × Unit {0} × ((s o : ℕ) → Names (Ok (Forks out to next)) s o → get_or d' s 0 ≡ o + 1)
    by (stop v) g = absurd (let y : ◌≡◌ {A = ℕ} 0 1 = cc (follow_forks_stop d q out to next v g) in omega arith)
    by (go d₁ q₁) g =
        let p = put_spreads d q to out d₁ q₁ (omega arith) g in
        let w = put_spreads d₁ q₁ next out d' q' (omega (arith, p.0.long)) (sym (follow_forks_go d q out to next d₁ q₁ g) ∙ e) in (
          spread_more p.0 w.0,
          tt,
          λ s o m. ⊎_elim (λ z. rw (← z, ← m.1) (w.0.stays to out p.1)) (λ z. rw (← z, ← m.1) w.1) m.0,
        )
