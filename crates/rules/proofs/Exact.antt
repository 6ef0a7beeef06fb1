-- The walk accepts exactly if some assignment of depths satisfies the rules. It holds of any rules whose successors are offsets.
-- Completeness: the walk's depths are the assignment's, so no turn stops. Soundness: each offset that has a depth waits, or the rules hold there
-- and its successors have theirs; when none waits, the walk's depths are the assignment.
-- Assumes nothing.
use Rattle.std.specs.Prelude.{Ok, Err}
use mathlib.Core.Path.{◌≡◌, refl, sym, ap, ◌∙◌}
use mathlib.Core.List.Memᴰ
use mathlib.Core.List.{List, [], ◌∷◌, ◌++◌}
use mathlib.Core.Logic.{◌⊎◌, inl, inr, ⊎_elim, ◌↔◌}
use Prim.Native.Nat.{ℕ, zero, suc, ◌+◌, ◌-◌, ◌≤◌, ◌<◌}
use native.Mathlib.Decide.{ℕ_discrete}
use native.Mathlib.Omega.{arith}
use lib.ListN.{length, get_or, set, length-set}
use lib.Seq.{get_or-set_same}
use Rattle.rules.specs.declared.Onward.TheVariants.{Leaves, Goes, Forks}
use Rattle.rules.specs.Look.{Bounded, Look}
use Rattle.rules.specs.Walk.{Outcome, stop, go, ended, put, follow, walk_from, walk_of, begun, count}
use Rattle.rules.specs.Assigned.{Holds, Names, Reached, start, step, Satisfies}
use Rattle.rules.proofs.Counting.{count_le, length_begun, count_begun, begun_first, begun_other}
use Rattle.rules.proofs.Queue.{follow_leaves, follow_goes, follow_forks_go}
use Rattle.rules.proofs.Spread.{In, stored, Way, fresh, again, clash, way, Spread, follow_spreads}

-- offset 0, and the others
begun_cells : (n : ℕ) → 0 < n → (i : ℕ) → ((i ≡ 0) × (get_or (begun n) i 0 ≡ 1)) ⊎ (get_or (begun n) i 0 ≡ 0)
begun_cells n h i = by (ℕ_discrete i 0)
  where
    by : Dec (i ≡ 0) → ((i ≡ 0) × (get_or (begun n) i 0 ≡ 1)) ⊎ (get_or (begun n) i 0 ≡ 0)
    by (yes e) = inl (e, rw e (begun_first n h))
    by (no e) = inr (begun_other n i e)

only_first : (i : ℕ) → In i (0 ∷ []) → i ≡ 0
only_first i m = Memᴰ.eq_of_singleton m

-- Completeness.
module _ (rule : ℕ → ℕ → Look) (n x : ℕ) (bounded : (offset depth : ℕ) → Bounded n x (rule offset depth)) (depth : ℕ → ℕ) (s : Satisfies rule depth) where
  -- the walk's depths are the assignment's, and what waits is reached and has its depth
  record Follows (d q : List ℕ) : Type 0 where
    long : length d ≡ n
    cells : (i : ℕ) → (get_or d i 0 ≡ 0) ⊎ (get_or d i 0 ≡ depth i + 1)
    waits : (i : ℕ) → In i q → Reached rule depth i × (get_or d i 0 ≡ depth i + 1)

  On : Outcome → Type 0
  On o = (d : List ℕ) × (q : List ℕ) × (o ≡ go d q) × Follows d q

  put_on : (d q : List ℕ) (to out : ℕ) → Follows d q → Reached rule depth to → depth to ≡ out → to < n → On (put d q to out)
  unfolding On
  put_on d q to out i h e l = by (put d q to out) (way d q to out)
    where
      by : (o : Outcome) → Way d q to out o → On o
      by _ (fresh z) =
          let w : to < length d = omega (arith, i.long) in (
            set d to (out + 1),
            q ++ (to ∷ []),
            refl,
            record {
              long = simp length-set i.long;
              cells = λ j. ⊎_elim (λ u. inr (u.1 ∙ ap (λ (k : ℕ). k + 1) (sym e ∙ ap depth (sym u.0)))) (λ u. ⊎_elim (λ a. inl (u.1 ∙ a)) (λ a. inr (u.1 ∙ a)) (i.cells j)) (stored d to (out + 1) w j);
              waits = λ j m. ⊎_elim
                  (λ g. let p = i.waits j g in (p.0, ⊎_elim (λ u. absurd (let y : get_or d j 0 ≡ 0 = rw u.0 z in omega (arith, p.1))) (λ u. u.1 ∙ p.1) (stored d to (out + 1) w j)))
                  (λ g. let u : j ≡ to = Memᴰ.eq_of_singleton g in (rw u h, rw u (get_or-set_same d to (out + 1) 0 w ∙ ap (λ (k : ℕ). k + 1) (sym e))))
                  (Memᴰ.append_cases q m);
            },
          )
      by _ (again z) = (d, q, refl, i)
      by _ (clash a b) = absurd (⊎_elim (λ z. a z) (λ z. b (z ∙ ap (λ (k : ℕ). k + 1) e)) (i.cells to))

  follow_on_lem : (d q : List ℕ) (offset : ℕ) (L : Look) → rule offset (depth offset) ≡ L → Bounded n x L → Follows d q → Reached rule depth offset → On (follow d q L)
  unfolding On
  follow_on_lem d q offset (Err v) e b i h = absurd (rw e at (s.holds offset h))
  follow_on_lem d q offset (Ok Leaves) e b i h = (d, q, follow_leaves d q, i)
  follow_on_lem d q offset (Ok (Goes out to)) e b i h =
      let m : Names (rule offset (depth offset)) to out = rw e (refl, refl) in
      rw (follow_goes d q out to) (put_on d q to out i (step out h m) (s.agrees offset to out h m) b.0)
  follow_on_lem d q offset (Ok (Forks out to next)) e b i h =
      let m : Names (rule offset (depth offset)) to out = rw e (inl refl, refl) in
      let k : Names (rule offset (depth offset)) next out = rw e (inr refl, refl) in
      let g = put_on d q to out i (step out h m) (s.agrees offset to out h m) b.0 in
      rw (follow_forks_go d q out to next g.0 g.1 g.2) (put_on g.0 g.1 next out g.3 (step out h k) (s.agrees offset next out h k) b.1.0)

  walk_on : (turns : ℕ) (d q : List ℕ) → Follows d q → walk_from rule turns d q ≡ Ok tt
  unfolding walk_from On
  walk_on zero d q i = refl
  walk_on (suc turns) d [] i = refl
  walk_on (suc turns) d (offset ∷ q) i =
      let h = i.waits offset (Memᴰ.head refl) in
      let e : get_or d offset 0 - 1 ≡ depth offset = omega (arith, h.1) in
      let j : Follows d q = record { long = i.long; cells = i.cells; waits = λ p m. i.waits p (Memᴰ.tail m) } in
      let g = follow_on_lem d q offset (rule offset (depth offset)) refl (bounded offset (depth offset)) j h.0 in
      rw (e, g.2) (walk_on turns g.0 g.1 g.3)

  pub complete : 0 < n → walk_of rule n ≡ Ok tt
  unfolding walk_of
  complete l =
      let at_first : (i : ℕ) → i ≡ 0 → get_or (begun n) i 0 ≡ depth i + 1 = λ i e. rw e (begun_first n l ∙ ap (λ (k : ℕ). k + 1) (sym s.at_start)) in
      walk_on _ (begun n) (0 ∷ [])
      (record {
        long = length_begun n;
        cells = λ i. ⊎_elim (λ u. inr (at_first i u.0)) (λ u. inl u) (begun_cells n l i);
        waits = λ i m. let u = only_first i m in (rw u start, at_first i u);
      })

-- Soundness.
module _ (rule : ℕ → ℕ → Look) (n x : ℕ) (bounded : (offset depth : ℕ) → Bounded n x (rule offset depth)) where
  -- the rules hold at an offset, and its successors have their depths
  abbrev Settled : List ℕ → ℕ → ℕ → Look → Type 0
  Settled d offset v L = (get_or d offset 0 ≡ v + 1) × Holds L × ((s out : ℕ) → Names L s out → get_or d s 0 ≡ out + 1)

  Done : List ℕ → ℕ → Type 0
  Done d offset = (v : ℕ) × Settled d offset v (rule offset v)

  -- each offset has no depth, or waits with one, or is done
  record State (turns : ℕ) (d q : List ℕ) : Type 0 where
    long : length d ≡ n
    first : get_or d 0 0 ≡ 1
    left : n + length q ≤ count d + turns
    waits : (i : ℕ) → In i q → (v : ℕ) × (get_or d i 0 ≡ v + 1)
    cells : (i : ℕ) → (get_or d i 0 ≡ 0) ⊎ (In i q ⊎ Done d i)

  Final : Type 0
  Final = (d : List ℕ) × (get_or d 0 0 ≡ 1) × ((i : ℕ) → (get_or d i 0 ≡ 0) ⊎ Done d i)

  none_waits : (turns : ℕ) (d : List ℕ) → State turns d [] → Final
  unfolding Final
  none_waits turns d i = (d, i.first, λ j. ⊎_elim (λ z. inl z) (λ w. ⊎_elim (λ m. absurd (Memᴰ.not-nil m)) (λ g. inr g) w) (i.cells j))

  done_stays : {d q d' q' : List ℕ} → Spread d q d' q' → (i : ℕ) → Done d i → Done d' i
  unfolding Done
  done_stays w i g = (g.0, (w.stays i g.0 g.1.0, g.1.1, λ s out m. w.stays s out (g.1.2 s out m)))

  walk_final : (turns : ℕ) (d q : List ℕ) → State turns d q → walk_from rule turns d q ≡ Ok tt → Final
  unfolding walk_from Done
  walk_final zero d [] i e = none_waits zero d i
  walk_final zero d (offset ∷ q) i e = absurd (let l = count_le d in omega (arith, i.long, i.left))
  walk_final (suc turns) d [] i e = none_waits (suc turns) d i
  walk_final (suc turns) d (offset ∷ q) i e =
      let h = i.waits offset (Memᴰ.head refl) in
      let dep : get_or d offset 0 - 1 ≡ h.0 = omega (arith, h.1) in
      turn h.0 h.1 (follow d q (rule offset h.0)) refl (rw dep at e) (λ d' q' j z. walk_final turns d' q' j z)
    where
      turn : (v : ℕ) → get_or d offset 0 ≡ v + 1 → (o : Outcome) → follow d q (rule offset v) ≡ o → ended o (λ d' q'. walk_from rule turns d' q') ≡ Ok tt
          → ((d' q' : List ℕ) → State turns d' q' → walk_from rule turns d' q' ≡ Ok tt → Final) → Final
      turn v h (stop a) g z rest = absurd (let y : ◌≡◌ {A = ℕ} 0 1 = cc in omega arith)
      turn v h (go d' q') g z rest =
          let p = follow_spreads n x d q (rule offset v) d' q' i.long (bounded offset v) g in
          let w = p.0 in
          rest d' q'
          (record {
            long = w.long ∙ i.long;
            first = w.stays 0 0 i.first;
            left = omega (arith, w.counted, i.left);
            waits = λ a m. ⊎_elim (λ b. let u = i.waits a (Memᴰ.tail b) in (u.0, w.stays a u.0 u.1)) (λ u. u) (w.deep a m);
            cells = λ a. ⊎_elim
                (λ b. ⊎_elim (λ u. inl u) (λ u. inr (inl u)) (w.new a b))
                (λ b. inr (⊎_elim (λ m. ⊎_elim (λ u. inr (rw u (v, (w.stays offset v h, p.1, p.2)))) (λ u. inl (w.kept a u)) (Memᴰ.cases_cons m)) (λ u. inr (done_stays w a u)) b))
                (i.cells a);
          })
          z

  -- the last depths, as an assignment
  module _ (d : List ℕ) (first : get_or d 0 0 ≡ 1) (cells : (i : ℕ) → (get_or d i 0 ≡ 0) ⊎ Done d i) where
    abbrev depth : ℕ → ℕ
    depth i = get_or d i 0 - 1

    has : (i v : ℕ) → get_or d i 0 ≡ v + 1 → Settled d i (depth i) (rule i (depth i))
    unfolding Done
    has i v e = ⊎_elim (λ z. absurd (omega arith)) (λ g. let u : g.0 ≡ depth i = omega (arith, g.1.0) in rw u at g.1) (cells i)

    reached : (i : ℕ) → Reached rule depth i → Settled d i (depth i) (rule i (depth i))
    reached _ start = has 0 0 first
    reached _ (step {offset} {s} out h m) = has s out ((reached offset h).2 s out m)

    satisfied : Satisfies rule depth
    satisfied = record {
      at_start = omega arith;
      holds = λ i h. (reached i h).1;
      agrees = λ i s out h m. let e = (reached i h).2 s out m in omega arith;
    }

  pub sound : 0 < n → walk_of rule n ≡ Ok tt → (depth : ℕ → ℕ) × Satisfies rule depth
  unfolding walk_of Final
  sound l e =
      let o = count_begun n l in
      let g = walk_final _ (begun n) (0 ∷ [])
      (record {
        long = length_begun n;
        first = begun_first n l;
        left = omega arith;
        waits = λ i m. (0, rw (only_first i m) (begun_first n l));
        cells = λ i. ⊎_elim (λ u. inr (inl (Memᴰ.head u.0))) (λ u. inl u) (begun_cells n l i);
      }) e in
      (_, satisfied g.0 g.1 g.2)

  -- the walk accepts exactly if some assignment satisfies the rules
  pub exact : 0 < n → (walk_of rule n ≡ Ok tt) ↔ ((depth : ℕ → ℕ) × Satisfies rule depth)
  exact l = (sound l, λ s. complete rule n x bounded s.0 s.1 l)
