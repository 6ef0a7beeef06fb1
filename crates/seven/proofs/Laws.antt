-- What a crate above may use of the numbers: what is written reads back as the same number at the place after it; what was read
-- writes back as the same bytes; each number has exactly one form.
-- Assumes nothing.
use Rattle.std.specs.Prelude.{ℕ, zero, suc, ◌+◌, ◌-◌, ◌*◌, ◌/◌, ◌%◌, ◌<◌, ◌≤◌, ◌≡◌, refl, false, List, [], ◌∷◌, ◌++◌, length, get_or, take, drop, ltb, leb, eqb, Option, Some, None, Result, Err}
use Rattle.std.proofs.Common.{sym, ◌∙◌, ap, arith, add-one, length-append, take-append-drop, get_or-append-add, drop-cons, length-take-le, take_at, le-leb, leb-true, leb-false, ltb-true, ltb-false}
use Rattle.std.proofs.Math.Seq.{get_or-append_seam}
use Rattle.std.proofs.lemmas.Bool.{eqb-false}
use Rattle.seven.specs.declared.Number.{Number}
use Rattle.seven.specs.declared.Misread.{Misread}
use Rattle.seven.specs.declared.Misread.TheVariants.{Bad, Early}
use Rattle.seven.specs.Seven.{value, number_at, first, second, third, Bytes}
use Rattle.seven.specs.Write.{form, laid, written}
use Rattle.seven.proofs.Forms.{by_test, by_size, one, two, three, form_one, form_two, form_three, two_form, three_form}

-- the form of a number, wherever it stands, reads as the number, at the place after it
pub found : (before after : List ℕ) (n : ℕ) → n < 65536 →
    number_at (before ++ (form n ++ after)) (length before) ≡ value n (length before + length (form n))
found before after n top =
    by_size n
    (λ small. rw (form_one n small)
    (one (before ++ (n ∷ after)) (length before) n (simp length-append (omega arith)) (get_or-append_seam before n after 0) small))
    (λ big small. rw (form_two n big small)
    (two (before ++ ((n % 128 + 128) ∷ ((n / 128) ∷ after))) (length before) (n % 128 + 128) (n / 128)
    (simp length-append (omega arith))
    (get_or-append_seam before (n % 128 + 128) ((n / 128) ∷ after) 0)
    (get_or-append-add before ((n % 128 + 128) ∷ ((n / 128) ∷ after)) 1 0)
    (omega arith) (omega arith) (omega arith)
    ∙ ap (λ (k : ℕ). value k (length before + 2)) (omega arith)))
    (λ big. rw (form_three n big)
    (three (before ++ ((n % 128 + 128) ∷ ((n / 128 % 128 + 128) ∷ ((n / 16384) ∷ after)))) (length before)
    (n % 128 + 128) (n / 128 % 128 + 128) (n / 16384)
    (simp length-append (omega arith))
    (get_or-append_seam before (n % 128 + 128) ((n / 128 % 128 + 128) ∷ ((n / 16384) ∷ after)) 0)
    (get_or-append-add before ((n % 128 + 128) ∷ ((n / 128 % 128 + 128) ∷ ((n / 16384) ∷ after))) 1 0)
    (get_or-append-add before ((n % 128 + 128) ∷ ((n / 128 % 128 + 128) ∷ ((n / 16384) ∷ after))) 2 0)
    (omega arith) (omega arith) (omega arith) (omega arith)
    ∙ ap (λ (k : ℕ). value k (length before + 3)) (omega arith)))

-- what a number that was read says of its bytes
pub record Stands (file : List ℕ) (at n next : ℕ) : Type 0 where
  pub small : n < 65536
  pub after : next ≡ at + length (form n)
  pub within : next ≤ length file
  pub bytes : drop at file ≡ form n ++ drop next file

-- a run of bytes taken off the front, one at a time
uncons : (s : List ℕ) (at k : ℕ) → at < length s → at + 1 ≡ k → drop at s ≡ get_or s at 0 ∷ drop k s
uncons s at k h e = drop-cons s at 0 h ∙ ap (λ (j : ℕ). get_or s at 0 ∷ drop j s) (sym (add-one at) ∙ e)

no_early : {P : Type 0} {n next : ℕ} → ◌≡◌ {A = Result Number Misread} (Err Early) (value n next) → P
no_early e = absurd (let z : ◌≡◌ {A = ℕ} 0 1 = cc in omega arith)

no_bad : {P : Type 0} {n next : ℕ} → ◌≡◌ {A = Result Number Misread} (Err Bad) (value n next) → P
no_bad e = absurd (let z : ◌≡◌ {A = ℕ} 0 1 = cc in omega arith)

same_value : {s : List ℕ} {at m k n next : ℕ} → ◌≡◌ {A = Result Number Misread} (value m k) (value n next) → Stands s at m k → Stands s at n next
same_value {s} {at} {m} {k} {n} {next} e h =
    let r : ◌≡◌ {A = Number} (record { n = m; next = k }) (record { n = n; next = next }) = cc in
    rw (← ap (λ (x : Number). x.n) r, ← ap (λ (x : Number). x.next) r) h

-- one byte, two and three that were read are the form of their number
module _ (s : List ℕ) (at : ℕ) where
  read_one : at < length s → get_or s at 0 < 128 → Stands s at (get_or s at 0) (at + 1)
  read_one h a =
      let e : form (get_or s at 0) ≡ get_or s at 0 ∷ [] = form_one (get_or s at 0) a in
      record {
        small = omega arith;
        after = rw e;
        within = omega arith;
        bytes = rw e (uncons s at (at + 1) h refl);
      }

  read_two : at + 1 < length s → 128 ≤ get_or s at 0 → get_or s at 0 < 256 → 0 < get_or s (at + 1) 0 → get_or s (at + 1) 0 < 128 →
      Stands s at (get_or s at 0 - 128 + get_or s (at + 1) 0 * 128) (at + 2)
  read_two h a b d f =
      let e = two_form (get_or s at 0) (get_or s (at + 1) 0) a b d f in
      record {
        small = omega arith;
        after = rw e;
        within = omega arith;
        bytes =
            rw e
            (uncons s at (at + 1) (omega arith) refl
            ∙ ap (λ (l : List ℕ). get_or s at 0 ∷ l) (uncons s (at + 1) (at + 2) h (omega arith)));
      }

  read_three : at + 2 < length s → 128 ≤ get_or s at 0 → get_or s at 0 < 256 → 128 ≤ get_or s (at + 1) 0 → get_or s (at + 1) 0 < 256 →
      0 < get_or s (at + 2) 0 → get_or s (at + 2) 0 ≤ 3 →
      Stands s at (get_or s at 0 - 128 + (get_or s (at + 1) 0 - 128) * 128 + get_or s (at + 2) 0 * 16384) (at + 3)
  read_three h a b d f g i =
      let e = three_form (get_or s at 0) (get_or s (at + 1) 0) (get_or s (at + 2) 0) a b d f g i in
      record {
        small = omega arith;
        after = rw e;
        within = omega arith;
        bytes =
            rw e
            (uncons s at (at + 1) (omega arith) refl
            ∙ ap (λ (l : List ℕ). get_or s at 0 ∷ l)
            (uncons s (at + 1) (at + 2) (omega arith) (omega arith)
            ∙ ap (λ (l : List ℕ). get_or s (at + 1) 0 ∷ l) (uncons s (at + 2) (at + 3) h (omega arith))));
      }

positive : (x : ℕ) → eqb x 0 ≡ false → 0 < x
positive zero e = absurd (eqb-false 0 0 e refl)
positive (suc x) e = omega arith

pub stands : (s : List ℕ) (at n next : ℕ) → Bytes s → number_at s at ≡ value n next → Stands s at n next
unfolding Bytes number_at first second third
stands s at n next all h =
    let low : ℕ = get_or s at 0 in
    let middle : ℕ = get_or s (at + 1) 0 in
    let high : ℕ = get_or s (at + 2) 0 in
    by_test (leb (length s) at) (λ a. no_early (simp a at h)) (λ a.
    by_test (ltb low 128)
    (λ b. same_value (simp (a, b) at h) (read_one s at (leb-false _ _ a) (ltb-true _ _ b)))
    (λ b.
    by_test (leb (length s - at) 1) (λ d. no_early (simp (a, b, d) at h)) (λ d.
    by_test (ltb middle 128)
    (λ f.
    by_test (eqb middle 0) (λ g. no_bad (simp (a, b, d, f, g) at h)) (λ g.
    same_value (simp (a, b, d, f, g) at h)
    (read_two s at (omega (arith, leb-false (length s - at) 1 d)) (ltb-false _ _ b) (all at) (positive middle g) (ltb-true _ _ f))))
    (λ f.
    by_test (leb (length s - at) 2) (λ i. no_early (simp (a, b, d, f, i) at h)) (λ i.
    by_test (eqb high 0) (λ j. no_bad (simp (a, b, d, f, i, j) at h)) (λ j.
    by_test (leb high 3)
    (λ k. same_value (simp (a, b, d, f, i, j, k) at h)
    (read_three s at (omega (arith, leb-false (length s - at) 2 i)) (ltb-false _ _ b) (all at) (ltb-false _ _ f) (all (at + 1))
    (positive high j) (leb-true _ _ k)))
    (λ k. no_bad (simp (a, b, d, f, i, j, k) at h))))))))

-- what was read writes back as the same bytes: the buffer stays as it was
pub writes_back : (s : List ℕ) (at n next : ℕ) → Bytes s → number_at s at ≡ value n next → written s at n ≡ (Some next, s)
unfolding written laid
writes_back s at n next all h =
    let t : Stands s at n next = stands s at n next all h in
    let fits : at + length (form n) ≤ length s = omega (arith, t.after, t.within) in
    let same : take at s ++ (form n ++ drop (at + length (form n)) s) ≡ s =
    ap (λ (k : ℕ). take at s ++ (form n ++ drop k s)) (sym t.after)
    ∙ (ap (λ (l : List ℕ). take at s ++ l) (sym t.bytes) ∙ take-append-drop at s) in
    rw (le-leb _ _ fits) (ap (λ (l : List ℕ). (Some (at + length (form n)), l)) same ∙ ap (λ (k : ℕ). (Some k, s)) (sym t.after))

-- what was written reads back as the same number, at the place after it
pub reads_back : (out after : List ℕ) (at n next : ℕ) → n < 65536 → written out at n ≡ (Some next, after) →
    number_at after at ≡ value n next
unfolding written laid
reads_back out after at n next top h =
    by_test (leb (at + length (form n)) (length out))
    (λ a.
    let front : length (take at out) ≡ at =
    length-take-le at out (omega (arith, leb-true (at + length (form n)) (length out) a)) in
    let rest : List ℕ = drop (at + length (form n)) out in
    let both : ◌≡◌ {A = Option ℕ × List ℕ} (Some (at + length (form n)), take at out ++ (form n ++ rest)) (Some next, after) = simp a at h in
    let there : Some (at + length (form n)) ≡ Some next = ap (λ (p : Option ℕ × List ℕ). p.0) both in
    let next-is : at + length (form n) ≡ next = cc in
    rw (← ap (λ (p : Option ℕ × List ℕ). p.1) both, ← next-is)
    (rw front at (found (take at out) rest n top)))
    (λ a.
    let both : ◌≡◌ {A = Option ℕ × List ℕ} (None, out) (Some next, after) = simp a at h in
    let there : None ≡ Some next = ap (λ (p : Option ℕ × List ℕ). p.0) both in
    absurd (let z : ◌≡◌ {A = ℕ} 0 1 = cc in omega arith))

-- each number has exactly one form: where two files have the same number, they have the same bytes
form_of : {s : List ℕ} {at n next : ℕ} → Stands s at n next → take (next - at) (drop at s) ≡ form n
form_of {s} {at} {n} {next} x =
    ap (λ (l : List ℕ). take (next - at) l) x.bytes ∙ take_at (form n) (drop next s) (next - at) (omega (arith, x.after))

pub one_form : (s t : List ℕ) (at from n next end : ℕ) → Bytes s → Bytes t → number_at s at ≡ value n next → number_at t from ≡ value n end →
    (next - at ≡ end - from) × (take (next - at) (drop at s) ≡ take (end - from) (drop from t))
one_form s t at from n next end all all' h h' =
    let x : Stands s at n next = stands s at n next all h in
    let y : Stands t from n end = stands t from n end all' h' in
    (omega (arith, x.after, y.after), form_of x ∙ sym (form_of y))
