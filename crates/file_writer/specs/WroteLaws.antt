-- What the writer leaves is the bench file of the program: numbers put one after the other are laid over the buffer as their forms.
-- Assumes nothing.
use Rattle.std.specs.Prelude.{ℕ, ◌+◌, ◌<◌, ◌≤◌, ◌≡◌, refl, List, [], ◌∷◌, ◌++◌, true, false, length, take, drop, ltb, leb, Option, Some, None, Result, Err}
use Rattle.std.proofs.Common.{sym, ◌∙◌, ap, append_assoc, arith, add-zero, add_assoc, length-append, length-drop, take-append-drop, take_at, drop-drop, length-take-le, le-leb, leb-true, leb-false, ltb-true, ltb-false, le-ltb}
use Rattle.std.proofs.Math.Seq.{drop-append-add}
use Rattle.std.proofs.lemmas.Bool.{lt-leb}
use Rattle.seven.proofs.Forms.{by_test}
use Rattle.seven.specs.Write.{form, laid, written}
use Rattle.file_writer.specs.declared.Unwritten.{Unwritten}
use Rattle.file_writer.specs.declared.Unwritten.TheVariants.{Refused, NoRoom}
use Rattle.file.specs.Stated.{Bench}
use Rattle.file.specs.Written.{forms, numbers_in, file_of}
use Rattle.file_writer.specs.NumbersLaws.{numbers_same}
use Rattle.file_writer.specs.Writing.{Buffer, put_one, put_all, put_bytes, refused_to_write, wrote_all, delivered, write_into}

-- bytes laid behind bytes
laid_split : (b xs : List ℕ) (at : ℕ) → laid b at xs ≡ (take at b ++ xs) ++ drop (at + length xs) b
unfolding laid
laid_split b xs at = sym (append_assoc (take at b) xs (drop (at + length xs) b))

front_length : (b xs : List ℕ) (at : ℕ) → at ≤ length b → length (take at b ++ xs) ≡ at + length xs
front_length b xs at h = length-append (take at b) xs ∙ ap (λ (n : ℕ). n + length xs) (length-take-le at b h)

laid_length : (b xs : List ℕ) (at : ℕ) → at + length xs ≤ length b → length (laid b at xs) ≡ length b
laid_length b xs at h =
    ap length (laid_split b xs at)
    ∙ (length-append (take at b ++ xs) (drop (at + length xs) b)
    ∙ (rw (front_length b xs at (omega arith), length-drop (at + length xs) b) (omega arith)))

joined_laid : (b xs ys : List ℕ) (at : ℕ) (middle : List ℕ) → take (at + length xs) middle ≡ take at b ++ xs →
    drop (at + length xs + length ys) middle ≡ drop (at + length (xs ++ ys)) b → laid middle (at + length xs) ys ≡ laid b at (xs ++ ys)
unfolding laid
joined_laid b xs ys at middle front back = rw (front, back) (simp append_assoc)

laid_nothing : (b : List ℕ) (at : ℕ) → laid b at [] ≡ b
unfolding laid
laid_nothing b at = rw add-zero (take-append-drop at b)

laid_behind : (b xs ys : List ℕ) (at : ℕ) → at + length xs ≤ length b → laid (laid b at xs) (at + length xs) ys ≡ laid b at (xs ++ ys)
laid_behind b xs ys at h =
    let m : length (take at b ++ xs) ≡ at + length xs = front_length b xs at (omega arith) in
    let front : take (at + length xs) (laid b at xs) ≡ take at b ++ xs =
    ap (λ (l : List ℕ). take (at + length xs) l) (laid_split b xs at) ∙ take_at (take at b ++ xs) (drop (at + length xs) b) (at + length xs) m in
    let size : at + length xs + length ys ≡ at + length (xs ++ ys) = add_assoc at (length xs) (length ys) ∙ ap (λ (n : ℕ). at + n) (sym (length-append xs ys)) in
    let back : drop (at + length xs + length ys) (laid b at xs) ≡ drop (at + length (xs ++ ys)) b =
    ap (λ (l : List ℕ). drop (at + length xs + length ys) l) (laid_split b xs at)
    ∙ (ap (λ (n : ℕ). drop (n + length ys) ((take at b ++ xs) ++ drop (at + length xs) b)) (sym m)
    ∙ (drop-append-add (take at b ++ xs) (drop (at + length xs) b) (length ys)
    ∙ (drop-drop (length ys) (at + length xs) b ∙ ap (λ (n : ℕ). drop n b) size))) in
    joined_laid b xs ys at (laid b at xs) front back

-- numbers that fit are laid as their forms
pub put_fits : (ns b : List ℕ) (at : ℕ) → at + length (forms ns) ≤ length b →
    put_all (Some at) ns b ≡ (Some (at + length (forms ns)), laid b at (forms ns))
unfolding put_all put_one forms written
put_fits [] b at h = ap (λ (n : ℕ). (Some n, b)) (sym (add-zero at)) ∙ ap (λ (l : List ℕ). (Some (at + 0), l)) (sym (laid_nothing b at))
put_fits (n ∷ ns) b at h =
    let size : length (form n ++ forms ns) ≡ length (form n) + length (forms ns) = length-append (form n) (forms ns) in
    let one : at + length (form n) ≤ length b = omega arith in
    let same : length (laid b at (form n)) ≡ length b = laid_length b (form n) at one in
    rw (le-leb (at + length (form n)) (length b) one)
    (put_fits ns (laid b at (form n)) (at + length (form n)) (omega arith)
    ∙ (ap (λ (l : List ℕ). (Some (at + length (form n) + length (forms ns)), l)) (laid_behind b (form n) (forms ns) at one)
    ∙ ap (λ (k : ℕ). (Some k, laid b at (form n ++ forms ns))) (add_assoc at (length (form n)) (length (forms ns)) ∙ ap (λ (k : ℕ). at + k) (sym size))))

pub stays_full : (ns b : List ℕ) → put_all None ns b ≡ (None, b)
unfolding put_all put_one
stays_full [] b = refl
stays_full (n ∷ ns) b = stays_full ns b

written_fits : (b : List ℕ) (at n : ℕ) → at + length (form n) ≤ length b → written b at n ≡ (Some (at + length (form n)), laid b at (form n))
unfolding written
written_fits b at n h = rw (le-leb _ _ h)

written_full : (b : List ℕ) (at n : ℕ) → length b < at + length (form n) → written b at n ≡ (None, b)
unfolding written
written_full b at n h = rw (lt-leb _ _ h)

-- numbers that do not fit
pub put_full : (ns b : List ℕ) (at : ℕ) → length b < at + length (forms ns) → at ≤ length b → (put_all (Some at) ns b).0 ≡ None
unfolding put_all put_one forms
put_full [] b at h k = absurd (omega arith)
put_full (n ∷ ns) b at h k =
    let size : length (form n ++ forms ns) ≡ length (form n) + length (forms ns) = length-append (form n) (forms ns) in
    by_test (leb (at + length (form n)) (length b))
    (λ e.
    let one : at + length (form n) ≤ length b = leb-true (at + length (form n)) (length b) e in
    let same : length (laid b at (form n)) ≡ length b = laid_length b (form n) at one in
    ap (λ (w : Buffer). (put_all w.0 ns w.1).0) (written_fits b at n one)
    ∙ put_full ns (laid b at (form n)) (at + length (form n)) (omega arith) (omega arith))
    (λ e. ap (λ (w : Buffer). (put_all w.0 ns w.1).0) (written_full b at n (leb-false (at + length (form n)) (length b) e)) ∙ ap (λ (w : Buffer). w.0) (stays_full ns b))

bytes_fit : (b bytes : List ℕ) (at : ℕ) → at + length bytes ≤ length b → put_bytes (Some at) bytes b ≡ (Some (at + length bytes), laid b at bytes)
unfolding put_bytes
bytes_fit b bytes at h = rw (le-leb _ _ h)

bytes_full : (b bytes : List ℕ) (at : ℕ) → length b < at + length bytes → (put_bytes (Some at) bytes b).0 ≡ None
unfolding put_bytes
bytes_full b bytes at h = rw (lt-leb _ _ h)

stays_bytes : (bytes b : List ℕ) → (put_bytes None bytes b).0 ≡ None
unfolding put_bytes
stays_bytes bytes b = refl

-- the whole file, where it fits and where it does not
pub file_fits : (ns code b : List ℕ) → length (forms ns ++ code) ≤ length b →
    put_bytes (put_all (Some 0) ns b).0 code (put_all (Some 0) ns b).1 ≡ (Some (length (forms ns ++ code)), laid b 0 (forms ns ++ code))
file_fits ns code b h =
    let size : length (forms ns ++ code) ≡ length (forms ns) + length code = length-append (forms ns) code in
    let same : length (laid b 0 (forms ns)) ≡ length b = laid_length b (forms ns) 0 (omega arith) in
    ap (λ (w : Buffer). put_bytes w.0 code w.1) (put_fits ns b 0 (omega arith))
    ∙ (bytes_fit (laid b 0 (forms ns)) code (0 + length (forms ns)) (omega arith)
    ∙ (ap (λ (l : List ℕ). (Some (0 + length (forms ns) + length code), l)) (laid_behind b (forms ns) code 0 (omega arith))
    ∙ ap (λ (k : ℕ). (Some k, laid b 0 (forms ns ++ code))) (omega arith)))

pub file_full : (ns code b : List ℕ) → length b < length (forms ns ++ code) →
    (put_bytes (put_all (Some 0) ns b).0 code (put_all (Some 0) ns b).1).0 ≡ None
file_full ns code b h =
    let size : length (forms ns ++ code) ≡ length (forms ns) + length code = length-append (forms ns) code in
    by_test (leb (length (forms ns)) (length b))
    (λ e.
    let fits : length (forms ns) ≤ length b = leb-true (length (forms ns)) (length b) e in
    let same : length (laid b 0 (forms ns)) ≡ length b = laid_length b (forms ns) 0 (omega arith) in
    ap (λ (w : Buffer). (put_bytes w.0 code w.1).0) (put_fits ns b 0 (omega arith))
    ∙ bytes_full (laid b 0 (forms ns)) code (0 + length (forms ns)) (omega arith))
    (λ e.
    let over-full : length b < 0 + length (forms ns) = omega (arith, leb-false (length (forms ns)) (length b) e) in
    ap (λ (s : Option ℕ). (put_bytes s code (put_all (Some 0) ns b).1).0) (put_full ns b 0 over-full (omega arith))
    ∙ stays_bytes code (put_all (Some 0) ns b).1)

-- what the writer made in a buffer of 65,536 bytes
made_fits : (p : Bench) (b : List ℕ) → refused_to_write p ≡ false → length (file_of p) ≤ length b →
    wrote_all p.pool p.tables b ≡ (Some (length (file_of p)), laid b 0 (file_of p))
unfolding wrote_all file_of
made_fits p b e h = rw (numbers_same p e) (file_fits (numbers_in p) p.tables.code b h)

made_full : (p : Bench) (b : List ℕ) → refused_to_write p ≡ false → length b < length (file_of p) → (wrote_all p.pool p.tables b).0 ≡ None
unfolding wrote_all file_of
made_full p b e h = rw (numbers_same p e) (file_full (numbers_in p) p.tables.code b h)

front_of : (b file : List ℕ) → take (length file) (laid b 0 file) ≡ file
unfolding laid
front_of b file = take_at file (drop (0 + length file) b) (length file) refl

no_after : {P : Type 0} {n : ℕ} → ◌≡◌ {A = Option ℕ} (Some n) None → P
no_after e = absurd (let z : ◌≡◌ {A = ℕ} 0 1 = cc in omega arith)

-- the answer by the writer's tests
pub gives_31 : (p : Bench) (out : List ℕ) → refused_to_write p ≡ true → ◌≡◌ {A = Result ℕ Unwritten × List ℕ} (Err (Refused 31), out) (write_into p out)
unfolding write_into
gives_31 p out e = rw e

pub gives_no_room : (p : Bench) (out b b' : List ℕ) → refused_to_write p ≡ false → length b ≡ 65536 →
    ◌≡◌ {A = Buffer} (None, b') (wrote_all p.pool p.tables b) → ◌≡◌ {A = Result ℕ Unwritten × List ℕ} (Err NoRoom, out) (write_into p out)
unfolding write_into
gives_no_room p out b b' e size made =
    by_test (ltb 65536 (length (file_of p)))
    (λ t. rw (e, t))
    (λ t.
    let fits : length (file_of p) ≤ length b = omega (arith, ltb-false 65536 (length (file_of p)) t) in
    no_after (sym (ap (λ (x : Buffer). x.0) (made ∙ made_fits p b e fits))))

pub gives_file : (p : Bench) (out b b' : List ℕ) (n : ℕ) (answer : Result ℕ Unwritten) (after : List ℕ) → refused_to_write p ≡ false → length b ≡ 65536 →
    ◌≡◌ {A = Buffer} (Some n, b') (wrote_all p.pool p.tables b) → ◌≡◌ {A = Result ℕ Unwritten × List ℕ} (answer, after) (delivered b' n out) →
    ◌≡◌ {A = Result ℕ Unwritten × List ℕ} (answer, after) (write_into p out)
unfolding write_into delivered
gives_file p out b b' n answer after e size made handed =
    by_test (ltb 65536 (length (file_of p)))
    (λ t.
    let long : length b < length (file_of p) = omega (arith, ltb-true 65536 (length (file_of p)) t) in
    no_after (ap (λ (x : Buffer). x.0) made ∙ made_full p b e long))
    (λ t.
    let fits : length (file_of p) ≤ length b = omega (arith, ltb-false 65536 (length (file_of p)) t) in
    let both : ◌≡◌ {A = Buffer} (Some n, b') (Some (length (file_of p)), laid b 0 (file_of p)) = made ∙ made_fits p b e fits in
    let there : Some n ≡ Some (length (file_of p)) = ap (λ (x : Buffer). x.0) both in
    let n_is : n ≡ length (file_of p) = cc in
    let b-is : b' ≡ laid b 0 (file_of p) = ap (λ (x : Buffer). x.1) both in
    let same : length (laid b 0 (file_of p)) ≡ length b = laid_length b (file_of p) 0 (omega arith) in
    handed
    ∙ rw (e, t, b-is, n_is, le-ltb (length (laid b 0 (file_of p))) (length (file_of p)) (omega arith), front_of b (file_of p)))
