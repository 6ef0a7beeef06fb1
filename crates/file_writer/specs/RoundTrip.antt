-- Reading what was written gives the same program; writing what was read gives the same bytes.
-- Assumes nothing.
use Prim.Native.Nat.{ℕ, zero, suc, ◌+◌, ◌<◌, ◌≤◌}
use Rattle.std.specs.Prelude.{◌≡◌, get_or, drop, Result, Ok, Err}
use Rattle.std.proofs.Math.Path.{refl, sym, ap}
use Rattle.std.proofs.Common.{◌∙◌, arith, add-zero, add_assoc}
use mathlib.Core.List.{List, [], ◌∷◌, ◌++◌, append_assoc}
use Rattle.std.proofs.Math.ListN.{length, length-append}
use Rattle.seven.specs.declared.Number.{Number}
use Rattle.seven.specs.declared.Misread.{Misread}
use Rattle.seven.specs.Seven.{value, number_at, Bytes}
use Rattle.seven.specs.Write.{form}
use Rattle.seven.proofs.Laws.{found, Stands, stands}
use Rattle.file.specs.Numbers.{if_read, or_refused, number_in, on_value, run_of, numbers}
use Rattle.file.proofs.RunLaws.{never, same_result}
use Rattle.file.specs.Written.{forms}

-- every number of a list has a form
unfoldable pub Small : List ℕ → Type 0
Small ns = (i : ℕ) → get_or ns i 0 < 65536

small_first : (n : ℕ) (ns : List ℕ) → Small (n ∷ ns) → n < 65536
unfolding Small
small_first n ns all = all 0

small_rest : (n : ℕ) (ns : List ℕ) → Small (n ∷ ns) → Small ns
unfolding Small
small_rest n ns all i = all (suc i)

-- numbers that stand in a row read as these numbers, and the run ends after them
pub record Reads (file : List ℕ) (count at end : ℕ) (ns : List ℕ) : Type 0 where
  pub run : run_of count file at ≡ Ok end
  pub values : numbers count file at ≡ ns

module _ (after : List ℕ) where
  pub reads_forms : (ns before : List ℕ) → Small ns →
      Reads (before ++ (forms ns ++ after)) (length ns) (length before) (length before + length (forms ns)) ns
  unfolding forms run_of numbers number_in
  reads_forms [] before all = record { run = ap Ok (sym (add-zero (length before))); values = refl }
  reads_forms (n ∷ ns) before all =
      let file : List ℕ = before ++ ((form n ++ forms ns) ++ after) in
      let shape : file ≡ before ++ (form n ++ (forms ns ++ after)) = ap (λ (l : List ℕ). before ++ l) (append_assoc (form n) (forms ns) after) in
      let there : number_at file (length before) ≡ value n (length before + length (form n)) =
      rw shape (found before (forms ns ++ after) n (small_first n ns all)) in
      let shape' : file ≡ (before ++ form n) ++ (forms ns ++ after) = shape ∙ sym (append_assoc before (form n) (forms ns ++ after)) in
      let rest : Reads ((before ++ form n) ++ (forms ns ++ after)) (length ns) (length (before ++ form n)) (length (before ++ form n) + length (forms ns)) ns =
      reads_forms ns (before ++ form n) (small_rest n ns all) in
      let at : length (before ++ form n) ≡ length before + length (form n) = length-append before (form n) in
      let end : length (before ++ form n) + length (forms ns) ≡ length before + length (form n ++ forms ns) =
      ap (λ (k : ℕ). k + length (forms ns)) at ∙ (add_assoc (length before) (length (form n)) (length (forms ns)) ∙ ap (λ (k : ℕ). length before + k) (sym (length-append (form n) (forms ns)))) in
      record {
        run = simp there (rw (← at, shape') (rest.run ∙ ap Ok end));
        values = simp there (ap (λ (l : List ℕ). n ∷ l) (rw (← at, shape') rest.values));
      }

pub forms_append : (xs ys : List ℕ) → forms (xs ++ ys) ≡ forms xs ++ forms ys
unfolding forms
forms_append [] ys = refl
forms_append (n ∷ xs) ys = ap (λ (l : List ℕ). form n ++ l) (forms_append xs ys) ∙ sym (append_assoc (form n) (forms xs) (forms ys))

-- numbers that were read stand there in their forms
pub record Written (file : List ℕ) (at end : ℕ) (ns : List ℕ) : Type 0 where
  pub within : end ≤ length file
  pub bytes : drop at file ≡ forms ns ++ drop end file

zero_forms : (at end : ℕ) (file : List ℕ) → at ≡ end → drop at file ≡ forms [] ++ drop end file
unfolding forms
zero_forms at end file e = ap (λ (k : ℕ). drop k file) e

one_written : (r : Result Number Misread) (count : ℕ) (file : List ℕ) (at end : ℕ) → Bytes file → number_at file at ≡ r →
    ((next : ℕ) → next ≤ length file → run_of count file next ≡ Ok end → Written file next end (numbers count file next)) →
    if_read (or_refused file at r) (λ (x : Number). run_of count file x.next) ≡ Ok end →
    Written file at end (on_value r (λ (x : Number). x.n ∷ numbers count file x.next))
unfolding forms
one_written (Ok x) count file at end all there rest e =
    let s : Stands file at x.n x.next = stands file at x.n x.next all there in
    let w : Written file x.next end (numbers count file x.next) = rest x.next s.within e in
    record {
      within = w.within;
      bytes =
          s.bytes
          ∙ (ap (λ (l : List ℕ). form x.n ++ l) w.bytes ∙ sym (append_assoc (form x.n) (forms (numbers count file x.next)) (drop end file)));
    }
one_written (Err m) count file at end all there rest e = never e

pub run_written : (count : ℕ) (file : List ℕ) (at end : ℕ) → Bytes file → at ≤ length file → run_of count file at ≡ Ok end →
    Written file at end (numbers count file at)
unfolding run_of numbers number_in
run_written zero file at end all h e =
    let same : at ≡ end = same_result e in
    record { within = omega arith; bytes = zero_forms at end file same }
run_written (suc count) file at end all h e =
    one_written (number_at file at) count file at end all refl (λ next k f. run_written count file next end all k f) e

-- the numbers of a program, table by table
pub joined : (pool : ℕ) (a b c d e tail : List ℕ) →
    forms (pool ∷ (a ++ (b ++ (c ++ (d ++ e))))) ++ tail ≡
    forms (pool ∷ []) ++ (forms a ++ (forms b ++ (forms c ++ (forms d ++ (forms e ++ tail)))))
unfolding forms
joined pool a b c d e tail = simp (forms_append, append_assoc)
