-- Laws of runs, and of a search for the end of one.
use mathlib.Core.Path.{◌≡◌, refl, sym, ap, ◌∙◌}
use mathlib.Core.Bool.{Bool, true, false, not}
use mathlib.Core.List.{List, [], ◌∷◌, ◌++◌}
use Prim.Native.Nat.{ℕ, zero, suc, ◌+◌, ◌≤◌, ◌<◌}
use native.Mathlib.Omega.{arith}
use native.Mathlib.Nat.{suc-add}
use native.Mathlib.Numerals.{add-one}
use lib.Dec.{eqb}
use lib.ListN.{length, get_or, take, drop, drop_of_length-le, take-append-drop, length-take}
use lib.Seq.{drop-cons, take-take, take-append_seam}
use borrow.Author.Tests.{eqb-true}
use borrow.Table.Steps.{cases}
use Rattle.memory.proofs.Bytes.{length_front}
use Rattle.scan.specs.Scan.{every}
use Rattle.scan.proofs.Scan.{every_impl, first_le, first-join}
use Rattle.scan.proofs.Loops.{Searched, searched_next, searched_here}
use Rattle.text.specs.Runs.{run, front}

-- ---- runs

run_le : (t : ℕ → Bool) (s : List ℕ) → run t s ≤ length s
unfolding run
run_le t s = first_le (λ c. not (t c)) s

pub length_run : (t : ℕ → Bool) (s : List ℕ) → length (front t s) ≡ run t s
unfolding front
length_run t s = length_front (run t s) s (run_le t s)

pub front-every : (t : ℕ → Bool) (s : List ℕ) → every t (front t s) ≡ true
unfolding run front
front-every t [] = refl
front-every t (x ∷ xs) = cases (t x) (λ e. rw (e, e) (front-every t xs)) (λ e. rw e)

-- the run among the first n bytes
module _ (t : ℕ → Bool) (n : ℕ) (s : List ℕ) where
  pub first-few : run t (take n s) ≤ n
  first-few = let k : length (take n s) ≤ n = simp length-take (omega arith) in omega (arith, run_le t (take n s))

  pub first-within : run t (take n s) ≤ length s
  first-within = let k : length (take n s) ≤ length s = simp length-take (omega arith) in omega (arith, run_le t (take n s))

  pub first-every : every t (take (run t (take n s)) s) ≡ true
  unfolding front
  first-every = ap (every t) (sym (take-take (run t (take n s)) n s first-few)) ∙ front-every t (take n s)

-- bytes that pass, before one that does not
pub run_join : (t : ℕ → Bool) (xs : List ℕ) (y : ℕ) (ys : List ℕ) → every t xs ≡ true → t y ≡ false → run t (xs ++ (y ∷ ys)) ≡ length xs
unfolding run
run_join t xs y ys e h = first-join (λ c. not (t c)) xs y ys (every_impl t (λ c. not (not (t c))) (λ c q. rw q) xs e) (rw h)

pub front-join : (t : ℕ → Bool) (xs : List ℕ) (y : ℕ) (ys : List ℕ) → every t xs ≡ true → t y ≡ false → front t (xs ++ (y ∷ ys)) ≡ xs
unfolding front
front-join t xs y ys e h = rw (run_join t xs y ys e h) (take-append_seam xs (y ∷ ys))

-- a byte other than 0 stands within the list
pub mark_within : (s : List ℕ) (i c : ℕ) → eqb (get_or s i 0) (suc c) ≡ true → i < length s
mark_within [] i c e = let q : 0 ≡ suc c = eqb-true 0 (suc c) e in absurd (omega arith)
mark_within (x ∷ xs) zero c e = omega arith
mark_within (x ∷ xs) (suc i) c e = let h = mark_within xs i c e in omega arith

-- a run, the mark after it, and what comes after that
pub front-split : (t : ℕ → Bool) (s : List ℕ) (c : ℕ) → get_or s (run t s) 0 ≡ c → run t s < length s → s ≡ front t s ++ (c ∷ drop (run t s + 1) s)
unfolding front
front-split t s c e h = sym (take-append-drop (run t s) s) ∙ rw (drop-cons s (run t s) 0 h, e, add-one)

-- ---- a search for the end of a run

-- i bytes pass: none of them is the first that fails
abbrev pub Passed : (ℕ → Bool) → List ℕ → ℕ → Type 0
Passed t s i = Searched (λ c. not (t c)) s i

-- those among the first n bytes
pub passed_first : (t : ℕ → Bool) (n : ℕ) (s : List ℕ) → Passed t s (run t (take n s))
unfolding run
passed_first t zero s = record { so_far = omega arith }
passed_first t (suc n) [] = record { so_far = refl }
passed_first t (suc n) (x ∷ xs) =
    cases (t x)
    (λ e. let p = (passed_first t n xs).so_far in record { so_far = rw e (ap suc p ∙ sym (suc-add _ _)) })
    (λ e. record { so_far = rw (e, e) })

module _ (t : ℕ → Bool) (s : List ℕ) (i : ℕ) (p : Passed t s i) where
  pub passed_here : i < length s → t (get_or s i 0) ≡ false → run t s ≡ i
  unfolding run
  passed_here h e = sym (searched_here 0 p h (rw e))

  pub passed-next : i < length s → t (get_or s i 0) ≡ true → Passed t s (i + 1)
  passed-next h e = searched_next 0 p h (rw e)

  pub passed_end : length s ≤ i → run t s ≡ i
  unfolding run
  passed_end h = p.so_far ∙ rw (drop_of_length-le s h) (omega arith)

  pub passed-few : i ≤ run t s
  unfolding run
  passed-few = omega (arith, p.so_far)

  pub passed-front : run t s ≡ i → front t s ≡ take i s
  unfolding front
  passed-front e = rw e
