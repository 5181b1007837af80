-- Laws of the three sizes of a file and of the truncate rule on them.
use mathlib.Core.Path.{◌≡◌, refl, sym}
use mathlib.Core.Bool.{true, false}
use Prim.Native.Nat.{ℕ, ◌≤◌, ◌<◌}
use native.Mathlib.Omega.{arith}
use borrow.Author.Tests.{leb-true, le-leb, lt-leb}
use Rattle.answer.specs.Coded.{coded, done, BOOKS, RANGE}
use Rattle.answer.proofs.Coded.{coded_of}
use Rattle.answer.proofs.Admission.{if_refused, passed_at, answer-passed}
use Rattle.answer.specs.declared.Refusal.{Refusal}
use Rattle.std.specs.Prelude.{Result}
use Rattle.std.specs.Prelude.{Ok, Err}
use Rattle.device.specs.declared.FileSizes.{FileSizes}
use Rattle.device.specs.Sizes.{order_tests, in_order, truncated_sizes, sizes_tests, sizes_answer, sizes_after}
use Rattle.scan.proofs.Scan.{all_of_at}

module _ (greatest : ℕ) where
  pub order_is : (s : FileSizes) → in_order greatest s ≡ true → (s.floor ≤ s.logical) × (s.logical ≤ greatest) × (s.floor ≤ s.stored)
  unfolding in_order
  order_is s e = (
    leb-true _ _ (all_of_at (order_tests greatest s) e 0),
    leb-true _ _ (all_of_at (order_tests greatest s) e 1),
    leb-true _ _ (all_of_at (order_tests greatest s) e 2),
  )

  pub order-true : (s : FileSizes) → s.floor ≤ s.logical → s.logical ≤ greatest → s.floor ≤ s.stored → in_order greatest s ≡ true
  unfolding in_order
  order-true s a b c = rw (le-leb _ _ a, le-leb _ _ b, le-leb _ _ c)

  -- the rule keeps the order
  pub truncated-order : (n : ℕ) (s : FileSizes) → n ≤ greatest → in_order greatest s ≡ true → in_order greatest (truncated_sizes n s) ≡ true
  truncated-order n s h e = let o = order_is s e in order-true (truncated_sizes n s) (omega arith) h (omega (arith, o.2))

  -- its three answers, and what each leaves
  module _ (n : ℕ) (s : FileSizes) where
    pub sizes_books : in_order greatest s ≡ false → (sizes_answer greatest n s ≡ BOOKS) × (sizes_after greatest n s ≡ s)
    unfolding sizes_tests sizes_answer sizes_after
    sizes_books e = (rw e, rw e)

    pub sizes-range : in_order greatest s ≡ true → greatest < n → (sizes_answer greatest n s ≡ RANGE) × (sizes_after greatest n s ≡ s)
    unfolding sizes_tests sizes_answer sizes_after
    sizes-range e h = (rw (e, lt-leb n greatest h), rw (e, lt-leb n greatest h))

    pub sizes-done : in_order greatest s ≡ true → n ≤ greatest → (sizes_answer greatest n s ≡ done 0) × (sizes_after greatest n s ≡ truncated_sizes n s)
    unfolding sizes_tests sizes_answer sizes_after
    sizes-done e h = (rw (e, le-leb n greatest h), rw (e, le-leb n greatest h))

-- what an answer of the code to the rule shows
module _ (greatest n : ℕ) (s : FileSizes) (a : Result ℕ Refusal) (e : coded a ≡ sizes_answer greatest n s) where
  pub rule_refused : (x : Refusal) → a ≡ Err x → s ≡ sizes_after greatest n s
  unfolding sizes_after
  rule_refused x q = sym (if_refused (sizes_answer greatest n s) x (truncated_sizes n s) s (coded_of a (Err x) _ q e))

  module _ (k : ℕ) (q : a ≡ Ok k) where
    pub rule_fits : n ≤ greatest
    unfolding sizes_tests sizes_answer
    rule_fits = leb-true _ _ (passed_at (sizes_tests greatest n s) (answer-passed (sizes_tests greatest n s) a k refl e q) 1)

    pub rule_done : truncated_sizes n s ≡ sizes_after greatest n s
    unfolding sizes_after
    rule_done = rw (← (coded_of a (Ok k) _ q e))
