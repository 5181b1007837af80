-- As many slots are used as pages are cached, over all files.
use mathlib.Core.Path.{◌≡◌, refl, sym, ap, ◌∙◌}
use mathlib.Core.Logic.{◌≢◌}
use mathlib.Core.Bool.{Bool, true, false, cond, ◌&&◌, ◌||◌}
use mathlib.Core.List.{List, [], ◌∷◌}
use Prim.Native.Nat.{ℕ, zero, suc, ◌+◌, ◌≤◌, ◌<◌}
use native.Mathlib.Omega.{arith}
use lib.Dec.{ltb}
use lib.ListN.{length, get_or}
use borrow.Author.Tests.{lt-ltb, le-ltb, eq-eqb, ne_eqb, ltb-true}
use borrow.Table.Steps.{cases}
use Rattle.memory.proofs.Cases.{split_lt, split_eq}
use Rattle.scan.specs.Scan.{first_index}
use Rattle.scan.proofs.Scan.{is_false, true-not-false, first_passes, and_left, and_right}
use Rattle.media.specs.Geometry.{files}
use Rattle.device.specs.declared.Slot.{Slot}
use Rattle.device.specs.Device.{Device, slot_count, free_slot, is_free, is_used, holds, is_cached, first_free}
use Rattle.device.specs.Sound.{in_range}
use Rattle.device.proofs.Device.{free_unused, holds_is}
use Rattle.device.proofs.Sound.{SlotsFit}
use Rattle.model.specs.CacheByLog.{sum_from}

-- ---- sums

abbrev pub one : Bool → ℕ
one b = cond b 1 0

-- how many of n numbers from p on pass
abbrev pub count_from : (ℕ → Bool) → ℕ → ℕ → ℕ
count_from test n p = sum_from (λ i. one (test i)) n p

pub sum_same : (a b : ℕ → ℕ) → ((i : ℕ) → a i ≡ b i) → (n p : ℕ) → sum_from a n p ≡ sum_from b n p
sum_same a b e zero p = refl
sum_same a b e (suc n) p = rw (e p, sum_same a b e n (suc p))

pub sum_below : (a b : ℕ → ℕ) (n p : ℕ) → ((i : ℕ) → i < p + n → a i ≡ b i) → sum_from a n p ≡ sum_from b n p
sum_below a b zero p e = refl
sum_below a b (suc n) p e = rw (e p (omega arith), sum_below a b n (suc p) (λ i h. e i (omega arith)))

sum_zero : (a : ℕ → ℕ) → ((i : ℕ) → a i ≡ 0) → (n p : ℕ) → sum_from a n p ≡ 0
sum_zero a e zero p = refl
sum_zero a e (suc n) p = rw (e p, sum_zero a e n (suc p))

-- one of the numbers is one more
module _ (a b : ℕ → ℕ) (k : ℕ) (more : a k ≡ suc (b k)) (same : (i : ℕ) → i ≢ k → a i ≡ b i) where
  sum_past : (n p : ℕ) → k < p → sum_from a n p ≡ sum_from b n p
  sum_past zero p h = refl
  sum_past (suc n) p h = rw (same p (λ e. (omega arith)), sum_past n (suc p) (omega arith))

  sum_more : (n p : ℕ) → p ≤ k → k < p + n → sum_from a n p ≡ suc (sum_from b n p)
  sum_more zero p lo hi = absurd (omega arith)
  sum_more (suc n) p lo hi =
      split_eq p k
      (λ e. rw (sum_past n (suc p) (omega arith), e, more) (omega arith))
      (λ ne. let x : sum_from a n (suc p) ≡ suc (sum_from b n (suc p)) = sum_more n (suc p) (omega arith) (omega arith) in rw (same p ne, x) (omega arith))

-- ---- slots

abbrev used_in : List Slot → ℕ
used_in [] = 0
used_in (s ∷ slots) = cond (is_free s) (used_in slots) (suc (used_in slots))

abbrev held_in : List Slot → ℕ → ℕ → Bool
held_in [] f p = false
held_in (s ∷ slots) f p = holds f p s || held_in slots f p

less_next : (a b : ℕ) → ltb (suc a) (suc b) ≡ ltb a b
less_next a b =
    split_lt a b
    (λ l. lt-ltb (suc a) (suc b) (omega arith) ∙ sym (lt-ltb a b l))
    (λ l. le-ltb (suc a) (suc b) (omega arith) ∙ sym (le-ltb a b l))

used-most : (slots : List Slot) → used_in slots ≤ length slots
used-most [] = omega arith
used-most (s ∷ slots) =
    let h : used_in slots ≤ length slots = used-most slots in cases (is_free s) (λ e. rw e (omega arith)) (λ e. rw e (omega arith))

-- one is free where fewer are used than there are
free_slot_lem : (slots : List Slot) → ltb (first_index is_free slots) (length slots) ≡ ltb (used_in slots) (length slots)
free_slot_lem [] = refl
free_slot_lem (s ∷ slots) =
    let h : used_in slots ≤ length slots = used-most slots in
    let x : ltb (first_index is_free slots) (length slots) ≡ ltb (used_in slots) (length slots) = free_slot_lem slots in
    cases (is_free s)
    (λ e. rw e (lt-ltb 0 (suc (length slots)) (omega arith) ∙ sym (lt-ltb (used_in slots) (suc (length slots)) (omega arith))))
    (λ e. rw e (less_next (first_index is_free slots) (length slots) ∙ x ∙ sym (less_next (used_in slots) (length slots))))

first-held : (slots : List Slot) (f p : ℕ) → ltb (first_index (holds f p) slots) (length slots) ≡ held_in slots f p
first-held [] f p = refl
first-held (s ∷ slots) f p = cases (holds f p s) (λ e. rw e (lt-ltb 0 (suc (length slots)) (omega arith))) (λ e. rw e (less_next (first_index (holds f p) slots) (length slots) ∙ first-held slots f p))

module _ (P : ℕ) where
  -- the used slots name pages that there are, and no page twice
  record Named (slots : List Slot) : Type 0 where
    pub there : (k : ℕ) (s : Slot) → get_or slots k free_slot ≡ s → k < length slots → is_free s ≡ false → (is_used s ≡ true) × (s.file < files) × (s.page < P)
    pub alone : (k : ℕ) (s : Slot) → get_or slots k free_slot ≡ s → k < length slots → is_used s ≡ true → first_index (holds s.file s.page) slots ≡ k

  named-rest : (s : Slot) (slots : List Slot) → Named (s ∷ slots) → Named slots
  named-rest s slots x = record {
    there = λ k t e h u. x.there (suc k) t e (omega arith) u;
    alone = λ k t e h u.
        let a : cond (holds t.file t.page s) 0 (suc (first_index (holds t.file t.page) slots)) ≡ suc k = x.alone (suc k) t e (omega arith) u in
        cases (holds t.file t.page s)
        (λ y. let z : 0 ≡ suc k = rw y at a in absurd (omega arith))
        (λ y. let z : suc (first_index (holds t.file t.page) slots) ≡ suc k = rw y at a in omega arith);
  }

  -- the first slot's page is in no other
  first_alone : (s : Slot) (slots : List Slot) → Named (s ∷ slots) → is_used s ≡ true → held_in slots s.file s.page ≡ false
  first_alone s slots x u =
      is_false (held_in slots s.file s.page) (λ h.
      let k : ℕ = first_index (holds s.file s.page) slots in
      let l : first_index (holds s.file s.page) slots < length slots = ltb-true _ _ (first-held slots s.file s.page ∙ h) in
      let t : Slot = get_or slots (first_index (holds s.file s.page) slots) free_slot in
      let y = holds_is s.file s.page t (first_passes (holds s.file s.page) slots free_slot l) in
      let a : first_index (holds t.file t.page) (s ∷ slots) ≡ suc k = x.alone (suc k) t refl (omega arith) y.0 in
      let own : holds t.file t.page s ≡ true = rw (y.1, y.2, u, eq-eqb s.file s.file refl, eq-eqb s.page s.page refl) in
      let z : 0 ≡ suc k = rw own at a in
      absurd (omega arith))

  abbrev held : List Slot → ℕ
  held slots = sum_from (λ f. count_from (held_in slots f) P 0) files 0

  held-is_used : (slots : List Slot) → Named slots → held slots ≡ used_in slots
  held-is_used [] x = sum_zero (λ f. count_from (held_in [] f) P 0) (λ f. sum_zero (λ p. 0) (λ p. refl) P 0) files 0
  held-is_used (s ∷ slots) x =
      let rest : held slots ≡ used_in slots = held-is_used slots (named-rest s slots x) in
      cases (is_free s)
      (λ e.
      let u : is_used s ≡ false = free_unused s e in
      let last : used_in (s ∷ slots) ≡ used_in slots = rw e in
      (sum_same (λ f. count_from (held_in (s ∷ slots) f) P 0) (λ f. count_from (held_in slots f) P 0)
      (λ f. sum_same (λ p. one (held_in (s ∷ slots) f p)) (λ p. one (held_in slots f p)) (λ p. rw u) P 0)
      files 0
      ∙ rest
      ∙ sym last))
      (λ e.
      let y = x.there 0 s refl (omega arith) e in
      let u : is_used s ≡ true = y.0 in
      let free : held_in slots s.file s.page ≡ false = first_alone s slots x u in
      let own : holds s.file s.page s ≡ true = rw (u, eq-eqb s.file s.file refl, eq-eqb s.page s.page refl) in
      let last : used_in (s ∷ slots) ≡ suc (used_in slots) = rw e in
      (sum_more (λ f. count_from (held_in (s ∷ slots) f) P 0) (λ f. count_from (held_in slots f) P 0) s.file
      (sum_more (λ p. one (held_in (s ∷ slots) s.file p)) (λ p. one (held_in slots s.file p)) s.page
      (rw (own, free))
      (λ p ne. rw (u, ne_eqb s.page p (λ e. ne (sym e)), eq-eqb s.file s.file refl))
      P 0 (omega arith) (omega (arith, y.2)))
      (λ f ne. sum_same (λ p. one (held_in (s ∷ slots) f p)) (λ p. one (held_in slots f p)) (λ p. rw (u, ne_eqb s.file f (λ e. ne (sym e)))) P 0)
      files 0 (omega arith) (omega (arith, y.1))
      ∙ ap suc rest
      ∙ sym last))

  -- a slot is free where fewer pages are cached than there are slots
  pub free_by_count : (d : Device) → SlotsFit P d.cache.slots
      → ltb (first_free d) slot_count ≡ ltb (sum_from (λ f. count_from (is_cached d f) P 0) files 0) slot_count
  unfolding in_range
  free_by_count d x =
      let slots : List Slot = d.cache.slots in
      let lk : length slots ≡ slot_count = x.count in
      let named : Named slots = record {
        there = λ k s e h u.
            let r : in_range P s ≡ true = rw e at (x.named k (omega arith)) in
            cases (is_used s)
            (λ v.
            let t : ltb s.file files && ltb s.page P ≡ true = rw v at r in
            (v, ltb-true _ _ (and_left (ltb s.file files) _ t), ltb-true _ _ (and_right (ltb s.file files) _ t)))
            (λ v. absurd (true-not-false (is_free s) (and_left (is_free s) _ (rw v at r)) u));
        alone = λ k s e h u. x.alone k s e (omega arith) u;
      } in
      let c : (f p : ℕ) → is_cached d f p ≡ held_in slots f p = λ f p. rw lk at (first-held slots f p) in
      (rw lk at (free_slot_lem slots))
      ∙ ap (λ (n : ℕ). ltb n slot_count)
      (sym (held-is_used slots named)
      ∙ sum_same (λ f. count_from (held_in slots f) P 0) (λ f. count_from (is_cached d f) P 0)
      (λ f. sum_same (λ p. one (held_in slots f p)) (λ p. one (is_cached d f p)) (λ p. rw (c f p)) P 0) files 0)
