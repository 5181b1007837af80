-- One pass over the slots in the bytes of a state: what the table has after the first k of them.
use mathlib.Core.Path.{◌≡◌, refl, sym, ◌∙◌}
use mathlib.Core.Logic.{◌≢◌}
use mathlib.Core.Bool.{true, false, cond, ◌&&◌}
use mathlib.Core.List.{List}
use Prim.Native.Nat.{ℕ, zero, suc, ◌+◌, ◌*◌, ◌/◌, ◌%◌, ◌<◌, ◌≤◌}
use native.Mathlib.Nat.{not-suc-le-zero, add-zero}
use native.Mathlib.Omega.{arith}
use lib.Dec.{ltb, eqb}
use lib.ListN.{length, get_or, set, length-set, length-replicate, get_or-replicate}
use lib.Seq.{ext_get_or, get_or-set_same, get_or-set_other}
use borrow.Author.Tests.{ltb-true, lt-ltb, le-ltb, eq-eqb, ne_eqb, eqb-true}
use Rattle.memory.proofs.Cases.{split_lt, split_eq}
use Rattle.media.specs.Geometry.{files, pages_per_file}
use Rattle.scan.specs.Scan.{every, first_index}
use Rattle.scan.proofs.Scan.{and_left, and_right, is_false, true-not-false, first_le, first_passes, first-before, every_below_at, every_below_all, every_at, every_all}
use Rattle.device.specs.declared.Slot.{Slot}
use Rattle.device.specs.Device.{slot_count, free_slot, used_slot, is_used, holds}
use Rattle.device.specs.Sound.{in_range, holds_alone}
use Rattle.device.proofs.Device.{holds_own, holds_one}
use Rattle.state_bytes.specs.Encoding.{slots_start, slot_in, slot_word, slots_in, slots_zero}
use Rattle.state_bytes.proofs.Encoding.{length-each, get_or-each}
use Rattle.state_bytes.proofs.Zeros.{slots_zero_at}
use Rattle.admission.specs.Tables.{none_cached, slot_table, slot_for, slots_pass, Passed}

-- ---- the table of all slots

length_table : (P : ℕ) (slots : List Slot) → length (slot_table P slots) ≡ files * P
unfolding slot_table
length_table P slots = length-each (files * P) (λ i. first_index (holds (i / P) (i % P)) slots)

table_at : (P : ℕ) (slots : List Slot) (j : ℕ) → j < files * P → get_or (slot_table P slots) j 0 ≡ first_index (holds (j / P) (j % P)) slots
unfolding slot_table
table_at P slots j h = get_or-each (files * P) (λ i. first_index (holds (i / P) (i % P)) slots) j 0 h

-- the slot of a page that there is
pub slot_for_lem : (slots : List Slot) (table : List ℕ) (f p : ℕ) → table ≡ slot_table pages_per_file slots → f < files → p < pages_per_file → slot_for pages_per_file table f p ≡ first_index (holds f p) slots
unfolding slot_for
slot_for_lem slots table f p e hf hp =
    let a : (pages_per_file * f + p) / pages_per_file ≡ f = omega arith in
    let b : (pages_per_file * f + p) % pages_per_file ≡ p = omega arith in
    rw (lt-ltb f files hf, lt-ltb p pages_per_file hp, e) (table_at pages_per_file slots (pages_per_file * f + p) (omega arith) ∙ rw (a, b))

-- ---- the pass

-- two pages have two places
same_place : (f p g q : ℕ) → p < pages_per_file → q < pages_per_file → pages_per_file * f + p ≡ pages_per_file * g + q → (f ≡ g) × (p ≡ q)
same_place f p g q hp hq e = (omega arith, omega arith)

-- what a slot in range names
pub range_is : (s : Slot) → in_range pages_per_file s ≡ true → is_used s ≡ true → (s.file < files) × (s.page < pages_per_file)
unfolding in_range
range_is s e u =
    let r : ltb s.file files && ltb s.page pages_per_file ≡ true = rw u at e in
    (ltb-true _ _ (and_left (ltb s.file files) _ r), ltb-true _ _ (and_right (ltb s.file files) _ r))

-- a number other than k is below k + 1 exactly where it is below k
below_next : (n k : ℕ) → n ≢ k → ltb n (k + 1) ≡ ltb n k
below_next n k ne =
    split_lt n k
    (λ h. lt-ltb n (k + 1) (omega arith) ∙ sym (lt-ltb n k h))
    (λ h. le-ltb n (k + 1) (omega arith) ∙ sym (le-ltb n k h))

module _ (bytes : List ℕ) where
  abbrev slots : List Slot
  slots = slots_in bytes

  count : length slots ≡ slot_count
  unfolding slots_in
  count = length-each slot_count (λ k. slot_in bytes (slots_start + 3 * k))

  pub slot_is : (k : ℕ) → k < slot_count → get_or slots k free_slot ≡ slot_in bytes (slots_start + 3 * k)
  unfolding slots_in
  slot_is k h = get_or-each slot_count (λ n. slot_in bytes (slots_start + 3 * n)) k free_slot h

  pub passed_none : Passed bytes none_cached 0
  unfolding none_cached
  passed_none = record {
    named = λ i h. absurd (not-suc-le-zero h);
    alone = λ i h. absurd (not-suc-le-zero h);
    slot_at = λ f p hf hp. get_or-replicate (files * pages_per_file) (pages_per_file * f + p) slot_count 0 (omega arith)
        ∙ sym (rw (le-ltb (first_index (holds f p) slots) 0 (omega arith)));
    places = length-replicate (files * pages_per_file) slot_count;
  }

  -- all slots pass
  module _ (table : List ℕ) (x : Passed bytes table slot_count) where
    pub passed_all : slots_pass bytes ≡ true
    unfolding slots_pass
    passed_all =
        rw (
          every_all (in_range pages_per_file) slots free_slot (λ i h. x.named i (rw count at h)),
          every_below_all slot_count (holds_alone slots) x.alone,
        )

    pub passed_table : table ≡ slot_table pages_per_file slots
    passed_table =
        ext_get_or 0 table (slot_table pages_per_file slots) (x.places ∙ sym (length_table pages_per_file slots))
        (λ i h.
        let e : pages_per_file * (i / pages_per_file) + i % pages_per_file ≡ i = omega arith in
        let l : first_index (holds (i / pages_per_file) (i % pages_per_file)) slots ≤ slot_count = rw count at (first_le (holds (i / pages_per_file) (i % pages_per_file)) slots) in
        (rw e at (x.slot_at (i / pages_per_file) (i % pages_per_file) (omega (arith, x.places)) (omega arith)))
        ∙ capped (first_index (holds (i / pages_per_file) (i % pages_per_file)) slots) l
        ∙ sym (table_at pages_per_file slots i (omega (arith, x.places))))
      where
        capped : (n : ℕ) → n ≤ slot_count → cond (ltb n slot_count) n slot_count ≡ n
        capped n l = split_lt n slot_count (λ h. rw (lt-ltb n slot_count h)) (λ h. rw (le-ltb n slot_count h) (omega arith))

  -- slot k is looked at
  module _ (table : List ℕ) (k : ℕ) (x : Passed bytes table k) (hk : k < slot_count) where
    pub range_fails : in_range pages_per_file (slot_in bytes (slots_start + 3 * k)) ≡ false → slots_pass bytes ≡ false
    unfolding slots_pass
    range_fails e =
        is_false (slots_pass bytes)
        (λ t.
        true-not-false (in_range pages_per_file (get_or slots k free_slot))
        (every_at (in_range pages_per_file) slots free_slot (and_left (every (in_range pages_per_file) slots) _ t) k (omega (arith, count)))
        (rw (slot_is k hk) e))

    module _ (s : Slot) (es : slot_in bytes (slots_start + 3 * k) ≡ s) (r : in_range pages_per_file s ≡ true) where
      here : get_or slots k free_slot ≡ s
      here = slot_is k hk ∙ es

      named-next : (i : ℕ) → i < k + 1 → in_range pages_per_file (get_or slots i free_slot) ≡ true
      named-next i h = split_eq i k (λ e. rw (e, here) r) (λ ne. x.named i (omega arith))

      alone-next : holds_alone slots k ≡ true → (i : ℕ) → i < k + 1 → holds_alone slots i ≡ true
      alone-next a i h = split_eq i k (λ e. rw e a) (λ ne. x.alone i (omega arith))

      -- of a page that slot k does not hold
      not_here : (f p : ℕ) → holds f p s ≡ false → first_index (holds f p) slots ≢ k
      not_here f p e q =
          true-not-false (holds f p s) (rw (q, here) at (first_passes (holds f p) slots free_slot (omega (arith, count)))) e

      pub passed-free : is_used s ≡ false → Passed bytes table (k + 1)
      unfolding holds_alone
      passed-free u = record {
        named = named-next;
        alone = alone-next (rw (here, u));
        slot_at = λ f p hf hp. x.slot_at f p hf hp ∙ rw (below_next (first_index (holds f p) slots) k (not_here f p (rw u)));
        places = x.places;
      }

      module _ (u : is_used s ≡ true) where
        own : first_index (holds s.file s.page) slots ≤ k
        own = first-before (holds s.file s.page) slots free_slot k (omega (arith, count)) (rw here (holds_own s.file s.page s u refl refl))

        abbrev place : ℕ
        place = pages_per_file * s.file + s.page

        -- a slot before it holds its page
        pub passed-twice : get_or table place 0 ≢ slot_count → slots_pass bytes ≡ false
        unfolding slots_pass holds_alone
        passed-twice ne =
            let n = range_is s r u in
            let first : ℕ = first_index (holds s.file s.page) slots in
            split_lt first k
            (λ h.
            is_false (slots_pass bytes)
            (λ t.
            true-not-false (holds_alone slots k)
            (every_below_at slot_count (holds_alone slots) (and_right (every (in_range pages_per_file) slots) _ t) k hk)
            (rw (here, u) (ne_eqb first k (λ q. omega arith)))))
            (λ h. absurd (ne (x.slot_at s.file s.page n.0 n.1 ∙ rw (le-ltb first k h))))

        pub passed-used : get_or table place 0 ≡ slot_count → Passed bytes (set table place k) (k + 1)
        unfolding holds_alone
        passed-used e =
            let n = range_is s r u in
            let first : ℕ = first_index (holds s.file s.page) slots in
            let h : k ≤ first = split_lt first k (λ l. absurd (full first l (sym (rw (lt-ltb first k l) at (x.slot_at s.file s.page n.0 n.1)) ∙ e))) (λ l. l) in
            let q : first ≡ k = omega (arith, own) in
            record {
              named = named-next;
              alone = alone-next (rw (here, u) (eq-eqb first k q));
              slot_at = λ f p hf hp.
                  split_eq (pages_per_file * f + p) place
                  (λ w.
                  let z = same_place f p s.file s.page hp n.1 w in
                  rw (w, get_or-set_same table place k 0 (omega (arith, x.places, n.0, n.1)), z.0, z.1, lt-ltb first (k + 1) (omega arith)) (sym q))
                  (λ ne.
                  get_or-set_other table place (pages_per_file * f + p) k 0 ne ∙ x.slot_at f p hf hp
                  ∙ rw (below_next (first_index (holds f p) slots) k (not_here f p (holds_one s.file s.page f p s refl refl (λ z. ne (rw (z.0, z.1)))))));
              places = length-set table place k ∙ x.places;
            }
          where
            full : (n : ℕ) → n < k → n ≡ slot_count → ⊥
            full n l e = omega arith

  -- a slot whose bytes are 0
  blank : (table : List ℕ) (k : ℕ) → Passed bytes table k → k < slot_count → get_or bytes (slots_start + 3 * k) 0 ≡ 0
      → get_or bytes (slots_start + 3 * k + 1) 0 ≡ 0 → get_or bytes (slots_start + 3 * k + 2) 0 ≡ 0 → Passed bytes table (k + 1)
  unfolding in_range
  blank table k x hk a b c =
      let e : slot_in bytes (slots_start + 3 * k) ≡ free_slot = rw (a, b, c) in
      passed-free table k x hk free_slot e refl refl

  -- slot k by its three bytes
  module _ (table : List ℕ) (k : ℕ) (x : Passed bytes table k) (hk : k < slot_count) where
    abbrev at : ℕ
    at = slots_start + 3 * k

    abbrev file : ℕ
    file = get_or bytes (at + 1) 0

    abbrev page : ℕ
    page = get_or bytes (at + 2) 0

    module _ (u : get_or bytes at 0 ≡ 1) where
      used : slot_in bytes at ≡ used_slot file page
      used = rw u

      module _ (hf : file < files) where
        module _ (hp : page < pages_per_file) where
          ranged : in_range pages_per_file (used_slot file page) ≡ true
          unfolding in_range
          ranged = rw (lt-ltb file files hf, lt-ltb page pages_per_file hp)

          pub enter-used : get_or table (pages_per_file * file + page) 0 ≡ slot_count → Passed bytes (set table (pages_per_file * file + page) k) (k + 1)
          enter-used e = passed-used table k x hk (used_slot file page) used ranged refl e

          pub enter-twice : get_or table (pages_per_file * file + page) 0 ≢ slot_count → slots_pass bytes ≡ false
          enter-twice ne = passed-twice table k x hk (used_slot file page) used ranged refl ne

        pub enter-page : pages_per_file ≤ page → slots_pass bytes ≡ false
        unfolding in_range
        enter-page hp = range_fails table k x hk (rw (u, lt-ltb file files hf, le-ltb page pages_per_file hp))

      pub enter-file : files ≤ file → slots_pass bytes ≡ false
      unfolding in_range
      enter-file hf = range_fails table k x hk (rw (u, le-ltb file files hf))

    abbrev word : ℕ
    word = slot_word (slot_in bytes at)

    pub enter-zero : word ≡ 0 → Passed bytes table (k + 1)
    enter-zero z = blank table k x hk (omega arith) (omega arith) (omega arith)

    pub enter-nonzero : get_or bytes at 0 ≢ 1 → word ≢ 0 → slots_pass bytes ≡ false
    unfolding in_range
    enter-nonzero u n =
        range_fails table k x hk
        (is_false (in_range pages_per_file (slot_in bytes at))
        (λ t.
        let z : eqb (get_or bytes at 0) 0 && (eqb file 0 && eqb page 0) ≡ true = rw (ne_eqb (get_or bytes at 0) 1 u) at t in
        let w = and_right (eqb (get_or bytes at 0) 0) _ z in
        let m : get_or bytes at 0 ≡ 0 = eqb-true _ _ (and_left (eqb (get_or bytes at 0) 0) _ z) in
        let f : file ≡ 0 = eqb-true _ _ (and_left (eqb file 0) _ w) in
        let p : page ≡ 0 = eqb-true _ _ (and_right (eqb file 0) _ w) in
        n (omega arith)))

  -- slots whose bytes are 0
  blanks : (table : List ℕ) (k m : ℕ) → Passed bytes table k → k + m ≤ slot_count → ((i : ℕ) → i < 3 * m → get_or bytes (slots_start + 3 * k + i) 0 ≡ 0) → Passed bytes table (k + m)
  blanks table k zero x h z = let e : k + 0 ≡ k = omega arith in rw e x
  blanks table k (suc m) x h z =
      let e : k + suc m ≡ k + 1 + m = omega arith in
      rw e
      (blanks table (k + 1) m
      (blank table k x (omega arith) (rw add-zero at (z 0 (omega arith))) (z 1 (omega arith)) (z 2 (omega arith)))
      (omega arith)
      (λ i l. let q : slots_start + 3 * (k + 1) + i ≡ slots_start + 3 * k + (3 + i) = omega arith in rw q (z (3 + i) (omega arith))))

  pub passed-zero : (table : List ℕ) (k n : ℕ) → Passed bytes table k → slots_zero bytes k n ≡ true → Passed bytes table (k + n)
  passed-zero table k n x z = let w = slots_zero_at bytes k n z in blanks table k n x w.1 w.2
