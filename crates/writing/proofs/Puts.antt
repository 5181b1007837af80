-- The pages of a write.
use mathlib.Core.Path.{◌≡◌, refl, sym, ap, ◌∙◌}
use mathlib.Core.Logic.{◌≢◌}
use mathlib.Core.Bool.{true, false, cond}
use mathlib.Core.List.{List}
use Rattle.std.specs.Prelude.{Option, Some, None, SomeIff, is_some}
use Prim.Native.Nat.{ℕ, zero, suc, ◌+◌, ◌<◌, ◌≤◌, ◌-◌, ◌/◌, ◌%◌, min}
use native.Mathlib.Omega.{arith}
use lib.ListN.{length, get_or, drop, length-drop}
use lib.Seq.{drop-drop}
use borrow.Author.Tests.{ltb-true}
use borrow.Table.Steps.{cases}
use Rattle.memory.specs.Bytes.{part, overwrite}
use Rattle.media.specs.Geometry.{files, page_bytes, file_bytes, pages_per_file}
use Rattle.media.specs.Write.{Media}
use Rattle.scan.specs.Scan.{first_index}
use Rattle.device.specs.declared.Slot.{Slot}
use Rattle.device.specs.declared.CacheState.{CacheState}
use Rattle.admission.specs.Tables.{slot_table, slot_for}
use Rattle.admission.proofs.Pass.{slot_for_lem}
use Rattle.scan.proofs.Scan.{first-set}
use Rattle.device.specs.Device.{Device, device_of, slot_count, frame_start, free_slot, used_slot, holds, slot_of, is_cached, first_free}
use Rattle.device.specs.Writing.{has_slot, cache_page, patch_page, put_page, and_more, put_pages}
use Rattle.device.proofs.Device.{holds_one, free-holds, first_free_was_free}
use Rattle.device.proofs.Writing.{pages-none, pages-stop, pages-next}

-- ---- the slot of a page

-- where a slot is found just when there is one, none is where none is found
pub none_is : (o : Option ℕ) (P : Type 0) (k : ℕ) → SomeIff o P k → is_some o ≡ false → ¬ P
none_is (Some x) P k h e = cc
none_is None P k h e = h

-- another page keeps its slot
pub other_slot : (P f p q offset : ℕ) (bytes : List ℕ) (d : Device) → length d.cache.slots ≡ slot_count → has_slot d f p ≡ true → q ≢ p
    → slot_of (put_page P f p offset bytes d) f q ≡ slot_of d f q
unfolding put_page patch_page cache_page
other_slot P f p q offset bytes d l h ne =
    cases (is_cached d f p)
    (λ e. rw e)
    (λ e.
    let j : first_free d < slot_count = ltb-true (first_free d) slot_count (rw e at h) in
    rw e
    (first-set (holds f q) d.cache.slots (first_free d) (used_slot f p) free_slot
    (holds_one f p f q (used_slot f p) refl refl (λ k. ne k.1))
    (free-holds f q (get_or d.cache.slots (first_free d) free_slot) (first_free_was_free d (omega arith)))))

-- the piece goes into the frame of the slot that the page has, or has taken
pub put_in_slot : (P f p offset k : ℕ) (bytes : List ℕ) (d : Device) (m : Media) (frames : List ℕ) (s : CacheState)
    → device_of m frames s ≡ cond (is_cached d f p) d (cache_page P f p d) → k ≡ first_index (holds f p) s.slots
    → device_of m (overwrite frames (frame_start k + offset) bytes) s ≡ put_page P f p offset bytes d
unfolding put_page patch_page
put_in_slot P f p offset k bytes d m frames s e ek = rw (← e, ek)

-- ---- the table of slots

-- n bytes are left from position i of file f on: the table has the slots of the pages that they go to
abbrev pub Told : List ℕ → ℕ → ℕ → ℕ → List Slot → Type 0
Told table f i n slots =
    0 < n → (p : ℕ) → i / page_bytes ≤ p → p < pages_per_file → slot_for pages_per_file table f p ≡ first_index (holds f p) slots

module _ (table : List ℕ) (f : ℕ) where
  pub told_all : f < files → (i n : ℕ) (slots : List Slot) → table ≡ slot_table pages_per_file slots → Told table f i n slots
  told_all hf i n slots e h p l hp = slot_for_lem slots table f p e hf hp

  -- the page at i took its piece of k bytes, as many as there were or to its end
  pub told-next : (i n : ℕ) (d : Device) → Told table f i n d.cache.slots → length d.cache.slots ≡ slot_count
      → has_slot d f (i / page_bytes) ≡ true → (k j m offset : ℕ) (bytes : List ℕ) (c : Device) → k ≡ min (page_bytes - i % page_bytes) n → j ≡ i + k → m ≡ n - k
      → c ≡ put_page pages_per_file f (i / page_bytes) offset bytes d → Told table f j m c.cache.slots
  told-next i n d t l has k j m offset bytes c ek ej em ec h p hl hp =
      let ne : p ≢ i / page_bytes = λ q. absurd (omega arith) in
      t (omega arith) p (omega arith) hp
      ∙ sym (ap (λ (x : Device). slot_of x f p) ec ∙ other_slot pages_per_file f (i / page_bytes) p offset bytes d l has ne)

-- ---- the pages

-- after i bytes of a write, in a loop: what is left of it
pub record Rest (P f position : ℕ) (bytes : List ℕ) (before : Device) (i : ℕ) (d : Device) : Type 0 where
  -- pages that it may still go through
  pub turns : ℕ
  pub enough : i < length bytes → P ≤ (position + i) / page_bytes + turns
  pub so_far : put_pages P f P position bytes before ≡ and_more i (put_pages P f turns (position + i) (drop i bytes) d)

module _ {P f position : ℕ} {bytes : List ℕ} {before : Device} where
  pub rest-none : Rest P f position bytes before 0 before
  rest-none = record {
    turns = P;
    enough = λ h. omega arith;
    so_far = let e : position + 0 ≡ position = omega arith in rw e (ap (λ (j : ℕ). record { device = (put_pages P f P position bytes before).device; count = j }) (omega arith));
  }

  module _ {i : ℕ} {d : Device} (s : Rest P f position bytes before i d) where
    pub rest_end : length bytes ≤ i → record { device = d; count = i } ≡ put_pages P f P position bytes before
    rest_end h =
        sym (s.so_far ∙ rw (pages-none P f s.turns (position + i) (drop i bytes) d (length-drop i bytes ∙ omega arith))
        (ap (λ (j : ℕ). record { device = d; count = j }) (omega arith)))

    pub rest-stop : (c : Device) → has_slot d f ((position + i) / page_bytes) ≡ false → c ≡ d → record { device = c; count = i } ≡ put_pages P f P position bytes before
    rest-stop c e ec =
        rw ec
        (sym (s.so_far ∙ rw (pages-stop P f s.turns (position + i) (drop i bytes) d e)
        (ap (λ (j : ℕ). record { device = d; count = j }) (omega arith))))

    pub rest-next : (k : ℕ) (c : Device) → i < length bytes → position + length bytes ≤ file_bytes P → has_slot d f ((position + i) / page_bytes) ≡ true
        → k ≡ min (page_bytes - (position + i) % page_bytes) (length bytes - i)
        → c ≡ put_page P f ((position + i) / page_bytes) ((position + i) % page_bytes) (part bytes i (i + k - i)) d
        → Rest P f position bytes before (i + k) c
    rest-next k c h fits e ek ec =
        pick s.turns refl
      where
        ec' : c ≡ put_page P f ((position + i) / page_bytes) ((position + i) % page_bytes) (part bytes i k) d
        ec' = let z : i + k - i ≡ k = omega arith in rw z at ec

        pick : (n : ℕ) → s.turns ≡ n → Rest P f position bytes before (i + k) c
        pick zero q = absurd (omega (arith, s.enough h))
        pick (suc n) q =
            let a : position + i + k ≡ position + (i + k) = omega arith in
            let ld : length (drop i bytes) ≡ length bytes - i = length-drop i bytes in
            record {
              turns = n;
              enough = λ l. omega (arith, s.enough h);
              so_far = s.so_far ∙ rw (q, pages-next P f n (position + i) (drop i bytes) d k (omega arith) e (omega arith), ← ec', drop-drop, a)
                  (ap (λ (j : ℕ). record { device = (put_pages P f n (position + (i + k)) (drop (i + k) bytes) c).device; count = j }) (omega arith));
            }
