-- Laws of slots and page frames.
use mathlib.Core.Path.{◌≡◌, refl, sym, ◌∙◌, subst}
use mathlib.Core.Logic.{◌≢◌}
use mathlib.Core.Bool.{Bool, true, false, ◌&&◌}
use mathlib.Core.List.{List, map}
use Prim.Native.Nat.{ℕ, ◌+◌, ◌<◌, ◌≤◌}
use native.Mathlib.Omega.{arith}
use lib.Dec.{eqb}
use lib.ListN.{length, get_or}
use borrow.Author.Tests.{eqb-true, eq-eqb}
use borrow.Table.Steps.{cases}
use Rattle.memory.specs.Bytes.{overwrite}
use Rattle.memory.proofs.Cases.{split_lt}
use Rattle.memory.proofs.Bytes.{overwrite-before, overwrite-after}
use Rattle.media.specs.Geometry.{page_bytes}
use Rattle.device.specs.declared.Slot.{Slot}
use Rattle.scan.specs.Scan.{first_index}
use Rattle.device.specs.Device.{Device, frame_start, free_slot, is_free, is_used, holds, slot_of, first_free, free_where}
use Rattle.scan.proofs.Scan.{and_left, and_right, is_false, true-not-false, first_passes, first-map, first-map-none}

-- ---- slots

pub holds_is : (f p : ℕ) (s : Slot) → holds f p s ≡ true → (is_used s ≡ true) × (s.file ≡ f) × (s.page ≡ p)
holds_is f p s e =
    let r : eqb s.file f && eqb s.page p ≡ true = and_right (is_used s) _ e in (
      and_left (is_used s) _ e,
      eqb-true _ _ (and_left (eqb s.file f) _ r),
      eqb-true _ _ (and_right (eqb s.file f) _ r),
    )

pub holds_own : (f p : ℕ) (s : Slot) → is_used s ≡ true → s.file ≡ f → s.page ≡ p → holds f p s ≡ true
holds_own f p s u ef ep = rw (u, eq-eqb _ _ ef, eq-eqb _ _ ep)

-- a slot holds one page
pub holds_one : (f p g q : ℕ) (s : Slot) → s.file ≡ f → s.page ≡ p → ((g ≡ f) × (q ≡ p) → ⊥) → holds g q s ≡ false
holds_one f p g q s ef ep ne =
    is_false (holds g q s) (λ e. ne (sym (holds_is g q s e).1 ∙ ef, sym (holds_is g q s e).2 ∙ ep))

-- a free slot is not used, and holds none
pub free_unused : (s : Slot) → is_free s ≡ true → is_used s ≡ false
free_unused s e = rw (eqb-true s.used 0 e)

pub free-holds : (f p : ℕ) (s : Slot) → is_free s ≡ true → holds f p s ≡ false
free-holds f p s e = rw (free_unused s e)

-- two pages are never in one slot
pub slots_apart : (d : Device) (f p g q : ℕ) → ((g ≡ f) × (q ≡ p) → ⊥) → slot_of d f p < length d.cache.slots
    → slot_of d g q < length d.cache.slots → slot_of d g q ≢ slot_of d f p
slots_apart d f p g q ne hf hg e =
    let slots : List Slot = d.cache.slots in
    let x = holds_is f p (get_or slots (slot_of d f p) free_slot) (first_passes (holds f p) slots free_slot hf) in
    let y = holds_is g q (get_or slots (slot_of d f p) free_slot)
    (subst (λ (k : ℕ). holds g q (get_or slots k free_slot) ≡ true) e (first_passes (holds g q) slots free_slot hg)) in
    ne (sym y.1 ∙ x.1, sym y.2 ∙ x.2)

-- the slot that a page takes was free until then
pub first_free_was_free : (d : Device) → first_free d < length d.cache.slots → is_free (get_or d.cache.slots (first_free d) free_slot) ≡ true
first_free_was_free d h = first_passes is_free d.cache.slots free_slot h

-- and so held no page
pub free-apart : (d : Device) (k f p : ℕ) → is_free (get_or d.cache.slots k free_slot) ≡ true → k < length d.cache.slots → slot_of d f p ≢ k
free-apart d k f p free h e =
    true-not-false (holds f p (get_or d.cache.slots k free_slot))
    (rw e at (first_passes (holds f p) d.cache.slots free_slot (rw e h)))
    (free-holds f p (get_or d.cache.slots k free_slot) free)

-- ---- slots that are freed

module _ (among : ℕ → ℕ → Bool) (f p : ℕ) where
  freed_gone : (s : Slot) → among f p ≡ true → holds f p (free_where among s) ≡ false
  unfolding free_where
  freed_gone s e =
      cases (is_used s && among s.file s.page)
      (λ h. rw h)
      (λ h. rw h (is_false (holds f p s) (λ t.
      let x = holds_is f p s t in
      true-not-false (is_used s && among s.file s.page) (rw (x.0, x.1, x.2) e) h)))

  freed_stays : (s : Slot) → among f p ≡ false → holds f p (free_where among s) ≡ holds f p s
  unfolding free_where
  freed_stays s e =
      cases (is_used s && among s.file s.page)
      (λ h. rw h (sym (is_false (holds f p s) (λ t.
      let x = holds_is f p s t in
      true-not-false (among f p) (rw (x.0, x.1, x.2) at h) e))))
      (λ h. rw h)

  pub slot_gone : (slots : List Slot) → among f p ≡ true → first_index (holds f p) (map (free_where among) slots) ≡ length slots
  slot_gone slots e = first-map-none (holds f p) (free_where among) slots (λ s. freed_gone s e)

  pub slot_stays : (slots : List Slot) → among f p ≡ false → first_index (holds f p) (map (free_where among) slots) ≡ first_index (holds f p) slots
  slot_stays slots e = first-map (holds f p) (free_where among) slots (λ s. freed_stays s e)

-- ---- page frames

-- bytes laid inside frame k leave the other frames
pub frame_other : (frames bytes : List ℕ) (k j a r : ℕ) → j ≢ k → frame_start k ≤ a → a + length bytes ≤ frame_start k + page_bytes → r < page_bytes
    → get_or (overwrite frames a bytes) (frame_start j + r) 0 ≡ get_or frames (frame_start j + r) 0
frame_other frames bytes k j a r ne lo hi hr =
    split_lt j k (λ l. overwrite-before frames a bytes _ (omega arith)) (λ l. overwrite-after frames a bytes _ (omega arith))

-- ---- what a call keeps

pub record Kept (d c : Device) : Type 0 where
  pub media : c.media ≡ d.media
  pub frames : length c.frames ≡ length d.frames
  pub mounted : c.cache.mounted ≡ d.cache.mounted

pub kept_all : (d : Device) → Kept d d
kept_all d = record { media = refl; frames = refl; mounted = refl }

pub kept_trans : {a b c : Device} → Kept a b → Kept b c → Kept a c
kept_trans x y = record { media = y.media ∙ x.media; frames = y.frames ∙ x.frames; mounted = y.mounted ∙ x.mounted }
