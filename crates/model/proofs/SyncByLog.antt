-- The media writes of a sync, by the model file.
use mathlib.Core.Path.{◌≡◌, refl, sym, ◌∙◌}
use mathlib.Core.Bool.{true}
use mathlib.Core.List.{List}
use Prim.Native.Nat.{ℕ, zero, suc, ◌+◌, ◌-◌, ◌*◌, ◌/◌, ◌%◌, ◌≤◌, ◌<◌, min}
use native.Mathlib.Nat.{sub-zero}
use native.Mathlib.Omega.{arith}
use lib.ListN.{length, get_or, length-replicate, length-take, length-drop, get_or-eq_default}
use lib.Seq.{ext_get_or}
use borrow.Author.Tests.{ltb-true}
use borrow.Table.Steps.{cases}
use Rattle.memory.specs.Bytes.{part}
use Rattle.memory.proofs.Cases.{split_lt}
use Rattle.memory.proofs.Bytes.{get_or-zeros, length_part, get_d_part, length-overwrite, overwrite_in, overwrite-after}
use Rattle.media.specs.Geometry.{page_bytes}
use Rattle.media.specs.Write.MediaWrite.{page}
use Rattle.device.specs.Device.{Device, slot_count, frames_bytes, frame_start, slot_of, is_cached, floor_at}
use Rattle.device.specs.Writing.{blank_page}
use Rattle.device.specs.Plan.{write_if}
use Rattle.device.specs.Syncing.{trim_writes, page_write, page_writes, size_writes, sync_plan}
use Rattle.device.proofs.Current.{current-cached}
use Rattle.model.specs.ModelFile.{ModelFile}
use Rattle.model.specs.CacheByLog.{cached_in, floor_of, page_of, pages_by_log, sync_by_log}
use Rattle.model.proofs.Invariant.{Mounted}

-- byte r of page p
pub page_at : (file : List ℕ) (p r : ℕ) → r < page_bytes → get_or (page_of file p) r 0 ≡ get_or file (page_bytes * p + r) 0
unfolding page_of blank_page
page_at file p r h =
    let piece : List ℕ = part file (page_bytes * p) page_bytes in
    let lp : length piece ≡ min page_bytes (length file - page_bytes * p) = simp (length-take, length-drop) in
    let lb : length blank_page ≡ page_bytes = length-replicate {A = ℕ} page_bytes 0 in
    split_lt r (length piece)
    (λ l. rw sub-zero at (overwrite_in blank_page 0 piece r (omega arith) (omega arith) (omega arith)) ∙ get_d_part file (page_bytes * p) page_bytes r h)
    (λ l.
    overwrite-after blank_page 0 piece r (omega arith)
    ∙ get_or-zeros page_bytes r
    ∙ sym (get_or-eq_default file 0 (omega arith)))

length-page : (file : List ℕ) (p : ℕ) → length (page_of file p) ≡ page_bytes
unfolding page_of blank_page
length-page file p = length-overwrite blank_page 0 (part file (page_bytes * p) page_bytes) ∙ length-replicate {A = ℕ} page_bytes 0

module _ (P : ℕ) (d : Device) (frames : length d.frames ≡ frames_bytes) (f : ℕ) (m : ModelFile) (x : Mounted P d f m) where
  page_is : (p : ℕ) → p < P → is_cached d f p ≡ true → part d.frames (frame_start (slot_of d f p)) page_bytes ≡ page_of m.current p
  page_is p hp c =
      let k : ℕ = slot_of d f p in
      let hk : slot_of d f p < slot_count = ltb-true _ _ c in
      let lp : length (part d.frames (frame_start k) page_bytes) ≡ page_bytes = length_part d.frames (frame_start k) page_bytes (omega arith) in
      ext_get_or 0 (part d.frames (frame_start k) page_bytes) (page_of m.current p) (lp ∙ sym (length-page m.current p)) (λ r l.
      let h : r < page_bytes = rw lp at l in
      let q : (page_bytes * p + r) / page_bytes ≡ p = omega arith in
      let o : (page_bytes * p + r) % page_bytes ≡ r = omega arith in
      get_d_part d.frames (frame_start k) page_bytes r h
      ∙ sym (rw o at (current-cached P d f (page_bytes * p + r) p q hk))
      ∙ sym (x.current_is (page_bytes * p + r) (omega arith))
      ∙ sym (page_at m.current p r h))

  page_write_is : (p : ℕ) → p < P → page_write d f p ≡ write_if (cached_in m p) (page f p (page_of m.current p))
  unfolding page_write write_if
  page_write_is p hp = cases (is_cached d f p) (λ e. rw (← x.cached p, e, page_is p hp e)) (λ e. rw (← x.cached p, e))

  pages_are : (n p : ℕ) → p + n ≤ P → page_writes d f n p ≡ pages_by_log m f n p
  unfolding page_writes pages_by_log
  pages_are zero p h = refl
  pages_are (suc n) p h = rw (page_write_is p (omega arith), pages_are n (suc p) (omega arith))

  pub plan_is : floor_at d f ≡ floor_of m → sync_plan P d f ≡ sync_by_log P m f
  unfolding sync_plan trim_writes size_writes sync_by_log
  plan_is fl = rw (fl, ← x.durable_size, ← x.current_size, pages_are P 0 (omega arith))
