-- The media writes of a sync: the loop over the pages, and the three parts of the plan.
use mathlib.Core.Path.{◌≡◌, refl, ◌∙◌}
use mathlib.Core.Bool.{not}
use mathlib.Core.List.{List, ◌++◌}
use Prim.Native.Nat.{ℕ, ◌+◌, ◌<◌}
use native.Mathlib.Omega.{arith}
use lib.Dec.{eqb, ltb}
use Rattle.memory.specs.Bytes.{part}
use Rattle.media.specs.Geometry.{files, pages_per_file, page_bytes}
use Rattle.media.specs.Write.{Media, size_at}
use Rattle.media.specs.Write.MediaWrite.{page, size, trim}
use Rattle.device.specs.Device.{Device, slot_count, frame_start, logical_at, floor_at}
use Rattle.device.specs.Plan.{write_if, Spent}
use Rattle.device.specs.Syncing.{trim_writes, page_write, page_writes, size_writes, sync_plan}
use Rattle.device.proofs.Plan.{spent-none, spent-join}
use Rattle.device.proofs.Syncing.{pages_more}
use Rattle.admission.specs.Tables.{slot_table, slot_for}
use Rattle.admission.proofs.Pass.{slot_for_lem}

module _ (budget : ℕ) (d : Device) (f : ℕ) (before : ℕ) (m : Media) where
  -- no page yet
  pub pages-none : Spent pages_per_file budget m before before (page_writes d f 0 0) m
  unfolding page_writes
  pages-none = spent-none pages_per_file budget m before _ refl

  -- page p, whose slot the table has
  pub pages-next : (p n k slot : ℕ) (c e : Media) (frames table : List ℕ) → f < files → p < pages_per_file → d.frames ≡ frames
      → table ≡ slot_table pages_per_file d.cache.slots → slot ≡ slot_for pages_per_file table f p
      → Spent pages_per_file budget m before n (page_writes d f p 0) c
      → Spent pages_per_file budget c n k (write_if (ltb slot slot_count) (page f p (part frames (frame_start slot) page_bytes))) e
      → Spent pages_per_file budget m before k (page_writes d f (p + 1) 0) e
  unfolding page_write
  pages-next p n k slot c e frames table hf hp ef et es x y =
      let z : 0 + p ≡ p = omega arith in
      let more : page_writes d f (p + 1) 0 ≡ page_writes d f p 0 ++ page_write d f p = rw z at (pages_more d f p 0) in
      rw more (spent-join pages_per_file budget m before c e n k _ _ x (rw (es ∙ slot_for_lem d.cache.slots table f p et hf hp, ← ef) at y))

-- the TRIM, the pages and the SIZE, joined
pub sync-spent : (P budget : ℕ) (d : Device) (f logical floor trims writes n : ℕ) (m c e : Media) → logical ≡ logical_at d f → floor ≡ floor_at d f
    → Spent P budget d.media 0 trims (write_if (ltb floor (size_at d.media f)) (trim f floor)) m
    → Spent P budget m trims writes (page_writes d f P 0) c
    → Spent P budget c writes n (write_if (not (eqb logical floor)) (size f logical)) e
    → Spent P budget d.media 0 n (sync_plan P d f) e
unfolding sync_plan trim_writes size_writes
sync-spent P budget d f logical floor trims writes n m c e el ef x y z =
    spent-join P budget d.media 0 m e trims n _ _ (rw ef at x) (spent-join P budget m trims c e writes n _ _ y (rw (el, ef) at z))
