-- Each wrong store fails a demand, in a run of a few calls.
use mathlib.Core.Path.{◌≡◌, refl, sym, ap}
use mathlib.Core.Bool.{Bool, true, false, cond, ◌&&◌, false≢true}
use mathlib.Core.Logic.{◌⊎◌, inl, inr}
use mathlib.Core.List.{List, [], ◌∷◌, ◌++◌}
use Prim.Native.Nat.{ℕ, zero, suc, ◌+◌, ◌*◌, ◌≤◌, ◌<◌}
use native.Mathlib.Omega.{arith}
use lib.Dec.{eqb}
use borrow.Author.Tests.{eqb-true, eqb-false}
use lib.ListN.{length, get_or, set, take, replicate}
use Rattle.answer.specs.Coded.{Coded, done, BOOKS, DOWN, NO_ROOM, CUT}
use Rattle.memory.specs.Bytes.{zeros}
use Rattle.media.specs.Geometry.{files, media_bytes, file_start}
use Rattle.media.specs.Write.{Media, media_of, size_at, apply_all}
use Rattle.media.specs.Write.MediaWrite.{size}
use Rattle.device.specs.declared.Slot.{Slot}
use Rattle.device.specs.declared.CacheState.{CacheState}
use Rattle.device.specs.Device.{Device, device_of, frames_bytes, is_free, free_where, no_slots, with_slots, down_state, mounted_state}
use Rattle.device.specs.Sizes.{in_order}
use Rattle.device.specs.Sound.{in_range, holds_alone, is_down, has_lengths, sound_tests, is_sound}
use Rattle.device.specs.Current.{current_at}
use Rattle.device.specs.Admission.{media_shape, frames_shape, sizes_fit, state_tests}
use Rattle.device.specs.Reading as Reading
use Rattle.device.specs.Looking as Looking
use Rattle.device.specs.Writing as Writing
use Rattle.device.specs.Writing.{blank_page, filled_page, cache_page, patch_page, put_page, grown}
use Rattle.device.specs.Truncating as Truncating
use Rattle.device.specs.Truncating.{clear_tail, with_sizes, truncated}
use Rattle.device.specs.Syncing as Syncing
use Rattle.device.specs.Syncing.{trim_writes, page_write, page_writes, size_writes, sync_plan, synced_state}
use Rattle.device.specs.Plan.{write_if, under_budget}
use Rattle.device.specs.Mounting as Mounting
use Rattle.device.specs.Mounting.{nonzero_from, trims_from, mount_plan, format_plan}
use Rattle.model.specs.ModelFile.{Becomes}
use Rattle.model.specs.CacheByLog.{page_of, pages_by_log, sync_by_log}
use Rattle.model.specs.View.{same_media}
use Rattle.model.specs.Demands.{fits_types}
use Rattle.model.specs.ModelFile.Entry.{written}
use Rattle.model.specs.Run.Call.{read, look, write, truncate, sync, mount}
use Rattle.model.specs.Run.Event.{call}
use Rattle.model.specs.Store.{store_calls}
use Rattle.model_cases.specs.RuledOut.{RuledOut, slot_writes}

-- a device that is down, with zeros on its media but for the first byte, and empty files
blank : ℕ → ℕ → Device
blank P first = device_of (media_of (set (zeros (media_bytes P)) 0 first) (zeros files)) (zeros frames_bytes) down_state

-- the same, mounted
mounted : ℕ → Device
mounted P = device_of (media_of (zeros (media_bytes P)) (zeros files)) (zeros frames_bytes) (mounted_state (zeros files))

-- a file of one byte, and a cache state with the up mark 2
odd : Device
odd = device_of (media_of (zeros (media_bytes 1)) (set (zeros files) 0 1)) (zeros frames_bytes) (record { mounted = 2; slots = []; logical = []; floor = [] })

-- two files of one byte, and down
stored : Device
stored = device_of (media_of (zeros (media_bytes 1)) (set (set (zeros files) 0 1) 1 1)) (zeros frames_bytes) down_state

-- empty files, and a cache state with the up mark 2
marked : Device
marked =
    device_of (media_of (zeros (media_bytes 1)) (zeros files)) (zeros frames_bytes) (record { mounted = 2; slots = no_slots; logical = zeros files; floor = zeros files })

-- an empty file whose page is cached, with a byte that is not 0
tailed : Device
tailed = device_of (media_of (zeros (media_bytes 1)) (zeros files)) (set (zeros frames_bytes) 0 9) (with_slots (mounted_state (zeros files)) (set no_slots 0 (record { used = 1; file = 0; page = 0 })))

-- two numbers that differ, and two lists or answers that differ in one of their numbers
apart : (a b : ℕ) → eqb a b ≡ false → a ≡ b → ⊥
apart = eqb-false

at : (i : ℕ) (a b : List ℕ) → a ≡ b → get_or a i 0 ≡ get_or b i 0
at i a b e = ap (λ (l : List ℕ). get_or l i 0) e

bytes_at : (i : ℕ) (a b : Media) → a ≡ b → get_or a.bytes i 0 ≡ get_or b.bytes i 0
bytes_at i a b e = ap (λ (m : Media). get_or m.bytes i 0) e

sizes_at : (f : ℕ) (a b : Media) → a ≡ b → size_at a f ≡ size_at b f
sizes_at f a b e = ap (λ (m : Media). size_at m f) e

not_done : (a : Coded) → eqb a.number 0 ≡ false → (n : ℕ) × (a ≡ done n) → ⊥
not_done a e h = apart a.number 0 e (ap (λ (c : Coded). c.number) h.1)

-- a byte that was written and not synced
dirty : Device
dirty = ((store_calls 1).writing 0 0 (65 ∷ []) (mounted 1)).left

-- a file that a truncate made longer: one media write, of its size
grown-file : Device
grown-file = ((store_calls 1).truncating 0 1 (mounted 1)).left

-- a budget of 1 pays for one of two media writes, the page
one_stored : (k : ℕ) → (length (take k (sync_plan 1 dirty 0)) ≤ 1) × (1 < length (take (suc k) (sync_plan 1 dirty 0)))
    → device_of dirty.media dirty.frames down_state ≡ device_of (apply_all 1 dirty.media (take k (sync_plan 1 dirty 0))) dirty.frames down_state → ⊥
unfolding dirty mounted file_start free_where in_order in_range holds_alone is_down has_lengths sound_tests is_sound media_shape frames_shape sizes_fit state_tests blank_page filled_page cache_page patch_page put_page grown Writing.write trim_writes page_write page_writes size_writes sync_plan write_if
one_stored zero pays e = absurd (omega (arith, pays.1))
one_stored (suc zero) pays e = apart 0 65 refl (ap (λ (d : Device). get_or d.media.bytes 0 0) e)
one_stored (suc (suc k)) pays e = absurd (omega (arith, pays.0))

-- a budget of 1 pays for nothing of two media writes that cost two each, and another after them costs two
idle-cut : (k : ℕ) → 2 * length (take k (sync_plan 1 dirty 0)) ≤ 1 → 2 * length (take k (sync_plan 1 dirty 0) ++ (size 0 0 ∷ [])) ≡ 1 + 2 → ⊥
unfolding dirty mounted file_start free_where in_order in_range holds_alone is_down has_lengths sound_tests is_sound media_shape frames_shape sizes_fit state_tests blank_page filled_page cache_page patch_page put_page grown Writing.write trim_writes page_write page_writes size_writes sync_plan write_if
idle-cut zero pays e = apart 2 3 refl e
idle-cut (suc k) pays e = absurd (omega (arith, pays))

-- a budget of 1 pays for one of two media writes, which takes one of 9, and 7 are left
wasted_cut : (k : ℕ) → (length (take k (sync_plan 1 dirty 0)) ≤ 1) × (1 < length (take (suc k) (sync_plan 1 dirty 0)))
    → 9 + 1 ≡ 7 + 1 * length (take k (sync_plan 1 dirty 0) ++ (size 0 0 ∷ [])) → ⊥
unfolding dirty mounted file_start free_where in_order in_range holds_alone is_down has_lengths sound_tests is_sound media_shape frames_shape sizes_fit state_tests blank_page filled_page cache_page patch_page put_page grown Writing.write trim_writes page_write page_writes size_writes sync_plan write_if
wasted_cut zero pays e = absurd (omega (arith, pays.1))
wasted_cut (suc zero) pays e = apart 10 9 refl e
wasted_cut (suc (suc k)) pays e = absurd (omega (arith, pays.0))

pub ruled_out : RuledOut
unfolding dirty grown-file stored blank mounted odd marked tailed file_start free_where in_order in_range holds_alone is_down has_lengths fits_types sound_tests is_sound current_at media_shape frames_shape sizes_fit state_tests Reading.read Looking.look_count blank_page filled_page cache_page patch_page put_page grown Writing.write clear_tail with_sizes truncated Truncating.truncate trim_writes page_write page_writes size_writes sync_plan synced_state write_if under_budget page_of pages_by_log sync_by_log same_media Syncing.sync nonzero_from trims_from mount_plan format_plan Mounting.mount slot_writes Looking.looked_span Looking.look_span Looking.span_bytes Looking.look
ruled_out = (
  λ h. not_done DOWN refl ((h (mount 0) (blank 1 0)).count, (h (mount 0) (blank 1 0)).in_order),
  λ h. apart 0 5 refl (ap (λ (c : Coded). c.number) (h (write 0 0 (1 ∷ [])) (blank 1 0)).in_order),
  λ h. apart 0 1 refl (ap (λ (d : Device). d.cache.mounted) ((h (truncate 0 0) (mounted 1)).unchanged (apart 7 0 refl) (apart 7 9 refl))),
  λ h. apart 1 0 refl (ap (λ (d : Device). d.cache.mounted) ((h (sync 0 0) (mounted 1)).is_cut refl).leaves),
  λ h. let x = (h (sync 0 1) dirty).is_cut refl in one_stored x.writes x.pays x.leaves,
  λ h. apart 0 1 refl (ap (λ (s : CacheState). s.mounted) ((h (mount 0) (blank 1 0)).is_done refl).work.3),
  λ h. apart 0 1 refl (((h (write 0 0 (1 ∷ [])) (mounted 1)).is_done refl).work.2 0 (omega arith)).size,
  λ h. apart 0 frames_bytes refl ((h (write 0 0 (1 ∷ [])) (mounted 1)).is_done refl).frames,
  λ h. apart 1 0 refl (sizes_at 0 _ _ ((h (write 0 0 (1 ∷ [])) (mounted 1)).is_done refl).stored),
  λ h. apart 0 1 refl (sizes_at 0 _ _ ((h (mount 0) odd).is_done refl).stored),
  λ h. let x = h (read 0 0 []) (mounted 1) in not_done DOWN refl (x.count, x.in_order),
  λ h. let x = h (write 0 0 (1 ∷ [])) (mounted 1) in not_done NO_ROOM refl (x.count, x.in_order),
  λ h. let x = h (sync 0 18) (mounted 1) in not_done (CUT 18) refl (x.count, x.in_order),
  λ h. stopped (((h (blank 1 0) 0 refl (call (write 0 0 (1 ∷ 2 ∷ [])) ∷ [])).0.0 (refl, eqb-true _ _ refl, omega arith) (omega arith)).1 refl),
  λ h. not_done BOOKS refl
      (0, ((h (blank 1 0) 0 refl (call (write 0 0 (1 ∷ [])) ∷ call (read 0 0 []) ∷ [])).1.0.0 (refl, eqb-true _ _ refl, omega arith) (omega arith)).0),
  λ h. false≢true
      (sym (((h (blank 1 0) 0 refl (call (write 0 0 (1 ∷ [])) ∷ call (sync 0 18) ∷ call (mount 0) ∷ [])).1.1.0.1 0 (refl, eqb-true _ _ refl, omega arith)).cached 0)),
  λ h. false≢true (sym (((h (blank 1 0) 0 refl (call (write 0 0 (1 ∷ [])) ∷ call (mount 0) ∷ [])).1.0.1 1 (refl, eqb-true _ _ refl, omega arith)).cached 0)),
  λ h. apart 0 1 refl
      (at 0 _ _ ((h (blank 1 0) 0 refl (call (write 0 0 (1 ∷ [])) ∷ call (read 0 0 (2 ∷ [])) ∷ [])).1.0.0 (refl, eqb-true _ _ refl, omega arith) (omega arith)).1),
  λ h. apart 2 1 refl
      (at 0 _ _ ((h (blank 1 0) 0 refl (call (write 0 0 (1 ∷ [])) ∷ call (read 0 0 (2 ∷ [])) ∷ [])).1.0.0 (refl, eqb-true _ _ refl, omega arith) (omega arith)).1),
  λ h. apart 0 1 refl
      (ap length ((h (blank 1 0) 0 refl (call (write 0 0 (1 ∷ [])) ∷ call (look 0 0) ∷ [])).1.0.0 (refl, eqb-true _ _ refl, omega arith) (omega arith)).1),
  λ h. apart 1 2 refl
      (at 0 _ _
      (((h (blank 1 0) 0 refl (call (write 0 0 (1 ∷ [])) ∷ call (sync 0 18) ∷ call (write 0 0 (2 ∷ [])) ∷ call (sync 0 18) ∷ [])
      ).1.1.1.0.0 (refl, eqb-true _ _ refl, omega arith)).1 refl)),
  λ h. apart 7 0 refl (ap (λ (c : Coded). c.count) ((h (blank 1 0) 0 refl (call (sync 0 18) ∷ [])).0.0 (refl, eqb-true _ _ refl, omega arith)).0),
  λ h. middle_lost
      ((h (blank 2 0) 0 refl
      (call (write 0 0 (replicate 257 1)) ∷ call (sync 0 18) ∷ call (write 0 256 (6 ∷ [])) ∷ call (write 0 255 (7 ∷ 8 ∷ [])) ∷ call (sync 0 1) ∷ call (mount 0) ∷ [])
      ).1.1.1.1.1.0 refl 0 (omega arith)),
  λ h. zero_appears ((h (blank 1 0) 0 refl (call (write 0 0 (65 ∷ [])) ∷ call (sync 0 1) ∷ call (mount 0) ∷ [])).1.1.0 refl 0 (omega arith)),
  λ h. apart 2 0 refl
      (at 1 _ _
      ((h (blank 1 0) 0 refl
      (call (write 0 0 (1 ∷ 2 ∷ 3 ∷ [])) ∷ call (sync 0 18) ∷ call (truncate 0 1) ∷ call (truncate 0 3) ∷ call (read 0 0 (9 ∷ 9 ∷ 9 ∷ [])) ∷ [])
      ).1.1.1.1.0.0 (refl, eqb-true _ _ refl, omega arith) (omega arith)).1),
  λ h. apart 2 0 refl
      (at 1 _ _
      (((h (blank 1 0) 0 refl
      (call (write 0 0 (1 ∷ 2 ∷ 3 ∷ [])) ∷ call (sync 0 18) ∷ call (truncate 0 1) ∷ call (truncate 0 3) ∷ call (sync 0 18) ∷ [])
      ).1.1.1.1.0.0 (refl, eqb-true _ _ refl, omega arith)).1 refl)),
  λ h. apart 9 0 refl (at 0 _ _ (((h (blank 1 9) 0 refl (call (truncate 0 1) ∷ call (sync 0 18) ∷ [])).1.0.0 (refl, eqb-true _ _ refl, omega arith)).1 refl)),
  λ h. false≢true
      (((h (blank 1 0) 0 refl (call (write 0 0 (1 ∷ [])) ∷ call (sync 0 18) ∷ call (write 0 0 (1 ∷ [])) ∷ call (mount 0) ∷ [])
      ).1.1.1.0.1 0 (refl, eqb-true _ _ refl, omega arith)).cached 0),
  λ h. false≢true
      (((h (blank 1 0) 0 refl
      (call (write 0 0 (1 ∷ [])) ∷ call (sync 0 18) ∷ call (write 0 0 (2 ∷ [])) ∷ call (write 0 0 (1 ∷ [])) ∷ call (mount 0) ∷ [])
      ).1.1.1.1.0.1 0 (refl, eqb-true _ _ refl, omega arith)).cached 0),
  λ h. false≢true (((h (blank 1 0) 0 refl (call (write 0 0 (0 ∷ [])) ∷ call (mount 0) ∷ [])).1.0.1 0 (refl, eqb-true _ _ refl, omega arith)).cached 0),
  λ h. apart 0 2 refl
      (ap length
      ((h (blank 1 0) 0 refl (call (write 0 0 (0 ∷ [])) ∷ call (sync 0 18) ∷ call (truncate 0 0) ∷ call (truncate 0 1) ∷ call (mount 0) ∷ [])
      ).1.1.1.1.0.1 0 (refl, eqb-true _ _ refl, omega arith)).writes),
  λ h. apart 1 0 refl (bytes_at 0 _ _ ((h (write 0 0 (1 ∷ [])) (mounted 1)).is_done refl).stored),
  λ h. apart 1 0 refl (bytes_at 256 _ _ ((h (sync 0 18) ((store_calls 1).writing 1 0 (1 ∷ []) (mounted 1)).left).is_done refl).stored),
  λ h. apart 0 1 refl
      (ap length ((h (blank 1 0) 0 refl (call (write 0 0 (0 ∷ [])) ∷ call (look 0 0) ∷ [])).1.0.0 (refl, eqb-true _ _ refl, omega arith) (omega arith)).1),
  λ h. apart 9 0 refl (at 0 _ _ ((h (sync 0 18) (mounted 1)).is_done refl).work.2),
  λ h. apart 7 0 refl ((h (read 0 0 []) tailed).is_done refl).work.0,
  λ h. apart 1 0 refl (ap (λ (s : Slot). s.file) (((h (write 1 0 (1 ∷ [])) tailed).is_done refl).work.3 0 refl)),
  λ h. false≢true (ap (λ (s : Slot). is_free s) (sym (((h (truncate 1 0) tailed).is_done refl).work.3 0))),
  λ h. apart 9 0 refl (ap (λ (d : Device). get_or d.frames 0 0) ((h (write 0 0 []) (mounted 1)).idle refl)),
  λ h. false≢true ((h (truncate 0 0) tailed).is_done refl).sound,
  λ h. apart 1 0 refl (ap length ((h (truncate 0 0) (mounted 1)).is_done refl).work.0),
  λ h. apart 0 1 refl ((h (truncate 0 0) (mounted 1)).is_done refl).mounted,
  λ h. apart 0 (media_bytes 1) refl (ap (λ (d : Device). length d.media.bytes) ((h 0 (mounted 1)).leaves refl)),
  λ h. let x = (h.priced (sync 0 18) dirty refl).taken in absurd (omega arith),
  λ h. let x = (h.priced (sync 0 18) dirty refl).bounded 1 (omega arith) in absurd (omega arith),
  λ h. let x = (h.format_priced stored refl).bounded 2 (omega arith) in absurd (omega arith),
  λ h. apart 2 0 refl h.begins.mounts,
  λ h. let x = h.any_cache (mounted 1) (zeros frames_bytes) marked.cache refl refl in false≢true (rw x.1 at x.4),
  λ h. let x = h.any_cache (mounted 1, true) (zeros frames_bytes) marked.cache refl refl in longer x.0.1 (rw x.1 at x.3),
  λ h. let x = (h.demand1 (sync 0 1) dirty).is_cut refl in idle-cut x.writes x.pays.0 (x.made.paid (size 0 0) []),
  λ h. apart 1 0 refl (ap (λ (p : Media × ℕ). p.1) ((h (write 0 0 (1 ∷ [])) (mounted 1, 0)).untouched refl)),
  λ h. apart 2 3 refl (((h.demand1 (sync 0 18) grown-file).is_done refl).made.used (size 0 0) []),
  λ h. let x = (h.demand1 (sync 0 1) (dirty, 9)).is_cut refl in wasted_cut x.writes x.pays (x.made.used (size 0 0) []),
  λ h. apart 0 1 refl (ap (λ (p : Media × ℕ). p.1) (h.alone ((mounted 1).media, 0) ((mounted 1).media, 1) refl)),
)
  where
    -- the pages of a device whose state is not sound
    longer : (b : Bool) → ◌≡◌ {A = ℕ} (cond (b && false) 1 2) 1 → ⊥
    longer true e = apart 2 1 refl e
    longer false e = apart 2 1 refl e

    -- one of two bytes was put down, and the second is in the same page
    stopped : {X : Type 0} → (◌≡◌ {A = ℕ} 1 2) ⊎ ((0 < 1) × (1 < 2) × (◌≡◌ {A = ℕ} 1 0) × X) → ⊥
    stopped (inl e) = apart 1 2 refl e
    stopped (inr (a, b, e, x)) = apart 1 0 refl e

    -- 7 and 8 were written over the end of page 0 and the start of page 1, and 8 alone is there
    middle_lost : Becomes (replicate 257 1) (written 256 (6 ∷ []) ∷ written 255 (7 ∷ 8 ∷ []) ∷ []) (replicate 256 1 ++ (8 ∷ [])) → ⊥
    middle_lost (zero, k, (zero, l, e)) = apart 1 8 refl (at 256 _ _ e)
    middle_lost (suc m, k, (zero, l, e)) = apart 6 8 refl (at 256 _ _ e)
    middle_lost (zero, k, (suc n, l, e)) = apart 7 1 refl (at 255 _ _ e)
    middle_lost (suc m, k, (suc n, l, e)) = apart 7 1 refl (at 255 _ _ e)

    -- 65 was written, and a zero is there
    zero_appears : Becomes [] (written 0 (65 ∷ []) ∷ []) (0 ∷ []) → ⊥
    zero_appears (zero, l, e) = apart 0 1 refl (ap length e)
    zero_appears (suc n, l, e) = apart 65 0 refl (at 0 _ _ e)
