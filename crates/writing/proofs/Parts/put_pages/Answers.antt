use mathlib.Core.Path.{◌≡◌, refl, sym, ◌∙◌}
use mathlib.Core.List.{List, []}
use Prim.Native.Nat.{ℕ, ◌+◌, ◌-◌, ◌/◌, ◌%◌}
use native.Mathlib.Omega.{arith}
use lib.ListN.{length}
use Rattle.memory.specs.Bytes.{part}
use Rattle.media.specs.Geometry.{page_bytes, pages_per_file}
use Rattle.media.specs.Write.{media_of}
use Rattle.device.specs.Device.{device_of}
use Rattle.device.specs.Writing.{put_page}
use Rattle.state_bytes.specs.Encoding.{decode}
use Rattle.state_bytes.proofs.InPlace.{shaped}
use Rattle.writing.proofs.Puts.{put_in_slot, told_all, told-next, rest-none, rest_end, rest-stop, rest-next}
use Rattle.writing.proofs.Parts.put_pages.Goals as goal

pub loop-from-init : goal.loop-from-init
loop-from-init c = record {
  rest = λ stored. rest-none;
  within = omega arith;
  told = told_all c.args.table.now.slots c.args.file (omega arith) _ _ _ c.requires.3;
  same_parts = (refl, refl, refl);
}

pub loop-from-preserved : goal.loop-from-preserved
loop-from-preserved c =
    let a = c.args in
    let i = c.loop-from.from in
    let n = c.min.result in
    let at = a.position + i in
    let now = c.loop-from.self in
    let next = c.written_slot.new.self in
    let h = c.loop-from.invariant in
    let same = c.in-Some.ensures.same_parts in
    let has = sym c.in-Some.ensures.has_slot in
    let put : (stored : List ℕ) → device_of (media_of next.media.now stored) c.patch_frames.new.frames (decode next.state.now)
    ≡ put_page pages_per_file a.file (at / page_bytes) (at % page_bytes) (part a.bytes.now i (i + n - i)) (device_of (media_of now.media.now stored) now.frames.now (decode now.state.now))
    = λ stored. rw c.patch_frames.ensures (put_in_slot pages_per_file a.file (at / page_bytes) (at % page_bytes) c.in-Some.k _ _ _ _ _ (c.in-Some.ensures.cached stored) c.in-Some.ensures.slot.1) in
    record {
      rest = λ stored. rest-next (h.rest stored) n _ (omega arith) (omega arith) has (omega arith) (put stored);
      within = omega arith;
      told = told-next a.table.now.slots a.file at (length a.bytes.now - i) (device_of (media_of now.media.now []) now.frames.now (decode now.state.now))
          h.told (shaped now.state.now).slots has n _ _ _ _ _ (omega arith) (omega arith) (omega arith) (put []);
      same_parts = (same.0 ∙ h.same_parts.0, same.1 ∙ h.same_parts.1, same.2 ∙ h.same_parts.2);
    }

pub returns-in_default-clause-put : goal.returns-in_default-clause-put
returns-in_default-clause-put c = λ stored. rest-stop (c.loop-from.invariant.rest stored) _ (sym c.in_default.ensures.has_slot) (c.in_default.ensures.cached stored)

pub returns-clause-put : goal.returns-clause-put
returns-clause-put c = λ stored. rest_end (c.loop-from.invariant.rest stored) (omega arith)
