use mathlib.Core.Path.{◌≡◌, sym, ◌∙◌}
use Prim.Native.Nat.{ℕ, ◌+◌, ◌*◌, ◌-◌, ◌/◌, ◌<◌, ◌≤◌}
use native.Mathlib.Omega.{arith}
use lib.ListN.{length}
use Rattle.memory.specs.Bytes.{part}
use Rattle.memory.proofs.Bytes.{length_part, overwrite-none, overwrite-whole}
use Rattle.memory.proofs.Cases.{split_lt}
use Rattle.media.specs.Geometry.{page_bytes, pages_per_file}
use Rattle.device.specs.Device.{slot_count, slot_of}
use Rattle.device.proofs.Current.{length-current}
use Rattle.admission.proofs.Pass.{slot_for_lem}
use Rattle.reading.proofs.Stored.{read_to}
use Rattle.reading.proofs.Source.read.Goals as goal

pub loop-i-init : goal.loop-i-init
loop-i-init c = record { front = λ d shows. sym (overwrite-none _ 0); so_far = omega arith }

pub loop-i-preserved-in-Some : goal.loop-i-preserved-in-Some
loop-i-preserved-in-Some c =
    let a = c.args in
    let s = a.self.now in
    record {
      front = λ d shows.
          let e-k = c.in-Some.ensures.1 ∙ slot_for_lem d.cache.slots _ s.file _ shows.slots (omega arith) (omega arith) in
          read_to pages_per_file d s.file a.buffer.now c.loop-i.buffer c.read_frame.new.buffer a.position c.loop-i.i c.min-to.result (omega arith) (c.loop-i.invariant.front d shows) (c.read_frame.ensures d shows e-k) (omega arith);
      so_far = omega arith;
    }

pub loop-i-preserved : goal.loop-i-preserved
loop-i-preserved c =
    let a = c.args in
    let s = a.self.now in
    let i = c.loop-i.i in
    let at : ℕ = a.position + i in
    let to : ℕ = c.min-to-in-None.result in
    let more : i < to = omega arith in
    let lp : length (part c.loop-i.buffer i (to - i)) ≡ to - i = length_part c.loop-i.buffer i (to - i) (omega arith) in
    record {
      front = λ d shows.
          let none : (p : ℕ) → at / page_bytes ≤ p → page_bytes * p < at + length (part c.loop-i.buffer i (to - i)) → slot_count ≤ slot_of d s.file p =
          λ p lo hi.
          let below : p < c.cached_from-stop.result = omega arith in
          let e-p = slot_for_lem d.cache.slots _ s.file p shows.slots (omega arith) (omega arith) in
          split_lt (at / page_bytes) p
          (λ h. omega (arith, e-p, c.cached_from-stop.ensures.none_before p (omega arith) below))
          (λ h. let e : at / page_bytes ≡ p = omega arith in omega (arith, e-p, rw e at c.in-None.ensures)) in
          read_to pages_per_file d s.file a.buffer.now c.loop-i.buffer c.read_stored.new.buffer a.position i to (omega arith) (c.loop-i.invariant.front d shows) (c.read_stored.ensures d shows none) (omega arith);
      so_far = omega arith;
    }

pub returns : goal.returns
returns c = λ d shows.
    let n : ℕ = length c.args.buffer.now in
    let e : c.loop-i.i ≡ n = omega arith in
    rw e at (c.loop-i.invariant.front d shows) ∙ overwrite-whole c.args.buffer.now _ (length-current pages_per_file d c.args.self.now.file c.args.position n)
