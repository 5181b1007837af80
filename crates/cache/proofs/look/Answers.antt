-- `cache::look` meets its contract: the part that lies where `look_span` says.
use native.Mathlib.Omega.{arith}
use Rattle.device.proofs.Looking.{span_within, span_in_frames, span_in_media}
use Rattle.cache.proofs.look.Goals as goal
use Rattle.cache.proofs.look.Goals.{then-span, else-span}

pub overflow_add-result : goal.overflow_add-result
overflow_add-result c =
    let w = span_within _ _ _ _ _ c.look_span-span.ensures in
    omega (arith, w.from_most, w.count_most)

pub slice_bounds-result-end : goal.slice_bounds-result-end
slice_bounds-result-end c =
    let p = span_within _ _ _ _ _ c.look_span-span.ensures in
    elim c.if-span.branch [
      | then-span w ↦ rw w.bytes-is (omega (arith, p.frames w.if-span.true))
      | else-span w ↦ rw w.bytes-is (omega (arith, p.media w.if-span.false))
    ]

pub returns : goal.returns
returns c =
    elim c.if-span.branch [
      | then-span w ↦ rw w.bytes-is (span_in_frames _ _ _ _ _ c.look_span-span.ensures _ _ w.if-span.true)
      | else-span w ↦ rw w.bytes-is (span_in_media _ _ _ _ _ c.look_span-span.ensures _ _ w.if-span.false)
    ]
