-- `session_run::feed` meets its contract: each byte ends a line, or goes on with it.
use Rattle.std.proofs.Common.{◌+◌, ◌-◌, ◌∙◌, refl, arith}
use Rattle.memory.proofs.Bytes.{length_part, length_put}
use Rattle.media.specs.Geometry.{pages_per_file}
use Rattle.session_run.specs.Feeding.{restarted}
use Rattle.session_run.proofs.Feeding.{fed-none, fed-room, fed-line, fed_on, fed_all, fed-refused}
use Rattle.session_run.proofs.Steps.{stepped_end}
use Rattle.session_run.proofs.feed.Goals as goal

pub returns-then-output-input : goal.returns-then-output-input
returns-then-output-input c = (fed-refused _ _ _ _ _ c.if-output-input.true, omega arith)

pub loop-byte-init : goal.loop-byte-init
loop-byte-init c = (fed-none pages_per_file c.args.input.now _ _ _, refl)

pub loop-byte-preserved-then-byte-ne10 : goal.loop-byte-preserved-then-byte-ne10
loop-byte-preserved-then-byte-ne10 c =
    let l = c.loop-byte in
    (rw c.push.ensures (fed_on _ _ _ _ _ _ _ _ _ _ l.invariant.0 (omega arith) c.if-byte-ne10.true), l.invariant.1)

pub loop-byte-preserved : goal.loop-byte-preserved
unfolding restarted
loop-byte-preserved c =
    let l = c.loop-byte in
    let ran = c.run_line-ran in
    let room = fed-room _ _ _ _ _ _ _ _ _ _ l.invariant.0 (omega arith) (omega arith) l.invariant.1 in
    let whole = length_part l.output l.put (l.put + 70 - l.put) (omega (arith, room)) in
    let step = stepped_end _ _ _ _ _ _ _ ran.result.answer _ c.as_slice.ensures (whole ∙ omega arith) c.count-put.ensures ran.ensures in (
      fed-line _ _ _ _ _ _ _ _ _ _ _ _ _ _ l.invariant.0 (omega arith) c.if-byte-ne10.false refl room step,
      length_put l.put (l.put + 70) l.output ran.new.output (ran.auto.output ∙ whole) (omega arith) room ∙ l.invariant.1,
    )

pub returns : goal.returns
returns c =
    let s = c.loop-byte.invariant.0 in (
      fed_all _ _ _ _ _ _ _ _ _ _ s (omega arith) (omega arith),
      omega (arith, s.count, s.fits, c.loop-byte.auto.byte-index-end),
    )
