-- `session::serve_block` meets its contract: what was read is run, and the text that it gives is what was written.
use Rattle.std.proofs.Common.{◌≡◌, ◌<◌, ◌∙◌, ap, arith, subst, le_refl, length, take}
use Rattle.std.specs.Io.KnownBytes.{Appends}
use Rattle.session_run.specs.Feeding.{last_end}
use Rattle.session_run.proofs.Feeding.{block-fed, text-left, last-short}
use Rattle.session.proofs.Served.{end_before}
use Rattle.session.proofs.serve_block.Goals as goal

pub returns-in_ok-write_out-in-Ok-eq0 : goal.returns-in_ok-write_out-in-Ok-eq0
returns-in_ok-write_out-in-Ok-eq0 g c =
    let read = rw c.in-Ok-eq0.is at c.read.ensures.bytes in
    let none : c.in-Ok-eq0.field-0 ≡ 0 = omega (arith, c.in-Ok-eq0.field-0-test) in
    let room : 0 < length c.read.new.buf = omega (arith, c.read.auto.buf) in
    let line = c.args.session.line in
    let last = c.finish-last in
    let ran = block-fed _ (last_end line) _ _ line _ _ _ last.result.answer last.ensures (omega (arith, last-short line)) in
    record {
      read = end_before _ _ c.in-Ok-eq0.field-0 c.read.new.buf none read.0 (read.1 none room);
      written =
          subst (Appends _ _) (ap (λ n. take n last.new.output) c.count.ensures ∙ text-left _ _ _ _ _ _ _ ran (le_refl _)) c.in_ok-write_out-in-Ok-eq0.ensures;
    }

pub returns-in_ok-write_out-in-Ok : goal.returns-in_ok-write_out-in-Ok
returns-in_ok-write_out-in-Ok g c =
    let block = c.feed-block in
    let ran = block-fed _ _ _ _ c.args.session.line _ _ _ block.result.answer block.ensures (omega (arith, c.in-Ok.ensures.bound)) in
    record {
      bytes = _;
      read = c.in-Ok.ensures.bytes.0;
      device = ran.device;
      line = ran.partial;
      written =
          subst (Appends _ _) (ap (λ n. take n block.new.output) c.count-in-Ok.ensures ∙ text-left _ _ _ _ _ _ _ ran (le_refl _)) c.in_ok-write_out-in-Ok.ensures;
    }
