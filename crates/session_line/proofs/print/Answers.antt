-- `session_line::print` meets its contract: the parts of the line are laid one after another over the front of the output.
use Rattle.std.proofs.Common.{◌≡◌, ◌+◌, ◌*◌, ◌<◌, ◌∙◌, arith, sym, ap, length}
use Rattle.answer.specs.Coded.{coded, done}
use Rattle.text.specs.Decimal.{decimal}
use Rattle.session_line.specs.Reply.{reply_line}
use Rattle.session_line.proofs.Reply.{decimal_text, reply-length, reply_put, print_fits, print_short}
use Rattle.session_line.proofs.print.Goals as goal
use Rattle.session_line.proofs.print.Goals.{then-output-frame-via-then-output-frame, then-output-frame-via-else-output-frame+then-output-frame-2}

pub returns-then-output-frame : goal.returns-then-output-frame
returns-then-output-frame c =
    let a = coded c.args.answer in
    let number : c.as_bytes-number.result.now ≡ decimal a.number = decimal_text _ _ _ (c.as_bytes-number.ensures.value ∙ c.format.ensures.text) (omega arith) c.number.ensures in
    let count : c.as_bytes-count.result.now ≡ decimal a.count = decimal_text _ _ _ (c.as_bytes-count.ensures.value ∙ c.format-2.ensures.text) (omega arith) c.count.ensures in
    let l : length (reply_line a c.args.bytes.now) ≡ length c.as_bytes-number.result.now + length c.as_bytes-count.result.now + 2 * length c.args.bytes.now + 3 =
    rw (number, count) (reply-length a c.args.bytes.now) in
    let short : length c.args.output.now < length (reply_line a c.args.bytes.now) =
    elim c.then-output-frame.branch [ then-output-frame-via-then-output-frame w ↦ omega arith | then-output-frame-via-else-output-frame+then-output-frame-2 w ↦ omega arith ] in
    let p = print_short _ _ short in
    (sym p.0, sym p.1)

pub returns : goal.returns
returns c =
    let a = coded c.args.answer in
    let bytes = c.args.bytes.now in
    let number : c.as_bytes-number.result.now ≡ decimal a.number = decimal_text _ _ _ (c.as_bytes-number.ensures.value ∙ c.format.ensures.text) (omega arith) c.number.ensures in
    let count : c.as_bytes-count.result.now ≡ decimal a.count = decimal_text _ _ _ (c.as_bytes-count.ensures.value ∙ c.format-2.ensures.text) (omega arith) c.count.ensures in
    let n = ap length number in
    let m = ap length count in
    let first = c.put-end.ensures in
    let second = c.put-end-2.ensures in
    let third = c.put-end-3.ensures in
    let fourth = c.put-end-4.ensures in
    let fifth = c.put_hex-end.ensures in
    let sixth = c.put-end-5.ensures in
    let q : c.put-end-5.result ≡ length (reply_line a bytes) = omega (arith, n, m, first.1, second.1, third.1, fourth.1, fifth.1, sixth.1, reply-length a bytes) in
    let p = print_fits (reply_line a bytes) c.args.output.now (omega (arith, n, m, reply-length a bytes)) in (
      ap done q ∙ sym p.0,
      rw (p.1, sixth.0, fifth.0, fourth.0, third.0, second.0, first.0, number, count)
          (reply_put a bytes c.args.output.now _ _ _ _ _ (omega (arith, n, first.1)) second.1 (omega (arith, m, third.1)) fourth.1 fifth.1),
    )
