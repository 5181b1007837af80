-- `session_line::put_hex` meets its contract: the part of the output is the digits.
use Rattle.std.proofs.Common.{◌≡◌, ◌+◌, ◌-◌, ◌*◌, ◌∙◌, arith, refl, ap, length, Result, Ok, Err}
use mathlib.Core.Bool.{false≢true}
use Rattle.std.specs.Result.{IsOk, OnOk}
use Rattle.memory.specs.Bytes.{overwrite, part}
use Rattle.memory.proofs.Bytes.{put_back, length_part}
use Rattle.session_line.specs.Reply.{hex}
use Rattle.session_line.proofs.Reply.{hex-lower, hex-length}
use Rattle.session_line.proofs.put_hex.Goals as goal

on_ok : {T E : Type 0} (r : Result T E) (P : Type 0) → IsOk r → OnOk r P → P
on_ok (Ok x) P h p = p
on_ok (Err e) P h p = absurd (false≢true h)

pub returns : goal.returns
returns c =
    let a = c.args in
    let room : length (part a.output.now a.at (a.at + 2 * length a.bytes.now - a.at)) ≡ 2 * length a.bytes.now = length_part a.output.now a.at (a.at + 2 * length a.bytes.now - a.at) (omega arith) ∙ omega arith in
    let e : c.encode_to_slice.new.output ≡ hex a.bytes.now =
    on_ok _ _ (c.encode_to_slice.ensures.fits.1 room) c.encode_to_slice.ensures.written ∙ hex-lower a.bytes.now (λ k. omega (arith, c.type_inv.bytes k)) in
    (put_back a.at _ a.output.now _ (omega (arith, ap length e, hex-length a.bytes.now)) (omega arith) c.requires ∙ ap (overwrite a.output.now a.at) e, refl)
