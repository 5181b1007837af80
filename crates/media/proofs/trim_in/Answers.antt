-- `media::trim_in` meets its contract: what `admit` answers decides, then the stored size.
use mathlib.Core.Path.{◌∙◌, ap}
use mathlib.Core.List.{List}
use Prim.Native.Nat.{ℕ}
use lib.ListN.{set}
use Rattle.answer.specs.declared.Refusal.TheVariants.{Range}
use Rattle.media.specs.Write.{media_of}
use Rattle.std.proofs.lemmas.Result.{err_from_is_err_and}
use Rattle.media.proofs.Direct.{trim-range, trim-done, trim_applied, trim-refused, trim-unchanged}
use Rattle.media.proofs.trim_in.Goals as goal

pub returns-in_err-admit : goal.returns-in_err-admit
returns-in_err-admit c =
    let r = c.in_err-admit.field-0.0 in
    let e = trim-refused _ _ _ _ r c.in_err-admit.ensures.answer in
    let p = err_from_is_err_and c.from_residual.result c.from_residual.ensures.1 in
    rw (p.1, p.2) (e, trim-unchanged _ _ _ _ r e)

pub returns-then-sizes-file : goal.returns-then-sizes-file
returns-then-sizes-file c =
    let e = trim-range _ _ _ _ c.in_ok-admit.ensures.tested c.if-sizes-file.true in
    (e, trim-unchanged _ _ _ _ Range e)

pub returns : goal.returns
returns c =
    let a = c.args in
    let ok = c.in_ok-admit.ensures.tested in
    let h = c.if-sizes-file.false in
    (trim-done _ _ _ _ ok h, ap (λ (bytes : List ℕ). media_of bytes (set a.sizes.now a.file a.n)) c.clear_from.ensures ∙ trim_applied _ _ _ _ ok h)
