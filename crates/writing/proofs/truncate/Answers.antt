-- `writing::truncate` meets its contract: refused as `admit` says, or the state and the tail.
use mathlib.Core.Path.{refl, sym, ◌∙◌, ap}
use Prim.Native.Nat.{◌/◌}
use native.Mathlib.Omega.{arith}
use lib.ListN.{length}
use borrow.Author.Tests.{leb-true}
use Rattle.std.proofs.lemmas.Result.{err_from_is_err_and}
use Rattle.media.specs.Geometry.{page_bytes, pages_per_file}
use Rattle.scan.specs.Scan.{first_index}
use Rattle.device.specs.declared.CacheState.{CacheState}
use Rattle.device.specs.Device.{holds}
use Rattle.device.specs.Truncating.{with_sizes, truncate}
use Rattle.device.proofs.Admission.{file_admitted}
use Rattle.device.proofs.Truncating.{truncate-refused, truncate-done, tail_cleared, tail_none}
use Rattle.state_bytes.specs.Encoding.{decode}
use Rattle.state_bytes.proofs.Inverse.{are_bytes_lem}
use Rattle.state_bytes.proofs.InPlace.{shaped}
use Rattle.state_bytes.proofs.OnBytes.{refused_on, bytes_on}
use Rattle.writing.proofs.Admitted.{admitted}
use Rattle.writing.proofs.truncate.Goals as goal

pub returns-in_err-admit : goal.returns-in_err-admit
returns-in_err-admit c =
    let p = err_from_is_err_and c.from_residual.result c.from_residual.ensures.1 in
    rw (p.1, p.2)
    (refused_on (truncate pages_per_file c.args.file c.args.n) _ _ _ (c.in_err-admit.ensures.answer _ _ refl refl)
    (are_bytes_lem _ c.slice_known-2-1.given) (truncate-refused pages_per_file c.args.file c.args.n _ _))

pub unwrap-frames-requires : goal.unwrap-frames-requires
unwrap-frames-requires c =
    let ok = admitted _ _ _ (c.in_ok-admit.ensures.answer _ _ refl refl) in
    c.as_mut_array.ensures.variant.1 (file_admitted pages_per_file _ _ _ ok.1).frames

pub unwrap-state-requires : goal.unwrap-state-requires
unwrap-state-requires c =
    let ok = admitted _ _ _ (c.in_ok-admit.ensures.answer _ _ refl refl) in
    c.as_mut_array-2.ensures.variant.1 ok.0

pub truncate_state-requires : goal.truncate_state-requires
truncate_state-requires c =
    let tests = admitted _ _ _ (c.in_ok-admit.ensures.answer _ _ refl refl) in
    let ok = file_admitted pages_per_file _ _ _ tests.1 in
    (ok.file, omega (arith, leb-true _ _ ok.in_range))

pub tail_slot-requires : goal.tail_slot-requires
tail_slot-requires c =
    let tests = admitted _ _ _ (c.in_ok-admit.ensures.answer _ _ refl refl) in
    let ok = file_admitted pages_per_file _ _ _ tests.1 in
    (ok.file, leb-true _ _ ok.in_range)

pub clear_tail-requires : goal.clear_tail-requires
clear_tail-requires c =
    let a = c.args in
    let some = c.in-Some.ensures (decode a.state.now) (shaped a.state.now).slots c.in_ok-admit.ensures.table in
    omega (arith, some.0, some.1)

pub returns-in_default : goal.returns-in_default
unfolding with_sizes
returns-in_default c =
    let a = c.args in
    let ok = admitted _ _ _ (c.in_ok-admit.ensures.answer _ _ refl refl) in
    let frames = (rw c.unwrap-frames.ensures at c.as_mut_array.ensures.cases).same in
    let state = (rw c.unwrap-state.ensures at c.as_mut_array-2.ensures.cases).same in
    let after = rw state at c.truncate_state.ensures in
    let none = c.in_default.ensures (decode a.state.now) (shaped a.state.now).slots c.in_ok-admit.ensures.table in
    rw frames
    (bytes_on (truncate pages_per_file a.file a.n) _ ok.0 _ _ _ _ (omega (arith, ok.0, ap length state)) (are_bytes_lem _ c.type_inv.state)
    (truncate-done pages_per_file a.file a.n _ _ _ ok.1 after
    (tail_none _ a.file a.n _ (sym (ap (λ (x : CacheState). first_index (holds a.file (a.n / page_bytes)) x.slots) after)) (omega (arith, none)))))

pub returns : goal.returns
unfolding with_sizes
returns c =
    let a = c.args in
    let ok = admitted _ _ _ (c.in_ok-admit.ensures.answer _ _ refl refl) in
    let frames = (rw c.unwrap-frames.ensures at c.as_mut_array.ensures.cases).same in
    let state = (rw c.unwrap-state.ensures at c.as_mut_array-2.ensures.cases).same in
    let after = rw state at c.truncate_state.ensures in
    let some = c.in-Some.ensures (decode a.state.now) (shaped a.state.now).slots c.in_ok-admit.ensures.table in
    bytes_on (truncate pages_per_file a.file a.n) _ ok.0 _ _ _ _ (omega (arith, ok.0, ap length state)) (are_bytes_lem _ c.type_inv.state)
    (truncate-done pages_per_file a.file a.n _ _ _ ok.1 after
    (tail_cleared _ a.file a.n c.in-Some.k (some.1 ∙ sym (ap (λ (x : CacheState). first_index (holds a.file (a.n / page_bytes)) x.slots) after))
    _ (omega (arith, some.0, some.1)) (rw frames at c.clear_tail.ensures)))
