-- `writing::write` meets its contract: refused as `admit` says, or nothing to put, or the pages and then the size.
use mathlib.Core.Path.{◌≡◌, refl, sym, ap, ◌∙◌}
use mathlib.Core.Bool.{true}
use mathlib.Core.List.{List}
use Prim.Native.Nat.{ℕ, ◌+◌, ◌≤◌}
use native.Mathlib.Omega.{arith}
use lib.Dec.{leb}
use lib.ListN.{length}
use borrow.Author.Tests.{leb-true, eqb-true, eqb-false}
use Rattle.std.proofs.lemmas.Result.{err_from_is_err_and}
use Rattle.answer.proofs.Admission.{passed}
use Rattle.media.specs.Geometry.{pages_per_file, file_bytes}
use Rattle.device.specs.Device.{Device}
use Rattle.device.specs.Admission.{file_tests}
use Rattle.device.specs.Writing.{Written, put_pages, write}
use Rattle.device.proofs.Admission.{file_admitted}
use Rattle.device.proofs.Writing.{pages_most, write-refused, write-empty, write-full, write_done}
use Rattle.state_bytes.proofs.Inverse.{are_bytes_lem}
use Rattle.state_bytes.proofs.OnBytes.{refused_on, bytes_on}
use Rattle.writing.proofs.Admitted.{admitted}
use Rattle.writing.proofs.write.Goals as goal

-- what n bytes were put down of a write that was admitted end within the file
put_within : (f position n : ℕ) (bytes : List ℕ) (d after : Device) → passed (file_tests pages_per_file d f (leb (position + length bytes) (file_bytes pages_per_file))) ≡ true
    → record { device = after; count = n } ≡ put_pages pages_per_file f pages_per_file position bytes d → position + n ≤ file_bytes pages_per_file
put_within f position n bytes d after ok e =
    omega (arith, ap (λ (w : Written). w.count) e, pages_most pages_per_file f pages_per_file position bytes d, leb-true _ _ (file_admitted pages_per_file d f _ ok).in_range)

pub returns-in_err-admit : goal.returns-in_err-admit
returns-in_err-admit c =
    let a = c.args in
    let p = err_from_is_err_and c.from_residual.result c.from_residual.ensures.1 in
    rw (p.1, p.2)
    (refused_on (write pages_per_file a.file a.position a.bytes.now) _ _ _ (rw c.sum_fits-in_range.ensures at (c.in_err-admit.ensures.answer _ _ refl refl))
    (are_bytes_lem _ c.slice_known-2-1.given) (write-refused pages_per_file a.file a.position a.bytes.now _ _))

pub returns-then-is_empty : goal.returns-then-is_empty
returns-then-is_empty c =
    let ok = admitted _ _ _ (rw c.sum_fits-in_range.ensures at (c.in_ok-admit.ensures.answer _ _ refl refl)) in
    bytes_on (write pages_per_file c.args.file c.args.position c.args.bytes.now) _ ok.0 _ _ _ _ ok.0 (are_bytes_lem _ c.slice_known-2-1.given)
    (write-empty _ _ _ _ _ ok.1 (eqb-true _ _ (sym c.is_empty.ensures ∙ c.if-is_empty.true)))

pub unwrap-frames-requires : goal.unwrap-frames-requires
unwrap-frames-requires c =
    let ok = admitted _ _ _ (rw c.sum_fits-in_range.ensures at (c.in_ok-admit.ensures.answer _ _ refl refl)) in
    c.as_mut_array.ensures.variant.1 (file_admitted pages_per_file _ _ _ ok.1).frames

pub unwrap-state-requires : goal.unwrap-state-requires
unwrap-state-requires c =
    let ok = admitted _ _ _ (rw c.sum_fits-in_range.ensures at (c.in_ok-admit.ensures.answer _ _ refl refl)) in
    c.as_mut_array-2.ensures.variant.1 ok.0

pub put_bytes-count-requires : goal.put_bytes-count-requires
put_bytes-count-requires c =
    let tests = admitted _ _ _ (rw c.sum_fits-in_range.ensures at (c.in_ok-admit.ensures.answer _ _ refl refl)) in
    let ok = file_admitted pages_per_file _ _ _ tests.1 in
    let state = (rw c.unwrap-state.ensures at c.as_mut_array-2.ensures.cases).same in
    (ok.bytes, ok.file, leb-true _ _ ok.in_range, rw state c.in_ok-admit.ensures.table)

pub returns-then-count-eq0 : goal.returns-then-count-eq0
returns-then-count-eq0 c =
    let ok = admitted _ _ _ (rw c.sum_fits-in_range.ensures at (c.in_ok-admit.ensures.answer _ _ refl refl)) in
    let frames = (rw c.unwrap-frames.ensures at c.as_mut_array.ensures.cases).same in
    let state = (rw c.unwrap-state.ensures at c.as_mut_array-2.ensures.cases).same in
    let some = eqb-false _ _ (sym c.is_empty.ensures ∙ c.if-is_empty.false) in
    bytes_on (write pages_per_file c.args.file c.args.position c.args.bytes.now) _ ok.0 _ _ _ _ (omega (arith, ok.0, ap length state)) (are_bytes_lem _ c.type_inv.state)
    (write-full _ _ _ _ _ ok.1 (omega (arith, some)) (omega (arith, some)) _ (rw (frames, state) at (c.put_bytes-count.ensures c.args.sizes.now)) c.if-count-eq0.true)

pub overflow_add-position : goal.overflow_add-position
overflow_add-position c =
    let ok = admitted _ _ _ (rw c.sum_fits-in_range.ensures at (c.in_ok-admit.ensures.answer _ _ refl refl)) in
    let frames = (rw c.unwrap-frames.ensures at c.as_mut_array.ensures.cases).same in
    let state = (rw c.unwrap-state.ensures at c.as_mut_array-2.ensures.cases).same in
    omega (arith, put_within _ _ _ _ _ _ ok.1 (rw (frames, state) at (c.put_bytes-count.ensures c.args.sizes.now)))

pub grow-requires : goal.grow-requires
grow-requires c =
    let ok = admitted _ _ _ (rw c.sum_fits-in_range.ensures at (c.in_ok-admit.ensures.answer _ _ refl refl)) in
    let frames = (rw c.unwrap-frames.ensures at c.as_mut_array.ensures.cases).same in
    let state = (rw c.unwrap-state.ensures at c.as_mut_array-2.ensures.cases).same in
    ((file_admitted pages_per_file _ _ _ ok.1).file, omega (arith, put_within _ _ _ _ _ _ ok.1 (rw (frames, state) at (c.put_bytes-count.ensures c.args.sizes.now))))

pub returns : goal.returns
returns c =
    let ok = admitted _ _ _ (rw c.sum_fits-in_range.ensures at (c.in_ok-admit.ensures.answer _ _ refl refl)) in
    let frames = (rw c.unwrap-frames.ensures at c.as_mut_array.ensures.cases).same in
    let state = (rw c.unwrap-state.ensures at c.as_mut_array-2.ensures.cases).same in
    bytes_on (write pages_per_file c.args.file c.args.position c.args.bytes.now) _ ok.0 _ _ _ _ (omega (arith, ok.0, ap length state)) (are_bytes_lem _ c.type_inv.state)
    (rw c.grow.ensures (write_done _ _ _ _ _ ok.1 (omega (arith, eqb-false _ _ (sym c.is_empty.ensures ∙ c.if-is_empty.false))) _ (rw (frames, state) at (c.put_bytes-count.ensures c.args.sizes.now)) c.if-count-eq0.false))
