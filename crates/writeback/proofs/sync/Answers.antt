-- `writeback::sync` meets its contract: the admission decides, then the budget.
use mathlib.Core.Path.{refl}
use mathlib.Core.Bool.{true}
use native.Mathlib.Omega.{arith}
use Rattle.std.specs.Prelude.{Ok}
use Rattle.std.proofs.lemmas.Result.{err_from_is_err_and}
use Rattle.media.specs.Geometry.{pages_per_file}
use Rattle.media.specs.Write.{media_of}
use Rattle.device.proofs.Sound.{sound-sizes}
use Rattle.state_bytes.specs.InPlace.{borrowed}
use Rattle.state_bytes.proofs.Inverse.{are_bytes_lem}
use Rattle.state_bytes.proofs.OnBytes.{borrowed-passed, borrowed-ready}
use Rattle.writeback.proofs.Ends.{refused_ends, cut_ends, done_ends, whole_mut, whole}
use Rattle.writeback.proofs.sync.Goals as goal

pub returns-in_err-admit : goal.returns-in_err-admit
returns-in_err-admit c =
    let p = err_from_is_err_and c.from_residual.result c.from_residual.ensures.1 in
    let e = rw c.in_err-admit.was at (c.admit.ensures.answer c.args.media.now c.args.frames.now refl refl) in
    rw (p.1, p.2) (refused_ends pages_per_file c.args.file c.args.budget _ _ e (are_bytes_lem _ c.slice_known-3-1.given))

pub unwrap-media-requires : goal.unwrap-media-requires
unwrap-media-requires c =
    let l = borrowed (media_of c.args.media.now c.args.sizes.now) c.args.frames.now c.args.state.now in
    c.as_mut_array.ensures.variant.1 (borrowed-ready pages_per_file l c.args.file true (Ok 0) (rw c.in_ok-admit.was at (c.admit.ensures.answer c.args.media.now c.args.frames.now refl refl)) 0 refl).bytes

pub unwrap-sizes-requires : goal.unwrap-sizes-requires
unwrap-sizes-requires c =
    let l = borrowed (media_of c.args.media.now c.args.sizes.now) c.args.frames.now c.args.state.now in
    c.as_mut_array-2.ensures.variant.1 (borrowed-ready pages_per_file l c.args.file true (Ok 0) (rw c.in_ok-admit.was at (c.admit.ensures.answer c.args.media.now c.args.frames.now refl refl)) 0 refl).sizes

pub unwrap-frames-requires : goal.unwrap-frames-requires
unwrap-frames-requires c =
    let l = borrowed (media_of c.args.media.now c.args.sizes.now) c.args.frames.now c.args.state.now in
    c.as_array.ensures.variant.1 (borrowed-ready pages_per_file l c.args.file true (Ok 0) (rw c.in_ok-admit.was at (c.admit.ensures.answer c.args.media.now c.args.frames.now refl refl)) 0 refl).frames

pub unwrap-state-requires : goal.unwrap-state-requires
unwrap-state-requires c =
    let l = borrowed (media_of c.args.media.now c.args.sizes.now) c.args.frames.now c.args.state.now in
    c.as_mut_array-3.ensures.variant.1 (borrowed-passed pages_per_file l c.args.file true (Ok 0) (rw c.in_ok-admit.was at (c.admit.ensures.answer c.args.media.now c.args.frames.now refl refl)) 0 refl).0

pub sync_writes-needed-requires : goal.sync_writes-needed-requires
sync_writes-needed-requires c =
    let l = borrowed (media_of c.args.media.now c.args.sizes.now) c.args.frames.now c.args.state.now in
    let ok = borrowed-ready pages_per_file l c.args.file true (Ok 0) (rw c.in_ok-admit.was at (c.admit.ensures.answer c.args.media.now c.args.frames.now refl refl)) 0 refl in
    let same_sizes = whole_mut _ c.as_mut_array-2.ensures.cases c.unwrap-sizes.ensures in
    let same_state = whole_mut _ c.as_mut_array-3.ensures.cases c.unwrap-state.ensures in
    let z = sound-sizes pages_per_file _ _ _ ok.sound ok.file in
    rw (same_sizes, same_state) (ok.file, z.2, z.0, z.1, c.in_ok-admit.ensures.table)

pub returns-then-budget-needed : goal.returns-then-budget-needed
returns-then-budget-needed c =
    let l = borrowed (media_of c.args.media.now c.args.sizes.now) c.args.frames.now c.args.state.now in
    let ok = borrowed-passed pages_per_file l c.args.file true (Ok 0) (rw c.in_ok-admit.was at (c.admit.ensures.answer c.args.media.now c.args.frames.now refl refl)) 0 refl in
    let same_media = whole_mut _ c.as_mut_array.ensures.cases c.unwrap-media.ensures in
    let same_sizes = whole_mut _ c.as_mut_array-2.ensures.cases c.unwrap-sizes.ensures in
    let same_frames = whole _ c.as_array.ensures.cases c.unwrap-frames.ensures in
    let same_state = whole_mut _ c.as_mut_array-3.ensures.cases c.unwrap-state.ensures in
    let spent = rw (same_media, same_sizes, same_frames, same_state) at c.sync_writes-needed.ensures in
    rw (c.cut.ensures.0, c.cut.ensures.1) (cut_ends pages_per_file c.args.file c.args.budget l _ _ spent ok.0 ok.1 (omega arith))

pub sync_state-requires : goal.sync_state-requires
sync_state-requires c =
    let l = borrowed (media_of c.args.media.now c.args.sizes.now) c.args.frames.now c.args.state.now in
    let ok = borrowed-passed pages_per_file l c.args.file true (Ok 0) (rw c.in_ok-admit.was at (c.admit.ensures.answer c.args.media.now c.args.frames.now refl refl)) 0 refl in
    rw (whole_mut _ c.as_mut_array-3.ensures.cases c.unwrap-state.ensures) ok.0

pub returns : goal.returns
returns c =
    let l = borrowed (media_of c.args.media.now c.args.sizes.now) c.args.frames.now c.args.state.now in
    let ok = borrowed-passed pages_per_file l c.args.file true (Ok 0) (rw c.in_ok-admit.was at (c.admit.ensures.answer c.args.media.now c.args.frames.now refl refl)) 0 refl in
    let same_media = whole_mut _ c.as_mut_array.ensures.cases c.unwrap-media.ensures in
    let same_sizes = whole_mut _ c.as_mut_array-2.ensures.cases c.unwrap-sizes.ensures in
    let same_frames = whole _ c.as_array.ensures.cases c.unwrap-frames.ensures in
    let same_state = whole_mut _ c.as_mut_array-3.ensures.cases c.unwrap-state.ensures in
    let spent = rw (same_media, same_sizes, same_frames, same_state) at c.sync_writes-needed.ensures in
    done_ends pages_per_file c.args.file c.args.budget l _ _ spent ok.0 ok.1 (omega arith) _ (omega (arith, c.sync_state.auto.state)) (are_bytes_lem _ c.type_inv.state) (rw same_state at c.sync_state.ensures)
