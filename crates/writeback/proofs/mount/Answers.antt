-- `writeback::mount` meets its contract: the admission decides, then the budget.
use mathlib.Core.Path.{refl, ap, ◌∙◌}
use mathlib.Core.List.{[]}
use native.Mathlib.Omega.{arith}
use Rattle.std.proofs.lemmas.Result.{err_from_is_err_and}
use Rattle.media.specs.Geometry.{pages_per_file}
use Rattle.media.specs.Write.{media_of}
use Rattle.device.specs.Device.{device_of}
use Rattle.device.specs.Admission.{mount_tests}
use Rattle.device.specs.Mounting.{mount}
use Rattle.device.proofs.Admission.{admit-refused, mount_admitted}
use Rattle.state_bytes.specs.Encoding.{decode}
use Rattle.state_bytes.specs.InPlace.{in_bytes}
use Rattle.state_bytes.proofs.Inverse.{are_bytes_lem}
use Rattle.state_bytes.proofs.OnBytes.{refused_on, length_on}
use Rattle.writeback.proofs.Ends.{mount_tested, mount_ends, whole_mut}
use Rattle.writeback.proofs.mount.Goals as goal

pub returns-in_err-admit_mount : goal.returns-in_err-admit_mount
unfolding mount
returns-in_err-admit_mount c =
    let p = err_from_is_err_and c.from_residual.result c.from_residual.ensures.1 in
    let e = rw c.in_err-admit_mount.was at (c.admit_mount.ensures c.args.media.now refl) in
    rw (p.1, p.2)
    (λ frames. refused_on (mount pages_per_file c.args.budget) _ _ _ e (are_bytes_lem _ c.slice_known-3-1.given) (admit-refused (mount_tests pages_per_file _) _ _ _))

pub unwrap-media-requires : goal.unwrap-media-requires
unwrap-media-requires c =
    let m = media_of c.args.media.now c.args.sizes.now in
    let t = mount_tested pages_per_file m c.args.state.now (rw c.in_ok-admit_mount.was at (c.admit_mount.ensures c.args.media.now refl)) in
    c.as_mut_array.ensures.variant.1 (mount_admitted pages_per_file (device_of m [] (decode c.args.state.now)) t.1).bytes

pub unwrap-sizes-requires : goal.unwrap-sizes-requires
unwrap-sizes-requires c =
    let m = media_of c.args.media.now c.args.sizes.now in
    let t = mount_tested pages_per_file m c.args.state.now (rw c.in_ok-admit_mount.was at (c.admit_mount.ensures c.args.media.now refl)) in
    c.as_mut_array-2.ensures.variant.1 (mount_admitted pages_per_file (device_of m [] (decode c.args.state.now)) t.1).sizes

pub unwrap-state-requires : goal.unwrap-state-requires
unwrap-state-requires c =
    let m = media_of c.args.media.now c.args.sizes.now in
    c.as_mut_array-3.ensures.variant.1 (mount_tested pages_per_file m c.args.state.now (rw c.in_ok-admit_mount.was at (c.admit_mount.ensures c.args.media.now refl))).0

pub trim_files-needed-requires : goal.trim_files-needed-requires
trim_files-needed-requires c =
    let m = media_of c.args.media.now c.args.sizes.now in
    let t = mount_tested pages_per_file m c.args.state.now (rw c.in_ok-admit_mount.was at (c.admit_mount.ensures c.args.media.now refl)) in
    let ok = mount_admitted pages_per_file (device_of m [] (decode c.args.state.now)) t.1 in
    let same_sizes = whole_mut _ c.as_mut_array-2.ensures.cases c.unwrap-sizes.ensures in
    λ f hf. rw same_sizes (omega arith, ok.fit f hf)

pub returns : goal.returns
returns c =
    let m = media_of c.args.media.now c.args.sizes.now in
    let t = mount_tested pages_per_file m c.args.state.now (rw c.in_ok-admit_mount.was at (c.admit_mount.ensures c.args.media.now refl)) in
    let same_media = whole_mut _ c.as_mut_array.ensures.cases c.unwrap-media.ensures in
    let same_sizes = whole_mut _ c.as_mut_array-2.ensures.cases c.unwrap-sizes.ensures in
    let spent = rw (same_media, same_sizes) at c.trim_files-needed.ensures in
    λ frames.
    c.finish.ensures _ frames
    ∙ rw (c.mounted_state.ensures, same_sizes) (ap in_bytes (mount_ends pages_per_file c.args.budget (device_of m frames (decode c.args.state.now)) _ _ spent t.1))
    ∙ length_on (mount pages_per_file c.args.budget) _ t.0
