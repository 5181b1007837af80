-- `writeback::format` meets its contract: the admission decides, then the budget.
use mathlib.Core.Path.{refl, ap, ◌∙◌}
use mathlib.Core.List.{[]}
use native.Mathlib.Omega.{arith}
use Rattle.std.proofs.lemmas.Result.{err_from_is_err_and}
use Rattle.memory.proofs.Bytes.{get_or-zeros}
use Rattle.media.specs.Geometry.{files, pages_per_file}
use Rattle.media.specs.Write.{media_of}
use Rattle.device.specs.Device.{device_of}
use Rattle.device.specs.Admission.{media_shape}
use Rattle.device.specs.Mounting.{format}
use Rattle.device.proofs.Admission.{admit-refused, shape_admitted}
use Rattle.state_bytes.specs.Encoding.{decode}
use Rattle.state_bytes.specs.InPlace.{in_bytes}
use Rattle.state_bytes.proofs.Inverse.{are_bytes_lem}
use Rattle.state_bytes.proofs.OnBytes.{refused_on, length_on}
use Rattle.writeback.proofs.Ends.{format_tested, format_ends, whole_mut}
use Rattle.writeback.proofs.format.Goals as goal

pub returns-in_err-admit_format : goal.returns-in_err-admit_format
unfolding format
returns-in_err-admit_format c =
    let p = err_from_is_err_and c.from_residual.result c.from_residual.ensures.1 in
    let e = rw c.in_err-admit_format.was at (c.admit_format.ensures c.args.media.now refl) in
    rw (p.1, p.2)
    (λ frames. refused_on (format pages_per_file c.args.budget) _ _ _ e (are_bytes_lem _ c.slice_known-3-1.given) (admit-refused (media_shape pages_per_file _) _ _ _))

pub unwrap-media-requires : goal.unwrap-media-requires
unwrap-media-requires c =
    let m = media_of c.args.media.now c.args.sizes.now in
    let t = format_tested pages_per_file m c.args.state.now (rw c.in_ok-admit_format.was at (c.admit_format.ensures c.args.media.now refl)) in
    c.as_mut_array.ensures.variant.1 (shape_admitted pages_per_file (device_of m [] (decode c.args.state.now)) t.1).0

pub unwrap-sizes-requires : goal.unwrap-sizes-requires
unwrap-sizes-requires c =
    let m = media_of c.args.media.now c.args.sizes.now in
    let t = format_tested pages_per_file m c.args.state.now (rw c.in_ok-admit_format.was at (c.admit_format.ensures c.args.media.now refl)) in
    c.as_mut_array-2.ensures.variant.1 (shape_admitted pages_per_file (device_of m [] (decode c.args.state.now)) t.1).1

pub unwrap-state-requires : goal.unwrap-state-requires
unwrap-state-requires c =
    let m = media_of c.args.media.now c.args.sizes.now in
    c.as_mut_array-3.ensures.variant.1 (format_tested pages_per_file m c.args.state.now (rw c.in_ok-admit_format.was at (c.admit_format.ensures c.args.media.now refl))).0

pub trim_files-needed-requires : goal.trim_files-needed-requires
trim_files-needed-requires c = λ f hf. rw (get_or-zeros files f) (omega arith, omega arith)

pub returns : goal.returns
returns c =
    let m = media_of c.args.media.now c.args.sizes.now in
    let t = format_tested pages_per_file m c.args.state.now (rw c.in_ok-admit_format.was at (c.admit_format.ensures c.args.media.now refl)) in
    let same_media = whole_mut _ c.as_mut_array.ensures.cases c.unwrap-media.ensures in
    let same_sizes = whole_mut _ c.as_mut_array-2.ensures.cases c.unwrap-sizes.ensures in
    let spent = rw (same_media, same_sizes) at c.trim_files-needed.ensures in
    λ frames.
    c.finish.ensures _ frames
    ∙ rw c.down_state.ensures (ap in_bytes (format_ends pages_per_file c.args.budget (device_of m frames (decode c.args.state.now)) _ _ spent t.1))
    ∙ length_on (format pages_per_file c.args.budget) _ t.0
