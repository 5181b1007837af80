-- `writeback::trim_files` meets its contract: a file's TRIM is made, or not paid for, or not needed.
use mathlib.Core.Path.{◌≡◌, refl, sym, ◌∙◌}
use native.Mathlib.Omega.{arith}
use Prim.Native.Nat.{ℕ, ◌≤◌}
use lib.ListN.{get_or}
use Rattle.media.specs.Geometry.{pages_per_file}
use Rattle.media.specs.Write.{media_of, size_at}
use Rattle.media.specs.Write.MediaWrite.{trim}
use Rattle.media.proofs.Direct.{trim_applied}
use Rattle.device.specs.Plan.{write_if, Spent}
use Rattle.writeback.proofs.Paying.{write_paid, write_unpaid, write_unwanted}
use Rattle.writeback.proofs.Trimming.{trimming_none, trimming_next, trimming_all}
use Rattle.writeback.proofs.trim_files.Goals as goal
use Rattle.writeback.proofs.trim_files.Goals.{then-needs_trim+then-pays, else-needs_trim, else-needs_trim-via-then-needs_trim+else-pays, else-needs_trim-via-else-needs_trim}

pub loop-file-init : goal.loop-file-init
loop-file-init c = (trimming_none c.told-media c.told-sizes, refl)

pub loop-file-preserved : goal.loop-file-preserved
loop-file-preserved c =
    let f : ℕ = c.loop-file.file in
    let n : ℕ = get_or c.args.targets.now f 0 in
    let s = c.loop-file.invariant.0 in
    let same = c.loop-file.invariant.1 in
    let target = c.requires f (omega arith) in
    let within : n ≤ size_at (media_of c.loop-file.media c.loop-file.sizes) f = omega (arith, target.0, s.rest.size_of f (omega arith) (omega arith)) in
    let turn : Spent pages_per_file c.args.paid (media_of c.loop-file.media c.loop-file.sizes) c.loop-file.budget.needed c.if-needs_trim.budget.needed (write_if c.needs_trim.result (trim f n)) (media_of c.if-needs_trim.media c.if-needs_trim.sizes)
    × (c.if-needs_trim.budget.paid ≡ c.args.paid) =
    elim c.if-needs_trim.branch [
      | then-needs_trim+then-pays w ↦ rw (w.media-is, w.sizes-is, w.budget-is) (
        write_paid (trim f n) w.if-needs_trim.true same w.pays.ensures.made w.pays.ensures.needed w.if-pays.true (w.trim.ensures.1 ∙ sym (trim_applied pages_per_file _ f n (record { bytes = s.rest.bytes; sizes = s.rest.sizes; file = omega arith; range = target.1 }) within)),
        w.pays.ensures.paid ∙ same,
      )
      | else-needs_trim w ↦ rw (w.media-is, w.sizes-is, w.budget-is) (
          elim w.else-needs_trim.branch [
            | else-needs_trim-via-then-needs_trim+else-pays v ↦ rw v.budget-is (write_unpaid (trim f n) v.if-needs_trim.true same v.pays.ensures.made v.pays.ensures.needed v.if-pays.false, v.pays.ensures.paid ∙ same)
            | else-needs_trim-via-else-needs_trim v ↦ rw v.budget-is (write_unwanted (trim f n) v.if-needs_trim.false, same)
          ]
          )
    ] in
    (trimming_next s _ _ _ _ refl c.told-media (omega arith) target.1 c.needs_trim.ensures turn.0, turn.1)

pub returns : goal.returns
returns c = trimming_all c.loop-file.invariant.0 (omega arith)
