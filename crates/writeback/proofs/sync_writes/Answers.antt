-- `writeback::sync_writes` meets its contract: the three parts joined are the plan.
use mathlib.Core.Path.{◌≡◌, refl, sym, ap, ◌∙◌}
use mathlib.Core.Bool.{not}
use native.Mathlib.Omega.{arith}
use Prim.Native.Nat.{ℕ}
use lib.Dec.{ltb}
use lib.ListN.{get_or}
use borrow.Author.Tests.{lt-ltb, le-ltb, eq-eqb, ne_eqb}
use Rattle.media.specs.Geometry.{pages_per_file}
use Rattle.media.specs.Write.{Media, media_of}
use Rattle.media.specs.Write.MediaWrite.{size, trim}
use Rattle.media.proofs.Direct.{trim_applied, size_applied}
use Rattle.device.specs.Device.{device_of}
use Rattle.device.specs.Plan.{write_if, Spent}
use Rattle.state_bytes.specs.Encoding.{decode}
use Rattle.writeback.proofs.Pages.{sync-spent}
use Rattle.writeback.proofs.Paying.{write_paid, write_unpaid, write_unwanted}
use Rattle.writeback.proofs.sync_writes.Goals as goal
use Rattle.writeback.proofs.sync_writes.Goals.{then-shrunk+then-pays, else-shrunk, else-shrunk-via-then-shrunk+else-pays, else-shrunk-via-else-shrunk, else-resized-via-then-resized+else-pays-2, else-resized-via-else-resized}

pub returns-then-pays-2 : goal.returns-then-pays-2
returns-then-pays-2 c =
    let f : ℕ = c.args.file in
    let floor : ℕ = c.floor_at-floor.result in
    let logical : ℕ = c.logical_at-logical.result in
    let stored : ℕ = get_or c.args.sizes.now f 0 in
    let before : Media = media_of c.args.media.now c.args.sizes.now in
    let trimmed : Spent pages_per_file c.args.paid before 0 c.if-shrunk.budget.needed (write_if (ltb floor stored) (trim f floor)) (media_of c.if-shrunk.media c.if-shrunk.sizes)
    × (c.if-shrunk.budget.paid ≡ c.args.paid) =
    elim c.if-shrunk.branch [
      | then-shrunk+then-pays w ↦ rw (w.media-is, w.sizes-is, w.budget-is) (
        write_paid (trim f floor) (lt-ltb floor stored w.if-shrunk.true) refl w.pays.ensures.made w.pays.ensures.needed w.if-pays.true
            (w.trim.ensures.1 ∙ sym (trim_applied pages_per_file before f floor (record { bytes = c.told-media; sizes = c.told-sizes; file = omega arith; range = omega (arith, c.floor_at-floor.ensures) }) (omega (arith, c.floor_at-floor.ensures)))),
        w.pays.ensures.paid,
      )
      | else-shrunk w ↦ rw (w.media-is, w.sizes-is, w.budget-is) (
          elim w.else-shrunk.branch [
            | else-shrunk-via-then-shrunk+else-pays v ↦ rw v.budget-is (write_unpaid (trim f floor) (lt-ltb floor stored v.if-shrunk.true) refl v.pays.ensures.made v.pays.ensures.needed v.if-pays.false, v.pays.ensures.paid)
            | else-shrunk-via-else-shrunk v ↦ rw v.budget-is (write_unwanted (trim f floor) (le-ltb floor stored v.if-shrunk.false), refl)
          ]
          )
    ] in
    let pages = rw trimmed.1 at (c.write_pages.ensures.written c.if-shrunk.sizes (device_of before c.args.frames.now (decode c.args.state.now)) refl c.requires.4) in
    sync-spent pages_per_file c.args.paid _ f logical floor _ _ _ _ _ _ c.logical_at-logical.ensures c.floor_at-floor.ensures trimmed.0 pages
    (write_paid (size f logical) (ap not (ne_eqb _ _ c.if-resized.true)) (c.write_pages.ensures.paid ∙ trimmed.1) c.pays-then-resized.ensures.made c.pays-then-resized.ensures.needed c.if-pays-2.true
    (c.write_size.ensures.1 ∙ sym (size_applied pages_per_file _ f logical (record { bytes = omega arith; sizes = omega arith; file = omega arith; range = omega (arith, c.logical_at-logical.ensures) }))))

pub returns-else-resized : goal.returns-else-resized
returns-else-resized c =
    let f : ℕ = c.args.file in
    let floor : ℕ = c.floor_at-floor.result in
    let logical : ℕ = c.logical_at-logical.result in
    let stored : ℕ = get_or c.args.sizes.now f 0 in
    let before : Media = media_of c.args.media.now c.args.sizes.now in
    let trimmed : Spent pages_per_file c.args.paid before 0 c.if-shrunk.budget.needed (write_if (ltb floor stored) (trim f floor)) (media_of c.if-shrunk.media c.if-shrunk.sizes)
    × (c.if-shrunk.budget.paid ≡ c.args.paid) =
    elim c.if-shrunk.branch [
      | then-shrunk+then-pays w ↦ rw (w.media-is, w.sizes-is, w.budget-is) (
        write_paid (trim f floor) (lt-ltb floor stored w.if-shrunk.true) refl w.pays.ensures.made w.pays.ensures.needed w.if-pays.true
            (w.trim.ensures.1 ∙ sym (trim_applied pages_per_file before f floor (record { bytes = c.told-media; sizes = c.told-sizes; file = omega arith; range = omega (arith, c.floor_at-floor.ensures) }) (omega (arith, c.floor_at-floor.ensures)))),
        w.pays.ensures.paid,
      )
      | else-shrunk w ↦ rw (w.media-is, w.sizes-is, w.budget-is) (
          elim w.else-shrunk.branch [
            | else-shrunk-via-then-shrunk+else-pays v ↦ rw v.budget-is (write_unpaid (trim f floor) (lt-ltb floor stored v.if-shrunk.true) refl v.pays.ensures.made v.pays.ensures.needed v.if-pays.false, v.pays.ensures.paid)
            | else-shrunk-via-else-shrunk v ↦ rw v.budget-is (write_unwanted (trim f floor) (le-ltb floor stored v.if-shrunk.false), refl)
          ]
          )
    ] in
    let pages = rw trimmed.1 at (c.write_pages.ensures.written c.if-shrunk.sizes (device_of before c.args.frames.now (decode c.args.state.now)) refl c.requires.4) in
    sync-spent pages_per_file c.args.paid _ f logical floor _ _ _ _ _ _ c.logical_at-logical.ensures c.floor_at-floor.ensures trimmed.0 pages
    (elim c.else-resized.branch [
      | else-resized-via-then-resized+else-pays-2 w ↦ rw w.budget-is (write_unpaid (size f logical) (ap not (ne_eqb _ _ w.if-resized.true)) (c.write_pages.ensures.paid ∙ trimmed.1) w.pays-then-resized.ensures.made w.pays-then-resized.ensures.needed w.if-pays-2.false)
      | else-resized-via-else-resized w ↦ rw w.budget-is (write_unwanted (size f logical) (ap not (eq-eqb _ _ w.if-resized.false)))
    ])
