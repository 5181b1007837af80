-- `writeback::write_pages` meets its contract: a page is written, or not paid for, or not cached.
use mathlib.Core.Path.{◌≡◌, refl, ◌∙◌}
use mathlib.Core.List.{List}
use native.Mathlib.Omega.{arith}
use Prim.Native.Nat.{ℕ, ◌≤◌, ◌+◌}
use lib.Dec.{ltb}
use borrow.Author.Tests.{lt-ltb, le-ltb}
use Rattle.memory.specs.Bytes.{part}
use Rattle.media.specs.Geometry.{pages_per_file, page_bytes}
use Rattle.media.specs.Write.{media_of}
use Rattle.media.specs.Write.MediaWrite.{page}
use Rattle.device.specs.Device.{slot_count, frame_start}
use Rattle.device.specs.Plan.{write_if, Spent}
use Rattle.admission.specs.Tables.{slot_for}
use Rattle.writeback.proofs.Pages.{pages-none, pages-next}
use Rattle.writeback.proofs.Paying.{write_paid, write_unpaid, write_unwanted}
use Rattle.writeback.proofs.write_pages.Goals as goal
use Rattle.writeback.proofs.write_pages.Goals.{in-Some+then-pays, in-Some+else-pays, in_default}

pub loop-number-init : goal.loop-number-init
loop-number-init c = (refl, omega arith, λ stored d ef et. pages-none _ d _ _ _)

pub loop-number-preserved : goal.loop-number-preserved
loop-number-preserved c =
    let i : ℕ = c.loop-number.number in
    let slot : ℕ = slot_for pages_per_file c.args.table.now.slots c.args.file i in
    let w = page c.args.file i (part c.args.frames.now (frame_start slot) page_bytes) in
    let same = c.loop-number.invariant.0 in
    let turn : (c.match-slot_of.budget.paid ≡ c.args.budget.now.paid) × (c.match-slot_of.budget.needed ≤ c.loop-number.budget.needed + 1)
    × ((stored : List ℕ) → Spent pages_per_file c.args.budget.now.paid (media_of c.loop-number.media stored) c.loop-number.budget.needed c.match-slot_of.budget.needed (write_if (ltb slot slot_count) w) (media_of c.match-slot_of.media stored)) =
    elim c.match-slot_of.branch [
      | in-Some+then-pays v ↦ rw (v.media-is, v.budget-is) (
        v.pays.ensures.paid ∙ same,
        omega arith,
        λ stored. write_paid w (lt-ltb slot slot_count v.in-Some.ensures.0) same v.pays.ensures.made v.pays.ensures.needed v.if-pays.true (rw v.in-Some.ensures.1 at (v.write_frame.ensures stored)),
      )
      | in-Some+else-pays v ↦ rw (v.media-is, v.budget-is) (
        v.pays.ensures.paid ∙ same,
        omega arith,
        λ stored. write_unpaid w (lt-ltb slot slot_count v.in-Some.ensures.0) same v.pays.ensures.made v.pays.ensures.needed v.if-pays.false,
      )
      | in_default v ↦ let h = v.in_default.ensures in rw (v.media-is, v.budget-is) (same, omega arith, λ stored. write_unwanted w (le-ltb slot slot_count (omega (arith, h))))
    ] in (
      turn.0,
      omega (arith, turn.1),
      λ stored d ef et. pages-next _ d _ _ _ i _ _ slot _ _ _ _ (omega arith) (omega arith) ef et refl (c.loop-number.invariant.2 stored d ef et) (turn.2 stored),
    )

pub returns-clause-written : goal.returns-clause-written
returns-clause-written c =
    let e : c.loop-number.number ≡ pages_per_file = omega arith in
    λ stored d ef et. rw e at (c.loop-number.invariant.2 stored d ef et)
