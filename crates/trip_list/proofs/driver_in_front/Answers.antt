-- `trip_list::driver_in_front` meets its contract.
use Rattle.std.proofs.Common.{sym, ◌∙◌}
use Rattle.memory.proofs.Bytes.{rest-whole}
use Rattle.trip_list.proofs.Runs.{letters-within, no_driver-end, driver-read}
use Rattle.trip_list.proofs.driver_in_front.Goals as goal

pub slice_bounds-driver_end-count : goal.slice_bounds-driver_end-count
slice_bounds-driver_end-count c = letters-within _ _ c.letters-front.ensures

pub slice_bounds-driver_end-start : goal.slice_bounds-driver_end-start
slice_bounds-driver_end-start c = letters-within _ _ c.letters-front.ensures

pub returns-in_err-letters : goal.returns-in_err-letters
returns-in_err-letters c =
    let s = c.args.text.now in
    rw c.from_residual.ensures (no_driver-end s _ c.letters-front.ensures _ (rest-whole _ s) (sym c.driver_end.ensures ∙ c.in_err-letters.was))

pub returns : goal.returns
returns c =
    let s = c.args.text.now in
    rw c.then_some.ensures (driver-read s _ c.letters-front.ensures _ (rest-whole _ s) _ (sym c.driver_end.ensures ∙ c.in_ok-letters.was) _ c.driver_ends.ensures)
