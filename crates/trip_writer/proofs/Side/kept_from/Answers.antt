-- `trip_writer::Side::kept_from` meets its contract: the zeros are counted from where each number begins.
use native.Mathlib.Omega.{arith}
use Rattle.memory.proofs.Bytes.{rest-whole}
use Rattle.trip_list.proofs.Stepping.{line-inside}
use Rattle.trip_writer.proofs.Pieces.{fields-inside, minute-counts, metres-counts, kept-found}
use Rattle.trip_writer.proofs.Side.kept_from.Goals as goal

pub overflow_add-second : goal.overflow_add-second
overflow_add-second c =
    omega (arith, fields-inside _ _ _ c.requires, line-inside _ _ _ c.requires)

pub slice_bounds-leading_zeros-count : goal.slice_bounds-leading_zeros-count
slice_bounds-leading_zeros-count c =
    omega (arith, fields-inside _ _ _ c.requires, line-inside _ _ _ c.requires)

pub slice_bounds-leading_zeros-start : goal.slice_bounds-leading_zeros-start
slice_bounds-leading_zeros-start c =
    omega (arith, fields-inside _ _ _ c.requires, line-inside _ _ _ c.requires)

pub leading_zeros-requires : goal.leading_zeros-requires
leading_zeros-requires c =
    omega (arith, fields-inside _ _ _ c.requires, line-inside _ _ _ c.requires)

pub overflow_add-result : goal.overflow_add-result
overflow_add-result c =
    let s = c.args.self.list.now in
    omega (arith, fields-inside _ _ _ c.requires, line-inside _ _ _ c.requires, minute-counts s _ _ c.requires _ (rest-whole _ s) _ c.leading_zeros.ensures)

pub slice_bounds-leading_zeros-count-2 : goal.slice_bounds-leading_zeros-count-2
slice_bounds-leading_zeros-count-2 c =
    omega (arith, fields-inside _ _ _ c.requires, line-inside _ _ _ c.requires)

pub slice_bounds-leading_zeros-start-2 : goal.slice_bounds-leading_zeros-start-2
slice_bounds-leading_zeros-start-2 c =
    omega (arith, fields-inside _ _ _ c.requires, line-inside _ _ _ c.requires)

pub overflow_sub-line-2 : goal.overflow_sub-line-2
overflow_sub-line-2 c =
    omega (arith, fields-inside _ _ _ c.requires, line-inside _ _ _ c.requires)

pub overflow_sub-line-3 : goal.overflow_sub-line-3
overflow_sub-line-3 c =
    omega (arith, fields-inside _ _ _ c.requires, line-inside _ _ _ c.requires)

pub leading_zeros-requires-2 : goal.leading_zeros-requires-2
leading_zeros-requires-2 c =
    omega (arith, fields-inside _ _ _ c.requires, line-inside _ _ _ c.requires)

pub overflow_add-result-2 : goal.overflow_add-result-2
overflow_add-result-2 c =
    let s = c.args.self.list.now in
    omega (arith, fields-inside _ _ _ c.requires, line-inside _ _ _ c.requires, metres-counts s _ _ c.requires _ (rest-whole _ s) _ c.leading_zeros.ensures _ (rest-whole _ s) _ c.leading_zeros-2.ensures)

pub returns : goal.returns
returns c =
    let s = c.args.self.list.now in
    kept-found s _ _ c.requires _ (rest-whole _ s) _ c.leading_zeros.ensures _ (rest-whole _ s) _ c.leading_zeros-2.ensures
