-- `trip_writer::Side::put_line` meets its contract: a piece of the line is laid down, and the other after it.
use native.Mathlib.Omega.{arith}
use Rattle.trip_writer.proofs.Pieces.{in_order, spelled-length, put_pieces}
use Rattle.trip_writer.proofs.Side.put_line.Goals as goal

pub overflow_add-next : goal.overflow_add-next
overflow_add-next c =
    omega (arith, in_order _ _ _ c.requires.0 _ c.kept_from-kept.ensures, c.requires.1)

pub overflow_sub-middle : goal.overflow_sub-middle
overflow_sub-middle c =
    omega (arith, in_order _ _ _ c.requires.0 _ c.kept_from-kept.ensures, c.requires.1)

pub overflow_add-middle : goal.overflow_add-middle
overflow_add-middle c =
    omega (arith, in_order _ _ _ c.requires.0 _ c.kept_from-kept.ensures, c.requires.1)

pub put_window-requires : goal.put_window-requires
put_window-requires c =
    omega (arith, in_order _ _ _ c.requires.0 _ c.kept_from-kept.ensures, c.requires.1)

pub put_window-requires-2 : goal.put_window-requires-2
put_window-requires-2 c =
    omega (arith, in_order _ _ _ c.requires.0 _ c.kept_from-kept.ensures, c.requires.1, c.put_window.auto.output)

pub overflow_sub-result : goal.overflow_sub-result
overflow_sub-result c =
    omega (arith, in_order _ _ _ c.requires.0 _ c.kept_from-kept.ensures, c.requires.1)

pub overflow_add-result : goal.overflow_add-result
overflow_add-result c =
    omega (arith, in_order _ _ _ c.requires.0 _ c.kept_from-kept.ensures, c.requires.1)

pub returns : goal.returns
returns c =
    let e = c.kept_from-kept.ensures in
    let p = c.requires in (
      omega (arith, in_order _ _ _ p.0 _ e, spelled-length _ _ _ p.0 _ e),
      put_pieces _ _ _ p.0 _ e _ _ p.1 _ _ c.put_window.ensures c.put_window-2.ensures,
    )
