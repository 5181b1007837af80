-- `trip_writer::write` meets its contract: the list is spelled into an array, and from there copied to the buffer.
use mathlib.Core.Path.{sym}
use native.Mathlib.Omega.{arith}
use Rattle.memory.proofs.Bytes.{length_front}
use Rattle.trip_list.proofs.Walking.{write_shape, write-long}
use Rattle.trip_writer.proofs.Answers.{spelled-fits, write-refused, write_done}
use Rattle.trip_writer.proofs.write.Goals as goal

pub returns-then-buffer-ne-MAX_LIST : goal.returns-then-buffer-ne-MAX_LIST
returns-then-buffer-ne-MAX_LIST c = write_shape _ _ c.if-buffer-ne-MAX_LIST.true

pub returns-then-list-gt-MAX_LIST : goal.returns-then-list-gt-MAX_LIST
returns-then-list-gt-MAX_LIST c = write-long _ _ (omega arith) (omega arith)

pub returns-then-s-list : goal.returns-then-s-list
returns-then-s-list c =
    let e = c.join_lines-s.ensures in
    write-refused _ (omega arith) _ _ e.0 e.1 _ (omega arith) (omega arith) _ c.check.ensures

pub slice_bounds-spelled-end : goal.slice_bounds-spelled-end
slice_bounds-spelled-end c =
    let s = c.join_lines-s in omega (arith, spelled-fits _ (omega arith) _ _ s.ensures.0 s.ensures.1 (omega arith), s.auto)

pub slice_bounds-copy-end : goal.slice_bounds-copy-end
slice_bounds-copy-end c =
    let s = c.join_lines-s in
    sym (length_front _ _ (omega (arith, spelled-fits _ (omega arith) _ _ s.ensures.0 s.ensures.1 (omega arith), s.auto)))

pub returns : goal.returns
returns c =
    let e = c.join_lines-s.ensures in
    write_done _ (omega arith) _ _ e.0 e.1 _ (omega arith) (omega arith) _ c.copy.ensures
