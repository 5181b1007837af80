-- `trip_writer::join` meets its contract: the lists are joined in an array, and from there copied to the buffer.
use native.Mathlib.Omega.{arith}
use Rattle.trip_writer.proofs.Joining.{walk_refused, ended}
use Rattle.trip_writer.proofs.Answers.{join-shape, join-long, first-bad, second-bad, join-conflict, join_too_long, join-fits}
use Rattle.trip_writer.proofs.join.Goals as goal
use Rattle.trip_writer.proofs.join.Goals.{then-first-gt-MAX_LIST-via-then-first-gt-MAX_LIST, then-first-gt-MAX_LIST-via-else-first-gt-MAX_LIST+then-second-gt-MAX_LIST, then-s-first-via-then-s-first, then-s-first-via-else-s-first+then-s-second}

pub returns-then-buffer-ne-MAX_LIST : goal.returns-then-buffer-ne-MAX_LIST
returns-then-buffer-ne-MAX_LIST c = join-shape _ _ _ c.if-buffer-ne-MAX_LIST.true

pub returns-then-first-gt-MAX_LIST : goal.returns-then-first-gt-MAX_LIST
returns-then-first-gt-MAX_LIST c =
    join-long _ _ _ (omega arith) _ c.refused.ensures
    (elim c.then-first-gt-MAX_LIST.branch [ then-first-gt-MAX_LIST-via-then-first-gt-MAX_LIST w ↦ omega arith | then-first-gt-MAX_LIST-via-else-first-gt-MAX_LIST+then-second-gt-MAX_LIST w ↦ omega arith ])

pub returns-then-s-first : goal.returns-then-s-first
returns-then-s-first c =
    let w = c.join_lines-s.ensures in
    elim c.then-s-first.branch [
      | then-s-first-via-then-s-first o ↦ first-bad _ _ _ (omega arith) _ c.refused-then-s-first.ensures (walk_refused _ _ w.0.first (omega (arith, w.1)) o.if-s-first.true)
      | then-s-first-via-else-s-first+then-s-second o ↦ second-bad _ _ _ (omega arith) _ c.refused-then-s-first.ensures (walk_refused _ _ w.0.second (omega (arith, w.1)) o.if-s-second.true)
    ]

pub returns-then-not-s : goal.returns-then-not-s
returns-then-not-s c =
    let w = c.join_lines-s.ensures in
    join-conflict _ _ _ (omega arith) w.0.lengths.0 w.0.lengths.1 _ _ (ended _ _ _ _ w.0 w.1 (omega arith) (omega arith)) c.if-not-s.true

pub returns-then-s-gt-MAX_LIST : goal.returns-then-s-gt-MAX_LIST
returns-then-s-gt-MAX_LIST c =
    let w = c.join_lines-s.ensures in
    join_too_long _ _ _ (omega arith) w.0.lengths.0 w.0.lengths.1 _ _ (ended _ _ _ _ w.0 w.1 (omega arith) (omega arith)) c.if-not-s.false (omega arith)

pub returns : goal.returns
returns c =
    let w = c.join_lines-s.ensures in
    join-fits _ _ _ (omega arith) w.0.lengths.0 w.0.lengths.1 _ _ (ended _ _ _ _ w.0 w.1 (omega arith) (omega arith)) c.if-not-s.false (omega arith) _ c.copy.ensures
