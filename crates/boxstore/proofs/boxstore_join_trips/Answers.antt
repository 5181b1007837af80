-- `boxstore::boxstore_join_trips` meets its contract: the call of trip_writer, its answer as a word.
use native.Mathlib.Omega.{arith}
use Rattle.trip_list.specs.List.{greatest_list}
use Rattle.trip_join.proofs.CallClaims.{join-count}
use Rattle.boxstore.proofs.Counts.{fits}
use Rattle.boxstore.proofs.boxstore_join_trips.Goals as goal

pub answer_word-requires : goal.answer_word-requires
answer_word-requires c =
    let k = c.args in
    fits _ _ greatest_list c.join.ensures.0 (join-count k.first.now k.second.now k.buffer.now) (omega arith)

pub returns : goal.returns
returns c =
    let e = c.join.ensures in rw (c.answer_word.ensures, e.0, e.1)
