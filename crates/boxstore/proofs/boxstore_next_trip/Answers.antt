-- `boxstore::boxstore_next_trip` meets its contract: the call of trip_list, with its trip as four numbers.
use native.Mathlib.Omega.{arith}
use Rattle.boxstore.proofs.Trips.{numbers-shape, numbers-call, next_trip-fits}
use Rattle.boxstore.proofs.boxstore_next_trip.Goals as goal

pub returns-then-trip-ne4 : goal.returns-then-trip-ne4
returns-then-trip-ne4 c = numbers-shape _ _ c.if-trip-ne4.true

pub put_lookup-requires : goal.put_lookup-requires
put_lookup-requires c = (omega arith, next_trip-fits _ c.next_trip.result _ _ c.next_trip.ensures)

pub returns : goal.returns
returns c =
    let k = c.args in
    let p = c.put_lookup.ensures in
    numbers-call k.trip.now _ (omega arith) k.list.now c.next_trip.result c.next_trip.ensures _ _ p.0 p.1
