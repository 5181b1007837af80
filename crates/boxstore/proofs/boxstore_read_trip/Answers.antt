-- `boxstore::boxstore_read_trip` meets its contract: the call of trip_list, with its trip as four numbers.
use native.Mathlib.Omega.{arith}
use Rattle.boxstore.proofs.Trips.{numbers-shape, numbers-call, read_trip-fits}
use Rattle.boxstore.proofs.boxstore_read_trip.Goals as goal

pub returns-then-trip-ne4 : goal.returns-then-trip-ne4
returns-then-trip-ne4 c = numbers-shape _ _ c.if-trip-ne4.true

pub put_lookup-requires : goal.put_lookup-requires
put_lookup-requires c = (omega arith, read_trip-fits _ c.read.result _ c.read.ensures)

pub returns : goal.returns
returns c =
    let k = c.args in
    let p = c.put_lookup.ensures in
    numbers-call k.trip.now _ (omega arith) k.list.now c.read.result c.read.ensures _ _ p.0 p.1
