-- How far two lists are joined.
use Rattle.std.specs.Prelude.{◌≡◌, Bool, ◌&&◌, List, ◌++◌, Option, Some, None, ℕ, ◌+◌, ◌*◌, ◌≤◌, ◌<◌, length, take, drop}
use Rattle.trip_list.specs.declared.Line as line
use Rattle.trip_list.specs.Trip.{Trip, greatest_number, spell}
use Rattle.trip_list.specs.List.{Parsed, parse, parse_from, trips_of, Trips, trips_in, greatest_list}
use Rattle.trip_list.specs.Scanner.{greatest_line, LineAt}
use Rattle.trip_join.specs.Join.{agree, join, joined_trips}
use Rattle.trip_writer.specs.declared.Side as side
use Rattle.trip_writer.specs.declared.Stage as stage

-- above every minute
abbrev pub no_minute : ℕ
no_minute = greatest_number + 1

-- the minute of the next line, or one above all others
abbrev pub minute_of : Option line.Line → ℕ
minute_of None = no_minute
minute_of (Some l) = l.minute

-- what a list has from an index on, with minutes of at least `least`
abbrev pub from : List ℕ → ℕ → ℕ → Parsed
from list at least = parse_from least (drop at list)

-- the next line of a list, from an index on, if there is one
pub record Headed (list : List ℕ) (at least : ℕ) (h : Option line.Line) : Type 0 where
  pub line : (l : line.Line) → h ≡ Some l → LineAt list at l × (least ≤ l.minute) × (at < length list)
  -- none is left, or one is refused
  pub none : h ≡ None → at < length list → Trips (from list at least) → ⊥

-- a side of the list, at the index
pub record SideAt (list : List ℕ) (at least : ℕ) (s : side.Side) : Type 0 where
  pub bytes : s.list.now ≡ list
  pub index : s.at ≡ at
  pub headed : Headed list s.at least s.line

-- an index that a walk over the list comes to, and the next line
pub record HeadAt (list : List ℕ) (s : side.Side) : Type 0 where
  pub bytes : s.list.now ≡ list
  pub least : ℕ
  pub headed : Headed list s.at least s.line
  pub within : s.at ≤ length list
  -- the list is accepted exactly where its rest is
  pub rest : Trips (parse list) → Trips (from list s.at least)
  pub whole : Trips (from list s.at least) → Trips (parse list)

-- the trips of the join up to some are spelled at the front of xs, where they fit
pub record Joined (x y xs : List ℕ) (s : stage.Stage) (ts us : List Trip) : Type 0 where
  pub passed : List Trip
  pub joins : joined_trips x y ≡ passed ++ join ts us
  pub agrees : agree (trips_in x) (trips_in y) ≡ s.agree && agree ts us
  pub ends : s.end ≡ length (spell passed)
  pub laid : s.end ≤ greatest_list → take s.end xs ≡ spell passed

-- how far both walks are, and what is joined of lists that are accepted
pub record Joining (x y xs : List ℕ) (s : stage.Stage) : Type 0 where
  pub first : HeadAt x s.first
  pub second : HeadAt y s.second
  pub shorter : s.end ≤ s.first.at + s.second.at
  pub lengths : (length x ≤ greatest_list) × (length y ≤ greatest_list) × (greatest_list + 2 * greatest_line ≤ length xs)
  pub joined : Trips (parse x) → Trips (parse y) → Joined x y xs s (trips_of (from x s.first.at first.least)) (trips_of (from y s.second.at second.least))

-- a side up to which `end` bytes are joined, and the stage that it makes with one of the other list
abbrev pub as_first : side.Side → ℕ → side.Side → Bool → stage.Stage
as_first p end o g = record { first = p; second = o; end = end; agree = g }

abbrev pub as_second : side.Side → ℕ → side.Side → Bool → stage.Stage
as_second p end o g = record { first = o; second = p; end = end; agree = g }

-- there is room for the rest of the list
pub record Placed (list xs : List ℕ) (p : side.Side) (end : ℕ) : Type 0 where
  pub head : HeadAt list p
  pub short : length list ≤ greatest_list
  pub fits : end + length list ≤ 2 * greatest_list + p.at
  pub room : greatest_list + 2 * greatest_line ≤ length xs

-- from one place to another: the lines between are joined next, where the other list's next line has a minute of at least `limit`
pub record Advanced (list : List ℕ) (limit : ℕ) (xs : List ℕ) (p : side.Side) (end : ℕ) (ys : List ℕ) (q : side.Side) (next : ℕ) : Type 0 where
  pub first : (y : List ℕ) (o : side.Side) (g : Bool) → limit ≤ minute_of o.line → Joining list y xs (as_first p end o g) → Joining list y ys (as_first q next o g)
  pub second : (x : List ℕ) (o : side.Side) (g : Bool) → limit ≤ minute_of o.line → Joining x list xs (as_second p end o g) → Joining x list ys (as_second q next o g)
  pub forward : p.at ≤ q.at
  -- where the first line is below `limit`, the index has moved
  pub on : minute_of p.line < limit → limit ≤ minute_of q.line → p.at < q.at
  pub same : length ys ≡ length xs
