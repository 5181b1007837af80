-- What is known of an array of bytes, in the words of the lemmas on a state.
use mathlib.Core.Path.{◌≡◌}
use mathlib.Core.Bool.{true}
use mathlib.Core.List.{List}
use Prim.Native.Nat.{ℕ, ◌<◌}
use lib.ListN.{get_or}
use Rattle.std.proofs.Math.Facts.{Fits-of_lt}
use Rattle.state_bytes.specs.Inverse.{are_bytes}
use Rattle.state_bytes.proofs.Inverse.{are_bytes_lem}

pub bytes_fit : (xs : List ℕ) → ((i : ℕ) → get_or xs i 0 < 256) → are_bytes xs ≡ true
bytes_fit xs h = are_bytes_lem xs (λ i. Fits-of_lt (h i))
