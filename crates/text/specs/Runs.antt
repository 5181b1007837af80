-- The run of bytes in front of a text that pass a test.
use Rattle.std.specs.Prelude.{Bool, not, List, ℕ, take}
use Rattle.scan.specs.Scan.{first_index}

-- how many they are, and these bytes
unfoldable pub run : (ℕ → Bool) → List ℕ → ℕ
run t s = first_index (λ c. not (t c)) s

unfoldable pub front : (ℕ → Bool) → List ℕ → List ℕ
front t s = take (run t s) s
