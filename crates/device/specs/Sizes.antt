-- The three sizes of one file, and the truncate rule on them: document 01, "Truncate".
use Rattle.std.specs.Prelude.{ℕ, min, Bool, List, [], ◌∷◌, leb}
use Rattle.answer.specs.Coded.{Coded, done, BOOKS, RANGE}
use Rattle.answer.specs.Admission.{Test, test, first_refusal, if_done}
use Rattle.device.specs.declared.FileSizes.{FileSizes}
use Rattle.scan.specs.Scan.{all_of}

-- floor ≤ logical ≤ the greatest file size, and floor ≤ stored
abbrev pub order_tests : ℕ → FileSizes → List Bool
order_tests greatest s = leb s.floor s.logical ∷ leb s.logical greatest ∷ leb s.floor s.stored ∷ []

unfoldable pub in_order : ℕ → FileSizes → Bool
in_order greatest s = all_of (order_tests greatest s)

-- the sizes after a truncate to n: the floor is the smallest so far, not the latest
abbrev pub truncated_sizes : ℕ → FileSizes → FileSizes
truncated_sizes n s = record { logical = n; floor = min s.floor n; stored = s.stored }

-- the rule on a record that is borrowed to be altered, told the greatest file size
unfoldable pub sizes_tests : ℕ → ℕ → FileSizes → List Test
sizes_tests greatest n s = test (in_order greatest s) BOOKS ∷ test (leb n greatest) RANGE ∷ []

unfoldable pub sizes_answer : ℕ → ℕ → FileSizes → Coded
sizes_answer greatest n s = first_refusal (sizes_tests greatest n s) (done 0)

unfoldable pub sizes_after : ℕ → ℕ → FileSizes → FileSizes
sizes_after greatest n s = if_done (sizes_answer greatest n s) (truncated_sizes n s) s
