-- The lines of a session: document 01, "The session program".
use Rattle.std.specs.Prelude.{Bool, true, false, cond, ◌&&◌, List, [], ◌∷◌, map, ℕ, eqb, leb, length, drop}
use Prim.Native.Char.{code}
use Rattle.text.specs.Decimal.{value, is_numeral}
use Rattle.text.specs.Marks.{LF, parted_at, fields}

-- input lines are each ended by LF; the last may lack it, and nothing after a final LF is a line
abbrev pub lines : List ℕ → List (List ℕ)
lines = parted_at LF []

-- 1 to 5 digits, whose value is at most the limit
abbrev pub is_number : ℕ → List ℕ → Bool
is_number limit = is_numeral 5 limit

-- ---- forms

-- a letter, and the greatest value of each number after it
pub record Form : Type 0 where
  pub letter : ℕ
  pub limits : List ℕ

abbrev pub form : ℕ → List ℕ → Form
form letter limits = record { letter = letter; limits = limits }

abbrev pub F : ℕ
F = code "F"

abbrev pub M : ℕ
M = code "M"

abbrev pub W : ℕ
W = code "W"

abbrev pub T : ℕ
T = code "T"

abbrev pub S : ℕ
S = code "S"

abbrev pub R : ℕ
R = code "R"

-- the greatest number, the greatest length of a write and of a read, the greatest byte
abbrev pub greatest_number : ℕ
greatest_number = 65535

abbrev pub greatest_write : ℕ
greatest_write = 4096

abbrev pub greatest_read : ℕ
greatest_read = 32

abbrev pub greatest_byte : ℕ
greatest_byte = 255

-- `F,budget` `M,budget` `W,file,position,length,byte` `T,file,n` `S,file,budget` `R,file,position,length`
unfoldable pub forms : List Form
forms =
    form F (greatest_number ∷ [])
    ∷ form M (greatest_number ∷ [])
    ∷ form W (greatest_number ∷ greatest_number ∷ greatest_write ∷ greatest_byte ∷ [])
    ∷ form T (greatest_number ∷ greatest_number ∷ [])
    ∷ form S (greatest_number ∷ greatest_number ∷ [])
    ∷ form R (greatest_number ∷ greatest_number ∷ greatest_read ∷ [])
    ∷ []

-- the text is this letter
abbrev pub is_letter : ℕ → List ℕ → Bool
is_letter letter [] = false
is_letter letter (c ∷ []) = eqb c letter
is_letter letter (c ∷ d ∷ ds) = false

-- a field for each limit, a number within it
abbrev pub numbers_fit : List ℕ → List (List ℕ) → Bool
numbers_fit [] [] = true
numbers_fit [] (t ∷ ts) = false
numbers_fit (limit ∷ limits) [] = false
numbers_fit (limit ∷ limits) (t ∷ ts) = is_number limit t && numbers_fit limits ts

abbrev pub has_form : List (List ℕ) → Form → Bool
has_form [] f = false
has_form (t ∷ ts) f = is_letter f.letter t && numbers_fit f.limits ts

-- ---- what a line says

-- the letter of its form, and its numbers
pub record Command : Type 0 where
  pub letter : ℕ
  pub numbers : List ℕ

abbrev pub command : ℕ → List ℕ → Command
command letter numbers = record { letter = letter; numbers = numbers }

-- a line that has none of the forms
abbrev pub malformed : Command
malformed = command 0 []

abbrev pub by_forms : List Form → List (List ℕ) → Command
by_forms [] ts = malformed
by_forms (f ∷ more) ts = cond (has_form ts f) (command f.letter (map value (drop 1 ts))) (by_forms more ts)

-- a line over 40 bytes has none (an empty one has an empty field in place of its letter)
abbrev pub greatest_line : ℕ
greatest_line = 40

unfoldable pub parse : List ℕ → Command
parse line = cond (leb (length line) greatest_line) (by_forms forms (fields line)) malformed
