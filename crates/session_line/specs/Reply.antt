-- The lines that a session prints: document 01, "The session program".
use Rattle.std.specs.Prelude.{cond, List, [], ◌∷◌, ◌++◌, ℕ, ◌+◌, ◌-◌, ◌/◌, ◌%◌, ltb, leb, length}
use Prim.Native.Char.{code}
use Rattle.answer.specs.Coded.{Coded, done, SHAPE}
use Rattle.answer.specs.Admission.{first_refusal, if_done, test}
use Rattle.memory.specs.Bytes.{overwrite}
use Rattle.text.specs.Ascii.{ascii}
use Rattle.text.specs.Decimal.{decimal}
use Rattle.text.specs.Marks.{LF, comma}

-- lower-case hexadecimal, two digits for each byte
abbrev pub hex_digit : ℕ → ℕ
hex_digit d = cond (ltb d 10) (code "0" + d) (code "a" + (d - 10))

abbrev pub hex : List ℕ → List ℕ
hex [] = []
hex (b ∷ bs) = hex_digit (b / 16) ∷ hex_digit (b % 16) ∷ hex bs

-- the number of the answer, its count, and the bytes that were read
unfoldable pub reply_line : Coded → List ℕ → List ℕ
reply_line a bytes = decimal a.number ++ (comma ∷ decimal a.count ++ (comma ∷ hex bytes ++ (LF ∷ [])))

-- a text printed at the front of a buffer, whose rest keeps its bytes: done with its length, or SHAPE where it does not fit
abbrev pub print_answer : List ℕ → List ℕ → Coded
print_answer text output = first_refusal (test (leb (length text) (length output)) SHAPE ∷ []) (done (length text))

abbrev pub printed : List ℕ → List ℕ → List ℕ
printed text output = if_done (print_answer text output) (overwrite output 0 text) output

unfoldable pub header : List ℕ
header = ascii "answer,count,bytes\n"
