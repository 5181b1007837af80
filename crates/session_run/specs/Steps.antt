-- What the parts of the code say.
use Rattle.std.specs.Prelude.{◌≡◌, List, [], ℕ, ◌≤◌, length, take, replicate, Option, None, Some, IfSome}
use Rattle.answer.specs.Coded.{Coded}
use Rattle.memory.specs.Bytes.{overwrite}
use Rattle.device.specs.Device.{Device}
use Rattle.session_line.specs.Grammar.{greatest_write, greatest_read}
use Rattle.session_run.specs.declared.PartialLine.{PartialLine}
use Rattle.session_run.specs.Session.{Ran}
use Rattle.session_run.specs.Feeding.{Fed}

-- as many bytes of one value as a line may write
unfoldable pub write_buffer : ℕ → List ℕ
write_buffer byte = replicate greatest_write byte

-- the bytes that are printed of a call: of a read as many of its buffer as it counts
abbrev pub shown_bytes : ℕ → Option (List ℕ) → List ℕ
shown_bytes count None = []
shown_bytes count (Some buffer) = take count buffer

-- a call was made: its answer, and the buffer if it is a read
pub record Executed (r : Ran) (a : Coded) (buffer : Option (List ℕ)) (d : Device) : Type 0 where
  pub ran : record { answer = a; bytes = shown_bytes a.count buffer; device = d } ≡ r
  pub few : IfSome buffer (λ _. a.count ≤ greatest_read)

-- input was taken: what it prints, no more than a bound, stands at the front of the output
pub record Stepped (bound : ℕ) (x : Fed) (d : Device) (line : PartialLine) (before after : List ℕ) (n : ℕ) : Type 0 where
  pub device : d ≡ x.device
  pub partial : line ≡ x.line
  pub bytes : after ≡ overwrite before 0 x.text
  pub count : n ≡ length x.text
  pub fits : length x.text ≤ bound
