-- A session that is fed its input in blocks, cut anywhere.
use Rattle.std.specs.Prelude.{cond, List, [], ◌∷◌, ◌++◌, ℕ, ◌+◌, ◌*◌, eqb, ltb, leb, length, set, take}
use Rattle.answer.specs.Coded.{done, SHAPE}
use Rattle.answer.specs.Admission.{test}
use Rattle.memory.specs.Bytes.{zeros, overwrite}
use Rattle.device.specs.Device.{Device}
use Rattle.device.specs.Admission.{Result, give, admit}
use Rattle.text.specs.Marks.{LF}
use Rattle.session_line.specs.Grammar.{greatest_line}
use Rattle.session_run.specs.declared.PartialLine.{PartialLine}
use Rattle.session_run.specs.Session.{Ran, reply_of, run_line}

-- ---- the line that has not ended yet

-- as many of its first bytes are kept: one more than a line with a form may have
abbrev pub kept_bytes : ℕ
kept_bytes = greatest_line + 1

abbrev pub no_line : PartialLine
no_line = record { bytes = zeros kept_bytes; len = 0 }

unfoldable pub pushed : ℕ → PartialLine → PartialLine
pushed b p = cond (ltb p.len kept_bytes) (record { bytes = set p.bytes p.len b; len = p.len + 1 }) p

unfoldable pub restarted : PartialLine → PartialLine
restarted p = record { bytes = p.bytes; len = 0 }

unfoldable pub line_of : PartialLine → List ℕ
line_of p = take p.len p.bytes

-- ---- bytes of input

-- the device and the line after some input, and what was printed
pub record Fed : Type 0 where
  pub device : Device
  pub line : PartialLine
  pub text : List ℕ

abbrev pub fed : Device → PartialLine → List ℕ → Fed
fed device line text = record { device = device; line = line; text = text }

abbrev pub after : List ℕ → Fed → Fed
after t x = fed x.device x.line (t ++ x.text)

module _ (P : ℕ) where
  unfoldable pub feed_byte : ℕ → Device → PartialLine → Fed
  feed_byte b d p =
      let r : Ran = run_line P (line_of p) d in
      cond (eqb b LF) (fed r.device (restarted p) (reply_of r)) (fed d (pushed b p) [])

  abbrev pub feed : List ℕ → Device → PartialLine → Fed
  feed [] d p = fed d p []
  feed (b ∷ bs) d p = let x : Fed = feed_byte b d p in after x.text (feed bs x.device x.line)

  -- blocks, one after another
  abbrev pub feed_all : List (List ℕ) → Device → PartialLine → Fed
  feed_all [] d p = fed d p []
  feed_all (b ∷ bs) d p = let x : Fed = feed b d p in after x.text (feed_all bs x.device x.line)

-- at the end of the input: the LF that the last line may lack
abbrev pub last_end : PartialLine → List ℕ
last_end p = cond (eqb p.len 0) [] (LF ∷ [])

-- ---- the calls

-- the greatest length of a line that is printed: a read of 32 bytes
abbrev pub reply_bytes : ℕ
reply_bytes = 70

-- one line: its text at the front of the output. SHAPE where the output has another length
unfoldable pub run_into : ℕ → List ℕ → Device × List ℕ → Result (Device × List ℕ)
run_into P line x =
    let r : Ran = run_line P line x.0 in
    admit (test (eqb (length x.1) reply_bytes) SHAPE ∷ []) x (give (done (length (reply_of r))) (r.device, overwrite x.1 0 (reply_of r)))

-- what `feed` borrows
pub record State : Type 0 where
  pub device : Device
  pub line : PartialLine
  pub output : List ℕ

abbrev pub state_of : Device → PartialLine → List ℕ → State
state_of device line output = record { device = device; line = line; output = output }

-- a block of input. SHAPE where the output has less room than a line for each byte of it
unfoldable pub feed_block : ℕ → List ℕ → State → Result State
feed_block P input x =
    let y : Fed = feed P input x.device x.line in
    admit (test (leb (reply_bytes * length input) (length x.output)) SHAPE ∷ []) x
    (give (done (length y.text)) (state_of y.device y.line (overwrite x.output 0 y.text)))
