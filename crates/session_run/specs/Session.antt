-- What a session prints: document 01, "The session program". P is the number of pages in a file.
use Rattle.std.specs.Prelude.{cond, List, [], ◌∷◌, ◌++◌, ℕ, eqb, get_or, take, replicate}
use Rattle.answer.specs.Coded.{Coded, LINE}
use Rattle.memory.specs.Bytes.{zeros}
use Rattle.media.specs.Geometry.{files, media_bytes}
use Rattle.media.specs.Write.{media_of}
use Rattle.device.specs.Device.{Device, device_of, frames_bytes, down_state}
use Rattle.device.specs.Admission.{Result, give}
use Rattle.device.specs.Reading.{read}
use Rattle.device.specs.Writing.{write}
use Rattle.device.specs.Truncating.{truncate}
use Rattle.device.specs.Syncing.{sync}
use Rattle.device.specs.Mounting.{mount, format}
use Rattle.session_line.specs.Grammar.{Command, parse, lines, F, M, W, T, S, R}
use Rattle.session_line.specs.Reply.{reply_line, header}

-- what a line gives: its answer, the bytes that are printed with it, and the device after it
pub record Ran : Type 0 where
  pub answer : Coded
  pub bytes : List ℕ
  pub device : Device

-- a call that prints no bytes
abbrev pub without_bytes : Result Device → Ran
without_bytes r = record { answer = r.answer; bytes = []; device = r.left }

-- a read prints the bytes that it counts
abbrev pub shown : Device → Result (List ℕ) → Ran
shown d r = record { answer = r.answer; bytes = take r.answer.count r.left; device = d }

abbrev pub reply_of : Ran → List ℕ
reply_of r = reply_line r.answer r.bytes

module _ (P : ℕ) where
  -- the call that a command asks for; LINE, which changes nothing, where it has none of the letters
  unfoldable pub run : Command → Device → Ran
  run c d =
      let n : ℕ → ℕ = λ k. get_or c.numbers k 0 in
      cond (eqb c.letter F) (without_bytes (format P (n 0) d))
      (cond (eqb c.letter M) (without_bytes (mount P (n 0) d))
      (cond (eqb c.letter W) (without_bytes (write P (n 0) (n 1) (replicate (n 2) (n 3)) d))
      (cond (eqb c.letter T) (without_bytes (truncate P (n 0) (n 1) d))
      (cond (eqb c.letter S) (without_bytes (sync P (n 0) (n 1) d))
      (cond (eqb c.letter R) (shown d (read P (n 0) (n 1) (zeros (n 2)) d))
      (without_bytes (give LINE d)))))))

  unfoldable pub run_line : List ℕ → Device → Ran
  run_line line d = run (parse line) d

  -- what is printed for lines, one after another
  abbrev pub answers : List (List ℕ) → Device → List ℕ
  answers [] d = []
  answers (line ∷ more) d = reply_of (run_line line d) ++ answers more (run_line line d).device

  -- media all 0, and down
  unfoldable pub start_device : Device
  start_device = device_of (media_of (zeros (media_bytes P)) (zeros files)) (zeros frames_bytes) down_state

  -- the whole output: a header, and one line for each line of the input
  unfoldable pub output : List ℕ → List ℕ
  output input = header ++ answers (lines input) start_device
