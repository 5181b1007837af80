-- What a linked caller is promised. On the bytes of a state a call does what it does on the device, and leaves the bytes of the
-- state that it leaves there: so whatever is proved of lists of calls holds of a linked caller's. As many bytes as a state has are
-- always those of a state (state_bytes, Inverse). A refusal of the first eight leaves every byte. A word tells its answer.
use Rattle.std.specs.Prelude.{◌≡◌, true, ◌≢◌, List, ℕ, ◌<◌}
use Rattle.answer.specs.Coded.{Coded}
use Rattle.media.specs.Write.{Media}
use Rattle.device.specs.declared.CacheState.{CacheState}
use Rattle.device.specs.declared.Span.{Span}
use Rattle.device.specs.Device.{Device, device_of}
use Rattle.device.specs.Admission.{Result}
use Rattle.device.specs.Reading.{read}
use Rattle.device.specs.Looking.{look_count, look_span}
use Rattle.device.specs.Writing.{write}
use Rattle.device.specs.Truncating.{truncate}
use Rattle.device.specs.Syncing.{sync}
use Rattle.device.specs.Mounting.{mount, format}
use Rattle.state_bytes.specs.Encoding.{encode}
use Rattle.state_bytes.specs.Inverse.{Shaped, are_bytes}
use Rattle.state_bytes.specs.InPlace.{Borrowed, borrowed, in_bytes, on_bytes, read_bytes, look_count_bytes, look_span_bytes}
use Rattle.boxstore.specs.Interface.{word_of, span_word}

pub record OnBytes (call : Device → Result Device) : Type 0 where
  pub same : (m : Media) (frames : List ℕ) (s : CacheState) → Shaped s → on_bytes call (borrowed m frames (encode s)) ≡ in_bytes (call (device_of m frames s))
  pub shaped : (d : Device) → Shaped d.cache → Shaped (call d).left.cache
  pub refused : (l : Borrowed) → are_bytes l.state ≡ true → (on_bytes call l).answer.number ≢ 0 → (on_bytes call l).answer.number ≢ 9 → (on_bytes call l).left ≡ l
  pub small : (l : Borrowed) → (on_bytes call l).answer.count < 65536

-- P is the number of pages in a file
pub record Linked (P : ℕ) : Type 0 where
  pub writing : (f position : ℕ) (bytes : List ℕ) → OnBytes (write P f position bytes)
  pub truncating : (f n : ℕ) → OnBytes (truncate P f n)
  pub syncing : (f budget : ℕ) → OnBytes (sync P f budget)
  pub mounting : (budget : ℕ) → OnBytes (mount P budget)
  pub formatting : (budget : ℕ) → OnBytes (format P budget)
  pub reading : (m : Media) (frames : List ℕ) (s : CacheState) → Shaped s → (f position : ℕ) (buffer : List ℕ)
      → read_bytes P f position buffer (borrowed m frames (encode s)) ≡ read P f position buffer (device_of m frames s)
  pub counting : (m : Media) (frames : List ℕ) (s : CacheState) → Shaped s → (f position : ℕ)
      → look_count_bytes P f position (borrowed m frames (encode s)) ≡ look_count P f position (device_of m frames s)
  pub looking : (m : Media) (frames : List ℕ) (s : CacheState) → Shaped s → (f position : ℕ)
      → look_span_bytes P f position (borrowed m frames (encode s)) ≡ look_span P f position (device_of m frames s)
  pub read_refused : (f position : ℕ) (buffer : List ℕ) (l : Borrowed) → (read_bytes P f position buffer l).answer.number ≢ 0 → (read_bytes P f position buffer l).left ≡ buffer
  pub read_small : (f position : ℕ) (buffer : List ℕ) (l : Borrowed) → (read_bytes P f position buffer l).answer.count < 65536
  pub count_small : (f position : ℕ) (l : Borrowed) → (look_count_bytes P f position l).count < 65536
  pub span_small : (f position : ℕ) (l : Borrowed) → (look_span_bytes P f position l).count < 65536
  -- a word tells its answer, and where a look's part lies
  pub spans : (s t : Span) → s.count < 65536 → t.count < 65536 → span_word s ≡ span_word t → s ≡ t
  pub words : (a b : Coded) → a.count < 65536 → b.count < 65536 → word_of a ≡ word_of b → a ≡ b
