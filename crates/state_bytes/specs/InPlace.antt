-- A call on a device whose cache state is borrowed as bytes: SHAPE where they are not as many as a state has, or else what it does to the
-- device that they say.
use Rattle.std.specs.Prelude.{ℕ, Bool, List, [], ◌∷◌, ◌++◌, eqb, length}
use Rattle.answer.specs.Coded.{Coded, SHAPE}
use Rattle.answer.specs.Admission.{Test, test, first_refusal, if_done}
use Rattle.media.specs.Write.{Media}
use Rattle.device.specs.declared.Span.{Span}
use Rattle.device.specs.Device.{Device, device_of}
use Rattle.device.specs.Admission.{Result, give, admit, file_tests}
use Rattle.device.specs.Reading.{read}
use Rattle.device.specs.Looking.{look_count, looked_span, no_span}
use Rattle.state_bytes.specs.Encoding.{state_bytes, encode, decode}

-- the device as it is borrowed
pub record Borrowed : Type 0 where
  pub media : Media
  pub frames : List ℕ
  pub state : List ℕ

abbrev pub borrowed : Media → List ℕ → List ℕ → Borrowed
borrowed media frames state = record { media = media; frames = frames; state = state }

-- the device that the bytes say, and a device with its state as bytes
abbrev pub device_in : Borrowed → Device
device_in l = device_of l.media l.frames (decode l.state)

abbrev pub borrowed_of : Device → Borrowed
borrowed_of d = borrowed d.media d.frames (encode d.cache)

-- before all other tests
unfoldable pub state_shape : List ℕ → List Test
state_shape state = test (eqb (length state) state_bytes) SHAPE ∷ []

-- the order for the calls on a file
abbrev pub borrowed_tests : ℕ → Borrowed → ℕ → Bool → List Test
borrowed_tests P l f range = state_shape l.state ++ file_tests P (device_in l) f range

-- what a call leaves, with its state as bytes
abbrev pub in_bytes : Result Device → Result Borrowed
in_bytes r = give r.answer (borrowed_of r.left)

-- the calls that change the device
unfoldable pub on_bytes : (Device → Result Device) → Borrowed → Result Borrowed
on_bytes call l = admit (state_shape l.state) l (in_bytes (call (device_in l)))

-- read and look
unfoldable pub read_bytes : ℕ → ℕ → ℕ → List ℕ → Borrowed → Result (List ℕ)
read_bytes P f position buffer l = admit (state_shape l.state) buffer (read P f position buffer (device_in l))

unfoldable pub look_count_bytes : ℕ → ℕ → ℕ → Borrowed → Coded
look_count_bytes P f position l = first_refusal (state_shape l.state) (look_count P f position (device_in l))

unfoldable pub look_span_bytes : ℕ → ℕ → ℕ → Borrowed → Span
look_span_bytes P f position l = if_done (look_count_bytes P f position l) (looked_span P f position (device_in l)) no_span
