-- Read: document 01, "The calls". The device stays; the buffer is the call's own.
use Rattle.std.specs.Prelude.{ℕ, ◌-◌, min, List, leb, length}
use Rattle.answer.specs.Coded.{done}
use Rattle.memory.specs.Bytes.{overwrite}
use Rattle.media.specs.Geometry.{file_bytes}
use Rattle.device.specs.Device.{Device, logical_at}
use Rattle.device.specs.Current.{current_bytes}
use Rattle.device.specs.Admission.{Result, give, admit, file_tests}

-- as many as the buffer takes, up to the logical size; 0 at or past it
abbrev pub read_count : Device → ℕ → ℕ → ℕ → ℕ
read_count d f position n = min n (logical_at d f - position)

unfoldable pub read : ℕ → ℕ → ℕ → List ℕ → Device → Result (List ℕ)
read P f position buffer d =
    let count : ℕ = read_count d f position (length buffer) in
    admit (file_tests P d f (leb position (file_bytes P))) buffer
    (give (done count) (overwrite buffer 0 (current_bytes P d f position count)))
