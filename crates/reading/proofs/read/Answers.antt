-- `reading::read` meets its contract: refused as `admit_at` says, or the current bytes.
use mathlib.Core.Path.{◌≡◌, refl, sym, ap, ◌∙◌}
use mathlib.Core.List.{List, ◌++◌}
use Prim.Native.Nat.{ℕ, ◌≤◌}
use native.Mathlib.Omega.{arith}
use native.Mathlib.Nat.{zero-add}
use lib.ListN.{length, take, drop}
use Rattle.std.proofs.lemmas.Result.{err_from_is_err_and}
use Rattle.memory.specs.Bytes.{overwrite}
use Rattle.memory.proofs.Bytes.{overwrite-cut, length_front}
use Rattle.media.specs.Geometry.{pages_per_file}
use Rattle.device.specs.Device.{Device}
use Rattle.device.specs.Current.{current_bytes}
use Rattle.device.proofs.Current.{length-current}
use Rattle.device.proofs.Sound.{sound-sizes}
use Rattle.device.proofs.Reading.{read_done}
use Rattle.state_bytes.specs.InPlace.{device_in}
use Rattle.state_bytes.specs.Moments.{borrowed_at_entry}
use Rattle.state_bytes.proofs.OnBytes.{read-refused_on, read_on}
use Rattle.reading.proofs.Admitted.{tested, ready, within}
use Rattle.reading.proofs.read.Goals as goal

-- the front of the buffer was filled
filled : (P : ℕ) (d : Device) (f i n : ℕ) (buffer ys : List ℕ) → n ≤ length buffer → ys ≡ current_bytes P d f i (length (take n buffer))
    → ys ++ drop n buffer ≡ overwrite buffer 0 (current_bytes P d f i n)
filled P d f i n buffer ys h e =
    let q : ys ≡ current_bytes P d f i n = e ∙ ap (current_bytes P d f i) (length_front n buffer h) in
    let l : length (current_bytes P d f i n) ≡ n = length-current P d f i n in
    rw q (sym (rw (zero-add, l) at (overwrite-cut buffer 0 (current_bytes P d f i n) (omega arith))))

pub returns-in_err-admit_at : goal.returns-in_err-admit_at
returns-in_err-admit_at c =
    let r = err_from_is_err_and c.from_residual.result c.from_residual.ensures.1 in
    rw (r.1, r.2) (read-refused_on _ _ _ _ _ c.in_err-admit_at.ensures.answer _)

pub invariant_of-source : goal.invariant_of-source
invariant_of-source c =
    let ok = ready _ _ _ c.in_ok-admit_at.ensures.answer in
    record { whole_media = ok.bytes; whole_frames = ok.frames; file_there = ok.file }

pub read-requires : goal.read-requires
read-requires c =
    let ok = ready _ _ _ c.in_ok-admit_at.ensures.answer in
    let s = sound-sizes _ _ _ _ ok.sound ok.file in
    let r = within _ _ _ c.in_ok-admit_at.ensures.answer in
    omega (arith, length_front c.min-count.result c.args.buffer.now (omega arith))

pub returns : goal.returns
returns c =
    let a = c.args in
    let d : Device = device_in (borrowed_at_entry a.media.now a.sizes.now a.frames.now a.state.now) in
    let t = tested _ _ _ c.in_ok-admit_at.ensures.answer in
    let now = c.read.ensures d (record { media = refl; frames = refl; slots = c.in_ok-admit_at.ensures.table; floor = c.floor_at-floor.ensures }) in
    read_done _ _ _ _ _ _ _ t.1 (omega arith) (filled pages_per_file d a.file a.position c.min-count.result a.buffer.now c.read.new.buffer (omega arith) now)
    ∙ read_on _ _ _ _ t.0 _
