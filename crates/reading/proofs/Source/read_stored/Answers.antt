-- `reading::Source::read_stored` meets its contract: the bytes are on the media, with zeros after the floor.
use mathlib.Core.Path.{◌≡◌, ◌∙◌, ap}
use Prim.Native.Nat.{ℕ, ◌+◌, ◌-◌, min}
use native.Mathlib.Omega.{arith}
use lib.ListN.{length}
use Rattle.memory.specs.Bytes.{zeros, part, overwrite}
use Rattle.media.specs.Geometry.{pages_per_file, file_start}
use Rattle.device.proofs.Current.{bytes-stored}
use Rattle.reading.proofs.Source.read_stored.Goals as goal

pub returns : goal.returns
unfolding file_start
returns c =
    let a = c.args in
    let s = a.self.now in
    let n : ℕ = length a.buffer.now in
    let from : ℕ = file_start pages_per_file s.file + a.at in
    let e : from + c.min-stored.result - from ≡ min n (s.floor - a.at) = omega arith in
    λ d shows none.
    c.copy_padded.ensures
    ∙ ap (λ (j : ℕ). overwrite (zeros n) 0 (part s.media.now from j)) (e ∙ ap (λ (j : ℕ). min n (j - a.at)) shows.floor)
    ∙ rw shows.media
    (bytes-stored pages_per_file d s.file a.at n none (omega arith) (omega arith) (omega (arith, ap length shows.media)))
