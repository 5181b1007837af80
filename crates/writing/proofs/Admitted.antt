-- A call that is admitted: every test holds, and the parts have the lengths of arrays.
use mathlib.Core.Path.{◌≡◌, refl}
use mathlib.Core.Bool.{Bool, true}
use Prim.Native.Nat.{ℕ}
use lib.ListN.{length}
use Rattle.std.proofs.Common.{Ok}
use Rattle.answer.specs.Coded.{done}
use Rattle.answer.specs.Admission.{first_refusal}
use Rattle.answer.proofs.Admission.{passed}
use Rattle.media.specs.Geometry.{pages_per_file}
use Rattle.device.specs.Admission.{file_tests}
use Rattle.state_bytes.specs.Encoding.{state_bytes}
use Rattle.state_bytes.specs.InPlace.{Borrowed, device_in, borrowed_tests}
use Rattle.state_bytes.proofs.OnBytes.{borrowed-passed}

pub admitted : (l : Borrowed) (f : ℕ) (range : Bool) → done 0 ≡ first_refusal (borrowed_tests pages_per_file l f range) (done 0)
    → (length l.state ≡ state_bytes) × (passed (file_tests pages_per_file (device_in l) f range) ≡ true)
admitted l f range e = borrowed-passed pages_per_file l f range (Ok 0) e 0 refl
