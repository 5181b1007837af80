-- What `admit_at` has tested, where it gives the table.
use mathlib.Core.Path.{◌≡◌, refl}
use mathlib.Core.Bool.{true}
use mathlib.Core.List.{List}
use Prim.Native.Nat.{ℕ, ◌≤◌}
use lib.Dec.{leb}
use lib.ListN.{length}
use borrow.Author.Tests.{leb-true}
use Rattle.std.specs.Prelude.{Ok}
use Rattle.answer.specs.Coded.{done}
use Rattle.answer.specs.Admission.{first_refusal}
use Rattle.answer.proofs.Admission.{passed}
use Rattle.media.specs.Geometry.{pages_per_file, file_bytes}
use Rattle.device.specs.Device.{slot_of}
use Rattle.device.specs.Admission.{file_tests}
use Rattle.device.proofs.Admission.{Admitted}
use Rattle.state_bytes.specs.Encoding.{state_bytes, decode}
use Rattle.state_bytes.specs.InPlace.{Borrowed, borrowed_tests, device_in}
use Rattle.state_bytes.proofs.InPlace.{shaped}
use Rattle.state_bytes.proofs.OnBytes.{borrowed-passed, borrowed-ready}
use Rattle.admission.specs.Tables.{slot_table, slot_for}
use Rattle.reading.proofs.Slots.{slot_sound}

module _ (l : Borrowed) (f position : ℕ) (e : done 0 ≡ first_refusal (borrowed_tests pages_per_file l f (leb position (file_bytes pages_per_file))) (done 0)) where
  -- the tests, on the bytes of the state and on the device that they say
  pub tested : (length l.state ≡ state_bytes) × (passed (file_tests pages_per_file (device_in l) f (leb position (file_bytes pages_per_file))) ≡ true)
  tested = borrowed-passed _ l f _ (Ok 0) e 0 refl

  pub ready : Admitted pages_per_file (device_in l) f (leb position (file_bytes pages_per_file))
  ready = borrowed-ready _ l f _ (Ok 0) e 0 refl

  pub within : position ≤ file_bytes pages_per_file
  within = leb-true _ _ ready.in_range

  -- the slot of a page by the table
  pub slot_is : (p : ℕ) (table : List ℕ) → table ≡ slot_table pages_per_file (decode l.state).slots → slot_for pages_per_file table f p ≡ slot_of (device_in l) f p
  slot_is p table t = slot_sound l.media.sizes table (decode l.state) f p t ready.sound (shaped l.state).slots ready.file
