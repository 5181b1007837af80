-- What a call gives, and the order in which it is refused: document 01, "When a call is turned down".
use Rattle.std.specs.Prelude.{ℕ, Bool, cond, List, [], ◌∷◌, ◌++◌, eqb, ltb, leb, length}
use Rattle.answer.specs.Coded.{Coded, SHAPE, MEDIA, BOOKS, DOWN, NO_FILE, RANGE}
use Rattle.answer.specs.Admission.{Test, test}
use Rattle.media.specs.Geometry.{files, file_bytes, media_bytes}
use Rattle.media.specs.Write.{Media}
use Rattle.device.specs.declared.CacheState.{CacheState}
use Rattle.scan.specs.Scan.{every}
use Rattle.device.specs.Device.{Device, frames_bytes}
use Rattle.device.specs.Sound.{is_sound}

-- what a call gives: its answer, and what it leaves in all that it borrowed
pub record Result (A : Type 0) : Type 0 where
  pub answer : Coded
  pub left : A

abbrev pub give : {A : Type 0} → Coded → A → Result A
give a x = record { answer = a; left = x }

-- refused by the first test that fails, with everything as it came; or else what the call gives
abbrev pub admit : {A : Type 0} → List Test → A → Result A → Result A
admit [] before r = r
admit (t ∷ ts) before r = cond t.holds (admit ts before r) (give t.refusal before)

-- of a sound state: mounted, a file that there is, and the range
abbrev pub mounted_tests : ℕ → ℕ → Bool → List Test
mounted_tests mounted f range = test (eqb mounted 1) DOWN ∷ test (ltb f files) NO_FILE ∷ test range RANGE ∷ []

-- every call: the lengths of the media and of the stored sizes
unfoldable pub media_shape : ℕ → Media → List Test
media_shape P m = test (eqb (length m.bytes) (media_bytes P)) SHAPE ∷ test (eqb (length m.sizes) files) SHAPE ∷ []

-- every call that borrows the page frames
unfoldable pub frames_shape : List ℕ → List Test
frames_shape frames = test (eqb (length frames) frames_bytes) SHAPE ∷ []

-- every call but format
unfoldable pub sizes_fit : ℕ → Media → List Test
sizes_fit P m = test (every (λ n. leb n (file_bytes P)) m.sizes) MEDIA ∷ []

-- every call but mount and format, on file f; what RANGE asks is the call's own
unfoldable pub state_tests : ℕ → List ℕ → CacheState → ℕ → Bool → List Test
state_tests P stored s f range = test (is_sound P stored s) BOOKS ∷ mounted_tests s.mounted f range

-- the order for mount, and for the calls on a file
abbrev pub mount_tests : ℕ → Media → List Test
mount_tests P m = media_shape P m ++ sizes_fit P m

abbrev pub device_tests : ℕ → Media → List ℕ → List Test
device_tests P m frames = media_shape P m ++ frames_shape frames ++ sizes_fit P m

abbrev pub file_tests : ℕ → Device → ℕ → Bool → List Test
file_tests P d f range = device_tests P d.media d.frames ++ state_tests P d.media.sizes d.cache f range
