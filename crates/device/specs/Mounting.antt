-- Mount and format: document 01, "The calls". Neither looks at the page frames or at the cache state.
use Rattle.std.specs.Prelude.{ℕ, zero, suc, ◌+◌, ◌-◌, Bool, not, ◌||◌, List, [], ◌++◌, eqb}
use Rattle.memory.specs.Bytes.{part}
use Rattle.media.specs.Geometry.{files, file_bytes, file_start}
use Rattle.media.specs.Write.{Media, MediaWrite, size_at}
use Rattle.media.specs.Write.MediaWrite.{trim}
use Rattle.scan.specs.Scan.{every}
use Rattle.device.specs.Device.{Device, down_state, mounted_state}
use Rattle.device.specs.Admission.{Result, admit, media_shape, mount_tests}
use Rattle.device.specs.Plan.{write_if, under_budget}

-- the TRIMs of n files from file f on: of each file where it is wanted, to its target
unfoldable pub trims_from : (ℕ → Bool) → (ℕ → ℕ) → ℕ → ℕ → List MediaWrite
trims_from wanted target zero f = []
trims_from wanted target (suc n) f = write_if (wanted f) (trim f (target f)) ++ trims_from wanted target n (suc f)

module _ (P : ℕ) where
  -- file f has a nonzero byte at or past n
  unfoldable pub nonzero_from : Media → ℕ → ℕ → Bool
  nonzero_from m f n = not (every (λ b. eqb b 0) (part m.bytes (file_start P f + n) (file_bytes P - n)))

  -- for each file with a nonzero byte at or past its stored size, one TRIM to the stored size
  unfoldable pub mount_plan : Media → List MediaWrite
  mount_plan m = trims_from (λ f. nonzero_from m f (size_at m f)) (size_at m) files 0

  unfoldable pub mount : ℕ → Device → Result Device
  mount budget d =
      admit (mount_tests P d.media) d (under_budget P budget (mount_plan d.media) (mounted_state d.media.sizes) d)

  -- for each file with a nonzero byte or a nonzero stored size, one TRIM to 0
  unfoldable pub format_plan : Media → List MediaWrite
  format_plan m = trims_from (λ f. nonzero_from m f 0 || not (eqb (size_at m f) 0)) (λ f. 0) files 0

  unfoldable pub format : ℕ → Device → Result Device
  format budget d = admit (media_shape P d.media) d (under_budget P budget (format_plan d.media) down_state d)
