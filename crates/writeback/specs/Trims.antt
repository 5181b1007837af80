-- The TRIMs of a mount and of a format as one plan: each file that needs it is trimmed to its target. With the stored sizes as targets it is
-- device's mount_plan, with zeros its format_plan (proofs/Trimming). P is the number of pages in a file.
use Rattle.std.specs.Prelude.{ℕ, Bool, not, ◌||◌, List, eqb, get_or}
use Rattle.media.specs.Geometry.{files}
use Rattle.media.specs.Write.{Media, MediaWrite, size_at}
use Rattle.device.specs.Mounting.{trims_from, nonzero_from}

-- file f has a nonzero byte at or past n, or another stored size than n
unfoldable pub needs_trim : ℕ → Media → ℕ → ℕ → Bool
needs_trim P m f n = nonzero_from P m f n || not (eqb (size_at m f) n)

-- of each file that needs it, TRIM to its target
unfoldable pub trims_to : ℕ → Media → List ℕ → List MediaWrite
trims_to P m targets = trims_from (λ f. needs_trim P m f (get_or targets f 0)) (λ f. get_or targets f 0) files 0
