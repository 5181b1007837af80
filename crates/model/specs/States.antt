-- The closed form behind demand 3: which state a mount can find a file in. It is proved beside the demands (proofs/Claims, `closed_form`).
use Rattle.std.specs.Prelude.{ℕ, ◌-◌, ◌*◌, min, ◌≡◌, ◌⊎◌, cond, List, [], ◌∷◌, ltb, length, take}
use Rattle.media.specs.Geometry.{page_bytes}
use Rattle.model.specs.ModelFile.{Entry, ModelFile, posix_write, posix_truncate}
use Rattle.model.specs.ModelFile.Entry.{written, truncated}
use Rattle.model.specs.Run.{Interface, InEveryRun, AtMounts}

-- one entry of the log: of a write the bytes below the boundary and below the size at that write; a truncate where it lowers the size
abbrev pub redo : ℕ → List ℕ → Entry → List ℕ
redo boundary file (written position bytes) = posix_write file position (take (min boundary (length file) - position) bytes)
redo boundary file (truncated n) = cond (ltb n (length file)) (posix_truncate file n) file

abbrev pub replay : ℕ → List ℕ → List Entry → List ℕ
replay boundary file [] = file
replay boundary file (e ∷ log) = replay boundary (redo boundary file e) log

-- the durable bytes, or these with the log replayed up to a page boundary
abbrev pub CrashState : ModelFile → List ℕ → Type 0
CrashState m found = (found ≡ m.durable) ⊎ ((q : ℕ) × (found ≡ replay (page_bytes * q) m.durable m.log))

-- a mount that is done finds each file in one of these states
abbrev pub ClosedForm : Interface → Type 0
ClosedForm I = InEveryRun I (AtMounts I CrashState)
