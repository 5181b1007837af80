-- The model file: document 01, "The plain files" (present, kept and log are current, durable and log here).
use Rattle.std.specs.Prelude.{ℕ, zero, suc, ◌≤◌, ◌≡◌, ◌⊎◌, List, [], ◌∷◌, ◌++◌, length, take, drop}

-- what is logged: a write that was done, with the bytes that it put down; a truncate that was done
pub data Entry : Type 0 where
  written : (position : ℕ) (bytes : List ℕ) → Entry
  truncated : (n : ℕ) → Entry

pub record ModelFile : Type 0 where
  -- the bytes that reads show
  pub current : List ℕ
  -- the bytes as the last done sync left them, or the last done mount if no sync came after
  pub durable : List ℕ
  -- the writes and truncates since then
  pub log : List Entry

-- the bytes stand from the position on, and zeros fill a gap before them
abbrev pub lay : List ℕ → ℕ → List ℕ → List ℕ
lay file zero bytes = bytes ++ drop (length bytes) file
lay [] (suc n) bytes = 0 ∷ lay [] n bytes
lay (x ∷ file) (suc n) bytes = x ∷ lay file n bytes

-- POSIX write: a write of no bytes changes nothing
abbrev pub posix_write : List ℕ → ℕ → List ℕ → List ℕ
posix_write file position [] = file
posix_write file position (b ∷ bytes) = lay file position (b ∷ bytes)

-- POSIX ftruncate: the first n bytes, with zeros where the file has fewer
abbrev pub posix_truncate : List ℕ → ℕ → List ℕ
posix_truncate file zero = []
posix_truncate [] (suc n) = 0 ∷ posix_truncate [] n
posix_truncate (x ∷ file) (suc n) = x ∷ posix_truncate file n

-- what may be found of a file after a log: of each write some first bytes, of each truncate all or nothing, in order
abbrev pub Becomes : List ℕ → List Entry → List ℕ → Type 0
Becomes file [] found = file ≡ found
Becomes file (written position bytes ∷ log) found = (n : ℕ) × (n ≤ length bytes) × Becomes (posix_write file position (take n bytes)) log found
Becomes file (truncated n ∷ log) found = Becomes (posix_truncate file n) log found ⊎ Becomes file log found

-- ---- what is done to a model file

-- a done mount found these bytes
abbrev pub fresh : List ℕ → ModelFile
fresh found = record { current = found; durable = found; log = [] }

abbrev pub after_write : ℕ → List ℕ → ModelFile → ModelFile
after_write position [] m = m
after_write position (b ∷ bytes) m = record {
  current = posix_write m.current position (b ∷ bytes);
  durable = m.durable;
  log = m.log ++ (written position (b ∷ bytes) ∷ []);
}

abbrev pub after_truncate : ℕ → ModelFile → ModelFile
after_truncate n m = record { current = posix_truncate m.current n; durable = m.durable; log = m.log ++ (truncated n ∷ []) }

abbrev pub after_sync : ModelFile → ModelFile
after_sync m = fresh m.current
