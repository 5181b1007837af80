-- The layout of the media. P is the number of pages in a file.
use Rattle.std.specs.Prelude.{ℕ, ◌+◌, ◌*◌}

-- the number of files
abbrev pub files : ℕ
files = 8

-- the number of pages in a file of this media
abbrev pub pages_per_file : ℕ
pages_per_file = 16

abbrev pub page_bytes : ℕ
page_bytes = 256

abbrev pub file_bytes : ℕ → ℕ
file_bytes P = page_bytes * P

abbrev pub media_bytes : ℕ → ℕ
media_bytes P = files * file_bytes P

-- byte i of file f is at file_start P f + i
unfoldable pub file_start : ℕ → ℕ → ℕ
file_start P f = f * file_bytes P

-- page p of file f covers page_bytes bytes from here on
abbrev pub page_start : ℕ → ℕ → ℕ → ℕ
page_start P f p = file_start P f + page_bytes * p
