-- Where files and pages lie on the media.
use mathlib.Core.Path.{◌≡◌, refl}
use Prim.Native.Nat.{ℕ, ◌+◌, ◌*◌, ◌<◌, ◌≤◌}
use native.Mathlib.Omega.{arith}
use native.Mathlib.Nat.{suc-mul, mul-le-mul_right}
use Rattle.media.specs.Geometry.{files, pages_per_file, page_bytes, file_bytes, media_bytes, file_start}

-- a file ends at or before the start of any later one, and within the media
pub file-before : (P f g : ℕ) → f < g → file_start P f + file_bytes P ≤ file_start P g
unfolding file_start
file-before P f g h = omega (arith, suc-mul f (file_bytes P), mul-le-mul_right (file_bytes P) h)

pub file_end : (P f : ℕ) → f < files → file_start P f + file_bytes P ≤ media_bytes P
unfolding file_start
file_end P f h = omega (arith, suc-mul f (file_bytes P), mul-le-mul_right (file_bytes P) h)

-- a page ends within its file
pub page_end : (P p : ℕ) → p < P → page_bytes * p + page_bytes ≤ file_bytes P
page_end P p h = omega arith

-- the numbers of document 01
pub file_of_4096 : file_bytes pages_per_file ≡ 4096
file_of_4096 = refl

pub media_of_32768 : media_bytes pages_per_file ≡ 32768
media_of_32768 = refl
