-- Tests of n bytes at once: the highest bit of a byte is set exactly where it fails, up to the first byte of 128 or more. That one may spoil
-- the bits above its own.
use Rattle.std.specs.Prelude.{ℕ, zero, suc, ◌+◌, ◌*◌, ◌%◌, ◌^◌, bit_and, bit_or, bit_xor}

-- the byte c in each of them
abbrev pub copies : ℕ → ℕ → ℕ
copies c zero = 0
copies c (suc n) = copies c n * 256 + c

-- c added in each
abbrev pub plus : ℕ → ℕ → ℕ → ℕ
plus c n y = (y + copies c n) % 256 ^ n

-- where it is no digit
unfoldable pub no_digit : ℕ → ℕ → ℕ
no_digit n y = bit_or y (plus 118 n (bit_xor y (copies 48 n)))

-- where it is no capital letter
unfoldable pub no_capital : ℕ → ℕ → ℕ
no_capital n y =
    let letter = bit_xor y (copies 64 n) in
    bit_or (bit_or y (plus 101 n letter)) (bit_xor (plus 127 n letter) (copies 128 n))

-- the highest bits alone
abbrev pub highest : ℕ → ℕ → ℕ
highest n y = bit_and y (copies 128 n)
