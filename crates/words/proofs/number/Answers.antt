-- `words::number` meets its contract.
use Rattle.std.proofs.Common.{◌≡◌, ℕ, ◌≤◌, List, ap, ◌∙◌, arith}
use Rattle.text.specs.Decimal.{is_digit}
use Rattle.text.specs.Runs.{run}
use Rattle.text.proofs.Runs.{first-few}
use Rattle.words.specs.Words.{bytes_of, first_eight}
use Rattle.words.proofs.Texts.{word_bytes, value_in-front}
use Rattle.words.proofs.number.Goals as goal

-- so many digits stand in front of the first eight bytes, at most eight
few : (s : List ℕ) (word n : ℕ) → bytes_of word ≡ first_eight s → n ≡ run is_digit (bytes_of word) → n ≤ 8
few s word n w e = omega (arith, e, ap (run is_digit) (word_bytes s word w), first-few is_digit 8 s)

pub overflow_mul-count : goal.overflow_mul-count
overflow_mul-count c = omega (arith, few _ _ _ c.in-Some.ensures c.digits_in-count.ensures)

pub overflow_sub-count : goal.overflow_sub-count
overflow_sub-count c = omega (arith, few _ _ _ c.in-Some.ensures c.digits_in-count.ensures)

pub returns : goal.returns
returns c =
    let w = word_bytes _ _ c.in-Some.ensures in
    let d = c.digits_in-count.ensures in
    (d ∙ ap (run is_digit) c.in-Some.ensures, c.value_in.ensures ∙ value_in-front _ _ _ w (d ∙ ap (run is_digit) w))
