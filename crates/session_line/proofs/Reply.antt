-- Laws of printed numbers, bytes and lines: what the kit's crates print is what the definitions say, how long it is, and how it is laid over a buffer.
use Rattle.std.proofs.Common.{◌≡◌, refl, sym, ap, ◌∙◌, ℕ, ◌+◌, ◌*◌, ◌/◌, ◌%◌, ◌^◌, ◌≤◌, ◌<◌, List, [], ◌∷◌, ◌++◌, arith, length, get_or, length-append, suc}
use lib.Dec.{eqb, leb}
use borrow.Author.Tests.{eqb-true, le-leb, lt-leb, leb-true}
use borrow.Table.Steps.{cases}
use Rattle.std.specs.Fmt as std
use Rattle.std.proofs.lemmas.Fmt.{decimal_by_steps}
use Rattle.hex.specs.Hex.{encode_with, encode_lower, lower_digits}
use Rattle.answer.specs.Coded.{Coded, done, SHAPE}
use Rattle.memory.specs.Bytes.{overwrite}
use Rattle.memory.proofs.Bytes.{overwrite-join_at}
use Rattle.scan.proofs.Scan.{every_below_at}
use Rattle.text.specs.Decimal.{decimal}
use Rattle.text.specs.Marks.{comma, LF}
use Rattle.text.proofs.Decimal.{decimal-small, decimal_more}
use Rattle.session_line.specs.Reply.{hex_digit, hex, reply_line, print_answer, printed}

-- ---- decimal digits

decimal-std : (n : ℕ) → n < 2 ^ 64 → std.decimal n ≡ decimal n
decimal-std n h =
    decimal_by_steps (λ n ds. ds ≡ decimal n) (λ n h. sym (decimal-small n h)) (λ n ds h e. rw e (sym (decimal_more n h))) n h

-- a text that the kit prints of a number
pub decimal_text : (n m : ℕ) (text : List ℕ) → text ≡ std.decimal n → n < 2 ^ 64 → n ≡ m → text ≡ decimal m
decimal_text n m text e h k = e ∙ decimal-std n h ∙ ap decimal k

-- ---- hexadecimal digits

hex_digit_at : (d : ℕ) → d < 16 → get_or lower_digits d 0 ≡ hex_digit d
hex_digit_at d h = eqb-true _ _ (every_below_at 16 (λ k. eqb (get_or lower_digits k 0) (hex_digit k)) refl d h)

pub hex-lower : (bytes : List ℕ) → ((k : ℕ) → get_or bytes k 0 < 256) → encode_lower bytes ≡ hex bytes
unfolding encode_with
hex-lower [] h = refl
hex-lower (b ∷ bs) h =
    let small : b < 256 = h 0 in
    rw (hex_digit_at (b / 16) (omega arith), hex_digit_at (b % 16) (omega arith), hex-lower bs (λ k. h (suc k)))

pub hex-length : (bytes : List ℕ) → length (hex bytes) ≡ 2 * length bytes
hex-length [] = refl
hex-length (b ∷ bs) = omega (arith, hex-length bs)

-- ---- lines

pub reply-length : (a : Coded) (bytes : List ℕ) → length (reply_line a bytes) ≡ length (decimal a.number) + length (decimal a.count) + 2 * length bytes + 3
unfolding reply_line
reply-length a bytes = simp (length-append, hex-length) (omega arith)

-- one list after another
overwrite_then : (xs : List ℕ) (at : ℕ) (ys zs : List ℕ) (end : ℕ) → end ≡ at + length ys → overwrite xs at (ys ++ zs) ≡ overwrite (overwrite xs at ys) end zs
overwrite_then xs at ys zs end h = rw h (overwrite-join_at xs at ys zs)

-- a line is laid over the front of a list part by part
pub reply_put : (a : Coded) (bytes xs : List ℕ) (first second third fourth fifth : ℕ)
    → first ≡ 0 + length (decimal a.number)
    → second ≡ first + 1
    → third ≡ second + length (decimal a.count)
    → fourth ≡ third + 1
    → fifth ≡ fourth + 2 * length bytes
    → overwrite (overwrite (overwrite (overwrite (overwrite (overwrite xs 0 (decimal a.number)) first (comma ∷ [])) second (decimal a.count)) third (comma ∷ [])) fourth (hex bytes)) fifth (LF ∷ [])
    ≡ overwrite xs 0 (reply_line a bytes)
unfolding reply_line
reply_put a bytes xs first second third fourth fifth e f g h k =
    sym
    (overwrite_then xs 0 (decimal a.number) (comma ∷ decimal a.count ++ (comma ∷ hex bytes ++ (LF ∷ []))) first e
    ∙ overwrite_then _ first (comma ∷ []) (decimal a.count ++ (comma ∷ hex bytes ++ (LF ∷ []))) second f
    ∙ overwrite_then _ second (decimal a.count) (comma ∷ hex bytes ++ (LF ∷ [])) third g
    ∙ overwrite_then _ third (comma ∷ []) (hex bytes ++ (LF ∷ [])) fourth h
    ∙ overwrite_then _ fourth (hex bytes) (LF ∷ []) fifth (k ∙ ap (λ n. fourth + n) (sym (hex-length bytes))))

pub print_fits : (text output : List ℕ) → length text ≤ length output → (print_answer text output ≡ done (length text)) × (printed text output ≡ overwrite output 0 text)
print_fits text output h = rw (le-leb _ _ h) (refl, refl)

pub print_short : (text output : List ℕ) → length output < length text → (print_answer text output ≡ SHAPE) × (printed text output ≡ output)
print_short text output h = rw (lt-leb _ _ h) (refl, refl)

pub print_count : (text output : List ℕ) → (print_answer text output).count ≤ length output
print_count text output =
    cases (leb (length text) (length output)) (λ e. rw e (leb-true _ _ e)) (λ e. rw e (omega arith))
