-- Bytes that are checked a chunk at a time.
use mathlib.Core.Path.{◌≡◌, refl, sym, ap, ◌∙◌}
use mathlib.Core.Bool.{Bool, ◌&&◌, and_assoc}
use mathlib.Core.List.{List, [], ◌∷◌, ◌++◌}
use Prim.Native.Nat.{ℕ, zero, suc, ◌+◌, ◌*◌}
use native.Mathlib.Omega.{arith}
use lib.ListN.{drop, take, take-append-drop}
use lib.Seq.{drop-drop}
use Rattle.std.specs.List.{list_all}
use Rattle.std.specs.Simd.{first_chunks}
use Rattle.scan.specs.Scan.{every}

every-append : (t : ℕ → Bool) (xs ys : List ℕ) → every t (xs ++ ys) ≡ every t xs && every t ys
every-append t [] ys = refl
every-append t (x ∷ xs) ys = ap (λ (b : Bool). t x && b) (every-append t xs ys) ∙ sym (and_assoc (t x) (every t xs) (every t ys))

-- the first k chunks of n, and the rest
every-chunks : (t : ℕ → Bool) (n k : ℕ) (xs : List ℕ) → every t xs ≡ list_all (every t) (first_chunks n k xs) && every t (drop (k * n) xs)
every-chunks t n zero xs = let z : zero * n ≡ 0 = omega arith in rw z
every-chunks t n (suc k) xs =
    let more : suc k * n ≡ n + k * n = omega arith in
    let rest : every t (drop n xs) ≡ list_all (every t) (first_chunks n k (drop n xs)) && every t (drop (n + k * n) xs) = rw (← drop-drop) (every-chunks t n k (drop n xs)) in
    ap (every t) (sym (take-append-drop n xs)) ∙ every-append t (take n xs) (drop n xs) ∙ rw (rest, more) (sym (and_assoc (every t (take n xs)) _ _))

-- b says that all whole chunks pass
pub chunks_checked : (t : ℕ → Bool) (n k : ℕ) (xs rest : List ℕ) (chunks : List (List ℕ)) (b : Bool) → chunks ≡ first_chunks n k xs → rest ≡ drop (k * n) xs
    → b ≡ list_all (every t) chunks → every t xs ≡ b && every t rest
chunks_checked t n k xs rest chunks b ec er eb = rw (eb, ec, er) (every-chunks t n k xs)
