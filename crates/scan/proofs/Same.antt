-- Laws of equal bytes.
use mathlib.Core.Path.{◌≡◌, refl, sym, ap}
use mathlib.Core.Logic.{◌≢◌}
use mathlib.Core.Bool.{Bool, true, false, ◌&&◌, false≢true}
use mathlib.Core.List.{List, [], ◌∷◌}
use Prim.Native.Nat.{ℕ, suc, ◌+◌, ◌≤◌, ◌<◌}
use native.Mathlib.Numerals.{add-one}
use lib.Dec.{eqb}
use lib.ListN.{length, get_or, drop, drop_of_length-le}
use lib.Seq.{drop-cons}
use borrow.Author.Tests.{eq-eqb, ne_eqb, eqb-true}
use Rattle.scan.specs.Scan.{same_bytes}
use Rattle.scan.proofs.Scan.{and_left, and_right}

pub same_eq : (xs ys : List ℕ) → same_bytes xs ys ≡ true → xs ≡ ys
same_eq [] [] e = refl
same_eq [] (y ∷ ys) e = absurd (false≢true e)
same_eq (x ∷ xs) [] e = absurd (false≢true e)
same_eq (x ∷ xs) (y ∷ ys) e = rw (eqb-true x y (and_left (eqb x y) (same_bytes xs ys) e), same_eq xs ys (and_right (eqb x y) (same_bytes xs ys) e))

pub same_self : (xs : List ℕ) → same_bytes xs xs ≡ true
same_self [] = refl
same_self (x ∷ xs) = rw (eq-eqb x x refl, same_self xs)

-- from an index on: the bytes there are equal, or not, or the lists end
module _ (xs ys : List ℕ) (i : ℕ) where
  pub same_next : i < length xs → i < length ys → get_or xs i 0 ≡ get_or ys i 0 → same_bytes (drop i xs) (drop i ys) ≡ same_bytes (drop (i + 1) xs) (drop (i + 1) ys)
  same_next h k e = rw (drop-cons xs i 0 h, drop-cons ys i 0 k, eq-eqb _ _ e, add-one)

  pub same_stop : i < length xs → i < length ys → get_or xs i 0 ≢ get_or ys i 0 → same_bytes (drop i xs) (drop i ys) ≡ false
  same_stop h k e = rw (drop-cons xs i 0 h, drop-cons ys i 0 k, ne_eqb _ _ e)

  pub same_end : length xs ≤ i → length ys ≤ i → same_bytes (drop i xs) (drop i ys) ≡ true
  same_end h k = rw (drop_of_length-le xs h, drop_of_length-le ys k)

pub same_length : (xs ys : List ℕ) → length xs ≢ length ys → false ≡ same_bytes xs ys
same_length [] [] h = absurd (h refl)
same_length [] (y ∷ ys) h = refl
same_length (x ∷ xs) [] h = refl
same_length (x ∷ xs) (y ∷ ys) h = and_none (eqb x y) (same_bytes xs ys) (sym (same_length xs ys (λ q. h (ap suc q))))
  where
    and_none : (a b : Bool) → b ≡ false → false ≡ a && b
    and_none true b e = sym e
    and_none false b e = refl
