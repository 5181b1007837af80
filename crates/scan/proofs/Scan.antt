-- Laws of tests over a list.
use mathlib.Core.Path.{◌≡◌, refl, sym, ap, ◌∙◌}
use mathlib.Core.Bool.{Bool, true, false, not, ◌&&◌, ◌||◌, false≢true}
use mathlib.Core.Logic.{⊎_elim}
use mathlib.Core.List.Memᴰ
use mathlib.Core.List.{List, [], ◌∷◌, ◌++◌, map, Memᴰ}
use Prim.Native.Nat.{ℕ, zero, suc, ◌<◌, ◌≤◌, suc-le-suc}
use native.Mathlib.Nat.{not-suc-le-zero, le_of_suc-le-suc}
use native.Mathlib.Omega.{arith}
use lib.ListN.{length, get_or, set, take}
use borrow.Table.Steps.{cases}
use Rattle.memory.proofs.Cases.{split_eq}
use Rattle.scan.specs.Scan.{all_of, every, every_below, first_index}

-- ---- both, and one

pub and_left : (a b : Bool) → a && b ≡ true → a ≡ true
and_left true b e = refl
and_left false b e = e

pub and_right : (a b : Bool) → a && b ≡ true → b ≡ true
and_right true b e = e
and_right false b e = absurd (false≢true e)

pub and_both : (a b : Bool) → a ≡ true → b ≡ true → a && b ≡ true
and_both a b e d = rw (e, d)

pub and-true : (a : Bool) → a && true ≡ a
and-true true = refl
and-true false = refl

pub and_assoc : (a b c : Bool) → a && (b && c) ≡ (a && b) && c
and_assoc true b c = refl
and_assoc false b c = refl

pub or_left : (a b : Bool) → a || b ≡ false → a ≡ false
or_left true b e = e
or_left false b e = refl

pub or_right : (a b : Bool) → a || b ≡ false → b ≡ false
or_right true b e = absurd (false≢true (sym e))
or_right false b e = e

pub is_false : (b : Bool) → (b ≡ true → ⊥) → b ≡ false
is_false b h = cases b (λ e. absurd (h e)) (λ e. e)

pub true-not-false : (b : Bool) → b ≡ true → b ≡ false → ⊥
true-not-false b e d = false≢true (sym d ∙ e)

-- ---- every test, every element, every number

pub all_of_at : (bs : List Bool) → all_of bs ≡ true → (k : ℕ) → get_or bs k true ≡ true
all_of_at [] e k = refl
all_of_at (b ∷ bs) e zero = and_left b (all_of bs) e
all_of_at (b ∷ bs) e (suc k) = all_of_at bs (and_right b (all_of bs) e) k

pub every_below_at : (n : ℕ) (t : ℕ → Bool) → every_below n t ≡ true → (k : ℕ) → k < n → t k ≡ true
every_below_at zero t e k h = absurd (not-suc-le-zero h)
every_below_at (suc n) t e k h =
    split_eq k n
    (λ q. rw q (and_right (every_below n t) (t n) e))
    (λ q. every_below_at n t (and_left (every_below n t) (t n) e) k (omega arith))

pub every_below_all : (n : ℕ) (t : ℕ → Bool) → ((k : ℕ) → k < n → t k ≡ true) → every_below n t ≡ true
every_below_all zero t h = refl
every_below_all (suc n) t h = and_both (every_below n t) (t n) (every_below_all n t (λ k l. h k (omega arith))) (h n (omega arith))

module _ {A : Type 0} (t : A → Bool) where
  pub every_at : (xs : List A) (d : A) → every t xs ≡ true → (k : ℕ) → k < length xs → t (get_or xs k d) ≡ true
  every_at [] d e k h = absurd (not-suc-le-zero h)
  every_at (x ∷ xs) d e zero h = and_left (t x) (every t xs) e
  every_at (x ∷ xs) d e (suc k) h = every_at xs d (and_right (t x) (every t xs) e) k (le_of_suc-le-suc h)

  pub every_all : (xs : List A) (d : A) → ((k : ℕ) → k < length xs → t (get_or xs k d) ≡ true) → every t xs ≡ true
  every_all [] d h = refl
  every_all (x ∷ xs) d h =
      and_both (t x) (every t xs) (h 0 (omega arith)) (every_all xs d (λ k l. h (suc k) (suc-le-suc l)))

  pub every_take : (n : ℕ) (xs : List A) → every t xs ≡ true → every t (take n xs) ≡ true
  every_take zero xs e = refl
  every_take (suc n) [] e = refl
  every_take (suc n) (x ∷ xs) e = and_both (t x) (every t (take n xs)) (and_left (t x) (every t xs) e) (every_take n xs (and_right (t x) (every t xs) e))

  pub every-join : (xs ys : List A) → every t xs ≡ true → every t ys ≡ true → every t (xs ++ ys) ≡ true
  every-join [] ys e f = f
  every-join (x ∷ xs) ys e f = and_both (t x) (every t (xs ++ ys)) (and_left (t x) (every t xs) e) (every-join xs ys (and_right (t x) (every t xs) e) f)

  -- another test, which passes wherever this one does
  pub every_impl : (u : A → Bool) → ((x : A) → t x ≡ true → u x ≡ true) → (xs : List A) → every t xs ≡ true → every u xs ≡ true
  every_impl u h [] e = refl
  every_impl u h (x ∷ xs) e = and_both (u x) (every u xs) (h x (and_left (t x) (every t xs) e)) (every_impl u h xs (and_right (t x) (every t xs) e))

  -- ---- members

  pub every_member : (xs : List A) (x : A) → every t xs ≡ true → Memᴰ x xs → t x ≡ true
  every_member [] x e m = absurd (Memᴰ.not-nil m)
  every_member (y ∷ ys) x e m =
      ⊎_elim (λ q. ap t q ∙ and_left (t y) (every t ys) e) (λ k. every_member ys x (and_right (t y) (every t ys) e) k) (Memᴰ.cases_cons m)

  pub member_fails : (xs : List A) → every t xs ≡ false → (x : A) × Memᴰ x xs × (t x ≡ false)
  member_fails [] e = absurd (false≢true (sym e))
  member_fails (y ∷ ys) e =
      cases (t y)
      (λ p. let r = member_fails ys (rw p at e) in (r.0, Memᴰ.tail r.1, r.2))
      (λ p. (y, Memᴰ.head refl, p))

  -- ---- the first that passes

  -- elements that do not pass, before one that does
  pub first-join : (xs : List A) (y : A) (ys : List A) → every (λ x. not (t x)) xs ≡ true → t y ≡ true → first_index t (xs ++ (y ∷ ys)) ≡ length xs
  first-join [] y ys e h = rw h
  first-join (x ∷ xs) y ys e h =
      cases (t x)
      (λ p. absurd (false≢true (rw p at (and_left (not (t x)) (every (λ z. not (t z)) xs) e))))
      (λ p. rw p (ap suc (first-join xs y ys (and_right (not (t x)) (every (λ z. not (t z)) xs) e) h)))

  pub first_le : (xs : List A) → first_index t xs ≤ length xs
  first_le [] = omega arith
  first_le (x ∷ xs) = cases (t x) (λ e. rw e (omega arith)) (λ e. rw e (suc-le-suc (first_le xs)))

  pub first_passes : (xs : List A) (d : A) → first_index t xs < length xs → t (get_or xs (first_index t xs) d) ≡ true
  first_passes [] d h = absurd (not-suc-le-zero h)
  first_passes (x ∷ xs) d h =
      cases (t x) (λ e. rw e e) (λ e. rw e (first_passes xs d (le_of_suc-le-suc (rw e at h))))

  -- none that passes is before it
  pub first-before : (xs : List A) (d : A) (k : ℕ) → k < length xs → t (get_or xs k d) ≡ true → first_index t xs ≤ k
  first-before [] d k h e = absurd (not-suc-le-zero h)
  first-before (x ∷ xs) d zero h e = rw e (omega arith)
  first-before (x ∷ xs) d (suc k) h e =
      cases (t x) (λ q. rw q (omega arith)) (λ q. rw q (suc-le-suc (first-before xs d k (le_of_suc-le-suc h) e)))

  -- elements are changed, but none in what the test says of it
  pub first-map : (g : A → A) (xs : List A) → ((x : A) → t (g x) ≡ t x) → first_index t (map g xs) ≡ first_index t xs
  first-map g [] e = refl
  first-map g (x ∷ xs) e = rw (e x, first-map g xs e)

  pub first-map-none : (g : A → A) (xs : List A) → ((x : A) → t (g x) ≡ false) → first_index t (map g xs) ≡ length xs
  first-map-none g [] e = refl
  first-map-none g (x ∷ xs) e = rw (e x, first-map-none g xs e)

  -- one element is replaced
  pub first-set : (xs : List A) (k : ℕ) (y d : A) → t y ≡ false → t (get_or xs k d) ≡ false → first_index t (set xs k y) ≡ first_index t xs
  first-set [] k y d p q = refl
  first-set (x ∷ xs) zero y d p q = rw (p, q)
  first-set (x ∷ xs) (suc k) y d p q = rw (first-set xs k y d p q)

  pub first-set_here : (xs : List A) (k : ℕ) (y : A) → t y ≡ true → length xs ≤ first_index t xs → k < length xs → first_index t (set xs k y) ≡ k
  first-set_here [] k y p q h = absurd (not-suc-le-zero h)
  first-set_here (x ∷ xs) zero y p q h = rw p
  first-set_here (x ∷ xs) (suc k) y p q h =
      cases (t x)
      (λ e. absurd (not-suc-le-zero (rw e at q)))
      (λ e. rw e (ap suc (first-set_here xs k y p (le_of_suc-le-suc (rw e at q)) (le_of_suc-le-suc h))))
