-- Laws of zeros, parts and overwriting: the length, and the byte at each index.
use mathlib.Core.Path.{◌≡◌, refl, sym, ap, ◌∙◌}
use mathlib.Core.List.{List, [], ◌∷◌, ◌++◌}
use Prim.Native.Nat.{ℕ, zero, suc, ◌+◌, ◌-◌, ◌<◌, ◌≤◌, min}
use native.Mathlib.Omega.{arith}
use native.Mathlib.Nat.{not-suc-le-zero, le_of_suc-le-suc, zero-add, suc-add, add-suc, sub-zero, suc-sub-suc}
use native.Mathlib.Numerals.{add-one}
use lib.ListN.{length, get_or, set, take, drop, replicate, length-take, length-drop, length-replicate}
use lib.Seq.{take-nil, drop-nil, take_all, take-take, take-add, drop-drop, get_or-take, get_or-drop, take-append_seam}
use borrow.Rule.Slice.PartMut.{put_mid}
use Rattle.memory.specs.Bytes.{zeros, part, overwrite}

-- ---- zeros

pub get_or-zeros : (n i : ℕ) → get_or (zeros n) i 0 ≡ 0
get_or-zeros zero i = refl
get_or-zeros (suc n) zero = refl
get_or-zeros (suc n) (suc i) = get_or-zeros n i

-- as many of many equal elements
pub take-replicate : (n m x : ℕ) → n ≤ m → take n (replicate m x) ≡ replicate n x
take-replicate zero m x h = refl
take-replicate (suc n) zero x h = absurd (not-suc-le-zero h)
take-replicate (suc n) (suc m) x h = ap (λ (l : List ℕ). x ∷ l) (take-replicate n m x (le_of_suc-le-suc h))

-- ---- parts

-- what a callee left in the front
pub take-front : (n : ℕ) (xs ys : List ℕ) → length xs ≡ n → take n (xs ++ ys) ≡ xs
take-front n xs ys e = rw (← e) (take-append_seam xs ys)

pub length_front : (n : ℕ) (xs : List ℕ) → n ≤ length xs → length (take n xs) ≡ n
length_front n xs h = simp length-take (omega arith)

-- all from index n on
pub rest-whole : (n : ℕ) (xs : List ℕ) → part xs n (length xs - n) ≡ drop n xs
rest-whole n xs = let h : length (drop n xs) ≤ length xs - n = omega (arith, length-drop n xs) in take_all _ _ h

module _ (xs : List ℕ) (a n : ℕ) where
  pub length_part : a + n ≤ length xs → length (part xs a n) ≡ n
  length_part h = simp (length-take, length-drop) (omega arith)

  pub get_d_part : (i : ℕ) → i < n → get_or (part xs a n) i 0 ≡ get_or xs (a + i) 0
  get_d_part i h = rw (get_or-take, get_or-drop)

-- ---- overwriting

pub length-overwrite : (xs : List ℕ) (a : ℕ) (ys : List ℕ) → length (overwrite xs a ys) ≡ length xs
length-overwrite [] a ys = refl
length-overwrite (x ∷ xs) (suc a) ys = ap suc (length-overwrite xs a ys)
length-overwrite (x ∷ xs) zero [] = refl
length-overwrite (x ∷ xs) zero (y ∷ ys) = ap suc (length-overwrite xs zero ys)

pub overwrite-none : (xs : List ℕ) (a : ℕ) → overwrite xs a [] ≡ xs
overwrite-none [] a = refl
overwrite-none (x ∷ xs) (suc a) = ap (λ (l : List ℕ). x ∷ l) (overwrite-none xs a)
overwrite-none (x ∷ xs) zero = refl

-- the byte before, in and after what is laid over
pub overwrite-before : (xs : List ℕ) (a : ℕ) (ys : List ℕ) (i : ℕ) → i < a → get_or (overwrite xs a ys) i 0 ≡ get_or xs i 0
overwrite-before [] a ys i h = refl
overwrite-before (x ∷ xs) (suc a) ys zero h = refl
overwrite-before (x ∷ xs) (suc a) ys (suc i) h = overwrite-before xs a ys i (le_of_suc-le-suc h)
overwrite-before (x ∷ xs) zero ys i h = absurd (not-suc-le-zero h)

pub overwrite_in : (xs : List ℕ) (a : ℕ) (ys : List ℕ) (i : ℕ) → a ≤ i → i < a + length ys → i < length xs → get_or (overwrite xs a ys) i 0 ≡ get_or ys (i - a) 0
overwrite_in [] a ys i h k l = absurd (not-suc-le-zero l)
overwrite_in (x ∷ xs) (suc a) ys zero h k l = absurd (not-suc-le-zero h)
overwrite_in (x ∷ xs) (suc a) ys (suc i) h k l = rw suc-sub-suc (overwrite_in xs a ys i (le_of_suc-le-suc h) (omega arith) (le_of_suc-le-suc l))
overwrite_in (x ∷ xs) zero [] i h k l = absurd (omega arith)
overwrite_in (x ∷ xs) zero (y ∷ ys) zero h k l = refl
overwrite_in (x ∷ xs) zero (y ∷ ys) (suc i) h k l =
    rw sub-zero (rw sub-zero at (overwrite_in xs zero ys i (omega arith) (omega arith) (le_of_suc-le-suc l)))

pub overwrite-after : (xs : List ℕ) (a : ℕ) (ys : List ℕ) (i : ℕ) → a + length ys ≤ i → get_or (overwrite xs a ys) i 0 ≡ get_or xs i 0
overwrite-after [] a ys i h = refl
overwrite-after (x ∷ xs) (suc a) ys zero h = absurd (omega arith)
overwrite-after (x ∷ xs) (suc a) ys (suc i) h = overwrite-after xs a ys i (omega arith)
overwrite-after (x ∷ xs) zero [] i h = refl
overwrite-after (x ∷ xs) zero (y ∷ ys) zero h = absurd (omega arith)
overwrite-after (x ∷ xs) zero (y ∷ ys) (suc i) h = overwrite-after xs zero ys i (omega arith)

-- a list as long as the whole takes its place
pub overwrite-whole : (xs ys : List ℕ) → length ys ≡ length xs → overwrite xs 0 ys ≡ ys
overwrite-whole [] [] e = refl
overwrite-whole [] (y ∷ ys) e = absurd (omega arith)
overwrite-whole (x ∷ xs) [] e = absurd (omega arith)
overwrite-whole (x ∷ xs) (y ∷ ys) e = ap (λ (l : List ℕ). y ∷ l) (overwrite-whole xs ys (omega arith))

-- what does not fit is left out
pub overwrite-fits : (xs ys : List ℕ) (n : ℕ) → min (length xs) (length ys) ≤ n → overwrite xs 0 (take n ys) ≡ overwrite xs 0 ys
overwrite-fits [] ys n h = refl
overwrite-fits (x ∷ xs) [] zero h = refl
overwrite-fits (x ∷ xs) [] (suc n) h = refl
overwrite-fits (x ∷ xs) (y ∷ ys) zero h = absurd (omega arith)
overwrite-fits (x ∷ xs) (y ∷ ys) (suc n) h = ap (λ (l : List ℕ). y ∷ l) (overwrite-fits xs ys n (omega arith))

-- the front, up to a byte of what was laid over
pub take-overwrite : (xs : List ℕ) (a : ℕ) (ys : List ℕ) (n : ℕ) → a + n ≤ length xs → n ≤ length ys → take (a + n) (overwrite xs a ys) ≡ take a xs ++ take n ys
take-overwrite [] a ys n h k = let e : a ≡ 0 = omega arith in let z : n ≡ 0 = omega arith in rw (e, z)
take-overwrite (x ∷ xs) (suc a) ys n h k = rw suc-add (ap (λ (l : List ℕ). x ∷ l) (take-overwrite xs a ys n (omega arith) k))
take-overwrite (x ∷ xs) zero ys zero h k = refl
take-overwrite (x ∷ xs) zero [] (suc n) h k = absurd (not-suc-le-zero k)
take-overwrite (x ∷ xs) zero (y ∷ ys) (suc n) h k = rw add-suc (ap (λ (l : List ℕ). y ∷ l) (take-overwrite xs zero ys n (omega arith) (le_of_suc-le-suc k)))

pub take-copied : (xs ys : List ℕ) (n : ℕ) → length ys ≡ n → n ≤ length xs → take n (overwrite xs 0 ys) ≡ ys
take-copied xs ys n e h = rw zero-add at (take-overwrite xs 0 ys n (omega arith) (omega arith)) ∙ take_all n ys (omega arith)

-- one byte more
pub overwrite-next : (xs ys : List ℕ) (i : ℕ) → i < length xs → i < length ys → set (overwrite xs 0 (take i ys)) i (get_or ys i 0) ≡ overwrite xs 0 (take (i + 1) ys)
overwrite-next xs ys i h k = rw add-one (go xs ys i h k)
  where
    go : (xs ys : List ℕ) (i : ℕ) → i < length xs → i < length ys → set (overwrite xs 0 (take i ys)) i (get_or ys i 0) ≡ overwrite xs 0 (take (suc i) ys)
    go [] ys i h k = absurd (not-suc-le-zero h)
    go (x ∷ xs) [] i h k = absurd (not-suc-le-zero k)
    go (x ∷ xs) (y ∷ ys) zero h k = ap (λ (l : List ℕ). y ∷ l) (sym (overwrite-none xs 0))
    go (x ∷ xs) (y ∷ ys) (suc i) h k = ap (λ (l : List ℕ). y ∷ l) (go xs ys i (le_of_suc-le-suc h) (le_of_suc-le-suc k))

-- cut at the ends of what is laid over
pub overwrite-cut : (xs : List ℕ) (a : ℕ) (ys : List ℕ) → a + length ys ≤ length xs → overwrite xs a ys ≡ take a xs ++ (ys ++ drop (a + length ys) xs)
overwrite-cut [] a [] h = simp (take-nil, drop-nil)
overwrite-cut [] a (y ∷ ys) h = absurd (omega arith)
overwrite-cut (x ∷ xs) (suc a) ys h = rw suc-add (ap (λ (l : List ℕ). x ∷ l) (overwrite-cut xs a ys (omega arith)))
overwrite-cut (x ∷ xs) zero [] h = refl
overwrite-cut (x ∷ xs) zero (y ∷ ys) h =
    rw zero-add (ap (λ (l : List ℕ). y ∷ l) (rw zero-add at (overwrite-cut xs zero ys (omega arith))))

pub overwrite-front : (xs ys : List ℕ) (n : ℕ) → length ys ≡ n → n ≤ length xs → ys ++ drop n xs ≡ overwrite xs 0 ys
overwrite-front xs ys n e h = rw (← e) (rw zero-add at (sym (overwrite-cut xs 0 ys (omega arith))))

-- one list after another
pub overwrite-join_at : (xs : List ℕ) (a : ℕ) (ys zs : List ℕ) → overwrite xs a (ys ++ zs) ≡ overwrite (overwrite xs a ys) (a + length ys) zs
overwrite-join_at [] a ys zs = refl
overwrite-join_at (x ∷ xs) (suc a) ys zs = rw suc-add (ap (λ (l : List ℕ). x ∷ l) (overwrite-join_at xs a ys zs))
overwrite-join_at (x ∷ xs) zero [] zs = refl
overwrite-join_at (x ∷ xs) zero (y ∷ ys) zs = rw add-suc (ap (λ (l : List ℕ). y ∷ l) (overwrite-join_at xs zero ys zs))

pub overwrite-join : (xs ys zs : List ℕ) → overwrite xs 0 (ys ++ zs) ≡ overwrite (overwrite xs 0 ys) (length ys) zs
overwrite-join xs ys zs = rw zero-add at (overwrite-join_at xs 0 ys zs)

-- a list of one byte, and the first byte of any
pub overwrite_one : (xs : List ℕ) (a b : ℕ) → overwrite xs a (b ∷ []) ≡ set xs a b
overwrite_one [] a b = refl
overwrite_one (x ∷ xs) (suc a) b = ap (λ (l : List ℕ). x ∷ l) (overwrite_one xs a b)
overwrite_one (x ∷ xs) zero b = ap (λ (l : List ℕ). b ∷ l) (overwrite-none xs 0)

pub overwrite-first : (xs : List ℕ) (a b : ℕ) (ys : List ℕ) → overwrite xs a (b ∷ ys) ≡ overwrite (set xs a b) (a + 1) ys
overwrite-first xs a b ys = overwrite-join_at xs a (b ∷ []) ys ∙ rw overwrite_one

-- zeros after what is laid over the front
pub overwrite_pad : (xs ys : List ℕ) (n : ℕ) → n ≡ min (length xs) (length ys) → overwrite (overwrite xs 0 ys) n (zeros (length xs - n)) ≡ overwrite (zeros (length xs)) 0 ys
overwrite_pad [] ys n e = refl
overwrite_pad (x ∷ xs) [] zero e = rw sub-zero (overwrite-whole (x ∷ xs) (zeros (suc (length xs))) (length-replicate {A = ℕ} (suc (length xs)) 0))
overwrite_pad (x ∷ xs) [] (suc n) e = absurd (omega arith)
overwrite_pad (x ∷ xs) (y ∷ ys) zero e = absurd (omega arith)
overwrite_pad (x ∷ xs) (y ∷ ys) (suc n) e = rw suc-sub-suc (ap (λ (l : List ℕ). y ∷ l) (overwrite_pad xs ys n (omega arith)))

-- what a callee that borrowed `&mut xs[a..e]` left there, said of the whole
pub put_back : (a e : ℕ) (xs ys : List ℕ) → length ys ≡ e - a → a ≤ e → e ≤ length xs → put_mid a (e - a) xs ys ≡ overwrite xs a ys
put_back a e xs ys h k l = rw (overwrite-cut xs a ys (omega arith), ← h, drop-drop)

-- the part was cleared
pub put_zeros : (a e : ℕ) (xs ys : List ℕ) → ys ≡ zeros (length (part xs a (e - a))) → a ≤ e → e ≤ length xs → put_mid a (e - a) xs ys ≡ overwrite xs a (zeros (e - a))
put_zeros a e xs ys h k l =
    let q : ys ≡ zeros (e - a) = h ∙ ap zeros (length_part xs a (e - a) (omega arith)) in
    rw q (put_back a e xs (zeros (e - a)) (length-replicate (e - a) 0) k l)

-- laid over a part
over_part : (xs : List ℕ) (a n : ℕ) (zs : List ℕ) → length zs ≤ n → overwrite xs a (overwrite (part xs a n) 0 zs) ≡ overwrite xs a zs
over_part [] a n zs h = refl
over_part (x ∷ xs) (suc a) n zs h = ap (λ (l : List ℕ). x ∷ l) (over_part xs a n zs h)
over_part (x ∷ xs) zero n zs h = go (x ∷ xs) n zs h
  where
    go : (xs : List ℕ) (n : ℕ) (zs : List ℕ) → length zs ≤ n → overwrite xs 0 (overwrite (take n xs) 0 zs) ≡ overwrite xs 0 zs
    go [] n zs h = refl
    go (x ∷ xs) zero [] h = refl
    go (x ∷ xs) zero (z ∷ zs) h = absurd (not-suc-le-zero h)
    go (x ∷ xs) (suc n) [] h = ap (λ (l : List ℕ). x ∷ l) (rw (overwrite-none (take n xs) 0, overwrite-none xs 0) at (go xs n [] (omega arith)))
    go (x ∷ xs) (suc n) (z ∷ zs) h = ap (λ (l : List ℕ). z ∷ l) (go xs n zs (le_of_suc-le-suc h))

-- the front of the part was copied over
pub put_copy : (a e : ℕ) (xs ys zs : List ℕ) → ys ≡ overwrite (part xs a (e - a)) 0 zs → length zs ≤ e - a → a ≤ e → e ≤ length xs
    → put_mid a (e - a) xs ys ≡ overwrite xs a zs
put_copy a e xs ys zs h l k m =
    let n : length ys ≡ e - a = ap length h ∙ length-overwrite (part xs a (e - a)) 0 zs ∙ length_part xs a (e - a) (omega arith) in
    put_back a e xs ys n k m ∙ rw h (over_part xs a (e - a) zs l)

-- the next bytes of a list, after its first ones were laid over the front
pub put_next : (a e k m : ℕ) (xs ys ws zs : List ℕ) → ws ≡ overwrite xs 0 (take a ys) → zs ≡ overwrite (part ws a (e - a)) 0 (take m (part ys a (k - a)))
    → a ≤ length ys → a ≤ e → e ≤ length ws → m ≤ e - a → m ≤ k - a → put_mid a (e - a) ws zs ≡ overwrite xs 0 (take (a + m) ys)
put_next a e k m xs ys ws zs w z h i l n o =
    let short : length (part ys a m) ≤ e - a = simp length-take (omega arith) in
    put_copy a e ws zs (part ys a m) (z ∙ rw (take-take m (k - a) (drop a ys) o)) short i l
    ∙ rw (w, take-add a m ys) (rw (length_front a ys h) at (sym (overwrite-join xs (take a ys) (part ys a m))))

pub length_put : (a e : ℕ) (xs ys : List ℕ) → length ys ≡ e - a → a ≤ e → e ≤ length xs → length (put_mid a (e - a) xs ys) ≡ length xs
length_put a e xs ys l k m = rw (put_back a e xs ys l k m) (length-overwrite xs a ys)
