-- The layout written and read: the steps of its loops, and that both ways are inverse.
use mathlib.Core.Path.{◌≡◌, refl, sym, ap, ◌∙◌}
use mathlib.Core.List.{List, [], ◌∷◌, ◌++◌, append-nil, append_assoc}
use Prim.Native.Nat.{ℕ, zero, suc, ◌+◌, ◌*◌, ◌≤◌, ◌<◌}
use native.Mathlib.Nat.{not-suc-le-zero, le_of_suc-le-suc, mul-suc, mul-zero, zero-add, add-zero, add_comm}
use native.Mathlib.Numerals.{add-one}
use native.Mathlib.Omega.{arith}
use lib.ListN.{length, get_or, take, set, length-append, length-set, get_or-append}
use lib.Seq.{get_or-append-add, get_or-append_seam, ext_get_or, take-add, drop-drop}
use denote.Param.Members.{Mut, Called}
use Rattle.std.specs.Array.{IsFromFnResultFrom, IsFromFnResult}
use Rattle.std.specs.List.{flat_map}
use Rattle.memory.specs.Bytes.{part, overwrite}
use Rattle.memory.proofs.Cases.{split_lt}
use Rattle.memory.proofs.Bytes.{overwrite-join_at, overwrite-whole, overwrite-first}
use borrow.Author.Tests.{eq-eqb}
use Rattle.media.specs.Geometry.{files}
use Rattle.device.specs.declared.CacheState.{CacheState}
use Rattle.device.specs.Device.{slot_count}
use Rattle.state_bytes.specs.Encoding.{state_bytes, slots_start, logical_start, floor_start, slot_bytes, number_bytes, concat_map, each, encode, encoded}

-- ---- bytes one after the other

-- the up mark, then three runs of bytes: all that the buffer has
pub laid-whole : (xs : List ℕ) (m : ℕ) (us vs ws : List ℕ) → length xs ≡ 137 → length us ≡ 72 → length vs ≡ 32 → length ws ≡ 32
    → overwrite (overwrite (overwrite (set xs 0 m) 1 us) 73 vs) 105 ws ≡ m ∷ (us ++ (vs ++ ws))
laid-whole xs m us vs ws e a b c =
    sym
    (overwrite-first xs 0 m (us ++ (vs ++ ws))
    ∙ rw (overwrite-join_at (set xs 0 m) 1 us (vs ++ ws), overwrite-join_at (overwrite (set xs 0 m) 1 us) (1 + length us) vs ws, a, b))
    ∙ overwrite-whole xs (m ∷ (us ++ (vs ++ ws))) (rw (length-append, length-append, a, b, c) (sym e))

-- ---- the bytes of each element, one after the other

concat_map-next : {A : Type 0} (g : A → List ℕ) (xs : List A) (i : ℕ) (d : A) → i < length xs → concat_map g (take (suc i) xs) ≡ concat_map g (take i xs) ++ g (get_or xs i d)
concat_map-next g [] i d h = absurd (not-suc-le-zero h)
concat_map-next g (x ∷ xs) zero d h = append-nil (g x)
concat_map-next g (x ∷ xs) (suc i) d h =
    ap (λ (l : List ℕ). g x ++ l) (concat_map-next g xs i d (le_of_suc-le-suc h)) ∙ sym (append_assoc (g x) (concat_map g (take i xs)) (g (get_or xs i d)))

concat_map-append : {A : Type 0} (g : A → List ℕ) (xs ys : List A) → concat_map g (xs ++ ys) ≡ concat_map g xs ++ concat_map g ys
concat_map-append g [] ys = refl
concat_map-append g (x ∷ xs) ys = ap (λ (l : List ℕ). g x ++ l) (concat_map-append g xs ys) ∙ sym (append_assoc (g x) (concat_map g xs) (concat_map g ys))

-- elements of c bytes each
module _ {A : Type 0} (c : ℕ) (g : A → List ℕ) (wide : (x : A) → length (g x) ≡ c) where
  pub length-concat_map : (xs : List A) → length (concat_map g xs) ≡ c * length xs
  length-concat_map [] = sym (mul-zero c)
  length-concat_map (x ∷ xs) = length-append (g x) (concat_map g xs) ∙ rw (wide x, length-concat_map xs, mul-suc) (add_comm c (c * length xs))

  length_taken : (xs : List A) (k : ℕ) → k ≤ length xs → length (concat_map g (take k xs)) ≡ c * k
  length_taken xs zero h = sym (mul-zero c)
  length_taken [] (suc k) h = absurd (not-suc-le-zero h)
  length_taken (x ∷ xs) (suc k) h =
      length-append (g x) (concat_map g (take k xs)) ∙ rw (wide x, length_taken xs k (le_of_suc-le-suc h), mul-suc) (add_comm c (c * k))

  -- one more element is laid behind those before it
  pub put_next : (s : List ℕ) (a : ℕ) (xs : List A) (k : ℕ) (d : A) → k < length xs
      → overwrite (overwrite s a (concat_map g (take k xs))) (a + c * k) (g (get_or xs k d)) ≡ overwrite s a (concat_map g (take (k + 1) xs))
  put_next s a xs k d h =
      rw (add-one, concat_map-next g xs k d h, overwrite-join_at s a (concat_map g (take k xs)) (g (get_or xs k d)), length_taken xs k (omega arith))

  -- byte j of element k
  pub concat_map_at : (xs : List A) (ys : List ℕ) (k j : ℕ) (d : A) → k < length xs → j < c → get_or (concat_map g xs ++ ys) (c * k + j) 0 ≡ get_or (g (get_or xs k d)) j 0
  concat_map_at [] ys k j d h l = absurd (not-suc-le-zero h)
  concat_map_at (x ∷ xs) ys zero j d h l =
      rw (append_assoc (g x) (concat_map g xs) ys, mul-zero, zero-add) (get_or-append (g x) (concat_map g xs ++ ys) 0 j (rw (wide x) l))
  concat_map_at (x ∷ xs) ys (suc k) j d h l =
      rw (append_assoc (g x) (concat_map g xs) ys, mul-suc)
      (ap (λ (n : ℕ). get_or (g x ++ (concat_map g xs ++ ys)) n 0) (shift x k) ∙ get_or-append-add (g x) (concat_map g xs ++ ys) (c * k + j) 0 ∙ concat_map_at xs ys k j d (le_of_suc-le-suc h) l)
    where
      shift : (x : A) (k : ℕ) → c * k + c + j ≡ length (g x) + (c * k + j)
      shift x k = rw (wide x) (omega arith)

  -- what stands behind all of them
  pub concat_map_past : (xs : List A) (ys : List ℕ) (n : ℕ) → get_or (concat_map g xs ++ ys) (c * length xs + n) 0 ≡ get_or ys n 0
  concat_map_past xs ys n = rw (← length-concat_map xs) (get_or-append-add (concat_map g xs) ys n 0)

-- ---- what is given for each number

module _ {A : Type 0} where
  pub length-each : (n : ℕ) (g : ℕ → A) → length (each n g) ≡ n
  length-each zero g = refl
  length-each (suc n) g = length-append (each n g) (g n ∷ []) ∙ rw (length-each n g) (omega arith)

  pub get_or-each : (n : ℕ) (g : ℕ → A) (k : ℕ) (d : A) → k < n → get_or (each n g) k d ≡ g k
  get_or-each zero g k d h = absurd (not-suc-le-zero h)
  get_or-each (suc n) g k d h =
      split_lt k n
      (λ l. get_or-append (each n g) (g n ∷ []) d k (rw (length-each n g) l) ∙ get_or-each n g k d l)
      (λ m.
      let e : k ≡ n = omega arith in
      rw e (rw (length-each n g) at (get_or-append_seam (each n g) (g n) [] d)))

  -- a list whose elements these are
  pub each_is : (n : ℕ) (g : ℕ → A) (xs : List A) (d : A) → length xs ≡ n → ((k : ℕ) → k < n → g k ≡ get_or xs k d) → each n g ≡ xs
  each_is n g xs d e h =
      ext_get_or d (each n g) xs (length-each n g ∙ sym e)
      (λ k l. let m : k < n = rw (length-each n g) at l in get_or-each n g k d m ∙ h k m)

  -- what calls at each number below n gave
  module _ {F : Type 0} (g : Mut F (ℕ × Unit {0}) A) (f : F) (h : ℕ → A) (same : (k : ℕ) (y : A) (q : F) → Called g f (k, tt) y q → (q ≡ f) × (y ≡ h k)) where
    called_from : (ys : List A) (i n : ℕ) → IsFromFnResultFrom g f ys i n → (k : ℕ) (d : A) → k < n → get_or ys (i + k) d ≡ h (i + k)
    called_from ys i zero w k d l = absurd (not-suc-le-zero l)
    called_from ys i (suc n) (q, y, e, w, ws) zero d l = rw add-zero (e.1 d ∙ (same i y q w).1)
    called_from ys i (suc n) (q, y, e, w, ws) (suc k) d l =
        let m : i + suc k ≡ i + 1 + k = omega arith in
        rw m (called_from ys (i + 1) n (rw (same i y q w).0 at ws) k d (le_of_suc-le-suc l))

    pub from_fn_each : (ys : List A) (n : ℕ) (d : A) → IsFromFnResult g f ys n → ys ≡ each n h
    from_fn_each ys n d w = sym (each_is n h ys d w.long (λ k l. rw zero-add at (sym (called_from ys 0 n w.each k d l))))

-- what a call at each element gave, one after the other
pub flat-mapped : {A : Type 0} (g : A → List ℕ) (xs : List A) (ys : List (List ℕ)) → length ys ≡ length xs
    → ((i : ℕ) (d : A) (e : List ℕ) → i < length xs → get_or ys i e ≡ g (get_or xs i d)) → flat_map (λ y. y) ys ≡ concat_map g xs
flat-mapped g [] [] e h = refl
flat-mapped g [] (y ∷ ys) e h = absurd (omega arith)
flat-mapped g (x ∷ xs) [] e h = absurd (omega arith)
flat-mapped g (x ∷ xs) (y ∷ ys) e h = rw (h 0 x y (omega arith), flat-mapped g xs ys (omega arith) (λ i d f k. h (suc i) d f (omega arith)))

-- the bytes that stood where each element was read
pub concat_map-each : {A : Type 0} (c : ℕ) (g : A → List ℕ) (f : ℕ → A) (bytes : List ℕ) (a n : ℕ)
    → ((k : ℕ) → k < n → g (f k) ≡ part bytes (a + c * k) c) → concat_map g (each n f) ≡ part bytes a (c * n)
concat_map-each c g f bytes a zero h = rw (mul-zero c)
concat_map-each c g f bytes a (suc n) h =
    concat_map-append g (each n f) (f n ∷ [])
    ∙ rw (append-nil, concat_map-each c g f bytes a n (λ k l. h k (omega arith)), h n (omega arith), mul-suc, take-add, drop-drop)

-- ---- the whole state

pub length_marked : (xs : List ℕ) (m : ℕ) → length xs ≡ state_bytes → length (set xs 0 m) ≡ state_bytes
length_marked xs m e = length-set xs 0 m ∙ e

-- written in four steps
pub laid : (s : CacheState) (xs x y z : List ℕ) → length xs ≡ state_bytes
    → length s.slots ≡ slot_count → length s.logical ≡ files → length s.floor ≡ files
    → x ≡ overwrite (set xs 0 s.mounted) slots_start (concat_map slot_bytes s.slots)
    → y ≡ overwrite x logical_start (concat_map number_bytes s.logical)
    → z ≡ overwrite y floor_start (concat_map number_bytes s.floor)
    → z ≡ encoded s xs
unfolding encoded encode
laid s xs x y z e p q r a b c =
    rw (c, b, a, eq-eqb (length xs) state_bytes e)
    (laid-whole xs s.mounted _ _ _ e
    (length-concat_map 3 slot_bytes (λ t. refl) s.slots ∙ rw p)
    (length-concat_map 4 number_bytes (λ n. refl) s.logical ∙ rw q)
    (length-concat_map 4 number_bytes (λ n. refl) s.floor ∙ rw r))

-- a buffer of the length of a state
pub encoded-length : (s : CacheState) (before : List ℕ) → length before ≡ state_bytes → encoded s before ≡ encode s
unfolding encoded
encoded-length s before e = rw (eq-eqb (length before) state_bytes e)
