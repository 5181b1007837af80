-- Laws of the join, one trip after another.
use mathlib.Core.Path.{◌≡◌, refl, ap, ◌∙◌}
use mathlib.Core.Logic.{◌≢◌}
use mathlib.Core.Bool.{true, ◌&&◌}
use mathlib.Core.List.{List, [], ◌∷◌}
use Prim.Native.Nat.{ℕ, ◌+◌, ◌≤◌, ◌<◌}
use native.Mathlib.Omega.{arith}
use lib.Dec.{eqb, leb}
use borrow.Author.Tests.{eq-eqb, ne_eqb, eqb-true, lt-ltb, le-ltb, le-leb}
use Rattle.memory.proofs.Cases.{split_eq, split_lt}
use Rattle.scan.specs.Scan.{every, same_bytes}
use Rattle.scan.proofs.Scan.{and_left, and_right, and_both, and-true}
use Rattle.scan.proofs.Same.{same_eq}
use Rattle.trip_list.specs.Trip.{Trip, trip, in_limits}
use Rattle.trip_list.specs.List.{valid_from}
use Rattle.trip_list.proofs.Claims.{first-valid}
use Rattle.trip_join.specs.Join.{same_rest, agreeing, agree, insert, join}

-- ---- the first of valid trips

module _ (n : ℕ) (t : Trip) (ts : List Trip) where
  -- those after it have later minutes
  pub later : valid_from n (t ∷ ts) ≡ true → valid_from (t.minute + 1) ts ≡ true
  later e = (first-valid n t ts e).rest

  pub rising : valid_from n (t ∷ ts) ≡ true → n ≤ t.minute
  rising e = (first-valid n t ts e).rises

  pub limited : valid_from n (t ∷ ts) ≡ true → in_limits t ≡ true
  limited e = and_left (in_limits t) (valid_from (t.minute + 1) ts) (and_right (leb n t.minute) (in_limits t && valid_from (t.minute + 1) ts) e)

  pub valid-cons : n ≤ t.minute → in_limits t ≡ true → valid_from (t.minute + 1) ts ≡ true → valid_from n (t ∷ ts) ≡ true
  valid-cons h e f = rw (le-leb _ _ h, e, f)

-- trips are valid from any minute up to the first's
pub raised : (n m : ℕ) (t : Trip) (ts : List Trip) → m ≤ t.minute → valid_from n (t ∷ ts) ≡ true → valid_from m (t ∷ ts) ≡ true
raised n m t ts h e = valid-cons m t ts h (limited n t ts e) (later n t ts e)

pub lowered : (n m : ℕ) (ts : List Trip) → m ≤ n → valid_from n ts ≡ true → valid_from m ts ≡ true
lowered n m [] h e = refl
lowered n m (t ∷ ts) h e = raised n m t ts (omega (arith, rising n t ts e)) e

-- ---- a trip inserted

-- before later trips, after an earlier one, in place of one of its minute
pub insert-first : (t : Trip) (us : List Trip) → valid_from (t.minute + 1) us ≡ true → insert t us ≡ t ∷ us
insert-first t [] e = refl
insert-first t (u ∷ us) e = let h : t.minute < u.minute = omega (arith, rising (t.minute + 1) u us e) in rw (lt-ltb _ _ h)

pub insert-after : (t u : Trip) (us : List Trip) → u.minute < t.minute → insert t (u ∷ us) ≡ u ∷ insert t us
insert-after t u us h = let l : u.minute ≤ t.minute = omega arith in rw (le-ltb _ _ l, lt-ltb _ _ h)

pub insert_same : (t u : Trip) (us : List Trip) → t.minute ≡ u.minute → insert t (u ∷ us) ≡ t ∷ us
insert_same t u us q =
    let l : u.minute ≤ t.minute = omega arith in
    let k : t.minute ≤ u.minute = omega arith in
    rw (le-ltb _ _ l, le-ltb _ _ k)

pub insert_cases : (Q : List Trip → Type 0) (t u : Trip) (us : List Trip) → (t.minute < u.minute → Q (t ∷ u ∷ us)) → (u.minute < t.minute → Q (u ∷ insert t us))
    → (t.minute ≡ u.minute → Q (t ∷ us)) → Q (insert t (u ∷ us))
insert_cases Q t u us first after same =
    split_lt t.minute u.minute
    (λ h. rw (lt-ltb _ _ h) (first h))
    (λ h. split_eq t.minute u.minute
    (λ q. rw (insert_same t u us q) (same q))
    (λ q. let l : u.minute < t.minute = omega arith in rw (insert-after t u us l) (after l)))

insert-valid : (n : ℕ) (t : Trip) (us : List Trip) → n ≤ t.minute → in_limits t ≡ true → valid_from n us ≡ true → valid_from n (insert t us) ≡ true
insert-valid n t [] h l e = valid-cons n t [] h l refl
insert-valid n t (u ∷ us) h l e =
    insert_cases (λ ts. valid_from n ts ≡ true) t u us
    (λ k. valid-cons n t (u ∷ us) h l (raised n (t.minute + 1) u us (omega arith) e))
    (λ k. valid-cons n u (insert t us) (rising n u us e) (limited n u us e) (insert-valid (u.minute + 1) t us (omega arith) l (later n u us e)))
    (λ q. valid-cons n t us h l (rw q (later n u us e)))

-- ---- the join

pub join-valid : (n : ℕ) (xs ys : List Trip) → valid_from n xs ≡ true → valid_from n ys ≡ true → valid_from n (join xs ys) ≡ true
join-valid n [] ys e f = f
join-valid n (a ∷ xs) ys e f =
    let r = rising n a xs e in
    insert-valid n a (join xs ys) r (limited n a xs e) (join-valid n xs ys (lowered (a.minute + 1) n xs (omega arith) (later n a xs e)) f)

-- a trip earlier than all others comes first
pub join_first : (a : Trip) (xs ys : List Trip) → valid_from (a.minute + 1) xs ≡ true → valid_from (a.minute + 1) ys ≡ true → join (a ∷ xs) ys ≡ a ∷ join xs ys
join_first a xs ys e f = insert-first a (join xs ys) (join-valid (a.minute + 1) xs ys e f)

pub join-second : (b : Trip) (xs ys : List Trip) → valid_from (b.minute + 1) xs ≡ true → join xs (b ∷ ys) ≡ b ∷ join xs ys
join-second b [] ys e = refl
join-second b (a ∷ xs) ys e =
    let r = rising (b.minute + 1) a xs e in
    let l = lowered (a.minute + 1) (b.minute + 1) xs (omega arith) (later (b.minute + 1) a xs e) in
    ap (insert a) (join-second b xs ys l) ∙ insert-after a b (join xs ys) (omega arith)

-- of two trips of one minute the first list's
pub join_both : (a b : Trip) (xs ys : List Trip) → a.minute ≡ b.minute → valid_from (a.minute + 1) xs ≡ true → join (a ∷ xs) (b ∷ ys) ≡ a ∷ join xs ys
join_both a b xs ys q e = ap (insert a) (join-second b xs ys (rw q at e)) ∙ insert_same a b (join xs ys) q

-- ---- agreement

-- trips of different minutes agree
pub agree_other : (a b : Trip) → a.minute ≢ b.minute → agreeing a b ≡ true
unfolding agreeing
agree_other a b h = rw (ne_eqb _ _ h)

agree-later : (a : Trip) (n : ℕ) (ys : List Trip) → a.minute < n → valid_from n ys ≡ true → every (agreeing a) ys ≡ true
agree-later a n [] h e = refl
agree-later a n (b ∷ ys) h e =
    let l = rising n b ys e in
    and_both (agreeing a b) (every (agreeing a) ys) (agree_other a b (λ q. omega arith)) (agree-later a (b.minute + 1) ys (omega arith) (later n b ys e))

pub agree-first : (a : Trip) (xs ys : List Trip) → valid_from (a.minute + 1) ys ≡ true → agree (a ∷ xs) ys ≡ agree xs ys
unfolding agree
agree-first a xs ys e = rw (agree-later a (a.minute + 1) ys (omega arith) e)

pub agree-second : (b : Trip) (xs ys : List Trip) → valid_from (b.minute + 1) xs ≡ true → agree xs (b ∷ ys) ≡ agree xs ys
unfolding agree
agree-second b [] ys e = refl
agree-second b (a ∷ xs) ys e =
    let r = rising (b.minute + 1) a xs e in
    let l = lowered (a.minute + 1) (b.minute + 1) xs (omega arith) (later (b.minute + 1) a xs e) in
    rw (agree_other a b (λ q. omega arith), agree-second b xs ys l)

pub agree_both : (a b : Trip) (xs ys : List Trip) → a.minute ≡ b.minute → valid_from (a.minute + 1) xs ≡ true → valid_from (a.minute + 1) ys ≡ true
    → agree (a ∷ xs) (b ∷ ys) ≡ same_rest a b && agree xs ys
unfolding agree agreeing
agree_both a b xs ys q e f =
    let x = agree-later a (a.minute + 1) ys (omega arith) f in
    let y = agree-second b xs ys (rw q at e) in
    rw (eq-eqb _ _ q, x, y, and-true (same_rest a b))

-- two trips of one minute with the same rest are one
pub same_trip : (a b : Trip) → a.minute ≡ b.minute → same_rest a b ≡ true → a ≡ b
unfolding same_rest
same_trip a b q e =
    let m = eqb-true a.metres b.metres (and_left (eqb a.metres b.metres) (same_bytes a.driver b.driver) e) in
    let d = same_eq a.driver b.driver (and_right (eqb a.metres b.metres) (same_bytes a.driver b.driver) e) in
    one a.minute b.minute a.metres b.metres a.driver b.driver q m d
  where
    one : (m n k l : ℕ) (d e : List ℕ) → m ≡ n → k ≡ l → d ≡ e → trip m k d ≡ trip n l e
    one m n k l d e x y z = rw (x, y, z)
