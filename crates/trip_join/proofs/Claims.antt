-- What holds of joined lists of trips: each trip of either is in the result, no others are, in minute order.
use mathlib.Core.Path.{◌≡◌, refl, sym, ap, ◌∙◌}
use mathlib.Core.Logic.{◌≢◌, ◌⊎◌, inl, inr, ⊎_elim}
use mathlib.Core.Bool.{true, false}
use mathlib.Core.List.Memᴰ
use mathlib.Core.List.{List, [], ◌∷◌, Memᴰ}
use Prim.Native.Nat.{ℕ, ◌+◌, ◌≤◌, ◌<◌}
use native.Mathlib.Omega.{arith}
use lib.Dec.{eqb}
use lib.ListN.{length, get_or}
use borrow.Author.Tests.{eq-eqb, eqb-false}
use borrow.Table.Steps.{cases}
use Rattle.memory.proofs.Cases.{split_eq, split_lt}
use Rattle.scan.specs.Scan.{every, same_bytes}
use Rattle.scan.proofs.Scan.{is_false, true-not-false, every_member, member_fails}
use Rattle.scan.proofs.Same.{same_self}
use Rattle.trip_list.specs.Trip.{Trip}
use Rattle.trip_list.specs.List.{valid_from, valid}
use Rattle.trip_list.proofs.Claims.{minutes_rise}
use Rattle.trip_join.specs.Join.{same_rest, agreeing, agree, insert, join}
use Rattle.trip_join.proofs.Laws.{later, rising, insert_cases, join-valid, agree_other, same_trip}

-- ---- the trips of a valid list

module _ (t : Trip) where
  member_from : (n : ℕ) (ts : List Trip) → valid_from n ts ≡ true → Memᴰ t ts → n ≤ t.minute
  member_from n [] e m = absurd (Memᴰ.not-nil m)
  member_from n (u ∷ us) e m =
      ⊎_elim
      (λ q. omega (arith, rising n u us e, ap (λ (v : Trip). v.minute) q))
      (λ k. omega (arith, rising n u us e, member_from (u.minute + 1) us (later n u us e) k))
      (Memᴰ.cases_cons m)

-- one minute is one trip
one_minute : (n : ℕ) (ts : List Trip) (t u : Trip) → valid_from n ts ≡ true → Memᴰ t ts → Memᴰ u ts → t.minute ≡ u.minute → t ≡ u
one_minute n [] t u e m k q = absurd (Memᴰ.not-nil m)
one_minute n (v ∷ vs) t u e m k q =
    let r = later n v vs e in
    ⊎_elim
    (λ a. ⊎_elim
    (λ b. a ∙ sym b)
    (λ b. absurd (omega (arith, member_from u (v.minute + 1) vs r b, ap (λ (w : Trip). w.minute) a)))
    (Memᴰ.cases_cons k))
    (λ a. ⊎_elim
    (λ b. absurd (omega (arith, member_from t (v.minute + 1) vs r a, ap (λ (w : Trip). w.minute) b)))
    (λ b. one_minute (v.minute + 1) vs t u r a b q)
    (Memᴰ.cases_cons k))
    (Memᴰ.cases_cons m)

members_from : (n : ℕ) (xs ys : List Trip) → valid_from n xs ≡ true → valid_from n ys ≡ true
    → ((t : Trip) → Memᴰ t xs → Memᴰ t ys) → ((t : Trip) → Memᴰ t ys → Memᴰ t xs) → xs ≡ ys
members_from n [] [] e f to back = refl
members_from n [] (y ∷ ys) e f to back = absurd (Memᴰ.not-nil (back y (Memᴰ.head refl)))
members_from n (x ∷ xs) [] e f to back = absurd (Memᴰ.not-nil (to x (Memᴰ.head refl)))
members_from n (x ∷ xs) (y ∷ ys) e f to back =
    let r = later n x xs e in
    let s = later n y ys f in
    let first : x ≡ y =
    ⊎_elim
    (λ q. q)
    (λ a. ⊎_elim
    (λ q. sym q)
    (λ b. absurd (omega (arith, member_from x (y.minute + 1) ys s a, member_from y (x.minute + 1) xs r b)))
    (Memᴰ.cases_cons (back y (Memᴰ.head refl))))
    (Memᴰ.cases_cons (to x (Memᴰ.head refl))) in
    let minute = ap (λ (v : Trip). v.minute) first in
    let rest : xs ≡ ys =
    members_from (x.minute + 1) xs ys r (rw minute s)
    (λ t m. ⊎_elim
    (λ q. absurd (omega (arith, member_from t (x.minute + 1) xs r m, ap (λ (v : Trip). v.minute) q)))
    (λ k. k)
    (Memᴰ.cases_cons (to t (Memᴰ.tail m))))
    (λ t m. ⊎_elim
    (λ q. absurd (omega (arith, member_from t (y.minute + 1) ys s m, ap (λ (v : Trip). v.minute) q)))
    (λ k. k)
    (Memᴰ.cases_cons (back t (Memᴰ.tail m)))) in
    rw (first, rest)

-- two valid lists with the same trips are one
pub same_members : (xs ys : List Trip) → valid xs ≡ true → valid ys ≡ true
    → ((t : Trip) → Memᴰ t xs → Memᴰ t ys) → ((t : Trip) → Memᴰ t ys → Memᴰ t xs) → xs ≡ ys
same_members = members_from 0

-- ---- which lists agree

agreed : (t u : Trip) → agreeing t u ≡ true → t.minute ≡ u.minute → t ≡ u
unfolding agreeing
agreed t u e q = same_trip t u q (rw (eq-eqb _ _ q) at e)

-- a trip of each list, of one minute, with other metres or another driver
pub record Conflict (xs ys : List Trip) : Type 0 where
  pub first : Trip
  pub second : Trip
  pub in_first : Memᴰ first xs
  pub in_second : Memᴰ second ys
  pub minute : first.minute ≡ second.minute
  pub differ : (first.metres ≢ second.metres) ⊎ (first.driver ≢ second.driver)

disagreeing : (t u : Trip) → agreeing t u ≡ false → (t.minute ≡ u.minute) × ((t.metres ≢ u.metres) ⊎ (t.driver ≢ u.driver))
unfolding agreeing same_rest
disagreeing t u e =
    split_eq t.minute u.minute
    (λ q. (
      q,
      cases (eqb t.metres u.metres)
          (λ m. inr (λ d. true-not-false (same_bytes t.driver u.driver) (rw d (same_self u.driver)) (rw (eq-eqb _ _ q, m) at e)))
          (λ m. inl (eqb-false _ _ m)),
    ))
    (λ q. absurd (true-not-false (agreeing t u) (agree_other t u q) e))

module _ (xs ys : List Trip) where
  -- of lists that agree any two trips of one minute are equal
  pub agree_all : agree xs ys ≡ true → (t u : Trip) → Memᴰ t xs → Memᴰ u ys → t.minute ≡ u.minute → t ≡ u
  unfolding agree
  agree_all e t u m k q = agreed t u (every_member (agreeing t) ys u (every_member (λ v. every (agreeing v) ys) xs t e m) k) q

  -- lists that do not agree have a conflict
  pub disagree : agree xs ys ≡ false → Conflict xs ys
  unfolding agree
  disagree e =
      let a = member_fails (λ v. every (agreeing v) ys) xs e in
      let b = member_fails (agreeing a.0) ys a.2 in
      let d = disagreeing a.0 b.0 b.2 in
      record { first = a.0; second = b.0; in_first = a.1; in_second = b.1; minute = d.0; differ = d.1 }

  -- its trips are not equal
  pub conflict_differs : (c : Conflict xs ys) → c.first ≢ c.second
  conflict_differs c q = ⊎_elim (λ m. m (ap (λ (v : Trip). v.metres) q)) (λ d. d (ap (λ (v : Trip). v.driver) q)) c.differ

  -- and lists with a conflict do not agree
  pub conflict_disagree : Conflict xs ys → agree xs ys ≡ false
  conflict_disagree c = is_false (agree xs ys) (λ e. conflict_differs c (agree_all e c.first c.second c.in_first c.in_second c.minute))

  -- lists agree where any two trips of one minute are equal
  pub all_agree : ((t u : Trip) → Memᴰ t xs → Memᴰ u ys → t.minute ≡ u.minute → t ≡ u) → agree xs ys ≡ true
  all_agree h =
      cases (agree xs ys)
      (λ e. e)
      (λ e. let c = disagree e in absurd (conflict_differs c (h c.first c.second c.in_first c.in_second c.minute)))

-- whichever comes first
pub agree_commutes : (xs ys : List Trip) → agree xs ys ≡ agree ys xs
agree_commutes xs ys =
    cases (agree xs ys)
    (λ e. e ∙ sym (turned xs ys e))
    (λ e. e ∙ sym (is_false (agree ys xs) (λ f. true-not-false (agree xs ys) (turned ys xs f) e)))
  where
    turned : (xs ys : List Trip) → agree xs ys ≡ true → agree ys xs ≡ true
    turned xs ys e = all_agree ys xs (λ t u m k q. sym (agree_all xs ys e u t k m (sym q)))

-- ---- the trips of the join

insert_has : (t : Trip) (us : List Trip) → Memᴰ t (insert t us)
insert_has t [] = Memᴰ.head refl
insert_has t (u ∷ us) =
    insert_cases (Memᴰ t) t u us (λ h. Memᴰ.head refl) (λ h. Memᴰ.tail (insert_has t us)) (λ q. Memᴰ.head refl)

module _ (s t : Trip) where
  insert-others : (us : List Trip) → Memᴰ s (insert t us) → (s ≡ t) ⊎ Memᴰ s us
  insert-others [] m = Memᴰ.cases_cons m
  insert-others (u ∷ us) m =
      insert_cases (λ l. Memᴰ s l → (s ≡ t) ⊎ Memᴰ s (u ∷ us)) t u us
      (λ h m. Memᴰ.cases_cons m)
      (λ h m. ⊎_elim (λ q. inr (Memᴰ.head q)) (λ k. ⊎_elim (λ q. inl q) (λ l. inr (Memᴰ.tail l)) (insert-others us k)) (Memᴰ.cases_cons m))
      (λ h m. ⊎_elim (λ q. inl q) (λ k. inr (Memᴰ.tail k)) (Memᴰ.cases_cons m))
      m

  insert_keeps : (us : List Trip) → (t.minute ≡ s.minute → t ≡ s) → Memᴰ s us → Memᴰ s (insert t us)
  insert_keeps [] one m = Memᴰ.tail m
  insert_keeps (u ∷ us) one m =
      insert_cases (Memᴰ s) t u us
      (λ h. Memᴰ.tail m)
      (λ h. ⊎_elim (λ q. Memᴰ.head q) (λ k. Memᴰ.tail (insert_keeps us one k)) (Memᴰ.cases_cons m))
      (λ h. ⊎_elim (λ q. Memᴰ.head (sym (one (h ∙ ap (λ (v : Trip). v.minute) (sym q))))) (λ k. Memᴰ.tail k) (Memᴰ.cases_cons m))

-- it has no other trips than those of the two lists
pub no_others : (xs ys : List Trip) (t : Trip) → Memᴰ t (join xs ys) → Memᴰ t xs ⊎ Memᴰ t ys
no_others [] ys t m = inr m
no_others (a ∷ xs) ys t m =
    ⊎_elim
    (λ q. inl (Memᴰ.head q))
    (λ k. ⊎_elim (λ l. inl (Memᴰ.tail l)) (λ l. inr l) (no_others xs ys t k))
    (insert-others t a (join xs ys) m)

has_first-from : (n : ℕ) (xs ys : List Trip) (t : Trip) → valid_from n xs ≡ true → Memᴰ t xs → Memᴰ t (join xs ys)
has_first-from n [] ys t e m = absurd (Memᴰ.not-nil m)
has_first-from n (a ∷ xs) ys t e m =
    let r = later n a xs e in
    ⊎_elim
    (λ q. Memᴰ.cast q (insert_has a (join xs ys)))
    (λ k. insert_keeps t a (join xs ys) (λ q. absurd (omega (arith, member_from t (a.minute + 1) xs r k))) (has_first-from (a.minute + 1) xs ys t r k))
    (Memᴰ.cases_cons m)

-- it has each trip of the first list
pub has_first : (xs ys : List Trip) (t : Trip) → valid xs ≡ true → Memᴰ t xs → Memᴰ t (join xs ys)
has_first = has_first-from 0

-- and, where they agree, each of the second
pub has_second : (xs ys : List Trip) (t : Trip) → agree xs ys ≡ true → Memᴰ t ys → Memᴰ t (join xs ys)
has_second [] ys t e m = m
has_second (a ∷ xs) ys t e m =
    insert_keeps t a (join xs ys) (agree_all (a ∷ xs) ys e a t (Memᴰ.head refl) m)
    (has_second xs ys t (all_agree xs ys (λ u v k. agree_all (a ∷ xs) ys e u v (Memᴰ.tail k))) m)

-- ---- its order

-- no trip appears twice in a valid list
pub valid_once : (zs : List Trip) → valid zs ≡ true → (d : Trip) (i j : ℕ) → i < length zs → j < length zs → get_or zs i d ≡ get_or zs j d → i ≡ j
valid_once zs e d i j h k q =
    let m = ap (λ (t : Trip). t.minute) q in
    split_eq i j
    (λ same. same)
    (λ other. split_lt i j
    (λ l. absurd (omega (arith, m, minutes_rise 0 zs d e i j l k)))
    (λ l. absurd (omega (arith, m, minutes_rise 0 zs d e j i (omega arith) h))))

module _ (xs ys : List Trip) (ex : valid xs ≡ true) (ey : valid ys ≡ true) where
  -- it is valid
  pub joined-valid : valid (join xs ys) ≡ true
  joined-valid = join-valid 0 xs ys ex ey

  -- its minutes rise strictly
  pub joined_rise : (d : Trip) (i j : ℕ) → i < j → j < length (join xs ys) → (get_or (join xs ys) i d).minute < (get_or (join xs ys) j d).minute
  joined_rise d = minutes_rise 0 (join xs ys) d joined-valid

  -- no trip appears twice
  pub joined_once : (d : Trip) (i j : ℕ) → i < length (join xs ys) → j < length (join xs ys) → get_or (join xs ys) i d ≡ get_or (join xs ys) j d → i ≡ j
  joined_once = valid_once (join xs ys) joined-valid

-- ---- it is the one list of its kind

-- a valid list with each trip of two lists, and no others
pub record IsJoin (xs ys zs : List Trip) : Type 0 where
  pub order : valid zs ≡ true
  pub first : (t : Trip) → Memᴰ t xs → Memᴰ t zs
  pub second : (t : Trip) → Memᴰ t ys → Memᴰ t zs
  pub others : (t : Trip) → Memᴰ t zs → Memᴰ t xs ⊎ Memᴰ t ys

-- lists with a conflict have none
pub conflict-none : (xs ys zs : List Trip) → Conflict xs ys → IsJoin xs ys zs → ⊥
conflict-none xs ys zs c j =
    conflict_differs xs ys c (one_minute 0 zs c.first c.second j.order (j.first c.first c.in_first) (j.second c.second c.in_second) c.minute)

joined-agree : (xs ys zs : List Trip) → IsJoin xs ys zs → agree xs ys ≡ true
joined-agree xs ys zs j = cases (agree xs ys) (λ e. e) (λ e. absurd (conflict-none xs ys zs (disagree xs ys e) j))

module _ (xs ys : List Trip) (ex : valid xs ≡ true) (ey : valid ys ≡ true) where
  -- those that agree have the join
  pub is_join : agree xs ys ≡ true → IsJoin xs ys (join xs ys)
  is_join e =
      record {
        order = joined-valid xs ys ex ey;
        first = λ t m. has_first xs ys t ex m;
        second = λ t m. has_second xs ys t e m;
        others = no_others xs ys;
      }

  -- and no other
  pub only_join : (zs : List Trip) → IsJoin xs ys zs → zs ≡ join xs ys
  only_join zs j =
      let k = is_join (joined-agree xs ys zs j) in
      same_members zs (join xs ys) j.order k.order
      (λ t m. ⊎_elim (k.first t) (k.second t) (j.others t m))
      (λ t m. ⊎_elim (j.first t) (j.second t) (k.others t m))

-- the lists may change places
pub join_commutes : (xs ys : List Trip) → valid xs ≡ true → valid ys ≡ true → agree xs ys ≡ true → join xs ys ≡ join ys xs
join_commutes xs ys ex ey e =
    let j = is_join xs ys ex ey e in
    only_join ys xs ey ex (join xs ys)
    (record { order = j.order; first = j.second; second = j.first; others = λ t m. ⊎_elim (λ a. inr a) (λ b. inl b) (j.others t m) })

-- of three lists any two may be joined first
pub join_associates : (xs ys zs : List Trip) → valid xs ≡ true → valid ys ≡ true → valid zs ≡ true → agree xs ys ≡ true → agree ys zs ≡ true → agree xs zs ≡ true
    → join xs (join ys zs) ≡ join (join xs ys) zs
join_associates xs ys zs ex ey ez e f g =
    let a = is_join xs ys ex ey e in
    let b = is_join ys zs ey ez f in
    let h = all_agree xs (join ys zs) (λ t u m k q. ⊎_elim (λ l. agree_all xs ys e t u m l q) (λ l. agree_all xs zs g t u m l q) (b.others u k)) in
    let c = is_join xs (join ys zs) ex b.order h in
    only_join (join xs ys) zs a.order ez (join xs (join ys zs))
    (record {
      order = c.order;
      first = λ t m. ⊎_elim (c.first t) (λ k. c.second t (b.first t k)) (a.others t m);
      second = λ t m. c.second t (b.second t m);
      others = λ t m. ⊎_elim (λ k. inl (a.first t k)) (λ k. ⊎_elim (λ l. inl (a.second t l)) (λ l. inr l) (b.others t k)) (c.others t m);
    })

-- a list agrees with itself, and with no trips
pub agree_self : (xs : List Trip) → valid xs ≡ true → agree xs xs ≡ true
agree_self xs e = all_agree xs xs (λ t u. one_minute 0 xs t u e)

pub agree-none : (xs : List Trip) → agree xs [] ≡ true
agree-none xs = all_agree xs [] (λ t u m k. absurd (Memᴰ.not-nil k))

pub none-agree : (xs : List Trip) → agree [] xs ≡ true
none-agree xs = agree_commutes [] xs ∙ agree-none xs

-- joined with itself it is itself
pub join_self : (xs : List Trip) → valid xs ≡ true → join xs xs ≡ xs
join_self xs e = sym (only_join xs xs e e xs (record { order = e; first = λ t m. m; second = λ t m. m; others = λ t m. inl m }))

-- and with no trips, on either side
pub join-none : (xs : List Trip) → valid xs ≡ true → join xs [] ≡ xs
join-none xs e = sym (only_join xs [] e refl xs (record { order = e; first = λ t m. m; second = λ t m. absurd (Memᴰ.not-nil m); others = λ t m. inl m }))

pub none-join : (xs : List Trip) → join [] xs ≡ xs
none-join xs = refl
