-- What the writer and the join give, by how their loops ended.
use mathlib.Core.Path.{◌≡◌, refl, sym, ap, ◌∙◌}
use mathlib.Core.Bool.{true, false}
use mathlib.Core.List.{List, []}
use mathlib.Core.Logic.{◌≢◌}
use Prim.Native.Nat.{ℕ, ◌≤◌, ◌<◌, min, max}
use native.Mathlib.Omega.{arith}
use lib.ListN.{length, take}
use borrow.Author.Tests.{eq-eqb, ne_eqb, eqb-true}
use Rattle.answer.specs.Coded.{Coded, done, SHAPE, TRIP_CONFLICT, TRIPS_TOO_LONG}
use Rattle.answer.specs.Admission.{is_done, if_done}
use Rattle.answer.proofs.Coded.{number-done}
use Rattle.memory.specs.Bytes.{overwrite}
use Rattle.memory.proofs.Cases.{split_eq}
use Rattle.scan.proofs.Scan.{is_false}
use Rattle.trip_list.specs.Trip.{spell}
use Rattle.trip_list.specs.List.{Parsed, parse, parse_from, trips_of, greatest_list, answer_of, list_answer, spelling, write_answer, written, Trips}
use Rattle.trip_list.proofs.Claims.{trips-valid, never_longer}
use Rattle.trip_list.proofs.Parsing.{accepted_short, accepted, list-parsed}
use Rattle.trip_list.proofs.Walking.{write_answer_lem}
use Rattle.trip_join.specs.Join.{joined_text, join_answer, joined}
use Rattle.trip_join.proofs.Claims.{disagree, join-none}
use Rattle.trip_join.proofs.CallClaims.{Ready, NoConflict, free_of, shape-refused, first-refused, second-refused, conflict-refused, long-refused, join-done, refused_keeps, done-written}
use Rattle.trip_writer.specs.declared.Stage as stage
use Rattle.trip_writer.specs.Joining.{no_minute, minute_of, Joining}
use Rattle.trip_writer.proofs.Joining.{walk_refused, Ended, ended}

-- ---- accepted lists

short-done : (list : List ℕ) → (list_answer list).number ≡ 0 → length list ≤ greatest_list
short-done list e = accepted_short list _ (number-done (list_answer list) e)

trips-done : (list : List ℕ) → (list_answer list).number ≡ 0 → Trips (parse list)
trips-done list e = accepted list _ (number-done (list_answer list) e)

answer-trips : (p : Parsed) → Trips p → answer_of p ≡ done (length (trips_of p))
answer-trips p e = ap answer_of e

done-trips : (list : List ℕ) → length list ≤ greatest_list → Trips (parse list) → list_answer list ≡ done (length (trips_of (parse list)))
done-trips list h t = sym (list-parsed list h) ∙ answer-trips (parse list) t

-- ---- the join

module _ (x y buffer : List ℕ) where
  refused_as : (a b : Coded) → a ≡ b → b.number ≢ 0 → join_answer x y buffer ≡ b → (a ≡ join_answer x y buffer) × (buffer ≡ joined x y buffer)
  refused_as a b q n e = (q ∙ sym e, sym (refused_keeps x y buffer (rw e n)))

  pub join-shape : length buffer ≢ greatest_list → (SHAPE ≡ join_answer x y buffer) × (buffer ≡ joined x y buffer)
  join-shape n = refused_as _ SHAPE refl (λ q. omega (arith, q)) (shape-refused x y buffer n)

  module _ (h : length buffer ≡ greatest_list) where
    module _ (a : Coded) (e : a ≡ if_done (list_answer x) (list_answer y) (list_answer x)) where
      -- not both lists are accepted
      join-refused : ((list_answer x).number ≡ 0 → (list_answer y).number ≡ 0 → ⊥) → (a ≡ join_answer x y buffer) × (buffer ≡ joined x y buffer)
      join-refused n =
          split_eq (list_answer x).number 0
          (λ d. refused_as a (list_answer y) (e ∙ rw (eq-eqb _ _ d)) (n d) (second-refused x y buffer h d (n d)))
          (λ d. refused_as a (list_answer x) (e ∙ rw (ne_eqb _ _ d)) d (first-refused x y buffer h d))

      pub join-long : greatest_list < max (length x) (length y) → (a ≡ join_answer x y buffer) × (buffer ≡ joined x y buffer)
      join-long l = join-refused (λ d f. absurd (omega (arith, short-done x d, short-done y f)))

      pub first-bad : (Trips (parse x) → ⊥) → (a ≡ join_answer x y buffer) × (buffer ≡ joined x y buffer)
      first-bad n = join-refused (λ d f. n (trips-done x d))

      pub second-bad : (Trips (parse y) → ⊥) → (a ≡ join_answer x y buffer) × (buffer ≡ joined x y buffer)
      second-bad n = join-refused (λ d f. n (trips-done y f))

    -- both are
    module _ (hx : length x ≤ greatest_list) (hy : length y ≤ greatest_list) (xs : List ℕ) (s : stage.Stage) (w : Ended x y xs s) where
      ready : Ready x y buffer
      ready = record { room = h; first = rw (done-trips x hx w.first); second = rw (done-trips y hy w.second) }

      pub join-conflict : s.agree ≡ false → (TRIP_CONFLICT ≡ join_answer x y buffer) × (buffer ≡ joined x y buffer)
      join-conflict n = refused_as _ TRIP_CONFLICT refl (λ q. omega (arith, q)) (conflict-refused x y buffer ready (disagree _ _ (w.agrees ∙ n)))

      module _ (agrees : s.agree ≡ true) where
        free : NoConflict x y
        free = free_of x y (w.agrees ∙ agrees)

        pub join_too_long : greatest_list < s.end → (TRIPS_TOO_LONG ≡ join_answer x y buffer) × (buffer ≡ joined x y buffer)
        join_too_long l = refused_as _ TRIPS_TOO_LONG refl (λ q. omega (arith, q)) (long-refused x y buffer ready free (omega (arith, w.ends, l)))

        pub join-fits : s.end ≤ greatest_list → (ys : List ℕ) → ys ≡ overwrite buffer 0 (take s.end xs) → (done s.end ≡ join_answer x y buffer) × (ys ≡ joined x y buffer)
        join-fits l ys e =
            let d = join-done x y buffer ready free (omega (arith, w.ends, l)) in
            (ap done w.ends ∙ sym d, e ∙ ap (overwrite buffer 0) (w.laid l) ∙ sym (done-written x y buffer _ d))

-- ---- the writer: a list joined with no other

alone : (list : List ℕ) → joined_text list [] ≡ spelling list
unfolding parse parse_from
alone list = ap spell (join-none (trips_of (parse list)) (trips-valid list))

module _ (list : List ℕ) (short : length list ≤ greatest_list) (ys : List ℕ) (s : stage.Stage) (w : Joining list [] ys s) (none : no_minute ≤ min (minute_of s.first.line) (minute_of s.second.line)) where
  over : length list ≤ s.first.at → Ended list [] ys s
  over o = ended list [] ys s w none o (omega arith)

  pub spelled-fits : length list ≤ s.first.at → s.end ≤ greatest_list
  spelled-fits o = omega (arith, (over o).ends, ap length (alone list), never_longer list)

  module _ (buffer : List ℕ) (shape : length buffer ≡ greatest_list) where
    pub write-refused : s.first.at < length list → (a : Coded) → a ≡ list_answer list → (a ≡ write_answer list buffer) × (buffer ≡ written list buffer)
    unfolding written
    write-refused inside a e =
        let n : is_done (list_answer list) ≡ false = is_false _ (λ f. walk_refused list s.first w.first (omega arith) inside (trips-done list (eqb-true _ _ f))) in
        let v = write_answer_lem list buffer shape a (e ∙ rw n) in
        (v, rw (← v, e, n))

    pub write_done : length list ≤ s.first.at → (zs : List ℕ) → zs ≡ overwrite buffer 0 (take s.end ys) → (done s.end ≡ write_answer list buffer) × (zs ≡ written list buffer)
    unfolding written
    write_done o zs e =
        let k = over o in
        let v = write_answer_lem list buffer shape (done s.end) (ap done (k.ends ∙ ap length (alone list)) ∙ rw (done-trips list short k.first)) in
        (v, e ∙ rw (← v) (ap (overwrite buffer 0) (k.laid (spelled-fits o) ∙ alone list)))
