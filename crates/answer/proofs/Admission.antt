-- Laws of the order of refusals.
use mathlib.Core.Path.{◌≡◌, refl, sym, ap, ◌∙◌}
use mathlib.Core.Logic.{◌≢◌}
use mathlib.Core.Bool.{Bool, true, false, cond, false≢true}
use mathlib.Core.List.{List, [], ◌∷◌, ◌++◌}
use Prim.Native.Nat.{ℕ, zero, suc, ◌<◌}
use lib.Dec.{eqb}
use lib.ListN.{get_or}
use borrow.Author.Tests.{eq-eqb}
use borrow.Table.Steps.{cases}
use Rattle.answer.specs.declared.Refusal.{Refusal}
use Rattle.std.specs.Prelude.{Result}
use Rattle.std.specs.Prelude.{Ok, Err}
use Rattle.answer.specs.Coded.{Coded, coded, done, refused, LINE, coded_refusal}
use Rattle.answer.proofs.Coded.{refusal-number, coded_of}
use Rattle.answer.specs.Admission.{Test, test, first_refusal, if_done}

-- a refusal leaves things as they were
pub if_refused : {A : Type 0} (a : Coded) (r : Refusal) (x y : A) → coded_refusal r ≡ a → if_done a x y ≡ y
if_refused a r x y e = rw (← e, refusal-number)

-- the first that fails decides
pub first_fails : (t : Test) (ts : List Test) (a : Coded) → t.holds ≡ false → first_refusal (t ∷ ts) a ≡ t.refusal
first_fails t ts a h = rw h

-- ---- tests that all hold

abbrev pub passed : List Test → Bool
passed [] = true
passed (t ∷ ts) = cond t.holds (passed ts) false

passed-head : (t : Test) (ts : List Test) → passed (t ∷ ts) ≡ true → t.holds ≡ true
passed-head t ts e = cases t.holds (λ h. h) (λ h. absurd (false≢true (rw h at e)))

passed_tail : (t : Test) (ts : List Test) → passed (t ∷ ts) ≡ true → passed ts ≡ true
passed_tail t ts e = rw (passed-head t ts e) at e

pub passed_at : (ts : List Test) → passed ts ≡ true → (k : ℕ) → (get_or ts k (test true LINE)).holds ≡ true
passed_at [] e k = refl
passed_at (t ∷ ts) e zero = passed-head t ts e
passed_at (t ∷ ts) e (suc k) = passed_at ts (passed_tail t ts e) k

-- the first of many, and the rest
pub passed_first : (ts us : List Test) → passed (ts ++ us) ≡ true → passed ts ≡ true
passed_first [] us e = refl
passed_first (t ∷ ts) us e = rw (passed-head t (ts ++ us) e) (passed_first ts us (passed_tail t (ts ++ us) e))

pub passed-rest : (ts us : List Test) → passed (ts ++ us) ≡ true → passed us ≡ true
passed-rest [] us e = e
passed-rest (t ∷ ts) us e = passed-rest ts us (passed_tail t (ts ++ us) e)

pub passed-join : (ts us : List Test) → passed ts ≡ true → passed us ≡ true → passed (ts ++ us) ≡ true
passed-join [] us h k = k
passed-join (t ∷ ts) us h k = rw (passed-head t ts h) (passed-join ts us (passed_tail t ts h) k)

pub first_all : (ts : List Test) (a : Coded) → passed ts ≡ true → first_refusal ts a ≡ a
first_all [] a e = refl
first_all (t ∷ ts) a e = rw (passed-head t ts e) (first_all ts a (passed_tail t ts e))

-- two lists, one after the other
pub first-join : (ts us : List Test) (a : Coded) → first_refusal (ts ++ us) a ≡ first_refusal ts (first_refusal us a)
first-join [] us a = refl
first-join (t ∷ ts) us a = cases t.holds (λ h. rw h (first-join ts us a)) (λ h. rw h)

-- the refusals of a list are among those that change nothing: neither done nor CUT
abbrev pub Changeless : List Test → Type 0
Changeless [] = Unit {0}
Changeless (t ∷ ts) = ((k : ℕ) × (0 < k) × (k ≢ 9) × (t.refusal ≡ refused k)) × Changeless ts

-- an answer is such a refusal, or all tests hold
pub first_by : (Q : Coded → Type 0) (ts : List Test) (a : Coded) → Changeless ts → ((k : ℕ) → 0 < k → k ≢ 9 → Q (refused k))
    → (passed ts ≡ true → Q a) → Q (first_refusal ts a)
first_by Q [] a e fails holds = holds refl
first_by Q (t ∷ ts) a e fails holds =
    cases t.holds
    (λ h. rw h (first_by Q ts a e.1 fails (λ p. holds (rw h p))))
    (λ h. rw (h, e.0.3) (fails e.0.0 e.0.1 e.0.2))

-- ---- what a done answer shows

-- every test of the list has the number of a refusal
abbrev pub refusing : List Test → Bool
refusing [] = true
refusing (t ∷ ts) = cond (eqb t.refusal.number 0) false (refusing ts)

refusing-rest : (b : Bool) (x : Bool) → cond b false x ≡ true → x ≡ true
refusing-rest true x e = absurd (false≢true e)
refusing-rest false x e = e

-- where the answer is done, every test held
done-passed : (ts : List Test) (a : Coded) → refusing ts ≡ true → (first_refusal ts a).number ≡ 0 → passed ts ≡ true
done-passed [] a h e = refl
done-passed (t ∷ ts) a h e =
    cases t.holds
    (λ q. rw q (done-passed ts a (refusing-rest (eqb t.refusal.number 0) (refusing ts) h) (rw q at e)))
    (λ q. absurd (false≢true (rw (eq-eqb _ _ (rw q at e)) at h)))

pub holds_at : (ts : List Test) (a : Coded) → refusing ts ≡ true → (first_refusal ts a).number ≡ 0 → (k : ℕ) → (get_or ts k (test true LINE)).holds ≡ true
holds_at ts a h e k = passed_at ts (done-passed ts a h e) k

-- and the tests after them decide
pub first-passed : (ts us : List Test) (a b : Coded) → refusing ts ≡ true → (first_refusal ts a).number ≡ 0 → first_refusal (ts ++ us) b ≡ first_refusal us b
first-passed ts us a b h e = first-join ts us b ∙ first_all ts (first_refusal us b) (done-passed ts a h e)

-- a refusal by the first tests stands, whatever follows
pub first-refused : (ts us : List Test) (a b : Coded) (r : Refusal) → a.number ≡ 0 → coded_refusal r ≡ first_refusal ts a → coded_refusal r ≡ first_refusal (ts ++ us) b
first-refused [] us a b r h e = absurd (false≢true (sym (refusal-number r) ∙ eq-eqb _ _ (ap (λ (k : Coded). k.number) e ∙ h)))
first-refused (t ∷ ts) us a b r h e =
    cases t.holds (λ q. rw q (first-refused ts us a b r h (rw q at e))) (λ q. rw q (rw q at e))

-- the answer of code that has made the tests: done, they all held
pub answer-passed : (ts : List Test) (a : Result ℕ Refusal) (n : ℕ) → refusing ts ≡ true → coded a ≡ first_refusal ts (done 0) → a ≡ Ok n → passed ts ≡ true
answer-passed ts a n h e q = done-passed ts (done 0) h (ap (λ (c : Coded). c.number) (sym (coded_of a (Ok n) _ q e)))

-- of code that has made the first tests: a refusal stands, and where it is done the rest decides
module _ (ts us : List Test) (a : Result ℕ Refusal) (e : coded a ≡ first_refusal ts (done 0)) where
  pub then_refused : (r : Refusal) → a ≡ Err r → coded_refusal r ≡ first_refusal (ts ++ us) (done 0)
  then_refused r q = first-refused ts us (done 0) (done 0) r refl (coded_of a (Err r) _ q e)

  pub then_rest : refusing ts ≡ true → (n : ℕ) → a ≡ Ok n → first_refusal us (done 0) ≡ first_refusal (ts ++ us) (done 0)
  then_rest h n q = sym (first-join ts us (done 0) ∙ first_all ts (first_refusal us (done 0)) (answer-passed ts a n h e q))
