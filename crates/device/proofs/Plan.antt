-- Laws of plans.
use mathlib.Core.Path.{◌≡◌, refl, ap, ◌∙◌}
use mathlib.Core.Logic.{◌≢◌}
use mathlib.Core.Bool.{Bool, true, false, cond, ◌&&◌, false≢true}
use mathlib.Core.List.{List, [], ◌∷◌, ◌++◌}
use Prim.Native.Nat.{ℕ, zero, suc, ◌+◌, ◌-◌, ◌≤◌, ◌<◌}
use native.Mathlib.Nat.{suc-sub-suc, sub-zero}
use native.Mathlib.Omega.{arith}
use lib.Dec.{ltb, leb}
use lib.ListN.{length, take, length-append}
use lib.Seq.{take-nil, take_all}
use borrow.Author.Tests.{lt-ltb, le-ltb, ltb-true, ltb-false, le-leb, lt-leb}
use Rattle.answer.specs.Coded.{done, CUT}
use Rattle.answer.specs.Admission.{Test, test, first_refusal}
use Rattle.answer.proofs.Admission.{passed}
use Rattle.memory.proofs.Cases.{split_lt}
use Rattle.media.specs.Geometry.{files, file_bytes, media_bytes}
use Rattle.media.specs.Write.{Media, MediaWrite, byte_at, size_at, apply, apply_all, InLimits, file_of, All}
use Rattle.media.proofs.Write.{all_append, others-byte, others-size}
use Rattle.device.specs.declared.CacheState.{CacheState}
use Rattle.device.specs.Device.{Device, device_of, down_state}
use Rattle.device.specs.Admission.{Result, give, admit}
use Rattle.device.specs.Plan.{write_if, budgeted, under_budget, Spent}
use Rattle.device.proofs.Admission.{admit-passed}

-- ---- lists of writes

module _ (Q : MediaWrite → Type 0) where
  pub all_take : (k : ℕ) (ws : List MediaWrite) → All Q ws → All Q (take k ws)
  all_take zero ws h = tt
  all_take (suc k) [] h = tt
  all_take (suc k) (w ∷ ws) h = (h.0, all_take k ws h.1)

  pub all_join : (ws vs : List MediaWrite) → All Q ws → All Q vs → All Q (ws ++ vs)
  all_join [] vs h k = k
  all_join (w ∷ ws) vs h k = (h.0, all_join ws vs h.1 k)

  all_map : (R : MediaWrite → Type 0) → ((w : MediaWrite) → R w → Q w) → (ws : List MediaWrite) → All R ws → All Q ws
  all_map R g [] h = tt
  all_map R g (w ∷ ws) h = (g w h.0, all_map R g ws h.1)

  pub all_if : (b : Bool) (w : MediaWrite) → (b ≡ true → Q w) → All Q (write_if b w)
  unfolding write_if
  all_if true w h = (h refl, tt)
  all_if false w h = tt

pub at_most_one : (b : Bool) (w : MediaWrite) → length (write_if b w) ≤ 1
unfolding write_if
at_most_one true w = omega arith
at_most_one false w = omega arith

-- ---- a plan under a budget: cut, or done

module _ (P budget : ℕ) (plan : List MediaWrite) (s : CacheState) (d : Device) where
  pub budget_by : (Q : Result Device → Type 0)
      → (budget < length plan → Q (give (CUT budget) (device_of (apply_all P d.media (take budget plan)) d.frames down_state)))
      → (length plan ≤ budget → Q (give (done (length plan)) (device_of (apply_all P d.media plan) d.frames s)))
      → Q (under_budget P budget plan s d)
  unfolding under_budget
  budget_by Q x y = split_lt budget (length plan) (λ l. rw (lt-ltb _ _ l) (x l)) (λ l. rw (le-ltb _ _ l, take_all budget plan l) (y l))

  pub budget-answer : (under_budget P budget plan s d).answer ≡ first_refusal (test (leb (length plan) budget) (CUT budget) ∷ []) (done (length plan))
  budget-answer =
      budget_by (λ r. r.answer ≡ first_refusal (test (leb (length plan) budget) (CUT budget) ∷ []) (done (length plan)))
      (λ l. rw (lt-leb _ _ l)) (λ l. rw (le-leb _ _ l))

-- ---- a plan that is carried out write by write

take-join : {A : Type 0} (b : ℕ) (xs ys : List A) → take b (xs ++ ys) ≡ take b xs ++ take (b - length xs) ys
take-join b [] ys = rw (take-nil, sub-zero)
take-join zero (x ∷ xs) ys = let z : zero - length (x ∷ xs) ≡ 0 = omega arith in rw z
take-join (suc b) (x ∷ xs) ys = rw suc-sub-suc (ap (λ l. x ∷ l) (take-join b xs ys))

module _ (P budget : ℕ) (m : Media) (needed : ℕ) where
  pub spent-none : (ws : List MediaWrite) → ws ≡ [] → Spent P budget m needed needed ws m
  spent-none ws e = record { count = rw e (omega arith); media = rw (e, take-nil) }

  -- a write that may be wanted: it is made where the budget pays for it too, and is counted where it is wanted
  pub spent-made : (b : Bool) (w : MediaWrite) (n : ℕ) (c : Media) → b && ltb needed budget ≡ true → n ≡ needed + cond b 1 0 → c ≡ apply P m w
      → Spent P budget m needed n (write_if b w) c
  unfolding write_if
  spent-made true w n c h en ec =
      let l : needed < budget = ltb-true needed budget h in record { count = en; media = rw (take_all (budget - needed) (w ∷ []) (omega arith)) ec }
  spent-made false w n c h en ec = absurd (false≢true h)

  pub spent_unmade : (b : Bool) (w : MediaWrite) (n : ℕ) → b && ltb needed budget ≡ false → n ≡ needed + cond b 1 0
      → Spent P budget m needed n (write_if b w) m
  unfolding write_if
  spent_unmade true w n h en = let q : budget - needed ≡ 0 = omega (arith, ltb-false needed budget h) in record { count = en; media = rw q }
  spent_unmade false w n h en = record { count = en; media = rw take-nil }

  -- one part after another
  pub spent-join : (c e : Media) (n k : ℕ) (ws vs : List MediaWrite) → Spent P budget m needed n ws c → Spent P budget c n k vs e → Spent P budget m needed k (ws ++ vs) e
  spent-join c e n k ws vs x y =
      let q : budget - n ≡ budget - needed - length ws = omega (arith, x.count) in
      record {
        count = omega (arith, x.count, y.count, length-append ws vs);
        media = y.media ∙ rw (take-join (budget - needed) ws vs, all_append, ← x.media, ← q);
      }

-- the whole plan of a call that is admitted
module _ (P budget : ℕ) (plan : List MediaWrite) (s : CacheState) (d : Device) (n : ℕ) (c : Media) (x : Spent P budget d.media 0 n plan c) where
  pub plan_ends : (ts : List Test) → passed ts ≡ true → budgeted budget n c d.frames s ≡ admit ts d (under_budget P budget plan s d)
  unfolding under_budget
  plan_ends ts h =
      let en : n ≡ length plan = omega (arith, x.count) in
      let e : c ≡ apply_all P d.media (take budget plan) = rw sub-zero at x.media in
      rw (en, e) (admit-passed ts d _ h)

-- ---- writes to one file

module _ (P : ℕ) where
  -- within the limits of the media, and to file f
  abbrev pub Own : ℕ → MediaWrite → Type 0
  Own f w = InLimits P w × (file_of w ≡ f)

  -- writes to file f leave the others
  module _ (m : Media) (f : ℕ) (ws : List MediaWrite) (own : All (Own f) ws) (g : ℕ) (ne : g ≢ f) where
    pub own_other_byte : (i : ℕ) → length m.bytes ≡ media_bytes P → g < files → i < file_bytes P → byte_at P (apply_all P m ws) g i ≡ byte_at P m g i
    own_other_byte i lm hg hi =
        others-byte P m ws g i lm hg hi (all_map (λ w. InLimits P w × (g ≢ file_of w)) (Own f) (λ w h. (h.0, λ e. ne (e ∙ h.1))) ws own)

    pub own_other_size : size_at (apply_all P m ws) g ≡ size_at m g
    own_other_size = others-size P m ws g (all_map (λ w. g ≢ file_of w) (Own f) (λ w h e. ne (e ∙ h.1)) ws own)
