-- The cases of a read.
use mathlib.Core.Logic.{◌≢◌}
use mathlib.Core.List.{List}
use mathlib.Core.Path.{◌≡◌, sym, ap, ◌∙◌}
use mathlib.Core.Bool.{true}
use Prim.Native.Nat.{ℕ, ◌<◌, ◌+◌, ◌≤◌, ◌-◌}
use native.Mathlib.Omega.{arith}
use lib.Dec.{leb}
use lib.ListN.{length}
use borrow.Rule.Slice.PartMut.{put_mid}
use Rattle.answer.specs.Coded.{refused, done, coded_refusal}
use Rattle.answer.specs.Admission.{first_refusal}
use Rattle.answer.proofs.Admission.{passed}
use Rattle.answer.specs.declared.Refusal.{Refusal}
use Rattle.memory.specs.Bytes.{overwrite, part}
use Rattle.memory.proofs.Bytes.{overwrite-join, put_back, length_part}
use Rattle.media.specs.Geometry.{file_bytes}
use Rattle.device.specs.Device.{Device}
use Rattle.device.specs.Current.{current_bytes}
use Rattle.device.specs.Admission.{Result, give, file_tests}
use Rattle.device.specs.Reading.{read_count, read}
use Rattle.device.proofs.Admission.{Admitted, file_by, admit-refused, admit-passed}
use Rattle.device.proofs.Current.{current-join, length-current}

-- refused with the buffer as it came, or done
pub read_by : (P f position : ℕ) (buffer : List ℕ) (d : Device) (Q : Result (List ℕ) → Type 0)
    → ((k : ℕ) → 0 < k → k ≢ 9 → Q (give (refused k) buffer))
    → (Admitted P d f (leb position (file_bytes P))
    → let n : ℕ = read_count d f position (length buffer) in Q (give (done n) (overwrite buffer 0 (current_bytes P d f position n))))
    → Q (read P f position buffer d)
unfolding read
read_by P f position buffer d Q fails finished = file_by P d Q f (leb position (file_bytes P)) buffer _ fails finished

-- it counts no more than it was asked for
pub read-counts : (P f position : ℕ) (buffer : List ℕ) (d : Device) → (read P f position buffer d).answer.count ≤ length buffer
read-counts P f position buffer d = read_by P f position buffer d (λ r. r.answer.count ≤ length buffer) (λ k h n. omega arith) (λ ok. omega arith)

-- ---- the ends of a read

module _ (P f position : ℕ) (buffer : List ℕ) (d : Device) where
  pub read_refused : (x : Refusal) → coded_refusal x ≡ first_refusal (file_tests P d f (leb position (file_bytes P))) (done 0)
      → give (coded_refusal x) buffer ≡ read P f position buffer d
  unfolding read
  read_refused x e = admit-refused (file_tests P d f (leb position (file_bytes P))) buffer _ x e

  pub read_done : (n : ℕ) (left : List ℕ) → passed (file_tests P d f (leb position (file_bytes P))) ≡ true → n ≡ read_count d f position (length buffer)
      → left ≡ overwrite buffer 0 (current_bytes P d f position n) → give (done n) left ≡ read P f position buffer d
  unfolding read
  read_done n left h en el = rw (el, en) (admit-passed (file_tests P d f (leb position (file_bytes P))) buffer _ h)

-- ---- a loop over the pages

module _ (P : ℕ) (d : Device) (f : ℕ) where
  -- k more of them
  read_more : (buffer : List ℕ) (i n k : ℕ)
      → overwrite (overwrite buffer 0 (current_bytes P d f i n)) n (current_bytes P d f (i + n) k) ≡ overwrite buffer 0 (current_bytes P d f i (n + k))
  read_more buffer i n k =
      rw current-join
      (sym (overwrite-join buffer (current_bytes P d f i n) (current_bytes P d f (i + n) k)
      ∙ ap (λ (j : ℕ). overwrite (overwrite buffer 0 (current_bytes P d f i n)) j (current_bytes P d f (i + n) k)) (length-current P d f i n)))

  -- a part of the buffer was filled with them
  pub read_step : (before buffer ys : List ℕ) (i n k : ℕ) → buffer ≡ overwrite before 0 (current_bytes P d f i n)
      → ys ≡ current_bytes P d f (i + n) (length (part buffer n (n + k - n))) → n + k ≤ length buffer
      → put_mid n (n + k - n) buffer ys ≡ overwrite before 0 (current_bytes P d f i (n + k))
  read_step before buffer ys i n k eb ey fits =
      let lp : length (part buffer n (n + k - n)) ≡ k = length_part buffer n (n + k - n) (omega arith) ∙ omega arith in
      let q : ys ≡ current_bytes P d f (i + n) k = ey ∙ ap (current_bytes P d f (i + n)) lp in
      put_back n (n + k) buffer ys (ap length q ∙ length-current P d f (i + n) k ∙ omega arith) (omega arith) fits
      ∙ rw (q, eb) (read_more before i n k)
