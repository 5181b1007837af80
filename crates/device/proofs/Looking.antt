-- What a look hands back: current bytes, from its position on.
use mathlib.Core.Path.{◌≡◌, sym, ap, ◌∙◌, refl}
use mathlib.Core.Logic.{◌≢◌}
use mathlib.Core.List.{List, [], ◌∷◌}
use mathlib.Core.Bool.{true, false, cond, false≢true}
use Prim.Native.Nat.{ℕ, ◌+◌, ◌-◌, ◌/◌, ◌%◌, ◌≤◌, ◌<◌, max}
use native.Mathlib.Nat.{le_trans}
use native.Mathlib.Omega.{arith}
use lib.ListN.{length, get_or, length-take}
use lib.Seq.{ext_get_or}
use lib.Dec.{leb, eqb}
use borrow.Author.Tests.{ne_eqb, lt-ltb, le-ltb, leb-true}
use borrow.Table.Steps.{cases}
use Rattle.answer.specs.Coded.{Coded, refused, done, coded_refusal}
use Rattle.answer.specs.Admission.{if_done, Test, first_refusal}
use Rattle.answer.proofs.Admission.{Changeless, first_by, passed, first_all}
use Rattle.answer.proofs.Coded.{refusal-number}
use Rattle.answer.specs.declared.Refusal.{Refusal}
use Rattle.memory.specs.Bytes.{part}
use Rattle.memory.proofs.Cases.{split_lt}
use Rattle.memory.proofs.Bytes.{length_part, get_d_part}
use Rattle.media.specs.Geometry.{files, page_bytes, file_bytes, media_bytes, file_start}
use Rattle.media.proofs.Geometry.{file_end}
use Rattle.device.specs.Device.{Device, slot_count, frames_bytes, frame_start, slot_of, is_cached, logical_at, floor_at}
use Rattle.device.specs.Current.{current_at, current_bytes}
use Rattle.device.specs.Admission.{media_shape, frames_shape, sizes_fit, state_tests, file_tests}
use Rattle.device.specs.declared.Span.{Span}
use Rattle.device.specs.Looking.{to_page_end, look_count, looked_span, no_span, look_span, span_bytes, looked_at, look, place_of, look_place}
use Rattle.device.proofs.Admission.{Admitted, file_changeless, file_admitted}
use Rattle.device.proofs.Current.{current-cached, current-media, current-zero, length-current, current_at_lem}
use Rattle.device.proofs.Sound.{Fit, sound-sizes}

look_changeless : (P f position : ℕ) (d : Device) → Changeless (file_tests P d f (leb position (file_bytes P)))
unfolding media_shape frames_shape sizes_fit state_tests
look_changeless P f position d = file_changeless P d f (leb position (file_bytes P)) [] tt

-- refused and empty, or done
pub look_by : (P f position : ℕ) (d : Device) (Q : Coded → List ℕ → Type 0)
    → ((k : ℕ) → 0 < k → k ≢ 9 → Q (refused k) [])
    → (Admitted P d f (leb position (file_bytes P)) → Q (done (to_page_end position (logical_at d f))) (looked_at P f position d))
    → Q (look_count P f position d) (look P f position d)
unfolding look_count look look_span span_bytes looked_at
look_by P f position d Q fails finished =
    first_by (λ a. Q a (span_bytes d (if_done a (looked_span P f position d) no_span))) (file_tests P d f (leb position (file_bytes P))) _ (look_changeless P f position d)
    (λ k lo hi. rw (ne_eqb k 0 (λ e. (omega arith))) (fails k lo hi))
    (λ e. finished (file_admitted P d f (leb position (file_bytes P)) e))

part-most : (xs : List ℕ) (a n : ℕ) → length (part xs a n) ≤ n
part-most xs a n = simp length-take (omega arith)

nearer : (position a b : ℕ) → a ≤ b → to_page_end position a ≤ to_page_end position b
nearer position a b h = omega arith

module _ (P : ℕ) (d : Device) (f position : ℕ) where
  from-frame : slot_of d f (position / page_bytes) < slot_count
      → looked_at P f position d ≡ part d.frames (frame_start (slot_of d f (position / page_bytes)) + position % page_bytes) (to_page_end position (logical_at d f))
  unfolding looked_at looked_span span_bytes
  from-frame l = rw (lt-ltb _ _ l)

  from-media : slot_count ≤ slot_of d f (position / page_bytes)
      → looked_at P f position d ≡ part d.media.bytes (file_start P f + position) (to_page_end position (floor_at d f))
  unfolding looked_at looked_span span_bytes
  from-media l = rw (le-ltb _ _ l)

  -- not more than its count
  pub looked-most : floor_at d f ≤ logical_at d f → length (looked_at P f position d) ≤ to_page_end position (logical_at d f)
  looked-most h =
      split_lt (slot_of d f (position / page_bytes)) slot_count
      (λ l. rw (from-frame l) (part-most d.frames (frame_start (slot_of d f (position / page_bytes)) + position % page_bytes) (to_page_end position (logical_at d f))))
      (λ l. rw (from-media l)
      (le_trans (part-most d.media.bytes (file_start P f + position) (to_page_end position (floor_at d f))) (nearer position (floor_at d f) (logical_at d f) h)))

  -- each is the current byte
  pub looked-current : (k : ℕ) → k < length (looked_at P f position d) → get_or (looked_at P f position d) k 0 ≡ current_at P d f (position + k)
  looked-current k h =
      split_lt (slot_of d f (position / page_bytes)) slot_count
      (λ l.
      let s : ℕ = slot_of d f (position / page_bytes) in
      let a : ℕ = frame_start s + position % page_bytes in
      let n : ℕ = to_page_end position (logical_at d f) in
      let e : looked_at P f position d ≡ part d.frames a n = from-frame l in
      let hk : k < n = (le_trans (rw e at h) (part-most d.frames a n)) in
      rw e
      (get_d_part d.frames a n k hk
      ∙ ap (λ (j : ℕ). get_or d.frames j 0) (omega arith)
      ∙ sym (current-cached P d f (position + k) (position / page_bytes) (omega arith) l)))
      (λ l.
      let a : ℕ = file_start P f + position in
      let n : ℕ = to_page_end position (floor_at d f) in
      let e : looked_at P f position d ≡ part d.media.bytes a n = from-media l in
      let hk : k < n = (le_trans (rw e at h) (part-most d.media.bytes a n)) in
      rw e
      (get_d_part d.media.bytes a n k hk
      ∙ ap (λ (j : ℕ). get_or d.media.bytes j 0) (omega arith)
      ∙ sym (current-media P d f (position + k) (position / page_bytes) (omega arith) l (omega arith))))

  -- what is left out of the count is 0
  pub looked-rest : Fit P d → length d.frames ≡ frames_bytes → f < files → (k : ℕ) → length (looked_at P f position d) ≤ k
      → k < to_page_end position (logical_at d f) → current_at P d f (position + k) ≡ 0
  looked-rest x frames hf k lo hi =
      split_lt (slot_of d f (position / page_bytes)) slot_count
      (λ l.
      let a : ℕ = frame_start (slot_of d f (position / page_bytes)) + position % page_bytes in
      let n : ℕ = to_page_end position (logical_at d f) in
      let e : length (looked_at P f position d) ≡ n = ap length (from-frame l) ∙ length_part d.frames a n (omega arith) in
      absurd (omega arith))
      (λ l.
      let n : ℕ = to_page_end position (floor_at d f) in
      split_lt position (floor_at d f)
      (λ h.
      let e : length (looked_at P f position d) ≡ n =
      ap length (from-media l)
      ∙ length_part d.media.bytes (file_start P f + position) n
      (omega (arith, file_end P f hf, x.bytes, x.sizes.floor_logical f hf, x.sizes.logical_fits f hf)) in
      current-zero P d f (position + k) (position / page_bytes) (omega arith) l (omega arith))
      (λ h. current-zero P d f (position + k) (position / page_bytes) (omega arith) l (omega arith)))

  -- how many bytes: to the logical size where the page is cached, to the floor where it is not
  pub looked-length : Fit P d → length d.frames ≡ frames_bytes → f < files
      → length (looked_at P f position d) ≡ to_page_end position (cond (is_cached d f (position / page_bytes)) (logical_at d f) (floor_at d f))
  looked-length x frames hf =
      split_lt (slot_of d f (position / page_bytes)) slot_count
      (λ l.
      let a : ℕ = frame_start (slot_of d f (position / page_bytes)) + position % page_bytes in
      let n : ℕ = to_page_end position (logical_at d f) in
      rw (lt-ltb _ _ l) (ap length (from-frame l) ∙ length_part d.frames a n (omega arith)))
      (λ l.
      let n : ℕ = to_page_end position (floor_at d f) in
      rw (le-ltb _ _ l)
      (split_lt position (floor_at d f)
      (λ h.
      ap length (from-media l)
      ∙ length_part d.media.bytes (file_start P f + position) n
      (omega (arith, file_end P f hf, x.bytes, x.sizes.floor_logical f hf, x.sizes.logical_fits f hf)))
      (λ h. let z : length (looked_at P f position d) ≤ n = rw (from-media l) (part-most d.media.bytes (file_start P f + position) n) in omega arith)))

  pub looked-bytes : Fit P d → length d.frames ≡ frames_bytes → f < files
      → looked_at P f position d ≡ current_bytes P d f position (to_page_end position (cond (is_cached d f (position / page_bytes)) (logical_at d f) (floor_at d f)))
  looked-bytes x frames hf =
      let n : ℕ = to_page_end position (cond (is_cached d f (position / page_bytes)) (logical_at d f) (floor_at d f)) in
      ext_get_or 0 (looked_at P f position d) (current_bytes P d f position n) (looked-length x frames hf ∙ sym (length-current P d f position n))
      (λ i l. looked-current i l ∙ sym (current_at_lem P d f position n i (rw (looked-length x frames hf) at l)))

-- ---- the ends of a look

first_other : (ts : List Test) (a : Coded) (x : Refusal) → coded_refusal x ≡ first_refusal ts (done 0) → coded_refusal x ≡ first_refusal ts a
first_other [] a x e = absurd (false≢true (sym (refusal-number x) ∙ ap (λ (c : Coded). eqb c.number 0) e))
first_other (t ∷ ts) a x e = cases t.holds (λ h. rw h (first_other ts a x (rw h at e))) (λ h. rw h (rw h at e))

module _ (P f position : ℕ) (d : Device) where
  pub count-refused : (x : Refusal) → coded_refusal x ≡ first_refusal (file_tests P d f (leb position (file_bytes P))) (done 0) → coded_refusal x ≡ look_count P f position d
  unfolding look_count
  count-refused x e = first_other (file_tests P d f (leb position (file_bytes P))) (done (to_page_end position (logical_at d f))) x e

  pub count-done : (n : ℕ) → passed (file_tests P d f (leb position (file_bytes P))) ≡ true → n ≡ to_page_end position (logical_at d f) → done n ≡ look_count P f position d
  unfolding look_count
  count-done n h e = rw e (sym (first_all (file_tests P d f (leb position (file_bytes P))) (done (to_page_end position (logical_at d f))) h))

  module _ (h : passed (file_tests P d f (leb position (file_bytes P))) ≡ true) (k : ℕ) (e : k ≡ slot_of d f (position / page_bytes)) where
    looked : look_span P f position d ≡ looked_span P f position d
    unfolding look_span look_count
    looked = rw (first_all (file_tests P d f (leb position (file_bytes P))) (done (to_page_end position (logical_at d f))) h)

    pub span_cached : (n : ℕ) → k < slot_count → n ≡ to_page_end position (logical_at d f)
        → record { cached = true; from = frame_start k + position % page_bytes; count = n } ≡ look_span P f position d
    unfolding looked_span
    span_cached n l en = let q : slot_of d f (position / page_bytes) < slot_count = omega arith in rw (en, e) (sym (looked ∙ rw (lt-ltb _ _ q)))

    pub span_media : (n : ℕ) → slot_count ≤ k → n ≡ to_page_end position (floor_at d f)
        → record { cached = false; from = file_start P f + position; count = n } ≡ look_span P f position d
    unfolding looked_span
    span_media n l en = let q : slot_count ≤ slot_of d f (position / page_bytes) = omega arith in rw en (sym (looked ∙ rw (le-ltb _ _ q)))

-- ---- where the part lies is in the media or in the page frames

pub record Within (P : ℕ) (d : Device) (s : Span) : Type 0 where
  pub frames : s.cached ≡ true → s.from + s.count ≤ length d.frames
  pub media : s.cached ≡ false → s.from + s.count ≤ length d.media.bytes
  pub from_most : s.from ≤ max frames_bytes (media_bytes P)
  pub count_most : s.count ≤ page_bytes

within-looked : (P f position : ℕ) (d : Device) → Admitted P d f (leb position (file_bytes P)) → Within P d (looked_span P f position d)
unfolding looked_span
within-looked P f position d ad =
    let r : position ≤ file_bytes P = leb-true position (file_bytes P) ad.in_range in
    let z = sound-sizes P d.media.sizes d.cache f ad.sound ad.file in
    let e = file_end P f ad.file in
    split_lt (slot_of d f (position / page_bytes)) slot_count
    (λ l. rw (lt-ltb _ _ l) (record { frames = λ _. omega (arith, ad.frames); media = λ q. absurd (false≢true (sym q)); from_most = omega arith; count_most = omega arith }))
    (λ l. rw (le-ltb _ _ l) (record { frames = λ q. absurd (false≢true q); media = λ _. omega (arith, ad.bytes); from_most = omega arith; count_most = omega arith }))

pub look-within : (P f position : ℕ) (d : Device) → Within P d (look_span P f position d)
unfolding look_span look_count
look-within P f position d =
    first_by (λ a. Within P d (if_done a (looked_span P f position d) no_span)) (file_tests P d f (leb position (file_bytes P))) _ (look_changeless P f position d)
    (λ k lo hi. rw (ne_eqb k 0 (λ e. (omega arith))) (record { frames = λ _. omega arith; media = λ _. omega arith; from_most = omega arith; count_most = omega arith }))
    (λ e. within-looked P f position d (file_admitted P d f (leb position (file_bytes P)) e))

-- ---- a span that a look gave: where it lies, and its bytes

module _ (P f position : ℕ) (d : Device) (s : Span) (e : s ≡ look_span P f position d) where
  pub span_within : Within P d s
  span_within = rw e (look-within P f position d)

  -- as a part from one index to another
  long : s.from + s.count - s.from ≡ s.count
  long = omega arith

  module _ (media frames : ℕ × ℕ) where
    pub span_in_frames : s.cached ≡ true
        → (part d.frames s.from (s.from + s.count - s.from) ≡ look P f position d) × (place_of frames s.from ≡ look_place P f position media frames d)
    unfolding look span_bytes look_place
    span_in_frames c = rw (long, ← e, c) (refl, refl)

    pub span_in_media : s.cached ≡ false
        → (part d.media.bytes s.from (s.from + s.count - s.from) ≡ look P f position d) × (place_of media s.from ≡ look_place P f position media frames d)
    unfolding look span_bytes look_place
    span_in_media c = rw (long, ← e, c) (refl, refl)
