-- Calls on a device whose state is borrowed as bytes: how they end, and that they are the calls on the device.
use mathlib.Core.Path.{◌≡◌, sym, ap, ◌∙◌}
use mathlib.Core.Bool.{Bool, true, cond}
use mathlib.Core.List.{List, [], ◌∷◌, ◌++◌}
use Prim.Native.Nat.{ℕ, zero, suc, ◌/◌, ◌%◌, ◌-◌}
use lib.Dec.{eqb, leb}
use lib.ListN.{length, take, length-set, length-map, length-replicate}
use borrow.Table.Steps.{cases}
use borrow.Author.Tests.{eq-eqb, eqb-true}
use Rattle.answer.specs.declared.Refusal.{Refusal}
use Rattle.std.specs.Prelude.{Result as Outcome}
use Rattle.std.specs.Prelude.{Ok, Err}
use Rattle.answer.specs.Coded.{Coded, coded, done, SHAPE, coded_refusal}
use Rattle.answer.specs.Admission.{Test, first_refusal, if_done}
use Rattle.answer.proofs.Coded.{coded_of}
use Rattle.answer.proofs.Admission.{passed, passed_at, passed-rest, refusing, answer-passed, if_refused}
use Rattle.media.specs.Geometry.{files, page_bytes, file_bytes}
use Rattle.media.specs.Write.{Media}
use Rattle.device.specs.declared.CacheState.{CacheState}
use Rattle.device.specs.Device.{Device, device_of, slot_count, free_slot, is_cached, down_state, free_where}
use Rattle.device.specs.Admission.{Result, give, admit, file_tests}
use Rattle.device.specs.Reading.{read}
use Rattle.device.specs.Looking.{look_count, looked_span, no_span, look_span}
use Rattle.device.specs.Writing.{Written, has_slot, cache_page, patch_page, put_page, put_pages, grown, write}
use Rattle.device.specs.Truncating.{pages_from, clear_tail, with_sizes, truncated, truncate}
use Rattle.device.specs.Syncing.{pages_of, synced_state, sync}
use Rattle.device.specs.Mounting.{mount, format}
use Rattle.device.proofs.Admission.{Admitted, file-refusing, file_admitted}
use Rattle.device.proofs.Reading.{read_refused}
use Rattle.device.proofs.Looking.{count-refused}
use Rattle.device.proofs.Writing.{write_by}
use Rattle.device.proofs.Truncating.{truncate_by}
use Rattle.device.proofs.Syncing.{sync_by}
use Rattle.device.proofs.Mounting.{mount_by, format_by}
use Rattle.state_bytes.specs.Encoding.{state_bytes, encode, decode}
use Rattle.state_bytes.specs.Inverse.{Shaped, are_bytes}
use Rattle.state_bytes.specs.InPlace.{Borrowed, borrowed, device_in, borrowed_of, state_shape, borrowed_tests, in_bytes, on_bytes, read_bytes, look_count_bytes, look_span_bytes}
use Rattle.state_bytes.proofs.Inverse.{inverse, length-encode}

-- ---- the tests, on the bytes and then on the device

-- where an answer of the code is done, all of them hold
pub shape-passed : (state : List ℕ) (ts : List Test) (a : Outcome ℕ Refusal) (k : ℕ) → refusing ts ≡ true → coded a ≡ first_refusal (state_shape state ++ ts) (done 0) → a ≡ Ok k
    → (length state ≡ state_bytes) × (passed ts ≡ true)
unfolding state_shape
shape-passed state ts a k h e q =
    let p = answer-passed (state_shape state ++ ts) a k h e q in
    (eqb-true _ _ (passed_at (state_shape state ++ ts) p 0), passed-rest (state_shape state) ts p)

-- more tests of the device
pub shape_then : (state : List ℕ) (ts us : List Test) → first_refusal ts (done 0) ≡ first_refusal us (done 0)
    → first_refusal (state_shape state ++ ts) (done 0) ≡ first_refusal (state_shape state ++ us) (done 0)
unfolding state_shape
shape_then state ts us e = ap (λ (a : Coded). cond (eqb (length state) state_bytes) a SHAPE) e

-- another SHAPE
pub shape_too : (state : List ℕ) (ts : List Test) → SHAPE ≡ first_refusal ts (done 0) → SHAPE ≡ first_refusal (state_shape state ++ ts) (done 0)
unfolding state_shape
shape_too state ts e = cases (eqb (length state) state_bytes) (λ h. rw h e) (λ h. rw h)

-- the calls on a file: what the answer of `admit` in the code says
module _ (P : ℕ) (l : Borrowed) (f : ℕ) (range : Bool) (a : Outcome ℕ Refusal) (e : coded a ≡ first_refusal (borrowed_tests P l f range) (done 0)) where
  pub borrowed-passed : (k : ℕ) → a ≡ Ok k → (length l.state ≡ state_bytes) × (passed (file_tests P (device_in l) f range) ≡ true)
  borrowed-passed k = shape-passed l.state (file_tests P (device_in l) f range) a k (file-refusing P (device_in l) f range) e

  pub borrowed-ready : (k : ℕ) → a ≡ Ok k → Admitted P (device_in l) f range
  borrowed-ready k q = file_admitted P (device_in l) f range (borrowed-passed k q).1

  pub borrowed-refused : (x : Refusal) → a ≡ Err x → coded_refusal x ≡ first_refusal (borrowed_tests P l f range) (done 0)
  borrowed-refused x q = coded_of a (Err x) _ q e

-- the first that fails is SHAPE of the state, or one of the others
pub shape-refused : {A : Type 0} (state : List ℕ) (ts : List Test) (before : A) (r : Result A) (x : Refusal) → coded_refusal x ≡ first_refusal (state_shape state ++ ts) (done 0)
    → (length state ≡ state_bytes → coded_refusal x ≡ first_refusal ts (done 0) → give (coded_refusal x) before ≡ r)
    → give (coded_refusal x) before ≡ admit (state_shape state) before r
unfolding state_shape
shape-refused state ts before r x e k =
    cases (eqb (length state) state_bytes)
    (λ h. rw h (k (eqb-true _ _ h) (rw h at e)))
    (λ h. let q : coded_refusal x ≡ SHAPE = rw h at e in rw (h, q))

-- ---- how a call ends

module _ (call : Device → Result Device) (l : Borrowed) where
  -- refused, with everything as it came
  pub refused_on : (ts : List Test) (x : Refusal) → coded_refusal x ≡ first_refusal (state_shape l.state ++ ts) (done 0) → are_bytes l.state ≡ true
      → (coded_refusal x ≡ first_refusal ts (done 0) → give (coded_refusal x) (device_in l) ≡ call (device_in l)) → give (coded_refusal x) l ≡ on_bytes call l
  unfolding on_bytes
  refused_on ts x e small k =
      shape-refused l.state ts l (in_bytes (call (device_in l))) x e
      (λ h r. ap (λ (b : List ℕ). give (coded_refusal x) (borrowed l.media l.frames b)) (sym (inverse.back_and_there l.state h small)) ∙ ap in_bytes (k r))

  pub length_on : length l.state ≡ state_bytes → in_bytes (call (device_in l)) ≡ on_bytes call l
  unfolding on_bytes state_shape
  length_on h = rw (eq-eqb (length l.state) state_bytes h)

  module _ (h : length l.state ≡ state_bytes) (a : Coded) where
    -- with the bytes of a state
    pub state_on : (d : Device) → give a d ≡ call (device_in l) → give a (borrowed_of d) ≡ on_bytes call l
    state_on d e = ap in_bytes e ∙ length_on h

    -- with bytes that say the state
    pub bytes_on : (m : Media) (frames state : List ℕ) → length state ≡ state_bytes → are_bytes state ≡ true
        → give a (device_of m frames (decode state)) ≡ call (device_in l) → give a (borrowed m frames state) ≡ on_bytes call l
    bytes_on m frames state q small e =
        ap (λ (b : List ℕ). give a (borrowed m frames b)) (sym (inverse.back_and_there state q small)) ∙ state_on (device_of m frames (decode state)) e

-- ---- read and look

module _ (P f position : ℕ) (l : Borrowed) where
  module _ (x : Refusal) (e : coded_refusal x ≡ first_refusal (borrowed_tests P l f (leb position (file_bytes P))) (done 0)) where
    pub read-refused_on : (buffer : List ℕ) → give (coded_refusal x) buffer ≡ read_bytes P f position buffer l
    unfolding read_bytes
    read-refused_on buffer =
        shape-refused l.state (file_tests P (device_in l) f (leb position (file_bytes P))) buffer _ x e (λ h. read_refused P f position buffer (device_in l) x)

    pub count-refused_on : coded_refusal x ≡ look_count_bytes P f position l
    unfolding look_count_bytes state_shape
    count-refused_on =
        cases (eqb (length l.state) state_bytes)
        (λ h. rw h (count-refused P f position (device_in l) x (rw h at e)))
        (λ h. rw h (rw h at e))

    pub span_refused_on : no_span ≡ look_span_bytes P f position l
    unfolding look_span_bytes
    span_refused_on = sym (if_refused (look_count_bytes P f position l) x _ no_span count-refused_on)

  module _ (h : length l.state ≡ state_bytes) where
    pub read_on : (buffer : List ℕ) → read P f position buffer (device_in l) ≡ read_bytes P f position buffer l
    unfolding read_bytes state_shape
    read_on buffer = rw (eq-eqb (length l.state) state_bytes h)

    pub count_on : look_count P f position (device_in l) ≡ look_count_bytes P f position l
    unfolding look_count_bytes state_shape
    count_on = rw (eq-eqb (length l.state) state_bytes h)

    pub span_on : look_span P f position (device_in l) ≡ look_span_bytes P f position l
    unfolding look_span_bytes look_span
    span_on = ap (λ (a : Coded). if_done a (looked_span P f position (device_in l)) no_span) count_on

-- ---- on the bytes of a state

-- what is left, with the state that its bytes say
abbrev said : Result Borrowed → Result Device
said r = give r.answer (device_in r.left)

-- the state that a result leaves has the lengths of the arrays
abbrev pub Kind : Device → Result Device → Type 0
Kind d r = Shaped d.cache → Shaped r.left.cache

module _ (m : Media) (frames : List ℕ) (s : CacheState) (h : Shaped s) where
  pub same_on : (call : Device → Result Device) → on_bytes call (borrowed m frames (encode s)) ≡ in_bytes (call (device_of m frames s))
  unfolding on_bytes state_shape
  same_on call = rw (eq-eqb (length (encode s)) state_bytes (length-encode s h), inverse.there_and_back s h)

  pub back_on : (call : Device → Result Device) → ((d : Device) → Kind d (call d)) → (a : Coded) (m' : Media) (frames' state' : List ℕ)
      → give a (borrowed m' frames' state') ≡ on_bytes call (borrowed m frames (encode s)) → give a (device_of m' frames' (decode state')) ≡ call (device_of m frames s)
  back_on call kind a m' frames' state' e =
      ap said (e ∙ same_on call) ∙ rw (inverse.there_and_back (call (device_of m frames s)).left.cache (kind (device_of m frames s) h))

  module _ (P f position : ℕ) where
    pub same_read : (buffer : List ℕ) → read_bytes P f position buffer (borrowed m frames (encode s)) ≡ read P f position buffer (device_of m frames s)
    same_read buffer = sym (read_on P f position (borrowed m frames (encode s)) (length-encode s h) buffer) ∙ rw (inverse.there_and_back s h)

    pub same_count : look_count_bytes P f position (borrowed m frames (encode s)) ≡ look_count P f position (device_of m frames s)
    same_count = sym (count_on P f position (borrowed m frames (encode s)) (length-encode s h)) ∙ rw (inverse.there_and_back s h)

    pub same_span : look_span_bytes P f position (borrowed m frames (encode s)) ≡ look_span P f position (device_of m frames s)
    same_span = sym (span_on P f position (borrowed m frames (encode s)) (length-encode s h)) ∙ rw (inverse.there_and_back s h)

-- ---- the lengths of the arrays

pub down-shaped : Shaped down_state
down-shaped = record { slots = length-replicate slot_count free_slot; logical = length-replicate {A = ℕ} files 0; floor = length-replicate {A = ℕ} files 0 }

pub page-shaped : (P f p offset : ℕ) (bytes : List ℕ) (d : Device) → Shaped d.cache → Shaped (put_page P f p offset bytes d).cache
unfolding put_page patch_page cache_page
page-shaped P f p offset bytes d h =
    cases (is_cached d f p)
    (λ e. rw e h)
    (λ e. rw e (record { slots = length-set d.cache.slots _ _ ∙ h.slots; logical = h.logical; floor = h.floor }))

pub pages-shaped : (P f n position : ℕ) (bytes : List ℕ) (d : Device) → Shaped d.cache → Shaped (put_pages P f n position bytes d).device.cache
pages-shaped P f zero position bytes d h = h
pages-shaped P f (suc n) position [] d h = h
pages-shaped P f (suc n) position (b ∷ bs) d h =
    cases (has_slot d f (position / page_bytes))
    (λ e. rw e (pages-shaped P f n _ _ _ (page-shaped P f (position / page_bytes) (position % page_bytes) (take (page_bytes - position % page_bytes) (b ∷ bs)) d h)))
    (λ e. rw e h)

pub grown-shaped : (f position : ℕ) (w : Written) → Shaped w.device.cache → Shaped (grown f position w).cache
unfolding grown
grown-shaped f position w h =
    cases (eqb w.count 0)
    (λ e. rw e h)
    (λ e. rw e (record { slots = h.slots; logical = length-set w.device.cache.logical f _ ∙ h.logical; floor = h.floor }))

pub truncated-shaped : (f n : ℕ) (d : Device) → Shaped d.cache → Shaped (truncated f n d).cache
unfolding truncated clear_tail with_sizes
truncated-shaped f n d h = record {
  slots = length-map d.cache.slots (free_where (pages_from f n)) ∙ h.slots;
  logical = length-set d.cache.logical f _ ∙ h.logical;
  floor = length-set d.cache.floor f _ ∙ h.floor;
}

pub synced-shaped : (f : ℕ) (s : CacheState) → Shaped s → Shaped (synced_state s f)
unfolding synced_state
synced-shaped f s h = record { slots = length-map s.slots (free_where (pages_of f)) ∙ h.slots; logical = h.logical; floor = length-set s.floor f _ ∙ h.floor }

module _ (P : ℕ) (d : Device) where
  pub write-shaped : (f position : ℕ) (bytes : List ℕ) → Kind d (write P f position bytes d)
  write-shaped f position bytes =
      write_by P f position bytes d (Kind d) (λ k lo hi h. h)
      (λ ad room h. grown-shaped f position (put_pages P f P position bytes d) (pages-shaped P f P position bytes d h))

  pub truncate-shaped : (f n : ℕ) → Kind d (truncate P f n d)
  truncate-shaped f n = truncate_by P f n d (Kind d) (λ k lo hi h. h) (λ ad h. truncated-shaped f n d h)

  pub sync-shaped : (f budget : ℕ) → Kind d (sync P f budget d)
  sync-shaped f budget = sync_by P f budget d (Kind d) (λ k lo hi h. h) (λ ad l h. down-shaped) (λ ad l h. synced-shaped f d.cache h)

  pub mount-shaped : (budget : ℕ) → Kind d (mount P budget d)
  mount-shaped budget = mount_by P budget d (Kind d) (λ k lo hi h. h) (λ l x h. down-shaped) (λ l x y h. let e = x.mountable.sizes in record { slots = length-replicate slot_count free_slot; logical = e; floor = e })

  pub format-shaped : (budget : ℕ) → Kind d (format P budget d)
  format-shaped budget = format_by P budget d (Kind d) (λ k lo hi h. h) (λ l h. down-shaped) (λ l x y h. down-shaped)
