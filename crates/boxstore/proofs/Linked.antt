-- A linked caller's calls are the calls on the device.
use mathlib.Core.Path.{◌≡◌, refl, ap, ◌∙◌}
use mathlib.Core.Logic.{◌≢◌}
use mathlib.Core.Bool.{Bool, true, false, cond}
use mathlib.Core.List.{List}
use Prim.Native.Nat.{ℕ, ◌+◌, ◌*◌, ◌≤◌, ◌<◌}
use native.Mathlib.Omega.{arith}
use lib.Dec.{eqb}
use lib.ListN.{length}
use borrow.Author.Tests.{eqb-true}
use borrow.Table.Steps.{cases}
use Rattle.answer.specs.Coded.{Coded}
use Rattle.media.specs.Geometry.{files, file_bytes}
use Rattle.device.specs.declared.Span.{Span}
use Rattle.device.specs.Device.{Device}
use Rattle.device.specs.Admission.{Result}
use Rattle.device.specs.Writing.{write}
use Rattle.device.specs.Truncating.{truncate}
use Rattle.device.specs.Syncing.{sync}
use Rattle.device.specs.Mounting.{mount, format}
use Rattle.device.proofs.Reading.{read_by}
use Rattle.device.proofs.Writing.{write_by}
use Rattle.device.proofs.Truncating.{truncate_by}
use Rattle.device.proofs.Syncing.{sync_by}
use Rattle.device.proofs.Mounting.{mount_by, format_by}
use Rattle.state_bytes.specs.Encoding.{state_bytes}
use Rattle.state_bytes.specs.Inverse.{are_bytes}
use Rattle.state_bytes.specs.InPlace.{Borrowed, device_in, state_shape, on_bytes, read_bytes}
use Rattle.state_bytes.proofs.Inverse.{inverse}
use Rattle.state_bytes.proofs.OnBytes.{Kind, same_on, same_read, same_count, same_span, write-shaped, truncate-shaped, sync-shaped, mount-shaped, format-shaped}
use Rattle.boxstore.specs.Interface.{word_of, span_word}
use Rattle.boxstore.proofs.Counts.{on_small, read_small, look-small, span_small, write-small, truncate-small, sync-small, mount-small, format_small}
use Rattle.boxstore.specs.Linked.{OnBytes, Linked}

-- ---- a refusal of the first eight leaves the device as it came

abbrev Kept : Device → Result Device → Type 0
Kept d r = r.answer.number ≢ 0 → r.answer.number ≢ 9 → r.left ≡ d

module _ (P : ℕ) (d : Device) where
  write_kept : (f position : ℕ) (bytes : List ℕ) → Kept d (write P f position bytes d)
  write_kept f position bytes = write_by P f position bytes d (Kept d) (λ k lo hi n m. refl) (λ ad room n m. absurd (n refl))

  truncate-kept : (f n : ℕ) → Kept d (truncate P f n d)
  truncate-kept f n = truncate_by P f n d (Kept d) (λ k lo hi n m. refl) (λ ad n m. absurd (n refl))

  sync-kept : (f budget : ℕ) → Kept d (sync P f budget d)
  sync-kept f budget = sync_by P f budget d (Kept d) (λ k lo hi n m. refl) (λ ad l n m. absurd (m refl)) (λ ad l n m. absurd (n refl))

  mount-kept : (budget : ℕ) → Kept d (mount P budget d)
  mount-kept budget = mount_by P budget d (Kept d) (λ k lo hi n m. refl) (λ l x n m. absurd (m refl)) (λ l x y n m. absurd (n refl))

  format-kept : (budget : ℕ) → Kept d (format P budget d)
  format-kept budget = format_by P budget d (Kept d) (λ k lo hi n m. refl) (λ l n m. absurd (m refl)) (λ l x y n m. absurd (n refl))

module _ (call : Device → Result Device) (kept : (d : Device) → Kept d (call d)) where
  refused : (l : Borrowed) → are_bytes l.state ≡ true → (on_bytes call l).answer.number ≢ 0 → (on_bytes call l).answer.number ≢ 9 → (on_bytes call l).left ≡ l
  unfolding on_bytes state_shape
  refused l small n m =
      cases (eqb (length l.state) state_bytes)
      (λ e. rw (e, kept (device_in l) (rw e at n) (rw e at m), inverse.back_and_there l.state (eqb-true _ _ e) small))
      (λ e. rw e)

  on_bytes_lem : ((d : Device) → Kind d (call d)) → (n : ℕ) → ((d : Device) → (call d).answer.count ≤ n) → n < 65536 → OnBytes call
  on_bytes_lem kind n most h = record {
    same = λ m frames s g. same_on m frames s g call;
    shaped = kind;
    refused = refused;
    small = λ l. omega (arith, on_small call n most l);
  }

-- ---- reads and looks

read_left : (P f position : ℕ) (buffer : List ℕ) (l : Borrowed) → (read_bytes P f position buffer l).answer.number ≢ 0 → (read_bytes P f position buffer l).left ≡ buffer
unfolding read_bytes state_shape
read_left P f position buffer l n =
    cases (eqb (length l.state) state_bytes)
    (λ e.
    rw e
    (read_by P f position buffer (device_in l) (λ r. r.answer.number ≢ 0 → r.left ≡ buffer) (λ k lo hi z. refl) (λ ok z. absurd (z refl)) (rw e at n)))
    (λ e. rw e)

abbrev span : Bool → ℕ → ℕ → Span
span x a b = record { cached = x; from = a; count = b }

-- one word, one place
place : (x y : Bool) (a b c d : ℕ) → b < 65536 → d < 65536
    → 4294967296 * a + 65536 * cond x 1 0 + b ≡ 4294967296 * c + 65536 * cond y 1 0 + d → span x a b ≡ span y c d
place true true a b c d h k e = let p : a ≡ c = omega arith in let q : b ≡ d = omega arith in rw (p, q)
place false false a b c d h k e = let p : a ≡ c = omega arith in let q : b ≡ d = omega arith in rw (p, q)
place true false a b c d h k e = absurd (omega arith)
place false true a b c d h k e = absurd (omega arith)

spans : (s t : Span) → s.count < 65536 → t.count < 65536 → span_word s ≡ span_word t → s ≡ t
spans s t h k e = place s.cached t.cached s.from s.count t.from t.count h k e

-- ---- words

words : (a b : Coded) → a.count < 65536 → b.count < 65536 → word_of a ≡ word_of b → a ≡ b
words a b h k e =
    let n : a.number ≡ b.number = omega arith in
    let m : a.count ≡ b.count = omega arith in
    ap (λ (x : ℕ). record { number = x; count = a.count }) n ∙ ap (λ (x : ℕ). record { number = b.number; count = x }) m

pub linked : (P : ℕ) → file_bytes P < 65536 → Linked P
linked P h = record {
  writing = λ f position bytes. on_bytes_lem (write P f position bytes) (λ d. write_kept P d f position bytes) (λ d. write-shaped P d f position bytes)
      (file_bytes P) (λ d. write-small P f position bytes d) h;
  truncating = λ f n. on_bytes_lem (truncate P f n) (λ d. truncate-kept P d f n) (λ d. truncate-shaped P d f n) 0 (λ d. truncate-small P f n d) (omega arith);
  syncing = λ f budget. on_bytes_lem (sync P f budget) (λ d. sync-kept P d f budget) (λ d. sync-shaped P d f budget)
      (P + 2) (λ d. sync-small P f budget d) (omega arith);
  mounting = λ budget. on_bytes_lem (mount P budget) (λ d. mount-kept P d budget) (λ d. mount-shaped P d budget) files (λ d. mount-small P budget d) (omega arith);
  formatting = λ budget. on_bytes_lem (format P budget) (λ d. format-kept P d budget) (λ d. format-shaped P d budget) files (λ d. format_small P budget d) (omega arith);
  reading = λ m frames s g. same_read m frames s g P;
  counting = λ m frames s g. same_count m frames s g P;
  looking = λ m frames s g. same_span m frames s g P;
  read_refused = read_left P;
  read_small = λ f position buffer l. omega (arith, read_small P f position l buffer);
  count_small = λ f position l. omega (arith, look-small P f position l);
  span_small = λ f position l. omega (arith, (span_small P f position l).1);
  spans = spans;
  words = words;
}
