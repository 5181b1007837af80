-- Laws for the parts of the code.
use mathlib.Core.Path.{◌≡◌, refl, sym, ap, ◌∙◌}
use mathlib.Core.List.{List, [], ◌++◌}
use mathlib.Core.Logic.{⊎_elim}
use Prim.Native.Nat.{ℕ, ◌^◌, ◌≤◌, ◌<◌, min}
use native.Mathlib.Omega.{arith}
use lib.ListN.{length, take, drop, replicate, length-replicate, length-take}
use lib.Seq.{take_all, take-append-le}
use borrow.Author.Tests.{eq-eqb, le-leb}
use Rattle.answer.specs.declared.Refusal.{Refusal}
use Rattle.std.specs.Prelude as std
use Rattle.answer.specs.Coded.{Coded, coded, done}
use Rattle.answer.proofs.Coded.{number_small}
use Rattle.memory.specs.Bytes.{zeros, overwrite}
use Rattle.memory.proofs.Bytes.{take-replicate}
use Rattle.memory.proofs.Cases.{split_lt}
use Rattle.media.specs.Write.{Media}
use Rattle.device.specs.declared.CacheState.{CacheState}
use Rattle.device.specs.Device.{Device, device_of}
use Rattle.device.specs.Admission.{Result, give}
use Rattle.device.specs.Reading.{read}
use Rattle.device.proofs.Reading.{read-counts}
use Rattle.session_line.specs.declared.Request.{Request}
use Rattle.session_line.specs.Request.{spelled}
use Rattle.session_line.specs.Parser.{Within}
use Rattle.text.specs.Marks.{LF}
use Rattle.session_line.specs.Grammar.{greatest_write, greatest_read}
use Rattle.text.specs.Decimal.{decimal}
use Rattle.session_line.specs.Reply.{reply_line, print_answer, printed}
use Rattle.text.proofs.Decimal.{length-small, decimal-length, decimal-fits}
use Rattle.session_line.proofs.Reply.{reply-length}
use Rattle.session_run.specs.declared.PartialLine.{PartialLine}
use Rattle.session_run.specs.declared.Call.{Call}
use Rattle.device.specs.declared.Outcome.{Outcome}
use Rattle.std.specs.Prelude.{Option, None, Some, IfSome}
use Rattle.session_run.specs.Session.{Ran, without_bytes, shown, reply_of, run, run_line}
use Rattle.session_run.specs.Feeding.{kept_bytes, restarted, line_of, feed_byte, reply_bytes, run_into}
use Rattle.session_run.specs.Steps.{write_buffer, shown_bytes, Executed, Stepped}

pub take-write_buffer : (n b : ℕ) → n ≤ greatest_write → take n (write_buffer b) ≡ replicate n b
unfolding write_buffer
take-write_buffer n b h = take-replicate n greatest_write b h

pub length-write_buffer : (b : ℕ) → length (write_buffer b) ≡ greatest_write
unfolding write_buffer
length-write_buffer b = length-replicate greatest_write b

-- ---- the call of a line

pub within_of : (r v : Option Request) → r ≡ v → Within r → Within v
within_of r v e h = rw e at h

module _ (request v : Option Request) (told : request ≡ v) (P : ℕ) (m : Media) (frames : List ℕ) (s : CacheState) (outcome : Outcome) where
  -- a call that prints no bytes
  pub executed_plain : (d : Device) (call : Call) → call ≡ record { outcome = outcome; buffer = None } → (x : Result Device) → give (coded outcome.answer) (device_of m frames outcome.cache) ≡ x
      → run P (spelled v) d ≡ without_bytes x → Executed (run P (spelled request) d) (coded call.outcome.answer) call.buffer (device_of m frames call.outcome.cache)
  executed_plain d call e x given ran = rw (told, e, ran) (record { ran = ap without_bytes given; few = tt })

  -- a read
  pub executed_read : (f position n : ℕ) (bytes : List ℕ) → outcome.cache ≡ s → n ≤ greatest_read
      → give (coded outcome.answer) bytes ≡ read P f position (zeros n) (device_of m frames s) → length bytes ≡ n
      → run P (spelled v) (device_of m frames s) ≡ shown (device_of m frames s) (read P f position (zeros n) (device_of m frames s))
      → Executed (run P (spelled request) (device_of m frames s)) (coded outcome.answer) (Some (bytes ++ drop n (zeros greatest_read))) (device_of m frames outcome.cache)
  executed_read f position n bytes same h given l ran =
      let e : (coded outcome.answer).count ≡ (read P f position (zeros n) (device_of m frames s)).answer.count = ap (λ (r : Result (List ℕ)). r.answer.count) given in
      let c : (coded outcome.answer).count ≤ n = omega (arith, e, read-counts P f position (zeros n) (device_of m frames s), length-replicate {A = ℕ} n 0) in
      rw (told, ran, same, ← given)
      (record {
        ran = ap (λ (l : List ℕ). record { answer = coded outcome.answer; bytes = l; device = device_of m frames s }) (take-append-le (coded outcome.answer).count bytes (drop n (zeros greatest_read)) (omega (arith, c, l)));
        few = omega (arith, c);
      })

-- ---- the line that is printed

-- no line is longer than `reply_bytes`
pub text-fits : (a : std.Result ℕ Refusal) (buffer : Option (List ℕ)) → IfSome buffer (λ _. (coded a).count ≤ greatest_read) → (coded a).count < 2 ^ 64
    → length (reply_line (coded a) (shown_bytes (coded a).count buffer)) ≤ reply_bytes
text-fits a None few h =
    ⊎_elim
    (λ small. omega (arith, length-small (coded a).number small, reply-length (coded a) [], decimal-fits (coded a).count h))
    (λ two.
    omega (arith, decimal-length (coded a).number 2 (omega (arith, two.0)) (omega arith), length-small (coded a).count (omega (arith, two.1)), reply-length (coded a) []))
    (number_small a)
text-fits a (Some buffer) few h =
    let shown : length (take (coded a).count buffer) ≤ (coded a).count = omega (arith, length-take (coded a).count buffer) in
    ⊎_elim
    (λ small.
    omega (arith, shown, length-small (coded a).number small, reply-length (coded a) (take (coded a).count buffer), decimal-length (coded a).count 2 (omega (arith, few)) (omega arith)))
    (λ two.
    omega (arith, shown, two.1, decimal-length (coded a).number 2 (omega (arith, two.0)) (omega arith), length-small (coded a).count (omega (arith, two.1)), reply-length (coded a) (take (coded a).count buffer)))
    (number_small a)

-- and that of a read of so many bytes is as long
reply-greatest : length (reply_line (done greatest_read) (zeros greatest_read)) ≡ reply_bytes
unfolding reply_line decimal
reply-greatest = refl

-- the answer is printed
pub run_ends : (P : ℕ) (line output : List ℕ) (d : Device) (a : Coded) (bytes : List ℕ) (after : Device) → length output ≡ reply_bytes
    → record { answer = a; bytes = bytes; device = after } ≡ run_line P line d → length (reply_line a bytes) ≤ reply_bytes
    → give (print_answer (reply_line a bytes) output) (after, printed (reply_line a bytes) output) ≡ run_into P line (d, output)
unfolding run_into
run_ends P line output d a bytes after h e f =
    let fits : length (reply_line a bytes) ≤ length output = omega (arith, h, f) in
    rw (← e, eq-eqb _ _ h, le-leb _ _ fits)

-- ---- one byte of input

-- the line that was kept
pub kept_line : (p : PartialLine) (n : ℕ) → length p.bytes ≡ kept_bytes → n ≡ min p.len kept_bytes → take n p.bytes ≡ line_of p
unfolding line_of
kept_line p n h e =
    split_lt kept_bytes p.len
    (λ k. let a : length p.bytes ≤ n = omega (arith, h, e) in
    let b : length p.bytes ≤ p.len = omega (arith, h) in
    take_all n p.bytes a ∙ sym (take_all p.len p.bytes b))
    (λ k. let a : n ≡ p.len = omega (arith, e) in ap (λ (j : ℕ). take j p.bytes) a)

-- the line has ended, and was run
pub stepped_end : (P : ℕ) (d : Device) (p : PartialLine) (line output left : List ℕ) (after : Device) (a : std.Result ℕ Refusal) (n : ℕ)
    → line ≡ line_of p → length output ≡ reply_bytes → n ≡ (coded a).count
    → (give {A = Device × List ℕ} (coded a) (after, left) ≡ run_into P line (d, output)) × ((coded a).count ≤ reply_bytes)
    → Stepped reply_bytes (feed_byte P LF d p) after (restarted p) output left n
unfolding run_into feed_byte
stepped_end P d p line output left after a n el h en e =
    let r : Ran = run_line P line d in
    let q : give {A = Device × List ℕ} (coded a) (after, left) ≡ give (done (length (reply_of r))) (r.device, overwrite output 0 (reply_of r)) = rw (eq-eqb _ _ h) at e.0 in
    let m : (coded a).count ≡ length (reply_of r) = ap (λ (x : Result (Device × List ℕ)). x.answer.count) q in
    rw (← el)
    (record {
      device = ap (λ (x : Result (Device × List ℕ)). x.left.0) q;
      partial = refl;
      bytes = ap (λ (x : Result (Device × List ℕ)). x.left.1) q;
      count = en ∙ m;
      fits = omega (arith, m, e.1);
    })
