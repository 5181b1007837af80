-- Laws of feeding a session: one block after another, one byte after another, and the ends of the calls.
use mathlib.Core.Path.{◌≡◌, refl, sym, ap, subst, ◌∙◌}
use mathlib.Core.Logic.{◌≢◌}
use mathlib.Core.List.{List, [], ◌∷◌, ◌++◌, append-nil, append_assoc}
use Prim.Native.Nat.{ℕ, ◌+◌, ◌-◌, ◌*◌, ◌/◌, ◌<◌, ◌≤◌, min}
use native.Mathlib.Omega.{arith}
use native.Mathlib.Numerals.{add-one}
use lib.Dec.{eqb}
use lib.ListN.{length, get_or, take, length-append}
use lib.Seq.{take-suc, take_all}
use borrow.Author.Tests.{eq-eqb, ne_eqb, le-leb, lt-leb}
use borrow.Rule.Slice.PartMut.{put_mid}
use borrow.Table.Steps.{cases}
use Rattle.answer.specs.declared.Refusal.{Refusal}
use Rattle.std.specs.Prelude as std
use Rattle.answer.specs.Coded.{coded, done, SHAPE}
use Rattle.memory.specs.Bytes.{part, overwrite}
use Rattle.memory.proofs.Bytes.{overwrite-none, overwrite-join, take-copied, put_copy}
use Rattle.memory.proofs.Cases.{split_eq}
use Rattle.device.specs.Device.{Device}
use Rattle.device.specs.Admission.{Result, give}
use Rattle.text.specs.Marks.{LF}
use Rattle.session_run.specs.declared.PartialLine.{PartialLine}
use Rattle.session_run.specs.Feeding.{pushed, restarted, Fed, fed, after, feed_byte, feed, last_end, reply_bytes, State, state_of, feed_block}
use Rattle.session_run.specs.Steps.{Stepped}

-- ---- one block after another

after-after : (s t : List ℕ) (x : Fed) → after s (after t x) ≡ after (s ++ t) x
after-after s t x = ap (fed x.device x.line) (sym (append_assoc s t x.text))

module _ (P : ℕ) where
  pub feed-join : (xs ys : List ℕ) (d : Device) (p : PartialLine) → after (feed P xs d p).text (feed P ys (feed P xs d p).device (feed P xs d p).line) ≡ feed P (xs ++ ys) d p
  feed-join [] ys d p = refl
  feed-join (x ∷ xs) ys d p =
      let y : Fed = feed_byte P x d p in
      sym (after-after y.text (feed P xs y.device y.line).text _) ∙ ap (after y.text) (feed-join xs ys y.device y.line)

-- ---- one byte after another

module _ (P : ℕ) (input : List ℕ) (d₀ : Device) (p₀ : PartialLine) where
  one_more : (i : ℕ) → i < length input
      → let y : Fed = feed P (take i input) d₀ p₀ in feed P (take (i + 1) input) d₀ p₀ ≡ after y.text (feed_byte P (get_or input i 0) y.device y.line)
  one_more i h =
      let y : Fed = feed P (take i input) d₀ p₀ in
      let x : Fed = feed_byte P (get_or input i 0) y.device y.line in
      rw (add-one, take-suc input i 0 h)
      (sym (feed-join P (take i input) (get_or input i 0 ∷ []) d₀ p₀) ∙ ap (λ t. fed x.device x.line (y.text ++ t)) (append-nil x.text))

  module _ (before : List ℕ) where
    -- the first i bytes were taken
    abbrev pub FedTo : ℕ → Device → PartialLine → List ℕ → ℕ → Type 0
    FedTo i d p out put = Stepped (reply_bytes * i) (feed P (take i input) d₀ p₀) d p before out put

    pub fed-none : FedTo 0 d₀ p₀ before 0
    fed-none = record { device = refl; partial = refl; bytes = sym (overwrite-none before 0); count = refl; fits = omega arith }

    -- there is room for one more line
    pub fed-room : (i : ℕ) (d : Device) (p : PartialLine) (out : List ℕ) (put : ℕ) → FedTo i d p out put → i < length input
        → length input ≤ length before / reply_bytes → length out ≡ length before → put + reply_bytes ≤ length out
    fed-room i d p out put s h room e = omega (arith, s.count, s.fits, room, e)

    -- a line has ended
    pub fed-line : (i : ℕ) (d next : Device) (p : PartialLine) (out left : List ℕ) (put n e : ℕ) → FedTo i d p out put → i < length input
        → get_or input i 0 ≡ LF → e ≡ put + reply_bytes → e ≤ length out
        → Stepped reply_bytes (feed_byte P LF d p) next (restarted p) (part out put (e - put)) left n
        → FedTo (i + 1) next (restarted p) (put_mid put (e - put) out left) (put + n)
    fed-line i d next p out left put n e s h lf ee eo t =
        let y : Fed = feed P (take i input) d₀ p₀ in
        let z : Fed = feed_byte P LF y.device y.line in
        let u : Stepped reply_bytes z next (restarted p) (part out put (e - put)) left n = subst (λ x. Stepped reply_bytes x next (restarted p) (part out put (e - put)) left n) (ap (λ x. feed_byte P LF x p) s.device ∙ ap (feed_byte P LF y.device) s.partial) t in
        let m : length (y.text ++ z.text) ≡ length y.text + length z.text = length-append y.text z.text in
        rw (one_more i h, lf)
        (record {
          device = u.device;
          partial = u.partial;
          bytes =
              put_copy put e out left z.text u.bytes (omega (arith, u.fits, ee)) (omega arith) eo ∙ rw (s.bytes, s.count)
              (sym (overwrite-join before y.text z.text));
          count = omega (arith, s.count, u.count, m);
          fits = omega (arith, s.fits, u.fits, m);
        })

    -- the line goes on
    pub fed_on : (i : ℕ) (d : Device) (p : PartialLine) (out : List ℕ) (put : ℕ) → FedTo i d p out put → i < length input → get_or input i 0 ≢ LF
        → FedTo (i + 1) d (pushed (get_or input i 0) p) out put
    unfolding feed_byte
    fed_on i d p out put s h n =
        let y : Fed = feed P (take i input) d₀ p₀ in
        let t : y.text ++ [] ≡ y.text = append-nil y.text in
        let m : length y.text ≤ reply_bytes * (i + 1) = omega (arith, s.fits) in
        rw (one_more i h, ne_eqb _ _ n)
        (record {
          device =
              s.device;
          partial = ap (pushed (get_or input i 0)) s.partial;
          bytes = rw t s.bytes;
          count = rw t s.count;
          fits = rw t m;
        })

    pub fed_all : (i : ℕ) (d : Device) (p : PartialLine) (out : List ℕ) (put : ℕ) → FedTo i d p out put → length input ≤ i → reply_bytes * length input ≤ length before
        → give (done put) (state_of d p out) ≡ feed_block P input (state_of d₀ p₀ before)
    unfolding feed_block
    fed_all i d p out put s h room =
        let y : Fed = feed P input d₀ p₀ in
        let w : Stepped (reply_bytes * i) y d p before out put = rw (take_all i input h) at s in
        rw (le-leb _ _ room, w.device, w.partial, w.bytes, w.count)

    pub fed-refused : length before / reply_bytes < length input → give SHAPE (state_of d₀ p₀ before) ≡ feed_block P input (state_of d₀ p₀ before)
    unfolding feed_block
    fed-refused h = let k : length before < reply_bytes * length input = omega arith in rw (lt-leb _ _ k)

-- ---- what a call on a block left

-- where there is room, it is what the block gives: its text at the front of the output, and counted
pub block-fed : (P : ℕ) (input : List ℕ) (d next : Device) (p q : PartialLine) (before out : List ℕ) (a : std.Result ℕ Refusal)
    → (give (coded a) (state_of next q out) ≡ feed_block P input (state_of d p before)) × ((coded a).count ≤ length before)
    → reply_bytes * length input ≤ length before → Stepped (length before) (feed P input d p) next q before out (coded a).count
unfolding feed_block
block-fed P input d next p q before out a e room =
    let y : Fed = feed P input d p in
    let r : give (coded a) (state_of next q out) ≡ give (done (length y.text)) (state_of y.device y.line (overwrite before 0 y.text)) = rw (le-leb _ _ room) at e.0 in
    let n : (coded a).count ≡ length y.text = ap (λ (x : Result State). x.answer.count) r in
    record {
      device = ap (λ (x : Result State). x.left.device) r;
      partial = ap (λ (x : Result State). x.left.line) r;
      bytes = ap (λ (x : Result State). x.left.output) r;
      count = n;
      fits = omega (arith, n, e.1);
    }

-- and as many bytes as it counts are the text
pub text-left : (bound : ℕ) (x : Fed) (d : Device) (p : PartialLine) (before after : List ℕ) (n : ℕ) → Stepped bound x d p before after n → bound ≤ length before
    → take n after ≡ x.text
text-left bound x d p before after n s h = rw (s.bytes, s.count) (take-copied before x.text _ refl (omega (arith, s.fits)))

-- ---- the end of the input

pub last_end_lem : (p : PartialLine) (n : ℕ) → n ≡ min p.len 1 → take n (LF ∷ []) ≡ last_end p
last_end_lem p n e =
    split_eq p.len 0
    (λ q. let z : n ≡ 0 = omega (arith, e) in rw (z, eq-eqb _ _ q))
    (λ q. let o : n ≡ 1 = omega (arith, e, q) in rw (o, ne_eqb _ _ q))

pub last-short : (p : PartialLine) → length (last_end p) ≤ 1
last-short p = cases (eqb p.len 0) (λ e. rw e (omega arith)) (λ e. rw e (omega arith))
