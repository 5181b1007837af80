-- However the input is cut into blocks, the session prints what it is said to print.
use mathlib.Core.Path.{◌≡◌, refl, sym, ap, ◌∙◌}
use mathlib.Core.Logic.{◌≢◌}
use mathlib.Core.Bool.{Bool, true, false, not, false≢true}
use mathlib.Core.List.{List, [], ◌∷◌, ◌++◌, append-nil, append_assoc}
use Prim.Native.Nat.{ℕ, ◌+◌, ◌<◌, ◌≤◌, min}
use native.Mathlib.Omega.{arith}
use native.Mathlib.Numerals.{add-one}
use lib.Dec.{eqb}
use lib.ListN.{length, take, length-set, length-take, length-append}
use lib.Seq.{take_all, take-suc-set, take-append-le}
use borrow.Author.Tests.{eq-eqb, ne_eqb, lt-ltb, le-ltb, lt-leb}
use borrow.Table.Steps.{cases}
use Rattle.memory.proofs.Cases.{split_lt, split_eq}
use Rattle.scan.specs.Scan.{every}
use Rattle.scan.proofs.Scan.{and_left, and_right}
use Rattle.device.specs.Device.{Device}
use Rattle.text.specs.Marks.{LF, in_first}
use Rattle.session_line.specs.Grammar.{parse, lines, greatest_line}
use Rattle.session_line.specs.Reply.{header}
use Rattle.session_run.specs.declared.PartialLine.{PartialLine}
use Rattle.session_run.specs.Session.{reply_of, run, run_line, answers, start_device, output}
use Rattle.session_run.specs.Feeding.{kept_bytes, no_line, pushed, restarted, line_of, Fed, feed_byte, feed, feed_all, last_end}
use Rattle.session_run.proofs.Feeding.{feed-join}
use Rattle.session_claims.specs.Claims.{joined, printed_in_blocks, AnyBlocks}

-- ---- one block after another

blocks-joined : (P : ℕ) (blocks : List (List ℕ)) (d : Device) (p : PartialLine) → feed_all P blocks d p ≡ feed P (joined blocks) d p
blocks-joined P [] d p = refl
blocks-joined P (b ∷ bs) d p = rw (blocks-joined P bs (feed P b d p).device (feed P b d p).line) (feed-join P b (joined bs) d p)

-- ---- lines

abbrev no_end : ℕ → Bool
no_end c = not (eqb c LF)

not_end : (c : ℕ) → no_end c ≡ true → eqb c LF ≡ false
not_end c e = cases (eqb c LF) (λ h. absurd (false≢true (rw h at e))) (λ h. h)

-- a line that is ended, and one that is not
lines_ended : (xs ys : List ℕ) → every no_end xs ≡ true → lines (xs ++ (LF ∷ ys)) ≡ xs ∷ lines ys
lines_ended [] ys e = refl
lines_ended (c ∷ cs) ys e = rw (not_end c (and_left (no_end c) (every no_end cs) e), lines_ended cs ys (and_right (no_end c) (every no_end cs) e))

lines-last : (c : ℕ) (cs : List ℕ) → every no_end (c ∷ cs) ≡ true → lines (c ∷ cs) ≡ (c ∷ cs) ∷ []
lines-last c [] e = rw (not_end c (and_left (no_end c) true e))
lines-last c (d ∷ ds) e =
    rw (not_end c (and_left (no_end c) (every no_end (d ∷ ds)) e))
    (ap (in_first c) (lines-last d ds (and_right (no_end c) (every no_end (d ∷ ds)) e)))

every_snoc : (xs : List ℕ) (c : ℕ) → every no_end xs ≡ true → no_end c ≡ true → every no_end (xs ++ (c ∷ [])) ≡ true
every_snoc [] c e h = rw h
every_snoc (x ∷ xs) c e h = rw (and_left (no_end x) (every no_end xs) e) (every_snoc xs c (and_right (no_end x) (every no_end xs) e) h)

-- the bytes that are kept tell all that a line says
parse-kept : (line : List ℕ) → parse (take kept_bytes line) ≡ parse line
unfolding parse
parse-kept line =
    split_lt kept_bytes (length line)
    (λ h. let k : greatest_line < length line = omega arith in
    let l : greatest_line < length (take kept_bytes line) = omega (arith, length-take kept_bytes line) in
    rw (lt-leb _ _ l, lt-leb _ _ k))
    (λ h. rw (take_all kept_bytes line h))

-- ---- the line that has not ended

-- these are its bytes so far
record Keeps (line : List ℕ) (p : PartialLine) : Type 0 where
  kept : line_of p ≡ take kept_bytes line
  count : p.len ≡ min kept_bytes (length line)
  room : length p.bytes ≡ kept_bytes
  unended : every no_end line ≡ true

keeps_none : Keeps [] no_line
unfolding line_of
keeps_none = record { kept = refl; count = refl; room = refl; unended = refl }

keeps_restarted : (p : PartialLine) (line : List ℕ) → Keeps line p → Keeps [] (restarted p)
unfolding line_of restarted
keeps_restarted p line k = record { kept = refl; count = refl; room = k.room; unended = refl }

keeps_pushed : (p : PartialLine) (line : List ℕ) (b : ℕ) → Keeps line p → b ≢ LF → Keeps (line ++ (b ∷ [])) (pushed b p)
unfolding line_of pushed
keeps_pushed p line b k n =
    let o : every no_end (line ++ (b ∷ [])) ≡ true = every_snoc line b k.unended (rw (ne_eqb _ _ n)) in
    let m : length (line ++ (b ∷ [])) ≡ length line + 1 = length-append line (b ∷ []) in
    split_lt p.len kept_bytes
    (λ h. let short : length line < kept_bytes = omega (arith, k.count) in
    let whole : length line ≤ kept_bytes = omega arith in
    let more : length (line ++ (b ∷ [])) ≤ kept_bytes = omega (arith, m) in
    let space : p.len < length p.bytes = omega (arith, k.room) in
    rw (lt-ltb _ _ h)
    (record {
      kept =
          rw
          (add-one, take-suc-set p.bytes p.len b space, k.kept, take_all kept_bytes line whole, take_all kept_bytes (line ++ (b ∷ [])) more);
      count = omega (arith, k.count, m);
      room = length-set p.bytes p.len b ∙ k.room;
      unended = o;
    }))
    (λ h. let long : kept_bytes ≤ length line = omega (arith, k.count) in
    rw (le-ltb _ _ h)
    (record {
      kept = k.kept ∙ sym (take-append-le kept_bytes line (b ∷ []) long);
      count = omega (arith, k.count, m);
      room = k.room;
      unended = o;
    }))

-- ---- the whole

module _ (P : ℕ) where
  -- what is printed of the rest of the input, with its end
  rest : List ℕ → Device → PartialLine → List ℕ
  rest xs d p = let x : Fed = feed P xs d p in x.text ++ (feed P (last_end x.line) x.device x.line).text

  run-kept : (p : PartialLine) (line : List ℕ) (d : Device) → Keeps line p → run_line P (line_of p) d ≡ run_line P line d
  unfolding run_line
  run-kept p line d k = ap (λ c. run P c d) (ap parse k.kept ∙ parse-kept line)

  rest_ended : (bs : List ℕ) (d : Device) (p : PartialLine)
      → rest (LF ∷ bs) d p ≡ reply_of (run_line P (line_of p) d) ++ rest bs (run_line P (line_of p) d).device (restarted p)
  unfolding rest feed_byte
  rest_ended bs d p = append_assoc (reply_of (run_line P (line_of p) d)) _ _

  rest_more : (b : ℕ) (bs : List ℕ) (d : Device) (p : PartialLine) → b ≢ LF → rest (b ∷ bs) d p ≡ rest bs d (pushed b p)
  unfolding rest feed_byte
  rest_more b bs d p n = rw (ne_eqb _ _ n)

  rest_lines : (xs : List ℕ) (d : Device) (p : PartialLine) (line : List ℕ) → Keeps line p → rest xs d p ≡ answers P (lines (line ++ xs)) d
  unfolding rest feed_byte
  rest_lines [] d p [] k = rw (eq-eqb p.len 0 k.count)
  rest_lines [] d p (c ∷ cs) k =
      let n : p.len ≢ 0 = λ q. absurd (omega (arith, k.count, q)) in
      let e : lines ((c ∷ cs) ++ []) ≡ (c ∷ cs) ∷ [] = ap lines (append-nil (c ∷ cs)) ∙ lines-last c cs k.unended in
      rw (ne_eqb _ _ n, run-kept p (c ∷ cs) d k) (sym (ap (λ ls. answers P ls d) e))
  rest_lines (b ∷ bs) d p line k =
      split_eq b LF
      (λ q. rw (q, lines_ended line bs k.unended)
      (rest_ended bs d p ∙ rw (run-kept p line d k) (ap (λ t. reply_of (run_line P line d) ++ t) (rest_lines bs (run_line P line d).device (restarted p) [] (keeps_restarted p line k)))))
      (λ n. rest_more b bs d p n ∙ rest_lines bs d (pushed b p) (line ++ (b ∷ [])) (keeps_pushed p line b k n) ∙ ap (λ l. answers P (lines l) d) (append_assoc line (b ∷ []) bs))

pub any-blocks : AnyBlocks
unfolding printed_in_blocks output rest
any-blocks P blocks =
    rw (blocks-joined P blocks (start_device P) no_line) (ap (λ t. header ++ t) (rest_lines P (joined blocks) (start_device P) no_line [] keeps_none))
