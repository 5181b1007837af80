-- Laws of model files: the length, and the byte at each position; the log.
use mathlib.Core.Path.{◌≡◌, refl, sym, ap, ◌∙◌}
use mathlib.Core.Logic.{inl, inr}
use mathlib.Core.List.{List, [], ◌∷◌, ◌++◌}
use mathlib.Core.Bool.{Bool}
use Prim.Native.Nat.{ℕ, zero, suc, ◌+◌, ◌-◌, ◌*◌, ◌≤◌, ◌<◌, min, max}
use native.Mathlib.Nat.{not-suc-le-zero, le_of_suc-le-suc, suc-sub-suc, sub-zero}
use native.Mathlib.Omega.{arith}
use lib.ListN.{length, get_or, take, drop, length-take, length-append, length-drop, get_or-eq_default, get_or-append}
use lib.Seq.{get_or-drop, get_or-append-add, take_all, take-length}
use borrow.Author.Tests.{lt-ltb, le-ltb}
use Rattle.memory.proofs.Cases.{split_lt, split_eq}
use Rattle.media.specs.Geometry.{page_bytes}
use Rattle.model.specs.ModelFile.{Entry, ModelFile, lay, posix_write, posix_truncate, Becomes, after_write}
use Rattle.model.specs.CacheByLog.{carried_out, cached_after, cached_by, smallest}
use Rattle.model.specs.ModelFile.Entry.{written, truncated}
use Rattle.model.specs.States.{redo, replay, CrashState}

-- ---- truncate

pub length-truncate : (file : List ℕ) (n : ℕ) → length (posix_truncate file n) ≡ n
length-truncate file zero = refl
length-truncate [] (suc n) = ap suc (length-truncate [] n)
length-truncate (x ∷ file) (suc n) = ap suc (length-truncate file n)

pub truncate-below : (file : List ℕ) (n i : ℕ) → i < n → get_or (posix_truncate file n) i 0 ≡ get_or file i 0
truncate-below file zero i h = absurd (not-suc-le-zero h)
truncate-below [] (suc n) zero h = refl
truncate-below [] (suc n) (suc i) h = truncate-below [] n i (le_of_suc-le-suc h)
truncate-below (x ∷ file) (suc n) zero h = refl
truncate-below (x ∷ file) (suc n) (suc i) h = truncate-below file n i (le_of_suc-le-suc h)

pub truncate_past : (file : List ℕ) (n i : ℕ) → n ≤ i → get_or (posix_truncate file n) i 0 ≡ 0
truncate_past file n i h = get_or-eq_default (posix_truncate file n) 0 (rw length-truncate h)

-- ---- write

pub length-lay : (file : List ℕ) (n : ℕ) (bytes : List ℕ) → length (lay file n bytes) ≡ max (length file) (n + length bytes)
length-lay file zero bytes = simp (length-append, length-drop) (omega arith)
length-lay [] (suc n) bytes = let h : length (lay [] n bytes) ≡ max 0 (n + length bytes) = length-lay [] n bytes in omega arith
length-lay (x ∷ file) (suc n) bytes =
    let h : length (lay file n bytes) ≡ max (length file) (n + length bytes) = length-lay file n bytes in omega arith

pub lay_in : (file : List ℕ) (n : ℕ) (bytes : List ℕ) (i : ℕ) → n ≤ i → i < n + length bytes → get_or (lay file n bytes) i 0 ≡ get_or bytes (i - n) 0
lay_in file zero bytes i h k = get_or-append bytes (drop (length bytes) file) 0 i (omega arith) ∙ ap (λ (j : ℕ). get_or bytes j 0) (sym (sub-zero i))
lay_in [] (suc n) bytes zero h k = absurd (not-suc-le-zero h)
lay_in [] (suc n) bytes (suc i) h k = rw suc-sub-suc (lay_in [] n bytes i (le_of_suc-le-suc h) (omega arith))
lay_in (x ∷ file) (suc n) bytes zero h k = absurd (not-suc-le-zero h)
lay_in (x ∷ file) (suc n) bytes (suc i) h k = rw suc-sub-suc (lay_in file n bytes i (le_of_suc-le-suc h) (omega arith))

pub lay-before : (file : List ℕ) (n : ℕ) (bytes : List ℕ) (i : ℕ) → i < n → get_or (lay file n bytes) i 0 ≡ get_or file i 0
lay-before file zero bytes i h = absurd (not-suc-le-zero h)
lay-before [] (suc n) bytes zero h = refl
lay-before [] (suc n) bytes (suc i) h = lay-before [] n bytes i (le_of_suc-le-suc h)
lay-before (x ∷ file) (suc n) bytes zero h = refl
lay-before (x ∷ file) (suc n) bytes (suc i) h = lay-before file n bytes i (le_of_suc-le-suc h)

pub lay-after : (file : List ℕ) (n : ℕ) (bytes : List ℕ) (i : ℕ) → n + length bytes ≤ i → get_or (lay file n bytes) i 0 ≡ get_or file i 0
lay-after file zero bytes i h =
    let e : length bytes + (i - length bytes) ≡ i = omega arith in
    ap (λ (j : ℕ). get_or (bytes ++ drop (length bytes) file) j 0) (sym e)
    ∙ get_or-append-add bytes (drop (length bytes) file) (i - length bytes) 0
    ∙ get_or-drop (length bytes) file (i - length bytes) 0
    ∙ ap (λ (j : ℕ). get_or file j 0) e
lay-after [] (suc n) bytes zero h = absurd (omega arith)
lay-after [] (suc n) bytes (suc i) h = lay-after [] n bytes i (omega arith)
lay-after (x ∷ file) (suc n) bytes zero h = absurd (omega arith)
lay-after (x ∷ file) (suc n) bytes (suc i) h = lay-after file n bytes i (omega arith)

pub write-none : (file : List ℕ) (n : ℕ) (bytes : List ℕ) → length bytes ≡ 0 → posix_write file n bytes ≡ file
write-none file n [] e = refl
write-none file n (b ∷ bytes) e = absurd (omega arith)

pub write_some : (file : List ℕ) (n : ℕ) (bytes : List ℕ) → 0 < length bytes → posix_write file n bytes ≡ lay file n bytes
write_some file n [] h = absurd (omega arith)
write_some file n (b ∷ bytes) h = refl

pub logged_none : (n : ℕ) (bytes : List ℕ) (m : ModelFile) → length bytes ≡ 0 → after_write n bytes m ≡ m
logged_none n [] m e = refl
logged_none n (b ∷ bytes) m e = absurd (omega arith)

pub logged_some : (n : ℕ) (bytes : List ℕ) (m : ModelFile) → 0 < length bytes
    → after_write n bytes m ≡ record { current = lay m.current n bytes; durable = m.durable; log = m.log ++ (written n bytes ∷ []) }
logged_some n [] m h = absurd (omega arith)
logged_some n (b ∷ bytes) m h = refl

-- ---- the log

pub replay_one_more : (boundary : ℕ) (file : List ℕ) (log : List Entry) (e : Entry) → replay boundary file (log ++ (e ∷ [])) ≡ redo boundary (replay boundary file log) e
replay_one_more boundary file [] e = refl
replay_one_more boundary file (x ∷ log) e = replay_one_more boundary (redo boundary file x) log e

-- every entry carried out
abbrev pub all_carried_out : List ℕ → List Entry → List ℕ
all_carried_out file [] = file
all_carried_out file (e ∷ log) = all_carried_out (carried_out file e) log

pub carried_one_more : (file : List ℕ) (log : List Entry) (e : Entry) → all_carried_out file (log ++ (e ∷ [])) ≡ carried_out (all_carried_out file log) e
carried_one_more file [] e = refl
carried_one_more file (x ∷ log) e = carried_one_more (carried_out file x) log e

pub cached_one_more : (file : List ℕ) (log : List Entry) (e : Entry) (p : ℕ) (before : Bool)
    → cached_by file (log ++ (e ∷ [])) p before ≡ cached_after (λ i. get_or (all_carried_out file log) i 0) e p (cached_by file log p before)
cached_one_more file [] e p before = refl
cached_one_more file (x ∷ log) e p before = cached_one_more (carried_out file x) log e p (cached_after (λ i. get_or file i 0) x p before)

-- a replay is as long as the smallest truncate
length_redone : (boundary : ℕ) (file : List ℕ) (n : ℕ) (bytes : List ℕ) → length (redo boundary file (written n bytes)) ≡ length file
length_redone boundary file n bytes =
    let k : ℕ = min boundary (length file) - n in
    let l : length (take k bytes) ≡ min k (length bytes) = length-take k bytes in
    split_eq (length (take k bytes)) 0
    (λ e. rw (write-none file n (take k bytes) e))
    (λ ne. rw (write_some file n (take k bytes) (omega arith)) (omega (arith, length-lay file n (take k bytes))))

pub length-replay : (boundary : ℕ) (file : List ℕ) (log : List Entry) → length (replay boundary file log) ≡ smallest (length file) log
length-replay boundary file [] = refl
length-replay boundary file (written n bytes ∷ log) =
    length-replay boundary (redo boundary file (written n bytes)) log ∙ ap (λ (k : ℕ). smallest k log) (length_redone boundary file n bytes)
length-replay boundary file (truncated n ∷ log) =
    length-replay boundary (redo boundary file (truncated n)) log
    ∙ ap (λ (k : ℕ). smallest k log)
    (split_lt n (length file)
    (λ h. rw (lt-ltb n (length file) h) (length-truncate file n ∙ omega arith))
    (λ h. rw (le-ltb n (length file) h) (omega arith)))

-- every entry left out
none_becomes : (file : List ℕ) (log : List Entry) → Becomes file log file
none_becomes file [] = refl
none_becomes file (written n bytes ∷ log) = (0, omega arith, none_becomes file log)
none_becomes file (truncated n ∷ log) = inr (none_becomes file log)

take_within : (k : ℕ) (bytes : List ℕ) → take k bytes ≡ take (min k (length bytes)) bytes
take_within k bytes =
    split_lt k (length bytes)
    (λ l. let e : min k (length bytes) ≡ k = omega arith in rw e)
    (λ l. let e : min k (length bytes) ≡ length bytes = omega arith in rw (e, take_all k bytes l, take-length bytes))

-- a replay is one of the things that a log may do
replay_becomes : (boundary : ℕ) (file : List ℕ) (log : List Entry) → Becomes file log (replay boundary file log)
replay_becomes boundary file [] = refl
replay_becomes boundary file (written n bytes ∷ log) =
    let k : ℕ = min boundary (length file) - n in (
      min k (length bytes),
      omega arith,
      rw (← take_within k bytes) (replay_becomes boundary (posix_write file n (take k bytes)) log),
    )
replay_becomes boundary file (truncated n ∷ log) =
    split_lt n (length file)
    (λ h. rw (lt-ltb n (length file) h) (inl (replay_becomes boundary (posix_truncate file n) log)))
    (λ h. rw (le-ltb n (length file) h) (inr (replay_becomes boundary file log)))

pub state_becomes : (m : ModelFile) (found : List ℕ) → CrashState m found → Becomes m.durable m.log found
state_becomes m found (inl e) = rw e (none_becomes m.durable m.log)
state_becomes m found (inr (q, e)) = rw e (replay_becomes (page_bytes * q) m.durable m.log)
