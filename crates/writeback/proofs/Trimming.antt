-- The loop over the files of a mount or of a format, and that its TRIMs are theirs.
use mathlib.Core.Path.{◌≡◌, refl, sym}
use mathlib.Core.Bool.{Bool, or-false}
use mathlib.Core.List.{List, ◌++◌}
use Prim.Native.Nat.{ℕ, zero, suc, ◌+◌, ◌-◌, ◌≤◌, ◌<◌}
use native.Mathlib.Omega.{arith}
use lib.ListN.{length, get_or}
use borrow.Author.Tests.{eq-eqb}
use Rattle.memory.specs.Bytes.{zeros}
use Rattle.memory.proofs.Bytes.{get_or-zeros}
use Rattle.media.specs.Geometry.{files, file_bytes, media_bytes}
use Rattle.media.specs.Write.{Media, size_at}
use Rattle.media.specs.Write.MediaWrite.{trim}
use Rattle.device.specs.Plan.{write_if, Spent}
use Rattle.device.specs.Mounting.{trims_from, nonzero_from, mount_plan, format_plan}
use Rattle.device.proofs.Plan.{at_most_one, spent-none, spent-join}
use Rattle.device.proofs.Mounting.{Untouched, untouched_all, untouched-next, untouched-nonzero, trims_more}
use Rattle.writeback.specs.Trims.{needs_trim, trims_to}

-- the files below f were looked at, n writes were needed, and the media is m
pub record Trimming (P budget : ℕ) (before : Media) (targets : List ℕ) (f n : ℕ) (m : Media) : Type 0 where
  pub spent : Spent P budget before 0 n (trims_from (λ g. needs_trim P before g (get_or targets g 0)) (λ g. get_or targets g 0) f 0) m
  pub rest : Untouched P before f m
  pub most : n ≤ f

module _ {P budget : ℕ} {before : Media} {targets : List ℕ} where
  pub trimming_none : length before.bytes ≡ media_bytes P → length before.sizes ≡ files → Trimming P budget before targets 0 0 before
  unfolding trims_from
  trimming_none lb ls = record {
    spent = spent-none P budget before 0 _ refl;
    rest = untouched_all P before lb ls;
    most = omega arith;
  }

  module _ {f n : ℕ} {m : Media} (s : Trimming P budget before targets f n m) where
    pub trimming_next : (k t : ℕ) (c : Media) (b : Bool) → t ≡ get_or targets f 0 → length before.bytes ≡ media_bytes P → f < files → t ≤ file_bytes P
        → b ≡ needs_trim P m f t → Spent P budget m n k (write_if b (trim f t)) c → Trimming P budget before targets (f + 1) k c
    unfolding needs_trim
    trimming_next k t c b et lb hf hn eb y =
        let needed : ℕ → Bool = λ g. needs_trim P before g (get_or targets g 0) in
        let size : ℕ → ℕ = λ g. get_or targets g 0 in
        let es : size_at m f ≡ size_at before f = s.rest.size_of f (omega arith) hf in
        let ez : nonzero_from P m f t ≡ nonzero_from P before f t = untouched-nonzero P before f m s.rest t lb hf hn in
        let x : Spent P budget m n k (write_if (needed f) (trim f (size f))) c = rw (eb, es, ez, et) at y in
        let z : 0 + f ≡ f = omega arith in
        let more : trims_from needed size (f + 1) 0 ≡ trims_from needed size f 0 ++ write_if (needed f) (trim f (size f)) = rw z at (trims_more needed size f 0) in
        record {
          spent = rw more (spent-join P budget before 0 m c n k _ _ s.spent x);
          rest = rw x.media (untouched-next P before f m s.rest (budget - n) (size f) (needed f) hf (rw et at hn));
          most = omega (arith, s.most, x.count, at_most_one (needed f) (trim f (size f)));
        }

    pub trimming_all : f ≡ files → Spent P budget before 0 n (trims_to P before targets) m
    unfolding trims_to
    trimming_all e = rw (← e) s.spent

-- ---- the plans of document 01

trims_same : (needed other : ℕ → Bool) (size target : ℕ → ℕ) → ((f : ℕ) → needed f ≡ other f) → ((f : ℕ) → size f ≡ target f)
    → (n f : ℕ) → trims_from needed size n f ≡ trims_from other target n f
unfolding trims_from
trims_same needed other size target h k zero f = refl
trims_same needed other size target h k (suc n) f = rw (h f, k f, trims_same needed other size target h k n (suc f))

pub mount_trims : (P : ℕ) (m : Media) → mount_plan P m ≡ trims_to P m m.sizes
unfolding mount_plan trims_to needs_trim
mount_trims P m = trims_same _ _ _ _ (λ f. rw (eq-eqb (size_at m f) (size_at m f) refl) (sym (or-false (nonzero_from P m f (size_at m f))))) (λ f. refl) files 0

pub format_trims : (P : ℕ) (m : Media) → format_plan P m ≡ trims_to P m (zeros files)
unfolding format_plan trims_to needs_trim
format_trims P m = trims_same _ _ _ _ (λ f. rw (get_or-zeros files f)) (λ f. rw (get_or-zeros files f)) files 0
