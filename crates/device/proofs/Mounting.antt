-- What a mount or a format leaves on the media: cut after some TRIMs, or done.
use mathlib.Core.Path.{◌≡◌, refl, sym, ap, ◌∙◌, subst}
use mathlib.Core.Logic.{◌≢◌, ◌⊎◌, inl, inr}
use mathlib.Core.Bool.{Bool, true, false, not, ◌||◌}
use mathlib.Core.List.{List, [], ◌∷◌, ◌++◌, append-nil, append_assoc}
use Prim.Native.Nat.{ℕ, zero, suc, ◌+◌, ◌-◌, ◌≤◌, ◌<◌}
use native.Mathlib.Nat.{le_of_suc-le-suc}
use native.Mathlib.Omega.{arith}
use native.Mathlib.Numerals.{add-one}
use lib.Dec.{eqb}
use lib.ListN.{length, get_or, take}
use lib.Seq.{take-nil, take_all, take-length, ext_get_or}
use borrow.Author.Tests.{not-false, eqb-true, eq-eqb, ne_eqb, le-leb, lt-leb}
use borrow.Table.Steps.{cases}
use Rattle.answer.specs.Coded.{refused, done, CUT}
use Rattle.memory.specs.Bytes.{part}
use Rattle.memory.proofs.Cases.{split_eq}
use Rattle.memory.proofs.Bytes.{length_part, get_d_part}
use Rattle.media.specs.Geometry.{files, file_bytes, media_bytes, file_start}
use Rattle.media.specs.Write.{Media, MediaWrite, byte_at, size_at, apply, apply_all, InLimits, All}
use Rattle.media.specs.Write.MediaWrite.{trim}
use Rattle.media.proofs.Geometry.{file_end}
use Rattle.media.proofs.Write.{bytes_stay, sizes_stay, byte-after-trim, size_after-trim, other_byte, other_size, all_bytes_stay, all_sizes_stay}
use Rattle.device.specs.Device.{Device, device_of, down_state, mounted_state}
use Rattle.device.specs.Admission.{Result, give, media_shape, mount_tests}
use Rattle.scan.specs.Scan.{every}
use Rattle.device.specs.Plan.{write_if}
use Rattle.device.specs.Mounting.{trims_from, nonzero_from, mount_plan, mount, format_plan, format}
use Rattle.scan.proofs.Scan.{or_left, or_right, every_at}
use Rattle.device.proofs.Admission.{admit_by, Mountable, shape_admitted, shape_changeless, mount_changeless, mount_admitted}
use Rattle.device.proofs.Plan.{budget_by, all_join, all_if}

module _ (P : ℕ) where
  zero-from : (m : Media) (f n : ℕ) → length m.bytes ≡ media_bytes P → f < files → nonzero_from P m f n ≡ false
      → (i : ℕ) → n ≤ i → i < file_bytes P → byte_at P m f i ≡ 0
  unfolding nonzero_from
  zero-from m f n lm hf e i lo hi =
      let l : length (part m.bytes (file_start P f + n) (file_bytes P - n)) ≡ file_bytes P - n =
      length_part m.bytes (file_start P f + n) (file_bytes P - n) (omega (arith, file_end P f hf)) in
      ap (λ (k : ℕ). get_or m.bytes k 0) (omega arith)
      ∙ sym (get_d_part m.bytes (file_start P f + n) (file_bytes P - n) (i - n) (omega arith))
      ∙ eqb-true _ _ (every_at (λ b. eqb b 0) (part m.bytes (file_start P f + n) (file_bytes P - n)) 0 (not-false _ e) (i - n) (omega arith))

  -- ---- the files that were not looked at yet

  module _ (m : Media) where
    -- the files from f on are as in m
    pub record Untouched (f : ℕ) (a : Media) : Type 0 where
      pub bytes : length a.bytes ≡ media_bytes P
      pub sizes : length a.sizes ≡ files
      pub byte : (g i : ℕ) → f ≤ g → g < files → i < file_bytes P → byte_at P a g i ≡ byte_at P m g i
      pub size_of : (g : ℕ) → f ≤ g → g < files → size_at a g ≡ size_at m g

    pub untouched_all : length m.bytes ≡ media_bytes P → length m.sizes ≡ files → Untouched 0 m
    untouched_all lb ls = record { bytes = lb; sizes = ls; byte = λ g i l hg hi. refl; size_of = λ g l hg. refl }

    module _ (f : ℕ) (a : Media) (u : Untouched f a) where
      later : Untouched (suc f) a
      later = record {
        bytes = u.bytes;
        sizes = u.sizes;
        byte = λ g i l hg hi. u.byte g i (omega arith) hg hi;
        size_of = λ g l hg. u.size_of g (omega arith) hg;
      }

      trimmed : (n : ℕ) → f < files → n ≤ file_bytes P → Untouched (suc f) (apply P a (trim f n))
      trimmed n hf hn = record {
        bytes = bytes_stay P a (trim f n) ∙ u.bytes;
        sizes = sizes_stay P a (trim f n) ∙ u.sizes;
        byte = λ g i l hg hi. other_byte P a u.bytes g i hg hi (trim f n) (hf, hn) (λ e. (omega arith)) ∙ u.byte g i (omega arith) hg hi;
        size_of = λ g l hg. other_size P a g (trim f n) (λ e. (omega arith)) ∙ u.size_of g (omega arith) hg;
      }

      -- file f was looked at, with k writes left of a budget
      pub untouched-next : (k n : ℕ) (needed : Bool) → f < files → n ≤ file_bytes P → Untouched (f + 1) (apply_all P a (take k (write_if needed (trim f n))))
      unfolding write_if
      untouched-next k n false hf hn = rw (take-nil, add-one) later
      untouched-next zero n true hf hn = rw add-one later
      untouched-next (suc k) n true hf hn =
          subst (λ (ws : List MediaWrite). Untouched (f + 1) (apply_all P a ws)) (sym (take_all (suc k) (trim f n ∷ []) (omega arith))) (rw add-one (trimmed n hf hn))

      -- what is found of file f is what m has of it
      pub untouched-nonzero : (n : ℕ) → length m.bytes ≡ media_bytes P → f < files → n ≤ file_bytes P → nonzero_from P a f n ≡ nonzero_from P m f n
      unfolding nonzero_from
      untouched-nonzero n lb hf hn =
          let p : ℕ = file_start P f + n in
          let k : ℕ = file_bytes P - n in
          let la : length (part a.bytes p k) ≡ k = length_part a.bytes p k (omega (arith, u.bytes, file_end P f hf)) in
          let lm : length (part m.bytes p k) ≡ k = length_part m.bytes p k (omega (arith, file_end P f hf)) in
          let e : part a.bytes p k ≡ part m.bytes p k =
          ext_get_or 0 (part a.bytes p k) (part m.bytes p k) (la ∙ sym lm) (λ i hi.
          let z : file_start P f + n + i ≡ file_start P f + (n + i) = omega arith in
          let b : get_or a.bytes (p + i) 0 ≡ get_or m.bytes (p + i) 0 = rw z (u.byte f (n + i) (omega arith) hf (omega arith)) in
          get_d_part a.bytes p k i (omega arith) ∙ b ∙ sym (get_d_part m.bytes p k i (omega arith))) in
          ap (λ (l : List ℕ). not (every (λ b. eqb b 0) l)) e

  -- ---- the TRIMs of all files

  module _ (m : Media) (needed : ℕ → Bool) (size : ℕ → ℕ) (fits : (g : ℕ) → g < files → size g ≤ file_bytes P)
      (ordered : (g : ℕ) → g < files → needed g ≡ false
      → (size_at m g ≡ size g) × ((i : ℕ) → size g ≤ i → i < file_bytes P → byte_at P m g i ≡ 0)) where
    -- from a to c, n files from f on were looked at; all: to the end
    record Swept (f n : ℕ) (all : Type 0) (a c : Media) : Type 0 where
      -- the bytes below the size are kept, and the size is what it was or the one that it is to have
      pub kept : (g i : ℕ) → g < files → i < size g → i < file_bytes P → byte_at P c g i ≡ byte_at P a g i
      pub either : (g : ℕ) → g < files → (size_at c g ≡ size_at a g) ⊎ (size_at c g ≡ size g)
      -- the files before f are left
      pub before : (g i : ℕ) → g < f → g < files → i < file_bytes P → byte_at P c g i ≡ byte_at P a g i
      pub before_size : (g : ℕ) → g < f → g < files → size_at c g ≡ size_at a g
      -- in the end zeros follow the size
      pub clean : all → (g i : ℕ) → f ≤ g → g < f + n → g < files → size g ≤ i → i < file_bytes P → byte_at P c g i ≡ 0
      pub sized : all → (g : ℕ) → f ≤ g → g < f + n → g < files → size_at c g ≡ size g

    -- a file in order
    keep-file : (f n : ℕ) (all : Type 0) (a c : Media) → needed f ≡ false → Untouched m f a → Swept (suc f) n all a c → Swept f (suc n) all a c
    keep-file f n all a c e u s = record {
      kept = s.kept;
      either = s.either;
      before = λ g i l hg hi. s.before g i (omega arith) hg hi;
      before_size = λ g l hg. s.before_size g (omega arith) hg;
      clean = λ z g i lo hi hg ge hb.
          split_eq g f
          (λ q. rw q (s.before f i (omega arith) (rw q at hg) hb ∙ u.byte f i (omega arith) (rw q at hg) hb ∙ (ordered f (rw q at hg) e).1 i (rw q at ge) hb))
          (λ ne. s.clean z g i (omega arith) (omega arith) hg ge hb);
      sized = λ z g lo hi hg.
          split_eq g f
          (λ q. rw q (s.before_size f (omega arith) (rw q at hg) ∙ u.size_of f (omega arith) (rw q at hg) ∙ (ordered f (rw q at hg) e).0))
          (λ ne. s.sized z g (omega arith) (omega arith) hg);
    }

    -- a file that is trimmed
    module _ (f : ℕ) (hf : f < files) (a : Media) (u : Untouched m f a) where
      abbrev b : Media
      b = apply P a (trim f (size f))

      byte_other : (g i : ℕ) → g ≢ f → g < files → i < file_bytes P → byte_at P b g i ≡ byte_at P a g i
      byte_other g i ne hg hi = rw (byte-after-trim P a u.bytes g i hg hi f (size f) (fits f hf), ne_eqb g f ne)

      size_other : (g : ℕ) → g ≢ f → g < files → size_at b g ≡ size_at a g
      size_other g ne hg = rw (size_after-trim P a f (size f) g (rw u.sizes hg), ne_eqb g f ne)

      byte_low : (i : ℕ) → i < size f → i < file_bytes P → byte_at P b f i ≡ byte_at P a f i
      byte_low i l hi = rw (byte-after-trim P a u.bytes f i hf hi f (size f) (fits f hf), eq-eqb f f refl, lt-leb _ _ l)

      byte_high : (i : ℕ) → size f ≤ i → i < file_bytes P → byte_at P b f i ≡ 0
      byte_high i l hi = rw (byte-after-trim P a u.bytes f i hf hi f (size f) (fits f hf), eq-eqb f f refl, le-leb _ _ l)

      size_own : size_at b f ≡ size f
      size_own = rw (size_after-trim P a f (size f) f (rw u.sizes hf), eq-eqb f f refl)

      trim-file : (n : ℕ) (all : Type 0) (c : Media) → Swept (suc f) n all b c → Swept f (suc n) all a c
      trim-file n all c s = record {
        kept = λ g i hg l hi.
            s.kept g i hg l hi ∙ split_eq g f (λ e. rw e (byte_low i (rw e at l) hi)) (λ ne. byte_other g i ne hg hi);
        either = λ g hg.
            split_eq g f
            (λ e. inr (rw e (s.before_size f (omega arith) hf ∙ size_own)))
            (λ ne. elim (s.either g hg) [ inl q ↦ inl (q ∙ size_other g ne hg) | inr q ↦ inr q ]);
        before = λ g i l hg hi. s.before g i (omega arith) hg hi ∙ byte_other g i (λ e. (omega arith)) hg hi;
        before_size = λ g l hg. s.before_size g (omega arith) hg ∙ size_other g (λ e. (omega arith)) hg;
        clean = λ z g i lo hi hg ge hb.
            split_eq g f
            (λ q. rw q (s.before f i (omega arith) hf hb ∙ byte_high i (rw q at ge) hb))
            (λ ne. s.clean z g i (omega arith) (omega arith) hg ge hb);
        sized = λ z g lo hi hg.
            split_eq g f
            (λ q. rw q (s.before_size f (omega arith) hf ∙ size_own))
            (λ ne. s.sized z g (omega arith) (omega arith) hg);
      }

    none_swept : (f n : ℕ) (all : Type 0) (a : Media) → (all → n ≡ 0) → Swept f n all a a
    none_swept f n all a end = record {
      kept = λ g i hg l hi. refl;
      either = λ g hg. inl refl;
      before = λ g i l hg hi. refl;
      before_size = λ g l hg. refl;
      clean = λ z g i lo hi hg ge hb. absurd (omega (arith, end z));
      sized = λ z g lo hi hg. absurd (omega (arith, end z));
    }

    more : {f n j k : ℕ} {a c : Media} → Swept f n (j ≤ k) a c → Swept f n (suc j ≤ suc k) a c
    more s = record {
      kept = s.kept;
      either = s.either;
      before = s.before;
      before_size = s.before_size;
      clean = λ z. s.clean (le_of_suc-le-suc z);
      sized = λ z. s.sized (le_of_suc-le-suc z);
    }

    sweep : (n f k : ℕ) (a : Media) → f + n ≤ files → Untouched m f a
        → Swept f n (length (trims_from needed size n f) ≤ k) a (apply_all P a (take k (trims_from needed size n f)))
    unfolding trims_from write_if
    sweep zero f k a h u = rw (take-nil k) (none_swept f 0 _ a (λ _. refl))
    sweep (suc n) f zero a h u =
        cases (needed f)
        (λ e. rw e (none_swept f (suc n) _ a (λ z. absurd (omega arith))))
        (λ e. rw e (keep-file f n _ a _ e u (sweep n (suc f) zero a (omega arith) (later m f a u))))
    sweep (suc n) f (suc k) a h u =
        cases (needed f)
        (λ e. rw e
        (more
        (trim-file f (omega arith) a u n _ _ (sweep n (suc f) k (apply P a (trim f (size f))) (omega arith) (trimmed m f a u (size f) (omega arith) (fits f (omega arith)))))))
        (λ e. rw e (keep-file f n _ a _ e u (sweep n (suc f) (suc k) a (omega arith) (later m f a u))))

    trims_own : (n f : ℕ) → f + n ≤ files → All (InLimits P) (trims_from needed size n f)
    unfolding trims_from
    trims_own zero f h = tt
    trims_own (suc n) f h =
        all_join (InLimits P) (write_if (needed f) (trim f (size f))) _ (all_if (InLimits P) (needed f) _ (λ e. (omega arith, fits f (omega arith))))
        (trims_own n (suc f) (omega arith))

    -- ---- the whole list, under any budget

    record Trimmed (c : Media) : Type 0 where
      pub bytes : length c.bytes ≡ media_bytes P
      pub sizes : length c.sizes ≡ files
      pub kept : (g i : ℕ) → g < files → i < size g → i < file_bytes P → byte_at P c g i ≡ byte_at P m g i
      pub either : (g : ℕ) → g < files → (size_at c g ≡ size_at m g) ⊎ (size_at c g ≡ size g)

    record AllTrimmed (c : Media) : Type 0 where
      pub clean : (g i : ℕ) → g < files → size g ≤ i → i < file_bytes P → byte_at P c g i ≡ 0
      pub sized : (g : ℕ) → g < files → size_at c g ≡ size g

    module _ (lb : length m.bytes ≡ media_bytes P) (ls : length m.sizes ≡ files) where
      trims_cut : (k : ℕ) → Trimmed (apply_all P m (take k (trims_from needed size files 0)))
      trims_cut k =
          let s = sweep files 0 k m (omega arith) (untouched_all m lb ls) in
          record {
            bytes = all_bytes_stay P m (take k (trims_from needed size files 0)) ∙ lb;
            sizes = all_sizes_stay P m (take k (trims_from needed size files 0)) ∙ ls;
            kept = s.kept;
            either = s.either;
          }

      trims_done : Trimmed (apply_all P m (trims_from needed size files 0)) × AllTrimmed (apply_all P m (trims_from needed size files 0))
      trims_done =
          let n : ℕ = length (trims_from needed size files 0) in
          let s = rw (take-length (trims_from needed size files 0)) at (sweep files 0 n m (omega arith) (untouched_all m lb ls)) in (
            rw (take-length (trims_from needed size files 0)) at (trims_cut n),
            record {
              clean = λ g i hg ge hi. s.clean (omega arith) g i (omega arith) (omega arith) hg ge hi;
              sized = λ g hg. s.sized (omega arith) g (omega arith) (omega arith) hg;
            },
          )

  -- ---- mount

  -- what a mount of d leaves, cut or done
  pub record Left (d : Device) (c : Media) : Type 0 where
    pub mountable : Mountable P d
    pub bytes : length c.bytes ≡ media_bytes P
    pub sizes : c.sizes ≡ d.media.sizes
    pub kept : (g i : ℕ) → g < files → i < size_at d.media g → i < file_bytes P → byte_at P c g i ≡ byte_at P d.media g i

  -- zeros follow the stored sizes
  pub record Clean (d : Device) (c : Media) : Type 0 where
    pub zero_past : (g i : ℕ) → g < files → size_at d.media g ≤ i → i < file_bytes P → byte_at P c g i ≡ 0

  module _ (d : Device) (x : Mountable P d) where
    mount-ordered : (g : ℕ) → g < files → nonzero_from P d.media g (size_at d.media g) ≡ false
        → (size_at d.media g ≡ size_at d.media g) × ((i : ℕ) → size_at d.media g ≤ i → i < file_bytes P → byte_at P d.media g i ≡ 0)
    mount-ordered g hg e = (refl, λ i lo hi. zero-from d.media g (size_at d.media g) x.bytes hg e i lo hi)

    left : (c : Media) → Trimmed d.media (λ f. nonzero_from P d.media f (size_at d.media f)) (size_at d.media) x.fit mount-ordered c → Left d c
    left c t = record {
      mountable = x;
      bytes = t.bytes;
      sizes =
          ext_get_or 0 c.sizes d.media.sizes (t.sizes ∙ sym x.sizes) (λ i h.
          elim (t.either i (rw t.sizes at h)) [ inl e ↦ e | inr e ↦ e ]);
      kept = t.kept;
    }

    pub mount-done : Left d (apply_all P d.media (mount_plan P d.media)) × Clean d (apply_all P d.media (mount_plan P d.media))
    unfolding mount_plan
    mount-done =
        let t = trims_done d.media _ (size_at d.media) x.fit mount-ordered x.bytes x.sizes in
        (left _ t.0, record { zero_past = t.1.clean })

    pub mount-cut : (k : ℕ) → Left d (apply_all P d.media (take k (mount_plan P d.media)))
    unfolding mount_plan
    mount-cut k = left _ (trims_cut d.media _ (size_at d.media) x.fit mount-ordered x.bytes x.sizes k)

    pub mount_own : All (InLimits P) (mount_plan P d.media)
    unfolding mount_plan
    mount_own = trims_own d.media _ (size_at d.media) x.fit mount-ordered files 0 (omega arith)

  -- a mount is refused with everything as it came, cut, or done
  pub mount_by : (budget : ℕ) (d : Device) (Q : Result Device → Type 0)
      → ((k : ℕ) → 0 < k → k ≢ 9 → Q (give (refused k) d))
      → (let m : Media = apply_all P d.media (take budget (mount_plan P d.media)) in
      budget < length (mount_plan P d.media) → Left d m → Q (give (CUT budget) (device_of m d.frames down_state)))
      → (let m : Media = apply_all P d.media (mount_plan P d.media) in
      length (mount_plan P d.media) ≤ budget → Left d m → Clean d m → Q (give (done (length (mount_plan P d.media))) (device_of m d.frames (mounted_state d.media.sizes))))
      → Q (mount P budget d)
  unfolding mount
  mount_by budget d Q fails cut finished =
      admit_by d Q (mount_tests P d.media) _ (mount_changeless P d) fails (λ e.
      let x = mount_admitted P d e in
      budget_by P budget (mount_plan P d.media) (mounted_state d.media.sizes) d Q
      (λ l. cut l (mount-cut d x budget))
      (λ l. finished l (mount-done d x).0 (mount-done d x).1))

  -- ---- format

  module _ (m : Media) (lb : length m.bytes ≡ media_bytes P) (ls : length m.sizes ≡ files) where
    format-ordered : (g : ℕ) → g < files → nonzero_from P m g 0 || not (eqb (size_at m g) 0) ≡ false
        → (size_at m g ≡ 0) × ((i : ℕ) → 0 ≤ i → i < file_bytes P → byte_at P m g i ≡ 0)
    format-ordered g hg e = (
      eqb-true _ _ (not-false _ (or_right (nonzero_from P m g 0) _ e)),
      λ i lo hi. zero-from m g 0 lb hg (or_left (nonzero_from P m g 0) _ e) i lo hi,
    )

    -- a format that is done leaves eight empty files on zeros
    pub format-done : (g : ℕ) → g < files
        → (size_at (apply_all P m (format_plan P m)) g ≡ 0) × ((i : ℕ) → i < file_bytes P → byte_at P (apply_all P m (format_plan P m)) g i ≡ 0)
    unfolding format_plan
    format-done g hg =
        let t = trims_done m _ (λ f. 0) (λ f h. (omega arith)) format-ordered lb ls in
        (t.1.sized g hg, λ i hi. t.1.clean g i hg (omega arith) hi)

    pub format_own : All (InLimits P) (format_plan P m)
    unfolding format_plan
    format_own = trims_own m _ (λ f. 0) (λ f h. (omega arith)) format-ordered files 0 (omega arith)

  -- a format is refused with everything as it came, cut, or done; it is down in the end
  pub format_by : (budget : ℕ) (d : Device) (Q : Result Device → Type 0)
      → ((k : ℕ) → 0 < k → k ≢ 9 → Q (give (refused k) d))
      → (budget < length (format_plan P d.media)
      → Q (give (CUT budget) (device_of (apply_all P d.media (take budget (format_plan P d.media))) d.frames down_state)))
      → (length (format_plan P d.media) ≤ budget → length d.media.bytes ≡ media_bytes P → length d.media.sizes ≡ files
      → Q (give (done (length (format_plan P d.media))) (device_of (apply_all P d.media (format_plan P d.media)) d.frames down_state)))
      → Q (format P budget d)
  unfolding format
  format_by budget d Q fails cut finished =
      admit_by d Q (media_shape P d.media) _ (shape_changeless P d) fails (λ e.
      let x = shape_admitted P d e in
      budget_by P budget (format_plan P d.media) down_state d Q cut (λ l. finished l x.0 x.1))

-- ---- the code of a mount and of a format

-- one file more
pub trims_more : (needed : ℕ → Bool) (size : ℕ → ℕ) (n f : ℕ) → trims_from needed size (n + 1) f ≡ trims_from needed size n f ++ write_if (needed (f + n)) (trim (f + n) (size (f + n)))
unfolding trims_from
trims_more needed size n f = rw add-one (go n f)
  where
    go : (n f : ℕ) → trims_from needed size (suc n) f ≡ trims_from needed size n f ++ write_if (needed (f + n)) (trim (f + n) (size (f + n)))
    go zero f = let e : f + 0 ≡ f = omega arith in rw (append-nil, e)
    go (suc n) f = let e : suc f + n ≡ f + suc n = omega arith in rw (append_assoc, ← e) (ap (λ l. write_if (needed f) (trim f (size f)) ++ l) (go n (suc f)))
