-- Sound bytes: the tests of the code beside those of the definition.
use mathlib.Core.Path.{◌≡◌, refl, sym, ap, ◌∙◌}
use mathlib.Core.Logic.{◌≢◌}
use mathlib.Core.Bool.{Bool, true, false, and-true}
use mathlib.Core.List.{List, ◌++◌}
use Prim.Native.Nat.{ℕ, ◌<◌}
use native.Mathlib.Omega.{arith}
use lib.ListN.{length, get_or}
use borrow.Author.Tests.{lt-leb, eqb-true}
use Rattle.answer.specs.Coded.{Coded, done, BOOKS, LINE}
use Rattle.answer.specs.Admission.{Test, test, first_refusal}
use Rattle.answer.proofs.Admission.{holds_at}
use Rattle.media.specs.Geometry.{files, file_bytes, pages_per_file}
use Rattle.scan.specs.Scan.{every, every_below}
use Rattle.scan.proofs.Scan.{and_left, and_right, and_both, is_false, true-not-false, all_of_at}
use Rattle.device.specs.Admission.{media_shape, frames_shape, sizes_fit, device_tests, mounted_tests, state_tests}
use Rattle.device.specs.Device.{slot_count}
use Rattle.device.specs.Sizes.{in_order}
use Rattle.device.specs.Sound.{in_range, holds_alone, sizes_beside, is_down, is_sound, sound_tests}
use Rattle.media.specs.Write.{media_of}
use Rattle.state_bytes.specs.InPlace.{state_shape}
use Rattle.state_bytes.specs.Encoding.{state_bytes, slots_in, decode}
use Rattle.state_bytes.proofs.InPlace.{decode-lengths, mark_read, slots_read}
use Rattle.admission.specs.Tables.{slots_pass}

module _ (stored bytes : List ℕ) where
  abbrev sound : Bool
  sound = is_sound pages_per_file stored (decode bytes)

  abbrev ordered : Bool
  ordered = every_below files (λ f. in_order (file_bytes pages_per_file) (sizes_beside stored (decode bytes) f))

  pub not-ordered : ordered ≡ false → false ≡ sound
  unfolding is_sound sound_tests
  not-ordered e =
      let tests : List Bool = sound_tests pages_per_file stored (decode bytes) in
      sym (is_false sound (λ t. true-not-false ordered (all_of_at tests t 3) e))

  module _ (e : length bytes ≡ state_bytes) where
    pub not-passed : slots_pass bytes ≡ false → false ≡ sound
    unfolding slots_pass is_sound sound_tests
    not-passed p =
        let tests : List Bool = sound_tests pages_per_file stored (decode bytes) in
        sym
        (is_false sound
        (λ t.
        true-not-false (slots_pass bytes)
        (and_both _ _ (rw (slots_read bytes e) at (all_of_at tests t 1)) (rw (slots_read bytes e) at (all_of_at tests t 2)))
        p))

    module _ (p : slots_pass bytes ≡ true) where
      named : every (in_range pages_per_file) (decode bytes).slots ≡ true
      unfolding slots_pass
      named = rw (slots_read bytes e) (and_left (every (in_range pages_per_file) (slots_in bytes)) _ p)

      alone : every_below slot_count (holds_alone (decode bytes).slots) ≡ true
      unfolding slots_pass
      alone = rw (slots_read bytes e) (and_right (every (in_range pages_per_file) (slots_in bytes)) _ p)

      module _ (o : ordered ≡ true) where
        pub sound-up : get_or bytes 0 0 ≡ 1 → true ≡ sound
        unfolding is_sound sound_tests
        sound-up m =
            let q : (decode bytes).mounted ≡ 1 = mark_read bytes e ∙ m in
            rw (decode-lengths bytes, named, alone, o, q)

        pub sound-down : get_or bytes 0 0 ≡ 0 → is_down (decode bytes) ≡ sound
        unfolding is_sound sound_tests
        sound-down m =
            let q : (decode bytes).mounted ≡ 0 = mark_read bytes e ∙ m in
            rw (decode-lengths bytes, named, alone, o, q, and-true)

    pub no_mark : get_or bytes 0 0 ≢ 1 → get_or bytes 0 0 ≢ 0 → false ≡ sound
    unfolding is_sound sound_tests
    no_mark n m =
        let l : 1 < (decode bytes).mounted = rw (mark_read bytes e) (omega arith) in
        rw (lt-leb (decode bytes).mounted 1 l)

-- the tests of a sound state
module _ (stored bytes : List ℕ) (f : ℕ) (range : Bool) where
  pub rest-sound : (m : ℕ) (a : Coded) → is_sound pages_per_file stored (decode bytes) ≡ true → m ≡ (decode bytes).mounted
      → a ≡ first_refusal (mounted_tests m f range) (done 0) → a ≡ first_refusal (state_tests pages_per_file stored (decode bytes) f range) (done 0)
  unfolding state_tests
  rest-sound m a e q h = rw (e, ← q) h

  pub rest_unsound : is_sound pages_per_file stored (decode bytes) ≡ false → BOOKS ≡ first_refusal (state_tests pages_per_file stored (decode bytes) f range) (done 0)
  unfolding state_tests
  rest_unsound e = rw e

-- where the first tests of the calls on a file pass, the lengths are right
module _ (state sizes media frames : List ℕ) (e : done 0 ≡ first_refusal (state_shape state ++ device_tests pages_per_file (media_of media sizes) frames) (done 0)) where
  abbrev tests : List Test
  tests = state_shape state ++ device_tests pages_per_file (media_of media sizes) frames

  holds : (k : ℕ) → (get_or tests k (test true LINE)).holds ≡ true
  unfolding state_shape media_shape frames_shape sizes_fit
  holds k = holds_at tests (done 0) refl (ap (λ (a : Coded). a.number) (sym e)) k

  pub length-state : length state ≡ state_bytes
  unfolding state_shape media_shape frames_shape sizes_fit
  length-state = eqb-true _ _ (holds 0)

  pub length-sizes : length sizes ≡ files
  unfolding state_shape media_shape frames_shape sizes_fit
  length-sizes = eqb-true _ _ (holds 2)
