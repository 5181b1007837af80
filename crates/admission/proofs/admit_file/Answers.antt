-- `admission::admit_file` meets its contract: a refusal of `admit_device` stands; or else `admit_state` decides.
use mathlib.Core.Path.{refl, sym, ap, ◌∙◌}
use mathlib.Core.Bool.{Bool}
use mathlib.Core.List.{List, ◌++◌}
use Prim.Native.Nat.{ℕ}
use Rattle.std.proofs.lemmas.Result.{err_from_is_err_and}
use Rattle.answer.specs.Coded.{Coded, done}
use Rattle.answer.specs.Admission.{Test}
use Rattle.answer.proofs.Admission.{first-refused, first-passed}
use Rattle.media.specs.Geometry.{pages_per_file}
use Rattle.media.specs.Write.{media_of}
use Rattle.device.specs.Admission.{media_shape, frames_shape, sizes_fit, state_tests, device_tests}
use Rattle.state_bytes.specs.Encoding.{decode}
use Rattle.state_bytes.specs.InPlace.{state_shape}
use Rattle.admission.proofs.Soundness.{length-state, length-sizes}
use Rattle.admission.proofs.admit_file.Goals as goal

-- the tests of `admit_device`
abbrev first : List ℕ → List ℕ → List ℕ → List ℕ → List Test
first state sizes media frames = state_shape state ++ device_tests pages_per_file (media_of media sizes) frames

-- the tests of `admit_state`
abbrev rest : List ℕ → List ℕ → ℕ → Bool → List Test
rest state sizes file range = state_tests pages_per_file sizes (decode state) file range

pub returns-in_err-admit_device-clause-answer : goal.returns-in_err-admit_device-clause-answer
unfolding state_shape
returns-in_err-admit_device-clause-answer c media frames e q =
    let a = c.args in
    let p = err_from_is_err_and c.from_residual.result c.from_residual.ensures.1 in
    rw (p.1, p.2) (first-refused (first a.state.now a.sizes.now media frames) (rest a.state.now a.sizes.now a.file a.range) (done 0) (done 0) _ refl (c.in_err-admit_device.ensures media frames e q))

pub returns-in_default-clause-answer : goal.returns-in_default-clause-answer
returns-in_default-clause-answer c media frames e q =
    absurd (c.in_default.ensures.1 (length-sizes c.args.state.now c.args.sizes.now media frames (c.in_ok-admit_device.ensures media frames e q)))

pub returns-in_default-try_from-clause-answer : goal.returns-in_default-try_from-clause-answer
returns-in_default-try_from-clause-answer c media frames e q =
    absurd (c.in_default-try_from.ensures.1 (length-state c.args.state.now c.args.sizes.now media frames (c.in_ok-admit_device.ensures media frames e q)))

pub returns-clause-answer : goal.returns-clause-answer
unfolding state_shape media_shape frames_shape sizes_fit
returns-clause-answer c media frames e q =
    let a = c.args in
    rw (c.in-Ok.ensures.1.same, c.in-Ok-try_from.ensures.1.same) at c.admit_state.ensures.answer
    ∙ sym (first-passed (first a.state.now a.sizes.now media frames) (rest a.state.now a.sizes.now a.file a.range) (done 0) (done 0) refl (ap (λ (k : Coded). k.number) (sym (c.in_ok-admit_device.ensures media frames e q))))
