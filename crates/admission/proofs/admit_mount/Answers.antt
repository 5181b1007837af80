-- `admission::admit_mount` meets its contract: a refusal of `admit_format` stands; or else MEDIA is tested.
use mathlib.Core.Path.{refl, sym, ap, ◌∙◌}
use mathlib.Core.List.{List, ◌++◌}
use Prim.Native.Nat.{ℕ}
use Rattle.std.proofs.lemmas.Result.{err_from_is_err_and}
use Rattle.answer.specs.Coded.{Coded, done}
use Rattle.answer.specs.Admission.{Test}
use Rattle.answer.proofs.Admission.{first-refused, first-passed}
use Rattle.media.specs.Geometry.{pages_per_file}
use Rattle.media.specs.Write.{media_of}
use Rattle.device.specs.Admission.{media_shape, sizes_fit}
use Rattle.device.proofs.Admission.{fit-done, fit_refused}
use Rattle.state_bytes.specs.InPlace.{state_shape}
use Rattle.admission.proofs.admit_mount.Goals as goal

-- the tests of `admit_format`
abbrev shapes : List ℕ → List ℕ → List ℕ → List Test
shapes state sizes media = state_shape state ++ media_shape pages_per_file (media_of media sizes)

-- the test of MEDIA
abbrev fit : List ℕ → List ℕ → List Test
fit sizes media = sizes_fit pages_per_file (media_of media sizes)

pub returns-in_err-admit_format : goal.returns-in_err-admit_format
unfolding state_shape
returns-in_err-admit_format c media e =
    let a = c.args in
    let p = err_from_is_err_and c.from_residual.result c.from_residual.ensures.1 in
    rw (p.1, p.2) (first-refused (shapes a.state.now a.sizes.now media) (fit a.sizes.now media) (done 0) (done 0) _ refl (c.in_err-admit_format.ensures media e))

pub returns-then-not-sizes_fit : goal.returns-then-not-sizes_fit
unfolding state_shape media_shape
returns-then-not-sizes_fit c media e =
    let a = c.args in
    fit_refused pages_per_file (media_of media a.sizes.now) (sym c.sizes_fit.ensures ∙ c.if-not-sizes_fit.true)
    ∙ sym (first-passed (shapes a.state.now a.sizes.now media) (fit a.sizes.now media) (done 0) (done 0) refl (ap (λ (k : Coded). k.number) (sym (c.in_ok-admit_format.ensures media e))))

pub returns : goal.returns
unfolding state_shape media_shape
returns c media e =
    let a = c.args in
    fit-done pages_per_file (media_of media a.sizes.now) (sym c.sizes_fit.ensures ∙ c.if-not-sizes_fit.false)
    ∙ sym (first-passed (shapes a.state.now a.sizes.now media) (fit a.sizes.now media) (done 0) (done 0) refl (ap (λ (k : Coded). k.number) (sym (c.in_ok-admit_format.ensures media e))))
