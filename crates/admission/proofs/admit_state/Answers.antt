-- `admission::admit_state` meets its contract: a sound state, then the tests of a mounted one.
use mathlib.Core.Path.{sym, ◌∙◌}
use native.Mathlib.Omega.{arith}
use Rattle.state_bytes.proofs.InPlace.{mark_read}
use Rattle.admission.proofs.Soundness.{rest-sound, rest_unsound}
use Rattle.admission.proofs.admit_state.Goals as goal

pub returns-then-not-is_sound-clause-answer : goal.returns-then-not-is_sound-clause-answer
returns-then-not-is_sound-clause-answer c = rest_unsound _ _ _ _ (sym c.is_sound.ensures.0 ∙ c.if-not-is_sound.true)

pub returns-clause-answer : goal.returns-clause-answer
returns-clause-answer c = rest-sound _ _ _ _ _ _ (sym c.is_sound.ensures.0 ∙ c.if-not-is_sound.false) (sym (mark_read _ (omega arith))) c.admit_mounted.ensures
