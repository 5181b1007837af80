-- `admission::admit_device` meets its contract: all wrong lengths are SHAPE, so their order makes no difference.
use mathlib.Core.Path.{sym, ◌∙◌}
use Rattle.device.proofs.Admission.{frames-refused, frames-passed}
use Rattle.state_bytes.proofs.OnBytes.{shape_too, shape_then}
use Rattle.admission.proofs.admit_device.Goals as goal

pub returns-then-frames : goal.returns-then-frames
returns-then-frames c media frames e q = shape_too _ _ (frames-refused _ _ frames (λ z. c.if-frames.true (sym q ∙ z)))

pub returns : goal.returns
returns c media frames e q = c.admit_mount.ensures media e ∙ shape_then _ _ _ (frames-passed _ _ frames (q ∙ c.if-frames.false))
