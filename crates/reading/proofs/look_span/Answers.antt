-- `reading::look_span` meets its contract: nothing where `admit_at` refuses, or a part of the frames or of the media.
use mathlib.Core.Path.{◌∙◌}
use native.Mathlib.Omega.{arith}
use Rattle.media.specs.Geometry.{file_start}
use Rattle.device.proofs.Looking.{span_cached, span_media}
use Rattle.state_bytes.proofs.OnBytes.{span_refused_on, span_on}
use Rattle.reading.proofs.Admitted.{tested, ready, within, slot_is}
use Rattle.reading.proofs.look_span.Goals as goal

pub returns-in_default : goal.returns-in_default
returns-in_default c = span_refused_on _ _ _ _ _ c.in_default.ensures.answer

pub overflow_mul-result-in-None-2 : goal.overflow_mul-result-in-None-2
overflow_mul-result-in-None-2 c = omega (arith, (ready _ _ _ c.in-Ok.ensures.answer).file)

pub overflow_add-result-in-None : goal.overflow_add-result-in-None
overflow_add-result-in-None c = omega (arith, (ready _ _ _ c.in-Ok.ensures.answer).file, within _ _ _ c.in-Ok.ensures.answer)

pub returns-in-Some : goal.returns-in-Some
returns-in-Some c =
    let t = tested _ _ _ c.in-Ok.ensures.answer in
    span_cached _ _ _ _ t.1 _ (c.in-Some.ensures.1 ∙ slot_is _ _ _ c.in-Ok.ensures.answer _ _ c.in-Ok.ensures.table) _ (omega arith) (omega arith)
    ∙ span_on _ _ _ _ t.0

pub returns-in-None : goal.returns-in-None
unfolding file_start
returns-in-None c =
    let t = tested _ _ _ c.in-Ok.ensures.answer in
    span_media _ _ _ _ t.1 _ (slot_is _ _ _ c.in-Ok.ensures.answer _ _ c.in-Ok.ensures.table) _ (omega (arith, c.in-None.ensures)) (omega arith)
    ∙ span_on _ _ _ _ t.0
