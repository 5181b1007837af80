-- `state_bytes::encode` meets its contract: the up mark, and three runs of bytes.
use mathlib.Core.Path.{◌≡◌, ◌∙◌}
use native.Mathlib.Omega.{arith}
use borrow.Author.Rules.{rules}
use borrow.Author.Tests.{ne_eqb}
use lib.ListN.{length}
use Rattle.scan.proofs.Loops.{length_mapped}
use Rattle.media.specs.Geometry.{files}
use Rattle.device.specs.Device.{slot_count}
use Rattle.state_bytes.specs.Encoding.{state_bytes, number_bytes, concat_map, encoded}
use Rattle.state_bytes.proofs.Encoding.{flat-mapped, laid}
use Rattle.state_bytes.proofs.encode.Goals as goal

pub returns-in-Some : goal.returns-in-Some
returns-in-Some c =
    let s = c.args.cache in
    let w = c.in-Some.ensures.cases in
    let long_slots : length s.slots ≡ slot_count = search (rules, length_mapped) in
    let long_logical : length s.logical ≡ files = search rules in
    let long_floor : length s.floor ≡ files = search rules in
    let logical : c.as_flattened.result.now ≡ concat_map number_bytes s.logical = c.as_flattened.ensures.value ∙ flat-mapped number_bytes s.logical c.map.result (omega arith) (λ i d e k. let r = (c.map.ensures.items.at i d e (omega arith)).2 in search rules) in
    let floor : c.as_flattened-in-Some.result.now ≡ concat_map number_bytes s.floor = c.as_flattened-in-Some.ensures.value ∙ flat-mapped number_bytes s.floor c.map-in-Some.result (omega arith) (λ i d e k. let r = (c.map-in-Some.ensures.items.at i d e (omega arith)).2 in search rules) in
    laid s c.args.state.now c.put_slots.new.state c.put.new.state c.put-in-Some.new.state w.long long_slots long_logical long_floor
    (c.put_slots.ensures ∙ rw w.same)
    (c.put.ensures ∙ rw logical)
    (c.put-in-Some.ensures ∙ rw floor)

pub returns-in_default : goal.returns-in_default
unfolding encoded
returns-in_default c = rw (ne_eqb (length c.args.state.now) state_bytes c.in_default.ensures.cases)
