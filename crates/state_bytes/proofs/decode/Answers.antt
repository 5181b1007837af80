-- `state_bytes::decode` meets its contract.
use mathlib.Core.Path.{◌≡◌, sym, ◌∙◌}
use Prim.Native.Nat.{◌+◌, ◌*◌}
use borrow.Author.Rules.{rules}
use borrow.Author.Tests.{eq-eqb}
use lib.ListN.{length}
use Rattle.device.specs.Device.{slot_count, free_slot}
use Rattle.state_bytes.specs.Encoding.{state_bytes, slots_start, slot_in, slots_in, decode}
use Rattle.state_bytes.proofs.Encoding.{from_fn_each}
use Rattle.state_bytes.proofs.InPlace.{decode_other}
use Rattle.state_bytes.proofs.decode.Goals as goal

pub returns-in_default : goal.returns-in_default
returns-in_default c =
    c.down_state.ensures ∙ sym (decode_other c.args.state.now (rw c.in_default.is at c.try_from.ensures.1))

pub returns : goal.returns
unfolding decode slots_in
returns c =
    let bytes = c.args.state.now in
    let w = rw c.in-Ok.is at c.try_from.ensures.1 in
    let slots : c.from_fn.result ≡ slots_in c.in-Ok.state.now = from_fn_each _ _ (λ k. slot_in c.in-Ok.state.now (slots_start + 3 * k)) (λ k y q w. search rules) c.from_fn.result slot_count free_slot c.from_fn.ensures.items in
    rw (eq-eqb (length bytes) state_bytes w.long, slots, c.sizes_in.ensures, c.sizes_in-2.ensures, w.same)
