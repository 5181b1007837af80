-- `writing::Parts::written_slot` meets its contract: the page is cached, or becomes cached in the first free slot, or there is none.
use mathlib.Core.Path.{sym, ap, ◌∙◌}
use mathlib.Core.List.{[]}
use Prim.Native.Nat.{◌≤◌}
use native.Mathlib.Omega.{arith}
use Rattle.scan.specs.Scan.{first_index}
use Rattle.device.specs.Device.{Device, slot_count, slot_of, holds}
use Rattle.device.proofs.Writing.{cached_in_lem}
use Rattle.state_bytes.specs.Encoding.{decode}
use Rattle.state_bytes.proofs.InPlace.{shaped}
use Rattle.writing.proofs.Puts.{none_is}
use Rattle.writing.proofs.Parts.written_slot.Goals as goal

pub returns-clause-slot : goal.returns-clause-slot
returns-clause-slot c =
    let a = c.args in
    let s = decode a.self.now.state.now in
    let none : slot_count ≤ first_index (holds a.file a.page) s.slots = omega (arith, none_is _ _ _ c.requires.4 (sym c.is_some.ensures ∙ c.if-is_some.false)) in (
      omega (arith, c.in_ok-k.ensures.0, c.in_ok-k.ensures.1),
      c.in_ok-k.ensures.1 ∙ sym (ap (λ (d : Device). slot_of d a.file a.page) (c.cache_page.ensures.cached [])
          ∙ cached_in_lem a.pages a.file a.page _ (shaped a.self.now.state.now).slots none c.in_ok-k.ensures.0),
    )
