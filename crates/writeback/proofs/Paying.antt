-- A write that is made if it is wanted and paid for, by what `Budget::pays` says.
use mathlib.Core.Path.{◌≡◌}
use mathlib.Core.Bool.{Bool, true, false}
use Prim.Native.Nat.{ℕ, ◌+◌}
use native.Mathlib.Omega.{arith}
use lib.Dec.{ltb}
use Rattle.media.specs.Write.{Media, MediaWrite, apply}
use Rattle.device.specs.Plan.{write_if, Spent}
use Rattle.device.proofs.Plan.{spent-made, spent_unmade}

module _ {P paid needed : ℕ} {m : Media} (w : MediaWrite) where
  -- `pays` was asked, with this budget, and so many writes are needed with this one
  module _ {wanted pays : Bool} {budget n : ℕ} (h : wanted ≡ true) (eb : budget ≡ paid) (ep : pays ≡ ltb needed budget) (en : n ≡ needed + 1) where
    pub write_paid : {c : Media} → pays ≡ true → c ≡ apply P m w → Spent P paid m needed n (write_if wanted w) c
    write_paid e ec = spent-made P paid m needed wanted w n _ (rw (h, ← eb, ← ep) e) (rw h en) ec

    pub write_unpaid : pays ≡ false → Spent P paid m needed n (write_if wanted w) m
    write_unpaid e = spent_unmade P paid m needed wanted w n (rw (h, ← eb, ← ep) e) (rw h en)

  pub write_unwanted : {wanted : Bool} → wanted ≡ false → Spent P paid m needed needed (write_if wanted w) m
  write_unwanted {wanted} h = spent_unmade P paid m needed wanted w needed (rw h) (rw h (omega arith))
