-- A plan: a list of media writes, of which as many are done as the budget pays for. The budget is what document 01 calls the grant.
use Rattle.std.specs.Prelude.{ℕ, ◌+◌, ◌-◌, ◌≡◌, Bool, cond, List, [], ◌∷◌, ltb, length, take}
use Rattle.answer.specs.Coded.{done, CUT}
use Rattle.media.specs.Write.{Media, MediaWrite, apply_all}
use Rattle.device.specs.declared.CacheState.{CacheState}
use Rattle.device.specs.Device.{Device, device_of, down_state}
use Rattle.device.specs.Admission.{Result, give}

-- a write that is needed only if
unfoldable pub write_if : Bool → MediaWrite → List MediaWrite
write_if b w = cond b (w ∷ []) []

-- what a call gives that needed n media writes and left m: done with n, and the state s; or CUT, and down
abbrev pub budgeted : ℕ → ℕ → Media → List ℕ → CacheState → Result Device
budgeted budget n m frames s =
    cond (ltb budget n) (give (CUT budget) (device_of m frames down_state)) (give (done n) (device_of m frames s))

-- as many first writes of the plan are done as the budget pays for: all of them, or else it is CUT
unfoldable pub under_budget : ℕ → ℕ → List MediaWrite → CacheState → Device → Result Device
under_budget P budget plan s d = budgeted budget (length plan) (apply_all P d.media (take budget plan)) d.frames s

-- a part ws of a plan, after `needed` writes before it, from media m: n writes are needed with it, and c is the media after as
-- many of it as the budget still pays for
pub record Spent (P budget : ℕ) (m : Media) (needed n : ℕ) (ws : List MediaWrite) (c : Media) : Type 0 where
  pub count : n ≡ needed + length ws
  pub media : c ≡ apply_all P m (take (budget - needed) ws)
