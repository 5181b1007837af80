-- In which order a call makes its media writes shows in what is left where a budget ends between two of them, and in nothing else: no
-- claim speaks of a moment inside a call.
use Rattle.std.specs.Prelude.{ℕ, ◌≡◌, List, length, take}
use Rattle.media.specs.Write.{MediaWrite, apply_all}
use Rattle.device.specs.declared.CacheState.{CacheState}
use Rattle.device.specs.Device.{Device}
use Rattle.device.specs.Plan.{under_budget}

module _ (P : ℕ) (ws vs : List MediaWrite) (s : CacheState) (d : Device) where
  -- a call with these media writes gives and leaves the same under every budget
  abbrev pub SameReplies : Type 0
  SameReplies = (budget : ℕ) → under_budget P budget ws s d ≡ under_budget P budget vs s d

  -- as many first ones leave the same media
  abbrev pub SameMedia : Type 0
  SameMedia = (k : ℕ) → apply_all P d.media (take k ws) ≡ apply_all P d.media (take k vs)

-- the one exactly where the other, and there are as many
abbrev pub OrderShows : ℕ → Type 0
OrderShows P =
    (ws vs : List MediaWrite) (s : CacheState) (d : Device)
    → (SameReplies P ws vs s d → (length ws ≡ length vs) × SameMedia P ws vs s d) × ((length ws ≡ length vs) × SameMedia P ws vs s d → SameReplies P ws vs s d)
