-- What is claimed of a store: the three demands, and that none of them holds for want of states or runs.
--
-- Not here, since the checker shows it of the code itself: that each call ends (every function is proved to return), that it touches only
-- what it borrowed (its contract equates all of that, and a function has nothing else), and that a look is never a copy (`look` of
-- crate `cache` is the slice at `look_place`, and a linked caller gets the offset).
use Rattle.std.specs.Prelude.{ℕ, suc, ◌*◌, ◌≤◌, ◌<◌, ◌≡◌, Bool, true, List, [], ◌∷◌, ltb, length, take}
use Rattle.answer.specs.Coded.{done}
use Rattle.answer.specs.Admission.{Test, first_refusal}
use Rattle.memory.specs.Bytes.{is_byte}
use Rattle.media.specs.Geometry.{files}
use Rattle.media.specs.Write.{MediaWrite}
use Rattle.scan.specs.Scan.{all_of, every}
use Rattle.device.specs.declared.CacheState.{CacheState}
use Rattle.device.specs.Device.{Device, device_of, frames_bytes, down_state}
use Rattle.device.specs.Sound.{has_lengths}
use Rattle.model.specs.Run.{Call, IsDone, Interface, persistent, on_media}
use Rattle.model.specs.Run.Call.{mount}
use Rattle.model.specs.View.{anew, conditions, plan}
use Rattle.model.specs.Claims.{Demand1, Demand2, Demand3}
use Rattle.model.specs.Format.{format_writes, Format}

-- each of these media writes costs something, the first k at most price × k; of what the part runs out of, all of them take at most
-- rate × their number
pub record Priced (I : Interface) (price rate : ℕ) (p : I.Part) (ws : List MediaWrite) : Type 0 where
  pub rises : (k : ℕ) → k < length ws → I.cost p (take k ws) < I.cost p (take (suc k) ws)
  pub bounded : (k : ℕ) → k ≤ length ws → I.cost p (take k ws) ≤ price * k
  pub taken : I.takes p ws ≤ rate * length ws

-- lost power leaves the part as it is, the device down, and any bytes in the page frames
pub record Loses (I : Interface) (s : I.State) : Type 0 where
  pub part : (x : I.Loss) → I.part_of (I.lose x s) ≡ I.part_of s
  pub down : (x : I.Loss) → (I.image (I.lose x s)).cache ≡ down_state
  pub pages : (x : I.Loss) → I.pages (I.lose x s) ≡ I.pages s
  pub shaped : (x : I.Loss) → I.is_shaped s ≡ true → I.is_shaped (I.lose x s) ≡ true
  pub frames : (bytes : List ℕ) → (x : I.Loss) × ((I.image (I.lose x s)).frames ≡ bytes)

-- some device of P pages in a file, with eight empty files and page frames of their length, mounts, with `supply` of what it runs out of.
-- Writes from there reach any files
pub record Begins (I : Interface) (P supply : ℕ) : Type 0 where
  pub initial : I.State
  pub pages : I.pages initial ≡ P
  pub remaining : supply ≤ I.remaining (I.part_of initial)
  pub frames : length (I.image initial).frames ≡ frames_bytes
  pub empty : (f : ℕ) → f < files → on_media I initial f ≡ []
  pub budget : ℕ
  pub mounts : IsDone (I.does (mount budget) initial).answer

abbrev pub is_size : ℕ → Bool
is_size n = ltb n 4294967296

-- every cache state that code can hold: the marks, files and pages are bytes, the sizes 32-bit numbers, in arrays
unfoldable pub fits_types : CacheState → Bool
fits_types s =
    all_of
    (has_lengths s
    ∷ is_byte s.mounted
    ∷ every (λ k. all_of (is_byte k.used ∷ is_byte k.file ∷ is_byte k.page ∷ [])) s.slots
    ∷ every is_size s.logical
    ∷ every is_size s.floor
    ∷ [])

-- any page frames and any cache state may come beside the same media and the same part
abbrev pub AnyCache : (I : Interface) → I.State → Type 0
AnyCache I s =
    (bytes : List ℕ) (c : CacheState) → fits_types c ≡ true → I.is_shaped s ≡ true
    → (t : I.State) × (I.image t ≡ device_of (I.image s).media bytes c) × (I.part_of t ≡ I.part_of s) × (I.pages t ≡ I.pages s) × (I.is_shaped t ≡ true)

-- no test fails
abbrev pub Passes : List Test → Type 0
Passes ts = first_refusal ts (done 0) ≡ done 0

-- the demands of a store of P pages in a file, on any part. One that never runs out has rate 0
pub record Demands (P price rate supply : ℕ) (I : Interface) : Type 0 where
  pub begins : Begins I P supply
  pub any_part : (p : I.Part) → (s : I.State) × (I.part_of s ≡ p)
  pub any_cache : (s : I.State) → AnyCache I s
  pub loses : (s : I.State) → Loses I s
  pub priced : (c : Call) (s : I.State) → Passes (conditions I c s) → Priced I price rate (I.part_of s) (plan I c s)
  pub format_priced : (s : I.State) → Passes (anew I s) → Priced I price rate (I.part_of s) (format_writes I s)
  pub demand1 : Demand1 I
  pub format : Format I
  pub demand2 : Demand2 I
  pub demand3 : Demand3 I

-- the same of a store on document 01's media alone: nothing outlasts the power but the media of the image, nothing is damaged or runs out,
-- each media write costs one, and any device that code can hold is the image of some state. Other states may be SHAPE: what `is_shaped` tests
-- is read with the interface
pub record PlainDemands (P : ℕ) (I : Interface) : Type 0 where
  pub demands : Demands P 1 0 0 I
  pub pages : (s : I.State) → I.pages s ≡ P
  pub media : (s : I.State) → persistent I s ≡ (I.image s).media
  pub alone : (p q : I.Part) → I.contents p ≡ I.contents q → p ≡ q
  pub intact : (s : I.State) → I.is_intact (I.part_of s) ≡ true
  pub any : (d : Device) → fits_types d.cache ≡ true → (s : I.State) × (I.image s ≡ d) × (I.is_shaped s ≡ true)
