-- Calls, what the claims see of a device, and a run: a list of calls and power losses, each from what the one before left.
use Rattle.std.specs.Prelude.{ℕ, ◌<◌, ◌≡◌, Bool, cond, List, [], ◌∷◌, eqb, take}
use Rattle.answer.specs.Coded.{Coded}
use Rattle.answer.specs.Admission.{if_done}
use Rattle.memory.specs.Bytes.{part}
use Rattle.media.specs.Geometry.{files, file_start}
use Rattle.media.specs.Write.{Media, MediaWrite, size_at}
use Rattle.device.specs.Device.{Device}
use Rattle.model.specs.ModelFile.{ModelFile, fresh, after_write, after_truncate, after_sync}

pub data Call : Type 0 where
  read : (file position : ℕ) (buffer : List ℕ) → Call
  look : (file position : ℕ) → Call
  write : (file position : ℕ) (bytes : List ℕ) → Call
  truncate : (file n : ℕ) → Call
  sync : (file budget : ℕ) → Call
  mount : (budget : ℕ) → Call

abbrev pub IsDone : Coded → Type 0
IsDone a = a.number ≡ 0

-- what a call gives: its answer, the buffer that a read leaves or the bytes that a look hands back, and the device
pub record Reply (S : Type 0) : Type 0 where
  pub answer : Coded
  pub output : List ℕ
  pub device : S

-- what the claims see of a store: the device of document 01 that it is, and the part that outlasts the power. What is asked of a call (its
-- refusals, its media writes) follows from this, by specs/View. These fields are taken as given: they are read as part of the claim
pub record Interface : Type 1 where
  -- all that goes from call to call
  pub State : Type 0
  pub does : Call → State → Reply State
  -- format is no call of a run
  pub formats : (budget : ℕ) → State → Reply State
  -- what lost power may leave, and the state after it
  pub Loss : Type 0
  pub lose : Loss → State → State
  -- the number of pages in a file
  pub pages : State → ℕ
  -- media, page frames and cache state, as the calls find them
  pub image : State → Device
  -- what is borrowed has its length, where the image does not show it
  pub is_shaped : State → Bool
  -- what outlasts the power: the media of the image, or a part of another kind, of which that is the image
  pub Part : Type 0
  pub part_of : State → Part
  -- the media that it holds, with which a mount begins; whether it is not damaged
  pub contents : Part → Media
  pub is_intact : Part → Bool
  -- what media writes cost of a budget
  pub cost : Part → List MediaWrite → ℕ
  -- what it runs out of: how much of that there is still, and how much media writes take
  pub remaining : Part → ℕ
  pub takes : Part → List MediaWrite → ℕ

-- the media that outlasts the power
abbrev pub persistent : (I : Interface) → I.State → Media
persistent I s = I.contents (I.part_of s)

-- a reply with the image for the state
abbrev pub imaged : (I : Interface) → Reply I.State → Reply Device
imaged I r = record { answer = r.answer; output = r.output; device = I.image r.device }

-- file f on the media: its bytes up to its stored size
abbrev pub file_on : ℕ → Media → ℕ → List ℕ
file_on P m f = part m.bytes (file_start P f) (size_at m f)

abbrev pub on_media : (I : Interface) → I.State → ℕ → List ℕ
on_media I s = file_on (I.pages s) (persistent I s)

-- ---- the model files beside it

abbrev pub Files : Type 0
Files = ℕ → ModelFile

-- file f is changed, the others stay
abbrev pub change : ℕ → (ModelFile → ModelFile) → Files → Files
change f h fs g = cond (eqb g f) (h (fs g)) (fs g)

-- a call that is done, with its count; found is what is on the media after it
abbrev pub told : Call → ℕ → (ℕ → List ℕ) → Files → Files
told (read f position buffer) count found fs = fs
told (look f position) count found fs = fs
told (write f position bytes) count found fs = change f (after_write position (take count bytes)) fs
told (truncate f n) count found fs = change f (after_truncate n) fs
told (sync f budget) count found fs = change f after_sync fs
told (mount budget) count found fs = λ f. fresh (found f)

-- a refusal changes no model file
abbrev pub feed : Call → Coded → (ℕ → List ℕ) → Files → Files
feed c a found fs = if_done a (told c a.count found fs) fs

module _ (I : Interface) where
  pub data Event : Type 0 where
    call : Call → Event
    -- the power goes between two calls
    power_lost : I.Loss → Event

  pub record World : Type 0 where
    pub device : I.State
    pub models : Files

  abbrev pub step : World → Event → World
  step w (call c) =
      let r : Reply I.State = I.does c w.device in
      record { device = r.device; models = feed c r.answer (on_media I r.device) w.models }
  step w (power_lost x) = record { device = I.lose x w.device; models = w.models }

  -- right after a mount that is done
  abbrev pub start : I.State → World
  start d = record { device = d; models = λ f. fresh (on_media I d f) }

  -- Q holds at every event of a list
  abbrev pub Throughout : (World → Event → Type 0) → World → List Event → Type 0
  Throughout Q w [] = Unit {0}
  Throughout Q w (e ∷ es) = Q w e × Throughout Q (step w e) es

  -- Q holds at every event of every run: from any device right after a mount that is done, through any list of calls and power losses
  abbrev pub InEveryRun : (World → Event → Type 0) → Type 0
  InEveryRun Q =
      (d : I.State) (budget : ℕ) → IsDone (I.does (mount budget) d).answer → (es : List Event)
      → Throughout Q (start (I.does (mount budget) d).device) es

  -- Q holds of each file, and of what is found of it, at every mount that is done
  abbrev pub AtMounts : (ModelFile → List ℕ → Type 0) → World → Event → Type 0
  AtMounts Q w (call (mount budget)) =
      let r : Reply I.State = I.does (mount budget) w.device in
      IsDone r.answer → (f : ℕ) → f < files → Q (w.models f) (on_media I r.device f)
  AtMounts Q w (call (read f position buffer)) = Unit {0}
  AtMounts Q w (call (look f position)) = Unit {0}
  AtMounts Q w (call (write f position bytes)) = Unit {0}
  AtMounts Q w (call (truncate f n)) = Unit {0}
  AtMounts Q w (call (sync f budget)) = Unit {0}
  AtMounts Q w (power_lost x) = Unit {0}
