-- What the papers ask of a call, from what is seen of a store: its refusals, in their order, and its media writes.
use Rattle.std.specs.Prelude.{ℕ, suc, ◌+◌, ◌≤◌, ◌<◌, Bool, true, ◌&&◌, List, [], ◌∷◌, ◌++◌, leb, length, take}
use Rattle.answer.specs.Coded.{Coded, refused, SHAPE, NO_ROOM, CUT}
use Rattle.answer.specs.Admission.{Test, test}
use Rattle.scan.specs.Scan.{same_bytes}
use Rattle.media.specs.Geometry.{file_bytes}
use Rattle.media.specs.Write.{Media, MediaWrite, apply_all}
use Rattle.device.specs.Device.{Device}
use Rattle.device.specs.Admission.{media_shape, sizes_fit, device_tests, state_tests}
use Rattle.device.specs.Writing.{has_room}
use Rattle.device.specs.Syncing.{sync_plan}
use Rattle.device.specs.Mounting.{mount_plan}
use Rattle.model.specs.Run.{Call, Interface, persistent}
use Rattle.model.specs.Run.Call.{read, look, write, truncate, sync, mount}

-- the refusals of another kind of part, in the numbers of document 02: it is damaged, or something in it runs out
abbrev pub DAMAGED : Coded
DAMAGED = refused 12

abbrev pub EXHAUSTED : Coded
EXHAUSTED = refused 13

unfoldable pub same_media : Media → Media → Bool
same_media m o = same_bytes m.bytes o.bytes && same_bytes m.sizes o.sizes

module _ (I : Interface) where
  -- the greatest file size
  abbrev pub greatest : I.State → ℕ
  greatest s = file_bytes (I.pages s)

  -- ---- refusals up to RANGE, in document 01's order

  -- on a file: an image that differs from what outlasts the power is damage too
  abbrev pub on_file : I.State → ℕ → Bool → List Test
  on_file s f range =
      let P : ℕ = I.pages s in
      let d : Device = I.image s in
      test (I.is_shaped s) SHAPE
      ∷ (device_tests P d.media d.frames
      ++ (test (I.is_intact (I.part_of s) && same_media d.media (persistent I s)) DAMAGED ∷ state_tests P d.media.sizes d.cache f range))

  -- of mount and format, which make the image anew: no test of the page frames, of the image's content or of the cache state
  abbrev pub anew : I.State → List Test
  anew s = test (I.is_shaped s) SHAPE ∷ (media_shape (I.pages s) (I.image s).media ++ (test (I.is_intact (I.part_of s)) DAMAGED ∷ []))

  abbrev pub conditions : Call → I.State → List Test
  conditions (read f position buffer) s = on_file s f (leb position (greatest s))
  conditions (look f position) s = on_file s f (leb position (greatest s))
  conditions (write f position bytes) s = on_file s f (leb (position + length bytes) (greatest s))
  conditions (truncate f n) s = on_file s f (leb n (greatest s))
  conditions (sync f budget) s = on_file s f true
  conditions (mount budget) s = anew s ++ sizes_fit (I.pages s) (persistent I s)

  -- ---- media writes

  abbrev pub plan : Call → I.State → List MediaWrite
  plan (read f position buffer) s = []
  plan (look f position) s = []
  plan (write f position bytes) s = []
  plan (truncate f n) s = []
  plan (sync f budget) s = sync_plan (I.pages s) (I.image s) f
  plan (mount budget) s = mount_plan (I.pages s) (persistent I s)

  -- the first k media writes fit the budget, the first k + 1 do not
  abbrev pub Pays : I.Part → ℕ → List MediaWrite → ℕ → Type 0
  Pays p budget ws k = (I.cost p (take k ws) ≤ budget) × (budget < I.cost p (take (suc k) ws))

  -- the media after these media writes
  abbrev pub media_after : I.State → List MediaWrite → Media
  media_after s ws = apply_all (I.pages s) (persistent I s) ws

  -- ---- the refusals that remain: NO ROOM where the first page of a write has no slot; a part that runs out; CUT where the budget is
  -- below the cost

  abbrev pub paying : I.Part → List MediaWrite → ℕ → List Test
  paying p ws budget = test (leb (I.takes p ws) (I.remaining p)) EXHAUSTED ∷ test (leb (I.cost p ws) budget) (CUT budget) ∷ []

  abbrev pub limits : Call → I.State → List Test
  limits (read f position buffer) s = []
  limits (look f position) s = []
  limits (write f position bytes) s = test (has_room (I.image s) f position bytes) NO_ROOM ∷ []
  limits (truncate f n) s = []
  limits (sync f budget) s = paying (I.part_of s) (plan (sync f budget) s) budget
  limits (mount budget) s = paying (I.part_of s) (plan (mount budget) s) budget
