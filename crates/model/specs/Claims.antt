-- The demands of document 00, over any store that specs/Run's Interface describes; specs/Store has this one. specs/View says what the
-- papers ask of a call, specs/Work what a done call does, specs/CacheByLog what the model files say of the cache, and specs/Demands
-- puts all together.
use Rattle.std.specs.Prelude.{ℕ, ◌+◌, ◌-◌, ◌/◌, ◌≤◌, ◌<◌, min, ◌≡◌, ◌≢◌, ◌⊎◌, Bool, true, false, cond, List, [], ◌∷◌, ◌++◌, length, take}
use Rattle.answer.specs.Coded.{done, NO_ROOM}
use Rattle.answer.specs.Admission.{test, first_refusal}
use Rattle.memory.specs.Bytes.{zeros, part, overwrite}
use Rattle.media.specs.Geometry.{files, page_bytes}
use Rattle.media.specs.Write.{MediaWrite}
use Rattle.device.specs.Device.{Device, device_of, frames_bytes, is_cached, logical_at, floor_at, down_state}
use Rattle.device.specs.Sound.{is_sound}
use Rattle.device.specs.Writing.{has_room}
use Rattle.device.specs.Syncing.{sync_plan}
use Rattle.device.specs.Looking.{to_page_end}
use Rattle.model.specs.ModelFile.{ModelFile, after_write, Becomes}
use Rattle.model.specs.CacheByLog.{cached_in, floor_of, sync_by_log, room_for}
use Rattle.model.specs.Run.{Call, IsDone, Reply, Interface, persistent, imaged, file_on, Files, change, World, Event, InEveryRun, AtMounts}
use Rattle.model.specs.Run.Call.{read, look, write, truncate, sync, mount}
use Rattle.model.specs.Run.Event.{call, power_lost}
use Rattle.model.specs.View.{greatest, conditions, plan, Pays, media_after, paying, limits}
use Rattle.model.specs.Work.{Stops, Works}

-- ---- demand 1: answers

-- the output of a refusal: the buffer of a read as it came, and nothing else
abbrev pub as_it_came : Call → List ℕ
as_it_came (read f position buffer) = buffer
as_it_came (look f position) = []
as_it_came (write f position bytes) = []
as_it_came (truncate f n) = []
as_it_came (sync f budget) = []
as_it_came (mount budget) = []

-- calls that change nothing, done or refused
abbrev pub is_idle : Call → Bool
is_idle (read f position buffer) = true
is_idle (look f position) = true
is_idle (write f position []) = true
is_idle (write f position (b ∷ bytes)) = false
is_idle (truncate f n) = false
is_idle (sync f budget) = false
is_idle (mount budget) = false

-- part p became part q by these media writes and the first steps of the next one, for so much, and by nothing else that costs or takes:
-- whatever media writes follow, they cost and take the rest of what they would from p on
pub record Made (I : Interface) (p : I.Part) (ws : List MediaWrite) (spent : ℕ) (q : I.Part) : Type 0 where
  pub paid : (w : MediaWrite) (vs : List MediaWrite) → I.cost p (ws ++ (w ∷ vs)) ≡ spent + I.cost q (w ∷ vs)
  pub used : (w : MediaWrite) (vs : List MediaWrite) → I.remaining p + I.takes q (w ∷ vs) ≡ I.remaining q + I.takes p (ws ++ (w ∷ vs))

-- done: the whole media, bytes and sizes, is as the media writes of the call leave it, and no other call than sync and mount has any;
-- the device is mounted, its state sound, the page frames keep their length, and the work is done
pub record Done (I : Interface) (c : Call) (s : I.State) (r : Reply I.State) : Type 0 where
  pub stored : (I.image r.device).media ≡ media_after I s (plan I c s)
  pub mounted : (I.image r.device).cache.mounted ≡ 1
  pub sound : is_sound (I.pages s) (I.image r.device).media.sizes (I.image r.device).cache ≡ true
  pub frames : length (I.image r.device).frames ≡ length (I.image s).frames
  pub work : Works (I.pages s) c (I.image s) (persistent I s) (I.cost (I.part_of s) (plan I c s)) (imaged I r)
  pub made : Made I (I.part_of s) (plan I c s) (I.cost (I.part_of s) (plan I c s)) (I.part_of r.device)

-- CUT, of a call with these media writes: as many first ones are done as the budget pays for, of the next one its first steps where it has
-- any, and the answer counts the budget. The device is down. Power lost inside a call is a budget that ends there, so what each budget
-- leaves shows the order of the media writes, and nothing else does (specs/Order)
pub record Cut (I : Interface) (ws : List MediaWrite) (s : I.State) (r : Reply I.State) : Type 0 where
  pub writes : ℕ
  pub pays : Pays I (I.part_of s) r.answer.count ws writes
  pub leaves : I.image r.device ≡ device_of (media_after I s (take writes ws)) (I.image s).frames down_state
  pub made : Made I (I.part_of s) (take writes ws) r.answer.count (I.part_of r.device)

-- done or cut: what outlasts the power holds the media of the image, and is not damaged
pub record Persists (I : Interface) (after : I.State) : Type 0 where
  pub image : persistent I after ≡ (I.image after).media
  pub shaped : I.is_shaped after ≡ true
  pub intact : I.is_intact (I.part_of after) ≡ true

-- what a call gives, and what it leaves
pub record Answers (I : Interface) (c : Call) (s : I.State) (r : Reply I.State) : Type 0 where
  pub count : ℕ
  -- the first refusal that applies, and done only where none does
  pub in_order : r.answer ≡ first_refusal (conditions I c s ++ limits I c s) (done count)
  -- a refusal leaves the output as it came, and one other than CUT changes nothing
  pub output_kept : r.answer.number ≢ 0 → r.output ≡ as_it_came c
  pub unchanged : r.answer.number ≢ 0 → r.answer.number ≢ 9 → r.device ≡ s
  pub idle : is_idle c ≡ true → r.device ≡ s
  pub is_cut : r.answer.number ≡ 9 → Cut I (plan I c s) s r
  pub is_done : IsDone r.answer → Done I c s r
  pub pages : I.pages r.device ≡ I.pages s
  pub persists : r.answer.number ≡ 0 ⊎ r.answer.number ≡ 9 → Persists I r.device
  -- without a media write nothing that outlasts the power is touched
  pub untouched : plan I c s ≡ [] → I.part_of r.device ≡ I.part_of s

-- DEMAND 1, but for format: of any call in any state
abbrev pub Demand1 : Interface → Type 0
Demand1 I = (c : Call) (s : I.State) → Answers I c s (I.does c s)

module _ (I : Interface) where
  -- ---- demand 2: POSIX

  -- the device is mounted, its page frames have their length, and there is such a file
  abbrev pub Usable : I.State → ℕ → Type 0
  Usable s f = ((I.image s).cache.mounted ≡ 1) × (length (I.image s).frames ≡ frames_bytes) × (f < files)

  -- what a call gives, by the model files: bytes, sizes and counts as in POSIX.1, where what is asked for lies within the greatest file
  -- size. What a write or a truncate did to the bytes is in the model files (specs/Run, `told`); reads, looks and syncs after it agree with
  -- them
  abbrev pub Serves : Call → World I → Reply Device → Type 0
  -- the count is what fits into the buffer before the file ends; past it the buffer stays as it was
  Serves (read f position buffer) w r =
      let file : List ℕ = (w.models f).current in
      let n : ℕ = min (length buffer) (length file - position) in
      Usable w.device f → position ≤ greatest I w.device → (r.answer ≡ done n) × (r.output ≡ overwrite buffer 0 (part file position n))
  -- to the end of the page or of the file, the nearer. All of it is handed back where the page is cached, and otherwise what lies below the
  -- floor; the rest are zeros that no buffer has
  Serves (look f position) w r =
      let m : ModelFile = w.models f in
      let n : ℕ = to_page_end position (length m.current) in
      let shown : ℕ = to_page_end position (cond (cached_in m (position / page_bytes)) (length m.current) (floor_of m)) in
      Usable w.device f → position ≤ greatest I w.device →
      (r.answer ≡ done n) × (r.output ≡ part m.current position shown) × (part m.current position n ≡ r.output ++ zeros (n - shown))
  -- NO ROOM, or all bytes, or those up to a page for which there is no room after them
  Serves (write f position bytes) w r =
      let n : ℕ = r.answer.count in
      let after : Files = change f (after_write position (take n bytes)) w.models in
      Usable w.device f → position + length bytes ≤ greatest I w.device →
      (r.answer ≡ first_refusal (test (room_for (I.pages w.device) w.models f position bytes) NO_ROOM ∷ []) (done n))
      × (IsDone r.answer → Stops (room_for (I.pages w.device) after f) position bytes n)
  Serves (truncate f n) w r = Usable w.device f → n ≤ greatest I w.device → r.answer ≡ done 0
  -- refused under its budget, or done with a count, by the media writes that the log says; done, the media holds the file exactly,
  -- bytes and size
  Serves (sync f budget) w r =
      let p : I.Part = I.part_of w.device in
      let ws : List MediaWrite = sync_by_log (I.pages w.device) (w.models f) f in
      Usable w.device f →
      (r.answer ≡ first_refusal (paying I p ws budget) (done (I.cost p ws)))
      × (IsDone r.answer → file_on (I.pages w.device) r.device.media f ≡ (w.models f).current)
  -- likewise by the media writes that the media asks for
  Serves (mount budget) w r =
      let p : I.Part = I.part_of w.device in
      let ws : List MediaWrite = plan I (mount budget) w.device in
      r.answer ≡ first_refusal (paying I p ws budget) (done (I.cost p ws))

  -- the sizes and pages in the cache, the media writes of a sync and room for a write are what the model files say
  pub record ByLog (w : World I) (f : ℕ) : Type 0 where
    pub cached : (p : ℕ) → is_cached (I.image w.device) f p ≡ cached_in (w.models f) p
    pub logical : logical_at (I.image w.device) f ≡ length (w.models f).current
    pub floor : floor_at (I.image w.device) f ≡ floor_of (w.models f)
    pub writes : sync_plan (I.pages w.device) (I.image w.device) f ≡ sync_by_log (I.pages w.device) (w.models f) f
    pub room : (position : ℕ) (bytes : List ℕ) → has_room (I.image w.device) f position bytes ≡ room_for (I.pages w.device) w.models f position bytes

  abbrev pub Served : World I → Event I → Type 0
  Served w (call c) = Serves c w (imaged I (I.does c w.device)) × ((f : ℕ) → Usable w.device f → ByLog w f)
  Served w (power_lost x) = Unit {0}

  -- DEMAND 2, in every run: from any device right after a mount that is done, through any list of calls and power losses
  abbrev pub Demand2 : Type 0
  Demand2 = InEveryRun I Served

  -- ---- demand 3: lost power

  -- DEMAND 3, in every run: a mount that is done finds of each file what its durable bytes become by its log
  abbrev pub Demand3 : Type 0
  Demand3 = InEveryRun I (AtMounts I (λ m found. Becomes m.durable m.log found))
