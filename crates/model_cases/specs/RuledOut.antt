-- Wrong stores, and that the demands rule each of them out: those of document 01, "Conditions of acceptance", its traps, and those
-- that weaker claims let through.
-- Each is this store with one call changed (the first two with all of them, or all but mount), or with another word of itself: a test, a
-- cost, a number of pages, something that runs out, a part that is more than the media. There are one or two pages in a file.
use Rattle.std.specs.Prelude.{ℕ, suc, ◌+◌, ◌-◌, ◌*◌, ◌/◌, min, Bool, true, false, not, cond, ◌&&◌, ◌||◌, List, [], ◌∷◌, ◌++◌, map, eqb, ltb, leb, length, get_or, take, drop, set}
use Rattle.answer.specs.Admission.{Test, if_done, first_refusal}
use Rattle.answer.specs.Coded.{Coded, done, SHAPE, DOWN, RANGE, NO_ROOM, CUT}
use Rattle.memory.specs.Bytes.{zeros, part, overwrite}
use Rattle.media.specs.Geometry.{files, page_bytes, file_bytes, media_bytes, file_start}
use Rattle.media.specs.Write.{Media, MediaWrite, media_of, size_at}
use Rattle.media.specs.Write.MediaWrite.{page, size, trim}
use Rattle.device.specs.declared.Slot.{Slot}
use Rattle.device.specs.Device.{Device, device_of, free_slot, frame_start, is_used, free_where, is_cached, logical_at, floor_at, with_slots, with_floor, down_state, mounted_state}
use Rattle.scan.specs.Scan.{every, same_bytes}
use Rattle.device.specs.Sound.{is_down, is_sound}
use Rattle.device.specs.Current.{current_at, current_bytes}
use Rattle.device.specs.Admission.{Result, give, admit, file_tests, mount_tests}
use Rattle.device.specs.Truncating.{pages_from, clear_tail, with_sizes}
use Rattle.device.specs.Syncing.{trim_writes, page_writes, size_writes, sync_plan, pages_of, synced_state}
use Rattle.device.specs.Writing.{cache_page}
use Rattle.device.specs.Plan.{write_if, under_budget}
use Rattle.device.specs.Mounting.{format_plan}
use Rattle.model.specs.Run.{Call, Reply, Interface}
use Rattle.model.specs.Run.Call.{read, look, write, truncate, sync, mount}
use Rattle.model.specs.Claims.{as_it_came, Demand1, Demand2, Demand3}
use Rattle.model.specs.Demands.{Demands, PlainDemands}
use Rattle.model.specs.View.{EXHAUSTED, anew, conditions, plan}
use Rattle.model.specs.Format.{Format}
use Rattle.model.specs.Store.{Calls, without_output, store_loses, store_with, store_calls, store}

-- ---- this store with one call changed

-- with other calls, another format, a test of what is borrowed beside it, a cost, and something of which so much is left
abbrev pub interface : (P : ℕ) → (Call → Device → Reply Device) → (ℕ → Device → Reply Device) → (Device → Bool) → (Media → List MediaWrite → ℕ)
    → ℕ → (List MediaWrite → ℕ) → Interface
interface P does formats shaped cost remaining takes =
    record {
      State = Device;
      does = does;
      formats = formats;
      Loss = List ℕ;
      lose = store_loses;
      pages = λ d. P;
      image = λ d. d;
      is_shaped = shaped;
      Part = Media;
      part_of = λ d. d.media;
      contents = λ m. m;
      is_intact = λ m. true;
      cost = cost;
      remaining = λ m. remaining;
      takes = λ m. takes;
    }

module _ (P : ℕ) where
  abbrev pub with_read : (ℕ → ℕ → List ℕ → Device → Result (List ℕ)) → Interface
  with_read h =
      let s : Calls = store_calls P in
      store_with P (record { reading = h; looking = s.looking; writing = s.writing; truncating = s.truncating; syncing = s.syncing; mounting = s.mounting; formatting = s.formatting })

  abbrev pub with_look : (ℕ → ℕ → Device → Result (List ℕ)) → Interface
  with_look h =
      let s : Calls = store_calls P in
      store_with P (record { reading = s.reading; looking = h; writing = s.writing; truncating = s.truncating; syncing = s.syncing; mounting = s.mounting; formatting = s.formatting })

  abbrev pub with_write : (ℕ → ℕ → List ℕ → Device → Result Device) → Interface
  with_write h =
      let s : Calls = store_calls P in
      store_with P (record { reading = s.reading; looking = s.looking; writing = h; truncating = s.truncating; syncing = s.syncing; mounting = s.mounting; formatting = s.formatting })

  abbrev pub with_truncate : (ℕ → ℕ → Device → Result Device) → Interface
  with_truncate h =
      let s : Calls = store_calls P in
      store_with P (record { reading = s.reading; looking = s.looking; writing = s.writing; truncating = h; syncing = s.syncing; mounting = s.mounting; formatting = s.formatting })

  abbrev pub with_sync : (ℕ → ℕ → Device → Result Device) → Interface
  with_sync h =
      let s : Calls = store_calls P in
      store_with P (record { reading = s.reading; looking = s.looking; writing = s.writing; truncating = s.truncating; syncing = h; mounting = s.mounting; formatting = s.formatting })

  abbrev pub with_mount : (ℕ → Device → Result Device) → Interface
  with_mount h =
      let s : Calls = store_calls P in
      store_with P (record { reading = s.reading; looking = s.looking; writing = s.writing; truncating = s.truncating; syncing = s.syncing; mounting = h; formatting = s.formatting })

  -- a sync with another plan
  abbrev pub with_plan : (Device → ℕ → List MediaWrite) → Interface
  with_plan plan = with_sync (λ f budget d. admit (file_tests P d f true) d (under_budget P budget (plan d f) (synced_state d.cache f) d))

-- ---- stores that are not accepted

-- turns every call down, but for mounts as given
abbrev pub refusing : (ℕ → Device → Result Device) → Interface
refusing h =
    store_with 1
    (record {
      reading = λ f position buffer d. give DOWN buffer;
      looking = λ f position d. give DOWN [];
      writing = λ f position bytes d. give DOWN d;
      truncating = λ f n d. give DOWN d;
      syncing = λ f budget d. give DOWN d;
      mounting = h;
      formatting = (store_calls 1).formatting;
    })

-- turns every call down
abbrev pub refuses_all : Interface
refuses_all = refusing (λ budget d. give DOWN d)

-- mounts, and turns every other call down
abbrev pub idle : Interface
idle = refusing (store_calls 1).mounting

-- accepts writes while down, and loses them
abbrev pub writes_while_down : Interface
writes_while_down = with_write 1 (λ f position bytes d. cond (eqb d.cache.mounted 0) (give (done (length bytes)) d) ((store_calls 1).writing f position bytes d))

-- says NO ROOM at once
abbrev pub never_room : Interface
never_room = with_write 1 (λ f position bytes d. give NO_ROOM d)

-- says CUT at once
abbrev pub always_cut : Interface
always_cut = with_sync 1 (λ f budget d. give (CUT budget) (device_of d.media d.frames down_state))

-- a read with constant bytes
abbrev pub constant_read : Interface
constant_read = with_read 1 (λ f position buffer d. give ((store_calls 1).reading f position buffer d).answer (zeros (length buffer)))

-- a read that copies none
abbrev pub copies_none : Interface
copies_none = with_read 1 (λ f position buffer d. give ((store_calls 1).reading f position buffer d).answer buffer)

-- a look that hands back nothing
abbrev pub empty_look : Interface
empty_look = with_look 1 (λ f position d. give ((store_calls 1).looking f position d).answer [])

-- a sync that stores a file once, and later only says so
abbrev pub pretends : Interface
pretends =
    with_sync 1 (λ f budget d.
    cond (eqb (size_at d.media f) 0) ((store_calls 1).syncing f budget d) (give (done 0) (device_of d.media d.frames (synced_state d.cache f))))

-- a sync that invents its store count
abbrev pub invents_count : Interface
invents_count = with_sync 1 (λ f budget d. let r : Result Device = (store_calls 1).syncing f budget d in give (if_done r.answer (done 7) r.answer) r.left)

-- a write that stops before it must
abbrev pub stops_early : Interface
stops_early = with_write 1 (λ f position bytes d. (store_calls 1).writing f position (take 1 bytes) d)

-- a write that loses the frames
abbrev pub loses_frames : Interface
loses_frames =
    with_write 1 (λ f position bytes d.
    let r : Result Device = (store_calls 1).writing f position bytes d in give r.answer (device_of r.left.media [] r.left.cache))

-- a mount that is done and leaves the device down
abbrev pub stays_down : Interface
stays_down = with_mount 1 (λ budget d. let r : Result Device = (store_calls 1).mounting budget d in give r.answer (device_of r.left.media r.left.frames down_state))

-- a cut that stores nothing
abbrev pub cut_stores_none : Interface
cut_stores_none =
    with_sync 1 (λ f budget d.
    let r : Result Device = (store_calls 1).syncing f budget d in
    give r.answer (cond (eqb r.answer.number 9) (device_of d.media d.frames down_state) r.left))

-- a write that loses the mount
abbrev pub drops_mount : Interface
drops_mount =
    with_write 1 (λ f position bytes d.
    let r : Result Device = (store_calls 1).writing f position bytes d in give r.answer (device_of r.left.media r.left.frames down_state))

-- a refusal that changes something
abbrev pub spoils : Interface
spoils = with_truncate 1 (λ f n d. give RANGE (device_of d.media d.frames down_state))

-- a cut that leaves the device mounted
abbrev pub cut_mounted : Interface
cut_mounted = with_sync 1 (λ f budget d. give (CUT budget) d)

-- a write that leaves a cache state that is not sound
abbrev pub breaks_state : Interface
breaks_state =
    with_write 1 (λ f position bytes d.
    let r : Result Device = (store_calls 1).writing f position bytes d in
    if_done r.answer (give r.answer (device_of r.left.media r.left.frames (with_floor r.left.cache f (file_bytes 1)))) r)

-- a sync that keeps the file's pages cached
abbrev pub keeps_pages : Interface
keeps_pages =
    with_sync 1 (λ f budget d. admit (file_tests 1 d f true) d (under_budget 1 budget (sync_plan 1 d f) (with_floor d.cache f (logical_at d f)) d))

-- a write that takes a slot for a page of another file
abbrev pub hoards : Interface
hoards =
    with_write 1 (λ f position bytes d.
    let r : Result Device = (store_calls 1).writing f position bytes d in if_done r.answer (give r.answer (cache_page 1 (suc f) 0 r.left)) r)

-- a write that stores at once
abbrev pub stores_at_once : Interface
stores_at_once =
    with_write 1 (λ f position bytes d.
    let r : Result Device = (store_calls 1).writing f position bytes d in if_done r.answer (give r.answer ((store_calls 1).syncing f 18 r.left).left) r)

-- a mount that wipes the files of a device whose cache state it does not like
abbrev pub wipes : Interface
wipes =
    with_mount 1 (λ budget d.
    let r : Result Device = (store_calls 1).mounting budget d in
    cond (leb d.cache.mounted 1) r
    (if_done r.answer (give r.answer (device_of (media_of (zeros (media_bytes 1)) (zeros files)) d.frames (mounted_state (zeros files)))) r))

-- ---- the traps

-- storing pages in slot order
unfoldable pub slot_writes : List Slot → ℕ → List ℕ → ℕ → List MediaWrite
slot_writes [] k frames f = []
slot_writes (s ∷ slots) k frames f =
    write_if (is_used s && eqb s.file f) (page f s.page (part frames (frame_start k) page_bytes)) ++ slot_writes slots (suc k) frames f

abbrev pub in_slot_order : Interface
in_slot_order = with_plan 2 (λ d f. trim_writes d f ++ (slot_writes d.cache.slots 0 d.frames f ++ size_writes d f))

-- storing the size before the pages
abbrev pub size_first : Interface
size_first = with_plan 1 (λ d f. trim_writes d f ++ (size_writes d f ++ page_writes d f 1 0))

-- a floor that is the last truncate, not the lowest
abbrev pub latest_truncate : Interface
latest_truncate =
    with_truncate 1 (λ f n d.
    admit (file_tests 1 d f (leb n (file_bytes 1))) d
    (give (done 0)
    (clear_tail f n
    (device_of d.media d.frames
    (with_sizes f (record { logical = n; floor = min (size_at d.media f) n; stored = size_at d.media f })
    (with_slots d.cache (map (free_where (pages_from f n)) d.cache.slots)))))))

-- no TRIM where the size is the stored one again
abbrev pub trim_skipped : Interface
trim_skipped = with_plan 1 (λ d f. cond (eqb (logical_at d f) (size_at d.media f)) [] (trim_writes d f) ++ (page_writes d f 1 0 ++ size_writes d f))

-- a mount with no TRIMs
abbrev pub mount_leaves : Interface
mount_leaves = with_mount 1 (λ budget d. admit (mount_tests 1 d.media) d (under_budget 1 budget [] (mounted_state d.media.sizes) d))

-- ---- stores that weaker claims let through

-- a write, and then
abbrev pub writes_then : (ℕ → Device → Device → Device) → Interface
writes_then h =
    with_write 1 (λ f position bytes d.
    let r : Result Device = (store_calls 1).writing f position bytes d in if_done r.answer (give r.answer (h f d r.left)) r)

-- the pages of file f are free
abbrev pub uncached : ℕ → Device → Device
uncached f d = device_of d.media d.frames (with_slots d.cache (map (free_where (pages_of f)) d.cache.slots))

-- all bytes of file f, the one page that it has here
abbrev pub whole_file : Device → ℕ → List ℕ
whole_file d f = current_bytes 1 d f 0 (file_bytes 1)

abbrev pub all_zero : List ℕ → Bool
all_zero bytes = every (λ b. eqb b 0) bytes

-- a write that takes no slot for bytes that are there
abbrev pub skips_equal : Interface
skips_equal =
    writes_then (λ f before after.
    cond (is_cached before f 0) after (cond (same_bytes (whole_file before f) (whole_file after f)) (uncached f after) after))

-- one that drops a page whose bytes are the media's again
abbrev pub drops_equal : Interface
drops_equal = writes_then (λ f before after. cond (same_bytes (whole_file (uncached f after) f) (whole_file after f)) (uncached f after) after)

-- one that takes no slot for zeros past the end
abbrev pub skips_zeros : Interface
skips_zeros =
    writes_then (λ f before after.
    cond (is_cached before f 0) after (cond (eqb (floor_at after f) 0 && all_zero (whole_file after f)) (uncached f after) after))

-- a truncate that forgets one down and up over zeros
abbrev pub forgets_truncate : Interface
forgets_truncate =
    with_truncate 1 (λ f n d.
    let r : Result Device = (store_calls 1).truncating f n d in
    let low : ℕ = floor_at r.left f in
    let zero_from : Bool = all_zero (part d.media.bytes (file_start 1 f + low) (n - low)) in
    if_done r.answer
    (give r.answer (device_of r.left.media r.left.frames (with_floor r.left.cache f (cond zero_from (min n (size_at d.media f)) low)))) r)

-- the bytes of a file that is empty on the media go there, and its size does not
abbrev pub put_past : ℕ → Device → Device
put_past f d =
    cond (eqb (size_at d.media f) 0)
    (device_of (media_of (overwrite d.media.bytes (file_start 1 f) (whole_file d f)) d.media.sizes) d.frames d.cache) d

-- a write that stores pages past the stored size at once
abbrev pub stores_past : Interface
stores_past = writes_then (λ f before after. put_past f after)

-- a sync that stores pages of another file, past its stored size
abbrev pub syncs_others : Interface
syncs_others =
    with_sync 1 (λ f budget d.
    let r : Result Device = (store_calls 1).syncing f budget d in if_done r.answer (give r.answer (put_past (suc f) r.left)) r)

-- a look that hides the zeros of a cached page
abbrev pub hides_zeros : Interface
hides_zeros =
    with_look 1 (λ f position d.
    let r : Result (List ℕ) = (store_calls 1).looking f position d in give r.answer (cond (all_zero r.left) [] r.left))

-- a sync that leaves other bytes in the page frames
abbrev pub scribbles : Interface
scribbles =
    with_sync 1 (λ f budget d.
    let r : Result Device = (store_calls 1).syncing f budget d in
    if_done r.answer (give r.answer (device_of r.left.media (overwrite r.left.frames 0 (9 ∷ [])) r.left.cache)) r)

-- a read that lies where no run leads: with a byte other than 0 past the end of the file
abbrev pub lies_elsewhere : Interface
lies_elsewhere =
    with_read 1 (λ f position buffer d.
    cond (eqb (current_at 1 d f (logical_at d f)) 0) ((store_calls 1).reading f position buffer d)
    (admit (file_tests 1 d f (leb position (file_bytes 1))) buffer (give (done 7) buffer)))

-- the pages of slots 0 and 1 change places
abbrev pub swapped : Device → Device
swapped d =
    let slots : List Slot = d.cache.slots in
    device_of d.media
    (part d.frames page_bytes page_bytes ++ (part d.frames 0 page_bytes ++ drop (2 * page_bytes) d.frames))
    (with_slots d.cache (set (set slots 0 (get_or slots 1 free_slot)) 1 (get_or slots 0 free_slot)))

-- a write that moves cached pages to other slots, and a truncate that does
abbrev pub write_moves : Interface
write_moves = writes_then (λ f before after. swapped after)

abbrev pub truncate_moves : Interface
truncate_moves =
    with_truncate 1 (λ f n d. let r : Result Device = (store_calls 1).truncating f n d in if_done r.answer (give r.answer (swapped r.left)) r)

-- a write of no bytes that alters a free page frame
abbrev pub stirs : Interface
stirs =
    with_write 1 (λ f position bytes d.
    let r : Result Device = (store_calls 1).writing f position bytes d in
    if_done r.answer
    (give r.answer (device_of r.left.media (cond (eqb (length bytes) 0) (overwrite r.left.frames 0 (9 ∷ [])) r.left.frames) r.left.cache)) r)

-- a truncate that leaves no slots where no run leads
abbrev pub breaks_elsewhere : Interface
breaks_elsewhere =
    with_truncate 1 (λ f n d.
    let r : Result Device = (store_calls 1).truncating f n d in
    cond (eqb (current_at 1 d f (logical_at d f)) 0) r
    (if_done r.answer (give r.answer (device_of r.left.media r.left.frames (with_slots r.left.cache []))) r))

-- calls that all output one byte
abbrev pub chatters : Interface
chatters =
    let s : Interface = store_with 1 (store_calls 1) in
    interface 1 (λ c d. let r : Reply Device = s.does c d in record { answer = r.answer; output = 1 ∷ []; device = r.device }) s.formats (λ d. true) (λ m. length) 0 (λ ws. 0)

-- a store that refuses everything by a test of its own
abbrev pub refuses_alone : Interface
refuses_alone =
    interface 1 (λ c d. record { answer = SHAPE; output = as_it_came c; device = d }) (λ budget d. without_output (give SHAPE d)) (λ d. false) (λ m. length) 0 (λ ws. 0)

-- a store on which every sync runs out of something
abbrev pub worn_out : Interface
worn_out =
    let s : Interface = with_sync 1 (λ f budget d. admit (file_tests 1 d f true) d (give (cond (eqb (length (sync_plan 1 d f)) 0) (done 0) EXHAUSTED) d)) in
    interface 1 s.does s.formats (λ d. true) (λ m. length) 0 length

-- a reply under half the budget that counts double
abbrev pub twice : ℕ → Reply Device → Reply Device
twice budget r =
    let a : Coded = cond (eqb r.answer.number 9) (CUT budget) (record { number = r.answer.number; count = 2 * r.answer.count }) in
    record { answer = a; output = r.output; device = r.device }

-- a store that asks and counts two for each media write, and does nothing for one
abbrev pub dear_calls : Call → Device → Reply Device
dear_calls (read f position buffer) d = (store 1).does (read f position buffer) d
dear_calls (look f position) d = (store 1).does (look f position) d
dear_calls (write f position bytes) d = (store 1).does (write f position bytes) d
dear_calls (truncate f n) d = (store 1).does (truncate f n) d
dear_calls (sync f budget) d = twice budget ((store 1).does (sync f (budget / 2)) d)
dear_calls (mount budget) d = twice budget ((store 1).does (mount (budget / 2)) d)

abbrev pub overcharges : Interface
overcharges = interface 1 dear_calls (λ budget d. twice budget ((store 1).formats (budget / 2) d)) (λ d. true) (λ m ws. 2 * length ws) 0 (λ ws. 0)

-- a TRIM of a file below this one to 0
abbrev pub empties : ℕ → MediaWrite → Bool
empties below (page f p bytes) = false
empties below (size f n) = false
empties below (trim f n) = ltb f below && eqb n 0

-- file 0 is not empty, the first media write empties it, and the second empties another file: no call but format has such media writes
abbrev pub formats_two : Media → List MediaWrite → Bool
formats_two m [] = false
formats_two m (w ∷ []) = false
formats_two m (w ∷ v ∷ ws) = not (eqb (size_at m 0) 0) && (empties 1 w && empties files v)

-- a store whose format asks and counts two for each media write there
abbrev pub dear_format : Interface
dear_format =
    let dear : Device → Bool = λ d. formats_two d.media (format_plan 1 d.media) in
    interface 1 (store 1).does (λ budget d. cond (dear d) (twice budget ((store 1).formats (budget / 2) d)) ((store 1).formats budget d)) (λ d. true)
    (λ m ws. cond (formats_two m ws) (2 * length ws) (length ws)) 0 (λ ws. 0)

-- a store that says SHAPE where the cache state is not sound
abbrev pub refuses_unsound : Interface
refuses_unsound =
    let s : Interface = store_with 1 (store_calls 1) in
    let sound : Device → Bool = λ d. is_sound 1 d.media.sizes d.cache in
    interface 1 (λ c d. cond (sound d) (s.does c d) (record { answer = SHAPE; output = as_it_came c; device = d })) s.formats sound (λ m. length) 0 (λ ws. 0)

-- a store that takes its media for one of longer files where the cache state is not sound
abbrev pub misjudges : Interface
misjudges =
    let right : Device × Bool → Bool = λ s. s.1 && is_sound 1 s.0.media.sizes s.0.cache in
    let pages : Device × Bool → ℕ = λ s. cond (right s) 1 2 in
    let next : Device × Bool → Reply Device → Reply (Device × Bool) =
    λ s r. record { answer = r.answer; output = r.output; device = (r.device, cond (eqb r.answer.number 0 || eqb r.answer.number 9) (right s) s.1) } in
    record {
      State = Device × Bool;
      does = λ c s. next s ((store (pages s)).does c s.0);
      formats = λ budget s. next s ((store (pages s)).formats budget s.0);
      Loss = List ℕ;
      lose = λ frames s. (store_loses frames s.0, right s);
      pages = pages;
      image = λ s. s.0;
      is_shaped = λ s. true;
      Part = Media;
      part_of = λ s. s.0.media;
      contents = λ m. m;
      is_intact = λ m. true;
      cost = λ m ws. length ws;
      remaining = λ m. 0;
      takes = λ m ws. 0;
    }

abbrev pub is_write : Call → Bool
is_write (read f position buffer) = false
is_write (look f position) = false
is_write (write f position bytes) = true
is_write (truncate f n) = false
is_write (sync f budget) = false
is_write (mount budget) = false

-- this store with a number in the part, beside the media: the number after a call, by the number of its media writes; and how much of it each
-- of them takes. Where that is 0, the number shows nowhere
abbrev pub numbered : (Call → Reply Device → ℕ → ℕ → ℕ) → ℕ → Interface
numbered after each =
    let takes : List MediaWrite → ℕ = λ ws. each * length ws in
    let next : ℕ → (ℕ → ℕ) → Reply Device → Reply (Device × ℕ) = λ n h r. record { answer = r.answer; output = r.output; device = (r.device, h n) } in
    let exhausted : List Test → List ℕ → Device × ℕ → Reply (Device × ℕ) =
    λ ts output s. record { answer = first_refusal ts EXHAUSTED; output = output; device = s } in
    record {
      State = Device × ℕ;
      does = λ c s.
          let ws : List MediaWrite = plan (store 1) c s.0 in
          let r : Reply Device = (store 1).does c s.0 in
          cond (leb (takes ws) (each * s.1)) (next s.1 (after c r (length ws)) r) (exhausted (conditions (store 1) c s.0) (as_it_came c) s);
      formats = λ budget s.
          let ws : List MediaWrite = format_plan 1 s.0.media in
          let r : Reply Device = (store 1).formats budget s.0 in
          cond (leb (takes ws) (each * s.1)) (next s.1 (after (mount budget) r (length ws)) r) (exhausted (anew (store 1) s.0) [] s);
      Loss = List ℕ;
      lose = λ frames s. (store_loses frames s.0, s.1);
      pages = λ s. 1;
      image = λ s. s.0;
      is_shaped = λ s. true;
      Part = Media × ℕ;
      part_of = λ s. (s.0.media, s.1);
      contents = λ p. p.0;
      is_intact = λ p. true;
      cost = λ p ws. length ws;
      remaining = λ p. each * p.1;
      takes = λ p. takes;
    }

-- a done write changes the part beside all media writes, as one that erases a block of it does
abbrev pub wears : Interface
wears = numbered (λ c r n k. cond (is_write c) (if_done r.answer (suc k) k) k) 0

-- a cut uses up what all its media writes take
abbrev pub wastes : Interface
wastes = numbered (λ c r n k. cond (eqb r.answer.number 0 || eqb r.answer.number 9) (k - n) k) 1

-- the number of a part on plain media, which its done syncs change
abbrev pub counts : Interface
counts = numbered (λ c r n k. if_done r.answer (k + n) k) 0

-- a store that runs out at a second media write of a call, and is left with as much by the first
abbrev pub tires : Interface
tires =
    let few : List MediaWrite → Bool = λ ws. leb (length ws) 1 in
    interface 1
    (λ c d. cond (few (plan (store 1) c d)) ((store 1).does c d) (record { answer = first_refusal (conditions (store 1) c d) EXHAUSTED; output = as_it_came c; device = d }))
    (λ budget d. cond (few (format_plan 1 d.media)) ((store 1).formats budget d) (record { answer = first_refusal (anew (store 1) d) EXHAUSTED; output = []; device = d }))
    (λ d. true) (λ m. length) 1 length

-- a truncate that leaves the device down where nothing is cached or stored
abbrev pub truncate_down : Interface
truncate_down =
    with_truncate 1 (λ f n d.
    let r : Result Device = (store_calls 1).truncating f n d in
    if_done r.answer (cond (is_down r.left.cache) (give r.answer (device_of r.left.media r.left.frames down_state)) r) r)

-- a format that leaves no media
abbrev pub formats_none : Interface
formats_none =
    let s : Calls = store_calls 1 in
    store_with 1
    (record {
      reading = s.reading;
      looking = s.looking;
      writing = s.writing;
      truncating = s.truncating;
      syncing = s.syncing;
      mounting = s.mounting;
      formatting = λ budget d. give (done 0) (device_of (media_of [] []) d.frames down_state);
    })

-- ---- the claim

abbrev pub RuledOut : Type 0
RuledOut =
    (Demand1 refuses_all → ⊥)
    × (Demand1 writes_while_down → ⊥)
    × (Demand1 spoils → ⊥)
    × (Demand1 cut_mounted → ⊥)
    × (Demand1 cut_stores_none → ⊥)
    × (Demand1 stays_down → ⊥)
    × (Demand1 drops_mount → ⊥)
    × (Demand1 loses_frames → ⊥)
    × (Demand1 stores_at_once → ⊥)
    × (Demand1 wipes → ⊥)
    × (Demand1 idle → ⊥)
    × (Demand1 never_room → ⊥)
    × (Demand1 always_cut → ⊥)
    × (Demand2 stops_early → ⊥)
    × (Demand2 breaks_state → ⊥)
    × (Demand2 keeps_pages → ⊥)
    × (Demand2 hoards → ⊥)
    × (Demand2 constant_read → ⊥)
    × (Demand2 copies_none → ⊥)
    × (Demand2 empty_look → ⊥)
    × (Demand2 pretends → ⊥)
    × (Demand2 invents_count → ⊥)
    × (Demand3 in_slot_order → ⊥)
    × (Demand3 size_first → ⊥)
    × (Demand2 latest_truncate → ⊥)
    × (Demand2 trim_skipped → ⊥)
    × (Demand2 mount_leaves → ⊥)
    × (Demand2 skips_equal → ⊥)
    × (Demand2 drops_equal → ⊥)
    × (Demand2 skips_zeros → ⊥)
    × (Demand2 forgets_truncate → ⊥)
    × (Demand1 stores_past → ⊥)
    × (Demand1 syncs_others → ⊥)
    × (Demand2 hides_zeros → ⊥)
    × (Demand1 scribbles → ⊥)
    × (Demand1 lies_elsewhere → ⊥)
    × (Demand1 write_moves → ⊥)
    × (Demand1 truncate_moves → ⊥)
    × (Demand1 stirs → ⊥)
    × (Demand1 breaks_elsewhere → ⊥)
    × (Demand1 chatters → ⊥)
    × (Demand1 truncate_down → ⊥)
    × (Format formats_none → ⊥)
    × (Demands 1 1 0 0 worn_out → ⊥)
    × (Demands 1 1 0 0 overcharges → ⊥)
    × (Demands 1 1 0 0 dear_format → ⊥)
    × (Demands 1 1 0 0 refuses_alone → ⊥)
    × (Demands 1 1 0 0 refuses_unsound → ⊥)
    × (Demands 1 1 0 0 misjudges → ⊥)
    × (Demands 1 2 0 0 overcharges → ⊥)
    × (Demand1 wears → ⊥)
    × (Demands 1 1 1 0 tires → ⊥)
    × (Demands 1 1 1 9 wastes → ⊥)
    × (PlainDemands 1 counts → ⊥)
