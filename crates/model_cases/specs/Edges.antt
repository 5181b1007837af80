-- The marked cases of document 01, "Edges", as one table, at the real sizes.
use Rattle.std.specs.Prelude.{ℕ, ◌≡◌, Bool, true, false, ◌&&◌, cond, List, [], ◌∷◌, ◌++◌, eqb, replicate}
use Rattle.answer.specs.Coded.{Coded, done, RANGE, CUT}
use Rattle.memory.specs.Bytes.{zeros}
use Rattle.media.specs.Geometry.{files, pages_per_file, file_bytes, media_bytes}
use Rattle.media.specs.Write.{media_of}
use Rattle.scan.specs.Scan.{every, same_bytes}
use Rattle.device.specs.Device.{Device, device_of, frames_bytes, logical_at, down_state, mounted_state}
use Rattle.device.specs.Admission.{give}
use Rattle.device.specs.Mounting as Mounting
use Rattle.model.specs.Run.{Call, Reply}
use Rattle.model.specs.Run.Call.{read, write, truncate, sync, mount}
use Rattle.model.specs.Store.{store_does, store_media}

-- a step of a case
pub data Step : Type 0 where
  -- the call gives this answer and this output
  gives : Call → Coded → List ℕ → Step
  -- the logical size of the file is n
  has_size : (file n : ℕ) → Step
  -- the media holds these bytes of the file
  on_media : (file : ℕ) (bytes : List ℕ) → Step

abbrev pub same_answer : Coded → Coded → Bool
same_answer a b = eqb a.number b.number && eqb a.count b.count

-- the steps of a case, in order, each from what the one before left
abbrev pub plays : Device → List Step → Bool
plays d [] = true
plays d (gives c answer output ∷ steps) =
    let r : Reply Device = store_does pages_per_file c d in
    cond (same_answer r.answer answer) (cond (same_bytes r.output output) (plays r.device steps) false) false
plays d (has_size f n ∷ steps) = cond (eqb (logical_at d f) n) (plays d steps) false
plays d (on_media f bytes ∷ steps) = cond (same_bytes (store_media pages_per_file d f) bytes) (plays d steps) false

-- a device in use: every byte is 255, and the files have their greatest size
unfoldable pub used_device : Device
used_device =
    device_of (media_of (replicate (media_bytes pages_per_file) 255) (replicate files (file_bytes pages_per_file))) (replicate frames_bytes 255) down_state

-- it, formatted and mounted
unfoldable pub mounted_device : Device
mounted_device = device_of (media_of (zeros (media_bytes pages_per_file)) (zeros files)) (replicate frames_bytes 255) (mounted_state (zeros files))

-- n bytes of one value
abbrev pub A : ℕ → List ℕ
A n = replicate n 65

abbrev pub B : ℕ → List ℕ
B n = replicate n 66

abbrev pub C : ℕ → List ℕ
C n = replicate n 67

-- 300 and 600 bytes A at the start of file 1, synced
abbrev pub synced300 : List Step
synced300 = gives (write 1 0 (A 300)) (done 300) [] ∷ gives (sync 1 3) (done 3) [] ∷ []

abbrev pub synced600 : List Step
synced600 = gives (write 1 0 (A 600)) (done 600) [] ∷ gives (sync 1 4) (done 4) [] ∷ []

unfoldable pub edge_cases : List (List Step)
edge_cases =
    -- write 1 byte of value 1 at 4,095: count 1, size 4,096
    (gives (write 0 4095 (1 ∷ [])) (done 1) [] ∷ has_size 0 4096 ∷ [])
    -- two bytes there: RANGE
    ∷ (gives (write 0 4095 (1 ∷ 1 ∷ [])) RANGE [] ∷ [])
    -- write 0 bytes at 4,096: count 0, size 0
    ∷ (gives (write 0 4096 []) (done 0) [] ∷ has_size 0 0 ∷ [])
    -- at 4,097: RANGE
    ∷ (gives (write 0 4097 []) RANGE [] ∷ [])
    -- truncate to 4,096, read 3 at 0: three zeros
    ∷ (gives (truncate 0 4096) (done 0) [] ∷ gives (read 0 0 (A 3)) (done 3) (zeros 3) ∷ [])
    -- to 4,097: RANGE
    ∷ (gives (truncate 0 4097) RANGE [] ∷ [])
    -- write 300 bytes at 0: sync needs 3 stores
    ∷ (gives (write 1 0 (A 300)) (done 300) [] ∷ gives (sync 1 3) (done 3) [] ∷ [])
    ∷ (gives (write 1 0 (A 300)) (done 300) [] ∷ gives (sync 1 2) (CUT 2) [] ∷ [])
    -- a second sync with budget 0 completes
    ∷ (synced300 ++ (gives (sync 1 0) (done 0) [] ∷ []))
    -- those 300 synced, truncate to 100, then to 200: sync needs 2; bytes 100 to 199 are 0
    ∷ (synced300
    ++ (gives (truncate 1 100) (done 0) []
    ∷ gives (truncate 1 200) (done 0) []
    ∷ gives (sync 1 2) (done 2) []
    ∷ gives (read 1 0 (C 201)) (done 200) (A 100 ++ zeros 100 ++ C 1)
    ∷ on_media 1 (A 100 ++ zeros 100)
    ∷ []))
    -- 300 bytes A synced, 300 bytes B written at 0, sync cut after 1: mount finds 256 B, then 44 A
    ∷ (synced300
    ++ (gives (write 1 0 (B 300)) (done 300) []
    ∷ gives (sync 1 1) (CUT 1) []
    ∷ gives (mount 0) (done 0) []
    ∷ on_media 1 (B 256 ++ A 44)
    ∷ []))
    -- 600 bytes A synced, 20 B written at 500, then 10 C at 0, sync cut after 1: C stands, no B does
    ∷ (synced600
    ++ (gives (write 1 500 (B 20)) (done 20) []
    ∷ gives (write 1 0 (C 10)) (done 10) []
    ∷ gives (sync 1 1) (CUT 1) []
    ∷ gives (mount 0) (done 0) []
    ∷ on_media 1 (C 10 ++ A 590)
    ∷ []))
    -- cut after 2: C and 12 B
    ∷ (synced600
    ++ (gives (write 1 500 (B 20)) (done 20) []
    ∷ gives (write 1 0 (C 10)) (done 10) []
    ∷ gives (sync 1 2) (CUT 2) []
    ∷ gives (mount 0) (done 0) []
    ∷ on_media 1 (C 10 ++ A 490 ++ B 12 ++ A 88)
    ∷ []))
    ∷ []

-- THE EDGES: a format takes eight TRIMs, a mount then none, and from there every case of the table plays
abbrev pub Edges : Type 0
Edges =
    ((Mounting.format pages_per_file 8 used_device).answer ≡ done 8)
    × (Mounting.mount pages_per_file 0 (Mounting.format pages_per_file 8 used_device).left ≡ give (done 0) mounted_device)
    × (every (plays mounted_device) edge_cases ≡ true)
