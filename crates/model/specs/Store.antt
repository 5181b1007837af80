-- The device of this store, as the claims see it. P is the number of pages in a file.
use Rattle.std.specs.Prelude.{ℕ, true, List, [], length}
use Rattle.media.specs.Write.{Media}
use Rattle.device.specs.Device.{Device, device_of, down_state}
use Rattle.device.specs.Admission.{Result, give}
use Rattle.device.specs.Reading as Reading
use Rattle.device.specs.Writing as Writing
use Rattle.device.specs.Truncating as Truncating
use Rattle.device.specs.Syncing as Syncing
use Rattle.device.specs.Mounting as Mounting
use Rattle.device.specs.Looking as Looking
use Rattle.model.specs.Run.{Call, Reply, Interface, file_on}
use Rattle.model.specs.Run.Call.{read, look, write, truncate, sync, mount}

-- the calls of a store on this device
pub record Calls : Type 0 where
  pub reading : ℕ → ℕ → List ℕ → Device → Result (List ℕ)
  pub looking : ℕ → ℕ → Device → Result (List ℕ)
  pub writing : ℕ → ℕ → List ℕ → Device → Result Device
  pub truncating : ℕ → ℕ → Device → Result Device
  pub syncing : ℕ → ℕ → Device → Result Device
  pub mounting : ℕ → Device → Result Device
  pub formatting : ℕ → Device → Result Device

-- a call that changes nothing on the device
abbrev pub keeping : Device → Result (List ℕ) → Reply Device
keeping d r = record { answer = r.answer; output = r.left; device = d }

-- a call with no output
abbrev pub without_output : {S : Type 0} → Result S → Reply S
without_output r = record { answer = r.answer; output = []; device = r.left }

abbrev pub doing : Calls → Call → Device → Reply Device
doing s (read f position buffer) d = keeping d (s.reading f position buffer d)
doing s (look f position) d = keeping d (s.looking f position d)
doing s (write f position bytes) d = without_output (s.writing f position bytes d)
doing s (truncate f n) d = without_output (s.truncating f n d)
doing s (sync f budget) d = without_output (s.syncing f budget d)
doing s (mount budget) d = without_output (s.mounting budget d)

-- without power only the media stays: the state is down, the page frames have any bytes
abbrev pub store_loses : List ℕ → Device → Device
store_loses frames d = device_of d.media frames down_state

abbrev pub store_media : ℕ → Device → ℕ → List ℕ
store_media P d = file_on P d.media

-- a store by its calls: the image is the device, nothing is borrowed beside it, a media write costs one, nothing runs out
abbrev pub store_with : ℕ → Calls → Interface
store_with P calls = record {
  State = Device;
  does = doing calls;
  formats = λ budget d. without_output (calls.formatting budget d);
  Loss = List ℕ;
  lose = store_loses;
  pages = λ d. P;
  image = λ d. d;
  is_shaped = λ d. true;
  Part = Media;
  part_of = λ d. d.media;
  contents = λ m. m;
  is_intact = λ m. true;
  cost = λ m ws. length ws;
  remaining = λ m. 0;
  takes = λ m ws. 0;
}

-- the calls of this store, as defined in crate `device`
abbrev pub store_calls : ℕ → Calls
store_calls P = record {
  reading = Reading.read P;
  looking = λ f position d. give (Looking.look_count P f position d) (Looking.look P f position d);
  writing = Writing.write P;
  truncating = Truncating.truncate P;
  syncing = Syncing.sync P;
  mounting = Mounting.mount P;
  formatting = Mounting.format P;
}

abbrev pub store_does : ℕ → Call → Device → Reply Device
store_does P = doing (store_calls P)

abbrev pub store : ℕ → Interface
store P = store_with P (store_calls P)
