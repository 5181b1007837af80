-- What the layout promises: a state comes back from its bytes, and as many bytes as a state has come back from the state that they say.
use Rattle.std.specs.Prelude.{◌≡◌, Bool, true, List, ℕ, length}
use Rattle.memory.specs.Bytes.{is_byte}
use Rattle.scan.specs.Scan.{every}
use Rattle.media.specs.Geometry.{files}
use Rattle.device.specs.declared.CacheState.{CacheState}
use Rattle.device.specs.Device.{slot_count}
use Rattle.state_bytes.specs.Encoding.{state_bytes, encode, decode}

-- the lengths of the code's arrays (device Sound, `has_lengths`, as facts)
pub record Shaped (s : CacheState) : Type 0 where
  pub slots : length s.slots ≡ slot_count
  pub logical : length s.logical ≡ files
  pub floor : length s.floor ≡ files

-- every list that a slice of bytes can be
unfoldable pub are_bytes : List ℕ → Bool
are_bytes xs = every is_byte xs

pub record Inverse : Type 0 where
  pub there_and_back : (s : CacheState) → Shaped s → decode (encode s) ≡ s
  pub back_and_there : (bytes : List ℕ) → length bytes ≡ state_bytes → are_bytes bytes ≡ true → encode (decode bytes) ≡ bytes
