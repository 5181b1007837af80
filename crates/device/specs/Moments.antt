-- The device that a call borrows, at entry and at exit; a slice that the call may not write to is the same at both. The cache state goes
-- in by value, and comes back.
use Rattle.media.specs.Moments.{Slice, media_at_entry, media_at_exit}
use Rattle.device.specs.declared.CacheState.{CacheState}
use Rattle.device.specs.Device.{Device, device_of}

abbrev pub device_at_entry : Slice → Slice → Slice → CacheState → Device
device_at_entry media sizes frames cache = device_of (media_at_entry media sizes) frames cache

abbrev pub device_at_exit : Slice → Slice → Slice → CacheState → Device
device_at_exit media sizes frames cache = device_of (media_at_exit media sizes) frames cache
