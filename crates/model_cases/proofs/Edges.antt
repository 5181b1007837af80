-- The edges, computed.
use mathlib.Core.Path.{refl}
use Rattle.media.specs.Geometry.{file_start}
use Rattle.device.specs.Sizes.{in_order}
use Rattle.device.specs.Sound.{in_range, holds_alone, is_down, has_lengths, sound_tests, is_sound}
use Rattle.device.specs.Current.{current_at}
use Rattle.device.specs.Admission.{media_shape, frames_shape, sizes_fit, state_tests}
use Rattle.device.specs.Reading.{read}
use Rattle.device.specs.Writing.{blank_page, filled_page, cache_page, patch_page, put_page, grown, write}
use Rattle.device.specs.Truncating.{clear_tail, with_sizes, truncated, truncate}
use Rattle.device.specs.Syncing.{trim_writes, page_write, page_writes, size_writes, sync_plan, synced_state, sync}
use Rattle.device.specs.Plan.{write_if, under_budget}
use Rattle.device.specs.Mounting.{nonzero_from, trims_from, mount_plan, mount, format_plan, format}
use Rattle.model_cases.specs.Edges.{Edges, used_device, mounted_device, edge_cases}
use Rattle.device.specs.Device.{free_where}

pub edges : Edges
unfolding file_start free_where blank_page has_lengths sound_tests in_order in_range holds_alone is_down is_sound current_at media_shape frames_shape sizes_fit state_tests read filled_page cache_page patch_page put_page grown write clear_tail with_sizes truncated truncate trim_writes page_write page_writes size_writes sync_plan synced_state write_if under_budget sync nonzero_from trims_from mount_plan mount format_plan format used_device mounted_device edge_cases
edges = (refl, refl, refl)
