-- `writing::Parts::cache_page` meets its contract: the slot k was the first free one.
use Rattle.device.specs.Writing.{filled_page, cache_page}
use Rattle.media.specs.Geometry.{file_start}
use Rattle.writing.proofs.Parts.cache_page.Goals as goal

pub returns-clause-cached : goal.returns-clause-cached
unfolding file_start filled_page cache_page
returns-clause-cached c =
    λ stored. rw (c.use_slot.ensures, c.fill_frame.ensures, c.min-count.ensures, c.saturating_sub.ensures, c.floor_at-floor.ensures, ← c.requires.5)
