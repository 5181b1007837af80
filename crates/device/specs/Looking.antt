-- Look: document 01, "The calls". A part of the page frames or a part of the media, and its count.
use Rattle.std.specs.Prelude.{ℕ, ◌+◌, ◌-◌, ◌/◌, ◌%◌, min, true, false, cond, List, leb}
use Rattle.answer.specs.Coded.{Coded, done}
use Rattle.answer.specs.Admission.{first_refusal, if_done}
use Rattle.memory.specs.Bytes.{part}
use Rattle.media.specs.Geometry.{page_bytes, file_bytes, file_start}
use Rattle.device.specs.declared.Span.{Span}
use Rattle.device.specs.Device.{Device, frame_start, slot_of, is_cached, logical_at, floor_at}
use Rattle.device.specs.Admission.{file_tests}

-- from the position to the end of its page or to the limit, the nearer; 0 at or past the limit
abbrev pub to_page_end : ℕ → ℕ → ℕ
to_page_end position limit = min (page_bytes - position % page_bytes) (limit - position)

unfoldable pub look_count : ℕ → ℕ → ℕ → Device → Coded
look_count P f position d =
    first_refusal (file_tests P d f (leb position (file_bytes P))) (done (to_page_end position (logical_at d f)))

-- where the page is cached, a part of its frame, up to the logical size; where it is not, of the media, up to the floor
unfoldable pub looked_span : ℕ → ℕ → ℕ → Device → Span
looked_span P f position d =
    cond (is_cached d f (position / page_bytes))
    (record { cached = true; from = frame_start (slot_of d f (position / page_bytes)) + position % page_bytes; count = to_page_end position (logical_at d f) })
    (record { cached = false; from = file_start P f + position; count = to_page_end position (floor_at d f) })

-- nothing, at the start of the media
abbrev pub no_span : Span
no_span = record { cached = false; from = 0; count = 0 }

-- nothing on a refusal
unfoldable pub look_span : ℕ → ℕ → ℕ → Device → Span
look_span P f position d = if_done (look_count P f position d) (looked_span P f position d) no_span

-- the bytes that lie there
unfoldable pub span_bytes : Device → Span → List ℕ
span_bytes d s = part (cond s.cached d.frames d.media.bytes) s.from s.count

unfoldable pub looked_at : ℕ → ℕ → ℕ → Device → List ℕ
looked_at P f position d = span_bytes d (looked_span P f position d)

unfoldable pub look : ℕ → ℕ → ℕ → Device → List ℕ
look P f position d = span_bytes d (look_span P f position d)

-- byte i of a slice that lies at a place: a block, and an offset in it
abbrev pub place_of : ℕ × ℕ → ℕ → ℕ × ℕ
place_of at i = (at.0, i + at.1)

-- where the part lies, of media and page frames that lie at these places: never a copy, and in the page frames exactly where the
-- page is cached
unfoldable pub look_place : ℕ → ℕ → ℕ → ℕ × ℕ → ℕ × ℕ → Device → ℕ × ℕ
look_place P f position media frames d =
    let s : Span = look_span P f position d in
    place_of (cond s.cached frames media) s.from
