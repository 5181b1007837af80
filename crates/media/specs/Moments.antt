-- The media that a call borrows, at entry and at exit.
use Rattle.std.specs.Prelude.{ℕ, List}
use Rattle.media.specs.Write.{Media, media_of}

-- what a borrowed slice has at that moment; one that the call may not write to has the same at both
abbrev pub Slice : Type 0
Slice = List ℕ

abbrev pub media_at_entry : Slice → Slice → Media
media_at_entry media sizes = media_of media sizes

abbrev pub media_at_exit : Slice → Slice → Media
media_at_exit media sizes = media_of media sizes
