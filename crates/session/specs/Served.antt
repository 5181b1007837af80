-- What a session does to the bytes that a reader has left and a writer holds, where those are known.
use Rattle.std.specs.Prelude.{◌≡◌, ℕ, List, ◌++◌, Option, IfSome}
use Rattle.std.specs.Io.KnownBytes.{Appends, Consumes, IsAtEnd}
use Rattle.media.specs.Geometry.{pages_per_file}
use Rattle.device.specs.Device.{Device}
use Rattle.session_run.specs.declared.PartialLine.{PartialLine}
use Rattle.session_run.specs.Session.{start_device, output}
use Rattle.session_run.specs.Feeding.{Fed, feed, last_end, no_line}

-- the session goes on: some bytes were read, and what they print was written
pub record GoesOn (left left' held held' : Option (List ℕ)) (d : Device) (p : PartialLine) (d' : Device) (p' : PartialLine) : Type 0 where
  pub bytes : List ℕ
  pub read : Consumes left left' bytes
  pub device : d' ≡ (feed pages_per_file bytes d p).device
  pub line : p' ≡ (feed pages_per_file bytes d p).line
  pub written : Appends held held' (feed pages_per_file bytes d p).text

-- the input has ended, and what its end prints was written
pub record Ends (left held held' : Option (List ℕ)) (d : Device) (p : PartialLine) : Type 0 where
  pub read : IsAtEnd left
  pub written : Appends held held' (feed pages_per_file (last_end p) d p).text

-- what an input prints after the header, with its end
unfoldable pub replies : List ℕ → List ℕ
replies input =
    let x : Fed = feed pages_per_file input (start_device pages_per_file) no_line in
    x.text ++ (feed pages_per_file (last_end x.line) x.device x.line).text

abbrev pub Replies : Option (List ℕ) → Option (List ℕ) → Option (List ℕ) → Type 0
Replies left held held' = IfSome left (λ input. Appends held held' (replies input))

-- all that a session prints of its input
abbrev pub Prints : Option (List ℕ) → Option (List ℕ) → Option (List ℕ) → Type 0
Prints left held held' = IfSome left (λ input. Appends held held' (output pages_per_file input))
