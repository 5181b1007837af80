-- The store as a linked caller has it, bytes in and bytes out, as an interface of the demands. Crate `boxstore` gives each answer said here as
-- one word (`word_of`).
use Rattle.std.specs.Prelude.{ℕ, Bool, true, cond, ◌&&◌, List, [], eqb, length}
use Rattle.answer.specs.Coded.{SHAPE}
use Rattle.media.specs.Geometry.{pages_per_file}
use Rattle.media.specs.Write.{Media}
use Rattle.device.specs.Device.{down_state}
use Rattle.device.specs.Admission.{Result}
use Rattle.device.specs.Looking.{span_bytes}
use Rattle.device.specs.Writing as Writing
use Rattle.device.specs.Truncating as Truncating
use Rattle.device.specs.Syncing as Syncing
use Rattle.device.specs.Mounting as Mounting
use Rattle.state_bytes.specs.Encoding.{state_bytes, encode}
use Rattle.state_bytes.specs.Inverse.{are_bytes}
use Rattle.state_bytes.specs.InPlace.{Borrowed, borrowed, device_in, on_bytes, read_bytes, look_count_bytes, look_span_bytes}
use Rattle.model.specs.Run.{Call, Reply, Interface}
use Rattle.model.specs.Run.Call.{read, look, write, truncate, sync, mount}
use Rattle.model.specs.Claims.{as_it_came}
use Rattle.model.specs.Store.{without_output}
use Rattle.model.specs.Demands.{PlainDemands}

-- the bytes of some state
unfoldable pub is_state : List ℕ → Bool
is_state xs = are_bytes xs && eqb (length xs) state_bytes

module _ (P : ℕ) where
  -- the calls, as the contracts of the code say them; the output of a look is what lies at its span
  abbrev pub on_slices : Call → Borrowed → Reply Borrowed
  on_slices (read f position buffer) l =
      let r : Result (List ℕ) = read_bytes P f position buffer l in record { answer = r.answer; output = r.left; device = l }
  on_slices (look f position) l =
      record { answer = look_count_bytes P f position l; output = span_bytes (device_in l) (look_span_bytes P f position l); device = l }
  on_slices (write f position bytes) l = without_output (on_bytes (Writing.write P f position bytes) l)
  on_slices (truncate f n) l = without_output (on_bytes (Truncating.truncate P f n) l)
  on_slices (sync f budget) l = without_output (on_bytes (Syncing.sync P f budget) l)
  on_slices (mount budget) l = without_output (on_bytes (Mounting.mount P budget) l)

  -- a state that no slice of bytes can be is refused here, so that the claims have no premise
  abbrev pub of_bytes : Borrowed → List ℕ → Reply Borrowed → Reply Borrowed
  of_bytes l output r = cond (are_bytes l.state) r (record { answer = SHAPE; output = output; device = l })

  abbrev pub linked_does : Call → Borrowed → Reply Borrowed
  linked_does c l = of_bytes l (as_it_came c) (on_slices c l)

  -- the image is the device that the bytes say; after lost power the caller has what `boxstore_down` leaves
  abbrev pub linked_store : Interface
  linked_store = record {
    State = Borrowed;
    does = linked_does;
    formats = λ budget l. of_bytes l [] (without_output (on_bytes (Mounting.format P budget) l));
    Loss = List ℕ;
    lose = λ frames l. borrowed l.media frames (encode down_state);
    pages = λ l. P;
    image = device_in;
    is_shaped = λ l. is_state l.state;
    Part = Media;
    part_of = λ l. l.media;
    contents = λ m. m;
    is_intact = λ m. true;
    cost = λ m ws. length ws;
    remaining = λ m. 0;
    takes = λ m ws. 0;
  }

-- the demands hold of the calls on bytes
abbrev pub LinkedDemands : Type 0
LinkedDemands = PlainDemands pages_per_file (linked_store pages_per_file)
