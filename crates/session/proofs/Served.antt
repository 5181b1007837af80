-- Laws of what a session does to a reader and a writer: one block after another, the end, and the whole.
use Rattle.std.proofs.Common.{◌≡◌, sym, ap, subst, ◌∙◌, ℕ, List, [], ◌∷◌, ◌++◌, append-nil, take, Option, None, Some}
use Rattle.std.specs.Io.KnownBytes.{Appends, Consumes, IsAtEnd}
use Rattle.std.proofs.KnownBytes.{Consumes-nil, Consumes-trans, Consumes-whole, Appends-nil, Appends-trans}
use Rattle.media.specs.Geometry.{pages_per_file}
use Rattle.device.specs.Device.{Device}
use Rattle.session_line.specs.Reply.{header}
use Rattle.session_run.specs.declared.PartialLine.{PartialLine}
use Rattle.session_run.specs.Session.{start_device, output}
use Rattle.session_run.specs.Feeding.{Fed, feed, last_end, no_line}
use Rattle.session_run.proofs.Feeding.{feed-join}
use Rattle.session_claims.specs.Claims.{printed_in_blocks}
use Rattle.session_claims.proofs.Claims.{any-blocks}
use Rattle.session.specs.Served.{GoesOn, Ends, replies, Replies, Prints}

-- a reader was at its end where a read gave no byte
pub end_before : (left left' : Option (List ℕ)) (n : ℕ) (bytes : List ℕ) → n ≡ 0 → Consumes left left' (take n bytes) → IsAtEnd left' → IsAtEnd left
end_before None left' n bytes e p q = tt
end_before (Some x) None n bytes e p q = absurd p
end_before (Some x) (Some y) n bytes e p q = p ∙ ap (λ k. take k bytes ++ y) e ∙ q

-- nothing was read yet
pub begun : (left held : Option (List ℕ)) (d d' : Device) (p p' : PartialLine) → d' ≡ d → p' ≡ p → GoesOn left left held held d p d' p'
begun left held d d' p p' e f = record { bytes = []; read = Consumes-nil left; device = e; line = f; written = Appends-nil held }

-- one block after another
pub one_more : (left left' left″ held held' held″ : Option (List ℕ)) (d d' d″ : Device) (p p' p″ : PartialLine)
    → GoesOn left left' held held' d p d' p' → GoesOn left' left″ held' held″ d' p' d″ p″ → GoesOn left left″ held held″ d p d″ p″
one_more left left' left″ held held' held″ d d' d″ p p' p″ a b =
    let x : Fed = feed pages_per_file a.bytes d p in
    let j = feed-join pages_per_file a.bytes b.bytes d p in
    let e : feed pages_per_file b.bytes d' p' ≡ feed pages_per_file b.bytes x.device x.line = rw (a.device, a.line) in
    record {
      bytes = a.bytes ++ b.bytes;
      read = Consumes-trans left left' left″ a.bytes b.bytes a.read b.read;
      device = b.device ∙ ap (λ (y : Fed). y.device) e ∙ ap (λ (y : Fed). y.device) j;
      line = b.line ∙ ap (λ (y : Fed). y.line) e ∙ ap (λ (y : Fed). y.line) j;
      written =
          subst (Appends held held″) (ap (λ (y : Fed). x.text ++ y.text) e ∙ ap (λ (y : Fed). y.text) j)
          (Appends-trans held held' held″ x.text (feed pages_per_file b.bytes d' p').text a.written b.written);
    }

-- the end
pub replied : (left left' held held' held″ : Option (List ℕ)) (d : Device) (p : PartialLine)
    → GoesOn left left' held held' (start_device pages_per_file) no_line d p → Ends left' held' held″ d p → Replies left held held″
unfolding replies
replied left left' held held' held″ d p a e =
    let x : Fed = feed pages_per_file a.bytes (start_device pages_per_file) no_line in
    let f : feed pages_per_file (last_end p) d p ≡ feed pages_per_file (last_end x.line) x.device x.line = rw (a.device, a.line) in
    Consumes-whole left left' a.bytes (λ input. Appends held held″ (replies input)) a.read e.read
    (subst (Appends held held″) (ap (λ (y : Fed). x.text ++ y.text) f)
    (Appends-trans held held' held″ x.text (feed pages_per_file (last_end p) d p).text a.written e.written))

-- with the header, it is what the session is said to print
whole : (input : List ℕ) → header ++ replies input ≡ output pages_per_file input
unfolding replies printed_in_blocks
whole input =
    let x : Fed = feed pages_per_file input (start_device pages_per_file) no_line in
    let e = (feed pages_per_file (last_end x.line) x.device x.line).text in
    sym (ap (λ t. header ++ (t ++ e)) (append-nil x.text)) ∙ any-blocks pages_per_file (input ∷ []) ∙ ap (output pages_per_file) (append-nil input)

pub printed_whole : (left held held' held″ : Option (List ℕ)) → Appends held held' header → Replies left held' held″ → Prints left held held″
printed_whole None held held' held″ a r = tt
printed_whole (Some input) held held' held″ a r =
    subst (Appends held held″) (whole input) (Appends-trans held held' held″ header (replies input) a r)
