-- The program as a whole: however its input is cut into blocks, it prints what document 01 says.
use Rattle.std.specs.Prelude.{◌≡◌, List, [], ◌∷◌, ◌++◌, ℕ}
use Rattle.session_line.specs.Reply.{header}
use Rattle.session_run.specs.Session.{start_device, output}
use Rattle.session_run.specs.Feeding.{Fed, feed, feed_all, no_line, last_end}

-- the blocks together
abbrev pub joined : List (List ℕ) → List ℕ
joined [] = []
joined (b ∷ bs) = b ++ joined bs

-- what is printed: the header, what the blocks give, and what the end of the input gives
unfoldable pub printed_in_blocks : ℕ → List (List ℕ) → List ℕ
printed_in_blocks P blocks =
    let x : Fed = feed_all P blocks (start_device P) no_line in
    header ++ (x.text ++ (feed P (last_end x.line) x.device x.line).text)

abbrev pub AnyBlocks : Type 0
AnyBlocks = (P : ℕ) (blocks : List (List ℕ)) → printed_in_blocks P blocks ≡ output P (joined blocks)
