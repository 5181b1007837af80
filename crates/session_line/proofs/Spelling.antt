-- What a line asks for is known by its letter and its numbers.
use mathlib.Core.Path.{◌≡◌, refl, sym, ap, ◌∙◌}
use mathlib.Core.Bool.{cond}
use Prim.Native.Nat.{ℕ}
use lib.Dec.{eqb}
use lib.ListN.{get_or}
use Rattle.std.specs.Prelude.{Option, None, Some}
use Rattle.session_line.specs.declared.Request.{Request}
use Rattle.session_line.specs.declared.Request.TheVariants.{Format, Mount, Write, Truncate, Sync, Read}
use Rattle.session_line.specs.Grammar.{Command, F, M, W, T, S, R}
use Rattle.session_line.specs.Request.{spelled}

-- the request of a letter and numbers
request : Command → Option Request
request c =
    let n : ℕ → ℕ = λ k. get_or c.numbers k 0 in
    cond (eqb c.letter F) (Some (Format (n 0)))
    (cond (eqb c.letter M) (Some (Mount (n 0)))
    (cond (eqb c.letter W) (Some (Write (n 0) (n 1) (n 2) (n 3)))
    (cond (eqb c.letter T) (Some (Truncate (n 0) (n 1)))
    (cond (eqb c.letter S) (Some (Sync (n 0) (n 1)))
    (cond (eqb c.letter R) (Some (Read (n 0) (n 1) (n 2))) None)))))

request_spelled : (r : Option Request) → request (spelled r) ≡ r
unfolding request
request_spelled None = refl
request_spelled (Some (Format budget)) = refl
request_spelled (Some (Mount budget)) = refl
request_spelled (Some (Write file position count byte)) = refl
request_spelled (Some (Truncate file size)) = refl
request_spelled (Some (Sync file budget)) = refl
request_spelled (Some (Read file position count)) = refl

-- with one letter and the same numbers they are one: a contract that gives `spelled r` gives r
pub spelled_injective : (r s : Option Request) → spelled r ≡ spelled s → r ≡ s
spelled_injective r s e = sym (request_spelled r) ∙ ap request e ∙ request_spelled s
