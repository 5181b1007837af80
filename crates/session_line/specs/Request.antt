-- What the code's requests spell, by the letter and the numbers of document 01.
use Rattle.std.specs.Prelude.{[], ◌∷◌, Option, None, Some}
use Rattle.session_line.specs.declared.Request.{Request}
use Rattle.session_line.specs.declared.Request.TheVariants.{Format, Mount, Write, Truncate, Sync, Read}
use Rattle.session_line.specs.Grammar.{Command, command, malformed, F, M, W, T, S, R}

abbrev pub spelled : Option Request → Command
spelled None = malformed
spelled (Some (Format budget)) = command F (budget ∷ [])
spelled (Some (Mount budget)) = command M (budget ∷ [])
spelled (Some (Write file position count byte)) = command W (file ∷ position ∷ count ∷ byte ∷ [])
spelled (Some (Truncate file size)) = command T (file ∷ size ∷ [])
spelled (Some (Sync file budget)) = command S (file ∷ budget ∷ [])
spelled (Some (Read file position count)) = command R (file ∷ position ∷ count ∷ [])
