-- The lines of a session are calls of a run. So what is claimed in every run holds of what is printed after a mount, up to the next format.
use Rattle.std.specs.Prelude.{◌≡◌, cond, List, [], ◌∷◌, ◌++◌, map, ℕ, eqb, get_or, take, replicate}
use Rattle.answer.specs.Coded.{LINE}
use Rattle.memory.specs.Bytes.{zeros}
use Rattle.device.specs.Device.{Device}
use Rattle.device.specs.Admission.{give}
use Rattle.model.specs.Run.{Call, Reply, World, step}
use Rattle.model.specs.Run.Call.{read, write, truncate, sync, mount}
use Rattle.model.specs.Run.Event.{call}
use Rattle.model.specs.Store.{store, store_does}
use Rattle.session_line.specs.Grammar.{Command, parse, F, M, W, T, S, R}
use Rattle.session_run.specs.Session.{Ran, without_bytes, reply_of, answers}

-- what a line asks for: a call of a run; a format, which ends the run; nothing where it has no form
pub data Asked : Type 0 where
  makes : Call → Asked
  formats : (budget : ℕ) → Asked
  nothing : Asked

unfoldable pub asked : Command → Asked
asked c =
    let n : ℕ → ℕ = λ k. get_or c.numbers k 0 in
    cond (eqb c.letter F) (formats (n 0))
    (cond (eqb c.letter M) (makes (mount (n 0)))
    (cond (eqb c.letter W) (makes (write (n 0) (n 1) (replicate (n 2) (n 3))))
    (cond (eqb c.letter T) (makes (truncate (n 0) (n 1)))
    (cond (eqb c.letter S) (makes (sync (n 0) (n 1)))
    (cond (eqb c.letter R) (makes (read (n 0) (n 1) (zeros (n 2)))) nothing)))))

-- what is printed of a call: of its output the bytes that it counts
abbrev pub shown : Reply Device → Ran
shown r = record { answer = r.answer; bytes = take r.answer.count r.output; device = r.device }

module _ (P : ℕ) where
  -- what the calls of a run print, one after another. The model files go along as in a run, so that the demands speak of these calls; after a
  -- format they say nothing, up to the next done mount
  abbrev pub printed : List Asked → World (store P) → List ℕ
  printed [] w = []
  printed (makes c ∷ more) w = reply_of (shown (store_does P c w.device)) ++ printed more (step (store P) w (call c))
  printed (formats budget ∷ more) w =
      let r : Reply Device = (store P).formats budget w.device in reply_of (shown r) ++ printed more (record { device = r.device; models = w.models })
  printed (nothing ∷ more) w = reply_of (without_bytes (give LINE w.device)) ++ printed more w

  abbrev pub LinesAreCalls : Type 0
  LinesAreCalls = (lines : List (List ℕ)) (w : World (store P)) → answers P lines w.device ≡ printed (map (λ line. asked (parse line)) lines) w
