-- The lines of a session are calls of a run.
use mathlib.Core.Path.{◌≡◌, refl, ap}
use mathlib.Core.List.{List, [], ◌∷◌, ◌++◌, map}
use Prim.Native.Nat.{ℕ}
use lib.Dec.{eqb}
use lib.Seq.{take-nil}
use borrow.Table.Steps.{cases}
use Rattle.answer.specs.Coded.{LINE}
use Rattle.device.specs.Device.{Device}
use Rattle.device.specs.Admission.{give}
use Rattle.model.specs.Run.{Reply, World, step}
use Rattle.model.specs.Run.Event.{call}
use Rattle.model.specs.Store.{store, store_does}
use Rattle.session_line.specs.Grammar.{Command, parse, F, M, W, T, S, R}
use Rattle.session_run.specs.Session.{Ran, without_bytes, reply_of, run, run_line, answers}
use Rattle.session_claims.specs.Runs.{Asked, asked, shown, printed, LinesAreCalls}
use Rattle.session_claims.specs.Runs.Asked.{makes, formats, nothing}

module _ (P : ℕ) where
  -- what a line gives
  abbrev given : Asked → Device → Ran
  given (makes c) d = shown (store_does P c d)
  given (formats budget) d = shown ((store P).formats budget d)
  given nothing d = without_bytes (give LINE d)

  given_is : (c : Command) (d : Device) → run P c d ≡ given (asked c) d
  unfolding run asked
  given_is c d =
      cases (eqb c.letter F) (λ e. rw (e, take-nil)) (λ f. rw f
      (cases (eqb c.letter M) (λ e. rw (e, take-nil)) (λ m. rw m
      (cases (eqb c.letter W) (λ e. rw (e, take-nil)) (λ w. rw w
      (cases (eqb c.letter T) (λ e. rw (e, take-nil)) (λ t. rw t
      (cases (eqb c.letter S) (λ e. rw (e, take-nil)) (λ s. rw s
      (cases (eqb c.letter R) (λ e. rw e) (λ r. rw r)))))))))))

  -- one line, and the rest from the device that it leaves
  printed_one : (a : Asked) (more : List Asked) (w : World (store P)) (rest : Device → List ℕ)
      → ((v : World (store P)) → rest v.device ≡ printed P more v)
      → reply_of (given a w.device) ++ rest (given a w.device).device ≡ printed P (a ∷ more) w
  printed_one (makes c) more w rest h = ap (λ (t : List ℕ). reply_of (shown (store_does P c w.device)) ++ t) (h (step (store P) w (call c)))
  printed_one (formats budget) more w rest h =
      let r : Reply Device = (store P).formats budget w.device in
      ap (λ (t : List ℕ). reply_of (shown r) ++ t) (h (record { device = r.device; models = w.models }))
  printed_one nothing more w rest h = ap (λ (t : List ℕ). reply_of (without_bytes (give LINE w.device)) ++ t) (h w)

  pub lines_are_calls : LinesAreCalls P
  unfolding run_line
  lines_are_calls [] w = refl
  lines_are_calls (line ∷ lines) w =
      rw (given_is (parse line) w.device)
      (printed_one (asked (parse line)) (map (λ l. asked (parse l)) lines) w (answers P lines) (lines_are_calls lines))
