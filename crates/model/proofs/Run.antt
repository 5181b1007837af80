-- What an invariant gives at one event, it gives in every run.
use mathlib.Core.List.{List, [], ◌∷◌}
use Prim.Native.Nat.{ℕ}
use Rattle.model.specs.ModelFile.{ModelFile}
use Rattle.model.specs.Run.{IsDone, Interface, World, Event, step, start, Throughout, InEveryRun, AtMounts}
use Rattle.model.specs.Run.Call.{read, look, write, truncate, sync, mount}
use Rattle.model.specs.Run.Event.{call, power_lost}

module _ (I : Interface) (Inv : World I → Type 0)
    (starts : (d : I.State) (budget : ℕ) → IsDone (I.does (mount budget) d).answer → Inv (start I (I.does (mount budget) d).device))
    (keeps : (w : World I) (e : Event I) → Inv w → Inv (step I w e)) where
  module _ (Q : World I → Event I → Type 0) (at : (w : World I) (e : Event I) → Inv w → Q w e) where
    throughout : (w : World I) (es : List (Event I)) → Inv w → Throughout I Q w es
    throughout w [] inv = tt
    throughout w (e ∷ es) inv = (at w e inv, throughout (step I w e) es (keeps w e inv))

    pub in_every-run : InEveryRun I Q
    in_every-run d budget is es = throughout _ es (starts d budget is)

-- what follows of each file at a mount
module _ (I : Interface) (Q R : ModelFile → List ℕ → Type 0) (weaker : (m : ModelFile) (found : List ℕ) → Q m found → R m found) where
  weaker_at : (w : World I) (e : Event I) → AtMounts I Q w e → AtMounts I R w e
  weaker_at w (call (mount budget)) h = λ is f hf. weaker _ _ (h is f hf)
  weaker_at w (call (read f position buffer)) h = tt
  weaker_at w (call (look f position)) h = tt
  weaker_at w (call (write f position bytes)) h = tt
  weaker_at w (call (truncate f n)) h = tt
  weaker_at w (call (sync f budget)) h = tt
  weaker_at w (power_lost x) h = tt

  weaker_throughout : (w : World I) (es : List (Event I)) → Throughout I (AtMounts I Q) w es → Throughout I (AtMounts I R) w es
  weaker_throughout w [] h = tt
  weaker_throughout w (e ∷ es) h = (weaker_at w e h.0, weaker_throughout (step I w e) es h.1)

  pub weaker_runs : InEveryRun I (AtMounts I Q) → InEveryRun I (AtMounts I R)
  weaker_runs h d budget is es = weaker_throughout _ es (h d budget is es)
