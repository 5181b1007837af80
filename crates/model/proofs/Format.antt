-- Demand 1 of format.
use mathlib.Core.Path.{◌≡◌, refl, ap, ◌∙◌}
use mathlib.Core.Logic.{◌≢◌}
use mathlib.Core.List.{List, []}
use Prim.Native.Nat.{ℕ, ◌<◌}
use lib.ListN.{length}
use native.Mathlib.Omega.{arith}
use lib.Seq.{take-nil}
use Rattle.answer.specs.Admission.{first_refusal}
use Rattle.media.specs.Geometry.{files, file_bytes}
use Rattle.media.specs.Write.{MediaWrite, byte_at, size_at}
use Rattle.device.specs.Device.{device_of, down_state}
use Rattle.device.specs.Admission.{media_shape}
use Rattle.device.specs.Mounting.{format_plan, format}
use Rattle.device.proofs.Admission.{admit-answer}
use Rattle.device.proofs.Plan.{budget-answer}
use Rattle.device.proofs.Mounting.{format_by, format-done}
use Rattle.model.specs.Run.{IsDone}
use Rattle.model.specs.View.{media_after}
use Rattle.model.specs.Claims.{Made, Cut}
use Rattle.model.specs.Format.{Format}
use Rattle.model.specs.Store.{store, without_output}
use Rattle.model.proofs.Refusals.{cut_at, plain-made, plain-persists}

pub format_claim : (P : ℕ) → Format (store P)
unfolding format media_shape
format_claim P budget d =
    let ws : List MediaWrite = format_plan P d.media in
    record {
      in_order =
          admit-answer d (media_shape P d.media) _ ∙ ap (first_refusal (media_shape P d.media)) (budget-answer P budget (format_plan P d.media) down_state d);
      no_output = refl;
      unchanged =
          format_by P budget d (λ r. r.answer.number ≢ 0 → r.answer.number ≢ 9 → r.left ≡ d)
          (λ k lo hi _ _. refl) (λ l _ z. absurd (z refl)) (λ l lb ls z _. absurd (z refl));
      is_cut =
          format_by P budget d (λ r. r.answer.number ≡ 9 → Cut (store P) (format_plan P d.media) d (without_output r))
          (λ k lo hi z. absurd (hi z))
          (λ l z. cut_at P d ws budget [] l)
          (λ l lb ls z. absurd (omega arith));
      leaves =
          format_by P budget d (λ r. IsDone r.answer → r.left ≡ device_of (media_after (store P) d (format_plan P d.media)) d.frames down_state)
          (λ k lo hi z. absurd (omega arith)) (λ l z. absurd (omega arith)) (λ l lb ls z. refl);
      empty =
          format_by P budget d
          (λ r. IsDone r.answer → (f : ℕ) → f < files → (size_at r.left.media f ≡ 0) × ((i : ℕ) → i < file_bytes P → byte_at P r.left.media f i ≡ 0))
          (λ k lo hi z. absurd (omega arith)) (λ l z. absurd (omega arith)) (λ l lb ls z f hf. format-done P d.media lb ls f hf);
      pages = refl;
      made =
          format_by P budget d (λ r. IsDone r.answer → Made (store P) d.media (format_plan P d.media) r.answer.count r.left.media)
          (λ k lo hi z. absurd (omega arith)) (λ l z. absurd (omega arith)) (λ l lb ls z. plain-made P d.media ws (length ws) _ refl);
      persists = λ _. plain-persists P (format P budget d).left;
      untouched = λ none.
          format_by P budget d (λ r. r.left.media ≡ d.media) (λ k lo hi. refl) (λ l. rw (none, take-nil)) (λ l lb ls. rw none);
    }
