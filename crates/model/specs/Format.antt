-- Demand 1 of format. It is no call of a run: no claim about a run reaches past it.
use Rattle.std.specs.Prelude.{ℕ, ◌<◌, ◌≡◌, ◌≢◌, ◌⊎◌, List, [], ◌++◌}
use Rattle.answer.specs.Coded.{done}
use Rattle.answer.specs.Admission.{first_refusal}
use Rattle.media.specs.Geometry.{files, file_bytes}
use Rattle.media.specs.Write.{Media, MediaWrite, byte_at, size_at}
use Rattle.device.specs.Device.{device_of, down_state}
use Rattle.device.specs.Mounting.{format_plan}
use Rattle.model.specs.Run.{IsDone, Reply, Interface, persistent}
use Rattle.model.specs.View.{anew, media_after, paying}
use Rattle.model.specs.Claims.{Made, Cut, Persists}

module _ (I : Interface) where
  -- its media writes
  abbrev pub format_writes : I.State → List MediaWrite
  format_writes s = format_plan (I.pages s) (persistent I s)

  -- what a format gives
  pub record Formats (budget : ℕ) (s : I.State) (r : Reply I.State) : Type 0 where
    -- SHAPE, damage, then running out, then CUT
    pub in_order : r.answer ≡ first_refusal (anew I s ++ paying I (I.part_of s) (format_writes s) budget) (done (I.cost (I.part_of s) (format_writes s)))
    pub no_output : r.output ≡ []
    pub unchanged : r.answer.number ≢ 0 → r.answer.number ≢ 9 → r.device ≡ s
    pub is_cut : r.answer.number ≡ 9 → Cut I (format_writes s) s r
    -- done leaves the media as its media writes leave it, and the device down: eight empty files on zeros
    pub leaves : IsDone r.answer → I.image r.device ≡ device_of (media_after I s (format_writes s)) (I.image s).frames down_state
    pub empty : IsDone r.answer → (f : ℕ) → f < files →
        let m : Media = (I.image r.device).media in
        (size_at m f ≡ 0) × ((i : ℕ) → i < file_bytes (I.pages s) → byte_at (I.pages s) m f i ≡ 0)
    pub pages : I.pages r.device ≡ I.pages s
    pub made : IsDone r.answer → Made I (I.part_of s) (format_writes s) r.answer.count (I.part_of r.device)
    pub persists : r.answer.number ≡ 0 ⊎ r.answer.number ≡ 9 → Persists I r.device
    pub untouched : format_writes s ≡ [] → I.part_of r.device ≡ I.part_of s

  abbrev pub Format : Type 0
  Format = (budget : ℕ) (s : I.State) → Formats budget s (I.formats budget s)
