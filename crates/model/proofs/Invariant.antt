-- The invariant of a run: file by file, what the model file knows of the device.
use mathlib.Core.Path.{◌≡◌, refl, sym, ◌∙◌, subst}
use mathlib.Core.Logic.{◌≢◌, inl}
use mathlib.Core.List.{List}
use Prim.Native.Nat.{ℕ, ◌≤◌, ◌<◌}
use native.Mathlib.Omega.{arith}
use lib.ListN.{length, get_or}
use lib.Seq.{ext_get_or}
use borrow.Author.Tests.{eq-eqb, ne_eqb}
use Rattle.memory.proofs.Cases.{split_eq}
use Rattle.memory.proofs.Bytes.{length_part, get_d_part}
use Rattle.media.specs.Geometry.{files, file_bytes, media_bytes, file_start}
use Rattle.media.specs.Write.{byte_at, size_at}
use Rattle.media.proofs.Geometry.{file_end}
use Rattle.device.specs.Device.{Device, is_cached, logical_at, floor_at}
use Rattle.device.specs.Current.{current_at}
use Rattle.device.proofs.Sound.{Fit}
use Rattle.device.proofs.Admission.{Mountable}
use Rattle.model.specs.ModelFile.{ModelFile}
use Rattle.model.specs.CacheByLog.{cached_in}
use Rattle.model.specs.Run.{Files, change}
use Rattle.model.specs.States.{replay, CrashState}
use Rattle.model.specs.Store.{store_media}
use Rattle.model.proofs.ModelFile.{all_carried_out}

-- file f is changed, the others stay
pub changed : (Q : ℕ → ModelFile → Type 0) (f : ℕ) (h : ModelFile → ModelFile) (fs : Files) → Q f (h (fs f))
    → ((g : ℕ) → g ≢ f → g < files → Q g (fs g)) → (g : ℕ) → g < files → Q g (change f h fs g)
changed Q f h fs own other g hg =
    split_eq g f (λ e. rw (e, eq-eqb f f refl) own) (λ ne. rw (ne_eqb g f ne) (other g ne hg))

module _ (P : ℕ) where
  -- ---- of one file

  -- what a mount would find is one of the file's states
  pub record Found (d : Device) (g : ℕ) (m : ModelFile) : Type 0 where
    pub file : List ℕ
    pub state : CrashState m file
    pub size_is : length file ≡ size_at d.media g
    pub byte_is : (i : ℕ) → i < size_at d.media g → i < file_bytes P → get_or file i 0 ≡ byte_at P d.media g i

  -- a file as long as the floor, of current bytes below the boundary and durable ones from there on
  pub record Mixed (d : Device) (g boundary : ℕ) (file : List ℕ) : Type 0 where
    pub size_is : length file ≡ floor_at d g
    pub low : (i : ℕ) → i < floor_at d g → i < file_bytes P → i < boundary → get_or file i 0 ≡ current_at P d g i
    pub high : (i : ℕ) → i < floor_at d g → i < file_bytes P → boundary ≤ i → get_or file i 0 ≡ byte_at P d.media g i

  -- while mounted: the current bytes are those of the model, also past the logical size, where both are 0; the media holds the
  -- durable bytes, and zeros after them; the log replayed up to any boundary is a mix of the two; the whole log makes the current
  -- bytes of the durable ones; and it says which pages are cached
  pub record Mounted (d : Device) (g : ℕ) (m : ModelFile) : Type 0 where
    pub current_size : length m.current ≡ logical_at d g
    pub current_is : (i : ℕ) → i < file_bytes P → get_or m.current i 0 ≡ current_at P d g i
    pub durable_size : length m.durable ≡ size_at d.media g
    pub durable_is : (i : ℕ) → i < file_bytes P → get_or m.durable i 0 ≡ byte_at P d.media g i
    pub mixed : (boundary : ℕ) → Mixed d g boundary (replay boundary m.durable m.log)
    pub carried : all_carried_out m.durable m.log ≡ m.current
    pub cached : (q : ℕ) → is_cached d g q ≡ cached_in m q

  -- ---- of the device

  pub record Invariant (d : Device) (files' : Files) : Type 0 where
    pub mountable : Mountable P d
    pub found : (g : ℕ) → g < files → Found d g (files' g)
    pub fit : d.cache.mounted ≡ 1 → Fit P d
    pub mounted : d.cache.mounted ≡ 1 → (g : ℕ) → g < files → Mounted d g (files' g)

  -- ---- a file that a call leaves alone

  pub record SameStored (d c : Device) (g : ℕ) : Type 0 where
    pub size_is : size_at c.media g ≡ size_at d.media g
    pub byte_is : (i : ℕ) → i < file_bytes P → byte_at P c.media g i ≡ byte_at P d.media g i

  pub record SameFile (d c : Device) (g : ℕ) : Type 0 where
    pub stored : SameStored d c g
    pub logical_is : logical_at c g ≡ logical_at d g
    pub floor_is : floor_at c g ≡ floor_at d g
    pub current_is : (i : ℕ) → i < file_bytes P → current_at P c g i ≡ current_at P d g i
    pub cached_is : (q : ℕ) → is_cached c g q ≡ is_cached d g q

  pub same_found : {d c : Device} {g : ℕ} {m : ModelFile} → SameStored d c g → Found d g m → Found c g m
  same_found s x = record {
    file = x.file;
    state = x.state;
    size_is = x.size_is ∙ sym s.size_is;
    byte_is = λ i l hi. x.byte_is i (rw s.size_is at l) hi ∙ sym (s.byte_is i hi);
  }

  pub same_mounted : {d c : Device} {g : ℕ} {m : ModelFile} → SameFile d c g → Mounted d g m → Mounted c g m
  same_mounted s x = record {
    current_size = x.current_size ∙ sym s.logical_is;
    current_is = λ i hi. x.current_is i hi ∙ sym (s.current_is i hi);
    durable_size = x.durable_size ∙ sym s.stored.size_is;
    durable_is = λ i hi. x.durable_is i hi ∙ sym (s.stored.byte_is i hi);
    mixed = λ boundary.
        let y = x.mixed boundary in
        record {
          size_is = y.size_is ∙ sym s.floor_is;
          low = λ i l hi lt. y.low i (rw s.floor_is at l) hi lt ∙ sym (s.current_is i hi);
          high = λ i l hi ge. y.high i (rw s.floor_is at l) hi ge ∙ sym (s.stored.byte_is i hi);
        };
    carried = x.carried;
    cached = λ q. s.cached_is q ∙ x.cached q;
  }

  -- a mounted file is found as its durable bytes
  pub mounted-found : (d : Device) (g : ℕ) (m n : ModelFile) → Mounted d g m → n.durable ≡ m.durable → Found d g n
  mounted-found d g m n x e = record {
    file = m.durable;
    state = inl (sym e);
    size_is = x.durable_size;
    byte_is = λ i l hi. x.durable_is i hi;
  }

  -- ---- what is on the media

  module _ (d : Device) (g : ℕ) (lb : length d.media.bytes ≡ media_bytes P) (hg : g < files) (fits : size_at d.media g ≤ file_bytes P) where
    pub on_media-size : length (store_media P d g) ≡ size_at d.media g
    on_media-size = length_part d.media.bytes (file_start P g) (size_at d.media g) (omega (arith, file_end P g hg))

    pub on_media-byte : (i : ℕ) → i < size_at d.media g → get_or (store_media P d g) i 0 ≡ byte_at P d.media g i
    on_media-byte i h = get_d_part d.media.bytes (file_start P g) (size_at d.media g) i h

    -- a file is known by its size and its bytes
    pub on_media_is : (file : List ℕ) → length file ≡ size_at d.media g
        → ((i : ℕ) → i < size_at d.media g → get_or file i 0 ≡ byte_at P d.media g i) → file ≡ store_media P d g
    on_media_is file e h =
        ext_get_or 0 file (store_media P d g) (e ∙ sym on_media-size) (λ i l.
        let l' : i < size_at d.media g = rw e at l in h i l' ∙ sym (on_media-byte i l'))

    pub found-state : (m : ModelFile) → Found d g m → CrashState m (store_media P d g)
    found-state m x =
        subst (CrashState m) (on_media_is x.file x.size_is (λ i l. x.byte_is i l (omega arith))) x.state
