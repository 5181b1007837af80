-- A write keeps the invariant.
use mathlib.Core.Path.{◌≡◌, refl, sym, ◌∙◌}
use mathlib.Core.Logic.{◌≢◌}
use mathlib.Core.Bool.{Bool, true, false, ◌||◌}
use mathlib.Core.List.{List}
use Prim.Native.Nat.{ℕ, suc, ◌*◌, ◌+◌, ◌-◌, ◌≤◌, ◌<◌, min, max}
use native.Mathlib.Omega.{arith}
use lib.ListN.{length, get_or, take, length-take}
use lib.Seq.{get_or-take, length-take-le}
use borrow.Author.Tests.{le-ltb, leb-true, eq-eqb, ne_eqb}
use Rattle.memory.proofs.Cases.{split_lt, split_eq}
use Rattle.media.specs.Geometry.{files, page_bytes}
use Rattle.device.specs.Device.{Device, is_cached, logical_at, floor_at}
use Rattle.device.specs.Admission.{Result}
use Rattle.device.specs.Writing as Writing
use Rattle.device.proofs.Admission.{Mountable}
use Rattle.device.proofs.Writing.{write_by, Leaves, write-leaves}
use Rattle.model.specs.ModelFile.{ModelFile, after_write}
use Rattle.model.specs.ModelFile.Entry.{written}
use Rattle.model.specs.Run.{Files, change, feed}
use Rattle.model.specs.Run.Call.{write}
use Rattle.model.specs.States.{redo, replay}
use Rattle.model.proofs.ModelFile.{length-lay, lay_in, lay-before, lay-after, write-none, write_some, logged_none, logged_some, replay_one_more, carried_one_more, cached_one_more}
use Rattle.model.proofs.Invariant.{changed, Found, Mixed, Mounted, Invariant, SameStored, SameFile, same_found, same_mounted, mounted-found}

or_false : (a : Bool) → a || false ≡ a
or_false true = refl
or_false false = refl

module _ (P : ℕ) (d c : Device) (f position n : ℕ) (bytes : List ℕ) (hf : f < files) (hn : n ≤ length bytes) (w : Leaves P f position n bytes d c) where
  same_stored : (g : ℕ) → SameStored P d c g
  same_stored g = record { size_is = rw w.media; byte_is = λ i hi. rw w.media }

  other_file : (g : ℕ) → g ≢ f → SameFile P d c g
  other_file g ne = record {
    stored = same_stored g;
    logical_is = w.logical_other g ne;
    floor_is = w.floor g;
    current_is = λ i hi. w.others g i ne;
    cached_is = λ q. w.cached_other g q ne;
  }

  -- nothing was put down
  none-file : n ≡ 0 → (g : ℕ) → SameFile P d c g
  none-file e g =
      split_eq g f
      (λ q. rw q
      (record {
        stored = same_stored f;
        logical_is = rw (eq-eqb n 0 e) at w.logical;
        floor_is = w.floor f;
        current_is = λ i hi. split_lt i position (λ l. w.below i l) (λ l. w.above i (omega arith));
        cached_is = λ q.
            w.cached q
            ∙ rw (le-ltb (max position (page_bytes * q)) (min (position + n) (page_bytes * suc q)) (omega arith)) (or_false (is_cached d f q));
      }))
      (λ ne. other_file g ne)

  put : List ℕ
  put = take n bytes

  put_size : length put ≡ n
  unfolding put
  put_size = length-take-le n bytes hn

  put_at : (i : ℕ) → i < n → get_or put i 0 ≡ get_or bytes i 0
  unfolding put
  put_at i h = get_or-take n bytes i 0 h

  -- the log replayed up to a boundary, with this write
  own_mixed : (file : List ℕ) (boundary : ℕ) → Mixed P d f boundary file → Mixed P c f boundary (redo boundary file (written position put))
  own_mixed file boundary x =
      let k : ℕ = min boundary (length file) - position in
      let bs : List ℕ = take k put in
      let lb : length bs ≡ min k (length put) = length-take k put in
      let lf : length file ≡ floor_at d f = x.size_is in
      let lc : floor_at c f ≡ floor_at d f = w.floor f in
      let lp : length put ≡ n = put_size in
      split_eq (length bs) 0
      (λ z. rw (write-none file position bs z)
      (record {
        size_is = lf ∙ sym lc;
        low = λ i l hi b.
            x.low i (omega arith) hi b
            ∙ sym (split_lt i position (λ u. w.below i u) (λ u. w.above i (omega arith)));
        high = λ i l hi b. x.high i (omega arith) hi b ∙ sym ((same_stored f).byte_is i hi);
      }))
      (λ nz. rw (write_some file position bs (omega arith))
      (record {
        size_is = omega (arith, length-lay file position bs);
        low = λ i l hi b.
            split_lt i position
            (λ u. lay-before file position bs i u ∙ x.low i (omega arith) hi b ∙ sym (w.below i u))
            (λ u.
            split_lt i (position + length bs)
            (λ v.
            lay_in file position bs i u v
            ∙ get_or-take k put (i - position) 0 (omega arith)
            ∙ put_at (i - position) (omega arith)
            ∙ sym (w.inside i u (omega arith)))
            (λ v. lay-after file position bs i v ∙ x.low i (omega arith) hi b ∙ sym (w.above i (omega arith))));
        high = λ i l hi b. lay-after file position bs i (omega arith) ∙ x.high i (omega arith) hi b ∙ sym ((same_stored f).byte_is i hi);
      }))

  own_file : (m : ModelFile) → 0 < n → Mounted P d f m → Mounted P c f (after_write position put m)
  own_file m hz x =
      let lp : length put ≡ n = put_size in
      let lc : logical_at c f ≡ max (logical_at d f) (position + n) = rw (ne_eqb n 0 (λ e. (omega arith))) at w.logical in
      rw (logged_some position put m (omega arith))
      (record {
        current_size = omega (arith, length-lay m.current position put, x.current_size);
        current_is = λ i hi.
            split_lt i position
            (λ l. lay-before m.current position put i l ∙ x.current_is i hi ∙ sym (w.below i l))
            (λ l.
            split_lt i (position + n)
            (λ h.
            lay_in m.current position put i l (omega arith)
            ∙ put_at (i - position) (omega arith)
            ∙ sym (w.inside i l h))
            (λ h. lay-after m.current position put i (omega arith) ∙ x.current_is i hi ∙ sym (w.above i h)));
        durable_size = x.durable_size ∙ sym (same_stored f).size_is;
        durable_is = λ i hi. x.durable_is i hi ∙ sym ((same_stored f).byte_is i hi);
        mixed = λ boundary.
            rw (replay_one_more boundary m.durable m.log (written position put))
            (own_mixed (replay boundary m.durable m.log) boundary (x.mixed boundary));
        carried = rw (carried_one_more m.durable m.log (written position put), x.carried, write_some m.current position put (omega arith));
        cached = λ q. w.cached q ∙ rw (cached_one_more m.durable m.log (written position put) q false, x.cached q, lp);
      })

  -- all files
  written_keeps : (fs : Files) → d.cache.mounted ≡ 1 → Invariant P d fs → Invariant P c (change f (after_write position put) fs)
  written_keeps fs up inv =
      let mountable : Mountable P c = rw w.media
      (record { bytes = inv.mountable.bytes; sizes = inv.mountable.sizes; fit = inv.mountable.fit }) in
      let own : Mounted P c f (after_write position put (fs f)) =
      split_eq n 0
      (λ e. rw (logged_none position put (fs f) (put_size ∙ e)) (same_mounted P (none-file e f) (inv.mounted up f hf)))
      (λ ne. own_file (fs f) (omega arith) (inv.mounted up f hf)) in
      record {
        mountable = mountable;
        found =
            changed (Found P c) f (after_write position put) fs (mounted-found P c f (after_write position put (fs f)) _ own refl)
            (λ g ne hg. same_found P (same_stored g) (inv.found g hg));
        fit = λ _. w.fit;
        mounted = λ _. changed (Mounted P c) f (after_write position put) fs own (λ g ne hg. same_mounted P (other_file g ne) (inv.mounted up g hg));
      }

pub keeps_write : (P : ℕ) (d : Device) (fs : Files) (f position : ℕ) (bytes : List ℕ) → Invariant P d fs → (found : Device → ℕ → List ℕ) →
    let r : Result Device = Writing.write P f position bytes d in
    Invariant P r.left (feed (write f position bytes) r.answer (found r.left) fs)
unfolding put
keeps_write P d fs f position bytes inv found =
    write_by P f position bytes d (λ r. Invariant P r.left (feed (write f position bytes) r.answer (found r.left) fs))
    (λ k lo hi. rw (ne_eqb k 0 (λ e. (omega arith))) inv)
    (λ ad room.
    let w = write-leaves P d (inv.fit ad.mounted) ad.frames f position bytes ad.file (leb-true _ _ ad.in_range) in
    written_keeps P d _ f position _ bytes ad.file w.0 w.1 fs ad.mounted inv)
