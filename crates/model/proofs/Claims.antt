-- The demands of this store. Demand 1 is proved in proofs/Refusals.
use mathlib.Core.Path.{◌≡◌, refl, sym, ◌∙◌}
use mathlib.Core.Logic.{inl, inr}
use mathlib.Core.List.{List, []}
use Prim.Native.Nat.{ℕ, suc, ◌+◌}
use native.Mathlib.Omega.{arith}
use lib.Dec.{eqb}
use lib.ListN.{length, get_or, take, drop, length-take, length-replicate}
use borrow.Author.Tests.{le-leb}
use borrow.Table.Steps.{cases}
use Rattle.answer.specs.Coded.{Coded}
use Rattle.answer.specs.Admission.{if_done}
use Rattle.memory.specs.Bytes.{zeros}
use Rattle.memory.proofs.Bytes.{get_or-zeros}
use Rattle.media.specs.Geometry.{files, pages_per_file, media_bytes}
use Rattle.media.specs.Write.{MediaWrite, media_of}
use Rattle.device.specs.Device.{Device, device_of, frames_bytes, down_state}
use Rattle.device.specs.Admission.{Result}
use Rattle.device.specs.Writing as Writing
use Rattle.device.specs.Mounting.{mount_plan}
use Rattle.device.proofs.Admission.{Mountable}
use Rattle.device.proofs.Writing.{write_kept}
use Rattle.model.specs.ModelFile.{after_write, Becomes}
use Rattle.model.specs.CacheByLog.{room_for}
use Rattle.model.specs.Run.{Call, IsDone, Reply, Interface, Files, change, World, Event, step, start, InEveryRun, AtMounts}
use Rattle.model.specs.Run.Call.{read, look, write, truncate, sync, mount}
use Rattle.model.specs.Run.Event.{call, power_lost}
use Rattle.model.specs.View.{plan}
use Rattle.model.specs.Work.{Stops}
use Rattle.model.specs.Claims.{Usable, Serves, ByLog, Served, Demand2, Demand3}
use Rattle.model.specs.Format.{format_writes}
use Rattle.model.specs.Demands.{Priced, Loses, Begins, PlainDemands}
use Rattle.model.specs.States.{CrashState, ClosedForm}
use Rattle.model.specs.Store.{store, store_does, store_media}
use Rattle.model.proofs.ModelFile.{state_becomes}
use Rattle.model.proofs.Refusals.{demand_1}
use Rattle.model.proofs.Format.{format_claim}
use Rattle.model.proofs.Run.{in_every-run, weaker_runs}
use Rattle.model.proofs.Invariant.{Invariant, same_found}
use Rattle.model.proofs.Writes.{keeps_write}
use Rattle.model.proofs.Truncates.{keeps_truncate}
use Rattle.model.proofs.Syncs.{zero-not_one, keeps_sync}
use Rattle.model.proofs.Mounts.{keeps_mount, starts, finds}
use Rattle.model.proofs.Posix.{read_serves, look_serves, write_serves, write_ends, truncate_serves, sync_serves, sync_stores, mount_serves, by_log, mount-answer}

-- each media write costs one, and nothing runs out
pub priced : (I : Interface) → ((p : I.Part) (ws : List MediaWrite) → I.cost p ws ≡ length ws) → ((p : I.Part) (ws : List MediaWrite) → I.takes p ws ≡ 0)
    → (p : I.Part) (ws : List MediaWrite) → Priced I 1 0 p ws
priced I one none p ws = record {
  rises = λ k h. omega (arith, one p (take k ws), one p (take (suc k) ws), length-take k ws, length-take (suc k) ws);
  bounded = λ k h. omega (arith, one p (take k ws), length-take k ws);
  taken = omega (arith, none p ws);
}

module _ (P : ℕ) where
  abbrev pub Holds : World (store P) → Type 0
  Holds w = Invariant P w.device w.models

  -- a call that changes neither the device nor a model file, done or refused
  same_files : (a : Coded) (w : World (store P)) → Holds w → Invariant P w.device (if_done a w.models w.models)
  same_files a w inv = cases (eqb a.number 0) (λ e. rw e inv) (λ e. rw e inv)

  pub keeps : (w : World (store P)) (e : Event (store P)) → Holds w → Holds (step (store P) w e)
  keeps w (call (read f position buffer)) inv = same_files (store_does P (read f position buffer) w.device).answer w inv
  keeps w (call (look f position)) inv = same_files (store_does P (look f position) w.device).answer w inv
  keeps w (call (write f position bytes)) inv = keeps_write P w.device w.models f position bytes inv (store_media P)
  keeps w (call (truncate f n)) inv = keeps_truncate P w.device w.models f n inv (store_media P)
  keeps w (call (sync f budget)) inv = keeps_sync P w.device w.models f budget inv (store_media P)
  keeps w (call (mount budget)) inv = keeps_mount P w.device budget w.models inv
  keeps w (power_lost frames) inv = record {
    mountable = record { bytes = inv.mountable.bytes; sizes = inv.mountable.sizes; fit = inv.mountable.fit };
    found = λ g hg. same_found P (record { size_is = refl; byte_is = λ i hi. refl }) (inv.found g hg);
    fit = λ e. absurd (zero-not_one e);
    mounted = λ e. absurd (zero-not_one e);
  }

  pub start-holds : (d : Device) (budget : ℕ) → IsDone ((store P).does (mount budget) d).answer → Holds (start (store P) ((store P).does (mount budget) d).device)
  start-holds d budget is = starts P d budget is

  -- what holds at every event where the invariant does
  pub everywhere : (Q : World (store P) → Event (store P) → Type 0) → ((w : World (store P)) (e : Event (store P)) → Holds w → Q w e) → InEveryRun (store P) Q
  everywhere Q at = in_every-run (store P) Holds start-holds keeps Q at

  known : (w : World (store P)) → Holds w → (f : ℕ) → Usable (store P) w.device f → ByLog (store P) w f
  known w inv f (up, frames, hf) = by_log P w.device w.models inv up frames f hf

  -- where a write stops, by the model files after it
  stops : (w : World (store P)) → Holds w → (f position : ℕ) (bytes : List ℕ) → Usable (store P) w.device f →
      let r : Reply Device = store_does P (write f position bytes) w.device in
      let n : ℕ = r.answer.count in
      IsDone r.answer → Stops (room_for P (change f (after_write position (take n bytes)) w.models) f) position bytes n
  stops w inv f position bytes (up, frames, hf) is =
      let d : Device = w.device in
      let r : Result Device = Writing.write P f position bytes d in
      let n : ℕ = r.answer.count in
      let after : Files = change f (after_write position (take n bytes)) w.models in
      let inv' : Invariant P r.left after = rw is at (keeps_write P d w.models f position bytes inv (store_media P)) in
      let k = write_kept P f position bytes d in
      let room : (at : ℕ) (bs : List ℕ) → Writing.has_room r.left f at bs ≡ room_for P after f at bs =
      (by_log P r.left after inv' (k.mounted ∙ up) (k.frames ∙ frames) f hf).room in
      elim (write_ends P d f position bytes is) [
        | inl e ↦ inl e
        | inr (a, b, c, full) ↦ inr (a, b, c, sym (room (position + n) (drop n bytes)) ∙ full)
      ]

  serves : (w : World (store P)) (c : Call) → Holds w → Serves (store P) c w (store_does P c w.device)
  serves w (read f position buffer) inv = λ (up, frames, hf) h. read_serves P w.device w.models inv up frames f hf position buffer h
  serves w (look f position) inv = λ (up, frames, hf) h. look_serves P w.device w.models inv up frames f hf position h
  serves w (write f position bytes) inv = λ u h.
      (write_serves P w.device w.models inv u.0 u.1 f u.2 position bytes h, stops w inv f position bytes u)
  serves w (truncate f n) inv = λ (up, frames, hf) h. truncate_serves P w.device w.models inv up frames f hf n h
  serves w (sync f budget) inv = λ (up, frames, hf).
      (sync_serves P w.device w.models inv up frames f hf budget, sync_stores P w.device w.models inv f budget)
  serves w (mount budget) inv = mount_serves P w.device w.models inv budget

  pub served : (w : World (store P)) (e : Event (store P)) → Holds w → Served (store P) w e
  served w (call c) inv = (serves w c inv, known w inv)
  served w (power_lost frames) inv = tt

  pub finds_state : (w : World (store P)) (e : Event (store P)) → Holds w → AtMounts (store P) CrashState w e
  finds_state w (call (read f position buffer)) inv = tt
  finds_state w (call (look f position)) inv = tt
  finds_state w (call (write f position bytes)) inv = tt
  finds_state w (call (truncate f n)) inv = tt
  finds_state w (call (sync f budget)) inv = tt
  finds_state w (call (mount budget)) inv = finds P w.device budget w.models inv
  finds_state w (power_lost frames) inv = tt

  -- ---- the claims, over the number of pages in a file

  pub demand_2 : Demand2 (store P)
  demand_2 = everywhere (Served (store P)) served

  pub closed_form : ClosedForm (store P)
  closed_form = everywhere (AtMounts (store P) CrashState) finds_state

  pub demand_3 : Demand3 (store P)
  demand_3 = weaker_runs (store P) CrashState (λ m found. Becomes m.durable m.log found) state_becomes closed_form

  -- a device of empty files, down
  abbrev pub empty : Device
  empty = device_of (media_of (zeros (media_bytes P)) (zeros files)) (zeros frames_bytes) down_state

  empty-mountable : Mountable P empty
  empty-mountable = record {
    bytes = length-replicate {A = ℕ} (media_bytes P) 0;
    sizes = refl;
    fit = λ g hg. let z : get_or (zeros files) g 0 ≡ 0 = get_or-zeros files g in omega arith;
  }

  pub empty-files : (f : ℕ) → store_media P empty f ≡ []
  empty-files f = rw (get_or-zeros files f)

  abbrev pub enough : ℕ
  enough = length (mount_plan P empty.media)

  pub empty-mounts : IsDone (store_does P (mount enough) empty).answer
  empty-mounts = rw (mount-answer P empty empty-mountable enough, le-leb enough enough (omega arith))

  pub begins : Begins (store P) P 0
  begins = record {
    initial = empty;
    pages = refl;
    remaining = omega arith;
    frames = refl;
    empty = λ f hf. empty-files f;
    budget = enough;
    mounts = empty-mounts;
  }

  pub loses : (d : Device) → Loses (store P) d
  loses d = record {
    part = λ x. refl;
    down = λ x. refl;
    pages = λ x. refl;
    shaped = λ x _. refl;
    frames = λ frames. (frames, refl);
  }

  pub demands : PlainDemands P (store P)
  demands = record {
    demands = record {
      begins = begins;
      any_part = λ m. (device_of m [] down_state, refl);
      any_cache = λ d bytes c _ _. (device_of d.media bytes c, refl, refl, refl, refl);
      loses = loses;
      priced = λ c d _. priced (store P) (λ m ws. refl) (λ m ws. refl) d.media (plan (store P) c d);
      format_priced = λ d _. priced (store P) (λ m ws. refl) (λ m ws. refl) d.media (format_writes (store P) d);
      demand1 = demand_1 P;
      format = format_claim P;
      demand2 = demand_2;
      demand3 = demand_3;
    };
    pages = λ d. refl;
    media = λ d. refl;
    alone = λ p q e. e;
    intact = λ d. refl;
    any = λ d h. (d, refl, refl);
  }

-- at document 01's sixteen pages
pub this_store : PlainDemands pages_per_file (store pages_per_file)
this_store = demands pages_per_file
