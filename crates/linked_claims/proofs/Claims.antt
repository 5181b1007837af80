-- The demands of the calls on bytes: on as many bytes as a state has, a call is the call on the device that they say.
use mathlib.Core.Path.{◌≡◌, refl, sym, ap, ◌∙◌, subst}
use mathlib.Core.Logic.{◌⊎◌, inl, inr}
use mathlib.Core.Bool.{true, false}
use mathlib.Core.List.{List, [], ◌++◌}
use Prim.Native.Nat.{ℕ, ◌≤◌, ◌<◌}
use native.Mathlib.Omega.{arith}
use lib.Dec.{eqb}
use lib.ListN.{length}
use borrow.Table.Steps.{cases}
use Rattle.answer.specs.Coded.{Coded, done, SHAPE}
use Rattle.answer.specs.Admission.{first_refusal}
use Rattle.memory.proofs.Cases.{split_eq}
use Rattle.scan.proofs.Scan.{and_left}
use Rattle.media.specs.Geometry.{files, file_bytes, pages_per_file}
use Rattle.media.specs.Write.{Media, MediaWrite, apply_all}
use Rattle.device.specs.declared.CacheState.{CacheState}
use Rattle.device.specs.declared.Span.{Span}
use Rattle.device.specs.Device.{Device, device_of, down_state}
use Rattle.device.specs.Sound.{is_sound}
use Rattle.device.specs.Admission.{Result}
use Rattle.device.specs.Looking.{span_bytes}
use Rattle.device.specs.Writing as Writing
use Rattle.device.specs.Truncating as Truncating
use Rattle.device.specs.Syncing as Syncing
use Rattle.device.specs.Mounting as Mounting
use Rattle.device.specs.Looking as Looking
use Rattle.device.proofs.Sound.{down-sound}
use Rattle.state_bytes.specs.Encoding.{state_bytes, encode}
use Rattle.state_bytes.specs.Inverse.{Shaped, are_bytes}
use Rattle.state_bytes.specs.InPlace.{Borrowed, borrowed, borrowed_of, device_in, state_shape, on_bytes, read_bytes, look_count_bytes, look_span_bytes}
use Rattle.state_bytes.proofs.Inverse.{inverse}
use Rattle.state_bytes.proofs.InPlace.{shaped}
use Rattle.state_bytes.proofs.OnBytes.{length_on, read_on, count_on, span_on, down-shaped, write-shaped, truncate-shaped, sync-shaped, mount-shaped, format-shaped}
use Rattle.model.specs.ModelFile.{Becomes}
use Rattle.model.specs.Run.{Call, IsDone, Reply, Interface, imaged, file_on, feed, World, Event, step, start, InEveryRun, AtMounts}
use Rattle.model.specs.Run.Call.{read, look, write, truncate, sync, mount}
use Rattle.model.specs.Run.Event.{call, power_lost}
use Rattle.model.specs.View.{conditions, plan, limits}
use Rattle.model.specs.Work.{Works}
use Rattle.model.specs.Claims.{as_it_came, Made, Cut, Persists, Answers, Demand1, Serves, Served, Demand2, Demand3}
use Rattle.model.specs.Format.{format_writes, Formats, Format}
use Rattle.model.specs.Demands.{Loses, Begins, PlainDemands}
use Rattle.model.specs.States.{CrashState, ClosedForm}
use Rattle.model.specs.Store.{store, store_does, without_output}
use Rattle.model.proofs.ModelFile.{state_becomes}
use Rattle.model.proofs.Run.{in_every-run, weaker_runs}
use Rattle.model.proofs.Refusals.{demand_1}
use Rattle.model.proofs.Format.{format_claim}
use Rattle.model.proofs.Claims as Model
use Rattle.linked_claims.specs.LinkedStore.{is_state, on_slices, linked_does, linked_store, LinkedDemands}
use Rattle.linked_claims.proofs.Bytes.{held-shaped, held_bytes, sound-bytes, state_bytes_lem}

-- a reply with the state as bytes
abbrev as_bytes : Reply Device → Reply Borrowed
as_bytes r = record { answer = r.answer; output = r.output; device = borrowed_of r.device }

-- bytes say the state that they are made of, and are made of the state that they say
back : (d : Device) → Shaped d.cache → device_in (borrowed_of d) ≡ d
back d h = ap (λ (s : CacheState). device_of d.media d.frames s) (inverse.there_and_back d.cache h)

there : (l : Borrowed) → is_state l.state ≡ true → borrowed_of (device_in l) ≡ l
there l e = let b = state_bytes_lem l.state e in ap (λ (s : List ℕ). borrowed l.media l.frames s) (inverse.back_and_there l.state b.0 b.1)

module _ (P : ℕ) where
  abbrev Linked : Interface
  Linked = linked_store P

  -- the part is the media, as on the device
  linked_made : (p : Media) (ws : List MediaWrite) (spent : ℕ) (q : Media) → Made (store P) p ws spent q → Made Linked p ws spent q
  linked_made p ws spent q x = record { paid = x.paid; used = x.used }

  -- the lengths of the arrays stay
  stays_shaped : (c : Call) (d : Device) → Shaped d.cache → Shaped (store_does P c d).device.cache
  stays_shaped (read f position buffer) d h = h
  stays_shaped (look f position) d h = h
  stays_shaped (write f position bytes) d h = write-shaped P d f position bytes h
  stays_shaped (truncate f n) d h = truncate-shaped P d f n h
  stays_shaped (sync f budget) d h = sync-shaped P d f budget h
  stays_shaped (mount budget) d h = mount-shaped P d budget h

  -- ---- on other bytes

  other : (c : Call) (l : Borrowed) → is_state l.state ≡ false → linked_does P c l ≡ record { answer = SHAPE; output = as_it_came c; device = l }
  unfolding is_state state_shape on_bytes read_bytes look_count_bytes look_span_bytes span_bytes
  other c l e =
      cases (are_bytes l.state)
      (λ b. rw b (refused c (rw b at e)))
      (λ b. rw b)
    where
      refused : (c : Call) → eqb (length l.state) state_bytes ≡ false → on_slices P c l ≡ record { answer = SHAPE; output = as_it_came c; device = l }
      refused (read f position buffer) n = rw n
      refused (look f position) n = rw n
      refused (write f position bytes) n = rw n
      refused (truncate f n) q = rw q
      refused (sync f budget) n = rw n
      refused (mount budget) n = rw n

  -- ---- on the bytes of a state

  module _ (l : Borrowed) (e : is_state l.state ≡ true) where
    abbrev d : Device
    d = device_in l

    long : length l.state ≡ state_bytes
    long = (state_bytes_lem l.state e).0

    are_bytes_lem : are_bytes l.state ≡ true
    unfolding is_state
    are_bytes_lem = and_left (are_bytes l.state) _ e

    -- a call that changes the device
    changes_same : (h : Device → Result Device) → without_output (on_bytes h l) ≡ as_bytes (without_output (h (device_in l)))
    changes_same h = ap without_output (sym (length_on h l long))

    slices : (c : Call) → on_slices P c l ≡ as_bytes (store_does P c (device_in l))
    unfolding Looking.look
    slices (read f position buffer) = rw (← read_on P f position l long buffer, there l e)
    slices (look f position) =
        ap (λ (a : Coded). record { answer = a; output = span_bytes (device_in l) (look_span_bytes P f position l); device = l }) (sym (count_on P f position l long))
        ∙ ap (λ (x : Span). record { answer = Looking.look_count P f position (device_in l); output = span_bytes (device_in l) x; device = l })
        (sym (span_on P f position l long))
        ∙ ap (λ (y : Borrowed). record { answer = Looking.look_count P f position (device_in l); output = Looking.look P f position (device_in l); device = y })
        (sym (there l e))
    slices (write f position bytes) = changes_same (Writing.write P f position bytes)
    slices (truncate f n) = changes_same (Truncating.truncate P f n)
    slices (sync f budget) = changes_same (Syncing.sync P f budget)
    slices (mount budget) = changes_same (Mounting.mount P budget)

    same : (c : Call) → linked_does P c l ≡ as_bytes (store_does P c (device_in l))
    same c = rw are_bytes_lem (slices c)

    -- so the reply is that of the device
    images : (c : Call) → imaged Linked (linked_does P c l) ≡ store_does P c (device_in l)
    images c =
        ap (imaged Linked) (same c)
        ∙ ap (λ (x : Device). record { answer = (store_does P c (device_in l)).answer; output = (store_does P c (device_in l)).output; device = x })
        (back (store_does P c (device_in l)).device (stays_shaped c (device_in l) (shaped l.state)))

    conditions_same : (c : Call) → conditions (store P) c (device_in l) ≡ conditions Linked c l
    conditions_same (read f position buffer) = rw e
    conditions_same (look f position) = rw e
    conditions_same (write f position bytes) = rw e
    conditions_same (truncate f n) = rw e
    conditions_same (sync f budget) = rw e
    conditions_same (mount budget) = rw e

    limits_same : (c : Call) → limits (store P) c (device_in l) ≡ limits Linked c l
    limits_same (read f position buffer) = refl
    limits_same (look f position) = refl
    limits_same (write f position bytes) = refl
    limits_same (truncate f n) = refl
    limits_same (sync f budget) = refl
    limits_same (mount budget) = refl

    plan_same : (c : Call) → plan (store P) c (device_in l) ≡ plan Linked c l
    plan_same (read f position buffer) = refl
    plan_same (look f position) = refl
    plan_same (write f position bytes) = refl
    plan_same (truncate f n) = refl
    plan_same (sync f budget) = refl
    plan_same (mount budget) = refl

    -- the device that a reply's bytes say
    abbrev after : Call → Device
    after c = (store_does P c (device_in l)).device

    said : (c : Call) → device_in (borrowed_of (after c)) ≡ after c
    said c = back (after c) (stays_shaped c (device_in l) (shaped l.state))

    said_reply : (c : Call) → imaged Linked (as_bytes (store_does P c (device_in l))) ≡ store_does P c (device_in l)
    said_reply c = ap (λ (x : Device). record { answer = (store_does P c (device_in l)).answer; output = (store_does P c (device_in l)).output; device = x }) (said c)

    -- ---- demand 1

    module _ (hp : P ≤ 256) (hb : file_bytes P < 4294967296) where
      -- a sound state has bytes, and so has the down state
      sound-persists : (x : Device) → is_sound P x.media.sizes x.cache ≡ true → Persists Linked (borrowed_of x)
      sound-persists x h = record { image = refl; shaped = sound-bytes P hp hb x.media.sizes x.cache h; intact = refl }

      down-persists : (x : Device) → x.cache ≡ down_state → Persists Linked (borrowed_of x)
      down-persists x h = sound-persists x (rw h (down-sound P x.media.sizes))

      persists : (c : Call) → (store_does P c (device_in l)).answer.number ≡ 0 ⊎ (store_does P c (device_in l)).answer.number ≡ 9 → Persists Linked (borrowed_of (after c))
      persists c (inl z) = sound-persists (after c) ((demand_1 P c (device_in l)).is_done z).sound
      persists c (inr z) = down-persists (after c) (ap (λ (x : Device). x.cache) ((demand_1 P c (device_in l)).is_cut z).leaves)

      answers : (c : Call) → Answers Linked c l (linked_does P c l)
      answers c =
          let a = demand_1 P c (device_in l) in
          subst (λ (r : Reply Borrowed). Answers Linked c l r) (sym (same c))
          (record {
            count = a.count;
            in_order = rw (← conditions_same c, ← limits_same c) a.in_order;
            output_kept = a.output_kept;
            unchanged = λ z n. ap borrowed_of (a.unchanged z n) ∙ there l e;
            idle = λ i. ap borrowed_of (a.idle i) ∙ there l e;
            is_cut = λ z.
                let x = a.is_cut z in
                subst (λ (ws : List MediaWrite). Cut Linked ws l (as_bytes (store_does P c (device_in l)))) (plan_same c)
                (record { writes = x.writes; pays = x.pays; leaves = said c ∙ x.leaves; made = linked_made _ _ _ _ x.made });
            is_done = λ z.
                let x = a.is_done z in
                record {
                  stored = x.stored ∙ ap (λ (ws : List MediaWrite). apply_all P l.media ws) (plan_same c);
                  mounted = ap (λ (y : Device). y.cache.mounted) (said c) ∙ x.mounted;
                  sound = subst (λ (y : Device). is_sound P y.media.sizes y.cache ≡ true) (sym (said c)) x.sound;
                  frames = x.frames;
                  work =
                      subst (λ (ws : List MediaWrite). Works P c (device_in l) l.media (length ws) (imaged Linked (as_bytes (store_does P c (device_in l))))) (plan_same c)
                      (subst (λ (r : Reply Device). Works P c (device_in l) l.media (length (plan (store P) c (device_in l))) r) (sym (said_reply c)) x.work);
                  made = subst (λ (ws : List MediaWrite). Made Linked l.media ws (length ws) (after c).media) (plan_same c) (linked_made _ _ _ _ x.made);
                };
            pages = refl;
            persists = persists c;
            untouched = λ none. a.untouched (plan_same c ∙ none);
          })

  module _ (hp : P ≤ 256) (hb : file_bytes P < 4294967296) where
    -- ---- any bytes

    refused-answers : (c : Call) (l : Borrowed) → is_state l.state ≡ false → Answers Linked c l (linked_does P c l)
    refused-answers c l e =
        subst (λ (r : Reply Borrowed). Answers Linked c l r) (sym (other c l e))
        (record {
          count = 0;
          in_order = shape-first c;
          output_kept = λ _. refl;
          unchanged = λ _ _. refl;
          idle = λ _. refl;
          is_cut = λ z. absurd (omega arith);
          is_done = λ z. absurd (omega arith);
          pages = refl;
          persists = λ z. elim z [
            | inl y ↦ absurd (omega arith)
            | inr y ↦ absurd (omega arith)
          ];
          untouched = λ _. refl;
        })
      where
        shape-first : (c : Call) → SHAPE ≡ first_refusal (conditions Linked c l ++ limits Linked c l) (done 0)
        shape-first (read f position buffer) = rw e
        shape-first (look f position) = rw e
        shape-first (write f position bytes) = rw e
        shape-first (truncate f n) = rw e
        shape-first (sync f budget) = rw e
        shape-first (mount budget) = rw e

    pub linked_1 : Demand1 Linked
    linked_1 c l = cases (is_state l.state) (λ e. answers l e hp hb c) (λ e. refused-answers c l e)

    -- a done call borrowed as many bytes as a state has
    done-state : (c : Call) (l : Borrowed) → IsDone (linked_does P c l).answer → is_state l.state ≡ true
    done-state c l is =
        cases (is_state l.state) (λ e. e) (λ e.
        let z : 2 ≡ 0 = sym (ap (λ (r : Reply Borrowed). r.answer.number) (other c l e)) ∙ is in absurd (omega arith))

    -- ---- runs

    abbrev world : World Linked → World (store P)
    world w = record { device = device_in w.device; models = w.models }

    abbrev event : Event Linked → Event (store P)
    event (call c) = call c
    event (power_lost x) = power_lost x

    abbrev Holds : World Linked → Type 0
    Holds w = Model.Holds P (world w) × (is_state w.device.state ≡ true)

    down_state_lem : is_state (encode down_state) ≡ true
    down_state_lem = sound-bytes P hp hb [] down_state (down-sound P [])

    -- bytes of a state are left
    state-after : (c : Call) (l : Borrowed) → is_state l.state ≡ true → is_state (linked_does P c l).device.state ≡ true
    state-after c l e =
        let a = linked_1 c l in
        split_eq (linked_does P c l).answer.number 0
        (λ z. (a.persists (inl z)).shaped)
        (λ z.
        split_eq (linked_does P c l).answer.number 9
        (λ n. (a.persists (inr n)).shaped)
        (λ n. rw (a.unchanged z n) e))

    step_same : (w : World Linked) (e : Event Linked) → is_state w.device.state ≡ true → world (step Linked w e) ≡ step (store P) (world w) (event e)
    step_same w (call c) h =
        let after : Reply Borrowed → World (store P) = λ r. record { device = device_in r.device; models = feed c r.answer (file_on P r.device.media) w.models } in
        let r : Reply Device = store_does P c (device_in w.device) in
        ap after (same w.device h c)
        ∙ ap (λ (x : Device). record { device = x; models = feed c r.answer (file_on P r.device.media) w.models }) (said w.device h c)
    step_same w (power_lost x) h = ap (λ (d : Device). record { device = d; models = w.models }) (back (device_of w.device.media x down_state) down-shaped)

    keeps : (w : World Linked) (e : Event Linked) → Holds w → Holds (step Linked w e)
    keeps w (call c) inv =
        (subst (Model.Holds P) (sym (step_same w (call c) inv.1)) (Model.keeps P (world w) (call c) inv.0), state-after c w.device inv.1)
    keeps w (power_lost x) inv =
        (subst (Model.Holds P) (sym (step_same w (power_lost x) inv.1)) (Model.keeps P (world w) (power_lost x) inv.0), down_state_lem)

    start-holds : (l : Borrowed) (budget : ℕ) → IsDone (Linked.does (mount budget) l).answer → Holds (start Linked (Linked.does (mount budget) l).device)
    start-holds l budget is =
        let e : is_state l.state ≡ true = done-state (mount budget) l is in
        let i = images l e (mount budget) in
        let d : device_in (linked_does P (mount budget) l).device ≡ (store_does P (mount budget) (device_in l)).device = ap (λ (r : Reply Device). r.device) i in
        let a : (linked_does P (mount budget) l).answer ≡ (store_does P (mount budget) (device_in l)).answer = ap (λ (r : Reply Device). r.answer) i in
        (subst (λ (x : Device). Model.Holds P (start (store P) x)) (sym d) (Model.start-holds P (device_in l) budget (rw a at is)), state-after (mount budget) l e)

    everywhere : (Q : World Linked → Event Linked → Type 0) → ((w : World Linked) (e : Event Linked) → Holds w → Q w e) → InEveryRun Linked Q
    everywhere Q at = in_every-run Linked Holds start-holds keeps Q at

    -- ---- demand 2: what the model files say of the reply on the device they say of the reply on bytes

    served_same : (c : Call) (w : World Linked) (r : Reply Device) → Serves (store P) c (world w) r → Serves Linked c w r
    served_same (read f position buffer) w r h = h
    served_same (look f position) w r h = h
    served_same (write f position bytes) w r h = h
    served_same (truncate f n) w r h = h
    served_same (sync f budget) w r h = h
    served_same (mount budget) w r h = h

    served : (w : World Linked) (e : Event Linked) → Holds w → Served Linked w e
    served w (call c) inv =
        let x = Model.served P (world w) (call c) inv.0 in (
          served_same c w (imaged Linked (linked_does P c w.device))
              (subst (λ (r : Reply Device). Serves (store P) c (world w) r) (sym (images w.device inv.1 c)) x.0),
          λ f u. let y = x.1 f u in record { cached = y.cached; logical = y.logical; floor = y.floor; writes = y.writes; room = y.room },
        )
    served w (power_lost x) inv = tt

    pub linked_2 : Demand2 Linked
    linked_2 = everywhere (Served Linked) served

    -- ---- demand 3

    finds_state : (w : World Linked) (e : Event Linked) → Holds w → AtMounts Linked CrashState w e
    finds_state w (call (read f position buffer)) inv = tt
    finds_state w (call (look f position)) inv = tt
    finds_state w (call (write f position bytes)) inv = tt
    finds_state w (call (truncate f n)) inv = tt
    finds_state w (call (sync f budget)) inv = tt
    finds_state w (call (mount budget)) inv =
        subst (λ (r : Reply Device). IsDone r.answer → (f : ℕ) → f < files → CrashState (w.models f) (file_on P r.device.media f))
        (sym (images w.device inv.1 (mount budget))) (Model.finds_state P (world w) (call (mount budget)) inv.0)
    finds_state w (power_lost x) inv = tt

    pub linked_closed_form : ClosedForm Linked
    linked_closed_form = everywhere (AtMounts Linked CrashState) finds_state

    pub linked_3 : Demand3 Linked
    linked_3 = weaker_runs Linked CrashState (λ m found. Becomes m.durable m.log found) state_becomes linked_closed_form

    -- ---- that there are runs

    abbrev blank : Borrowed
    blank = borrowed_of (Model.empty P)

    begins : Begins Linked P 0
    begins = record {
      initial = blank;
      pages = refl;
      remaining = omega arith;
      frames = refl;
      empty = λ f hf. Model.empty-files P f;
      budget = Model.enough P;
      mounts =
          subst (λ (r : Reply Device). IsDone r.answer) (sym (images blank down_state_lem (mount (Model.enough P))))
          (subst (λ (d : Device). IsDone (store_does P (mount (Model.enough P)) d).answer) (sym (back (Model.empty P) down-shaped)) (Model.empty-mounts P));
    }

    loses : (l : Borrowed) → Loses Linked l
    loses l = record {
      part = λ x. refl;
      down = λ x. inverse.there_and_back down_state down-shaped;
      pages = λ x. refl;
      shaped = λ x _. down_state_lem;
      frames = λ frames. (frames, refl);
    }

    -- ---- format

    formats-state : (budget : ℕ) (l : Borrowed) → is_state l.state ≡ true → Formats Linked budget l (Linked.formats budget l)
    formats-state budget l e =
        let d : Device = device_in l in
        let x = format_claim P budget d in
        let r : Reply Device = (store P).formats budget d in
        let b : device_in (borrowed_of r.device) ≡ r.device = back r.device (format-shaped P d budget (shaped l.state)) in
        let down : IsDone r.answer ⊎ r.answer.number ≡ 9 → r.device.cache ≡ down_state = λ z. elim z [
          | inl y ↦ ap (λ (y : Device). y.cache) (x.leaves y)
          | inr y ↦ ap (λ (y : Device). y.cache) (x.is_cut y).leaves
        ] in
        subst (λ (q : Reply Borrowed). Formats Linked budget l q) (sym (rw (are_bytes_lem l e) (changes_same l e (Mounting.format P budget))))
        (record {
          in_order = rw e x.in_order;
          no_output = refl;
          unchanged = λ z n. ap borrowed_of (x.unchanged z n) ∙ there l e;
          is_cut = λ z. let y = x.is_cut z in record { writes = y.writes; pays = y.pays; leaves = b ∙ y.leaves; made = linked_made _ _ _ _ y.made };
          leaves = λ z. b ∙ x.leaves z;
          empty = x.empty;
          pages = refl;
          made = λ z. linked_made _ _ _ _ (x.made z);
          persists = λ z. down-persists l e hp hb r.device (down z);
          untouched = x.untouched;
        })

    formats_other : (budget : ℕ) (l : Borrowed) → is_state l.state ≡ false → Linked.formats budget l ≡ record { answer = SHAPE; output = []; device = l }
    unfolding is_state state_shape on_bytes
    formats_other budget l e = cases (are_bytes l.state) (λ b. rw (b, rw b at e)) (λ b. rw b)

    linked_format : Format Linked
    linked_format budget l =
        cases (is_state l.state) (λ e. formats-state budget l e) (λ e.
        subst (λ (q : Reply Borrowed). Formats Linked budget l q) (sym (formats_other budget l e))
        (record {
          in_order = rw e;
          no_output = refl;
          unchanged = λ _ _. refl;
          is_cut = λ z. absurd (omega arith);
          leaves = λ z. absurd (omega arith);
          empty = λ z. absurd (omega arith);
          pages = refl;
          made = λ z. absurd (omega arith);
          persists = λ z. elim z [
            | inl y ↦ absurd (omega arith)
            | inr y ↦ absurd (omega arith)
          ];
          untouched = λ _. refl;
        }))

    -- ---- all together

    pub linked_demands : PlainDemands P Linked
    linked_demands = record {
      demands = record {
        begins = begins;
        any_part = λ m. (borrowed m [] [], refl);
        any_cache = λ l bytes c h _.
            let x : Device = device_of l.media bytes c in (borrowed_of x, back x (held-shaped c h), refl, refl, held_bytes c h);
        loses = loses;
        priced = λ c l _. Model.priced Linked (λ m ws. refl) (λ m ws. refl) l.media (plan Linked c l);
        format_priced = λ l _. Model.priced Linked (λ m ws. refl) (λ m ws. refl) l.media (format_writes Linked l);
        demand1 = linked_1;
        format = linked_format;
        demand2 = linked_2;
        demand3 = linked_3;
      };
      pages = λ l. refl;
      media = λ l. refl;
      alone = λ p q e. e;
      intact = λ l. refl;
      any = λ d h. (borrowed_of d, back d (held-shaped d.cache h), held_bytes d.cache h);
    }

pub this_linked_store : LinkedDemands
this_linked_store = linked_demands pages_per_file (omega arith) (omega arith)
