-- Sound cache states as facts, and what keeps them.
use mathlib.Core.Path.{◌≡◌, refl, sym, ap, ◌∙◌}
use mathlib.Core.Bool.{Bool, true, false, ◌&&◌, false≢true}
use mathlib.Core.List.{List, [], ◌∷◌, map}
use Prim.Native.Nat.{ℕ, zero, suc, ◌<◌, ◌≤◌}
use native.Mathlib.Omega.{arith}
use lib.Dec.{eqb, leb}
use lib.ListN.{length, get_or, set, length-set, length-map, replicate, get_or-map}
use lib.Seq.{ext_get_or, get_or-set_same, get_or-set_other, set-get_or}
use borrow.Author.Tests.{eqb-true, leb-true, eq-eqb, lt-ltb}
use borrow.Table.Steps.{cases}
use Rattle.memory.proofs.Cases.{split_eq}
use Rattle.memory.specs.Bytes.{zeros}
use Rattle.memory.proofs.Bytes.{get_or-zeros}
use Rattle.media.specs.Geometry.{files, file_bytes, media_bytes}
use Rattle.device.specs.declared.Slot.{Slot}
use Rattle.device.specs.declared.CacheState.{CacheState}
use Rattle.scan.specs.Scan.{all_of, every, every_below, first_index}
use Rattle.device.specs.Device.{Device, down_state, slot_count, free_slot, no_slots, is_free, is_used, used_slot, holds, free_where}
use Rattle.device.specs.Sizes.{in_order}
use Rattle.device.specs.Sound.{in_range, holds_alone, is_down, sizes_beside, sizes_of, has_lengths, sound_tests, is_sound}
use Rattle.scan.proofs.Scan.{and_left, and_right, is_false, true-not-false, all_of_at, every_below_at, every_below_all, every_at, every_all, first-set, first-set_here}
use Rattle.device.proofs.Sizes.{order-true, order_is}
use Rattle.device.proofs.Device.{holds_own, holds_one, free_unused, free-holds, slot_stays}

pub lengths_are : (s : CacheState) → has_lengths s ≡ true → (length s.slots ≡ slot_count) × (length s.logical ≡ files) × (length s.floor ≡ files)
unfolding has_lengths
lengths_are s t =
    let tests : List Bool = eqb (length s.slots) slot_count ∷ eqb (length s.logical) files ∷ eqb (length s.floor) files ∷ [] in
    (eqb-true _ _ (all_of_at tests t 0), eqb-true _ _ (all_of_at tests t 1), eqb-true _ _ (all_of_at tests t 2))

module _ (P : ℕ) where
  -- ---- facts

  -- used slots name pages that there are, and no page twice
  pub record SlotsFit (slots : List Slot) : Type 0 where
    pub count : length slots ≡ slot_count
    pub named : (k : ℕ) → k < slot_count → in_range P (get_or slots k free_slot) ≡ true
    pub alone : (k : ℕ) (s : Slot) → get_or slots k free_slot ≡ s → k < slot_count → is_used s ≡ true → first_index (holds s.file s.page) slots ≡ k

  pub record SizesFit (logical floor stored : List ℕ) : Type 0 where
    pub logical_count : length logical ≡ files
    pub floor_count : length floor ≡ files
    pub stored_count : length stored ≡ files
    pub floor_logical : (f : ℕ) → f < files → get_or floor f 0 ≤ get_or logical f 0
    pub logical_fits : (f : ℕ) → f < files → get_or logical f 0 ≤ file_bytes P
    pub floor_stored : (f : ℕ) → f < files → get_or floor f 0 ≤ get_or stored f 0
    pub stored_fits : (f : ℕ) → f < files → get_or stored f 0 ≤ file_bytes P

  -- all but the length of the page frames
  pub record Fit (d : Device) : Type 0 where
    pub bytes : length d.media.bytes ≡ media_bytes P
    pub slots : SlotsFit d.cache.slots
    pub sizes : SizesFit d.cache.logical d.cache.floor d.media.sizes

  -- ---- what the tests say

  free_at : (n k : ℕ) → get_or (replicate n free_slot) k free_slot ≡ free_slot
  free_at zero k = refl
  free_at (suc n) zero = refl
  free_at (suc n) (suc k) = free_at n k

  pub sound-lengths : (stored : List ℕ) (s : CacheState) → is_sound P stored s ≡ true
      → (length s.slots ≡ slot_count) × (length s.logical ≡ files) × (length s.floor ≡ files)
  unfolding is_sound sound_tests
  sound-lengths stored s e = lengths_are s (all_of_at (sound_tests P stored s) e 5)

  -- a sound device has these facts
  pub sound-fit : (d : Device) → is_sound P d.media.sizes d.cache ≡ true → length d.media.bytes ≡ media_bytes P → length d.media.sizes ≡ files
      → every (λ n. leb n (file_bytes P)) d.media.sizes ≡ true → Fit d
  unfolding is_sound sound_tests holds_alone
  sound-fit d e lb ls fit =
      let lengths = sound-lengths d.media.sizes d.cache e in
      let lk : length d.cache.slots ≡ slot_count = lengths.0 in
      let order : (f : ℕ) → f < files → in_order (file_bytes P) (sizes_of d f) ≡ true = every_below_at files _ (all_of_at (sound_tests P d.media.sizes d.cache) e 3) in
      record {
        bytes = lb;
        slots = record {
          count = lk;
          named = λ k h. every_at (in_range P) d.cache.slots free_slot (all_of_at (sound_tests P d.media.sizes d.cache) e 1) k (rw lk h);
          alone = λ k s es h u.
              let t : holds_alone d.cache.slots k ≡ true = every_below_at slot_count (holds_alone d.cache.slots) (all_of_at (sound_tests P d.media.sizes d.cache) e 2) k h in
              eqb-true _ _ (rw (es, u) at t);
        };
        sizes = record {
          logical_count = lengths.1;
          floor_count = lengths.2;
          stored_count = ls;
          floor_logical = λ f h. (order_is (file_bytes P) (sizes_of d f) (order f h)).0;
          logical_fits = λ f h. (order_is (file_bytes P) (sizes_of d f) (order f h)).1;
          floor_stored = λ f h. (order_is (file_bytes P) (sizes_of d f) (order f h)).2;
          stored_fits = λ f h. leb-true _ _ (every_at (λ n. leb n (file_bytes P)) d.media.sizes 0 fit f (rw ls h));
        };
      }

  -- a mounted device with these facts is sound
  pub fit-sound : (d : Device) → Fit d → d.cache.mounted ≡ 1 → is_sound P d.media.sizes d.cache ≡ true
  unfolding is_sound sound_tests holds_alone has_lengths
  fit-sound d x up =
      let named : every (in_range P) d.cache.slots ≡ true =
      every_all (in_range P) d.cache.slots free_slot (λ k h. x.slots.named k (rw x.slots.count at h)) in
      let alone : every_below slot_count (holds_alone d.cache.slots) ≡ true =
      every_below_all slot_count (holds_alone d.cache.slots) (λ k h.
      cases (is_used (get_or d.cache.slots k free_slot))
      (λ u. rw (u, eq-eqb _ _ (x.slots.alone k (get_or d.cache.slots k free_slot) refl h u)))
      (λ u. rw u)) in
      let order : every_below files (λ f. in_order (file_bytes P) (sizes_of d f)) ≡ true =
      every_below_all files (λ f. in_order (file_bytes P) (sizes_of d f)) (λ f h.
      order-true (file_bytes P) (sizes_of d f) (x.sizes.floor_logical f h) (x.sizes.logical_fits f h) (x.sizes.floor_stored f h)) in
      rw (up, named, alone, order, eq-eqb _ _ x.slots.count, eq-eqb _ _ x.sizes.logical_count, eq-eqb _ _ x.sizes.floor_count)

  -- the up mark is 0 or 1
  pub sound_mark : (stored : List ℕ) (s : CacheState) → is_sound P stored s ≡ true → s.mounted ≤ 1
  unfolding is_sound sound_tests
  sound_mark stored s e = leb-true _ _ (all_of_at (sound_tests P stored s) e 0)

  -- a slot that is not used is free, and carries file 0 and page 0
  pub sound-free : (stored : List ℕ) (s : CacheState) → is_sound P stored s ≡ true → (k : ℕ) → k < length s.slots
      → is_used (get_or s.slots k free_slot) ≡ false → get_or s.slots k free_slot ≡ free_slot
  unfolding is_sound sound_tests in_range
  sound-free stored s e k h u =
      let z : Slot = get_or s.slots k free_slot in
      let r : is_free z && (eqb z.file 0 && eqb z.page 0) ≡ true = rw u at (every_at (in_range P) s.slots free_slot (all_of_at (sound_tests P stored s) e 1) k h) in
      let q = and_right (is_free z) _ r in
      slot_is z (eqb-true _ _ (and_left (is_free z) _ r)) (eqb-true _ _ (and_left (eqb z.file 0) _ q)) (eqb-true _ _ (and_right (eqb z.file 0) _ q))
    where
      slot_is : (z : Slot) → z.used ≡ 0 → z.file ≡ 0 → z.page ≡ 0 → z ≡ free_slot
      slot_is z u f p = let q : record { used = z.used; file = z.file; page = z.page } ≡ free_slot = rw (u, f, p) in q

  -- a sound state that is down is the down state
  pub sound-down : (stored : List ℕ) (s : CacheState) → is_sound P stored s ≡ true → s.mounted ≡ 0 → s ≡ down_state
  unfolding is_sound sound_tests is_down
  sound-down stored s e down =
      let lengths = sound-lengths stored s e in
      let tests : List Bool = every is_free s.slots ∷ every (λ n. eqb n 0) s.logical ∷ every (λ n. eqb n 0) s.floor ∷ [] in
      let t : all_of tests ≡ true = rw (eq-eqb _ _ down) at (all_of_at (sound_tests P stored s) e 4) in
      let slots : s.slots ≡ no_slots =
      ext_get_or free_slot s.slots no_slots lengths.0 (λ k h.
      sound-free stored s e k h (free_unused (get_or s.slots k free_slot) (every_at is_free s.slots free_slot (all_of_at tests t 0) k h)) ∙ sym (free_at slot_count k)) in
      let zero-at : (xs : List ℕ) → length xs ≡ files → every (λ n. eqb n 0) xs ≡ true → xs ≡ zeros files =
      λ xs l z. ext_get_or 0 xs (zeros files) l (λ k h. eqb-true _ _ (every_at (λ n. eqb n 0) xs 0 z k h) ∙ sym (get_or-zeros files k)) in
      state_is s down slots (zero-at s.logical lengths.1 (all_of_at tests t 1)) (zero-at s.floor lengths.2 (all_of_at tests t 2))
    where
      state_is : (s : CacheState) → s.mounted ≡ 0 → s.slots ≡ no_slots → s.logical ≡ zeros files → s.floor ≡ zeros files → s ≡ down_state
      state_is s a b c d =
          let q : record { mounted = s.mounted; slots = s.slots; logical = s.logical; floor = s.floor } ≡ down_state = rw (a, b, c, d) in q

  -- the down state is sound beside any stored sizes
  pub down-sound : (stored : List ℕ) → is_sound P stored down_state ≡ true
  unfolding is_sound sound_tests holds_alone is_down in_range has_lengths
  down-sound stored =
      let order : every_below files (λ f. in_order (file_bytes P) (sizes_beside stored down_state f)) ≡ true =
      every_below_all files (λ f. in_order (file_bytes P) (sizes_beside stored down_state f)) (λ f h.
      order-true (file_bytes P) (sizes_beside stored down_state f)
      (omega (arith, get_or-zeros files f)) (omega (arith, get_or-zeros files f)) (omega (arith, get_or-zeros files f))) in
      rw order

  -- ---- what keeps the slots

  pub none-fit : SlotsFit no_slots
  unfolding in_range
  none-fit = record {
    count = refl;
    named = λ k h. rw (free_at slot_count k);
    alone = λ k s e h u. absurd (false≢true (ap is_used (sym (free_at slot_count k) ∙ e) ∙ u));
  }

  -- a free slot takes a page that none holds
  pub take-fit : (slots : List Slot) (f p j : ℕ) → SlotsFit slots → f < files → p < P → slot_count ≤ first_index (holds f p) slots → j < slot_count
      → is_free (get_or slots j free_slot) ≡ true → SlotsFit (set slots j (used_slot f p))
  unfolding in_range
  take-fit slots f p j x hf hp none hj free =
      let y : Slot = used_slot f p in
      record {
        count = rw length-set x.count;
        named = λ k h.
            split_eq k j
            (λ e. rw (e, get_or-set_same slots j y free_slot (omega (arith, x.count)), lt-ltb f files hf, lt-ltb p P hp))
            (λ ne. rw (get_or-set_other slots j k y free_slot ne) (x.named k h));
        alone = λ k s es h u.
            split_eq k j
            (λ e.
            let q : y ≡ s = sym (get_or-set_same slots j y free_slot (omega (arith, x.count))) ∙ (rw e at es) in
            rw (← q, e) (first-set_here (holds f p) slots j y (holds_own f p y refl refl refl) (omega (arith, x.count)) (omega (arith, x.count))))
            (λ ne.
            let q : get_or slots k free_slot ≡ s = sym (get_or-set_other slots j k y free_slot ne) ∙ es in
            let o : first_index (holds s.file s.page) slots ≡ k = x.alone k s q h u in
            first-set (holds s.file s.page) slots j y free_slot
            (holds_one f p s.file s.page y refl refl (λ e. let z : first_index (holds f p) slots ≡ k = rw (e.0, e.1) at o in absurd (omega arith)))
            (free-holds s.file s.page (get_or slots j free_slot) free)
            ∙ o);
      }

  -- some slots are freed
  pub freed_fit : (slots : List Slot) (among : ℕ → ℕ → Bool) → SlotsFit slots → SlotsFit (map (free_where among) slots)
  unfolding free_where in_range
  freed_fit slots among x = record {
    count = length-map slots (free_where among) ∙ x.count;
    named = λ k h. rw (at k)
        (cases (is_used (get_or slots k free_slot) && among (get_or slots k free_slot).file (get_or slots k free_slot).page)
        (λ e. rw e)
        (λ e. rw e (x.named k h)));
    alone = λ k s es h u.
        let q : free_where among (get_or slots k free_slot) ≡ s = sym (at k) ∙ es in
        let r = kept (get_or slots k free_slot) s q u in
        slot_stays among s.file s.page slots r.1 ∙ x.alone k s r.0 h u;
  }
    where
      at : (k : ℕ) → get_or (map (free_where among) slots) k free_slot ≡ free_where among (get_or slots k free_slot)
      at k = get_or-map (free_where among) slots k free_slot

      -- a slot that is still used is as it was
      kept : (z s : Slot) → free_where among z ≡ s → is_used s ≡ true → (z ≡ s) × (among s.file s.page ≡ false)
      kept z s q u =
          cases (is_used z && among z.file z.page)
          (λ e. absurd (false≢true (ap is_used (rw e at q) ∙ u)))
          (λ e.
          let q' : z ≡ s = rw e at q in
          (q', is_false (among s.file s.page) (λ t. true-not-false (is_used s && among s.file s.page) (rw (u, t)) (rw q' at e))))

  -- ---- what keeps the sizes

  module _ (logical floor stored : List ℕ) (x : SizesFit logical floor stored) (f : ℕ) (hf : f < files) where
    -- the sizes of file f are replaced by others in order
    pub sizes_fit_lem : (l c : ℕ) → c ≤ l → l ≤ file_bytes P → c ≤ get_or stored f 0 → SizesFit (set logical f l) (set floor f c) stored
    sizes_fit_lem l c cl lt cs = record {
      logical_count = rw length-set x.logical_count;
      floor_count = rw length-set x.floor_count;
      stored_count = x.stored_count;
      floor_logical = λ g h. split_eq g f
          (λ e. rw (e, same_floor c, same_logical l) cl)
          (λ ne. rw (get_or-set_other floor f g c 0 ne, get_or-set_other logical f g l 0 ne) (x.floor_logical g h));
      logical_fits = λ g h. split_eq g f
          (λ e. rw (e, same_logical l) lt)
          (λ ne. rw (get_or-set_other logical f g l 0 ne) (x.logical_fits g h));
      floor_stored = λ g h. split_eq g f
          (λ e. rw (e, same_floor c) cs)
          (λ ne. rw (get_or-set_other floor f g c 0 ne) (x.floor_stored g h));
      stored_fits = x.stored_fits;
    }
      where
        same_logical : (l : ℕ) → get_or (set logical f l) f 0 ≡ l
        same_logical l = get_or-set_same logical f l 0 (omega (arith, x.logical_count))

        same_floor : (c : ℕ) → get_or (set floor f c) f 0 ≡ c
        same_floor c = get_or-set_same floor f c 0 (omega (arith, x.floor_count))

    -- the floor stays
    pub logical-fit : (l : ℕ) → get_or floor f 0 ≤ l → l ≤ file_bytes P → SizesFit (set logical f l) floor stored
    logical-fit l h k =
        rw (set-get_or floor f 0) at (sizes_fit_lem l (get_or floor f 0) h k (x.floor_stored f hf))

-- the sizes of a sound state
pub sound-sizes : (P : ℕ) (stored : List ℕ) (s : CacheState) (f : ℕ) → is_sound P stored s ≡ true → f < files
    → (get_or s.floor f 0 ≤ get_or s.logical f 0) × (get_or s.logical f 0 ≤ file_bytes P) × (get_or s.floor f 0 ≤ get_or stored f 0)
unfolding is_sound sound_tests
sound-sizes P stored s f e h = order_is (file_bytes P) (sizes_beside stored s f) (every_below_at files (λ g. in_order (file_bytes P) (sizes_beside stored s g)) (all_of_at (sound_tests P stored s) e 3) f h)
