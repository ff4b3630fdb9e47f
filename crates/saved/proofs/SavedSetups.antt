-- Saved set-ups are as request A10 says.
--     saved_setups     the statement of specs/SavedSetups
-- Assumes nothing.
use mathlib.Core.Path.{◌≡◌, refl, sym, ap, subst, ◌∙◌}
use mathlib.Core.Bool.{Bool, true, false}
use mathlib.Core.List.{List, [], ◌++◌}
use Prim.Native.Nat.{ℕ, suc, ◌+◌, ◌%◌, ◌<◌, ◌≤◌}
use native.Mathlib.Omega.{arith}
use lib.Seq.{take_at, drop_at, drop-drop, drop-append-add, get_or-set_same, get_or-set_other}
use lib.ListN.{length, get_or, take, drop, set, length-take}
use borrow.Author.Tests.{le-leb, lt-ltb, le-ltb}
use Rattle.std.specs.Prelude.{Ok, Err}
use Rattle.rules.specs.declared.State.{State}
use Rattle.rules.specs.declared.Setup.{Setup}
use Rattle.rules.specs.declared.Personality.{Personality}
use Rattle.rules.specs.Row.{Width, columns}
use Rattle.rules.specs.Possible.{blank, no_stops, possible}
use Rattle.rules.specs.Calls.{Ran}
use Rattle.rules.proofs.Tests.{pick_if, both_true}
use Rattle.rules.proofs.Rows.{columns_width, by_width}
use Rattle.rules.proofs.Kept.{PossibleSetup, possible_parts, possible_whole}
use Rattle.saved.specs.declared.Refusal.TheVariants as Refusal
use Rattle.saved.specs.SetupBytes.{setup_bytes}
use Rattle.saved.specs.Settings.{SameSettings, with_settings, fed}
use Rattle.saved.specs.Store.{place, last_number, last_of_all, places, place_of, setup_in, setup_of, after_save, Saves, none, save, Leaves, is_setup}
use Rattle.saved.specs.Store.{is_store}
use Rattle.saved.specs.Calls.{SaveOutcome, saved, save_rule, restorable, restored, RestoreOutcome, restoring, restore_rule}
use Rattle.saved.specs.SavedSetups.{Possible, Gives, LeavesAlone, OfBytes, OfSave, OfRestore, OfBoth, SavedSetups}
use Rattle.saved.proofs.Feed.{took}
use Rattle.saved.proofs.SetupFed.{Fine, given_state}
use Rattle.saved.proofs.Setups.{setup_short, setup_same, setup_given, fed_given, fed_fine, fine_is, possible_fine, saved_is, is_saved}
use Rattle.saved.proofs.Places.{place_setup, laid_last, laid_places}
use Rattle.saved.proofs.Stores.{Stands, stands_is, after_stands, leaves_stand, leaves_is, is_leaves}

-- ---- bytes

fine : (s : State) → Possible s → Fine s.setup
fine s h = possible_fine s h.shaped h.possible

took_gives : (m : Personality) (u : Setup) (r : Ran) → Fine u → r ≡ took (length (setup_bytes u)) blank (given_state m u)
    → Gives u (setup_bytes u) blank r
took_gives m u r h e = record {
  answer = ap (λ (x : Ran). x.answer) e;
  taken = ap (λ (x : Ran). x.taken) e;
  refused = ap (λ (x : Ran). x.refused) e;
  reply = ap (λ (x : Ran). x.reply) e;
  page = ap (λ (x : Ran). x.page) e;
  settings = subst (λ (x : Ran). SameSettings x.state.setup u) (sym e) (setup_same m u h);
}

of_bytes : OfBytes
of_bytes = record {
  short = λ s h. setup_short s.setup (fine s h);
  gives = λ m s room h. took_gives m s.setup _ (fine s h) (setup_given m s.setup room (fine s h));
  sound = is_saved;
  complete = saved_is;
}

-- ---- a save

module _ (s : State) (store : List ℕ) where
  save_bad_state : possible s ≡ false → save_rule s store ≡ saved (Err Refusal.BadState) store
  unfolding save_rule
  save_bad_state e = rw e

  save_bad_store : possible s ≡ true → is_store store ≡ false → save_rule s store ≡ saved (Err Refusal.BadStore) store
  unfolding save_rule
  save_bad_store e f = rw (e, f)

  save_full : possible s ≡ true → Leaves store → last_number store ≡ last_of_all → save_rule s store ≡ saved (Err Refusal.Full) store
  unfolding save_rule
  save_full e h n = rw (e, leaves_is store h, le-ltb (last_number store) last_of_all (omega (arith, n)))

  pub save_done : possible s ≡ true → Leaves store → last_number store < last_of_all
      → save_rule s store ≡ saved (Ok (last_number store + 1)) (after_save (setup_bytes s.setup) store)
  unfolding save_rule
  save_done e h n = rw (e, leaves_is store h, lt-ltb (last_number store) last_of_all n)

  after_last : Leaves store → Possible s → last_number (after_save (setup_bytes s.setup) store) ≡ last_number store + 1
  after_last h p =
      let z = leaves_stand store h in
      let y = after_stands (setup_bytes s.setup) (setup_short s.setup (fine s p)) (fine_is s.setup (fine s p)) z in
      let new : last_number (after_save (setup_bytes s.setup) store) ≡ suc z.number = ap last_number y.is ∙ laid_last y.number y.list in
      let old : last_number store ≡ z.number = ap last_number z.is ∙ laid_last z.number z.list in
      omega (arith, new, old)

  after_leaves : Leaves store → Possible s → last_number store < last_of_all → Leaves (after_save (setup_bytes s.setup) store)
  after_leaves h p n = record { count = suc h.count; saves = save s p.shaped p.possible n h.saves }

  of_save : OfSave s store
  of_save = record {
    bad_state = save_bad_state;
    bad_store = save_bad_store;
    full = save_full;
    done = λ p h n.
        let e = save_done p.possible h n in (
          ap (λ (o : SaveOutcome). o.answer) e,
          (ap (λ (o : SaveOutcome). o.number) e, subst (λ (o : SaveOutcome). Leaves o.store) (sym e) (after_leaves h p n)),
        );
    next = λ p h n. ap (λ (o : SaveOutcome). last_number o.store) (save_done p.possible h n) ∙ after_last h p;
  }

-- ---- a restore

-- what is left of the set-up u with the settings of v
module _ (v u : Setup) (stops : length v.tabs ≡ 132) where
  first_stops : length (take 80 v.tabs) ≡ 80
  first_stops = omega (arith, length-take 80 v.tabs)

  settings_beyond : drop 80 (with_settings v u).tabs ≡ drop 80 u.tabs
  unfolding with_settings
  settings_beyond = drop_at (take 80 v.tabs) (drop 80 u.tabs) 80 first_stops

  pub settings_same : {x : Setup} → SameSettings v x → SameSettings (with_settings v u) x
  unfolding with_settings
  settings_same h = record {
    stops = take_at (take 80 v.tabs) (drop 80 u.tabs) 80 first_stops ∙ h.stops;
    features = h.features;
    attributes = h.attributes;
    keys = h.keys;
    labels = h.labels;
  }

  -- beyond a width of 80 or more the stops are those of u
  stops_beyond : {w : ℕ} → Width w → drop w (take 80 v.tabs ++ drop 80 u.tabs) ≡ drop w u.tabs
  stops_beyond k = by_width (λ (w : ℕ). drop w (take 80 v.tabs ++ drop 80 u.tabs) ≡ drop w u.tabs) (past 0) (past 52) k
    where
      past : (n : ℕ) → drop (80 + n) (take 80 v.tabs ++ drop 80 u.tabs) ≡ drop (80 + n) u.tabs
      past n =
          subst (λ (m : ℕ). drop (m + n) (take 80 v.tabs ++ drop 80 u.tabs) ≡ drop (80 + n) u.tabs) first_stops
          (drop-append-add (take 80 v.tabs) (drop 80 u.tabs) n ∙ drop-drop n 80 u.tabs)

  settings_possible : Fine v → (wide : Bool) → PossibleSetup (columns wide) u → PossibleSetup (columns wide) (with_settings v u)
  unfolding with_settings
  settings_possible f wide h = record {
    keys = f.keys;
    labels = f.labels;
    message = h.message;
    attributes = f.attributes;
    features = f.features;
    tabs = ap no_stops (stops_beyond (columns_width wide)) ∙ h.tabs;
  }

fed_stops : (m : Personality) (bytes : List ℕ) → length (fed m bytes).tabs ≡ 132
fed_stops m bytes = (fed_fine m bytes).shaped.tabs

restored_leaves : (bytes : List ℕ) (s : State) → LeavesAlone s (restored bytes s)
unfolding restored with_settings
restored_leaves bytes s = record {
  core = refl;
  sending = refl;
  gathered = refl;
  message = refl;
  shifted = refl;
  wish = refl;
  beyond = settings_beyond (fed s.core.personality bytes) s.setup (fed_stops s.core.personality bytes);
}

alone : (s : State) → LeavesAlone s s
alone s = record { core = refl; sending = refl; gathered = refl; message = refl; shifted = refl; wish = refl; beyond = refl }

restored_possible : (bytes : List ℕ) (s : State) → possible s ≡ true → possible (restored bytes s) ≡ true
unfolding restored
restored_possible bytes s h =
    let r = possible_parts s h in
    let m = s.core.personality in
    possible_whole _ record {
      core = r.core;
      sending = r.sending;
      setup = settings_possible (fed m bytes) s.setup (fed_stops m bytes) (fed_fine m bytes) s.core.screen.wide r.setup;
    }

module _ (s : State) (store : List ℕ) (n : ℕ) where
  restore_bad_state : possible s ≡ false → restore_rule s store n ≡ restoring s (Err Refusal.BadState)
  unfolding restore_rule
  restore_bad_state e = rw e

  restore_bad_store : possible s ≡ true → is_store store ≡ false → restore_rule s store n ≡ restoring s (Err Refusal.BadStore)
  unfolding restore_rule
  restore_bad_store e f = rw (e, f)

  pub restore_bad_number : possible s ≡ true → is_store store ≡ true → restorable (last_number store) n ≡ false
      → restore_rule s store n ≡ restoring s (Err Refusal.BadNumber)
  unfolding restore_rule
  restore_bad_number e f g = rw (e, f, g)

  pub restore_done : possible s ≡ true → is_store store ≡ true → restorable (last_number store) n ≡ true
      → restore_rule s store n ≡ restoring s (Ok (restored (setup_of store n) s))
  unfolding restore_rule
  restore_done e f g = rw (e, f, g)

  -- a restore leaves the state, or gives it the settings
  either_state : (P : State → Type 0) → P s → P (restored (setup_of store n) s) → P (restore_rule s store n).state
  unfolding restore_rule
  either_state P same other =
      pick_if (λ (o : RestoreOutcome). P o.state) (possible s)
      (λ e. pick_if (λ (o : RestoreOutcome). P o.state) (is_store store)
      (λ f. pick_if (λ (o : RestoreOutcome). P o.state) (restorable (last_number store) n) (λ g. other) (λ g. same)) (λ f. same)) (λ e. same)

  of_restore : OfRestore s store n
  of_restore = record {
    bad_state = restore_bad_state;
    bad_store = restore_bad_store;
    bad_number = restore_bad_number;
    leaves = either_state (λ t. LeavesAlone s t) (alone s) (restored_leaves (setup_of store n) s);
    possible = λ h. either_state (λ t. possible t ≡ true) h (restored_possible (setup_of store n) s h);
  }

-- ---- a save, more saves, a restore

-- the store stands with the last number n, and the place k holds p
record Later (n k : ℕ) (p store : List ℕ) : Type 0 where
  stands : Stands store
  number : stands.number ≡ n
  held : get_or stands.list k [] ≡ p

-- up to seven further saves leave the place of number n; how many there were is told by the last number
module _ (n : ℕ) (some : 0 < n) (p : List ℕ) where
  abbrev at : ℕ
  at = place_of n

  next_save : (more : ℕ) (bytes : List ℕ) {store : List ℕ} → length bytes ≤ 1087 → is_setup bytes ≡ true
      → more < 7 → Later (n + more) at p store → Later (n + suc more) at p (after_save bytes store)
  next_save more bytes short good h x =
      let z = x.stands in
      record {
        stands = after_stands bytes short good z;
        number = omega (arith, x.number);
        held = get_or-set_other z.list (z.number % 8) at (place bytes) [] (λ e. omega (arith, e, x.number)) ∙ x.held;
      }

  later : {first store : List ℕ} {more : ℕ} → Later n at p first → Saves first more store → more ≤ 7 → Later (n + more) at p store
  later x none h = let e : n + 0 ≡ n = omega arith in rw e x
  later x (save {n = more} s shaped ok less y) h =
      let f = possible_fine s shaped ok in
      next_save more (setup_bytes s.setup) (setup_short s.setup f) (fine_is s.setup f) (omega arith) (later x y (omega arith))

-- the last number after saves, however many
record Counted (n : ℕ) (store : List ℕ) : Type 0 where
  stands : Stands store
  number : stands.number ≡ n

counted : {first store : List ℕ} {more : ℕ} (n : ℕ) → Counted n first → Saves first more store → Counted (n + more) store
counted n z none = let e : n + 0 ≡ n = omega arith in rw e z
counted n z (save {n = more} s shaped ok less y) =
    let f = possible_fine s shaped ok in
    let x = counted n z y in
    record {
      stands = after_stands (setup_bytes s.setup) (setup_short s.setup f) (fine_is s.setup f) x.stands;
      number = omega (arith, x.number);
    }

last_of : {n : ℕ} {store : List ℕ} → Counted n store → last_number store ≡ n
last_of {n} {store} x = ap last_number x.stands.is ∙ (laid_last x.stands.number x.stands.list ∙ x.number)

module _ (s t : State) (store : List ℕ) (p : Possible s) (ok : possible t ≡ true) (h : Leaves store) (less : last_number store < last_of_all) where
  abbrev bytes : List ℕ
  bytes = setup_bytes s.setup

  abbrev number : ℕ
  number = last_number store + 1

  first : Later number (place_of number) (place bytes) (after_save bytes store)
  first =
      let z = leaves_stand store h in
      let f = fine s p in
      let n : last_number store ≡ z.number = ap last_number z.is ∙ laid_last z.number z.list in
      let k : place_of number ≡ z.number % 8 = omega (arith, n) in
      let q : get_or (set z.list (z.number % 8) (place bytes)) (place_of number) [] ≡ place bytes =
      rw k (get_or-set_same z.list (z.number % 8) (place bytes) [] (omega (arith, z.eight))) in
      record { stands = after_stands bytes (setup_short s.setup f) (fine_is s.setup f) z; number = omega (arith, n); held = q }

  first_counted : Counted number (after_save bytes store)
  first_counted = record { stands = first.stands; number = first.number }

  saved_after : (save_rule s store).store ≡ after_save bytes store
  saved_after = ap (λ (o : SaveOutcome). o.store) (save_done s store p.possible h less)

  module _ (more : ℕ) (end : List ℕ) (x : Saves (after_save bytes store) more end) where
    last : last_number end ≡ number + more
    last = last_of (counted number first_counted x)

    good : is_store end ≡ true
    good = stands_is end (counted number first_counted x).stands

    gone : 8 ≤ more → restore_rule t end number ≡ restoring t (Err Refusal.BadNumber)
    gone k =
        let e : restorable (last_number end) number ≡ false =
        rw (
          le-leb 1 number (omega arith),
          le-leb number (last_number end) (omega (arith, last)),
          le-ltb (last_number end) (number + 8)
              (omega (arith, last)),
        ) in
        restore_bad_number t end number ok good e

    -- the bytes of number are still there
    setup_there : more ≤ 7 → setup_of end number ≡ bytes
    setup_there k =
        let y = later number (omega arith) (place bytes) first x k in
        let l = ap places y.stands.is ∙ laid_places y.stands.number y.stands.list y.stands.eight y.stands.all in
        ap (λ (z : List (List ℕ)). setup_in (get_or z (place_of number) [])) l
        ∙ (ap setup_in y.held ∙ place_setup bytes (setup_short s.setup (fine s p)))

    back : more ≤ 7 → ((restore_rule t end number).answer ≡ 0) × SameSettings (restore_rule t end number).state.setup s.setup
    unfolding restored
    back k =
        let e : restorable (last_number end) number ≡ true = both_true (le-leb 1 number (omega arith))
        (both_true (le-leb number (last_number end) (omega (arith, last))) (lt-ltb (last_number end) (number + 8) (omega (arith, last)))) in
        let r : restore_rule t end number ≡ restoring t (Ok (restored bytes t)) =
        restore_done t end number ok good e ∙ ap (λ (b : List ℕ). restoring t (Ok (restored b t))) (setup_there k) in
        let m = t.core.personality in
        let given_same : SameSettings (fed m bytes) s.setup = rw (fed_given m s.setup (fine s p)) (setup_same m s.setup (fine s p)) in (
          ap (λ (o : RestoreOutcome). o.answer) r,
          subst (λ (o : RestoreOutcome). SameSettings o.state.setup s.setup) (sym r)
              (settings_same (fed m bytes) t.setup (fed_stops m bytes) given_same),
        )

of_both : (s t : State) (store : List ℕ) (more : ℕ) (later : List ℕ) → Possible s → possible t ≡ true → Leaves store
    → last_number store < last_of_all → Saves (save_rule s store).store more later → OfBoth s t store more later
of_both s t store more end p ok h less x =
    let y = subst (λ (z : List ℕ). Saves z more end) (saved_after s t store p ok h less) x in
    record { back = back s t store p ok h less more end y; gone = gone s t store p ok h less more end y }

pub saved_setups : SavedSetups
saved_setups = record {
  of_bytes = of_bytes;
  of_stores = record { sound = is_leaves; complete = leaves_is };
  of_save = of_save;
  of_restore = of_restore;
  of_both = of_both;
}
