-- A possible state stays possible under every call, and no call changes the page's length: what the calls' one check needs.
--     planned_kept, carried_kept, inner_kept, inner_setup     the inner step on a good page and core: what a loop over it wants
--     step_keeps, run_keeps, call_keeps, play_keeps           of any page and state, bad ones too: the length and the personality stay, and possible
--                                                             stays possible
--     step_good, run_good, call_good, play_good               a good page and state stay good
--     power_on_possible, power_on_good_lem, power_on_length
--     kept                                                    all this of the calls, as one statement
-- Assumes nothing.
use mathlib.Core.Path.{◌≡◌, refl, sym, ap, subst, ◌∙◌}
use mathlib.Core.Bool.{Bool, true, false, not}
use mathlib.Core.List.{List, [], ◌∷◌}
use Prim.Native.Nat.{ℕ, zero, suc, ◌+◌, ◌-◌, ◌*◌, ◌<◌}
use native.Mathlib.Omega.{arith}
use lib.Dec.{ltb, eqb}
use lib.ListN.{length, take, set, replicate}
use lib.Seq.{drop-set-lt}
use borrow.Author.Tests.{ltb-true, lt-ltb, eqb-true, eqb-false, eq-eqb}
use Rattle.rules.specs.declared.Core.{Core}
use Rattle.rules.specs.declared.Slot.{Slot}
use Rattle.rules.specs.declared.Slot.TheVariants as Slot
use Rattle.rules.specs.declared.Pending.TheVariants as Pending
use Rattle.rules.specs.declared.Change.{Change}
use Rattle.rules.specs.declared.Change.TheVariants as Change
use Rattle.rules.specs.declared.Setup.{Setup}
use Rattle.rules.specs.declared.State.{State}
use Rattle.rules.specs.declared.Sending.{Sending}
use Rattle.rules.specs.declared.Sending.TheVariants as Sending
use Rattle.rules.specs.declared.Personality.{Personality}
use Rattle.rules.specs.declared.Personality.TheVariants as Personality
use Rattle.rules.specs.declared.Plan.{Plan}
use Rattle.rules.specs.declared.Command.{Command}
use Rattle.rules.specs.declared.Decoded.{Decoded}
use Rattle.rules.specs.declared.Decoded.TheVariants as Decoded
use Rattle.rules.specs.declared.SetupChange.{SetupChange}
use Rattle.rules.specs.declared.SetupChange.TheVariants as SetupChange
use Rattle.rules.specs.declared.Land.{Land}
use Rattle.rules.specs.declared.Land.TheVariants as Land
use Rattle.rules.specs.Row.{columns}
use Rattle.rules.specs.Search.{guarded_at}
use Rattle.rules.specs.State.{width_of, page_length, with_cursor, key_place, label_place, short_text, idle, is_idle, sends, changed, stored}
use Rattle.rules.specs.State.{sending_after, gathered_after, setup_after}
use Rattle.rules.specs.Possible.{power_on, blank, unsplit_ok, screen_ok, attributes_ok, features_ok, pending_ok, remembered_ok, sending_ok, no_stops}
use Rattle.rules.specs.Possible.{tabs_ok, core_ok, setup_ok, possible, good}
use Rattle.rules.specs.Arguments.{is_attribute, feature_place}
use Rattle.rules.specs.Slot.{slot_ok, slot_low, slot_most, all_text, text_ok, texts_ok}
use Rattle.rules.specs.Decode.{decode_rule}
use Rattle.rules.specs.Plan.{plan_rule}
use Rattle.rules.specs.Theorems.Good.{GoodLand}
use Rattle.rules.specs.Theorems.Kept.{Keeps, Kept}
use Rattle.rules.specs.Send.{left_from}
use Rattle.rules.specs.Carry.{landed, Effect, page_after, done, begun, carried}
use Rattle.rules.specs.Step.{obeyed, inner_rule, Outcome, outcome_of, goes_on, step_inside, step_rule}
use Rattle.rules.specs.Calls.{power_on_rule, Ran, joined, repeated, behind, run_inside, run_rule, Call, Step, Run, Press, of_step, of_run, of_press}
use Rattle.rules.specs.Calls.{call_rule, after, play}
use Rattle.rules.proofs.Tests.{pick_if, both_parts, both_true}
use Rattle.rules.proofs.Searching.{length_guards}
use Rattle.rules.proofs.Places.{in_settled}
use Rattle.rules.proofs.Screens.{screen_inside, cursor_kept}
use Rattle.rules.proofs.Commands.{change_ok, kind_of}
use Rattle.rules.proofs.Good.{PlanKept, plan_kept}
use Rattle.rules.proofs.Lengths.{length_after}
use Rattle.rules.proofs.Sends.{ok_good, sending_idle, idle_ok, not_sending, left_ok}
use Rattle.rules.proofs.Texts.{text_taken, texts_set}
use Rattle.rules.proofs.Decoding.{decoded_ok, decoded_ok_lem}

-- ---- a possible state, by its parts

-- g are the bytes gathered
pub record PossibleCore (c : Core) (g : List ℕ) : Type 0 where
  pub screen : screen_ok c.screen ≡ true
  pub bells : c.bells < 256
  pub remembered : remembered_ok c.personality c.attribute ≡ true
  pub pending : pending_ok c.pending g ≡ true

-- w is the width of the page
pub record PossibleSetup (w : ℕ) (u : Setup) : Type 0 where
  pub keys : texts_ok 0 u.keys ≡ true
  pub labels : texts_ok 0x20 u.labels ≡ true
  pub message : text_ok 0x20 46 u.message.len u.message.bytes ≡ true
  pub attributes : attributes_ok u.attributes ≡ true
  pub features : features_ok 0 u.features ≡ true
  pub tabs : tabs_ok w u.tabs ≡ true

pub record PossibleState (s : State) : Type 0 where
  pub core : PossibleCore s.core s.gathered
  pub sending : sending_ok s.core.screen s.core.pending s.sending ≡ true
  pub setup : PossibleSetup (width_of s.core.screen) s.setup

pub setup_parts : (w : ℕ) (u : Setup) → setup_ok w u ≡ true → PossibleSetup w u
unfolding setup_ok
setup_parts w u h =
    let r1 = both_parts (texts_ok 0 u.keys) _ h in
    let r2 = both_parts (texts_ok 0x20 u.labels) _ r1.1 in
    let r3 = both_parts (text_ok 0x20 46 u.message.len u.message.bytes) _ r2.1 in
    let r4 = both_parts (attributes_ok u.attributes) _ r3.1 in
    let r5 = both_parts (features_ok 0 u.features) _ r4.1 in
    record { keys = r1.0; labels = r2.0; message = r3.0; attributes = r4.0; features = r5.0; tabs = r5.1 }

pub setup_whole : (w : ℕ) (u : Setup) → PossibleSetup w u → setup_ok w u ≡ true
unfolding setup_ok
setup_whole w u h =
    both_true h.keys (both_true h.labels (both_true h.message (both_true h.attributes (both_true h.features h.tabs))))

pub possible_parts : (s : State) → possible s ≡ true → PossibleState s
unfolding possible core_ok
possible_parts s h =
    let r = both_parts (core_ok s.core s.gathered) _ h in
    let r0 = both_parts (sending_ok s.core.screen s.core.pending s.sending) _ r.1 in
    let r2 = both_parts (screen_ok s.core.screen) _ r.0 in
    let r3 = both_parts (ltb s.core.bells 256) _ r2.1 in
    let r4 = both_parts (remembered_ok s.core.personality s.core.attribute) _ r3.1 in
    record {
      core = record { screen = r2.0; bells = ltb-true s.core.bells 256 r3.0; remembered = r4.0; pending = r4.1 };
      sending = r0.0;
      setup = setup_parts (width_of s.core.screen) s.setup r0.1;
    }

pub possible_whole : (s : State) → PossibleState s → possible s ≡ true
unfolding possible core_ok
possible_whole s h =
    let c = h.core in
    both_true
    (both_true c.screen (both_true (lt-ltb s.core.bells 256 c.bells) (both_true c.remembered c.pending)))
    (both_true h.sending (setup_whole (width_of s.core.screen) s.setup h.setup))

-- ---- the set-up after a change that fits it

attributes_set : (l : List ℕ) (n a : ℕ) → attributes_ok l ≡ true → is_attribute a ≡ true → attributes_ok (set l n a) ≡ true
unfolding attributes_ok
attributes_set [] n a e h = refl
attributes_set (x ∷ l) zero a e h = both_true h (both_parts (is_attribute x) (attributes_ok l) e).1
attributes_set (x ∷ l) (suc n) a e h =
    let r = both_parts (is_attribute x) (attributes_ok l) e in
    both_true r.0 (attributes_set l n a r.1 h)

features_set : (first : ℕ) (l : List ℕ) (n f : ℕ) → features_ok first l ≡ true → feature_place f ≡ first + n → features_ok first (set l n f) ≡ true
unfolding features_ok
features_set first [] n f e h = refl
features_set first (x ∷ l) zero f e h =
    both_true (eq-eqb (feature_place f) first (omega arith)) (both_parts (eqb (feature_place x) first) (features_ok (suc first) l) e).1
features_set first (x ∷ l) (suc n) f e h =
    let r = both_parts (eqb (feature_place x) first) (features_ok (suc first) l) e in
    both_true r.0 (features_set (suc first) l n f r.1 (omega arith))

-- no tab stop is beyond either width after all are cleared
cleared_tabs : (wide : Bool) → tabs_ok (columns wide) (replicate 132 false) ≡ true
unfolding columns no_stops
cleared_tabs true = refl
cleared_tabs false = refl

pub changed_kept : (wide : Bool) (x : SetupChange) (u : Setup) → change_ok (columns wide) x ≡ true → PossibleSetup (columns wide) u
    → PossibleSetup (columns wide) (changed x u)
unfolding changed change_ok
changed_kept w SetupChange.Nothing u e h = h
changed_kept w (SetupChange.Tab c b) u e h = record {
  keys = h.keys;
  labels = h.labels;
  message = h.message;
  attributes = h.attributes;
  features = h.features;
  tabs = rw (drop-set-lt (columns w) u.tabs c b (ltb-true c (columns w) e)) h.tabs;
}
changed_kept w SetupChange.ClearTabs u e h =
    record { keys = h.keys; labels = h.labels; message = h.message; attributes = h.attributes; features = h.features; tabs = cleared_tabs w }
changed_kept w (SetupChange.Attribute n a) u e h = record {
  keys = h.keys;
  labels = h.labels;
  message = h.message;
  attributes = attributes_set u.attributes n a h.attributes (both_parts (ltb n 4) (is_attribute a) e).1;
  features = h.features;
  tabs = h.tabs;
}
changed_kept w (SetupChange.Feature n f) u e h = record {
  keys = h.keys;
  labels = h.labels;
  message = h.message;
  attributes = h.attributes;
  features = features_set 0 u.features n f h.features
      (omega (arith, eqb-true (feature_place f) n (both_parts (ltb n 5) (eqb (feature_place f) n) e).1));
  tabs = h.tabs;
}
changed_kept w SetupChange.HideLine u e h =
    record { keys = h.keys; labels = h.labels; message = h.message; attributes = h.attributes; features = h.features; tabs = h.tabs }
changed_kept w (SetupChange.Wish b) u e h =
    record { keys = h.keys; labels = h.labels; message = h.message; attributes = h.attributes; features = h.features; tabs = h.tabs }

-- a slot takes a text that it may hold
pub stored_kept : (w : ℕ) (x : Slot) (n : ℕ) (g : List ℕ) (u : Setup) → pending_ok (Pending.Text x n) g ≡ true → PossibleSetup w u
    → PossibleSetup w (stored x (take n g) u)
unfolding stored pending_ok slot_low slot_most
stored_kept w (Slot.Key v) n g u e h = record {
  keys = texts_set 0 u.keys (key_place v) (short_text (take n g)) h.keys (text_taken 0 8 n g (both_parts (slot_ok (Slot.Key v)) _ e).1);
  labels = h.labels;
  message = h.message;
  attributes = h.attributes;
  features = h.features;
  tabs = h.tabs;
}
stored_kept w (Slot.Label v) n g u e h = record {
  keys = h.keys;
  labels = texts_set 0x20 u.labels (label_place v) (short_text (take n g)) h.labels
      (text_taken 0x20 8 n g (both_parts (slot_ok (Slot.Label v)) _ e).1);
  message = h.message;
  attributes = h.attributes;
  features = h.features;
  tabs = h.tabs;
}
stored_kept w Slot.Message n g u e h = record {
  keys = h.keys;
  labels = h.labels;
  message = text_taken 0x20 46 n g (both_parts (slot_ok Slot.Message) _ e).1;
  attributes = h.attributes;
  features = h.features;
  tabs = h.tabs;
}

-- a byte's change that fits, g being the bytes gathered
unfoldable pub effect_ok : ℕ → List ℕ → Change → Bool
effect_ok w g (Change.Gather n b) = true
effect_ok w g (Change.Take x n) = pending_ok (Pending.Text x n) g
effect_ok w g (Change.Set x) = change_ok w x
effect_ok w g (Change.Send x) = true

pub setup_kept : (wide : Bool) (x : Change) (g : List ℕ) (u : Setup) → effect_ok (columns wide) g x ≡ true → PossibleSetup (columns wide) u
    → PossibleSetup (columns wide) (setup_after x g u)
unfolding setup_after effect_ok
setup_kept w (Change.Gather n b) g u e h = h
setup_kept w (Change.Take x n) g u e h = stored_kept (columns w) x n g u e h
setup_kept w (Change.Set x) g u e h = changed_kept w x u e h
setup_kept w (Change.Send x) g u e h = h

-- ---- the inner step

pub landed_kept : (g : List Bool) (l : Land) (c : Core) (t : List ℕ) → length g ≡ page_length c.screen → PossibleCore c t → GoodLand c.screen l
    → PossibleCore (landed g l c) t
unfolding landed
landed_kept g Land.Stay c t n h k = h
landed_kept g (Land.Settle i) c t n h k =
    let r = in_settled c.screen (screen_inside c.screen h.screen) g n i k in
    record { screen = cursor_kept c.screen _ h.screen r.0 r.1; bells = h.bells; remembered = h.remembered; pending = h.pending }

landed_wide : (g : List Bool) (l : Land) (c : Core) → (landed g l c).screen.wide ≡ c.screen.wide
unfolding landed with_cursor
landed_wide g Land.Stay c = refl
landed_wide g (Land.Settle i) c = refl

landed_personality : (g : List Bool) (l : Land) (c : Core) → (landed g l c).personality ≡ c.personality
unfolding landed
landed_personality g Land.Stay c = refl
landed_personality g (Land.Settle i) c = refl

-- what holds of the effect of a byte on a good page and core
pub record EffectKept (c : Core) (g : List ℕ) (e : Effect) : Type 0 where
  pub size : length e.page ≡ page_length c.screen
  pub wide : e.core.screen.wide ≡ c.screen.wide
  pub personality : e.core.personality ≡ c.personality
  pub core : PossibleCore e.core (gathered_after e.change g)
  pub change : effect_ok (width_of c.screen) g e.change ≡ true
  -- with no send under way before it
  pub sending : sending_ok e.core.screen e.core.pending (sending_after e.change Sending.Nothing) ≡ true

idle_kept : (c : Core) (g : List ℕ) → PossibleCore c g → PossibleCore (idle c) g
unfolding pending_ok
idle_kept c g h = record { screen = h.screen; bells = h.bells; remembered = h.remembered; pending = refl }

module _ (p : List ℕ) (c : Core) (n : length p ≡ page_length c.screen) (g : List ℕ) (h : PossibleCore c g) where
  -- the plan of a command, from the page's own guarded cells
  pub planned_kept : (tabs : List Bool) (d : Command) → PlanKept (kind_of d).ok (idle c) (plan_rule (guarded_at c.modes.protect p) tabs (idle c) d)
  planned_kept tabs d = plan_kept (idle c) h.screen (guarded_at c.modes.protect p) (length_guards c.modes.protect p ∙ n) tabs d

  next_kept : {t : Bool} {x : Plan} → PlanKept t (idle c) x → t ≡ true → PossibleCore x.next g
  unfolding pending_ok
  next_kept {t} {x} k e = record {
    screen = k.good.screen;
    bells = k.bells h.bells;
    remembered = k.remembered e h.remembered;
    pending = rw
        k.pending;
  }

  -- a reply that is due begins, on the page of the next core
  begun_left : {t : Bool} (x : Plan) (room : ℕ) → PlanKept t (idle c) x → 0 < room
      → sending_ok x.next.screen x.next.pending (left_from p x.next x.reply room) ≡ true
  begun_left x room k h =
      idle_ok x.next.screen x.next.pending (left_from p x.next x.reply room) (ap is_idle k.pending)
      (left_ok p x.next (n ∙ ap (λ (b : Bool). 24 * columns b) (sym k.wide)) (screen_inside x.next.screen k.good.screen) x.reply
      k.good.reply room h)

  pub carried_kept : {t : Bool} (x : Plan) (room : ℕ) → PlanKept t (idle c) x → t ≡ true → EffectKept c g (carried p c x room)
  unfolding carried begun done change_ok effect_ok gathered_after sending_after sending_ok
  carried_kept x room k good =
      pick_if (EffectKept c g) (sends x.reply)
      (λ d. pick_if (EffectKept c g) (eqb room 0) (λ e. record { size = n; wide = refl; personality = refl; core = h; change = refl; sending = refl })
      (λ e. record {
        size = n;
        wide = k.wide;
        personality = k.personality;
        core = next_kept k good;
        change = refl;
        sending = begun_left x room k (omega (arith, eqb-false room 0 e));
      }))
      (λ d. let on = c.modes.protect in let q = page_after on x p in
      record {
        size = length_after on x p ∙ n;
        wide = landed_wide (guarded_at x.next.modes.protect q) x.land x.next ∙ k.wide;
        personality = landed_personality (guarded_at x.next.modes.protect q) x.land x.next ∙ k.personality;
        core = landed_kept (guarded_at x.next.modes.protect q) x.land x.next g
            (length_guards x.next.modes.protect q ∙ (length_after on x p ∙ (n ∙ ap (λ (b : Bool). 24 * columns b) (sym k.wide))))
            (next_kept k good) k.good.place;
        change = k.change good;
        sending = refl;
      })

  obeyed_kept : (tabs : List Bool) (d : Decoded) (room : ℕ) → decoded_ok g d ≡ true → EffectKept c g (obeyed p c tabs d room)
  unfolding obeyed decoded_ok change_ok effect_ok gathered_after sending_after sending_ok
  obeyed_kept tabs (Decoded.Wait q) room e = record {
    size = n;
    wide = refl;
    personality = refl;
    core = record { screen = h.screen; bells = h.bells; remembered = h.remembered; pending = e };
    change = refl;
    sending = refl;
  }
  obeyed_kept tabs (Decoded.Gather x i b) room e = record {
    size = n;
    wide = refl;
    personality = refl;
    core = record { screen = h.screen; bells = h.bells; remembered = h.remembered; pending = e };
    change = refl;
    sending = refl;
  }
  obeyed_kept tabs (Decoded.Take x i) room e = record {
    size = n;
    wide = refl;
    personality = refl;
    core = idle_kept c g h;
    change = e;
    sending = refl;
  }
  obeyed_kept tabs (Decoded.Reject a) room e = record {
    size = n;
    wide = refl;
    personality = refl;
    core = idle_kept c g h;
    change = refl;
    sending = refl;
  }
  obeyed_kept tabs (Decoded.Do d) room e = carried_kept _ room (planned_kept tabs d) e

  pub inner_kept : (tabs : List Bool) (b room : ℕ) → EffectKept c g (inner_rule p c tabs b room)
  unfolding inner_rule change_ok effect_ok gathered_after sending_after sending_ok
  inner_kept tabs b room =
      pick_if (EffectKept c g) (ltb b 128)
      (λ e. obeyed_kept tabs (decode_rule c.pending b) room
      (decoded_ok_lem c.pending g b (ltb-true b 128 e) h.pending))
      (λ e. record { size = n; wide = refl; personality = refl; core = h; change = refl; sending = refl })

  pub inner_setup : (u : Setup) (b room : ℕ) → PossibleSetup (width_of c.screen) u
      → PossibleSetup (width_of (inner_rule p c u.tabs b room).core.screen) (setup_after (inner_rule p c u.tabs b room).change g u)
  inner_setup u b room w =
      let e = inner_rule p c u.tabs b room in
      let k = inner_kept u.tabs b room in
      subst (λ (t : Bool). PossibleSetup (columns t) (setup_after e.change g u)) (sym k.wide)
      (setup_kept c.screen.wide e.change g u k.change w)

-- ---- the calls

keeps_same : {p : List ℕ} {s : State} → Keeps p s p s
keeps_same = record { size = refl; wide = refl; personality = refl; state = λ h. h }

keeps_then : {p q r : List ℕ} {s t u : State} → Keeps p s q t → Keeps q t r u → Keeps p s r u
keeps_then a b = record {
  size = b.size ∙ a.size;
  wide = b.wide ∙ a.wide;
  personality = b.personality
      ∙ a.personality;
  state = λ h. b.state (a.state h);
}

pub good_parts : (p : List ℕ) (s : State) → good p s ≡ true → (length p ≡ page_length s.core.screen) × (possible s ≡ true)
unfolding good
good_parts p s h =
    let r = both_parts (eqb (length p) (page_length s.core.screen)) (possible s) h in
    (eqb-true (length p) (page_length s.core.screen) r.0, r.1)

pub good_whole : (p : List ℕ) (s : State) → length p ≡ page_length s.core.screen → possible s ≡ true → good p s ≡ true
unfolding good
good_whole p s n h = both_true (eq-eqb (length p) (page_length s.core.screen) n) h

pub keeps_good : {p q : List ℕ} {s t : State} → Keeps p s q t → good p s ≡ true → good q t ≡ true
keeps_good {p} {q} {s} {t} k h =
    let r = good_parts p s h in
    good_whole q t (k.size ∙ (r.0 ∙ ap (λ (b : Bool). 24 * columns b) (sym k.wide))) (k.state r.1)

-- a send that goes on, with room
pub goes_keeps : (p : List ℕ) (s : State) (room : ℕ) → good p s ≡ true → sends s.sending ≡ true → 0 < room
    → Keeps p s (goes_on p s room).page (goes_on p s room).state
unfolding goes_on
goes_keeps p s room g u h =
    let r = good_parts p s g in
    let w = possible_parts s r.1 in
    let x = s.core.screen in
    record {
      size = refl;
      wide = refl;
      personality = refl;
      state = λ e. possible_whole _ record {
        core = w.core;
        sending = idle_ok x s.core.pending _ (sending_idle x s.core.pending s.sending w.sending u)
            (left_ok p s.core r.0 (screen_inside x w.core.screen) s.sending
            (ok_good x s.core.pending s.sending w.sending) room h);
        setup = w.setup;
      };
    }

inside_keeps : (p : List ℕ) (s : State) (room : ℕ) → good p s ≡ true → sends s.sending ≡ true
    → Keeps p s (step_inside p s room).page (step_inside p s room).state
unfolding step_inside
inside_keeps p s room g u =
    pick_if (λ (o : Outcome). Keeps p s o.page o.state) (eqb room 0) (λ e. keeps_same)
    (λ e. goes_keeps p s room g u (omega (arith, eqb-false room 0 e)))

-- a byte outside a send
outside_keeps : (p : List ℕ) (s : State) (b room : ℕ) → good p s ≡ true → s.sending ≡ Sending.Nothing
    → Keeps p s (inner_rule p s.core s.setup.tabs b room).page (outcome_of s (inner_rule p s.core s.setup.tabs b room)).state
outside_keeps p s b room g u =
    let r = good_parts p s g in
    let w = possible_parts s r.1 in
    let e = inner_rule p s.core s.setup.tabs b room in
    let k = inner_kept p s.core r.0 s.gathered w.core s.setup.tabs b room in
    record {
      size = k.size ∙ sym r.0;
      wide = k.wide;
      personality = k.personality;
      state = λ h. possible_whole _ record {
        core = k.core;
        sending = subst (λ (y : Sending). sending_ok e.core.screen e.core.pending (sending_after e.change y) ≡ true) (sym u) k.sending;
        setup = inner_setup p s.core r.0 s.gathered w.core s.setup b room w.setup;
      };
    }

pub step_keeps : (p : List ℕ) (s : State) (b room : ℕ) → Keeps p s (step_rule p s b room).page (step_rule p s b room).state
unfolding step_rule
step_keeps p s b room =
    pick_if P (good p s) (λ g. pick_if P (sends s.sending) (λ u. inside_keeps p s room g u)
    (λ u. outside_keeps p s b room g (not_sending s.sending u)))
    (λ g. keeps_same)
  where
    P : Outcome → Type 0
    P o = Keeps p s o.page o.state

repeated_keeps : (bytes p : List ℕ) (s : State) (room : ℕ) → Keeps p s (repeated bytes p s room).page (repeated bytes p s room).state
unfolding repeated joined
repeated_keeps [] p s room = keeps_same
repeated_keeps (b ∷ bytes) p s room =
    pick_if P (sends s.sending) (λ u. keeps_same)
    (λ u. pick_if P (eqb (step_rule p s b room).answer 6) (λ e. keeps_same)
    (λ e. keeps_then (step_keeps p s b room) (repeated_keeps bytes (step_rule p s b room).page (step_rule p s b room).state
    (room - length (step_rule p s b room).reply))))
  where
    P : Ran → Type 0
    P r = Keeps p s r.page r.state

run_inside_keeps : (p : List ℕ) (s : State) (bytes : List ℕ) (room : ℕ) → good p s ≡ true → sends s.sending ≡ true
    → Keeps p s (run_inside p s bytes room).page (run_inside p s bytes room).state
unfolding run_inside behind
run_inside_keeps p s bytes room g u =
    pick_if (λ (r : Ran). Keeps p s r.page r.state) (eqb room 0) (λ e. keeps_same)
    (λ e. keeps_then (goes_keeps p s room g u (omega (arith, eqb-false room 0 e))) (unfold goes_on in repeated_keeps bytes p _ _))

pub run_keeps : (p : List ℕ) (s : State) (bytes : List ℕ) (room : ℕ) → Keeps p s (run_rule p s bytes room).page (run_rule p s bytes room).state
unfolding run_rule
run_keeps p s bytes room =
    pick_if P (good p s) (λ g. pick_if P (sends s.sending) (λ u. run_inside_keeps p s bytes room g u) (λ u. repeated_keeps bytes p s room))
    (λ g. keeps_same)
  where
    P : Ran → Type 0
    P r = Keeps p s r.page r.state

pub call_keeps : (p : List ℕ) (s : State) (c : Call) → Keeps p s (call_rule p s c).page (call_rule p s c).given.state
unfolding call_rule of_step of_run of_press
call_keeps p s (Step b room) = step_keeps p s b room
call_keeps p s (Run bytes room) = run_keeps p s bytes room
call_keeps p s (Press v room) = keeps_same

pub play_keeps : (calls : List Call) (p : List ℕ) (s : State) → Keeps p s (play calls p s).page (play calls p s).state
unfolding play after
play_keeps [] p s = keeps_same
play_keeps (c ∷ calls) p s = keeps_then (call_keeps p s c) (play_keeps calls (call_rule p s c).page (call_rule p s c).given.state)

pub step_good : (p : List ℕ) (s : State) (b room : ℕ) → good p s ≡ true → good (step_rule p s b room).page (step_rule p s b room).state ≡ true
step_good p s b room h = keeps_good (step_keeps p s b room) h

pub run_good : (p : List ℕ) (s : State) (bytes : List ℕ) (room : ℕ) → good p s ≡ true
    → good (run_rule p s bytes room).page (run_rule p s bytes room).state ≡ true
run_good p s bytes room h = keeps_good (run_keeps p s bytes room) h

pub call_good : (p : List ℕ) (s : State) (c : Call) → good p s ≡ true → good (call_rule p s c).page (call_rule p s c).given.state ≡ true
call_good p s c h = keeps_good (call_keeps p s c) h

pub play_good : (calls : List Call) (p : List ℕ) (s : State) → good p s ≡ true → good (play calls p s).page (play calls p s).state ≡ true
play_good calls p s h = keeps_good (play_keeps calls p s) h

-- ---- power_on_lem

pub power_on_possible : (m : Personality) → possible (power_on m) ≡ true
unfolding possible core_ok setup_ok power_on columns no_stops screen_ok unsplit_ok texts_ok text_ok all_text attributes_ok is_attribute features_ok feature_place
    remembered_ok pending_ok sending_ok
power_on_possible Personality.Wy50 = refl
power_on_possible Personality.Wy60 = refl

pub power_on_good_lem : (m : Personality) (p : List ℕ) → length p ≡ 1920 → good (power_on_rule m p).page (power_on_rule m p).state ≡ true
unfolding power_on_rule blank power_on columns
power_on_good_lem m p n = rw n (good_whole blank (power_on m) refl (power_on_possible m))

-- a page of the wrong length is left
pub power_on_length : (m : Personality) (p : List ℕ) → length (power_on_rule m p).page ≡ length p
unfolding power_on_rule blank
power_on_length m p =
    pick_if (λ (o : Outcome). length o.page ≡ length p) (eqb (length p) 1920) (λ e. sym (eqb-true (length p) 1920 e)) (λ e. refl)

pub kept : Kept
kept = record { call = call_keeps; list = play_keeps; stays_good = play_good; power_on_lem = power_on_good_lem }
