-- What turns the shifted line on and off, and that nothing else does.
--     shifted_line     the statement
-- Assumes nothing.
use mathlib.Core.Path.{◌≡◌, refl, ◌∙◌}
use mathlib.Core.Bool.{Bool, true, false, false≢true}
use mathlib.Core.List.{List}
use Prim.Native.Nat.{ℕ, ◌≤◌}
use native.Mathlib.Omega.{arith}
use lib.Dec.{ltb, eqb}
use lib.ListN.{take}
use borrow.Author.Tests.{ltb-false, eqb-true}
use Rattle.rules.specs.declared.Answer.TheVariants as Answer
use Rattle.rules.specs.declared.Core.{Core}
use Rattle.rules.specs.declared.Setup.{Setup}
use Rattle.rules.specs.declared.State.{State}
use Rattle.rules.specs.declared.Plan.{Plan}
use Rattle.rules.specs.declared.SetupChange.{SetupChange}
use Rattle.rules.specs.declared.SetupChange.TheVariants as SetupChange
use Rattle.rules.specs.declared.Slot.{Slot}
use Rattle.rules.specs.declared.Slot.TheVariants as Slot
use Rattle.rules.specs.declared.Pending.{Pending}
use Rattle.rules.specs.declared.Pending.TheVariants as Pending
use Rattle.rules.specs.declared.Argument.{Argument}
use Rattle.rules.specs.declared.Argument.TheVariants as Argument
use Rattle.rules.specs.declared.Window.{Window}
use Rattle.rules.specs.declared.Edit.{Edit}
use Rattle.rules.specs.declared.Clear.{Clear}
use Rattle.rules.specs.declared.Send.{Send}
use Rattle.rules.specs.declared.Excluded.{Excluded}
use Rattle.rules.specs.declared.Setting.{Setting}
use Rattle.rules.specs.declared.Setting.TheVariants as Setting
use Rattle.rules.specs.declared.Command.{Command}
use Rattle.rules.specs.declared.Command.TheVariants as Command
use Rattle.rules.specs.declared.Decoded.{Decoded}
use Rattle.rules.specs.declared.Decoded.TheVariants as Decoded
use Rattle.rules.specs.Cell.{pick, both, either}
use Rattle.rules.specs.Search.{guarded_at}
use Rattle.rules.specs.State.{idle, is_idle, sends, changed, stored, setup_after}
use Rattle.rules.specs.Arguments.{is_key, is_label}
use Rattle.rules.specs.Slot.{slot_end, slot_most, slot_low, is_text}
use Rattle.rules.specs.Possible.{power_on, good}
use Rattle.rules.specs.Decode.{lookup, controls, escapes, idle_rule, escape_rule, judged, feature_rule, field_rule, split_rule, digit_rule}
use Rattle.rules.specs.Decode.{decimal_row_rule, decimal_column_rule, slot_rule, text_rule, spoilt_rule, argument_rule, decode_rule}
use Rattle.rules.specs.Plan.{setting_plan, plan_rule}
use Rattle.rules.specs.Carry.{Effect, done, begun, carried}
use Rattle.rules.specs.Step.{obeyed, inner_rule, Outcome, goes_on, step_inside, step_rule}
use Rattle.rules.specs.Calls.{of_press, call_rule}
use Rattle.rules.specs.Theorems.ShiftedLine.{line_after, slot_awaited, upper_text, upper_under_way, ShiftedLine}
use Rattle.rules.proofs.Tests.{pick_if}
use Rattle.rules.proofs.Commands.{Kind, at_power_on, kind_of}
use Rattle.rules.proofs.Forms.{Form, a_refusal, a_reply, a_change, a_write, formed}
use Rattle.rules.proofs.Sends.{sending_idle}
use Rattle.rules.proofs.Kept.{possible_parts, good_parts}
use Rattle.rules.proofs.Decoding.{entries_ok, looked_up}

-- ---- no command but a setting changes the set-up

abbrev Still : Plan → Type 0
Still x = x.change ≡ SetupChange.Nothing

still : {k : Kind} {g : List Bool} {c : Core} {x : Plan} → k.change c ≡ SetupChange.Nothing → Form k g c x → Still x
still h (a_refusal a e) = refl
still h (a_reply y e n r i) = refl
still h (a_change y e f i) = e ∙ h
still h (a_write m a b o e i) = refl

-- ---- the line after what a byte comes to

-- a change leaves the line as it is, but for one that hides it
abbrev keeps_line : SetupChange → Bool
keeps_line SetupChange.Nothing = true
keeps_line (SetupChange.Tab c b) = true
keeps_line SetupChange.ClearTabs = true
keeps_line (SetupChange.Attribute n a) = true
keeps_line (SetupChange.Feature n f) = true
keeps_line SetupChange.HideLine = false
keeps_line (SetupChange.Wish b) = true

abbrev command_stays : Command → Bool
command_stays d = keeps_line ((kind_of d).change at_power_on)

abbrev decoded_line : List ℕ → Bool → Decoded → Bool
decoded_line g t (Decoded.Wait q) = t
decoded_line g t (Decoded.Gather x n b) = t
decoded_line g t (Decoded.Take x n) = either (upper_text x (take n g)) t
decoded_line g t (Decoded.Reject a) = t
decoded_line g t (Decoded.Do d) = pick (command_stays d) t false

module _ (p : List ℕ) (c : Core) (g : List ℕ) (u : Setup) (room : ℕ) where
  still_carried : (x : Plan) → Still x → (setup_after (carried p c x room).change g u).shifted ≡ u.shifted
  unfolding carried begun done setup_after changed
  still_carried x h =
      pick_if P (sends x.reply) (λ d. pick_if P (eqb room 0) (λ e. refl) (λ e. refl)) (λ d. rw h)
    where
      P : Effect → Type 0
      P e = (setup_after e.change g u).shifted ≡ u.shifted

  setting_line : (x : Setting)
      → (setup_after (carried p c (setting_plan (idle c) x) room).change g u).shifted ≡ pick (command_stays (Command.Set x)) u.shifted false
  unfolding setting_plan carried done setup_after changed
  setting_line (Setting.Tab b) = refl
  setting_line Setting.ClearTabs = refl
  setting_line (Setting.Attribute n a) = refl
  setting_line (Setting.Feature f) = refl
  setting_line Setting.HideLine = refl
  setting_line (Setting.Wish b) = refl

  still_formed : (tabs : List Bool) (d : Command) → (kind_of d).change (idle c) ≡ SetupChange.Nothing
      → (setup_after (carried p c (plan_rule (guarded_at c.modes.protect p) tabs (idle c) d) room).change g u).shifted ≡ u.shifted
  still_formed tabs d h = still_carried _ (still h (formed (guarded_at c.modes.protect p) (idle c) tabs d))

  command_line : (tabs : List Bool) (d : Command)
      → (setup_after (carried p c (plan_rule (guarded_at c.modes.protect p) tabs (idle c) d) room).change g u).shifted
      ≡ pick (command_stays d) u.shifted false
  unfolding plan_rule
  command_line tabs Command.Nothing = still_formed tabs Command.Nothing refl
  command_line tabs (Command.Go m) = still_formed tabs (Command.Go m) refl
  command_line tabs (Command.Window x) = still_formed tabs (Command.Window x) refl
  command_line tabs (Command.Store k) = still_formed tabs (Command.Store k) refl
  command_line tabs (Command.Attribute a) = still_formed tabs (Command.Attribute a) refl
  command_line tabs (Command.Edit x) = still_formed tabs (Command.Edit x) refl
  command_line tabs (Command.Clear x) = still_formed tabs (Command.Clear x) refl
  command_line tabs (Command.Turn m b) = still_formed tabs (Command.Turn m b) refl
  command_line tabs Command.ProtectOn = still_formed tabs Command.ProtectOn refl
  command_line tabs Command.Bell = still_formed tabs Command.Bell refl
  command_line tabs (Command.Set x) = setting_line x
  command_line tabs (Command.Send x) = still_formed tabs (Command.Send x) refl
  command_line tabs (Command.Excluded x) = still_formed tabs (Command.Excluded x) refl

  taken_line : (x : Slot) (n : ℕ) → (stored x (take n g) u).shifted ≡ either (upper_text x (take n g)) u.shifted
  unfolding stored
  taken_line (Slot.Key v) n = refl
  taken_line (Slot.Label v) n = refl
  taken_line Slot.Message n = refl

  obeyed_line : (tabs : List Bool) (d : Decoded) → (setup_after (obeyed p c tabs d room).change g u).shifted ≡ decoded_line g u.shifted d
  unfolding obeyed setup_after changed
  obeyed_line tabs (Decoded.Wait q) = refl
  obeyed_line tabs (Decoded.Gather x n b) = refl
  obeyed_line tabs (Decoded.Take x n) = taken_line x n
  obeyed_line tabs (Decoded.Reject a) = refl
  obeyed_line tabs (Decoded.Do d) = command_line tabs d

-- ---- the line after a byte

-- no text ends, and the line is not hidden
abbrev stays : Decoded → Bool
stays (Decoded.Wait q) = true
stays (Decoded.Gather x n b) = true
stays (Decoded.Take x n) = false
stays (Decoded.Reject a) = true
stays (Decoded.Do d) = command_stays d

controls_stay : entries_ok stays controls ≡ true
unfolding entries_ok setting_plan
controls_stay = refl

escapes_stay : entries_ok stays escapes ≡ true
unfolding entries_ok setting_plan
escapes_stay = refl

both_none : (t : Bool) → both t false ≡ false
both_none true = refl
both_none false = refl

both_one : (t : Bool) → both t true ≡ t
both_one true = refl
both_one false = refl

not_equal : (b k : ℕ) → (b ≡ k → ⊥) → eqb b k ≡ false
not_equal b k h = by (eqb b k) refl
  where
    by : (t : Bool) → eqb b k ≡ t → t ≡ false
    by true e = absurd (h (eqb-true b k e))
    by false e = refl

module _ (g : List ℕ) (t : Bool) where
  decoded_stays : (d : Decoded) → stays d ≡ true → decoded_line g t d ≡ t
  decoded_stays (Decoded.Wait q) e = refl
  decoded_stays (Decoded.Gather x n b) e = refl
  decoded_stays (Decoded.Take x n) e = absurd (false≢true e)
  decoded_stays (Decoded.Reject a) e = refl
  decoded_stays (Decoded.Do d) e = rw e

  line_pick : (s : Bool) (d e : Decoded) → decoded_line g t d ≡ t → decoded_line g t e ≡ t → decoded_line g t (pick s d e) ≡ t
  line_pick s d e h k = pick_if (λ (d : Decoded). decoded_line g t d ≡ t) s (λ z. h) (λ z. k)

  idle_line : (b : ℕ) → decoded_line g t (idle_rule b) ≡ t
  unfolding idle_rule
  idle_line b =
      pick_if (λ (d : Decoded). decoded_line g t d ≡ t) (ltb b 0x20)
      (λ e. decoded_stays (lookup controls (Decoded.Do Command.Nothing) b)
      (looked_up stays controls (Decoded.Do Command.Nothing) b controls_stay refl))
      (λ e. pick_if (λ (d : Decoded). decoded_line g t d ≡ t) (ltb b 0x7f) (λ z. refl) (λ z. refl))

  escape_line : (b : ℕ) → decoded_line g t (escape_rule b) ≡ t
  unfolding escape_rule
  escape_line b =
      decoded_stays (lookup escapes (Decoded.Reject Answer.Unknown) b) (looked_up stays escapes (Decoded.Reject Answer.Unknown) b escapes_stay refl)

  slot_line : (b : ℕ) → decoded_line g t (slot_rule b) ≡ pick (eqb b 0x7f) false t
  unfolding slot_rule judged is_key is_label setting_plan
  slot_line b = by (eqb b 0x7f) refl
    where
      by : (s : Bool) → eqb b 0x7f ≡ s → decoded_line g t (slot_rule b) ≡ pick s false t
      by true e = rw (eqb-true b 0x7f e)
      by false e = rw e (search line_pick)

  argument_line : (a : Argument) (b : ℕ) → decoded_line g t (argument_rule a b) ≡ line_after (Pending.Awaits a) g b t
  unfolding argument_rule split_rule feature_rule judged setting_plan
  argument_line Argument.Address b = refl
  argument_line Argument.Segment b = refl
  argument_line Argument.Split b = search line_pick
  argument_line Argument.SplitRow b = refl
  argument_line Argument.Attribute b = search line_pick
  argument_line Argument.Graphic b = search line_pick
  argument_line Argument.FillAttribute b = search line_pick
  argument_line Argument.FillCode b = search line_pick
  argument_line Argument.Feature b = search line_pick
  argument_line Argument.FieldAttribute b = refl
  argument_line Argument.Slot b = slot_line b

  label_line : (v n b : ℕ) (s : Bool) → eqb b 0x0d ≡ s
      → decoded_line g t (text_rule (Slot.Label v) n b) ≡ line_after (Pending.Text (Slot.Label v) n) g b t
  unfolding text_rule slot_end
  label_line v n b true e = rw (e, both_one (upper_text (Slot.Label v) (take n g)))
  label_line v n b false e =
      rw (e, both_none (upper_text (Slot.Label v) (take n g)))
      (line_pick (both (ltb n (slot_most (Slot.Label v))) (is_text (slot_low (Slot.Label v)) b)) (Decoded.Gather (Slot.Label v) n b)
      (Decoded.Wait (Pending.Spoilt (Slot.Label v))) refl refl)

  text_line : (x : Slot) (n b : ℕ) → decoded_line g t (text_rule x n b) ≡ line_after (Pending.Text x n) g b t
  unfolding text_rule
  text_line (Slot.Key v) n b = search line_pick
  text_line (Slot.Label v) n b = label_line v n b (eqb b 0x0d) refl
  text_line Slot.Message n b = search line_pick

  decoded_line_lem : (q : Pending) (b : ℕ) → decoded_line g t (decode_rule q b) ≡ line_after q g b t
  unfolding decode_rule decimal_row_rule decimal_column_rule digit_rule field_rule judged spoilt_rule setting_plan
  decoded_line_lem Pending.Idle b = idle_line b
  decoded_line_lem Pending.Escape b = escape_line b
  decoded_line_lem (Pending.Awaits a) b = argument_line a b
  decoded_line_lem (Pending.AddressRow r) b = refl
  decoded_line_lem (Pending.SegmentNumber n) b = refl
  decoded_line_lem (Pending.SegmentRow n r) b = refl
  decoded_line_lem (Pending.DecimalRow n row) b = search line_pick
  decoded_line_lem (Pending.DecimalColumn row n column) b = search line_pick
  decoded_line_lem (Pending.FieldNumber n) b = search line_pick
  decoded_line_lem (Pending.Text x n) b = text_line x n b
  decoded_line_lem (Pending.Spoilt x) b = search line_pick

  -- 80h and above
  high_line : (q : Pending) (b : ℕ) → 128 ≤ b → t ≡ line_after q g b t
  high_line q b h =
      rw (
        not_equal b 0x7f (λ e. omega (arith, e)),
        not_equal b 0x0d (λ e. omega (arith, e)),
        both_none (slot_awaited q),
        both_none
            (upper_under_way q g),
      )

byte_line : (p : List ℕ) (s : State) (b room : ℕ)
    → (setup_after (inner_rule p s.core s.setup.tabs b room).change s.gathered s.setup).shifted
    ≡ line_after s.core.pending s.gathered b s.setup.shifted
unfolding inner_rule setup_after changed
byte_line p s b room =
    pick_if
    (λ (e : Effect). (setup_after e.change s.gathered s.setup).shifted ≡ line_after s.core.pending s.gathered b s.setup.shifted)
    (ltb b 128)
    (λ e. obeyed_line p s.core s.gathered s.setup room s.setup.tabs (decode_rule s.core.pending b)
    ∙ decoded_line_lem s.gathered s.setup.shifted s.core.pending b)
    (λ e. high_line s.gathered s.setup.shifted s.core.pending b (ltb-false b 128 e))

-- no sequence is under way
idle_is : (q : Pending) (g : List ℕ) (b : ℕ) (t : Bool) → is_idle q ≡ true → t ≡ line_after q g b t
idle_is Pending.Idle g b t e = refl
idle_is Pending.Escape g b t e = refl
idle_is (Pending.Awaits a) g b t e = absurd (false≢true e)
idle_is (Pending.AddressRow r) g b t e = refl
idle_is (Pending.SegmentNumber n) g b t e = refl
idle_is (Pending.SegmentRow n r) g b t e = refl
idle_is (Pending.DecimalRow n row) g b t e = refl
idle_is (Pending.DecimalColumn row n column) g b t e = refl
idle_is (Pending.FieldNumber n) g b t e = refl
idle_is (Pending.Text x n) g b t e = absurd (false≢true e)
idle_is (Pending.Spoilt x) g b t e = refl

-- inside a send any byte waits
inside_line : (p : List ℕ) (s : State) (b room : ℕ) → good p s ≡ true → sends s.sending ≡ true
    → (step_inside p s room).state.setup.shifted ≡ line_after s.core.pending s.gathered b s.setup.shifted
unfolding step_inside goes_on
inside_line p s b room h u =
    let w = possible_parts s (good_parts p s h).1 in
    let e = idle_is s.core.pending s.gathered b s.setup.shifted
    (sending_idle s.core.screen s.core.pending s.sending w.sending u) in
    pick_if (λ (o : Outcome). o.state.setup.shifted ≡ line_after s.core.pending s.gathered b s.setup.shifted) (eqb room 0) (λ z. e)
    (λ z. e)

step_line : (p : List ℕ) (s : State) (b room : ℕ) → good p s ≡ true
    → (step_rule p s b room).state.setup.shifted ≡ line_after s.core.pending s.gathered b s.setup.shifted
unfolding step_rule
step_line p s b room h =
    rw h (pick_if (λ (o : Outcome). o.state.setup.shifted ≡ line_after s.core.pending s.gathered b s.setup.shifted) (sends s.sending)
    (inside_line p s b room h) (λ u. byte_line p s b room))

pub shifted_line : ShiftedLine
unfolding step_rule call_rule of_press power_on
shifted_line = record {
  power_on_lem = λ m. refl;
  step = step_line;
  bad = λ p s b room h. rw h;
  press = λ p s v room. refl;
}
