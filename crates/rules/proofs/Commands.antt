-- What a command is, by its name and its arguments alone: whether its arguments are such as a byte comes to, which reply it asks for, whether it is
-- one of the six. Together they are its kind, over which the forms of plans are stated (Forms).
-- Assumes nothing.
use mathlib.Core.Bool.{Bool, true, false}
use mathlib.Core.List.{List, []}
use Prim.Native.Nat.{ℕ}
use lib.Dec.{ltb, eqb}
use Rattle.rules.specs.declared.Core.{Core}
use Rattle.rules.specs.declared.Contents.{Contents}
use Rattle.rules.specs.declared.Contents.TheVariants as Contents
use Rattle.rules.specs.declared.Personality.{Personality}
use Rattle.rules.specs.declared.Personality.TheVariants as Personality
use Rattle.rules.specs.declared.Pending.TheVariants as Pending
use Rattle.rules.specs.declared.Clear.{Clear}
use Rattle.rules.specs.declared.Setting.{Setting}
use Rattle.rules.specs.declared.Send.{Send}
use Rattle.rules.specs.declared.Excluded.{Excluded}
use Rattle.rules.specs.declared.Command.{Command}
use Rattle.rules.specs.declared.Command.TheVariants as Command
use Rattle.rules.specs.declared.Write.{Write}
use Rattle.rules.specs.declared.Write.TheVariants as Write
use Rattle.rules.specs.declared.SetupChange.{SetupChange}
use Rattle.rules.specs.declared.SetupChange.TheVariants as SetupChange
use Rattle.rules.specs.Cell.{both, either, between, normal, space}
use Rattle.rules.specs.Row.{columns}
use Rattle.rules.specs.State.{cursor_of}
use Rattle.rules.specs.Arguments.{is_flags, is_attribute, feature_place}
use Rattle.rules.specs.Plan.{unless_guarded, unless_wide, clear_plan, setting_plan, send_plan, excluded_plan}
use Rattle.rules.specs.Send.{command_of}
use Rattle.rules.specs.Writable.{writable}
use Rattle.rules.specs.Theorems.Parts.{Part}
use Rattle.rules.specs.Theorems.Frames.{command_parts}

-- ---- arguments

-- the number that a write puts into cells is writable
unfoldable pub write_ok : Personality → Write → Bool
write_ok m Write.Nothing = true
write_ok m (Write.Fill a e v) = writable m v
write_ok m (Write.FillAll a e v) = writable m v
write_ok m (Write.Column top bottom c v) = writable m v
write_ok m (Write.Edit right at v) = writable m v
write_ok m (Write.Rows down top bottom) = writable m space

-- a core to try arguments with
abbrev pub at_power_on : Core
at_power_on = record {
  screen = record { wide = false; active = 0; split = 0; cursor0 = 0; cursor1 = 0 };
  modes = record { protect = false; writeprotect = false; insert = false; autoscroll = true; locked = false; local = false };
  bells = 0;
  pending = Pending.Idle;
  personality = Personality.Wy50;
  attribute = normal;
}

-- a change that fits the set-up: its place is there, and its value from its list. w is the width of the page
unfoldable pub change_ok : ℕ → SetupChange → Bool
change_ok w SetupChange.Nothing = true
change_ok w (SetupChange.Tab c b) = ltb c w
change_ok w SetupChange.ClearTabs = true
change_ok w (SetupChange.Attribute n a) = both (ltb n 4) (is_attribute a)
change_ok w (SetupChange.Feature n f) = both (ltb n 5) (eqb (feature_place f) n)
change_ok w SetupChange.HideLine = true
change_ok w (SetupChange.Wish b) = true

-- a setting that makes such a change, from the core of a terminal at power-on
unfoldable pub setting_ok : Setting → Bool
unfolding setting_plan change_ok cursor_of columns
setting_ok x = change_ok 80 (setting_plan at_power_on x).change

-- contents that are stored, text or a graphic, and such as clearing writes: text, nulls or attributes
unfoldable pub store_ok : Contents → Bool
store_ok (Contents.Text c) = between 0x20 0x7e c
store_ok (Contents.Attribute c) = false
store_ok (Contents.Graphic c) = between 0x30 0x3f c

unfoldable pub fill_ok : Contents → Bool
fill_ok (Contents.Text c) = either (eqb c 0) (between 0x20 0x7e c)
fill_ok (Contents.Attribute c) = is_flags c
fill_ok (Contents.Graphic c) = false

-- clearing writes, from the core of a terminal at power-on, what both personalities may write
unfoldable pub clear_ok : Clear → Bool
unfolding clear_plan write_ok
clear_ok x = both (write_ok Personality.Wy50 (clear_plan at_power_on x).first) (write_ok Personality.Wy60 (clear_plan at_power_on x).first)

-- ---- what it asks for

-- the command that asks for a reply; 0 for one that replies nothing. As a terminal at power-on replies
unfoldable pub send_asked : Send → ℕ
unfolding send_plan unless_guarded unless_wide
send_asked x = command_of (send_plan [] at_power_on x).reply

unfoldable pub excluded_asked : Excluded → ℕ
unfolding excluded_plan
excluded_asked x = command_of (excluded_plan at_power_on x).reply

-- ---- the kinds

-- its arguments are good; the byte that asks for its reply, or 0; it is one of the six; the change of the set-up that it asks for, from a core
pub record Nature : Type 0 where
  pub ok : Bool
  pub asks : ℕ
  pub excluded : Bool
  pub change : Core → SetupChange

-- most ask for no reply and no change of the set-up
abbrev pub quiet : Bool → Nature
quiet b = record { ok = b; asks = 0; excluded = false; change = λ c. SetupChange.Nothing }

abbrev pub nature_of : Command → Nature
nature_of Command.Nothing = quiet true
nature_of (Command.Go m) = quiet true
nature_of (Command.Window x) = quiet true
nature_of (Command.Store k) = quiet (store_ok k)
nature_of (Command.Attribute a) = quiet (is_attribute a)
nature_of (Command.Edit x) = quiet true
nature_of (Command.Clear x) = quiet (clear_ok x)
nature_of (Command.Turn m b) = quiet true
nature_of Command.ProtectOn = quiet true
nature_of Command.Bell = quiet true
nature_of (Command.Set x) = record { ok = setting_ok x; asks = 0; excluded = false; change = λ c. (setting_plan c x).change }
nature_of (Command.Send x) = record { ok = true; asks = send_asked x; excluded = false; change = λ c. SetupChange.Nothing }
nature_of (Command.Excluded x) = record { ok = true; asks = excluded_asked x; excluded = true; change = λ c. SetupChange.Nothing }

-- and its row in Frames
pub record Kind : Type 0 where
  pub ok : Bool
  pub asks : ℕ
  pub excluded : Bool
  pub change : Core → SetupChange
  pub touches : List Part

abbrev pub kind_of : Command → Kind
kind_of d =
    let n = nature_of d in
    record { ok = n.ok; asks = n.asks; excluded = n.excluded; change = n.change; touches = command_parts d }
