-- The parts of a state that a reader can name, and the page, and what each holds.
use Rattle.std.specs.Prelude.{Bool, true, false, List, [], ◌∷◌, ℕ, eqb}
use Rattle.rules.specs.declared.Screen.{Screen}
use Rattle.rules.specs.declared.Personality.{Personality}
use Rattle.rules.specs.declared.Text.{Text}
use Rattle.rules.specs.declared.Core.{Core}
use Rattle.rules.specs.declared.Setup.{Setup}
use Rattle.rules.specs.Cell.{pick, either}
use Rattle.rules.specs.Theorems.Areas.{Area}
use Rattle.rules.specs.Theorems.Areas as Area

pub data Part : Type 0 where
  -- the modes
  Protect : Part
  WriteProtect : Part
  Insert : Part
  Autoscroll : Part
  Lock : Part
  Local : Part
  Bells : Part
  -- the WY-60's attribute; the personality
  Remembered : Part
  Model : Part
  -- the screen: the active segment, the split row, the active cursor and the other one
  Width : Part
  Active : Part
  Split : Part
  Cursor : Part
  Other : Part
  -- the set-up: tab stops, field attributes, features, keys, labels, the host message, the shifted line, the wish for a wide page
  Tabs : Part
  Fields : Part
  Features : Part
  Keys : Part
  Labels : Part
  Message : Part
  Line : Part
  Wish : Part
  -- the page, where
  Cells : Area → Part

-- what a part can hold
pub data Value : Type 0 where
  Flag : Bool → Value
  Number : ℕ → Value
  Flags : List Bool → Value
  Numbers : List ℕ → Value
  Texts : List (Text 8) → Value
  Long : Text 46 → Value
  Named : Personality → Value

-- the cursor of segment n, and of the other one
abbrev pub cursor_at : ℕ → Screen → ℕ
cursor_at n x = pick (eqb n 0) x.cursor0 x.cursor1

abbrev pub other_at : ℕ → Screen → ℕ
other_at n x = pick (eqb n 0) x.cursor1 x.cursor0

-- what a part holds, n being the active segment, and p the page
abbrev pub value : Part → ℕ → Core → Setup → List ℕ → Value
value Protect n c u p = Flag c.modes.protect
value WriteProtect n c u p = Flag c.modes.writeprotect
value Insert n c u p = Flag c.modes.insert
value Autoscroll n c u p = Flag c.modes.autoscroll
value Lock n c u p = Flag c.modes.locked
value Local n c u p = Flag c.modes.local
value Bells n c u p = Number c.bells
value Remembered n c u p = Number c.attribute
value Model n c u p = Named c.personality
value Width n c u p = Flag c.screen.wide
value Active n c u p = Number c.screen.active
value Split n c u p = Number c.screen.split
value Cursor n c u p = Number (cursor_at n c.screen)
value Other n c u p = Number (other_at n c.screen)
value Tabs n c u p = Flags u.tabs
value Fields n c u p = Numbers u.attributes
value Features n c u p = Numbers u.features
value Keys n c u p = Texts u.keys
value Labels n c u p = Texts u.labels
value Message n c u p = Long u.message
value Line n c u p = Flag u.shifted
value Wish n c u p = Flag u.wish
value (Cells a) n c u p = Numbers p

-- parts are told apart by numbers; and where on the page a part lies
abbrev pub tag : Part → ℕ × Area
tag Protect = (0, Area.None)
tag WriteProtect = (1, Area.None)
tag Insert = (2, Area.None)
tag Autoscroll = (3, Area.None)
tag Lock = (4, Area.None)
tag Local = (5, Area.None)
tag Bells = (6, Area.None)
tag Remembered = (7, Area.None)
tag Model = (8, Area.None)
tag Width = (9, Area.None)
tag Active = (10, Area.None)
tag Split = (11, Area.None)
tag Cursor = (12, Area.None)
tag Other = (13, Area.None)
tag Tabs = (14, Area.None)
tag Fields = (15, Area.None)
tag Features = (16, Area.None)
tag Keys = (17, Area.None)
tag Labels = (18, Area.None)
tag Message = (19, Area.None)
tag Line = (20, Area.None)
tag Wish = (21, Area.None)
tag (Cells a) = (22, a)

abbrev pub place : Part → ℕ
place x = (tag x).0

abbrev pub placed : ℕ → List Part → Bool
placed n [] = false
placed n (y ∷ l) = either (eqb n (place y)) (placed n l)

abbrev pub is_listed : Part → List Part → Bool
is_listed x l = placed (place x) l

-- the page, wherever it changes
abbrev pub page : Part
page = Cells Area.None

-- where on the page the parts of a row lie
abbrev pub area_of : List Part → Area
area_of [] = Area.None
area_of (x ∷ l) = pick (eqb (place x) 22) (tag x).1 (area_of l)
