-- Which parts of a state stay, group by group: a change of the modes, of the screen, of the set-up keeps each part that is not listed.
--     framed            of a core, from what is kept of its modes and its screen
--     change_keeps      of the set-up, after a command's change
--     stored_keeps      of the set-up, after a text
-- Assumes nothing.
use mathlib.Core.Path.{◌≡◌, refl, sym, ap, ◌∙◌}
use mathlib.Core.Bool.{Bool, true, false, false≢true}
use mathlib.Core.List.{List, [], ◌∷◌}
use Prim.Native.Nat.{ℕ}
use lib.Dec.{eqb}
use Rattle.rules.specs.declared.Screen.{Screen}
use Rattle.rules.specs.declared.Modes.{Modes}
use Rattle.rules.specs.declared.Mode.{Mode}
use Rattle.rules.specs.declared.Mode.TheVariants as Mode
use Rattle.rules.specs.declared.Slot.{Slot}
use Rattle.rules.specs.declared.Slot.TheVariants as Slot
use Rattle.rules.specs.declared.Core.{Core}
use Rattle.rules.specs.declared.Setup.{Setup}
use Rattle.rules.specs.declared.SetupChange.{SetupChange}
use Rattle.rules.specs.declared.SetupChange.TheVariants as SetupChange
use Rattle.rules.specs.Cell.{pick}
use Rattle.rules.specs.State.{with_mode, changed, stored}
use Rattle.rules.specs.Theorems.Parts.{Part, Value, cursor_at, other_at, value, is_listed}
use Rattle.rules.specs.Theorems.Parts as Part
use Rattle.rules.specs.Theorems.Frames.{mode_parts, slot_parts}

-- a part that is listed is not to be kept
pub may : {A : Type 0} → true ≡ false → A
may h = absurd (false≢true (sym h))

pub never : {A : Type 0} {t : Bool} → t ≡ true → t ≡ false → A
never a e = absurd (false≢true (sym e ∙ a))

-- ---- of a core

pub record ModesKept (l : List Part) (m n : Modes) : Type 0 where
  pub protect : is_listed Part.Protect l ≡ false → n.protect ≡ m.protect
  pub writeprotect : is_listed Part.WriteProtect l ≡ false → n.writeprotect ≡ m.writeprotect
  pub insert : is_listed Part.Insert l ≡ false → n.insert ≡ m.insert
  pub autoscroll : is_listed Part.Autoscroll l ≡ false → n.autoscroll ≡ m.autoscroll
  pub locked : is_listed Part.Lock l ≡ false → n.locked ≡ m.locked
  pub local : is_listed Part.Local l ≡ false → n.local ≡ m.local

-- a cursor is that of segment n, which is active afterwards
pub record ScreenKept (l : List Part) (n : ℕ) (x y : Screen) : Type 0 where
  pub wide : y.wide ≡ x.wide
  pub active : is_listed Part.Active l ≡ false → y.active ≡ x.active
  pub split : is_listed Part.Split l ≡ false → y.split ≡ x.split
  pub cursor : is_listed Part.Cursor l ≡ false → cursor_at n y ≡ cursor_at n x
  pub other : is_listed Part.Other l ≡ false → other_at n y ≡ other_at n x

-- the parts of m that are not listed hold what they held in c
pub record CoreKept (l : List Part) (n : ℕ) (c m : Core) : Type 0 where
  pub part : (x : Part) → is_listed x l ≡ false → (u : Setup) (p : List ℕ) → value x n m u p ≡ value x n c u p

pub same_modes : {l : List Part} {m : Modes} → ModesKept l m m
same_modes = record {
  protect = λ h. refl;
  writeprotect = λ h. refl;
  insert = λ h. refl;
  autoscroll = λ h. refl;
  locked = λ h. refl;
  local = λ h. refl;
}

module _ {l : List Part} {n : ℕ} where
  pub same_screen : {x : Screen} → ScreenKept l n x x
  same_screen = record { wide = refl; active = λ h. refl; split = λ h. refl; cursor = λ h. refl; other = λ h. refl }

  part_framed : (c m : Core) → ModesKept l c.modes m.modes → ScreenKept l n c.screen m.screen
      → (is_listed Part.Bells l ≡ false → m.bells ≡ c.bells) → (is_listed Part.Remembered l ≡ false → m.attribute ≡ c.attribute)
      → m.personality ≡ c.personality
      → (x : Part) → is_listed x l ≡ false → (u : Setup) (p : List ℕ) → value x n m u p ≡ value x n c u p
  part_framed c m k s b a w Part.Protect h u p = ap Part.Flag (k.protect h)
  part_framed c m k s b a w Part.WriteProtect h u p = ap Part.Flag (k.writeprotect h)
  part_framed c m k s b a w Part.Insert h u p = ap Part.Flag (k.insert h)
  part_framed c m k s b a w Part.Autoscroll h u p = ap Part.Flag (k.autoscroll h)
  part_framed c m k s b a w Part.Lock h u p = ap Part.Flag (k.locked h)
  part_framed c m k s b a w Part.Local h u p = ap Part.Flag (k.local h)
  part_framed c m k s b a w Part.Bells h u p = ap Part.Number (b h)
  part_framed c m k s b a w Part.Remembered h u p = ap Part.Number (a h)
  part_framed c m k s b a w Part.Model h u p = ap Part.Named w
  part_framed c m k s b a w Part.Width h u p = ap Part.Flag s.wide
  part_framed c m k s b a w Part.Active h u p = ap Part.Number (s.active h)
  part_framed c m k s b a w Part.Split h u p = ap Part.Number (s.split h)
  part_framed c m k s b a w Part.Cursor h u p = ap Part.Number (s.cursor h)
  part_framed c m k s b a w Part.Other h u p = ap Part.Number (s.other h)
  part_framed c m k s b a w Part.Tabs h u p = refl
  part_framed c m k s b a w Part.Fields h u p = refl
  part_framed c m k s b a w Part.Features h u p = refl
  part_framed c m k s b a w Part.Keys h u p = refl
  part_framed c m k s b a w Part.Labels h u p = refl
  part_framed c m k s b a w Part.Message h u p = refl
  part_framed c m k s b a w Part.Line h u p = refl
  part_framed c m k s b a w Part.Wish h u p = refl
  part_framed c m k s b a w (Part.Cells z) h u p = refl

  pub framed : {c m : Core} → ModesKept l c.modes m.modes → ScreenKept l n c.screen m.screen
      → (is_listed Part.Bells l ≡ false → m.bells ≡ c.bells) → (is_listed Part.Remembered l ≡ false → m.attribute ≡ c.attribute)
      → m.personality ≡ c.personality → CoreKept l n c m
  framed k s b a w = record { part = part_framed _ _ k s b a w }

  pub same_core : {c : Core} → CoreKept l n c c
  same_core = record { part = λ x h u p. refl }

  pub kept_on : {c m d : Core} → CoreKept l n c m → CoreKept l n m d → CoreKept l n c d
  kept_on h k = record { part = λ x o u p. k.part x o u p ∙ h.part x o u p }

pub turned_modes : (m : Modes) (k : Mode) (b : Bool) → ModesKept (mode_parts k) m (with_mode m k b)
unfolding with_mode
turned_modes m Mode.WriteProtect b = record {
  protect = λ h. refl;
  writeprotect = may;
  insert = λ h. refl;
  autoscroll = λ h. refl;
  locked = λ h. refl;
  local = λ h. refl;
}
turned_modes m Mode.Insert b = record {
  protect = λ h. refl;
  writeprotect = λ h. refl;
  insert = may;
  autoscroll = λ h. refl;
  locked = λ h. refl;
  local = λ h. refl;
}
turned_modes m Mode.Autoscroll b = record {
  protect = λ h. refl;
  writeprotect = λ h. refl;
  insert = λ h. refl;
  autoscroll = may;
  locked = λ h. refl;
  local = λ h. refl;
}
turned_modes m Mode.Lock b = record {
  protect = λ h. refl;
  writeprotect = λ h. refl;
  insert = λ h. refl;
  autoscroll = λ h. refl;
  locked = may;
  local = λ h. refl;
}
turned_modes m Mode.LocalEdit b = record {
  protect = λ h. refl;
  writeprotect = λ h. refl;
  insert = λ h. refl;
  autoscroll = λ h. refl;
  locked = λ h. refl;
  local = may;
}

-- ---- of the set-up

pub record SetupKept (l : List Part) (u v : Setup) : Type 0 where
  pub tabs : is_listed Part.Tabs l ≡ false → v.tabs ≡ u.tabs
  pub attributes : is_listed Part.Fields l ≡ false → v.attributes ≡ u.attributes
  pub features : is_listed Part.Features l ≡ false → v.features ≡ u.features
  pub keys : is_listed Part.Keys l ≡ false → v.keys ≡ u.keys
  pub labels : is_listed Part.Labels l ≡ false → v.labels ≡ u.labels
  pub message : is_listed Part.Message l ≡ false → v.message ≡ u.message
  pub shifted : is_listed Part.Line l ≡ false → v.shifted ≡ u.shifted
  pub wish : is_listed Part.Wish l ≡ false → v.wish ≡ u.wish

pub setup_framed : {l : List Part} {u v : Setup} → SetupKept l u v → (x : Part) → is_listed x l ≡ false → (n : ℕ) (c : Core) (p : List ℕ)
    → value x n c v p ≡ value x n c u p
setup_framed k Part.Protect h n c p = refl
setup_framed k Part.WriteProtect h n c p = refl
setup_framed k Part.Insert h n c p = refl
setup_framed k Part.Autoscroll h n c p = refl
setup_framed k Part.Lock h n c p = refl
setup_framed k Part.Local h n c p = refl
setup_framed k Part.Bells h n c p = refl
setup_framed k Part.Remembered h n c p = refl
setup_framed k Part.Model h n c p = refl
setup_framed k Part.Width h n c p = refl
setup_framed k Part.Active h n c p = refl
setup_framed k Part.Split h n c p = refl
setup_framed k Part.Cursor h n c p = refl
setup_framed k Part.Other h n c p = refl
setup_framed k Part.Tabs h n c p = ap Part.Flags (k.tabs h)
setup_framed k Part.Fields h n c p = ap Part.Numbers (k.attributes h)
setup_framed k Part.Features h n c p = ap Part.Numbers (k.features h)
setup_framed k Part.Keys h n c p = ap Part.Texts (k.keys h)
setup_framed k Part.Labels h n c p = ap Part.Texts (k.labels h)
setup_framed k Part.Message h n c p = ap Part.Long (k.message h)
setup_framed k Part.Line h n c p = ap Part.Flag (k.shifted h)
setup_framed k Part.Wish h n c p = ap Part.Flag (k.wish h)
setup_framed k (Part.Cells z) h n c p = refl

-- ---- of the page

pub page_framed : (l : List Part) {p q : List ℕ} → (is_listed Part.page l ≡ false → q ≡ p) → (x : Part) → is_listed x l ≡ false
    → (n : ℕ) (c : Core) (u : Setup)
    → value x n c u q ≡ value x n c u p
page_framed l e (Part.Cells z) h n c u = ap Part.Numbers (e h)
page_framed l e Part.Protect h n c u = refl
page_framed l e Part.WriteProtect h n c u = refl
page_framed l e Part.Insert h n c u = refl
page_framed l e Part.Autoscroll h n c u = refl
page_framed l e Part.Lock h n c u = refl
page_framed l e Part.Local h n c u = refl
page_framed l e Part.Bells h n c u = refl
page_framed l e Part.Remembered h n c u = refl
page_framed l e Part.Model h n c u = refl
page_framed l e Part.Width h n c u = refl
page_framed l e Part.Active h n c u = refl
page_framed l e Part.Split h n c u = refl
page_framed l e Part.Cursor h n c u = refl
page_framed l e Part.Other h n c u = refl
page_framed l e Part.Tabs h n c u = refl
page_framed l e Part.Fields h n c u = refl
page_framed l e Part.Features h n c u = refl
page_framed l e Part.Keys h n c u = refl
page_framed l e Part.Labels h n c u = refl
page_framed l e Part.Message h n c u = refl
page_framed l e Part.Line h n c u = refl
page_framed l e Part.Wish h n c u = refl

-- the one part that a change of the set-up is of
abbrev pub change_parts : SetupChange → List Part
change_parts SetupChange.Nothing = []
change_parts (SetupChange.Tab c b) = Part.Tabs ∷ []
change_parts SetupChange.ClearTabs = Part.Tabs ∷ []
change_parts (SetupChange.Attribute n a) = Part.Fields ∷ []
change_parts (SetupChange.Feature n f) = Part.Features ∷ []
change_parts SetupChange.HideLine = Part.Line ∷ []
change_parts (SetupChange.Wish b) = Part.Wish ∷ []

abbrev pub ChangeKept : List Part → SetupChange → Type 0
ChangeKept l y = (u : Setup) → SetupKept l u (changed y u)

pub no_change : {l : List Part} → ChangeKept l SetupChange.Nothing
unfolding changed
no_change u = record {
  tabs = λ h. refl;
  attributes = λ h. refl;
  features = λ h. refl;
  keys = λ h. refl;
  labels = λ h. refl;
  message = λ h. refl;
  shifted = λ h. refl;
  wish = λ h. refl;
}

pub change_keeps : (y : SetupChange) → ChangeKept (change_parts y) y
unfolding changed
change_keeps SetupChange.Nothing u = no_change u
change_keeps (SetupChange.Tab c b) u = record {
  tabs = may;
  attributes = λ h. refl;
  features = λ h. refl;
  keys = λ h. refl;
  labels = λ h. refl;
  message = λ h. refl;
  shifted = λ h. refl;
  wish = λ h. refl;
}
change_keeps SetupChange.ClearTabs u = record {
  tabs = may;
  attributes = λ h. refl;
  features = λ h. refl;
  keys = λ h. refl;
  labels = λ h. refl;
  message = λ h. refl;
  shifted = λ h. refl;
  wish = λ h. refl;
}
change_keeps (SetupChange.Attribute n a) u = record {
  tabs = λ h. refl;
  attributes = may;
  features = λ h. refl;
  keys = λ h. refl;
  labels = λ h. refl;
  message = λ h. refl;
  shifted = λ h. refl;
  wish = λ h. refl;
}
change_keeps (SetupChange.Feature n f) u = record {
  tabs = λ h. refl;
  attributes = λ h. refl;
  features = may;
  keys = λ h. refl;
  labels = λ h. refl;
  message = λ h. refl;
  shifted = λ h. refl;
  wish = λ h. refl;
}
change_keeps SetupChange.HideLine u = record {
  tabs = λ h. refl;
  attributes = λ h. refl;
  features = λ h. refl;
  keys = λ h. refl;
  labels = λ h. refl;
  message = λ h. refl;
  shifted = may;
  wish = λ h. refl;
}
change_keeps (SetupChange.Wish b) u = record {
  tabs = λ h. refl;
  attributes = λ h. refl;
  features = λ h. refl;
  keys = λ h. refl;
  labels = λ h. refl;
  message = λ h. refl;
  shifted = λ h. refl;
  wish = may;
}

pub stored_keeps : (x : Slot) (l : List ℕ) (u : Setup) → SetupKept (slot_parts x) u (stored x l u)
unfolding stored
stored_keeps (Slot.Key v) l u = record {
  tabs = λ h. refl;
  attributes = λ h. refl;
  features = λ h. refl;
  keys = may;
  labels = λ h. refl;
  message = λ h. refl;
  shifted = λ h. refl;
  wish = λ h. refl;
}
stored_keeps (Slot.Label v) l u = record {
  tabs = λ h. refl;
  attributes = λ h. refl;
  features = λ h. refl;
  keys = λ h. refl;
  labels = may;
  message = λ h. refl;
  shifted = may;
  wish = λ h. refl;
}
stored_keeps Slot.Message l u = record {
  tabs = λ h. refl;
  attributes = λ h. refl;
  features = λ h. refl;
  keys = λ h. refl;
  labels = λ h. refl;
  message = may;
  shifted = λ h. refl;
  wish = λ h. refl;
}
