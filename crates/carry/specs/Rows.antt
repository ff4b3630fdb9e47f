-- What a byte does to the row list.
use Rattle.std.specs.Prelude.{ℕ, ◌+◌, ◌-◌, ◌/◌, Bool, true, not, List}
use Rattle.rules.specs.declared.Write.{Write}
use Rattle.rules.specs.Cell.{guarded}
use Rattle.rules.specs.Row.{height}
use Rattle.rules.specs.Search.{guarded_at}
use Rattle.rules.specs.RowList.{Beside}
use Rattle.rules.specs.Carry.{Effect}

-- a write leaves which cells are guarded as it is
unfoldable pub keeps_guards : Bool → Write → Bool
keeps_guards on Write.Nothing = true
keeps_guards on (Write.Fill a e v) = not (guarded on v)
keeps_guards on (Write.FillAll a e v) = not on
keeps_guards on (Write.Column top bottom c v) = not (guarded on v)
keeps_guards on (Write.Edit right at v) = not (guarded on v)
keeps_guards on (Write.Rows down top bottom) = not on

-- the rows that are counted again after a write, w being the page's width: the first, and the one past the last. A store and an edit touch one
unfoldable pub touched_top : ℕ → Write → ℕ
touched_top w Write.Nothing = 0
touched_top w (Write.Fill a e v) = a / w
touched_top w (Write.FillAll a e v) = 0
touched_top w (Write.Column top bottom c v) = 0
touched_top w (Write.Edit right at v) = at / w
touched_top w (Write.Rows down top bottom) = 0

unfoldable pub touched_bottom : ℕ → Write → ℕ
touched_bottom w Write.Nothing = 0
touched_bottom w (Write.Fill a e v) = (e + (w - 1)) / w
touched_bottom w (Write.FillAll a e v) = height
touched_bottom w (Write.Column top bottom c v) = height
touched_bottom w (Write.Edit right at v) = at / w + 1
touched_bottom w (Write.Rows down top bottom) = height

-- the list beside a page of the width w after an effect
abbrev pub BesideAfter : ℕ → Effect → List ℕ → Type 0
BesideAfter w e l = Beside w (guarded_at e.core.modes.protect e.page) l
