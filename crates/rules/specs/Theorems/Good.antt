-- A plan that stays inside the page: what carrying it out needs.
use Rattle.std.specs.Prelude.{◌≡◌, Bool, true, List, ℕ, ◌*◌, ◌<◌, ◌≤◌, length}
use Rattle.rules.specs.declared.Core.{Core}
use Rattle.rules.specs.declared.Command.{Command}
use Rattle.rules.specs.declared.Screen.{Screen}
use Rattle.rules.specs.declared.Plan.{Plan}
use Rattle.rules.specs.declared.Write.{Write}
use Rattle.rules.specs.declared.Write.TheVariants as Write
use Rattle.rules.specs.declared.Land.{Land}
use Rattle.rules.specs.declared.Land.TheVariants as Land
use Rattle.rules.specs.declared.Place.{Place}
use Rattle.rules.specs.declared.Place.TheVariants as Place
use Rattle.rules.specs.declared.Sending.{Sending}
use Rattle.rules.specs.declared.Sending.TheVariants as Sending
use Rattle.rules.specs.Row.{height, column_of}
use Rattle.rules.specs.State.{width_of, page_length, segment_start, segment_end, cursor_of, text_start}
use Rattle.rules.specs.Possible.{screen_ok, short_length, replies_on}
use Rattle.rules.specs.Plan.{plan_rule}
use Rattle.rules.specs.Carry.{plan_width}

-- its cells and rows lie in the page, w being its width
abbrev pub GoodWrite : ℕ → Write → Type 0
GoodWrite w Write.Nothing = Unit {0}
GoodWrite w (Write.Fill a e v) = (a ≤ e) × (e ≤ height * w)
GoodWrite w (Write.FillAll a e v) = (a ≤ e) × (e ≤ height * w)
GoodWrite w (Write.Column top bottom c v) = (top ≤ bottom) × ((bottom ≤ height) × (c < w))
GoodWrite w (Write.Edit right at v) = at < height * w
GoodWrite w (Write.Rows down top bottom) = (top ≤ bottom) × (bottom ≤ height)

-- a send stands at a place of its reply, the first or a later one
abbrev pub GoodPlace : Screen → Bool → Place → Type 0
GoodPlace x segment (Place.Cell i) = (text_start x segment ≤ i) × (i ≤ cursor_of x)
GoodPlace x segment (Place.Break i) = (column_of (width_of x) i ≡ 0) × ((text_start x segment < i) × (i ≤ cursor_of x))
GoodPlace x segment Place.Return = Unit {0}

abbrev pub GoodSend : Screen → Sending → Type 0
GoodSend x Sending.Nothing = Unit {0}
GoodSend x (Sending.Short r n) = (replies_on x r ≡ true) × (n < short_length r)
GoodSend x (Sending.Text all segment k) = GoodPlace x segment k

-- the cursor settles from a place of the active segment
abbrev pub GoodLand : Screen → Land → Type 0
GoodLand x Land.Stay = Unit {0}
GoodLand x (Land.Settle i) = (segment_start x ≤ i) × (i < segment_end x)

pub record GoodPlan (x : Plan) : Type 0 where
  pub one : GoodWrite (plan_width x) x.first
  pub two : GoodWrite (plan_width x) x.second
  pub reply : GoodSend x.next.screen x.reply
  pub screen : screen_ok x.next.screen ≡ true
  pub place : GoodLand x.next.screen x.land

-- every plan does, g being which cells of the page are guarded
abbrev pub GoodPlans : Type 0
GoodPlans =
    (c : Core) → screen_ok c.screen ≡ true → (g : List Bool) → length g ≡ page_length c.screen → (tabs : List Bool) (d : Command)
    → GoodPlan (plan_rule g tabs c d)
