-- A plan carried out: the only place that reads or writes a cell's contents.
use Rattle.std.specs.Prelude.{Bool, true, false, List, [], ◌∷◌, ◌++◌, ℕ, ◌-◌, eqb}
use Rattle.rules.specs.declared.Core.{Core}
use Rattle.rules.specs.declared.Plan.{Plan}
use Rattle.rules.specs.declared.Write.{Write}
use Rattle.rules.specs.declared.Write.TheVariants as Write
use Rattle.rules.specs.declared.Change.{Change}
use Rattle.rules.specs.declared.Change.TheVariants as Change
use Rattle.rules.specs.declared.Land.{Land}
use Rattle.rules.specs.declared.Land.TheVariants as Land
use Rattle.rules.specs.Cell.{pick}
use Rattle.rules.specs.Search.{guarded_at, settled}
use Rattle.rules.specs.Change.{within, filled, column_filled, edit_shifted, rows_shifted}
use Rattle.rules.specs.Send.{sent_from, left_from}
use Rattle.rules.specs.State.{number, width_of, segment_start, segment_end, with_cursor, with_screen, sends, unchanged}

-- the page after a write, w being its width
unfoldable pub applied : ℕ → Bool → Write → List ℕ → List ℕ
applied w on Write.Nothing p = p
applied w on (Write.Fill a e v) p = within a e (filled on v) p
applied w on (Write.FillAll a e v) p = within a e (filled false v) p
applied w on (Write.Column top bottom c v) p = column_filled w on v c (bottom - top) top p
applied w on (Write.Edit right at v) p = edit_shifted w on right v at p
applied w on (Write.Rows down top bottom) p = rows_shifted w down top bottom p

-- the active cursor goes where the plan says
unfoldable pub landed : List Bool → Land → Core → Core
landed g Land.Stay c = c
landed g (Land.Settle i) c = with_screen c (with_cursor c.screen (settled g (segment_start c.screen) (segment_end c.screen) i))

-- what a byte comes to. The gathered bytes and the set-up are not handed through, only their change
pub record Effect : Type 0 where
  pub answer : ℕ
  pub core : Core
  pub change : Change
  pub page : List ℕ
  pub reply : List ℕ

abbrev pub effect : ℕ → Core → Change → List ℕ → List ℕ → Effect
effect n c x p r = record { answer = n; core = c; change = x; page = p; reply = r }

-- only the answer and the core
abbrev pub quiet : ℕ → Core → List ℕ → Effect
quiet n c p = effect n c unchanged p []

-- the width of the page that a plan is for: no plan changes it
abbrev pub plan_width : Plan → ℕ
plan_width x = width_of x.next.screen

abbrev pub page_after : Bool → Plan → List ℕ → List ℕ
page_after on x p = applied (plan_width x) on x.second (applied (plan_width x) on x.first p)

-- written, and settled over the page as it then is, with protect mode as it then is
unfoldable pub done : Bool → List ℕ → Plan → Effect
done on p x =
    effect (number x.answer) (landed (guarded_at x.next.modes.protect (page_after on x p)) x.land x.next) (Change.Set x.change)
    (page_after on x p) []

-- a reply begins, as much of it as fits (document 02, A9)
unfoldable pub begun : List ℕ → Plan → ℕ → Effect
begun p x room = effect (number x.answer) x.next (Change.Send (left_from p x.next x.reply room)) p (sent_from p x.next x.reply room)

-- no room while a reply is due answers 6, and nothing has changed
unfoldable pub carried : List ℕ → Core → Plan → ℕ → Effect
carried p c x room = pick (sends x.reply) (pick (eqb room 0) (quiet 6 c p) (begun p x room)) (done c.modes.protect p x)
