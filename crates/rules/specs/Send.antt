-- What a reply sends (document 01, "Modes and replies", amended by requests A2, A7, A8 and A9 of document 02): a reply is a row of places, each of
-- which gives one byte or none, by the page as it stands. It begins at its first place, and goes on at the one after the last byte sent.
use Rattle.std.specs.Prelude.{Bool, true, false, not, List, [], ◌∷◌, ◌++◌, ℕ, zero, suc, ◌+◌, ◌-◌, ◌/◌, ◌%◌, eqb, length, get_or, take, drop}
use Rattle.rules.specs.declared.Personality.{Personality}
use Rattle.rules.specs.declared.Personality.TheVariants as Personality
use Rattle.rules.specs.declared.Core.{Core}
use Rattle.rules.specs.declared.Short.{Short}
use Rattle.rules.specs.declared.Short.TheVariants as Short
use Rattle.rules.specs.declared.Place.{Place}
use Rattle.rules.specs.declared.Place.TheVariants as Place
use Rattle.rules.specs.declared.Sending.{Sending}
use Rattle.rules.specs.declared.Sending.TheVariants as Sending
use Rattle.rules.specs.Cell.{pick, both, protected, guarded, sent}
use Rattle.rules.specs.Row.{column_of}
use Rattle.rules.specs.State.{width_of, cursor_of, cursor_row, cursor_column}

-- the command that a send answers: 05h, or the byte after ESC
abbrev pub short_command : Short → ℕ
short_command Short.Acknowledge = 0x05
short_command Short.Cell = 0x4d
short_command Short.Identity = 0x20
short_command Short.Cursor = 0x3f
short_command Short.SegmentCursor = 0x2f
short_command Short.DecimalCursor = 0x62

abbrev pub text_command : Bool → Bool → ℕ
text_command all segment = pick all (pick segment 0x37 0x36) (pick segment 0x35 0x34)

abbrev pub command_of : Sending → ℕ
command_of Sending.Nothing = 0
command_of (Sending.Short r n) = short_command r
command_of (Sending.Text all segment k) = text_command all segment

-- a place: the send that goes on from there, and the byte that it gives, if any
pub record Spot : Type 0 where
  pub from : Sending
  pub gives : List ℕ

abbrev pub spot : Sending → List ℕ → Spot
spot x b = record { from = x; gives = b }

-- ---- the short replies

abbrev pub digit : ℕ → ℕ
digit n = 0x30 + n % 10

-- ESC SPACE replies 50 or 60: the first digit
unfoldable pub model : Personality → ℕ
model Personality.Wy50 = 0x35
model Personality.Wy60 = 0x36

-- ESC M: the cell, where it is not guarded
unfoldable pub open_cell : Bool → ℕ → List ℕ
open_cell on v = pick (guarded on v) [] (sent v ∷ [])

-- ESC b: row and column, from 1
abbrev pub decimal : ℕ → ℕ → List ℕ
decimal r c = digit (r / 10) ∷ digit r ∷ 0x52 ∷ digit (c / 100) ∷ digit (c / 10) ∷ digit c ∷ 0x43 ∷ []

unfoldable pub short_reply : List ℕ → Core → Short → List ℕ
short_reply p c Short.Acknowledge = 0x06 ∷ []
short_reply p c Short.Cell = open_cell c.modes.protect (get_or p (cursor_of c.screen) 0)
short_reply p c Short.Identity = model c.personality ∷ 0x30 ∷ 0x0d ∷ []
short_reply p c Short.Cursor = (0x20 + cursor_row c.screen) ∷ (0x20 + cursor_column c.screen) ∷ 0x0d ∷ []
short_reply p c Short.SegmentCursor =
    (0x30 + c.screen.active) ∷ (0x20 + cursor_row c.screen) ∷ (0x20 + cursor_column c.screen) ∷ 0x0d ∷ []
short_reply p c Short.DecimalCursor = decimal (cursor_row c.screen + 1) (cursor_column c.screen + 1)

-- a place for each byte, n of them having gone
unfoldable pub each : Short → ℕ → List ℕ → List Spot
each r n [] = []
each r n (b ∷ l) = spot (Sending.Short r n) (b ∷ []) ∷ each r (suc n) l

-- ---- the texts

-- A7: ESC 4 and ESC 5 leave a cell out that is marked protected, whatever protect mode says; ESC 6 and ESC 7 send all
abbrev pub leaves_out : Bool → Bool
leaves_out all = not all

abbrev pub left_out : Bool → ℕ → Bool
left_out out v = both out (protected v)

-- A2: the first cell of each longest stretch that is left out gives FS, the others give nothing; `after` says that the cell before it in
-- its row is left out
unfoldable pub cell_place : Bool → Bool → ℕ → List ℕ
cell_place out after v = pick (left_out out v) (pick after [] (0x1c ∷ [])) (sent v ∷ [])

-- the cells of a text in reading order, the first being cell i, a US before each further row, and the CR. n cells of the row are left; a row's
-- end cuts a stretch
unfoldable pub text_places : ℕ → Bool → Bool → ℕ → Bool → ℕ → List ℕ → List Spot
text_places w all segment n after i [] = spot (Sending.Text all segment Place.Return) (0x0d ∷ []) ∷ []
text_places w all segment zero after i (v ∷ l) =
    let out = leaves_out all in
    spot (Sending.Text all segment (Place.Break i)) (0x1f ∷ [])
    ∷ (spot (Sending.Text all segment (Place.Cell i)) (cell_place out false v) ∷ text_places w all segment (w - 1) (left_out out v) (suc i) l)
text_places w all segment (suc n) after i (v ∷ l) =
    let out = leaves_out all in
    spot (Sending.Text all segment (Place.Cell i)) (cell_place out after v) ∷ text_places w all segment n (left_out out v) (suc i) l

-- the text from cell i up to, not including, e
abbrev pub text_from : ℕ → List ℕ → ℕ → Bool → Bool → ℕ → Bool → ℕ → List Spot
text_from w p e all segment n after i = text_places w all segment n after i (take (e - i) (drop i p))

-- the cell before cell i in its row is left out, as the page stands
unfoldable pub follows_left_out : ℕ → Bool → List ℕ → ℕ → Bool
follows_left_out w all p i = both (not (eqb (column_of w i) 0)) (left_out (leaves_out all) (get_or p (i - 1) 0))

unfoldable pub text_at : ℕ → List ℕ → ℕ → Bool → Bool → Place → List Spot
text_at w p e all segment (Place.Cell i) = text_from w p e all segment (w - column_of w i) (follows_left_out w all p i) i
text_at w p e all segment (Place.Break i) = text_from w p e all segment 0 false i
text_at w p e all segment Place.Return = spot (Sending.Text all segment Place.Return) (0x0d ∷ []) ∷ []

-- ---- any reply

-- the places from the one where a send stands; the extent is read from the core
unfoldable pub places : List ℕ → Core → Sending → List Spot
places p c Sending.Nothing = []
places p c (Sending.Short r n) = each r n (drop n (short_reply p c r))
places p c (Sending.Text all segment k) = text_at (width_of c.screen) p (cursor_of c.screen + 1) all segment k

-- the bytes of some places, joined
unfoldable pub bytes_of : List Spot → List ℕ
bytes_of [] = []
bytes_of (x ∷ l) = x.gives ++ bytes_of l

-- the places that are left once n bytes went: those behind the one that gave the last of them
unfoldable pub beyond : ℕ → List Spot → List Spot
beyond n [] = []
beyond n (x ∷ l) = let r = beyond (n - length x.gives) l in pick (eqb n 0) (x ∷ l) r

-- the send that goes on with them
unfoldable pub standing : List Spot → Sending
standing [] = Sending.Nothing
standing (x ∷ l) = x.from

-- a send with so much room: as much as fits, and where it then stands; past its last byte it is over
unfoldable pub sent_from : List ℕ → Core → Sending → ℕ → List ℕ
sent_from p c x room = take room (bytes_of (places p c x))

unfoldable pub left_from : List ℕ → Core → Sending → ℕ → Sending
left_from p c x room = standing (beyond room (places p c x))
