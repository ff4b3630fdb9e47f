-- What goes of a send.
--     went, went_none, went_fits             bytes, room and place by the rules' names
--     cell_went, cursor_went, segment_went, decimal_went     the short replies that are read from the core and the page
--     short_went, text_went, text_needs      a send by its kind
--     cursor_below, row_below, column_below     the numbers of a possible screen
-- Assumes nothing.
use Rattle.std.specs.Prelude.{◌≡◌, ℕ, ◌+◌, ◌*◌, ◌<◌, ◌≤◌, Bool, true, List, [], ◌∷◌, length, get_or, take, drop}
use mathlib.Core.Path.{sym, ap, subst, ◌∙◌}
use native.Mathlib.Nat.{sub-zero, zero-add}
use native.Mathlib.Omega.{arith}
use lib.ListN.{length-take}
use Rattle.rules.specs.declared.Core.{Core}
use Rattle.rules.specs.declared.Screen.{Screen}
use Rattle.rules.specs.declared.Short.{Short}
use Rattle.rules.specs.declared.Place.{Place}
use Rattle.rules.specs.declared.Sending.{Sending}
use Rattle.rules.specs.Row.{Width}
use Rattle.rules.specs.State.{width_of, page_length, cursor_of, cursor_row, cursor_column}
use Rattle.rules.specs.Possible.{screen_ok, short_length}
use Rattle.rules.specs.Theorems.Good.{GoodPlace, GoodSend}
use Rattle.rules.specs.Send.{open_cell, decimal, short_reply, each, text_at, places, bytes_of, sent_from, left_from}
use Rattle.rules.proofs.Rows.{columns_width}
use Rattle.rules.proofs.Screens.{screen_inside}
use Rattle.page.specs.Room.{stored, Gone, stands, gone}
use Rattle.page.specs.Text.{GoodAt}
use Rattle.page.proofs.Room.{stored_over}
use Rattle.page.proofs.Sends.{gone_none}
use Rattle.carry.specs.Went.{Went}

module _ (p : List ℕ) (c : Core) (x : Sending) (w : List ℕ) where
  gone_is : gone (places p c x) 0 w
      ≡ stands (stored 0 (sent_from p c x (length w)) w) (length (sent_from p c x (length w))) (left_from p c x (length w))
  unfolding gone sent_from left_from
  gone_is = rw (sub-zero (length w), zero-add (length (take (length w) (bytes_of (places p c x)))))

  pub went_fits : length (sent_from p c x (length w)) ≤ length w
  unfolding sent_from
  went_fits = omega (arith, length-take (length w) (bytes_of (places p c x)))

  pub went : {n : ℕ} {y : Sending} {w' : List ℕ} → stands w' n y ≡ gone (places p c x) 0 w → Went p c x w n y w'
  went h =
      let e = h ∙ gone_is in
      record {
        replied = ap (λ (g : Gone). g.count) e;
        room = ap (λ (g : Gone). g.room) e ∙ stored_over (sent_from p c x (length w)) w went_fits;
        left = ap (λ (g : Gone). g.left) e;
      }

  pub went_none : x ≡ Sending.Nothing → Went p c x w 0 Sending.Nothing w
  unfolding places
  went_none e = went (rw e (sym (gone_none 0 w)))

-- ---- the short replies, by what the match told of the reply

module _ (p : List ℕ) (c : Core) (w : List ℕ) (from : ℕ) {r : Short} {g : Gone} where
  pub cell_went : {at : ℕ} → r ≡ Short.Cell → from < short_length r → at ≡ cursor_of c.screen
      → g ≡ gone (each Short.Cell 0 (open_cell c.modes.protect (get_or p at 0))) 0 w → g ≡ gone (places p c (Sending.Short r from)) 0 w
  unfolding places short_reply
  cell_went e h ea k =
      let l : from < 1 = subst (λ (r : Short). from < short_length r) e h in
      let z : from ≡ 0 = omega (arith, l) in
      rw (e, z, ← ea) k

  module _ {a b : ℕ} (ea : a ≡ cursor_row c.screen) (eb : b ≡ cursor_column c.screen) where
    pub cursor_went : r ≡ Short.Cursor → g ≡ gone (each Short.Cursor from (drop from ((0x20 + a) ∷ (0x20 + b) ∷ 0x0d ∷ []))) 0 w
        → g ≡ gone (places p c (Sending.Short r from)) 0 w
    unfolding places short_reply
    cursor_went e k = rw (e, ← ea, ← eb) k

    pub segment_went : r ≡ Short.SegmentCursor
        → g ≡ gone (each Short.SegmentCursor from (drop from ((0x30 + c.screen.active) ∷ (0x20 + a) ∷ (0x20 + b) ∷ 0x0d ∷ []))) 0 w
        → g ≡ gone (places p c (Sending.Short r from)) 0 w
    unfolding places short_reply
    segment_went e k = rw (e, ← ea, ← eb) k

    pub decimal_went : r ≡ Short.DecimalCursor → g ≡ gone (each Short.DecimalCursor from (drop from (decimal (a + 1) (b + 1)))) 0 w
        → g ≡ gone (places p c (Sending.Short r from)) 0 w
    unfolding places short_reply
    decimal_went e k = rw (e, ← ea, ← eb) k

-- ---- a send by its kind

module _ (p : List ℕ) (c : Core) (w : List ℕ) {x : Sending} {g : Gone} where
  pub short_went : {r : Short} {n : ℕ} → x ≡ Sending.Short r n → g ≡ gone (places p c (Sending.Short r n)) 0 w → g ≡ gone (places p c x) 0 w
  short_went e h = rw e h

  pub text_went : {all segment : Bool} {at : Place} {m k : ℕ} → x ≡ Sending.Text all segment at → m ≡ width_of c.screen → k ≡ cursor_of c.screen
      → g ≡ gone (text_at m p (k + 1) all segment at) 0 w → g ≡ gone (places p c x) 0 w
  unfolding places
  text_went e em ek h = rw (e, ← em, ← ek) h

-- a place of the text that ends with the cursor
text_good : (x : Screen) (segment : Bool) (at : Place) → GoodPlace x segment at → GoodAt (width_of x) (cursor_of x + 1) at
text_good x segment (Place.Cell i) g = omega (arith, g)
text_good x segment (Place.Break i) g = (g.0, omega (arith, g.1))
text_good x segment Place.Return g = g

pub text_needs : (s : Screen) (p : List ℕ) {x : Sending} {all segment : Bool} {at : Place} {k : ℕ} → length p ≡ page_length s → screen_ok s ≡ true
    → GoodSend s x → x ≡ Sending.Text all segment at → k ≡ cursor_of s
    → let w = width_of s in GoodAt w (k + 1) at × ((k + 1 ≤ length p) × (length p ≡ 24 * w))
text_needs s p {x} {all} {segment} {at} h ok g e ek =
    let l : GoodSend s (Sending.Text all segment at) = subst (GoodSend s) e g in
    rw ek (text_good s segment at l, (omega (arith, h, screen_inside s ok), h))

-- ---- a possible screen

module _ (x : Screen) (ok : screen_ok x ≡ true) {n : ℕ} where
  pub cursor_below : n ≡ cursor_of x → (n < page_length x) × (n < 3168)
  cursor_below h = omega (arith, screen_inside x ok)

  pub column_below : n ≡ cursor_column x → n < 132
  column_below h = omega (arith, screen_inside x ok)

  pub row_below : n ≡ cursor_row x → n < 24
  row_below h = omega (arith, screen_inside x ok)
