-- The parts of a text that is sent: what the loops over its rows promise.
use Rattle.std.specs.Prelude.{◌≡◌, Bool, true, false, List, ℕ, suc, ◌+◌, ◌-◌, ◌<◌, ◌≤◌, eqb, ltb, length, get_or}
use Rattle.rules.specs.declared.Place.{Place}
use Rattle.rules.specs.Cell.{pick}
use Rattle.rules.specs.Row.{Width, column_of}
use Rattle.rules.specs.Send.{Spot, leaves_out, left_out, follows_left_out, text_at}
use Rattle.page.specs.Room.{gone}

-- a place of the text before e, w being the width
abbrev pub GoodAt : ℕ → ℕ → Place → Type 0
GoodAt w e (Place.Cell i) = i < e
GoodAt w e (Place.Break i) = (column_of w i ≡ 0) × (i < e)
GoodAt w e Place.Return = Unit {0}

-- a text of the page p in which the cells from i up to, not including, `end` lie in one row, and the row or the text ends there
pub record RowPart (p : List ℕ) (i end : ℕ) : Type 0 where
  pub width : ℕ
  pub to : ℕ
  pub segment : Bool
  pub wide : Width width
  pub page : to ≤ length p
  pub most : end ≤ to
  pub inner : (j : ℕ) → i ≤ j → suc j < end → column_of width (suc j) ≡ 0 → ⊥
  pub ends : (end ≡ to → ⊥) → column_of width end ≡ 0

-- its place at cell j: the cell, or what stands behind the last one
abbrev pub place_in : ℕ → ℕ → ℕ → Place
place_in to end j = pick (ltb j end) (Place.Cell j) (pick (eqb end to) Place.Return (Place.Break end))

-- the places from there
unfoldable pub spots_in : {p : List ℕ} {i end : ℕ} → RowPart p i end → Bool → ℕ → List Spot
spots_in {p} {i} {end} t all j = text_at t.width p t.to all t.segment (place_in t.to end j)

abbrev pub skips : List ℕ → Bool → ℕ → Bool
skips p all i = left_out (leaves_out all) (get_or p i 0)

-- the cells from i up to j are sent, and put into the room q from place n on, which is r now; the next, before `stop`, is left out
pub record Stretch (p : List ℕ) (all : Bool) (i stop n : ℕ) (q : List ℕ) (j : ℕ) (r : List ℕ) : Type 0 where
  pub from : i ≤ j
  pub to : j ≤ stop
  pub last : i < j → skips p all (j - 1) ≡ false
  pub ends : j < stop → skips p all j ≡ true
  pub long : length r ≡ length q
  pub is : (end : ℕ) → stop ≤ end → (t : RowPart p i end) → gone (spots_in t all i) n q ≡ gone (spots_in t all j) (n + (j - i)) r

-- the cells from i up to j are left out, if the one before them is, and give nothing
pub record Skipped (p : List ℕ) (all after : Bool) (i end j : ℕ) : Type 0 where
  pub from : i ≤ j
  pub to : j ≤ end
  pub stays : after ≡ false → j ≡ i
  pub ends : after ≡ true → j < end → skips p all j ≡ false
  pub is : (t : RowPart p i end) → (i < end → follows_left_out t.width all p i ≡ after) → (n : ℕ) (q : List ℕ) → n < length q
      → gone (spots_in t all i) n q ≡ gone (spots_in t all j) n q

-- the cells of a row from i up to j, of those up to `end`, have gone, n bytes being in the room r, as far as there was room; m were in the room q
pub record RowSent (p : List ℕ) (all after : Bool) (i end m : ℕ) (q : List ℕ) (j n : ℕ) (r : List ℕ) : Type 0 where
  pub from : i ≤ j
  pub to : j ≤ end
  pub long : length r ≡ length q
  pub fits : n ≤ length r
  pub full : j < end → n ≡ length r
  pub is : (t : RowPart p i end) → follows_left_out t.width all p i ≡ after → gone (spots_in t all i) m q ≡ gone (spots_in t all j) n r
