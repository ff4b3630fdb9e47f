-- Laws of the places of a reply.
--     Small, places_small, bytes_most     a place gives at most one byte
--     bytes_beyond, beyond_add            what is left once n bytes went
--     next_place, at_cell, at_break        the places of a text, one after the other
--     Row, Ahead, ahead                   each place of a reply behind the one where it stands is possible, and the places from there are those that
--                                         follow in the row
--     places_left, left_ok, sent_add, left_add     a send in two parts
--     idle_is, not_sending                no sequence, no send under way
--     sent_bound, left_bound, short_most  a byte for each cell and one for each row at the most, and fewer once one went; 7 bytes of a short reply
-- Assumes nothing.
use mathlib.Core.Path.{◌≡◌, refl, sym, ap, subst, ◌∙◌}
use mathlib.Core.Bool.{Bool, true, false, not, false≢true}
use mathlib.Core.List.{List, [], ◌∷◌, ◌++◌}
use Prim.Native.Nat.{ℕ, zero, suc, ◌+◌, ◌-◌, ◌*◌, ◌/◌, ◌%◌, ◌≤◌, ◌<◌}
use native.Mathlib.Nat.{sub-zero, zero-add}
use native.Mathlib.Omega.{arith}
use lib.Dec.{eqb, ltb, leb}
use lib.ListN.{length, get_or, take, drop, drop_of_length-le, length-take, length-drop, length-append}
use lib.Seq.{drop-cons, drop-nil, take-nil}
use borrow.Author.Tests.{eqb-true, eqb-false, ltb-true, leb-true, eq-eqb, ne_eqb, lt-ltb, le-leb}
use Rattle.rules.specs.declared.Core.{Core}
use Rattle.rules.specs.declared.Screen.{Screen}
use Rattle.rules.specs.declared.Pending.{Pending}
use Rattle.rules.specs.declared.Pending.TheVariants as Pending
use Rattle.rules.specs.declared.Short.{Short}
use Rattle.rules.specs.declared.Short.TheVariants as Short
use Rattle.rules.specs.declared.Place.{Place}
use Rattle.rules.specs.declared.Place.TheVariants as Place
use Rattle.rules.specs.declared.Sending.{Sending}
use Rattle.rules.specs.declared.Sending.TheVariants as Sending
use Rattle.rules.specs.Cell.{pick, both, guarded}
use Rattle.rules.specs.Row.{Width, column_of}
use Rattle.rules.specs.State.{width_of, page_length, cursor_of, text_start, is_idle, sends, Inside}
use Rattle.rules.specs.Possible.{short_length, place_ok, sending_ok, replies_on}
use Rattle.rules.specs.Theorems.Good.{GoodPlace, GoodSend}
use Rattle.rules.specs.Send.{Spot, spot, open_cell, short_reply, each, leaves_out, left_out, cell_place, text_places, text_from, follows_left_out}
use Rattle.rules.specs.Send.{text_at, places, bytes_of, beyond, standing, sent_from, left_from}
use Rattle.rules.proofs.Tests.{pick_if, both_parts, both_true}
use Rattle.rules.proofs.Rows.{by_width, columns_width, width_range, column_below}

take_parts : (a b : ℕ) (l : List ℕ) → take a l ++ take b (drop a l) ≡ take (a + b) l
take_parts zero b l = rw (zero-add b)
take_parts (suc a) b [] = let e : suc a + b ≡ suc (a + b) = omega arith in rw (take-nil b, e)
take_parts (suc a) b (x ∷ l) = let e : suc a + b ≡ suc (a + b) = omega arith in rw (e, take_parts a b l)

-- ---- a place gives at most one byte

pub data Small : List Spot → Type 0 where
  none : Small []
  silent : {x : Sending} {l : List Spot} → Small l → Small (spot x [] ∷ l)
  one : {x : Sending} {b : ℕ} {l : List Spot} → Small l → Small (spot x (b ∷ []) ∷ l)

small_pick : (t : Bool) {z : Sending} {x y : List ℕ} {l : List Spot} → Small (spot z x ∷ l) → Small (spot z y ∷ l) → Small (spot z (pick t x y) ∷ l)
small_pick true a b = a
small_pick false a b = b

small_cell : (out after : Bool) (v : ℕ) {x : Sending} {l : List Spot} → Small l → Small (spot x (cell_place out after v) ∷ l)
unfolding cell_place
small_cell out after v h = small_pick (left_out out v) (small_pick after (silent h) (one h)) (one h)

pub small_text : (w : ℕ) (all segment : Bool) (n : ℕ) (after : Bool) (i : ℕ) (l : List ℕ) → Small (text_places w all segment n after i l)
unfolding text_places
small_text w all segment n after i [] = one none
small_text w all segment zero after i (v ∷ l) =
    one (small_cell (leaves_out all) false v (small_text w all segment (w - 1) (left_out (leaves_out all) v) (suc i) l))
small_text w all segment (suc n) after i (v ∷ l) =
    small_cell (leaves_out all) after v (small_text w all segment n (left_out (leaves_out all) v) (suc i) l)

pub small_at : (w : ℕ) (p : List ℕ) (e : ℕ) (all segment : Bool) (k : Place) → Small (text_at w p e all segment k)
unfolding text_at
small_at w p e all segment (Place.Cell i) = small_text w all segment _ _ i _
small_at w p e all segment (Place.Break i) = small_text w all segment _ _ i _
small_at w p e all segment Place.Return = one none

small_each : (r : Short) (n : ℕ) (l : List ℕ) → Small (each r n l)
unfolding each
small_each r n [] = none
small_each r n (b ∷ l) = one (small_each r (suc n) l)

pub places_small : (p : List ℕ) (c : Core) (x : Sending) → Small (places p c x)
unfolding places
places_small p c Sending.Nothing = none
places_small p c (Sending.Short r n) = small_each r n _
places_small p c (Sending.Text all segment k) = small_at _ p _ all segment k

pub bytes_most : {l : List Spot} → Small l → length (bytes_of l) ≤ length l
unfolding bytes_of
bytes_most none = omega arith
bytes_most (silent h) = omega (arith, bytes_most h)
bytes_most (one h) = omega (arith, bytes_most h)

-- ---- what is left once n bytes went

-- one place: with no byte to go it stays; one that gives nothing is passed, and one that gives a byte counts
pub beyond_zero : (l : List Spot) → beyond 0 l ≡ l
unfolding beyond
beyond_zero [] = refl
beyond_zero (x ∷ l) = refl

pub beyond_silent : (n : ℕ) (x : Sending) (l : List Spot) → beyond (suc n) (spot x [] ∷ l) ≡ beyond (suc n) l
unfolding beyond
beyond_silent n x l = rw (ne_eqb (suc n) 0 (omega arith), sub-zero)

pub beyond_one : (n : ℕ) (x : Sending) (b : ℕ) (l : List Spot) → beyond (suc n) (spot x (b ∷ []) ∷ l) ≡ beyond n l
unfolding beyond
beyond_one n x b l = let e : suc n - 1 ≡ n = omega arith in rw (ne_eqb (suc n) 0 (omega arith), e)

pub beyond_none : (n : ℕ) → beyond n [] ≡ []
unfolding beyond
beyond_none n = refl

pub bytes_beyond : {l : List Spot} → Small l → (n : ℕ) → bytes_of (beyond n l) ≡ drop n (bytes_of l)
unfolding bytes_of
bytes_beyond none zero = rw (beyond_zero [])
bytes_beyond none (suc n) = rw (beyond_none (suc n))
bytes_beyond (silent {x} {l} h) zero = rw (beyond_zero (spot x [] ∷ l))
bytes_beyond (silent {x} {l} h) (suc n) = rw (beyond_silent n x l) (bytes_beyond h (suc n))
bytes_beyond (one {x} {b} {l} h) zero = rw (beyond_zero (spot x (b ∷ []) ∷ l))
bytes_beyond (one {x} {b} {l} h) (suc n) = rw (beyond_one n x b l) (bytes_beyond h n)

pub beyond_add : {l : List Spot} → Small l → (n m : ℕ) → beyond m (beyond n l) ≡ beyond (n + m) l
beyond_add none zero m = rw (beyond_zero [], zero-add m)
beyond_add none (suc n) m = rw (beyond_none (suc n), beyond_none m, beyond_none (suc n + m))
beyond_add (silent {x} {l} h) zero m = rw (beyond_zero (spot x [] ∷ l), zero-add m)
beyond_add (silent {x} {l} h) (suc n) m =
    let e : suc n + m ≡ suc (n + m) = omega arith in
    rw (beyond_silent n x l, e, beyond_silent (n + m) x l) (beyond_add h (suc n) m ∙ ap (λ (j : ℕ). beyond j l) e)
beyond_add (one {x} {b} {l} h) zero m = rw (beyond_zero (spot x (b ∷ []) ∷ l), zero-add m)
beyond_add (one {x} {b} {l} h) (suc n) m =
    let e : suc n + m ≡ suc (n + m) = omega arith in
    rw (beyond_one n x b l, e, beyond_one (n + m) x b l) (beyond_add h n m)

-- ---- the places of a text, one after the other

-- behind cell i: the next cell, or the US before it, or the CR
unfoldable pub next_place : ℕ → ℕ → ℕ → Place
next_place w e i = pick (eqb (suc i) e) Place.Return (pick (eqb (column_of w (suc i)) 0) (Place.Break (suc i)) (Place.Cell (suc i)))

module _ {w : ℕ} (k : Width w) (p : List ℕ) (e : ℕ) (m : e ≤ length p) (all segment : Bool) where
  -- where a row ends, what came before does not matter
  row_begins : (after : Bool) (i : ℕ) (l : List ℕ) → text_places w all segment 0 after i l ≡ text_places w all segment 0 false i l
  unfolding text_places
  row_begins after i [] = refl
  row_begins after i (v ∷ l) = refl

  -- what follows cell i in the row of places
  Follows : ℕ → Place → Type 0
  Follows i z =
      text_places w all segment (w - 1 - column_of w i) (left_out (leaves_out all) (get_or p i 0)) (suc i) (take (e - suc i) (drop (suc i) p))
      ≡ text_at w p e all segment z

  at_end : (i : ℕ) → suc i ≡ e → Follows i Place.Return
  unfolding Follows text_places text_at
  at_end i t = let z : e - suc i ≡ 0 = omega (arith, t) in rw z refl

  at_row : (i : ℕ) → column_of w (suc i) ≡ 0 → Follows i (Place.Break (suc i))
  unfolding Follows text_at
  at_row i u =
      let z : w - 1 - column_of w i ≡ 0 =
      by_width (λ (w : ℕ). column_of w (suc i) ≡ 0 → w - 1 - column_of w i ≡ 0) (λ u. omega (arith, u)) (λ u. omega (arith, u)) k u in
      rw z (row_begins _ (suc i) _)

  at_cells : (i : ℕ) → (column_of w (suc i) ≡ 0 → ⊥) → Follows i (Place.Cell (suc i))
  unfolding Follows text_at follows_left_out
  at_cells i u =
      let z : w - 1 - column_of w i ≡ w - column_of w (suc i) =
      by_width (λ (w : ℕ). (column_of w (suc i) ≡ 0 → ⊥) → w - 1 - column_of w i ≡ w - column_of w (suc i)) (λ u. omega (arith, u))
      (λ u. omega (arith, u))
      k u in
      let y : suc i - 1 ≡ i = omega arith in
      rw (z, ne_eqb (column_of w (suc i)) 0 u, y)

  at_next : (i : ℕ) → i < e → Follows i (next_place w e i)
  unfolding next_place
  at_next i h =
      pick_if (Follows i) (eqb (suc i) e) (λ t. at_end i (eqb-true (suc i) e t))
      (λ t. pick_if (Follows i) (eqb (column_of w (suc i)) 0) (λ u. at_row i (eqb-true (column_of w (suc i)) 0 u))
      (λ u. at_cells i (eqb-false (column_of w (suc i)) 0 u)))

  pub at_cell : (i : ℕ) → i < e
      → text_at w p e all segment (Place.Cell i)
      ≡ spot (Sending.Text all segment (Place.Cell i)) (cell_place (leaves_out all) (follows_left_out w all p i) (get_or p i 0))
      ∷ text_at w p e all segment (next_place w e i)
  unfolding Follows text_at text_places
  at_cell i h =
      let a : drop i p ≡ get_or p i 0 ∷ drop (suc i) p = drop-cons p i 0 (omega arith) in
      let b : e - i ≡ suc (e - suc i) = omega arith in
      let c : w - column_of w i ≡ suc (w - 1 - column_of w i) = omega (arith, column_below k i) in
      rw (a, b, c) (ap (λ (r : List Spot). spot (Sending.Text all segment (Place.Cell i))
      (cell_place (leaves_out all) (follows_left_out w all p i) (get_or p i 0)) ∷ r)
      (at_next i h))

  pub at_break : (i : ℕ) → i < e → column_of w i ≡ 0
      → text_at w p e all segment (Place.Break i) ≡ spot (Sending.Text all segment (Place.Break i)) (0x1f ∷ [])
      ∷ text_at w p e all segment (Place.Cell i)
  unfolding text_at text_places follows_left_out
  at_break i h z =
      let a : drop i p ≡ get_or p i 0 ∷ drop (suc i) p = drop-cons p i 0 (omega arith) in
      let b : e - i ≡ suc (e - suc i) = omega arith in
      let c : w - 0 ≡ suc (w - 1) = omega (arith, column_below k i) in
      rw (z, a, b, c)

-- ---- the row of places behind the one where a send stands

-- each of them is possible, and the places from there are those that follow
pub data Row (p : List ℕ) (c : Core) : List Spot → Type 0 where
  none : Row p c []
  more : {x : Spot} {l : List Spot} → places p c x.from ≡ x ∷ l → sending_ok c.screen Pending.Idle x.from ≡ true → Row p c l → Row p c (x ∷ l)

-- the places of a send y: the one where it stands, which gives a byte at the most, and a row of them behind it; or none
pub data Ahead (p : List ℕ) (c : Core) (y : Sending) : List Spot → Type 0 where
  over : Ahead p c y []
  stands : (b : List ℕ) {l : List Spot} → Row p c l → Ahead p c y (spot y b ∷ l)

module _ (p : List ℕ) (c : Core) where
  -- the short replies
  short_few : (r : Short) → length (short_reply p c r) ≤ short_length r
  unfolding short_reply open_cell
  short_few Short.Acknowledge = omega arith
  short_few Short.Cell =
      pick_if (λ (l : List ℕ). length l ≤ 1) (guarded c.modes.protect (get_or p (cursor_of c.screen) 0)) (λ e. omega arith) (λ e. omega arith)
  short_few Short.Identity = omega arith
  short_few Short.Cursor = omega arith
  short_few Short.SegmentCursor = omega arith
  short_few Short.DecimalCursor = omega arith

  each_next : (r : Short) (n : ℕ) → n < length (short_reply p c r)
      → each r n (drop n (short_reply p c r)) ≡ spot (Sending.Short r n) (get_or (short_reply p c r) n 0 ∷ [])
      ∷ each r (suc n) (drop (suc n) (short_reply p c r))
  unfolding each
  each_next r n h = rw (drop-cons (short_reply p c r) n 0 h)

  each_own : (r : Short) (n : ℕ) → n < length (short_reply p c r)
      → places p c (Sending.Short r n) ≡ spot (Sending.Short r n) (get_or (short_reply p c r) n 0 ∷ [])
      ∷ each r (suc n) (drop (suc n) (short_reply p c r))
  unfolding places
  each_own r n h = each_next r n h

  each_ok : (r : Short) → replies_on c.screen r ≡ true → (n : ℕ) → 0 < n → n < length (short_reply p c r)
      → sending_ok c.screen Pending.Idle (Sending.Short r n) ≡ true
  unfolding sending_ok
  each_ok r k n a b = both_true k (both_true (le-leb 1 n (omega arith)) (lt-ltb n (short_length r) (omega (arith, short_few r))))

  each_none : (r : Short) (n : ℕ) → Row p c (each r n [])
  unfolding each
  each_none r n = none

  each_row : (r : Short) → replies_on c.screen r ≡ true → (d n : ℕ) → length (short_reply p c r) - n ≡ d → 0 < n
      → Row p c (each r n (drop n (short_reply p c r)))
  each_row r k zero n e h =
      let z : drop n (short_reply p c r) ≡ [] = drop_of_length-le (short_reply p c r) {i = n} (omega arith) in
      rw z (each_none r n)
  each_row r k (suc d) n e h =
      subst (Row p c) (sym (each_next r n (omega arith)))
      (more (each_own r n (omega arith)) (each_ok r k n h (omega arith)) (each_row r k d (suc n) (omega arith) (omega arith)))

  short_over : (r : Short) (n : ℕ) → length (short_reply p c r) ≤ n → Ahead p c (Sending.Short r n) (places p c (Sending.Short r n))
  unfolding places each
  short_over r n h = rw (drop_of_length-le (short_reply p c r) h) over

  short_ahead : (r : Short) → replies_on c.screen r ≡ true → (n : ℕ) → Ahead p c (Sending.Short r n) (places p c (Sending.Short r n))
  short_ahead r k n = by (length (short_reply p c r) - n) refl
    where
      by : (d : ℕ) → length (short_reply p c r) - n ≡ d → Ahead p c (Sending.Short r n) (places p c (Sending.Short r n))
      by zero e = short_over r n (omega arith)
      by (suc d) e =
          subst (Ahead p c (Sending.Short r n)) (sym (each_own r n (omega arith)))
          (stands (get_or (short_reply p c r) n 0 ∷ []) (each_row r k d (suc n) (omega arith) (omega arith)))

  -- the texts
  module _ (n : length p ≡ page_length c.screen) (i : Inside c.screen) (all segment : Bool) where
    end_inside : cursor_of c.screen + 1 ≤ length p
    end_inside = omega (arith, i.below, i.placed.page)

    pub own_cell : (j : ℕ) → j ≤ cursor_of c.screen
        → places p c (Sending.Text all segment (Place.Cell j))
        ≡ spot (Sending.Text all segment (Place.Cell j))
        (cell_place (leaves_out all) (follows_left_out (width_of c.screen) all p j) (get_or p j 0))
        ∷ places p c (Sending.Text all segment (next_place (width_of c.screen) (cursor_of c.screen + 1) j))
    unfolding places
    own_cell j h = at_cell (columns_width c.screen.wide) p (cursor_of c.screen + 1) end_inside all segment j (omega arith)

    pub own_break : (j : ℕ) → j ≤ cursor_of c.screen → column_of (width_of c.screen) j ≡ 0
        → places p c (Sending.Text all segment (Place.Break j))
        ≡ spot (Sending.Text all segment (Place.Break j)) (0x1f ∷ []) ∷ places p c (Sending.Text all segment (Place.Cell j))
    unfolding places
    own_break j h z = at_break (columns_width c.screen.wide) p (cursor_of c.screen + 1) end_inside all segment j (omega arith) z

    pub own_return : places p c (Sending.Text all segment Place.Return) ≡ spot (Sending.Text all segment Place.Return) (0x0d ∷ []) ∷ []
    unfolding places text_at
    own_return = refl

    cell_ok : (j : ℕ) → text_start c.screen segment < j → j ≤ cursor_of c.screen
        → sending_ok c.screen Pending.Idle (Sending.Text all segment (Place.Cell j)) ≡ true
    unfolding sending_ok place_ok
    cell_ok j a b = both_true (lt-ltb _ j a) (le-leb j _ b)

    break_ok : (j : ℕ) → column_of (width_of c.screen) j ≡ 0 → text_start c.screen segment < j → j ≤ cursor_of c.screen
        → sending_ok c.screen Pending.Idle (Sending.Text all segment (Place.Break j)) ≡ true
    unfolding sending_ok place_ok
    break_ok j z a b = both_true (eq-eqb _ 0 z) (both_true (lt-ltb _ j a) (le-leb j _ b))

    return_ok : sending_ok c.screen Pending.Idle (Sending.Text all segment Place.Return) ≡ true
    unfolding sending_ok place_ok
    return_ok = refl

    abbrev at : Place → List Spot
    at z = places p c (Sending.Text all segment z)

    row_return : Row p c (at Place.Return)
    row_return = subst (Row p c) (sym own_return) (more own_return return_ok none)

    behind_cell : (j : ℕ) → text_start c.screen segment < j → j ≤ cursor_of c.screen
        → Row p c (at (next_place (width_of c.screen) (cursor_of c.screen + 1) j)) → Row p c (at (Place.Cell j))
    behind_cell j a b r = subst (Row p c) (sym (own_cell j b)) (more (own_cell j b) (cell_ok j a b) r)

    behind_break : (j : ℕ) → column_of (width_of c.screen) j ≡ 0 → text_start c.screen segment < j → j ≤ cursor_of c.screen
        → Row p c (at (Place.Cell j)) → Row p c (at (Place.Break j))
    behind_break j z a b r = subst (Row p c) (sym (own_break j b z)) (more (own_break j b z) (break_ok j z a b) r)

    -- the places behind cell j, which is in the text
    row_next : (d j : ℕ) → cursor_of c.screen - j ≡ d → text_start c.screen segment ≤ j → j ≤ cursor_of c.screen
        → Row p c (at (next_place (width_of c.screen) (cursor_of c.screen + 1) j))
    unfolding next_place
    row_next zero j e a b = rw (eq-eqb (suc j) (cursor_of c.screen + 1) (omega arith)) row_return
    row_next (suc d) j e a b =
        let r = behind_cell (suc j) (omega arith) (omega arith) (row_next d (suc j) (omega arith) (omega arith) (omega arith)) in
        pick_if (λ (z : Place). Row p c (at z)) (eqb (suc j) (cursor_of c.screen + 1)) (λ t. row_return)
        (λ t. pick_if (λ (z : Place). Row p c (at z)) (eqb (column_of (width_of c.screen) (suc j)) 0)
        (λ u. behind_break (suc j) (eqb-true (column_of (width_of c.screen) (suc j)) 0 u) (omega arith) (omega arith) r) (λ u. r))

    text_ahead : (z : Place) → GoodPlace c.screen segment z → Ahead p c (Sending.Text all segment z) (at z)
    text_ahead (Place.Cell j) h =
        subst (Ahead p c (Sending.Text all segment (Place.Cell j))) (sym (own_cell j h.1))
        (stands _ (row_next (cursor_of c.screen - j) j refl h.0 h.1))
    text_ahead (Place.Break j) h =
        subst (Ahead p c (Sending.Text all segment (Place.Break j))) (sym (own_break j h.1.1 h.0))
        (stands _ (behind_cell j h.1.0 h.1.1 (row_next (cursor_of c.screen - j) j refl (omega (arith, h.1.0)) h.1.1)))
    text_ahead Place.Return h = subst (Ahead p c (Sending.Text all segment Place.Return)) (sym own_return) (stands _ none)

  module _ (n : length p ≡ page_length c.screen) (i : Inside c.screen) where
    pub ahead : (y : Sending) → GoodSend c.screen y → Ahead p c y (places p c y)
    ahead Sending.Nothing h = unfold places in over
    ahead (Sending.Short r m) h = short_ahead r h.0 m
    ahead (Sending.Text all segment z) h = text_ahead n i all segment z h

-- a possible send stands at a place of its reply
pub ok_good : (x : Screen) (q : Pending) (y : Sending) → sending_ok x q y ≡ true → GoodSend x y
unfolding sending_ok place_ok
ok_good x q Sending.Nothing h = tt
ok_good x q (Sending.Short r n) h =
    let a = both_parts (is_idle q) _ h in
    let b = both_parts (replies_on x r) _ a.1 in
    (b.0, ltb-true n (short_length r) (both_parts (leb 1 n) _ b.1).1)
ok_good x q (Sending.Text all segment (Place.Cell j)) h =
    let a = both_parts (is_idle q) _ h in
    let b = both_parts (ltb (text_start x segment) j) _ a.1 in
    (omega (arith, ltb-true (text_start x segment) j b.0), leb-true j (cursor_of x) b.1)
ok_good x q (Sending.Text all segment (Place.Break j)) h =
    let a = both_parts (is_idle q) _ h in
    let b = both_parts (eqb (column_of (width_of x) j) 0) _ a.1 in
    let d = both_parts (ltb (text_start x segment) j) _ b.1 in
    (eqb-true (column_of (width_of x) j) 0 b.0, (ltb-true (text_start x segment) j d.0, leb-true j (cursor_of x) d.1))
ok_good x q (Sending.Text all segment Place.Return) h = tt

-- a send is under way only while no sequence is
pub sending_idle : (x : Screen) (q : Pending) (y : Sending) → sending_ok x q y ≡ true → sends y ≡ true → is_idle q ≡ true
unfolding sending_ok
sending_idle x q Sending.Nothing h s = absurd (false≢true s)
sending_idle x q (Sending.Short r n) h s = (both_parts (is_idle q) _ h).0
sending_idle x q (Sending.Text all segment z) h s = (both_parts (is_idle q) _ h).0

pub idle_ok : (x : Screen) (q : Pending) (y : Sending) → is_idle q ≡ true → sending_ok x Pending.Idle y ≡ true → sending_ok x q y ≡ true
unfolding sending_ok
idle_ok x q Sending.Nothing i h = refl
idle_ok x q (Sending.Short r n) i h = rw i h
idle_ok x q (Sending.Text all segment z) i h = rw i h

pub idle_is : (q : Pending) → is_idle q ≡ true → q ≡ Pending.Idle
idle_is Pending.Idle e = refl
idle_is Pending.Escape e = absurd (false≢true e)
idle_is (Pending.Awaits a) e = absurd (false≢true e)
idle_is (Pending.AddressRow r) e = absurd (false≢true e)
idle_is (Pending.SegmentNumber n) e = absurd (false≢true e)
idle_is (Pending.SegmentRow n r) e = absurd (false≢true e)
idle_is (Pending.DecimalRow n row) e = absurd (false≢true e)
idle_is (Pending.DecimalColumn row n column) e = absurd (false≢true e)
idle_is (Pending.FieldNumber n) e = absurd (false≢true e)
idle_is (Pending.Text x n) e = absurd (false≢true e)
idle_is (Pending.Spoilt x) e = absurd (false≢true e)

pub not_sending : (y : Sending) → sends y ≡ false → y ≡ Sending.Nothing
not_sending Sending.Nothing h = refl
not_sending (Sending.Short r n) h = absurd (false≢true (sym h))
not_sending (Sending.Text all segment z) h = absurd (false≢true (sym h))

-- ---- a send in two parts

row_beyond : {p : List ℕ} {c : Core} {l : List Spot} → Row p c l → (n : ℕ) → Row p c (beyond n l)
unfolding beyond
row_beyond none n = none
row_beyond (more {x} {l} own ok r) n =
    pick_if (Row _ _) (eqb n 0) (λ e. more own ok r) (λ e. row_beyond r (n - length x.gives))

row_places : {p : List ℕ} {c : Core} {l : List Spot} → Row p c l → places p c (standing l) ≡ l
unfolding standing places
row_places none = refl
row_places (more own ok r) = own

row_ok : {p : List ℕ} {c : Core} {l : List Spot} → Row p c l → sending_ok c.screen Pending.Idle (standing l) ≡ true
unfolding standing sending_ok
row_ok none = refl
row_ok (more own ok r) = ok

ahead_beyond : {p : List ℕ} {c : Core} {y : Sending} {l : List Spot} → Ahead p c y l → (n : ℕ) → 0 < n → Row p c (beyond n l)
unfolding beyond
ahead_beyond over n h = none
ahead_beyond (stands b r) n h = rw (ne_eqb n 0 (omega arith)) (row_beyond r (n - length b))

module _ (p : List ℕ) (c : Core) (n : length p ≡ page_length c.screen) (i : Inside c.screen) (y : Sending) (g : GoodSend c.screen y) where
  -- behind some bytes a send stands at a possible place, or is over
  pub left_ok : (room : ℕ) → 0 < room → sending_ok c.screen Pending.Idle (left_from p c y room) ≡ true
  unfolding left_from
  left_ok room h = row_ok (ahead_beyond (ahead p c n i y g) room h)

  pub places_left : (room : ℕ) → 0 < room → places p c (left_from p c y room) ≡ beyond room (places p c y)
  unfolding left_from
  places_left room h = row_places (ahead_beyond (ahead p c n i y g) room h)

  -- what one room and then another let through, and where the send then stands, is what their sum does
  pub sent_add : (a b : ℕ) → 0 < a → sent_from p c y a ++ sent_from p c (left_from p c y a) b ≡ sent_from p c y (a + b)
  unfolding sent_from
  sent_add a b h =
      rw (places_left a h, bytes_beyond (places_small p c y) a) (take_parts a b (bytes_of (places p c y)))

  pub left_add : (a b : ℕ) → 0 < a → left_from p c (left_from p c y a) b ≡ left_from p c y (a + b)
  unfolding left_from standing
  left_add a b h = ap standing (ap (beyond b) (places_left a h) ∙ beyond_add (places_small p c y) a b)

-- ---- how much is sent

-- a text ends in CR, and of a short reply under way something is left
text_some : (w : ℕ) (all segment : Bool) (n : ℕ) (after : Bool) (i : ℕ) (l : List ℕ) → 0 < length (bytes_of (text_places w all segment n after i l))
unfolding text_places bytes_of
text_some w all segment n after i [] = omega arith
text_some w all segment zero after i (v ∷ l) = omega arith
text_some w all segment (suc n) after i (v ∷ l) =
    omega (
      arith,
      length-append (cell_place (leaves_out all) after v) (bytes_of (text_places w all segment n (left_out (leaves_out all) v) (suc i) l)),
      text_some w all segment n (left_out (leaves_out all) v) (suc i) l,
    )

at_some : (w : ℕ) (p : List ℕ) (e : ℕ) (all segment : Bool) (z : Place) → 0 < length (bytes_of (text_at w p e all segment z))
unfolding text_at bytes_of
at_some w p e all segment (Place.Cell i) = text_some w all segment _ _ i _
at_some w p e all segment (Place.Break i) = text_some w all segment _ _ i _
at_some w p e all segment Place.Return = omega arith

pub short_long : (p : List ℕ) (c : Core) (r : Short) (n : ℕ) → 1 ≤ n → n < short_length r → n < length (short_reply p c r)
unfolding short_reply
short_long p c Short.Acknowledge n a b = omega arith
short_long p c Short.Cell n a b = absurd (omega arith)
short_long p c Short.Identity n a b = omega arith
short_long p c Short.Cursor n a b = omega arith
short_long p c Short.SegmentCursor n a b = omega arith
short_long p c Short.DecimalCursor n a b = omega arith

each_some : (r : Short) (n : ℕ) (l : List ℕ) → 0 < length l → 0 < length (bytes_of (each r n l))
unfolding each bytes_of
each_some r n [] h = h
each_some r n (b ∷ l) h = omega arith

pub some_left : (p : List ℕ) (c : Core) (q : Pending) (y : Sending) → sending_ok c.screen q y ≡ true → sends y ≡ true
    → 0 < length (bytes_of (places p c y))
unfolding places sending_ok
some_left p c q Sending.Nothing h s = absurd (false≢true s)
some_left p c q (Sending.Short r n) h s =
    let a = both_parts (is_idle q) _ h in
    let b = both_parts (leb 1 n) _ (both_parts (replies_on c.screen r) _ a.1).1 in
    each_some r n (drop n (short_reply p c r))
    (omega (arith, length-drop n (short_reply p c r), short_long p c r n (leb-true 1 n b.0) (ltb-true n (short_length r) b.1)))
some_left p c q (Sending.Text all segment z) h s = at_some _ p _ all segment z

pub sent_fits : (p : List ℕ) (c : Core) (y : Sending) (room : ℕ) → length (sent_from p c y room) ≤ room
unfolding sent_from
sent_fits p c y room = omega (arith, length-take room (bytes_of (places p c y)))

-- with room a send under way sends a byte
pub sent_some : (p : List ℕ) (c : Core) (q : Pending) (y : Sending) (room : ℕ) → sending_ok c.screen q y ≡ true → sends y ≡ true → 0 < room
    → 0 < length (sent_from p c y room)
unfolding sent_from
sent_some p c q y room h s r = omega (arith, length-take room (bytes_of (places p c y)), some_left p c q y h s)

module _ (p : List ℕ) (c : Core) (n : length p ≡ page_length c.screen) (i : Inside c.screen) (y : Sending) (g : GoodSend c.screen y)
    (room : ℕ) (h : 0 < room) where
  -- one that is not over wants more room, and has used its room up
  wants_more : sends (left_from p c y room) ≡ true → room < length (bytes_of (places p c y))
  wants_more s =
      let left = some_left p c Pending.Idle (left_from p c y room) (left_ok p c n i y g room h) s in
      let is : length (bytes_of (places p c (left_from p c y room))) ≡ length (bytes_of (places p c y)) - room =
      ap (λ (l : List Spot). length (bytes_of l)) (places_left p c n i y g room h)
      ∙ (ap length (bytes_beyond (places_small p c y) room) ∙ length-drop room (bytes_of (places p c y))) in
      omega (arith, left, is)

  pub sent_full : sends (left_from p c y room) ≡ true → length (sent_from p c y room) ≡ room
  unfolding sent_from
  sent_full s = omega (arith, length-take room (bytes_of (places p c y)), wants_more s)

  -- with as much as it wants it is over
  pub sent_over : length (bytes_of (places p c y)) ≤ room → sends (left_from p c y room) ≡ false
  sent_over e = by (sends (left_from p c y room)) refl
    where
      by : (t : Bool) → sends (left_from p c y room) ≡ t → sends (left_from p c y room) ≡ false
      by true u = absurd (omega (arith, wants_more u))
      by false u = u

-- before the text's end e; a US stands before a row's first cell, and not before the page's
abbrev GoodAt : ℕ → ℕ → Place → Type 0
GoodAt w e (Place.Cell i) = i < e
GoodAt w e (Place.Break i) = (column_of w i ≡ 0) × ((0 < i) × (i < e))
GoodAt w e Place.Return = Unit {0}

-- how many places of the page's text have gone, at the least
abbrev gone : Place → ℕ
gone (Place.Cell i) = i
gone (Place.Break i) = i
gone Place.Return = 1

module _ {w : ℕ} (k : Width w) where
  -- a place for each cell, for each row that begins behind the first n cells, and for CR
  pub text_count_lem : (all segment : Bool) (n : ℕ) (after : Bool) (i : ℕ) (l : List ℕ) → n ≤ w
      → length (text_places w all segment n after i l) ≡ length l + (length l - n + (w - 1)) / w + 1
  unfolding text_places
  text_count_lem all segment n after i [] h =
      by_width (λ (w : ℕ). n ≤ w → 1 ≡ 0 + (0 - n + (w - 1)) / w + 1) (λ h. omega arith) (λ h. omega arith) k h
  text_count_lem all segment zero after i (v ∷ l) h =
      let x = length (text_places w all segment (w - 1) (left_out (leaves_out all) v) (suc i) l) in
      by_width
      (λ (w : ℕ). x ≡ length l + (length l - (w - 1) + (w - 1)) / w + 1 → suc (suc x) ≡ suc (length l) + (suc (length l) - 0 + (w - 1)) / w + 1)
      (λ e. omega arith) (λ e. omega arith) k (text_count_lem all segment (w - 1) (left_out (leaves_out all) v) (suc i) l (omega arith))
  text_count_lem all segment (suc n) after i (v ∷ l) h =
      let e : suc (length l) - suc n ≡ length l - n = omega arith in
      rw e (omega (arith, text_count_lem all segment n (left_out (leaves_out all) v) (suc i) l (omega arith)))

  -- a text that ends on a page, from cell i on: n cells of its row are left
  from_bound : (all segment after : Bool) (n i : ℕ) (l : List ℕ) → n ≤ w → length l + (length l - n + (w - 1)) / w + 1 + i ≤ 24 * (w + 1)
      → length (bytes_of (text_places w all segment n after i l)) + i ≤ 24 * (w + 1)
  from_bound all segment after n i l h b =
      omega (arith, bytes_most (small_text w all segment n after i l), text_count_lem all segment n after i l h)

  cells_most : (p : List ℕ) (e i : ℕ) → length (take (e - i) (drop i p)) ≤ e - i
  cells_most p e i = omega (arith, length-take (e - i) (drop i p))

  pub at_bound : (p : List ℕ) (e : ℕ) (all segment : Bool) (z : Place) → e ≤ 24 * w → GoodAt w e z
      → length (bytes_of (text_at w p e all segment z)) + gone z ≤ 24 * (w + 1)
  unfolding text_at bytes_of
  at_bound p e all segment (Place.Cell i) h g =
      let x = length (take (e - i) (drop i p)) in
      from_bound all segment _ (w - column_of w i) i (take (e - i) (drop i p)) (omega arith)
      (by_width (λ (w : ℕ). e ≤ 24 * w → i < e → x ≤ e - i → x + (x - (w - column_of w i) + (w - 1)) / w + 1 + i ≤ 24 * (w + 1)) (λ h b m. omega arith)
      (λ h b m. omega arith)
      k h g (cells_most p e i))
  at_bound p e all segment (Place.Break i) h g =
      let x = length (take (e - i) (drop i p)) in
      from_bound all segment _ 0 i (take (e - i) (drop i p)) (omega arith)
      (by_width (λ (w : ℕ). e ≤ 24 * w → column_of w i ≡ 0 → 0 < i → i < e → x ≤ e - i → x + (x - 0 + (w - 1)) / w + 1 + i ≤ 24 * (w + 1))
      (λ h z s b m. omega (arith, z)) (λ h z s b m. omega (arith, z)) k h g.0 g.1.0 g.1.1 (cells_most p e i))
  at_bound p e all segment Place.Return h g = omega (arith, width_range k)

pub short_most : (r : Short) → short_length r ≤ 7
short_most Short.Acknowledge = omega arith
short_most Short.Cell = omega arith
short_most Short.Identity = omega arith
short_most Short.Cursor = omega arith
short_most Short.SegmentCursor = omega arith
short_most Short.DecimalCursor = omega arith

each_most : (r : Short) (n : ℕ) (l : List ℕ) → length (bytes_of (each r n l)) ≡ length l
unfolding each bytes_of
each_most r n [] = refl
each_most r n (b ∷ l) = ap suc (each_most r (suc n) l)

module _ (p : List ℕ) (c : Core) (i : Inside c.screen) where
  good_at : (segment : Bool) (z : Place) → GoodPlace c.screen segment z → GoodAt (width_of c.screen) (cursor_of c.screen + 1) z
  good_at segment (Place.Cell j) g = omega (arith, g.1)
  good_at segment (Place.Break j) g = (g.0, (omega (arith, g.1.0), omega (arith, g.1.1)))
  good_at segment Place.Return g = tt

  short_bound : (r : Short) (n : ℕ) → length (bytes_of (places p c (Sending.Short r n))) ≤ 7 - n
  unfolding places
  short_bound r n = omega (arith, each_most r n (drop n (short_reply p c r)), length-drop n (short_reply p c r), short_few p c r, short_most r)

  text_bound : (all segment : Bool) (z : Place) → GoodPlace c.screen segment z
      → length (bytes_of (places p c (Sending.Text all segment z))) + gone z ≤ 24 * (width_of c.screen + 1)
  unfolding places
  text_bound all segment z g =
      at_bound (columns_width c.screen.wide) p (cursor_of c.screen + 1) all segment z (omega (arith, i.below, i.placed.page))
      (good_at segment z g)

  whole_bound : (y : Sending) → GoodSend c.screen y → length (bytes_of (places p c y)) ≤ 24 * (width_of c.screen + 1)
  whole_bound Sending.Nothing g = unfold places bytes_of in omega arith
  whole_bound (Sending.Short r n) g = omega (arith, short_bound r n)
  whole_bound (Sending.Text all segment z) g = omega (arith, text_bound all segment z g)

  pub sent_bound : (y : Sending) → GoodSend c.screen y → (room : ℕ) → length (sent_from p c y room) ≤ 24 * (width_of c.screen + 1)
  unfolding sent_from
  sent_bound y g room = omega (arith, length-take room (bytes_of (places p c y)), whole_bound y g)

  -- a possible send stands behind the first place of its reply
  some_gone : (x : Screen) (segment : Bool) (z : Place) → place_ok x segment z ≡ true → 0 < gone z
  unfolding place_ok
  some_gone x segment (Place.Cell j) h = omega (arith, ltb-true (text_start x segment) j (both_parts (ltb (text_start x segment) j) _ h).0)
  some_gone x segment (Place.Break j) h =
      let a = both_parts (eqb (column_of (width_of x) j) 0) _ h in
      omega (arith, ltb-true (text_start x segment) j (both_parts (ltb (text_start x segment) j) _ a.1).0)
  some_gone x segment Place.Return h = omega arith

  pub left_bound : (q : Pending) (y : Sending) → sending_ok c.screen q y ≡ true → length (bytes_of (places p c y)) < 24 * (width_of c.screen + 1)
  unfolding sending_ok
  left_bound q Sending.Nothing h = unfold places bytes_of in omega arith
  left_bound q (Sending.Short r n) h = omega (arith, short_bound r n)
  left_bound q (Sending.Text all segment z) h =
      omega (
        arith,
        text_bound all segment z (ok_good c.screen q (Sending.Text all segment z) h),
        some_gone c.screen segment z
            (both_parts (is_idle q) _ h).1,
      )

-- with no room it stands where it stood
pub stands_still : (p : List ℕ) (c : Core) → length p ≡ page_length c.screen → Inside c.screen → (q : Pending) (y : Sending)
    → sending_ok c.screen q y ≡ true
    → sends y ≡ true → standing (beyond 0 (places p c y)) ≡ y
stands_still p c n i q y ok s = rw (beyond_zero (places p c y))
    (by (places p c y) (ahead p c n i y (ok_good c.screen q y ok)) (some_left p c q y ok s))
  where
    by : (l : List Spot) → Ahead p c y l → 0 < length (bytes_of l) → standing l ≡ y
    by _ over h = absurd (unfold bytes_of in omega arith)
    by _ (stands b r) h = unfold standing in refl
