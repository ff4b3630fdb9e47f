-- The relation between the pages of two terminals that noninterference keeps: a cell protected at the start holds in each terminal the
-- number it had there, and any other cell holds one number in both.
--     related_alike, related_cell, related_length     it holds at the start of pages that are alike; what it says of each cell
--     related_guards, related_bit, related_at, related_places     what is read of two related pages agrees
--     left_conceals     a send but for ESC 6 and ESC 7 leaves no other
--     related_write     a write that spares guarded cells keeps it
-- Assumes nothing.
use mathlib.Core.Path.{◌≡◌, refl, sym, ap, ◌∙◌}
use mathlib.Core.Bool.{Bool, true, false, false≢true}
use mathlib.Core.List.{List, [], ◌∷◌, ◌++◌}
use Prim.Native.Nat.{ℕ, zero, suc, ◌+◌, ◌-◌, ◌*◌, ◌<◌, suc-le-suc}
use native.Mathlib.Nat.{suc-ne-zero, suc_inj}
use native.Mathlib.Omega.{arith}
use lib.Dec.{eqb}
use lib.ListN.{length, get_or, take, drop, take-append-drop, length-append, length-take, length-drop, length-replicate}
use Rattle.rules.specs.declared.Write.{Write}
use Rattle.rules.specs.declared.Write.TheVariants as Write
use Rattle.rules.specs.declared.Core.{Core}
use Rattle.rules.specs.declared.Short.{Short}
use Rattle.rules.specs.declared.Short.TheVariants as Short
use Rattle.rules.specs.declared.Place.{Place}
use Rattle.rules.specs.declared.Place.TheVariants as Place
use Rattle.rules.specs.declared.Sending.{Sending}
use Rattle.rules.specs.declared.Sending.TheVariants as Sending
use Rattle.rules.specs.Cell.{pick, protected}
use Rattle.rules.specs.Row.{row_end}
use Rattle.rules.specs.Search.{which_cells, guarded_at, first_true, first_in, edit_end}
use Rattle.rules.specs.Change.{within, fill_cell, filled, shift_left, shift_right, shifted, edit_shifted, column_filled}
use Rattle.rules.specs.State.{width_of, cursor_of}
use Rattle.rules.specs.Send.{Spot, open_cell, short_reply, each, cell_place, text_places, follows_left_out, text_at, places, beyond, standing}
use Rattle.rules.specs.Send.{left_from}
use Rattle.rules.specs.Carry.{applied}
use Rattle.rules.specs.Theorems.Noninterference.{revealing}
use Rattle.rules.proofs.Tests.{pick_if}

-- p and q are the pages at the start, x and y the pages now
pub data Related : List ℕ → List ℕ → List ℕ → List ℕ → Type 0 where
  none : Related [] [] [] []
  secret : {a b : ℕ} {p q x y : List ℕ} → protected a ≡ true → protected b ≡ true → Related p q x y
      → Related (a ∷ p) (b ∷ q) (a ∷ x) (b ∷ y)
  public : {a c : ℕ} {p q x y : List ℕ} → protected a ≡ false → Related p q x y → Related (a ∷ p) (a ∷ q) (c ∷ x) (c ∷ y)

-- ---- the start and the end

pub related_alike : (p q : List ℕ) → length p ≡ length q → ((i : ℕ) → i < length p → protected (get_or p i 0) ≡ protected (get_or q i 0))
    → ((i : ℕ) → i < length p → protected (get_or p i 0) ≡ false → get_or p i 0 ≡ get_or q i 0) → Related p q p q
related_alike [] [] l e c = none
related_alike [] (b ∷ q) l e c = absurd (suc-ne-zero (length q) (sym l))
related_alike (a ∷ p) [] l e c = absurd (suc-ne-zero (length p) l)
related_alike (a ∷ p) (b ∷ q) l e c =
    first (protected a) refl (related_alike p q (suc_inj l) (λ i h. e (suc i) (suc-le-suc h)) (λ i h. c (suc i) (suc-le-suc h)))
  where
    first : (t : Bool) → protected a ≡ t → Related p q p q → Related (a ∷ p) (b ∷ q) (a ∷ p) (b ∷ q)
    first true u h = secret u (sym (e 0 (omega arith)) ∙ u) h
    first false u h = rw (← (c 0 (omega arith) u)) (public u h)

-- what is known of one cell: a and b at the start, c and d now
pub record CellKept (a b c d : ℕ) : Type 0 where
  pub open_cell_lem : protected a ≡ false → c ≡ d
  pub first : protected a ≡ true → c ≡ a
  pub second : protected b ≡ true → d ≡ b

pub related_cell : {p q x y : List ℕ} → Related p q x y → (i : ℕ) → CellKept (get_or p i 0) (get_or q i 0) (get_or x i 0) (get_or y i 0)
related_cell none i = record { open_cell_lem = λ e. refl; first = λ e. refl; second = λ e. refl }
related_cell (secret u v h) zero = record { open_cell_lem = λ e. absurd (false≢true (sym e ∙ u)); first = λ e. refl; second = λ e. refl }
related_cell (secret u v h) (suc i) = related_cell h i
related_cell (public u h) zero =
    record { open_cell_lem = λ e. refl; first = λ e. absurd (false≢true (sym u ∙ e)); second = λ e. absurd (false≢true (sym u ∙ e)) }
related_cell (public u h) (suc i) = related_cell h i

pub related_length : {p q x y : List ℕ} → Related p q x y → length x ≡ length y
related_length none = refl
related_length (secret u v h) = ap suc (related_length h)
related_length (public u h) = ap suc (related_length h)

-- ---- parts

related_take : (n : ℕ) {p q x y : List ℕ} → Related p q x y → Related (take n p) (take n q) (take n x) (take n y)
related_take zero h = none
related_take (suc n) none = none
related_take (suc n) (secret u v h) = secret u v (related_take n h)
related_take (suc n) (public u h) = public u (related_take n h)

related_drop : (n : ℕ) {p q x y : List ℕ} → Related p q x y → Related (drop n p) (drop n q) (drop n x) (drop n y)
related_drop zero h = h
related_drop (suc n) none = none
related_drop (suc n) (secret u v h) = related_drop n h
related_drop (suc n) (public u h) = related_drop n h

related_append : {p q x y p' q' x' y' : List ℕ} → Related p q x y → Related p' q' x' y' → Related (p ++ p') (q ++ q') (x ++ x') (y ++ y')
related_append none k = k
related_append (secret u v h) k = secret u v (related_append h k)
related_append (public u h) k = public u (related_append h k)

-- a change within a part keeps the relation if it keeps it on that part
related_within : (a e : ℕ) (f : List ℕ → List ℕ) {p q x y : List ℕ} → Related p q x y
    → Related (take (e - a) (drop a p)) (take (e - a) (drop a q)) (f (take (e - a) (drop a x))) (f (take (e - a) (drop a y)))
    → Related p q (within a e f x) (within a e f y)
unfolding within
related_within a e f {p} {q} h k =
    rw (take-append-drop (e - a) (drop a p), take-append-drop a p, take-append-drop (e - a) (drop a q), take-append-drop a q)
    at (related_append (related_take a h) (related_append k (related_drop (e - a) (related_drop a h))))

-- ---- what is read

pub related_guards : {p q x y : List ℕ} → Related p q x y → guarded_at true x ≡ guarded_at true y
unfolding which_cells
related_guards none = refl
related_guards (secret u v h) = rw (u, v, related_guards h)
related_guards (public u h) = rw (related_guards h)

-- the protected bits are the same
pub related_bit : (i : ℕ) {p q x y : List ℕ} → Related p q x y → protected (get_or x i 0) ≡ protected (get_or y i 0)
related_bit i none = refl
related_bit zero (secret u v h) = u ∙ sym v
related_bit zero (public u h) = refl
related_bit (suc i) (secret u v h) = related_bit i h
related_bit (suc i) (public u h) = related_bit i h

-- the text without protected cells is the same
related_text : (w : ℕ) (segment : Bool) (n : ℕ) (after : Bool) (i : ℕ) {p q x y : List ℕ} → Related p q x y
    → text_places w false segment n after i x ≡ text_places w false segment n after i y
unfolding text_places cell_place
related_text w segment n after i none = refl
related_text w segment zero after i (secret u v h) = rw (u, v, related_text w segment (w - 1) true (suc i) h)
related_text w segment (suc n) after i (secret u v h) = rw (u, v, related_text w segment n true (suc i) h)
related_text w segment zero after i (public {a} {c} u h) = rw (related_text w segment (w - 1) (protected c) (suc i) h)
related_text w segment (suc n) after i (public {a} {c} u h) = rw (related_text w segment n (protected c) (suc i) h)

-- from any place, protect mode on or off
pub related_at : (w e : ℕ) (segment : Bool) (k : Place) {p q x y : List ℕ} → Related p q x y
    → text_at w x e false segment k ≡ text_at w y e false segment k
unfolding text_at follows_left_out
related_at w e segment (Place.Cell i) h =
    rw (related_bit (i - 1) h) (related_text w segment _ _ i (related_take (e - i) (related_drop i h)))
related_at w e segment (Place.Break i) h = related_text w segment 0 false i (related_take (e - i) (related_drop i h))
related_at w e segment Place.Return h = refl

-- an open cell is the same
related_open : (i : ℕ) {p q x y : List ℕ} → Related p q x y → open_cell true (get_or x i 0) ≡ open_cell true (get_or y i 0)
unfolding open_cell
related_open i none = refl
related_open zero (secret u v h) = rw (u, v)
related_open zero (public u h) = refl
related_open (suc i) (secret u v h) = related_open i h
related_open (suc i) (public u h) = related_open i h

-- `on` is protect mode: `rw` of a core's own field would rewrite the core
related_cell_reply : (on : Bool) (i : ℕ) → on ≡ true → {p q x y : List ℕ} → Related p q x y → open_cell on (get_or x i 0) ≡ open_cell on (get_or y i 0)
related_cell_reply on i e h = rw e (related_open i h)

related_short : (c : Core) (r : Short) → c.modes.protect ≡ true → {p q x y : List ℕ} → Related p q x y → short_reply x c r ≡ short_reply y c r
unfolding short_reply
related_short c Short.Acknowledge e h = refl
related_short c Short.Cell e h = related_cell_reply c.modes.protect (cursor_of c.screen) e h
related_short c Short.Identity e h = refl
related_short c Short.Cursor e h = refl
related_short c Short.SegmentCursor e h = refl
related_short c Short.DecimalCursor e h = refl

-- a send but for ESC 6 and ESC 7 has the same places
pub related_places : (c : Core) (s : Sending) → c.modes.protect ≡ true → revealing s ≡ false → {p q x y : List ℕ} → Related p q x y
    → places x c s ≡ places y c s
unfolding places
related_places c Sending.Nothing on e h = refl
related_places c (Sending.Short r n) on e h = ap (λ (l : List ℕ). each r n (drop n l)) (related_short c r on h)
related_places c (Sending.Text true segment k) on e h = absurd (false≢true (sym e))
related_places c (Sending.Text false segment k) on e h = related_at (width_of c.screen) (cursor_of c.screen + 1) segment k h

-- ---- a send stays what it is

data Concealing : List Spot → Type 0 where
  none : Concealing []
  more : {x : Spot} {l : List Spot} → revealing x.from ≡ false → Concealing l → Concealing (x ∷ l)

conceal_text : (w : ℕ) (segment : Bool) (n : ℕ) (after : Bool) (i : ℕ) (l : List ℕ) → Concealing (text_places w false segment n after i l)
unfolding text_places
conceal_text w segment n after i [] = more refl none
conceal_text w segment zero after i (v ∷ l) = more refl (more refl (conceal_text w segment (w - 1) _ (suc i) l))
conceal_text w segment (suc n) after i (v ∷ l) = more refl (conceal_text w segment n _ (suc i) l)

conceal_each : (r : Short) (n : ℕ) (l : List ℕ) → Concealing (each r n l)
unfolding each
conceal_each r n [] = none
conceal_each r n (b ∷ l) = more refl (conceal_each r (suc n) l)

conceal_at : (w e : ℕ) (p : List ℕ) (segment : Bool) (k : Place) → Concealing (text_at w p e false segment k)
unfolding text_at
conceal_at w e p segment (Place.Cell i) = conceal_text w segment _ _ i _
conceal_at w e p segment (Place.Break i) = conceal_text w segment _ _ i _
conceal_at w e p segment Place.Return = more refl none

conceal_places : (p : List ℕ) (c : Core) (s : Sending) → revealing s ≡ false → Concealing (places p c s)
unfolding places
conceal_places p c Sending.Nothing e = none
conceal_places p c (Sending.Short r n) e = conceal_each r n _
conceal_places p c (Sending.Text true segment k) e = absurd (false≢true (sym e))
conceal_places p c (Sending.Text false segment k) e = conceal_at _ _ p segment k

conceal_beyond : {l : List Spot} → Concealing l → (n : ℕ) → Concealing (beyond n l)
unfolding beyond
conceal_beyond none n = none
conceal_beyond (more {x} e h) n = pick_if Concealing (eqb n 0) (λ t. more e h) (λ t. conceal_beyond h (n - length x.gives))

conceal_standing : {l : List Spot} → Concealing l → revealing (standing l) ≡ false
unfolding standing
conceal_standing none = refl
conceal_standing (more e h) = e

pub left_conceals : (p : List ℕ) (c : Core) (s : Sending) (room : ℕ) → revealing s ≡ false → revealing (left_from p c s room) ≡ false
unfolding left_from
left_conceals p c s room e = conceal_standing (conceal_beyond (conceal_places p c s e) room)

-- ---- what is written

fill_keeps : (v a : ℕ) → protected a ≡ true → fill_cell true v a ≡ a
fill_keeps v a u = rw u

related_filled : (v : ℕ) {p q x y : List ℕ} → Related p q x y → Related p q (filled true v x) (filled true v y)
unfolding filled
related_filled v none = none
related_filled v (secret {a} {b} u w h) = rw (fill_keeps v a u, fill_keeps v b w) (secret u w (related_filled v h))
related_filled v (public u h) = public u (related_filled v h)

related_fill : (a e v : ℕ) {p q x y : List ℕ} → Related p q x y → Related p q (within a e (filled true v) x) (within a e (filled true v) y)
related_fill a e v h = related_within a e (filled true v) h (related_filled v (related_take (e - a) (related_drop a h)))

related_column : (w v column n row : ℕ) {p q x y : List ℕ} → Related p q x y
    → Related p q (column_filled w true v column n row x) (column_filled w true v column n row y)
unfolding column_filled
related_column w v column zero row h = h
related_column w v column (suc n) row h = related_column w v column n (suc row) (related_fill (row * w + column) (row * w + column + 1) v h)

-- the first n cells are public: they are equal, and any numbers may take their place, the same in both
record Public (n : ℕ) (p q x y : List ℕ) : Type 0 where
  equal : take n x ≡ take n y
  any : (l : List ℕ) → length l ≡ length (take n x) → Related (take n p) (take n q) l l

public_none : {p q x y : List ℕ} → Public 0 p q x y
public_none = record { equal = refl; any = empty }
  where
    empty : (l : List ℕ) → length l ≡ 0 → Related [] [] l l
    empty [] e = none
    empty (c ∷ l) e = absurd (suc-ne-zero (length l) e)

public_cons : {n a c : ℕ} {p q x y : List ℕ} → protected a ≡ false → Public n p q x y → Public (suc n) (a ∷ p) (a ∷ q) (c ∷ x) (c ∷ y)
public_cons {n} {a} {c} {p} {q} {x} u r = record { equal = ap {B = List ℕ} (λ l. c ∷ l) r.equal; any = more }
  where
    more : (l : List ℕ) → length l ≡ suc (length (take n x)) → Related (a ∷ take n p) (a ∷ take n q) l l
    more [] e = absurd (suc-ne-zero (length (take n x)) (sym e))
    more (d ∷ l) e = public u (r.any l (suc_inj e))

-- how many cells come before the first cell sought
abbrev before : List Bool → ℕ
before [] = 0
before (true ∷ m) = 0
before (false ∷ m) = suc (before m)

before_is : (at : ℕ) (m : List Bool) → first_true at m ≡ at + before m
before_is at [] = omega arith
before_is at (true ∷ m) = omega arith
before_is at (false ∷ m) = before_is (suc at) m ∙ omega arith

-- cells up to the first guarded one are public
public_before : (n : ℕ) {p q x y : List ℕ} → Related p q x y → Public (before (take n (guarded_at true x))) p q x y
unfolding which_cells
public_before zero h = public_none
public_before (suc n) none = public_none
public_before (suc n) (secret u v h) = rw u public_none
public_before (suc n) (public {a} {c} {p} {q} {x} {y} u h) = by (protected c) (public_before n h)
  where
    by : (t : Bool) → Public (before (take n (guarded_at true x))) p q x y
        → Public (before (t ∷ take n (guarded_at true x))) (a ∷ p) (a ∷ q) (c ∷ x) (c ∷ y)
    by true r = public_none
    by false r = public_cons u r

public_run : (at e : ℕ) {p q x y : List ℕ} → Related p q x y
    → Public (before (drop at (take e (guarded_at true x)))) (drop at p) (drop at q) (drop at x) (drop at y)
unfolding which_cells
public_run zero e h = public_before e h
public_run (suc at) zero h = public_none
public_run (suc at) (suc e) none = public_none
public_run (suc at) (suc e) (secret u v h) = public_run at e h
public_run (suc at) (suc e) (public u h) = public_run at e h

-- the edit run is public
public_edit : (w at : ℕ) {p q x y : List ℕ} → Related p q x y
    → Public (edit_end w (guarded_at true x) at - at) (drop at p) (drop at q) (drop at x) (drop at y)
unfolding first_in
public_edit w at {x = x} h =
    let run = drop at (take (row_end w at) (guarded_at true x)) in
    let n : edit_end w (guarded_at true x) at - at ≡ before run = omega (arith, before_is at run) in
    rw n (public_run at (row_end w at) h)

-- a shift keeps the length
length_shifted : (right : Bool) (k v : ℕ) (l : List ℕ) → length (shifted right k v l) ≡ length l
unfolding shift_left shift_right
length_shifted true k v l = simp (length-take, length-append, length-replicate) (omega arith)
length_shifted false k v l = simp (length-drop, length-append, length-replicate) (omega arith)

related_edit : (w : ℕ) (right : Bool) (v at : ℕ) {p q x y : List ℕ} → Related p q x y
    → Related p q (edit_shifted w true right v at x) (edit_shifted w true right v at y)
unfolding edit_shifted
related_edit w right v at {x = x} h =
    let r = public_edit w at h in
    let n = edit_end w (guarded_at true x) at - at in
    rw (← (related_guards h))
    (related_within at (edit_end w (guarded_at true x) at) (shifted right 1 v) h
    (rw (← r.equal) (r.any (shifted right 1 v (take n (drop at x))) (length_shifted right 1 v (take n (drop at x))))))

-- a write that leaves guarded cells as they are
abbrev pub spares : Write → Bool
spares Write.Nothing = true
spares (Write.Fill a e v) = true
spares (Write.FillAll a e v) = false
spares (Write.Column top bottom c v) = true
spares (Write.Edit right at v) = true
spares (Write.Rows down top bottom) = false

pub related_write : (w : ℕ) (r : Write) → spares r ≡ true → {p q x y : List ℕ} → Related p q x y
    → Related p q (applied w true r x) (applied w true r y)
unfolding applied
related_write w Write.Nothing e h = h
related_write w (Write.Fill a e v) s h = related_fill a e v h
related_write w (Write.FillAll a e v) s h = absurd (false≢true s)
related_write w (Write.Column top bottom c v) e h = related_column w v c (bottom - top) top h
related_write w (Write.Edit right at v) e h = related_edit w right v at h
related_write w (Write.Rows down top bottom) e h = absurd (false≢true e)
