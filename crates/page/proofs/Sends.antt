-- Laws of a send: what goes from a place on is what goes from the next, with the place's byte in the room.
--     gone_one, gone_silent, gone_full, gone_none     one place that gives a byte or none, no room, and the end
--     cell_open, cell_guarded                         ESC M
--     Copying, part_copied, all_copied                the bytes of a short reply, some of them or all
--     step_sent, step_first, step_silent              a cell of a row
--     Putting, Skipping                               the loops over a stretch that is sent, and over one that is left out
--     Rowing                                          the loop over a row, a stretch a turn
--     go_us, go_cr, Going                             US, CR, and the loop over the rows
-- Assumes nothing.
use mathlib.Core.Path.{◌≡◌, refl, sym, ap, subst, ◌∙◌}
use mathlib.Core.Bool.{Bool, true, false, false≢true}
use mathlib.Core.List.{List, [], ◌∷◌, ◌++◌}
use mathlib.Core.Logic.{⊎_elim}
use Prim.Native.Nat.{ℕ, zero, suc, ◌+◌, ◌-◌, ◌*◌, ◌/◌, ◌≤◌, ◌<◌}
use native.Mathlib.Numerals.{add-one}
use native.Mathlib.Nat.{zero-add}
use native.Mathlib.Omega.{arith}
use lib.Dec.{eqb, ltb}
use lib.ListN.{length, get_or, set, take, drop, length-set, length-drop, drop_of_length-le}
use lib.Seq.{drop-cons, take-nil, paste, get_or-drop}
use Rattle.std.proofs.lemmas.List.Edits.{paste_none, paste_more}
use borrow.Author.Tests.{eqb-false, eq-eqb, ne_eqb, lt-ltb, le-ltb, ltb-true, ltb-false}
use Rattle.rules.specs.declared.Short.{Short}
use Rattle.rules.specs.declared.Place.{Place}
use Rattle.rules.specs.declared.Sending.{Sending}
use Rattle.rules.specs.Cell.{pick, guarded, sent}
use Rattle.rules.specs.Row.{Width, column_of, row_end}
use Rattle.rules.specs.Send.{Spot, spot, open_cell, each, leaves_out, cell_place, follows_left_out, text_at, bytes_of, standing}
use Rattle.rules.proofs.Tests.{either_way}
use Rattle.rules.proofs.Rows.{by_width, row_after_lem}
use Rattle.rules.proofs.Sends.{beyond_zero, beyond_silent, beyond_one, beyond_none, next_place, at_cell, at_break}
use Rattle.page.specs.Room.{stored, Gone, stands, gone}
use Rattle.page.specs.Text.{RowPart, place_in, spots_in, skips, Stretch, Skipped, RowSent}

-- ---- one place

stands_is : {a a' : List ℕ} {b b' : ℕ} {c c' : Sending} → a ≡ a' → b ≡ b' → c ≡ c' → stands a b c ≡ stands a' b' c'
stands_is e f g = rw (e, f, g)

-- a send that stops, with what it stops at
pub stopped : {w : List ℕ} {n n' : ℕ} {x x' : Sending} {g : Gone} → (n' ≡ n) × (x' ≡ x) → stands w n x ≡ g → stands w n' x' ≡ g
stopped e h = stands_is refl e.0 e.1 ∙ h

module _ (x : Sending) (l : List Spot) (n : ℕ) (w : List ℕ) where
  pub gone_one : (b : ℕ) → n < length w → gone (spot x (b ∷ []) ∷ l) n w ≡ gone l (n + 1) (set w n b)
  unfolding gone bytes_of stored
  gone_one b h =
      let e : length w - n ≡ suc (length w - (n + 1)) = omega arith in
      let m : n + suc (length (take (length w - (n + 1)) (bytes_of l))) ≡ n + 1 + length (take (length w - (n + 1)) (bytes_of l)) = omega arith in
      stands_is (rw (e, length-set w n b)) (rw (e, length-set w n b) m) (rw (e, length-set w n b, beyond_one (length w - (n + 1)) x b l))

  pub gone_silent : n < length w → gone (spot x [] ∷ l) n w ≡ gone l n w
  unfolding gone bytes_of
  gone_silent h =
      let e : length w - n ≡ suc (length w - (n + 1)) = omega arith in
      stands_is refl refl (rw (e, beyond_silent (length w - (n + 1)) x l))

pub gone_full : (l : List Spot) (n : ℕ) (w : List ℕ) → n ≡ length w → gone l n w ≡ stands w n (standing l)
unfolding gone stored
gone_full l n w h =
    let e : length w - n ≡ 0 = omega (arith, h) in
    let m : n + 0 ≡ n = omega arith in
    stands_is (rw e) (rw e m) (rw (e, beyond_zero l))

pub gone_none : (n : ℕ) (w : List ℕ) → gone [] n w ≡ stands w n Sending.Nothing
unfolding gone bytes_of stored standing
gone_none n w =
    let m : n + 0 ≡ n = omega arith in
    stands_is (rw (take-nil (length w - n))) (rw (take-nil (length w - n)) m) (rw (beyond_none (length w - n)))

gone_at : {l k : List Spot} (n : ℕ) (w : List ℕ) → l ≡ k → gone l n w ≡ gone k n w
gone_at n w e = ap (λ (l : List Spot). gone l n w) e

-- ---- ESC M

pub cell_open : (on : Bool) (v : ℕ) (w : List ℕ) → guarded on v ≡ false → 0 < length w
    → stands (set w 0 (sent v)) 1 Sending.Nothing ≡ gone (each Short.Cell 0 (open_cell on v)) 0 w
unfolding open_cell each
cell_open on v w h k = rw h (sym (gone_one (Sending.Short Short.Cell 0) [] 0 w (sent v) k ∙ gone_none 1 (set w 0 (sent v))))

pub cell_guarded : (on : Bool) (v : ℕ) (w : List ℕ) → guarded on v ≡ true → stands w 0 Sending.Nothing ≡ gone (each Short.Cell 0 (open_cell on v)) 0 w
unfolding open_cell each
cell_guarded on v w h = rw h (sym (gone_none 0 w))

-- ---- the bytes of a short reply

-- the byte i is the next, and n of them are in the room r; from the byte a on, none was in the room q
pub record Copying (x : Short) (bytes : List ℕ) (a : ℕ) (q : List ℕ) (i n : ℕ) (r : List ℕ) : Type 0 where
  pub most : i ≤ length bytes
  pub long : length r ≡ length q
  pub fits : n ≤ length r
  pub is : gone (each x a (drop a bytes)) 0 q ≡ gone (each x i (drop i bytes)) n r

pub copy_begin : {x : Short} {bytes : List ℕ} {a : ℕ} {q : List ℕ} → a ≤ length bytes → Copying x bytes a q a 0 q
copy_begin h = record { most = h; long = refl; fits = omega arith; is = refl }

module _ {x : Short} {bytes : List ℕ} {a : ℕ} {q : List ℕ} {i n : ℕ} {r : List ℕ} (c : Copying x bytes a q i n r) where
  copy_first : i < length bytes → each x i (drop i bytes) ≡ spot (Sending.Short x i) (get_or bytes i 0 ∷ []) ∷ each x (i + 1) (drop (i + 1) bytes)
  unfolding each
  copy_first h = rw (drop-cons bytes i 0 h, add-one)

  pub copy_next : i < length bytes → (n ≡ length r → ⊥) → Copying x bytes a q (i + 1) (n + 1) (set r n (get_or bytes i 0))
  copy_next h f = record {
    most = omega arith;
    long = length-set r n (get_or bytes i 0) ∙ c.long;
    fits = omega (arith, length-set r n (get_or bytes i 0), c.fits, f);
    is = c.is ∙ gone_at n r (copy_first h) ∙ gone_one (Sending.Short x i) _ n r (get_or bytes i 0) (omega (arith, c.fits, f));
  }

  pub copy_full : i < length bytes → n ≡ length r → stands r n (Sending.Short x i) ≡ gone (each x a (drop a bytes)) 0 q
  unfolding standing
  copy_full h e = sym (c.is ∙ gone_full _ n r e ∙ ap (λ (l : List Spot). stands r n (standing l)) (copy_first h))

  pub copy_end : length bytes ≤ i → stands r n Sending.Nothing ≡ gone (each x a (drop a bytes)) 0 q
  unfolding each
  copy_end h = sym (c.is ∙ gone_at n r (ap (each x i) (drop_of_length-le bytes h)) ∙ gone_none n r)

-- m of the bytes are copied
pub copied : (x : Short) (bytes : List ℕ) (a : ℕ) (q : List ℕ) (m : ℕ) → a + m ≤ length bytes → m ≤ length q
    → Copying x bytes a q (a + m) m (paste q 0 (drop a bytes) m)
copied x bytes a q zero h k =
    let e : a + 0 ≡ a = omega arith in
    rw (e, ← paste_none q 0 (drop a bytes)) (copy_begin (omega arith))
copied x bytes a q (suc m) h k =
    let e : a + m + 1 ≡ a + suc m = omega arith in
    let z : m + 1 ≡ suc m = omega arith in
    let c = copied x bytes a q m (omega arith) (omega arith) in
    let p : set (paste q 0 (drop a bytes) m) m (get_or (drop a bytes) m 0) ≡ paste q 0 (drop a bytes) (suc m) =
    ap (λ (k : ℕ). set (paste q 0 (drop a bytes) m) k (get_or (drop a bytes) m 0)) (sym (zero-add m))
    ∙ paste_more q 0 (drop a bytes) m 0 (omega arith) (rw (length-drop a bytes) (omega arith))
    ∙ ap (paste q 0 (drop a bytes)) z in
    rw (e, z, ← get_or-drop a bytes m 0, p) at (copy_next c (omega arith) (λ f. omega (arith, f, c.long)))

module _ (x : Short) (bytes : List ℕ) (a : ℕ) (q r : List ℕ) (m : ℕ) (e : r ≡ take m (drop a bytes)) where
  front_is : r ++ drop m q ≡ paste q 0 (drop a bytes) m
  front_is = rw (e, zero-add m) refl

  pub part_copied : a + m < length bytes → m ≡ length q
      → stands (r ++ drop m q) m (Sending.Short x (a + m)) ≡ gone (each x a (drop a bytes)) 0 q
  part_copied h k =
      let c = copied x bytes a q m (omega arith) (omega arith) in
      rw front_is (copy_full c h (omega (arith, c.long)))

  pub all_copied : a + m ≡ length bytes → m ≤ length q → stands (r ++ drop m q) m Sending.Nothing ≡ gone (each x a (drop a bytes)) 0 q
  all_copied h k = rw front_is (copy_end (copied x bytes a q m (omega arith) k) (omega arith))

-- ---- a cell of a row

module _ {p : List ℕ} {i end : ℕ} (t : RowPart p i end) where
  -- the same row from a later cell on
  abbrev pub later : (j : ℕ) → i ≤ j → RowPart p j end
  later j h = record {
    width = t.width;
    to = t.to;
    segment = t.segment;
    wide = t.wide;
    page = t.page;
    most = t.most;
    inner = λ k a. t.inner k (omega arith);
    ends = t.ends;
  }

  module _ (j : ℕ) (a : i ≤ j) where
    next_inner : suc j < end → next_place t.width t.to j ≡ place_in t.to end (suc j)
    unfolding next_place
    next_inner h =
        rw (lt-ltb (suc j) end h, ne_eqb (suc j) t.to (omega (arith, t.most)), ne_eqb (column_of t.width (suc j)) 0 (t.inner j a h))

    next_last : (s : Bool) → eqb end t.to ≡ s → suc j ≡ end → next_place t.width t.to j ≡ place_in t.to end (suc j)
    unfolding next_place
    next_last true y e = rw (e, le-ltb end end (omega arith), y)
    next_last false y e = rw (e, le-ltb end end (omega arith), y, eq-eqb (column_of t.width end) 0 (t.ends (eqb-false end t.to y)))

    next_in : j < end → (s : Bool) → ltb (suc j) end ≡ s → next_place t.width t.to j ≡ place_in t.to end (suc j)
    next_in h true z = next_inner (ltb-true (suc j) end z)
    next_in h false z = next_last (eqb end t.to) refl (omega (arith, ltb-false (suc j) end z))

    module _ (all : Bool) where
      abbrev here : Sending
      here = Sending.Text all t.segment (Place.Cell j)

      -- the cell, and the places behind it
      spots_next : j < end
          → spots_in t all j
          ≡ spot here (cell_place (leaves_out all) (follows_left_out t.width all p j) (get_or p j 0)) ∷ spots_in t all (j + 1)
      unfolding spots_in
      spots_next h =
          rw (lt-ltb j end h, add-one)
          (at_cell t.wide p t.to t.page all t.segment j (omega (arith, t.most))
          ∙ ap (λ (z : Place). spot here (cell_place (leaves_out all) (follows_left_out t.width all p j) (get_or p j 0))
          ∷ text_at t.width p t.to all t.segment z)
          (next_in h (ltb (suc j) end) refl))

      -- where it stands there
      pub standing_cell : j < end → standing (spots_in t all j) ≡ Sending.Text all t.segment (Place.Cell j)
      unfolding standing
      standing_cell h = ap standing (spots_next h)

      -- the next cell follows it
      pub follows_next : j + 1 < end → follows_left_out t.width all p (j + 1) ≡ skips p all j
      unfolding follows_left_out
      follows_next h =
          let e : suc j - 1 ≡ j = omega arith in
          rw (add-one, ne_eqb (column_of t.width (suc j)) 0 (t.inner j a (omega arith)), e)

      module _ (h : j < end) (n : ℕ) (q : List ℕ) (f : n < length q) where
        pub step_sent : skips p all j ≡ false → gone (spots_in t all j) n q ≡ gone (spots_in t all (j + 1)) (n + 1) (set q n (sent (get_or p j 0)))
        unfolding cell_place
        step_sent e = gone_at n q (spots_next h ∙ rw e) ∙ gone_one here (spots_in t all (j + 1)) n q (sent (get_or p j 0)) f

        pub step_first : skips p all j ≡ true → follows_left_out t.width all p j ≡ false
            → gone (spots_in t all j) n q ≡ gone (spots_in t all (j + 1)) (n + 1) (set q n 0x1c)
        unfolding cell_place
        step_first e g = gone_at n q (spots_next h ∙ rw (e, g)) ∙ gone_one here (spots_in t all (j + 1)) n q 0x1c f

        pub step_silent : skips p all j ≡ true → follows_left_out t.width all p j ≡ true
            → gone (spots_in t all j) n q ≡ gone (spots_in t all (j + 1)) n q
        unfolding cell_place
        step_silent e g = gone_at n q (spots_next h ∙ rw (e, g)) ∙ gone_silent here (spots_in t all (j + 1)) n q f

-- ---- a stretch that is sent

-- the invariant: i is the next cell, and k its place in the room r; they were a, n and q
pub record Putting (p : List ℕ) (all : Bool) (a stop n : ℕ) (q : List ℕ) (i k : ℕ) (r : List ℕ) : Type 0 where
  pub least : a ≤ i
  pub most : i ≤ stop
  pub place : k ≡ n + (i - a)
  pub last : a < i → skips p all (i - 1) ≡ false
  pub long : length r ≡ length q
  pub is : (end : ℕ) → stop ≤ end → (t : RowPart p a end) → gone (spots_in t all a) n q ≡ gone (spots_in t all i) k r

module _ {p : List ℕ} {all : Bool} {a stop n : ℕ} {q : List ℕ} where
  pub put_begin : a ≤ stop → Putting p all a stop n q a n q
  put_begin h = record {
    least = omega arith;
    most = h;
    place = omega arith;
    last = λ l. absurd (omega arith);
    long = refl;
    is = λ end s t. refl;
  }

  module _ {i k : ℕ} {r : List ℕ} (c : Putting p all a stop n q i k r) where
    pub put_fits : n + (stop - a) ≤ length q → i < stop → k < length r
    put_fits f h = omega (arith, c.place, c.least, c.long)

    pub put_next : {b : ℕ} → n + (stop - a) ≤ length q → i < stop → skips p all i ≡ false → b ≡ sent (get_or p i 0)
        → Putting p all a stop n q (i + 1) (k + 1) (set r k b)
    put_next {b} f h e eb =
        let z : i + 1 - 1 ≡ i = omega arith in
        record {
          least = omega (arith, c.least);
          most = omega arith;
          place = omega (arith, c.place, c.least);
          last = λ l. rw z e;
          long = length-set r k b ∙ c.long;
          is = λ end s t. rw eb (c.is end s t ∙ step_sent t i c.least all (omega arith) k r (put_fits f h) e);
        }

    pub put_end : (i < stop → skips p all i ≡ true) → Stretch p all a stop n q i r
    put_end e = record {
      from = c.least;
      to = c.most;
      last = c.last;
      ends = e;
      long = c.long;
      is = λ end s t. rw (← c.place) (c.is end s t);
    }

-- ---- a stretch that is left out

pub record Skipping (p : List ℕ) (all : Bool) (a end i : ℕ) : Type 0 where
  pub least : a ≤ i
  pub most : i ≤ end
  pub follows : (t : RowPart p a end) → (a < end → follows_left_out t.width all p a ≡ true) → i < end → follows_left_out t.width all p i ≡ true
  pub is : (t : RowPart p a end) → (a < end → follows_left_out t.width all p a ≡ true) → (n : ℕ) (q : List ℕ) → n < length q
      → gone (spots_in t all a) n q ≡ gone (spots_in t all i) n q

module _ {p : List ℕ} {all : Bool} {a end : ℕ} where
  pub skip_begin : a ≤ end → Skipping p all a end a
  skip_begin h = record { least = omega arith; most = h; follows = λ t g. g; is = λ t g n q f. refl }

  pub skip_none : {after : Bool} → a ≤ end → after ≡ false → Skipped p all after a end a
  skip_none {after} h e = record {
    from = omega arith;
    to = h;
    stays = λ z. refl;
    ends = λ z. absurd (false≢true (sym e ∙ z));
    is = λ t g n q f. refl;
  }

  module _ {i : ℕ} (c : Skipping p all a end i) where
    pub skip_next : i < end → skips p all i ≡ true → Skipping p all a end (i + 1)
    skip_next h e = record {
      least = omega (arith, c.least);
      most = omega arith;
      follows = λ t g l. follows_next t i c.least all l ∙ e;
      is = λ t g n q f. c.is t g n q f ∙ step_silent t i c.least all h n q f e (c.follows t g h);
    }

    pub skip_end : {after : Bool} → after ≡ true → (i < end → skips p all i ≡ false) → Skipped p all after a end i
    skip_end {after} z e = record {
      from = c.least;
      to = c.most;
      stays = λ y. absurd (false≢true (sym y ∙ z));
      ends = λ y. e;
      is = λ t g. c.is t (λ l. g l ∙ z);
    }

-- ---- a row

-- the invariant: `at` is the next cell, `after` says that the one before it is left out, and n is its place in the room r; they were a, `follows`,
-- m and q
pub record Rowing (p : List ℕ) (all follows : Bool) (a end m : ℕ) (q : List ℕ) (at n : ℕ) (after : Bool) (r : List ℕ) : Type 0 where
  pub least : a ≤ at
  pub most : at ≤ end
  pub long : length r ≡ length q
  pub fits : n ≤ length r
  pub known : (t : RowPart p a end) → follows_left_out t.width all p a ≡ follows → at < end → follows_left_out t.width all p at ≡ after
  pub is : (t : RowPart p a end) → follows_left_out t.width all p a ≡ follows → gone (spots_in t all a) m q ≡ gone (spots_in t all at) n r

-- what `cut` promises
abbrev pub Cut : ℕ → ℕ → ℕ → ℕ → Type 0
Cut from end room r = (from ≤ r) × ((r ≤ end) × ((r ≤ from + room) × (r < end → r ≡ from + room)))

cut_some : {from end room r : ℕ} → Cut from end room r → from < end → 0 < room → (b : Bool) → ltb r end ≡ b → from < r
cut_some {from} {end} {room} {r} x h l true y = let u : r ≡ from + room = x.1.1.1 (ltb-true r end y) in omega (arith, u)
cut_some {from} {end} {room} {r} x h l false y = omega (arith, ltb-false r end y)

module _ {p : List ℕ} {all follows : Bool} {a end m : ℕ} {q : List ℕ} where
  pub row_begin : a ≤ end → m ≤ length q → Rowing p all follows a end m q a m follows q
  row_begin h f = record { least = omega arith; most = h; long = refl; fits = f; known = λ t g l. g; is = λ t g. refl }

  module _ {at n : ℕ} {after : Bool} {r : List ℕ} (c : Rowing p all follows a end m q at n after r) where
    pub row_full : length r ≤ n → RowSent p all follows a end m q at n r
    row_full h = record { from = c.least; to = c.most; long = c.long; fits = c.fits; full = λ l. omega (arith, c.fits); is = c.is }

    -- a turn: first is the next cell that is sent, the stretch from there up to `next` is in the room r', and there was room up to `stop`
    module _ {first stop next : ℕ} {r' : List ℕ} (h : n < length r) (s : Skipped p all after at end first) (k : Cut first end (length r - n) stop)
        (d : Stretch p all first stop n r next r') where
      on : (t : RowPart p a end) → follows_left_out t.width all p a ≡ follows
          → gone (spots_in t all a) m q ≡ gone (spots_in t all next) (n + (next - first)) r'
      unfolding spots_in
      on t g =
          c.is t g ∙ s.is (later t at c.least) (c.known t g) n r h
          ∙ d.is end k.1.0 (later t first (omega (arith, c.least, s.from)))

      pub row_stop : next ≡ stop → RowSent p all follows a end m q next (n + (next - first)) r'
      row_stop e = record {
        from = omega (arith, c.least, s.from, d.from);
        to = omega (arith, k);
        long = d.long ∙ c.long;
        fits = omega (arith, k, d.from, d.long);
        full = λ l. let x : stop ≡ first + (length r - n) = k.1.1.1 (omega (arith, e)) in omega (arith, e, d.long);
        is = on;
      }

      module _ (e : next ≡ stop → ⊥) where
        before_stop : next < stop
        before_stop = omega (arith, d.to, e)

        pub fs_fits : n + (next - first) < length r'
        fs_fits = omega (arith, before_stop, k, d.from, d.long)

        -- it is the first of a stretch that is left out
        begins_behind : (t : RowPart p a end) → first < next → follows_left_out t.width all p next ≡ false
        begins_behind t l =
            let z : next - 1 + 1 ≡ next = omega arith in
            subst (λ (j : ℕ). follows_left_out t.width all p j ≡ false) z
            (follows_next t (next - 1) (omega (arith, c.least, s.from)) all (omega (arith, before_stop, k)) ∙ d.last l)

        begins_first : (t : RowPart p a end) → follows_left_out t.width all p a ≡ follows → next ≡ first
            → follows_left_out t.width all p next ≡ false
        begins_first t g z =
            ⊎_elim
            (λ y. absurd (false≢true (sym (s.ends y (omega (arith, z, before_stop, k))) ∙ ap (skips p all) (sym z) ∙ d.ends before_stop)))
            (λ y.
            let x : at ≡ next = sym (z ∙ s.stays y) in
            subst (λ (j : ℕ). follows_left_out t.width all p j ≡ false) x (c.known t g (omega (arith, x, before_stop, k)) ∙ y))
            (either_way after)

        begins : (t : RowPart p a end) → follows_left_out t.width all p a ≡ follows → (b : Bool) → ltb first next ≡ b
            → follows_left_out t.width all p next ≡ false
        begins t g true y = begins_behind t (ltb-true first next y)
        begins t g false y = begins_first t g (omega (arith, ltb-false first next y, d.from))

        pub row_next : Rowing p all follows a end m q (next + 1) (n + (next - first) + 1) true (set r' (n + (next - first)) 0x1c)
        row_next = record {
          least = omega (arith, c.least, s.from, d.from);
          most = omega (arith, before_stop, k);
          long = length-set r' (n + (next - first)) 0x1c ∙ d.long ∙ c.long;
          fits = omega (arith, length-set r' (n + (next - first)) 0x1c, fs_fits);
          known = λ t g l. follows_next t next (omega (arith, c.least, s.from, d.from)) all l ∙ d.ends before_stop;
          is = λ t g.
              on t g
              ∙ step_first t next (omega (arith, c.least, s.from, d.from)) all (omega (arith, before_stop, k)) (n + (next - first)) r' fs_fits
              (d.ends before_stop) (begins t g (ltb first next) refl);
        }

-- ---- the rows

module _ {w : ℕ} (k : Width w) where
  -- the columns of a row behind the first, and its end
  row_inner : (i j : ℕ) → i ≤ j → suc j < row_end w i → column_of w (suc j) ≡ 0 → ⊥
  unfolding row_end
  row_inner i j a b c =
      by_width (λ (w : ℕ). suc j < (i / w + 1) * w → column_of w (suc j) ≡ 0 → ⊥) (λ b c. omega arith) (λ b c. omega arith) k b c

  row_ends : (i : ℕ) → column_of w (row_end w i) ≡ 0
  unfolding row_end
  row_ends i = by_width (λ (w : ℕ). column_of w ((i / w + 1) * w) ≡ 0) (omega arith) (omega arith) k

  row_from : (i : ℕ) → column_of w i ≡ 0 → row_end w i ≡ i + w
  unfolding row_end
  row_from i h = by_width (λ (w : ℕ). column_of w i ≡ 0 → (i / w + 1) * w ≡ i + w) (λ h. omega arith) (λ h. omega arith) k h

-- the invariant: `at` is the next cell, in the row that ends before `end`, `after` says that the one before it is left out, and n is its place in the
-- room r; they were a, m and q
pub record Going (w : ℕ) (p : List ℕ) (to : ℕ) (all segment : Bool) (a m : ℕ) (q : List ℕ) (at n : ℕ) (after : Bool) (end : ℕ) (r : List ℕ)
    : Type 0 where
  pub wide : Width w
  pub page : to ≤ length p
  pub some : at < end
  pub most : end ≤ to
  pub row : end ≤ row_end w at
  pub ends : end < to → end ≡ row_end w at
  pub long : length r ≡ length q
  pub fits : n ≤ length r
  pub follows : follows_left_out w all p at ≡ after
  pub is : gone (text_at w p to all segment (Place.Cell a)) m q ≡ gone (text_at w p to all segment (Place.Cell at)) n r

-- the US that a send stands at, and the CR
module _ (w : ℕ) (p : List ℕ) (to : ℕ) (all segment : Bool) where
  pub go_us : (i : ℕ) (q : List ℕ) → Width w → to ≤ length p → column_of w i ≡ 0 → i < to → 0 < length q
      → gone (text_at w p to all segment (Place.Break i)) 0 q ≡ gone (text_at w p to all segment (Place.Cell i)) 1 (set q 0 0x1f)
  go_us i q k h z l f =
      gone_at 0 q (at_break k p to h all segment i l z)
      ∙ gone_one (Sending.Text all segment (Place.Break i)) (text_at w p to all segment (Place.Cell i)) 0 q 0x1f f

  pub go_cr : (n : ℕ) (q : List ℕ) → n < length q → stands (set q n 0x0d) (n + 1) Sending.Nothing ≡ gone (text_at w p to all segment Place.Return) n q
  unfolding text_at
  go_cr n q f = sym (gone_one (Sending.Text all segment Place.Return) [] n q 0x0d f ∙ gone_none (n + 1) (set q n 0x0d))

module _ {w : ℕ} {p : List ℕ} {to : ℕ} {all segment : Bool} where
  pub go_begin : {a m : ℕ} {q : List ℕ} {after : Bool} {end : ℕ} → Width w → to ≤ length p → a < to → m ≤ length q → after ≡ follows_left_out w all p a
      → Cut a to (row_end w a - a) end → Going w p to all segment a m q a m after end q
  go_begin {a} {m} {q} {after} {end} k h l f g x =
      let z = row_after_lem k a in
      record {
        wide = k;
        page = h;
        some = cut_some x l (omega arith) (ltb end to) refl;
        most = x.1.0;
        row = omega (arith, x, z);
        ends = λ y. let u = x.1.1.1 y in omega (arith, u, z);
        long = refl;
        fits = f;
        follows = sym g;
        is = refl;
      }

  module _ {a m : ℕ} {q : List ℕ} {at n : ℕ} {after : Bool} {end : ℕ} {r : List ℕ} (c : Going w p to all segment a m q at n after end r) where
    abbrev start : Gone
    start = gone (text_at w p to all segment (Place.Cell a)) m q

    -- the row, whose end is the text's or a row's
    row_over : (end ≡ to → ⊥) → column_of w end ≡ 0
    row_over h = rw (c.ends (omega (arith, c.most, h))) (row_ends c.wide at)

    abbrev part : RowPart p at end
    part = record {
      width = w;
      to = to;
      segment = segment;
      wide = c.wide;
      page = c.page;
      most = c.most;
      inner = λ j h l. row_inner c.wide at j h (omega (arith, c.row));
      ends = row_over;
    }

    cell_is : text_at w p to all segment (Place.Cell at) ≡ spots_in part all at
    unfolding spots_in
    cell_is = rw (lt-ltb at end c.some)

    pub go_end : length r ≤ n → stands r n (Sending.Text all segment (Place.Cell at)) ≡ start
    go_end h =
        sym
        (c.is ∙ gone_at n r cell_is ∙ gone_full (spots_in part all at) n r (omega (arith, c.fits))
        ∙ ap (stands r n) (standing_cell part at (omega arith) all c.some))

    module _ {at' n' : ℕ} {r' : List ℕ} (x : RowSent p all after at end n r at' n' r') where
      gone_on : start ≡ gone (spots_in part all at') n' r'
      gone_on = c.is ∙ gone_at n r cell_is ∙ x.is part c.follows

      pub go_stop : at' < end → stands r' n' (Sending.Text all segment (Place.Cell at')) ≡ start
      go_stop h =
          sym
          (gone_on ∙ gone_full (spots_in part all at') n' r' (x.full h) ∙ ap (stands r' n') (standing_cell part at' x.from all h))

      -- behind the row's last cell
      module _ (h : end ≤ at') where
        abbrev behind : Place
        behind = pick (eqb end to) Place.Return (Place.Break end)

        gone_behind : start ≡ gone (text_at w p to all segment behind) n' r'
        unfolding spots_in
        gone_behind = gone_on ∙ rw (le-ltb at' end h)

        standing_behind : (b : Bool) → eqb end to ≡ b
            → standing (text_at w p to all segment (pick b Place.Return (Place.Break end)))
            ≡ Sending.Text all segment (pick b Place.Return (Place.Break end))
        unfolding standing text_at
        standing_behind true y = refl
        standing_behind false y =
            let z = eqb-false end to y in
            ap standing (at_break c.wide p to c.page all segment end (omega (arith, c.most, z)) (row_over z))

        pub go_full : n' ≡ length r' → stands r' n' (Sending.Text all segment behind) ≡ start
        go_full e = sym (gone_behind ∙ gone_full (text_at w p to all segment behind) n' r' e ∙ ap (stands r' n') (standing_behind (eqb end to) refl))

        module _ (f : n' ≡ length r' → ⊥) where
          pub go_fits : n' < length r'
          go_fits = omega (arith, x.fits, f)

          pub go_return : end ≡ to → stands (set r' n' 0x0d) (n' + 1) Sending.Nothing ≡ start
          go_return e = go_cr w p to all segment n' r' go_fits ∙ sym (gone_behind ∙ rw (eq-eqb end to e))

          pub go_break : {end' : ℕ} → (end ≡ to → ⊥) → Cut at' to w end' → Going w p to all segment a m q at' (n' + 1) false end' (set r' n' 0x1f)
          unfolding follows_left_out
          go_break {end'} e k =
              let z : at' ≡ end = omega (arith, x.to) in
              let y : column_of w at' ≡ 0 = rw z (row_over e) in
              let l : at' < to = omega (arith, z, c.most, e) in
              let v = row_from c.wide at' y in
              let u = row_after_lem c.wide at' in
              record {
                wide = c.wide;
                page = c.page;
                some = cut_some k l (omega (arith, u, v)) (ltb end' to) refl;
                most = k.1.0;
                row = omega (arith, k, v);
                ends = λ o. k.1.1.1 o ∙ sym v;
                long = length-set r' n' 0x1f ∙ x.long ∙ c.long;
                fits = omega (arith, length-set r' n' 0x1f, go_fits);
                follows = rw (eq-eqb (column_of w at') 0 y);
                is = gone_behind
                    ∙ rw (ne_eqb end to e)
                    (gone_at n' r' (at_break c.wide p to c.page all segment end (omega (arith, c.most, e)) (row_over e))
                    ∙ gone_one (Sending.Text all segment (Place.Break end)) (text_at w p to all segment (Place.Cell end)) n' r' 0x1f go_fits
                    ∙ ap (λ (j : ℕ). gone (text_at w p to all segment (Place.Cell j)) (n' + 1) (set r' n' 0x1f)) (sym z));
              }
