-- Over whole rows the pieces of ESC 5 that are not empty are the fields: pieces_are_fields. What stands behind a cell is known, so by going back from
-- the last cell the pieces from each cell on are known too.
-- Assumes nothing.
use mathlib.Core.Path.{◌≡◌, refl, sym, ap, ◌∙◌}
use mathlib.Core.Bool.{Bool, true, false, not}
use mathlib.Core.List.{List, [], ◌∷◌, map}
use mathlib.Core.Logic.{⊎_elim}
use Prim.Native.Nat.{ℕ, zero, suc, ◌+◌, ◌-◌, ◌*◌, ◌/◌, ◌%◌, ◌≤◌, ◌<◌}
use native.Mathlib.Nat.{eq-or-lt_of_le}
use native.Mathlib.Numerals.{add-one}
use native.Mathlib.Omega.{arith}
use lib.Dec.{eqb, leb}
use lib.ListN.{length, get_or}
use lib.Seq.{slice, slice-cons, slice_empty}
use borrow.Author.Tests.{le-ltb, leb-true, eq-eqb, ne_eqb, eqb-true, eqb-false}
use Rattle.rules.specs.declared.Place.{Place}
use Rattle.rules.specs.Cell.{kind, sent}
use Rattle.rules.specs.Row.{Width, column_of, row_end}
use Rattle.rules.specs.Send.{left_out, cell_place, text_places, follows_left_out, text_at, bytes_of}
use Rattle.rules.specs.Search.{first_in}
use Rattle.rules.specs.Fields.{protected_at, field_starts, is_field_start, field_end}
use Rattle.rules.proofs.Tests.{either_way, pick_if}
use Rattle.rules.proofs.Rows.{by_width, row_after_lem, row_inside}
use Rattle.rules.proofs.Searching.{length_by, hit, miss, first_none, first_range}
use Rattle.rules.proofs.Sends.{next_place, at_cell, at_break}
use Rattle.rules.proofs.Fields.{length_starts, protected_start, row_start_lem, inner_start}
use Rattle.fields.proofs.Fields.{protected_at_lem}
use Rattle.fields.specs.Theorems.{protected_in, onto, cut_up, filled, texts_from, PiecesAreFields}

-- ---- what one byte does to the pieces

sent_text : (v : ℕ) → 0x20 ≤ sent v
sent_text v =
    pick_if (λ (b : ℕ). 0x20 ≤ b) (eqb (kind v) 0)
    (λ e. pick_if (λ (b : ℕ). 0x20 ≤ b) (leb 0x20 (v % 128))
    (λ f. pick_if (λ (b : ℕ). 0x20 ≤ b) (leb (v % 128) 0x7e) (λ g. leb-true 0x20 (v % 128) f) (λ g. omega arith))
    (λ f. omega arith))
    (λ e. omega arith)

cut_text : (v : ℕ) (l : List ℕ) → cut_up (sent v ∷ l) ≡ onto (sent v) (cut_up l)
unfolding cut_up
cut_text v l = rw (le-ltb (sent v) 0x20 (sent_text v))

filled_empty : (ts : List (List ℕ)) → filled ([] ∷ ts) ≡ filled ts
unfolding filled
filled_empty ts = refl

filled_some : {b : ℕ} {h u : List ℕ} (ts : List (List ℕ)) → u ≡ b ∷ h → filled (u ∷ ts) ≡ u ∷ filled ts
unfolding filled
filled_some ts e = rw e

filled_nil : filled [] ≡ []
unfolding filled
filled_nil = refl

onto_first : (b : ℕ) (t : List ℕ) (ts : List (List ℕ)) → onto b (t ∷ ts) ≡ (b ∷ t) ∷ ts
unfolding onto
onto_first b t ts = refl

filled_none : filled ([] ∷ [] ∷ []) ≡ []
unfolding filled
filled_none = refl

-- ---- the row of the next cell

module _ {w : ℕ} (k : Width w) (i : ℕ) where
  row_ends_here : column_of w (suc i) ≡ 0 → row_end w i ≡ suc i
  unfolding row_end
  row_ends_here c = by_width (λ (w : ℕ). suc i % w ≡ 0 → (i / w + 1) * w ≡ suc i) (λ c. omega arith) (λ c. omega arith) k c

  row_goes_on : (column_of w (suc i) ≡ 0 → ⊥) → suc i < row_end w i
  unfolding row_end
  row_goes_on c = by_width (λ (w : ℕ). (suc i % w ≡ 0 → ⊥) → suc i < (i / w + 1) * w) (λ c. omega (arith, c)) (λ c. omega (arith, c)) k c

  same_row : (column_of w (suc i) ≡ 0 → ⊥) → row_end w (suc i) ≡ row_end w i
  unfolding row_end
  same_row c = by_width (λ (w : ℕ). (suc i % w ≡ 0 → ⊥) → (suc i / w + 1) * w ≡ (i / w + 1) * w) (λ c. omega (arith, c)) (λ c. omega (arith, c)) k c

-- ---- what is known of pieces

-- pieces s, of which the first is h; the others that are not empty are t
record Opened (s : List (List ℕ)) (h : List ℕ) (t : List (List ℕ)) : Type 0 where
  rest : List (List ℕ)
  is : s ≡ h ∷ rest
  left : filled rest ≡ t

-- the pieces s from a cell on, by whether it is protected, and follows a protected one: it gives b, u is the text from there to the field's end, t
-- are the texts of the fields that start behind it
record Holds (s : List (List ℕ)) (b : ℕ) (u : List ℕ) (t : List (List ℕ)) (hidden follows : Bool) : Type 0 where
  some : hidden ≡ false → (h : List ℕ) × (u ≡ b ∷ h)
  unprotected : hidden ≡ false → Opened s u t
  parted : hidden ≡ true → follows ≡ false → Opened s [] t
  closed : hidden ≡ true → filled s ≡ t

-- the pieces s behind a cell that gives b
record Behind (s : List (List ℕ)) (b : ℕ) (u : List ℕ) (t : List (List ℕ)) (hidden : Bool) : Type 0 where
  unprotected : hidden ≡ false → (h : List ℕ) × ((u ≡ b ∷ h) × Opened s h t)
  closed : hidden ≡ true → filled s ≡ t

module _ {w : ℕ} (k : Width w) (p : List ℕ) (n : length p ≡ 24 * w) (e : ℕ) (m : e ≤ length p) (z : column_of w e ≡ 0) (segment : Bool) where
  abbrev pieces : Place → List (List ℕ)
  pieces x = cut_up (bytes_of (text_at w p e false segment x))

  abbrev byte : ℕ → ℕ
  byte i = sent (get_or p i 0)

  abbrev text : ℕ → List ℕ
  text i = map sent (slice i (field_end w p i) p)

  abbrev texts : ℕ → List (List ℕ)
  texts i = texts_from w p i (slice i e (field_starts w p))

  abbrev HoldsAt : ℕ → Type 0
  HoldsAt i = Holds (pieces (Place.Cell i)) (byte i) (text i) (texts (suc i)) (protected_in p i) (follows_left_out w false p i)

  abbrev BehindAt : ℕ → Type 0
  BehindAt i = Behind (pieces (next_place w e i)) (byte i) (text i) (texts (suc i)) (protected_in p i)

  -- ---- the places

  open_cell_lem : (i : ℕ) → i < e → protected_in p i ≡ false → pieces (Place.Cell i) ≡ onto (byte i) (pieces (next_place w e i))
  unfolding bytes_of cell_place
  open_cell_lem i h u = rw (at_cell k p e m false segment i h, u) (cut_text (get_or p i 0) (bytes_of (text_at w p e false segment (next_place w e i))))

  parted_cell : (i : ℕ) → i < e → protected_in p i ≡ true → follows_left_out w false p i ≡ false
      → pieces (Place.Cell i) ≡ [] ∷ pieces (next_place w e i)
  unfolding bytes_of cell_place cut_up
  parted_cell i h u f = rw (at_cell k p e m false segment i h, u, f)

  silent_cell : (i : ℕ) → i < e → protected_in p i ≡ true → follows_left_out w false p i ≡ true → pieces (Place.Cell i) ≡ pieces (next_place w e i)
  unfolding bytes_of cell_place
  silent_cell i h u f = rw (at_cell k p e m false segment i h, u, f)

  break_pieces : (i : ℕ) → i < e → column_of w i ≡ 0 → pieces (Place.Break i) ≡ [] ∷ pieces (Place.Cell i)
  unfolding bytes_of cut_up
  break_pieces i h c = rw (at_break k p e m false segment i h c)

  return_pieces : pieces Place.Return ≡ [] ∷ [] ∷ []
  unfolding text_at bytes_of cut_up
  return_pieces = refl

  next_end : (i : ℕ) → suc i ≡ e → next_place w e i ≡ Place.Return
  unfolding next_place
  next_end i h = rw (eq-eqb (suc i) e h)

  next_row : (i : ℕ) → (suc i ≡ e → ⊥) → column_of w (suc i) ≡ 0 → next_place w e i ≡ Place.Break (suc i)
  unfolding next_place
  next_row i h c = rw (ne_eqb (suc i) e h, eq-eqb (column_of w (suc i)) 0 c)

  next_in_row : (i : ℕ) → (suc i ≡ e → ⊥) → (column_of w (suc i) ≡ 0 → ⊥) → next_place w e i ≡ Place.Cell (suc i)
  unfolding next_place
  next_in_row i h c = rw (ne_eqb (suc i) e h, ne_eqb (column_of w (suc i)) 0 c)

  follows_is : (i : ℕ) → (column_of w (suc i) ≡ 0 → ⊥) → follows_left_out w false p (suc i) ≡ protected_in p i
  unfolding follows_left_out
  follows_is i c = let y : suc i - 1 ≡ i = omega arith in rw (ne_eqb (column_of w (suc i)) 0 c, y)

  -- ---- the texts

  texts_start : (i : ℕ) → i < e → is_field_start w p i ≡ true → texts i ≡ text i ∷ texts (suc i)
  unfolding texts_from
  texts_start i h s = rw (slice-cons i e (field_starts w p) false h (omega (arith, length_starts w p)), s)

  texts_none : (i : ℕ) → i < e → is_field_start w p i ≡ false → texts i ≡ texts (suc i)
  unfolding texts_from
  texts_none i h s = rw (slice-cons i e (field_starts w p) false h (omega (arith, length_starts w p)), s)

  no_texts : texts e ≡ []
  unfolding texts_from
  no_texts = rw (slice_empty e (field_starts w p))

  module _ (i : ℕ) (h : i < length p) (u : protected_in p i ≡ false) where
    inside_row : row_end w i ≤ length (protected_at p)
    inside_row = omega (arith, length_by (left_out true) p, row_inside k i (omega (arith, n)), n)

    end_behind : field_end w p i ≡ first_in (protected_at p) (suc i) (row_end w i)
    end_behind = rw (add-one i) at (miss (protected_at p) i (row_end w i) (row_after_lem k i) inside_row refl (protected_at_lem p i h ∙ u))

    -- a text of one byte
    last_text : field_end w p i ≡ suc i → text i ≡ byte i ∷ []
    last_text f = rw (f, slice-cons i (suc i) p 0 (omega arith) h, slice_empty (suc i) p)

    row_text_ends : column_of w (suc i) ≡ 0 → text i ≡ byte i ∷ []
    row_text_ends c = last_text (end_behind ∙ rw (row_ends_here k i c, first_none (protected_at p) (suc i)))

    module _ (c : column_of w (suc i) ≡ 0 → ⊥) (l : suc i < length p) where
      hidden_text_ends : protected_in p (suc i) ≡ true → text i ≡ byte i ∷ []
      hidden_text_ends v =
          last_text (end_behind ∙ hit (protected_at p) (suc i) (row_end w i) (row_goes_on k i c) inside_row refl (protected_at_lem p (suc i) l ∙ v))

      text_goes_on : text i ≡ byte i ∷ text (suc i)
      text_goes_on =
          let r : row_end w (suc i) ≡ row_end w i = same_row k i c in
          let x = first_range (protected_at p) (suc i) (row_end w i) (omega (arith, row_goes_on k i c)) inside_row in
          let f : field_end w p i ≡ field_end w p (suc i) = end_behind ∙ rw r in
          rw f (ap (map sent) (slice-cons i (field_end w p (suc i)) p 0 (rw r (omega arith))
          (rw r (omega (arith, x, inside_row, length_by (left_out true) p)))))

  -- ---- going back from the last cell

  -- at a cell that starts a field or is protected, the pieces are the fields from there
  begin : (i : ℕ) → i < e → is_field_start w p i ≡ not (protected_in p i) → HoldsAt i → filled (pieces (Place.Cell i)) ≡ texts i
  begin i h s x =
      ⊎_elim
      (λ v. x.closed v ∙ sym (texts_none i h (s ∙ rw v)))
      (λ v.
      let o = x.unprotected v in
      ap filled o.is ∙ filled_some o.rest (x.some v).1 ∙ ap {B = List (List ℕ)} (λ t. text i ∷ t) o.left
      ∙ sym (texts_start i h (s ∙ rw v)))
      (either_way (protected_in p i))

  fresh : (i : ℕ) → i < length p → (protected_in p i ≡ false → is_field_start w p i ≡ true) → is_field_start w p i ≡ not (protected_in p i)
  fresh i h f =
      ⊎_elim
      (λ v. protected_start k p i h (protected_at_lem p i h ∙ v) ∙ sym (ap not v))
      (λ v. f v ∙ sym (ap not v))
      (either_way (protected_in p i))

  fresh_row : (i : ℕ) → i < length p → column_of w i ≡ 0 → is_field_start w p i ≡ not (protected_in p i)
  fresh_row i h c = fresh i h (λ v. row_start_lem k p i h (protected_at_lem p i h ∙ v) c)

  inner_is : (i : ℕ) → suc i < length p → (column_of w (suc i) ≡ 0 → ⊥) → protected_in p (suc i) ≡ false → is_field_start w p (suc i) ≡ protected_in p i
  inner_is i h c v =
      let y : suc i - 1 ≡ i = omega arith in
      inner_start k p (suc i) h (protected_at_lem p (suc i) h ∙ v) c ∙ rw y (protected_at_lem p i (omega arith))

  behind_last : (i : ℕ) → i < e → suc i ≡ e → BehindAt i
  behind_last i h q =
      let s : pieces (next_place w e i) ≡ [] ∷ [] ∷ [] = ap pieces (next_end i q) ∙ return_pieces in
      let t : texts (suc i) ≡ [] = ap texts q ∙ no_texts in
      record {
        unprotected = λ u. (
          [],
          (
            row_text_ends i (omega arith) u (ap (column_of w) q ∙ z),
            record { rest = [] ∷ []; is = s; left = filled_empty [] ∙ filled_nil ∙ sym t },
          ),
        );
        closed = λ u. ap filled s ∙ filled_none ∙ sym t;
      }

  behind_row : (i : ℕ) → suc i < e → column_of w (suc i) ≡ 0 → HoldsAt (suc i) → BehindAt i
  behind_row i l c x =
      let s : pieces (next_place w e i) ≡ [] ∷ pieces (Place.Cell (suc i)) = ap pieces (next_row i (λ q. omega arith) c) ∙ break_pieces (suc i) l c in
      let f = begin (suc i) l (fresh_row (suc i) (omega arith) c) x in
      record {
        unprotected = λ u. ([], (row_text_ends i (omega arith) u c, record { rest = pieces (Place.Cell (suc i)); is = s; left = f }));
        closed = λ u. ap filled s ∙ filled_empty (pieces (Place.Cell (suc i))) ∙ f;
      }

  behind_inner : (i : ℕ) → suc i < e → (column_of w (suc i) ≡ 0 → ⊥) → HoldsAt (suc i) → BehindAt i
  behind_inner i l c x =
      let s : pieces (next_place w e i) ≡ pieces (Place.Cell (suc i)) = ap pieces (next_in_row i (λ q. omega arith) c) in
      record {
        unprotected = λ u. ⊎_elim
            (λ v.
            let o = x.parted v (follows_is i c ∙ u) in (
              [],
              (
                hidden_text_ends i (omega arith) u c (omega arith) v,
                record {
                  rest = o.rest;
                  is = s ∙ o.is;
                  left = o.left ∙ sym (texts_none (suc i) l (protected_start k p (suc i) (omega arith) (protected_at_lem p (suc i) (omega arith) ∙ v)));
                },
              ),
            ))
            (λ v.
            let o = x.unprotected v in (
              text (suc i),
              (
                text_goes_on i (omega arith) u c (omega arith),
                record {
                  rest = o.rest;
                  is = s ∙ o.is;
                  left = o.left ∙ sym (texts_none (suc i) l (inner_is i (omega arith) c v ∙ u));
                },
              ),
            ))
            (either_way (protected_in p (suc i)));
        closed = λ u. ap filled s ∙ begin (suc i) l (fresh (suc i) (omega arith) (λ v. inner_is i (omega arith) c v ∙ u)) x;
      }

  behind : (i : ℕ) → i < e → (suc i < e → HoldsAt (suc i)) → BehindAt i
  behind i h r =
      ⊎_elim
      (λ q. behind_last i h q)
      (λ l. ⊎_elim
      (λ c. behind_row i l (eqb-true (column_of w (suc i)) 0 c) (r l))
      (λ c. behind_inner i l (eqb-false (column_of w (suc i)) 0 c) (r l))
      (either_way (eqb (column_of w (suc i)) 0)))
      (eq-or-lt_of_le {n = suc i} {m = e} h)

  holds_at : (i : ℕ) → i < e → BehindAt i → HoldsAt i
  holds_at i h x = record {
    some = λ u. ((x.unprotected u).0, (x.unprotected u).1.0);
    unprotected = λ u.
        let o = (x.unprotected u).1.1 in
        record {
          rest = o.rest;
          is = open_cell_lem i h u ∙ ap (onto (byte i)) o.is ∙ onto_first (byte i) (x.unprotected u).0 o.rest
              ∙ ap {B = List (List ℕ)} (λ t. t ∷ o.rest) (sym (x.unprotected u).1.0);
          left = o.left;
        };
    parted = λ u f. record { rest = pieces (next_place w e i); is = parted_cell i h u f; left = x.closed u };
    closed = λ u. ⊎_elim
        (λ f. ap filled (silent_cell i h u f) ∙ x.closed u)
        (λ f. ap filled (parted_cell i h u f) ∙ filled_empty (pieces (next_place w e i)) ∙ x.closed u)
        (either_way (follows_left_out w false p i));
  }

  from_cell : (d i : ℕ) → i + suc d ≡ e → HoldsAt i
  from_cell zero i q = holds_at i (omega arith) (behind i (omega arith) (λ l. absurd (omega arith)))
  from_cell (suc d) i q = holds_at i (omega arith) (behind i (omega arith) (λ l. from_cell d (suc i) (omega arith)))

  no_cells : filled (pieces (Place.Cell e)) ≡ texts e
  unfolding text_at text_places bytes_of cut_up
  no_cells = let y : e - e ≡ 0 = omega arith in rw y (filled_none ∙ sym no_texts)

pub pieces_are_fields : PiecesAreFields
pieces_are_fields w p k n a e h m c z segment =
    ⊎_elim
    (λ q. rw q (no_cells k p n e m z segment))
    (λ l. begin k p n e m z segment a l (fresh_row k p n e m z segment a (omega arith) c) (from_cell k p n e m z segment (e - suc a) a (omega arith)))
    (eq-or-lt_of_le {n = a} {m = e} h)
