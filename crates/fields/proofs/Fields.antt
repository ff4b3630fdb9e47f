-- What fields are: the theorems of Theorems.
--     fields_are_stretches, cells_are_in_fields, next_is_first, places_go_round
-- Assumes nothing.
use mathlib.Core.Path.{◌≡◌, refl, sym, ap, ◌∙◌}
use mathlib.Core.Bool.{Bool, true, false, false≢true}
use mathlib.Core.List.{List, [], ◌∷◌}
use mathlib.Core.Logic.{◌⊎◌, inl, inr, ⊎_elim}
use Prim.Native.Nat.{ℕ, zero, suc, ◌+◌, ◌-◌, ◌*◌, ◌/◌, ◌%◌, ◌≤◌, ◌<◌}
use native.Mathlib.Nat.{eq-or-lt_of_le}
use native.Mathlib.Omega.{arith}
use lib.Dec.{eqb}
use lib.ListN.{length, get_or, take}
use lib.Seq.{slice, length-slice, get_or-drop, get_or-take}
use borrow.Author.Tests.{eqb-true}
use Rattle.rules.specs.Row.{Width, row_of, column_of, row_end}
use Rattle.rules.specs.Search.{first_true, first_in}
use Rattle.rules.specs.Send.{left_out}
use Rattle.rules.specs.Fields.{page_width, protected_at, field_starts, is_field_start, field_end, position}
use Rattle.rules.proofs.Tests.{either_way}
use Rattle.rules.proofs.Rows.{by_width, row_after_lem, row_inside, cell_inside}
use Rattle.rules.proofs.Searching.{length_by, guard_at, miss, first_range}
use Rattle.rules.proofs.Fields.{page_of_lem, length_starts, protected_start, row_start_lem, inner_start}
use Rattle.fields.specs.Theorems.{protected_in, LongestStretch, FieldsAreStretches, InField, CellsAreInFields, NextIsFirst, PlacesGoRound}
use Rattle.fields.proofs.Reading.{inside, a_cell}

-- ---- a search: nothing that is sought before what it finds, and such a cell there

first_misses : (at : ℕ) (m : List Bool) (j : ℕ) → at + j < first_true at m → get_or m j false ≡ false
first_misses at [] j h = refl
first_misses at (true ∷ m) j h = absurd (omega arith)
first_misses at (false ∷ m) zero h = refl
first_misses at (false ∷ m) (suc j) h = first_misses (suc at) m j (omega arith)

first_least : (at : ℕ) (m : List Bool) → (at ≤ first_true at m) × (first_true at m ≤ at + length m)
first_least at [] = omega arith
first_least at (true ∷ m) = omega arith
first_least at (false ∷ m) = let r = first_least (suc at) m in omega arith

first_hits : (at : ℕ) (m : List Bool) → first_true at m < at + length m → get_or m (first_true at m - at) false ≡ true
first_hits at [] h = absurd (omega arith)
first_hits at (true ∷ m) h = let e : at - at ≡ 0 = omega arith in rw e
first_hits at (false ∷ m) h =
    let r = first_least (suc at) m in
    let e : first_true (suc at) m - at ≡ suc (first_true (suc at) m - suc at) = omega arith in
    rw e (first_hits (suc at) m (omega arith))

module _ (m : List Bool) (a e : ℕ) (k : e ≤ length m) where
  in_slice : (j : ℕ) → a ≤ j → j < e → get_or (slice a e m) (j - a) false ≡ get_or m j false
  in_slice j h l =
      let z : a + (j - a) ≡ j = omega arith in
      get_or-drop a (take e m) (j - a) false ∙ rw z (get_or-take e m j false l)

  pub first_missed : (j : ℕ) → a ≤ j → j < first_in m a e → get_or m j false ≡ false
  unfolding first_in
  first_missed j h l =
      let r = first_least a (slice a e m) in
      let n = length-slice a e m k in
      let z : a + (j - a) ≡ j = omega arith in
      sym (in_slice j h (omega arith)) ∙ first_misses a (slice a e m) (j - a) (rw z l)

  pub first_hit : first_in m a e < e → get_or m (first_in m a e) false ≡ true
  unfolding first_in
  first_hit l =
      let r = first_least a (slice a e m) in
      let n = length-slice a e m k in
      sym (in_slice (first_true a (slice a e m)) r.0 l) ∙ first_hits a (slice a e m) (omega arith)

  pub first_behind : a ≤ first_in m a e
  unfolding first_in
  first_behind = (first_least a (slice a e m)).0

-- ---- the next field

pub next_is_first : NextIsFirst
next_is_first w p from =
    let m = field_starts w p in
    let n = length_starts w p in
    record {
      behind = first_behind m from (length p) (omega arith);
      starts = λ h. first_hit m from (length p) (omega arith) h;
      none = λ i h l. first_missed m from (length p) (omega arith) i h l;
    }

-- ---- each field is a longest stretch

within_list : (m : List Bool) (i : ℕ) → get_or m i false ≡ true → i < length m
within_list [] i e = absurd (false≢true e)
within_list (b ∷ m) zero e = omega arith
within_list (b ∷ m) (suc i) e = let r = within_list m i e in omega arith

pub protected_at_lem : (p : List ℕ) (i : ℕ) → i < length p → get_or (protected_at p) i false ≡ protected_in p i
protected_at_lem p i h = guard_at true p i h

module _ {w : ℕ} (k : Width w) (p : List ℕ) (n : length p ≡ 24 * w) where
  as_long : length (protected_at p) ≡ length p
  as_long = length_by (left_out true) p

  -- the first cell of a field is on the page, is not protected, and is first of its row or follows a protected one
  module _ (a : ℕ) (s : is_field_start w p a ≡ true) where
    on_page : a < length p
    on_page = rw (length_starts w p) at (within_list (field_starts w p) a s)

    start_open : get_or (protected_at p) a false ≡ false
    start_open =
        ⊎_elim (λ m. absurd (false≢true (sym (protected_start k p a on_page m) ∙ s))) (λ m. m) (either_way (get_or (protected_at p) a false))

    start_first : (column_of w a ≡ 0) ⊎ (protected_in p (a - 1) ≡ true)
    start_first =
        ⊎_elim
        (λ c. inl (eqb-true (column_of w a) 0 c))
        (λ c.
        let d : column_of w a ≡ 0 → ⊥ = λ z. false≢true (sym c ∙ rw z) in
        inr (sym (protected_at_lem p (a - 1) (omega (arith, on_page))) ∙ sym (inner_start k p a on_page start_open d) ∙ s))
        (either_way (eqb (column_of w a) 0))

    inside_row : row_end w a ≤ length (protected_at p)
    inside_row = omega (arith, as_long, row_inside k a (omega (arith, on_page, n)), n)

    reaches : (a < field_end w p a) × (field_end w p a ≤ row_end w a)
    reaches =
        let m = miss (protected_at p) a (row_end w a) (row_after_lem k a) inside_row refl start_open in
        let r = first_range (protected_at p) (a + 1) (row_end w a) (omega (arith, row_after_lem k a)) inside_row in
        rw m (omega arith)

    stretch : LongestStretch w p a (field_end w p a)
    stretch = record {
      some = reaches.0;
      within = reaches.1;
      unprotected = λ i h l. sym (protected_at_lem p i (omega (arith, l, reaches.1, inside_row, as_long)))
          ∙ first_missed (protected_at p) a (row_end w a) inside_row i h l;
      first = start_first;
      last = ⊎_elim
          (λ z. inl z)
          (λ l. inr (sym (protected_at_lem p (field_end w p a) (omega (arith, l, inside_row, as_long)))
          ∙ first_hit (protected_at p) a (row_end w a) inside_row l))
          (eq-or-lt_of_le {n = field_end w p a} {m = row_end w a} reaches.1);
    }

  -- ---- each cell that is not protected is in a field

  row_ends : (a : ℕ) → column_of w (row_end w a) ≡ 0
  unfolding row_end
  row_ends a = by_width (λ (w : ℕ). (a / w + 1) * w % w ≡ 0) (omega arith) (omega arith) k

  starting : (i : ℕ) → is_field_start w p i ≡ true → InField w p i
  starting i s = record { start = i; starts = s; from = omega arith; below = (stretch i s).some }

  -- a field that holds a cell holds the next one too, if that is in the row and not protected
  going_on : (j : ℕ) → protected_in p (suc j) ≡ false → (column_of w (suc j) ≡ 0 → ⊥) → InField w p j → InField w p (suc j)
  going_on j u c x =
      let a = x.start in
      record {
        start = a;
        starts = x.starts;
        from = omega (arith, x.from);
        below = ⊎_elim
            (λ z. absurd (⊎_elim
            (λ r. c (ap (column_of w) (z ∙ r) ∙ row_ends a))
            (λ m. false≢true (sym u ∙ ap (protected_in p) z ∙ m))
            (stretch a x.starts).last))
            (λ l. l)
            (eq-or-lt_of_le {n = suc j} {m = field_end w p a} x.below);
      }

  next_cell_lem : (j : ℕ) → suc j < length p → protected_in p (suc j) ≡ false → (protected_in p j ≡ false → InField w p j) → InField w p (suc j)
  next_cell_lem j h u r =
      let m = protected_at_lem p (suc j) h ∙ u in
      ⊎_elim
      (λ s. starting (suc j) s)
      (λ s.
      let c : column_of w (suc j) ≡ 0 → ⊥ = λ z. false≢true (sym s ∙ row_start_lem k p (suc j) h m z) in
      let e : suc j - 1 ≡ j = omega arith in
      let v : protected_in p j ≡ false = sym (protected_at_lem p j (omega arith)) ∙ rw e at (sym (inner_start k p (suc j) h m c)) ∙ s in
      going_on j u c (r v))
      (either_way (is_field_start w p (suc j)))

  held : (i : ℕ) → i < length p → protected_in p i ≡ false → InField w p i
  held zero h u =
      let z : column_of w 0 ≡ 0 = by_width (λ (w : ℕ). 0 % w ≡ 0) (omega arith) (omega arith) k in
      starting 0 (row_start_lem k p 0 h (protected_at_lem p 0 h ∙ u) z)
  held (suc j) h u = next_cell_lem j h u (λ v. held j (omega arith) v)

pub fields_are_stretches : FieldsAreStretches
fields_are_stretches w p k n a s = stretch k p n a s

pub cells_are_in_fields : CellsAreInFields
cells_are_in_fields w p k n i h u = held k p n i h u

-- ---- places

pub places_go_round : PlacesGoRound
places_go_round n z =
    let k = page_of_lem n refl z in
    record {
      cell = λ at h. sym (a_cell n refl z (row_of (page_width n) at) (column_of (page_width n) at) (row_below k at h) (column_in k at)) ∙ back k at;
      place = λ row column h l.
          let c = a_cell n refl z row column h l in
          rw (← c) (sym (inside n refl z (row * page_width n + column) (omega (arith, k.1, cell_inside k.0 {bottom = 24} h l)))
          ∙ there k row column l);
    }
  where
    row_below : {n w : ℕ} → Width w × (n ≡ 24 * w) → (at : ℕ) → at < n → at / w < 24
    row_below {n} (k, e) at h = by_width (λ (w : ℕ). n ≡ 24 * w → at / w < 24) (λ e. omega arith) (λ e. omega arith) k e

    column_in : {n w : ℕ} → Width w × (n ≡ 24 * w) → (at : ℕ) → at % w < w
    column_in k at = by_width (λ (w : ℕ). at % w < w) (omega arith) (omega arith) k.0

    back : {n w : ℕ} → Width w × (n ≡ 24 * w) → (at : ℕ) → at / w * w + at % w ≡ at
    back k at = by_width (λ (w : ℕ). at / w * w + at % w ≡ at) (omega arith) (omega arith) k.0

    there : {n w : ℕ} → Width w × (n ≡ 24 * w) → (row column : ℕ) → column < w
        → position 0 ((row * w + column) / w) ((row * w + column) % w) ≡ position 0 row column
    there k row column l = by_width (λ (w : ℕ). column < w → position 0 ((row * w + column) / w) ((row * w + column) % w) ≡ position 0 row column)
        (λ l. same (omega arith) (omega arith)) (λ l. same (omega arith) (omega arith)) k.0 l
      where
        same : {a b c d : ℕ} → a ≡ c → b ≡ d → position 0 a b ≡ position 0 c d
        same e f = rw (e, f)
