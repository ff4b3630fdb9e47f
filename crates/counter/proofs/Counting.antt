-- Laws of the answers of a count.
--     in_range     what a test says
--     no_return_is, bad_first_is, bad_last_is, counted_is     each answer, in numbers
--     one_count     the statement of specs/Count
--     pieces_none, pieces_some     how many pieces
--     piece_zero, piece_beyond, piece_is     one of them
--     part_to, part_ordered, part_within, part_pieces, part_piece     the part of a reply that pieces are
-- Assumes nothing.
use mathlib.Core.Path.{◌≡◌, refl, sym, ap, ◌∙◌}
use mathlib.Core.Bool.{Bool, true, false, ◌&&◌}
use mathlib.Core.List.{List, [], ◌∷◌}
use Prim.Native.Nat.{ℕ, suc, ◌+◌, ◌-◌, ◌≤◌, ◌<◌}
use native.Mathlib.Omega.{arith}
use lib.Dec.{leb, eqb}
use lib.ListN.{length, get_or, take, drop, get_or-eq_default, drop_of_length-le}
use lib.Seq.{drop-cons}
use lib.Pointwise.{pointwise}
use denote.Ref.{Bor}
use Rattle.std.proofs.Common.{nat_eq, Option, Some, None, MatchOption}
use borrow.Author.Tests.{leb-true, le-leb, lt-leb, ne_eqb, eq-eqb}
use Rattle.rules.specs.Cell.{pick}
use Rattle.rules.proofs.Tests.{both_parts}
use Rattle.std.specs.Prelude.{Ok, Err}
use Rattle.counter.specs.declared.Refusal.{Refusal}
use Rattle.counter.specs.Pieces.{returns, before, cut_at_marks, pieces, piece_of, joined, whole}
use Rattle.counter.specs.Count.{Counted, Numbers, of_units, numbers, text_count, in_order, count_rule, OneCount}
use Rattle.counter.specs.Walk.{remaining, marks_in, past}
use Rattle.counter.proofs.Marks.{pieces_length, past_less, past_some, past_most, some_pieces, one_piece}

and_true : (t : Bool) → t && true ≡ t
and_true true = refl
and_true false = refl

-- a reply's last byte, compared with a CR
ends : (r : List ℕ) → pointwise nat_eq (drop (length r - 1) r) (0x0d ∷ []) ≡ returns r
unfolding returns
ends [] = refl
ends (b ∷ l) =
    let h : length (b ∷ l) - 1 < length (b ∷ l) = omega arith in
    let y : suc (length l) - 1 ≡ length l = omega arith in
    let z : length l ≤ length l = omega arith in
    rw (drop-cons (b ∷ l) (length (b ∷ l) - 1) 0 h, y, drop_of_length-le l z) (and_true _)

abbrev Stripped : (r : List ℕ) → Option (Bor (List ℕ)) → Type 0
Stripped r o =
    MatchOption o (pointwise nat_eq (drop (length r - 1) r) (0x0d ∷ []) ≡ false)
    (λ x. (pointwise nat_eq (drop (length r - 1) r) (0x0d ∷ []) ≡ true) × (x.now ≡ take (length r - 1) r) × (length x.now + 1 ≡ length r))

pub return_cut : (r : List ℕ) (o : Option (Bor (List ℕ))) → length r ≤ 18446744073709551615 → Stripped r o
    → MatchOption o (returns r ≡ false) (λ x. (returns r ≡ true) × (x.now ≡ before r) × (length x.now < 18446744073709551615))
return_cut r None h k = sym (ends r) ∙ k
return_cut r (Some x) h k = (sym (ends r) ∙ k.0, k.1, omega (arith, k.2))

pub in_range : (first last : ℕ) → in_order first last ≡ true → (1 ≤ first) × (first ≤ last)
in_range first last e = let p = both_parts (leb 1 first) (leb first last) e in (leb-true _ _ p.0, leb-true _ _ p.1)

-- ---- pieces

pub pieces_none : (r : List ℕ) → returns r ≡ false → 0 ≡ length (pieces r)
unfolding pieces
pieces_none r e = rw e

pub pieces_some : (r : List ℕ) → returns r ≡ true → {l : List ℕ} → l ≡ before r → marks_in l + 1 ≡ length (pieces r)
unfolding pieces
pieces_some r e f = rw (e, f) (omega (arith, pieces_length (before r)))

pieces_are : (r : List ℕ) → returns r ≡ true → {l : List ℕ} → l ≡ before r → pieces r ≡ cut_at_marks l
unfolding pieces
pieces_are r e f = rw (e, f)

-- the part of a text from behind n marks up to mark number m
module _ (l : List ℕ) (n m : ℕ) (h : n < m) (k : n ≤ marks_in l) {a e : ℕ} (f : a ≡ past n l) (g : e ≡ past m l) where
  pub part_to : 1 ≤ e
  part_to = omega (arith, past_some m l (omega arith))

  pub part_ordered : a ≤ e - 1
  part_ordered = omega (arith, past_less n m l h k)

  pub part_within : e - 1 ≤ length l
  part_within = omega (arith, past_most m l)

  pub part_pieces : joined (take (m - n) (drop n (cut_at_marks l))) ≡ remaining true (take (e - 1 - a) (drop a l))
  part_pieces =
      let z : n + (m - n) ≡ m = omega arith in
      rw z at (some_pieces l n (m - n) k) ∙ rw (f, g)

  pub part_piece : m ≡ n + 1 → take (e - 1 - a) (drop a l) ≡ get_or (cut_at_marks l) n []
  part_piece z = rw (f, g, z) (sym (one_piece l n k))

-- ---- a piece

module _ (r : List ℕ) (n : ℕ) where
  pub piece_unreturned : returns r ≡ false → [] ≡ piece_of r n
  unfolding piece_of pieces
  piece_unreturned e = rw e (by_test (eqb n 0))
    where
      by_test : (t : Bool) → ◌≡◌ {A = List ℕ} [] (pick t [] (get_or [] (n - 1) []))
      by_test true = refl
      by_test false = refl

  pub piece_zero : n < 1 → [] ≡ piece_of r n
  unfolding piece_of
  piece_zero h = rw (eq-eqb n 0 (omega arith))

  pub piece_beyond : returns r ≡ true → {l : List ℕ} → l ≡ before r → marks_in l + 1 < n → [] ≡ piece_of r n
  unfolding piece_of
  piece_beyond e f k =
      rw (ne_eqb n 0 (λ e. omega arith), get_or-eq_default (pieces r) [] {n = n - 1} (omega (arith, pieces_some r e f)))

  pub piece_is : returns r ≡ true → {l : List ℕ} → l ≡ before r → 1 ≤ n → {p : List ℕ} → p ≡ get_or (cut_at_marks l) (n - 1) [] → p ≡ piece_of r n
  unfolding piece_of
  piece_is e f h g = rw (ne_eqb n 0 (λ e. omega arith), pieces_are r e f) g

-- ---- the answers

module _ (r : List ℕ) (first last : ℕ) where
  pub no_return_is : returns r ≡ false → numbers (Err Refusal.NoReturn) ≡ numbers (count_rule r first last)
  unfolding count_rule
  no_return_is e = rw e

  pub bad_first_is : returns r ≡ true → in_order first last ≡ false → numbers (Err Refusal.BadFirst) ≡ numbers (count_rule r first last)
  unfolding count_rule
  bad_first_is e f = rw (e, f)

  module _ (e : returns r ≡ true) {l : List ℕ} (g : l ≡ before r) (f : (1 ≤ first) × (first ≤ last)) where
    is_in_order : in_order first last ≡ true
    is_in_order = rw (le-leb 1 first f.0, le-leb first last f.1)

    pub bad_last_is : marks_in l + 1 < last → numbers (Err Refusal.BadLast) ≡ numbers (count_rule r first last)
    unfolding count_rule
    bad_last_is h = rw (e, is_in_order, lt-leb last (length (pieces r)) (omega (arith, pieces_some r e g)))

    pub counted_is : last ≤ marks_in l + 1 → (p : List ℕ) → joined (take (last - (first - 1)) (drop (first - 1) (cut_at_marks l))) ≡ remaining true p
        → {c : Counted} → c ≡ text_count (remaining true p) → numbers c ≡ numbers (count_rule r first last)
    unfolding count_rule whole
    counted_is h p x k =
        let z : last + 1 - first ≡ last - (first - 1) = omega arith in
        let n : last ≤ length (pieces r) = omega (arith, h, pieces_some r e g) in
        ap numbers k ∙ rw (e, is_in_order, le-leb last (length (pieces r)) n, z, pieces_are r e g) (ap (λ (t : List ℕ). numbers (text_count t)) (sym x))

-- ---- the numbers

-- the count that has these numbers
unfoldable of_numbers : Numbers → Counted
of_numbers k =
    pick (eqb k.refusal 0) (of_units k.units k.parts)
    (pick (eqb k.refusal 1) (Err Refusal.NoReturn)
    (pick (eqb k.refusal 2) (Err Refusal.BadFirst)
    (pick (eqb k.refusal 3) (Err Refusal.BadLast) (Err (Refusal.BadByte k.place)))))

back : (c : Counted) → of_numbers (numbers c) ≡ c
unfolding of_numbers
back (Ok c) = refl
back (Err Refusal.NoReturn) = refl
back (Err Refusal.BadFirst) = refl
back (Err Refusal.BadLast) = refl
back (Err (Refusal.BadByte n)) = refl

pub one_count : OneCount
one_count c d e = sym (back c) ∙ (ap of_numbers e ∙ back d)
