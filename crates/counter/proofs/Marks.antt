-- Where the pieces of a text stand.
--     marks_on, marks_end, mark_small, bit_is   the loop that counts marks
--     past_steps                                the loop that looks for a piece
--     pieces_length                             one piece more than marks
--     past_none, past_some, past_most, past_less     how places lie
--     one_piece, some_pieces                    a piece, and some of them joined, by their places
-- Assumes nothing.
use mathlib.Core.Path.{◌≡◌, refl, sym, ap, ◌∙◌}
use mathlib.Core.Bool.{Bool, true, false}
use mathlib.Core.List.{List, [], ◌∷◌}
use Prim.Native.Nat.{ℕ, zero, suc, ◌+◌, ◌-◌, ◌≤◌, ◌<◌}
use native.Mathlib.Nat.{zero-add}
use native.Mathlib.Numerals.{add-one}
use native.Mathlib.Omega.{arith}
use lib.Dec.{eqb}
use mir.Val.{bool_byte}
use lib.ListN.{length, get_or, take, drop, drop_of_length-le}
use lib.Seq.{take-nil, drop-nil, drop-cons, get_or-drop}
use borrow.Author.Tests.{ne_eqb, eqb-true, eqb-false}
use Rattle.rules.specs.Cell.{pick}
use Rattle.counter.specs.Pieces.{is_mark, onto, cut_at_marks, joined}
use Rattle.counter.specs.Walk.{cuts, remaining, marks_in, past}
use Rattle.counter.proofs.Fewest.{joined_onto}

pub mark_small : (t : Bool) → pick t 1 0 ≤ 1
mark_small true = omega arith
mark_small false = omega arith

-- ---- loops

-- what the code adds for a byte
pub bit_is : (t : Bool) → bool_byte t ≡ pick t 1 0
bit_is true = refl
bit_is false = refl

module _ (l : List ℕ) (i : ℕ) where
  pub marks_on : i < length l → marks_in (drop i l) ≡ pick (is_mark (get_or l i 0)) 1 0 + marks_in (drop (i + 1) l)
  unfolding marks_in
  marks_on h = rw (drop-cons l i 0 h, add-one)

  pub marks_end : length l ≤ i → marks_in (drop i l) ≡ 0
  unfolding marks_in
  marks_end h = rw (drop_of_length-le l h)

pub ruleset marks_steps = (mark_small, bit_is, marks_on, marks_end)

module _ (l : List ℕ) (i n : ℕ) where
  pub past_on : 0 < n → i < length l → past n (drop i l) ≡ suc (past (n - pick (is_mark (get_or l i 0)) 1 0) (drop (i + 1) l))
  unfolding past
  past_on k h = rw (drop-cons l i 0 h, ne_eqb n 0 (λ e. omega arith), add-one)

  pub past_mark : 0 < n → i < length l → is_mark (get_or l i 0) ≡ true → past n (drop i l) ≡ past (n - 1) (drop (i + 1) l) + 1
  past_mark k h e = rw (past_on k h, e) (omega arith)

  pub past_other : 0 < n → i < length l → is_mark (get_or l i 0) ≡ false → past n (drop i l) ≡ past n (drop (i + 1) l) + 1
  past_other k h e = let z : n - 0 ≡ n = omega arith in rw (past_on k h, e, z) (omega arith)

  pub past_end : 0 < n → length l ≤ i → past n (drop i l) ≡ 1
  unfolding past
  past_end k h = rw (drop_of_length-le l h, ne_eqb n 0 (λ e. omega arith))

pub past_none : (l : List ℕ) → past 0 l ≡ 0
unfolding past
past_none [] = refl
past_none (b ∷ l) = refl

pub past_here : (l : List ℕ) (n : ℕ) → n ≡ 0 → past n l ≡ 0
past_here l n e = rw e (past_none l)

pub ruleset past_steps = (past_mark, past_other, past_end, past_here)

-- ---- pieces and marks

length_onto : (b : ℕ) (ts : List (List ℕ)) → 1 ≤ length ts → length (onto b ts) ≡ length ts
unfolding onto
length_onto b [] h = absurd (omega arith)
length_onto b (t ∷ ts) h = refl

more_pieces : (b : ℕ) (l : List ℕ) → length (cut_at_marks l) ≡ suc (marks_in l) → (s : Bool)
    → length (pick s ([] ∷ cut_at_marks l) (onto b (cut_at_marks l))) ≡ suc (pick s 1 0 + marks_in l)
more_pieces b l e true = omega (arith, e)
more_pieces b l e false = omega (arith, length_onto b (cut_at_marks l) (omega arith))

pub pieces_length : (l : List ℕ) → length (cut_at_marks l) ≡ suc (marks_in l)
unfolding cut_at_marks marks_in
pieces_length [] = refl
pieces_length (b ∷ l) = more_pieces b l (pieces_length l) (is_mark b)

-- ---- places

pub past_some : (n : ℕ) (l : List ℕ) → 0 < n → 1 ≤ past n l
unfolding past
past_some n [] h = rw (ne_eqb n 0 (λ e. omega arith)) (omega arith)
past_some n (b ∷ l) h = rw (ne_eqb n 0 (λ e. omega arith)) (omega arith)

past_step : (k l : ℕ) (s : Bool) → k ≤ suc l → pick s 0 (suc k) ≤ suc (suc l)
past_step k l true h = omega arith
past_step k l false h = omega arith

pub past_most : (n : ℕ) (l : List ℕ) → past n l ≤ suc (length l)
unfolding past
past_most n [] = by_test (eqb n 0)
  where
    by_test : (s : Bool) → pick s 0 1 ≤ 1
    by_test true = omega arith
    by_test false = omega arith
past_most n (b ∷ l) = past_step _ (length l) (eqb n 0) (past_most (n - pick (is_mark b) 1 0) l)

past_first : (b : ℕ) (l : List ℕ) (n : ℕ) → 0 < n → past n (b ∷ l) ≡ suc (past (n - pick (is_mark b) 1 0) l)
unfolding past
past_first b l n h = rw (ne_eqb n 0 (λ e. omega arith))

less_next : (b : ℕ) (l : List ℕ) (n m : ℕ) → n < m → n ≤ pick (is_mark b) 1 0 + marks_in l
    → ((n m : ℕ) → n < m → n ≤ marks_in l → past n l < past m l) → (s : Bool) → eqb n 0 ≡ s → past n (b ∷ l) < past m (b ∷ l)
less_next b l n m h k x true e =
    let z : n ≡ 0 = eqb-true n 0 e in
    rw (z, past_none (b ∷ l)) (omega (arith, past_some m (b ∷ l) (omega arith)))
less_next b l n m h k x false e =
    let z = eqb-false n 0 e in
    let f = past_first b l n (omega arith) in
    let g = past_first b l m (omega arith) in
    let y = x (n - pick (is_mark b) 1 0) (m - pick (is_mark b) 1 0) (omega (arith, mark_small (is_mark b))) (omega arith) in
    omega (arith, f, g, y)

-- a later mark stands further behind
pub past_less : (n m : ℕ) (l : List ℕ) → n < m → n ≤ marks_in l → past n l < past m l
unfolding marks_in
past_less n m [] h k =
    let z : n ≡ 0 = omega arith in
    rw (z, past_none []) (omega (arith, past_some m [] (omega arith)))
past_less n m (b ∷ l) h k = less_next b l n m h k (λ a c. past_less a c l) (eqb n 0) refl

add_next : (b : ℕ) (l : List ℕ) (n m : ℕ) → n ≤ pick (is_mark b) 1 0 + marks_in l
    → ((n : ℕ) → n ≤ marks_in l → past (n + m) l ≡ past n l + past m (drop (past n l) l)) → (s : Bool) → eqb n 0 ≡ s
    → past (n + m) (b ∷ l) ≡ past n (b ∷ l) + past m (drop (past n (b ∷ l)) (b ∷ l))
add_next b l n m k x true e = let z : n ≡ 0 = eqb-true n 0 e in rw (z, past_none (b ∷ l), zero-add, zero-add)
add_next b l n m k x false e =
    let z = eqb-false n 0 e in
    let f = past_first b l (n + m) (omega arith) in
    let g = past_first b l n (omega arith) in
    let j : n + m - pick (is_mark b) 1 0 ≡ n - pick (is_mark b) 1 0 + m = omega (arith, mark_small (is_mark b)) in
    rw (f, g, j) (ap suc (x (n - pick (is_mark b) 1 0) (omega arith)) ∙ omega arith)

-- from a mark on
past_add : (n m : ℕ) (l : List ℕ) → n ≤ marks_in l → past (n + m) l ≡ past n l + past m (drop (past n l) l)
unfolding marks_in
past_add n m [] h = let z : n ≡ 0 = omega arith in rw (z, past_none [], zero-add, zero-add)
past_add n m (b ∷ l) h = add_next b l n m h (λ a. past_add a m l) (eqb n 0) refl

-- ---- pieces by their places

drop_onto : (n b : ℕ) (ts : List (List ℕ)) → drop (suc n) (onto b ts) ≡ drop (suc n) ts
unfolding onto
drop_onto n b [] = drop-nil n
drop_onto n b (t ∷ ts) = refl

take_onto : (n b : ℕ) (ts : List (List ℕ)) → take (suc n) (onto b ts) ≡ onto b (take (suc n) ts)
unfolding onto
take_onto n b [] = ap (λ (r : List (List ℕ)). (b ∷ []) ∷ r) (take-nil n)
take_onto n b (t ∷ ts) = refl

pieces_drop_more : (b : ℕ) (l : List ℕ) (n : ℕ)
    → ((n : ℕ) → n ≤ marks_in l → drop n (cut_at_marks l) ≡ cut_at_marks (drop (past n l) l)) → (s : Bool) → suc n ≤ pick s 1 0 + marks_in l
    → drop (suc n) (pick s ([] ∷ cut_at_marks l) (onto b (cut_at_marks l))) ≡ cut_at_marks (drop (past (suc n - pick s 1 0) l) l)
pieces_drop_more b l n x true h = let z : suc n - 1 ≡ n = omega arith in rw z (x n (omega arith))
pieces_drop_more b l n x false h = let z : suc n - 0 ≡ suc n = omega arith in rw z (drop_onto n b (cut_at_marks l) ∙ x (suc n) (omega arith))

pieces_drop_next : (b : ℕ) (l : List ℕ) (n : ℕ)
    → ((n : ℕ) → n ≤ marks_in l → drop n (cut_at_marks l) ≡ cut_at_marks (drop (past n l) l)) → n ≤ pick (is_mark b) 1 0 + marks_in l
    → drop n (cut_at_marks (b ∷ l)) ≡ cut_at_marks (drop (past n (b ∷ l)) (b ∷ l))
unfolding cut_at_marks
pieces_drop_next b l zero x h = rw (past_none (b ∷ l))
pieces_drop_next b l (suc n) x h = rw (past_first b l (suc n) (omega arith)) (pieces_drop_more b l n x (is_mark b) h)

-- the pieces behind a mark
pieces_drop : (l : List ℕ) (n : ℕ) → n ≤ marks_in l → drop n (cut_at_marks l) ≡ cut_at_marks (drop (past n l) l)
unfolding marks_in
pieces_drop [] n h = let z : n ≡ 0 = omega arith in rw (z, past_none [])
pieces_drop (b ∷ l) n h = pieces_drop_next b l n (pieces_drop l) h

-- what remains of the bytes up to a mark that is there or not: its byte cut out, or first
marked_first : (b : ℕ) (l : List ℕ) (n : ℕ) → is_mark b ≡ true → joined (take n (cut_at_marks l)) ≡ remaining true (take (past n l - 1) l)
    → joined (take n (cut_at_marks l)) ≡ remaining true (take (past n l) (b ∷ l))
unfolding remaining cuts joined
marked_first b l zero e x = rw (past_none l)
marked_first b l (suc n) e x =
    let q : past (suc n) l ≡ suc (past (suc n) l - 1) = omega (arith, past_some (suc n) l (omega arith)) in
    rw q (rw e x)

some_more : (b : ℕ) (l : List ℕ) (n : ℕ)
    → ((n : ℕ) → joined (take n (cut_at_marks l)) ≡ remaining true (take (past n l - 1) l)) → (s : Bool) → is_mark b ≡ s
    → joined (take (suc n) (pick s ([] ∷ cut_at_marks l) (onto b (cut_at_marks l))))
    ≡ remaining true (take (past (suc n - pick s 1 0) l) (b ∷ l))
unfolding remaining cuts joined
some_more b l n x true e = let z : suc n - 1 ≡ n = omega arith in rw z (marked_first b l n e (x n))
some_more b l n x false e =
    let z : suc n - 0 ≡ suc n = omega arith in
    let q : past (suc n) l ≡ suc (past (suc n) l - 1) = omega (arith, past_some (suc n) l (omega arith)) in
    rw (z, q, e, take_onto n b (cut_at_marks l), joined_onto b (take (suc n) (cut_at_marks l))) (ap (λ (t : List ℕ). b ∷ t) (x (suc n)))

some_next : (b : ℕ) (l : List ℕ) (n : ℕ)
    → ((n : ℕ) → joined (take n (cut_at_marks l)) ≡ remaining true (take (past n l - 1) l))
    → joined (take n (cut_at_marks (b ∷ l))) ≡ remaining true (take (past n (b ∷ l) - 1) (b ∷ l))
unfolding cut_at_marks joined remaining
some_next b l zero x = rw (past_none (b ∷ l))
some_next b l (suc n) x =
    let z : suc (past (suc n - pick (is_mark b) 1 0) l) - 1 ≡ past (suc n - pick (is_mark b) 1 0) l = omega arith in
    rw (past_first b l (suc n) (omega arith), z) (some_more b l n x (is_mark b) refl)

no_pieces : (n : ℕ) → joined (take n ([] ∷ [])) ≡ []
unfolding joined
no_pieces zero = refl
no_pieces (suc n) = rw (take-nil n)

-- the first pieces joined are what remains of the bytes up to a mark
first_pieces : (l : List ℕ) (n : ℕ) → joined (take n (cut_at_marks l)) ≡ remaining true (take (past n l - 1) l)
unfolding cut_at_marks remaining
first_pieces [] n = rw (take-nil (past n [] - 1)) (no_pieces n)
first_pieces (b ∷ l) n = some_next b l n (first_pieces l)

first_next : (b : ℕ) (l : List ℕ) → get_or (cut_at_marks l) 0 [] ≡ take (past 1 l - 1) l → (s : Bool)
    → get_or (pick s ([] ∷ cut_at_marks l) (onto b (cut_at_marks l))) 0 [] ≡ take (past (1 - pick s 1 0) l) (b ∷ l)
unfolding onto
first_next b l x true = rw (past_none l)
first_next b l x false =
    let q : past 1 l ≡ suc (past 1 l - 1) = omega (arith, past_some 1 l (omega arith)) in
    rw q (by_pieces (cut_at_marks l) ∙ ap (λ (t : List ℕ). b ∷ t) x)
  where
    by_pieces : (ts : List (List ℕ)) → get_or (onto b ts) 0 [] ≡ b ∷ get_or ts 0 []
    by_pieces [] = refl
    by_pieces (t ∷ ts) = refl

first_piece : (l : List ℕ) → get_or (cut_at_marks l) 0 [] ≡ take (past 1 l - 1) l
unfolding cut_at_marks
first_piece [] = sym (take-nil (past 1 [] - 1))
first_piece (b ∷ l) =
    let z : suc (past (1 - pick (is_mark b) 1 0) l) - 1 ≡ past (1 - pick (is_mark b) 1 0) l = omega arith in
    rw (past_first b l 1 (omega arith), z) (first_next b l (first_piece l) (is_mark b))

module _ (l : List ℕ) (n m : ℕ) (h : n ≤ marks_in l) where
  width : past (n + m) l - 1 - past n l ≡ past m (drop (past n l) l) - 1
  width = omega (arith, past_add n m l h)

  -- m pieces from number n on, counted from 0
  pub some_pieces : joined (take m (drop n (cut_at_marks l))) ≡ remaining true (take (past (n + m) l - 1 - past n l) (drop (past n l) l))
  some_pieces = rw (pieces_drop l n h, width) (first_pieces (drop (past n l) l) m)

pub one_piece : (l : List ℕ) (n : ℕ) → n ≤ marks_in l → get_or (cut_at_marks l) n [] ≡ take (past (n + 1) l - 1 - past n l) (drop (past n l) l)
one_piece l n h =
    let z : n + 0 ≡ n = omega arith in
    rw (width l n 1 h) (sym (get_or-drop n (cut_at_marks l) 0 [] ∙ ap (λ (k : ℕ). get_or (cut_at_marks l) k []) z)
    ∙ (ap (λ (ts : List (List ℕ)). get_or ts 0 []) (pieces_drop l n h) ∙ first_piece (drop (past n l) l)))
