-- What members are sent has its room.
--     short     no message is longer: 211 bytes, and 17 for each byte of the longest reply
--     whole     the statement of specs/Message
-- Assumes nothing.
use Rattle.std.proofs.Common.{◌≡◌, ℕ, suc, ◌+◌, ◌-◌, ◌*◌, ◌/◌, ◌≤◌, Bool, true, false, eqb, leb, List, [], ◌∷◌, ◌++◌, length, refl, ap, arith, length-append, length-take-le, Ok, Err}
use Rattle.rules.specs.declared.State.{State}
use Rattle.rules.specs.Cell.{pick}
use Rattle.rules.specs.Send.{digit}
use Rattle.counter.specs.declared.Refusal.{Refusal}
use Rattle.counter.specs.declared.NoReply.{NoReply}
use Rattle.counter.specs.Count.{Counted}
use Rattle.counter.specs.Words.{words}
use Rattle.counter.specs.Pieces.{returns, before, is_mark, onto, cut_at_marks, pieces, joined}
use Rattle.counter.specs.Ask.{Told, ask_rule}
use Rattle.counter.specs.Walk.{marks_in}
use Rattle.counter.proofs.Fewest.{joined_onto}
use Rattle.counter.proofs.Marks.{pieces_length}
use Rattle.counter.proofs.Replies.{asking_fits}
use Rattle.counter.proofs.Questions.{ask_cases}
use Rattle.rules.proofs.Rows.{columns_width, width_range}
use Rattle.alert.specs.Room.{decimal_of, count_of}
use Rattle.alert.specs.Message.{mode_note, is_shown, piece_line, piece_lines, count_line, told_line, sent, reply_room, Whole, reply_of, last_of, message}

pick_most : (t : Bool) (x y : List ℕ) (n : ℕ) → length x ≤ n → length y ≤ n → length (pick t x y) ≤ n
pick_most true x y n a b = a
pick_most false x y n a b = b

decimal_short : (v : ℕ) → length (decimal_of v) ≤ 4
unfolding decimal_of
decimal_short v =
    let a = pick_most (leb 1000 v) (digit (v / 1000) ∷ []) [] 1 (omega arith) (omega arith) in
    let b = pick_most (leb 100 v) (digit (v / 100) ∷ []) [] 1 (omega arith) (omega arith) in
    let c = pick_most (leb 10 v) (digit (v / 10) ∷ []) [] 1 (omega arith) (omega arith) in
    simp length-append (omega arith)

count_short : (n : ℕ) (word : List ℕ) → length (count_of n word) ≤ 6 + length word
unfolding count_of
count_short n word =
    let a = decimal_short n in
    let b = pick_most (eqb n 1) [] (words "s") 1 (omega arith) (omega arith) in
    simp length-append (omega arith)

-- ---- the lines of pieces

-- a reply that ends in a CR has a byte
some_byte : (r : List ℕ) → returns r ≡ true → 1 ≤ length r
unfolding returns
some_byte [] e = cc
some_byte (b ∷ l) e = omega arith

line_short : (first last k : ℕ) (t : List ℕ) → length (piece_line first last k t) ≤ 17 + length t
unfolding piece_line
line_short first last k t =
    let d = decimal_short k in
    pick_most (is_shown first last k t) (words "  piece " ++ decimal_of k ++ words ": \"" ++ t ++ words "\"\n") [] (17 + length t)
    (simp length-append (omega arith)) (omega arith)

lines_short : (first last k : ℕ) (ts : List (List ℕ)) → length (piece_lines first last k ts) ≤ 17 * length ts + length (joined ts)
unfolding piece_lines joined
lines_short first last k [] = omega arith
lines_short first last k (t ∷ ts) =
    let a = line_short first last k t in
    let b = lines_short first last (suc k) ts in
    simp length-append (omega arith)

joined_next : (b : ℕ) (l : List ℕ) → length (joined (cut_at_marks l)) + marks_in l ≡ length l → (s : Bool)
    → length (joined (pick s ([] ∷ cut_at_marks l) (onto b (cut_at_marks l)))) + (pick s 1 0 + marks_in l) ≡ suc (length l)
unfolding joined
joined_next b l e true = omega arith
joined_next b l e false = omega (arith, ap length (joined_onto b (cut_at_marks l)))

joined_length : (l : List ℕ) → length (joined (cut_at_marks l)) + marks_in l ≡ length l
unfolding cut_at_marks joined marks_in
joined_length [] = refl
joined_length (b ∷ l) = joined_next b l (joined_length l) (is_mark b)

pieces_short : (first last : ℕ) (r : List ℕ) → length (piece_lines first last 1 (pieces r)) ≤ 17 * length r
unfolding pieces piece_lines
pieces_short first last r = by_test (returns r) refl
  where
    by_test : (t : Bool) → returns r ≡ t → length (piece_lines first last 1 (pick t (cut_at_marks (before r)) [])) ≤ 17 * length r
    by_test true e =
        let h = some_byte r e in
        let b = length-take-le (length r - 1) r (omega arith) in
        let l = lines_short first last 1 (cut_at_marks (before r)) in
        omega (arith, pieces_length (before r), joined_length (before r))
    by_test false e = omega arith

-- ---- what is told

counted_short : (c : Counted) → length (count_line c) ≤ 90
unfolding count_line
counted_short (Ok s) =
    let a = count_short s.units (words "unit") in
    let b = count_short s.parts (words "text part") in
    simp length-append (omega arith)
counted_short (Err Refusal.NoReturn) = omega arith
counted_short (Err Refusal.BadFirst) = omega arith
counted_short (Err Refusal.BadLast) = omega arith
counted_short (Err (Refusal.BadByte n)) = let a = decimal_short n in simp length-append (omega arith)

told_short : (t : Told) → length (told_line t) ≤ 90
unfolding told_line
told_short (Ok c) = counted_short c
told_short (Err NoReply.BadPage) = omega arith
told_short (Err NoReply.BadState) = omega arith
told_short (Err NoReply.UnderWay) = omega arith
told_short (Err NoReply.NoRoom) = omega arith

note_short : (on : Bool) → length (mode_note on) ≤ 73
unfolding mode_note
note_short true = omega arith
note_short false = omega arith

sent_short : (on : Bool) (t : Told) (r : List ℕ) (first last : ℕ) → length (sent on t r first last) ≤ 211 + 17 * length r
unfolding sent
sent_short on t r first last =
    let a = note_short on in
    let b = pieces_short first last r in
    let c = told_short t in
    simp length-append (omega arith)

pub short : (p : List ℕ) (s : State) (first : ℕ) (all : Bool) (last : ℕ) → length (message p s first all last) ≤ 211 + 17 * reply_room
unfolding message
short p s first all last =
    let e = last_of all last (reply_of p s) in
    omega (arith, sent_short s.core.modes.protect (ask_rule p s first e reply_room) (reply_of p s) first e, asking_fits p s reply_room)

pub whole : Whole
whole p s g r = (ask_cases p s 1 1 reply_room).enough g r (omega (arith, width_range (columns_width s.core.screen.wide)))
