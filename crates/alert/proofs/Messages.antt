-- Laws of what members are sent.
--     note_on, note_off                       the mode's note
--     early, late, between, shown, not_shown, lines_begin, lines_on, lines_done     the lines of pieces
--     room_kept, replied_within, message_is   the reply in its room, and the whole message
--     private                                 the statement of specs/Message
-- Assumes nothing.
use Rattle.std.proofs.Common.{◌≡◌, ℕ, ◌+◌, ◌-◌, ◌<◌, ◌≤◌, Bool, true, false, leb, List, [], ◌++◌, length, get_or, take, drop, refl, ap, ◌∙◌, subst, add-one, arith, length-append, length-drop, drop_of_length-le, drop-cons, ne_eqb, le-leb}
use lib.Seq.{take-append_seam}
use borrow.Author.Tests.{lt-leb}
use Rattle.rules.specs.declared.State.{State}
use Rattle.rules.specs.Room.{over}
use Rattle.counter.specs.Words.{words}
use Rattle.counter.specs.Pieces.{pieces, piece_of}
use Rattle.counter.specs.declared.Asked.{Asked}
use Rattle.counter.specs.Ask.{asking, ask_rule, Asks, Unrevealed}
use Rattle.counter.proofs.Questions.{one_told}
use Rattle.counter.proofs.Alike.{labels_uncounted}
use Rattle.alert.specs.Room.{decimal_of, Puts}
use Rattle.alert.specs.Message.{mode_note, is_shown, piece_line, piece_lines, sent, reply_room, reply_of, last_of, message, Private}
use Rattle.alert.proofs.Puts.{none, and, Left, begin, go, done}

-- ---- the mode's note

pub note_on : (on : Bool) {n : ℕ} {r : List ℕ} → on ≡ true → Puts (mode_note on) n r n r
unfolding mode_note
note_on on e = rw e none

pub note_off : (on : Bool) {n n' : ℕ} {r r' : List ℕ} → on ≡ false
    → Puts (words "  Protect mode is off; cells marked protected are left out all the same.\n") n r n' r' → Puts (mode_note on) n r n' r'
unfolding mode_note
note_off on e p = rw e p

-- ---- the lines of pieces

module _ (first last k : ℕ) (t : List ℕ) where
  pub early : k < first → false ≡ is_shown first last k t
  early h = rw (lt-leb first k h)

  pub late : first ≤ k → last < k → false ≡ is_shown first last k t
  late h j = rw (le-leb first k h, lt-leb k last j)

  pub between : first ≤ k → k ≤ last → leb 1 (length t) ≡ is_shown first last k t
  between h j = rw (le-leb first k h, le-leb k last j)

  pub not_shown : {b : Bool} {n : ℕ} {w : List ℕ} → b ≡ is_shown first last k t → b ≡ false → Puts (piece_line first last k t) n w n w
  unfolding piece_line
  not_shown e f = rw (← e, f) none

  pub shown : {b : Bool} {n n1 n2 n3 n4 n5 : ℕ} {w w1 w2 w3 w4 w5 : List ℕ} → b ≡ is_shown first last k t → b ≡ true
      → Puts (words "  piece ") n w n1 w1 → Puts (decimal_of k) n1 w1 n2 w2 → Puts (words ": \"") n2 w2 n3 w3 → Puts t n3 w3 n4 w4
      → Puts (words "\"\n") n4 w4 n5 w5 → Puts (piece_line first last k t) n w n5 w5
  unfolding piece_line
  shown e f a b c d l = rw (← e, f) (and (and (and (and a b) c) d) l)

piece_at : (r : List ℕ) (i : ℕ) → piece_of r (i + 1) ≡ get_or (pieces r) i []
unfolding piece_of
piece_at r i = let z : i + 1 - 1 ≡ i = omega arith in rw (ne_eqb (i + 1) 0 (λ e. omega arith), z)

module _ (first last : ℕ) (r : List ℕ) where
  -- the lines of the pieces behind the first i
  abbrev pub lines_left : ℕ → List ℕ
  lines_left i = piece_lines first last (i + 1) (drop i (pieces r))

  pub lines_begin : {n : ℕ} {w : List ℕ} → Left (lines_left 0) n w (piece_lines first last 1 (pieces r)) n w
  lines_begin = begin

  step : (i : ℕ) → i < length (pieces r) → lines_left i ≡ piece_line first last (i + 1) (piece_of r (i + 1)) ++ lines_left (i + 1)
  unfolding piece_lines
  step i h = rw (drop-cons (pieces r) i [] h, piece_at r i, add-one, add-one)

  pub lines_on : (i : ℕ) {c n n' m : ℕ} {t w w' y v : List ℕ} → c ≡ length (pieces r) → i < c → t ≡ piece_of r (i + 1)
      → Puts (piece_line first last (i + 1) t) n w n' w' → Left (lines_left i) n w y m v → Left (lines_left (i + 1)) n' w' y m v
  lines_on i e h f p l = go (rw f at p) (rw (step i (omega arith)) at l)

  pub lines_done : (i : ℕ) {c n m : ℕ} {w y v : List ℕ} → c ≡ length (pieces r) → c ≤ i → Left (lines_left i) n w y m v → Puts y m v n w
  unfolding piece_lines
  lines_done i e h l = done (rw (drop_of_length-le (pieces r) {i = i} (omega arith)) at l)

-- ---- the reply in its room

-- the front of a room after a reply
front : (l w w' : List ℕ) (n : ℕ) → n ≡ length l → w' ≡ over l w → take n w' ≡ l
unfolding over
front l w w' n e h = rw (e, h) (take-append_seam l _)

over_length : (l w w' : List ℕ) → length l ≤ length w → w' ≡ over l w → length w' ≡ length w
unfolding over
over_length l w w' h e = omega (arith, ap length e, length-append l (drop (length l) w), length-drop (length l) w)

module _ {p p' w w' : List ℕ} {s : State} {first last : ℕ} {a : Asked} (x : Asks p s first last a p' w w') where
  pub room_kept : length w' ≡ length w
  room_kept = over_length (asking p s (length w)).reply w w' (omega (arith, x.replied, x.fits)) x.room

  pub replied_within : a.replied ≤ length w'
  replied_within = omega (arith, room_kept, x.fits)

-- asked twice, the page and the reply are the same
pub message_is : (p : List ℕ) (s : State) (first : ℕ) (all : Bool) (last : ℕ) {a b : Asked} {p' p'' w w' w'' v v' : List ℕ} {e n : ℕ}
    → Asks p s 1 1 a p' w w' → e ≡ last_of all last (take a.replied w') → Asks p' s first e b p'' w' w''
    → Puts (sent s.core.modes.protect b.told (take b.replied w'') first e) 0 v n v' → length w ≡ reply_room
    → (p'' ≡ p) × Puts (message p s first all last) 0 v n v'
unfolding message
message_is p s first all last {a} {b} {p'} {p''} {w} {w'} {w''} {e = e} x f y q h =
    let k : length w' ≡ reply_room = room_kept x ∙ h in
    let r : take a.replied w' ≡ reply_of p s = rw h at (front (asking p s (length w)).reply w w' a.replied x.replied x.room) in
    let g : e ≡ last_of all last (reply_of p s) = f ∙ ap (last_of all last) r in
    let r' : take b.replied w'' ≡ reply_of p s =
    rw (x.page, k) at (front (asking p' s (length w')).reply w' w'' b.replied y.replied y.room) in
    let t : b.told ≡ ask_rule p s first (last_of all last (reply_of p s)) reply_room = one_told _ _ (rw (x.page, k, g) at y.told) in
    (y.page ∙ x.page, rw (r', t, g) at q)

-- ---- privacy

alike_message : (p q : List ℕ) (s : State) (first : ℕ) (all : Bool) (last : ℕ) → Unrevealed p q s s reply_room
    → message p s first all last ≡ message q s first all last
unfolding message
alike_message p q s first all last x = rw (x.reply, x.told first (last_of all last (reply_of q s)))

pub private : Private
private p q s t first all last a =
    subst (λ (u : State). message p s first all last ≡ message q u first all last) a.state
    (alike_message p q s first all last (labels_uncounted p q s s reply_room (record { state = refl; pages = a.pages })))
