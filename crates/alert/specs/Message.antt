-- What members are sent, as it is told: the pieces of the terminal's own reply to ESC 5, and the units and text parts of the whole.
use Rattle.std.specs.Prelude.{◌≡◌, ℕ, suc, Bool, true, false, List, [], ◌∷◌, ◌++◌, length, nat_le, Ok, Err}
use Rattle.rules.specs.declared.State.{State}
use Rattle.rules.specs.Cell.{pick, both}
use Rattle.rules.specs.Possible.{good}
use Rattle.rules.specs.Theorems.Noninterference.{Alike}
use Rattle.counter.specs.declared.Refusal.{Refusal}
use Rattle.counter.specs.declared.NoReply.{NoReply}
use Rattle.counter.specs.Words.{words}
use Rattle.counter.specs.Pieces.{pieces}
use Rattle.counter.specs.Count.{Counted}
use Rattle.counter.specs.Ask.{Told, is_ready, asking, is_cut, ask_rule}
use Rattle.alert.specs.Room.{decimal_of, count_of}

-- whether protect mode is off: nothing is guarded then, and the marks hold all the same
unfoldable pub mode_note : Bool → List ℕ
mode_note on = pick on [] (words "  Protect mode is off; cells marked protected are left out all the same.\n")

-- the line of piece k, where it is one of those from the first to the last and has text
abbrev pub is_shown : ℕ → ℕ → ℕ → List ℕ → Bool
is_shown first last k t = both (nat_le first k) (both (nat_le k last) (nat_le 1 (length t)))

unfoldable pub piece_line : ℕ → ℕ → ℕ → List ℕ → List ℕ
piece_line first last k t = pick (is_shown first last k t) (words "  piece " ++ decimal_of k ++ words ": \"" ++ t ++ words "\"\n") []

-- the lines of some pieces, the first of them being number k
unfoldable pub piece_lines : ℕ → ℕ → ℕ → List (List ℕ) → List ℕ
piece_lines first last k [] = []
piece_lines first last k (t ∷ ts) = let r = piece_lines first last (suc k) ts in piece_line first last k t ++ r

-- what the whole comes to, or why it is not counted
unfoldable pub count_line : Counted → List ℕ
count_line (Ok s) =
    words "  " ++ count_of s.units (words "unit") ++ words " without trailing spaces, " ++ count_of s.parts (words "text part") ++ words "\n"
count_line (Err Refusal.NoReturn) = words "  Not counted: the reply has no final CR.\n"
count_line (Err Refusal.BadFirst) = words "  Not counted: the first piece is 0 or above the last.\n"
count_line (Err Refusal.BadLast) = words "  Not counted: the last piece is beyond those of the reply.\n"
count_line (Err (Refusal.BadByte n)) = words "  Not counted: the character at place " ++ decimal_of n
    ++ words " of the whole, from 0, is outside the alphabet.\n"

unfoldable pub told_line : Told → List ℕ
told_line (Ok c) = count_line c
told_line (Err NoReply.BadPage) = words "  Not asked: the page has a wrong length.\n"
told_line (Err NoReply.BadState) = words "  Not asked: the state is not possible.\n"
told_line (Err NoReply.UnderWay) = words "  Not asked: the stream ends within a sequence.\n"
told_line (Err NoReply.NoRoom) = words "  Not asked: the reply is longer than its room.\n"

-- of a reply r, with protect mode as it is and what was told of the pieces from the first to the last
unfoldable pub sent : Bool → Told → List ℕ → ℕ → ℕ → List ℕ
sent on t r first last =
    words "\nWhat members are sent, from the reply to ESC 5\n" ++ mode_note on ++ piece_lines first last 1 (pieces r) ++ told_line t

-- the room for the reply: the longest that there is, that of a wide page
abbrev pub reply_room : ℕ
reply_room = 3192

-- at either width it is enough: no reply is cut
abbrev pub Whole : Type 0
Whole = (p : List ℕ) (s : State) → good p s ≡ true → is_ready s ≡ true → is_cut (asking p s reply_room) ≡ false

abbrev pub reply_of : List ℕ → State → List ℕ
reply_of p s = (asking p s reply_room).reply

-- the number of the last piece: where all are wanted, the last there is
unfoldable pub last_of : Bool → ℕ → List ℕ → ℕ
last_of all last r = pick all (length (pieces r)) last

-- of a page and a state
unfoldable pub message : List ℕ → State → ℕ → Bool → ℕ → List ℕ
message p s first all last =
    sent s.core.modes.protect (ask_rule p s first (last_of all last (reply_of p s)) reply_room) (reply_of p s) first (last_of all last (reply_of p s))

-- it does not depend on what cells marked protected hold, in any state, protect mode on or off
abbrev pub Private : Type 0
Private =
    (p q : List ℕ) (s t : State) (first : ℕ) (all : Bool) (last : ℕ) → Alike p q s t → message p s first all last ≡ message q t first all last
