-- Asking the terminal with ESC 5, and counting what it replies.
use Rattle.std.specs.Prelude.{◌≡◌, Bool, true, false, not, List, [], ◌∷◌, ◌++◌, ℕ, ◌+◌, ◌*◌, ◌≤◌, eqb, length, get_or, Result, Ok, Err}
use Rattle.rules.specs.declared.State.{State}
use Rattle.rules.specs.Cell.{pick, both, either, between}
use Rattle.rules.specs.State.{width_of, page_length, is_idle, sends}
use Rattle.rules.specs.Possible.{possible, good}
use Rattle.rules.specs.Calls.{Ran, run_rule}
use Rattle.rules.specs.Theorems.Noninterference.{Alike}
use Rattle.rules.specs.Room.{over}
use Rattle.counter.specs.declared.Refusal.{Refusal}
use Rattle.counter.specs.declared.NoReply.{NoReply}
use Rattle.counter.specs.declared.Asked.{Asked}
use Rattle.counter.specs.Alphabet.{backquote}
use Rattle.counter.specs.Pieces.{is_mark, whole}
use Rattle.counter.specs.Count.{Counted, Numbers, numbers, count_rule}

-- neither a sequence nor a send is under way
unfoldable pub is_ready : State → Bool
is_ready s = both (is_idle s.core.pending) (not (sends s.sending))

-- what the terminal is asked, by whether it is ready: ESC 5, or nothing; and the room that it is lent for that
unfoldable pub question : Bool → List ℕ
question ready = pick ready (0x1b ∷ 0x35 ∷ []) []

abbrev pub lent : Bool → ℕ → ℕ
lent ready room = pick ready room 0

-- the run that asks it
unfoldable pub asking : List ℕ → State → ℕ → Ran
asking p s room = run_rule p s (question (is_ready s)) (lent (is_ready s) room)

-- its reply did not begin, or did not end
unfoldable pub is_cut : Ran → Bool
is_cut r = either (eqb r.answer 6) (sends r.state.sending)

-- the count of the reply, or why no reply is counted
abbrev pub Told : Type 0
Told = Result Counted NoReply

-- what the caller is told, by the run's answer n, whether the page has its length, whether nothing is under way, and whether the reply is cut: 7 is
-- a wrong page, else an impossible state; then a sequence or a send under way; then no room; else the count of the reply
unfoldable pub told_rule : ℕ → Bool → Bool → Bool → Counted → Told
told_rule n full ready cut c =
    pick (eqb n 7) (Err (pick full NoReply.BadState NoReply.BadPage)) (pick ready (pick cut (Err NoReply.NoRoom) (Ok c)) (Err NoReply.UnderWay))

unfoldable pub ask_rule : List ℕ → State → ℕ → ℕ → ℕ → Told
ask_rule p s first last room =
    told_rule (asking p s room).answer (eqb (length p) (page_length s.core.screen)) (is_ready s) (is_cut (asking p s room))
    (count_rule (asking p s room).reply first last)

-- what is told in numbers: 0 and the count, or what refuses it, in the order of the tests, and a count of zeros
pub record ToldNumbers : Type 0 where
  pub answer : ℕ
  pub count : Numbers

abbrev pub untold : ℕ → ToldNumbers
untold n = record { answer = n; count = record { refusal = 0; units = 0; parts = 0; place = 0 } }

abbrev pub told_numbers : Told → ToldNumbers
told_numbers (Ok c) = record { answer = 0; count = numbers c }
told_numbers (Err NoReply.BadPage) = untold 1
told_numbers (Err NoReply.BadState) = untold 2
told_numbers (Err NoReply.UnderWay) = untold 3
told_numbers (Err NoReply.NoRoom) = untold 4

-- the numbers say what was told
abbrev pub OneTold : Type 0
OneTold = (t u : Told) → told_numbers t ≡ told_numbers u → t ≡ u

-- p and w are the page and the room before the call, p' and w' after it: the page is as it was, and the reply, as far as
-- it fits, stands at the front of the room
pub record Asks (p : List ℕ) (s : State) (first last : ℕ) (r : Asked) (p' w w' : List ℕ) : Type 0 where
  pub told : told_numbers r.told ≡ told_numbers (ask_rule p s first last (length w))
  pub replied : r.replied ≡ length (asking p s (length w)).reply
  pub fits : r.replied ≤ length w
  pub page : p' ≡ p
  pub room : w' ≡ over (asking p s (length w)).reply w

-- ---- each path by name

-- nothing is replied
abbrev pub Silent : List ℕ → State → ℕ → Type 0
Silent p s room = (asking p s room).reply ≡ []

pub record AskCases (p : List ℕ) (s : State) (first last room : ℕ) : Type 0 where
  pub bad_page : (length p ≡ page_length s.core.screen → ⊥) → (ask_rule p s first last room ≡ Err NoReply.BadPage) × Silent p s room
  pub bad_state : length p ≡ page_length s.core.screen → possible s ≡ false → (ask_rule p s first last room ≡ Err NoReply.BadState) × Silent p s room
  pub under_way : good p s ≡ true → is_ready s ≡ false → (ask_rule p s first last room ≡ Err NoReply.UnderWay) × Silent p s room
  -- a reply that does not end fills the room
  pub no_room : good p s ≡ true → is_ready s ≡ true → is_cut (asking p s room) ≡ true
      → (ask_rule p s first last room ≡ Err NoReply.NoRoom) × (length (asking p s room).reply ≡ room)
  -- the reply is counted, and the terminal is as it was
  pub counted : good p s ≡ true → is_ready s ≡ true → is_cut (asking p s room) ≡ false
      → (ask_rule p s first last room ≡ Ok (count_rule (asking p s room).reply first last)) × ((asking p s room).state ≡ s)
  -- a byte for each cell and one for each row are always room enough: 1,944 on a page of 80 columns
  pub enough : good p s ≡ true → is_ready s ≡ true → 24 * (width_of s.core.screen + 1) ≤ room → is_cut (asking p s room) ≡ false

abbrev pub AskingCases : Type 0
AskingCases = (p : List ℕ) (s : State) (first last room : ℕ) → AskCases p s first last room

-- the page is as it was, on every path
abbrev pub AskingPage : Type 0
AskingPage = (p : List ℕ) (s : State) (room : ℕ) → (asking p s room).page ≡ p

-- ---- what the terminal replies to ESC 5

-- FS, US, or a byte from 20h to 7Eh
unfoldable pub is_sent : ℕ → Bool
is_sent b = either (is_mark b) (between 0x20 0x7e b)

pub data AllSent : List ℕ → Type 0 where
  none : AllSent []
  more : {b : ℕ} {l : List ℕ} → is_sent b ≡ true → AllSent l → AllSent (b ∷ l)

-- such bytes, and then a CR
pub record Replies (r : List ℕ) : Type 0 where
  pub text : List ℕ
  pub is : r ≡ text ++ 0x0d ∷ []
  pub sent : AllSent text

abbrev pub RepliesToAsking : Type 0
RepliesToAsking =
    (p : List ℕ) (s : State) (room : ℕ) → good p s ≡ true → is_ready s ≡ true → is_cut (asking p s room) ≡ false
    → Replies (asking p s room).reply

-- such a reply is never refused for its CR, and a byte that is refused is a backquote
pub record Countable (r : List ℕ) (first last : ℕ) : Type 0 where
  pub return : count_rule r first last ≡ Err Refusal.NoReturn → ⊥
  pub byte : (n : ℕ) → count_rule r first last ≡ Err (Refusal.BadByte n) → get_or (whole r first last) n 0 ≡ backquote

abbrev pub RepliesCount : Type 0
RepliesCount = (r : List ℕ) (first last : ℕ) → Replies r → Countable r first last

-- demand 3: alike terminals with protect mode on are told the same count, whatever their protected cells hold
abbrev pub AlikeCount : Type 0
AlikeCount =
    (p q : List ℕ) (s t : State) (first last room : ℕ) → s.core.modes.protect ≡ true → Alike p q s t
    → ask_rule p s first last room ≡ ask_rule q t first last room

-- request A7: so it is in any mode, protect mode on or off, and the reply itself is the same
pub record Unrevealed (p q : List ℕ) (s t : State) (room : ℕ) : Type 0 where
  pub reply : (asking p s room).reply ≡ (asking q t room).reply
  pub told : (first last : ℕ) → ask_rule p s first last room ≡ ask_rule q t first last room

abbrev pub LabelsUncounted : Type 0
LabelsUncounted = (p q : List ℕ) (s t : State) (room : ℕ) → Alike p q s t → Unrevealed p q s t room
