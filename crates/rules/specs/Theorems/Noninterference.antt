-- Demand 3, the statement: document 01, "What demand 3 speaks of".
use Rattle.std.specs.Prelude.{◌≡◌, Bool, true, false, List, [], ◌∷◌, ℕ, ◌-◌, ◌<◌, eqb, length, get_or}
use Rattle.rules.specs.declared.State.{State}
use Rattle.rules.specs.declared.Pending.{Pending}
use Rattle.rules.specs.declared.Pending.TheVariants as Pending
use Rattle.rules.specs.Cell.{pick, both, either, protected}
use Rattle.rules.specs.declared.Sending.{Sending}
use Rattle.rules.specs.declared.Sending.TheVariants as Sending
use Rattle.rules.specs.State.{sends}
use Rattle.rules.specs.Possible.{good}
use Rattle.rules.specs.Step.{goes_on, step_rule}
use Rattle.rules.specs.Calls.{Call, Step, Run, Press, call_rule, Played, play}

-- pages alike at the start: the same length, the same protected bit in each cell, and the same number in each unprotected cell. A protected
-- cell's code, kind and attribute may differ
pub record AlikePages (p q : List ℕ) : Type 0 where
  pub size : length p ≡ length q
  pub bits : (i : ℕ) → i < length p → protected (get_or p i 0) ≡ protected (get_or q i 0)
  pub cells : (i : ℕ) → i < length p → protected (get_or p i 0) ≡ false → get_or p i 0 ≡ get_or q i 0

-- "alike" at the start: the same state, and pages alike
pub record Alike (p q : List ℕ) (s t : State) : Type 0 where
  pub state : s ≡ t
  pub pages : AlikePages p q

-- the sequence under way is a bare ESC: the next byte is the last of a two-byte command, and no other sequence's argument
abbrev pub after_escape : Pending → Bool
after_escape Pending.Idle = false
after_escape Pending.Escape = true
after_escape (Pending.Awaits a) = false
after_escape (Pending.AddressRow r) = false
after_escape (Pending.SegmentNumber n) = false
after_escape (Pending.SegmentRow n r) = false
after_escape (Pending.DecimalRow n row) = false
after_escape (Pending.DecimalColumn row n column) = false
after_escape (Pending.FieldNumber n) = false
after_escape (Pending.Text x n) = false
after_escape (Pending.Spoilt x) = false

abbrev pub any_of : List ℕ → ℕ → Bool
any_of [] b = false
any_of (k ∷ ks) b = either (eqb b k) (any_of ks b)

-- protect-off ESC '; the clear-all commands ESC *, ESC + and ESC ,; those that send protected text, ESC 6 and ESC 7
abbrev pub excluded_bytes : List ℕ
excluded_bytes = 0x27 ∷ 0x2a ∷ 0x2b ∷ 0x2c ∷ 0x36 ∷ 0x37 ∷ []

-- "completed": the last byte of one of the six is taken and answers 0
unfoldable pub completes : State → ℕ → ℕ → Bool
completes s b answer = both (both (after_escape s.core.pending) (any_of excluded_bytes b)) (eqb answer 0)

-- one of the six is completed by a byte that a run takes; ESC 6 and ESC 7 are once they begin to send
unfoldable pub run_completes : List ℕ → List ℕ → State → ℕ → Bool
run_completes [] p s room = false
run_completes (b ∷ bs) p s room =
    let o = step_rule p s b room in
    let r = either (completes s b o.answer) (run_completes bs o.page o.state (room - length o.reply)) in
    let q = pick (eqb o.answer 6) false r in
    pick (sends s.sending) false q

-- inside a send the bytes come where it went on to
unfoldable pub inside_completes : List ℕ → State → List ℕ → ℕ → Bool
inside_completes p s bytes room =
    let o = goes_on p s room in
    let r = run_completes bytes p o.state (room - length o.reply) in
    pick (eqb room 0) false r

unfoldable pub call_completes : List ℕ → State → Call → Bool
call_completes p s (Step b room) = completes s b (step_rule p s b room).answer
call_completes p s (Run bytes room) =
    let r = run_completes bytes p s room in
    let i = inside_completes p s bytes room in
    pick (good p s) (pick (sends s.sending) i r) false
call_completes p s (Press v room) = false

-- one of the six is completed somewhere in the list, judged in this terminal
unfoldable pub any_completed : List Call → List ℕ → State → Bool
any_completed [] p s = false
any_completed (c ∷ cs) p s =
    let r = call_rule p s c in
    either (call_completes p s c) (any_completed cs r.page r.given.state)

-- an ESC 6 or ESC 7 send
abbrev pub revealing : Sending → Bool
revealing Sending.Nothing = false
revealing (Sending.Short r n) = false
revealing (Sending.Text all segment k) = all

-- The pages a and b after the list, from p and q: cells open at the start have equal numbers in both, and each cell protected at the start
-- has, in each terminal, the number it had there
pub record KeptPages (p q a b : List ℕ) : Type 0 where
  pub size : length a ≡ length b
  pub open_cells : (i : ℕ) → protected (get_or p i 0) ≡ false → get_or a i 0 ≡ get_or b i 0
  pub first : (i : ℕ) → protected (get_or p i 0) ≡ true → get_or a i 0 ≡ get_or p i 0
  pub second : (i : ℕ) → protected (get_or q i 0) ≡ true → get_or b i 0 ≡ get_or q i 0

-- After the list: all answers, counts, reply bytes, handed-back input and states agree after every call, and so do the states at the end
pub record Indistinguishable (p q : List ℕ) (a b : Played) : Type 0 where
  pub given : a.given ≡ b.given
  pub state : a.state ≡ b.state
  pub pages : KeptPages p q a.page b.page

-- any list of calls, from any page and state with protect mode on, of either personality, not inside an ESC 6 or ESC 7 send, in which the first
-- terminal completes none of the six
abbrev pub Noninterference : Type 0
Noninterference =
    (p q : List ℕ) (s t : State) (calls : List Call) → s.core.modes.protect ≡ true → revealing s.sending ≡ false → Alike p q s t
    → any_completed calls p s ≡ false → Indistinguishable p q (play calls p s) (play calls q t)
