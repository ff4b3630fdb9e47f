-- Demand 3 of the code: what calls whose promises hold give is what the rules give, so two such terminals are indistinguishable.
-- Assumes nothing.
use Rattle.std.specs.Prelude.{◌≡◌, ℕ, List, length, take}
use Rattle.std.specs.Result.{result_unwrap_or}
use mathlib.Core.Path.{refl, ap, subst₂}
use lib.Seq.{take-append_seam}
use Rattle.rules.specs.declared.State.{State}
use Rattle.rules.specs.Room.{over}
use Rattle.rules.specs.Calls.{Call, Given, of_step, of_run, of_press, call_rule, Played, after, play}
use Rattle.rules.specs.Theorems.Noninterference.{Indistinguishable}
use Rattle.rules.proofs.Noninterference.{noninterference}
use Rattle.terminal.specs.Noninterference.{Made, stepped, ran, sent, Performed, none, next, CodeNoninterference}

-- the reply at the front of the room
pub front : (l w w' : List ℕ) (n : ℕ) → n ≡ length l → w' ≡ over l w → take n w' ≡ l
unfolding over
front l w w' n e h = rw (e, h) (take-append_seam l _)

pub made_is : {p p' : List ℕ} {s : State} {c : Call} {g : Given} → Made p s c g p' → call_rule p s c ≡ record { given = g; page = p' }
unfolding call_rule of_step of_run of_press
made_is {p} {p'} {s} (stepped {b = b} {w = w} {w' = w'} {r = r} h) =
    cc (h.answer, h.taken, h.state, h.replied, h.page, front _ w w' r.replied h.replied h.room)
made_is {p} {p'} {s} (ran {l = l} {w = w} {w' = w'} {r = r} h) =
    cc (h.answer, h.taken, h.replied, h.refused, h.rest, h.state, h.page, front _ w w' r.replied h.replied h.room)
made_is {p} {p'} {s} (sent {v = v} {w = w} {w' = w'} {r = r} h) =
    cc (h.answer, h.replied, front _ w w' (result_unwrap_or r 0) h.replied h.room)

-- calls whose promises hold give what the rules give
pub performed_is : {p : List ℕ} {s : State} {cs : List Call} {r : Played} → Performed p s cs r → play cs p s ≡ r
unfolding play
performed_is none = refl
performed_is (next {g = g} {r = r} m h) = rw (made_is m) (ap (after g) (performed_is h))

pub code_noninterference : CodeNoninterference
code_noninterference p q s t calls a b on conceals alike free f g =
    subst₂ (Indistinguishable p q) (performed_is f) (performed_is g) (noninterference p q s t calls on conceals alike free)
