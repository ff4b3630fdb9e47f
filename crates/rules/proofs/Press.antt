-- The key press.
--     press_gives     what it gives, and that it changes neither page nor state
-- Assumes nothing.
use mathlib.Core.Path.{refl}
use mathlib.Core.List.{List}
use Prim.Native.Nat.{ℕ}
use native.Mathlib.Omega.{arith}
use lib.ListN.{length}
use borrow.Author.Tests.{le-leb, lt-leb, ne_eqb}
use Rattle.rules.specs.declared.State.{State}
use Rattle.rules.specs.Calls.{key_sends, key_at, press_rule, of_press, call_rule}
use Rattle.rules.specs.Theorems.Press.{Sends, PressesGive}

key_sends_lem : (s : State) (v : ℕ) → Sends s v (key_sends (key_at s v) v)
unfolding key_sends
key_sends_lem s v = record { own = λ h. rw (ne_eqb (key_at s v).len 0 (omega arith)); unprogrammed = λ e. rw e }

pub press_gives : PressesGive
unfolding call_rule of_press press_rule
press_gives p s v room = record {
  bad = λ g. rw g;
  locked = λ g l. rw (g, l);
  unknown = λ g l k. rw (g, l, k);
  inside = λ g l k u. rw (g, l, k, u);
  full = λ r h. rw (r.fine, r.unlocked, r.key, r.quiet, lt-leb (length (key_sends (key_at s v) v)) room h);
  fits = λ r h. rw (r.fine, r.unlocked, r.key, r.quiet, le-leb (length (key_sends (key_at s v) v)) room h);
  bytes = key_sends_lem s v;
  page = refl;
  state = refl;
}
