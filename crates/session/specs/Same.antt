-- The statement over lists of calls and the one over a stream say the same: a stream's acts are the calls that they come to, which are the same in
-- both terminals; and the lists of calls that a stream comes to are those in which what is handed back comes first.
use Rattle.std.specs.Prelude.{◌≡◌, true, false, List, [], ◌∷◌, ◌++◌, ℕ}
use Rattle.rules.specs.declared.State.{State}
use Rattle.rules.specs.Theorems.Noninterference.{AlikePages, revealing}
use Rattle.session.specs.Sessions.{SessionCall, Kept, start, session_rule, session_play, session_completed, SessionIndistinguishable}
use Rattle.session.specs.Sessions.{SessionNoninterference, Act, host_bytes, handed_back, stream_play, calls_of, StreamNoninterference}

-- owed is what calls handed back and no call was handed since. A call over host bytes is handed all of it and then new bytes, or a part of it, and
-- then owed is what it hands back and behind that the part it was not handed; a call over none leaves it
pub data Continues : List ℕ → List SessionCall → Kept → Type 0 where
  none : {owed : List ℕ} {x : Kept} → Continues owed [] x
  whole : {owed : List ℕ} {c : SessionCall} {cs : List SessionCall} {x : Kept} (new : List ℕ) → host_bytes c ≡ owed ++ new
      → Continues (handed_back c (session_rule x c).told) cs (session_rule x c).kept → Continues owed (c ∷ cs) x
  part : {owed : List ℕ} {c : SessionCall} {cs : List SessionCall} {x : Kept} (behind : List ℕ) → owed ≡ host_bytes c ++ behind
      → Continues (handed_back c (session_rule x c).told ++ behind) cs (session_rule x c).kept → Continues owed (c ∷ cs) x

-- acts over a stream that come to the calls
pub record OverStream (calls : List SessionCall) (x : Kept) : Type 0 where
  pub stream : List ℕ
  pub acts : List Act
  pub come_to : calls_of acts stream x ≡ calls

-- the statement over lists of calls that continue
abbrev pub ContinuedNoninterference : Type 0
ContinuedNoninterference =
    (p q l store : List ℕ) (s : State) (calls : List SessionCall) → s.core.modes.protect ≡ true → revealing s.sending ≡ false → AlikePages p q
    → Continues [] calls (start p l s store) → session_completed calls (start p l s store) ≡ false
    → SessionIndistinguishable p q (session_play calls (start p l s store)) (session_play calls (start q l s store))

pub record SayTheSame : Type 0 where
  -- what acts over a stream give back and leave is what their calls do
  pub played : (acts : List Act) (stream : List ℕ) (x : Kept) → (stream_play acts stream x).session ≡ session_play (calls_of acts stream x) x
  -- these are the same calls in both terminals
  pub same_calls : (p q l store stream : List ℕ) (s : State) (acts : List Act) → s.core.modes.protect ≡ true → revealing s.sending ≡ false
      → AlikePages p q
      → session_completed (calls_of acts stream (start p l s store)) (start p l s store) ≡ false
      → calls_of acts stream (start p l s store) ≡ calls_of acts stream (start q l s store)
  -- which lists of calls they are: what is handed back comes first
  pub continued : (acts : List Act) (stream : List ℕ) (x : Kept) → Continues [] (calls_of acts stream x) x
  pub over_stream : (calls : List SessionCall) (x : Kept) → Continues [] calls x → OverStream calls x
  -- so either statement gives the other, as far as lists of calls are a stream's
  pub to_streams : SessionNoninterference → StreamNoninterference
  pub to_lists : StreamNoninterference → ContinuedNoninterference
