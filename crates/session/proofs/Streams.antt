-- The statement over a stream. Each act makes one call, over a front of what is left; two terminals that are told the same have the same left.
--     say_the_same     lists of calls and streams
--     stream_noninterference     demand 3 over a stream
-- Assumes nothing.
use mathlib.Core.Path.{◌≡◌, refl, sym, ap, subst, subst₂, ◌∙◌}
use mathlib.Core.Bool.{true, false}
use mathlib.Core.List.{List, [], ◌∷◌, ◌++◌, append_assoc}
use Prim.Native.Nat.{ℕ, zero, suc}
use lib.ListN.{length, get_or, take, drop}
use lib.Seq.{take-append_seam, drop-append_seam}
use Rattle.rules.specs.declared.State.{State}
use Rattle.rules.specs.Calls.{Step, Run, Press}
use Rattle.rules.specs.RowCalls.{Bare, ListStep, ListRun, Next, Rebuild}
use Rattle.rules.specs.Theorems.Noninterference.{AlikePages}
use Rattle.rules.proofs.Noninterference.{Closed, either_left, either_right}
use Rattle.session.specs.Sessions.{SessionCall, Terminal, Save, Restore, Kept, start, SessionCalled, session_rule, session_after, session_play}
use Rattle.session.specs.Sessions.{call_completed, session_completed, SessionIndistinguishable, Act, HandStep, HandRun, HandNext, PressKey}
use Rattle.session.specs.Sessions.{RebuildRows, SaveSetup, RestoreSetup, call_of, host_bytes, handed_back, left_of, stream_play, calls_of}
use Rattle.session.specs.Sessions.{SessionNoninterference, StreamNoninterference}
use Rattle.session.specs.Same.{Continues, none, whole, part, ContinuedNoninterference, SayTheSame}
use Rattle.session.proofs.Sessions.{called_agrees, session_noninterference}

-- ---- acts and their calls

played : (acts : List Act) (stream : List ℕ) (x : Kept) → (stream_play acts stream x).session ≡ session_play (calls_of acts stream x) x
unfolding stream_play calls_of session_play
played [] stream x = refl
played (a ∷ acts) stream x =
    let c = call_of a stream in
    let r = session_rule x c in
    ap (session_after r) (played acts (left_of stream c (handed_back c r.told)) r.kept)

-- ---- both terminals

record AgreeStream (acts : List Act) (stream : List ℕ) (x y : Kept) : Type 0 where
  calls : calls_of acts stream x ≡ calls_of acts stream y
  left : (stream_play acts stream x).left ≡ (stream_play acts stream y).left

stream_agrees : (acts : List Act) (stream p q l store : List ℕ) (s : State) → Closed s → AlikePages p q
    → session_completed (calls_of acts stream (start p l s store)) (start p l s store) ≡ false
    → AgreeStream acts stream (start p l s store) (start q l s store)
unfolding calls_of stream_play session_completed
stream_agrees [] stream p q l store s closed alike e = record { calls = refl; left = refl }
stream_agrees (a ∷ acts) stream p q l store s closed alike e =
    let x = start p l s store in
    let c = call_of a stream in
    let r = session_rule x c in
    let k = called_agrees p q l store s closed alike c (either_left (call_completed x c) _ e) in
    let t = stream_agrees acts (left_of stream c (handed_back c r.told)) r.kept.terminal.page k.page r.kept.terminal.rows
    r.kept.store
    r.kept.terminal.state k.closed k.alike (either_right (call_completed x c) _ e) in
    record {
      calls = rw k.but_page (ap (λ (cs : List SessionCall). c ∷ cs) t.calls);
      left = t.left ∙ ap (λ (z : SessionCalled). (stream_play acts (left_of stream c (handed_back c z.told)) z.kept).left) (sym k.but_page);
    }

to_streams : SessionNoninterference → StreamNoninterference
to_streams demand p q l store stream s acts on conceals alike e =
    let x = start p l s store in
    let y = start q l s store in
    let k = stream_agrees acts stream p q l store s record { on = on; conceals = conceals } alike e in
    let second : session_play (calls_of acts stream x) y ≡ (stream_play acts stream y).session =
    ap (λ (cs : List SessionCall). session_play cs y) k.calls ∙ sym (played acts stream y) in
    record {
      session = subst₂ (SessionIndistinguishable p q) (sym (played acts stream x)) second
          (demand p q l store s (calls_of acts stream x) on conceals alike e);
      left = k.left;
    }

pub stream_noninterference : StreamNoninterference
stream_noninterference = to_streams session_noninterference

-- ---- a stream's calls continue

front_taken : (n : ℕ) (l : List ℕ) → take n l ++ drop (length (take n l)) l ≡ l
front_taken zero [] = refl
front_taken zero (b ∷ l) = refl
front_taken (suc n) [] = refl
front_taken (suc n) (b ∷ l) = ap (λ (k : List ℕ). b ∷ k) (front_taken n l)

-- a call is handed a front of what is left
hands_front : (a : Act) (stream : List ℕ) → host_bytes (call_of a stream) ++ drop (length (host_bytes (call_of a stream))) stream ≡ stream
unfolding call_of host_bytes
hands_front (HandStep true room) [] = refl
hands_front (HandStep false room) [] = refl
hands_front (HandStep true room) (b ∷ stream) = refl
hands_front (HandStep false room) (b ∷ stream) = refl
hands_front (HandRun true n room) stream = front_taken n stream
hands_front (HandRun false n room) stream = front_taken n stream
hands_front (HandNext with n room) stream = front_taken n stream
hands_front (PressKey v room) stream = refl
hands_front RebuildRows stream = refl
hands_front SaveSetup stream = refl
hands_front (RestoreSetup n) stream = refl

-- one list cut in two ways: the first front holds the second, or is held in it
data Cut (u rest owed new : List ℕ) : Type 0 where
  beyond : (more : List ℕ) → u ≡ owed ++ more → new ≡ more ++ rest → Cut u rest owed new
  within : (behind : List ℕ) → owed ≡ u ++ behind → rest ≡ behind ++ new → Cut u rest owed new

cut_more : (b v : ℕ) (u rest owed new : List ℕ) → b ≡ v → Cut u rest owed new → Cut (b ∷ u) rest (v ∷ owed) new
cut_more b v u rest owed new e (beyond more f g) = beyond more (cc (e, f)) g
cut_more b v u rest owed new e (within behind f g) = within behind (cc (e, f)) g

cut : (u rest owed new : List ℕ) → u ++ rest ≡ owed ++ new → Cut u rest owed new
cut [] rest owed new e = within owed refl e
cut (b ∷ u) rest [] new e = beyond (b ∷ u) refl (sym e)
cut (b ∷ u) rest (v ∷ owed) new e =
    cut_more b v u rest owed new (ap (λ (l : List ℕ). get_or l 0 b) e) (cut u rest owed new (ap (λ (l : List ℕ). drop 1 l) e))

-- one call, over what is known of the calls after it
call_continues : (acts : List Act) (c : SessionCall) (owed new : List ℕ) (x : Kept)
    → Cut (host_bytes c) (drop (length (host_bytes c)) (owed ++ new)) owed new
    → ((u v : List ℕ) → Continues u (calls_of acts (u ++ v) (session_rule x c).kept) (session_rule x c).kept)
    → Continues owed (c ∷ calls_of acts (left_of (owed ++ new) c (handed_back c (session_rule x c).told)) (session_rule x c).kept) x
call_continues acts c owed new x (beyond more f g) ih = whole more f
    (ih (handed_back c (session_rule x c).told) (drop (length (host_bytes c)) (owed ++ new)))
call_continues acts c owed new x (within behind f g) ih =
    let u = handed_back c (session_rule x c).told in
    let k = (session_rule x c).kept in
    part behind f
    (subst (λ (l : List ℕ). Continues (u ++ behind) (calls_of acts l k) k) (append_assoc u behind new ∙ ap (λ (l : List ℕ). u ++ l) (sym g))
    (ih (u ++ behind) new))

continued : (acts : List Act) (owed new : List ℕ) (x : Kept) → Continues owed (calls_of acts (owed ++ new) x) x
unfolding calls_of
continued [] owed new x = none
continued (a ∷ acts) owed new x =
    let c = call_of a (owed ++ new) in
    call_continues acts c owed new x (cut (host_bytes c) (drop (length (host_bytes c)) (owed ++ new)) owed new (hands_front a (owed ++ new)))
    (λ u v. continued acts u v (session_rule x c).kept)

-- ---- calls that continue are a stream's

act_of : SessionCall → Act
act_of (Terminal (Bare (Step b room))) = HandStep false room
act_of (Terminal (Bare (Run bytes room))) = HandRun false (length bytes) room
act_of (Terminal (Bare (Press v room))) = PressKey v room
act_of (Terminal (ListStep b room)) = HandStep true room
act_of (Terminal (ListRun bytes room)) = HandRun true (length bytes) room
act_of (Terminal (Next with bytes room)) = HandNext with (length bytes) room
act_of (Terminal Rebuild) = RebuildRows
act_of Save = SaveSetup
act_of (Restore n) = RestoreSetup n

makes : (c : SessionCall) (rest : List ℕ) → call_of (act_of c) (host_bytes c ++ rest) ≡ c
unfolding call_of host_bytes act_of
makes (Terminal (Bare (Step b room))) rest = refl
makes (Terminal (Bare (Run bytes room))) rest = ap (λ (l : List ℕ). Terminal (Bare (Run l room))) (take-append_seam bytes rest)
makes (Terminal (Bare (Press v room))) rest = refl
makes (Terminal (ListStep b room)) rest = refl
makes (Terminal (ListRun bytes room)) rest = ap (λ (l : List ℕ). Terminal (ListRun l room)) (take-append_seam bytes rest)
makes (Terminal (Next with bytes room)) rest = ap (λ (l : List ℕ). Terminal (Next with l room)) (take-append_seam bytes rest)
makes (Terminal Rebuild) rest = refl
makes Save rest = refl
makes (Restore n) rest = refl

one_more : (c : SessionCall) (cs : List SessionCall) (x : Kept) (rest : List ℕ) (acts : List Act)
    → calls_of acts (handed_back c (session_rule x c).told ++ rest) (session_rule x c).kept ≡ cs
    → calls_of (act_of c ∷ acts) (host_bytes c ++ rest) x ≡ c ∷ cs
unfolding calls_of
one_more c cs x rest acts h = rw (makes c rest, drop-append_seam (host_bytes c) rest, h)

-- what is owed, and then some more
record Found (owed : List ℕ) (calls : List SessionCall) (x : Kept) : Type 0 where
  new : List ℕ
  acts : List Act
  come_to : calls_of acts (owed ++ new) x ≡ calls

found : {owed : List ℕ} {calls : List SessionCall} {x : Kept} → Continues owed calls x → Found owed calls x
unfolding calls_of
found none = record { new = []; acts = []; come_to = refl }
found {owed} (whole {c = c} {cs = cs} {x = x} new e k) =
    let r = found k in
    let is : host_bytes c ++ r.new ≡ owed ++ (new ++ r.new) = ap (λ (l : List ℕ). l ++ r.new) e ∙ append_assoc owed new r.new in
    record {
      new = new ++ r.new;
      acts = act_of c ∷ r.acts;
      come_to = ap (λ (l : List ℕ). calls_of (act_of c ∷ r.acts) l x) (sym is) ∙ one_more c cs x r.new r.acts r.come_to;
    }
found {owed} (part {c = c} {cs = cs} {x = x} behind e k) =
    let r = found k in
    let u = handed_back c (session_rule x c).told in
    let is : host_bytes c ++ (behind ++ r.new) ≡ owed ++ r.new = sym (append_assoc (host_bytes c) behind r.new)
    ∙ ap (λ (l : List ℕ). l ++ r.new) (sym e) in
    let h = ap (λ (l : List ℕ). calls_of r.acts l (session_rule x c).kept) (sym (append_assoc u behind r.new)) ∙ r.come_to in
    record {
      new = r.new;
      acts = act_of c ∷ r.acts;
      come_to = ap (λ (l : List ℕ). calls_of (act_of c ∷ r.acts) l x) (sym is) ∙ one_more c cs x (behind ++ r.new) r.acts h;
    }

to_lists : StreamNoninterference → ContinuedNoninterference
to_lists demand p q l store s calls on conceals alike k e =
    let x = start p l s store in
    let y = start q l s store in
    let r = found k in
    let f : session_completed (calls_of r.acts r.new x) x ≡ false = ap (λ (cs : List SessionCall). session_completed cs x) r.come_to ∙ e in
    let c = (stream_agrees r.acts r.new p q l store s record { on = on; conceals = conceals } alike f).calls in
    subst₂ (SessionIndistinguishable p q) (played r.acts r.new x ∙ ap (λ (cs : List SessionCall). session_play cs x) r.come_to)
    (played r.acts r.new y ∙ ap (λ (cs : List SessionCall). session_play cs y) (sym c ∙ r.come_to))
    (demand p q l store r.new s r.acts on conceals alike f).session

pub say_the_same : SayTheSame
say_the_same = record {
  played = played;
  same_calls = λ p q l store stream s acts on conceals alike e.
      (stream_agrees acts stream p q l store s record { on = on; conceals = conceals } alike e).calls;
  continued = λ acts stream x. continued acts [] stream x;
  over_stream = λ calls x k. let r = found k in record { stream = r.new; acts = r.acts; come_to = r.come_to };
  to_streams = to_streams;
  to_lists = to_lists;
}
