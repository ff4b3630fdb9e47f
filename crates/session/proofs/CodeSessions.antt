-- The statement of the code: what calls whose promises hold give is what the rules give.
--     code_session_noninterference, code_stream_noninterference
-- Assumes nothing.
use mathlib.Core.Path.{◌≡◌, refl, ap, subst₂, ◌∙◌}
use mathlib.Core.List.{List}
use Prim.Native.Nat.{ℕ}
use Rattle.rules.specs.Calls.{Given, Called, of_step, of_run}
use Rattle.rules.specs.RowCalls.{Session, RowCall, RowCalled, left, row_call_rule}
use Rattle.terminal.specs.RowNoninterference.{RowMade, bare, list_stepped, list_ran, heard, rebuilt_rows}
use Rattle.terminal.proofs.Noninterference.{front, made_is}
use Rattle.session.specs.Sessions.{SessionCall, Heard, Kept, SessionCalled, session_rule, SessionPlayed, session_after, session_play}
use Rattle.session.specs.Sessions.{SessionIndistinguishable, Act, call_of, handed_back, left_of, StreamPlayed, stream_play, StreamIndistinguishable}
use Rattle.session.specs.CodeSessions.{SessionMade, terminal, saved, restored, SessionPerformed, StreamPerformed, none, next}
use Rattle.session.specs.CodeSessions.{CodeSessionNoninterference, CodeStreamNoninterference}
use Rattle.session.proofs.Sessions.{session_noninterference}
use Rattle.session.proofs.Streams.{stream_noninterference}

row_made_is : {x : Session} {p' l' : List ℕ} {c : RowCall} {g : Given} → RowMade x c g p' l'
    → row_call_rule x c ≡ record { called = record { given = g; page = p' }; rows = l' }
unfolding row_call_rule of_step of_run
row_made_is {x} (bare m) = ap (λ (r : Called). record { called = r; rows = x.rows }) (made_is m)
row_made_is (list_stepped {w = w} {w' = w'} {r = r} h e) =
    cc (h.answer, h.taken, h.state, h.replied, h.page, front _ w w' r.replied h.replied h.room, e)
row_made_is (list_ran {w = w} {w' = w'} {r = r} h e) =
    cc (h.answer, h.taken, h.replied, h.refused, h.rest, h.state, h.page, front _ w w' r.replied h.replied h.room, e)
row_made_is (heard {w = w} {w' = w'} {r = r} h e) =
    cc (h.answer, h.taken, h.replied, h.refused, h.rest, h.state, h.page, front _ w w' r.replied h.replied h.room, e)
row_made_is (rebuilt_rows h e) = cc (h.answer, e)

session_made_is : {x : Kept} {c : SessionCall} {r : SessionCalled} → SessionMade x c r → session_rule x c ≡ r
unfolding session_rule
session_made_is {x} (terminal m) =
    ap (λ (r : RowCalled). record { told = Heard r.called.given; kept = record { terminal = left r; store = x.store } }) (row_made_is m)
session_made_is (saved g) = let e = g.answer in let f = g.number in let h = g.store in cc (e, f, h)
session_made_is (restored g) = let e = g.answer in let f = g.state in cc (e, f)

session_performed_is : {x : Kept} {cs : List SessionCall} {r : SessionPlayed} → SessionPerformed x cs r → session_play cs x ≡ r
unfolding session_play
session_performed_is none = refl
session_performed_is (next {r = r} m h) = rw (session_made_is m) (ap (session_after r) (session_performed_is h))

stream_performed_is : {x : Kept} {stream : List ℕ} {acts : List Act} {r : StreamPlayed} → StreamPerformed x stream acts r
    → stream_play acts stream x ≡ r
unfolding stream_play
stream_performed_is none = refl
stream_performed_is (next {x = x} {stream = stream} {a = a} {acts = acts} {r = r} m h) =
    ap (λ (z : SessionCalled).
    let t = stream_play acts (left_of stream (call_of a stream) (handed_back (call_of a stream) z.told)) z.kept in
    record { session = session_after z t.session; left = t.left })
    (session_made_is m)
    ∙ ap (λ (t : StreamPlayed). record { session = session_after r t.session; left = t.left }) (stream_performed_is h)

pub code_session_noninterference : CodeSessionNoninterference
code_session_noninterference p q l store s calls a b on conceals alike free f g =
    subst₂ (SessionIndistinguishable p q) (session_performed_is f) (session_performed_is g)
    (session_noninterference p q l store s calls on conceals alike free)

pub code_stream_noninterference : CodeStreamNoninterference
code_stream_noninterference p q l store stream s acts a b on conceals alike free f g =
    subst₂ (StreamIndistinguishable p q) (stream_performed_is f) (stream_performed_is g)
    (stream_noninterference p q l store stream s acts on conceals alike free)
