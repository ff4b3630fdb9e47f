-- The uses hold, each by the statement it is of.
--     one_alike        the two pages are alike
--     letters_kept     what is said of the pages after calls, read out
-- Assumes nothing.
use mathlib.Core.Path.{◌≡◌, refl, sym, ap}
use mathlib.Core.Bool.{Bool, false, false≢true}
use mathlib.Core.List.{List, [], ◌∷◌}
use Prim.Native.Nat.{ℕ, zero, suc, ◌<◌}
use native.Mathlib.Omega.{arith}
use lib.ListN.{length, get_or, replicate, length-replicate}
use Rattle.rules.specs.declared.State.{State}
use Rattle.rules.specs.declared.Personality.{Personality}
use Rattle.rules.specs.declared.Sending.{Sending}
use Rattle.rules.specs.Cell.{protected}
use Rattle.rules.specs.Theorems.Noninterference.{AlikePages, KeptPages, revealing}
use Rattle.rules.specs.RowList.{agrees}
use Rattle.rules.specs.RowCalls.{ListStep}
use Rattle.rules.proofs.RowSteps.{disagreeing}
use Rattle.saved.specs.Cases.{zeros}
use Rattle.session.specs.Sessions.{Terminal, start, SessionPlayed, session_completed, SessionIndistinguishable}
use Rattle.session.specs.Sessions.{StreamPlayed, StreamIndistinguishable}
use Rattle.session.specs.Uses.{one, other, guarding, LettersKept, Same, At, Uses}
use Rattle.session.proofs.Sessions.{session_noninterference}
use Rattle.session.proofs.Streams.{stream_noninterference}
use Rattle.session.proofs.Completed.{unless_completed, none_completed}
use Rattle.session.proofs.CodeSessions.{code_session_noninterference, code_stream_noninterference}

pub one_alike : (n : ℕ) → AlikePages (one n) (other n)
one_alike n = record { size = refl; bits = bits; cells = cells }
  where
    bits : (i : ℕ) → i < length (one n) → protected (get_or (one n) i 0) ≡ protected (get_or (other n) i 0)
    bits zero h = refl
    bits (suc i) h = refl

    cells : (i : ℕ) → i < length (one n) → protected (get_or (one n) i 0) ≡ false → get_or (one n) i 0 ≡ get_or (other n) i 0
    cells zero h e = absurd (false≢true (sym e))
    cells (suc i) h e = refl

-- the statements read out
zero_at : (n i : ℕ) → get_or {A = ℕ} (replicate n 0) i 0 ≡ 0
zero_at zero i = refl
zero_at (suc n) zero = refl
zero_at (suc n) (suc i) = zero_at n i

pub letters_kept : (n : ℕ) {a b : List ℕ} → KeptPages (one n) (other n) a b → LettersKept a b
letters_kept n k = record {
  size = k.size;
  first = k.first 0 refl;
  second = k.second 0 refl;
  cells = λ i. k.open_cells (suc i) (ap protected (zero_at n i));
}

same : (n : ℕ) {a b : SessionPlayed} → SessionIndistinguishable (one n) (other n) a b → Same a b
same n x = record { given = x.given; state = x.state; rows = x.rows; store = x.store; pages = letters_kept n x.pages }

same_stream : (n : ℕ) {a b : StreamPlayed} → StreamIndistinguishable (one n) (other n) a b → Same a.session b.session × (a.left ≡ b.left)
same_stream n x = (same n x.session, x.left)

-- no calls complete nothing
none_yet : (n : ℕ) (l store : List ℕ) (s : State) → session_completed [] (start (one n) l s store) ≡ false
unfolding session_completed
none_yet n l store s = refl

at : (n : ℕ) (l store : List ℕ) (m : Personality) (wide : Bool) (cursor : ℕ) (sending : Sending) → revealing sending ≡ false
    → At n l (guarding m wide cursor sending) store
at n l store m wide cursor sending conceals =
    let s = guarding m wide cursor sending in
    let h = one_alike n in
    record {
      none = same n (session_noninterference (one n) (other n) l store s [] refl conceals h (none_yet n l store s));
      calls = λ cs k. same n (session_noninterference (one n) (other n) l store s cs refl conceals h k);
      uncompleted = λ cs k. same n (unless_completed (one n) (other n) l store s cs refl conceals h k);
      stream = λ bytes acts k. same_stream n (stream_noninterference (one n) (other n) l store bytes s acts refl conceals h k);
      code_calls = λ cs a b k f g. same n (code_session_noninterference (one n) (other n) l store s cs a b refl conceals h k f g);
      code_stream = λ bytes acts a b k f g.
          same_stream n (code_stream_noninterference (one n) (other n) l store bytes s acts a b refl conceals h k f g);
    }

-- a list that is too short
abbrev home : State
home = guarding Personality.Wy50 false 1 Sending.Nothing

bad_list : At 1919 (replicate 47 7) home zeros
bad_list = at 1919 _ _ _ _ _ _ refl

unlisted : agrees (replicate 47 7) (one 1919) home ≡ false
unlisted = disagreeing.wrong_length (one 1919) (replicate 47 7) home (λ e. omega (arith, e, length-replicate {A = ℕ} 47 7))

pub uses : Uses
uses = record {
  narrow = at 1919 _ _ _ _ _ _ refl;
  wide = at 3167 _ _ _ _ _ _ refl;
  wy60 = at 1919 _ _ _ _ _ _ refl;
  sending = at 1919 _ _ _ _ _ _ refl;
  bad_page = at 0 _ _ _ _ _ _ refl;
  bad_cursor = at 1919 _ _ _ _ _ _ refl;
  bad_send = at 1919 _ _ _ _ _ _ refl;
  bad_list = bad_list;
  bad_store = at 1919 _ _ _ _ _ _ refl;
  refused = bad_list.calls (Terminal (ListStep 0x41 0) ∷ []) (none_completed.step_refused (one 1919) (replicate 47 7) zeros home 0x41 0 unlisted);
}
