-- The uses hold, each by the statement it is of.
-- Assumes nothing.
use mathlib.Core.Path.{refl}
use mathlib.Core.List.{List}
use Prim.Native.Nat.{ℕ, ◌≤◌}
use native.Mathlib.Omega.{arith}
use lib.ListN.{length, length-replicate}
use Rattle.session.specs.Uses.{one, other}
use Rattle.session.proofs.Uses.{one_alike}
use Rattle.repaint.specs.Cases.{shown, nines}
use Rattle.repaint.specs.Uses.{spread, costly}
use Rattle.repaint.proofs.Uses as Repaint
use Rattle.wy50.specs.declared.raw.RawSending.{RawSending}
use Rattle.wy50.specs.Noninterference.{Concealing}
use Rattle.wy50.specs.Cases.{send}
use Rattle.wy50.specs.Uses.{guarding, At, Starts, Rooms, Uses}
use Rattle.wy50.proofs.Noninterference.{raw_noninterference}
use Rattle.wy50.proofs.RowNoninterference.{raw_row_noninterference}
use Rattle.wy50.proofs.Sessions.{raw_session_noninterference, raw_stream_noninterference}
use Rattle.wy50.proofs.Repainting.{repainting}

at : (n : ℕ) (l store : List ℕ) (personality wide cursor : ℕ) (y : RawSending) → Concealing y → At n l (guarding personality wide cursor y) store
at n l store personality wide cursor y h =
    let x = guarding personality wide cursor y in
    let k = one_alike n in
    record {
      calls = λ cs gs hs u v a b. raw_noninterference (one n) (other n) x cs gs hs u v a b refl h k;
      row_calls = λ cs gs hs ls ms u v. raw_row_noninterference (one n) (other n) l x cs gs hs ls ms u v refl h k;
      sessions = λ cs gs hs u v. raw_session_noninterference (one n) (other n) l store x cs gs hs u v refl h k;
      streams = λ bytes acts gs hs u v c d. raw_stream_noninterference (one n) (other n) l store bytes x acts gs hs u v c d refl h k;
    }

nothing : Concealing (send 0 0 0)
nothing = record { row = λ e. omega (arith, e); segment = λ e. omega (arith, e) }

open_text_lem : Concealing (send 0x35 1 1)
open_text_lem = record { row = λ e. omega (arith, e); segment = λ e. omega (arith, e) }

no_send : Concealing (send 0x33 9 9)
no_send = record { row = λ e. omega (arith, e); segment = λ e. omega (arith, e) }

starts : Starts
starts = record {
  narrow = at 1919 _ _ _ _ _ _ nothing;
  wide = at 3167 _ _ _ _ _ _ nothing;
  wy60 = at 1919 _ _ _ _ _ _ nothing;
  sending = at 1919 _ _ _ _ _ _ open_text_lem;
  bad_page = at 0 _ _ _ _ _ _ nothing;
  bad_cursor = at 1919 _ _ _ _ _ _ nothing;
  unnamed = at 1919 _ _ _ _ _ _ no_send;
  bad_list = at 1919 _ _ _ _ _ _ nothing;
  bad_store = at 1919 _ _ _ _ _ _ nothing;
}

spans_room : 2880 ≤ length (nines 2880)
spans_room = omega (arith, length-replicate {A = ℕ} 2880 9)

bytes_room : 7772 ≤ length (nines 7772)
bytes_room = omega (arith, length-replicate {A = ℕ} 7772 9)

rooms : Rooms
rooms = record {
  spans = repainting.roomy 50 shown spread (nines 2880) (nines 7772) refl (Repaint.uses).bounds.spread_served spans_room bytes_room;
  bytes = repainting.roomy 60 shown costly (nines 2880) (nines 7772) refl (Repaint.uses).bounds.costly_served spans_room bytes_room;
  beyond = λ v a b rest out. repainting.beyond v a b (nines 2880) rest out spans_room;
}

pub uses : Uses
uses = record { starts = starts; rooms = rooms }
