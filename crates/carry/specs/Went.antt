-- What sending promises.
use Rattle.std.specs.Prelude.{◌≡◌, ℕ, List, length}
use Rattle.rules.specs.declared.Core.{Core}
use Rattle.rules.specs.declared.Sending.{Sending}
use Rattle.rules.specs.Send.{sent_from, left_from}
use Rattle.rules.specs.Room.{over}

-- n bytes of the send x went into the room w, which is w' now, and the send y is left
pub record Went (p : List ℕ) (c : Core) (x : Sending) (w : List ℕ) (n : ℕ) (y : Sending) (w' : List ℕ) : Type 0 where
  pub replied : n ≡ length (sent_from p c x (length w))
  pub room : w' ≡ over (sent_from p c x (length w)) w
  pub left : y ≡ left_from p c x (length w)
