-- The room that a reply is put into, and what has gone of it there.
use Rattle.std.specs.Prelude.{List, [], ◌∷◌, ℕ, ◌+◌, ◌-◌, length, set, take}
use Rattle.rules.specs.declared.Sending.{Sending}
use Rattle.rules.specs.Send.{Spot, bytes_of, beyond, standing}

-- the room after bytes were put into it one after the other, from place n on
unfoldable pub stored : ℕ → List ℕ → List ℕ → List ℕ
stored n [] w = w
stored n (x ∷ r) w = stored (n + 1) r (set w n x)

-- the room, how many bytes are in it, and the send that is left
pub record Gone : Type 0 where
  pub room : List ℕ
  pub count : ℕ
  pub left : Sending

abbrev pub stands : List ℕ → ℕ → Sending → Gone
stands w n x = record { room = w; count = n; left = x }

-- the bytes of some places, n bytes being in the room w already, as much as fits
unfoldable pub gone : List Spot → ℕ → List ℕ → Gone
gone l n w =
    stands (stored n (take (length w - n) (bytes_of l)) w) (n + length (take (length w - n) (bytes_of l))) (standing (beyond (length w - n) l))
