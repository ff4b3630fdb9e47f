-- Bytes put into a lent slice, from a place on.
use Rattle.std.specs.Prelude.{◌≡◌, List, ℕ, ◌+◌, length}
use Rattle.page.specs.Room.{stored}

-- w is the slice before and w' after; r is the place behind the bytes
pub record Put (n : ℕ) (bytes w : List ℕ) (r : ℕ) (w' : List ℕ) : Type 0 where
  pub place : r ≡ n + length bytes
  pub room : w' ≡ stored n bytes w
