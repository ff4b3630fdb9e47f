-- The room that a reply is put into.
use Rattle.std.specs.Prelude.{List, ◌++◌, ℕ, length, drop}

-- the room after a reply: its bytes stand at the front, and what lies beyond them is untouched
unfoldable pub over : List ℕ → List ℕ → List ℕ
over r w = r ++ drop (length r) w
