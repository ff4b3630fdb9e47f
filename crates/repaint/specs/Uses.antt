-- The bounds of the proposer reached, its statements used there, and pages that differ in an attribute alone.
use Rattle.std.specs.Prelude.{◌≡◌, ℕ, zero, suc, ◌≤◌, true, false, List, [], ◌∷◌, length}
use Rattle.rules.specs.declared.Personality.{Personality}
use Rattle.repaint.specs.Spans.{Accepts, SpansVerdict}
use Rattle.repaint.specs.Bytes.{AcceptsBytes, paints}
use Rattle.repaint.specs.Proposal.{stretches, paint_bytes, served, refused_with, propose_rule}
use Rattle.repaint.specs.Theorems.{spans_for}
use Rattle.repaint.specs.Cases.{spaces, shown, first_cell, nines, span}

-- A and a space by turns, n times
unfoldable pub every_second : ℕ → List ℕ
every_second zero = []
every_second (suc n) = 0x41 ∷ 0x20 ∷ every_second n

-- A reverse and A normal by turns, n times; then A reverse and a space
unfoldable pub by_turns : ℕ → List ℕ
by_turns zero = 0x1041 ∷ 0x20 ∷ []
by_turns (suc n) = 0x1041 ∷ 0x41 ∷ by_turns n

-- the most spans: every second cell differs; the most bytes: every cell but the last does, and each has another attribute than the one before it
abbrev pub spread : List ℕ
spread = every_second 960

abbrev pub costly : List ℕ
costly = by_turns 959

pub record Bounds : Type 0 where
  pub spread_served : served Personality.Wy50 shown spread ≡ true
  pub costly_served : served Personality.Wy60 shown costly ≡ true
  pub spans_reached : length (stretches shown spread) ≡ 960
  pub bytes_reached : length (paint_bytes shown costly) ≡ 7772
  -- no page takes more
  pub spans : (m : Personality) (b : List ℕ) → served m shown b ≡ true → length (stretches shown b) ≤ 960
  pub bytes : (m : Personality) (b : List ℕ) → served m shown b ≡ true → length (paint_bytes shown b) ≤ 7772
  -- so much room is enough for both
  pub spread_room : (propose_rule Personality.Wy50 shown spread (nines 960) (nines 960) (nines 960) (nines 7772)).answer ≡ 0
  pub costly_room : (propose_rule Personality.Wy60 shown costly (nines 960) (nines 960) (nines 960) (nines 7772)).answer ≡ 0
  -- and what is proposed is accepted
  pub spans_accepted : Accepts 80 shown spread (spans_for shown spread)
  pub bytes_accepted : AcceptsBytes Personality.Wy60 false shown costly (paint_bytes shown costly)
  -- a wide page is refused, whatever the room
  pub wide : (m : Personality) (b rows columns lengths out : List ℕ) → length b ≡ 3168
      → propose_rule m (spaces 3168) b rows columns lengths out ≡ refused_with 3 rows columns lengths out

-- A normal at home, and A reverse
abbrev pub normal_a : List ℕ
normal_a = first_cell 0x41

abbrev pub reverse_a : List ℕ
reverse_a = first_cell 0x1041

-- the proposer: one cell with its attribute; back, the attribute is that of power-on
pub record ProposedAlone : Type 0 where
  pub reverse : propose_rule Personality.Wy60 normal_a reverse_a (nines 1) (nines 1) (nines 1) (nines 8)
      ≡ record {
        answer = 0;
        spans = 1;
        bytes = 8;
        rows = 1 ∷ [];
        columns = 1 ∷ [];
        lengths = 1 ∷ [];
        out = 0x1b ∷ 0x3d ∷ 0x20 ∷ 0x20 ∷ 0x1b ∷ 0x47 ∷ 0x34 ∷ 0x41 ∷ [];
      }
  pub back : propose_rule Personality.Wy60 reverse_a normal_a (nines 1) (nines 1) (nines 1) (nines 5)
      ≡ record { answer = 0; spans = 1; bytes = 5; rows = 1 ∷ []; columns = 1 ∷ []; lengths = 1 ∷ []; out = 0x1b ∷ 0x3d ∷ 0x20 ∷ 0x20 ∷ 0x41 ∷ [] }

-- the judge of spans: the cell is covered, or not
pub record JudgedAlone : Type 0 where
  pub one : SpansVerdict normal_a reverse_a (span 1 1 1 ∷ []) 0
  pub none : SpansVerdict normal_a reverse_a [] 3

-- the judge of bytes: the letter with its attribute, the letter alone, no byte
pub record PaintedAlone : Type 0 where
  pub attribute : paints Personality.Wy60 false normal_a reverse_a (0x1b ∷ 0x47 ∷ 0x34 ∷ 0x41 ∷ []) ≡ true
  pub letter : paints Personality.Wy60 false normal_a reverse_a (0x41 ∷ []) ≡ false
  pub nothing : paints Personality.Wy60 false normal_a reverse_a [] ≡ false

pub record Uses : Type 0 where
  pub bounds : Bounds
  pub proposed : ProposedAlone
  pub judged : JudgedAlone
  pub painted : PaintedAlone
