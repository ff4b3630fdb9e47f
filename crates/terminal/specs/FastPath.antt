-- The fast path: host bytes that are carried out without a plan for each. It goes on in one segment while nothing is under way, and the cursor lands
-- on open cells alone. An ESC = out of the segment is refused on the way.
use Rattle.std.specs.Prelude.{◌≡◌, ℕ, ◌+◌, ◌-◌, ◌*◌, ◌<◌, ◌≤◌, Bool, true, false, ◌⊎◌, List, length, get_or, slice_index, slice_index_or}
use Rattle.rules.specs.declared.Contents.TheVariants as Contents
use Rattle.rules.specs.declared.Core.{Core}
use Rattle.rules.specs.declared.Pending.TheVariants as Pending
use Rattle.rules.specs.declared.Write.{Write}
use Rattle.rules.specs.Cell.{pick, both, among, guarded, written, space, null}
use Rattle.rules.specs.Row.{height, columns, addressed, wide_cells, row_of, column_of, row_start, row_end}
use Rattle.rules.specs.Search.{guarded_at, next_field}
use Rattle.rules.specs.Carry.{applied}
use Rattle.rules.specs.Plan.{scrolls}
use Rattle.rules.specs.State.{segment_top, segment_bottom, segment_start, segment_end, cursor_of, with_cursor, with_screen, idle}
use Rattle.terminal.specs.declared.fast.Ground.{Ground}

-- what the number of a text cell that a core stores has beside its code
abbrev pub text_base : Core → ℕ
text_base c = written (Contents.Text 0) c.modes.writeprotect c.attribute

-- the ground of a core
abbrev pub ground_of : Core → Ground
ground_of c = record {
  protect = c.modes.protect;
  insert = c.modes.insert;
  rolls = scrolls c.modes;
  wide = c.screen.wide;
  base = text_base c;
  home = segment_start c.screen;
  end = segment_end c.screen;
  top = segment_top c.screen;
  bottom = segment_bottom c.screen;
}

abbrev pub ground_width : Ground → ℕ
ground_width z = columns z.wide

-- its segment lies in the page
pub record Fits (z : Ground) (p : List ℕ) : Type 0 where
  pub whole : length p ≡ height * ground_width z
  pub size : length p ≤ wide_cells
  pub inside : z.end ≤ length p
  pub rows : z.top < z.bottom
  pub most : z.bottom ≤ height
  pub first : z.home < z.end
  pub past : z.end ≡ z.bottom * ground_width z
  pub row : ground_width z ≤ z.end
  pub base : z.base < 32768

-- a cell is open
abbrev pub OpenAt : Ground → List ℕ → ℕ → Type 0
OpenAt z p i = slice_index_or (guarded_at z.protect p) i false ≡ false

-- b is text, and the cursor's cell and the next one are open
pub record Stored (z : Ground) (p : List ℕ) (at b : ℕ) : Type 0 where
  pub low : 0x20 ≤ b
  pub high : b ≤ 0x7e
  pub here : OpenAt z p at
  pub next : OpenAt z p (at + 1)

-- the bytes i to i + 3 are ESC = row column, and k is that cell
pub record Addressed (z : Ground) (l : List ℕ) (i k : ℕ) : Type 0 where
  pub escape : get_or l i 0 ≡ 0x1b
  pub equals : get_or l (i + 1) 0 ≡ 0x3d
  pub row : 0x20 ≤ slice_index l (i + 2)
  pub column : 0x20 ≤ slice_index l (i + 3)
  pub most : get_or l (i + 3) 0 < 0x20 + addressed
  pub place : k ≡ z.home + (slice_index l (i + 2) - 0x20) * ground_width z + (slice_index l (i + 3) - 0x20)

-- the bytes i to i + 3 are an ESC = whose row or column is none of the segment
pub record Outside (z : Ground) (l : List ℕ) (i : ℕ) : Type 0 where
  pub escape : get_or l i 0 ≡ 0x1b
  pub equals : get_or l (i + 1) 0 ≡ 0x3d
  pub row : get_or l (i + 2) 0 < 128
  pub column : get_or l (i + 3) 0 < 128
  pub missed : both (among 0x20 (z.bottom - z.top) (slice_index l (i + 2))) (among 0x20 addressed (slice_index l (i + 3))) ≡ false

-- the byte b moves the cursor to k, with no scroll
pub data Goes (z : Ground) (p : List ℕ) (at b k : ℕ) : Type 0 where
  goes_back : b ≡ 0x08 → z.home + 1 ≤ at → k ≡ at - 1 → Goes z p at b k
  goes_first : b ≡ 0x08 → at ≤ z.home → k ≡ at → Goes z p at b k
  goes_field : b ≡ 0x09 → z.protect ≡ true → k ≡ next_field (guarded_at true p) z.home z.end at → Goes z p at b k
  goes_down : b ≡ 0x0a → k ≡ at + ground_width z → Goes z p at b k
  goes_up : b ≡ 0x0b → z.home + ground_width z ≤ at → k ≡ at - ground_width z → Goes z p at b k
  goes_bottom : b ≡ 0x0b → at < z.home + ground_width z → k ≡ z.end - ground_width z + column_of (ground_width z) at → Goes z p at b k
  goes_right : b ≡ 0x0c → at + 1 < z.end → k ≡ at + 1 → Goes z p at b k
  goes_round : b ≡ 0x0c → z.end ≤ at + 1 → k ≡ z.home → Goes z p at b k
  goes_return : b ≡ 0x0d → k ≡ row_start (ground_width z) at → Goes z p at b k
  goes_home : b ≡ 0x1e → k ≡ z.home → Goes z p at b k
  goes_line : b ≡ 0x1f → k ≡ row_start (ground_width z) at + ground_width z → Goes z p at b k

-- the byte b scrolls the segment up and leaves the cursor at k, in its last row
pub record Rolled (z : Ground) (at b k : ℕ) : Type 0 where
  pub from : ((b ≡ 0x0a) × (k ≡ at)) ⊎ ((b ≡ 0x1f) × (k ≡ row_start (ground_width z) at))
  pub mode : z.rolls ≡ true
  pub last : z.end ≤ k + ground_width z

-- what clears write: spaces, or nulls
abbrev pub blank : Bool → ℕ
blank spaces = pick spaces space null

-- the byte b after ESC writes, and leaves the cursor at k
pub data Edits (z : Ground) (p : List ℕ) (at b : ℕ) : Write → ℕ → Type 0 where
  edits_cell : (right : Bool) → b ≡ pick right 0x51 0x57 → OpenAt z p at → Edits z p at b (Write.Edit right at space) at
  edits_row : (down : Bool) → b ≡ pick down 0x45 0x52 → z.protect ≡ false
      → Edits z p at b (Write.Rows down (row_of (ground_width z) at) z.bottom) (row_start (ground_width z) at)
  reverses : b ≡ 0x6a → z.protect ≡ false → at < z.home + ground_width z → Edits z p at b (Write.Rows true z.top z.bottom) at
  clears_row : (spaces : Bool) → b ≡ pick spaces 0x54 0x74 → Edits z p at b (Write.Fill at (row_end (ground_width z) at) (blank spaces)) at
  clears_rest : (spaces : Bool) → b ≡ pick spaces 0x59 0x79 → Edits z p at b (Write.Fill at z.end (blank spaces)) at
  clears_all : (spaces : Bool) → b ≡ pick spaces 0x3b 0x3a → OpenAt z p z.home
      → Edits z p at b (Write.Fill z.home z.end (blank spaces)) z.home

-- the n bytes from i on write w, and leave the cursor at k
pub data Acts (z : Ground) (l : List ℕ) (i : ℕ) (p : List ℕ) (at : ℕ) : ℕ → Write → ℕ → Type 0 where
  stores : {v : ℕ} → z.insert ≡ false → Stored z p at (slice_index l i) → v ≡ z.base + slice_index l i
      → Acts z l i p at 1 (Write.Fill at (at + 1) v) (at + 1)
  inserts : {v : ℕ} → z.insert ≡ true → Stored z p at (slice_index l i) → v ≡ z.base + slice_index l i → guarded z.protect v ≡ false
      → Acts z l i p at 1 (Write.Edit true at v) (at + 1)
  places : {k : ℕ} → Addressed z l i k → OpenAt z p k → Acts z l i p at 4 Write.Nothing k
  goes : {k : ℕ} → Goes z p at (slice_index l i) k → OpenAt z p k → Acts z l i p at 1 Write.Nothing k
  rolls : {k : ℕ} → Rolled z at (slice_index l i) k → Acts z l i p at 1 (Write.Rows false z.top z.bottom) k
  edits : {k : ℕ} {w : Write} → slice_index l i ≡ 0x1b → Edits z p at (slice_index l (i + 1)) w k → Acts z l i p at 2 w k

-- from the cursor at₀, the byte i₀ of the input l and the page p₀, to the cursor, the byte and the page given last, and how many bytes are refused
pub data Passes (z : Ground) (l : List ℕ) (at₀ i₀ : ℕ) (p₀ : List ℕ) : ℕ → ℕ → List ℕ → ℕ → Type 0 where
  none : Passes z l at₀ i₀ p₀ at₀ i₀ p₀ 0
  acted : {at i n k f : ℕ} {w : Write} {p q : List ℕ} → Passes z l at₀ i₀ p₀ at i p f → Acts z l i p at n w k → i + n ≤ length l → k < z.end
      → q ≡ applied (ground_width z) z.protect w p → Passes z l at₀ i₀ p₀ k (i + n) q f
  refused : {at i f g : ℕ} {p : List ℕ} → Passes z l at₀ i₀ p₀ at i p f → Outside z l i → i + 4 ≤ length l → g ≡ f + 1
      → Passes z l at₀ i₀ p₀ at (i + 4) p g

-- such a path from a core on, where nothing is under way; or nothing is done
pub data FastPath (c : Core) (l : List ℕ) (i₀ : ℕ) (p₀ : List ℕ) : ℕ → ℕ → List ℕ → ℕ → Type 0 where
  still : FastPath c l i₀ p₀ (cursor_of c.screen) i₀ p₀ 0
  passing : {at i f : ℕ} {p : List ℕ} → c.pending ≡ Pending.Idle → Passes (ground_of c) l (cursor_of c.screen) i₀ p₀ at i p f
      → FastPath c l i₀ p₀ at i p f

-- the core after it
abbrev pub core_at : Core → ℕ → Core
core_at c at = with_screen (idle c) (with_cursor c.screen at)
