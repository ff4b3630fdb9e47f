-- Worked cases of document 02, A8: the WY-60 beside the WY-50.
use Rattle.std.specs.Prelude.{List, [], ◌∷◌, ◌++◌, ℕ, ◌+◌, replicate}
use Rattle.rules.specs.declared.Core.{Core}
use Rattle.rules.specs.declared.State.{State}
use Rattle.rules.specs.declared.Personality.TheVariants as Personality
use Rattle.rules.specs.Cases.Bench.{wy50, wy60, Claim, Cell, Cursor, Replies, FieldAttributes, Remembered, Case}
use Rattle.rules.specs.Cases.Inputs.{esc, go_to, lower, cursor_at, protect_at, obeys, refuses, obeys_from, refuses_from}

-- the same state of a WY-60
abbrev pub core60 : Core → Core
core60 c = record {
  screen = c.screen;
  modes = c.modes;
  bells = c.bells;
  pending = c.pending;
  personality = Personality.Wy60;
  attribute = c.attribute;
}

unfoldable pub as60 : State → State
as60 s = record { core = core60 s.core; sending = s.sending; gathered = s.gathered; setup = s.setup }

unfoldable pub obeys60 : List ℕ → List Claim → Case
obeys60 bytes claims = obeys_from [] wy60 bytes claims

unfoldable pub refuses60 : ℕ → List ℕ → List Claim → Case
refuses60 n bytes claims = refuses_from n [] wy60 bytes claims

-- ESC G and a code; ESC H and a code
unfoldable pub attr : ℕ → List ℕ
attr a = esc 0x47 ++ a ∷ []

unfoldable pub graphic : ℕ → List ℕ
graphic b = esc 0x48 ++ b ∷ []

-- letters A: with each flag, with all of them and the bit worth 32768, with that bit alone, protected with a flag; then of the kinds 1, 2
-- and 3, without flags and with
unfoldable pub flagged_cells : List ℕ
flagged_cells =
    0x4041 ∷ 0x2041 ∷ 0x1041 ∷ 0x0841 ∷ 0x0441 ∷ 0xfc41 ∷ 0x8041 ∷ 0x10c1 ∷ 0x141 ∷ 0x541 ∷ 0x241 ∷ 0x641 ∷ 0x341 ∷ 0xff41 ∷ []

unfoldable pub personality_cases : List Case
personality_cases =
    -- ESC G 34h takes no cell in WY-60: cell and cursor stay, and the next letter carries reverse; in WY-50 it takes one
    obeys60 (attr 0x34) (Cell 0 0 ∷ Cursor 0 ∷ Remembered 4 ∷ [])
    ∷ obeys60 (attr 0x34 ++ 0x41 ∷ []) (Cell 0 (0x41 + 4096) ∷ Cell 1 0 ∷ Cursor 1 ∷ Remembered 4 ∷ [])
    ∷ obeys (attr 0x34 ++ 0x41 ∷ []) (Cell 0 308 ∷ Cell 1 0x41 ∷ Cursor 2 ∷ Remembered 0 ∷ [])
    -- the attribute is normal at power-on; 30h to 3Fh and 70h to 7Eh, and ESC G 30h makes it normal again
    ∷ obeys60 (0x41 ∷ []) (Cell 0 0x41 ∷ Remembered 0 ∷ [])
    ∷ obeys60 (attr 0x3f) (Cell 0 0 ∷ Cursor 0 ∷ Remembered 15 ∷ [])
    ∷ obeys60 (attr 0x70) (Cell 0 0 ∷ Cursor 0 ∷ Remembered 16 ∷ [])
    ∷ obeys60 (attr 0x7e) (Cell 0 0 ∷ Cursor 0 ∷ Remembered 30 ∷ [])
    ∷ obeys60 (attr 0x3f ++ attr 0x30 ++ 0x41 ∷ []) (Cell 0 0x41 ∷ Cursor 1 ∷ Remembered 0 ∷ [])
    -- underscore, reverse, blink, blank, dim; dim with three more
    ∷ obeys60 (attr 0x38 ++ 0x41 ∷ [] ++ attr 0x34 ++ 0x42 ∷ [] ++ attr 0x32 ++ 0x43 ∷ [] ++ attr 0x31 ++ 0x44 ∷ [] ++ attr 0x70 ++ 0x45 ∷ [])
    (Cell 0 (0x41 + 8192) ∷ Cell 1 (0x42 + 4096) ∷ Cell 2 (0x43 + 2048) ∷ Cell 3 (0x44 + 1024) ∷ Cell 4 (0x45 + 16384) ∷ Cursor 5 ∷ [])
    ∷ obeys60 (attr 0x7e ++ 0x41 ∷ []) (Cell 0 (0x41 + 16384 + 8192 + 4096 + 2048) ∷ [])
    -- the clear-alls leave it
    ∷ obeys60 (attr 0x34 ++ esc 0x2a) (Remembered 4 ∷ [])
    ∷ obeys60 (attr 0x34 ++ esc 0x2b) (Remembered 4 ∷ [])
    ∷ obeys60 (attr 0x34 ++ esc 0x2c) (Remembered 4 ∷ [])
    -- codes that are none answer 3, and the attribute stays
    ∷ refuses60 3 (attr 0x34 ++ attr 0x7f) (Cell 0 0 ∷ Cursor 0 ∷ Remembered 4 ∷ [])
    ∷ refuses60 3 (attr 0x34 ++ attr 0x40) (Cell 0 0 ∷ Cursor 0 ∷ Remembered 4 ∷ [])
    ∷ refuses60 3 (attr 0x34 ++ attr 0x6f) (Cell 0 0 ∷ Cursor 0 ∷ Remembered 4 ∷ [])
    ∷ refuses60 3 (attr 0x34 ++ attr 0x2f) (Cell 0 0 ∷ Cursor 0 ∷ Remembered 4 ∷ [])
    ∷ refuses60 3 (attr 0x34 ++ attr 0x21) (Cell 0 0 ∷ Cursor 0 ∷ Remembered 4 ∷ [])
    -- on a guarded cell never 4, and nothing settles; in the last cell nothing moves or scrolls; in insert mode nothing is shifted
    ∷ obeys_from (206 ∷ []) (as60 (protect_at 0)) (attr 0x34) (Cell 0 206 ∷ Cursor 0 ∷ Remembered 4 ∷ [])
    ∷ refuses_from 4 (206 ∷ []) (protect_at 0) (attr 0x34) (Cell 0 206 ∷ Cursor 0 ∷ Remembered 0 ∷ [])
    ∷ refuses_from 3 (206 ∷ []) (as60 (protect_at 0)) (attr 0x40) (Cell 0 206 ∷ Cursor 0 ∷ [])
    ∷ obeys_from (0x41 ∷ []) (as60 (cursor_at 1919)) (attr 0x34) (Cell 0 0x41 ∷ Cell 1919 0 ∷ Cursor 1919 ∷ Remembered 4 ∷ [])
    ∷ obeys_from (0x41 ∷ []) wy60 (esc 0x71 ++ attr 0x34) (Cell 0 0x41 ∷ Cell 1 0 ∷ Cursor 0 ∷ Remembered 4 ∷ [])
    -- 20h to 7Eh and ESC H store with the attribute, in insert mode and write-protect too, in either segment
    ∷ obeys60 (attr 0x34 ++ 0x20 ∷ 0x7e ∷ [] ++ graphic 0x31) (Cell 0 (32 + 4096) ∷ Cell 1 (0x7e + 4096) ∷ Cell 2 (561 + 4096) ∷ Cursor 3 ∷ [])
    ∷ obeys_from (0x41 ∷ []) wy60 (attr 0x34 ++ esc 0x71 ++ 0x42 ∷ []) (Cell 0 (0x42 + 4096) ∷ Cell 1 0x41 ∷ Cursor 1 ∷ [])
    ∷ obeys60 (attr 0x34 ++ esc 0x29 ++ 0x41 ∷ [] ++ graphic 0x31) (Cell 0 (193 + 4096) ∷ Cell 1 (689 + 4096) ∷ [])
    ∷ obeys60 (attr 0x34 ++ lower ++ 0x41 ∷ []) (Cell 960 (0x41 + 4096) ∷ Remembered 4 ∷ [])
    -- ESC G 20h: a normal space by the old rule, and the attribute stays
    ∷ obeys60 (attr 0x34 ++ attr 0x20 ++ 0x41 ∷ []) (Cell 0 32 ∷ Cell 1 (0x41 + 4096) ∷ Cursor 2 ∷ Remembered 4 ∷ [])
    ∷ obeys60 (attr 0x34 ++ esc 0x29 ++ attr 0x20) (Cell 0 160 ∷ Cursor 1 ∷ [])
    ∷ obeys_from (0x41 ∷ []) wy60 (attr 0x34 ++ esc 0x71 ++ attr 0x20) (Cell 0 32 ∷ Cell 1 0x41 ∷ Cursor 1 ∷ [])
    ∷ refuses_from 4 (206 ∷ []) (as60 (protect_at 0)) (attr 0x34 ++ attr 0x20) (Cell 0 206 ∷ Cursor 0 ∷ Remembered 4 ∷ [])
    -- ESC !: attribute cells, normal and unprotected, and the attribute stays; ESC A too leaves it
    ∷ obeys60 (attr 0x34 ++ esc 0x29 ++ esc 0x21 ++ 0x38 ∷ []) (Cell 0 312 ∷ Cell 1919 312 ∷ Cursor 0 ∷ Remembered 4 ∷ [])
    ∷ obeys60 (attr 0x34 ++ esc 0x41 ++ 0x31 ∷ 0x38 ∷ [])
    (FieldAttributes (0x30 ∷ 0x38 ∷ 0x30 ∷ 0x30 ∷ []) ∷ Remembered 4 ∷ [])
    -- what clearing brings in is normal
    ∷ obeys60 (attr 0x34 ++ 0x1a ∷ []) (Cell 0 32 ∷ Cell 1919 32 ∷ [])
    ∷ obeys60 (attr 0x34 ++ esc 0x3b) (Cell 0 32 ∷ [])
    ∷ obeys60 (attr 0x34 ++ 0x41 ∷ [] ++ esc 0x3a) (Cell 0 0 ∷ [])
    ∷ obeys60 (attr 0x34 ++ esc 0x2e ++ 0x2a ∷ []) (Cell 0 0x2a ∷ [])
    ∷ obeys60 (attr 0x34 ++ esc 0x54) (Cell 0 32 ∷ Cell 79 32 ∷ [])
    ∷ obeys60 (attr 0x34 ++ esc 0x59) (Cell 0 32 ∷ Cell 1919 32 ∷ [])
    ∷ obeys60 (attr 0x34 ++ 0x41 ∷ 0x0d ∷ [] ++ esc 0x74) (Cell 0 0 ∷ [])
    ∷ obeys60 (attr 0x34 ++ 0x41 ∷ 0x0d ∷ [] ++ esc 0x79) (Cell 0 0 ∷ [])
    ∷ obeys60 (attr 0x34 ++ 0x41 ∷ [] ++ esc 0x2a) (Cell 0 0 ∷ [])
    ∷ obeys60 (attr 0x34 ++ esc 0x2b) (Cell 0 32 ∷ [])
    ∷ obeys60 (attr 0x34 ++ esc 0x2c) (Cell 0 160 ∷ [])
    ∷ obeys60 (attr 0x34 ++ esc 0x56) (Cell 0 160 ∷ Cell 80 160 ∷ [])
    -- and what inserting, deleting and scrolling bring in, while the cells that move keep their flags
    ∷ obeys60 (attr 0x34 ++ 0x41 ∷ 0x0d ∷ [] ++ esc 0x51) (Cell 0 32 ∷ Cell 1 (0x41 + 4096) ∷ [])
    ∷ obeys60 (attr 0x34 ++ esc 0x57) (Cell 79 32 ∷ [])
    ∷ obeys60 (attr 0x34 ++ 0x41 ∷ [] ++ esc 0x45) (Cell 0 32 ∷ Cell 79 32 ∷ Cell 80 (0x41 + 4096) ∷ [])
    ∷ obeys60 (attr 0x34 ++ esc 0x52) (Cell 1840 32 ∷ Cell 1919 32 ∷ [])
    ∷ obeys60 (attr 0x34 ++ go_to 23 79 ++ 0x58 ∷ []) (Cell 1839 (0x58 + 4096) ∷ Cell 1840 32 ∷ Cell 1919 32 ∷ Cursor 1840 ∷ [])
    ∷ obeys60 (attr 0x34 ++ go_to 23 0 ++ 0x0a ∷ []) (Cell 1840 32 ∷ [])
    ∷ obeys60 (attr 0x34 ++ 0x41 ∷ [] ++ esc 0x6a) (Cell 0 32 ∷ Cell 80 (0x41 + 4096) ∷ [])
    -- kind is (v div 256) mod 4 in both: a text cell is sent as its code whatever its flags, kinds 1 to 3 as 20h
    ∷ obeys_from flagged_cells wy60 (go_to 0 13 ++ esc 0x36) (Replies (replicate 8 0x41 ++ replicate 6 0x20 ++ 0x0d ∷ []) ∷ [])
    ∷ obeys_from flagged_cells wy50 (go_to 0 13 ++ esc 0x36) (Replies (replicate 8 0x41 ++ replicate 6 0x20 ++ 0x0d ∷ []) ∷ [])
    ∷ obeys60 (attr 0x34 ++ 0x41 ∷ 0x08 ∷ [] ++ esc 0x4d) (Replies (0x41 ∷ []) ∷ [])
    -- ESC SPACE
    ∷ obeys60 (esc 0x20) (Replies (0x36 ∷ 0x30 ∷ 0x0d ∷ []) ∷ [])
    ∷ obeys (esc 0x20) (Replies (0x35 ∷ 0x30 ∷ 0x0d ∷ []) ∷ [])
    ∷ []
