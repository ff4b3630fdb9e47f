-- Worked cases of document 01, "Writing and clearing".
use Rattle.std.specs.Prelude.{List, [], ◌∷◌, ◌++◌, ℕ, replicate}
use Rattle.rules.specs.Cases.Bench.{wy50, wy60, Cell, Cursor, InModes, Case}
use Rattle.rules.specs.Cases.Trials.{Trial, trial, one}
use Rattle.rules.specs.Cases.Inputs.{esc, go_to, labelled, three_letters, letters_below, cursor_at, protect_at, upper_at, lower_at, obeys, refuses}
use Rattle.rules.specs.Cases.Inputs.{obeys_from, refuses_from}

-- the bytes of these commands after ESC: ! * + , . : ; E G H Q R T V W Y q r t y
unfoldable pub writing_bytes : List ℕ
writing_bytes =
    0x21 ∷ 0x2a ∷ 0x2b ∷ 0x2c ∷ 0x2e ∷ 0x3a ∷ 0x3b ∷ 0x45 ∷ 0x47 ∷ 0x48 ∷ 0x51 ∷ 0x52 ∷ 0x54 ∷ 0x56 ∷ 0x57 ∷ 0x59 ∷ 0x71 ∷ 0x72 ∷ 0x74 ∷ 0x79 ∷ []

unfoldable pub writing_cases : List Case
writing_cases =
    -- 20h to 7Eh, ESC G, ESC H: stored, protected if write-protect is on, kinds 0, 1 and 2; 20h of ESC G is a text space
    obeys (0x41 ∷ 0x7e ∷ [] ++ esc 0x47 ++ 0x34 ∷ [] ++ esc 0x48 ++ 0x31 ∷ [] ++ esc 0x47 ++ 0x20 ∷ [])
    (Cell 0 0x41 ∷ Cell 1 0x7e ∷ Cell 2 308 ∷ Cell 3 561 ∷ Cell 4 32 ∷ Cursor 5 ∷ [])
    ∷ obeys (esc 0x29 ++ 0x41 ∷ [] ++ esc 0x47 ++ 0x34 ∷ [] ++ esc 0x48 ++ 0x31 ∷ [] ++ esc 0x47 ++ 0x20 ∷ [])
    (Cell 0 193 ∷ Cell 1 436 ∷ Cell 2 689 ∷ Cell 3 160 ∷ Cursor 4 ∷ [])
    -- a guarded cursor cell answers 4; a bad argument 3 before that
    ∷ refuses_from 4 (206 ∷ []) (protect_at 0) (0x41 ∷ []) (Cell 0 206 ∷ Cursor 0 ∷ [])
    ∷ refuses_from 4 (206 ∷ []) (protect_at 0) (esc 0x47 ++ 0x34 ∷ []) (Cell 0 206 ∷ Cursor 0 ∷ [])
    ∷ refuses_from 4 (206 ∷ []) (protect_at 0) (esc 0x48 ++ 0x34 ∷ []) (Cell 0 206 ∷ Cursor 0 ∷ [])
    ∷ refuses_from 3 (206 ∷ []) (protect_at 0) (esc 0x47 ++ 0x40 ∷ []) (Cell 0 206 ∷ Cursor 0 ∷ [])
    ∷ refuses 3 (esc 0x47 ++ 0x40 ∷ []) (Cell 0 0 ∷ Cursor 0 ∷ [])
    -- the advance: settle from the next cell, also past a cell that the store has guarded
    ∷ obeys_from (0 ∷ 206 ∷ []) (protect_at 0) (0x58 ∷ []) (Cell 0 0x58 ∷ Cursor 2 ∷ [])
    ∷ obeys (esc 0x29 ++ esc 0x26 ++ go_to 23 79 ++ 0x58 ∷ []) (Cell 1919 216 ∷ Cursor 0 ∷ [])
    -- past the last cell: autoscroll on and protect off scroll the segment; else settle from home
    ∷ obeys (0x41 ∷ 0x1f ∷ 0x42 ∷ [] ++ go_to 23 79 ++ 0x58 ∷ []) (Cell 0 0x42 ∷ Cell 1839 0x58 ∷ Cell 1840 32 ∷ Cell 1919 32 ∷ Cursor 1840 ∷ [])
    ∷ obeys (0x41 ∷ [] ++ esc 0x26 ++ go_to 23 79 ++ 0x58 ∷ []) (Cell 0 0x41 ∷ Cell 1919 0x58 ∷ Cursor 0 ∷ [])
    ∷ obeys (0x41 ∷ [] ++ esc 0x4e ++ go_to 23 79 ++ 0x58 ∷ []) (Cell 0 0x41 ∷ Cell 1919 0x58 ∷ Cursor 0 ∷ [])
    ∷ obeys_from (replicate 960 0 ++ 0x58 ∷ []) (upper_at 0) (0x41 ∷ [] ++ go_to 11 79 ++ 0x42 ∷ [])
    (Cell 0 0 ∷ Cell 879 0x42 ∷ Cell 880 32 ∷ Cell 960 0x58 ∷ Cursor 880 ∷ [])
    ∷ obeys_from letters_below (lower_at 1919) (0x43 ∷ []) (Cell 0 0x58 ∷ Cell 960 0x42 ∷ Cell 1839 0x43 ∷ Cell 1840 32 ∷ Cursor 1840 ∷ [])
    ∷ obeys_from letters_below (lower_at 1041) (esc 0x4e ++ go_to 11 79 ++ 0x43 ∷ []) (Cell 960 0x41 ∷ Cell 1919 0x43 ∷ Cursor 960 ∷ [])
    -- the last open cell, cells behind it being guarded
    ∷ obeys (esc 0x4e ++ labelled 0 0 ++ labelled 23 79 ++ esc 0x4f ++ go_to 23 78 ++ esc 0x26 ++ 0x58 ∷ [])
    (Cell 0 206 ∷ Cell 1 0 ∷ Cell 1918 0x58 ∷ Cell 1919 206 ∷ Cursor 1 ∷ [])
    -- the edit run stops at a label: in insert mode, by ESC Q and by ESC W
    ∷ obeys_from (0 ∷ 0 ∷ 0 ∷ 206 ∷ []) (cursor_at 4) (0x7a ∷ 0x1e ∷ 0x61 ∷ 0x62 ∷ 0x63 ∷ [] ++ esc 0x26 ++ 0x1e ∷ [] ++ esc 0x71 ++ 0x78 ∷ [])
    (Cell 0 0x78 ∷ Cell 1 0x61 ∷ Cell 2 0x62 ∷ Cell 3 206 ∷ Cell 4 0x7a ∷ Cursor 1 ∷ [])
    ∷ obeys_from (0 ∷ 0 ∷ 0 ∷ 206 ∷ []) (cursor_at 4) (0x7a ∷ 0x1e ∷ 0x61 ∷ 0x62 ∷ 0x63 ∷ [] ++ esc 0x26 ++ 0x1e ∷ [] ++ esc 0x51)
    (Cell 0 32 ∷ Cell 1 0x61 ∷ Cell 2 0x62 ∷ Cell 3 206 ∷ Cell 4 0x7a ∷ Cursor 0 ∷ [])
    ∷ obeys_from (0 ∷ 0 ∷ 0 ∷ 206 ∷ []) (cursor_at 4) (0x7a ∷ 0x1e ∷ 0x61 ∷ 0x62 ∷ 0x63 ∷ [] ++ esc 0x26 ++ 0x1e ∷ [] ++ esc 0x57)
    (Cell 0 0x62 ∷ Cell 1 0x63 ∷ Cell 2 32 ∷ Cell 3 206 ∷ Cell 4 0x7a ∷ Cursor 0 ∷ [])
    -- a run of one cell loses its cell
    ∷ obeys_from (0 ∷ 206 ∷ []) (cursor_at 2) (0x1e ∷ 0x61 ∷ [] ++ esc 0x26 ++ 0x1e ∷ [] ++ esc 0x71 ++ 0x78 ∷ [])
    (Cell 0 0x78 ∷ Cell 1 206 ∷ Cell 2 0 ∷ Cursor 2 ∷ [])
    -- with protect off a label moves along, and the last cell of the row is lost, not the next row's
    ∷ obeys_from (0 ∷ 0 ∷ 0 ∷ 206 ∷ []) (cursor_at 0) (esc 0x51) (Cell 0 32 ∷ Cell 3 0 ∷ Cell 4 206 ∷ Cursor 0 ∷ [])
    ∷ obeys_from [] (cursor_at 79) (0x61 ∷ 0x62 ∷ 0x1e ∷ [] ++ esc 0x51) (Cell 0 32 ∷ Cell 79 0 ∷ Cell 80 0x62 ∷ [])
    ∷ obeys_from [] (cursor_at 79) (0x61 ∷ 0x62 ∷ 0x1e ∷ [] ++ esc 0x57) (Cell 78 0x61 ∷ Cell 79 32 ∷ Cell 80 0x62 ∷ [])
    -- insert mode shifts for each of the three stores, also one that is protected; ESC r turns it off
    ∷ obeys (0x61 ∷ 0x1e ∷ [] ++ esc 0x71 ++ esc 0x47 ++ 0x34 ∷ []) (Cell 0 308 ∷ Cell 1 0x61 ∷ Cursor 1 ∷ [])
    ∷ obeys (0x61 ∷ 0x1e ∷ [] ++ esc 0x71 ++ esc 0x48 ++ 0x31 ∷ []) (Cell 0 561 ∷ Cell 1 0x61 ∷ Cursor 1 ∷ [])
    ∷ obeys (0x61 ∷ 0x1e ∷ [] ++ esc 0x71 ++ esc 0x29 ++ 0x78 ∷ []) (Cell 0 248 ∷ Cell 1 0x61 ∷ Cursor 1 ∷ [])
    ∷ obeys (0x61 ∷ 0x1e ∷ [] ++ esc 0x71 ++ esc 0x72 ++ 0x78 ∷ []) (Cell 0 0x78 ∷ Cell 1 0 ∷ [])
    -- ESC Q and ESC W bring in unprotected spaces, whatever write-protect is; a guarded cursor answers 4
    ∷ obeys_from [] (cursor_at 4) (esc 0x29 ++ esc 0x51) (Cell 4 32 ∷ Cursor 4 ∷ [])
    ∷ obeys_from [] (cursor_at 4) (esc 0x29 ++ esc 0x57) (Cell 79 32 ∷ Cursor 4 ∷ [])
    ∷ refuses_from 4 (206 ∷ []) (protect_at 0) (esc 0x51) (Cell 0 206 ∷ Cell 1 0 ∷ Cursor 0 ∷ [])
    ∷ refuses_from 4 (206 ∷ 65 ∷ []) (protect_at 0) (esc 0x57) (Cell 0 206 ∷ Cell 1 65 ∷ Cursor 0 ∷ [])
    -- ESC E and ESC R: the cursor's row, within the segment, cursor to column 1; protect on: 4
    ∷ obeys_from three_letters (cursor_at 1) (esc 0x45) (Cell 0 32 ∷ Cell 79 32 ∷ Cell 80 0x41 ∷ Cell 160 0x43 ∷ Cursor 0 ∷ [])
    ∷ obeys_from three_letters (cursor_at 1) (esc 0x52) (Cell 0 0x43 ∷ Cell 80 0 ∷ Cell 1839 0 ∷ Cell 1840 32 ∷ Cell 1919 32 ∷ Cursor 0 ∷ [])
    ∷ obeys_from three_letters (cursor_at 83) (esc 0x45) (Cell 0 0x41 ∷ Cell 80 32 ∷ Cell 160 0x43 ∷ Cursor 80 ∷ [])
    ∷ obeys_from three_letters (cursor_at 83) (esc 0x52) (Cell 0 0x41 ∷ Cell 80 0 ∷ Cell 1840 32 ∷ Cursor 80 ∷ [])
    ∷ obeys_from (replicate 960 0 ++ 0x58 ∷ []) (upper_at 0) (0x41 ∷ [] ++ esc 0x45) (Cell 0 32 ∷ Cell 80 0x41 ∷ Cell 960 0x58 ∷ Cursor 0 ∷ [])
    ∷ obeys_from (replicate 960 0 ++ 0x58 ∷ []) (upper_at 0) (0x41 ∷ [] ++ esc 0x52)
    (Cell 0 0 ∷ Cell 879 0 ∷ Cell 880 32 ∷ Cell 960 0x58 ∷ Cursor 0 ∷ [])
    ∷ obeys_from letters_below (lower_at 965) (esc 0x45) (Cell 0 0x58 ∷ Cell 960 32 ∷ Cell 1040 0x41 ∷ Cell 1120 0x42 ∷ Cursor 960 ∷ [])
    ∷ obeys_from letters_below (lower_at 965) (esc 0x52) (Cell 0 0x58 ∷ Cell 960 0x42 ∷ Cell 1040 0 ∷ Cell 1839 0 ∷ Cell 1840 32 ∷ Cursor 960 ∷ [])
    ∷ obeys (esc 0x29 ++ esc 0x45) (Cell 0 32 ∷ Cell 79 32 ∷ Cell 80 0 ∷ [])
    ∷ obeys (esc 0x29 ++ esc 0x52) (Cell 1839 0 ∷ Cell 1840 32 ∷ Cell 1919 32 ∷ [])
    ∷ refuses_from 4 three_letters (cursor_at 1) (esc 0x26 ++ esc 0x45) (Cell 0 0x41 ∷ Cell 80 0x43 ∷ Cursor 1 ∷ [])
    ∷ refuses_from 4 three_letters (cursor_at 1) (esc 0x26 ++ esc 0x52) (Cell 0 0x41 ∷ Cell 80 0x43 ∷ Cursor 1 ∷ [])
    -- ESC T clears to the end of the row only, ESC Y to the end of the segment; t and y with nulls; the cursor stays
    ∷ obeys_from three_letters (cursor_at 1) (esc 0x54) (Cell 0 0x41 ∷ Cell 1 32 ∷ Cell 79 32 ∷ Cell 80 0x43 ∷ Cell 81 0 ∷ Cursor 1 ∷ [])
    ∷ obeys_from three_letters (cursor_at 1) (esc 0x59) (Cell 0 0x41 ∷ Cell 1 32 ∷ Cell 80 32 ∷ Cell 1919 32 ∷ Cursor 1 ∷ [])
    ∷ obeys_from three_letters (cursor_at 1) (esc 0x74) (Cell 0 0x41 ∷ Cell 1 0 ∷ Cell 80 0x43 ∷ Cursor 1 ∷ [])
    ∷ obeys_from three_letters (cursor_at 1) (esc 0x79) (Cell 0 0x41 ∷ Cell 1 0 ∷ Cell 80 0 ∷ Cursor 1 ∷ [])
    ∷ obeys_from (replicate 960 0 ++ 0x58 ∷ []) (upper_at 0) (0x41 ∷ [] ++ esc 0x59)
    (Cell 0 0x41 ∷ Cell 1 32 ∷ Cell 959 32 ∷ Cell 960 0x58 ∷ Cursor 1 ∷ [])
    ∷ obeys_from (replicate 960 0 ++ 0x58 ∷ []) (upper_at 0) (0x41 ∷ 0x42 ∷ 0x08 ∷ [] ++ esc 0x79)
    (Cell 0 0x41 ∷ Cell 1 0 ∷ Cell 960 0x58 ∷ Cursor 1 ∷ [])
    ∷ obeys_from letters_below (lower_at 961) (esc 0x59) (Cell 0 0x58 ∷ Cell 959 0 ∷ Cell 960 0x41 ∷ Cell 961 32 ∷ Cell 1919 32 ∷ Cursor 961 ∷ [])
    ∷ obeys_from letters_below (lower_at 961) (esc 0x79) (Cell 0 0x58 ∷ Cell 960 0x41 ∷ Cell 1040 0 ∷ Cursor 961 ∷ [])
    -- open cells only; unprotected, whatever write-protect is; a guarded cursor settles nothing
    ∷ obeys_from (0 ∷ 0 ∷ 0 ∷ 206 ∷ []) (protect_at 0) (esc 0x54) (Cell 0 32 ∷ Cell 2 32 ∷ Cell 3 206 ∷ Cell 4 32 ∷ Cell 80 0 ∷ [])
    ∷ obeys_from (0 ∷ 0 ∷ 0 ∷ 206 ∷ []) (protect_at 0) (esc 0x59) (Cell 0 32 ∷ Cell 3 206 ∷ Cell 1919 32 ∷ [])
    ∷ obeys_from (0 ∷ 0 ∷ 0 ∷ 206 ∷ []) (cursor_at 0) (esc 0x54) (Cell 3 32 ∷ [])
    ∷ obeys (esc 0x29 ++ esc 0x54) (Cell 0 32 ∷ [])
    ∷ obeys (esc 0x29 ++ esc 0x59) (Cell 0 32 ∷ [])
    ∷ obeys_from (206 ∷ []) (protect_at 0) (esc 0x54) (Cell 0 206 ∷ Cell 1 32 ∷ Cursor 0 ∷ [])
    ∷ obeys_from (206 ∷ []) (protect_at 0) (esc 0x79) (Cell 0 206 ∷ Cell 1 0 ∷ Cursor 0 ∷ [])
    -- 1Ah, ESC ; spaces, ESC : nulls, ESC . code, ESC ! attr: all open cells of the segment, cursor home, which settles
    ∷ obeys_from (0 ∷ 0 ∷ 0 ∷ 206 ∷ []) (protect_at 4) (0x1a ∷ []) (Cell 0 32 ∷ Cell 3 206 ∷ Cell 1919 32 ∷ Cursor 0 ∷ [])
    ∷ obeys_from (0 ∷ 0 ∷ 0 ∷ 206 ∷ []) (protect_at 4) (esc 0x3b) (Cell 0 32 ∷ Cell 3 206 ∷ Cell 1919 32 ∷ Cursor 0 ∷ [])
    ∷ obeys_from (0 ∷ 0 ∷ 0 ∷ 206 ∷ []) (cursor_at 4) (0x41 ∷ [] ++ esc 0x26 ++ esc 0x3a) (Cell 3 206 ∷ Cell 4 0 ∷ Cursor 0 ∷ [])
    ∷ obeys_from (0 ∷ 0 ∷ 0 ∷ 206 ∷ []) (protect_at 4) (esc 0x2e ++ 0x2a ∷ []) (Cell 0 0x2a ∷ Cell 3 206 ∷ Cell 1919 0x2a ∷ Cursor 0 ∷ [])
    ∷ obeys_from (0 ∷ 0 ∷ 0 ∷ 206 ∷ []) (protect_at 4) (esc 0x21 ++ 0x34 ∷ []) (Cell 0 308 ∷ Cell 3 206 ∷ Cell 1919 308 ∷ Cursor 0 ∷ [])
    ∷ obeys (0x41 ∷ [] ++ esc 0x21 ++ 0x20 ∷ []) (Cell 0 32 ∷ Cell 1919 32 ∷ [])
    ∷ obeys (0x41 ∷ [] ++ esc 0x2e ++ 0x00 ∷ []) (Cell 0 0 ∷ Cell 1919 0 ∷ [])
    ∷ obeys_from (206 ∷ []) (protect_at 1) (0x1a ∷ []) (Cursor 1 ∷ [])
    ∷ obeys (esc 0x29 ++ 0x1a ∷ []) (Cell 0 32 ∷ [])
    ∷ obeys (esc 0x29 ++ esc 0x21 ++ 0x34 ∷ []) (Cell 0 308 ∷ [])
    ∷ obeys_from letters_below (lower_at 1041) (0x1a ∷ []) (Cell 0 0x58 ∷ Cell 959 0 ∷ Cell 960 32 ∷ Cell 1919 32 ∷ Cursor 960 ∷ [])
    ∷ obeys_from (replicate 960 0 ++ 0x58 ∷ []) (upper_at 243) (0x1a ∷ []) (Cell 0 32 ∷ Cell 959 32 ∷ Cell 960 0x58 ∷ Cursor 0 ∷ [])
    ∷ refuses 3 (0x41 ∷ [] ++ esc 0x2e ++ 0x7f ∷ []) (Cell 0 0x41 ∷ Cursor 1 ∷ [])
    -- ESC * nulls, ESC + spaces, ESC , protected spaces: all cells of the segment, cursor home; only ESC , turns protect off
    ∷ obeys_from (0 ∷ 0 ∷ 0 ∷ 206 ∷ []) (protect_at 4) (esc 0x2a) (Cell 3 0 ∷ Cursor 0 ∷ InModes (1 ∷ 0 ∷ 0 ∷ 1 ∷ 0 ∷ 0 ∷ []) ∷ [])
    ∷ obeys_from (0 ∷ 0 ∷ 0 ∷ 206 ∷ []) (protect_at 4) (esc 0x2b)
    (Cell 0 32 ∷ Cell 3 32 ∷ Cell 1919 32 ∷ Cursor 0 ∷ InModes (1 ∷ 0 ∷ 0 ∷ 1 ∷ 0 ∷ 0 ∷ []) ∷ [])
    ∷ obeys_from (0 ∷ 0 ∷ 0 ∷ 206 ∷ []) (protect_at 4) (esc 0x2c)
    (Cell 0 160 ∷ Cell 3 160 ∷ Cell 1919 160 ∷ Cursor 0 ∷ InModes (0 ∷ 0 ∷ 0 ∷ 1 ∷ 0 ∷ 0 ∷ []) ∷ [])
    ∷ obeys_from letters_below (lower_at 1041) (esc 0x2a) (Cell 0 0x58 ∷ Cell 960 0 ∷ Cell 1040 0 ∷ Cursor 960 ∷ [])
    ∷ obeys_from letters_below (lower_at 1041) (esc 0x2b) (Cell 0 0x58 ∷ Cell 959 0 ∷ Cell 960 32 ∷ Cell 1919 32 ∷ Cursor 960 ∷ [])
    ∷ obeys_from letters_below (lower_at 1041) (esc 0x2c) (Cell 0 0x58 ∷ Cell 959 0 ∷ Cell 960 160 ∷ Cell 1919 160 ∷ Cursor 960 ∷ [])
    ∷ obeys_from (replicate 960 0 ++ 0x58 ∷ []) (upper_at 243) (esc 0x2c) (Cell 0 160 ∷ Cell 959 160 ∷ Cell 960 0x58 ∷ Cursor 0 ∷ [])
    ∷ obeys (esc 0x29 ++ esc 0x2b) (Cell 0 32 ∷ [])
    -- ESC V: the open cells of the cursor's column in the segment become protected spaces; the cursor settles
    ∷ obeys_from [] (cursor_at 165) (esc 0x56) (Cell 4 0 ∷ Cell 5 160 ∷ Cell 6 0 ∷ Cell 85 160 ∷ Cell 1845 160 ∷ Cursor 165 ∷ [])
    ∷ obeys_from (replicate 85 0 ++ 206 ∷ []) (protect_at 165) (esc 0x56) (Cell 5 160 ∷ Cell 85 206 ∷ Cell 1845 160 ∷ Cursor 166 ∷ [])
    ∷ obeys_from (replicate 85 0 ++ 206 ∷ []) (cursor_at 165) (esc 0x56) (Cell 85 160 ∷ [])
    ∷ obeys_from [] (upper_at 165) (esc 0x56) (Cell 5 160 ∷ Cell 885 160 ∷ Cell 965 0 ∷ [])
    ∷ obeys_from [] (lower_at 1125) (esc 0x56) (Cell 885 0 ∷ Cell 965 160 ∷ Cell 1845 160 ∷ Cursor 1125 ∷ [])
    ∷ []

-- what each of these commands changes (Frames): a store takes its cell, in insert mode it shifts its row, past the last cell it scrolls
unfoldable pub writing_trials : List (List Trial)
writing_trials =
    (trial [] wy50 [] 0x41 ∷ trial (replicate 78 0 ++ 0x41 ∷ []) wy50 (esc 0x71) 0x41 ∷ trial (0x42 ∷ []) (cursor_at 1919) [] 0x41 ∷ [])
    ∷ one [] wy50 (esc 0x48) 0x30
    ∷ (trial [] wy50 (esc 0x47) 0x34 ∷ trial [] wy60 (esc 0x47) 0x34 ∷ [])
    ∷ one (replicate 78 0 ++ 0x41 ∷ []) (cursor_at 5) (0x1b ∷ []) 0x51
    ∷ one (replicate 5 0 ++ 0x41 ∷ []) (cursor_at 5) (0x1b ∷ []) 0x57
    ∷ one (replicate 1839 0 ++ 0x41 ∷ []) (cursor_at 5) (0x1b ∷ []) 0x45
    ∷ one (0x41 ∷ []) (cursor_at 5) (0x1b ∷ []) 0x52
    ∷ one [] (cursor_at 5) (0x1b ∷ []) 0x54
    ∷ one [] (cursor_at 5) (0x1b ∷ []) 0x59
    ∷ one [] (cursor_at 5) [] 0x1a
    ∷ one [] (protect_at 5) (0x1b ∷ []) 0x56
    ∷ one (0x41 ∷ replicate 1918 0 ++ 0x41 ∷ []) (cursor_at 5) (0x1b ∷ []) 0x2a
    ∷ one [] (cursor_at 5) (0x1b ∷ []) 0x2b
    ∷ one [] (protect_at 5) (0x1b ∷ []) 0x2c
    ∷ []
