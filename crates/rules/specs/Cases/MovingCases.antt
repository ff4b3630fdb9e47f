-- Worked cases of document 01, "Where the cursor may go".
use Rattle.std.specs.Prelude.{false, List, [], ◌∷◌, ◌++◌, replicate}
use Rattle.rules.specs.Cases.Bench.{wy50, Cell, Cursor, Segments, Case}
use Rattle.rules.specs.Cases.Trials.{Trial, trial, one}
use Rattle.rules.specs.Cases.Inputs.{esc, go_to, labelled, halves, lower, three_letters, letters_below, cursor_at, protect_at, placed_on, upper_at}
use Rattle.rules.specs.Cases.Inputs.{lower_at, obeys, refuses, obeys_from, refuses_from}

unfoldable pub moving_cases : List Case
moving_cases =
    -- settle: the first open cell at or after the place, wrapping at the segment's end; if none, segment home
    obeys_from (replicate 5 0 ++ 206 ∷ []) (protect_at 6) (go_to 0 5) (Cursor 6 ∷ [])
    ∷ obeys_from (replicate 5 0 ++ 206 ∷ []) (cursor_at 6) (go_to 0 5) (Cursor 5 ∷ [])
    ∷ obeys (labelled 11 79 ++ halves ++ esc 0x26 ++ go_to 11 79) (Cursor 0 ∷ [])
    ∷ obeys (esc 0x4e ++ labelled 12 0 ++ labelled 23 79 ++ lower ++ esc 0x26 ++ go_to 11 79) (Cursor 961 ∷ [])
    ∷ obeys_from [] (lower_at 960) (esc 0x2c ++ esc 0x26 ++ go_to 3 3) (Cursor 960 ∷ [])
    -- a move that stays settles; protect-on settles, on already or not
    ∷ obeys_from (206 ∷ []) (protect_at 0) (0x08 ∷ []) (Cursor 1 ∷ [])
    ∷ obeys_from (206 ∷ []) (protect_at 0) (esc 0x6a) (Cursor 1 ∷ [])
    ∷ obeys_from (206 ∷ []) (protect_at 0) (esc 0x26) (Cursor 1 ∷ [])
    ∷ obeys_from (206 ∷ []) (cursor_at 0) (esc 0x26) (Cursor 1 ∷ [])
    -- the 128s bit alone says what is protected, whatever the kind
    ∷ obeys_from (0x1b4 ∷ 0xff80 ∷ 0x100 ∷ []) (cursor_at 0) (esc 0x26) (Cursor 2 ∷ [])
    -- split, unsplit and activation settle the active cursor, and no other
    ∷ obeys_from (206 ∷ []) (protect_at 1) halves (Segments 0 13 1 960 ∷ [])
    ∷ obeys_from (206 ∷ []) (lower_at 960) (esc 0x26 ++ esc 0x78 ++ 0x30 ∷ []) (Segments 0 0 1 0 ∷ [])
    ∷ obeys_from (replicate 960 0 ++ 206 ∷ []) (upper_at 0) (esc 0x26 ++ esc 0x7d) (Segments 1 13 0 961 ∷ [])
    ∷ obeys_from (replicate 960 0 ++ 206 ∷ []) (upper_at 0) (esc 0x26 ++ esc 0x4a) (Segments 1 13 0 961 ∷ [])
    ∷ obeys_from (replicate 960 0 ++ 206 ∷ []) (upper_at 0) (esc 0x26 ++ esc 0x4b) (Segments 1 13 0 961 ∷ [])
    ∷ obeys_from (206 ∷ []) (lower_at 960) (esc 0x26) (Segments 1 13 0 960 ∷ [])
    ∷ obeys_from (206 ∷ []) (lower_at 960) (esc 0x26 ++ esc 0x5d) (Segments 0 13 1 960 ∷ [])
    -- 08h: the previous open cell, across rows, in the segment; if none, stay
    ∷ obeys_from [] (cursor_at 80) (0x08 ∷ []) (Cursor 79 ∷ [])
    ∷ obeys (0x08 ∷ []) (Cursor 0 ∷ [])
    ∷ obeys_from [] (lower_at 960) (0x08 ∷ []) (Cursor 960 ∷ [])
    ∷ obeys_from (replicate 79 0 ++ 206 ∷ []) (protect_at 80) (0x08 ∷ []) (Cursor 78 ∷ [])
    -- 0Ch: the next cell, wrapping, never scrolling
    ∷ obeys_from [] (cursor_at 239) (0x0c ∷ []) (Cursor 240 ∷ [])
    ∷ obeys (0x41 ∷ [] ++ go_to 23 79 ++ 0x0c ∷ []) (Cell 0 0x41 ∷ Cursor 0 ∷ [])
    ∷ obeys_from [] (upper_at 959) (0x0c ∷ []) (Cursor 0 ∷ [])
    ∷ obeys_from [] (lower_at 1919) (0x0c ∷ []) (Cursor 960 ∷ [])
    ∷ obeys_from (0 ∷ 206 ∷ []) (protect_at 0) (0x0c ∷ []) (Cursor 2 ∷ [])
    -- 0Dh: column 1; 1Eh, ESC {: segment home
    ∷ obeys_from [] (cursor_at 165) (0x0d ∷ []) (Cursor 160 ∷ [])
    ∷ obeys_from [] (cursor_at 165) (0x1e ∷ []) (Cursor 0 ∷ [])
    ∷ obeys_from [] (lower_at 1125) (0x1e ∷ []) (Cursor 960 ∷ [])
    ∷ obeys_from [] (lower_at 1125) (esc 0x7b) (Cursor 960 ∷ [])
    -- 0Bh: up in column, top wraps to bottom
    ∷ obeys_from [] (cursor_at 165) (0x0b ∷ []) (Cursor 85 ∷ [])
    ∷ obeys (0x41 ∷ 0x0b ∷ []) (Cell 0 0x41 ∷ Cursor 1841 ∷ [])
    ∷ obeys_from [] (cursor_at 80) (0x0b ∷ []) (Cursor 0 ∷ [])
    ∷ obeys_from [] (upper_at 5) (0x0b ∷ []) (Cursor 885 ∷ [])
    ∷ obeys_from [] (lower_at 965) (0x0b ∷ []) (Cursor 1845 ∷ [])
    -- ESC j: up; at the top it scrolls the segment down if protect is off, whatever autoscroll is, else stays
    ∷ obeys_from three_letters (cursor_at 1) (esc 0x6a) (Cell 0 32 ∷ Cell 80 0x41 ∷ Cell 160 0x43 ∷ Cursor 1 ∷ [])
    ∷ obeys_from three_letters (cursor_at 1) (esc 0x26 ++ esc 0x6a) (Cell 0 0x41 ∷ Cell 80 0x43 ∷ Cursor 1 ∷ [])
    ∷ obeys_from three_letters (cursor_at 1) (esc 0x4e ++ esc 0x6a) (Cell 0 32 ∷ Cell 80 0x41 ∷ Cursor 1 ∷ [])
    ∷ obeys_from [] (cursor_at 165) (esc 0x6a) (Cursor 85 ∷ [])
    ∷ obeys_from three_letters (cursor_at 80) (esc 0x6a) (Cell 0 0x41 ∷ Cursor 0 ∷ [])
    ∷ obeys_from [] (cursor_at 880) (0x59 ∷ [] ++ go_to 12 0 ++ 0x58 ∷ [] ++ halves ++ esc 0x6a)
    (Cell 0 32 ∷ Cell 880 0 ∷ Cell 960 0x58 ∷ Cursor 0 ∷ [])
    ∷ obeys_from letters_below (lower_at 965) (esc 0x6a)
    (Cell 0 0x58 ∷ Cell 960 32 ∷ Cell 1039 32 ∷ Cell 1040 0x41 ∷ Cell 1120 0x42 ∷ Cursor 965 ∷ [])
    -- 0Ah: down in column; at the bottom scroll up if autoscroll is on and protect off, else wrap to the top
    ∷ obeys_from [] (cursor_at 165) (0x0a ∷ []) (Cursor 245 ∷ [])
    ∷ obeys (0x41 ∷ 0x1f ∷ 0x42 ∷ [] ++ go_to 23 5 ++ 0x0a ∷ []) (Cell 0 0x42 ∷ Cell 80 0 ∷ Cell 1840 32 ∷ Cell 1919 32 ∷ Cursor 1845 ∷ [])
    ∷ obeys (esc 0x4e ++ 0x41 ∷ [] ++ go_to 23 5 ++ 0x0a ∷ []) (Cell 0 0x41 ∷ Cursor 5 ∷ [])
    ∷ obeys (0x41 ∷ [] ++ esc 0x26 ++ go_to 23 5 ++ 0x0a ∷ []) (Cell 0 0x41 ∷ Cursor 5 ∷ [])
    ∷ obeys_from (replicate 960 0 ++ 0x58 ∷ []) (upper_at 0) (0x41 ∷ [] ++ go_to 11 0 ++ 0x0a ∷ [])
    (Cell 0 0 ∷ Cell 880 32 ∷ Cell 959 32 ∷ Cell 960 0x58 ∷ Cursor 880 ∷ [])
    ∷ obeys_from letters_below (lower_at 1845) (0x0a ∷ []) (Cell 0 0x58 ∷ Cell 960 0x42 ∷ Cell 1040 0 ∷ Cell 1840 32 ∷ Cursor 1845 ∷ [])
    ∷ obeys_from letters_below (lower_at 1041) (esc 0x4e ++ go_to 11 5 ++ 0x0a ∷ []) (Cell 960 0x41 ∷ Cursor 965 ∷ [])
    -- 1Fh: the same, at column 1
    ∷ obeys_from [] (cursor_at 165) (0x1f ∷ []) (Cursor 240 ∷ [])
    ∷ obeys_from letters_below (lower_at 1845) (0x1f ∷ []) (Cell 0 0x58 ∷ Cell 960 0x42 ∷ Cell 1840 32 ∷ Cursor 1840 ∷ [])
    ∷ obeys_from letters_below (lower_at 1041) (esc 0x4e ++ go_to 11 5 ++ 0x1f ∷ []) (Cell 960 0x41 ∷ Cursor 960 ∷ [])
    -- rows brought in are unprotected spaces, whatever write-protect is
    ∷ obeys (esc 0x29 ++ esc 0x6a) (Cell 0 32 ∷ Cell 79 32 ∷ Cell 80 0 ∷ [])
    ∷ obeys_from [] (cursor_at 1840) (esc 0x29 ++ 0x0a ∷ []) (Cell 1840 32 ∷ Cell 1919 32 ∷ [])
    -- a shifted or scrolled cell keeps its number
    ∷ obeys_from (0xffc1 ∷ []) wy50 (esc 0x6a) (Cell 80 0xffc1 ∷ [])
    ∷ obeys_from (0xffc1 ∷ []) wy50 (esc 0x51) (Cell 1 0xffc1 ∷ [])
    -- 09h, ESC i, protect off: the next tab stop to the right, else stay; protected cells are not looked at
    ∷ obeys_from [] (cursor_at 8) (esc 0x31 ++ go_to 1 3 ++ 0x09 ∷ []) (Cursor 88 ∷ [])
    ∷ obeys_from [] (cursor_at 8) (esc 0x31 ++ go_to 1 3 ++ esc 0x69) (Cursor 88 ∷ [])
    ∷ obeys_from [] (cursor_at 8) (esc 0x31 ++ go_to 1 9 ++ 0x09 ∷ []) (Cursor 89 ∷ [])
    ∷ obeys_from [] (cursor_at 8) (esc 0x31 ++ 0x09 ∷ []) (Cursor 8 ∷ [])
    ∷ obeys_from [] (cursor_at 8) (esc 0x31 ++ go_to 0 12 ++ esc 0x31 ++ go_to 1 8 ++ 0x09 ∷ []) (Cursor 92 ∷ [])
    ∷ obeys_from [] (cursor_at 8) (esc 0x31 ++ go_to 0 12 ++ esc 0x31 ++ go_to 1 2 ++ 0x09 ∷ []) (Cursor 88 ∷ [])
    ∷ obeys_from [] (cursor_at 79) (esc 0x31 ++ go_to 1 2 ++ 0x09 ∷ []) (Cursor 159 ∷ [])
    ∷ obeys_from (0 ∷ 206 ∷ []) (cursor_at 2) (0x1e ∷ 0x09 ∷ []) (Cursor 0 ∷ [])
    -- ESC I, protect off: the tab stop to the left, else column 1
    ∷ obeys_from [] (cursor_at 8) (esc 0x31 ++ go_to 1 9 ++ esc 0x49) (Cursor 88 ∷ [])
    ∷ obeys_from [] (cursor_at 8) (esc 0x31 ++ go_to 1 8 ++ esc 0x49) (Cursor 80 ∷ [])
    ∷ obeys_from [] (cursor_at 8) (esc 0x31 ++ go_to 0 12 ++ esc 0x31 ++ go_to 1 20 ++ esc 0x49) (Cursor 92 ∷ [])
    ∷ obeys_from [] (cursor_at 8) (esc 0x31 ++ esc 0x30 ++ go_to 1 9 ++ esc 0x49) (Cursor 80 ∷ [])
    -- protect on: the fields behind two labels, wrapping; tab stops are not looked at
    ∷ obeys_from (0 ∷ 206 ∷ [] ++ replicate 8 0 ++ 206 ∷ []) (protect_at 11) (0x1e ∷ 0x09 ∷ []) (Cursor 2 ∷ [])
    ∷ obeys_from (0 ∷ 206 ∷ [] ++ replicate 8 0 ++ 206 ∷ []) (protect_at 11) (0x1e ∷ 0x09 ∷ 0x09 ∷ []) (Cursor 11 ∷ [])
    ∷ obeys_from (0 ∷ 206 ∷ [] ++ replicate 8 0 ++ 206 ∷ []) (protect_at 11) (0x1e ∷ 0x09 ∷ 0x09 ∷ [] ++ esc 0x69) (Cursor 0 ∷ [])
    ∷ obeys_from (0 ∷ 206 ∷ [] ++ replicate 8 0 ++ 206 ∷ []) (protect_at 0) (esc 0x49) (Cursor 11 ∷ [])
    ∷ obeys_from (0 ∷ 206 ∷ [] ++ replicate 8 0 ++ 206 ∷ []) (protect_at 0) (esc 0x49 ++ esc 0x49) (Cursor 2 ∷ [])
    ∷ obeys_from [] (cursor_at 8) (esc 0x31 ++ labelled 0 10 ++ esc 0x26 ++ 0x1e ∷ 0x09 ∷ []) (Cursor 11 ∷ [])
    ∷ obeys_from (replicate 79 0 ++ 206 ∷ []) (protect_at 0) (0x09 ∷ []) (Cursor 80 ∷ [])
    -- a field start that is first in the segment; the cursor's own, last; none, home
    ∷ obeys_from (replicate 961 0 ++ 206 ∷ []) (lower_at 962) (esc 0x26 ++ 0x09 ∷ []) (Cursor 960 ∷ [])
    ∷ obeys_from (replicate 961 0 ++ 206 ∷ []) (lower_at 962) (esc 0x26 ++ esc 0x49) (Cursor 960 ∷ [])
    ∷ obeys_from (replicate 961 0 ++ 206 ∷ []) (lower_at 962) (esc 0x26 ++ 0x1e ∷ [] ++ esc 0x49) (Cursor 962 ∷ [])
    ∷ obeys_from (0 ∷ 206 ∷ 206 ∷ []) (protect_at 0) (0x09 ∷ []) (Cursor 3 ∷ [])
    ∷ obeys_from (0 ∷ 206 ∷ 206 ∷ []) (protect_at 3) (esc 0x49) (Cursor 0 ∷ [])
    ∷ obeys_from (206 ∷ []) (protect_at 1) (0x09 ∷ []) (Cursor 1 ∷ [])
    ∷ obeys_from (206 ∷ []) (protect_at 1) (esc 0x49) (Cursor 1 ∷ [])
    ∷ obeys_from [] (lower_at 960) (esc 0x2c ++ esc 0x26 ++ 0x09 ∷ []) (Cursor 960 ∷ [])
    ∷ obeys_from [] (lower_at 960) (esc 0x2c ++ esc 0x26 ++ esc 0x49) (Cursor 960 ∷ [])
    -- ESC =: within the segment, rows from its top; nothing moves before the last byte
    ∷ obeys (go_to 23 79) (Cursor 1919 ∷ [])
    ∷ obeys_from [] (lower_at 960) (go_to 1 2) (Cursor 1042 ∷ [])
    ∷ obeys (0x1b ∷ 0x3d ∷ 0x25 ∷ []) (Cursor 0 ∷ [])
    ∷ refuses 3 (0x1b ∷ 0x3d ∷ 0x25 ∷ 0x70 ∷ []) (Cursor 0 ∷ [])
    -- ESC -: to either segment, which becomes active; refused, nothing has moved
    ∷ obeys_from [] (upper_at 0) (esc 0x2d ++ 0x31 ∷ 0x21 ∷ 0x22 ∷ []) (Segments 1 13 0 1042 ∷ [])
    ∷ obeys_from [] (lower_at 960) (esc 0x2d ++ 0x30 ∷ 0x21 ∷ 0x22 ∷ []) (Segments 0 13 82 960 ∷ [])
    ∷ obeys (esc 0x2d ++ 0x30 ∷ 0x21 ∷ 0x22 ∷ []) (Cursor 82 ∷ [])
    ∷ obeys_from (replicate 1042 0 ++ 206 ∷ []) (upper_at 0) (esc 0x26 ++ esc 0x2d ++ 0x31 ∷ 0x21 ∷ 0x22 ∷ []) (Cursor 1043 ∷ [])
    ∷ refuses_from 3 [] (upper_at 0) (esc 0x2d ++ 0x31 ∷ 0x2c ∷ 0x20 ∷ []) (Segments 0 13 0 960 ∷ [])
    ∷ refuses 3 (esc 0x2d ++ 0x31 ∷ 0x20 ∷ 0x20 ∷ []) (Cursor 0 ∷ [])
    -- ESC a: digits, leading zeros, rows from the segment's top; the range is judged at C, the grammar at once
    ∷ obeys (0x1b ∷ 0x61 ∷ 0x33 ∷ 0x52 ∷ 0x30 ∷ 0x30 ∷ 0x35 ∷ 0x43 ∷ []) (Cursor 164 ∷ [])
    ∷ obeys_from [] (lower_at 960) (0x1b ∷ 0x61 ∷ 0x31 ∷ 0x32 ∷ 0x52 ∷ 0x38 ∷ 0x30 ∷ 0x43 ∷ []) (Cursor 1919 ∷ [])
    ∷ refuses_from 3 [] (lower_at 960) (0x1b ∷ 0x61 ∷ 0x31 ∷ 0x33 ∷ 0x52 ∷ 0x31 ∷ 0x43 ∷ []) (Cursor 960 ∷ [])
    ∷ refuses 3 (0x1b ∷ 0x61 ∷ 0x32 ∷ 0x35 ∷ 0x52 ∷ 0x31 ∷ 0x43 ∷ []) (Cursor 0 ∷ [])
    ∷ refuses 3 (0x1b ∷ 0x61 ∷ 0x30 ∷ 0x52 ∷ 0x31 ∷ 0x43 ∷ []) (Cursor 0 ∷ [])
    ∷ refuses 3 (0x1b ∷ 0x61 ∷ 0x31 ∷ 0x52 ∷ 0x38 ∷ 0x31 ∷ 0x43 ∷ []) (Cursor 0 ∷ [])
    ∷ refuses 3 (0x1b ∷ 0x61 ∷ 0x31 ∷ 0x52 ∷ 0x30 ∷ 0x43 ∷ []) (Cursor 0 ∷ [])
    ∷ refuses 3 (0x1b ∷ 0x61 ∷ 0x31 ∷ 0x32 ∷ 0x33 ∷ []) (Cursor 0 ∷ [])
    -- ESC x: both cursors go home, segment 0 is active, cells stay
    ∷ obeys_from [] (cursor_at 163) (0x41 ∷ [] ++ esc 0x78 ++ 0x31 ∷ 0x21 ∷ []) (Segments 0 2 0 80 ∷ Cell 163 0x41 ∷ [])
    ∷ obeys_from [] (upper_at 163) (esc 0x7d ++ go_to 1 1 ++ esc 0x78 ++ 0x31 ∷ 0x37 ∷ []) (Segments 0 24 0 1840 ∷ [])
    ∷ obeys_from [] (upper_at 163) (esc 0x7d ++ go_to 1 1 ++ esc 0x78 ++ 0x30 ∷ []) (Segments 0 0 0 0 ∷ [])
    ∷ refuses 3 (esc 0x78 ++ 0x32 ∷ []) (Segments 0 0 0 0 ∷ [])
    ∷ refuses_from 3 [] (lower_at 960) (esc 0x78 ++ 0x31 ∷ 0x38 ∷ []) (Segments 1 13 0 960 ∷ [])
    -- ESC J, ESC K: the other segment; unsplit nothing, no settling
    ∷ obeys_from [] (upper_at 0) (esc 0x4a) (Segments 1 13 0 960 ∷ [])
    ∷ obeys_from [] (upper_at 0) (esc 0x4b) (Segments 1 13 0 960 ∷ [])
    ∷ obeys_from [] (lower_at 960) (esc 0x4a) (Segments 0 13 0 960 ∷ [])
    ∷ obeys_from [] (lower_at 960) (esc 0x4b) (Segments 0 13 0 960 ∷ [])
    ∷ obeys_from (206 ∷ []) (protect_at 0) (esc 0x4a) (Cursor 0 ∷ [])
    ∷ obeys_from (206 ∷ []) (protect_at 0) (esc 0x4b) (Cursor 0 ∷ [])
    -- ESC ] segment 0, ESC } segment 1; unsplit the one settles, the other answers 3
    ∷ obeys_from [] (upper_at 163) (esc 0x7d) (Segments 1 13 163 960 ∷ [])
    ∷ obeys_from [] (upper_at 163) (esc 0x7d ++ esc 0x5d) (Segments 0 13 163 960 ∷ [])
    ∷ obeys_from (206 ∷ []) (protect_at 0) (esc 0x5d) (Cursor 1 ∷ [])
    ∷ refuses 3 (esc 0x7d) (Segments 0 0 0 0 ∷ [])
    ∷ []

-- what each of these commands changes (Frames)
unfoldable pub moving_trials : List (List Trial)
moving_trials =
    one [] (cursor_at 5) [] 0x08
    ∷ one [] (cursor_at 5) [] 0x0c
    ∷ one [] (cursor_at 165) [] 0x0d
    ∷ one [] (cursor_at 165) [] 0x1e
    ∷ one [] (cursor_at 165) [] 0x0b
    ∷ (trial [] (cursor_at 165) (0x1b ∷ []) 0x6a ∷ trial (replicate 1839 0 ++ 0x41 ∷ []) (cursor_at 5) (0x1b ∷ []) 0x6a ∷ [])
    ∷ (trial [] (cursor_at 165) [] 0x0a ∷ trial (0x41 ∷ []) (cursor_at 1845) [] 0x0a ∷ [])
    ∷ (trial [] (cursor_at 165) [] 0x1f ∷ trial (0x41 ∷ []) (cursor_at 1845) [] 0x1f ∷ [])
    ∷ one [] (cursor_at 8) (esc 0x31 ++ go_to 1 3) 0x09
    ∷ one [] (cursor_at 8) (0x1b ∷ []) 0x49
    ∷ one [] wy50 (0x1b ∷ 0x3d ∷ 0x25 ∷ []) 0x25
    ∷ one [] wy50 (0x1b ∷ 0x61 ∷ 0x33 ∷ 0x52 ∷ 0x35 ∷ []) 0x43
    -- segments
    ∷ one [] (placed_on false 1 13 5 965) (esc 0x78) 0x30
    ∷ one [] (placed_on false 1 13 5 965) (esc 0x78 ++ 0x31 ∷ []) 0x2a
    ∷ one (replicate 960 0 ++ 206 ∷ []) (upper_at 0) (esc 0x26 ++ 0x1b ∷ []) 0x4a
    ∷ one (206 ∷ []) (lower_at 960) (esc 0x26 ++ 0x1b ∷ []) 0x5d
    ∷ one (replicate 960 0 ++ 206 ∷ []) (upper_at 0) (esc 0x26 ++ 0x1b ∷ []) 0x7d
    ∷ one [] (upper_at 0) (0x1b ∷ 0x2d ∷ 0x31 ∷ 0x21 ∷ []) 0x22
    ∷ []
