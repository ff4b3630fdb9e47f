-- Worked cases of document 01, power-on and "Modes and replies".
use Rattle.std.specs.Prelude.{List, [], ◌∷◌, ◌++◌, replicate}
use Rattle.rules.specs.Calls.{Step, Press}
use Rattle.rules.specs.Cases.Bench.{wy50, Cell, Cursor, Replies, Answers, Segments, InModes, TabStops, FieldAttributes, Features, Bells, Case}
use Rattle.rules.specs.Cases.Bench.{from_start, from_page}
use Rattle.rules.specs.Cases.Trials.{Trial, one}
use Rattle.rules.specs.Cases.Inputs.{esc, go_to, labelled, letters_below, page_of, cursor_at, protect_at, lower_at, belled, obeys, obeys_from}
use Rattle.rules.specs.Cases.Inputs.{refuses_from}

unfoldable pub reply_cases : List Case
reply_cases =
    -- power-on: every member; no key is programmed, nothing is pending
    from_start []
    (Cell 0 0 ∷ Cell 1919 0 ∷ Segments 0 0 0 0 ∷ InModes (0 ∷ 0 ∷ 0 ∷ 1 ∷ 0 ∷ 0 ∷ []) ∷ TabStops []
    ∷ FieldAttributes (0x30 ∷ 0x30 ∷ 0x30 ∷ 0x30 ∷ []) ∷ Features (0x31 ∷ 0x35 ∷ 0x37 ∷ 0x39 ∷ 0x40 ∷ []) ∷ Bells 0 ∷ Answers [] ∷ Replies [] ∷ [])
    ∷ from_start (Press 0x4f 3 ∷ Press 0x60 3 ∷ []) (Answers (0 ∷ 0 ∷ []) ∷ Replies (0x01 ∷ 0x4f ∷ 0x0d ∷ 0x01 ∷ 0x60 ∷ 0x0d ∷ []) ∷ [])
    ∷ from_start (Step 0x3f 1944 ∷ []) (Cell 0 0x3f ∷ [])
    -- what a command does not name stays: ESC , leaves write-protect, CR insert mode
    ∷ obeys (esc 0x29 ++ esc 0x2c) (InModes (0 ∷ 1 ∷ 0 ∷ 1 ∷ 0 ∷ 0 ∷ []) ∷ [])
    ∷ obeys (esc 0x71 ++ 0x0d ∷ []) (InModes (0 ∷ 0 ∷ 1 ∷ 1 ∷ 0 ∷ 0 ∷ []) ∷ [])
    -- and modes and settings settle no cursor, on a guarded cell either; protect-off does not
    ∷ obeys_from (206 ∷ []) (protect_at 0) (esc 0x29) (Cursor 0 ∷ [])
    ∷ obeys_from (206 ∷ []) (protect_at 0) (esc 0x72) (Cursor 0 ∷ [])
    ∷ obeys_from (206 ∷ []) (protect_at 0) (esc 0x4f) (Cursor 0 ∷ [])
    ∷ obeys_from (206 ∷ []) (protect_at 0) (0x0f ∷ []) (Cursor 0 ∷ [])
    ∷ obeys_from (206 ∷ []) (protect_at 0) (esc 0x6b) (Cursor 0 ∷ [])
    ∷ obeys_from (206 ∷ []) (protect_at 0) (esc 0x31) (Cursor 0 ∷ TabStops (0 ∷ []) ∷ [])
    ∷ obeys_from (206 ∷ []) (protect_at 0) (esc 0x32) (Cursor 0 ∷ [])
    ∷ obeys_from (206 ∷ []) (protect_at 0) (esc 0x41 ++ 0x30 ∷ 0x38 ∷ []) (Cursor 0 ∷ [])
    ∷ obeys_from (206 ∷ []) (protect_at 0) (esc 0x60 ++ 0x30 ∷ []) (Cursor 0 ∷ [])
    -- the modes, on and off: protect, write-protect, insert, autoscroll, lock, local edit
    ∷ obeys (esc 0x26) (InModes (1 ∷ 0 ∷ 0 ∷ 1 ∷ 0 ∷ 0 ∷ []) ∷ [])
    ∷ obeys_from [] (protect_at 0) (esc 0x27) (InModes (0 ∷ 0 ∷ 0 ∷ 1 ∷ 0 ∷ 0 ∷ []) ∷ [])
    ∷ obeys (esc 0x29) (InModes (0 ∷ 1 ∷ 0 ∷ 1 ∷ 0 ∷ 0 ∷ []) ∷ [])
    ∷ obeys (esc 0x29 ++ esc 0x28) (InModes (0 ∷ 0 ∷ 0 ∷ 1 ∷ 0 ∷ 0 ∷ []) ∷ [])
    ∷ obeys (esc 0x71) (InModes (0 ∷ 0 ∷ 1 ∷ 1 ∷ 0 ∷ 0 ∷ []) ∷ [])
    ∷ obeys (esc 0x71 ++ esc 0x72) (InModes (0 ∷ 0 ∷ 0 ∷ 1 ∷ 0 ∷ 0 ∷ []) ∷ [])
    ∷ obeys (esc 0x4e) (InModes (0 ∷ 0 ∷ 0 ∷ 0 ∷ 0 ∷ 0 ∷ []) ∷ [])
    ∷ obeys (esc 0x4e ++ esc 0x4f) (InModes (0 ∷ 0 ∷ 0 ∷ 1 ∷ 0 ∷ 0 ∷ []) ∷ [])
    ∷ obeys (0x0f ∷ []) (InModes (0 ∷ 0 ∷ 0 ∷ 1 ∷ 1 ∷ 0 ∷ []) ∷ [])
    ∷ obeys (esc 0x23) (InModes (0 ∷ 0 ∷ 0 ∷ 1 ∷ 1 ∷ 0 ∷ []) ∷ [])
    ∷ obeys (0x0f ∷ 0x0e ∷ []) (InModes (0 ∷ 0 ∷ 0 ∷ 1 ∷ 0 ∷ 0 ∷ []) ∷ [])
    ∷ obeys (0x0f ∷ [] ++ esc 0x22) (InModes (0 ∷ 0 ∷ 0 ∷ 1 ∷ 0 ∷ 0 ∷ []) ∷ [])
    ∷ obeys (esc 0x6b) (InModes (0 ∷ 0 ∷ 0 ∷ 1 ∷ 0 ∷ 1 ∷ []) ∷ [])
    ∷ obeys (esc 0x6b ++ esc 0x6c) (InModes (0 ∷ 0 ∷ 0 ∷ 1 ∷ 0 ∷ 0 ∷ []) ∷ [])
    -- each leaves the other modes
    ∷ obeys_from [] (protect_at 0) (esc 0x29 ++ esc 0x71 ++ 0x0f ∷ [] ++ esc 0x6b ++ esc 0x4f) (InModes (1 ∷ 1 ∷ 1 ∷ 1 ∷ 1 ∷ 1 ∷ []) ∷ [])
    ∷ obeys_from [] (protect_at 0) (esc 0x29 ++ esc 0x71 ++ 0x0f ∷ [] ++ esc 0x6b ++ esc 0x27) (InModes (0 ∷ 1 ∷ 1 ∷ 1 ∷ 1 ∷ 1 ∷ []) ∷ [])
    ∷ obeys (esc 0x4f ++ esc 0x6b ++ 0x0f ∷ [] ++ esc 0x71 ++ esc 0x29 ++ esc 0x26) (InModes (1 ∷ 1 ∷ 1 ∷ 1 ∷ 1 ∷ 1 ∷ []) ∷ [])
    -- the lock bars key presses only
    ∷ obeys (0x0f ∷ 0x41 ∷ []) (Cell 0 0x41 ∷ Cursor 1 ∷ [])
    -- ESC 1, 2, 0 set, clear, clear all tab stops
    ∷ obeys_from [] (cursor_at 8) (esc 0x31 ++ go_to 1 79 ++ esc 0x31 ++ go_to 2 3 ++ esc 0x31) (TabStops (3 ∷ 8 ∷ 79 ∷ []) ∷ Cursor 163 ∷ [])
    ∷ obeys_from [] (cursor_at 8) (esc 0x31 ++ go_to 0 79 ++ esc 0x31 ++ go_to 2 8 ++ esc 0x32) (TabStops (79 ∷ []) ∷ Cursor 168 ∷ [])
    ∷ obeys_from [] (cursor_at 8) (esc 0x31 ++ go_to 0 79 ++ esc 0x31 ++ esc 0x30) (TabStops [] ∷ Cursor 79 ∷ [])
    -- ESC A n attr
    ∷ obeys (esc 0x41 ++ 0x30 ∷ 0x34 ∷ [] ++ esc 0x41 ++ 0x33 ∷ 0x7e ∷ [])
    (FieldAttributes (0x34 ∷ 0x30 ∷ 0x30 ∷ 0x7e ∷ []) ∷ Cell 0 0 ∷ Cursor 0 ∷ [])
    ∷ obeys (esc 0x41 ++ 0x31 ∷ 0x20 ∷ [] ++ esc 0x41 ++ 0x32 ∷ 0x70 ∷ []) (FieldAttributes (0x30 ∷ 0x20 ∷ 0x70 ∷ 0x30 ∷ []) ∷ [])
    -- ESC ` f: each code sets its one feature; 3Ah sets none, since A11 a wish
    ∷ obeys (esc 0x60 ++ 0x30 ∷ [] ++ esc 0x60 ++ 0x32 ∷ [] ++ esc 0x60 ++ 0x36 ∷ [] ++ esc 0x60 ++ 0x38 ∷ [] ++ esc 0x60 ++ 0x3c ∷ [])
    (Features (0x30 ∷ 0x32 ∷ 0x36 ∷ 0x38 ∷ 0x3c ∷ []) ∷ [])
    ∷ obeys (esc 0x60 ++ 0x30 ∷ [] ++ esc 0x60 ++ 0x31 ∷ [] ++ esc 0x60 ++ 0x33 ∷ [] ++ esc 0x60 ++ 0x41 ∷ [] ++ esc 0x60 ++ 0x3d ∷ [])
    (Features (0x31 ∷ 0x33 ∷ 0x41 ∷ 0x39 ∷ 0x3d ∷ []) ∷ [])
    ∷ obeys (esc 0x60 ++ 0x34 ∷ [] ++ esc 0x60 ++ 0x36 ∷ [] ++ esc 0x60 ++ 0x37 ∷ [] ++ esc 0x60 ++ 0x38 ∷ [] ++ esc 0x60 ++ 0x39 ∷ [] ++ esc 0x60
    ++ 0x3e ∷ [])
    (Features (0x31 ∷ 0x34 ∷ 0x37 ∷ 0x39 ∷ 0x3e ∷ []) ∷ [])
    ∷ obeys (esc 0x60 ++ 0x34 ∷ [] ++ esc 0x60 ++ 0x35 ∷ [] ++ esc 0x60 ++ 0x3f ∷ []) (Features (0x31 ∷ 0x35 ∷ 0x37 ∷ 0x39 ∷ 0x3f ∷ []) ∷ [])
    ∷ obeys (esc 0x60 ++ 0x3f ∷ [] ++ esc 0x60 ++ 0x40 ∷ [] ++ esc 0x60 ++ 0x3a ∷ []) (Features (0x31 ∷ 0x35 ∷ 0x37 ∷ 0x39 ∷ 0x40 ∷ []) ∷ [])
    -- 07h counts a bell, modulo 256
    ∷ obeys (0x07 ∷ 0x07 ∷ []) (Bells 2 ∷ Cell 0 0 ∷ Cursor 0 ∷ [])
    ∷ obeys_from [] (belled 255) (0x07 ∷ []) (Bells 0 ∷ [])
    -- other control codes and 7Fh: no action
    ∷ obeys (0x00 ∷ 0x01 ∷ 0x02 ∷ 0x03 ∷ 0x04 ∷ 0x06 ∷ 0x10 ∷ 0x11 ∷ 0x12 ∷ 0x13 ∷ 0x14 ∷ 0x15 ∷ 0x16 ∷ 0x17 ∷ 0x18 ∷ 0x19 ∷ 0x1c ∷ 0x1d ∷ 0x7f ∷ [])
    (Cell 0 0 ∷ Segments 0 0 0 0 ∷ InModes (0 ∷ 0 ∷ 0 ∷ 1 ∷ 0 ∷ 0 ∷ []) ∷ Bells 0 ∷ Replies [] ∷ [])
    ∷ obeys_from (206 ∷ []) (protect_at 0) (0x00 ∷ 0x7f ∷ []) (Cursor 0 ∷ [])
    -- 05h, ESC SPACE
    ∷ obeys (0x05 ∷ [] ++ esc 0x20) (Replies (0x06 ∷ 0x35 ∷ 0x30 ∷ 0x0d ∷ []) ∷ [])
    -- ESC ?, ESC /, ESC b: rows count from the segment's top
    ∷ obeys_from [] (cursor_at 165) (esc 0x3f ++ esc 0x2f ++ esc 0x62)
    (Replies (0x22 ∷ 0x25 ∷ 0x0d ∷ 0x30 ∷ 0x22 ∷ 0x25 ∷ 0x0d ∷ 0x30 ∷ 0x33 ∷ 0x52 ∷ 0x30 ∷ 0x30 ∷ 0x36 ∷ 0x43 ∷ []) ∷ Cursor 165 ∷ [])
    ∷ obeys_from [] (lower_at 1125) (esc 0x3f ++ esc 0x2f ++ esc 0x62)
    (Replies (0x22 ∷ 0x25 ∷ 0x0d ∷ 0x31 ∷ 0x22 ∷ 0x25 ∷ 0x0d ∷ 0x30 ∷ 0x33 ∷ 0x52 ∷ 0x30 ∷ 0x30 ∷ 0x36 ∷ 0x43 ∷ []) ∷ Cursor 1125 ∷ [])
    ∷ obeys_from [] (cursor_at 1919) (esc 0x3f ++ esc 0x62) (Replies (0x37 ∷ 0x6f ∷ 0x0d ∷ 0x32 ∷ 0x34 ∷ 0x52 ∷ 0x30 ∷ 0x38 ∷ 0x30 ∷ 0x43 ∷ []) ∷ [])
    -- ESC M: the cursor cell, no CR; guarded 4, before 6
    ∷ obeys (0x41 ∷ 0x08 ∷ [] ++ esc 0x4d) (Replies (0x41 ∷ []) ∷ Cursor 0 ∷ [])
    ∷ obeys_from (206 ∷ []) wy50 (esc 0x4d) (Replies (0x4e ∷ []) ∷ [])
    ∷ refuses_from 4 (206 ∷ []) (protect_at 0) (esc 0x4d) (Replies [] ∷ [])
    ∷ from_page (page_of (206 ∷ [])) (protect_at 0) (Step 0x1b 0 ∷ Step 0x4d 0 ∷ []) (Answers (0 ∷ 4 ∷ []) ∷ [])
    -- a text cell with code 20h to 7Eh goes as its code, any other cell as 20h
    ∷ obeys_from (0x1f ∷ 0x20 ∷ 0x7e ∷ 0x7f ∷ 0x141 ∷ 0x241 ∷ 0x341 ∷ 0xff41 ∷ 0xc1 ∷ 0x00 ∷ []) wy50 (go_to 0 9 ++ esc 0x36)
    (Replies (0x20 ∷ 0x20 ∷ 0x7e ∷ 0x20 ∷ 0x20 ∷ 0x20 ∷ 0x20 ∷ 0x20 ∷ 0x41 ∷ 0x20 ∷ 0x0d ∷ []) ∷ Cursor 9 ∷ [])
    -- ESC 6: the row from column 1 through the cursor, then CR, protected cells too; ESC 4: the same with an FS for each stretch of protected cells
    ∷ obeys (0x41 ∷ 0x1f ∷ [] ++ labelled 1 1 ++ 0x42 ∷ [] ++ esc 0x26 ++ esc 0x36) (Replies (0x20 ∷ 0x4e ∷ 0x42 ∷ 0x20 ∷ 0x0d ∷ []) ∷ [])
    ∷ obeys (0x41 ∷ 0x1f ∷ [] ++ labelled 1 1 ++ 0x42 ∷ [] ++ esc 0x26 ++ esc 0x34) (Replies (0x20 ∷ 0x1c ∷ 0x42 ∷ 0x20 ∷ 0x0d ∷ []) ∷ [])
    ∷ obeys_from (0 ∷ 206 ∷ []) (cursor_at 2) (0x42 ∷ [] ++ esc 0x34) (Replies (0x20 ∷ 0x1c ∷ 0x42 ∷ 0x20 ∷ 0x0d ∷ []) ∷ [])
    ∷ obeys_from (206 ∷ []) (protect_at 0) (esc 0x34) (Replies (0x1c ∷ 0x0d ∷ []) ∷ Cursor 0 ∷ [])
    -- ESC 7: segment home through the cursor, US between rows, then CR; ESC 5: an FS for each stretch of protected cells, the US stays
    ∷ obeys (0x41 ∷ 0x1f ∷ 0x42 ∷ [] ++ esc 0x37) (Replies (0x41 ∷ replicate 79 32 ++ 0x1f ∷ 0x42 ∷ 0x20 ∷ 0x0d ∷ []) ∷ [])
    ∷ obeys_from (206 ∷ [] ++ replicate 79 0 ++ 206 ∷ []) (cursor_at 81) (0x42 ∷ [] ++ esc 0x26 ++ esc 0x37)
    (Replies (0x4e ∷ replicate 79 32 ++ 0x1f ∷ 0x4e ∷ 0x42 ∷ 0x20 ∷ 0x0d ∷ []) ∷ [])
    ∷ obeys_from (206 ∷ [] ++ replicate 79 0 ++ 206 ∷ []) (cursor_at 81) (0x42 ∷ [] ++ esc 0x26 ++ esc 0x35)
    (Replies (0x1c ∷ replicate 79 32 ++ 0x1f ∷ 0x1c ∷ 0x42 ∷ 0x20 ∷ 0x0d ∷ []) ∷ [])
    ∷ obeys_from (206 ∷ []) (cursor_at 1) (0x42 ∷ [] ++ esc 0x35) (Replies (0x1c ∷ 0x42 ∷ 0x20 ∷ 0x0d ∷ []) ∷ [])
    ∷ obeys_from letters_below (lower_at 1041) (esc 0x37) (Replies (0x41 ∷ replicate 79 32 ++ 0x1f ∷ 0x42 ∷ 0x20 ∷ 0x0d ∷ []) ∷ [])
    ∷ obeys_from letters_below (lower_at 1041) (esc 0x35) (Replies (0x41 ∷ replicate 79 32 ++ 0x1f ∷ 0x42 ∷ 0x20 ∷ 0x0d ∷ []) ∷ [])
    ∷ []

-- what the modes, the settings and the texts change (Frames)
unfoldable pub mode_trials : List (List Trial)
mode_trials =
    one [] wy50 (0x1b ∷ []) 0x29
    ∷ one [] wy50 (0x1b ∷ []) 0x71
    ∷ one [] wy50 (0x1b ∷ []) 0x4e
    ∷ one [] wy50 [] 0x0f
    ∷ one [] wy50 (0x1b ∷ []) 0x6b
    ∷ one (206 ∷ []) wy50 (0x1b ∷ []) 0x26
    ∷ one [] (protect_at 5) (0x1b ∷ []) 0x27
    ∷ one [] wy50 [] 0x07
    -- settings
    ∷ one [] (cursor_at 5) (0x1b ∷ []) 0x31
    ∷ one [] (cursor_at 5) (esc 0x31 ++ 0x1b ∷ []) 0x30
    ∷ one [] wy50 (0x1b ∷ 0x41 ∷ 0x31 ∷ []) 0x38
    ∷ one [] wy50 (esc 0x60) 0x30
    ∷ one [] wy50 (0x1b ∷ 0x7a ∷ 0x50 ∷ 0x41 ∷ 0x0d ∷ 0x1b ∷ 0x7a ∷ []) 0x7f
    ∷ one [] wy50 (esc 0x60) 0x3b
    -- texts
    ∷ one [] wy50 (0x1b ∷ 0x7a ∷ 0x40 ∷ 0x41 ∷ []) 0x7f
    ∷ one [] wy50 (0x1b ∷ 0x7a ∷ 0x50 ∷ 0x41 ∷ []) 0x0d
    ∷ one [] wy50 (0x1b ∷ 0x46 ∷ 0x41 ∷ []) 0x0d
    ∷ []
