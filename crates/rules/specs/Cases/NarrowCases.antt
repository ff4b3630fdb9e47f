-- Worked cases of replies through a narrow line, by the sentences of request A9 of document 02.
use Rattle.std.specs.Prelude.{Bool, true, false, List, [], ◌∷◌, ◌++◌, ℕ, replicate}
use Rattle.rules.specs.declared.State.{State}
use Rattle.rules.specs.declared.Short.TheVariants as Short
use Rattle.rules.specs.declared.Place.{Place}
use Rattle.rules.specs.declared.Place.TheVariants as Place
use Rattle.rules.specs.declared.Sending.{Sending}
use Rattle.rules.specs.declared.Sending.TheVariants as Sending
use Rattle.rules.specs.State.{with_sending}
use Rattle.rules.specs.Possible.{blank}
use Rattle.rules.specs.Calls.{Step, Run, Press}
use Rattle.rules.specs.Cases.Bench.{wy50, Cell, Cursor, Replies, Answers, Counts, Rests, InModes, Stands, Case, from_start, from_page, host}
use Rattle.rules.specs.Cases.Inputs.{esc, page_of, cursor_at, protect_at, lower_at}

-- a send of ESC 4 to ESC 7 at a place
abbrev pub row : Place → Sending
row k = Sending.Text false false k

abbrev pub segment : Place → Sending
segment k = Sending.Text false true k

abbrev pub whole_row : Place → Sending
whole_row k = Sending.Text true false k

abbrev pub whole_segment : Place → Sending
whole_segment k = Sending.Text true true k

-- a label of three cells, A B, a label of two cells, C
unfoldable pub form : List ℕ
form = 206 ∷ 206 ∷ 206 ∷ 0x41 ∷ 0x42 ∷ 206 ∷ 206 ∷ 0x43 ∷ []

-- A, then 79 nulls, and B at the start of row 2
unfoldable pub two_rows : List ℕ
two_rows = 0x41 ∷ replicate 79 0 ++ 0x42 ∷ []

unfoldable pub narrow_cases : List Case
narrow_cases =
    -- a send whose reply does not fit begins, and goes on before any byte is taken: A waits
    from_start (Step 0x1b 0 ∷ Step 0x3f 2 ∷ Step 0x41 1 ∷ Step 0x41 0 ∷ [])
    (Answers (0 ∷ 0 ∷ 0 ∷ 0 ∷ []) ∷ Counts (1 ∷ 0 ∷ 1 ∷ 2 ∷ 0 ∷ 1 ∷ 1 ∷ 0 ∷ []) ∷ Replies (0x20 ∷ 0x20 ∷ 0x0d ∷ []) ∷ Cell 0 0x41
    ∷ Stands Sending.Nothing ∷ [])
    -- with room left the byte waits all the same, 80h and above too
    ∷ from_start (Step 0x1b 0 ∷ Step 0x3f 1 ∷ Step 0xe9 9 ∷ Step 0xe9 9 ∷ [])
    (Answers (0 ∷ 0 ∷ 0 ∷ 1 ∷ []) ∷ Counts (1 ∷ 0 ∷ 1 ∷ 1 ∷ 0 ∷ 2 ∷ 1 ∷ 0 ∷ []) ∷ Replies (0x20 ∷ 0x20 ∷ 0x0d ∷ []) ∷ [])
    -- without room 6 to any byte, and nothing has changed
    ∷ from_start (Step 0x1b 0 ∷ Step 0x3f 1 ∷ Step 0x41 0 ∷ Step 0xe9 0 ∷ Step 0x1b 0 ∷ [])
    (Answers (0 ∷ 0 ∷ 6 ∷ 6 ∷ 6 ∷ []) ∷ Counts (1 ∷ 0 ∷ 1 ∷ 1 ∷ 0 ∷ 0 ∷ 0 ∷ 0 ∷ 0 ∷ 0 ∷ []) ∷ Cell 0 0 ∷ Stands (Sending.Short Short.Cursor 1) ∷ [])
    -- 6 means only that room is zero while a reply is due; 3 and 4 come before it
    ∷ from_start (Step 0x05 0 ∷ Step 0x05 1 ∷ []) (Answers (6 ∷ 0 ∷ []) ∷ Replies (0x06 ∷ []) ∷ Stands Sending.Nothing ∷ [])
    ∷ from_start (host (esc 0x78 ++ 0x31 ∷ []) ++ Step 0x20 0 ∷ []) (Answers (0 ∷ 0 ∷ 0 ∷ 3 ∷ []) ∷ [])
    -- each short reply, at each of its places
    ∷ from_start (Step 0x1b 0 ∷ Step 0x20 1 ∷ []) (Replies (0x35 ∷ []) ∷ Stands (Sending.Short Short.Identity 1) ∷ [])
    ∷ from_start (Step 0x1b 0 ∷ Step 0x20 2 ∷ []) (Replies (0x35 ∷ 0x30 ∷ []) ∷ Stands (Sending.Short Short.Identity 2) ∷ [])
    ∷ from_start (Step 0x1b 0 ∷ Step 0x20 1 ∷ Run [] 1 ∷ Run [] 1 ∷ Run [] 1 ∷ [])
    (Answers (0 ∷ 0 ∷ 0 ∷ 0 ∷ 0 ∷ []) ∷ Counts (1 ∷ 0 ∷ 1 ∷ 1 ∷ 0 ∷ 1 ∷ 0 ∷ 0 ∷ 1 ∷ 0 ∷ 0 ∷ 0 ∷ 0 ∷ []) ∷ Replies (0x35 ∷ 0x30 ∷ 0x0d ∷ []) ∷ [])
    ∷ from_page blank (lower_at 1041) (Step 0x1b 0 ∷ Step 0x2f 2 ∷ [])
    (Replies (0x31 ∷ 0x21 ∷ []) ∷ Stands (Sending.Short Short.SegmentCursor 2) ∷ [])
    ∷ from_page blank (lower_at 1041) (Step 0x1b 0 ∷ Step 0x2f 3 ∷ Step 0x2f 3 ∷ [])
    (Replies (0x31 ∷ 0x21 ∷ 0x21 ∷ 0x0d ∷ []) ∷ Stands Sending.Nothing ∷ [])
    ∷ from_start (Step 0x1b 0 ∷ Step 0x62 3 ∷ []) (Replies (0x30 ∷ 0x31 ∷ 0x52 ∷ []) ∷ Stands (Sending.Short Short.DecimalCursor 3) ∷ [])
    ∷ from_start (Step 0x1b 0 ∷ Step 0x62 6 ∷ Step 0x00 1 ∷ [])
    (Replies (0x30 ∷ 0x31 ∷ 0x52 ∷ 0x30 ∷ 0x30 ∷ 0x31 ∷ 0x43 ∷ []) ∷ Stands Sending.Nothing ∷ [])
    -- ESC M is one byte and leaves no place; a guarded cell 4 before 6
    ∷ from_start (Step 0x1b 0 ∷ Step 0x4d 0 ∷ Step 0x4d 1 ∷ []) (Answers (0 ∷ 6 ∷ 0 ∷ []) ∷ Replies (0x20 ∷ []) ∷ Stands Sending.Nothing ∷ [])
    ∷ from_page (page_of (206 ∷ [])) (protect_at 0) (Step 0x1b 0 ∷ Step 0x4d 0 ∷ []) (Answers (0 ∷ 4 ∷ []) ∷ [])
    -- a text: the place is the very next one after the last byte sent; after an FS it is the next cell, inside the stretch
    ∷ from_page (page_of form) (cursor_at 7) (Step 0x1b 0 ∷ Step 0x34 1 ∷ []) (Replies (0x1c ∷ []) ∷ Stands (row (Place.Cell 1)) ∷ [])
    ∷ from_page (page_of form) (cursor_at 7) (Step 0x1b 0 ∷ Step 0x34 2 ∷ []) (Replies (0x1c ∷ 0x41 ∷ []) ∷ Stands (row (Place.Cell 4)) ∷ [])
    ∷ from_page (page_of form) (cursor_at 7) (Step 0x1b 0 ∷ Step 0x35 3 ∷ [])
    (Replies (0x1c ∷ 0x41 ∷ 0x42 ∷ []) ∷ Stands (segment (Place.Cell 5)) ∷ [])
    ∷ from_page (page_of form) (cursor_at 7) (Step 0x1b 0 ∷ Step 0x35 4 ∷ [])
    (Replies (0x1c ∷ 0x41 ∷ 0x42 ∷ 0x1c ∷ []) ∷ Stands (segment (Place.Cell 6)) ∷ [])
    ∷ from_page (page_of form) (cursor_at 7) (Step 0x1b 0 ∷ Step 0x35 5 ∷ [])
    (Replies (0x1c ∷ 0x41 ∷ 0x42 ∷ 0x1c ∷ 0x43 ∷ []) ∷ Stands (segment Place.Return) ∷ [])
    ∷ from_page (page_of form) (cursor_at 7) (Step 0x1b 0 ∷ Step 0x35 6 ∷ [])
    (Replies (0x1c ∷ 0x41 ∷ 0x42 ∷ 0x1c ∷ 0x43 ∷ 0x0d ∷ []) ∷ Stands Sending.Nothing ∷ [])
    ∷ from_page (page_of form) (cursor_at 7) (Step 0x1b 0 ∷ Step 0x36 1 ∷ []) (Replies (0x4e ∷ []) ∷ Stands (whole_row (Place.Cell 1)) ∷ [])
    ∷ from_page (page_of form) (cursor_at 7) (Step 0x1b 0 ∷ Step 0x37 8 ∷ []) (Stands (whole_segment Place.Return) ∷ [])
    -- a stretch at the end of the row: the place inside it, and then CR
    ∷ from_page (page_of (0x41 ∷ 206 ∷ 206 ∷ [])) (cursor_at 2) (Step 0x1b 0 ∷ Step 0x34 2 ∷ [])
    (Replies (0x41 ∷ 0x1c ∷ []) ∷ Stands (row (Place.Cell 2)) ∷ [])
    ∷ from_page (page_of (0x41 ∷ 206 ∷ 206 ∷ [])) (cursor_at 2) (Step 0x1b 0 ∷ Step 0x34 2 ∷ Run [] 1 ∷ [])
    (Replies (0x41 ∷ 0x1c ∷ 0x0d ∷ []) ∷ Stands Sending.Nothing ∷ [])
    -- at a US, and behind it
    ∷ from_page (page_of two_rows) (cursor_at 80) (Run (esc 0x35) 80 ∷ []) (Counts (2 ∷ 80 ∷ 0 ∷ []) ∷ Stands (segment (Place.Break 80)) ∷ [])
    ∷ from_page (page_of two_rows) (cursor_at 80) (Run (esc 0x35) 81 ∷ []) (Counts (2 ∷ 81 ∷ 0 ∷ []) ∷ Stands (segment (Place.Cell 80)) ∷ [])
    ∷ from_page (page_of two_rows) (cursor_at 80) (Run (esc 0x35) 80 ∷ Run [] 9 ∷ [])
    (Replies (0x41 ∷ replicate 79 32 ++ 0x1f ∷ 0x42 ∷ 0x0d ∷ []) ∷ [])
    ∷ from_page (page_of two_rows) (cursor_at 80) (Run (esc 0x37) 81 ∷ Step 0x00 1 ∷ Step 0x00 1 ∷ [])
    (Replies (0x41 ∷ replicate 79 32 ++ 0x1f ∷ 0x42 ∷ 0x0d ∷ []) ∷ [])
    -- of the lower segment
    ∷ from_page blank (lower_at 1041) (Run (esc 0x35) 81 ∷ []) (Stands (segment (Place.Cell 1040)) ∷ [])
    ∷ from_page blank (lower_at 1041) (Run (esc 0x34) 1 ∷ []) (Stands (row (Place.Cell 1041)) ∷ [])
    -- the rest is read from the page as it stands: a protected cell gives FS if the cell before it is not protected now
    ∷ from_page (page_of (0x41 ∷ 206 ∷ 206 ∷ 0x42 ∷ [])) (with_sending (cursor_at 3) (row (Place.Cell 2))) (Run [] 9 ∷ [])
    (Replies (0x42 ∷ 0x0d ∷ []) ∷ [])
    ∷ from_page (page_of (0x41 ∷ 0x43 ∷ 206 ∷ 0x42 ∷ [])) (with_sending (cursor_at 3) (row (Place.Cell 2))) (Run [] 9 ∷ [])
    (Replies (0x1c ∷ 0x42 ∷ 0x0d ∷ []) ∷ [])
    ∷ from_page (page_of (replicate 81 206)) (with_sending (cursor_at 80) (segment (Place.Cell 80))) (Run [] 9 ∷ []) (Replies (0x1c ∷ 0x0d ∷ []) ∷ [])
    ∷ from_page (page_of (206 ∷ 206 ∷ [])) (with_sending (cursor_at 1) (whole_row (Place.Cell 1))) (Run [] 9 ∷ []) (Replies (0x4e ∷ 0x0d ∷ []) ∷ [])
    -- by the cursor's extent as it stands
    ∷ from_page blank (with_sending (cursor_at 3) (row (Place.Cell 1))) (Run [] 9 ∷ []) (Replies (0x20 ∷ 0x20 ∷ 0x20 ∷ 0x0d ∷ []) ∷ [])
    ∷ from_page blank (with_sending (cursor_at 3) (row Place.Return)) (Run [] 9 ∷ []) (Replies (0x0d ∷ []) ∷ [])
    -- a run: a byte whose reply begins and does not end is taken and stops it with 0
    ∷ from_start (Run (esc 0x20 ++ 0x41 ∷ []) 1 ∷ []) (Answers (0 ∷ []) ∷ Counts (2 ∷ 1 ∷ 0 ∷ []) ∷ Rests (0x41 ∷ []) ∷ Cell 0 0 ∷ [])
    -- a send that ends exactly with the room does not stop it; a byte whose reply is due with no room left does, with 6
    ∷ from_start (Run (esc 0x20 ++ 0x41 ∷ []) 3 ∷ []) (Answers (0 ∷ []) ∷ Counts (3 ∷ 3 ∷ 0 ∷ []) ∷ Rests [] ∷ Cell 0 0x41 ∷ [])
    ∷ from_start (Run (esc 0x20 ++ 0x41 ∷ 0x05 ∷ 0x42 ∷ []) 3 ∷ [])
    (Answers (6 ∷ []) ∷ Counts (3 ∷ 3 ∷ 0 ∷ []) ∷ Rests (0x05 ∷ 0x42 ∷ []) ∷ Cell 0 0x41 ∷ Cell 1 0 ∷ [])
    -- inside a send: it goes on first, and then the bytes; where it is not over, 0 and the whole input back
    ∷ from_start (Run (esc 0x20) 1 ∷ Run (0x41 ∷ 0x05 ∷ []) 3 ∷ [])
    (Answers (0 ∷ 0 ∷ []) ∷ Counts (2 ∷ 1 ∷ 0 ∷ 2 ∷ 3 ∷ 0 ∷ []) ∷ Rests [] ∷ Replies (0x35 ∷ 0x30 ∷ 0x0d ∷ 0x06 ∷ []) ∷ Cell 0 0x41 ∷ [])
    ∷ from_start (Run (esc 0x20) 1 ∷ Run (0x41 ∷ 0x05 ∷ []) 2 ∷ [])
    (Answers (0 ∷ 6 ∷ []) ∷ Counts (2 ∷ 1 ∷ 0 ∷ 1 ∷ 2 ∷ 0 ∷ []) ∷ Rests (0x05 ∷ []) ∷ Replies (0x35 ∷ 0x30 ∷ 0x0d ∷ []) ∷ Cell 0 0x41 ∷ [])
    ∷ from_start (Run (esc 0x20) 1 ∷ Run (0x41 ∷ 0x42 ∷ []) 1 ∷ [])
    (Answers (0 ∷ 0 ∷ []) ∷ Counts (2 ∷ 1 ∷ 0 ∷ 0 ∷ 1 ∷ 0 ∷ []) ∷ Rests (0x41 ∷ 0x42 ∷ []) ∷ Replies (0x35 ∷ 0x30 ∷ []) ∷ Cell 0 0 ∷ [])
    -- of the longest reply 1,943 bytes are left: one more is room for 05h and its reply, and with no more that byte answers 6
    ∷ from_page blank (with_sending (cursor_at 1919) (whole_segment (Place.Cell 1))) (Run (0x05 ∷ []) 1944 ∷ [])
    (Answers (0 ∷ []) ∷ Counts (1 ∷ 1944 ∷ 0 ∷ []) ∷ [])
    ∷ from_page blank (with_sending (cursor_at 1919) (whole_segment (Place.Cell 1))) (Run (0x05 ∷ []) 1943 ∷ [])
    (Answers (6 ∷ []) ∷ Counts (0 ∷ 1943 ∷ 0 ∷ []) ∷ [])
    -- no room: 6 over bytes, 0 over none
    ∷ from_start (Run (esc 0x20) 1 ∷ Run (0x41 ∷ []) 0 ∷ Run [] 0 ∷ [])
    (Answers (0 ∷ 6 ∷ 0 ∷ []) ∷ Counts (2 ∷ 1 ∷ 0 ∷ 0 ∷ 0 ∷ 0 ∷ 0 ∷ 0 ∷ 0 ∷ []) ∷ Rests (0x41 ∷ []) ∷ Stands (Sending.Short Short.Identity 1) ∷ [])
    -- refused bytes are counted behind it
    ∷ from_start (Run (esc 0x20) 1 ∷ Run (0xe9 ∷ 0x41 ∷ []) 2 ∷ []) (Counts (2 ∷ 1 ∷ 0 ∷ 2 ∷ 2 ∷ 1 ∷ []) ∷ Cell 0 0x41 ∷ [])
    -- a key press answers 6 whatever the room, after 8 and 3
    ∷ from_start (Run (esc 0x20) 1 ∷ Press 0x40 9 ∷ Press 0x50 9 ∷ Run [] 9 ∷ Press 0x40 9 ∷ [])
    (Answers (0 ∷ 6 ∷ 3 ∷ 0 ∷ 0 ∷ []) ∷ Replies (0x35 ∷ 0x30 ∷ 0x0d ∷ 0x01 ∷ 0x40 ∷ 0x0d ∷ []) ∷ [])
    ∷ from_start (Run (0x0f ∷ [] ++ esc 0x20) 1 ∷ Press 0x40 9 ∷ []) (Answers (0 ∷ 8 ∷ []) ∷ InModes (0 ∷ 0 ∷ 0 ∷ 1 ∷ 1 ∷ 0 ∷ []) ∷ [])
    -- 7 comes first
    ∷ from_page (replicate 1919 0) (with_sending wy50 (Sending.Short Short.Identity 1)) (Step 0x41 9 ∷ Run (0x41 ∷ []) 0 ∷ Press 0x40 0 ∷ [])
    (Answers (7 ∷ 7 ∷ 7 ∷ []) ∷ Replies [] ∷ Rests (0x41 ∷ []) ∷ Stands (Sending.Short Short.Identity 1) ∷ [])
    ∷ []
