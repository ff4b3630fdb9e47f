-- Worked cases of document 01, "Numbers that come back", and of keys.
use Rattle.std.specs.Prelude.{List, [], ◌∷◌, ◌++◌, replicate}
use Rattle.rules.specs.Possible.{blank}
use Rattle.rules.specs.Calls.{Step, Run, Press}
use Rattle.rules.specs.Cases.Bench.{wy50, Cell, Cursor, Replies, Answers, Counts, Rests, TabStops, FieldAttributes, Bells, Case, from_start}
use Rattle.rules.specs.Cases.Bench.{from_page, host}
use Rattle.rules.specs.Cases.Inputs.{esc, page_of, protect_at, belled, full_keys, refuses}

unfoldable pub call_cases : List Case
call_cases =
    -- 1: nothing changed, the sequence included; 2, 3 and 4 clear it, and the next byte is text again
    from_start (host (0x1b ∷ 0xe9 ∷ 0x3d ∷ 0xff ∷ 0x21 ∷ 0x80 ∷ 0x22 ∷ [])) (Answers (0 ∷ 1 ∷ 0 ∷ 1 ∷ 0 ∷ 1 ∷ 0 ∷ []) ∷ Cursor 82 ∷ Cell 0 0 ∷ [])
    ∷ from_start (host (0xe9 ∷ [])) (Answers (1 ∷ []) ∷ Cell 0 0 ∷ Cursor 0 ∷ [])
    ∷ from_start (host (0x1b ∷ 0x7e ∷ 0x41 ∷ [])) (Answers (0 ∷ 2 ∷ 0 ∷ []) ∷ Cell 0 0x41 ∷ Cursor 1 ∷ [])
    ∷ from_start (host (0x1b ∷ 0x1b ∷ 0x3f ∷ [])) (Answers (0 ∷ 2 ∷ 0 ∷ []) ∷ Cell 0 0x3f ∷ [])
    ∷ from_start (host (0x1b ∷ 0x0d ∷ [])) (Answers (0 ∷ 2 ∷ []) ∷ [])
    ∷ from_start (host (0x1b ∷ 0x47 ∷ 0x40 ∷ 0x41 ∷ [])) (Answers (0 ∷ 0 ∷ 3 ∷ 0 ∷ []) ∷ Cell 0 0x41 ∷ [])
    ∷ from_page (page_of (206 ∷ [])) (protect_at 0) (host (0x1b ∷ 0x4d ∷ 0x0c ∷ 0x41 ∷ [])) (Answers (0 ∷ 4 ∷ 0 ∷ 0 ∷ []) ∷ Cell 1 0x41 ∷ [])
    -- an awaited argument takes any byte below 80h, ESC and controls too, and is judged at the last byte
    ∷ from_start (host (0x1b ∷ 0x3d ∷ 0x1b ∷ 0x20 ∷ 0x41 ∷ [])) (Answers (0 ∷ 0 ∷ 0 ∷ 3 ∷ 0 ∷ []) ∷ Cell 0 0x41 ∷ [])
    ∷ from_start (host (0x1b ∷ 0x2d ∷ 0x1b ∷ 0x0d ∷ 0x41 ∷ [])) (Answers (0 ∷ 0 ∷ 0 ∷ 0 ∷ 3 ∷ []) ∷ Cell 0 0 ∷ [])
    ∷ from_start (host (0x1b ∷ 0x41 ∷ 0x1b ∷ 0x30 ∷ [])) (Answers (0 ∷ 0 ∷ 0 ∷ 3 ∷ []) ∷ FieldAttributes (replicate 4 0x30) ∷ TabStops [] ∷ [])
    -- a byte that breaks ESC a is consumed, ESC too
    ∷ from_start (host (0x1b ∷ 0x61 ∷ 0x1b ∷ 0x3f ∷ [])) (Answers (0 ∷ 0 ∷ 3 ∷ 0 ∷ []) ∷ Cell 0 0x3f ∷ [])
    -- no room: 6, nothing changed, and the byte may come again
    ∷ from_start (Step 0x1b 0 ∷ Step 0x3f 0 ∷ Step 0x3f 3 ∷ [])
    (Answers (0 ∷ 6 ∷ 0 ∷ []) ∷ Replies (0x20 ∷ 0x20 ∷ 0x0d ∷ []) ∷ Counts (1 ∷ 0 ∷ 0 ∷ 0 ∷ 1 ∷ 3 ∷ []) ∷ [])
    -- a run: one room for all, taken, replied, refused; what is not taken is handed back
    ∷ from_start (Run (0x41 ∷ 0x42 ∷ [] ++ esc 0x3f ++ esc 0x3f ++ 0x43 ∷ []) 5 ∷ [])
    (Answers (0 ∷ []) ∷ Counts (6 ∷ 5 ∷ 0 ∷ []) ∷ Rests (0x43 ∷ []) ∷ Replies (0x20 ∷ 0x22 ∷ 0x0d ∷ 0x20 ∷ 0x22 ∷ []) ∷ Cell 2 0 ∷ Cursor 2 ∷ [])
    ∷ from_start (Run (0x05 ∷ 0x05 ∷ 0x05 ∷ []) 2 ∷ [])
    (Answers (6 ∷ []) ∷ Counts (2 ∷ 2 ∷ 0 ∷ []) ∷ Rests (0x05 ∷ []) ∷ Replies (0x06 ∷ 0x06 ∷ []) ∷ [])
    ∷ from_start (Run (0x05 ∷ [] ++ esc 0x20) 4 ∷ []) (Answers (0 ∷ []) ∷ Counts (3 ∷ 4 ∷ 0 ∷ []) ∷ Replies (0x06 ∷ 0x35 ∷ 0x30 ∷ 0x0d ∷ []) ∷ [])
    ∷ from_start (Run (0x05 ∷ 0x41 ∷ []) 0 ∷ []) (Answers (6 ∷ []) ∷ Counts (0 ∷ 0 ∷ 0 ∷ []) ∷ Rests (0x05 ∷ 0x41 ∷ []) ∷ Cell 0 0 ∷ [])
    ∷ from_start (Run (0x41 ∷ 0x42 ∷ [] ++ esc 0x3f ++ 0x1b ∷ []) 5 ∷ Run (0x3f ∷ 0xe9 ∷ 0x43 ∷ []) 5 ∷ [])
    (Answers (0 ∷ 0 ∷ []) ∷ Counts (5 ∷ 3 ∷ 0 ∷ 3 ∷ 3 ∷ 1 ∷ []) ∷ Rests [] ∷ Replies (0x20 ∷ 0x22 ∷ 0x0d ∷ 0x20 ∷ 0x22 ∷ 0x0d ∷ []) ∷ Cell 2 0x43
    ∷ Cursor 3 ∷ [])
    ∷ from_start (Run [] 5 ∷ []) (Answers (0 ∷ []) ∷ Counts (0 ∷ 0 ∷ 0 ∷ []) ∷ Rests [] ∷ [])
    -- answers 1, 2, 3 and 4 are counted and do not stop it
    ∷ from_page (page_of (206 ∷ [])) (protect_at 0) (Run (0xe9 ∷ 0x1b ∷ 0x7e ∷ 0x1b ∷ 0x47 ∷ 0x40 ∷ 0x41 ∷ 0x0c ∷ 0x42 ∷ []) 0 ∷ [])
    (Answers (0 ∷ []) ∷ Counts (9 ∷ 0 ∷ 4 ∷ []) ∷ Rests [] ∷ Cell 1 0x42 ∷ [])
    -- 7, before 1 and 8: zeros, the whole input back, nothing changed
    ∷ from_page (replicate 1919 0) wy50 (Step 0x41 9 ∷ Step 0xff 9 ∷ Run (0x41 ∷ 0x42 ∷ []) 9 ∷ Run [] 9 ∷ Press 0x40 9 ∷ [])
    (Answers (7 ∷ 7 ∷ 7 ∷ 7 ∷ 7 ∷ []) ∷ Counts (replicate 11 0) ∷ Rests (0x41 ∷ 0x42 ∷ []) ∷ Replies [] ∷ Cell 0 0 ∷ Cursor 0 ∷ [])
    ∷ from_page (replicate 1921 0) wy50 (Step 0x41 9 ∷ Run (0x41 ∷ 0x42 ∷ []) 9 ∷ Press 0x40 9 ∷ [])
    (Answers (7 ∷ 7 ∷ 7 ∷ []) ∷ Counts (replicate 6 0) ∷ Rests (0x41 ∷ 0x42 ∷ []) ∷ Replies [] ∷ [])
    ∷ from_page blank (belled 256) (Step 0x07 9 ∷ Run (0x05 ∷ []) 9 ∷ Press 0x40 9 ∷ [])
    (Answers (7 ∷ 7 ∷ 7 ∷ []) ∷ Rests (0x05 ∷ []) ∷ Replies [] ∷ Bells 256 ∷ [])
    -- ESC z: bytes are stored literally, ESC and controls too; up to 8; 80h and above 1, not gathered
    ∷ from_start (host (0x1b ∷ 0x7a ∷ 0x4f ∷ 0x1b ∷ 0x0d ∷ 0xe9 ∷ 0x61 ∷ 0x7f ∷ []) ++ Press 0x4f 8 ∷ Press 0x60 8 ∷ [])
    (Answers (0 ∷ 0 ∷ 0 ∷ 0 ∷ 0 ∷ 1 ∷ 0 ∷ 0 ∷ 0 ∷ 0 ∷ []) ∷ Replies (0x1b ∷ 0x0d ∷ 0x61 ∷ 0x01 ∷ 0x60 ∷ 0x0d ∷ []) ∷ Cursor 0 ∷ [])
    ∷ from_start (host ((0x1b ∷ 0x7a ∷ 0x60 ∷ replicate 8 0x61) ++ 0x7f ∷ []) ++ Press 0x60 8 ∷ Press 0x4f 8 ∷ Press 0x40 8 ∷ [])
    (Answers (replicate 15 0) ∷ Replies (replicate 8 0x61 ++ 0x01 ∷ 0x4f ∷ 0x0d ∷ 0x01 ∷ 0x40 ∷ 0x0d ∷ []) ∷ [])
    -- 32 full keys are not too many
    ∷ from_page blank full_keys (host ((0x1b ∷ 0x7a ∷ 0x40 ∷ replicate 8 0x62) ++ 0x7f ∷ []) ++ Press 0x40 8 ∷ [])
    (Answers (replicate 13 0) ∷ Replies (replicate 8 0x62) ∷ [])
    -- more than 8 are swallowed up to DEL, then 3, the key unchanged: ESC , among them is not obeyed
    ∷ from_start (host ((0x1b ∷ 0x7a ∷ 0x40 ∷ replicate 8 0x61) ++ esc 0x2c ++ 0x7f ∷ []) ++ Press 0x40 8 ∷ [])
    (Cell 0 0 ∷ Cursor 0 ∷ Answers (replicate 13 0 ++ 3 ∷ 0 ∷ []) ∷ Replies (0x01 ∷ 0x40 ∷ 0x0d ∷ []) ∷ [])
    ∷ from_start (host ((0x1b ∷ 0x7a ∷ 0x40 ∷ 0x62 ∷ 0x7f ∷ 0x1b ∷ 0x7a ∷ 0x40 ∷ replicate 9 0x61) ++ 0x7f ∷ 0x41 ∷ []) ++ Press 0x40 8 ∷ [])
    (Cell 0 0x41 ∷ Answers (replicate 17 0 ++ 3 ∷ 0 ∷ 0 ∷ []) ∷ Replies (0x62 ∷ []) ∷ [])
    -- a new text replaces the old; an empty one unprograms; a bad value 3 at once
    ∷ from_start (host (0x1b ∷ 0x7a ∷ 0x6f ∷ 0x61 ∷ 0x62 ∷ 0x7f ∷ 0x1b ∷ 0x7a ∷ 0x6f ∷ 0x63 ∷ 0x7f ∷ []) ++ Press 0x6f 8 ∷ [])
    (Replies (0x63 ∷ []) ∷ [])
    ∷ from_start (host (0x1b ∷ 0x7a ∷ 0x6f ∷ 0x61 ∷ 0x7f ∷ 0x1b ∷ 0x7a ∷ 0x6f ∷ 0x7f ∷ []) ++ Press 0x6f 8 ∷ [])
    (Answers (replicate 10 0) ∷ Replies (0x01 ∷ 0x6f ∷ 0x0d ∷ []) ∷ [])
    ∷ refuses 3 (0x1b ∷ 0x7a ∷ 0x58 ∷ []) (Cursor 0 ∷ [])
    -- a key press: 8 before 3, 3 before 6; it works during a sequence, and its 3 clears nothing
    ∷ from_start (host (0x0f ∷ []) ++ Press 0x40 8 ∷ Press 0x50 8 ∷ []) (Answers (0 ∷ 8 ∷ 8 ∷ []) ∷ Replies [] ∷ [])
    ∷ from_start (Press 0x50 0 ∷ Press 0x40 2 ∷ Press 0x40 3 ∷ [])
    (Answers (3 ∷ 6 ∷ 0 ∷ []) ∷ Replies (0x01 ∷ 0x40 ∷ 0x0d ∷ []) ∷ Counts (0 ∷ 0 ∷ 3 ∷ []) ∷ [])
    ∷ from_start (Step 0x1b 9 ∷ Press 0x50 9 ∷ Press 0x41 9 ∷ Step 0x20 9 ∷ [])
    (Answers (0 ∷ 3 ∷ 0 ∷ 0 ∷ []) ∷ Replies (0x01 ∷ 0x41 ∷ 0x0d ∷ 0x35 ∷ 0x30 ∷ 0x0d ∷ []) ∷ Rests [] ∷ [])
    ∷ []
