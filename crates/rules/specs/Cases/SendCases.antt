-- Worked cases of what is sent, by the sentences of requests A2 and A7 of document 02.
use Rattle.std.specs.Prelude.{List, [], ◌∷◌, ◌++◌, ℕ, replicate}
use Rattle.rules.specs.Cases.Bench.{Cell, Cursor, Replies, Case}
use Rattle.rules.specs.Cases.Inputs.{esc, go_to, labelled, obeys, refuses}

-- a label, A B, a label, C: A B is a field and C begins one
unfoldable pub two_fields : List ℕ
two_fields = labelled 0 0 ++ 0x41 ∷ 0x42 ∷ [] ++ labelled 0 3 ++ 0x43 ∷ []

-- rows 1 and 2 wholly protected: split at row 3, ESC , and unsplit
unfoldable pub two_label_rows : List ℕ
two_label_rows = esc 0x78 ++ 0x31 ∷ 0x22 ∷ [] ++ esc 0x2c ++ esc 0x78 ++ 0x30 ∷ []

-- the last cell of row 1 and the first of row 2 protected, the cursor behind them
unfoldable pub label_over_row_end : List ℕ
label_over_row_end = labelled 0 79 ++ labelled 1 0

unfoldable pub send_cases : List Case
send_cases =
    -- fields are parted: one FS for each longest stretch of protected cells
    obeys (two_fields ++ esc 0x26 ++ esc 0x34) (Replies (0x1c ∷ 0x41 ∷ 0x42 ∷ 0x1c ∷ 0x43 ∷ 0x20 ∷ 0x0d ∷ []) ∷ [])
    ∷ obeys (two_fields ++ esc 0x26 ++ esc 0x35) (Replies (0x1c ∷ 0x41 ∷ 0x42 ∷ 0x1c ∷ 0x43 ∷ 0x20 ∷ 0x0d ∷ []) ∷ [])
    ∷ obeys (labelled 0 2 ++ labelled 0 3 ++ labelled 0 4 ++ esc 0x26 ++ esc 0x34) (Replies (0x20 ∷ 0x20 ∷ 0x1c ∷ 0x20 ∷ 0x0d ∷ []) ∷ [])
    -- a row end cuts a stretch: FS, US, FS
    ∷ obeys (label_over_row_end ++ esc 0x26 ++ esc 0x35) (Replies (replicate 79 32 ++ 0x1c ∷ 0x1f ∷ 0x1c ∷ 0x20 ∷ 0x0d ∷ []) ∷ [])
    ∷ obeys (label_over_row_end ++ esc 0x26 ++ esc 0x34) (Replies (0x1c ∷ 0x20 ∷ 0x0d ∷ []) ∷ [])
    -- a wholly protected row is one FS, and the US between rows stays
    ∷ obeys (two_label_rows ++ esc 0x26 ++ 0x41 ∷ [] ++ esc 0x35) (Replies (0x1c ∷ 0x1f ∷ 0x1c ∷ 0x1f ∷ 0x41 ∷ 0x20 ∷ 0x0d ∷ []) ∷ [])
    -- a stretch that goes on past the cursor is still one FS
    ∷ obeys (esc 0x2c ++ esc 0x26 ++ esc 0x34) (Replies (0x1c ∷ 0x0d ∷ []) ∷ [])
    ∷ obeys (esc 0x2c ++ esc 0x26 ++ esc 0x35) (Replies (0x1c ∷ 0x0d ∷ []) ∷ [])
    -- of a segment, from its home
    ∷ obeys (labelled 12 0 ++ esc 0x78 ++ 0x31 ∷ 0x2c ∷ [] ++ esc 0x26 ++ esc 0x7d ++ 0x41 ∷ [] ++ esc 0x35)
    (Replies (0x1c ∷ 0x41 ∷ 0x20 ∷ 0x0d ∷ []) ∷ [])
    -- A7: cells marked protected are left out with protect off too, before ESC & and after ESC '; the cursor's own cell as well
    ∷ obeys (two_fields ++ esc 0x34) (Replies (0x1c ∷ 0x41 ∷ 0x42 ∷ 0x1c ∷ 0x43 ∷ 0x20 ∷ 0x0d ∷ []) ∷ [])
    ∷ obeys (two_fields ++ esc 0x26 ++ esc 0x27 ++ esc 0x35) (Replies (0x1c ∷ 0x41 ∷ 0x42 ∷ 0x1c ∷ 0x43 ∷ 0x20 ∷ 0x0d ∷ []) ∷ [])
    ∷ obeys (labelled 0 0 ++ labelled 0 1 ++ 0x1e ∷ [] ++ esc 0x34) (Replies (0x1c ∷ 0x0d ∷ []) ∷ Cursor 0 ∷ [])
    ∷ obeys (0x41 ∷ [] ++ labelled 0 1 ++ go_to 0 1 ++ esc 0x35) (Replies (0x41 ∷ 0x1c ∷ 0x0d ∷ []) ∷ Cursor 1 ∷ [])
    -- with protect off a protected cell is open to all else: settling, stores, ESC M
    ∷ obeys (labelled 0 0 ++ 0x1e ∷ 0x41 ∷ []) (Cell 0 0x41 ∷ Cursor 1 ∷ [])
    ∷ obeys (labelled 0 0 ++ 0x1e ∷ [] ++ esc 0x4d) (Replies (0x4e ∷ []) ∷ Cursor 0 ∷ [])
    -- ESC 6 and ESC 7 send all cells
    ∷ obeys (two_fields ++ esc 0x26 ++ esc 0x36) (Replies (0x4e ∷ 0x41 ∷ 0x42 ∷ 0x4e ∷ 0x43 ∷ 0x20 ∷ 0x0d ∷ []) ∷ [])
    ∷ obeys (two_fields ++ esc 0x26 ++ esc 0x37) (Replies (0x4e ∷ 0x41 ∷ 0x42 ∷ 0x4e ∷ 0x43 ∷ 0x20 ∷ 0x0d ∷ []) ∷ [])
    ∷ obeys (label_over_row_end ++ esc 0x26 ++ esc 0x37) (Replies (replicate 79 32 ++ 0x4e ∷ 0x1f ∷ 0x4e ∷ 0x20 ∷ 0x0d ∷ []) ∷ [])
    ∷ obeys (two_fields ++ esc 0x36) (Replies (0x4e ∷ 0x41 ∷ 0x42 ∷ 0x4e ∷ 0x43 ∷ 0x20 ∷ 0x0d ∷ []) ∷ [])
    ∷ obeys (two_fields ++ esc 0x37) (Replies (0x4e ∷ 0x41 ∷ 0x42 ∷ 0x4e ∷ 0x43 ∷ 0x20 ∷ 0x0d ∷ []) ∷ [])
    -- ESC M: the cursor's cell; guarded: 4
    ∷ refuses 4 (esc 0x2c ++ esc 0x26 ++ esc 0x4d) (Replies [] ∷ [])
    ∷ []
