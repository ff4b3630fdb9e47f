-- Worked cases of document 02, A1: the host message and the key labels.
use Rattle.std.specs.Prelude.{true, false, List, [], ◌∷◌, ◌++◌, ℕ, replicate}
use Rattle.rules.specs.declared.Slot.TheVariants as Slot
use Rattle.rules.specs.Calls.{Run, Press}
use Rattle.rules.specs.Cases.Inputs.{esc}
use Rattle.rules.specs.Cases.Bench.{Claim, Cell, Cursor, Replies, Answers, Counts, Message, Label, Shifted, Held, Case, from_start, host}

-- ESC F text CR, ESC z value text CR
unfoldable pub message : List ℕ → List ℕ
message l = 0x1b ∷ 0x46 ∷ (l ++ 0x0d ∷ [])

unfoldable pub labelling : ℕ → List ℕ → List ℕ
labelling v l = 0x1b ∷ 0x7a ∷ v ∷ (l ++ 0x0d ∷ [])

unfoldable pub label_cases : List Case
label_cases =
    -- set, and cleared; the page and the cursor stay
    from_start (host (message (0x68 ∷ 0x69 ∷ [])))
    (Message (0x68 ∷ 0x69 ∷ []) ∷ Cell 0 0 ∷ Cursor 0 ∷ Shifted false ∷ Answers (replicate 5 0) ∷ [])
    ∷ from_start (host (message (0x68 ∷ []) ++ message [])) (Message [] ∷ Answers (replicate 7 0) ∷ [])
    -- a key and a label leave the message, a message a label
    ∷ from_start (host (message (0x68 ∷ []) ++ 0x1b ∷ 0x7a ∷ 0x40 ∷ 0x61 ∷ 0x7f ∷ [])) (Message (0x68 ∷ []) ∷ [])
    ∷ from_start (host (labelling 0x30 (0x61 ∷ []) ++ message (0x68 ∷ []) ++ labelling 0x31 (0x62 ∷ [])))
    (Message (0x68 ∷ []) ∷ Label 0x30 (0x61 ∷ []) ∷ [])
    -- zeros lie behind a short text: a message, a label, a key
    ∷ from_start (host (message (0x68 ∷ 0x69 ∷ []))) (Held Slot.Message (0x68 ∷ 0x69 ∷ replicate 44 0) ∷ [])
    ∷ from_start (host (labelling 0x30 (replicate 8 0x61) ++ labelling 0x30 (0x68 ∷ 0x69 ∷ [])))
    (Held (Slot.Label 0x30) (0x68 ∷ 0x69 ∷ 0 ∷ 0 ∷ 0 ∷ 0 ∷ 0 ∷ 0 ∷ []) ∷ [])
    ∷ from_start (host (0x1b ∷ 0x7a ∷ 0x40 ∷ 0x68 ∷ 0x69 ∷ 0x7f ∷ [])) (Held (Slot.Key 0x40) (0x68 ∷ 0x69 ∷ 0 ∷ 0 ∷ 0 ∷ 0 ∷ 0 ∷ 0 ∷ []) ∷ [])
    -- 46 fit, 47 do not, and leave the message as it was
    ∷ from_start (host (message (replicate 46 0x61))) (Message (replicate 46 0x61) ∷ Answers (replicate 49 0) ∷ [])
    ∷ from_start (host (message (0x68 ∷ []) ++ message (replicate 47 0x61))) (Message (0x68 ∷ []) ∷ Answers (replicate 53 0 ++ 3 ∷ []) ∷ [])
    -- ESC inside a text is a bad byte and begins nothing; after CR text is text again
    ∷ from_start (host (message (0x61 ∷ 0x1b ∷ 0x2b ∷ []) ++ 0x62 ∷ []))
    (Message [] ∷ Cell 0 0x62 ∷ Cursor 1 ∷ Answers (replicate 5 0 ++ 3 ∷ 0 ∷ []) ∷ [])
    -- 80h and above: 1, and the text goes on
    ∷ from_start (host (message (0x61 ∷ 0xe9 ∷ 0x62 ∷ []))) (Message (0x61 ∷ 0x62 ∷ []) ∷ Answers (0 ∷ 0 ∷ 0 ∷ 1 ∷ 0 ∷ 0 ∷ []) ∷ [])
    -- a label in 30h to 37h leaves the line off, one in 50h to 57h turns it on; clearing it leaves it on; ESC z DEL turns it off, twice too
    ∷ from_start (host (labelling 0x37 (0x61 ∷ []))) (Label 0x37 (0x61 ∷ []) ∷ Label 0x50 [] ∷ Shifted false ∷ Answers (replicate 5 0) ∷ [])
    ∷ from_start (host (labelling 0x50 (0x20 ∷ []) ++ labelling 0x50 [])) (Label 0x50 [] ∷ Shifted true ∷ Answers (replicate 9 0) ∷ [])
    ∷ from_start (host (labelling 0x57 (0x61 ∷ []) ++ (0x1b ∷ 0x7a ∷ 0x7f ∷ 0x1b ∷ 0x7a ∷ 0x7f ∷ [])))
    (Label 0x57 (0x61 ∷ []) ∷ Shifted false ∷ Answers (replicate 11 0) ∷ [])
    -- the line on: a label in 30h to 37h and a message leave it on, and a label in 50h to 57h sets it again after DEL
    ∷ from_start (host (labelling 0x50 (0x61 ∷ []) ++ labelling 0x30 (0x62 ∷ []) ++ message [] ++ labelling 0x30 []))
    (Label 0x50 (0x61 ∷ []) ∷ Label 0x30 [] ∷ Shifted true ∷ Answers (replicate 17 0) ∷ [])
    ∷ from_start (host (labelling 0x51 (0x61 ∷ []) ++ (0x1b ∷ 0x7a ∷ 0x7f ∷ []) ++ labelling 0x51 []))
    (Label 0x51 [] ∷ Shifted false ∷ Answers (replicate 12 0) ∷ [])
    ∷ from_start (host (labelling 0x51 (0x61 ∷ []) ++ (0x1b ∷ 0x7a ∷ 0x7f ∷ []) ++ labelling 0x52 (0x62 ∷ [])))
    (Label 0x51 (0x61 ∷ []) ∷ Label 0x52 (0x62 ∷ []) ∷ Shifted true ∷ [])
    -- a label's ninth byte and all behind it are swallowed to CR: ESC , among them is not obeyed; the label stays; a run counts one refused byte
    ∷ from_start (Run (0x41 ∷ labelling 0x30 (0x62 ∷ []) ++ labelling 0x30 (replicate 9 0x61 ++ esc 0x2c) ++ 0x42 ∷ []) 0 ∷ [])
    (Cell 0 0x41 ∷ Cell 1 0x42 ∷ Label 0x30 (0x62 ∷ []) ∷ Answers (0 ∷ []) ∷ Counts (22 ∷ 0 ∷ 1 ∷ []) ∷ [])
    -- spoilt, 80h and above still 1, and the text as spoilt as it was
    ∷ from_start (host (message (0x68 ∷ []) ++ message (0x00 ∷ 0xe9 ∷ 0x62 ∷ [])))
    (Message (0x68 ∷ []) ∷ Answers (replicate 7 0 ++ 1 ∷ 0 ∷ 3 ∷ []) ∷ [])
    -- 8 fit, 9 do not; a refused label leaves the line as it is
    ∷ from_start (host (labelling 0x50 (replicate 8 0x7e))) (Label 0x50 (replicate 8 0x7e) ∷ Shifted true ∷ Answers (replicate 12 0) ∷ [])
    ∷ from_start (host (labelling 0x50 (replicate 9 0x61))) (Label 0x50 [] ∷ Shifted false ∷ Answers (replicate 12 0 ++ 3 ∷ []) ∷ [])
    -- DEL in a label is a bad byte: it ends nothing
    ∷ from_start (host (labelling 0x50 (0x61 ∷ 0x7f ∷ 0x62 ∷ []))) (Label 0x50 [] ∷ Shifted false ∷ Answers (replicate 6 0 ++ 3 ∷ []) ∷ [])
    -- CR is stored in a key, and DEL ends it
    ∷ from_start (host (0x1b ∷ 0x7a ∷ 0x40 ∷ 0x0d ∷ 0x61 ∷ 0x7f ∷ []) ++ Press 0x40 8 ∷ [])
    (Replies (0x0d ∷ 0x61 ∷ []) ∷ Answers (replicate 7 0) ∷ [])
    -- ESC z ( answers 3 at once
    ∷ from_start (host (0x1b ∷ 0x7a ∷ 0x28 ∷ 0x41 ∷ [])) (Cell 0 0x41 ∷ Answers (0 ∷ 0 ∷ 3 ∷ 0 ∷ []) ∷ [])
    ∷ []
