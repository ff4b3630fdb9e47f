-- Worked pages, by the sentences of request A12 of document 02.
use Rattle.std.specs.Prelude.{◌≡◌, ℕ, zero, suc, true, false, List, [], ◌∷◌, ◌++◌, replicate}
use Rattle.rules.specs.declared.Personality.TheVariants as Personality
use Rattle.repaint.specs.declared.Span.{Span}
use Rattle.repaint.specs.Spans.{SpansVerdict}
use Rattle.repaint.specs.Bytes.{paints}
use Rattle.repaint.specs.Proposal.{Proposed, refused_with, propose_rule}

abbrev pub spaces : ℕ → List ℕ
spaces n = replicate n 0x20

-- the page that is shown: all spaces
abbrev pub shown : List ℕ
shown = spaces 1920

-- AB at the end of row 1 and C at the start of row 2: a row's end cuts
abbrev pub over_row : List ℕ
over_row = spaces 78 ++ 0x41 ∷ 0x42 ∷ 0x43 ∷ spaces 1839

-- A B reverse, an equal cell, C reverse, D normal; at the start of row 2 E dim and blank
abbrev pub reversed : List ℕ
reversed = 0x1041 ∷ 0x1042 ∷ 0x20 ∷ 0x1043 ∷ 0x44 ∷ spaces 75 ++ 0x4445 ∷ spaces 1839

-- its last cell differs; a protected A; 7Fh; kind 1; dim with all four others
abbrev pub at_the_end : List ℕ
at_the_end = spaces 1919 ++ 0x41 ∷ []

abbrev pub first_cell : ℕ → List ℕ
first_cell v = v ∷ spaces 1919

-- rooms of n spans and k bytes, all 9
abbrev pub nines : ℕ → List ℕ
nines n = replicate n 9

abbrev pub left : ℕ → ℕ → ℕ → Proposed
left answer n k = refused_with answer (nines n) (nines n) (nines n) (nines k)

abbrev pub row_bytes : List ℕ
row_bytes = 0x1b ∷ 0x3d ∷ 0x20 ∷ 0x6e ∷ 0x41 ∷ 0x42 ∷ 0x1b ∷ 0x3d ∷ 0x21 ∷ 0x20 ∷ 0x43 ∷ []

-- ESC G before A, none before B and C, whose attribute is the remembered one, and one before D and before E
abbrev pub reversed_bytes : List ℕ
reversed_bytes =
    0x1b ∷ 0x3d ∷ 0x20 ∷ 0x20 ∷ 0x1b ∷ 0x47 ∷ 0x34 ∷ 0x41 ∷ 0x42
    ∷ 0x1b ∷ 0x3d ∷ 0x20 ∷ 0x23 ∷ 0x43 ∷ 0x1b ∷ 0x47 ∷ 0x30 ∷ 0x44
    ∷ 0x1b ∷ 0x3d ∷ 0x21 ∷ 0x20 ∷ 0x1b ∷ 0x47 ∷ 0x71 ∷ 0x45 ∷ []

-- what is proposed
pub record WorkedProposals : Type 0 where
  -- spans and bytes at the front, the rooms' rest untouched
  pub row_end_lem : propose_rule Personality.Wy50 shown over_row (nines 3) (nines 2) (nines 4) (nines 12)
      ≡ record {
        answer = 0;
        spans = 2;
        bytes = 11;
        rows = 1 ∷ 2 ∷ 9 ∷ [];
        columns = 79 ∷ 1 ∷ [];
        lengths = 2 ∷ 1 ∷ 9 ∷ 9 ∷ [];
        out = row_bytes ++ 9 ∷ [];
      }
  pub attributes : propose_rule Personality.Wy60 shown reversed (nines 3) (nines 3) (nines 3) (nines 26)
      ≡ record { answer = 0; spans = 3; bytes = 26; rows = 1 ∷ 1 ∷ 2 ∷ []; columns = 1 ∷ 4 ∷ 1 ∷ []; lengths = 2 ∷ 2 ∷ 1 ∷ []; out = reversed_bytes }
  -- equal pages: no spans, no bytes, and no room is needed
  pub equal_pages : propose_rule Personality.Wy60 reversed reversed [] [] [] [] ≡ left 0 0 0
  -- too little room for spans, in one list alone, and for bytes
  pub few_spans : propose_rule Personality.Wy50 shown over_row (nines 2) (nines 1) (nines 2) (nines 11)
      ≡ refused_with 6 (nines 2) (nines 1) (nines 2) (nines 11)
  pub few_bytes : propose_rule Personality.Wy50 shown over_row (nines 2) (nines 2) (nines 2) (nines 10) ≡ left 6 2 10
  -- other pages answer 3, before 6
  pub last_cell_lem : propose_rule Personality.Wy50 shown at_the_end [] [] [] [] ≡ left 3 0 0
  pub other_attribute : propose_rule Personality.Wy50 shown reversed (nines 3) (nines 3) (nines 3) (nines 26) ≡ left 3 3 26
  pub protected : propose_rule Personality.Wy60 (first_cell 0xc1) shown [] [] [] [] ≡ left 3 0 0
  pub null : propose_rule Personality.Wy60 (first_cell 0) shown (nines 1) (nines 1) (nines 1) (nines 5) ≡ left 3 1 5
  pub delete : propose_rule Personality.Wy60 shown (first_cell 0x7f) (nines 1) (nines 1) (nines 1) (nines 5) ≡ left 3 1 5
  pub graphic : propose_rule Personality.Wy60 shown (first_cell 0x230) (nines 1) (nines 1) (nines 1) (nines 5) ≡ left 3 1 5
  pub all_flags : propose_rule Personality.Wy60 shown (first_cell 0x7c41) (nines 1) (nines 1) (nines 1) (nines 8) ≡ left 3 1 8
  pub wide_pages : propose_rule Personality.Wy50 (spaces 3168) (spaces 3168) [] [] [] [] ≡ left 3 0 0
  -- unlike or wrong lengths answer 7, before 3
  pub unlike : propose_rule Personality.Wy50 (first_cell 0) (spaces 1919) [] [] [] [] ≡ left 7 0 0
  pub wrong : propose_rule Personality.Wy50 (spaces 1919) (spaces 1919) (nines 1) (nines 1) (nines 1) (nines 9) ≡ left 7 1 9

-- the judge of bytes: it takes these, by the personality; not where a byte is refused, asks for a reply or is left out
pub record WorkedBytes : Type 0 where
  pub taken : paints Personality.Wy50 false shown over_row row_bytes ≡ true
  pub taken_60 : paints Personality.Wy60 false shown reversed reversed_bytes ≡ true
  pub other_personality : paints Personality.Wy50 false shown reversed reversed_bytes ≡ false
  pub refused_inside : paints Personality.Wy50 false shown over_row (0x1b ∷ 0x3d ∷ 0x38 ∷ 0x20 ∷ row_bytes) ≡ false
  pub reply_due : paints Personality.Wy50 false shown over_row (0x05 ∷ row_bytes) ≡ false
  pub too_few : paints Personality.Wy50 false shown over_row (0x1b ∷ 0x3d ∷ 0x20 ∷ 0x6e ∷ 0x41 ∷ 0x42 ∷ []) ≡ false
  -- a sequence may be under way at the end
  pub under_way : paints Personality.Wy50 false shown over_row (row_bytes ++ 0x1b ∷ 0x3d ∷ []) ≡ true
  -- a wide page: the terminal is wide
  pub on_wide : paints Personality.Wy60 true (spaces 3168) (spaces 131 ++ 0x41 ∷ spaces 3036)
      (0x1b ∷ 0x61 ∷ 0x31 ∷ 0x52 ∷ 0x31 ∷ 0x33 ∷ 0x32 ∷ 0x43 ∷ 0x41 ∷ []) ≡ true

-- the judge of spans, from all spaces to the page with attributes: it differs in the cells 0, 1, 3, 4 and 80
abbrev pub span : ℕ → ℕ → ℕ → Span
span row column length = record { row = row; column = column; size = length }

-- n rows from one on, each a span
unfoldable pub rows_from : ℕ → ℕ → List Span
rows_from r zero = []
rows_from r (suc n) = span r 1 80 ∷ rows_from (suc r) n

pub record WorkedSpans : Type 0 where
  -- they may touch, and cover equal cells
  pub touching : SpansVerdict shown reversed (rows_from 1 24) 0
  pub over_row_end : SpansVerdict shown reversed (span 1 1 81 ∷ []) 3
  pub overlapping : SpansVerdict shown reversed (span 1 1 2 ∷ span 1 2 4 ∷ span 2 1 1 ∷ []) 3
  pub out_of_order : SpansVerdict shown reversed (span 1 4 2 ∷ span 1 1 2 ∷ span 2 1 1 ∷ []) 3
  pub uncovered : SpansVerdict shown reversed (span 1 1 2 ∷ span 1 5 1 ∷ span 2 1 1 ∷ []) 3
  pub last_uncovered : SpansVerdict shown reversed (span 1 1 5 ∷ []) 3
  pub no_spans : SpansVerdict shown reversed [] 3
  pub empty : SpansVerdict shown reversed (span 1 1 0 ∷ span 1 1 5 ∷ span 2 1 1 ∷ []) 3
  pub row_0 : SpansVerdict shown reversed (span 0 1 5 ∷ []) 3
  pub row_25 : SpansVerdict shown reversed (span 1 1 5 ∷ span 2 1 1 ∷ span 25 1 1 ∷ []) 3
  pub column_0 : SpansVerdict shown reversed (span 1 0 6 ∷ span 2 1 1 ∷ []) 3
  pub largest : SpansVerdict shown reversed (span 65535 65535 65535 ∷ []) 3
  pub unlike_lengths : SpansVerdict shown (spaces 1919) [] 7
  pub wrong_lengths : SpansVerdict (spaces 1921) (spaces 1921) [] 7
