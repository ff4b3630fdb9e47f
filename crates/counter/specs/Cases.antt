-- Worked texts and replies, by the sentences of request A3 of document 02.
use Rattle.std.specs.Prelude.{◌≡◌, List, [], ◌∷◌, ◌++◌, ℕ, zero, suc, replicate, Err}
use Rattle.counter.specs.declared.Refusal.{Refusal}
use Rattle.counter.specs.Words.{words}
use Rattle.counter.specs.Pieces.{pieces, piece_of}
use Rattle.counter.specs.Count.{of_units, text_count, count_rule}

abbrev pub letters : ℕ → List ℕ
letters n = replicate n 0x61

abbrev pub tildes : ℕ → List ℕ
tildes n = replicate n 0x7e

-- n bytes, each one more than the last
abbrev pub bytes_from : ℕ → ℕ → List ℕ
bytes_from b zero = []
bytes_from b (suc n) = b ∷ bytes_from (suc b) n

abbrev pub fs : List ℕ
fs = 0x1c ∷ []

abbrev pub us : List ℕ
us = 0x1f ∷ []

abbrev pub cr : List ℕ
cr = 0x0d ∷ []

-- units and parts
pub record Texts : Type 0 where
  pub none : text_count [] ≡ of_units 0 0
  pub one : text_count (letters 1) ≡ of_units 1 1
  pub most_alone : text_count (letters 160) ≡ of_units 160 1
  pub two : text_count (letters 161) ≡ of_units 161 2
  pub most_of_two : text_count (letters 306) ≡ of_units 306 2
  pub three : text_count (letters 307) ≡ of_units 307 3
  -- ^ { } \ [ ~ ] |
  pub two_units : text_count (0x5e ∷ 0x7b ∷ 0x7d ∷ 0x5c ∷ 0x5b ∷ 0x7e ∷ 0x5d ∷ 0x7c ∷ []) ≡ of_units 16 1
  -- the whole alphabet once: 94 characters, 8 of them of two units
  pub alphabet : text_count (bytes_from 0x20 64 ++ bytes_from 0x61 30) ≡ of_units 102 1
  pub eighty : text_count (tildes 80) ≡ of_units 160 1
  pub eighty_one : text_count (tildes 81) ≡ of_units 162 2
  -- a character of two units is not cut: 152 and 2 units do not fit 153
  pub on_the_seam : text_count (letters 152 ++ tildes 1 ++ letters 152) ≡ of_units 306 3
  pub before_the_seam : text_count (letters 151 ++ tildes 1 ++ letters 153) ≡ of_units 306 2
  -- trailing spaces are dropped, others are text
  pub spaces : text_count (words "   ") ≡ of_units 0 0
  pub around : text_count (words "  a b  ") ≡ of_units 5 1
  pub no_longer : text_count (letters 160 ++ words " ") ≡ of_units 160 1

-- bytes outside the alphabet, with their place from 0
pub record Outside : Type 0 where
  pub backquote : text_count (words "it`s `") ≡ Err (Refusal.BadByte 2)
  pub accented : text_count (words "Caf" ++ 0xe9 ∷ []) ≡ Err (Refusal.BadByte 3)
  pub low : text_count (0x1f ∷ []) ≡ Err (Refusal.BadByte 0)
  pub delete : text_count (words "a" ++ 0x7f ∷ []) ≡ Err (Refusal.BadByte 1)
  -- however long the text
  pub late : text_count (letters 307 ++ 0x80 ∷ []) ≡ Err (Refusal.BadByte 307)

-- two rows of fields: "Guji " and "24"; "Cafe"
abbrev pub reply : List ℕ
reply = fs ++ words "Guji " ++ fs ++ words "24" ++ us ++ words "Cafe" ++ fs ++ cr

pub record Replies : Type 0 where
  pub pieces_of : pieces reply ≡ [] ∷ words "Guji " ∷ words "24" ∷ words "Cafe" ∷ [] ∷ []
  pub lone_return : pieces cr ≡ [] ∷ []
  pub without : pieces (words "ab") ≡ []
  pub third : piece_of reply 3 ≡ words "24"
  pub zeroth : piece_of reply 0 ≡ []
  pub beyond : piece_of reply 6 ≡ []
  -- joined with nothing between: "Guji 24Cafe"; spaces are dropped from the whole alone
  pub all : count_rule reply 1 5 ≡ of_units 11 1
  pub some : count_rule reply 2 3 ≡ of_units 7 1
  pub one : count_rule reply 2 2 ≡ of_units 4 1
  pub empty : count_rule reply 1 1 ≡ of_units 0 0
  pub none : count_rule cr 1 1 ≡ of_units 0 0
  pub joined_parts : count_rule (letters 80 ++ fs ++ letters 80 ++ us ++ letters 1 ++ cr) 1 3 ≡ of_units 161 2
  -- places count in the whole, marks not counted
  pub place : count_rule (words "ab" ++ us ++ words "c`" ++ cr) 1 2 ≡ Err (Refusal.BadByte 3)
  pub place_in_second : count_rule (words "ab" ++ us ++ words "c`" ++ cr) 2 2 ≡ Err (Refusal.BadByte 1)
  pub not_wanted : count_rule (words "ab" ++ us ++ words "c`" ++ cr) 1 1 ≡ of_units 2 1
  pub early_return : count_rule (words "a" ++ cr ++ words "b" ++ cr) 1 1 ≡ Err (Refusal.BadByte 1)

-- refusals, in this order
pub record Refusals : Type 0 where
  pub nothing : count_rule [] 1 1 ≡ Err Refusal.NoReturn
  pub no_return : count_rule (words "a`") 0 9 ≡ Err Refusal.NoReturn
  pub first_zero : count_rule reply 0 9 ≡ Err Refusal.BadFirst
  pub first_above : count_rule reply 9 8 ≡ Err Refusal.BadFirst
  pub last_beyond : count_rule (words "`" ++ cr) 1 2 ≡ Err Refusal.BadLast
  pub both_beyond : count_rule reply 6 6 ≡ Err Refusal.BadLast
  pub last_piece : count_rule reply 5 5 ≡ of_units 0 0

pub record Worked : Type 0 where
  pub texts : Texts
  pub outside : Outside
  pub replies : Replies
  pub refusals : Refusals
