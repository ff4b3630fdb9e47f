-- The worked cases, by the sentences of documents 01 and 02: one statement.
use Rattle.std.specs.Prelude.{◌≡◌, true, false, [], ◌∷◌, ◌++◌, replicate}
use Rattle.rules.specs.declared.Personality.TheVariants as Personality
use Rattle.rules.specs.Room.{over}
use Rattle.rules.specs.Calls.{power_on_rule, play}
use Rattle.rules.specs.RowList.{row_list}
use Rattle.rules.specs.Theorems.Completed.{SixCompleted}
use Rattle.rules.specs.Cases.Bench.{wy50, wy60, Cursor, from_start, from_page, cases_hold, host, none_hold, wrong_claims}
use Rattle.rules.specs.Cases.MovingCases.{moving_cases}
use Rattle.rules.specs.Cases.WritingCases.{writing_cases}
use Rattle.rules.specs.Cases.ReplyCases.{reply_cases}
use Rattle.rules.specs.Cases.CallCases.{call_cases}
use Rattle.rules.specs.Cases.LabelCases.{label_cases}
use Rattle.rules.specs.Cases.SendCases.{send_cases}
use Rattle.rules.specs.Cases.NarrowCases.{narrow_cases}
use Rattle.rules.specs.Cases.NextCases.{next_cases, next_cases_hold, next_refuses, impossible}
use Rattle.rules.specs.Cases.RowCases.{rows_with, row_cases, row_cases_hold}
use Rattle.rules.specs.Cases.PersonalityCases.{personality_cases}
use Rattle.rules.specs.Cases.ByteCases.{bytes_hold, first_bytes, argument_bytes, address_bytes, decimal_bytes}
use Rattle.rules.specs.Cases.PossibleCases.{possible_states, impossible_states, all_possible, none_possible}

pub record CaseList : Type 0 where
  -- every claim is read, and so are those behind the first claim and the first case
  pub read : none_hold (play (host (0x41 ∷ 0x05 ∷ [])) (replicate 1920 0) wy50) wrong_claims ≡ true
  pub second_claim : cases_hold (from_start [] (Cursor 0 ∷ Cursor 1 ∷ []) ∷ []) ≡ false
  pub second_case : cases_hold (from_start [] [] ∷ from_page (replicate 1920 0) wy50 [] (Cursor 1 ∷ []) ∷ []) ≡ false
  pub moving : cases_hold moving_cases ≡ true
  pub writing : cases_hold writing_cases ≡ true
  pub replying : cases_hold reply_cases ≡ true
  pub calling : cases_hold call_cases ≡ true
  pub labels : cases_hold label_cases ≡ true
  pub sending : cases_hold send_cases ≡ true
  pub narrow : cases_hold narrow_cases ≡ true
  pub next : next_cases_hold next_cases ≡ true
  pub next_page : next_refuses (replicate 1919 0) wy50 ≡ true
  pub next_state : next_refuses (replicate 1920 0) impossible ≡ true
  pub rows : row_cases_hold row_cases ≡ true
  pub wide_rows_lem : row_list 132 (replicate 79 true ++ replicate 3089 false) ≡ 53 ∷ 80 ∷ rows_with 132 1 23
  pub personalities : cases_hold personality_cases ≡ true
  -- which bytes, tried with all of them
  pub first : bytes_hold first_bytes ≡ true
  pub argument : bytes_hold argument_bytes ≡ true
  pub address : bytes_hold address_bytes ≡ true
  pub decimal : bytes_hold decimal_bytes ≡ true
  pub possible : all_possible possible_states ≡ true
  pub impossible : none_possible impossible_states ≡ true
  -- power_on_lem: all cells 0; a wrong page length answers 7 and leaves the page. The state is that of the personality
  pub power_on_lem : power_on_rule Personality.Wy50 (replicate 1920 5)
      ≡ record { answer = 0; taken = false; state = wy50; page = replicate 1920 0; reply = [] }
  pub short_page : power_on_rule Personality.Wy50 (replicate 1919 5)
      ≡ record { answer = 7; taken = false; state = wy50; page = replicate 1919 5; reply = [] }
  pub long_page : power_on_rule Personality.Wy50 (replicate 1921 5)
      ≡ record { answer = 7; taken = false; state = wy50; page = replicate 1921 5; reply = [] }
  pub power_on_60 : power_on_rule Personality.Wy60 (replicate 1920 5)
      ≡ record { answer = 0; taken = false; state = wy60; page = replicate 1920 0; reply = [] }
  pub short_page_60 : power_on_rule Personality.Wy60 (replicate 1919 5)
      ≡ record { answer = 7; taken = false; state = wy60; page = replicate 1919 5; reply = [] }
  -- what lies beyond a reply is untouched
  pub room : over (1 ∷ 2 ∷ []) (7 ∷ 8 ∷ 9 ∷ []) ≡ 1 ∷ 2 ∷ 9 ∷ []
  -- demand 3: what completes one of the six, and what does not
  pub completed : SixCompleted
