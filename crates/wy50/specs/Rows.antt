-- What the exported calls with a row list promise: the list is looked at beside the state that the numbers name.
use Rattle.std.specs.Prelude.{◌≡◌, Bool, List, ℕ}
use Rattle.rules.specs.declared.RunResult.{RunResult}
use Rattle.rules.specs.Cell.{pick, both}
use Rattle.rules.specs.State.{number}
use Rattle.rules.specs.Step.{step_rule}
use Rattle.rules.specs.Calls.{run_rule}
use Rattle.rules.specs.RowList.{rows_of, agrees}
use Rattle.rules.specs.Next.{next_rule, reply_command}
use Rattle.rules.specs.RowCalls.{suits, can_rebuild}
use Rattle.wy50.specs.declared.raw.RawState.{RawState}
use Rattle.wy50.specs.Raw.{packed, unpacked, named}
use Rattle.wy50.specs.declared.raw.RawRun.{RawRun}
use Rattle.wy50.specs.declared.raw.RawNext.{RawNext}
use Rattle.wy50.specs.Promise.{raw_good, RawOutcome, raw, bad_step, RawRan, raw_ran, bad_run, RunDone}

-- page and numbers are good, and the list l agrees with them
unfoldable pub raw_listed : List ℕ → List ℕ → RawState → Bool
raw_listed p l x = both (raw_good p x) (agrees l p (unpacked x))

unfoldable pub raw_step_rows : List ℕ → List ℕ → RawState → ℕ → ℕ → RawOutcome
raw_step_rows p l x b room = let o = step_rule p (unpacked x) b room in pick (raw_listed p l x) (raw (packed x o.state) o) (bad_step p x)

unfoldable pub raw_run_rows : List ℕ → List ℕ → RawState → List ℕ → ℕ → RawRan
raw_run_rows p l x bytes room = pick (raw_listed p l x) (raw_ran x (run_rule p (unpacked x) bytes room)) (bad_run p x bytes)

-- `next` takes a list that agrees, or an empty one
unfoldable pub raw_suited : List ℕ → List ℕ → RawState → Bool
raw_suited p l x = both (raw_good p x) (suits l p (unpacked x))

unfoldable pub raw_next : List ℕ → List ℕ → RawState → List ℕ → ℕ → RawRan
raw_next p l x bytes room = pick (raw_suited p l x) (raw_ran x (next_rule p (unpacked x) bytes room)) (bad_run p x bytes)

-- the list after a call that left the page p' and gave the numbers y
unfoldable pub raw_rows_after : List ℕ → List ℕ → RawState → List ℕ → RawState → List ℕ
raw_rows_after p l x p' y = pick (raw_listed p l x) (rows_of p' (unpacked y)) l

-- the rebuild
unfoldable pub raw_can_rebuild : List ℕ → List ℕ → RawState → Bool
raw_can_rebuild p l x = both (named x) (can_rebuild p l (unpacked x))

abbrev pub raw_rebuild_answer : List ℕ → List ℕ → RawState → ℕ
raw_rebuild_answer p l x = pick (raw_can_rebuild p l x) 0 7

abbrev pub raw_rebuilt : List ℕ → List ℕ → RawState → List ℕ
raw_rebuilt p l x = pick (raw_can_rebuild p l x) (rows_of p (unpacked x)) l

-- what `next` of the terminal's gives, in numbers, handed x, with its command
abbrev pub next_numbers : RawState → ℕ → RunResult → RawNext
next_numbers x c t = record {
  answer = number t.answer;
  command = c;
  taken = t.taken;
  replied = t.replied;
  refused = t.refused;
  state = packed x t.state;
}

-- what `next` gives, but for the command
abbrev pub next_run : RawNext → RawRun
next_run r = record { answer = r.answer; taken = r.taken; replied = r.replied; refused = r.refused; state = r.state }

pub record Heard (p l : List ℕ) (x : RawState) (bytes : List ℕ) (r : RawNext) (p' l' w w' : List ℕ) : Type 0 where
  pub run : RunDone (raw_next p l x bytes (lib.ListN.length w)) (next_run r) bytes p' w w'
  pub command : r.command ≡ reply_command (unpacked x).sending bytes r.taken r.replied
  pub rows : l' ≡ raw_rows_after p l x p' r.state
