-- What the exported save and restore promise: those of the crate `saved` on the state that the numbers name. Numbers that name no state answer 7.
use Rattle.std.specs.Prelude.{List, ℕ, Err, eqb}
use Rattle.rules.specs.Cell.{pick}
use Rattle.saved.specs.declared.Refusal.TheVariants as Refusal
use Rattle.saved.specs.Calls.{SaveOutcome, saved, save_rule, RestoreOutcome, restoring, restore_rule}
use Rattle.wy50.specs.declared.raw.RawState.{RawState}
use Rattle.wy50.specs.declared.raw.RawSave.{RawSave}
use Rattle.wy50.specs.Raw.{packed, unpacked, named}

unfoldable pub raw_save : RawState → List ℕ → SaveOutcome
raw_save x store = pick (named x) (save_rule (unpacked x) store) (saved (Err Refusal.BadState) store)

abbrev pub save_given : SaveOutcome → RawSave
save_given o = record { answer = o.answer; number = o.number }

unfoldable pub raw_restore : RawState → List ℕ → ℕ → RestoreOutcome
raw_restore x store n = pick (named x) (restore_rule (unpacked x) store n) (restoring (unpacked x) (Err Refusal.BadState))

-- what is refused gives the numbers back as they came
abbrev pub state_after : RawState → RestoreOutcome → RawState
state_after x o = pick (eqb o.answer 0) (packed x o.state) x
