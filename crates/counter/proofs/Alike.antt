-- Alike terminals are told the same count.
--     labels_uncounted, alike_count     the statements of specs/Ask
-- Assumes nothing.
use mathlib.Core.Path.{refl, subst}
use mathlib.Core.List.{List}
use Prim.Native.Nat.{ℕ}
use Rattle.rules.specs.declared.State.{State}
use Rattle.rules.specs.Theorems.Noninterference.{Alike}
use Rattle.counter.specs.Ask.{is_cut, ask_rule, AlikeCount, Unrevealed, LabelsUncounted}
use Rattle.counter.proofs.Replies.{same_asking}

unrevealed : (p q : List ℕ) (s : State) (room : ℕ) → Alike p q s s → Unrevealed p q s s room
unfolding ask_rule is_cut
unrevealed p q s room a =
    let x = same_asking p q s room a in
    record { reply = x.reply; told = λ first last. rw (x.answer, x.state, x.reply, a.pages.size) }

pub labels_uncounted : LabelsUncounted
labels_uncounted p q s t room a =
    subst (λ (u : State). Unrevealed p q s u room) a.state (unrevealed p q s room (record { state = refl; pages = a.pages }))

pub alike_count : AlikeCount
alike_count p q s t first last room on a = (labels_uncounted p q s t room a).told first last
