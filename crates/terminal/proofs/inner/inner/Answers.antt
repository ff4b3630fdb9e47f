-- `terminal::inner::inner` meets its contract.
use Rattle.std.specs.Prelude.{◌≡◌, length}
use mathlib.Core.Path.{refl}
use native.Mathlib.Omega.{arith}
use Rattle.rules.specs.declared.Decoded.{Decoded}
use Rattle.rules.specs.Step.{obeyed, inner_rule}
use Rattle.carry.proofs.Carrying.{carried_is}
use Rattle.terminal.proofs.Carrying.{below, above, quietly, effect_beside}
use Rattle.terminal.proofs.Gathered.{gather_room}
use Rattle.terminal.proofs.inner.inner.Goals as goal

pub returns-then-b-ge128 : goal.returns-then-b-ge128
unfolding obeyed
returns-then-b-ge128 c =
    let h = above _ _ _ _ _ c.if-b-ge128.true in
    (quietly h refl c.quiet.ensures, effect_beside _ h c.requires.1.1.1.1.0)

pub overflow_add-n : goal.overflow_add-n
unfolding obeyed
overflow_add-n c =
    let g = c.requires.1.1.0 in
    let h = gather_room _ g.0 _ c.if-b-ge128.false g.1 (c.requires.1.1.1.1.1 c.if-b-ge128.false) c.in-Gather.is in
    omega arith

pub obey-requires : goal.obey-requires
unfolding obeyed
obey-requires c = let p = c.requires in (p.0, (p.1.0, (p.1.1.1.0, p.1.1.1.1.0)))

pub returns-in-Wait : goal.returns-in-Wait
unfolding obeyed
returns-in-Wait c =
    let came : (d : Decoded) → c.args.d ≡ d
    → let x = c.args in let p = x.page.now in let tabs = x.tabs in let room = length x.room.now in
    inner_rule p x.core tabs x.b room ≡ obeyed p x.core tabs d room =
    λ d e. below _ _ _ _ _ c.if-b-ge128.false (c.requires.1.1.1.1.1 c.if-b-ge128.false) e in
    let h = came _ c.in-Wait.is in
    (quietly h c.awaiting.ensures c.quiet-in-Wait.ensures, effect_beside _ h c.requires.1.1.1.1.0)

pub returns-in-Gather : goal.returns-in-Gather
unfolding obeyed
returns-in-Gather c =
    let came : (d : Decoded) → c.args.d ≡ d
    → let x = c.args in let p = x.page.now in let tabs = x.tabs in let room = length x.room.now in
    inner_rule p x.core tabs x.b room ≡ obeyed p x.core tabs d room =
    λ d e. below _ _ _ _ _ c.if-b-ge128.false (c.requires.1.1.1.1.1 c.if-b-ge128.false) e in
    let h = came _ c.in-Gather.is in
    (quietly h c.awaiting-in-Gather.ensures c.quiet-in-Gather.ensures, effect_beside _ h c.requires.1.1.1.1.0)

pub returns-in-Take : goal.returns-in-Take
unfolding obeyed
returns-in-Take c =
    let came : (d : Decoded) → c.args.d ≡ d
    → let x = c.args in let p = x.page.now in let tabs = x.tabs in let room = length x.room.now in
    inner_rule p x.core tabs x.b room ≡ obeyed p x.core tabs d room =
    λ d e. below _ _ _ _ _ c.if-b-ge128.false (c.requires.1.1.1.1.1 c.if-b-ge128.false) e in
    let h = came _ c.in-Take.is in
    (quietly h c.idle.ensures c.quiet-in-Take.ensures, effect_beside _ h c.requires.1.1.1.1.0)

pub returns-in-Reject : goal.returns-in-Reject
unfolding obeyed
returns-in-Reject c =
    let came : (d : Decoded) → c.args.d ≡ d
    → let x = c.args in let p = x.page.now in let tabs = x.tabs in let room = length x.room.now in
    inner_rule p x.core tabs x.b room ≡ obeyed p x.core tabs d room =
    λ d e. below _ _ _ _ _ c.if-b-ge128.false (c.requires.1.1.1.1.1 c.if-b-ge128.false) e in
    let h = came _ c.in-Reject.is in
    (quietly h c.idle-in-Reject.ensures c.quiet-in-Reject.ensures, effect_beside _ h c.requires.1.1.1.1.0)

pub returns-in-Do : goal.returns-in-Do
unfolding obeyed
returns-in-Do c =
    let came : (d : Decoded) → c.args.d ≡ d
    → let x = c.args in let p = x.page.now in let tabs = x.tabs in let room = length x.room.now in
    inner_rule p x.core tabs x.b room ≡ obeyed p x.core tabs d room =
    λ d e. below _ _ _ _ _ c.if-b-ge128.false (c.requires.1.1.1.1.1 c.if-b-ge128.false) e in
    let h = came _ c.in-Do.is in
    (carried_is h c.obey.ensures.0, effect_beside _ h c.obey.ensures.1)
