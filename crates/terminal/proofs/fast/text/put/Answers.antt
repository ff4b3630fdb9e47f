-- `terminal::fast::text::put` meets its contract.
use Rattle.terminal.proofs.FastPaths.{passes_range}
use Rattle.terminal.proofs.fast.text.put.Goals as goal

pub insert-requires : goal.insert-requires
insert-requires c = let p = c.requires in (p.0, (p.1.0, (p.1.1, c.if-ground.true)))

pub shape_of-page-then-ground : goal.shape_of-page-then-ground
shape_of-page-then-ground c =
    let p = c.requires in (passes_range c.insert.ensures p.1.1
    p.1.0).size

pub returns-then-ground : goal.returns-then-ground
returns-then-ground c = c.insert.ensures

pub store-requires : goal.store-requires
store-requires c = let p = c.requires in (p.0, (p.1.0, (p.1.1, c.if-ground.false)))

pub shape_of-page : goal.shape_of-page
shape_of-page c =
    let p = c.requires in (passes_range c.store.ensures p.1.1
    p.1.0).size

pub returns : goal.returns
returns c = c.store.ensures
