-- `counter::text::walk` meets its contract. The loop: the count from here on is the whole count.
use Rattle.std.proofs.Common.{get_or, sym, ◌∙◌, arith}
use Rattle.counter.proofs.Fewest.{cost_small}
use Rattle.counter.proofs.Tallies.{within_more, within_character, walk_on}
use Rattle.counter.proofs.text.walk.Goals as goal

pub add-t-requires : goal.add-t-requires
add-t-requires c =
    let l = c.loop-b in
    (omega (arith, c.cost_of.ensures, cost_small (get_or c.args.text.now l.b-index 0)), within_more l.invariant.0 (omega arith))

pub loop-b-preserved : goal.loop-b-preserved
loop-b-preserved c =
    let l = c.loop-b in
    rw (c.add-t.ensures, c.cost_of.ensures) (
      within_character l.t (get_or c.args.text.now l.b-index 0) l.b-index l.invariant.0,
      sym (walk_on c.args.cut l.t c.args.text.now l.b-index (omega arith) (sym c.if-is_cut.ensures) (sym c.if-not-in_alphabet.ensures)) ∙ l.invariant.1,
    )
