-- `counter::pieces::part` meets its contract.
use Rattle.std.proofs.Common.{◌-◌, arith}
use Rattle.counter.proofs.Counting.{part_to, part_ordered, part_within, part_pieces, part_piece}
use Rattle.counter.proofs.pieces.part.Goals as goal

pub overflow_sub-to : goal.overflow_sub-to
overflow_sub-to c =
    part_to c.args.text.now (c.args.first - 1) c.args.last (omega arith) (omega arith) c.past-from.ensures c.past-to.ensures

pub slice_bounds-result-count : goal.slice_bounds-result-count
slice_bounds-result-count c =
    part_ordered c.args.text.now (c.args.first - 1) c.args.last (omega arith) (omega arith) c.past-from.ensures c.past-to.ensures

pub slice_bounds-result-start : goal.slice_bounds-result-start
slice_bounds-result-start c =
    part_ordered c.args.text.now (c.args.first - 1) c.args.last (omega arith) (omega arith) c.past-from.ensures c.past-to.ensures

pub slice_bounds-result-end : goal.slice_bounds-result-end
slice_bounds-result-end c =
    part_within c.args.text.now (c.args.first - 1) c.args.last (omega arith) (omega arith) c.past-from.ensures c.past-to.ensures

pub returns-clause-all : goal.returns-clause-all
returns-clause-all c =
    part_pieces c.args.text.now (c.args.first - 1) c.args.last (omega arith) (omega arith) c.past-from.ensures c.past-to.ensures

pub returns-clause-one : goal.returns-clause-one
returns-clause-one c =
    λ e. part_piece c.args.text.now (c.args.first - 1) c.args.last (omega arith) (omega arith) c.past-from.ensures c.past-to.ensures
    (omega (arith, e))
