-- `saved::store::is_store` meets its contract.
use Rattle.std.specs.Prelude.{◌≡◌}
use Rattle.saved.proofs.Running.{Judging}
use Rattle.saved.proofs.store.is_store.Given as goal

abbrev pub invariant-loop-k : goal.invariant-loop-k
invariant-loop-k l =
    Judging l.store l.n l.k-iterator.count l.k-iterator.iter.rest.now × (l.k-iterator.iter.size ≡ 1089)
