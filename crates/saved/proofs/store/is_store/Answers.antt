-- `saved::store::is_store` meets its contract.
use mathlib.Core.Path.{◌≡◌, sym, ap, ◌∙◌}
use lib.ListN.{length, drop, length-drop}
use lib.Seq.{take_all}
use native.Mathlib.Omega.{arith}
use Rattle.saved.proofs.Running.{store_unlike, store_begun, store_false, store_again, store_true}
use Rattle.saved.proofs.store.is_store.Goals as goal

pub returns-then-store-ne8714 : goal.returns-then-store-ne8714
returns-then-store-ne8714 c = sym (store_unlike c.args.store.now c.if-store-ne8714.true)

pub two_at-n-requires : goal.two_at-n-requires
two_at-n-requires c = omega (arith, c.if-store-ne8714.false)

pub loop-k-init : goal.loop-k-init
loop-k-init c =
    let i = c.into_iter-k-iterator.ensures.into_iter_gives in
    let z = c.enumerate-k-items.ensures in
    let r = c.chunks.ensures in
    let store = c.args.store.now in (
      store_begun c.if-store-ne8714.false c.two_at-n.ensures (ap (λ s. s.count) i ∙ z.count)
          (ap (λ s. s.iter.rest.now) i ∙ (ap (λ s. s.rest.now) z.source ∙ (r.rest ∙ take_all _ (drop 2 store) (omega (arith, length-drop 2 store))))),
      ap (λ s. s.iter.size) i ∙ (ap (λ s. s.size) z.source ∙ r.size),
    )

pub is_used-requires : goal.is_used-requires
is_used-requires c = let s = c.in-Some.ensures.steps in let h = c.loop-k.invariant.0 in omega (arith, s.0.1.1, s.0.1.2, c.loop-k.invariant.1, h.long)

pub returns-then-not-is_used : goal.returns-then-not-is_used
returns-then-not-is_used c =
    let s = c.in-Some.ensures.steps in
    let h = c.loop-k.invariant.0 in
    let f : length c.in-Some.place.now ≡ 1089 = omega (arith, s.0.1.1, s.0.1.2, c.loop-k.invariant.1, h.long) in
    store_false h c.in-Some.place.now _ s.0.1.0 f _ s.1 s.0.1.2 (sym c.is_used.ensures ∙ c.if-not-is_used.true)

pub loop-k-preserved : goal.loop-k-preserved
loop-k-preserved c =
    let s = c.in-Some.ensures.steps in
    let h = c.loop-k.invariant.0 in
    let f : length c.in-Some.place.now ≡ 1089 = omega (arith, s.0.1.1, s.0.1.2, c.loop-k.invariant.1, h.long) in (
      store_again h c.in-Some.place.now _ s.0.1.0 f _ _ s.1 s.2 s.0.1.2 (sym c.is_used.ensures ∙ c.if-not-is_used.false),
      s.0.0 ∙ c.loop-k.invariant.1,
    )

pub returns : goal.returns
returns c = let s = c.in-None.ensures.steps in store_true c.loop-k.invariant.0 (omega (arith, s))
