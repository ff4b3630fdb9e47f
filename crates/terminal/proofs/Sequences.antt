-- The awaited bytes of a sequence are the repeated step.
--     waits_ok     what is under way behind them is possible
--     waits_range     where they end
--     passed, passed_beside, passed_reads     the loop over host bytes goes on behind them as before them; the row list stays; the byte there
-- Assumes nothing.
use Rattle.std.specs.Prelude.{◌≡◌, ℕ, ◌+◌, ◌≤◌, Bool, true, List, length, get_or}
use mathlib.Core.Path.{refl, sym, ap, subst, ◌∙◌}
use native.Mathlib.Omega.{arith}
use Rattle.rules.specs.declared.Core.{Core}
use Rattle.rules.specs.declared.Decoded.{Decoded}
use Rattle.rules.specs.declared.Pending.{Pending}
use Rattle.rules.specs.declared.Setup.{Setup}
use Rattle.rules.specs.Decode.{decode_rule}
use Rattle.rules.specs.Calls.{Ran}
use Rattle.rules.specs.Possible.{pending_ok}
use Rattle.rules.specs.RowList.{Beside}
use Rattle.rules.specs.Search.{guarded_at}
use Rattle.rules.specs.State.{width_of, awaiting}
use Rattle.rules.proofs.Decoding.{decoded_ok, decoded_ok_lem}
use Rattle.terminal.specs.Sequence.{Waits, begun, next}
use Rattle.terminal.proofs.Loop.{Running}
use Rattle.terminal.proofs.FastPaths.{waited, Resumed}

module _ {l : List ℕ} {q₀ : Pending} {i₀ : ℕ} where
  pub waits_ok : {q : Pending} {i : ℕ} (g : List ℕ) → pending_ok q₀ g ≡ true → Waits l q₀ i₀ q i → pending_ok q g ≡ true
  unfolding decoded_ok
  waits_ok g k begun = k
  waits_ok g k (next {q} {r} {i} t h low d) =
      subst (λ (z : Decoded). decoded_ok g z ≡ true) d (decoded_ok_lem q g (get_or l i 0) low (waits_ok g k t))

  pub waits_range : {q : Pending} {i : ℕ} → i₀ ≤ length l → Waits l q₀ i₀ q i → (i₀ ≤ i) × (i ≤ length l)
  waits_range e begun = (omega arith, e)
  waits_range e (next t h low d) = (omega (arith, (waits_range e t).0), omega (arith, h))

module _ {stop : Bool} {p₀ : List ℕ} {o₀ : Ran} {input w₀ p w : List ℕ} {c : Core} {g : List ℕ} {u : Setup} {i₀ n f : ℕ} where
  passing : Running stop p₀ o₀ input w₀ p w c g u i₀ n f → {q : Pending} {i : ℕ} → Waits input c.pending i₀ q i
      → Running stop p₀ o₀ input w₀ p w (awaiting c q) g u i n f
  passing R begun = R
  passing R (next {q} {r} {i} t h low d) = waited (i + 1) r (passing R t) refl (omega (arith, h)) low d

  -- d is the core behind them
  pub passed : {j : ℕ} → Resumed stop p₀ o₀ input w₀ p w c g u i₀ n f j → {q : Pending} {i : ℕ} {d : Core} → Waits input c.pending i₀ q i
      → d ≡ awaiting c q
      → Resumed stop p₀ o₀ input w₀ p w d g u i n f j
  passed r t e =
      let k = waits_range r.left t in
      record { running = rw e (passing r.running t); from = omega (arith, r.from, k.0); left = k.1 }

pub passed_beside : (c : Core) {d : Core} {q : Pending} (p : List ℕ) {rows : List ℕ} → d ≡ awaiting c q
    → Beside (width_of c.screen) (guarded_at c.modes.protect p) rows → Beside (width_of d.screen) (guarded_at d.modes.protect p) rows
passed_beside c p e b = rw e b

-- a byte there comes to x
pub passed_reads : (c : Core) {d : Core} {q : Pending} (b : ℕ) {x : Decoded} → d ≡ awaiting c q → x ≡ decode_rule q b → x ≡ decode_rule d.pending b
passed_reads c b e h = h ∙ ap (λ (z : Core). decode_rule z.pending b) (sym e)
