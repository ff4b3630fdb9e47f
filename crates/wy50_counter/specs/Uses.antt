-- The statement used where a weaker one would not do: a text of any length that fits in memory.
use Rattle.std.specs.Prelude.{◌≡◌, ℕ, ◌≤◌, Err}
use Rattle.counter.specs.declared.Refusal.{Refusal}
use Rattle.counter.specs.Count.{numbers, text_count}
use Rattle.counter.specs.Cases.{letters}
use Rattle.wy50_counter.specs.Raw.{billed}

abbrev pub Letters : Type 0
Letters =
    (n : ℕ) → n ≤ 18446744073709551615 → billed (numbers (text_count (letters n))) ≡ 18446744073709551615
    → (k : ℕ) × (text_count (letters n) ≡ Err (Refusal.BadByte k))
