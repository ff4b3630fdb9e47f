-- Which bytes decode to one of the six commands that demand 3 leaves out: those that its statement names, after a bare ESC, and no other.
-- Assumes nothing.
use mathlib.Core.Path.{◌≡◌, refl, ap}
use mathlib.Core.Bool.{Bool, true, false}
use mathlib.Core.List.{List, [], ◌∷◌}
use Prim.Native.Nat.{ℕ, zero, suc, ◌<◌}
use native.Mathlib.Nat.{not-suc-le-zero}
use native.Mathlib.Decide.{ℕ_discrete}
use native.Mathlib.Omega.{arith}
use lib.ListN.{get_or, drop}
use Rattle.rules.specs.declared.Pending.{Pending}
use Rattle.rules.specs.declared.Pending.TheVariants as Pending
use Rattle.rules.specs.declared.Argument.{Argument}
use Rattle.rules.specs.declared.Argument.TheVariants as Argument
use Rattle.rules.specs.declared.Decoded.{Decoded}
use Rattle.rules.specs.declared.Decoded.TheVariants as Decoded
use Rattle.rules.specs.Cell.{pick, both}
use Rattle.rules.specs.Decode.{lookup, idle_rule, escape_rule, judged, feature_rule, field_rule, split_rule, digit_rule, decimal_row_rule}
use Rattle.rules.specs.Decode.{decimal_column_rule, slot_rule, text_rule, spoilt_rule, argument_rule, decode_rule}
use Rattle.rules.specs.Theorems.Noninterference.{after_escape, any_of, excluded_bytes}
use Rattle.rules.proofs.Commands.{kind_of}

-- the values of a function at the numbers below n
abbrev pub values : ℕ → (ℕ → Bool) → List Bool
values zero f = []
values (suc n) f = f n ∷ values n f

-- equal values below n: for numerals a computed test
pub below : (n : ℕ) (f g : ℕ → Bool) → values n f ≡ values n g → (i : ℕ) → i < n → f i ≡ g i
below zero f g e i h = absurd (not-suc-le-zero h)
below (suc n) f g e i h = by (ℕ_discrete i n) (below n f g (ap (drop 1) e) i)
  where
    by : Dec (i ≡ n) → (i < n → f i ≡ g i) → f i ≡ g i
    by (yes u) k = rw u (ap (λ (l : List Bool). get_or l 0 false) e)
    by (no u) k = k (omega arith)

-- a byte completes one of the six
abbrev pub gives_excluded : Decoded → Bool
gives_excluded (Decoded.Wait q) = false
gives_excluded (Decoded.Gather x n b) = false
gives_excluded (Decoded.Take x n) = false
gives_excluded (Decoded.Reject a) = false
gives_excluded (Decoded.Do d) = (kind_of d).excluded

after_escape_lem : values 128 (λ b. gives_excluded (escape_rule b)) ≡ values 128 (any_of excluded_bytes)
unfolding escape_rule lookup
after_escape_lem = refl

in_idle : values 128 (λ b. gives_excluded (idle_rule b)) ≡ values 128 (λ b. false)
unfolding idle_rule lookup
in_idle = refl

pick_none : (t : Bool) (d e : Decoded) → gives_excluded d ≡ false → gives_excluded e ≡ false → gives_excluded (pick t d e) ≡ false
pick_none true d e h k = h
pick_none false d e h k = k

argument_none : (a : Argument) (b : ℕ) → gives_excluded (argument_rule a b) ≡ false
unfolding argument_rule judged feature_rule split_rule slot_rule
argument_none Argument.Address b = refl
argument_none Argument.Segment b = refl
argument_none Argument.Split b = search pick_none
argument_none Argument.SplitRow b = refl
argument_none Argument.Attribute b = search pick_none
argument_none Argument.Graphic b = search pick_none
argument_none Argument.FillAttribute b = search pick_none
argument_none Argument.FillCode b = search pick_none
argument_none Argument.Feature b = search pick_none
argument_none Argument.FieldAttribute b = refl
argument_none Argument.Slot b = search pick_none

pub excluded_bytes_lem : (q : Pending) (b : ℕ) → b < 128 → gives_excluded (decode_rule q b) ≡ both (after_escape q) (any_of excluded_bytes b)
unfolding decode_rule judged feature_rule field_rule split_rule digit_rule decimal_row_rule decimal_column_rule slot_rule text_rule spoilt_rule
excluded_bytes_lem Pending.Idle b h = below 128 (λ b. gives_excluded (idle_rule b)) (λ b. false) in_idle b h
excluded_bytes_lem Pending.Escape b h = below 128 (λ b. gives_excluded (escape_rule b)) (any_of excluded_bytes) after_escape_lem b h
excluded_bytes_lem (Pending.Awaits a) b h = argument_none a b
excluded_bytes_lem (Pending.AddressRow r) b h = refl
excluded_bytes_lem (Pending.SegmentNumber s) b h = refl
excluded_bytes_lem (Pending.SegmentRow s r) b h = refl
excluded_bytes_lem (Pending.DecimalRow k row) b h = search pick_none
excluded_bytes_lem (Pending.DecimalColumn row k column) b h = search pick_none
excluded_bytes_lem (Pending.FieldNumber f) b h = search pick_none
excluded_bytes_lem (Pending.Text x n) b h = search pick_none
excluded_bytes_lem (Pending.Spoilt x) b h = search pick_none
