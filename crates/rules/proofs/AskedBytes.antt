-- Which byte asks for a reply: the command that the reply answers.
--     asked_byte
-- Assumes nothing.
use mathlib.Core.Path.{◌≡◌, refl}
use mathlib.Core.Bool.{Bool, true, false}
use mathlib.Core.Logic.{◌⊎◌, inl, inr}
use Prim.Native.Nat.{ℕ, ◌<◌}
use lib.Dec.{eqb}
use borrow.Author.Tests.{eqb-true}
use Rattle.rules.specs.declared.Pending.{Pending}
use Rattle.rules.specs.declared.Pending.TheVariants as Pending
use Rattle.rules.specs.declared.Argument.{Argument}
use Rattle.rules.specs.declared.Argument.TheVariants as Argument
use Rattle.rules.specs.declared.Decoded.{Decoded}
use Rattle.rules.specs.declared.Decoded.TheVariants as Decoded
use Rattle.rules.specs.Cell.{pick, either}
use Rattle.rules.specs.Decode.{lookup, idle_rule, escape_rule, judged, feature_rule, field_rule, split_rule, digit_rule, decimal_row_rule}
use Rattle.rules.specs.Decode.{decimal_column_rule, slot_rule, text_rule, spoilt_rule, argument_rule, decode_rule}
use Rattle.rules.proofs.Commands.{send_asked, excluded_asked, kind_of}
use Rattle.rules.proofs.ExcludedBytes.{values, below}

abbrev pub asked : Decoded → ℕ
asked (Decoded.Wait q) = 0
asked (Decoded.Gather x n b) = 0
asked (Decoded.Take x n) = 0
asked (Decoded.Reject a) = 0
asked (Decoded.Do d) = (kind_of d).asks

-- it asks for nothing, or is the command
abbrev asks_as : ℕ → Decoded → Bool
asks_as b d = either (eqb (asked d) 0) (eqb (asked d) b)

in_idle : values 128 (λ b. asks_as b (idle_rule b)) ≡ values 128 (λ b. true)
unfolding idle_rule lookup send_asked
in_idle = refl

after_escape_lem : values 128 (λ b. asks_as b (escape_rule b)) ≡ values 128 (λ b. true)
unfolding escape_rule lookup send_asked excluded_asked
after_escape_lem = refl

pick_none : (t : Bool) (d e : Decoded) → asked d ≡ 0 → asked e ≡ 0 → asked (pick t d e) ≡ 0
pick_none true d e h k = h
pick_none false d e h k = k

argument_none : (a : Argument) (b : ℕ) → asked (argument_rule a b) ≡ 0
unfolding argument_rule judged feature_rule split_rule slot_rule
argument_none Argument.Address b = refl
argument_none Argument.Segment b = refl
argument_none Argument.Split b = search pick_none
argument_none Argument.SplitRow b = refl
argument_none Argument.Attribute b = search pick_none
argument_none Argument.Graphic b = search pick_none
argument_none Argument.FillAttribute b = search pick_none
argument_none Argument.FillCode b = search pick_none
argument_none Argument.Feature b = search pick_none
argument_none Argument.FieldAttribute b = refl
argument_none Argument.Slot b = search pick_none

as_command : (n b : ℕ) → either (eqb n 0) (eqb n b) ≡ true → (n ≡ 0) ⊎ (n ≡ b)
as_command n b = by (eqb n 0) refl
  where
    by : (t : Bool) → eqb n 0 ≡ t → either t (eqb n b) ≡ true → (n ≡ 0) ⊎ (n ≡ b)
    by true e h = inl (eqb-true n 0 e)
    by false e h = inr (eqb-true n b h)

pub asked_byte : (q : Pending) (b : ℕ) → b < 128 → (asked (decode_rule q b) ≡ 0) ⊎ (asked (decode_rule q b) ≡ b)
unfolding decode_rule judged feature_rule field_rule split_rule digit_rule decimal_row_rule decimal_column_rule slot_rule text_rule spoilt_rule
asked_byte Pending.Idle b h = as_command _ b (below 128 (λ b. asks_as b (idle_rule b)) (λ b. true) in_idle b h)
asked_byte Pending.Escape b h = as_command _ b (below 128 (λ b. asks_as b (escape_rule b)) (λ b. true) after_escape_lem b h)
asked_byte (Pending.Awaits a) b h = inl (argument_none a b)
asked_byte (Pending.AddressRow r) b h = inl refl
asked_byte (Pending.SegmentNumber s) b h = inl refl
asked_byte (Pending.SegmentRow s r) b h = inl refl
asked_byte (Pending.DecimalRow k row) b h = inl (search pick_none)
asked_byte (Pending.DecimalColumn row k column) b h = inl (search pick_none)
asked_byte (Pending.FieldNumber f) b h = inl (search pick_none)
asked_byte (Pending.Text x n) b h = inl (search pick_none)
asked_byte (Pending.Spoilt x) b h = inl (search pick_none)
