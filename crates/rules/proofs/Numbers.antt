-- The numbers that commands write: from a possible core each is writable.
--     stored_ok, filled_ok, taken_ok        what is stored, what clearing writes, what ESC G stores
--     kinds                                 the cases of a writable number
--     normal_50                             in WY-50 such a number has no flag
--     reads_as_before, attribute_flags      the clauses of specs/Personalities that speak of single numbers
--     remembered_below, normal_remembered   the attributes remembered are below 31, and normal is one
-- Assumes nothing.
use mathlib.Core.Path.{◌≡◌, refl, sym, ◌∙◌}
use mathlib.Core.Bool.{Bool, true, false, false≢true}
use mathlib.Core.Logic.{◌⊎◌, inl, inr, ⊎_elim}
use Prim.Native.Nat.{ℕ, ◌+◌, ◌*◌, ◌/◌, ◌%◌, ◌<◌, ◌≤◌}
use native.Mathlib.Omega.{arith}
use lib.Dec.{ltb, eqb}
use borrow.Author.Tests.{lt-ltb, ltb-true, ltb-false, eq-eqb, eqb-true, eqb-false, ne_eqb}
use Rattle.rules.specs.declared.Personality.{Personality}
use Rattle.rules.specs.declared.Personality.TheVariants as Personality
use Rattle.rules.specs.declared.Contents.{Contents}
use Rattle.rules.specs.declared.Contents.TheVariants as Contents
use Rattle.rules.specs.Cell.{pick, both, either, between, code, kind, attribute, cell, written, null, space, protected_space, is_dim}
use Rattle.rules.specs.Cell.{is_underscore, is_reverse, is_blink, is_blank}
use Rattle.rules.specs.Possible.{remembered_ok}
use Rattle.rules.specs.Arguments.{is_flags, is_attribute, attribute_contents}
use Rattle.rules.specs.Plan.{takes_cell}
use Rattle.rules.specs.Writable.{is_stored, is_attribute_cell, writable}
use Rattle.rules.specs.Theorems.Personalities.{ReadsAsBefore, NoFlags}
use Rattle.rules.proofs.Tests.{pick_if, both_parts, both_true, either_parts, either_first, either_second, between_parts}
use Rattle.rules.proofs.Commands.{store_ok, fill_ok}

-- ---- single numbers

-- a kind up to 2 reads as it is
small_kind : (v : ℕ) → v / 256 ≤ 2 → kind v ≡ v / 256
small_kind v h =
    let q : v / 256 % 4 ≡ v / 256 = omega arith in
    pick_if (λ (k : ℕ). k ≡ v / 256) (ltb (v / 256 % 4) 2) (λ e. q) (λ e. omega (arith, ltb-false (v / 256 % 4) 2 e))

-- a number of document 01: a code, the 128s bit and a kind up to 2
pub reads_as_before : (c : ℕ) (p : Bool) (k : ℕ) → c < 128 → k ≤ 2 → ReadsAsBefore (c + pick p 128 0 + 256 * k)
reads_as_before c true k h l = record { same_kind = small_kind (c + 128 + 256 * k) (omega arith); no_attribute = omega arith }
reads_as_before c false k h l = record { same_kind = small_kind (c + 0 + 256 * k) (omega arith); no_attribute = omega arith }

pub remembered_below : (m : Personality) (a : ℕ) → remembered_ok m a ≡ true → a < 31
unfolding remembered_ok
remembered_below Personality.Wy50 a e = omega (arith, eqb-true a 0 e)
remembered_below Personality.Wy60 a e = ltb-true a 31 e

pub normal_remembered : (m : Personality) → remembered_ok m 0 ≡ true
unfolding remembered_ok
normal_remembered Personality.Wy50 = refl
normal_remembered Personality.Wy60 = refl

-- the parts of a written number
record Read (v c k a : ℕ) : Type 0 where
  small : v < 32768
  code_is : code v ≡ c
  kind_is : v / 256 % 4 ≡ k
  flags : attribute v ≡ a

read_cell : (c : ℕ) (p : Bool) (k a : ℕ) → c < 128 → k < 4 → a < 31 → Read (cell c p k a) c k a
read_cell c true k a h l n = record { small = omega arith; code_is = omega arith; kind_is = omega arith; flags = omega arith }
read_cell c false k a h l n = record { small = omega arith; code_is = omega arith; kind_is = omega arith; flags = omega arith }

pub null_ok : (m : Personality) → writable m null ≡ true
unfolding writable
null_ok m = refl

-- ---- what commands write is writable

-- text and graphics, with an attribute that is remembered
stored_is : {v c a : ℕ} (m : Personality) (k : ℕ) → Read v c k a → remembered_ok m a ≡ true
    → either (both (eqb k 0) (between 0x20 0x7e c)) (both (eqb k 2) (between 0x30 0x3f c)) ≡ true → writable m v ≡ true
unfolding writable is_stored
stored_is {v} {c} {a} m k r h e =
    let f : remembered_ok m (attribute v) ≡ true = rw r.flags h in
    let c : either (both (eqb (v / 256 % 4) 0) (between 0x20 0x7e (code v))) (both (eqb (v / 256 % 4) 2) (between 0x30 0x3f (code v))) ≡ true =
    rw (r.kind_is, r.code_is) e in
    either_second (eqb v null) (either_first (is_attribute_cell m v) (both_true (lt-ltb v 32768 r.small) (both_true f c)))

pub stored_ok : (m : Personality) (k : Contents) (p : Bool) (a : ℕ) → store_ok k ≡ true → remembered_ok m a ≡ true → writable m (written k p a) ≡ true
unfolding store_ok
stored_ok m (Contents.Text c) p a e h =
    let r = between_parts 0x20 0x7e c e in
    stored_is m 0 (read_cell c p 0 a (omega arith) (omega arith) (remembered_below m a h)) h (either_first _ e)
stored_ok m (Contents.Attribute c) p a e h = absurd (false≢true e)
stored_ok m (Contents.Graphic c) p a e h =
    let r = between_parts 0x30 0x3f c e in
    stored_is m 2 (read_cell c p 2 a (omega arith) (omega arith) (remembered_below m a h)) h e

-- normal text
text_ok_lem : (m : Personality) (c : ℕ) (p : Bool) → between 0x20 0x7e c ≡ true → writable m (written (Contents.Text c) p 0) ≡ true
unfolding store_ok
text_ok_lem m c p e = stored_ok m (Contents.Text c) p 0 e (normal_remembered m)

pub space_ok : (m : Personality) → writable m space ≡ true
space_ok m = text_ok_lem m 0x20 false refl

pub protected_space_ok : (m : Personality) → writable m protected_space ≡ true
protected_space_ok m = text_ok_lem m 0x20 true refl

-- a code of flags is below 80h, and no space
pub flags_code : (a : ℕ) → is_flags a ≡ true → (a < 128) × (eqb a 0x20 ≡ false)
flags_code a e =
    ⊎_elim (λ h. let r = between_parts 0x30 0x3f a h in (omega arith, ne_eqb a 0x20 (omega arith)))
    (λ h. let r = between_parts 0x70 0x7e a h in (omega arith, ne_eqb a 0x20 (omega arith)))
    (either_parts (between 0x30 0x3f a) (between 0x70 0x7e a) e)

-- an attribute cell: ESC ! writes it unprotected, and in WY-50 ESC G as write-protect mode says
attribute_free : (m : Personality) (c : ℕ) → is_flags c ≡ true → writable m (written (Contents.Attribute c) false 0) ≡ true
unfolding writable is_attribute_cell
attribute_free Personality.Wy50 c e =
    let h = (flags_code c e).0 in
    let r = read_cell c false 1 0 h (omega arith) (omega arith) in
    let q : cell c false 1 0 / 256 ≡ 1 = omega arith in
    let f : is_flags (code (cell c false 1 0)) ≡ true = rw r.code_is e in
    either_second (eqb (cell c false 1 0) null) (either_second (is_stored Personality.Wy50 (cell c false 1 0)) (both_true (eq-eqb _ 1 q) f))
attribute_free Personality.Wy60 c e =
    let h = (flags_code c e).0 in
    let r = read_cell c false 1 0 h (omega arith) (omega arith) in
    let q : cell c false 1 0 / 128 ≡ 2 = omega arith in
    let f : is_flags (code (cell c false 1 0)) ≡ true = rw r.code_is e in
    either_second (eqb (cell c false 1 0) null) (either_second (is_stored Personality.Wy60 (cell c false 1 0)) (both_true (eq-eqb _ 2 q) f))

attribute_50 : (p : Bool) (c : ℕ) → is_flags c ≡ true → writable Personality.Wy50 (written (Contents.Attribute c) p 0) ≡ true
unfolding writable is_attribute_cell
attribute_50 false c e = attribute_free Personality.Wy50 c e
attribute_50 true c e =
    let h = (flags_code c e).0 in
    let r = read_cell c true 1 0 h (omega arith) (omega arith) in
    let q : cell c true 1 0 / 256 ≡ 1 = omega arith in
    let f : is_flags (code (cell c true 1 0)) ≡ true = rw r.code_is e in
    either_second (eqb (cell c true 1 0) null) (either_second (is_stored Personality.Wy50 (cell c true 1 0)) (both_true (eq-eqb _ 1 q) f))

pub filled_ok : (m : Personality) (k : Contents) → fill_ok k ≡ true → writable m (written k false 0) ≡ true
unfolding fill_ok
filled_ok m (Contents.Text c) e =
    ⊎_elim (λ h. let z = eqb-true c 0 h in rw z (null_ok m)) (text_ok_lem m c false)
    (either_parts (eqb c 0) (between 0x20 0x7e c) e)
filled_ok m (Contents.Attribute c) e = attribute_free m c e
filled_ok m (Contents.Graphic c) e = absurd (false≢true e)

-- a code of ESC G that takes a cell
pub taken_ok : (m : Personality) (p : Bool) (a : ℕ) → is_attribute a ≡ true → takes_cell m a ≡ true
    → writable m (written (attribute_contents a) p 0) ≡ true
unfolding is_attribute attribute_contents takes_cell
taken_ok m p a e t =
    pick_if (λ (k : Contents). writable m (written k p 0) ≡ true) (eqb a 0x20)
    (λ h. let z = eqb-true a 0x20 h in rw z (text_ok_lem m 0x20 p refl))
    (λ h. other m t h (rw h at e))
  where
    other : (m : Personality) → takes_cell m a ≡ true → eqb a 0x20 ≡ false → is_flags a ≡ true → writable m (written (Contents.Attribute a) p 0) ≡ true
    other Personality.Wy50 t h e = attribute_50 p a e
    other Personality.Wy60 t h e = absurd (false≢true (sym h ∙ t))

-- ---- the cases of a writable number

pub data Kinds (m : Personality) (v : ℕ) : Type 0 where
  is_null : v ≡ 0 → Kinds m v
  is_text_lem : v < 32768 → remembered_ok m (attribute v) ≡ true → v / 256 % 4 ≡ 0 → between 0x20 0x7e (code v) ≡ true → Kinds m v
  is_graphic : v < 32768 → remembered_ok m (attribute v) ≡ true → v / 256 % 4 ≡ 2 → between 0x30 0x3f (code v) ≡ true → Kinds m v
  is_free : v / 128 ≡ 2 → is_flags (code v) ≡ true → Kinds m v
  is_protected : m ≡ Personality.Wy50 → v / 128 ≡ 3 → is_flags (code v) ≡ true → Kinds m v

stored_kinds : (m : Personality) (v : ℕ) → is_stored m v ≡ true → Kinds m v
unfolding is_stored
stored_kinds m v e =
    let r = both_parts (ltb v 32768) _ e in
    let k = both_parts (remembered_ok m (attribute v)) _ r.1 in
    ⊎_elim (λ h. let x = both_parts (eqb (v / 256 % 4) 0) _ h in is_text_lem (ltb-true v 32768 r.0) k.0 (eqb-true _ 0 x.0) x.1)
    (λ h. let x = both_parts (eqb (v / 256 % 4) 2) _ h in is_graphic (ltb-true v 32768 r.0) k.0 (eqb-true _ 2 x.0) x.1)
    (either_parts (both (eqb (v / 256 % 4) 0) (between 0x20 0x7e (code v))) (both (eqb (v / 256 % 4) 2) (between 0x30 0x3f (code v))) k.1)

attribute_kinds : (m : Personality) (v : ℕ) → is_attribute_cell m v ≡ true → Kinds m v
unfolding is_attribute_cell
attribute_kinds Personality.Wy50 v e =
    let r = both_parts (eqb (v / 256) 1) (is_flags (code v)) e in
    let q = eqb-true (v / 256) 1 r.0 in
    ⊎_elim (λ h. is_protected refl (omega (arith, ltb-false (v / 128) 3 h)) r.1) (λ h. is_free (omega (arith, ltb-true (v / 128) 3 h)) r.1)
    (split (ltb (v / 128) 3))
  where
    split : (t : Bool) → (t ≡ false) ⊎ (t ≡ true)
    split true = inr refl
    split false = inl refl
attribute_kinds Personality.Wy60 v e =
    let r = both_parts (eqb (v / 128) 2) (is_flags (code v)) e in
    is_free (eqb-true (v / 128) 2 r.0) r.1

pub kinds : (m : Personality) (v : ℕ) → writable m v ≡ true → Kinds m v
unfolding writable
kinds m v e =
    ⊎_elim (λ h. is_null (eqb-true v 0 h))
    (λ h. ⊎_elim (stored_kinds m v) (attribute_kinds m v) (either_parts (is_stored m v) (is_attribute_cell m v) h))
    (either_parts (eqb v null) (either (is_stored m v) (is_attribute_cell m v)) e)

-- the attribute is made of the five flags
five : (q : ℕ) → q % 32 ≡ 16 * (q / 2 / 2 / 2 / 2 % 2) + 8 * (q / 2 / 2 / 2 % 2) + 4 * (q / 2 / 2 % 2) + 2 * (q / 2 % 2) + q % 2
five q = half q ∙ rw (half8 (q / 2), half4 (q / 2 / 2), half2 (q / 2 / 2 / 2)) (omega arith)
  where
    half : (q : ℕ) → q % 32 ≡ 2 * (q / 2 % 16) + q % 2
    half q = omega arith

    half8 : (q : ℕ) → q % 16 ≡ 2 * (q / 2 % 8) + q % 2
    half8 q = omega arith

    half4 : (q : ℕ) → q % 8 ≡ 2 * (q / 2 % 4) + q % 2
    half4 q = omega arith

    half2 : (q : ℕ) → q % 4 ≡ 2 * (q / 2 % 2) + q % 2
    half2 q = omega arith

-- the weight of a flag
pub bit : (q n : ℕ) → pick (eqb (q % 2) 1) n 0 ≡ n * (q % 2)
bit q n = by (eqb (q % 2) 1) refl
  where
    by : (t : Bool) → eqb (q % 2) 1 ≡ t → pick t n 0 ≡ n * (q % 2)
    by true e = rw (eqb-true (q % 2) 1 e) (omega arith)
    by false e =
        let z : q % 2 ≡ 0 = omega (arith, eqb-false (q % 2) 1 e) in
        rw z (omega arith)

pub attribute_flags : (v : ℕ)
    → attribute v ≡ pick (is_dim v) 16 0 + pick (is_underscore v) 8 0 + pick (is_reverse v) 4 0 + pick (is_blink v) 2 0 + pick (is_blank v) 1 0
attribute_flags v =
    rw (bit (v / 16384) 16, bit (v / 8192) 8, bit (v / 4096) 4, bit (v / 2048) 2, bit (v / 1024) 1, a, b, c, d)
    (five (v / 1024) ∙ omega arith)
  where
    a : v / 16384 ≡ v / 1024 / 2 / 2 / 2 / 2
    a = omega arith

    b : v / 8192 ≡ v / 1024 / 2 / 2 / 2
    b = omega arith

    c : v / 4096 ≡ v / 1024 / 2 / 2
    c = omega arith

    d : v / 2048 ≡ v / 1024 / 2
    d = omega arith

-- in WY-50 no flag is set
below_1024 : (v : ℕ) → v < 32768 → attribute v ≡ 0 → v < 1024
below_1024 v l e = let q : v / 1024 % 32 ≡ v / 1024 = omega arith in omega arith

small_50 : (v : ℕ) → Kinds Personality.Wy50 v → v < 1024
unfolding remembered_ok
small_50 v (is_null e) = omega arith
small_50 v (is_text_lem l a k c) = below_1024 v l (eqb-true (attribute v) 0 a)
small_50 v (is_graphic l a k c) = below_1024 v l (eqb-true (attribute v) 0 a)
small_50 v (is_free k c) = omega arith
small_50 v (is_protected e k c) = omega arith

pub normal_50 : (v : ℕ) → writable Personality.Wy50 v ≡ true → (v < 1024) × NoFlags v
normal_50 v e =
    let l = small_50 v (kinds Personality.Wy50 v e) in (
      l,
      record {
        dim = ne_eqb (v / 16384 % 2) 1 (omega arith);
        underscore = ne_eqb (v / 8192 % 2) 1 (omega arith);
        reverse = ne_eqb (v / 4096 % 2) 1 (omega arith);
        blink = ne_eqb (v / 2048 % 2) 1 (omega arith);
        blank = ne_eqb (v / 1024 % 2) 1 (omega arith);
      },
    )
