-- The store of the function keys is never over 256 bytes.
--     key_stores     the key bytes of a possible state, and those after a key is programmed
--     five_unused     no step answers 5
-- Assumes nothing.
use mathlib.Core.Path.{◌≡◌}
use mathlib.Core.Bool.{true}
use mathlib.Core.List.{List, [], ◌∷◌}
use Prim.Native.Nat.{ℕ, ◌*◌, ◌≤◌}
use native.Mathlib.Omega.{arith}
use lib.ListN.{length, take, set, length-set}
use Rattle.rules.specs.declared.Text.{Text}
use Rattle.rules.specs.State.{short_text, key_place, stored}
use Rattle.rules.specs.Slot.{text_ok, texts_ok}
use Rattle.rules.specs.Theorems.KeyStore.{key_bytes, KeyStores, Unused}
use Rattle.rules.proofs.Tests.{both_parts}
use Rattle.rules.proofs.Texts.{text_parts, text_taken, texts_set}
use Rattle.rules.proofs.Kept.{possible_parts}
use Rattle.rules.proofs.Left.{step_unused}

-- eight bytes a key
bytes_most : (l : List (Text 8)) → texts_ok 0 l ≡ true → key_bytes l ≤ 8 * length l
unfolding texts_ok key_bytes
bytes_most [] e = omega arith
bytes_most (k ∷ l) e =
    let r = both_parts (text_ok 0 8 k.len k.bytes) (texts_ok 0 l) e in
    omega (arith, bytes_most l r.1, (text_parts 0 8 k.len k.bytes r.0).0)

-- also after one of them has another text
set_most : (l : List (Text 8)) (n m : ℕ) (g : List ℕ) → length l ≡ 32 → texts_ok 0 l ≡ true → text_ok 0 8 m g ≡ true
    → key_bytes (set l n (short_text (take m g))) ≤ 256
set_most l n m g k e h =
    let t = short_text (take m g) in
    let size : length (set l n t) ≡ 32 = simp length-set k in
    omega (arith, bytes_most (set l n t) (texts_set 0 l n t e (text_taken 0 8 m g h)), size)

pub key_stores : KeyStores
unfolding stored
key_stores s m h =
    let e = (possible_parts s h).setup.keys in
    record {
      total = omega (arith, bytes_most s.setup.keys e, m);
      programmed = λ v n g o. set_most s.setup.keys (key_place v) n g m e o;
    }

pub five_unused : Unused
five_unused = step_unused
