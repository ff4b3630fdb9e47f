-- Worked set-ups and stores, by the sentences of request A10 of document 02.
use Rattle.std.specs.Prelude.{◌≡◌, true, false, List, [], ◌∷◌, ◌++◌, ℕ, ◌+◌, ◌*◌, length, take, drop, replicate, Ok, Err}
use Rattle.rules.specs.declared.State.{State}
use Rattle.rules.specs.declared.Setup.{Setup}
use Rattle.rules.specs.declared.Personality.TheVariants as Personality
use Rattle.rules.specs.State.{short_text, no_text, with_tabs, with_keys, with_labels}
use Rattle.rules.specs.Possible.{power_on}
use Rattle.saved.specs.declared.Refusal.TheVariants as Refusal
use Rattle.saved.specs.SetupBytes.{stop_bytes, by_code, feature_bytes, attribute_bytes, text_bytes, key_value, label_value, setup_bytes}
use Rattle.saved.specs.Settings.{with_settings, with_setup}
use Rattle.saved.specs.Store.{two_bytes, two_at, last_number, place_of, setup_of, after_save, last_of_all, all_zero, is_place, is_store}
use Rattle.saved.specs.SavedSetups as Statement
use Rattle.saved.specs.Calls.{saved, save_rule, restorable, restoring, restore_rule}

abbrev pub on : State
on = power_on Personality.Wy50

-- a set-up with every stop, full keys and full labels
abbrev pub full : Setup
full =
    with_labels (with_keys (with_tabs on.setup (replicate 132 true)) (replicate 32 (short_text (replicate 8 0x41))))
    (replicate 16 (short_text (replicate 8 0x41))) false

-- set-ups as bytes: the groups in their order, each ascending by value
pub record Bytes : Type 0 where
  -- columns 1 and 3
  pub stops : stop_bytes 0 (true ∷ false ∷ true ∷ []) ≡ 0x1b ∷ 0x3d ∷ 0x20 ∷ 0x20 ∷ 0x1b ∷ 0x31 ∷ 0x1b ∷ 0x3d ∷ 0x20 ∷ 0x22 ∷ 0x1b ∷ 0x31 ∷ []
  pub features : feature_bytes (by_code (0x30 ∷ 0x32 ∷ 0x36 ∷ 0x38 ∷ 0x3c ∷ []))
      ≡ 0x1b ∷ 0x60 ∷ 0x30 ∷ 0x1b ∷ 0x60 ∷ 0x32 ∷ 0x1b ∷ 0x60 ∷ 0x36 ∷ 0x1b ∷ 0x60 ∷ 0x38 ∷ 0x1b ∷ 0x60 ∷ 0x3c ∷ []
  -- the protected look 41h comes behind the scrolling code
  pub look : by_code (0x31 ∷ 0x35 ∷ 0x41 ∷ 0x39 ∷ 0x40 ∷ []) ≡ 0x31 ∷ 0x35 ∷ 0x39 ∷ 0x40 ∷ 0x41 ∷ []
  pub attributes : attribute_bytes 0x30 (0x30 ∷ 0x34 ∷ 0x70 ∷ 0x20 ∷ [])
      ≡ 0x1b ∷ 0x41 ∷ 0x30 ∷ 0x30 ∷ 0x1b ∷ 0x41 ∷ 0x31 ∷ 0x34 ∷ 0x1b ∷ 0x41 ∷ 0x32 ∷ 0x70 ∷ 0x1b ∷ 0x41 ∷ 0x33 ∷ 0x20 ∷ []
  pub key : text_bytes 0x7f 0x40 (short_text (0x0d ∷ 0x61 ∷ [])) ≡ 0x1b ∷ 0x7a ∷ 0x40 ∷ 0x0d ∷ 0x61 ∷ 0x7f ∷ []
  pub keys : key_value 0 ∷ key_value 15 ∷ key_value 16 ∷ key_value 31 ∷ [] ≡ 0x40 ∷ 0x4f ∷ 0x60 ∷ 0x6f ∷ []
  pub labels : label_value 0 ∷ label_value 7 ∷ label_value 8 ∷ label_value 15 ∷ [] ≡ 0x30 ∷ 0x37 ∷ 0x50 ∷ 0x57 ∷ []
  -- at power_on_lem: features, field attributes, and 32 keys and 16 labels, empty ones too
  pub power_on_lem : length (setup_bytes on.setup) ≡ 15 + 16 + 32 * 4 + 16 * 4
  pub front : take 34 (setup_bytes on.setup)
      ≡ 0x1b ∷ 0x60 ∷ 0x31 ∷ 0x1b ∷ 0x60 ∷ 0x35 ∷ 0x1b ∷ 0x60 ∷ 0x37 ∷ 0x1b ∷ 0x60 ∷ 0x39 ∷ 0x1b ∷ 0x60 ∷ 0x40
      ∷ 0x1b ∷ 0x41 ∷ 0x30 ∷ 0x30 ∷ 0x1b ∷ 0x41 ∷ 0x31 ∷ 0x30 ∷ 0x1b ∷ 0x41 ∷ 0x32 ∷ 0x30 ∷ 0x1b ∷ 0x41 ∷ 0x33 ∷ 0x30 ∷ 0x1b ∷ 0x7a ∷ 0x40 ∷ []
  pub back : drop 219 (setup_bytes on.setup) ≡ 0x1b ∷ 0x7a ∷ 0x57 ∷ 0x0d ∷ []
  -- the longest, and no stop beyond column 80 in it
  pub longest : length (setup_bytes full) ≡ 1087
  pub first_key : take 3 (drop 511 (setup_bytes full)) ≡ 0x1b ∷ 0x7a ∷ 0x40 ∷ []

-- what a restore sets, and what it leaves
pub record Restored : Type 0 where
  pub keys : (with_settings full on.setup).keys ≡ full.keys
  pub labels : (with_settings full on.setup).labels ≡ full.labels
  pub stops : (with_settings full on.setup).tabs ≡ replicate 80 true ++ replicate 52 false
  pub shifted : (with_settings (with_labels on.setup (replicate 16 no_text) true) on.setup).shifted ≡ false

-- the store of zeros, and stores after saves of made-up bytes
abbrev pub zeros : List ℕ
zeros = replicate 8714 0

abbrev pub one : List ℕ
one = after_save (0x61 ∷ 0x62 ∷ 0x63 ∷ []) zeros

abbrev pub eight : List ℕ
eight =
    after_save (0x68 ∷ []) (after_save (0x67 ∷ []) (after_save (0x66 ∷ [])
    (after_save (0x65 ∷ []) (after_save (0x64 ∷ []) (after_save (0x63 ∷ []) (after_save (0x62 ∷ []) one))))))

abbrev pub nine : List ℕ
nine = after_save (0x69 ∷ []) eight

pub record Stores : Type 0 where
  -- numbers and lengths take two bytes, low first
  pub number : two_bytes 1087 ≡ 0x3f ∷ 0x04 ∷ []
  pub read : two_at (0x00 ∷ 0x3f ∷ 0x04 ∷ []) 1 ≡ 1087
  -- the last number of all is the last that two bytes hold
  pub end : two_bytes last_of_all ≡ 0xff ∷ 0xff ∷ []
  pub byte : Statement.Bytes (0xff ∷ [])
  pub first : take 7 one ≡ 0x01 ∷ 0x00 ∷ 0x03 ∷ 0x00 ∷ 0x61 ∷ 0x62 ∷ 0x63 ∷ []
  pub behind : all_zero (drop 7 one) ≡ true
  pub size : length nine ≡ 8714
  -- number 9 stands in the place of number 1, with zeros behind it
  pub last : last_number nine ≡ 9
  pub over : take 7 nine ≡ 0x09 ∷ 0x00 ∷ 0x01 ∷ 0x00 ∷ 0x69 ∷ 0x00 ∷ 0x00 ∷ []
  pub kept : setup_of nine 2 ∷ setup_of nine 8 ∷ setup_of nine 9 ∷ [] ≡ (0x62 ∷ []) ∷ (0x68 ∷ []) ∷ (0x69 ∷ []) ∷ []
  pub placed : place_of 1 ∷ place_of 8 ∷ place_of 9 ∷ place_of 65535 ∷ [] ≡ 0 ∷ 7 ∷ 0 ∷ 6 ∷ []
  -- which stores saves could leave
  pub zero : is_store zeros ≡ true
  pub short : is_store (replicate 8713 0) ≡ false
  pub rubbish : is_store (replicate 8713 0 ++ 0x01 ∷ []) ≡ false
  -- a set-up too long, and bytes behind one
  pub long : is_place (0x40 ∷ 0x04 ∷ replicate 1087 0) ≡ false
  pub dirty : is_place (0x01 ∷ 0x00 ∷ 0x61 ∷ 0x00 ∷ 0x01 ∷ replicate 1084 0) ≡ false

-- the last eight numbers can be restored
pub record Numbers : Type 0 where
  pub none : restorable 0 0 ∷ restorable 0 1 ∷ [] ≡ false ∷ false ∷ []
  pub three : restorable 3 0 ∷ restorable 3 1 ∷ restorable 3 3 ∷ restorable 3 4 ∷ [] ≡ false ∷ true ∷ true ∷ false ∷ []
  pub nine : restorable 9 1 ∷ restorable 9 2 ∷ restorable 9 9 ∷ restorable 9 10 ∷ [] ≡ false ∷ true ∷ true ∷ false ∷ []
  pub last : restorable 65535 65527 ∷ restorable 65535 65528 ∷ restorable 65535 65535 ∷ [] ≡ false ∷ true ∷ true ∷ []

-- a state that is not possible: a tab stop beyond column 80
abbrev pub bad : State
bad = with_setup on (with_tabs on.setup (replicate 132 true))

pub record Calls : Type 0 where
  -- numbers count from 1
  pub first : save_rule on zeros ≡ saved (Ok 1) (after_save (setup_bytes on.setup) zeros)
  -- refusals in their order
  pub save_state : save_rule bad [] ≡ saved (Err Refusal.BadState) []
  pub save_store : save_rule on [] ≡ saved (Err Refusal.BadStore) []
  pub restore_state : restore_rule bad [] 0 ≡ restoring bad (Err Refusal.BadState)
  pub restore_store : restore_rule on [] 0 ≡ restoring on (Err Refusal.BadStore)
  pub restore_number_lem : restore_rule on zeros 0 ≡ restoring on (Err Refusal.BadNumber)
  pub restore_above : restore_rule on zeros 1 ≡ restoring on (Err Refusal.BadNumber)

pub record Worked : Type 0 where
  pub bytes : Bytes
  pub restored : Restored
  pub stores : Stores
  pub numbers : Numbers
  pub calls : Calls
