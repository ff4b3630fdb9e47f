-- What request A8 of document 02 claims of the two personalities. All other statements range over both, since a state holds its own.
use Rattle.std.specs.Prelude.{◌≡◌, Bool, true, false, List, ℕ, ◌+◌, ◌*◌, ◌/◌, ◌<◌, ◌≤◌}
use Rattle.rules.specs.declared.State.{State}
use Rattle.rules.specs.declared.Personality.{Personality}
use Rattle.rules.specs.declared.Personality.TheVariants as Personality
use Rattle.rules.specs.Cell.{pick, kind, is_dim, is_underscore, is_reverse, is_blink, is_blank, attribute, normal}
use Rattle.rules.specs.Possible.{power_on, blank}
use Rattle.rules.specs.Calls.{Call, play}
use Rattle.rules.specs.Writable.{writable, AllWritable}

-- a number reads as it did in document 01, where its kind was v div 256, and its attribute is normal
pub record ReadsAsBefore (v : ℕ) : Type 0 where
  pub same_kind : kind v ≡ v / 256
  pub no_attribute : attribute v ≡ normal

-- no attribute flag is set
pub record NoFlags (v : ℕ) : Type 0 where
  pub dim : is_dim v ≡ false
  pub underscore : is_underscore v ≡ false
  pub reverse : is_reverse v ≡ false
  pub blink : is_blink v ≡ false
  pub blank : is_blank v ≡ false

pub record Personalities : Type 0 where
  -- no call changes the personality, of any page and state, bad ones too
  pub kept : (calls : List Call) (p : List ℕ) (s : State) → (play calls p s).state.core.personality ≡ s.core.personality
  -- the attribute is the five flags
  pub flags : (v : ℕ)
      → attribute v ≡ pick (is_dim v) 16 0 + pick (is_underscore v) 8 0 + pick (is_reverse v) 4 0 + pick (is_blink v) 2 0 + pick (is_blank v) 1 0
  -- every number that the rules of document 01 could write, a code, the 128s bit and a kind up to 2, reads as it did
  pub as_before : (c : ℕ) (p : Bool) (k : ℕ) → c < 128 → k ≤ 2 → ReadsAsBefore (c + pick p 128 0 + 256 * k)
  -- onto a page of writable numbers no calls bring any other, and from power-on there are no others
  pub numbers : (calls : List Call) (p : List ℕ) (s : State) → AllWritable s.core.personality p
      → AllWritable s.core.personality (play calls p s).page
  pub from_power_on_lem : (m : Personality) (calls : List Call) → AllWritable m (play calls blank (power_on m)).page
  -- of these, the WY-50 writes none with a flag
  pub wy50_writes : (v : ℕ) → writable Personality.Wy50 v ≡ true → (v < 1024) × NoFlags v
