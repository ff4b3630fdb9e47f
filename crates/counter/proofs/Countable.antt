-- How a reply to ESC 5 is counted.
--     replies_count     the statement of specs/Ask
-- Assumes nothing.
use mathlib.Core.Path.{◌≡◌, refl, sym, ◌∙◌}
use mathlib.Core.Bool.{Bool, true, false, not}
use mathlib.Core.List.{List, [], ◌∷◌, ◌++◌}
use Prim.Native.Nat.{ℕ, zero, suc, ◌+◌, ◌-◌, ◌<◌}
use native.Mathlib.Omega.{arith}
use lib.Dec.{leb, ltb, eqb}
use lib.ListN.{length, get_or, take, drop, length-append}
use lib.Seq.{take-append_seam, get_or-append_seam}
use borrow.Author.Tests.{eqb-true, not-false, ltb-true}
use Rattle.rules.specs.Cell.{pick, either, between}
use Rattle.std.specs.Prelude.{Err}
use Rattle.counter.specs.declared.Refusal.{Refusal}
use Rattle.counter.specs.Alphabet.{space, backquote, in_alphabet, units, first_outside}
use Rattle.counter.specs.Pieces.{returns, before, is_mark, onto, cut_at_marks, pieces, joined, whole}
use Rattle.rules.specs.Fields.{kept, trimmed}
use Rattle.counter.specs.Parts.{parts}
use Rattle.counter.specs.Count.{Counted, of_units, capped, sized, text_count, in_order, count_rule}
use Rattle.counter.specs.Ask.{is_sent, AllSent, none, more, Replies, RepliesCount}

-- ---- the pieces are text alone

data AllText : List ℕ → Type 0 where
  nothing : AllText []
  byte : {b : ℕ} {l : List ℕ} → between 0x20 0x7e b ≡ true → AllText l → AllText (b ∷ l)

data EachText : List (List ℕ) → Type 0 where
  empty : EachText []
  piece : {t : List ℕ} {ts : List (List ℕ)} → AllText t → EachText ts → EachText (t ∷ ts)

text_append : {a b : List ℕ} → AllText a → AllText b → AllText (a ++ b)
text_append nothing y = y
text_append (byte h x) y = byte h (text_append x y)

each_onto : {ts : List (List ℕ)} (b : ℕ) → between 0x20 0x7e b ≡ true → EachText ts → EachText (onto b ts)
unfolding onto
each_onto b h empty = piece (byte h nothing) empty
each_onto b h (piece x y) = piece (byte h x) y

each_take : {ts : List (List ℕ)} (n : ℕ) → EachText ts → EachText (take n ts)
each_take zero x = empty
each_take (suc n) empty = empty
each_take (suc n) (piece x y) = piece x (each_take n y)

each_drop : {ts : List (List ℕ)} (n : ℕ) → EachText ts → EachText (drop n ts)
each_drop zero x = x
each_drop (suc n) empty = empty
each_drop (suc n) (piece x y) = each_drop n y

each_joined : {ts : List (List ℕ)} → EachText ts → AllText (joined ts)
unfolding joined
each_joined empty = nothing
each_joined (piece x y) = text_append x (each_joined y)

each_cut : {l : List ℕ} → AllSent l → EachText (cut_at_marks l)
unfolding cut_at_marks is_sent
each_cut none = piece nothing empty
each_cut (more {b = b} {l = l} h x) = by_mark b (is_mark b) h (each_cut x)
  where
    by_mark : {ts : List (List ℕ)} (b : ℕ) (m : Bool) → either m (between 0x20 0x7e b) ≡ true → EachText ts → EachText (pick m ([] ∷ ts) (onto b ts))
    by_mark b true h y = piece nothing y
    by_mark b false h y = each_onto b h y

-- ---- what is refused of such a text is a backquote

text_kept : {l : List ℕ} (b : ℕ) → between 0x20 0x7e b ≡ true → AllText l → AllText (kept b l)
unfolding kept
text_kept b h nothing = by_test (eqb b space)
  where
    by_test : (t : Bool) → AllText (pick t [] (b ∷ []))
    by_test true = nothing
    by_test false = byte h nothing
text_kept b h (byte k x) = byte h (byte k x)

text_trimmed : {l : List ℕ} → AllText l → AllText (trimmed l)
unfolding trimmed
text_trimmed nothing = nothing
text_trimmed (byte {b = b} h x) = text_kept b h (text_trimmed x)

is_backquote : (b : ℕ) → between 0x20 0x7e b ≡ true → in_alphabet b ≡ false → b ≡ backquote
unfolding in_alphabet
is_backquote b h e =
    let k : not (eqb b backquote) ≡ false = rw h at e in
    eqb-true b backquote (not-false _ k)

first_refused : {l : List ℕ} → AllText l → first_outside l < length l → get_or l (first_outside l) 0 ≡ backquote
unfolding first_outside
first_refused nothing h = absurd (omega arith)
first_refused (byte {b = b} {l = l} k x) h = by_letter b l k (first_refused x) (in_alphabet b) refl h
  where
    by_letter : (b : ℕ) (l : List ℕ) → between 0x20 0x7e b ≡ true → (first_outside l < length l → get_or l (first_outside l) 0 ≡ backquote)
        → (t : Bool) → in_alphabet b ≡ t → pick t (suc (first_outside l)) 0 < suc (length l)
        → get_or (b ∷ l) (pick t (suc (first_outside l)) 0) 0 ≡ backquote
    by_letter b l k y true e h = y (omega arith)
    by_letter b l k y false e h = is_backquote b k e

-- dropping trailing spaces moves no place
kept_place : (b : ℕ) (m l : List ℕ) → ((n : ℕ) → n < length m → get_or m n 0 ≡ get_or l n 0) → (n : ℕ) → n < length (kept b m)
    → get_or (kept b m) n 0 ≡ get_or (b ∷ l) n 0
unfolding kept
kept_place b [] l x n h = by_test (eqb b space) n h
  where
    by_test : (t : Bool) (n : ℕ) → n < length (pick t [] (b ∷ [])) → get_or (pick t [] (b ∷ [])) n 0 ≡ get_or (b ∷ l) n 0
    by_test true n h = absurd (omega arith)
    by_test false zero h = refl
    by_test false (suc n) h = absurd (omega arith)
kept_place b (y ∷ m) l x zero h = refl
kept_place b (y ∷ m) l x (suc n) h = x n (omega arith)

trimmed_place : (l : List ℕ) (n : ℕ) → n < length (trimmed l) → get_or (trimmed l) n 0 ≡ get_or l n 0
unfolding trimmed
trimmed_place [] n h = absurd (omega arith)
trimmed_place (b ∷ l) n h = kept_place b (trimmed l) l (trimmed_place l) n h

-- ---- the count

reply_returns : {r : List ℕ} → Replies r → returns r ≡ true
unfolding returns
reply_returns x =
    let n : length (x.text ++ 0x0d ∷ []) - 1 ≡ length x.text = omega (arith, length-append x.text (0x0d ∷ [])) in
    rw (x.is, n, get_or-append_seam)

reply_before : {r : List ℕ} (x : Replies r) → before r ≡ x.text
reply_before x =
    let n : length (x.text ++ 0x0d ∷ []) - 1 ≡ length x.text = omega (arith, length-append x.text (0x0d ∷ [])) in
    rw (x.is, n) (take-append_seam x.text _)

-- a count by its tests, once the CR is there
abbrev ranged : Bool → Bool → Bool → ℕ → ℕ → ℕ → Counted
ranged a b t k u n = pick a (pick b (pick t (Err (Refusal.BadByte k)) (of_units u n)) (Err Refusal.BadLast)) (Err Refusal.BadFirst)

never_return : (a b t : Bool) (k u n : ℕ) → ranged a b t k u n ≡ Err Refusal.NoReturn → ⊥
never_return true true true k u n e = cc
never_return true true false k u n e = cc
never_return true false t k u n e = cc
never_return false b t k u n e = cc

refused_place : (a b t : Bool) (k u n m : ℕ) → ranged a b t k u n ≡ Err (Refusal.BadByte m) → (t ≡ true) × (m ≡ k)
refused_place true true true k u n m e = (refl, cc)
refused_place true true false k u n m e = absurd (cc)
refused_place true false t k u n m e = absurd (cc)
refused_place false b t k u n m e = absurd (cc)

module _ (r : List ℕ) (first last : ℕ) (x : Replies r) where
  abbrev text : List ℕ
  text = trimmed (whole r first last)

  count_is : count_rule r first last
      ≡ ranged (in_order first last) (leb last (length (pieces r))) (ltb (first_outside text) (length text)) (first_outside text)
      (capped (units text)) (parts text)
  unfolding count_rule text_count sized
  count_is = rw (reply_returns x)

  whole_text : AllText (whole r first last)
  unfolding whole pieces
  whole_text =
      rw (reply_returns x, reply_before x) (each_joined (each_take (last + 1 - first) (each_drop (first - 1) (each_cut x.sent))))

  refused_byte : (n : ℕ) → count_rule r first last ≡ Err (Refusal.BadByte n) → get_or (whole r first last) n 0 ≡ backquote
  refused_byte n e =
      let y = refused_place (in_order first last) (leb last (length (pieces r)))
      (ltb (first_outside (trimmed (whole r first last))) (length (trimmed (whole r first last)))) (first_outside (trimmed (whole r first last)))
      (capped (units (trimmed (whole r first last)))) (parts (trimmed (whole r first last))) n (sym count_is ∙ e) in
      let h : first_outside (trimmed (whole r first last)) < length (trimmed (whole r first last)) = ltb-true _ _ y.0 in
      rw y.1 (sym (trimmed_place (whole r first last) (first_outside (trimmed (whole r first last))) h) ∙ first_refused (text_trimmed whole_text) h)

  not_return : count_rule r first last ≡ Err Refusal.NoReturn → ⊥
  not_return e =
      never_return (in_order first last) (leb last (length (pieces r)))
      (ltb (first_outside (trimmed (whole r first last))) (length (trimmed (whole r first last)))) (first_outside (trimmed (whole r first last)))
      (capped (units (trimmed (whole r first last)))) (parts (trimmed (whole r first last))) (sym count_is ∙ e)

pub replies_count : RepliesCount
replies_count r first last x = record { return = not_return r first last x; byte = refused_byte r first last x }
