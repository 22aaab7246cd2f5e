-- Commands, names and the other items of the table: a number or a key that is read where it stands is that of the text behind the first byte, and at a
-- known byte the table computes. Assumes nothing.
use mathlib.Core.Path.{◌≡◌, sym, ap, ap₂, subst, ◌∙◌}
use mathlib.Core.Bool.{Bool, true, false}
use mathlib.Core.List.{List, ◌∷◌}
use mathlib.Core.Option.{Option}
use Prim.Native.Nat.{ℕ, suc, ◌+◌, ◌-◌, ◌<◌}
use native.Mathlib.Numerals.{add-one}
use native.Mathlib.Omega.{arith}
use lib.Ieee.{Float}
use lib.ListN.{length, take, drop, get_or, length-drop}
use lib.Seq.{drop-cons}
use Rattle.std.specs.Prelude.{Option as Answer, Result}
use Rattle.std.specs.Result.{result_ok}
use Rattle.text.specs.Blanks.{is_ink}
use Rattle.text.specs.Characters.{row_of}
use Rattle.text.specs.Fronts.{front}
use Rattle.text.specs.Parsed.{parsed, next_or}
use Rattle.text.specs.declared.parsed.Parsed.{Parsed}
use Rattle.text.proofs.Fronts.{front_within, take_front}
use Rattle.text.proofs.Rows.{row_none, row_past}
use Rattle.number.specs.declared.decimal.NoDecimal.{NoDecimal}
use Rattle.number.specs.Digits.{int_at, int_width}
use Rattle.number.specs.Decimal.{decimal_at, decimal_width}
use Rattle.number.proofs.Tokens.{int_moved, decimal_moved, int_moved_law, decimal_moved_law}
use Rattle.keys.specs.declared.key.Key.{Key}
use Rattle.keys.specs.Keys.{key_at, key_found, key_width}
use Rattle.environment.specs.Ranges.{digit_run, amount_of}
use Rattle.keys.proofs.Moves.{moved, key_moved_law}
use Rattle.items.specs.declared.item.Item.{Item as Written}
use Rattle.items.specs.Items.{Item, Found, found, unknown, amplitude, key}
use Rattle.items.specs.Items.{numbered, named, key_item, item_at, is_note_letter, note_at, beginnings}
use Rattle.items.specs.Steps.{Stands, rows_from}
use Rattle.items.specs.Written.{item_of, found_of, Inside}
use Rattle.items.proofs.Ends.{Ends, run_moved, amount_moved, key_moved, int_end_width, decimal_end_width, key_end_width, int_ends, decimal_ends, key_ends}

-- ---- what is read behind the first byte, which stands at `at`

module _ (text : List ℕ) (at : ℕ) (h : at < length text) where
  -- an item that ends at `next`
  stands : (i : Written) (next : ℕ) (says : Item) (width : ℕ) → Ends text (at + 1) next → item_of text at next i ≡ says → next ≡ at + 1 + width
      → Inside text at i → Stands text at (found says width) (parsed i next)
  unfolding found_of
  stands i next says width w e f g =
      record {
        meant = ap₂ found e (omega arith);
        onward = (omega (arith, w.past), w.within);
        inside = g;
      }

  -- an item of one byte
  pub alone_stands : (i : Written) (says : Item) → item_of text at (at + 1) i ≡ says → Inside text at i → Stands text at (found says 0) (parsed i (at + 1))
  alone_stands i says e g = stands i (at + 1) says 0 (record { past = omega arith; within = omega (arith, h) }) e (omega arith) g

  -- a digit run
  pub number_stands : (limit : ℕ) (n : Answer (Parsed ℕ)) (next : ℕ) (i : Written) (make : Option ℕ → Item) → n ≡ int_at limit text (at + 1)
      → next ≡ next_or (at + 1) n → item_of text at next i ≡ make (digit_run n) → Inside text at i
      → Stands text at (numbered make (int_at limit (drop (at + 1) text) 0)) (parsed i next)
  number_stands limit n next i make e f g k =
      let n₀ = int_at limit (drop (at + 1) text) 0 in
      let m : n ≡ int_moved (at + 1) n₀ = e ∙ int_moved_law limit text (at + 1) in
      let w : next ≡ at + 1 + int_width n₀ = f ∙ ap (next_or (at + 1)) m ∙ int_end_width (at + 1) n₀ in
      let v : digit_run n ≡ digit_run n₀ = ap digit_run m ∙ run_moved (at + 1) n₀ in
      let b = int_ends limit text (at + 1) n e (omega arith) in
      stands i next (make (digit_run n₀)) (int_width n₀) (subst (Ends text (at + 1)) (sym f) b) (g ∙ ap make v) w k

  pub amplitude_stands : (d : Result (Parsed Float) NoDecimal) (next : ℕ) → d ≡ decimal_at text (at + 1) → next ≡ next_or (at + 1) (result_ok d)
      → Stands text at
      (found (amplitude (amount_of (decimal_at (drop (at + 1) text) 0))) (decimal_width (decimal_at (drop (at + 1) text) 0)))
      (parsed (Written.Amplitude d) next)
  unfolding item_of Inside
  amplitude_stands d next e f =
      let d₀ = decimal_at (drop (at + 1) text) 0 in
      let m : d ≡ decimal_moved (at + 1) d₀ = e ∙ decimal_moved_law text (at + 1) in
      let w : next ≡ at + 1 + decimal_width d₀ = f ∙ ap (λ (x : Result (Parsed Float) NoDecimal). next_or (at + 1) (result_ok x)) m ∙ decimal_end_width (at + 1) d₀ in
      let v : amount_of d ≡ amount_of d₀ = ap amount_of m ∙ amount_moved (at + 1) d₀ in
      let b = decimal_ends text (at + 1) d e (omega arith) in
      stands (Written.Amplitude d) next (amplitude (amount_of d₀)) (decimal_width d₀) (subst (Ends text (at + 1)) (sym f) b) (ap amplitude v) w e

  pub key_stands : (k : Answer (Parsed Key)) (next : ℕ) → k ≡ key_at text (at + 1) → next ≡ next_or (at + 1) k
      → Stands text at (key_item (key_at (drop (at + 1) text) 0)) (parsed (Written.Key k) next)
  unfolding item_of Inside key_item
  key_stands k next e f =
      let k₀ = key_at (drop (at + 1) text) 0 in
      let m : k ≡ moved (at + 1) k₀ = e ∙ key_moved_law text (at + 1) in
      let w : next ≡ at + 1 + key_width k₀ = f ∙ ap (next_or (at + 1)) m ∙ key_end_width (at + 1) k₀ in
      let v : key_found k ≡ key_found k₀ = ap key_found m ∙ key_moved (at + 1) k₀ in
      let b = key_ends text (at + 1) k e (omega arith) in
      stands (Written.Key k) next (key (key_found k₀)) (key_width k₀) (subst (Ends text (at + 1)) (sym f) b) (ap key v) w e

  -- ---- names

  module _ (b next : ℕ) (q : b ≡ get_or text at 0) (e : next ≡ at + 1 + length (front is_ink (drop (at + 1) text))) where
    name_is : take (next - at) (drop at text) ≡ b ∷ front is_ink (drop (at + 1) text)
    name_is =
        let s = drop (at + 1) text in
        let w : next - at ≡ suc (length (front is_ink s)) = omega arith in
        let d : drop at text ≡ b ∷ s = drop-cons text at 0 h ∙ ap₂ (λ (x n : ℕ). x ∷ drop n text) (sym q) (sym (add-one at)) in
        ap₂ (λ (n : ℕ) (l : List ℕ). take n l) w d ∙ ap (λ (l : List ℕ). b ∷ l) (take_front is_ink s)

    -- the byte c that the name begins with is known
    pub name_stands : (i : Written) (make : List ℕ → Item) (c : ℕ) → b ≡ c → item_of text at next i ≡ make (take (next - at) (drop at text))
        → Inside text at i → Stands text at (named make c (drop (at + 1) text)) (parsed i next)
    unfolding named
    name_stands i make c f g k =
        let s = drop (at + 1) text in
        stands i next (make (c ∷ front is_ink s)) (length (front is_ink s))
        (record { past = omega arith; within = omega (arith, front_within is_ink s, length-drop (at + 1) text) })
        (g ∙ ap make (name_is ∙ ap (λ (x : ℕ). x ∷ front is_ink s) f)) e k

-- ---- the table

-- what it has for all other characters
abbrev others : ℕ → List ℕ → Found
others b s = found unknown 0

-- what it says may be said otherwise
pub stands_as : (text : List ℕ) (at : ℕ) (f : Parsed Written) (x y : Found) → x ≡ y → Stands text at x f → Stands text at y f
stands_as text at f x y e s = subst (λ (z : Found). Stands text at z f) e s

-- at a byte that is known
pub rows_at : (k b c : ℕ) (s : List ℕ) → b ≡ c → rows_from k c s ≡ rows_from k b s
rows_at k b c s e = ap (λ (x : ℕ). rows_from k x s) (sym e)

pub item_at_law : (b c : ℕ) (s : List ℕ) → b ≡ c → item_at c s ≡ item_at b s
item_at_law b c s e = ap (λ (x : ℕ). item_at x s) (sym e)

-- at a note's letter
pub at_letter : (b : ℕ) (s : List ℕ) → is_note_letter b ≡ true → note_at b s ≡ item_at b s
unfolding item_at
at_letter b s e = rw (e, item_at)

-- past rows of other characters
pub past_marks : (b : ℕ) (s : List ℕ) → is_note_letter b ≡ false
    → (b ≡ 62 → ⊥) → (b ≡ 60 → ⊥) → (b ≡ 91 → ⊥) → (b ≡ 58 → ⊥)
    → rows_from 4 b s ≡ item_at b s
unfolding item_at rows_from
past_marks b s e p q r t =
    ap (λ (f : ℕ → List ℕ → Found). f b s) (row_past 4 b others beginnings (p, (q, (r, (t, tt)))))
    ∙ sym (ap (λ (x : Bool). elim x as (λ _. Found) [ true ↦ note_at b s | false ↦ row_of b others beginnings b s ]) e)

pub past_runs : (b : ℕ) (s : List ℕ) → (b ≡ 93 → ⊥) → (b ≡ 111 → ⊥) → (b ≡ 108 → ⊥) → (b ≡ 116 → ⊥) → rows_from 8 b s ≡ rows_from 4 b s
unfolding rows_from
past_runs b s p q r t = ap (λ (f : ℕ → List ℕ → Found). f b s) (row_past 4 b others (drop 4 beginnings) (p, (q, (r, (t, tt)))))

-- past all of them
pub past_all : (b : ℕ) (s : List ℕ) → (b ≡ 118 → ⊥) → (b ≡ 107 → ⊥) → (b ≡ 64 → ⊥) → (b ≡ 33 → ⊥) → found unknown 0 ≡ rows_from 8 b s
unfolding rows_from
past_all b s p q r t = ap (λ (f : ℕ → List ℕ → Found). f b s) (sym (row_none b others (drop 8 beginnings) (p, (q, (r, (t, tt))))))
