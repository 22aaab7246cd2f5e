-- What an item tells, with the places inside it, says which item it is, and its width says where it ends. So two
-- answers that keep the promise of `item_at` for the same text and place are the same answer. Assumes nothing.
use mathlib.Core.Path.{◌≡◌, refl, sym, ap, ap₂, ◌∙◌}
use mathlib.Core.Bool.{Bool, true, false}
use mathlib.Core.List.{List}
use Prim.Native.Nat.{ℕ, ◌+◌, ◌-◌}
use native.Mathlib.Omega.{arith}
use lib.Dec.{leb}
use lib.ListN.{length}
use borrow.Author.Tests.{leb-true, leb-false}
use Rattle.std.specs.Prelude.{Option as Answer}
use Rattle.text.specs.declared.parsed.Parsed.{Parsed}
use Rattle.text.specs.Parsed.{parsed, next_or}
use Rattle.number.specs.Digits.{value_most, count_most, int_at}
use Rattle.number.specs.Decimal.{decimal_at}
use Rattle.keys.specs.declared.key.Accidental.{Accidental}
use Rattle.keys.specs.Keys.{note_mark_at, key_at}
use Rattle.items.specs.declared.item.Item.{Item}
use Rattle.items.specs.Items as Items
use Rattle.items.specs.Written.{item_of, found_of, Inside, FoundAt}

-- ---- the item

module _ (text : List ℕ) (at : ℕ) where
  abbrev mark_there : Answer (Parsed Accidental)
  mark_there = note_mark_at text (at + 1)

  abbrev note : ℕ → Answer (Parsed Accidental) → Answer (Parsed ℕ) → Bool → Item
  note letter m v d = Item.Note (record { letter = letter; accidental = m; value = v; dotted = d })

  -- the code's item for one of the definition, with what the readers answer at their places
  unfoldable written_as : Items.Item → Item
  written_as (Items.note letter a v d) = note letter mark_there (int_at value_most text (next_or (at + 1) mark_there)) d
  written_as Items.up = Item.Up
  written_as Items.down = Item.Down
  written_as Items.opening = Item.Opening
  written_as Items.cut = Item.Cut
  written_as (Items.closing n) = Item.Closing (int_at count_most text (at + 1))
  written_as (Items.octave n) = Item.Octave (int_at value_most text (at + 1))
  written_as (Items.value n) = Item.Value (int_at value_most text (at + 1))
  written_as (Items.tempo n) = Item.Tempo (int_at value_most text (at + 1))
  written_as (Items.amplitude d) = Item.Amplitude (decimal_at text (at + 1))
  written_as (Items.key k) = Item.Key (key_at text (at + 1))
  written_as (Items.instrument s) = Item.Instrument
  written_as (Items.call s) = Item.Call
  written_as Items.unknown = Item.Unknown

  written_is : (next : ℕ) (i : Item) → Inside text at i → i ≡ written_as (item_of text at next i)
  unfolding Inside item_of written_as
  written_is next (Item.Note n) h =
      ap₂ (λ (m : Answer (Parsed Accidental)) (v : Answer (Parsed ℕ)). note n.letter m v n.dotted) h.0
      (h.1 ∙ ap (λ (m : Answer (Parsed Accidental)). int_at value_most text (next_or (at + 1) m)) h.0)
  written_is next Item.Up h = refl
  written_is next Item.Down h = refl
  written_is next Item.Opening h = refl
  written_is next Item.Cut h = refl
  written_is next (Item.Closing n) h = ap Item.Closing h
  written_is next (Item.Octave n) h = ap Item.Octave h
  written_is next (Item.Value n) h = ap Item.Value h
  written_is next (Item.Tempo n) h = ap Item.Tempo h
  written_is next (Item.Amplitude d) h = ap Item.Amplitude h
  written_is next (Item.Key k) h = ap Item.Key h
  written_is next Item.Instrument h = refl
  written_is next Item.Call h = refl
  written_is next Item.Unknown h = refl

-- ---- the answer

module _ (text : List ℕ) (at : ℕ) (r q : Parsed Item) (h : FoundAt text at r) (k : FoundAt text at q) where
  told : found_of text at r ≡ found_of text at q
  told = h.meant ∙ sym k.meant

  item_same : r.value ≡ q.value
  unfolding found_of
  item_same =
      written_is text at r.next r.value h.inside
      ∙ ap (λ (f : Items.Found). written_as text at f.item) told
      ∙ sym (written_is text at q.next q.value k.inside)

  next_same : r.next ≡ q.next
  unfolding found_of
  next_same = go (leb (length text) at) refl where
    width : r.next - (at + 1) ≡ q.next - (at + 1)
    width = ap (λ (f : Items.Found). f.width) told

    go : (b : Bool) → leb (length text) at ≡ b → r.next ≡ q.next
    go true e = let l = leb-true (length text) at e in h.past l ∙ sym (k.past l)
    go false e = let l = leb-false (length text) at e in omega (arith, width, (h.onward l).0, (k.onward l).0)

  pub found_same : r ≡ q
  found_same = ap₂ (λ (i : Item) (n : ℕ). parsed i n) item_same next_same
