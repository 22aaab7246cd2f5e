-- What the code keeps of an item, in the terms of `Items.antt`: numbers without their places, and names as parts of the
-- text; then what the places inside it are. Contracts of functions that answer with an item cite this. Assumes nothing.
use Rattle.std.specs.Prelude.{◌≡◌, Bool, true, false, List, ℕ, ◌+◌, ◌-◌, ◌≤◌, ◌<◌, length, take, drop}
use Rattle.text.specs.declared.parsed.Parsed.{Parsed}
use Rattle.text.specs.Parsed.{next_or}
use Rattle.number.specs.Digits.{value_most, count_most, int_at}
use Rattle.number.specs.Decimal.{decimal_at}
use Rattle.keys.specs.Keys.{note_mark_at, key_at, accidental_found, key_found}
use Rattle.environment.specs.Ranges.{digit_run, amount_of}
use Rattle.items.specs.declared.item.Item.{Item}
use Rattle.items.specs.Items as Items

-- the item that stands from the place `at` of a text up to `next`
unfoldable pub item_of : List ℕ → ℕ → ℕ → Item → Items.Item
unfolding accidental_found key_found digit_run amount_of
item_of text at next (Item.Note n) = Items.note n.letter (accidental_found n.accidental) (digit_run n.value) n.dotted
item_of text at next Item.Up = Items.up
item_of text at next Item.Down = Items.down
item_of text at next Item.Opening = Items.opening
item_of text at next Item.Cut = Items.cut
item_of text at next (Item.Closing n) = Items.closing (digit_run n)
item_of text at next (Item.Octave n) = Items.octave (digit_run n)
item_of text at next (Item.Value n) = Items.value (digit_run n)
item_of text at next (Item.Tempo n) = Items.tempo (digit_run n)
item_of text at next (Item.Amplitude d) = Items.amplitude (amount_of d)
item_of text at next (Item.Key k) = Items.key (key_found k)
item_of text at next Item.Instrument = Items.instrument (take (next - at) (drop at text))
item_of text at next Item.Call = Items.call (take (next - at) (drop at text))
item_of text at next Item.Unknown = Items.unknown

-- the same with its width behind its first byte
unfoldable pub found_of : List ℕ → ℕ → Parsed Item → Items.Found
unfolding item_of
found_of text at f = Items.found (item_of text at f.next f.value) (f.next - (at + 1))

-- each number, accidental and key of an item whose first byte stands at `at` is what its reader answers at its place:
-- "The number reader must also tell where it stopped, and every caller gets that" (T-05)
unfoldable pub Inside : List ℕ → ℕ → Item → Type 0
Inside text at (Item.Note n) =
    (n.accidental ≡ note_mark_at text (at + 1))
    × (n.value ≡ int_at value_most text (next_or (at + 1) n.accidental))
Inside text at Item.Up = Unit
Inside text at Item.Down = Unit
Inside text at Item.Opening = Unit
Inside text at Item.Cut = Unit
Inside text at (Item.Closing n) = n ≡ int_at count_most text (at + 1)
Inside text at (Item.Octave n) = n ≡ int_at value_most text (at + 1)
Inside text at (Item.Value n) = n ≡ int_at value_most text (at + 1)
Inside text at (Item.Tempo n) = n ≡ int_at value_most text (at + 1)
Inside text at (Item.Amplitude d) = d ≡ decimal_at text (at + 1)
Inside text at (Item.Key k) = k ≡ key_at text (at + 1)
Inside text at Item.Instrument = Unit
Inside text at Item.Call = Unit
Inside text at Item.Unknown = Unit

-- all that is promised of the item that is found at a place: it is the definition's, it ends behind its first byte and
-- within the text, past the text's end nothing is passed over, and the places inside it are its readers'
pub record FoundAt (text : List ℕ) (at : ℕ) (f : Parsed Item) : Type 0 where
  pub meant : found_of text at f ≡ Items.item_on (drop at text)
  pub onward : at < length text → (at < f.next) × (f.next ≤ length text)
  pub past : length text ≤ at → f.next ≡ at
  pub inside : Inside text at f.value

-- whether an item is a macro call
unfoldable pub is_call : Item → Bool
is_call (Item.Note n) = false
is_call Item.Up = false
is_call Item.Down = false
is_call Item.Opening = false
is_call Item.Cut = false
is_call (Item.Closing n) = false
is_call (Item.Octave n) = false
is_call (Item.Value n) = false
is_call (Item.Tempo n) = false
is_call (Item.Amplitude d) = false
is_call (Item.Key k) = false
is_call Item.Instrument = false
is_call Item.Call = true
is_call Item.Unknown = false
