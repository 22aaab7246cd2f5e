-- What the steps of the reader of an item promise, and what a part of the table of beginnings says. Private functions'
-- contracts cite this, and no public one. Assumes nothing.
use Rattle.std.specs.Prelude.{◌≡◌, List, ℕ, ◌≤◌, ◌<◌, length, drop}
use Rattle.text.specs.declared.parsed.Parsed.{Parsed}
use Rattle.text.specs.Characters.{row_of}
use Rattle.items.specs.declared.item.Item.{Item}
use Rattle.items.specs.Items.{Found, found, unknown, beginnings}
use Rattle.items.specs.Written.{found_of, Inside}

-- the item that was found at a place of a text is what a row says: it ends behind its first byte and within the text, and
-- the places inside it are its readers'
pub record Stands (text : List ℕ) (at : ℕ) (says : Found) (f : Parsed Item) : Type 0 where
  pub meant : found_of text at f ≡ says
  pub onward : (at < f.next) × (f.next ≤ length text)
  pub inside : Inside text at f.value

-- the table of beginnings without its first k rows
unfoldable pub rows_from : ℕ → ℕ → List ℕ → Found
unfolding row_of beginnings
rows_from k b s = row_of b (λ b s. found unknown 0) (drop k beginnings) b s
