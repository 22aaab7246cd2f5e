-- The items of a body: notes, commands, marks and macro calls, as they are written. What an item does stands in `Body.antt`. Document 01: "Blank runs
-- separate and do nothing. `;` ends the body"; "`@` and `!` names run to the next blank." Assumes nothing.
use Rattle.std.specs.Prelude.{Option as Answer, Bool, true, false, ◌||◌, List, [], ◌∷◌, ℕ, zero, suc, ◌+◌, length, drop}
use Rattle.std.proofs.Math.Option.{Option}
use Prim.Native.Char.{Char}
use Rattle.text.specs.Blanks.{is_blank, is_ink}
use Rattle.text.specs.Characters.{is, starts_with, begins, row_of}
use Rattle.text.specs.Fronts.{front}
use Rattle.text.specs.declared.parsed.Parsed.{Parsed}
use Rattle.text.specs.Parsed.{next_or}
use Rattle.number.specs.Digits.{value_most, count_most, int_at, int_width}
use Rattle.number.specs.Decimal.{decimal_at, decimal_width}
use Rattle.keys.specs.declared.key.Accidental.{Accidental}
use Rattle.keys.specs.declared.key.Key.{Key}
use Rattle.keys.specs.Keys.{is_key_letter, note_mark_at, key_at, accidental_found, key_found, key_width}
use Rattle.environment.specs.Ranges.{Amount, digit_run, amount_of}

-- an item of a body, as it is written
pub data Item : Type 0 where
  -- a letter, its accidental, its value and whether it is dotted
  note : ℕ → Option Accidental → Option ℕ → Bool → Item
  -- `>` and `<`
  up down : Item
  -- `[`, `:`, and `]` with its count
  opening cut : Item
  closing : Option ℕ → Item
  -- `o`, `l` and `t` with their digit runs
  octave value tempo : Option ℕ → Item
  -- `v` with its decimal
  amplitude : Amount → Item
  -- `k` with its key
  key : Option Key → Item
  -- `@` and `!` with the name, which that character begins
  instrument call : List ℕ → Item
  -- any other character
  unknown : Item

-- an item, and how many bytes of it stand behind its first one
pub record Found : Type 0 where
  pub item : Item
  pub width : ℕ

abbrev pub found : Item → ℕ → Found
found i w = record { item = i; width = w }

-- ---- notes: "letter, accidental, value, one dot"

-- "one dot"
unfoldable pub dotted : ℕ → Option Accidental → Option ℕ → ℕ → List ℕ → Found
unfolding starts_with
dotted letter a v at s =
    elim (begins "." (drop at s)) [ true ↦ found (note letter a v true) (at + 1) | false ↦ found (note letter a v false) at ]

-- the value behind an accidental that ends at `at`: "An absent value, or a digit run over 4,294,967,295, takes the default and reads no digit."
unfoldable pub valued : ℕ → Option Accidental → ℕ → Answer (Parsed ℕ) → List ℕ → Found
unfolding dotted digit_run
valued letter a at n s = dotted letter a (digit_run n) (next_or at n) s

-- an accidental or none, then a value
unfoldable pub marked_note : ℕ → Answer (Parsed Accidental) → List ℕ → Found
unfolding int_at valued accidental_found
marked_note letter m s = valued letter (accidental_found m) (next_or 0 m) (int_at value_most s (next_or 0 m)) s

unfoldable pub note_at : ℕ → List ℕ → Found
unfolding note_mark_at marked_note
note_at letter s = marked_note letter (note_mark_at s 0) s

-- the letters of notes: a to g, and r for a rest
unfoldable pub is_note_letter : ℕ → Bool
unfolding is_key_letter
is_note_letter b = is_key_letter b || is "r" b

-- ---- commands

-- `o`, `l`, `t` and `]`, which take a digit run
abbrev pub numbered : (Option ℕ → Item) → Answer (Parsed ℕ) → Found
numbered make n = found (make (digit_run n)) (int_width n)

-- `k` and its key; the key's bytes are passed over where there is one
unfoldable pub key_item : Answer (Parsed Key) → Found
unfolding key_found key_width
key_item k = found (key (key_found k)) (key_width k)

-- "`@` and `!` names run to the next blank"
unfoldable pub named : (List ℕ → Item) → ℕ → List ℕ → Found
unfolding front is_ink
named make b s = found (make (b ∷ front is_ink s)) (length (front is_ink s))

-- what each character begins, from that byte and the bytes after it
unfoldable pub beginnings : List (Char × (ℕ → List ℕ → Found))
unfolding digit_run int_width int_at amount_of decimal_at decimal_width key_at key_item named
beginnings =
    (">", λ b s. found up 0)
    ∷ ("<", λ b s. found down 0)
    ∷ ("[", λ b s. found opening 0)
    ∷ (":", λ b s. found cut 0)
    ∷ ("]", λ b s. numbered closing (int_at count_most s 0))
    ∷ ("o", λ b s. numbered octave (int_at value_most s 0))
    ∷ ("l", λ b s. numbered value (int_at value_most s 0))
    ∷ ("t", λ b s. numbered tempo (int_at value_most s 0))
    ∷ ("v", λ b s. found (amplitude (amount_of (decimal_at s 0))) (decimal_width (decimal_at s 0)))
    ∷ ("k", λ b s. key_item (key_at s 0))
    ∷ ("@", λ b s. named instrument b s)
    ∷ ("!", λ b s. named call b s)
    ∷ []

-- ---- the items of a body

-- the item that begins with the byte b, before the bytes s
unfoldable pub item_at : ℕ → List ℕ → Found
unfolding is_note_letter note_at row_of beginnings
item_at b s = elim (is_note_letter b) [ true ↦ note_at b s | false ↦ row_of b (λ b s. found unknown 0) beginnings b s ]

-- the item that a text begins with; where there is no byte it is unknown
unfoldable pub item_on : List ℕ → Found
unfolding item_at
item_on [] = found unknown 0
item_on (b ∷ s) = item_at b s

-- the items of a text whose first k bytes are passed over, since they belong to the item before
unfoldable pub items_from : ℕ → List ℕ → List Item
unfolding is_blank item_at
items_from k [] = []
items_from (suc k) (b ∷ s) = items_from k s
items_from zero (b ∷ s) =
    elim (is_blank b) [
      | true ↦ items_from zero s
      | false ↦ elim (is ";" b) [ true ↦ [] | false ↦ (item_at b s).item ∷ items_from (item_at b s).width s ]
    ]

unfoldable pub items_of : List ℕ → List Item
unfolding items_from
items_of s = items_from 0 s
