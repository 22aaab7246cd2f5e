-- The item that a text begins with, by the place of its first byte. Assumes nothing.
use mathlib.Core.Path.{◌≡◌, sym, ap, ◌∙◌}
use mathlib.Core.List.{List, []}
use Prim.Native.Nat.{ℕ, suc, ◌+◌, ◌-◌, ◌≤◌, ◌<◌}
use native.Mathlib.Omega.{arith}
use lib.ListN.{length, drop, get_or, drop_of_length-le}
use lib.Seq.{drop-cons}
use Rattle.text.specs.Parsed.{parsed}
use Rattle.items.specs.declared.item.Item.TheVariants as Item
use Rattle.items.specs.Items.{found, unknown, item_at, item_on}
use Rattle.items.specs.Written.{item_of, found_of}

module _ (text : List ℕ) (at : ℕ) where
  -- a byte stands there
  pub item_there : at < length text → item_on (drop at text) ≡ item_at (get_or text at 0) (drop (at + 1) text)
  unfolding item_on
  item_there h =
      ap item_on (drop-cons text at 0 h) ∙ ap (λ (j : ℕ). item_at (get_or text at 0) (drop j text)) (let z : suc at ≡ at + 1 = omega arith in z)

  -- none does
  pub item_past : length text ≤ at → found_of text at (parsed Item.Unknown at) ≡ item_on (drop at text)
  unfolding found_of item_of item_on
  item_past h =
      ap (λ (w : ℕ). found unknown w) (let z : at - (at + 1) ≡ 0 = omega arith in z) ∙ ap item_on (let z : [] ≡ drop at text = sym (drop_of_length-le text h) in z)
