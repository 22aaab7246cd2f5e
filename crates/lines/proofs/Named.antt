-- The line of two tokens that the places of its name tell is the definition's. Assumes nothing.
use mathlib.Core.Path.{◌≡◌, refl, sym, ap, ap₂, ◌∙◌}
use mathlib.Core.Bool.{Bool, true, false}
use mathlib.Core.List.{List, [], ◌∷◌}
use mathlib.Core.Option.{none, some}
use Prim.Native.Nat.{ℕ, suc, ◌+◌, ◌-◌, ◌≤◌, ◌<◌}
use native.Mathlib.Omega.{arith}
use lib.Dec.{ltb}
use lib.ListN.{length, take, drop, get_or, length-drop, drop_of_length-le}
use lib.Seq.{drop-cons}
use borrow.Author.Tests.{ltb-true, ltb-false}
use Rattle.lines.specs.declared.names.NameAt.{NameAt}
use Rattle.text.specs.Blanks.{is_blank, is_ink}
use Rattle.text.specs.Fronts.{front, after}
use Rattle.lines.specs.Names.{between}
use Rattle.lines.specs.Tokens.{first_token, after_token, named_of, name_at, named_by}
use Rattle.text.proofs.Fronts.{after_drop, after_is, take_front, front_within}

module _ (l : List ℕ) where
  abbrev from : ℕ
  from = length (front is_blank l)

  abbrev end : ℕ
  end = from + length (front is_ink (drop from l))

  abbrev next : ℕ
  next = end + length (front is_blank (drop end l))

  -- the name, what follows it, and what follows the blanks behind it
  name_is : between l from end ≡ first_token l
  unfolding first_token
  name_is =
      ap (λ (k : ℕ). take k (drop from l)) (let z : end - from ≡ length (front is_ink (drop from l)) = omega arith in z)
      ∙ take_front is_ink (drop from l) ∙ ap (front is_ink) (sym (after_drop is_blank l))

  body_is : drop end l ≡ after_token l
  unfolding after_token
  body_is = sym (ap (after is_ink) (after_drop is_blank l) ∙ after_is is_ink l from)

  second_is : drop next l ≡ after is_blank (after_token l)
  second_is = sym (ap (after is_blank) (sym body_is) ∙ after_is is_blank l end)

  pub name_within : from ≤ end × (end ≤ length l)
  name_within =
      let a = front_within is_blank l in
      let b = front_within is_ink (drop from l) in
      (omega arith, omega (arith, a, b, length-drop from l))

  -- nothing follows, or something does
  none_follows : length l ≤ next → named_of l ≡ none
  unfolding named_of
  none_follows h = let e : after is_blank (after_token l) ≡ [] = sym second_is ∙ drop_of_length-le l h in rw (e, named_of)

  some_follows : next < length l → named_of l ≡ some (record { name = between l from end; body = drop end l })
  unfolding named_of
  some_follows h =
      let e : after is_blank (after_token l) ≡ get_or l next 0 ∷ drop (suc next) l = sym second_is ∙ drop-cons l next 0 h in
      let z : named_of l ≡ some (record { name = first_token l; body = after_token l }) = rw (e, named_of) in
      z ∙ ap₂ (λ (n b : List ℕ). some (record { name = n; body = b })) (sym name_is) (sym body_is)

  pub named_is : named_by l (name_at l) ≡ named_of l
  unfolding named_by name_at
  named_is = go (ltb next (length l)) refl
    where
      go : (t : Bool) → ltb next (length l) ≡ t → named_by l (name_at l) ≡ named_of l
      go true e = rw e (sym (some_follows (ltb-true next (length l) e)))
      go false e = rw e (sym (none_follows (ltb-false next (length l) e)))

  -- the places as code comes to them, one behind the other
  pub name_found : (f e n : ℕ) → f ≡ 0 + length (front is_blank l) → e ≡ f + length (front is_ink (drop f l)) → n ≡ e + length (front is_blank (drop e l))
      → ◌≡◌ {A = NameAt} (record { from = f; end = e; two = ltb n (length l) }) (name_at l)
  unfolding name_at
  name_found f e n p q r =
      let a : f ≡ from = omega (arith, p) in
      let b : e ≡ end = q ∙ ap (λ (k : ℕ). k + length (front is_ink (drop k l))) a in
      let c : n ≡ next = r ∙ ap (λ (k : ℕ). k + length (front is_blank (drop k l))) b in
      ap (λ (k : ℕ). record { from = k; end = e; two = ltb n (length l) }) a
      ∙ ap₂ (λ (k m : ℕ). record { from = from; end = k; two = ltb m (length l) }) b c
