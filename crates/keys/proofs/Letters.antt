-- Laws of keys: which letters a key is made of, and where its text ends. Assumes nothing.
use mathlib.Core.Path.{◌≡◌, refl, sym, ap, ◌∙◌}
use mathlib.Core.Bool.{Bool, ◌||◌}
use mathlib.Core.List.{List, [], ◌∷◌}
use Prim.Native.Nat.{ℕ, ◌+◌, ◌-◌}
use native.Mathlib.Omega.{arith}
use lib.Dec.{eqb}
use lib.ListN.{length, drop, take}
use Rattle.std.specs.Prelude.{Some, None}
use Rattle.std.specs.List.{list_any}
use Rattle.text.specs.Fronts.{front}
use Rattle.text.specs.Parsed.{parsed}
use Rattle.text.specs.declared.parsed.Parsed.{Parsed}
use Rattle.text.proofs.Fronts.{take_front}
use Rattle.keys.specs.declared.key.Accidental.{Accidental}
use Rattle.keys.specs.Keys.{mark_at, is_key_letter, among, key_of, key_from, key_at}

-- ---- a letter among letters

pub any_among : (letters : List ℕ) (letter : ℕ) → list_any (λ b. eqb b letter) letters ≡ among letters letter
unfolding among
any_among [] letter = refl
any_among (b ∷ letters) letter = ap (λ (t : Bool). eqb b letter || t) (any_among letters letter)

-- ---- a key at a place of a text, whose letters end at `end`

module _ (s : List ℕ) (i end : ℕ) (n : end ≡ i + length (front is_key_letter (drop i s))) where
  behind : mark_at s (i + length (front is_key_letter (drop i s))) ≡ mark_at s end
  behind = ap (mark_at s) (sym n)

  between : take (end - i) (drop i s) ≡ front is_key_letter (drop i s)
  between = ap (λ (k : ℕ). take k (drop i s)) (let h : end - i ≡ length (front is_key_letter (drop i s)) = omega arith in h) ∙ take_front is_key_letter (drop i s)

  pub key_absent : mark_at s end ≡ None → None ≡ key_at s i
  unfolding key_at key_from
  key_absent e = sym (ap (key_from (front is_key_letter (drop i s))) (behind ∙ e))

  -- the key has the letters that are among those up to `end`
  pub key_read : (mark : Parsed Accidental) → mark_at s end ≡ Some mark → (a b c d e f g : Bool)
      → a ≡ among (take (end - i) (drop i s)) 97
      → b ≡ among (take (end - i) (drop i s)) 98
      → c ≡ among (take (end - i) (drop i s)) 99
      → d ≡ among (take (end - i) (drop i s)) 100
      → e ≡ among (take (end - i) (drop i s)) 101
      → f ≡ among (take (end - i) (drop i s)) 102
      → g ≡ among (take (end - i) (drop i s)) 103
      → Some (parsed (record { a = a; b = b; c = c; d = d; e = e; f = f; g = g; accidental = mark.value }) mark.next) ≡ key_at s i
  unfolding key_at key_from key_of
  key_read mark m a b c d e f g ea eb ec ed ee ef eg =
      rw (ea, eb, ec, ed, ee, ef, eg)
      (ap (λ (l : List ℕ). Some (parsed (key_of l mark.value) mark.next)) between
      ∙ sym (ap (key_from (front is_key_letter (drop i s))) (behind ∙ m)))
