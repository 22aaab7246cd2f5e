-- A note that is read where it stands is the note of the text behind its letter: the accidental, the value and the dot are each found as far behind
-- the letter as there. Assumes nothing.
use mathlib.Core.Path.{◌≡◌, refl, sym, ap, ap₂, ◌∙◌}
use mathlib.Core.Bool.{Bool, true, false}
use mathlib.Core.List.{List}
use mathlib.Core.Option.{Option}
use Prim.Native.Nat.{ℕ, ◌+◌, ◌≤◌, ◌<◌}
use native.Mathlib.Omega.{arith}
use lib.ListN.{length, drop}
use lib.Seq.{drop-drop}
use Rattle.text.specs.Characters.{starts_with}
use Rattle.text.proofs.Starts.{starts_within}
use Rattle.std.specs.Prelude.{Option as Answer}
use Rattle.text.specs.declared.parsed.Parsed.{Parsed}
use Rattle.text.specs.Parsed.{parsed, next_or}
use Rattle.number.specs.Digits.{value_most, int_at}
use Rattle.number.proofs.Tokens.{int_moved, int_later}
use Rattle.keys.specs.declared.key.Accidental.{Accidental}
use Rattle.keys.specs.Keys.{note_mark_at}
use Rattle.environment.specs.Ranges.{digit_run}
use Rattle.keys.proofs.Moves.{moved, note_mark_moved}
use Rattle.items.specs.declared.item.Item.TheVariants as Item
use Rattle.items.specs.Items.{found, note, dotted, valued, marked_note, note_at}
use Rattle.items.specs.Steps.{Stands}
use Rattle.keys.specs.Keys.{accidental_found}
use Rattle.items.specs.Written.{found_of, Inside}
use Rattle.items.proofs.Ends.{run_moved, accidental_moved, int_end_moved, mark_end_moved, int_ends, mark_ends}

-- ---- the definition without its cases

module _ (letter : ℕ) (a : Option Accidental) (v : Option ℕ) (k : ℕ) (s : List ℕ) where
  dot_there : starts_with 46 (drop k s) ≡ true → dotted letter a v k s ≡ found (note letter a v true) (k + 1)
  unfolding dotted
  dot_there e = rw (e, dotted)

  dot_absent : starts_with 46 (drop k s) ≡ false → dotted letter a v k s ≡ found (note letter a v false) k
  unfolding dotted
  dot_absent e = rw (e, dotted)

found_same : (letter : ℕ) (d : Bool) {a b : Option Accidental} {v w : Option ℕ} {m n : ℕ} → a ≡ b → v ≡ w → m ≡ n
    → found (note letter a v d) m ≡ found (note letter b w d) n
found_same letter d {a} {b} {v} {w} {m} {n} e f g =
    ap (λ (x : Option Accidental). found (note letter x v d) m) e ∙ ap (λ (x : Option ℕ). found (note letter b x d) m) f
    ∙ ap (λ (x : ℕ). found (note letter b w d) x) g

-- ---- the note that the code has read

-- what the definition finds in the text s behind the letter
abbrev behind_mark : List ℕ → ℕ
behind_mark s = next_or 0 (note_mark_at s 0)

abbrev value_behind : List ℕ → Answer (Parsed ℕ)
value_behind s = int_at value_most s (behind_mark s)

abbrev behind_value : List ℕ → ℕ
behind_value s = next_or (behind_mark s) (value_behind s)

note_is : (letter : ℕ) (s : List ℕ) → note_at letter s ≡ dotted letter (accidental_found (note_mark_at s 0)) (digit_run (value_behind s)) (behind_value s) s
unfolding note_at marked_note valued
note_is letter s = refl

-- what the code finds in the text behind the letter, which stands at `at`: the accidental ends at `behind`, and the value at `end`
pub record Read (text : List ℕ) (at : ℕ) (m : Answer (Parsed Accidental)) (behind : ℕ) (n : Answer (Parsed ℕ)) (end : ℕ) : Type 0 where
  pub inside : at < length text
  pub mark : m ≡ note_mark_at text (at + 1)
  pub marked : behind ≡ next_or (at + 1) m
  pub int : n ≡ int_at value_most text behind
  pub ended : end ≡ next_or behind n

module _ (text : List ℕ) (at letter : ℕ) (m : Answer (Parsed Accidental)) (behind : ℕ) (n : Answer (Parsed ℕ)) (end : ℕ) (r : Read text at m behind n end) where
  mark_is : m ≡ moved (at + 1) (note_mark_at (drop (at + 1) text) 0)
  mark_is = r.mark ∙ note_mark_moved text (at + 1)

  behind_is : behind ≡ at + 1 + (behind_mark (drop (at + 1) text))
  behind_is = r.marked ∙ ap (next_or (at + 1)) mark_is ∙ mark_end_moved (at + 1) (note_mark_at (drop (at + 1) text) 0)

  int_is : n ≡ int_moved (at + 1) (value_behind (drop (at + 1) text))
  int_is = r.int ∙ ap (int_at value_most text) behind_is ∙ int_later value_most text (at + 1) (behind_mark (drop (at + 1) text))

  end_is : end ≡ at + 1 + (behind_value (drop (at + 1) text))
  end_is = r.ended ∙ ap₂ next_or behind_is int_is ∙ int_end_moved (at + 1) (behind_mark (drop (at + 1) text)) (value_behind (drop (at + 1) text))

  dot_is : starts_with 46 (drop (behind_value (drop (at + 1) text)) (drop (at + 1) text)) ≡ starts_with 46 (drop end text)
  dot_is = ap (starts_with 46) (drop-drop (behind_value (drop (at + 1) text)) (at + 1) text ∙ ap (λ (x : ℕ). drop x text) (sym end_is))

  accidental_same : accidental_found m ≡ accidental_found (note_mark_at (drop (at + 1) text) 0)
  accidental_same = ap accidental_found mark_is ∙ accidental_moved (at + 1) (note_mark_at (drop (at + 1) text) 0)

  value_same : digit_run n ≡ digit_run (value_behind (drop (at + 1) text))
  value_same = ap digit_run int_is ∙ run_moved (at + 1) (value_behind (drop (at + 1) text))

  -- the value ends behind the letter and within the text
  pub note_end : (at < end) × (end ≤ length text)
  note_end =
      let h = r.inside in
      let b = mark_ends text (at + 1) m r.mark (omega arith) in
      let w = int_ends value_most text behind n r.int (omega (arith, b.within, r.marked)) in
      (omega (arith, b.past, w.past, r.marked, r.ended), omega (arith, w.within, r.ended))

  -- the note ends behind the dot, or behind its value
  abbrev accidental₀ : Option Accidental
  accidental₀ = accidental_found (note_mark_at (drop (at + 1) text) 0)

  abbrev value₀ : Option ℕ
  value₀ = digit_run (value_behind (drop (at + 1) text))

  module _ (d : Bool) (is_dot : d ≡ starts_with 46 (drop end text)) (next : ℕ) where
    note_stands : (width : ℕ) → dotted letter accidental₀ value₀ (behind_value (drop (at + 1) text)) (drop (at + 1) text) ≡ found (note letter accidental₀ value₀ d) width
        → next ≡ at + 1 + width → at < next → next ≤ length text
        → Stands text at (note_at letter (drop (at + 1) text)) (parsed (Item.Note (record { letter = letter; accidental = m; value = n; dotted = d })) next)
    unfolding found_of Inside
    note_stands width e f past within =
        record {
          meant = found_same letter d accidental_same value_same (omega arith) ∙ sym (note_is letter (drop (at + 1) text) ∙ e);
          onward = (past, within);
          inside = (r.mark, r.int ∙ ap (int_at value_most text) r.marked);
        }

    pub note_dotted : d ≡ true → next ≡ end + 1
        → Stands text at (note_at letter (drop (at + 1) text)) (parsed (Item.Note (record { letter = letter; accidental = m; value = n; dotted = d })) next)
    note_dotted t f =
        let s = sym is_dot ∙ t in
        let w = starts_within text end 46 s in
        note_stands (behind_value (drop (at + 1) text) + 1)
        (dot_there letter accidental₀ value₀ _ _ (dot_is ∙ s)
        ∙ ap (λ (x : Bool). found (note letter accidental₀ value₀ x) (behind_value (drop (at + 1) text) + 1)) (sym t))
        (omega (arith, end_is))
        (omega (arith, note_end.0))
        (omega (arith, w))

    pub note_plain : d ≡ false → next ≡ end
        → Stands text at (note_at letter (drop (at + 1) text)) (parsed (Item.Note (record { letter = letter; accidental = m; value = n; dotted = d })) next)
    note_plain t f =
        note_stands (behind_value (drop (at + 1) text))
        (dot_absent letter accidental₀ value₀ _ _ (dot_is ∙ sym is_dot ∙ t)
        ∙ ap (λ (x : Bool). found (note letter accidental₀ value₀ x) (behind_value (drop (at + 1) text))) (sym t))
        (omega (arith, end_is))
        (omega (arith, note_end.0))
        (omega (arith, note_end.1))
