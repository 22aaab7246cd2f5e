-- Laws of directives: what each row of the table answers, which row a name has, and how the places of a line's tokens lead to them. Assumes nothing.
use mathlib.Core.Path.{◌≡◌, refl, sym, ap, subst, ◌∙◌}
use mathlib.Core.Bool.{Bool, true, false}
use mathlib.Core.List.{List}
use mathlib.Core.Option.{none, some}
use Prim.Native.Nat.{ℕ, ◌+◌, ◌-◌, ◌≤◌}
use native.Mathlib.Omega.{arith}
use Rattle.std.specs.Prelude.{Option as Answer, Some, None, Ok, Err}
use Rattle.text.specs.declared.parsed.Parsed.{Parsed}
use Rattle.sheet.specs.declared.refusal.Refusal.{Refusal}
use Rattle.sheet.specs.declared.refusal.Refusal.TheVariants.{UnknownDirective, NoNumber, NoAccidental, Tail}
use Rattle.sheet.specs.Numbers.{outcome_on}
use lib.ListN.{length, take, drop, length-drop}
use Rattle.lines.specs.declared.names.NameAt.{NameAt}
use Rattle.text.specs.Blanks.{is_blank, is_ink}
use Rattle.text.specs.Characters.{same, row_named}
use Rattle.text.specs.Fronts.{front}
use Rattle.lines.specs.Names.{between}
use Rattle.text.specs.Quoted.{bytes}
use Rattle.lines.specs.Tokens.{first_token, named_of, name_at, named_by}
use Rattle.text.proofs.Fronts.{after_is, take_front, front_within}
use Rattle.lines.proofs.Named.{named_is, name_within}
use Rattle.number.specs.Digits.{value_most, int_at, int_width}
use Rattle.sheet.specs.Refusals.{Outcome, going, refused, ◌>>=◌, ◌>>◌, refuse◌on◌without◌}
use Rattle.sheet.proofs.Outcomes.{then_going, then_refused}
use Rattle.strict.specs.declared.mode.Mode.{Mode}
use Rattle.strict.specs.Strict.{tailed, read_to_its_end}
use Rattle.strict.proofs.Tails.{read_through, read_tail}
use Rattle.environment.specs.declared.environment.Environment.{Environment}
use Rattle.keys.specs.declared.key.Key.{Key}
use Rattle.environment.specs.Bounds.{Bounds, tempos, denominators}
use Rattle.environment.specs.Environment.{with_tempo, with_denominator, with_key}
use Rattle.keys.specs.Keys.{key_at, key_width}
use Rattle.environment.specs.Ranges.{digit_run, ranged}
use Rattle.environment.proofs.Limits.{key_found_law, key_absent}
use Rattle.directive.specs.declared.directive.Directive.TheVariants.{Tempo, Denominator, OfKey}
use Rattle.directive.specs.Directives.{directives, number_read, change_of, directive_of, directive_outcome}

-- ---- a number that is read to its end

module _ (mode : Mode) (text : List ℕ) (b : Bounds) (n : Answer (Parsed ℕ)) (g : n ≡ int_at value_most text 0) (line : ℕ) where
  pub number_refused : (why : Refusal) → outcome_on line (Err why) ≡ ranged line b (digit_run n) → outcome_on line (Err why) ≡ number_read mode line b text
  unfolding number_read
  number_refused why h = sym (then_refused _ line _ _ (sym (h ∙ ap (λ (x : Answer (Parsed ℕ)). ranged line b (digit_run x)) g)))

  module _ (v stop : ℕ) (h : going v ≡ ranged line b (digit_run n)) (i : stop ≡ int_width n) where
    number_law : number_read mode line b text ≡ (read_to_its_end mode line text stop >> going v)
    unfolding number_read
    number_law =
        then_going v _ _ (sym (h ∙ ap (λ (x : Answer (Parsed ℕ)). ranged line b (digit_run x)) g))
        ∙ ap (λ (k : ℕ). read_to_its_end mode line text k >> going v) (sym (i ∙ ap int_width g))

    pub number_to : tailed mode stop (length text) ≡ false → going v ≡ number_read mode line b text
    unfolding ◌>>◌
    number_to t = sym (number_law ∙ rw (read_through mode line text stop t))

    pub number_tailed : tailed mode stop (length text) ≡ true → refused 32 line ≡ number_read mode line b text
    unfolding ◌>>◌
    number_tailed t = sym (number_law ∙ rw (read_tail mode line text stop t))

-- ---- what each row answers

-- what is put where it belongs may be put there at once
at_once : {A B : Type 0} (m : Outcome A) (k : Outcome (Unit {0})) (f : A → B) → ((m >>= (λ v. k >> going v)) >>= (λ v. going (f v))) ≡ (m >>= (λ v. k >> going (f v)))
unfolding ◌>>=◌ ◌>>◌
at_once (going x) (going u) f = refl
at_once (going x) (refused n l) f = refl
at_once (refused n l) k f = refl

module _ (mode : Mode) (text : List ℕ) (line : ℕ) where
  -- the rows of numbers
  abbrev row : Bounds → (ℕ → Environment → Environment) → Outcome (Environment → Environment)
  row b f = ranged line b (digit_run (int_at value_most text 0)) >>= (λ v. read_to_its_end mode line text (int_width (int_at value_most text 0)) >> going (f v))

  row_is : (b : Bounds) (f : ℕ → Environment → Environment) → (number_read mode line b text >>= (λ v. going (f v))) ≡ row b f
  unfolding number_read
  row_is b f = at_once (ranged line b (digit_run (int_at value_most text 0))) (read_to_its_end mode line text (int_width (int_at value_most text 0))) f

  row_to : (b : Bounds) (f : ℕ → Environment → Environment) (v : ℕ) → going v ≡ number_read mode line b text → going (f v) ≡ row b f
  row_to b f v h = sym (then_going v (number_read mode line b text) (λ v. going (f v)) (sym h)) ∙ row_is b f

  row_refused : (b : Bounds) (f : ℕ → Environment → Environment) (n : ℕ) → refused n line ≡ number_read mode line b text → refused n line ≡ row b f
  row_refused b f n h = sym (then_refused n line (number_read mode line b text) (λ v. going (f v)) (sym h)) ∙ row_is b f

  pub tempo_to : (v : ℕ) → going v ≡ number_read mode line tempos text → directive_outcome line (Ok (Tempo v)) ≡ change_of mode line (bytes "#tempo") text
  unfolding change_of directives row_named same bytes directive_outcome
  tempo_to v h = row_to tempos with_tempo v h

  pub tempo_refused : (why : Refusal) → outcome_on line (Err why) ≡ number_read mode line tempos text
      → directive_outcome line (Err why) ≡ change_of mode line (bytes "#tempo") text
  unfolding change_of directives row_named same bytes directive_outcome
  tempo_refused why h = row_refused tempos with_tempo _ h

  pub denominator_to : (v : ℕ) → going v ≡ number_read mode line denominators text
      → directive_outcome line (Ok (Denominator v)) ≡ change_of mode line (bytes "#denom") text
  unfolding change_of directives row_named same bytes directive_outcome
  denominator_to v h = row_to denominators with_denominator v h

  pub denominator_refused : (why : Refusal) → outcome_on line (Err why) ≡ number_read mode line denominators text
      → directive_outcome line (Err why) ≡ change_of mode line (bytes "#denom") text
  unfolding change_of directives row_named same bytes directive_outcome
  denominator_refused why h = row_refused denominators with_denominator _ h

  module _ (found : Parsed Key) (e : key_at text 0 ≡ Some found) where
    key_read_law : change_of mode line (bytes "#key") text ≡ (read_to_its_end mode line text found.next >> going (with_key found.value))
    unfolding change_of directives row_named same bytes key_width
    key_read_law = then_going found.value _ _ (key_found_law line (key_at text 0) found e) ∙ rw e

    pub key_to : tailed mode found.next (length text) ≡ false → directive_outcome line (Ok (OfKey found.value)) ≡ change_of mode line (bytes "#key") text
    unfolding directive_outcome ◌>>◌
    key_to t = sym (key_read_law ∙ rw (read_through mode line text found.next t))

    pub key_tailed : tailed mode found.next (length text) ≡ true → directive_outcome line (Err Tail) ≡ change_of mode line (bytes "#key") text
    unfolding directive_outcome ◌>>◌
    key_tailed t = sym (key_read_law ∙ rw (read_tail mode line text found.next t))

  pub key_refused : key_at text 0 ≡ None → directive_outcome line (Err NoAccidental) ≡ change_of mode line (bytes "#key") text
  unfolding change_of directives row_named same bytes directive_outcome
  key_refused e = sym (then_refused _ line _ _ (key_absent line (key_at text 0) e))

-- ---- which row a name has

module _ (mode : Mode) (name text : List ℕ) (line : ℕ) where
  pub tempo_named : same name (bytes "#tempo") ≡ true → change_of mode line (bytes "#tempo") text ≡ change_of mode line name text
  unfolding change_of directives row_named same bytes
  tempo_named e = rw (e, row_named)

  pub denominator_named : same name (bytes "#tempo") ≡ false → same name (bytes "#denom") ≡ true
      → change_of mode line (bytes "#denom") text ≡ change_of mode line name text
  unfolding change_of directives row_named same bytes
  denominator_named e f = rw (e, f, row_named)

  pub key_named : same name (bytes "#tempo") ≡ false → same name (bytes "#denom") ≡ false → same name (bytes "#key") ≡ true
      → change_of mode line (bytes "#key") text ≡ change_of mode line name text
  unfolding change_of directives row_named same bytes
  key_named e f g = rw (e, f, g, row_named)

  pub unnamed : same name (bytes "#tempo") ≡ false → same name (bytes "#denom") ≡ false → same name (bytes "#key") ≡ false
      → directive_outcome line (Err UnknownDirective) ≡ change_of mode line name text
  unfolding change_of directives row_named same bytes directive_outcome
  unnamed e f g = rw (e, f, g, row_named)

-- what holds of the three rows and of a name without one holds of every name, in one mode or in two at once
module _ (M : Outcome (Environment → Environment) → Outcome (Environment → Environment) → Type 0) (m n : Mode) (line : ℕ) (text : List ℕ)
    (tempo : M (change_of m line (bytes "#tempo") text) (change_of n line (bytes "#tempo") text))
    (denominator : M (change_of m line (bytes "#denom") text) (change_of n line (bytes "#denom") text))
    (key : M (change_of m line (bytes "#key") text) (change_of n line (bytes "#key") text))
    (none : M (refused 6 line) (refused 6 line)) where
  module _ (name : List ℕ) where
    moved : (x y : Outcome (Environment → Environment)) → x ≡ change_of m line name text → y ≡ change_of n line name text → M x y
        → M (change_of m line name text) (change_of n line name text)
    moved x y e f h =
        subst (λ (o : Outcome (Environment → Environment)). M o (change_of n line name text)) e (subst (λ (o : Outcome (Environment → Environment)). M x o) f h)

    third : (t : Bool) → same name (bytes "#key") ≡ t → same name (bytes "#denom") ≡ false → same name (bytes "#tempo") ≡ false
        → M (change_of m line name text) (change_of n line name text)
    unfolding directive_outcome
    third true e f g = moved _ _ (key_named m name text line g f e) (key_named n name text line g f e) key
    third false e f g = moved _ _ (unnamed m name text line g f e) (unnamed n name text line g f e) none

    second : (t : Bool) → same name (bytes "#denom") ≡ t → same name (bytes "#tempo") ≡ false → M (change_of m line name text) (change_of n line name text)
    second true f g = moved _ _ (denominator_named m name text line g f) (denominator_named n name text line g f) denominator
    second false f g = third (same name (bytes "#key")) refl f g

    first : (t : Bool) → same name (bytes "#tempo") ≡ t → M (change_of m line name text) (change_of n line name text)
    first true g = moved _ _ (tempo_named m name text line g) (tempo_named n name text line g) tempo
    first false g = second (same name (bytes "#denom")) refl g

    pub by_name : M (change_of m line name text) (change_of n line name text)
    by_name = first (same name (bytes "#tempo")) refl

-- ---- the tokens of a line

module _ (l : List ℕ) (p : NameAt) (e : p ≡ name_at l) where
  -- the definition's name and body are those that the places tell
  found : named_by l p ≡ named_of l
  found = ap (named_by l) e ∙ named_is l

  pub place_within : p.from ≤ p.end × (p.end ≤ length l)
  unfolding name_at
  place_within = rw e (name_within l)

  -- 7, or what the two tokens say
  pub under_two : p.two ≡ false → (mode : Mode) (line : ℕ) → directive_outcome line (Err NoNumber) ≡ directive_of mode line l
  unfolding directive_outcome directive_of named_by ◌>>=◌ refuse◌on◌without◌
  under_two t mode line = let z : named_of l ≡ none = sym found ∙ rw t in rw z

  module _ (next last : ℕ) (n : next ≡ p.end + length (front is_blank (drop p.end l))) (m : last ≡ next + length (front is_ink (drop next l))) where
    -- the second token lies within the line
    pub value_within : last ≤ length l
    value_within =
        let a = front_within is_blank (drop p.end l) in
        let b = front_within is_ink (drop next l) in
        omega (arith, n, m, a, b, place_within.1, length-drop p.end l, length-drop next l)

    -- and is the first token of the body
    value_is : between l next last ≡ first_token (drop p.end l)
    unfolding first_token
    value_is =
        ap (λ (k : ℕ). take k (drop next l)) (let z : last - next ≡ length (front is_ink (drop next l)) = omega (arith, m) in z)
        ∙ take_front is_ink (drop next l)
        ∙ ap (front is_ink) (ap (λ (k : ℕ). drop k l) n ∙ sym (after_is is_blank l p.end))

    pub two_tokens : p.two ≡ true → (mode : Mode) (line : ℕ) → change_of mode line (between l p.from p.end) (between l next last) ≡ directive_of mode line l
    unfolding directive_of named_by ◌>>=◌ refuse◌on◌without◌
    two_tokens t mode line =
        let z : named_of l ≡ some (record { name = between l p.from p.end; body = drop p.end l }) = sym found ∙ rw t in
        rw z (ap (change_of mode line (between l p.from p.end)) value_is)
