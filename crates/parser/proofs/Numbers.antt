-- A refusal of a directive, a macro's line or a header has a number that is not 0, so that 0 can stand for none. Assumes nothing.
use mathlib.Core.Path.{◌≡◌, refl, sym, ap, ◌∙◌}
use mathlib.Core.Bool.{Bool, true, false}
use mathlib.Core.List.{List}
use mathlib.Core.Option.{Option, none, some}
use Prim.Native.Nat.{ℕ, ◌<◌}
use native.Mathlib.Omega.{arith}
use Rattle.text.specs.Characters.{same, row_named}
use Rattle.text.specs.Quoted.{bytes}
use Rattle.lines.specs.Tokens.{named_of, first_token}
use Rattle.number.specs.Digits.{value_most, int_at}
use Rattle.std.specs.Prelude.{Result, Ok, Err}
use Rattle.sheet.specs.declared.refusal.Refusal.{Refusal}
use Rattle.sheet.specs.declared.refusal.Refusal.TheVariants.{
  SourceTooLong,
  NotAscii,
  InstrumentTaken,
  MacroTaken,
  MacroIncomplete,
  UnknownDirective,
  NoNumber,
  OutOfRange,
  NoAccidental,
  NoOpenLoop,
  NoCount,
  UnknownInstrument,
  UnknownMacro,
  UnknownCharacter,
  FirstIndented,
  IndentedTooFar,
  OperatorTokens,
  Unreadable,
  TooManyDigits,
  FeedbackTooHigh,
  Full,
  NestedTooDeep,
  TooManySteps,
  NoteTooLong,
  NoPart,
  LoopOpen,
  SheetTooLong,
  NoSheet,
  StartPastEnd,
  BufferTooShort,
  Tail,
}
use Rattle.sheet.specs.Numbers.{number_of as refusal_number}
use Rattle.sheet.specs.Refusals.{Outcome, going, refused, ◌>>=◌, ◌>>◌, refuse◌on◌unless◌, refuse◌on◌without◌}
use Rattle.sheet.proofs.Outcomes.{Numbered, numbered_going, numbered_refused, numbered_unless, numbered_if, numbered_then}
use Rattle.strict.specs.declared.mode.Mode.{Mode}
use Rattle.environment.specs.declared.environment.Environment.{Environment}
use Rattle.environment.specs.Bounds.{Bounds, tempos, denominators}
use Rattle.environment.specs.Environment.{with_tempo, with_denominator, with_key}
use Rattle.keys.specs.declared.key.Key.{Key}
use Rattle.keys.specs.Keys.{key_at, key_found}
use Rattle.environment.specs.Ranges.{digit_run, ranged, key_taken}
use Rattle.directive.specs.declared.directive.Directive.{Directive}
use Rattle.directive.specs.declared.directive.Directive.TheVariants.{Tempo, Denominator, OfKey}
use Rattle.directive.specs.Directives.{directives, change_of, directive_of, directive_outcome, applied}
use Rattle.directive.proofs.Rows.{by_name}
use Rattle.tables.specs.Named.{Macro}
use Rattle.tables.specs.Tables.{macro_of, header_of, number_of}

pub numbered_without : {A : Type 0} (n l : ℕ) (x : Option A) → 0 < n → Numbered (refuse◌on◌without◌ n l x)
unfolding Numbered refuse◌on◌without◌
numbered_without n l none h = h
numbered_without n l (some x) h = tt

-- ---- directives

pub ranged_numbered : (line : ℕ) (b : Bounds) (n : Option ℕ) → Numbered (ranged line b n)
unfolding ranged
ranged_numbered line b n =
    numbered_then _ _ (numbered_without 7 line n (omega arith)) (λ v. numbered_unless 8 line _ _ (omega arith) (numbered_going v))

pub key_taken_numbered : (line : ℕ) (k : Option Key) → Numbered (key_taken line k)
unfolding key_taken
key_taken_numbered line k = numbered_without 9 line k (omega arith)

module _ (mode : Mode) (line : ℕ) (text : List ℕ) where
  tempo_numbered : Numbered (change_of mode line (bytes "#tempo") text)
  unfolding change_of directives row_named same bytes
  tempo_numbered =
      numbered_then _ _ (ranged_numbered line tempos (digit_run (int_at value_most text 0))) (λ v. numbered_if _ _ _ _ (omega arith) (numbered_going (with_tempo v)))

  denominator_numbered : Numbered (change_of mode line (bytes "#denom") text)
  unfolding change_of directives row_named same bytes
  denominator_numbered =
      numbered_then _ _ (ranged_numbered line denominators (digit_run (int_at value_most text 0))) (λ v. numbered_if _ _ _ _ (omega arith) (numbered_going (with_denominator v)))

  key_numbered : Numbered (change_of mode line (bytes "#key") text)
  unfolding change_of directives row_named same bytes
  key_numbered =
      numbered_then _ _ (key_taken_numbered line (key_found (key_at text 0)))
      (λ k. numbered_if _ _ _ _ (omega arith) (numbered_going (with_key k)))

  change_numbered : (name : List ℕ) → Numbered (change_of mode line name text)
  change_numbered name =
      by_name (λ x y. Numbered x) mode mode line text tempo_numbered denominator_numbered key_numbered (numbered_refused _ 6 line (omega arith)) name

pub directive_numbered : (mode : Mode) (line : ℕ) (l : List ℕ) → Numbered (directive_of mode line l)
unfolding directive_of
directive_numbered mode line l =
    numbered_then _ _ (numbered_without 7 line (named_of l) (omega arith)) (λ n. change_numbered mode line (first_token n.body) n.name)

-- what is changed where there is no refusal, and the refusal
pub directive_going : (d : Result Directive Refusal) (line : ℕ) (x : Directive) → d ≡ Ok x → directive_outcome line d ≡ going (applied d)
unfolding directive_outcome applied
directive_going d line x e = ap (directive_outcome line) e ∙ (each x ∙ ap (λ (o : Result Directive Refusal). going (applied o)) (sym e))
  where
    each : (y : Directive) → directive_outcome line (Ok y) ≡ going (applied {E = Refusal} (Ok y))
    each (Tempo v) = refl
    each (Denominator v) = refl
    each (OfKey k) = refl

pub directive_refused : (d : Result Directive Refusal) (line : ℕ) (why : Refusal) → d ≡ Err why → directive_outcome line d ≡ refused (refusal_number why) line
unfolding directive_outcome
directive_refused d line why e = ap (directive_outcome line) e

-- a directive keeps the octave
pub applied_octave : {E : Type 0} (d : Result Directive E) (e : Environment) → (applied d e).octave ≡ e.octave
unfolding applied
applied_octave (Ok (Tempo v)) e = refl
applied_octave (Ok (Denominator v)) e = refl
applied_octave (Ok (OfKey k)) e = refl
applied_octave (Err why) e = refl

-- no refusal has the number 0
pub refusal_some : (why : Refusal) → refusal_number why ≡ 0 → ⊥
refusal_some SourceTooLong e = cc
refusal_some NotAscii e = cc
refusal_some InstrumentTaken e = cc
refusal_some MacroTaken e = cc
refusal_some MacroIncomplete e = cc
refusal_some UnknownDirective e = cc
refusal_some NoNumber e = cc
refusal_some OutOfRange e = cc
refusal_some NoAccidental e = cc
refusal_some NoOpenLoop e = cc
refusal_some NoCount e = cc
refusal_some UnknownInstrument e = cc
refusal_some UnknownMacro e = cc
refusal_some UnknownCharacter e = cc
refusal_some FirstIndented e = cc
refusal_some IndentedTooFar e = cc
refusal_some OperatorTokens e = cc
refusal_some Unreadable e = cc
refusal_some TooManyDigits e = cc
refusal_some FeedbackTooHigh e = cc
refusal_some Full e = cc
refusal_some NestedTooDeep e = cc
refusal_some TooManySteps e = cc
refusal_some NoteTooLong e = cc
refusal_some NoPart e = cc
refusal_some LoopOpen e = cc
refusal_some SheetTooLong e = cc
refusal_some NoSheet e = cc
refusal_some StartPastEnd e = cc
refusal_some BufferTooShort e = cc
refusal_some Tail e = cc

-- ---- macros and headers

-- an outcome that is refused at this line, with a number
unfoldable pub At : {A : Type 0} → ℕ → Outcome A → Type 0
At line (going x) = Unit {0}
At line (refused n l) = (0 < n) × (l ≡ line)

at_going : {A : Type 0} (line : ℕ) (x : A) → At line (going x)
unfolding At
at_going line x = tt

at_unless : {A : Type 0} (n line : ℕ) (t : Bool) (rest : Outcome A) → 0 < n → At line rest → At line (◌>>◌ (refuse◌on◌unless◌ n line t) rest)
unfolding At ◌>>◌ refuse◌on◌unless◌
at_unless n line true rest h k = k
at_unless n line false rest h k = (h, refl)

at_without : {A B : Type 0} (n line : ℕ) (x : Option A) (f : A → Outcome B) → 0 < n → ((y : A) → At line (f y))
    → At line (◌>>=◌ (refuse◌on◌without◌ n line x) f)
unfolding At ◌>>=◌ refuse◌on◌without◌
at_without n line none f h k = (h, refl)
at_without n line (some x) f h k = k x

pub macro_at_law : (line : ℕ) (l : List ℕ) (ms : List Macro) → At line (macro_of line l ms)
unfolding macro_of
macro_at_law line l ms =
    at_without 5 line (named_of l) _ (omega arith)
    (λ n. at_unless 4 line _ _ (omega arith) (at_unless 21 line _ _ (omega arith) (at_going line _)))

pub header_at : (line : ℕ) (name : List ℕ) (names : List (List ℕ)) → At line (header_of line name names)
unfolding header_of
header_at line name names = at_unless 3 line _ _ (omega arith) (at_unless 21 line _ _ (omega arith) (at_going line _))

-- what its number tells
pub at_refused : {A : Type 0} (line : ℕ) (o : Outcome A) → At line o → (number_of o ≡ 0 → ⊥) → o ≡ refused (number_of o) line
unfolding At number_of
at_refused line (going x) h n = absurd (n refl)
at_refused line (refused k l) h n = ap (λ (j : ℕ). refused k j) h.1

pub at_number : (A : Type 0) (line n l : ℕ) → At {A = A} line (refused n l) → 0 < n
unfolding At
at_number A line n l h = h.0

pub number_of_law : {A : Type 0} (o : Outcome A) (n l : ℕ) → o ≡ refused n l → number_of o ≡ n
unfolding number_of
number_of_law o n l e = ap number_of e
