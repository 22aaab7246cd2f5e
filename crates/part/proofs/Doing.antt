-- What is done for an item that the code has found: the item of the definition that it is, and for notes, marks and unknown characters what `does` says of it.
-- Assumes nothing.
use mathlib.Core.Path.{◌≡◌, refl, sym, ap, subst, ◌∙◌}
use mathlib.Core.Bool.{Bool, true}
use mathlib.Core.List.{List}
use mathlib.Core.Option.{Option}
use Prim.Native.Nat.{ℕ, ◌≤◌}
use native.Mathlib.Omega.{arith}
use lib.Ieee.{Float}
use Rattle.lines.specs.Names.{between}
use Rattle.std.specs.Prelude.{Option as Answer, Result, Ok}
use Rattle.text.specs.declared.parsed.Parsed.{Parsed}
use Rattle.number.specs.declared.decimal.NoDecimal.{NoDecimal}
use Rattle.sheet.specs.declared.refusal.Refusal.{Refusal}
use Rattle.sheet.proofs.Basics.{false_true}
use Rattle.sheet.specs.Refusals.{Outcome, going, ◌>>=◌}
use Rattle.keys.specs.declared.key.Accidental.{Accidental}
use Rattle.environment.specs.declared.environment.Environment.{Environment}
use Rattle.keys.specs.declared.key.Key.{Key}
use Rattle.settings.specs.Changes.{Low, change_outcome, octave_read, value_read, tempo_read, amplitude_read, key_read}
use Rattle.environment.specs.Environment.{octave_up, octave_down}
use Rattle.keys.specs.Keys.{accidental_found, key_found}
use Rattle.environment.specs.Ranges.{Amount, digit_run, amount_of}
use Rattle.part.specs.declared.state.State.{State}
use Rattle.items.specs.declared.item.Item.{Item}
use Rattle.items.specs.declared.item.WrittenNote.{WrittenNote}
use Rattle.tables.specs.Named.{Macro}
use Rattle.part.specs.Body.{Book, Progress, noted, opened, cut_here, closed, changing, called, does}
use Rattle.part.specs.Columns.{progress_of, Ready, Becomes, refused_at}
use Rattle.items.specs.Items as Items
use Rattle.notes.specs.Notes.{value_of}
use Rattle.items.specs.Written.{item_of, is_call}
use Rattle.part.proofs.Columns.{refused_becomes}

-- ---- which item it is

module _ (text : List ℕ) (at next : ℕ) (i : Item) where
  pub written_note : (n : WrittenNote) → i ≡ Item.Note n → item_of text at next i ≡ Items.note n.letter (accidental_found n.accidental) (digit_run n.value) n.dotted
  unfolding item_of
  written_note n e = ap (item_of text at next) e

  pub written_up : i ≡ Item.Up → item_of text at next i ≡ Items.up
  unfolding item_of
  written_up e = ap (item_of text at next) e

  pub written_down : i ≡ Item.Down → item_of text at next i ≡ Items.down
  unfolding item_of
  written_down e = ap (item_of text at next) e

  pub written_opening : i ≡ Item.Opening → item_of text at next i ≡ Items.opening
  unfolding item_of
  written_opening e = ap (item_of text at next) e

  pub written_cut : i ≡ Item.Cut → item_of text at next i ≡ Items.cut
  unfolding item_of
  written_cut e = ap (item_of text at next) e

  pub written_closing : (n : Answer (Parsed ℕ)) → i ≡ Item.Closing n → item_of text at next i ≡ Items.closing (digit_run n)
  unfolding item_of
  written_closing n e = ap (item_of text at next) e

  pub written_octave : (n : Answer (Parsed ℕ)) → i ≡ Item.Octave n → item_of text at next i ≡ Items.octave (digit_run n)
  unfolding item_of
  written_octave n e = ap (item_of text at next) e

  pub written_value : (n : Answer (Parsed ℕ)) → i ≡ Item.Value n → item_of text at next i ≡ Items.value (digit_run n)
  unfolding item_of
  written_value n e = ap (item_of text at next) e

  pub written_tempo : (n : Answer (Parsed ℕ)) → i ≡ Item.Tempo n → item_of text at next i ≡ Items.tempo (digit_run n)
  unfolding item_of
  written_tempo n e = ap (item_of text at next) e

  pub written_amplitude : (d : Result (Parsed Float) NoDecimal) → i ≡ Item.Amplitude d → item_of text at next i ≡ Items.amplitude (amount_of d)
  unfolding item_of
  written_amplitude d e = ap (item_of text at next) e

  pub written_key : (k : Answer (Parsed Key)) → i ≡ Item.Key k → item_of text at next i ≡ Items.key (key_found k)
  unfolding item_of
  written_key k e = ap (item_of text at next) e

  pub written_instrument : i ≡ Item.Instrument → item_of text at next i ≡ Items.instrument (between text at next)
  unfolding item_of
  written_instrument e = ap (item_of text at next) e

  pub written_unknown : i ≡ Item.Unknown → item_of text at next i ≡ Items.unknown
  unfolding item_of
  written_unknown e = ap (item_of text at next) e

pub written_call : (text : List ℕ) (at next : ℕ) (i : Item) → is_call i ≡ true → item_of text at next i ≡ Items.call (between text at next)
unfolding item_of is_call
written_call text at next (Item.Note n) e = false_true e
written_call text at next Item.Up e = false_true e
written_call text at next Item.Down e = false_true e
written_call text at next Item.Opening e = false_true e
written_call text at next Item.Cut e = false_true e
written_call text at next (Item.Closing n) e = false_true e
written_call text at next (Item.Octave n) e = false_true e
written_call text at next (Item.Value n) e = false_true e
written_call text at next (Item.Tempo n) e = false_true e
written_call text at next (Item.Amplitude d) e = false_true e
written_call text at next (Item.Key k) e = false_true e
written_call text at next Item.Instrument e = false_true e
written_call text at next Item.Call e = refl
written_call text at next Item.Unknown e = false_true e

-- ---- octaves stay in range

pub low_up : (line : ℕ) (e r : Environment) → r ≡ octave_up e → Low (change_outcome line (Ok r))
unfolding Low octave_up
low_up line e r q = omega (arith, ap (λ (x : Environment). x.octave) q)

pub low_down : (line : ℕ) (e r : Environment) → e.octave ≤ 8 → r ≡ octave_down e → Low (change_outcome line (Ok r))
unfolding Low octave_down
low_down line e r h q = omega (arith, h, ap (λ (x : Environment). x.octave) q)

pub low_as : (o q : Outcome Environment) → o ≡ q → Low q → Low o
low_as o q e h = subst Low (sym e) h

-- ---- what it does

module _ (book : Book) (line : ℕ) (inner : Macro → Progress → Outcome Progress) (s : State) (fs : List Float) (is ls : List ℕ) (r : State) (fs' : List Float) (is' ls' : List ℕ) where
  pub done_as : (i j : Items.Item) → i ≡ j → Becomes (does book line inner j (progress_of s fs is ls)) r fs' is' ls'
      → Becomes (does book line inner i (progress_of s fs is ls)) r fs' is' ls'
  done_as i j e b =
      record { room = b.room; deep = b.deep; means = b.means ∙ ap (λ (x : Items.Item). does book line inner x (progress_of s fs is ls)) (sym e) }

  pub does_note : (letter : ℕ) (a : Option Accidental) (v : Option ℕ) (dot : Bool)
      → Becomes (noted book line letter a (value_of s.env v) dot (progress_of s fs is ls)) r fs' is' ls'
      → Becomes (does book line inner (Items.note letter a v dot) (progress_of s fs is ls)) r fs' is' ls'
  unfolding does progress_of
  does_note letter a v dot b = record { room = b.room; deep = b.deep; means = b.means }

  pub does_opening : Becomes (opened book line (progress_of s fs is ls)) r fs' is' ls' → Becomes (does book line inner Items.opening (progress_of s fs is ls)) r fs' is' ls'
  unfolding does
  does_opening b = record { room = b.room; deep = b.deep; means = b.means }

  pub does_cut : Becomes (cut_here book line (progress_of s fs is ls)) r fs' is' ls' → Becomes (does book line inner Items.cut (progress_of s fs is ls)) r fs' is' ls'
  unfolding does
  does_cut b = record { room = b.room; deep = b.deep; means = b.means }

  pub does_closing : (n : Option ℕ) → Becomes (closed book line n (progress_of s fs is ls)) r fs' is' ls' → Becomes (does book line inner (Items.closing n) (progress_of s fs is ls)) r fs' is' ls'
  unfolding does
  does_closing n b = record { room = b.room; deep = b.deep; means = b.means }

  -- the commands, where one came to this
  module _ (c : Result Environment Refusal) (b : Becomes (changing (change_outcome line c) (progress_of s fs is ls)) r fs' is' ls') where
    pub does_change : (o : Outcome Environment) → change_outcome line c ≡ o → Becomes (changing o (progress_of s fs is ls)) r fs' is' ls'
    does_change o e = record { room = b.room; deep = b.deep; means = b.means ∙ ap (λ (x : Outcome Environment). changing x (progress_of s fs is ls)) e }

    pub does_up : c ≡ Ok (octave_up s.env) → Becomes (does book line inner Items.up (progress_of s fs is ls)) r fs' is' ls'
    unfolding does progress_of changing ◌>>=◌
    does_up e = does_change (going (octave_up s.env)) (ap (change_outcome line) e)

    pub does_down : c ≡ Ok (octave_down s.env) → Becomes (does book line inner Items.down (progress_of s fs is ls)) r fs' is' ls'
    unfolding does progress_of changing ◌>>=◌
    does_down e = does_change (going (octave_down s.env)) (ap (change_outcome line) e)

    pub does_octave : (n : Option ℕ) → change_outcome line c ≡ octave_read line n s.env → Becomes (does book line inner (Items.octave n) (progress_of s fs is ls)) r fs' is' ls'
    unfolding does progress_of
    does_octave n e = does_change (octave_read line n s.env) e

    pub does_value : (n : Option ℕ) → change_outcome line c ≡ value_read line n s.env → Becomes (does book line inner (Items.value n) (progress_of s fs is ls)) r fs' is' ls'
    unfolding does progress_of
    does_value n e = does_change (value_read line n s.env) e

    pub does_tempo : (n : Option ℕ) → change_outcome line c ≡ tempo_read line n s.env → Becomes (does book line inner (Items.tempo n) (progress_of s fs is ls)) r fs' is' ls'
    unfolding does progress_of
    does_tempo n e = does_change (tempo_read line n s.env) e

    pub does_amplitude : (a : Amount) → change_outcome line c ≡ amplitude_read line a s.env → Becomes (does book line inner (Items.amplitude a) (progress_of s fs is ls)) r fs' is' ls'
    unfolding does progress_of
    does_amplitude a e = does_change (amplitude_read line a s.env) e

    pub does_key : (k : Option Key) → change_outcome line c ≡ key_read line k s.env → Becomes (does book line inner (Items.key k) (progress_of s fs is ls)) r fs' is' ls'
    unfolding does progress_of
    does_key k e = does_change (key_read line k s.env) e

  pub does_call : (name : List ℕ) → Becomes (called book line inner name (progress_of s fs is ls)) r fs' is' ls' → Becomes (does book line inner (Items.call name) (progress_of s fs is ls)) r fs' is' ls'
  unfolding does
  does_call name b = record { room = b.room; deep = b.deep; means = b.means }

pub does_unknown : (book : Book) (line : ℕ) (inner : Macro → Progress → Outcome Progress) (s : State) (fs : List Float) (is ls : List ℕ) → Ready s fs is ls
    → Becomes (does book line inner Items.unknown (progress_of s fs is ls)) (refused_at s 14 line) fs is ls
unfolding does
does_unknown book line inner s fs is ls g = refused_becomes s fs is ls g.room g.deep 13 line _ refl
