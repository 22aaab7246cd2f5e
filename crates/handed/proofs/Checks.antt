-- A sheet by what is looked at first: each thing that fails refuses it, and where nothing does it passes with its length. Assumes nothing.
use mathlib.Core.Path.{◌≡◌}
use mathlib.Core.Bool.{Bool, true, false}
use Prim.Native.Nat.{ℕ, ◌≤◌, ◌<◌}
use native.Mathlib.Omega.{arith}
use lib.ListN.{take}
use borrow.Author.Tests.{le-leb, lt-leb}
use Rattle.std.proofs.Common.{Result, Ok, Err, sym, ◌∙◌, ap}
use Rattle.sheet.specs.declared.refusal.Refusal.{Refusal}
use Rattle.sheet.specs.declared.refusal.Refusal.TheVariants.{NoSheet}
use Rattle.sheet.specs.declared.sheet.Sheet.{Sheet}
use Rattle.sheet.specs.Parts.{counts_of, total, instruments_of, length_of}
use Rattle.handed.specs.Check.{all, instrument_passes, note_passes, counted_if, is_sheet, walked_of, checked_of}
use Rattle.handed.proofs.Answers.{if_refused, if_counted}
use Rattle.handed.proofs.Passing.{passes}

-- refusal 28
abbrev none : Result ℕ Refusal
none = Err NoSheet

module _ (rate : ℕ) (s : Sheet) where
  -- whether its notes pass
  abbrev pub played : Bool
  played = all (note_passes rate (instruments_of s)) (take (total (counts_of s)) s.notes)

  pub walk_fails : false ≡ played → none ≡ walked_of rate s
  unfolding walked_of
  walk_fails e = ap (λ (b : Bool). counted_if b (length_of rate s)) e

  pub walk_ends : (n : ℕ) → true ≡ played → n ≡ length_of rate s → Ok n ≡ walked_of rate s
  unfolding walked_of
  walk_ends n e f = ap Ok f ∙ ap (λ (b : Bool). counted_if b (length_of rate s)) e

  -- what the walk answers tells whether the notes pass
  pub walk_refused : (why : Refusal) → Err why ≡ walked_of rate s → (why ≡ NoSheet) × (played ≡ false)
  unfolding walked_of
  walk_refused why e = if_refused played (length_of rate s) why e

  pub walk_counted : (n : ℕ) → Ok n ≡ walked_of rate s → (played ≡ true) × (n ≡ length_of rate s)
  unfolding walked_of
  walk_counted n e = if_counted played (length_of rate s) n e

  refused : is_sheet rate s ≡ false → none ≡ checked_of rate s
  unfolding checked_of
  refused e = ap (λ (b : Bool). counted_if b (length_of rate s)) (sym e)

  pub parts_refused : 16 < s.parts → none ≡ checked_of rate s
  unfolding is_sheet
  parts_refused h = refused (rw (lt-leb s.parts 16 h))

  module _ (a : s.parts ≤ 16) where
    pub instruments_refused : 32 < s.instruments → none ≡ checked_of rate s
    unfolding is_sheet
    instruments_refused h = refused (rw (le-leb s.parts 16 a, lt-leb s.instruments 32 h))

    module _ (b : s.instruments ≤ 32) where
      pub notes_refused : 2048 < total (counts_of s) → none ≡ checked_of rate s
      unfolding is_sheet
      notes_refused h = refused (rw (le-leb s.parts 16 a, le-leb s.instruments 32 b, lt-leb (total (counts_of s)) 2048 h))

      module _ (c : total (counts_of s) ≤ 2048) where
        pub players_refused : all instrument_passes (instruments_of s) ≡ false → none ≡ checked_of rate s
        unfolding is_sheet
        players_refused h = refused (rw (le-leb s.parts 16 a, le-leb s.instruments 32 b, le-leb (total (counts_of s)) 2048 c, h))

        module _ (d : all instrument_passes (instruments_of s) ≡ true) where
          pub played_refused : all (note_passes rate (instruments_of s)) (take (total (counts_of s)) s.notes) ≡ false → none ≡ checked_of rate s
          unfolding is_sheet
          played_refused h = refused (rw (le-leb s.parts 16 a, le-leb s.instruments 32 b, le-leb (total (counts_of s)) 2048 c, d, h))

          module _ (e : all (note_passes rate (instruments_of s)) (take (total (counts_of s)) s.notes) ≡ true) where
            pub length_refused : 2000000000 < length_of rate s → none ≡ checked_of rate s
            unfolding is_sheet
            length_refused h =
                refused (rw (le-leb s.parts 16 a, le-leb s.instruments 32 b, le-leb (total (counts_of s)) 2048 c, d, e, lt-leb (length_of rate s) 2000000000 h))

            pub passed : (n : ℕ) → n ≡ length_of rate s → n ≤ 2000000000 → Ok n ≡ checked_of rate s
            unfolding checked_of
            passed n f h =
                let all = passes rate s (record { parts = a; instruments = b; notes = c; players = d; played = e; length = omega (arith, f, h) }) in
                ap Ok f ∙ ap (λ (b : Bool). counted_if b (length_of rate s)) (sym all)
