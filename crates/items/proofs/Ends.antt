-- Where what was read at a place ends: as far behind the place as in the text from there on, and within the text. Assumes nothing.
use mathlib.Core.Path.{◌≡◌, refl, sym}
use mathlib.Core.List.{List}
use Prim.Native.Nat.{ℕ, ◌+◌, ◌≤◌}
use native.Mathlib.Omega.{arith}
use lib.Ieee.{Float}
use lib.ListN.{length}
use Rattle.std.specs.Prelude.{Option as Answer, Some, None, Result, Ok, Err}
use Rattle.std.specs.Result.{result_ok}
use Rattle.text.specs.declared.parsed.Parsed.{Parsed}
use Rattle.text.specs.Parsed.{next_or}
use Rattle.number.specs.declared.decimal.NoDecimal.{NoDecimal}
use Rattle.number.specs.declared.decimal.NoDecimal.TheVariants.{Unreadable, TooLong}
use Rattle.number.specs.Digits.{int_at, int_width}
use Rattle.number.specs.Decimal.{decimal_at, decimal_width}
use Rattle.number.proofs.Tokens.{int_moved, decimal_moved}
use Rattle.number.proofs.Places.{int_placed}
use Rattle.number.proofs.Cuts.{decimal_placed}
use Rattle.keys.specs.declared.key.Accidental.{Accidental}
use Rattle.keys.specs.declared.key.Key.{Key}
use Rattle.keys.specs.Keys.{note_mark_at, key_at, accidental_found, key_found, key_width}
use Rattle.environment.specs.Ranges.{digit_run, amount_of}
use Rattle.keys.proofs.Moves.{moved, note_mark_within, key_within}

-- ---- what does not see the move

pub run_moved : (k : ℕ) (n : Answer (Parsed ℕ)) → digit_run (int_moved k n) ≡ digit_run n
unfolding digit_run
run_moved k (Some found) = refl
run_moved k None = refl

pub amount_moved : (k : ℕ) (d : Result (Parsed Float) NoDecimal) → amount_of (decimal_moved k d) ≡ amount_of d
unfolding amount_of
amount_moved k (Ok found) = refl
amount_moved k (Err Unreadable) = refl
amount_moved k (Err TooLong) = refl

pub accidental_moved : (k : ℕ) (m : Answer (Parsed Accidental)) → accidental_found (moved k m) ≡ accidental_found m
unfolding accidental_found
accidental_moved k (Some found) = refl
accidental_moved k None = refl

pub key_moved : (k : ℕ) (m : Answer (Parsed Key)) → key_found (moved k m) ≡ key_found m
unfolding key_found
key_moved k (Some found) = refl
key_moved k None = refl

-- ---- the ends move with the place

pub int_end_moved : (k at : ℕ) (n : Answer (Parsed ℕ)) → next_or (k + at) (int_moved k n) ≡ k + next_or at n
int_end_moved k at (Some found) = refl
int_end_moved k at None = refl

pub int_end_width : (k : ℕ) (n : Answer (Parsed ℕ)) → next_or k (int_moved k n) ≡ k + int_width n
unfolding int_width
int_end_width k (Some found) = refl
int_end_width k None = omega arith

pub decimal_end_width : (k : ℕ) (d : Result (Parsed Float) NoDecimal) → next_or k (result_ok (decimal_moved k d)) ≡ k + decimal_width d
unfolding decimal_width
decimal_end_width k (Ok found) = refl
decimal_end_width k (Err why) = omega arith

pub mark_end_moved : (k : ℕ) (m : Answer (Parsed Accidental)) → next_or k (moved k m) ≡ k + next_or 0 m
mark_end_moved k (Some found) = refl
mark_end_moved k None = omega arith

pub key_end_width : (k : ℕ) (m : Answer (Parsed Key)) → next_or k (moved k m) ≡ k + key_width m
unfolding key_width
key_end_width k (Some found) = refl
key_end_width k None = omega arith

-- ---- the ends lie within the text

-- from a place on, up to the text's end
pub record Ends (text : List ℕ) (at end : ℕ) : Type 0 where
  pub past : at ≤ end
  pub within : end ≤ length text

pub int_ends : (limit : ℕ) (text : List ℕ) (at : ℕ) (n : Answer (Parsed ℕ)) → n ≡ int_at limit text at → at ≤ length text → Ends text at (next_or at n)
int_ends limit text at (Some found) e h = let p = int_placed limit text at found (sym e) in record { past = omega (arith, p.past); within = p.within }
int_ends limit text at None e h = record { past = omega arith; within = h }

pub decimal_ends : (text : List ℕ) (at : ℕ) (d : Result (Parsed Float) NoDecimal) → d ≡ decimal_at text at → at ≤ length text
    → Ends text at (next_or at (result_ok d))
decimal_ends text at (Ok found) e h = let p = decimal_placed text at found (sym e) in record { past = omega (arith, p.past); within = p.within }
decimal_ends text at (Err why) e h = record { past = omega arith; within = h }

pub mark_ends : (text : List ℕ) (at : ℕ) (m : Answer (Parsed Accidental)) → m ≡ note_mark_at text at → at ≤ length text → Ends text at (next_or at m)
mark_ends text at (Some found) e h = let p = note_mark_within text at found h (sym e) in record { past = p.0; within = p.1 }
mark_ends text at None e h = record { past = omega arith; within = h }

pub key_ends : (text : List ℕ) (at : ℕ) (k : Answer (Parsed Key)) → k ≡ key_at text at → at ≤ length text → Ends text at (next_or at k)
key_ends text at (Some found) e h = let p = key_within text at found h (sym e) in record { past = p.0; within = p.1 }
key_ends text at None e h = record { past = omega arith; within = h }
