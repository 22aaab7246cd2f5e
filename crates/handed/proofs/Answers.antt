-- What the check answers tells whether the sheet passes, and then its length. Assumes nothing.
use Rattle.std.proofs.Common.{◌≡◌, ℕ, Bool, true, false, Result, Ok, Err, refl, ap, ◌∙◌}
use Rattle.sheet.specs.declared.refusal.Refusal.{Refusal}
use Rattle.sheet.specs.declared.refusal.Refusal.TheVariants.{NoSheet}
use Rattle.sheet.specs.declared.sheet.Sheet.{Sheet}
use Rattle.sheet.specs.Parts.{length_of}
use Rattle.handed.specs.Check.{counted_if, is_sheet, checked_of}

pub if_refused : (b : Bool) (n : ℕ) (why : Refusal) → Err why ≡ counted_if b n → (why ≡ NoSheet) × (b ≡ false)
if_refused true n why e = cc
if_refused false n why e = ((cc), refl)

pub if_counted : (b : Bool) (n m : ℕ) → Ok m ≡ counted_if b n → (b ≡ true) × (m ≡ n)
if_counted true n m e = (refl, (cc))
if_counted false n m e = cc

module _ (rate : ℕ) (s : Sheet) where
  pub check_refused : (why : Refusal) → Err why ≡ checked_of rate s → (why ≡ NoSheet) × (is_sheet rate s ≡ false)
  unfolding checked_of
  check_refused why e = if_refused (is_sheet rate s) (length_of rate s) why e

  pub check_passed : (n : ℕ) → Ok n ≡ checked_of rate s → (is_sheet rate s ≡ true) × (n ≡ length_of rate s)
  unfolding checked_of
  check_passed n e = if_counted (is_sheet rate s) (length_of rate s) n e

  -- and of one that passes it answers its length
  pub check_counts : is_sheet rate s ≡ true → checked_of rate s ≡ Ok (length_of rate s)
  unfolding checked_of
  check_counts e = ap (λ (b : Bool). counted_if b (length_of rate s)) e

  -- so an answer for a sheet that passes is its length
  pub checked_length : (r : Result ℕ Refusal) → r ≡ checked_of rate s → is_sheet rate s ≡ true → r ≡ Ok (length_of rate s)
  checked_length r e t = e ∙ check_counts t
