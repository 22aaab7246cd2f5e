-- Facts of what a reading has where it goes on: how they go through each form of a definition with refusals. A refusal owes nothing. Assumes nothing.
use mathlib.Core.Path.{◌≡◌, refl}
use mathlib.Core.Bool.{Bool, true, false}
use Prim.Native.Nat.{ℕ}
use Rattle.sheet.specs.Refusals.{Outcome, going, refused, ◌>>=◌, ◌>>◌, refuse◌on◌unless◌, refuse◌on◌if◌}

-- P holds of what an outcome gives, if it gives anything
unfoldable pub Holds : {A : Type 0} → (A → Type 0) → Outcome A → Type 0
Holds P (going x) = P x
Holds P (refused n l) = Unit {0}

pub holds_going : {A : Type 0} (P : A → Type 0) (x : A) → P x → Holds P (going x)
unfolding Holds
holds_going P x h = h

pub holds_refused : {A : Type 0} (P : A → Type 0) (n l : ℕ) → Holds P (refused n l)
unfolding Holds
holds_refused P n l = tt

-- what is read off a reading that goes on
pub holds_of : {A : Type 0} (P : A → Type 0) (x : A) → Holds P (going x) → P x
unfolding Holds
holds_of P x h = h

-- behind a test that must pass, and behind one that must fail
pub holds_unless : {A : Type 0} (P : A → Type 0) (n l : ℕ) (t : Bool) (rest : Outcome A) → (t ≡ true → Holds P rest)
    → Holds P (◌>>◌ (refuse◌on◌unless◌ n l t) rest)
unfolding Holds ◌>>◌ refuse◌on◌unless◌
holds_unless P n l true rest h = h refl
holds_unless P n l false rest h = tt

pub holds_if : {A : Type 0} (P : A → Type 0) (n l : ℕ) (t : Bool) (rest : Outcome A) → Holds P rest → Holds P (◌>>◌ (refuse◌on◌if◌ n l t) rest)
unfolding Holds ◌>>◌ refuse◌on◌if◌
holds_if P n l true rest h = tt
holds_if P n l false rest h = h

-- behind another reading, by what holds of that
pub holds_then : {A B : Type 0} (P : A → Type 0) (Q : B → Type 0) (m : Outcome A) (f : A → Outcome B) → Holds P m → ((x : A) → P x → Holds Q (f x))
    → Holds Q (◌>>=◌ m f)
unfolding Holds ◌>>=◌
holds_then P Q (going x) f h k = k x h
holds_then P Q (refused n l) f h k = tt

-- where nothing of the first is needed
pub holds_after : {A B : Type 0} (Q : B → Type 0) (m : Outcome A) (f : A → Outcome B) → ((x : A) → Holds Q (f x)) → Holds Q (◌>>=◌ m f)
unfolding Holds ◌>>=◌
holds_after Q (going x) f k = k x
holds_after Q (refused n l) f k = tt
