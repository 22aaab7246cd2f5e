-- Laws of what follows an outcome that is known, of what two equal outcomes have alike, and of refusals that have a
-- number, which is not 0. Assumes nothing.
use mathlib.Core.Path.{◌≡◌, refl, sym, ap, subst}
use mathlib.Core.Bool.{Bool, true, false}
use Prim.Native.Nat.{ℕ, ◌<◌}
use native.Mathlib.Omega.{arith}
use Rattle.sheet.specs.Refusals.{Outcome, going, refused, ◌>>=◌, ◌>>◌, refuse◌on◌unless◌, refuse◌on◌if◌}

-- ---- what follows

pub then_going : {A B : Type 0} (x : A) (m : Outcome A) (f : A → Outcome B) → m ≡ going x → ◌>>=◌ m f ≡ f x
unfolding ◌>>=◌
then_going {A} x m f e = ap (λ (o : Outcome A). ◌>>=◌ o f) e

pub then_refused : {A B : Type 0} (n l : ℕ) (m : Outcome A) (f : A → Outcome B) → m ≡ refused n l → ◌>>=◌ m f ≡ refused n l
unfolding ◌>>=◌
then_refused {A} n l m f e = ap (λ (o : Outcome A). ◌>>=◌ o f) e

pub then_same : {A : Type 0} (m : Outcome A) → ◌>>=◌ m (λ x. going x) ≡ m
unfolding ◌>>=◌
then_same (going x) = refl
then_same (refused n l) = refl

-- ---- outcomes that are equal

-- what an outcome gives, and d where it gives nothing
given : {A : Type 0} → A → Outcome A → A
given d (going x) = x
given d (refused n l) = d

-- 0 where it goes on, 1 where it is refused; a refusal's number and its line
sort : {A : Type 0} → Outcome A → ℕ
sort (going x) = 0
sort (refused n l) = 1

number : {A : Type 0} → Outcome A → ℕ
number (going x) = 0
number (refused n l) = n

place : {A : Type 0} → Outcome A → ℕ
place (going x) = 0
place (refused n l) = l

pub going_same : {A : Type 0} (x y : A) → going x ≡ going y → x ≡ y
unfolding given
going_same x y e = ap (given x) e

pub refused_same : (A : Type 0) (n l m k : ℕ) → ◌≡◌ {A = Outcome A} (refused n l) (refused m k) → (n ≡ m) × (l ≡ k)
unfolding number place
refused_same A n l m k e = (ap number e, ap place e)

pub going_apart : {A B : Type 0} (x : A) (n l : ℕ) → going x ≡ refused n l → B
unfolding sort
going_apart x n l e = let z : ◌≡◌ {A = ℕ} 0 1 = ap sort e in absurd (omega arith)

-- ---- a refusal has a number

unfoldable pub Numbered : {A : Type 0} → Outcome A → Type 0
Numbered (going x) = Unit {0}
Numbered (refused n l) = 0 < n

pub numbered_going : {A : Type 0} (x : A) → Numbered (going x)
unfolding Numbered
numbered_going x = tt

pub numbered_refused : (A : Type 0) (n l : ℕ) → 0 < n → Numbered {A = A} (refused n l)
unfolding Numbered
numbered_refused A n l h = h

-- what is read off a refusal
pub numbered_of : {A : Type 0} (m : Outcome A) (n l : ℕ) → refused n l ≡ m → Numbered m → 0 < n
unfolding Numbered
numbered_of m n l e h = subst Numbered (sym e) h

-- behind a test, and behind another reading
pub numbered_unless : {A : Type 0} (n l : ℕ) (t : Bool) (rest : Outcome A) → 0 < n → Numbered rest → Numbered (◌>>◌ (refuse◌on◌unless◌ n l t) rest)
unfolding Numbered ◌>>◌ refuse◌on◌unless◌
numbered_unless n l true rest h k = k
numbered_unless n l false rest h k = h

pub numbered_if : {A : Type 0} (n l : ℕ) (t : Bool) (rest : Outcome A) → 0 < n → Numbered rest → Numbered (◌>>◌ (refuse◌on◌if◌ n l t) rest)
unfolding Numbered ◌>>◌ refuse◌on◌if◌
numbered_if n l true rest h k = h
numbered_if n l false rest h k = k

pub numbered_then : {A B : Type 0} (m : Outcome A) (f : A → Outcome B) → Numbered m → ((x : A) → Numbered (f x)) → Numbered (◌>>=◌ m f)
unfolding Numbered ◌>>=◌
numbered_then (going x) f h k = k x
numbered_then (refused n l) f h k = h
