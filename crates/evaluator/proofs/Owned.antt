-- What owning an array tells of each of its elements. Assumes nothing.
use mathlib.Core.List.{List, [], ◌∷◌, map}
use Prim.Native.Nat.{ℕ, zero, suc, ◌<◌}
use native.Mathlib.Omega.{arith}
use lib.ListN.{length, get_or}
use base.Fml.{Fml}
use mir.Val.{Val}
use denote.Array.{each}
use denote.Shadow.{shadow}

module _ {X D : Type 0} (own : D → List Val → Fml) (into : X → D) (P : X → Type 0) (tells : (x : X) (u : Val) → shadow (own (into x) (u ∷ [])) → P x) where
  -- what owning one element tells holds of each
  pub each_tells : (xs : List X) (us : List Val) → shadow (each D own (map into xs) us) → (i : ℕ) (d : X) → i < length xs → P (get_or xs i d)
  each_tells [] us h i d l = absurd (omega arith)
  each_tells (x ∷ xs) [] h i d l = absurd h
  each_tells (x ∷ xs) (u ∷ us) h zero d l = tells x u h.0
  each_tells (x ∷ xs) (u ∷ us) h (suc i) d l = each_tells xs us h.1 i d (omega arith)

module _ {X : Type 0} (own : X → List Val → Fml) (P : X → Type 0) (tells : (x : X) (u : Val) → shadow (own x (u ∷ [])) → P x) where
  -- the same where the elements stand for themselves
  pub each_own_tells : (xs : List X) (us : List Val) → shadow (each X own xs us) → (i : ℕ) (d : X) → i < length xs → P (get_or xs i d)
  each_own_tells [] us h i d l = absurd (omega arith)
  each_own_tells (x ∷ xs) [] h i d l = absurd h
  each_own_tells (x ∷ xs) (u ∷ us) h zero d l = tells x u h.0
  each_own_tells (x ∷ xs) (u ∷ us) h (suc i) d l = each_own_tells xs us h.1 i d (omega arith)
