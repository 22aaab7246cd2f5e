-- A note in its place, and the samples at which it sounds. What a sample holds and where a sheet's notes stand are both said of this. Assumes nothing.
use Rattle.std.specs.Prelude.{Bool, ◌&&◌, ℕ, ◌+◌, leb, ltb, Float}

-- a note in its place: it sounds from sample `start` on for `sounds` samples, and `sound i` is its own sample i
pub record Placed : Type 0 where
  pub start : ℕ
  pub sounds : ℕ
  pub sound : ℕ → Float

-- the sample behind its last
abbrev pub end_of : Placed → ℕ
end_of p = p.start + p.sounds

-- whether it sounds at sample k
unfoldable pub sounds_at : ℕ → Placed → Bool
sounds_at k p = leb p.start k && ltb k (end_of p)
