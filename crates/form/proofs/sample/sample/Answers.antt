-- `sample` is the product's word: past its test the product is in the range of `nearest`, and `stored` keeps the sign (`Scaled`).
-- Assumes nothing.
use Rattle.std.proofs.Common.{◌≡◌, ℕ, ◌%◌, Bool, false, refl, sym, ap, ◌∙◌}
use lib.Ieee.{Float, binary32, mul, is_nan, of_bits}
use Rattle.ieee.specs.Constants.{sample_scale}
use Rattle.form.specs.Sample.{AtMostScale, clamp, stored_of, whole16, sample16, word}
use Rattle.form.proofs.Scaled.{clamp_small, product, whole_small, stored_nan, stored_word}
use Rattle.form.proofs.sample.sample.Goals as goal

-- the product is not NaN
in_range : (x c : Float) (b : Bool) → c ≡ clamp x → b ≡ is_nan (mul binary32 c sample_scale) → b ≡ false → AtMostScale (mul binary32 c sample_scale)
in_range x c b e n f = product c (rw e (clamp_small x)) (sym n ∙ f)

word_of : (x c : Float) → c ≡ clamp x → word (whole16 (mul binary32 c sample_scale)) ≡ word (sample16 x)
unfolding sample16
word_of x c e = rw e refl

pub returns-then-is_nan : goal.returns-then-is_nan
unfolding of_bits
returns-then-is_nan c =
    stored_nan (mul binary32 c.clamped-p.result sample_scale) (sym c.is_nan.ensures.value ∙ c.if-is_nan.true) ∙ word_of _ _ c.clamped-p.ensures

pub nearest-n-requires : goal.nearest-n-requires
unfolding of_bits
nearest-n-requires c = in_range c.args.x _ _ c.clamped-p.ensures c.is_nan.ensures.value c.if-is_nan.false

pub stored-requires : goal.stored-requires
unfolding of_bits
stored-requires c =
    rw c.nearest-n.ensures (whole_small (mul binary32 c.clamped-p.result sample_scale)
    (in_range c.args.x _ _ c.clamped-p.ensures c.is_nan.ensures.value c.if-is_nan.false))

pub returns : goal.returns
unfolding of_bits
returns c =
    let p = mul binary32 c.clamped-p.result sample_scale in
    ap (λ (r : ℕ). r % 65536) (c.stored.ensures ∙ ap (λ (k : ℕ). stored_of k p) c.nearest-n.ensures)
    ∙ stored_word p (in_range c.args.x _ _ c.clamped-p.ensures c.is_nan.ensures.value c.if-is_nan.false)
    ∙ word_of _ _ c.clamped-p.ensures
