-- `assembled` adds the exponent's field and the rounded quotient up to a bit pattern: `assembled_is` says which number that is.
-- Assumes nothing.
use Rattle.std.proofs.Common.{Bool, not, sym, subst, T}
use Rattle.number.proofs.Rounding.{Assembled, assembled}
use Rattle.number.proofs.decimal.assembled.Goals as goal

is_number : (c : goal.After-rounded-digits) → Assembled c.args.n c.args.d c.args.k c.rounded-digits.result
is_number c =
    let r = c.requires in
    let q = c.divided-quotient.ensures in
    assembled _ _ _ _ _ _ r.some r.whole r.one r.exponent q.quotient q.remainder c.rounded-digits.ensures

pub float_from_bits-result : goal.float_from_bits-result
float_from_bits-result c = subst (λ (b : Bool). T (not b)) (sym (is_number c).number) tt

pub returns : goal.returns
returns c = (is_number c).is
