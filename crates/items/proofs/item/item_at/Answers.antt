-- `item_at` is `found_at` where a byte stands, and past the end nothing is passed over. Assumes nothing.
use mathlib.Core.Path.{refl, sym, ◌∙◌}
use native.Mathlib.Omega.{arith}
use Rattle.items.specs.Written.{Inside}
use Rattle.items.proofs.Starts.{item_there, item_past}
use Rattle.items.proofs.item.item_at.Goals as goal

pub returns-then-at-text : goal.returns-then-at-text
unfolding Inside
returns-then-at-text c =
    record {
      meant = item_past _ _ c.if-at-text.true;
      onward = λ h. absurd (omega (arith, h, c.if-at-text.true));
      past = λ h. refl;
      inside = tt;
    }

pub returns : goal.returns
returns c =
    let e = c.found_at.ensures in
    let t = c.if-at-text.false in
    record {
      meant = e.meant ∙ sym (item_there _ _ t);
      onward = λ h. e.onward;
      past = λ h. absurd (omega (arith, h, t));
      inside = e.inside;
    }
