-- `instrument_of` lays the lines down from the last one up, and keeps `Laying`. Assumes nothing.
use Rattle.std.proofs.Common.{arith}
use Rattle.commands.proofs.Laying.{laying_start, laying_room, laying_more, laying_end, most_fits, instrument_is}
use Rattle.commands.proofs.layout.instrument_of.Goals as goal

pub loop-i-init : goal.loop-i-init
loop-i-init c = laying_start _ _ _ _ c.nothing-all.ensures

pub lay-requires : goal.lay-requires
lay-requires c =
    let f = most_fits _ _ _ _ c.held-most.ensures in
    let g = c.loop-i.invariant in
    let w = g.within in
    record { room = laying_room _ _ _ _ _ g f.0 (omega arith); numbers = omega (arith, w, f.1.0); shape = omega (arith, w, f.1.1) }

pub loop-i-preserved : goal.loop-i-preserved
loop-i-preserved c = laying_more _ _ _ _ _ _ c.loop-i.invariant (most_fits _ _ _ _ c.held-most.ensures).0 (omega arith) c.lay.ensures

pub release_of-release-requires : goal.release_of-release-requires
release_of-release-requires c = (most_fits _ _ _ _ c.held-most.ensures).1.0

pub returns : goal.returns
returns c =
    instrument_is _ _ _ _ _ _ c.held-most.ensures (laying_end _ _ _ _ _ c.loop-i.invariant (omega arith)) (c.release_of-release.ensures _)
