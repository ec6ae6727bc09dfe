use Rattle.std.proofs.Common.{◌∷◌, sym, ap, ◌∙◌, arith, rules}
use Rattle.routes.specs.Routes.{Turned, Told}
use Rattle.routes.specs.Invariant.Known.{seen_of}
use Rattle.routes.proofs.Invariant.Turning.{turning_start, turning_room, turning_begin, turning_ready, turning_step, turning_turned, turning_told, turning_noted, begins_inside, goes_inside, goes_seen}
use Rattle.routes.proofs.turns.Goals as goal

pub loop-t-init : goal.loop-t-init
loop-t-init g c = turning_start _ _ _ _ _ c.requires.starts c.requires.unseen (λ q l. c.loop-i.invariant q (omega arith)) (search rules) c.requires.lent.1.0 c.requires.lent.1.1

pub bounds-cpus-i-in-Begin : goal.bounds-cpus-i-in-Begin
bounds-cpus-i-in-Begin g c = begins_inside c.loop-t.invariant _ _ _ c.in-Begin.is c.next-p.ensures.0

pub slice_bounds-begin-end : goal.slice_bounds-begin-end
slice_bounds-begin-end g c = turning_room c.loop-t.invariant _ (begins_inside c.loop-t.invariant _ _ _ c.in-Begin.is c.next-p.ensures.0)

pub loop-t-preserved-in-Begin : goal.loop-t-preserved-in-Begin
loop-t-preserved-in-Begin g c = turning_begin c.loop-t.invariant _ _ c.next-p.ensures.1 _ _ c.in-Begin.is c.next-p.ensures.0 (c.next-p.auto.pieces ∙ c.loop-t.invariant.pieces) c.begin.auto.own c.begin.ensures.begun

pub bounds-cpus-i-in-Go : goal.bounds-cpus-i-in-Go
bounds-cpus-i-in-Go g c = goes_inside c.loop-t.invariant _ _ _ c.in-Go.is c.next-p.ensures.0

pub slice_bounds-step-end : goal.slice_bounds-step-end
slice_bounds-step-end g c = turning_room c.loop-t.invariant _ (goes_inside c.loop-t.invariant _ _ _ c.in-Go.is c.next-p.ensures.0)

pub step-a-requires : goal.step-a-requires
step-a-requires g c = let r = turning_ready c.loop-t.invariant _ _ c.next-p.ensures.1 _ _ c.in-Go.is c.next-p.ensures.0 (omega (arith, c.loop-t-test.true, c.ranges.many.fits)) in record { once = r.0; ready = r.1 }

pub turned-requires : goal.turned-requires
turned-requires g c = turning_turned
    (turning_step c.loop-t.invariant _ _ c.next-p.ensures.1 _ _ _ c.in-Go.is c.next-p.ensures.0 (omega (arith, c.loop-t-test.true, c.ranges.many.fits))
    (c.next-p.auto.pieces ∙ c.loop-t.invariant.pieces) c.step-a.auto.own c.step-a.ensures.stepped)
    _ (c.step-a.ensures.unseen ∙ goes_seen _ _ _ c.in-Go.is c.next-p.ensures.0)

pub told-requires : goal.told-requires
told-requires g c = turning_told
    (turning_step c.loop-t.invariant _ _ c.next-p.ensures.1 _ _ _ c.in-Go.is c.next-p.ensures.0 (omega (arith, c.loop-t-test.true, c.ranges.many.fits))
    (c.next-p.auto.pieces ∙ c.loop-t.invariant.pieces) c.step-a.auto.own c.step-a.ensures.stepped)
    _ _ _ c.in-Some.is c.turned.ensures.0
    (c.if-not-turned.ensures.1 tt ∙ ap (λ z. Turned c.next-p.result.0 ∷ z) (c.step-a.ensures.unseen ∙ goes_seen _ _ _ c.in-Go.is c.next-p.ensures.0))

pub loop-t-preserved : goal.loop-t-preserved
loop-t-preserved g c = turning_noted _ _ c.turned.ensures.0
    ((c.if-not-turned.ensures.1 tt ∙ ap (λ z. Turned c.next-p.result.0 ∷ z) (c.step-a.ensures.unseen ∙ goes_seen _ _ _ c.in-Go.is c.next-p.ensures.0)) ∙ ap (λ z. seen_of c.next-p.result.0 z (g.W.Memory.seen c.loop-t.w)) (sym c.in_default.is))
    (turning_step c.loop-t.invariant _ _ c.next-p.ensures.1 _ _ _ c.in-Go.is c.next-p.ensures.0 (omega (arith, c.loop-t-test.true, c.ranges.many.fits))
    (c.next-p.auto.pieces ∙ c.loop-t.invariant.pieces) c.step-a.auto.own c.step-a.ensures.stepped)

pub loop-t-preserved-else-not-told : goal.loop-t-preserved-else-not-told
loop-t-preserved-else-not-told g c = turning_noted _ _ (c.told.ensures.0 ∙ c.turned.ensures.0)
    (c.if-not-told.ensures.1 tt ∙ ap (λ z. Told c.next-p.result.0 c.in-Some.x ∷ z)
    (c.if-not-turned.ensures.1 tt ∙ ap (λ z. Turned c.next-p.result.0 ∷ z) (c.step-a.ensures.unseen ∙ goes_seen _ _ _ c.in-Go.is c.next-p.ensures.0))
    ∙ ap (λ z. seen_of c.next-p.result.0 z (g.W.Memory.seen c.loop-t.w)) (sym c.in-Some.is))
    (turning_step c.loop-t.invariant _ _ c.next-p.ensures.1 _ _ _ c.in-Go.is c.next-p.ensures.0 (omega (arith, c.loop-t-test.true, c.ranges.many.fits))
    (c.next-p.auto.pieces ∙ c.loop-t.invariant.pieces) c.step-a.auto.own c.step-a.ensures.stepped)
