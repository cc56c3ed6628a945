use Rattle.std.proofs.Common.{◌≡◌, ◌∙◌, ◌*◌, ◌/◌, ℕ, set, ap, arith, rules}
use Rattle.cap_format.specs.declared.cap.Cap.{Cap}
use Rattle.cap_format.specs.Moves.{moved}
use Rattle.cap_format.specs.Numbers.{granule_bytes}
use Rattle.machine_types.specs.Granules.{granule}
use Rattle.tagged_memory.specs.Frames.{frame, with_frame}
use Rattle.full_space.proofs.MovedFrames.{none-moved, held-later, next-moved, all-moved}
use Rattle.full_space.proofs.forks.move_granules.Goals as goal

pub loop-g-init : goal.loop-g-init
loop-g-init c = record { within = omega arith; is = none-moved c.args.memory.now c.args.f.0 c.args.from c.args.to }

-- the granule at its place
at-place : (g : ℕ) → granule_bytes * g / granule_bytes ≡ g
at-place g = omega arith

pub moved-requires-clause-inside : goal.moved-requires-clause-inside
moved-requires-clause-inside c =
    let next = c.in-Some.ensures.next in
    let is : c.load_cap-cap.result ≡ granule (frame c.loop-g.memory c.args.f.0) c.in-Some.g
    = c.load_cap-cap.ensures.is ∙ ap (granule (frame c.loop-g.memory c.args.f.0)) (at-place c.in-Some.g) in
    let held = held-later c.args.memory.now c.loop-g.memory c.args.f.0 c.args.from c.args.to c.loop-g.first c.requires.frame c.in-Some.ensures.whole c.loop-g.invariant.is c.in-Some.g next c.requires.held in
    (rw (← is) at held).inside

pub loop-g-preserved : goal.loop-g-preserved
loop-g-preserved c =
    let next = c.in-Some.ensures.next in
    let below = next.below in
    let later = c.loop-g.memory in
    let g = c.in-Some.g in
    let f = c.args.f.0 in
    let is : c.load_cap-cap.result ≡ granule (frame later f) g = c.load_cap-cap.ensures.is ∙ ap (granule (frame later f)) (at-place g) in
    record {
      within = omega arith;
      is = c.store_cap.ensures.is
          ∙ ap (λ (k : ℕ). with_frame later f (set (frame later f) k c.moved.result)) (at-place g)
          ∙ ap (λ (cap : Cap). with_frame later f (set (frame later f) g cap)) (c.moved.ensures.is ∙ ap (λ (cap : Cap). moved cap c.args.from c.args.to) is)
          ∙ next-moved c.args.memory.now later f c.args.from c.args.to c.loop-g.first c.requires.frame c.in-Some.ensures.whole c.loop-g.invariant.is g next;
    }

pub returns : goal.returns
returns c =
    all-moved c.args.memory.now c.loop-g.memory c.args.f.0 c.args.from c.args.to c.loop-g.first c.requires.frame c.next_tag.ensures.whole c.loop-g.invariant.is c.loop-g.invariant.within
    (c.in_default.ensures.none.0 (search rules))
