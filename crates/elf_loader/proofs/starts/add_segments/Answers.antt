use Rattle.std.proofs.Common.{◌+◌, drop, get_or}
use Rattle.elf_loader.proofs.SegmentsAdded.{all-left, next-at, room-for-next, segment-added, none-left}
use Rattle.elf_loader.proofs.starts.add_segments.Goals as goal

pub loop-segment-init : goal.loop-segment-init
loop-segment-init g c = all-left g.S.Stores.stands_for g.S.Stores.translation_at c.args.bytes.now c.args.segments.now c.args.space.now c.requires.placed c.requires.room

pub add_segment-requires-clause-room : goal.add_segment-requires-clause-room
add_segment-requires-clause-room g c =
    let file = c.args.bytes.now in
    let segments = c.args.segments.now in
    let old = c.args.space.now in
    let mid = c.loop-segment.space in
    let i = c.loop-segment.segment-index in
    room-for-next g.S.Stores.stands_for g.S.Stores.translation_at file segments old mid (get_or segments i _) (drop (i + 1) segments) c.requires.room
    (next-at g.S.Stores.stands_for g.S.Stores.translation_at file segments old mid i _ c.loop-segment-test.true c.loop-segment.invariant)

pub loop-segment-preserved : goal.loop-segment-preserved
loop-segment-preserved g c =
    let file = c.args.bytes.now in
    let segments = c.args.segments.now in
    let old = c.args.space.now in
    let mid = c.loop-segment.space in
    let i = c.loop-segment.segment-index in
    segment-added g.S.Stores.stands_for g.S.Stores.translation_at file segments old mid c.add_segment.new.space (get_or segments i _) (drop (i + 1) segments)
    c.add_segment.ensures.after c.add_segment.ensures.keeps c.add_segment.ensures.frames
    (next-at g.S.Stores.stands_for g.S.Stores.translation_at file segments old mid i _ c.loop-segment-test.true c.loop-segment.invariant)

pub returns-clause-after : goal.returns-clause-after
returns-clause-after g c =
    none-left g.S.Stores.stands_for g.S.Stores.translation_at c.args.bytes.now c.args.segments.now c.args.space.now c.loop-segment.space
    c.loop-segment.segment-index c.loop-segment-test.false c.loop-segment.invariant
