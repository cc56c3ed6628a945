use Rattle.std.proofs.Common.{◌≡◌, ◌∙◌, ℕ, ◌+◌, ◌<◌, List, arith, subst}
use Rattle.contents.specs.Regions.{add_page_of}
use Rattle.elf_loader.specs.Numbers.{process_region}
use Rattle.elf_loader.specs.Start.{first_page, page_count, with_pages}
use Rattle.elf_loader.proofs.SegmentAdded.{none-added, lacks-next, one-added}
use Rattle.elf_loader.proofs.starts.add_segment.Goals as goal

pub loop-number-init : goal.loop-number-init
loop-number-init g c =
    none-added g.S.Stores.stands_for g.S.Stores.translation_at c.args.bytes.now c.args.segment.now (page_count c.args.segment.now) c.args.space.now c.requires.room

pub add_page-added-requires-clause-absent : goal.add_page-added-requires-clause-absent
add_page-added-requires-clause-absent g c =
    let segment = c.args.segment.now in
    let number = c.loop-number.number in
    lacks-next g.S.Stores.stands_for g.S.Stores.translation_at c.args.bytes.now segment (page_count segment) c.args.space.now c.loop-number.space number
    (subst (λ n. number < n) c.page_count-number-end.ensures c.loop-number-test.true) c.requires.room c.loop-number.invariant

pub loop-number-preserved : goal.loop-number-preserved
loop-number-preserved g c =
    let segment = c.args.segment.now in
    let number = c.loop-number.number in
    let new = c.add_page-added.new.self in
    one-added g.S.Stores.stands_for g.S.Stores.translation_at c.args.bytes.now segment (page_count segment) c.args.space.now c.loop-number.space new number
    (subst (λ n. number < n) c.page_count-number-end.ensures c.loop-number-test.true)
    (λ d stands. subst (λ (part : List ℕ). g.S.Stores.stands_for new (add_page_of d process_region (first_page segment + number) segment.rights part).after)
    c.page_part-part.ensures.is (c.add_page-added.ensures.after d stands))
    c.add_page-added.ensures.keeps c.add_page-added.ensures.frames c.loop-number.invariant

pub returns-clause-after : goal.returns-clause-after
returns-clause-after g c d stands room =
    let end : c.loop-number.number ≡ c.page_count-number-end.result = omega arith in
    subst (λ n. g.S.Stores.stands_for c.loop-number.space (with_pages c.args.bytes.now c.args.segment.now d n)) (end ∙ c.page_count-number-end.ensures) (c.loop-number.invariant.after d stands room)

pub returns-clause-keeps : goal.returns-clause-keeps
returns-clause-keeps g c = c.loop-number.invariant.keeps

pub returns-clause-frames : goal.returns-clause-frames
returns-clause-frames g c = c.loop-number.invariant.frames
