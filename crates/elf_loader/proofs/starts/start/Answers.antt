use Rattle.std.proofs.Common.{◌≡◌, ◌∙◌, ℕ, List, length, get_or, refl, ap, arith}
use Rattle.std.proofs.Math.Bridge.{le_prop}
use Rattle.std.proofs.Math.Logic.{∥∥₁_elim}
use Rattle.contents.specs.Content.{Content}
use Rattle.contents.specs.Accesses.{page_of_place}
use Rattle.contents.specs.Conditions.{HasNoStore}
use Rattle.contents.specs.Regions.{begin_of}
use Rattle.contents.specs.Whole.{IsWhole, CallsKeepWhole}
use Rattle.stores.specs.Known.{StandsFor, Any}
use Rattle.stores.proofs.Keeping.{stands-weaker, stands-after}
use Rattle.elf_loader.specs.declared.image.Segment.{Segment}
use Rattle.elf_loader.specs.declared.image.Reloc.{Reloc}
use Rattle.elf_loader.specs.declared.image.Image.{Image}
use Rattle.elf_loader.specs.Numbers.{process_region}
use Rattle.elf_loader.specs.Start.{with_segments}
use Rattle.elf_loader.specs.Adding.{page_total, HasRoom, HasOwnPlaces}
use Rattle.elf_loader.proofs.ImageParts.{HasParts, has-parts}
use Rattle.elf_loader.proofs.RoomForPages.{room-begun}
use Rattle.elf_loader.proofs.SegmentPages.{on-page-there}
use Rattle.elf_loader.proofs.OwnPages.{placed-owned}
use Rattle.elf_loader.proofs.StepsInRow.{keeps-itself, keeps-but-one, stands-where}
use Rattle.elf_loader.proofs.starts.start.Goals as goal
use Rattle.elf_loader.proofs.starts.start.Goals.{After-list}
use Rattle.elf_loader.proofs.starts.start.Given.{Over}

-- each relocation of an image stands on a page that is the process's own, where the segments' pages were added
own-places : CallsKeepWhole → (file : List ℕ) (image : Image) → HasParts file image → (segments : List Segment) (relocs : List Reloc)
    → segments ≡ image.segments → relocs ≡ image.relocs → (c : Content) → IsWhole c → HasRoom 0 (page_total segments) c → HasOwnPlaces relocs (with_segments file c segments)
own-places keep file image parts segments relocs same others c whole room = rw (same, others) own
  where
    own : HasOwnPlaces image.relocs (with_segments file c image.segments)
    own k d below =
        (placed-owned keep file (length file) image.segments c whole parts.placed (rw same at room)).own (page_of_place (get_or image.relocs k d).place)
        (on-page-there file image.segments c (length file) 0 (get_or image.relocs k d).place room.store parts.placed (parts.on_pages k d below))

-- each content that the space stands for has room for the segments after the begin
room-begun-for : (g : Over) (c : After-list g) (d : Content) → g.S.Stores.stands_for c.args.space.now d → HasRoom 0 (page_total c.list.result.now) (begin_of d process_region)
room-begun-for g c d stands =
    let pages = ap page_total c.list.ensures ∙ (has-parts c.images_are_sound.ensures c.args.bytes.now c.args.image.now c.requires.read).pages in
    let frames = c.size.ensures d stands in
    let taken = c.used.ensures d stands in
    let within = (g.met.S.Stores.is_whole c.args.space.now d stands).used in
    room-begun d (page_total c.list.result.now) (omega arith)

-- it stands for some content, since it stands for one in which the region has no store
pub size-requires : goal.size-requires
size-requires g c = stands-weaker g.S.Stores.stands_for c.args.space.now (HasNoStore process_region) Any (λ _ _. tt) c.requires.none

pub used-requires : goal.used-requires
used-requires g c = stands-weaker g.S.Stores.stands_for c.args.space.now (HasNoStore process_region) Any (λ _ _. tt) c.requires.none

pub overflow_sub-size : goal.overflow_sub-size
overflow_sub-size g c = ∥∥₁_elim c.requires.none le_prop (λ (known : StandsFor g.S.Stores.stands_for c.args.space.now (HasNoStore process_region)).
    let frames = c.size.ensures known.content known.stands in
    let taken = c.used.ensures known.content known.stands in
    let within = (g.met.S.Stores.is_whole c.args.space.now known.content known.stands).used in
    omega arith)

pub returns-then-size-used-clause-keeps : goal.returns-then-size-used-clause-keeps
returns-then-size-used-clause-keeps g c =
    let s = c.args.space.now in
    keeps-but-one g.S.Stores.stands_for process_region s s (keeps-itself g.S.Stores.stands_for s (HasNoStore process_region) c.requires.none)

pub add_segments-requires-clause-placed : goal.add_segments-requires-clause-placed
add_segments-requires-clause-placed g c = rw c.list.ensures (has-parts c.images_are_sound.ensures c.args.bytes.now c.args.image.now c.requires.read).placed

pub add_segments-requires-clause-room : goal.add_segments-requires-clause-room
add_segments-requires-clause-room g c =
    stands-after g.S.Stores.stands_for c.args.space.now c.begin.new.self (λ d. begin_of d process_region) c.begin.ensures.after (HasNoStore process_region) (HasRoom 0 (page_total c.list.result.now))
    (λ d stands _. room-begun-for g c d stands) c.requires.none

pub seed_relocs-requires-clause-placeable : goal.seed_relocs-requires-clause-placeable
seed_relocs-requires-clause-placeable g c = rw c.list-2.ensures (has-parts c.images_are_sound.ensures c.args.bytes.now c.args.image.now c.requires.read).placeable

pub seed_relocs-requires-clause-own : goal.seed_relocs-requires-clause-own
seed_relocs-requires-clause-own g c =
    let file = c.args.bytes.now in
    let image = c.args.image.now in
    let parts = has-parts c.images_are_sound.ensures file image c.requires.read in
    let segments = c.list.result.now in
    let relocs = c.list-2.result.now in
    let mid = c.begin.new.self in
    stands-where g.S.Stores.stands_for mid c.add_segments.new.space (HasRoom 0 (page_total segments)) (HasOwnPlaces relocs) (λ d. with_segments file d segments) c.add_segments.ensures.after
    (λ d stands room. own-places c.calls_keep_whole.ensures file image parts segments relocs c.list.ensures c.list-2.ensures d (g.met.S.Stores.is_whole mid d stands) room)
    (add_segments-requires-clause-room g (goal.at.seed_relocs-requires-clause-own g c).After-list)

pub start_pcc-requires : goal.start_pcc-requires
start_pcc-requires g c = (has-parts c.images_are_sound.ensures c.args.bytes.now c.args.image.now c.requires.read).entry

pub returns-clause-started : goal.returns-clause-started
returns-clause-started g c d stands =
    let frames = c.size.ensures d stands in
    let taken = c.used.ensures d stands in
    let room = room-begun-for g (goal.at.returns-clause-started g c).After-list d stands in
    let begun = begin_of d process_region in
    let filled = with_segments c.args.bytes.now begun c.list.result.now in
    let added = c.add_segments.ensures.after begun (c.begin.ensures.after d stands) room in (
      omega arith,
      rw (c.start_registers.ensures, c.start_pcc.ensures) refl,
      rw (← c.list.ensures, ← c.list-2.ensures) (c.seed_relocs.ensures.after filled added),
    )
