-- What the translations of a space of whole copies show of pages and of frames.
use Rattle.std.proofs.Common.{◌≡◌, ◌∙◌, ℕ, Option, Some, None, refl, sym, ap}
use Rattle.std.specs.Option.{option_map}
use Rattle.std.proofs.lemmas.Option.{same_Some}
use Rattle.machine_types.specs.declared.touches.FrameNo.{FrameNo}
use Rattle.machine_types.specs.Stores.{Page}
use Rattle.tagged_memory.specs.Frames.{frame}
use Rattle.frame_owners.specs.Homes.{Owner, owner}
use Rattle.page_table.specs.declared.table.Entry.{Entry}
use Rattle.contents.specs.Content.{Content, page_at}
use Rattle.contents.specs.Looks.{rights_of}
use Rattle.contents.proofs.Options.{option_map-option_map}
use Rattle.stores.specs.declared.space.Translation.{Translation}
use Rattle.stores.specs.Boards.{frame_in}
use Rattle.stores.specs.Laws.{BoardsShowPages}
use Rattle.full_space.specs.declared.space.FullSpace.{FullSpace}
use Rattle.full_space.specs.Full.{FullStands, full_translations, frames_of}
use Rattle.full_space.specs.Steps.{translation_of}
use Rattle.full_space.proofs.OwnPages.{page_of_entry, page-is}
use Rattle.full_space.proofs.Looking.{rights-is}

-- the entry of a translation has its frame
record HasEntryOf (o : Option Entry) (t : Translation) : Type 0 where
  entry : Entry
  there : o ≡ Some entry
  frame : entry.frame ≡ t.frame

entry-shown : (o : Option Entry) (t : Translation) → option_map translation_of o ≡ Some t → HasEntryOf o t
entry-shown None t shown = absurd (cc)
entry-shown (Some e) t shown = record { entry = e; there = refl; frame = ap (λ (t : Translation). t.frame) (same_Some (translation_of e) t shown) }

-- a translation has the rights of its page, and is there exactly where the page is
pub rights-shown : (space : FullSpace) (c : Content) (region page : ℕ) → FullStands space c → option_map (λ t. t.rights) (full_translations space region page) ≡ rights_of c region page
rights-shown space c region page stands =
    option_map-option_map (λ (t : Translation). t.rights) translation_of (λ (e : Entry). e.rights) (λ e. refl) (space.board.table.entries region page)
    ∙ sym (rights-is space c region page stands)

-- its frame holds the page's granules
pub frames-shown : (space : FullSpace) (c : Content) (region page : ℕ) (t : Translation) (p : Page) → FullStands space c → full_translations space region page ≡ Some t → page_at c region page ≡ Some p
    → p.granules ≡ frame (frames_of space) t.frame.0
frames-shown space c region page t p stands shown there =
    let found = entry-shown (space.board.table.entries region page) t shown in
    let page_of = page_of_entry space.board.memory in
    let is = page-is space.board c space.own stands.board region page ∙ ap (option_map page_of) found.there in
    ap (λ (p : Page). p.granules) (same_Some p (page_of found.entry) (sym there ∙ is)) ∙ ap (λ (f : FrameNo). frame (frames_of space) f.0) found.frame

-- and no other page has it
pub frames-apart : BoardsShowPages → (space : FullSpace) (c : Content) (r p s q : ℕ) (one two : Translation) → FullStands space c → full_translations space r p ≡ Some one → full_translations space s q ≡ Some two
    → one.frame ≡ two.frame → (r ≡ s) × (p ≡ q)
frames-apart law space c r p s q one two stands here there alike = (home, number)
  where
    first : HasEntryOf (space.board.table.entries r p) one
    first = entry-shown (space.board.table.entries r p) one here

    second : HasEntryOf (space.board.table.entries s q) two
    second = entry-shown (space.board.table.entries s q) two there

    same : first.entry.frame ≡ second.entry.frame
    same = first.frame ∙ alike ∙ sym second.frame

    home : r ≡ s
    home = ap (λ (o : Owner). o.home) (sym (space.own r p first.entry first.there) ∙ ap (λ (f : FrameNo). owner space.board.owners f.0) same ∙ space.own s q second.entry second.there)

    number : p ≡ q
    number = law.number space.board c r p s q second.entry.frame.0 stands.board (ap frame_in first.there ∙ ap (λ (f : FrameNo). Some f.0) same) (ap frame_in second.there)
