-- What a space of whole copies shows of its pages.
use Rattle.std.proofs.Common.{◌≡◌, ◌∙◌, ℕ, refl, ap}
use Rattle.std.specs.Option.{option_map}
use Rattle.machine_types.specs.Granules.{granule}
use Rattle.machine_types.specs.Stores.{Page}
use Rattle.tagged_memory.specs.Frames.{frame}
use Rattle.page_table.specs.declared.table.Entry.{Entry}
use Rattle.contents.specs.Content.{Content}
use Rattle.contents.specs.Looks.{rights_of, peek_of}
use Rattle.contents.proofs.Options.{option_map-option_map}
use Rattle.full_space.specs.declared.space.FullSpace.{FullSpace}
use Rattle.full_space.specs.Full.{FullStands}
use Rattle.full_space.proofs.OwnPages.{page_of_entry, page-is}

-- the rights of a page are those of its entry
pub rights-is : (space : FullSpace) (c : Content) (region page : ℕ) → FullStands space c → rights_of c region page ≡ option_map (λ e. e.rights) (space.board.table.entries region page)
unfolding rights_of
rights-is space c region page stands =
    ap (option_map (λ (p : Page). p.rights)) (page-is space.board c space.own stands.board region page)
    ∙ option_map-option_map (λ (p : Page). p.rights) (page_of_entry space.board.memory) (λ (e : Entry). e.rights) (λ e. refl) (space.board.table.entries region page)

-- its granules are those of the frame
pub peek-is : (space : FullSpace) (c : Content) (region page g : ℕ) → FullStands space c
    → peek_of c region page g ≡ option_map (λ e. granule (frame space.board.memory e.frame.0) g) (space.board.table.entries region page)
unfolding peek_of
peek-is space c region page g stands =
    ap (option_map (λ (p : Page). granule p.granules g)) (page-is space.board c space.own stands.board region page)
    ∙ option_map-option_map (λ (p : Page). granule p.granules g) (page_of_entry space.board.memory) (λ (e : Entry). granule (frame space.board.memory e.frame.0) g) (λ e. refl) (space.board.table.entries region page)
