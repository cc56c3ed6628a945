-- The file of a source without a fault is an image.
use Rattle.std.proofs.Common.{◌≡◌, refl, ℕ, Option, Some, None, Ok, List}
use Rattle.asm_text.specs.declared.source.SourceFault.{SourceFault}
use Rattle.asm_text.specs.declared.listing.Item.{Item}
use Rattle.asm_text.specs.Ranges.{SourcesHaveRanges}
use Rattle.asm_image.specs.Program.{file_of}
use Rattle.asm_image.specs.Assembled.{program_of, fault_of, file_or, assembled}
use Rattle.asm_image.specs.Laws.{FilesAreImages, SourcesArePrograms, SourcesAreImages}
use Rattle.asm_image.proofs.ListingPrograms.{listings-are-programs}

-- where a file is found, there is no fault, and the file is the one that was made
pub record IsFileOf (fault : Option SourceFault) (made file : List ℕ) : Type 0 where
  pub none : fault ≡ None
  pub same : file ≡ made

file-found : (fault : Option SourceFault) (made file : List ℕ) → file_or fault made ≡ Ok file → IsFileOf fault made file
file-found None made file is = record { none = refl; same = cc }
file-found (Some fault) made file is = absurd (cc)

-- A listing is assembled to the file of its program, where it has no fault.
pub assembled-file : (text : List ℕ) (items : List Item) (file : List ℕ) → assembled text items ≡ Ok file → IsFileOf (fault_of text items) (file_of (program_of text items)) file
unfolding assembled
assembled-file text items file is = file-found (fault_of text items) (file_of (program_of text items)) file is

-- A source without a fault comes to a program.
pub sources-are-programs : SourcesHaveRanges → SourcesArePrograms
sources-are-programs ranges text items is none = listings-are-programs text items (ranges text items is) none

-- The file to which a source is assembled is an image.
pub sources-are-images : FilesAreImages → SourcesHaveRanges → SourcesAreImages
sources-are-images images ranges text items file is made =
    let found = assembled-file text items file made in
    rw found.same (images (program_of text items) (sources-are-programs ranges text items is found.none))
