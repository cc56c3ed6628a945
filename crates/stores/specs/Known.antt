-- What is known of the content that a space stands for, and what a call keeps.
use Rattle.std.specs.Prelude.{ℕ, ◌≡◌, ◌≢◌, Option, List, All}
use Rattle.std.specs.Option.{option_map}
use Rattle.machine_types.specs.declared.touches.Note.{Note}
use Rattle.contents.specs.Content.{Content}
use Rattle.contents.specs.Looks.{Standing}
use Rattle.contents.specs.Conditions.{HasStore, HasNoStore}
use Rattle.contents.specs.Standing.{IsElsewhere}
use Rattle.stores.specs.declared.space.Translation.{Translation}

-- it stands for some content with this property
pub record StandsFor {S : Type 0} (stands_for : S → Content → Type 0) (s : S) (P : Content → Type 0) : Type 0 where
  pub content : Content
  pub stands : stands_for s content
  pub holds : P content

-- any content
abbrev pub Any : Content → Type 0
Any c = Unit {0}

-- It stands for some content still, and the regions with a store and those without one are the same.
pub record KeepsStores {S : Type 0} (stands_for : S → Content → Type 0) (old new : S) : Type 0 where
  pub some : ∥ StandsFor stands_for new Any ∥₁
  pub with_store : (r : ℕ) → ∥ StandsFor stands_for old (HasStore r) ∥₁ → ∥ StandsFor stands_for new (HasStore r) ∥₁
  pub without_store : (r : ℕ) → ∥ StandsFor stands_for old (HasNoStore r) ∥₁ → ∥ StandsFor stands_for new (HasNoStore r) ∥₁

-- the same of all regions but one
pub record KeepsOtherStores {S : Type 0} (stands_for : S → Content → Type 0) (region : ℕ) (old new : S) : Type 0 where
  pub some : ∥ StandsFor stands_for new Any ∥₁
  pub with_store : (r : ℕ) → r ≢ region → ∥ StandsFor stands_for old (HasStore r) ∥₁ → ∥ StandsFor stands_for new (HasStore r) ∥₁
  pub without_store : (r : ℕ) → r ≢ region → ∥ StandsFor stands_for old (HasNoStore r) ∥₁ → ∥ StandsFor stands_for new (HasNoStore r) ∥₁

-- the translation of each page of each region, if it has one
abbrev pub Translations : Type 0
Translations = ℕ → ℕ → Option Translation

-- what a translation says of a page beside its frame
abbrev pub standing : Translation → Standing
standing t = record { rights = t.rights; home = t.home; alone = t.alone }

-- the frame of a translation
abbrev pub translated_frame : Option Translation → Option ℕ
translated_frame = option_map (λ t. t.frame.0)

-- the page has the frame that it had
abbrev pub FrameStays : Translations → Translations → ℕ → ℕ → Type 0
FrameStays old new r p = translated_frame (new r p) ≡ translated_frame (old r p)

-- each page has
abbrev pub FramesStay : Translations → Translations → Type 0
FramesStay old new = (r p : ℕ) → FrameStays old new r p

-- each page of another region
abbrev pub OtherFramesStay : Translations → Translations → ℕ → Type 0
OtherFramesStay old new region = (r p : ℕ) → r ≢ region → FrameStays old new r p

-- each page but those of the region that were touched
abbrev pub FramesStayBut : Translations → Translations → ℕ → List Note → Type 0
FramesStayBut old new region notes = (r p : ℕ) → All (IsElsewhere r p region) notes → FrameStays old new r p
