-- What is known of the board of a space that stands for some content.
use Rattle.std.proofs.Common.{◌≡◌, ◌∙◌, ℕ, ◌<◌, ◌≤◌, Bool, true, false, cond, Some, length, refl, ap, sym, arith}
use Rattle.std.specs.Prelude.{is_some, slice_index_or}
use Rattle.std.proofs.Math.Logic.{∥∥₁_elim, ∥∥₁_map}
use Rattle.std.proofs.Math.Bool.{Bool-set}
use Rattle.page_table.specs.declared.table.Entry.{Entry}
use Rattle.machine_types.specs.Accounts.{has_member}
use Rattle.contents.specs.Content.{Content, page_at}
use Rattle.contents.specs.Conditions.{HasStore, HasNoStore, LacksPage, IsOwn}
use Rattle.contents.proofs.ListCounts.{count-found}
use Rattle.stores.specs.Known.{StandsFor}
use Rattle.stores.specs.Boards.{Stands}
use Rattle.stores.proofs.BoardPages.{entry-there}
use Rattle.stores.proofs.WholeContents.{stands-whole}
use Rattle.stores.proofs.Keeping.{stands-weaker}
use Rattle.full_space.specs.declared.space.FullSpace.{FullSpace}
use Rattle.full_space.specs.Full.{FullStands}
use Rattle.full_space.proofs.OwnFrames.{entry-memory}

-- its board stands for the content
pub board-stands : (space : FullSpace) (P : Content → Type 0) → ∥ StandsFor FullStands space P ∥₁ → ∥ StandsFor Stands space.board P ∥₁
board-stands space P known = ∥∥₁_map known (λ (known : StandsFor FullStands space P). record { content = known.content; stands = known.stands.board; holds = known.holds })

-- the frame of an entry is in memory
pub frame-there : (space : FullSpace) (region page : ℕ) (e : Entry) {P : Content → Type 0} → space.board.table.entries region page ≡ Some e → ∥ StandsFor FullStands space P ∥₁ → e.frame.0 < length space.board.memory
frame-there space region page e {P} there known = entry-memory space.board P (board-stands space P known) region page e there

-- a region with a store is live
pub live-there : (space : FullSpace) (region : ℕ) → ∥ StandsFor FullStands space (HasStore region) ∥₁ → slice_index_or space.live region false ≡ true
live-there space region known = ∥∥₁_elim known (hlevel Bool-set) (λ (known : StandsFor FullStands space (HasStore region)). sym (known.stands.stores region) ∙ known.holds)

-- one without a store isn't
pub live-none : (space : FullSpace) (region : ℕ) → ∥ StandsFor FullStands space (HasNoStore region) ∥₁ → slice_index_or space.live region false ≡ false
live-none space region known = ∥∥₁_elim known (hlevel Bool-set) (λ (known : StandsFor FullStands space (HasNoStore region)). sym (known.stands.stores region) ∙ ap is_some known.holds)

-- where one at least is counted of what a test counts, the test is true
test-counted : (b : Bool) (count : ℕ) → count ≡ cond b 1 0 → 1 ≤ count → b ≡ true
test-counted true count same least = refl
test-counted false count same least = absurd (omega arith)

-- a page that is alone in its class has an entry
pub own-there : (space : FullSpace) (region page : ℕ) → ∥ StandsFor FullStands space (IsOwn region page) ∥₁ → is_some (space.board.table.entries region page) ≡ true
own-there space region page known = ∥∥₁_elim known (hlevel Bool-set) (λ (known : StandsFor FullStands space (IsOwn region page)).
    let whole = stands-whole space.board known.content known.stands.board in
    entry-there space.board known.content region page known.stands.board
    ∙ test-counted (is_some (page_at known.content region page)) _ (whole.pages region page) (count-found (has_member region page) known.content.account known.holds.class known.holds.there))

-- a region has a store in each content, where it has one in some
pub store-there : (space : FullSpace) (region : ℕ) → ∥ StandsFor FullStands space (HasStore region) ∥₁ → (c : Content) → FullStands space c → HasStore region c
store-there space region known c stands = stands.stores region ∙ live-there space region known

-- a region that lacks a page has a store
pub lacks-store : (space : FullSpace) (region page : ℕ) → ∥ StandsFor FullStands space (LacksPage region page) ∥₁ → ∥ StandsFor FullStands space (HasStore region) ∥₁
lacks-store space region page = stands-weaker FullStands space (LacksPage region page) (HasStore region) (λ c lacks. lacks.store)
