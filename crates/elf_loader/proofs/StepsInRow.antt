-- What several calls in a row keep: for any space.
use Rattle.std.proofs.Common.{◌∙◌, ℕ}
use Rattle.std.proofs.Math.Logic.{∥∥₁_map}
use Rattle.contents.specs.Content.{Content}
use Rattle.stores.specs.Known.{Translations, StandsFor, Any, KeepsStores, KeepsOtherStores, OtherFramesStay}
use Rattle.stores.proofs.Keeping.{stands-weaker}

-- where nothing is called all stays
pub keeps-itself : {S : Type 0} (stands_for : S → Content → Type 0) (s : S) (P : Content → Type 0) → ∥ StandsFor stands_for s P ∥₁ → KeepsStores stands_for s s
keeps-itself stands_for s P known = record { some = stands-weaker stands_for s P Any (λ _ _. tt) known; with_store = λ r has. has; without_store = λ r none. none }

-- a call that keeps the stores of all regions keeps those of all but one
pub keeps-but-one : {S : Type 0} (stands_for : S → Content → Type 0) (region : ℕ) (old new : S) → KeepsStores stands_for old new → KeepsOtherStores stands_for region old new
keeps-but-one stands_for region old new kept = record { some = kept.some; with_store = λ r _. kept.with_store r; without_store = λ r _. kept.without_store r }

-- the stores after two calls in a row
pub keeps-both : {S : Type 0} (stands_for : S → Content → Type 0) (old mid new : S) → KeepsStores stands_for old mid → KeepsStores stands_for mid new → KeepsStores stands_for old new
keeps-both stands_for old mid new first second = record {
  some = second.some;
  with_store = λ r has. second.with_store r (first.with_store r has);
  without_store = λ r none. second.without_store r (first.without_store r none);
}

-- the frames of the other regions after two calls in a row
pub frames-both : (old mid new : Translations) (region : ℕ) → OtherFramesStay old mid region → OtherFramesStay mid new region → OtherFramesStay old new region
frames-both old mid new region first second r p other = second r p other ∙ first r p other

-- A space has a property afterwards that a call gives to each content with another property.
pub stands-where : {S : Type 0} (stands_for : S → Content → Type 0) (old new : S) (P Q : Content → Type 0) (step : Content → Content)
    → ((c : Content) → stands_for old c → P c → stands_for new (step c)) → ((c : Content) → stands_for old c → P c → Q (step c)) → ∥ StandsFor stands_for old P ∥₁ → ∥ StandsFor stands_for new Q ∥₁
stands-where stands_for old new P Q step after gives known = ∥∥₁_map known (λ (known : StandsFor stands_for old P). record {
  content = step known.content;
  stands = after known.content known.stands known.holds;
  holds = gives known.content known.stands known.holds;
})
