-- What a space stands for after a call, known without a witness: for any space.
use Rattle.std.proofs.Common.{◌≡◌, ◌≢◌, ℕ, Option, Some, None, refl, ap}
use Rattle.std.specs.Prelude.{is_some, IsSome}
use Rattle.std.proofs.lemmas.Bool.{false≢true}
use Rattle.std.proofs.Math.Logic.{∥∥₁_map}
use Rattle.contents.specs.Content.{Content}
use Rattle.stores.specs.Known.{StandsFor, Any, KeepsStores, KeepsOtherStores}
use Rattle.contents.specs.Conditions.{HasStore, HasNoStore}
use Rattle.contents.specs.Laws.{HasSameRegions}

-- where one is there exactly if the other is
still-some : {A B : Type 0} (o : Option A) (p : Option B) → is_some p ≡ is_some o → IsSome o → IsSome p
still-some None p same there = absurd (false≢true there)
still-some (Some x) None same there = absurd (cc)
still-some (Some x) (Some y) same there = refl

still-none : {A B : Type 0} (o : Option A) (p : Option B) → is_some p ≡ is_some o → o ≡ None → p ≡ None
still-none o None same absent = refl
still-none None (Some y) same absent = absurd (cc)
still-none (Some x) (Some y) same absent = absurd (cc)

-- a space that stands for a content with a property stands for one with a weaker one
pub stands-weaker : {S : Type 0} (stands_for : S → Content → Type 0) (s : S) (P Q : Content → Type 0) → ((c : Content) → P c → Q c) → ∥ StandsFor stands_for s P ∥₁ → ∥ StandsFor stands_for s Q ∥₁
stands-weaker stands_for s P Q weaker known = ∥∥₁_map known (λ (known : StandsFor stands_for s P). record {
  content = known.content;
  stands = known.stands;
  holds = weaker known.content known.holds;
})

-- A call that makes this step of each content that the space stood for.
module _ {S : Type 0} (stands_for : S → Content → Type 0) (old new : S) (step : Content → Content) (after : (c : Content) → stands_for old c → stands_for new (step c)) where
  -- the space has a property afterwards that each step gives
  pub stands-after : (P Q : Content → Type 0) → ((c : Content) → stands_for old c → P c → Q (step c)) → ∥ StandsFor stands_for old P ∥₁ → ∥ StandsFor stands_for new Q ∥₁
  stands-after P Q gives known = ∥∥₁_map known (λ (known : StandsFor stands_for old P). record {
    content = step known.content;
    stands = after known.content known.stands;
    holds = gives known.content known.stands known.holds;
  })

  -- a step that leaves which regions have a store
  pub keeps-stores : (P : Content → Type 0) → ((c : Content) → stands_for old c → HasSameRegions c (step c)) → ∥ StandsFor stands_for old P ∥₁ → KeepsStores stands_for old new
  keeps-stores P same known = record {
    some = stands-after P Any (λ c stands _. tt) known;
    with_store = λ r. stands-after (HasStore r) (HasStore r) (λ c stands. still-some (c.stores r) ((step c).stores r) (same c stands r));
    without_store = λ r. stands-after (HasNoStore r) (HasNoStore r) (λ c stands. still-none (c.stores r) ((step c).stores r) (same c stands r));
  }

  -- a step that leaves the stores of the other regions
  pub keeps-others : (P : Content → Type 0) (region : ℕ) → ((c : Content) → stands_for old c → (r : ℕ) → r ≢ region → (step c).stores r ≡ c.stores r) → ∥ StandsFor stands_for old P ∥₁ → KeepsOtherStores stands_for region old new
  keeps-others P region stay known = record {
    some = stands-after P Any (λ c stands _. tt) known;
    with_store = λ r other. stands-after (HasStore r) (HasStore r) (λ c stands. still-some (c.stores r) ((step c).stores r) (ap is_some (stay c stands r other)));
    without_store = λ r other. stands-after (HasNoStore r) (HasNoStore r) (λ c stands. still-none (c.stores r) ((step c).stores r) (ap is_some (stay c stands r other)));
  }
