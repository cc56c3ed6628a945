-- Which stores a step leaves.
use Rattle.std.proofs.Common.{◌≡◌, ◌≢◌, ◌⊎◌, inl, inr, ℕ, refl, ◌∙◌, cond, true, false, nat_eq}
use Rattle.std.specs.Option.{option_map}
use Rattle.std.proofs.lemmas.Bool.Decides.{eqb_tells}
use Rattle.machine_types.specs.Stores.{changed}
use Rattle.contents.specs.Content.{Content}
use Rattle.contents.specs.Laws.{OthersStay}
use Rattle.contents.proofs.CallShapes.{HoldsOfTouches, HoldsOfSteps}

-- every store is as it was
abbrev pub AllStay : Content → Content → Type 0
AllStay before after = after.stores ≡ before.stores

-- a touch leaves every store
pub all-touches : (region : ℕ) → HoldsOfTouches region AllStay
all-touches region = record {
  stays = λ c. refl;
  joins = λ a b c h k. k ∙ h;
  touch = λ c access page tagged note e. refl;
}

-- a function changed at one number has its other values still
pub changed-elsewhere : {A : Type 0} (f : ℕ → A) (at n : ℕ) (value : A) → n ≢ at → changed f at value n ≡ f n
changed-elsewhere f at n value other = by (eqb_tells n at)
  where
    by : ((nat_eq n at ≡ true) × (n ≡ at)) ⊎ ((nat_eq n at ≡ false) × (n ≢ at)) → cond (nat_eq n at) value (f n) ≡ f n
    by (inl (test, same)) = absurd (other same)
    by (inr (test, _)) = rw test refl

-- and at that number the new one
pub changed-there : {A : Type 0} (f : ℕ → A) (at : ℕ) (value : A) → changed f at value at ≡ value
changed-there f at value = by (eqb_tells at at)
  where
    by : ((nat_eq at at ≡ true) × (at ≡ at)) ⊎ ((nat_eq at at ≡ false) × (at ≢ at)) → cond (nat_eq at at) value (f at) ≡ value
    by (inl (test, _)) = rw test refl
    by (inr (_, other)) = absurd (other refl)

-- a step on a region leaves the stores of the others
pub other-steps : (region : ℕ) → HoldsOfSteps region (OthersStay region)
other-steps region = record {
  stores = record {
    touches = record {
      stays = λ c r other. refl;
      joins = λ a b c h k r other. k r other ∙ h r other;
      touch = λ c access page tagged note e r other. refl;
    };
    change = λ c change r other. changed-elsewhere c.stores region r (option_map change (c.stores region)) other;
  };
  store = λ c store r other. changed-elsewhere c.stores region r store other;
  end = λ c r other. refl;
  add = λ c page e r other. refl;
  fork = λ c from pages account e r other. refl;
}
