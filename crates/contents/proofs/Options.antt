-- Changes of what an option holds.
use Rattle.std.proofs.Common.{◌≡◌, refl, ap, Option, Some, None}
use Rattle.std.specs.Prelude.{is_some}
use Rattle.std.specs.Option.{option_map}

-- a change leaves whether something is there
pub is_some-option_map : {A B : Type 0} (f : A → B) (o : Option A) → is_some (option_map f o) ≡ is_some o
is_some-option_map f None = refl
is_some-option_map f (Some x) = refl

-- a change after another is one change
pub option_map-option_map : {A B C : Type 0} (g : B → C) (f : A → B) (both : A → C) → ((x : A) → g (f x) ≡ both x) → (o : Option A) → option_map g (option_map f o) ≡ option_map both o
option_map-option_map g f both same None = refl
option_map-option_map g f both same (Some x) = ap Some (same x)
