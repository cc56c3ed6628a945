-- Items that are read one after another.
use Rattle.std.proofs.Common.{◌≡◌, ◌∙◌, refl, Bool, true, false, List, [], ◌∷◌, ◌++◌, Option, Some, None, Result, Ok, Err, append_assoc}
use Rattle.std.specs.Prelude.{IfOk}
use Rattle.asm_text.specs.declared.listing.Item.{Item}
use Rattle.asm_text.specs.Source.{before}
use Rattle.asm_text.specs.Cursors.{HasRead}

-- what is read from here on makes what is read from the beginning
abbrev pub ReadsOn : Option (List Item) → List Item → Option (List Item) → List Item → Type 0
ReadsOn rest now found old = (new : List Item) (is : Bool) → HasRead rest now new is → HasRead found old new is

-- nothing was found, whatever the items are
pub read-none : (found : Option (List Item)) (old new : List Item) → found ≡ None → HasRead found old new false
read-none None old new none = record { is_are = refl; items = tt }
read-none (Some items) old new none = cc

-- these items were found and put behind others
pub read-some : (found : Option (List Item)) (items old new : List Item) → found ≡ Some items → new ≡ old ++ items → HasRead found old new true
read-some None items old new some put = cc
read-some (Some others) items old new some put = let same : others ≡ items = cc in record { is_are = refl; items = rw same put }

-- an item was put behind others, and what is read behind it makes what it begins
pub read-behind : (found rest : Option (List Item)) (first : Item) (old now : List Item) → found ≡ before first rest → now ≡ old ++ first ∷ [] → ReadsOn rest now found old
read-behind None None first old now starts put = λ new is read. record { is_are = read.is_are; items = tt }
read-behind None (Some items) first old now starts put = cc
read-behind (Some others) None first old now starts put = cc
read-behind (Some others) (Some items) first old now starts put = λ new is read.
    let same : others ≡ first ∷ items = cc in
    record { is_are = read.is_are; items = rw same (read.items ∙ rw put (append_assoc old (first ∷ []) items)) }

-- a call that reads what is left reads the whole
pub all-read : {E : Type 0} (result : Result Bool E) (here there found : Option (List Item)) (old now new : List Item) → there ≡ here → ReadsOn there now found old
    → IfOk result (λ is. HasRead here now new is) → IfOk result (λ is. HasRead found old new is)
all-read (Ok is) here there found old now new same on read = on new is (rw same read)
all-read (Err error) here there found old now new same on read = tt
