-- Words on lists.
use Rattle.std.specs.Prelude.{ℕ, ◌≡◌, ◌+◌, ◌⊎◌, Bool, if◌then◌else◌, List, [], ◌∷◌}

-- how many elements pass a test
abbrev pub count_of : {A : Type 0} → (A → Bool) → List A → ℕ
count_of passes [] = 0
count_of passes (x ∷ xs) = if passes x then 1 + count_of passes xs else count_of passes xs

-- it is an element
abbrev pub IsIn : ℕ → List ℕ → Type 0
IsIn n [] = ⊥
IsIn n (x ∷ xs) = (x ≡ n) ⊎ IsIn n xs

-- no two elements are equal
abbrev pub AreDistinct : List ℕ → Type 0
AreDistinct [] = Unit {0}
AreDistinct (x ∷ xs) = (IsIn x xs → ⊥) × AreDistinct xs
