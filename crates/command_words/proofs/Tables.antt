-- Tables of options: what is found in them, also once one is taken out.
use Rattle.std.proofs.Common.{◌≡◌, ◌∙◌, sym, ap, refl, subst, true, false, cond, List, [], ◌∷◌, Some, None, inl, inr}
use Rattle.std.specs.Prelude.{bytes_eq}
use Rattle.std.proofs.lemmas.Bool.{cases_Bool, false≢true}
use Rattle.std.proofs.lemmas.Slice.Eq.{bytes_eq-Decides}
use Rattle.command_words.specs.Grammar.{Word, OptionRow, is_file_name, option_named, options_but}

-- what is known of an option: its name is no file name, its values are, and there is one
pub record IsRow (row : OptionRow) : Type 0 where
  pub name : is_file_name row.name ≡ false
  pub values : (value : Word) → row.value value ≡ true → is_file_name value ≡ true
  pub some : (value : Word) × (row.value value ≡ true)

-- it is known of all options of a table
abbrev pub AreRows : List OptionRow → Type 0
AreRows [] = Unit {0}
AreRows (row ∷ rows) = IsRow row × AreRows rows

-- texts that are equal by the test are equal
pub same-text : (a b : Word) → bytes_eq a b ≡ true → a ≡ b
same-text a b same = (bytes_eq-Decides a b).0 same

-- a text equals itself
pub text-itself : (a : Word) → bytes_eq a a ≡ true
text-itself a = (bytes_eq-Decides a a).1 refl

-- a file name is no name that isn't one
pub other-text : (a b : Word) → is_file_name a ≡ true → is_file_name b ≡ false → bytes_eq a b ≡ false
other-text a b file other = elim (cases_Bool (bytes_eq a b)) [
  | inl same ↦ absurd (false≢true (sym other ∙ ap is_file_name (sym (same-text a b same)) ∙ file))
  | inr differs ↦ differs
]

-- an option that is found by a name has that name, and is known as one
pub found-row : (rows : List OptionRow) (word : Word) (row : OptionRow) → AreRows rows → option_named rows word ≡ Some row → IsRow row × (row.name ≡ word)
found-row [] word row known found = cc
found-row (first ∷ rows) word row known found = elim (cases_Bool (bytes_eq first.name word)) [
  | inl same ↦
      let is-some : Some first ≡ Some row = rw same at found in
      let is : first ≡ row = cc in
      (subst IsRow is known.0, subst (λ (r : OptionRow). r.name ≡ word) is (same-text first.name word same))
  | inr differs ↦ let behind : option_named rows word ≡ Some row = rw differs at found in found-row rows word row known.1 behind
]

-- what is known of all options is known of those that are left
pub rows-but : (rows : List OptionRow) (word : Word) → AreRows rows → AreRows (options_but rows word)
rows-but [] word known = known
rows-but (first ∷ rows) word known = elim (cases_Bool (bytes_eq first.name word)) [
  | inl same ↦ rw same (rows-but rows word known.1)
  | inr differs ↦ rw differs (known.0, rows-but rows word known.1)
]

-- texts that aren't equal stay so where one is replaced by an equal one
other-alike : (a b c : Word) → a ≡ b → bytes_eq b c ≡ false → bytes_eq a c ≡ false
other-alike a b c same other = ap (λ x. bytes_eq x c) same ∙ other

-- once an option is taken out it is found no more, and the others are as before
pub found-but : (rows : List OptionRow) (gone word : Word) → option_named (options_but rows gone) word ≡ cond (bytes_eq gone word) None (option_named rows word)
found-but [] gone word = elim (cases_Bool (bytes_eq gone word)) [ inl same ↦ rw same refl | inr differs ↦ rw differs refl ]
found-but (first ∷ rows) gone word = elim (cases_Bool (bytes_eq first.name gone)) [
  | inl is-gone ↦ elim (cases_Bool (bytes_eq gone word)) [
    | inl same ↦ rw (is-gone, found-but rows gone word, same) refl
    | inr differs ↦
        let other = other-alike first.name gone word (same-text first.name gone is-gone) differs in
        rw (is-gone, found-but rows gone word, differs, other) refl
  ]
  | inr stays ↦ elim (cases_Bool (bytes_eq first.name word)) [
    | inl same ↦
        let other : bytes_eq gone word ≡ false = differs-from gone word (same-text first.name word same) stays in
        rw (stays, same, other) refl
    | inr differs ↦ rw (stays, differs) (found-but rows gone word)
  ]
]
  where
    differs-from : (gone word : Word) → first.name ≡ word → bytes_eq first.name gone ≡ false → bytes_eq gone word ≡ false
    differs-from gone word same stays = elim (cases_Bool (bytes_eq gone word)) [
      | inl equal ↦ absurd (false≢true (sym stays ∙ ap (λ x. bytes_eq first.name x) (same-text gone word equal ∙ sym same) ∙ text-itself first.name))
      | inr other ↦ other
    ]

-- an option that is taken out is found no more
pub taken : (options : List OptionRow) (word name : Word) → bytes_eq word name ≡ true → option_named (options_but options word) name ≡ None
taken options word name same = rw (found-but options word name, same) refl
