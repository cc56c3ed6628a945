-- The names of options, and which are left.
use Rattle.std.proofs.Common.{◌≡◌, ◌∙◌, sym, ap, refl, subst, ℕ, zero, suc, ◌<◌, Bool, true, false, cond, List, length, get_or, set, replicate, Option, Some, None, inl, inr, arith}
use Rattle.std.proofs.Common.{get_or-set_same, get_or-set_other}
use Rattle.std.specs.Prelude.{bytes_eq}
use Rattle.std.proofs.lemmas.Bool.{cases_Bool, cases_eq}
use Rattle.command_words.specs.declared.words.OptionName.{OptionName}
use Rattle.command_words.specs.declared.words.OptionName.TheVariants.{Frames, Regions, Slots, Steps, Copy, Schedule}
use Rattle.command_words.specs.Grammar.{Word, OptionRow, frames_name, regions_name, slots_name, steps_name, copy_name, schedule_name, run_options, option_named, options_but}
use Rattle.command_words.specs.Reading.{row_of, place_of, name_of, left_of}
use Rattle.command_words.proofs.Tables.{same-text, text-itself, found-but}

-- a text that isn't a name is no name
pub other-word : (name word : Word) → (word ≡ name → ⊥) → bytes_eq name word ≡ false
other-word name word other = elim (cases_Bool (bytes_eq name word)) [ inl same ↦ absurd (other (sym (same-text name word same))) | inr differs ↦ differs ]

-- a word that is none of the names names no option
pub no-name : (word : Word) → (word ≡ frames_name → ⊥) → (word ≡ regions_name → ⊥) → (word ≡ slots_name → ⊥) → (word ≡ steps_name → ⊥) → (word ≡ copy_name → ⊥) → (word ≡ schedule_name → ⊥)
    → None ≡ name_of word
no-name word frames regions slots steps copy schedule =
    rw (
      other-word frames_name word frames,
      other-word regions_name word regions,
      other-word slots_name word slots,
      other-word steps_name word steps,
      other-word copy_name word copy,
      other-word schedule_name word schedule,
    ) refl

-- one of the names that are tried
named-here : (here : Bool) (this name : OptionName) (behind : Option OptionName) (word : Word) → (here ≡ true → (row_of this).name ≡ word) → (behind ≡ Some name → (row_of name).name ≡ word)
    → cond here (Some this) behind ≡ Some name → (row_of name).name ≡ word
named-here true this name behind word first more is = let same : this ≡ name = cc in subst (λ (x : OptionName). (row_of x).name ≡ word) same (first refl)
named-here false this name behind word first more is = more is

-- a word that names an option is its name
pub known-name : (word : Word) (name : OptionName) → name_of word ≡ Some name → (row_of name).name ≡ word
known-name word name is =
    named-here (bytes_eq frames_name word) Frames name _ word (same-text frames_name word)
    (named-here (bytes_eq regions_name word) Regions name _ word (same-text regions_name word)
    (named-here (bytes_eq slots_name word) Slots name _ word (same-text slots_name word)
    (named-here (bytes_eq steps_name word) Steps name _ word (same-text steps_name word)
    (named-here (bytes_eq copy_name word) Copy name _ word (same-text copy_name word)
    (named-here (bytes_eq schedule_name word) Schedule name None word (same-text schedule_name word) (λ none. cc)))))) is

-- the option at a place
name-at : ℕ → OptionName
name-at zero = Frames
name-at (suc zero) = Regions
name-at (suc (suc zero)) = Slots
name-at (suc (suc (suc zero))) = Steps
name-at (suc (suc (suc (suc zero)))) = Copy
name-at (suc (suc (suc (suc (suc place))))) = Schedule

-- an option is the one at its place
at-place : (name : OptionName) → name-at (place_of name) ≡ name
unfolding name-at
at-place Frames = refl
at-place Regions = refl
at-place Slots = refl
at-place Steps = refl
at-place Copy = refl
at-place Schedule = refl

-- options have places of their own
one-place : (a b : OptionName) → place_of a ≡ place_of b → a ≡ b
one-place a b same = sym (at-place a) ∙ ap name-at same ∙ at-place b

-- the place of each is within the table
pub place-within : (name : OptionName) → place_of name < 6
place-within Frames = omega arith
place-within Regions = omega arith
place-within Slots = omega arith
place-within Steps = omega arith
place-within Copy = omega arith
place-within Schedule = omega arith

-- the row of an option, where there is one
abbrev pub row-named : Option OptionName → Option OptionRow
row-named None = None
row-named (Some name) = Some (row_of name)

-- just the options that weren't used are left
abbrev pub Offers : List Bool → List OptionRow → Type 0
Offers used left = (word : Word) → option_named left word ≡ row-named (left_of used (name_of word))

-- one of the rows that are tried
offered-here : (here : Bool) (used : List Bool) (this : OptionName) (behind : Option OptionName) (found : Option OptionRow) → get_or used (place_of this) false ≡ false
    → found ≡ row-named (left_of used behind) → cond here (Some (row_of this)) found ≡ row-named (left_of used (cond here (Some this) behind))
offered-here true used this behind found unused more = rw unused refl
offered-here false used this behind found unused more = more

-- where none was used all are left
pub offers-all : Offers (replicate 6 false) run_options
offers-all word =
    offered-here (bytes_eq frames_name word) (replicate 6 false) Frames _ _ refl
    (offered-here (bytes_eq regions_name word) (replicate 6 false) Regions _ _ refl
    (offered-here (bytes_eq slots_name word) (replicate 6 false) Slots _ _ refl
    (offered-here (bytes_eq steps_name word) (replicate 6 false) Steps _ _ refl
    (offered-here (bytes_eq copy_name word) (replicate 6 false) Copy _ _ refl
    (offered-here (bytes_eq schedule_name word) (replicate 6 false) Schedule None None refl refl)))))

-- a word names one option
one-name : (word other : Word) (name this : OptionName) → name_of word ≡ Some name → name_of other ≡ Some this → bytes_eq word other ≡ true → this ≡ name
one-name word other name this is is-this same =
    let both : Some this ≡ Some name = sym is-this ∙ ap name_of (sym (same-text word other same)) ∙ is in
    cc

-- an option that is used isn't left, and the others are as before
left-but : (used : List Bool) (word other : Word) (name : OptionName) (found : Option OptionName) → name_of word ≡ Some name → place_of name < length used → name_of other ≡ found
    → cond (bytes_eq word other) None (row-named (left_of used found)) ≡ row-named (left_of (set used (place_of name) true) found)
left-but used word other name None is within is-found = elim (cases_Bool (bytes_eq word other)) [ inl same ↦ rw same refl | inr differs ↦ rw differs refl ]
left-but used word other name (Some this) is within is-found = elim (cases_eq (place_of this) (place_of name)) [
  | inl same ↦
      let names : this ≡ name = one-place this name same in
      let words : word ≡ other = sym (known-name word name is) ∙ ap (λ x. (row_of x).name) (sym names) ∙ known-name other this is-found in
      let equal : bytes_eq word other ≡ true = ap (bytes_eq word) (sym words) ∙ text-itself word in
      rw (equal, same, get_or-set_same) refl
  | inr apart ↦
      let differs : bytes_eq word other ≡ false = apart-words apart in
      rw (differs, get_or-set_other) refl
]
  where
    apart-words : (place_of this ≡ place_of name → ⊥) → bytes_eq word other ≡ false
    apart-words apart = elim (cases_Bool (bytes_eq word other)) [
      | inl same ↦ absurd (apart (ap place_of (one-name word other name this is is-found same)))
      | inr differs ↦ differs
    ]

-- once an option is used the others are left
pub offers-but : (used : List Bool) (left : List OptionRow) (word : Word) (name : OptionName) → Offers used left → name_of word ≡ Some name → place_of name < length used
    → Offers (set used (place_of name) true) (options_but left word)
offers-but used left word name offers is within other =
    found-but left word other ∙ ap (cond (bytes_eq word other) None) (offers other) ∙ left-but used word other name (name_of other) is within refl

-- an option that is left is one of this name
pub left-name : (used : List Bool) (found : Option OptionName) (name : OptionName) → left_of used found ≡ Some name → found ≡ Some name
left-name used None name is = cc
left-name used (Some this) name is = elim (cases_Bool (get_or used (place_of this) false)) [
  | inl gone ↦ let none : None ≡ Some name = rw gone at is in cc
  | inr stays ↦ rw stays at is
]

-- a word whose option isn't left is found in no row
pub left-none : (used : List Bool) (left : List OptionRow) (word : Word) → Offers used left → None ≡ left_of used (name_of word) → option_named left word ≡ None
left-none used left word offers is = offers word ∙ ap row-named (sym is)

-- an option that is left is found by its name
pub left-some : (used : List Bool) (left : List OptionRow) (word : Word) (name : OptionName) → Offers used left → Some name ≡ left_of used (name_of word)
    → option_named left (row_of name).name ≡ Some (row_of name)
left-some used left word name offers is = rw (known-name word name (left-name used (name_of word) name (sym is))) (offers word ∙ ap row-named (sym is))

-- the name of an option names it
pub own-name : (name : OptionName) → name_of (row_of name).name ≡ Some name
own-name Frames = refl
own-name Regions = refl
own-name Slots = refl
own-name Steps = refl
own-name Copy = refl
own-name Schedule = refl
