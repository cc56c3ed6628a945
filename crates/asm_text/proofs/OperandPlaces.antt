-- The names and strings of operands stand where the tokens of a form do.
use Rattle.std.proofs.Common.{◌≡◌, ◌∙◌, sym, ap, refl, subst, ℕ, ◌≤◌, Bool, true, false, List, [], ◌∷◌, Option, Some, None, inl, inr, ◌⊎◌, ◌&&◌, arith}
use Rattle.std.specs.Prelude.{option_map, option_and_then}
use Rattle.std.proofs.lemmas.Bool.{and_parts}
use Rattle.std.proofs.lemmas.Option.{cond_some, option_and_then_some}
use Rattle.asm_text.specs.declared.tokens.Lexeme.{Lexeme}
use Rattle.asm_text.specs.declared.operands.Slot.{Slot}
use Rattle.asm_text.specs.declared.operands.Slot.TheVariants as slot
use Rattle.asm_text.specs.declared.operands.Operands.{Operands}
use Rattle.asm_text.specs.Bytes.{are}
use Rattle.asm_text.specs.Statements.{rights_of, word_in, label_in, value_in, register_in, number_from, natural_from, text_from, is_comma, is_open, is_close, marked, put, filled}
use Rattle.asm_text.specs.Spans.{value_spans}
use Rattle.asm_text.proofs.LexemePlaces.{IsLexeme, AreLexemes}
use Rattle.asm_text.proofs.NamePlaces.{AreNames, names-within, value-stands}

-- what an operand that is put in keeps
put-keeps : {X Y : Type 0} (field : Operands → Y) (with : X → Operands) (found : Option X) (o after : Operands) → ((x : X) → field (with x) ≡ field o) → option_map with found ≡ Some after → field after ≡ field o
put-keeps field with None o after keeps is = cc
put-keeps field with (Some x) o after keeps is = let same : with x ≡ after = cc in ap field (sym same) ∙ keeps x

-- what it makes
put-makes : {X : Type 0} (field : Operands → X) (with : X → Operands) (found : Option X) (after : Operands) → ((x : X) → field (with x) ≡ x) → option_map with found ≡ Some after → found ≡ Some (field after)
put-makes field with None after makes is = cc
put-makes field with (Some x) after makes is = let same : with x ≡ after = cc in ap Some (sym (makes x) ∙ ap field same)

-- a mark keeps all
mark-keeps : {Y : Type 0} (field : Operands → Y) (is : Bool) (o after : Operands) → marked is o ≡ Some after → field after ≡ field o
mark-keeps field is o after put = ap field (sym (cond_some is o after put).1)

-- the value is as before, or that of the token
put-value : (text : List ℕ) (s : Slot) (l : Lexeme) (o after : Operands) → put text s l o ≡ Some after → (after.value ≡ o.value) ⊎ (value_in text l ≡ Some after.value)
put-value text slot.Rd l o after is = inl (put-keeps (λ o. o.value) (λ n. record o { rd = n }) (register_in text l) o after (λ x. refl) is)
put-value text slot.Rs1 l o after is = inl (put-keeps (λ o. o.value) (λ n. record o { rs1 = n }) (register_in text l) o after (λ x. refl) is)
put-value text slot.Rs2 l o after is = inl (put-keeps (λ o. o.value) (λ n. record o { rs2 = n }) (register_in text l) o after (λ x. refl) is)
put-value text slot.Value l o after is = inr (put-makes (λ o. o.value) (λ v. record o { value = v }) (value_in text l) after (λ x. refl) is)
put-value text slot.Comma l o after is = inl (mark-keeps (λ o. o.value) (is_comma l.token) o after is)
put-value text slot.Open l o after is = inl (mark-keeps (λ o. o.value) (is_open l.token) o after is)
put-value text slot.Close l o after is = inl (mark-keeps (λ o. o.value) (is_close l.token) o after is)
put-value text slot.Label l o after is = inl (put-keeps (λ o. o.value) (λ span. record o { name = span }) (label_in text l) o after (λ x. refl) is)
put-value text slot.Text l o after is = inl (put-keeps (λ o. o.value) (λ span. record o { name = span }) (text_from l.token l.span) o after (λ x. refl) is)
put-value text slot.Number l o after is = inl (put-keeps (λ o. o.value) (λ n. record o { number = n }) (number_from l.token) o after (λ x. refl) is)
put-value text slot.Natural l o after is = inl (put-keeps (λ o. o.value) (λ n. record o { number = n }) (natural_from l.token) o after (λ x. refl) is)
put-value text slot.Rights l o after is = inl (put-keeps (λ o. o.value) (λ n. record o { rights = n }) (option_and_then rights_of (word_in text l)) o after (λ x. refl) is)
put-value text slot.Length l o after is = inl (put-keeps (λ o. o.value) (λ n. record o { length = n }) (number_from l.token) o after (λ x. refl) is)
put-value text slot.Offset l o after is = inl (put-keeps (λ o. o.value) (λ n. record o { offset = n }) (number_from l.token) o after (λ x. refl) is)
put-value text slot.Perms l o after is = inl (put-keeps (λ o. o.value) (λ n. record o { perms = n }) (number_from l.token) o after (λ x. refl) is)

-- the slots of a capability behind its label, none of which is one
abbrev pub is-numeric : Slot → Bool
is-numeric slot.Comma = true
is-numeric slot.Length = true
is-numeric slot.Offset = true
is-numeric slot.Perms = true
is-numeric _ = false

-- they keep the name
put-name : (text : List ℕ) (s : Slot) (l : Lexeme) (o after : Operands) → is-numeric s ≡ true → put text s l o ≡ Some after → after.name ≡ o.name
put-name text slot.Comma l o after numeric is = mark-keeps (λ o. o.name) (is_comma l.token) o after is
put-name text slot.Length l o after numeric is = put-keeps (λ o. o.name) (λ n. record o { length = n }) (number_from l.token) o after (λ x. refl) is
put-name text slot.Offset l o after numeric is = put-keeps (λ o. o.name) (λ n. record o { offset = n }) (number_from l.token) o after (λ x. refl) is
put-name text slot.Perms l o after numeric is = put-keeps (λ o. o.name) (λ n. record o { perms = n }) (number_from l.token) o after (λ x. refl) is
put-name text _ l o after numeric is = cc

-- all slots of a form are of that kind
abbrev pub are-numeric : List Slot → Bool
are-numeric [] = true
are-numeric (s ∷ slots) = is-numeric s && are-numeric slots

-- so the name is kept where the other slots are filled
pub filled-name : (text : List ℕ) (slots : List Slot) (lexemes : List Lexeme) (o found : Operands) → are-numeric slots ≡ true → filled text slots lexemes o ≡ Some found → found.name ≡ o.name
filled-name text [] [] o found numeric is = ap (λ (o : Operands). o.name) (let same : found ≡ o = cc in same)
filled-name text [] (l ∷ lexemes) o found numeric is = cc
filled-name text (s ∷ slots) [] o found numeric is = cc
filled-name text (s ∷ slots) (l ∷ lexemes) o found numeric is =
    let parts = and_parts (is-numeric s) (are-numeric slots) numeric in
    option_and_then_some (filled text slots lexemes) (put text s l o) found is
    (λ after put rest. filled-name text slots lexemes after found parts.1 rest ∙ put-name text s l o after parts.0 put)

-- one slot that is filled with a value, or with anything else
value-put : (text : List ℕ) (start : ℕ) (s : Slot) (l : Lexeme) (o after : Operands) (from : ℕ) → IsLexeme text l → start ≤ from → from ≤ l.span.first → AreNames text start (value_spans o.value) from
    → put text s l o ≡ Some after → AreNames text start (value_spans after.value) l.span.past
value-put text start s l o after from lexed low high are is = elim (put-value text s l o after is) [
  | inl same ↦ rw same (names-within text start start (value_spans o.value) from l.span.past (omega arith) (omega (arith, lexed.some)) are)
  | inr some ↦ value-stands text start l after.value lexed (omega arith) some
]

-- the value of what fills a form stands among its tokens, if it is a name
pub filled-value : (text : List ℕ) (start : ℕ) (slots : List Slot) (lexemes : List Lexeme) (o found : Operands) (from end : ℕ) → start ≤ from → AreNames text start (value_spans o.value) from
    → AreLexemes text from lexemes end → filled text slots lexemes o ≡ Some found → AreNames text start (value_spans found.value) end
filled-value text start [] [] o found from end low are lexed is =
    let same : o ≡ found = cc in
    subst (λ (x : Operands). AreNames text start (value_spans x.value) end) same (names-within text start start (value_spans o.value) from end (omega arith) lexed are)
filled-value text start [] (l ∷ lexemes) o found from end low are lexed is = cc
filled-value text start (s ∷ slots) [] o found from end low are lexed is = cc
filled-value text start (s ∷ slots) (l ∷ lexemes) o found from end low are lexed is =
    option_and_then_some (filled text slots lexemes) (put text s l o) found is
    (λ after put rest. filled-value text start slots lexemes after found l.span.past end (omega (arith, lexed.0, lexed.1.some))
    (value-put text start s l o after from lexed.1 low lexed.0 are put) lexed.2 rest)

-- a form of a label and numbers has its name at the label
pub filled-label : (text : List ℕ) (slots : List Slot) (lexeme : Lexeme) (lexemes : List Lexeme) (o found : Operands) → are-numeric slots ≡ true
    → filled text (slot.Label ∷ slots) (lexeme ∷ lexemes) o ≡ Some found → label_in text lexeme ≡ Some found.name
filled-label text slots lexeme lexemes o found numeric is =
    option_and_then_some (filled text slots lexemes) (put text slot.Label lexeme o) found is
    (λ after put rest. put-makes (λ o. o.name) (λ span. record o { name = span }) (label_in text lexeme) after (λ x. refl) put ∙ ap Some (sym (filled-name text slots lexemes after found numeric rest)))

-- and a form of a string has it there
pub filled-string : (text : List ℕ) (lexeme : Lexeme) (o found : Operands) → put text slot.Text lexeme o ≡ Some found → text_from lexeme.token lexeme.span ≡ Some found.name
filled-string text lexeme o found is = put-makes (λ o. o.name) (λ span. record o { name = span }) (text_from lexeme.token lexeme.span) found (λ x. refl) is
