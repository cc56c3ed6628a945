-- Where a string ends behind its first quote.
use Rattle.std.proofs.Common.{◌≡◌, ◌∙◌, sym, ap, refl, ℕ, zero, suc, ◌+◌, ◌<◌, ◌≤◌, true, false, eqb, List, [], ◌∷◌, length, get_or, take, drop, inl, inr, arith}
use Rattle.std.proofs.lemmas.Bool.{cases_Bool, eq-eqb, ne_eqb, eqb-true, eqb-false}
use Rattle.std.proofs.lemmas.List.{at_drop_more, drop_more}
use Rattle.asm_text.specs.Bytes.{is_text, is_escape}
use Rattle.asm_text.specs.Tokens.{closes}
use Rattle.asm_text.specs.Scanning.{further, closing_length, string_length}

-- a length, with what stands before it
pub further-some : (more count : ℕ) → 0 < count → further more count ≡ more + count
further-some more zero some = absurd (omega arith)
further-some more (suc count) some = refl

-- a length is at least what stands before it, or none
pub further-within : (more count most : ℕ) → more + count ≤ most → further more count ≤ most
further-within more zero most within = omega arith
further-within more (suc count) most within = within

-- lengths one after another
pub further-further : (first next count : ℕ) → further first (further next count) ≡ further (first + next) count
further-further first next zero = refl
further-further first next (suc count) =
    let some : 0 < next + suc count = omega arith in
    further-some first (next + suc count) some ∙ omega arith

-- a length is so much where the rest is so much less
pub further-eqb : (more all rest count : ℕ) → all ≡ more + rest → 0 < rest → eqb all (further more count) ≡ eqb rest count
further-eqb more all rest zero is some = ne_eqb all 0 (λ e. omega arith) ∙ sym (ne_eqb rest 0 (λ e. omega arith))
further-eqb more all rest (suc count) is some = elim (cases_Bool (eqb rest (suc count))) [
  | inl same ↦ let here = eqb-true rest (suc count) same in eq-eqb all (more + suc count) (omega arith) ∙ sym same
  | inr other ↦ ne_eqb all (more + suc count) (λ e. eqb-false rest (suc count) other (omega arith)) ∙ sym other
]

-- it is none below what stands before it
pub further-short : (more all count : ℕ) → all ≤ more → 0 < all → eqb all (further more count) ≡ false
further-short more all zero low some = ne_eqb all 0 (λ e. omega arith)
further-short more all (suc count) low some = ne_eqb all (more + suc count) (λ e. omega arith)

-- a first quote ends a string
pub closing-quote : (byte : ℕ) (bytes : List ℕ) → byte ≡ 34 → closing_length (byte ∷ bytes) ≡ 1
closing-quote byte [] is = rw (eq-eqb byte 34 is) refl
closing-quote byte (next ∷ bytes) is = rw (eq-eqb byte 34 is) refl

-- a backslash and what may stand behind it
pub closing-escape : (byte next : ℕ) (bytes : List ℕ) → byte ≡ 92 → is_escape next ≡ true → closing_length (byte ∷ next ∷ bytes) ≡ further 2 (closing_length bytes)
closing-escape byte next bytes is escape = rw (is, escape) refl

-- any other byte of a text
pub closing-text : (byte : ℕ) (bytes : List ℕ) → (byte ≡ 34 → ⊥) → (byte ≡ 92 → ⊥) → is_text byte ≡ true → closing_length (byte ∷ bytes) ≡ further 1 (closing_length bytes)
closing-text byte [] quote slash text = rw (ne_eqb byte 34 quote) refl
closing-text byte (next ∷ bytes) quote slash text = rw (ne_eqb byte 34 quote, ne_eqb byte 92 slash, text) refl

-- and any other byte
pub closing-other : (byte : ℕ) (bytes : List ℕ) → (byte ≡ 34 → ⊥) → (byte ≡ 92 → ⊥) → is_text byte ≡ false → closing_length (byte ∷ bytes) ≡ 0
closing-other byte [] quote slash other = rw (ne_eqb byte 34 quote) refl
closing-other byte (next ∷ bytes) quote slash other = rw (ne_eqb byte 34 quote, ne_eqb byte 92 slash, other) refl

-- a string ends within its bytes
pub closing-within : (bytes : List ℕ) → closing_length bytes ≤ length bytes
closing-within [] = omega arith
closing-within (byte ∷ []) = elim (cases_Bool (eqb byte 34)) [ inl is ↦ rw is (omega arith) | inr other ↦ rw other (omega arith) ]
closing-within (byte ∷ next ∷ bytes) = elim (cases_Bool (eqb byte 34)) [
  | inl quote ↦ rw quote (omega arith)
  | inr quote ↦ elim (cases_Bool (eqb byte 92)) [
    | inl slash ↦ elim (cases_Bool (is_escape next)) [
      | inl escape ↦ rw (quote, slash, escape) (further-within 2 (closing_length bytes) _ (omega (arith, closing-within bytes)))
      | inr other ↦ rw (quote, slash, other) (omega arith)
    ]
    | inr slash ↦ elim (cases_Bool (is_text byte)) [
      | inl text ↦ rw (quote, slash, text) (further-within 1 (closing_length (next ∷ bytes)) _ (omega (arith, closing-within (next ∷ bytes))))
      | inr other ↦ rw (quote, slash, other) (omega arith)
    ]
  ]
]

-- So many first bytes end where the string ends there.
pub closes-take : (bytes : List ℕ) (k : ℕ) → k < length bytes → closes (take (suc k) bytes) ≡ eqb (suc k) (closing_length bytes)
closes-take [] k within = absurd (omega arith)
closes-take (byte ∷ []) zero within = elim (cases_Bool (eqb byte 34)) [ inl is ↦ rw is refl | inr other ↦ rw other refl ]
closes-take (byte ∷ []) (suc k) within = absurd (omega arith)
closes-take (byte ∷ next ∷ bytes) zero within = elim (cases_Bool (eqb byte 34)) [
  | inl quote ↦ rw quote refl
  | inr quote ↦ elim (cases_Bool (eqb byte 92)) [
    | inl slash ↦ elim (cases_Bool (is_escape next)) [
      | inl escape ↦ rw (quote, slash, escape) (sym (further-short 2 1 (closing_length bytes) (omega arith) (omega arith)))
      | inr other ↦ rw (quote, slash, other) refl
    ]
    | inr slash ↦ elim (cases_Bool (is_text byte)) [
      | inl text ↦ rw (quote, slash, text) (sym (further-short 1 1 (closing_length (next ∷ bytes)) (omega arith) (omega arith)))
      | inr other ↦ rw (quote, slash, other) refl
    ]
  ]
]
closes-take (byte ∷ next ∷ bytes) (suc zero) within = elim (cases_Bool (eqb byte 92)) [
  | inl slash ↦
      let quote : eqb byte 34 ≡ false = ne_eqb byte 34 (λ e. omega (arith, eqb-true byte 92 slash)) in
      elim (cases_Bool (is_escape next)) [
        | inl escape ↦ rw (slash, quote, escape) (sym (further-short 2 2 (closing_length bytes) (omega arith) (omega arith)))
        | inr other ↦ rw (slash, quote, other) refl
      ]
  | inr slash ↦ elim (cases_Bool (eqb byte 34)) [
    | inl quote ↦ rw (slash, quote) refl
    | inr quote ↦ elim (cases_Bool (is_text byte)) [
      | inl text ↦ rw (slash, quote, text) (closes-take (next ∷ bytes) zero (omega arith) ∙ sym (further-eqb 1 2 1 (closing_length (next ∷ bytes)) (omega arith) (omega arith)))
      | inr other ↦ rw (slash, quote, other) refl
    ]
  ]
]
closes-take (byte ∷ next ∷ bytes) (suc (suc k)) within = elim (cases_Bool (eqb byte 92)) [
  | inl slash ↦
      let quote : eqb byte 34 ≡ false = ne_eqb byte 34 (λ e. omega (arith, eqb-true byte 92 slash)) in
      elim (cases_Bool (is_escape next)) [
        | inl escape ↦ rw (slash, quote, escape) (closes-take bytes k (omega arith) ∙ sym (further-eqb 2 (suc (suc (suc k))) (suc k) (closing_length bytes) (omega arith) (omega arith)))
        | inr other ↦ rw (slash, quote, other) (sym (ne_eqb (suc (suc (suc k))) 0 (λ e. omega arith)))
      ]
  | inr slash ↦ elim (cases_Bool (eqb byte 34)) [
    | inl quote ↦ rw (slash, quote) (sym (ne_eqb (suc (suc (suc k))) 1 (λ e. omega arith)))
    | inr quote ↦ elim (cases_Bool (is_text byte)) [
      | inl text ↦ rw (slash, quote, text) (closes-take (next ∷ bytes) (suc k) (omega arith) ∙ sym (further-eqb 1 (suc (suc (suc k))) (suc (suc k)) (closing_length (next ∷ bytes)) (omega arith) (omega arith)))
      | inr other ↦ rw (slash, quote, other) (sym (ne_eqb (suc (suc (suc k))) 0 (λ e. omega arith)))
    ]
  ]
]

-- some bytes further within a string
pub string-further : (bytes : List ℕ) (at more past : ℕ) → past ≡ at + more → string_length bytes ≡ further at (closing_length (drop at bytes))
    → closing_length (drop at bytes) ≡ further more (closing_length (drop past bytes)) → string_length bytes ≡ further past (closing_length (drop past bytes))
string-further bytes at more past is rest step =
    rest ∙ ap (further at) step ∙ further-further at more (closing_length (drop past bytes)) ∙ ap (λ n. further n (closing_length (drop past bytes))) (sym is)

-- what stands from a place on, by the byte there
pub closing-at : (bytes : List ℕ) (at : ℕ) → at < length bytes → closing_length (drop at bytes) ≡ closing_length (get_or bytes at 0 ∷ drop (at + 1) bytes)
closing-at bytes at within = at_drop_more closing_length bytes at 0 within

-- and by the byte there and the next
pub closing-at-two : (bytes : List ℕ) (at : ℕ) → at + 1 < length bytes
    → closing_length (drop at bytes) ≡ closing_length (get_or bytes at 0 ∷ get_or bytes (at + 1) 0 ∷ drop (at + 2) bytes)
closing-at-two bytes at within =
    let first = drop_more bytes at 0 (omega arith) in
    let second = drop_more bytes (at + 1) 0 within in
    let places : at + 1 + 1 ≡ at + 2 = omega arith in
    ap closing_length (first ∙ ap (λ rest. get_or bytes at 0 ∷ rest) (second ∙ ap (λ n. get_or bytes (at + 1) 0 ∷ drop n bytes) places))
