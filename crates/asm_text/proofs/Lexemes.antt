-- The longest token at the front of some bytes, by its first byte, and what it is.
use Rattle.std.proofs.Common.{◌≡◌, ◌∙◌, sym, ap, refl, subst, ℕ, zero, suc, ◌+◌, ◌<◌, ◌≤◌, true, false, eqb, List, [], ◌∷◌, length, get_or, take, Option, Some, None, arith}
use Rattle.std.specs.Prelude.{is_some}
use Rattle.std.proofs.lemmas.Bool.{eq-eqb, ne_eqb, or_left, true≢false}
use Rattle.std.proofs.lemmas.List.{take_all}
use Rattle.asm_text.specs.declared.tokens.Token.{Token}
use Rattle.asm_text.specs.declared.tokens.Token.TheVariants.{Word, Text}
use Rattle.asm_text.specs.Bytes.{begins_word, is_in_word}
use Rattle.asm_text.specs.Tokens.{is_number, is_lexeme, mark_of, token_of, number_token, integer_of, lexeme_length}
use Rattle.asm_text.specs.Scanning.{run_length, further, number_length, closing_length, string_length}
use Rattle.asm_text.proofs.Runs.{run-within, are-run, are-no-run}
use Rattle.asm_text.proofs.Closings.{closing-within, closes-take}
use Rattle.asm_text.proofs.Magnitudes.{number-longest}
use Rattle.asm_text.proofs.Longest.{IsLongest, lexeme-longest, lexeme-length}
use Rattle.asm_text.proofs.Forms.{lexeme-word, lexeme-string, lexeme-mark, lexeme-number, mark-token, string-token}

-- a word ends with the row of its bytes
word-longest : (byte : ℕ) (bytes : List ℕ) → begins_word byte ≡ true → IsLongest is_lexeme (byte ∷ bytes) (suc (run_length is_in_word bytes))
word-longest byte bytes is = record {
  within = omega (arith, run-within is_in_word bytes);
  is = λ _. lexeme-word byte (take (run_length is_in_word bytes) bytes) is ∙ are-run is_in_word bytes (run_length is_in_word bytes) (omega arith);
  more = more;
}
  where
    more : (k : ℕ) → suc (run_length is_in_word bytes) < k → k ≤ length (byte ∷ bytes) → is_lexeme (take k (byte ∷ bytes)) ≡ false
    more zero past within = absurd (omega arith)
    more (suc k) past within = lexeme-word byte (take k bytes) is ∙ are-no-run is_in_word bytes k (omega arith) (omega arith)

-- a string ends with its second quote
string-longest : (bytes : List ℕ) (count : ℕ) → closing_length bytes ≡ count → IsLongest is_lexeme (34 ∷ bytes) (further 1 count)
string-longest bytes zero none = record { within = omega arith; is = λ some. absurd (omega arith); more = more }
  where
    more : (k : ℕ) → 0 < k → k ≤ length (34 ∷ bytes) → is_lexeme (take k (34 ∷ bytes)) ≡ false
    more zero past within = absurd (omega arith)
    more (suc zero) past within = refl
    more (suc (suc k)) past within = lexeme-string (take (suc k) bytes) ∙ closes-take bytes k (omega arith) ∙ ne_eqb (suc k) (closing_length bytes) (λ e. omega arith)
string-longest bytes (suc count) ends = record { within = omega (arith, closing-within bytes); is = λ _. is; more = more }
  where
    is : is_lexeme (take (1 + suc count) (34 ∷ bytes)) ≡ true
    is =
        let places : 1 + suc count ≡ suc (suc count) = omega arith in
        let within : count < length bytes = omega (arith, closing-within bytes) in
        rw places (lexeme-string (take (suc count) bytes) ∙ closes-take bytes count within ∙ eq-eqb (suc count) (closing_length bytes) (sym ends))

    more : (k : ℕ) → 1 + suc count < k → k ≤ length (34 ∷ bytes) → is_lexeme (take k (34 ∷ bytes)) ≡ false
    more zero past within = absurd (omega arith)
    more (suc zero) past within = absurd (omega arith)
    more (suc (suc k)) past within = lexeme-string (take (suc k) bytes) ∙ closes-take bytes k (omega arith) ∙ ne_eqb (suc k) (closing_length bytes) (λ e. omega arith)

-- a mark is one byte
mark-longest : (byte : ℕ) (bytes : List ℕ) → is_some (mark_of byte) ≡ true → IsLongest is_lexeme (byte ∷ bytes) 1
mark-longest byte bytes is = record { within = omega arith; is = λ _. lexeme-mark byte [] is; more = λ k past within. more bytes k past within }
  where
    more : (bytes : List ℕ) (k : ℕ) → 1 < k → k ≤ length (byte ∷ bytes) → is_lexeme (take k (byte ∷ bytes)) ≡ false
    more bytes zero past within = absurd (omega arith)
    more bytes (suc zero) past within = absurd (omega arith)
    more [] (suc (suc k)) past within = absurd (omega arith)
    more (next ∷ bytes) (suc (suc k)) past within = lexeme-mark byte (next ∷ take k bytes) is

-- anything else is as long as a number is
other-longest : (byte : ℕ) (bytes : List ℕ) (count : ℕ) → begins_word byte ≡ false → eqb byte 34 ≡ false → mark_of byte ≡ None
    → IsLongest is_number (byte ∷ bytes) count → IsLongest is_lexeme (byte ∷ bytes) count
other-longest byte bytes count word quote mark found = record { within = found.within; is = λ some. same count some ∙ found.is some; more = more }
  where
    same : (k : ℕ) → 0 < k → is_lexeme (take k (byte ∷ bytes)) ≡ is_number (take k (byte ∷ bytes))
    same zero some = absurd (omega arith)
    same (suc k) some = lexeme-number byte (take k bytes) word quote mark

    more : (k : ℕ) → count < k → k ≤ length (byte ∷ bytes) → is_lexeme (take k (byte ∷ bytes)) ≡ false
    more k past within = same k (omega arith) ∙ found.more k past within

-- bytes that aren't empty have a first
pub some-bytes : (bytes : List ℕ) → eqb (length bytes) 0 ≡ false → 0 < length bytes
some-bytes [] other = absurd (true≢false other)
some-bytes (byte ∷ bytes) other = omega arith

-- what isn't some token is none
pub no-token : (token : Option Token) → is_some token ≡ false → token ≡ None
no-token None none = refl
no-token (Some token) none = absurd (true≢false none)

-- no bytes have no token
pub none-length : (bytes : List ℕ) → length bytes ≡ 0 → 0 ≡ lexeme_length bytes
none-length bytes none = omega (arith, (lexeme-longest bytes).within)

-- so a word's length is that of the row of its bytes
pub word-length : (bytes : List ℕ) → 0 < length bytes → begins_word (get_or bytes 0 0) ≡ true → run_length is_in_word bytes ≡ lexeme_length bytes
word-length [] some is = absurd (omega arith)
word-length (byte ∷ bytes) some is = rw (or_left _ _ is) (lexeme-length (byte ∷ bytes) (suc (run_length is_in_word bytes)) (word-longest byte bytes is))

-- a string's is found behind its first quote
pub string-length : (bytes : List ℕ) → 0 < length bytes → get_or bytes 0 0 ≡ 34 → string_length bytes ≡ lexeme_length bytes
string-length [] some is = absurd (omega arith)
string-length (byte ∷ bytes) some is =
    let P : ℕ → Type 0 = λ first. string_length (first ∷ bytes) ≡ lexeme_length (first ∷ bytes) in
    subst P (sym is) (lexeme-length (34 ∷ bytes) (further 1 (closing_length bytes)) (string-longest bytes (closing_length bytes) refl))

-- a mark's is 1
pub mark-length : (bytes : List ℕ) → 0 < length bytes → is_some (mark_of (get_or bytes 0 0)) ≡ true → 1 ≡ lexeme_length bytes
mark-length [] some is = absurd (omega arith)
mark-length (byte ∷ bytes) some is = lexeme-length (byte ∷ bytes) 1 (mark-longest byte bytes is)

-- and else it is a number's
pub number-is-length : (bytes : List ℕ) → 0 < length bytes → begins_word (get_or bytes 0 0) ≡ false → (get_or bytes 0 0 ≡ 34 → ⊥) → mark_of (get_or bytes 0 0) ≡ None
    → number_length bytes ≡ lexeme_length bytes
number-is-length [] some word quote mark = absurd (omega arith)
number-is-length (byte ∷ bytes) some word quote mark =
    lexeme-length (byte ∷ bytes) (number_length (byte ∷ bytes)) (other-longest byte bytes (number_length (byte ∷ bytes)) word (ne_eqb byte 34 quote) mark (number-longest (byte ∷ bytes)))

-- bytes whose longest token is all of them have the form of one
pub whole-lexeme : (bytes : List ℕ) → 0 < length bytes → lexeme_length bytes ≡ length bytes → is_lexeme bytes ≡ true
whole-lexeme bytes some whole =
    sym (ap is_lexeme (ap (λ n. take n bytes) whole ∙ take_all (length bytes) bytes (omega arith))) ∙ (lexeme-longest bytes).is (omega arith)

-- the token of a word
pub word-token : (bytes : List ℕ) → 0 < length bytes → begins_word (get_or bytes 0 0) ≡ true → is_lexeme bytes ≡ true → token_of bytes ≡ Some Word
word-token [] some is whole = absurd (omega arith)
word-token (byte ∷ bytes) some is whole = let rest = sym (lexeme-word byte bytes is) ∙ whole in rw (is, rest) refl

-- of a string
pub text-token : (bytes : List ℕ) → 0 < length bytes → get_or bytes 0 0 ≡ 34 → is_lexeme bytes ≡ true → token_of bytes ≡ Some Text
text-token [] some is whole = absurd (omega arith)
text-token (byte ∷ bytes) some is whole =
    let P : ℕ → Type 0 = λ first. is_lexeme (first ∷ bytes) ≡ true → token_of (first ∷ bytes) ≡ Some Text in
    subst P (sym is) (string-token bytes) whole

-- of a mark
pub mark-is-token : (bytes : List ℕ) → 0 < length bytes → is_some (mark_of (get_or bytes 0 0)) ≡ true → is_lexeme bytes ≡ true → token_of bytes ≡ mark_of (get_or bytes 0 0)
mark-is-token [] some is whole = absurd (omega arith)
mark-is-token (byte ∷ bytes) some is whole = mark-token byte bytes is whole

-- and of anything else, which is a number
pub whole-number : (bytes : List ℕ) → 0 < length bytes → begins_word (get_or bytes 0 0) ≡ false → (get_or bytes 0 0 ≡ 34 → ⊥) → mark_of (get_or bytes 0 0) ≡ None
    → is_lexeme bytes ≡ true → is_number bytes ≡ true
whole-number [] some word quote mark whole = absurd (omega arith)
whole-number (byte ∷ bytes) some word quote mark whole = sym (lexeme-number byte bytes word (ne_eqb byte 34 quote) mark) ∙ whole

pub number-is-token : (bytes : List ℕ) → 0 < length bytes → begins_word (get_or bytes 0 0) ≡ false → is_number bytes ≡ true → token_of bytes ≡ number_token (integer_of bytes)
number-is-token [] some word is = absurd (omega arith)
number-is-token (byte ∷ bytes) some word is = rw (word, is) refl
