-- Words and marks are the longest tokens before bytes that no word has.
use Rattle.std.proofs.Common.{◌≡◌, ◌∙◌, sym, ap, refl, ℕ, ◌+◌, Bool, true, false, not, eqb, List, [], ◌∷◌, ◌++◌, length, Some, is_some, arith}
use Rattle.std.proofs.lemmas.Bool.{and_parts, and_from, or_left, ne_eqb, eqb-false, false≢true}
use Rattle.std.proofs.lemmas.Bool.Decides.{nat_tests}
use Rattle.asm_text.specs.declared.tokens.Token.{Token}
use Rattle.asm_text.specs.declared.tokens.Token.TheVariants.{Word}
use Rattle.asm_text.specs.Bytes.{is_blank, begins_word, is_in_word, are}
use Rattle.asm_text.specs.Tokens.{is_word, mark_of, token_of}
use Rattle.asm_text.specs.Scanning.{run_length}
use Rattle.asm_text.proofs.Lexemes.{word-length, mark-length}
use Rattle.trace_tools.proofs.Parts.{IsPart, no-feed}

-- a byte of a class is none that isn't of it
pub other-byte : (class : ℕ → Bool) (byte other : ℕ) → class byte ≡ true → class other ≡ false → byte ≡ other → ⊥
other-byte class byte other is not-other same = false≢true (sym not-other ∙ sym (ap class same) ∙ is)

-- so the test whether they are equal fails
pub other-eqb : (class : ℕ → Bool) (byte other : ℕ) → class byte ≡ true → class other ≡ false → eqb byte other ≡ false
other-eqb class byte other is not-other = ne_eqb byte other (other-byte class byte other is not-other)

-- bytes of a class that the line feed isn't of have no line feed
pub class-unbroken : (class : ℕ → Bool) (bytes : List ℕ) → class 10 ≡ false → are class bytes ≡ true → no-feed bytes ≡ true
class-unbroken class [] other all = refl
class-unbroken class (byte ∷ bytes) other all =
    let parts = and_parts (class byte) (are class bytes) all in
    and_from _ _ (ap not (other-eqb class byte 10 parts.0 other)) (class-unbroken class bytes other parts.1)

-- bytes of a class before others make the row of such bytes that much longer
pub run-through : (class : ℕ → Bool) (bytes rest : List ℕ) → are class bytes ≡ true → run_length class (bytes ++ rest) ≡ length bytes + run_length class rest
run-through class [] rest all = omega arith
run-through class (byte ∷ bytes) rest all =
    let parts = and_parts (class byte) (are class bytes) all in
    rw parts.0 (omega (arith, run-through class bytes rest parts.1))

-- what begins a word is no blank
begins-no-blank : (byte : ℕ) → begins_word byte ≡ true → is_blank byte ≡ false
begins-no-blank byte is = grind (arith, nat_tests)

-- a word is a part
pub word-part : (bytes rest : List ℕ) → is_word bytes ≡ true → run_length is_in_word rest ≡ 0 → IsPart bytes Word rest
word-part [] rest is none = absurd (false≢true is)
word-part (byte ∷ bytes) rest is none =
    let parts = and_parts (begins_word byte) (are is_in_word bytes) is in
    let all : are is_in_word (byte ∷ bytes) ≡ true = and_from _ _ (or_left _ _ parts.0) parts.1 in
    record {
      some = omega arith;
      not-blank = begins-no-blank byte parts.0;
      no-comment = other-byte begins_word byte 35 parts.0 refl;
      length-is = sym (word-length (byte ∷ (bytes ++ rest)) (omega arith) parts.0) ∙ run-through is_in_word (byte ∷ bytes) rest all ∙ omega (arith, none);
      token-is = rw is refl;
      unbroken = class-unbroken is_in_word (byte ∷ bytes) refl all;
    }

-- and so is a mark
pub mark-part : (byte : ℕ) (token : Token) (rest : List ℕ) → is_some (mark_of byte) ≡ true → token_of (byte ∷ []) ≡ Some token
    → is_blank byte ≡ false → eqb byte 35 ≡ false → eqb byte 10 ≡ false → IsPart (byte ∷ []) token rest
mark-part byte token rest mark is blank comment feed = record {
  some = omega arith;
  not-blank = blank;
  no-comment = eqb-false byte 35 comment;
  length-is = sym (mark-length (byte ∷ rest) (omega arith) mark);
  token-is = is;
  unbroken = and_from _ _ (ap not feed) refl;
}
