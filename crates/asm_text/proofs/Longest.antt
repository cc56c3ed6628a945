-- The longest first part of some bytes that has a form.
use Rattle.std.proofs.Common.{◌≡◌, ◌∙◌, sym, ap, ℕ, zero, suc, ◌<◌, ◌≤◌, Bool, true, false, List, length, take, inl, inr, arith}
use Rattle.std.proofs.lemmas.Bool.{cases_Bool, cases_lt, cases_order, false≢true}
use Rattle.std.proofs.lemmas.List.{take_all, length-take-le}
use Rattle.asm_text.specs.Tokens.{is_lexeme, longest, lexeme_length}

-- so many of the first bytes have a form, and more of them don't
pub record IsLongest (form : List ℕ → Bool) (bytes : List ℕ) (count : ℕ) : Type 0 where
  pub within : count ≤ length bytes
  pub is : 0 < count → form (take count bytes) ≡ true
  pub more : (k : ℕ) → count < k → k ≤ length bytes → form (take k bytes) ≡ false

-- the same among so many of the first bytes
record IsLongestOf (form : List ℕ → Bool) (bytes : List ℕ) (most count : ℕ) : Type 0 where
  within : count ≤ most
  is : 0 < count → form (take count bytes) ≡ true
  more : (k : ℕ) → count < k → k ≤ most → form (take k bytes) ≡ false

-- the search from a length down finds it
longest-of : (bytes : List ℕ) (most : ℕ) → IsLongestOf is_lexeme bytes most (longest bytes most)
longest-of bytes zero = record { within = omega arith; is = λ some. absurd (omega arith); more = λ k past below. absurd (omega arith) }
longest-of bytes (suc most) = elim (cases_Bool (is_lexeme (take (suc most) bytes))) [
  | inl is ↦ rw is (record { within = omega arith; is = λ some. is; more = λ k past below. absurd (omega arith) })
  | inr other ↦
      let rest = longest-of bytes most in
      rw other (record {
        within = omega (arith, rest.within);
        is = rest.is;
        more = λ k past below. elim (cases_lt k (suc most)) [
          | inl low ↦ rest.more k past (omega arith)
          | inr high ↦ let here : k ≡ suc most = omega arith in ap (λ n. is_lexeme (take n bytes)) here ∙ other
        ];
      })
]

-- what the definition finds is the longest token
pub lexeme-longest : (bytes : List ℕ) → IsLongest is_lexeme bytes (lexeme_length bytes)
unfolding lexeme_length
lexeme-longest bytes =
    let found = longest-of bytes (length bytes) in
    record { within = found.within; is = found.is; more = found.more }

-- there is one longest part
pub longest-same : (form : List ℕ → Bool) (bytes : List ℕ) (m n : ℕ) → IsLongest form bytes m → IsLongest form bytes n → m ≡ n
longest-same form bytes m n first next = elim (cases_order m n) [
  | inl same ↦ same
  | inr (inl below) ↦ absurd (false≢true (sym (first.more n below next.within) ∙ next.is (omega arith)))
  | inr (inr above) ↦ absurd (false≢true (sym (next.more m above first.within) ∙ first.is (omega arith)))
]

-- so the longest token is the one that the definition finds
pub lexeme-length : (bytes : List ℕ) (count : ℕ) → IsLongest is_lexeme bytes count → count ≡ lexeme_length bytes
lexeme-length bytes count is = longest-same is_lexeme bytes count (lexeme_length bytes) is (lexeme-longest bytes)

-- the longest token of the bytes of the longest token is all of them
pub lexeme-of-lexeme : (bytes : List ℕ) (count : ℕ) → count ≡ lexeme_length bytes → lexeme_length (take count bytes) ≡ length (take count bytes)
lexeme-of-lexeme bytes count is =
    let found = lexeme-longest bytes in
    let short : length (take count bytes) ≡ count = length-take-le count bytes (omega (arith, found.within)) in
    sym (lexeme-length (take count bytes) (length (take count bytes)) (record {
      within = omega arith;
      is = λ some. ap is_lexeme (take_all (length (take count bytes)) (take count bytes) (omega arith)) ∙ ap (λ n. is_lexeme (take n bytes)) is ∙ found.is (omega arith);
      more = λ k past within. absurd (omega arith);
    }))
