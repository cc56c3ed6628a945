use Rattle.std.proofs.Common.{◌≢◌, ◌∙◌, ap, ℕ, ◌<◌, neg_ℤ, pos, arith}
use Rattle.std.specs.Prelude.{decimal}
use Rattle.asm_text.specs.Tokens.{lexeme_length, number_token}
use Rattle.asm_text.proofs.Longest.{lexeme-longest}
use Rattle.asm_text.proofs.Decimals.{decimal-digits, decimal-some, decimal-behind, digits-token, minus-token, number-within, number-beyond, minus-within, minus-beyond, zero-before}
use Rattle.asm_text.proofs.laws.tokens_are_exact.Goals as goal

-- what isn't 0 is more
above-zero : (n : ℕ) → n ≢ 0 → 0 < n
above-zero n other = omega arith

pub returns : goal.returns
returns c = record {
  within = λ bytes. (lexeme-longest bytes).within;
  is = λ bytes some. (lexeme-longest bytes).is (above-zero (lexeme_length bytes) some);
  longest = λ bytes count past within. (lexeme-longest bytes).more count past within;
  number = λ n small.
      digits-token (decimal n) (decimal-some n) (decimal-digits n) ∙ ap (λ m. number_token (pos m)) (decimal-behind n (omega arith)) ∙ number-within n small;
  negative = λ n small.
      minus-token (decimal n) (decimal-some n) (decimal-digits n) ∙ ap (λ m. number_token (neg_ℤ (pos m))) (decimal-behind n (omega arith)) ∙ minus-within n small;
  zeros = zero-before;
  great = λ n high small.
      digits-token (decimal n) (decimal-some n) (decimal-digits n) ∙ ap (λ m. number_token (pos m)) (decimal-behind n small) ∙ number-beyond n high;
  less = λ n high small.
      minus-token (decimal n) (decimal-some n) (decimal-digits n) ∙ ap (λ m. number_token (neg_ℤ (pos m))) (decimal-behind n small) ∙ minus-beyond n high;
}
