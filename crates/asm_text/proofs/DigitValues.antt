-- The number of some digits, kept where it is below 2^64.
use Rattle.std.proofs.Common.{◌≡◌, ◌∙◌, ap, refl, ℕ, zero, suc, ◌+◌, ◌*◌, ◌^◌, ◌<◌, ◌≤◌, List, [], ◌∷◌, ◌++◌, length, get_or, take, inl, inr, arith}
use Rattle.std.proofs.Math.Nat.{le-mul_of_pos_right}
use Rattle.std.proofs.lemmas.Bool.{cases_lt}
use Rattle.std.proofs.lemmas.List.{take_more}
use Rattle.asm_text.specs.Tokens.{digit_of, digits_behind}
use Rattle.asm_text.specs.Scanning.{IsCapped}

-- one digit more at the end
digits-push : (base number : ℕ) (bytes : List ℕ) (byte : ℕ) → digits_behind base number (bytes ++ byte ∷ []) ≡ digits_behind base number bytes * base + digit_of byte
digits-push base number [] byte = refl
digits-push base number (first ∷ bytes) byte = digits-push base (number * base + digit_of first) bytes byte

-- one digit further
pub digits-more : (base : ℕ) (bytes : List ℕ) (at : ℕ) → at < length bytes
    → digits_behind base 0 (take (at + 1) bytes) ≡ digits_behind base 0 (take at bytes) * base + digit_of (get_or bytes at 0)
digits-more base bytes at within =
    ap (digits_behind base 0) (take_more bytes at 0 within) ∙ digits-push base 0 (take at bytes) (get_or bytes at 0)

-- a number that is kept
capped-itself : (number : ℕ) → IsCapped number number
capped-itself number = record { small = λ _. refl; great = λ high. high }

-- where the value is below 2^64 it is the number
capped-small : (number value : ℕ) → IsCapped number value → value < 2 ^ 64 → value ≡ number
capped-small number value capped low = elim (cases_lt number (2 ^ 64)) [
  | inl small ↦ capped.small small
  | inr great ↦ absurd (omega (arith, capped.great great))
]

-- and else both are great
capped-great : (number value : ℕ) → IsCapped number value → 2 ^ 64 ≤ value → 2 ^ 64 ≤ number
capped-great number value capped high = elim (cases_lt number (2 ^ 64)) [
  | inl small ↦ omega (arith, capped.small small)
  | inr great ↦ great
]

-- a small value goes on with its next digit
pub capped-more : (base digit number value : ℕ) → IsCapped number value → value < 2 ^ 64 → IsCapped (number * base + digit) (value * base + digit)
capped-more base digit number value capped low = rw (capped-small number value capped low) (capped-itself (number * base + digit))

-- a great one stays
pub capped-stays : (base digit number value : ℕ) → IsCapped number value → 2 ^ 64 ≤ value → 1 ≤ base → IsCapped (number * base + digit) value
capped-stays base digit number value capped high some =
    let great : 2 ^ 64 ≤ number = capped-great number value capped high in
    let more : number ≤ number * base = le-mul_of_pos_right number some in
    record { small = λ low. absurd (omega arith); great = λ _. high }

-- digits in a base of 0 give no great value
pub based-more : (base digit value : ℕ) → digit < 16 → 2 ^ 64 ≤ value * base + digit → 1 ≤ base
based-more zero digit value low high = absurd (omega arith)
based-more (suc base) digit value low high = omega arith
