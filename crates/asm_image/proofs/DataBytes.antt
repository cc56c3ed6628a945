-- The bytes of data are its number.
use Rattle.std.proofs.Common.{◌≡◌, ◌∙◌, sym, ap, refl, ℕ, zero, suc, ◌+◌, ◌-◌, ◌*◌, ◌/◌, ◌%◌, ◌^◌, ◌<◌, ◌≤◌, ℤ, pos, negsuc, neg_ℤ, ◌+ℤ◌, ◌≤ℤ◌, ◌<ℤ◌, true, All, arith}
use Rattle.std.specs.Int.{byte_at, bytes_low_first, int_rem_euclid}
use Rattle.std.proofs.lemmas.Int.{ints}
use Rattle.std.proofs.lemmas.Nat.{pow-add, mod-pow-add, mod_low, mod_below, pow_pos}
use Rattle.std.proofs.lemmas.List.Elements.{All-nil, All-cons}
use Rattle.std.proofs.Math.Nat.{div-div-eq-div-mul, pow-suc, pow-le-pow_right, mod-eq_of_lt}
use Rattle.riscv_decode.specs.Table.{IsFrom}
use Rattle.asm_image.specs.Places.{natural}
use Rattle.asm_image.specs.Values.{fits_data, data_bytes}
use Rattle.asm_image.specs.Laws.{number_of, DataIsExact}
use Rattle.asm_image.proofs.StatementSizes.{length-low_first}
use Rattle.asm_image.proofs.Immediates.{Decides-from}

-- a byte of a number
byte-is : (i m : ℕ) → byte_at i m ≡ m / 256 ^ i % 256
byte-is zero m = omega arith
byte-is (suc i) m = refl

-- its lowest bytes from one on are what is left of it there, modulo two to the number of their bits
number-low : (i k m : ℕ) → number_of (bytes_low_first i k m) ≡ m / 256 ^ i % 2 ^ (8 * k)
number-low i zero m = omega arith
number-low i (suc k) m =
    let left : m / 256 ^ i / 256 ≡ m / 256 ^ suc i = div-div-eq-div-mul m (256 ^ i) 256 ∙ ap (λ by. m / by) (sym (pow-suc 256 i)) in
    let more : 8 * suc k ≡ 8 * k + 8 = omega arith in
    let split : m / 256 ^ i % 2 ^ (8 * suc k) ≡ m / 256 ^ suc i % 2 ^ (8 * k) * 256 + m / 256 ^ i % 256 = ap (λ e. m / 256 ^ i % 2 ^ e) more ∙ mod-pow-add (m / 256 ^ i) (8 * k) 8 ∙ ap (λ q. q % 2 ^ (8 * k) * 256 + m / 256 ^ i % 256) left in
    omega (arith, split, byte-is i m, number-low (suc i) k m)

-- and they are bytes
low-bytes : (i k m : ℕ) → All (λ byte. byte < 256) (bytes_low_first i k m)
low-bytes i zero m = All-nil (λ byte. byte < 256)
low-bytes i (suc k) m = All-cons (λ byte. byte < 256) (byte_at i m) (bytes_low_first (suc i) k m) (omega (arith, byte-is i m)) (low-bytes (suc i) k m)

-- what is left of a number modulo a power, modulo a lower one
low-of : (j k a : ℕ) → a % 2 ^ (j + k) % 2 ^ k ≡ a % 2 ^ k
low-of j k a = ap (λ b. b % 2 ^ k) (mod-pow-add a j k) ∙ mod_low (a / 2 ^ k % 2 ^ j) k (a % 2 ^ k) (mod_below a (2 ^ k) (pow_pos k))

-- where the lower part of a number is taken from a power, so it is from a lower one
below-all : (above d whole low : ℕ) → low < whole → (above + 1 + d) * whole - 1 - (above * whole + low) ≡ d * whole + (whole - 1 - low)
below-all above d whole low within = omega arith

low-below : (j k a : ℕ) → (2 ^ (j + k) - 1 - a % 2 ^ (j + k)) % 2 ^ k ≡ 2 ^ k - 1 - a % 2 ^ k
low-below j k a =
    let above = a / 2 ^ k % 2 ^ j in
    let low = a % 2 ^ k in
    let few : above < 2 ^ j = mod_below (a / 2 ^ k) (2 ^ j) (pow_pos j) in
    let within : low < 2 ^ k = mod_below a (2 ^ k) (pow_pos k) in
    let d = 2 ^ j - 1 - above in
    let whole : 2 ^ (j + k) ≡ (above + 1 + d) * 2 ^ k = pow-add 2 j k ∙ ap (λ b. b * 2 ^ k) (omega arith) in
    let left : 2 ^ (j + k) - 1 - a % 2 ^ (j + k) ≡ d * 2 ^ k + (2 ^ k - 1 - low) =
    ap (λ b. 2 ^ (j + k) - 1 - b) (mod-pow-add a j k) ∙ ap (λ b. b - 1 - (above * 2 ^ k + low)) whole ∙ below-all above d (2 ^ k) low within in
    ap (λ b. b % 2 ^ k) left ∙ mod_low d k (2 ^ k - 1 - low) (omega arith)

-- the lowest 64 bits of a number, modulo two to fewer bits
low-64 : (bits : ℕ) (n : ℤ) → bits ≤ 64 → pos (natural (int_rem_euclid n (pos (2 ^ 64))) % 2 ^ bits) ≡ int_rem_euclid n (pos (2 ^ bits))
low-64 bits (pos a) few = let e : 64 - bits + bits ≡ 64 = omega arith in ap pos (rw e at (low-of (64 - bits) bits a))
low-64 bits (negsuc a) few = let e : 64 - bits + bits ≡ 64 = omega arith in ap pos (rw e at (low-below (64 - bits) bits a))

-- a number that fits is from minus two to one less than the number of its bits on, and below two to that number
fits-range : (size : ℕ) (n : ℤ) → fits_data size n ≡ true → IsFrom (neg_ℤ (pos (2 ^ (8 * size)))) (pos (2 ^ (8 * size))) n
fits-range size n fits =
    let some = pow_pos (8 * size) in
    let half : 2 ^ (8 * size - 1) ≤ 2 ^ (8 * size) = pow-le-pow_right (omega arith) (omega arith) in
    let range = (Decides-from (neg_ℤ (pos (2 ^ (8 * size - 1)))) (pos (2 ^ (8 * size) - 1)) (pos (2 ^ (8 * size))) n (omega (arith, ints))).0 fits in
    (omega (arith, ints, range.0), range.1)

-- modulo two to the number of its bits it is itself, or that many more
natural-fits : (size : ℕ) (n : ℤ) → fits_data size n ≡ true → pos 0 ≤ℤ n → int_rem_euclid n (pos (2 ^ (8 * size))) ≡ n
natural-fits size (pos a) fits sign = let range = fits-range size (pos a) fits in ap pos (mod-eq_of_lt (omega (arith, ints, range.1)))
natural-fits size (negsuc a) fits sign = absurd (omega (arith, ints))

negative-fits : (size : ℕ) (n : ℤ) → fits_data size n ≡ true → n <ℤ pos 0 → int_rem_euclid n (pos (2 ^ (8 * size))) ≡ n +ℤ pos (2 ^ (8 * size))
negative-fits size (pos a) fits sign = absurd (omega (arith, ints))
negative-fits size (negsuc a) fits sign =
    let range = fits-range size (negsuc a) fits in
    let within : a < 2 ^ (8 * size) = omega (arith, ints, range.0) in
    let same : a % 2 ^ (8 * size) ≡ a = mod-eq_of_lt within in
    omega (arith, ints)

-- The bytes of data are its number.
pub data-exact : DataIsExact
data-exact size n few =
    let m = natural (int_rem_euclid n (pos (2 ^ 64))) in
    let first : m / 256 ^ 0 ≡ m = omega arith in
    let number : pos (number_of (data_bytes size n)) ≡ int_rem_euclid n (pos (2 ^ (8 * size))) =
    ap pos (number-low 0 size m ∙ ap (λ q. q % 2 ^ (8 * size)) first) ∙ low-64 (8 * size) n (omega arith) in
    record {
      length_is = length-low_first 0 size m;
      are_bytes = low-bytes 0 size m;
      number = number;
      natural = λ fits sign. number ∙ natural-fits size n fits sign;
      negative = λ fits sign. number ∙ negative-fits size n fits sign;
    }
