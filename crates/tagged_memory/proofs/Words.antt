-- The bits of a granule's word.
use Rattle.std.proofs.Common.{◌≡◌, ℕ, ◌+◌, ◌*◌, ◌-◌, ◌/◌, ◌%◌, ◌^◌, ◌<◌, ◌≤◌, bit_and, bit_or, ap, sym, ◌∙◌, arith}
use Rattle.std.proofs.lemmas.Nat.{one_shl, and_mask, or_shifted, shl_whole, shr_below, shr-shr, pow-add, mod_below, mul-add-lt, pow_pos}
use Rattle.machine_types.specs.Granules.{with_bits}

-- a mask of `width` ones leaves the low bits
pub masked : (n width : ℕ) → width < 128 → bit_and n (1 * 2 ^ width % 2 ^ 128 - 1) ≡ n % 2 ^ width
masked n width small = rw (one_shl width 128 small) (and_mask n width)

-- the bits above a place, with room for as many as were there, do not leave the word
above_fits : (n low width rest : ℕ) → n < 2 ^ 128 → rest + (low + width) ≡ 128 → n / 2 ^ low / 2 ^ width < 2 ^ rest
above_fits n low width rest fits whole =
    rw (shr-shr n low width) (shr_below n rest (low + width) (rw whole fits))

-- a number below 2 ^ j, with `width` bits put below it, is below 2 ^ (j + width)
joined_fits : (high j width bits : ℕ) → high < 2 ^ j → bits < 2 ^ width → high * 2 ^ width + bits < 2 ^ (j + width)
joined_fits high j width bits in_high in_bits =
    let turned : j + width ≡ width + j = omega arith in
    let power : 2 ^ (j + width) ≡ 2 ^ width * 2 ^ j = ap (λ k. 2 ^ k) turned ∙ pow-add 2 width j in
    rw power (mul-add-lt high (2 ^ width) bits (2 ^ j) in_high in_bits)

-- two places of a sum are one place
spread : (high bits low p q : ℕ) → (high * q + bits) * p + low ≡ high * (p * q) + bits * p + low
spread high bits low p q = grind arith

-- to take a word apart at two places and to join it with other bits between them is to replace these bits
pub joined_is : (n low width bits : ℕ) → n < 2 ^ 128 → low + width ≤ 128 → bit_or (bit_or (n / 2 ^ low / 2 ^ width * 2 ^ width % 2 ^ 128) (bits % 2 ^ width) * 2 ^ low % 2 ^ 128) (n % 2 ^ low) ≡ with_bits n low width bits
joined_is n low width bits fits room =
    let high : ℕ = n / 2 ^ low / 2 ^ width in
    let field : ℕ = bits % 2 ^ width in
    let rest : ℕ = 128 - (low + width) in
    let high_fits : high < 2 ^ rest = above_fits n low width rest fits (omega arith) in
    let field_fits : field < 2 ^ width = mod_below bits (2 ^ width) (pow_pos width) in
    let low_fits : n % 2 ^ low < 2 ^ low = mod_below n (2 ^ low) (pow_pos low) in
    let both_fit : high * 2 ^ width + field < 2 ^ (rest + width) = joined_fits high rest width field high_fits field_fits in
    ap (λ x. bit_or (bit_or x field * 2 ^ low % 2 ^ 128) (n % 2 ^ low)) (shl_whole high rest width 128 high_fits (omega arith))
    ∙ ap (λ x. bit_or (x * 2 ^ low % 2 ^ 128) (n % 2 ^ low)) (or_shifted high width field field_fits)
    ∙ ap (λ x. bit_or x (n % 2 ^ low)) (shl_whole (high * 2 ^ width + field) (rest + width) low 128 both_fit (omega arith))
    ∙ or_shifted (high * 2 ^ width + field) low (n % 2 ^ low) low_fits
    ∙ spread high field (n % 2 ^ low) (2 ^ low) (2 ^ width)
    ∙ ap (λ x. x * (2 ^ low * 2 ^ width) + field * 2 ^ low + n % 2 ^ low) (shr-shr n low width)
    ∙ ap (λ x. n / 2 ^ (low + width) * x + field * 2 ^ low + n % 2 ^ low) (sym (pow-add 2 low width))
