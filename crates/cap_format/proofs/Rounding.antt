-- Numbers rounded to multiples, and the bytes from an address rounded outwards.
use Rattle.std.proofs.Common.{◌≡◌, ℕ, ◌+◌, ◌-◌, ◌*◌, ◌/◌, ◌^◌, ◌<◌, ◌≤◌, ap, ◌∙◌, arith}
use Rattle.std.proofs.lemmas.Nat.{pow_pos, pow-add, div-add-mod', mod_below}
use Rattle.std.proofs.Math.Nat.{mul-le-mul_right, div-mul-le_self, lt_of_mul-lt-mul_right}
use Rattle.cap_format.specs.SetBounds.{down_to, up_to, low_end, high_end}

-- a power of two whose exponent is a sum is a product
pub pow-sum : (k i j : ℕ) → k ≡ i + j → 2 ^ k ≡ 2 ^ i * 2 ^ j
pow-sum k i j h = ap (λ x. 2 ^ x) h ∙ pow-add 2 i j

-- rounding down gives no more
pub down-below : (n m : ℕ) → down_to n m ≤ n
down-below n m = div-mul-le_self n m

-- and less than a multiple less
pub down-near : (n m : ℕ) → 0 < m → n < down_to n m + m
down-near n m some =
    let parts = div-add-mod' n m in
    let rest = mod_below n m some in
    omega arith

-- rounding up gives no less
pub up-above : (n m : ℕ) → 0 < m → n ≤ up_to n m
up-above n m some =
    let near = down-near (n + (m - 1)) m some in
    omega arith

-- and less than a multiple more
pub up-near : (n m : ℕ) → 0 < m → up_to n m < n + m
up-near n m some =
    let below = down-below (n + (m - 1)) m in
    omega arith

-- a multiple, less some multiples, that is no more than a number is no more than the number rounded down
pub down-keeps : (p q n m : ℕ) → 0 < m → p * m ≤ n + q * m → p * m ≤ down_to n m + q * m
down-keeps p q n m some h =
    let near = down-near n m some in
    let below : p * m < (n / m + 1 + q) * m = omega arith in
    let fewer = lt_of_mul-lt-mul_right m {m = p} {n = n / m + 1 + q} below in
    let most : p * m ≤ (n / m + q) * m = mul-le-mul_right {m = p} {n = n / m + q} m (omega arith) in
    omega arith

-- a multiple, less some multiples, that is no less than a number is no less than the number rounded up
pub up-keeps : (p q n m : ℕ) → 0 < m → n + q * m ≤ p * m → up_to n m + q * m ≤ p * m
up-keeps p q n m some h =
    let near = up-near n m some in
    let below : ((n + (m - 1)) / m + q) * m < (p + 1) * m = omega arith in
    let fewer = lt_of_mul-lt-mul_right m {m = (n + (m - 1)) / m + q} {n = p + 1} below in
    let most : ((n + (m - 1)) / m + q) * m ≤ p * m = mul-le-mul_right {m = (n + (m - 1)) / m + q} {n = p} m (omega arith) in
    omega arith

-- the length of the bytes from an address, rounded outwards
abbrev pub reach : ℕ → ℕ → ℕ → ℕ
reach exponent address size = high_end exponent address size - low_end exponent address

-- both ends lie outwards
pub reach-order : (e address size : ℕ) → (low_end e address ≤ address) × (address + size ≤ high_end e address size)
reach-order e address size = (down-below address (2 ^ (e + 3)), up-above (address + size) (2 ^ (e + 3)) (pow_pos (e + 3)))

-- it is no shorter than the bytes
pub reach-least : (e address size : ℕ) → size ≤ reach e address size
reach-least e address size =
    let low = (reach-order e address size).0 in
    let high = (reach-order e address size).1 in
    omega arith

-- and less than two multiples longer
pub reach-most : (e address size : ℕ) → reach e address size < size + 2 * 2 ^ (e + 3)
reach-most e address size =
    let low = down-near address (2 ^ (e + 3)) (pow_pos (e + 3)) in
    let high = up-near (address + size) (2 ^ (e + 3)) (pow_pos (e + 3)) in
    omega arith

-- a coarser rounding goes further down
pub low-coarser : (e d address : ℕ) → low_end (e + d) address ≤ low_end e address
low-coarser e d address =
    let unit : 2 ^ (e + d + 3) ≡ 2 ^ d * 2 ^ (e + 3) = pow-sum (e + d + 3) d (e + 3) (omega arith) in
    let scaled = ap (λ x. address / 2 ^ (e + d + 3) * x) unit in
    let below = down-below address (2 ^ (e + d + 3)) in
    let kept = down-keeps (address / 2 ^ (e + d + 3) * 2 ^ d) 0 address (2 ^ (e + 3)) (pow_pos (e + 3)) (omega arith) in
    omega arith

-- and further up
pub high-coarser : (e d address size : ℕ) → high_end e address size ≤ high_end (e + d) address size
high-coarser e d address size =
    let unit : 2 ^ (e + d + 3) ≡ 2 ^ d * 2 ^ (e + 3) = pow-sum (e + d + 3) d (e + 3) (omega arith) in
    let count = (address + size + (2 ^ (e + d + 3) - 1)) / 2 ^ (e + d + 3) in
    let scaled = ap (λ x. count * x) unit in
    let above : address + size ≤ count * 2 ^ (e + d + 3) = up-above (address + size) (2 ^ (e + d + 3)) (pow_pos (e + d + 3)) in
    let kept = up-keeps (count * 2 ^ d) 0 (address + size) (2 ^ (e + 3)) (pow_pos (e + 3)) (omega arith) in
    omega arith

-- so a coarser rounding is no shorter
pub reach-coarser : (e d address size : ℕ) → reach e address size ≤ reach (e + d) address size
reach-coarser e d address size =
    let low = low-coarser e d address in
    let high = high-coarser e d address size in
    omega arith
