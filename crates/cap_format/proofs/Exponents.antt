-- The least exponent that is enough for some bytes.
use Rattle.std.proofs.Common.{◌≡◌, ℕ, zero, suc, true, false, inl, inr, ◌+◌, ◌-◌, ◌*◌, ◌%◌, ◌^◌, ◌<◌, ◌≤◌, ap, sym, subst, ◌∙◌, arith}
use Rattle.std.proofs.lemmas.Bool.{cases_eq, cases_lt, cond-true, cond-false, lt-ltb, le-ltb}
use Rattle.std.proofs.lemmas.Nat.{pow_pos, leading_top, one_shl}
use Rattle.std.proofs.Math.Nat.{pow-le-pow_right}
use Rattle.std.specs.Int.Count.{count_leading_zeros}
use Rattle.cap_format.specs.SetBounds.{low_end, high_end, is_enough, first_enough, exponent_for, IsLeastEnough}
use Rattle.cap_format.proofs.Rounding.{pow-sum, reach, reach-least, reach-most, reach-coarser}

-- the scan stops at the first exponent that is enough
first_enough-is : (fuel start address size k : ℕ) → start ≤ k → k < start + fuel → is_enough k address size ≡ true → ((e : ℕ) → start ≤ e → e < k → is_enough e address size ≡ false) → first_enough fuel start address size ≡ k
unfolding first_enough
first_enough-is zero start address size k from to enough least = absurd (omega arith)
first_enough-is (suc fuel) start address size k from to enough least =
    elim (cases_eq start k) [
      | inl e ↦ cond-true (is_enough start address size) start (first_enough fuel (start + 1) address size) (ap (λ x. is_enough x address size) e ∙ enough) ∙ e
      | inr other ↦
          cond-false (is_enough start address size) start (first_enough fuel (start + 1) address size) (least start (omega arith) (omega arith))
          ∙ first_enough-is fuel (start + 1) address size k (omega arith) (omega arith) enough (λ e p q. least e (omega arith) q)
    ]

-- so it gives the least one
pub exponent-is : (k address size : ℕ) → k < 53 → IsLeastEnough k address size → exponent_for address size ≡ k
exponent-is k address size small is =
    first_enough-is 53 0 address size k (omega arith) (omega arith) (lt-ltb _ _ is.enough) (λ e _ q. le-ltb _ _ (is.least e q))

-- the place of the top bit of a size, less 12
pub place-of : (size : ℕ) → 4096 ≤ size → size < 2 ^ 64 → (e : ℕ) × (count_leading_zeros 64 size + e ≡ 51) × (2 ^ (12 + e) ≤ size) × (size < 2 ^ (13 + e))
place-of size some small =
    let (j, count, least, most) = leading_top 64 size (omega arith) small in
    let high : 12 ≤ j = elim (cases_lt j 12) [
      | inl low ↦ (let limit : 2 ^ suc j ≤ 4096 = pow-le-pow_right {n = 2} (omega arith) {i = suc j} {j = 12} (omega arith) in absurd (omega arith))
      | inr h ↦ h
    ] in
    let place : 2 ^ (12 + (j - 12)) ≡ 2 ^ j = ap (λ x. 2 ^ x) (omega arith) in
    let next : 2 ^ (13 + (j - 12)) ≡ 2 ^ suc j = ap (λ x. 2 ^ x) (omega arith) in
    (j - 12, omega arith, rw place least, rw next most)

-- an exponent below that is not enough
below-place : (e place address size : ℕ) → 2 ^ (12 + place) ≤ size → e < place → 2 ^ (e + 13) ≤ reach e address size
below-place e place address size least below =
    let power : 2 ^ (e + 13) ≤ 2 ^ (12 + place) = pow-le-pow_right (omega arith) (omega arith) in
    let whole = reach-least e address size in
    omega arith

-- the one above it is
after-place : (place address size : ℕ) → size < 2 ^ (13 + place) → reach (place + 1) address size < 2 ^ (place + 1 + 13)
after-place place address size most =
    let unit : 2 ^ (place + 1 + 3) ≡ 2 ^ place * 16 = pow-sum (place + 1 + 3) place 4 (omega arith) in
    let limit : 2 ^ (place + 1 + 13) ≡ 2 ^ place * 16384 = pow-sum (place + 1 + 13) place 14 (omega arith) in
    let top : 2 ^ (13 + place) ≡ 2 ^ place * 8192 = pow-sum (13 + place) place 13 (omega arith) in
    let near = reach-most (place + 1) address size in
    let some = pow_pos place in
    omega arith

-- the place itself is the least where it is enough
pub least-at : (place address size : ℕ) → 2 ^ (12 + place) ≤ size → reach place address size < 2 ^ (place + 13) → IsLeastEnough place address size
least-at place address size least enough = record {
  enough = enough;
  least = λ e below. below-place e place address size least below;
}

-- otherwise the next one is
pub least-after : (place address size : ℕ) → 2 ^ (12 + place) ≤ size → size < 2 ^ (13 + place) → 2 ^ (place + 13) ≤ reach place address size → IsLeastEnough (place + 1) address size
least-after place address size least most long = record {
  enough = after-place place address size most;
  least = λ e below. elim (cases_eq e place) [
    | inl same ↦ subst (λ x. 2 ^ (x + 13) ≤ reach x address size) (sym same) long
    | inr other ↦ below-place e place address size least (omega arith)
  ];
}

-- 2^64 bytes have a least one too
least-whole : (address : ℕ) → IsLeastEnough 52 address (2 ^ 64)
least-whole address =
    let near = reach-most 52 address (2 ^ 64) in
    least-at 52 address (2 ^ 64) (omega arith) (omega arith)

-- there is a least one
pub exponent-least : (address size : ℕ) → 4096 ≤ size → size ≤ 2 ^ 64 → IsLeastEnough (exponent_for address size) address size × (exponent_for address size < 53)
exponent-least address size some small =
    elim (cases_lt size (2 ^ 64)) [
      | inr whole ↦ given 52 (omega arith) (let same : 2 ^ 64 ≡ size = omega arith in subst (λ x. IsLeastEnough 52 address x) same (least-whole address))
      | inl below ↦
          (let (place, count, least, most) = place-of size some below in
          elim (cases_lt (reach place address size) (2 ^ (place + 13))) [
            | inl short ↦ given place (omega arith) (least-at place address size least short)
            | inr long ↦ given (place + 1) (omega arith) (least-after place address size least most long)
          ])
    ]
  where
    given : (k : ℕ) → k < 53 → IsLeastEnough k address size → IsLeastEnough (exponent_for address size) address size × (exponent_for address size < 53)
    given k below is =
        let same = exponent-is k address size below is in
        (subst (λ x. IsLeastEnough x address size) (sym same) is, omega arith)

-- at the least exponent the rounded bytes are 2^(E+12) or more
pub exponent-long : (k address size : ℕ) → 4096 ≤ size → IsLeastEnough k address size → 2 ^ k * 4096 ≤ reach k address size
exponent-long zero address size some is =
    let whole = reach-least 0 address size in
    omega arith
exponent-long (suc k) address size some is =
    let short : 2 ^ (k + 13) ≤ reach k address size = is.least k (omega arith) in
    let coarser : reach k address size ≤ reach (k + 1) address size = reach-coarser k 1 address size in
    let next : reach (k + 1) address size ≡ reach (suc k) address size = ap (λ x. reach x address size) (omega arith) in
    let power : 2 ^ (k + 13) ≡ 2 ^ suc k * 4096 = pow-sum (k + 13) (suc k) 12 (omega arith) in
    omega arith

-- the exponent that the leading zeros give is the place
counted : (e size : ℕ) → 4096 ≤ size → size < 2 ^ 64 → e ≡ 51 - count_leading_zeros 64 size → (2 ^ (12 + e) ≤ size) × (size < 2 ^ (13 + e)) × (e ≤ 51)
counted e size some small is =
    let (place, count, least, most) = place-of size some small in
    let same : place ≡ e = omega arith in
    (rw same at least, rw same at most, omega arith)

-- where the rounded bytes are short enough at the place, that is the exponent
pub place-enough : (e address size low high : ℕ) → 4096 ≤ size → size < 2 ^ 64 → e ≡ 51 - count_leading_zeros 64 size → low ≡ low_end e address → high ≡ high_end e address size → high - low < 1 * 2 ^ (e + 13) % 2 ^ 128 → exponent_for address size ≡ e
place-enough e address size low high some small is l h short =
    let place = counted e size some small is in
    let limit : 1 * 2 ^ (e + 13) % 2 ^ 128 ≡ 2 ^ (e + 13) = one_shl (e + 13) 128 (omega arith) in
    exponent-is e address size (omega arith) (least-at e address size place.0 (rw (limit, l, h) at short))

-- otherwise the next one is
pub place-short : (e address size low high : ℕ) → 4096 ≤ size → size < 2 ^ 64 → e ≡ 51 - count_leading_zeros 64 size → low ≡ low_end e address → high ≡ high_end e address size → 1 * 2 ^ (e + 13) % 2 ^ 128 ≤ high - low → exponent_for address size ≡ e + 1
place-short e address size low high some small is l h long =
    let place = counted e size some small is in
    let limit : 1 * 2 ^ (e + 13) % 2 ^ 128 ≡ 2 ^ (e + 13) = one_shl (e + 13) 128 (omega arith) in
    exponent-is (e + 1) address size (omega arith) (least-after e address size place.0 place.1 (rw (limit, l, h) at long))
