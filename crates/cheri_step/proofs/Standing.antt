-- A capability with another address in its bounds, and PCC at the next instruction.
use Rattle.std.proofs.Common.{◌≡◌, ℕ, ◌+◌, ◌/◌, ◌==◌, ◌&&◌, ◌^◌, ◌<◌, IsTrue, true, bit_and, ap, sym, ◌∙◌, arith}
use Rattle.std.specs.Ordering.{int_eq}
use Rattle.std.proofs.lemmas.Int.{ints}
use Rattle.std.proofs.lemmas.Bool.{and_from, eq-eqb}
use Rattle.std.proofs.lemmas.Bool.Decides.{Decides-int_eq}
use Rattle.cap_format.specs.Numbers.{permit_execute}
use Rattle.cap_format.specs.declared.cap.Cap.{Cap}
use Rattle.cap_format.specs.Pattern.{address_of, kind_of, base_of, top_of, with_address_bits}
use Rattle.cap_format.specs.Made.{with_address}
use Rattle.cap_format.specs.Rights.{allows, holds}
use Rattle.cap_format.specs.Code.{IsCode}
use Rattle.cap_format.proofs.Bases.{with_address-meta, within-base, within-top}
use Rattle.cap_format.proofs.Moves.{with_address-from}
use Rattle.cap_format.proofs.Patterns.{upper-kind, upper-perms}
use Rattle.cap_format.proofs.Within.{held-when}
use Rattle.cheri_step.specs.Held.{MayStandAt}
use Rattle.cheri_step.specs.Results.{next_pcc}
use Rattle.cheri_step.proofs.KeptCounters.{next-is}
use Rattle.cheri_step.proofs.StillSealed.{next-on}

-- what keeps the tag, where it may stand at an address
standing-keeps : (cap : Cap) (address : ℕ) → address < 2 ^ 64 → MayStandAt cap address
    → IsTrue (cap.tag && (kind_of cap.bits == 0) && int_eq (base_of (with_address_bits cap.bits address)) (base_of cap.bits) && int_eq (top_of (with_address_bits cap.bits address)) (top_of cap.bits))
standing-keeps cap address fits stands =
    let base = within-base cap.bits address fits stands.from stands.to in
    let top = within-top cap.bits address fits stands.from stands.to in
    and_from _ _ (and_from _ _ (and_from cap.tag (kind_of cap.bits == 0) stands.tagged (eq-eqb (kind_of cap.bits) 0 stands.plain)) ((Decides-int_eq _ _).1 base)) ((Decides-int_eq _ _).1 top)

-- where it may stand at an address, it has its tag there
pub standing-is : (cap : Cap) (address bits : ℕ) → address < 2 ^ 64 → MayStandAt cap address → bits ≡ with_address_bits cap.bits address → ◌≡◌ {A = Cap} record { bits = bits; tag = true } (with_address cap address)
standing-is cap address bits fits stands is = with_address-from cap address bits true is (rw is (sym (standing-keeps cap address fits stands)))

-- where its four bytes lie in its bounds, code may stand behind them
stands-next : (pcc : Cap) → IsCode pcc → IsTrue (holds pcc.bits (address_of pcc.bits) 4) → MayStandAt pcc (address_of pcc.bits + 4)
stands-next pcc code held =
    let bytes = held-when pcc.bits (address_of pcc.bits) 4 held in
    let from = bytes.from in
    record { tagged = code.tagged; plain = code.plain; from = omega (arith, ints, from); to = bytes.to }

-- with its tag
next-tagged : (pcc : Cap) → IsCode pcc → IsTrue (holds pcc.bits (address_of pcc.bits) 4) → address_of pcc.bits + 4 < 2 ^ 64 → IsTrue (with_address pcc (address_of pcc.bits + 4)).tag
unfolding with_address
next-tagged pcc code held fits = standing-keeps pcc (address_of pcc.bits + 4) fits (stands-next pcc code held)

-- and its kind
next-plain : (pcc : Cap) → address_of pcc.bits + 4 < 2 ^ 64 → kind_of (with_address pcc (address_of pcc.bits + 4)).bits ≡ kind_of pcc.bits
unfolding with_address
next-plain pcc fits = upper-kind _ pcc.bits (ap (λ m. m / 2 ^ 27) (with_address-meta pcc.bits (address_of pcc.bits + 4) fits))

-- and its permissions
next-allows : (pcc : Cap) → address_of pcc.bits + 4 < 2 ^ 64 → allows (with_address pcc (address_of pcc.bits + 4)).bits permit_execute ≡ allows pcc.bits permit_execute
unfolding with_address
next-allows pcc fits = ap (λ x. bit_and x permit_execute == permit_execute) (upper-perms _ pcc.bits (ap (λ m. m / 2 ^ 27) (with_address-meta pcc.bits (address_of pcc.bits + 4) fits)))

-- so it is code there too, where the address doesn't wrap
pub next-code : (pcc : Cap) → IsCode pcc → IsTrue (holds pcc.bits (address_of pcc.bits) 4) → address_of pcc.bits + 4 < 2 ^ 64 → IsCode (next_pcc pcc)
next-code pcc code held fits =
    let aligned = code.aligned in
    let on = next-on pcc fits in
    record {
      tagged = rw (next-is pcc fits) (next-tagged pcc code held fits);
      plain = rw (next-is pcc fits) (next-plain pcc fits ∙ code.plain);
      executes = rw (next-is pcc fits) (next-allows pcc fits ∙ code.executes);
      aligned = omega (arith, on, aligned);
    }
