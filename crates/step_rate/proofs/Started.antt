-- A process at its start.
use Rattle.std.proofs.Common.{◌≡◌, ℕ, ◌+◌, ap, IsTrue, List, ◌==◌, arith}
use Rattle.std.specs.Prelude.{pos, is_some, bit_and, Option}
use Rattle.std.proofs.lemmas.Int.{ints}
use Rattle.cap_format.specs.declared.cap.Cap.{Cap}
use Rattle.cap_format.specs.Pattern.{address_of, perms_of, kind_of, base_of, top_of}
use Rattle.cap_format.specs.Region.{region_start, IsInside}
use Rattle.cap_format.specs.Numbers.{region_bytes, permit_execute}
use Rattle.cap_format.specs.Code.{IsCode}
use Rattle.machine_types.specs.Registers.{IsRegisterFile, AreInside}
use Rattle.machine_types.specs.Stores.{Store}
use Rattle.contents.specs.Content.{Content, page_in}
use Rattle.contents.specs.Conditions.{HasStore, HasEmptyStore, LacksPage}
use Rattle.cheri_step.specs.Effect.{CanStep}

-- an empty store lacks each page
pub empty-lacks : (region page : ℕ) (c : Content) → HasEmptyStore region c → LacksPage region page c
empty-lacks region page c empty = record { store = ap is_some empty; absent = ap (λ (o : Option Store). page_in o page) empty }

-- a capability of the whole of region 0 is inside it
pub whole-inside : (cap : Cap) → base_of cap.bits ≡ pos (region_start 0) → top_of cap.bits ≡ pos (region_start 0 + region_bytes) → IsInside cap.bits 0
whole-inside cap base top = record { from = omega (arith, ints, base); to = omega (arith, ints, top) }

-- and code, where it may load and execute
pub whole-code : (cap : Cap) → IsTrue cap.tag → kind_of cap.bits ≡ 0 → address_of cap.bits ≡ region_start 0 → perms_of cap.bits ≡ 6 → IsCode cap
whole-code cap tag plain address perms = record {
  tagged = tag;
  plain = plain;
  executes = ap (λ p. bit_and p permit_execute == permit_execute) perms;
  aligned = omega (arith, address);
}

-- so a process with such a PCC may make a step
pub started : (registers : List Cap) (pcc : Cap) → IsRegisterFile registers → AreInside registers 0 → IsCode pcc → IsInside pcc.bits 0 → (c : Content) → HasStore 0 c → CanStep 0 registers pcc c
started registers pcc file inside code counter c store = record { store = store; code = code; file = file; counter = λ tagged. counter; registers_held = inside }
