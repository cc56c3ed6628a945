-- What derives from a capability: its bounds and permissions are among those of its source.
use Rattle.std.proofs.Common.{◌≡◌, ℕ, Bool, true, false, ◌==◌, ◌&&◌, IsTrue, cond, ◌+◌, ◌*◌, ◌/◌, ◌%◌, ◌^◌, ◌<◌, ◌≤◌, refl, ap, sym, ◌∙◌, arith}
use Rattle.std.specs.Prelude.{ℤ, ◌≤ℤ◌, bit_and}
use Rattle.std.specs.Ordering.{int_eq}
use Rattle.std.specs.Int.Bits.{and_self}
use Rattle.std.proofs.lemmas.Int.{ints}
use Rattle.std.proofs.lemmas.Nat.{mod_below, and_assoc, and_le_l}
use Rattle.std.proofs.lemmas.Bool.{and_parts, eq-eqb, eqb-true}
use Rattle.std.proofs.lemmas.Bool.Decides.{Decides-int_eq}
use Rattle.cap_format.specs.Numbers.{permit_execute, permit_load_capability}
use Rattle.cap_format.specs.declared.cap.Cap.{Cap}
use Rattle.cap_format.specs.Pattern.{address_of, perms_of, kind_of, base_of, top_of, with_address_bits}
use Rattle.cap_format.specs.Made.{from_int, with_address}
use Rattle.cap_format.specs.SetBounds.{set_bounds, bounded}
use Rattle.cap_format.specs.Region.{IsInside}
use Rattle.cap_format.specs.Rights.{allows, holds}
use Rattle.cap_format.specs.Sealing.{with_kind_bits, with_perms_bits, and_perms, seal_entry, unseal_entry}
use Rattle.cap_format.proofs.Bases.{with_address-meta}
use Rattle.cap_format.proofs.NewBases.{new-base, new-top, new-upper}
use Rattle.cap_format.proofs.Patterns.{upper-perms}
use Rattle.cap_format.proofs.Sealed.{perms-base, perms-top, kind-base, kind-top}
use Rattle.cap_format.proofs.Within.{tagged-within}
use Rattle.riscv_decode.specs.declared.instr.RegOp.{RegOp}
use Rattle.riscv_decode.specs.declared.instr.RegOp.TheVariants as reg
use Rattle.riscv_decode.specs.declared.instr.ImmOp.{ImmOp}
use Rattle.riscv_decode.specs.declared.instr.UpperOp.{UpperOp}
use Rattle.riscv_decode.specs.declared.instr.UpperOp.TheVariants as upper
use Rattle.riscv_decode.specs.declared.instr.OneOp.{OneOp}
use Rattle.riscv_decode.specs.declared.instr.OneOp.TheVariants as one
use Rattle.riscv_decode.specs.declared.instr.LoadOp.{LoadOp}
use Rattle.riscv_decode.specs.declared.instr.LoadOp.TheVariants as load
use Rattle.int_step.specs.Values.{sum, operand, register_row, extended}
use Rattle.cheri_step.specs.Results.{Derives, integer_of, exact_bounds, reg_result, imm_result, upper_result, one_result, next_pcc}
use Rattle.cheri_step.specs.Tests.{is_entry}
use Rattle.cheri_step.specs.Plans.{loaded, link, unsealed}

-- an untagged capability derives from any
pub derives-untagged : (from to : Cap) → to.tag ≡ false → Derives from to
derives-untagged from to untagged = record {
  tagged = λ t. absurd (cc);
  base = λ t. absurd (cc);
  top = λ t. absurd (cc);
  permissions = λ t. absurd (cc);
}

-- what derives where it is tagged derives
pub derives-tagged : (from to : Cap) → (IsTrue to.tag → Derives from to) → Derives from to
derives-tagged from to h = record {
  tagged = λ t. (h t).tagged t;
  base = λ t. (h t).base t;
  top = λ t. (h t).top t;
  permissions = λ t. (h t).permissions t;
}

-- permissions are among themselves
same-allows : (bits new : ℕ) → perms_of new ≡ perms_of bits → allows bits (perms_of new) ≡ true
same-allows bits new same = eq-eqb (bit_and (perms_of bits) (perms_of new)) (perms_of new) (ap (λ x. bit_and x (perms_of new)) (sym same) ∙ and_self (perms_of new))

-- equal integers are in order
equal-below : (x y : ℤ) → x ≡ y → x ≤ℤ y
equal-below x y same = omega (arith, ints)

-- with the same bounds and permissions it derives
pub derives-same : (from to : Cap) → (IsTrue to.tag → IsTrue from.tag) → base_of to.bits ≡ base_of from.bits → top_of to.bits ≡ top_of from.bits → perms_of to.bits ≡ perms_of from.bits → Derives from to
derives-same from to tag base top perms = record {
  tagged = tag;
  base = λ t. equal-below _ _ (sym base);
  top = λ t. equal-below _ _ top;
  permissions = λ t. same-allows from.bits to.bits perms;
}

-- a capability derives from itself
pub derives-itself : (cap : Cap) → Derives cap cap
derives-itself cap = derives-same cap cap (λ t. t) refl refl refl

-- permissions among others are among what those are among
allows-through : (a b c : ℕ) → (bit_and a b == b) ≡ true → (bit_and b c == c) ≡ true → (bit_and a c == c) ≡ true
allows-through a b c outer inner =
    let first : bit_and a b ≡ b = eqb-true (bit_and a b) b outer in
    let second : bit_and b c ≡ c = eqb-true (bit_and b c) c inner in
    eq-eqb (bit_and a c) c (ap (bit_and a) (sym second) ∙ sym (and_assoc c a b) ∙ ap (λ x. bit_and x c) first ∙ second)

-- what derives from something that derives, derives
pub derives-through : (from over to : Cap) → Derives from over → Derives over to → Derives from to
derives-through from over to first second = record {
  tagged = λ t. first.tagged (second.tagged t);
  base = λ t. let low = first.base (second.tagged t) in let high = second.base t in omega (arith, ints, low, high);
  top = λ t. let low = second.top t in let high = first.top (second.tagged t) in omega (arith, ints, low, high);
  permissions = λ t. allows-through (perms_of from.bits) (perms_of over.bits) (perms_of to.bits) (first.permissions (second.tagged t)) (second.permissions t);
}

-- the tag of another address: the source is tagged, and the bounds stay
abbrev pub moved-tag : Bool → ℕ → ℕ → Bool
moved-tag tag bits new = tag && (kind_of bits == 0) && int_eq (base_of new) (base_of bits) && int_eq (top_of new) (top_of bits)

-- what such a tag says
pub record WasMoved (tag : Bool) (bits new : ℕ) : Type 0 where
  pub tagged : IsTrue tag
  pub plain : kind_of bits ≡ 0
  pub base : base_of new ≡ base_of bits
  pub top : top_of new ≡ top_of bits

-- it says so where it is set
pub was-moved : (tag : Bool) (bits new : ℕ) → IsTrue (moved-tag tag bits new) → WasMoved tag bits new
was-moved tag bits new h =
    let outer = and_parts (tag && (kind_of bits == 0) && int_eq (base_of new) (base_of bits)) (int_eq (top_of new) (top_of bits)) h in
    let middle = and_parts (tag && (kind_of bits == 0)) (int_eq (base_of new) (base_of bits)) outer.0 in
    let inner = and_parts tag (kind_of bits == 0) middle.0 in
    record {
      tagged = inner.0;
      plain = eqb-true (kind_of bits) 0 inner.1;
      base = (Decides-int_eq _ _).0 middle.1;
      top = (Decides-int_eq _ _).0 outer.1;
    }

-- another address derives
pub derives-address : (cap : Cap) (address : ℕ) → address < 2 ^ 64 → Derives cap (with_address cap address)
unfolding with_address
derives-address cap address fits =
    derives-tagged cap (with_address cap address) (λ t.
    let was = was-moved cap.tag cap.bits (with_address_bits cap.bits address) t in
    derives-same cap (with_address cap address) (λ t. was.tagged) was.base was.top (ap (λ m. m / 2 ^ 48 % 2 ^ 16) (with_address-meta cap.bits address fits)))

-- other bounds derive, with a tag where theirs is
pub derives-bounds : (cap : Cap) (size : ℕ) (tag : Bool) → size < 2 ^ 64 → (IsTrue tag → IsTrue (set_bounds cap size).cap.tag) → Derives cap (record { bits = bounded cap.bits size; tag = tag })
unfolding set_bounds
derives-bounds cap size tag fits h = record {
  tagged = λ t. (and_parts cap.tag ((kind_of cap.bits == 0) && holds cap.bits (address_of cap.bits) size) (h t)).0;
  base = λ t. rw (new-base cap.bits size (omega arith)) (tagged-within cap.tag (kind_of cap.bits == 0) cap.bits (address_of cap.bits) size fits (h t)).0;
  top = λ t. rw (new-top cap.bits size (omega arith)) (tagged-within cap.tag (kind_of cap.bits == 0) cap.bits (address_of cap.bits) size fits (h t)).1;
  permissions = λ t. same-allows cap.bits (bounded cap.bits size) (upper-perms (bounded cap.bits size) cap.bits (new-upper cap.bits size (omega arith)));
}

-- other permissions stand where they are put
perms-put : (bits perms : ℕ) → perms < 2 ^ 16 → perms_of (with_perms_bits bits perms) ≡ perms
perms-put bits perms small = omega arith

-- another kind leaves the permissions
pub kind-perms : (bits kind : ℕ) → kind < 2 ^ 18 → perms_of (with_kind_bits bits kind) ≡ perms_of bits
kind-perms bits kind small = omega arith

-- fewer permissions are among the old ones
fewer-allows : (bits mask : ℕ) → allows bits (perms_of (with_perms_bits bits (bit_and (perms_of bits) mask))) ≡ true
fewer-allows bits mask =
    let few : bit_and (perms_of bits) mask ≤ perms_of bits = and_le_l (perms_of bits) mask in
    let old : perms_of bits < 2 ^ 16 = mod_below _ (2 ^ 16) (omega arith) in
    let put = perms-put bits (bit_and (perms_of bits) mask) (omega arith) in
    let twice : bit_and (perms_of bits) (bit_and (perms_of bits) mask) ≡ bit_and (perms_of bits) mask = sym (and_assoc mask (perms_of bits) (perms_of bits)) ∙ ap (λ x. bit_and x mask) (and_self (perms_of bits)) in
    eq-eqb _ _ (ap (bit_and (perms_of bits)) put ∙ twice ∙ sym put)

-- so it derives
pub derives-perms : (cap : Cap) (mask : ℕ) → Derives cap (and_perms cap mask)
unfolding and_perms
derives-perms cap mask = record {
  tagged = λ t. (and_parts cap.tag (kind_of cap.bits == 0) t).0;
  base = λ t. equal-below _ _ (sym (perms-base cap.bits (bit_and (perms_of cap.bits) mask)));
  top = λ t. equal-below _ _ (perms-top cap.bits (bit_and (perms_of cap.bits) mask));
  permissions = λ t. fewer-allows cap.bits mask;
}

-- so does another kind
pub derives-kind : (cap : Cap) (kind : ℕ) (tag : Bool) → kind < 2 ^ 18 → (IsTrue tag → IsTrue cap.tag) → Derives cap (record { bits = with_kind_bits cap.bits kind; tag = tag })
derives-kind cap kind tag small h = derives-same cap (record { bits = with_kind_bits cap.bits kind; tag = tag }) h (kind-base cap.bits kind) (kind-top cap.bits kind) (kind-perms cap.bits kind small)

-- as a sealed entry has it
pub derives-sealed : (cap : Cap) → Derives cap (seal_entry cap)
unfolding seal_entry
derives-sealed cap = derives-kind cap 1 _ (omega arith) (λ t. (and_parts cap.tag ((kind_of cap.bits == 0) && allows cap.bits permit_execute) t).0)

-- and one that is unsealed
pub derives-unsealed : (cap : Cap) → Derives cap (unsealed cap)
unfolding unseal_entry
derives-unsealed cap = by (is_entry cap)
  where
    by : (entry : Bool) → Derives cap (cond entry (unseal_entry cap) cap)
    by true = derives-kind cap 0 cap.tag (omega arith) (λ t. t)
    by false = derives-itself cap

-- the bounds that are asked for derive, rounded
pub derives-rounded : (cap : Cap) (size : ℕ) → size < 2 ^ 64 → Derives cap (set_bounds cap size).cap
unfolding set_bounds
derives-rounded cap size fits = derives-bounds cap size _ fits (λ t. t)

-- or exact
pub derives-exact : (cap : Cap) (size : ℕ) → size < 2 ^ 64 → Derives cap (exact_bounds cap size)
unfolding set_bounds
derives-exact cap size fits = derives-bounds cap size _ fits (λ t. (and_parts (set_bounds cap size).cap.tag (set_bounds cap size).exact t).0)

-- an integer has 64 bits
pub integer-fits : (cap : Cap) → integer_of cap < 2 ^ 64
integer-fits cap = mod_below cap.bits (2 ^ 64) (omega arith)

-- so does a sum
pub sum-fits : (a b : ℕ) → sum 64 a b < 2 ^ 64
sum-fits a b = mod_below (a + b) (2 ^ 64) (omega arith)

-- the result of a row of two sources derives from the first
pub derives-reg : (op : RegOp) (a b : Cap) → Derives a (reg_result op a b)
derives-reg reg.CSetBounds a b = derives-rounded a (integer_of b) (integer-fits b)
derives-reg reg.CSetBoundsExact a b = derives-exact a (integer_of b) (integer-fits b)
derives-reg reg.CAndPerm a b = derives-perms a (integer_of b % 2 ^ 16)
derives-reg reg.CSetAddr a b = derives-address a (integer_of b) (integer-fits b)
derives-reg reg.CIncOffset a b = derives-address a (sum 64 (integer_of a) (integer_of b)) (sum-fits (integer_of a) (integer_of b))
derives-reg _ a b = derives-untagged a _ refl

-- that of a row of an immediate from its source
pub derives-imm : (op : ImmOp) (a : Cap) (imm : ℤ) → Derives a (imm_result op a imm)
derives-imm op a imm = derives-reg (register_row op) a (from_int (operand imm))

-- that of a row of an upper immediate from PCC
pub derives-upper : (op : UpperOp) (pcc : Cap) (imm : ℕ) → Derives pcc (upper_result op pcc imm)
derives-upper upper.Lui pcc imm = derives-untagged pcc _ refl
derives-upper upper.Auipcc pcc imm = derives-address pcc _ (sum-fits (integer_of pcc) (extended (imm * 4096)))

-- that of a row of one source from it
pub derives-one : (op : OneOp) (a : Cap) → Derives a (one_result op a)
derives-one one.CMove a = derives-itself a
derives-one one.CSealEntry a = derives-sealed a
derives-one _ a = derives-untagged a _ refl

-- PCC after an instruction from PCC
pub derives-next : (pcc : Cap) → Derives pcc (next_pcc pcc)
derives-next pcc = derives-address pcc _ (sum-fits (integer_of pcc) 4)

-- the way back from a jump from PCC
pub derives-back : (pcc : Cap) → Derives pcc (link pcc)
derives-back pcc = derives-through pcc (next_pcc pcc) (link pcc) (derives-next pcc) (derives-sealed (next_pcc pcc))

-- the target of a jump from its capability
pub derives-target : (cap : Cap) (target : ℕ) → target < 2 ^ 64 → Derives cap (with_address (unsealed cap) target)
derives-target cap target fits = derives-through cap (unsealed cap) (with_address (unsealed cap) target) (derives-unsealed cap) (derives-address (unsealed cap) target fits)

-- what a load puts from what it loaded
pub derives-loaded : (op : LoadOp) (authority value : Cap) → Derives value (loaded op authority value)
derives-loaded load.Lb authority value = derives-untagged value _ refl
derives-loaded load.Lh authority value = derives-untagged value _ refl
derives-loaded load.Lw authority value = derives-untagged value _ refl
derives-loaded load.Clc authority value = by (allows authority.bits permit_load_capability)
  where
    by : (allowed : Bool) → Derives value (cond allowed value (record value { tag = false }))
    by true = derives-itself value
    by false = derives-untagged value _ refl
derives-loaded _ authority value = derives-itself value

-- what derives from a capability that is inside a region where it is tagged is so too
pub derived-inside : (region : ℕ) (from to : Cap) → Derives from to → (IsTrue from.tag → IsInside from.bits region) → IsTrue to.tag → IsInside to.bits region
derived-inside region from to derives held tagged =
    let inside = held (derives.tagged tagged) in
    let low = derives.base tagged in
    let high = derives.top tagged in
    let first = inside.from in
    let last = inside.to in
    record { from = omega (arith, ints, low, first); to = omega (arith, ints, high, last) }
