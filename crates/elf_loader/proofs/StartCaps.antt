-- What the relocations of an image store, and PCC and the registers at its start.
use Rattle.std.proofs.Common.{◌≡◌, ◌≢◌, ◌⊎◌, inl, inr, ℕ, ◌+◌, ◌%◌, ◌^◌, ◌<◌, ◌==◌, nat_eq, true, false, IsTrue, replicate, refl, ap, sym, ◌∙◌, subst, arith}
use Rattle.std.specs.Prelude.{bit_and}
use Rattle.std.proofs.lemmas.Nat.{and_le_r}
use Rattle.std.proofs.lemmas.Bool.{false≢true}
use Rattle.std.proofs.lemmas.Bool.Decides.{eqb_tells}
use Rattle.std.proofs.lemmas.List.{get_or-set_other}
use Rattle.std.proofs.lemmas.List.Elements.{All-replicate, All-set}
use Rattle.cap_format.specs.Numbers.{region_bytes, permit_execute, all_permissions}
use Rattle.cap_format.specs.declared.cap.Cap.{Cap}
use Rattle.cap_format.specs.Pattern.{KeepsBoundsWithin}
use Rattle.cap_format.specs.Region.{IsInside}
use Rattle.cap_format.specs.Made.{null, root, with_address}
use Rattle.cap_format.specs.Code.{IsCode}
use Rattle.machine_types.specs.Registers.{register, IsRegisterFile, AreInside}
use Rattle.machine_types.proofs.RegisterLemmas.{register-null}
use Rattle.elf_loader.specs.declared.image.Reloc.{Reloc}
use Rattle.elf_loader.specs.Numbers.{process_region, code_permissions, data_permissions}
use Rattle.elf_loader.specs.Start.{capability_for, start_registers, start_pcc}
use Rattle.elf_loader.specs.StartLaws.{region_first, region_past, IsPlainCap, IsCapabilityOf}
use Rattle.elf_loader.specs.Adding.{IsPlaceable}
use Rattle.elf_loader.proofs.PlainCaps.{root-plain, plain-inside, with_address-plain, set_bounds-plain}
use Rattle.elf_loader.proofs.ImageParts.{HasExactBounds}

module _ (keeps : KeepsBoundsWithin) (reloc : Reloc) (placeable : IsPlaceable reloc) (exact : HasExactBounds reloc) where
  -- the root at the base of a relocation
  at-base : IsPlainCap reloc.perms region_first region_past (region_first + reloc.base) (with_address (root process_region reloc.perms) (region_first + reloc.base))
  at-base =
      let within = placeable.within in
      let most = and_le_r reloc.perms all_permissions in
      let fits = placeable.perms in
      with_address-plain keeps (root-plain process_region reloc.perms (omega arith) (omega arith)) (region_first + reloc.base) (omega arith) (omega arith) (omega arith)

  -- what a relocation stores has the bounds and the address that it says
  pub reloc-capability : IsCapabilityOf reloc (capability_for reloc)
  reloc-capability =
      let within = placeable.within in
      let offset = placeable.offset in
      let bounded = set_bounds-plain at-base reloc.length (omega arith) (omega arith) (omega arith) exact in
      with_address-plain keeps bounded (region_first + reloc.base + reloc.offset) (omega arith) (omega arith) (omega arith)

  -- inside the region
  pub reloc-inside : IsInside (capability_for reloc).bits process_region
  reloc-inside = let within = placeable.within in plain-inside process_region reloc-capability (omega arith) (omega arith)

module _ (keeps : KeepsBoundsWithin) (entry : ℕ) (below : entry < region_bytes) where
  -- PCC at the start is the whole region for code, at the entry
  pub pcc-plain : IsPlainCap code_permissions region_first region_past (region_first + entry) (start_pcc entry)
  pcc-plain = with_address-plain keeps (root-plain process_region code_permissions (omega arith) (omega arith)) (region_first + entry) (omega arith) (omega arith) (omega arith)

  -- so it is code, where the entry is a multiple of 4
  pub pcc-code : entry % 4 ≡ 0 → IsCode (start_pcc entry)
  pcc-code aligned =
      let is = pcc-plain in
      let address = is.address in record {
        tagged = is.tagged;
        plain = is.plain;
        executes = ap (λ perms. bit_and perms permit_execute == permit_execute) is.perms;
        aligned = rw address (omega arith);
      }

  -- inside the region
  pub pcc-inside : IsInside (start_pcc entry).bits process_region
  pcc-inside = plain-inside process_region pcc-plain (omega arith) (omega arith)

-- register 2 at the start is the whole region for data
abbrev whole : Cap
whole = root process_region data_permissions

pub data-plain : IsPlainCap data_permissions region_first region_past region_first whole
data-plain = root-plain process_region data_permissions (omega arith) (omega arith)

-- the registers at the start are a register file
pub start-file : IsRegisterFile start_registers
start-file =
    let IsPattern : Cap → Type 0 = λ cap. cap.bits < 2 ^ 128 in record {
      length_is = refl;
      zero = refl;
      patterns = All-set IsPattern (replicate 32 null) 2 whole data-plain.pattern (All-replicate IsPattern 32 null (omega arith));
    }

-- the others are null
pub start-others : (n : ℕ) → n ≢ 2 → register start_registers n ≡ null
start-others n other = get_or-set_other (replicate 32 null) 2 n whole null other ∙ register-null 32 n

-- and all are inside the region: the others have no tag
pub start-inside : AreInside start_registers process_region
start-inside n small tagged = by (eqb_tells n 2)
  where
    by : ((nat_eq n 2 ≡ true) × (n ≡ 2)) ⊎ ((nat_eq n 2 ≡ false) × (n ≢ 2)) → IsInside (register start_registers n).bits process_region
    by (inl (_, same)) = subst (λ k. IsInside (register start_registers k).bits process_region) (sym same) (plain-inside process_region data-plain (omega arith) (omega arith))
    by (inr (_, other)) =
        absurd (false≢true (subst (λ (cap : Cap). IsTrue cap.tag) (start-others n other) tagged))
