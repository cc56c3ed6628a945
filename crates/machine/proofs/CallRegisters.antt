-- Registers and PCC after a call that answers, and those of a child.
use Rattle.std.proofs.Common.{◌≡◌, ◌≢◌, ◌∙◌, sym, ap, ℕ, zero, suc, get_or, [], ◌∷◌, ◌+◌, ◌%◌, ◌^◌, ◌<◌, ◌⊎◌, inl, inr, nat_eq, IsTrue, List, map, length, true, false, slice_set, subst, arith, All}
use Rattle.std.specs.Prelude.{pos, ◌≤ℤ◌, int_le, ℤ}
use Rattle.std.proofs.lemmas.Int.{ints}
use Rattle.std.proofs.lemmas.Bool.{and_parts}
use Rattle.std.proofs.lemmas.Bool.Decides.{eqb_tells}
use Rattle.std.proofs.lemmas.List.{length-set, length-map, get_or-set_same, get_or-set_other}
use Rattle.std.proofs.lemmas.List.Elements.{All-set, All-from_get_or}
use Rattle.std.proofs.Math.ListN.{get_or-map}
use Rattle.cap_format.specs.Numbers.{most_regions, region_bytes}
use Rattle.cap_format.specs.declared.cap.Cap.{Cap}
use Rattle.cap_format.specs.Pattern.{address_of, meta_of, base_of, top_of}
use Rattle.cap_format.specs.Made.{null, with_address}
use Rattle.cap_format.specs.Moves.{moved}
use Rattle.cap_format.specs.Region.{region_start, IsInside}
use Rattle.cap_format.specs.Rights.{holds}
use Rattle.cap_format.specs.Code.{IsCode, CodeMoves, CodeGoesOn}
use Rattle.machine_types.specs.Registers.{register, IsRegisterFile, AreInside}
use Rattle.machine_types.specs.Held.{IsHeld, AreHeld}
use Rattle.machine_types.specs.MemoryLaws.{PagesAreMoved}
use Rattle.machine.specs.Effects.{next_pcc}

-- PCC as it may stand
pub record IsGoodPcc (pcc : Cap) (region : ℕ) : Type 0 where
  pub pattern : pcc.bits < 2 ^ 128
  pub code : IsCode pcc
  pub inside : IsInside pcc.bits region

below-when : (x y : ℤ) → int_le x y ≡ true → x ≤ℤ y
below-when x y h = grind (arith, ints)

no-wrap : (top : ℤ) (a region : ℕ) → region < most_regions → pos (a + 4) ≤ℤ top → top ≤ℤ pos (region_start region + region_bytes) → (a + 4) % 2 ^ 64 ≡ a + 4
no-wrap top a region low h k = omega (arith, ints)

-- the address of the next instruction doesn't wrap
next-fits : (pcc : Cap) (region : ℕ) → region < most_regions → IsGoodPcc pcc region → IsTrue (holds pcc.bits (address_of pcc.bits) 4) → (address_of pcc.bits + 4) % 2 ^ 64 ≡ address_of pcc.bits + 4
next-fits pcc region low good held =
    let parts = and_parts (int_le (base_of pcc.bits) (pos (address_of pcc.bits))) (int_le (pos (address_of pcc.bits + 4)) (top_of pcc.bits)) held in
    no-wrap (top_of pcc.bits) (address_of pcc.bits) region low (below-when _ _ parts.1) good.inside.to

next-pattern : (pcc : Cap) → pcc.bits < 2 ^ 128 → (next_pcc pcc).bits < 2 ^ 128
unfolding next_pcc with_address
next-pattern pcc pattern = let m : meta_of pcc.bits < 2 ^ 64 = omega arith in omega arith

next-code : CodeGoesOn → (pcc : Cap) (region : ℕ) → region < most_regions → IsGoodPcc pcc region → IsTrue (holds pcc.bits (address_of pcc.bits) 4) → IsCode (next_pcc pcc) × IsInside (next_pcc pcc).bits region
unfolding next_pcc
next-code goes pcc region low good held =
    subst (λ (a : ℕ). IsCode (with_address pcc a) × IsInside (with_address pcc a).bits region) (sym (next-fits pcc region low good held)) (goes pcc region good.pattern low good.code good.inside held)

-- PCC past a call stays so
pub next-good : CodeGoesOn → (pcc : Cap) (region : ℕ) → region < most_regions → IsGoodPcc pcc region → IsTrue (holds pcc.bits (address_of pcc.bits) 4) → IsGoodPcc (next_pcc pcc) region
next-good goes pcc region low good held =
    let on = next-code goes pcc region low good held in
    record { pattern = next-pattern pcc good.pattern; code = on.0; inside = on.1 }

-- one capability is held by a region where it is a pattern and inside, and moves to the other region
held-list : (region : ℕ) (registers : List Cap) → length registers ≡ 32 → All (λ cap. cap.bits < 2 ^ 128) registers → AreInside registers region → AreHeld region registers
held-list region registers whole patterns inside =
    All-from_get_or (IsHeld region) registers null (λ k w. record { pattern = patterns k null w; inside = inside k (omega arith) })

-- registers that move are held by the region that they go to
pub moved-held : PagesAreMoved → (registers : List Cap) (from to : ℕ) → from < most_regions → to < most_regions → IsRegisterFile registers → AreInside registers from → AreHeld to (map (λ cap. moved cap from to) registers)
moved-held moves registers from to a b file inside = moves.held from to registers a b (held-list from registers file.length_is file.patterns inside)

pub put-inside : (registers : List Cap) (i region : ℕ) (cap : Cap) → i < length registers → (IsTrue cap.tag → IsInside cap.bits region) → AreInside registers region → AreInside (slice_set registers i cap) region
put-inside registers i region cap within here inside n small = by (eqb_tells n i)
  where
    Fits : Cap → Type 0
    Fits c = IsTrue c.tag → IsInside c.bits region

    by : ((nat_eq n i ≡ true) × (n ≡ i)) ⊎ ((nat_eq n i ≡ false) × (n ≢ i)) → Fits (register (slice_set registers i cap) n)
    by (inl (t, e)) = subst Fits (sym (rw e (get_or-set_same registers i cap null within))) here
    by (inr (t, e)) = subst Fits (sym (get_or-set_other registers i n cap null e)) (inside n small)

pub put-file : (registers : List Cap) (i : ℕ) (cap : Cap) → i ≢ 0 → cap.bits < 2 ^ 128 → IsRegisterFile registers → IsRegisterFile (slice_set registers i cap)
put-file registers i cap other small is = record {
  length_is = simp length-set is.length_is;
  zero = get_or-set_other registers i 0 cap null (λ e. other (sym e)) ∙ is.zero;
  patterns = All-set (λ cap. cap.bits < 2 ^ 128) registers i cap small is.patterns;
}

pub moved-file : PagesAreMoved → (registers : List Cap) (from to : ℕ) → from < most_regions → to < most_regions → IsRegisterFile registers → AreInside registers from → IsRegisterFile (map (λ cap. moved cap from to) registers)
moved-file moves registers from to a b is inside = record {
  length_is = length-map registers (λ (cap : Cap). moved cap from to) ∙ is.length_is;
  zero = get_or-map (λ (cap : Cap). moved cap from to) registers 0 null ∙ ap (λ (cap : Cap). moved cap from to) is.zero;
  patterns = λ k d w. (moved-held moves registers from to a b is inside k d w).pattern;
}

pub moved-inside : PagesAreMoved → (registers : List Cap) (from to : ℕ) → from < most_regions → to < most_regions → IsRegisterFile registers → AreInside registers from → AreInside (map (λ cap. moved cap from to) registers) to
moved-inside moves registers from to a b is inside n small =
    (moved-held moves registers from to a b is inside n null (rw (length-map registers (λ (cap : Cap). moved cap from to) ∙ is.length_is) small)).inside

-- PCC that moves
moved-one : PagesAreMoved → (pcc : Cap) (from to : ℕ) → from < most_regions → to < most_regions → IsGoodPcc pcc from → IsHeld to (moved pcc from to)
moved-one moves pcc from to a b good = (moves.held from to (pcc ∷ []) a b (λ k d w. by k d w)) 0 null (omega arith)
  where
    by : (k : ℕ) (d : Cap) → k < 1 → IsHeld from (get_or (pcc ∷ []) k d)
    by zero d w = record { pattern = good.pattern; inside = λ t. good.inside }
    by (suc k) d w = absurd (omega arith)

pub moved-good : CodeMoves → PagesAreMoved → (pcc : Cap) (from to : ℕ) → from < most_regions → to < most_regions → IsGoodPcc pcc from → IsGoodPcc (moved pcc from to) to
moved-good codes moves pcc from to a b good =
    let code = codes pcc from to good.pattern a b good.code good.inside in
    record { pattern = (moved-one moves pcc from to a b good).pattern; code = code.0; inside = code.1 }
