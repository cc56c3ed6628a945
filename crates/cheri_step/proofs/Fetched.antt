-- What the fetch of an instruction comes to.
use Rattle.std.proofs.Common.{◌≡◌, ℕ, refl, Bool, true, false, cond, ◌^◌, ◌<◌, IsTrue, IsFalse, Ok, Err, Result, arith}
use Rattle.std.proofs.lemmas.Nat.{mod_below}
use Rattle.cap_format.specs.declared.cap.Cap.{Cap}
use Rattle.cap_format.specs.Pattern.{address_of}
use Rattle.cap_format.specs.Rights.{holds}
use Rattle.machine_types.specs.declared.cause.Cause.{Cause}
use Rattle.machine_types.specs.declared.cause.Cause.TheVariants as cause
use Rattle.machine_types.specs.declared.touches.Access.TheVariants.{Fetch}
use Rattle.machine_types.specs.declared.touches.Note.{Note}
use Rattle.machine_types.specs.Granules.{number_at}
use Rattle.contents.specs.declared.refusal.Refusal.{Refusal}
use Rattle.contents.specs.Content.{Content, CallOutcome}
use Rattle.contents.specs.Accesses.{Reached, load_from, byte_of_place, fetch_of}
use Rattle.contents.proofs.CallShapes.{by-reach}
use Rattle.cheri_step.specs.Access.{place_in, fetch_cause, caused, code_of}

-- the fetch at PCC in contents
abbrev pub fetched_at : Content → ℕ → Cap → CallOutcome (Result (ℕ × Note) Refusal)
fetched_at c region pcc = fetch_of c region (place_in region (address_of pcc.bits))

-- What holds of a refusal outside the bounds of PCC, and within them of the fetch with the cause of its refusal, holds of the fetch.
pub by-code : (P : CallOutcome (Result (ℕ × Note) Cause) → Type 0) (c : Content) (region : ℕ) (pcc : Cap)
    → (IsFalse (holds pcc.bits (address_of pcc.bits) 4) → P (record { answer = Err cause.CodeBounds; after = c }))
    → (IsTrue (holds pcc.bits (address_of pcc.bits) 4) → P (record { answer = caused fetch_cause (fetched_at c region pcc).answer; after = (fetched_at c region pcc).after }))
    → P (code_of c region pcc)
by-code P c region pcc outside within = by (holds pcc.bits (address_of pcc.bits) 4) refl
  where
    by : (held : Bool) → holds pcc.bits (address_of pcc.bits) 4 ≡ held
        → P (cond held (record { answer = caused fetch_cause (fetched_at c region pcc).answer; after = (fetched_at c region pcc).after }) (record { answer = Err cause.CodeBounds; after = c }))
    by true e = within e
    by false e = outside e

-- A number that is fetched has 32 bits.
fetched-below : (c : Content) (region at : ℕ) (f : ℕ × Note) → (fetch_of c region at).answer ≡ Ok f → f.0 < 2 ^ 32
unfolding fetch_of
fetched-below c region at f =
    by-reach (λ (reached : Result Reached Refusal). (load_from c region (λ granules. number_at granules (byte_of_place at) 4) reached).answer ≡ Ok f → f.0 < 2 ^ 32) c Fetch region at
    (λ refusal e. absurd (cc))
    (λ p tagged note _ e. let same : f ≡ (number_at p.granules (byte_of_place at) 4, note) = cc in rw same (mod_below _ (2 ^ 32) (omega arith)))

-- So has a word.
pub code-below : (c : Content) (region : ℕ) (pcc : Cap) (f : ℕ × Note) → (code_of c region pcc).answer ≡ Ok f → f.0 < 2 ^ 32
code-below c region pcc f =
    by-code (λ (o : CallOutcome (Result (ℕ × Note) Cause)). o.answer ≡ Ok f → f.0 < 2 ^ 32) c region pcc (λ outside e. absurd (cc)) (λ within e. by (fetched_at c region pcc).answer refl e)
  where
    by : (answer : Result (ℕ × Note) Refusal) → (fetched_at c region pcc).answer ≡ answer → caused fetch_cause answer ≡ Ok f → f.0 < 2 ^ 32
    by (Ok g) is e = let same : f ≡ g = cc in fetched-below c region (place_in region (address_of pcc.bits)) f (rw same is)
    by (Err refusal) is e = absurd (cc)
