-- What an effect reports of its fetch and of its access.
use Rattle.std.proofs.Common.{◌≡◌, ℕ, refl, ap, Some, None, Ok, Err, Result}
use Rattle.cap_format.specs.declared.cap.Cap.{Cap}
use Rattle.machine_types.specs.declared.cause.Cause.{Cause}
use Rattle.machine_types.specs.declared.touches.Note.{Note}
use Rattle.riscv_decode.specs.Decoded.{decoded}
use Rattle.contents.specs.Content.{Content}
use Rattle.contents.specs.Accesses.{untouched}
use Rattle.cheri_step.specs.declared.step.StepEnd.TheVariants.{Next}
use Rattle.cheri_step.specs.Results.{next_pcc}
use Rattle.cheri_step.specs.Access.{access_of, code_of}
use Rattle.cheri_step.specs.Plans.{Demand, asks}
use Rattle.cheri_step.specs.Effect.{State, state, plan_of, Effect, fetch_then, effect}

-- the word and the touch of a fetch are those that were fetched
then-reported : (s : State) (region : ℕ) (after : Content) (answer : Result (ℕ × Note) Cause) (word : ℕ) → (fetch_then s region after answer).word ≡ Some word → answer ≡ Ok (word, (fetch_then s region after answer).fetched)
then-reported s region after (Ok f) word e = let same : f.0 ≡ word = cc in ap (λ (n : ℕ). Ok (n, f.1)) same
then-reported s region after (Err cause) word e = absurd (cc)

-- So it is with an effect.
pub effect-reported : (s : State) (region word : ℕ) → (effect s region).word ≡ Some word → (code_of s.content region s.pcc).answer ≡ Ok (word, (effect s region).fetched)
unfolding effect
effect-reported s region = then-reported s region (code_of s.content region s.pcc).after (code_of s.content region s.pcc).answer

-- no touch is reported
abbrev IsSilent : Effect → Type 0
IsSilent e = (e.fetched ≡ untouched) × (e.touched ≡ untouched)

-- none is where there was no fetch
then-silent : (s : State) (region : ℕ) (after : Content) (answer : Result (ℕ × Note) Cause) → (fetch_then s region after answer).word ≡ None → IsSilent (fetch_then s region after answer)
then-silent s region after (Ok f) e = absurd (cc)
then-silent s region after (Err cause) e = (refl, refl)

-- So it is with an effect.
pub effect-silent : (s : State) (region : ℕ) → (effect s region).word ≡ None → IsSilent (effect s region)
unfolding effect
effect-silent s region = then-silent s region (code_of s.content region s.pcc).after (code_of s.content region s.pcc).answer

-- the access was made, so that the next instruction follows
abbrev WasMade : State → Demand → Cap × Note → Effect → Type 0
WasMade s demand a e = (e.touched ≡ a.1) × (e.end ≡ Next) × (e.after.registers ≡ demand.registers a.0) × (e.after.pcc ≡ next_pcc s.pcc)

-- A load or a store that is made is reported.
pub effect-made : (s : State) (region : ℕ) (code : ℕ × Note) (demand : Demand) → (code_of s.content region s.pcc).answer ≡ Ok code
    → plan_of (state s.registers s.pcc (code_of s.content region s.pcc).after) (decoded code.0) ≡ asks demand
    → (a : Cap × Note) → (access_of (code_of s.content region s.pcc).after region demand.authority demand.address demand.op).answer ≡ Ok a → WasMade s demand a (effect s region)
unfolding effect
effect-made s region code demand fetched asked a made = rw (fetched, asked, made) (refl, refl, refl, refl)
