-- What is known of a process that may make a step, and of the space after it.
use Rattle.std.proofs.Common.{◌≡◌, ℕ, ◌<◌, Some, Ok, Err, List, refl, ap, ◌^◌}
use Rattle.std.specs.Prelude.{Result, None}
use Rattle.std.proofs.Math.Bool.{Bool-set}
use Rattle.std.proofs.Math.Nat.{ℕ_set}
use Rattle.std.proofs.Math.Dec.{T_prop}
use Rattle.std.proofs.Math.Logic.{∥∥₁_map, ∥∥₁_elim}
use Rattle.cap_format.specs.Numbers.{most_regions}
use Rattle.cap_format.specs.declared.cap.Cap.{Cap}
use Rattle.cap_format.specs.Code.{IsCode}
use Rattle.cap_format.specs.Region.{IsInside}
use Rattle.machine_types.specs.declared.cause.Cause.{Cause}
use Rattle.machine_types.specs.declared.touches.Note.{Note}
use Rattle.machine_types.specs.Registers.{AreInside}
use Rattle.contents.specs.Content.{Content}
use Rattle.contents.specs.Accesses.{untouched}
use Rattle.contents.specs.Whole.{IsWhole}
use Rattle.stores.specs.Known.{StandsFor, Any, KeepsStores}
use Rattle.stores.proofs.Keeping.{stands-weaker, keeps-stores}
use Rattle.cheri_step.specs.declared.step.StepEnd.TheVariants.{Fault}
use Rattle.cheri_step.specs.declared.step.Stepped.{Stepped}
use Rattle.cheri_step.specs.declared.step.Worked.{Worked}
use Rattle.cheri_step.specs.Effect.{State, state, work_of, fetch_then, effect, CanStep, HasWork, HasEffect}
use Rattle.contents.specs.Laws.{HasSameRegions}
use Rattle.contents.proofs.KeptRegions.{region-stores}
use Rattle.cheri_step.proofs.KeptByEffects.{effect-holds}
use Rattle.cheri_step.proofs.Running.{effect-runs}

-- the effect of a word that was fetched
pub fetched-effect : (s : State) (region : ℕ) (after : Content) (answer : Result (ℕ × Note) Cause) (f : ℕ × Note) (w : Worked) (registers : List Cap) (pcc : Cap) (stands : Content → Type 0)
    → answer ≡ Ok f → HasWork (work_of (state s.registers s.pcc after) region f.0) w registers pcc stands
    → HasEffect (fetch_then s region after answer) (record { end = w.end; word = Some f.0; fetched = f.1; touched = w.touched }) registers pcc stands
fetched-effect s region after answer f w registers pcc stands is work = rw is (record {
  stepped = ap (λ (x : Worked). record { end = x.end; word = Some f.0; fetched = f.1; touched = x.touched }) work.worked;
  registers_are = work.registers_are;
  pcc_is = work.pcc_is;
  content = work.content;
})

-- the effect where none was fetched
pub unfetched-effect : (s : State) (region : ℕ) (after : Content) (answer : Result (ℕ × Note) Cause) (cause : Cause) (stands : Content → Type 0)
    → answer ≡ Err cause → stands after
    → HasEffect (fetch_then s region after answer) (record { end = Fault cause; word = None; fetched = untouched; touched = untouched }) s.registers s.pcc stands
unfetched-effect s region after answer cause stands is left = rw is (record { stepped = refl; registers_are = refl; pcc_is = refl; content = left })

module _ {S : Type 0} (stands_for : S → Content → Type 0) (space : S) (region : ℕ) (registers : List Cap) (pcc : Cap) (ready : ∥ StandsFor stands_for space (CanStep region registers pcc) ∥₁) where
  -- PCC is code
  pub ready-code : IsCode pcc
  ready-code = record {
    tagged = ∥∥₁_elim ready (hlevel Bool-set) (λ (known : StandsFor stands_for space (CanStep region registers pcc)). known.holds.code.tagged);
    plain = ∥∥₁_elim ready (hlevel ℕ_set) (λ (known : StandsFor stands_for space (CanStep region registers pcc)). known.holds.code.plain);
    executes = ∥∥₁_elim ready (hlevel Bool-set) (λ (known : StandsFor stands_for space (CanStep region registers pcc)). known.holds.code.executes);
    aligned = ∥∥₁_elim ready (hlevel ℕ_set) (λ (known : StandsFor stands_for space (CanStep region registers pcc)). known.holds.code.aligned);
  }

  -- and inside the region
  pub ready-counter : IsInside pcc.bits region
  ready-counter = record {
    from = ∥∥₁_elim ready (hlevel T_prop) (λ (known : StandsFor stands_for space (CanStep region registers pcc)). (known.holds.counter known.holds.code.tagged).from);
    to = ∥∥₁_elim ready (hlevel T_prop) (λ (known : StandsFor stands_for space (CanStep region registers pcc)). (known.holds.counter known.holds.code.tagged).to);
  }

  -- and so is each tagged register
  pub ready-registers : AreInside registers region
  ready-registers n small tagged = record {
    from = ∥∥₁_elim ready (hlevel T_prop) (λ (known : StandsFor stands_for space (CanStep region registers pcc)). (known.holds.registers_held n small tagged).from);
    to = ∥∥₁_elim ready (hlevel T_prop) (λ (known : StandsFor stands_for space (CanStep region registers pcc)). (known.holds.registers_held n small tagged).to);
  }

  -- the space stands for some content
  pub ready-some : ∥ StandsFor stands_for space Any ∥₁
  ready-some = stands-weaker stands_for space (CanStep region registers pcc) Any (λ c can. tt) ready

  module _ (new : S) (result : Stepped) (registers' : List Cap) (pcc' : Cap) (is : (c : Content) → stands_for space c → HasEffect (effect (state registers pcc c) region) result registers' pcc' (stands_for new)) where
    -- the process may make a step again
    pub ready-again : region < most_regions → pcc.bits < 2 ^ 128 → ((c : Content) → stands_for space c → IsWhole c) → ∥ StandsFor stands_for new (CanStep region registers' pcc') ∥₁
    ready-again some pattern whole = ∥∥₁_map ready (λ (known : StandsFor stands_for space (CanStep region registers pcc)).
        let made = is known.content known.stands in
        let runs = effect-runs (state registers pcc known.content) region (record { below = some; whole = whole known.content known.stands; pattern = pattern; steps = known.holds }) in
        record {
          content = (effect (state registers pcc known.content) region).after.content;
          stands = made.content;
          holds = rw (made.registers_are, made.pcc_is) runs.steps;
        })

    -- the same regions have a store
    pub ready-keeps : KeepsStores stands_for space new
    ready-keeps = keeps-stores stands_for space new (λ c. (effect (state registers pcc c) region).after.content) (λ c stands. (is c stands).content) (CanStep region registers pcc) (λ c stands. effect-holds HasSameRegions region (region-stores region) (state registers pcc c)) ready
