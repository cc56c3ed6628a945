-- The work of a process is an effect of one of the shapes.
use Rattle.std.proofs.Common.{◌≡◌, ◌≢◌, ◌∙◌, refl, ℕ, ◌+◌, ◌^◌, ◌<◌, ◌⊎◌, inl, inr, nat_eq, true, false, None, List, [], ◌∷◌, Bool, arith}
use Rattle.std.proofs.lemmas.Bool.Decides.{eqb_tells}
use Rattle.machine_types.specs.declared.cause.Cause.{Cause}
use Rattle.machine_types.specs.declared.cause.Cause.TheVariants.{Tag, Sealed, Permission, Bounds, Misaligned, NoPage, NoRight, BadInstruction, Breakpoint, CodeBounds, CodePage, NoFrame}
use Rattle.machine_types.specs.Causes.{cause_number}
use Rattle.machine_types.specs.declared.touches.Note.{Note}
use Rattle.machine_types.specs.Stores.{changed}
use Rattle.contents.specs.Content.{Content}
use Rattle.contents.specs.Regions.{end_of}
use Rattle.contents.specs.Laws.{OthersStay, HasSameSetting}
use Rattle.cheri_step.specs.declared.step.StepEnd.{StepEnd}
use Rattle.cheri_step.specs.declared.step.StepEnd.TheVariants.{Next, Call, Fault}
use Rattle.cheri_step.specs.Effect.{state, effect}
use Rattle.cheri_step.specs.Effect as instruction
use Rattle.cheri_step.specs.Laws.{MayRun, EffectsLeaveOthers, EffectsKeepRunning, FaultsChangeNothing}
use Rattle.machine.specs.declared.process.Process.{Process}
use Rattle.machine.specs.declared.process.State.{State}
use Rattle.machine.specs.declared.process.State.TheVariants.{Ready, InRead, InWrite, InWait, Zombie}
use Rattle.machine.specs.Processes.{is_live}
use Rattle.machine.specs.Machines.{Machine, view_of}
use Rattle.machine.specs.Effects.{Effect, ends}
use Rattle.machine.specs.Calls.{called}
use Rattle.machine.specs.Sound.{IsAtCall, IsUnderway}
use Rattle.machine.specs.Steady.{ContentIsSound}
use Rattle.machine.specs.Contents.{CallsKeepContents, CallsKeepSound}
use Rattle.machine.specs.Shapes.{CanWork, IsEffect, CallsAreEffects}
use Rattle.machine_steps.specs.Works.{instruction_of, is_lack, instructed, effect_as, effect_of}
use Rattle.machine_steps.proofs.InstructionContents.{effect-sound}

-- the laws of calls and of instructions that an effect goes by
pub record WorkLaws : Type 0 where
  pub calls : CallsAreEffects
  pub contents : CallsKeepSound
  pub others : EffectsLeaveOthers
  pub running : EffectsKeepRunning
  pub faults : FaultsChangeNothing

-- the status of a process that was killed
cause-small : (c : Cause) → 256 + cause_number c < 2 ^ 32
cause-small Tag = omega arith
cause-small Sealed = omega arith
cause-small Permission = omega arith
cause-small Bounds = omega arith
cause-small Misaligned = omega arith
cause-small NoPage = omega arith
cause-small NoRight = omega arith
cause-small BadInstruction = omega arith
cause-small Breakpoint = omega arith
cause-small CodeBounds = omega arith
cause-small CodePage = omega arith
cause-small NoFrame = omega arith

-- The end of a store.

-- it is gone
ended-gone : (c : Content) (region : ℕ) → (end_of c region).stores region ≡ None
unfolding end_of
ended-gone c region = by (eqb_tells region region)
  where
    by : ((nat_eq region region ≡ true) × (region ≡ region)) ⊎ ((nat_eq region region ≡ false) × (region ≢ region)) → changed c.stores region None region ≡ None
    by (inl (t, e)) = rw t refl
    by (inr (t, e)) = absurd (e refl)

-- the others are as they were
ended-others : (c : Content) (region : ℕ) → OthersStay region c (end_of c region)
unfolding end_of
ended-others c region r other = by (eqb_tells r region)
  where
    by : ((nat_eq r region ≡ true) × (r ≡ region)) ⊎ ((nat_eq r region ≡ false) × (r ≢ region)) → changed c.stores region None r ≡ c.stores r
    by (inl (t, e)) = absurd (other e)
    by (inr (t, e)) = rw t refl

-- and so are the rule and the frames
ended-setting : (c : Content) (region : ℕ) → HasSameSetting c (end_of c region)
unfolding end_of
ended-setting c region = record { rule = refl; frames = refl }

-- Effects.

-- other touches leave the shape of an effect
retouched : (m : Machine) (slot : ℕ) (p : Process) (e : Effect) (touches : List Note) → IsEffect m slot p e → IsEffect m slot p (record e { touches = touches })
retouched m slot p e touches is = record { content = is.content; setting = is.setting; input = is.input; deed = is.deed }

module _ (m : Machine) (slot : ℕ) (p : Process) (can : CanWork m slot p) where
  -- the process may run
  may-run : MayRun p.region (state p.regs p.pcc m.content)
  may-run =
      let fine = can.steady.processes.fine slot p can.there in
      let within = fine.inside can.live in
      let regions = can.steady.configured.config.regions in
      let region = fine.region in
      record {
        below = omega (arith, regions, region);
        whole = can.steady.processes.content.whole;
        pattern = fine.process.pcc;
        steps = record {
          store = can.steady.processes.stores.some slot p can.there can.live;
          code = within.code;
          file = fine.process.registers;
          counter = within.counter;
          registers_held = within.registers;
        };
      }

  -- a process that is killed, over a content whose store of it may have changed
  killed-is : (c : Content) (touches : List Note) (status : ℕ) (lacks : Bool) → CallsKeepContents m.config.regions → ContentIsSound m.config.regions c → HasSameSetting m.content c → OthersStay p.region m.content c → status < 2 ^ 32
      → IsEffect m slot p (ends (view_of m slot p) c touches status lacks)
  unfolding ends
  killed-is c touches status lacks keep sound setting others small =
      let ended = ended-setting c p.region in
      record {
        content = keep.end c p.region sound;
        setting = record { rule = ended.rule ∙ setting.rule; frames = ended.frames ∙ setting.frames };
        input = can.steady.input;
        deed = record { small = small; same = refl; others = λ r other. ended-others c p.region r other ∙ others r other; gone = ended-gone c p.region };
      }

  module _ (laws : WorkLaws) where
    -- each call keeps the content sound
    keeps : CallsKeepContents m.config.regions
    keeps = laws.contents m.config.regions can.steady.configured.config.regions

    -- A call that is underway goes on as one of the shapes.
    goes-on : IsAtCall p → IsEffect m slot p (called (view_of m slot p) m.content)
    goes-on at_call = laws.calls m slot p m.content (record { works = can; at_call = at_call; content = can.steady.processes.content; stores = λ r. refl; setting = record { rule = refl; frames = refl } })

    -- So does the instruction of a process that is ready.
    pub instructed-is : p.state ≡ Ready → (end : StepEnd) → (instruction_of p m.content).end ≡ end → IsEffect m slot p (instructed (view_of m slot p) (instruction_of p m.content) end)
    instructed-is ready end = by end
      where
        i : instruction.Effect
        i = instruction_of p m.content

        sound : ContentIsSound m.config.regions i.after.content
        sound = effect-sound m.config.regions p.region (can.steady.processes.fine slot p can.there).region keeps (state p.regs p.pcc m.content) may-run can.steady.processes.content

        others : OthersStay p.region m.content i.after.content
        others = laws.others.others (state p.regs p.pcc m.content) p.region

        setting : HasSameSetting m.content i.after.content
        setting = laws.others.setting (state p.regs p.pcc m.content) p.region

        after : MayRun p.region i.after
        after = laws.running.runs (state p.regs p.pcc m.content) p.region may-run

        by : (end : StepEnd) → i.end ≡ end → IsEffect m slot p (instructed (view_of m slot p) i end)
        by Next e = record {
          content = sound;
          setting = setting;
          input = can.steady.input;
          deed = record {
            kept = record {
              same = record { id = refl; parent = refl; region = refl; live = can.live };
              within = record { code = after.steps.code; counter = after.steps.counter; registers = after.steps.registers_held };
              process = record { registers = after.steps.file; pcc = after.pattern; zombie = λ status z. absurd (cc); status = λ status z. absurd (cc) };
              underway = rw ready tt;
              store = after.steps.store;
            };
            others = others;
          };
        }
        by Call e =
            let s = state p.regs p.pcc m.content in
            let left = laws.faults.calls s p.region e in
            retouched m slot p (called (view_of m slot p) i.after.content) _
            (laws.calls m slot p i.after.content (record { works = can; at_call = laws.faults.bounds s p.region e; content = sound; stores = left.stores; setting = setting }))
        by (Fault c) e = killed-is i.after.content (i.fetched ∷ i.touched ∷ []) (256 + cause_number c) (is_lack c) keeps sound setting others (cause-small c)

    -- The work of a live process is an effect of one of the shapes.
    pub effect-is : IsEffect m slot p (effect_of (view_of m slot p) m.content)
    unfolding effect_of
    effect-is = by p.state refl
      where
        underway : IsUnderway p (view_of m slot p).table m.content p.state
        underway = can.steady.processes.calls slot p can.there

        by : (state : State) → p.state ≡ state → IsEffect m slot p (effect_as (view_of m slot p) m.content state)
        by Ready e = instructed-is e (instruction_of p m.content).end refl
        by InRead e = let u = rw e at underway in goes-on u.at_call
        by (InWrite done) e = let u = rw e at underway in goes-on u.at_call
        by InWait e = let u = rw e at underway in goes-on u.at_call
        by (Zombie status) e = let dead : is_live p.state ≡ false = rw e refl in let live = can.live in absurd (cc)
