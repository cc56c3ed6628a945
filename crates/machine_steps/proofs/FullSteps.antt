-- Under `full` no touch is made: only a fork lacks a frame, and no process ends for want of one.
use Rattle.std.proofs.Common.{◌≡◌, ◌≢◌, ◌∙◌, ap, refl, ℕ, ◌+◌, ◌<◌, Option, Some, None, Result, Err, List, length, true, false, cond, Bool, subst, arith}
use Rattle.cap_format.specs.declared.cap.Cap.{Cap}
use Rattle.cap_format.specs.Pattern.{address_of}
use Rattle.cap_format.specs.Rights.{holds}
use Rattle.machine_types.specs.declared.cause.Cause.{Cause}
use Rattle.machine_types.specs.declared.cause.Cause.TheVariants.{Tag, Sealed, Permission, Bounds, Misaligned, NoPage, NoRight, BadInstruction, Breakpoint, CodeBounds, CodePage, NoFrame}
use Rattle.machine_types.specs.declared.config.Rule.TheVariants.{Full}
use Rattle.machine_types.specs.declared.touches.Access.TheVariants.{Fetch}
use Rattle.machine_types.specs.declared.touches.Note.{Note}
use Rattle.machine_types.specs.Accounts.{Class}
use Rattle.machine_types.specs.Causes.{cause_number}
use Rattle.machine_types.specs.Granules.{is_tagged, number_at}
use Rattle.machine_types.specs.Rights.{is_allowed}
use Rattle.machine_types.specs.Stores.{Page}
use Rattle.machine_types.specs.Touches.{touches}
use Rattle.contents.specs.Accesses.{untouched, page_of_place, byte_of_place, granule_of_place, note_in, Reached, noted, reach_in, load_from, fetch_of}
use Rattle.contents.specs.Content.{Content, CallOutcome, page_at, class_at, free_frames}
use Rattle.contents.specs.Regions.{numbers_in}
use Rattle.contents.specs.declared.refusal.Refusal.{Refusal}
use Rattle.contents.specs.declared.refusal.Refusal.TheVariants as refusal
use Rattle.cheri_step.specs.declared.step.StepEnd.{StepEnd}
use Rattle.cheri_step.specs.declared.step.StepEnd.TheVariants.{Next, Call, Fault}
use Rattle.cheri_step.specs.Access.{place_in, caused, fetch_cause, code_of}
use Rattle.cheri_step.specs.Effect.{state}
use Rattle.cheri_step.specs.Effect as instruction
use Rattle.cheri_step.specs.Laws.{FramesAreLacked, FaultsChangeNothing}
use Rattle.machine.specs.declared.process.Process.{Process}
use Rattle.machine.specs.declared.process.State.{State}
use Rattle.machine.specs.declared.process.State.TheVariants.{Ready, InRead, InWrite, InWait, Zombie}
use Rattle.machine.specs.declared.report.WorkEnd.{WorkEnd}
use Rattle.machine.specs.declared.report.WorkEnd.TheVariants.{Ended}
use Rattle.machine.specs.Numbers.{fork_call, number_register}
use Rattle.machine.specs.Processes.{integer}
use Rattle.machine.specs.Machines.{View, view_of}
use Rattle.machine.specs.Effects.{ends}
use Rattle.machine.specs.Calls.{called}
use Rattle.machine.specs.Isolation.{FullLacksAtForks}
use Rattle.machine_steps.specs.Works.{instruction_of, is_lack, instructed, effect_as, effect_of}
use Rattle.machine_steps.specs.Laws.{FullNeverLacks}
use Rattle.machine_steps.proofs.AppliedSteps.{step-worked, reported-end}

-- The fetch.

-- a fetch changes nothing
fetch-full : (c : Content) (region at : ℕ) → c.rule ≡ Full → (fetch_of c region at).after ≡ c
unfolding fetch_of
fetch-full c region at full = by (page_at c region (page_of_place at))
  where
    value : List Cap → ℕ
    value granules = number_at granules (byte_of_place at) 4

    left : Result Reached Refusal → Content
    left reached = (load_from c region value reached).after

    by-touch : (p : Page) (touched : Bool) (made : Option Note) → touched ≡ false → left (noted p (cond touched made (Some untouched))) ≡ c
    by-touch p touched made none = rw none refl

    by-class : (p : Page) (o : Option Class) → left (noted p (note_in c Fetch region (page_of_place at) (is_tagged p.granules (granule_of_place at)) o)) ≡ c
    by-class p None = refl
    by-class p (Some class) = by-touch p (touches c.rule Fetch class region (is_tagged p.granules (granule_of_place at))) _ (rw full refl)

    by-right : (p : Page) (allowed : Bool) → left (cond allowed (noted p (note_in c Fetch region (page_of_place at) (is_tagged p.granules (granule_of_place at)) (class_at c region (page_of_place at)))) (Err refusal.NoRight)) ≡ c
    by-right p true = by-class p (class_at c region (page_of_place at))
    by-right p false = refl

    by : (o : Option Page) → left (reach_in c Fetch region at o) ≡ c
    by None = refl
    by (Some p) = by-right p (is_allowed Fetch p.rights)

-- nor does the fetch of the word at PCC
code-full : (c : Content) (region : ℕ) (pcc : Cap) → c.rule ≡ Full → (code_of c region pcc).after ≡ c
code-full c region pcc full = by (holds pcc.bits (address_of pcc.bits) 4)
  where
    o : CallOutcome (Result (ℕ × Note) Refusal)
    o = fetch_of c region (place_in region (address_of pcc.bits))

    code : Bool → CallOutcome (Result (ℕ × Note) Cause)
    code held = cond held (record { answer = caused fetch_cause o.answer; after = o.after }) (record { answer = Err CodeBounds; after = c })

    by : (held : Bool) → (code held).after ≡ c
    by true = fetch-full c region (place_in region (address_of pcc.bits)) full
    by false = refl

-- so a call is made over the content as it was
call-full : FaultsChangeNothing → (p : Process) (c : Content) → c.rule ≡ Full → (instruction_of p c).end ≡ Call → (instruction_of p c).after.content ≡ c
call-full faults p c full call = faults.called (state p.regs p.pcc c) p.region call ∙ code-full c p.region p.pcc full

-- Effects.

-- the cause with the number of a frame that was lacked
lacking : (c : Cause) → is_lack c ≡ true → c ≡ NoFrame
lacking Tag e = absurd (cc)
lacking Sealed e = absurd (cc)
lacking Permission e = absurd (cc)
lacking Bounds e = absurd (cc)
lacking Misaligned e = absurd (cc)
lacking NoPage e = absurd (cc)
lacking NoRight e = absurd (cc)
lacking BadInstruction e = absurd (cc)
lacking Breakpoint e = absurd (cc)
lacking CodeBounds e = absurd (cc)
lacking CodePage e = absurd (cc)
lacking NoFrame e = refl

-- the status of a process that is killed for want of a frame
killed-lacking : (c : Cause) → 256 + cause_number c ≡ 268 → is_lack c ≡ true
killed-lacking c e = let is : cause_number c ≡ 12 = omega arith in rw is refl

-- a fork was called for which fewer frames are free than the caller has pages
abbrev IsShort : View → Content → Type 0
IsShort v c = (integer v.process number_register ≡ fork_call) × (free_frames c < length (numbers_in (c.stores v.process.region)))

-- a call that lacks a frame
call-lacks : FullLacksAtForks → (v : View) (c : Content) → c.rule ≡ Full → (called v c).lacks ≡ true → IsShort v c
call-lacks calls v c full l = (calls.number v c full l, calls.frames v c full l)

-- a work that lacks a frame
effect-lacks : FullLacksAtForks → FramesAreLacked → FaultsChangeNothing → (v : View) (c : Content) → c.rule ≡ Full → (effect_of v c).lacks ≡ true → IsShort v c
unfolding effect_of ends
effect-lacks calls lacked faults v c full = by v.process.state
  where
    i : instruction.Effect
    i = instruction_of v.process c

    by-end : (end : StepEnd) → i.end ≡ end → (instructed v i end).lacks ≡ true → IsShort v c
    by-end Next e l = absurd (cc)
    by-end Call e l = call-lacks calls v c full (subst (λ (d : Content). (called v d).lacks ≡ true) (call-full faults v.process c full e) l)
    by-end (Fault cause) e l = absurd (lacked.full (state v.process.regs v.process.pcc c) v.process.region full (e ∙ ap Fault (lacking cause l)))

    by : (s : State) → (effect_as v c s).lacks ≡ true → IsShort v c
    by Ready l = by-end i.end refl l
    by InRead l = call-lacks calls v c full l
    by (InWrite done) l = call-lacks calls v c full l
    by InWait l = call-lacks calls v c full l
    by (Zombie status) l = call-lacks calls v c full l

-- no work ends its process for want of a frame
effect-lives : FullLacksAtForks → FramesAreLacked → FaultsChangeNothing → (v : View) (c : Content) → c.rule ≡ Full → (effect_of v c).end ≢ Ended 268
unfolding effect_of ends
effect-lives calls lacked faults v c full = by v.process.state
  where
    i : instruction.Effect
    i = instruction_of v.process c

    by-end : (end : StepEnd) → i.end ≡ end → (instructed v i end).end ≢ Ended 268
    by-end Next e h = absurd (cc)
    by-end Call e h = calls.lives v c full (subst (λ (d : Content). (called v d).end ≡ Ended 268) (call-full faults v.process c full e) h)
    by-end (Fault cause) e h =
        let number : 256 + cause_number cause ≡ 268 = cc in
        lacked.full (state v.process.regs v.process.pcc c) v.process.region full (e ∙ ap Fault (lacking cause (killed-lacking cause number)))

    by : (s : State) → (effect_as v c s).end ≢ Ended 268
    by Ready = by-end i.end refl
    by InRead = calls.lives v c full
    by (InWrite done) = calls.lives v c full
    by InWait = calls.lives v c full
    by (Zombie status) = calls.lives v c full

-- Steps.

pub full-lacks : FullLacksAtForks → FramesAreLacked → FaultsChangeNothing → FullNeverLacks
full-lacks calls lacked faults = record {
  forks = λ m slot p may works there full l.
      let w = step-worked m slot p works there in
      effect-lacks calls lacked faults (view_of m slot p) m.content (may.machine.configured.rule ∙ full) (rw w.lacks at l);
  lives = λ m may full.
      reported-end (λ (end : WorkEnd). end ≢ Ended 268) m (λ h. absurd (cc))
      (λ slot p. effect-lives calls lacked faults (view_of m slot p) m.content (may.machine.configured.rule ∙ full));
}
