-- Laws of the effect of an instruction, in the words of those who build on it.
use Rattle.std.specs.Prelude.{ℕ, ◌≡◌, ◌≢◌, ◌<◌, ◌+◌, ◌^◌, ◌%◌, ◌⊎◌, ◌↔◌, true, false, IsTrue, IsFalse, ℤ, Ok, Err, Some, None, List, ◌∷◌, ◌++◌, All}
use Rattle.cap_format.specs.Numbers.{most_regions, permit_load_capability}
use Rattle.cap_format.specs.declared.cap.Cap.{Cap}
use Rattle.cap_format.specs.Pattern.{address_of, kind_of}
use Rattle.cap_format.specs.Made.{from_int, with_address}
use Rattle.cap_format.specs.Rights.{allows, holds}
use Rattle.machine_types.specs.declared.cause.Cause.{Cause}
use Rattle.machine_types.specs.declared.cause.Cause.TheVariants.{CodeBounds, CodePage, NoFrame}
use Rattle.machine_types.specs.declared.config.Rule.TheVariants.{Full}
use Rattle.machine_types.specs.declared.touches.Access.{Access}
use Rattle.machine_types.specs.declared.touches.Access.TheVariants.{Read, Write, Fetch}
use Rattle.machine_types.specs.declared.touches.Note.{Note}
use Rattle.riscv_decode.specs.declared.instr.RegOp.{RegOp}
use Rattle.riscv_decode.specs.declared.instr.ImmOp.{ImmOp}
use Rattle.riscv_decode.specs.declared.instr.UpperOp.{UpperOp}
use Rattle.riscv_decode.specs.declared.instr.OneOp.{OneOp}
use Rattle.riscv_decode.specs.declared.instr.LoadOp.{LoadOp}
use Rattle.riscv_decode.specs.declared.instr.LoadOp.TheVariants as load
use Rattle.riscv_decode.specs.Decoded.{decoded}
use Rattle.machine_types.specs.Registers.{with_register}
use Rattle.contents.specs.Content.{Content}
use Rattle.contents.specs.Accesses.{untouched, page_of_place}
use Rattle.contents.specs.Looks.{peek_of, rights_of}
use Rattle.contents.specs.Whole.{IsWhole}
use Rattle.contents.specs.Having.{MayHave}
use Rattle.contents.specs.Laws.{HasSameSetting, OthersStay, HasSameRegions, AreAlike}
use Rattle.contents.specs.Refusing.{LacksRight, LacksFrame}
use Rattle.contents.specs.Agreeing.{HaveSameStores}
use Rattle.cheri_step.specs.declared.memory.MemoryOp.{MemoryOp}
use Rattle.cheri_step.specs.declared.memory.MemoryOp.TheVariants.{Load, Store}
use Rattle.cheri_step.specs.declared.step.StepEnd.TheVariants.{Next, Call, Fault}
use Rattle.cheri_step.specs.Results.{reg_result, imm_result, upper_result, one_result, next_pcc, Derives}
use Rattle.cheri_step.specs.Tests.{Test, size_of, permissions_for, tests_of_access, passed}
use Rattle.cheri_step.specs.Access.{place_in, access_of, code_of}
use Rattle.cheri_step.specs.Plans.{Demand, asks, loaded, link, unsealed}
use Rattle.cheri_step.specs.Effect.{State, state, plan_of, Effect, effect, CanStep}

-- each page has the rights that it had, and the same pages are there
abbrev pub HasSameRights : Content → Content → Type 0
HasSameRights before after = (region page : ℕ) → rights_of after region page ≡ rights_of before region page

-- An instruction leaves the stores of all other regions, the rule and the number of frames; no region gets or loses a store; and no
-- instruction gives or takes a page or changes its rights.
pub record EffectsLeaveOthers : Type 0 where
  pub others : (s : State) (region : ℕ) → OthersStay region s.content (effect s region).after.content
  pub setting : (s : State) (region : ℕ) → HasSameSetting s.content (effect s region).after.content
  pub regions : (s : State) (region : ℕ) → HasSameRegions s.content (effect s region).after.content
  pub pages : (s : State) (region : ℕ) → HasSameRights s.content (effect s region).after.content

-- Two effects are one, but for what their contents have of other regions.
pub record AreAlikeEffects (region : ℕ) (e f : Effect) : Type 0 where
  pub rest : f ≡ record e { after = state e.after.registers e.after.pcc f.after.content }
  pub content : AreAlike region e.after.content f.after.content

-- An instruction depends on the own store, the account, the rule and the number of frames alone.
abbrev pub OwnProcessDecides : Type 0
OwnProcessDecides = (registers : List Cap) (pcc : Cap) (c d : Content) (region : ℕ) → AreAlike region c d
    → AreAlikeEffects region (effect (state registers pcc c) region) (effect (state registers pcc d) region)

-- A process of this region may be in the state: what it has is its own, and the content is whole.
pub record MayRun (region : ℕ) (s : State) : Type 0 where
  pub below : region < most_regions
  pub whole : IsWhole s.content
  pub pattern : s.pcc.bits < 2 ^ 128
  pub steps : CanStep region s.registers s.pcc s.content

-- A process that may run may run after an instruction: the content stays whole, PCC stays code, and PCC, each register and each
-- granule of its store are what it may have. So it may past an instruction in the bounds of PCC, with an integer in a register: a
-- call that answers.
pub record EffectsKeepRunning : Type 0 where
  pub runs : (s : State) (region : ℕ) → MayRun region s → MayRun region (effect s region).after
  pub store : (s : State) (region page g : ℕ) (cap : Cap) → MayRun region s → peek_of (effect s region).after.content region page g ≡ Some cap → MayHave (effect s region).after.content region cap
  pub answered : (s : State) (region n answer : ℕ) → MayRun region s → IsTrue (holds s.pcc.bits (address_of s.pcc.bits) 4) → answer < 2 ^ 64
      → MayRun region (state (with_register s.registers n (from_int answer)) (next_pcc s.pcc) s.content)

-- registers, PCC and every store are as before
pub record IsLeft (s t : State) : Type 0 where
  pub registers : t.registers ≡ s.registers
  pub pcc : t.pcc ≡ s.pcc
  pub stores : HaveSameStores s.content t.content

-- A fault or a call leaves registers, PCC and every store, and the account as the fetch left it. A call is the word ecall, whose
-- bytes lie in the bounds of PCC.
pub record FaultsChangeNothing : Type 0 where
  pub faults : (s : State) (region : ℕ) (cause : Cause) → (effect s region).end ≡ Fault cause → IsLeft s (effect s region).after
  pub settled : (s : State) (region : ℕ) (cause : Cause) → (effect s region).end ≡ Fault cause → (effect s region).after.content ≡ (code_of s.content region s.pcc).after
  pub calls : (s : State) (region : ℕ) → (effect s region).end ≡ Call → IsLeft s (effect s region).after
  pub called : (s : State) (region : ℕ) → (effect s region).end ≡ Call → (effect s region).after.content ≡ (code_of s.content region s.pcc).after
  pub word : (s : State) (region : ℕ) → (effect s region).end ≡ Call → (effect s region).word ≡ Some 115
  pub bounds : (s : State) (region : ℕ) → (effect s region).end ≡ Call → IsTrue (holds s.pcc.bits (address_of s.pcc.bits) 4)

-- the authority of an access is tagged and plain, has the permission and holds the bytes, at a multiple of their number
pub record IsAuthorized (authority : Cap) (address : ℕ) (op : MemoryOp) : Type 0 where
  pub tagged : IsTrue authority.tag
  pub plain : kind_of authority.bits ≡ 0
  pub permits : IsTrue (allows authority.bits (permissions_for op))
  pub holds : IsTrue (holds authority.bits address (size_of op))
  pub aligned : address % size_of op ≡ 0

-- An access is made only by a tagged plain authority that has the permission and holds the bytes, a word is fetched only where its
-- bytes lie in the bounds of PCC, and an access that isn't made changes nothing.
pub record AccessesAreAuthorized : Type 0 where
  pub loads_and_stores : (c : Content) (region : ℕ) (authority : Cap) (address : ℕ) (op : MemoryOp) (a : Cap × Note) → (access_of c region authority address op).answer ≡ Ok a → IsAuthorized authority address op
  pub fetches : (s : State) (region word : ℕ) → (effect s region).word ≡ Some word → IsTrue (holds s.pcc.bits (address_of s.pcc.bits) 4)
  pub untouched : (c : Content) (region : ℕ) (authority : Cap) (address : ℕ) (op : MemoryOp) (cause : Cause) → (access_of c region authority address op).answer ≡ Err cause → (access_of c region authority address op).after ≡ c

-- a test passes
abbrev pub Passes : Test → Type 0
Passes test = test.passes ≡ true

-- one of the tests fails, those before it pass, and this is its cause
pub record FailsFirst (tests : List Test) (cause : Cause) : Type 0 where
  pub before : List Test
  pub test : Test
  pub after : List Test
  pub split : tests ≡ before ++ (test ∷ after)
  pub pass : All Passes before
  pub fails : test.passes ≡ false
  pub gives : test.cause ≡ cause

-- The cause of tests is that of the first that fails; and they pass where each of them does.
pub record FirstFailuresDecide : Type 0 where
  pub cause : (tests : List Test) (cause : Cause) → (passed tests ≡ Err cause) ↔ FailsFirst tests cause
  pub none : (tests : List Test) → (passed tests ≡ Ok tt) ↔ All Passes tests

-- What is reported of a fetch is what was fetched, with its touch, and without a fetch no touch is reported. A load or a store that
-- is made goes on to the next instruction, with its touch, and puts what was loaded into the registers.
pub record ReportsAreTrue : Type 0 where
  pub fetch : (s : State) (region word : ℕ) → (effect s region).word ≡ Some word → (code_of s.content region s.pcc).answer ≡ Ok (word, (effect s region).fetched)
  pub silent : (s : State) (region : ℕ) → (effect s region).word ≡ None → ((effect s region).fetched ≡ untouched) × ((effect s region).touched ≡ untouched)
  pub access : (s : State) (region : ℕ) (code : ℕ × Note) (demand : Demand) → (code_of s.content region s.pcc).answer ≡ Ok code
      → plan_of (state s.registers s.pcc (code_of s.content region s.pcc).after) (decoded code.0) ≡ asks demand
      → (a : Cap × Note) → (access_of (code_of s.content region s.pcc).after region demand.authority demand.address demand.op).answer ≡ Ok a
      → ((effect s region).touched ≡ a.1) × ((effect s region).end ≡ Next) × ((effect s region).after.registers ≡ demand.registers a.0) × ((effect s region).after.pcc ≡ next_pcc s.pcc)

-- what is tagged comes of a plain source, or is the source itself
pub record StaysSealed (from to : Cap) : Type 0 where
  pub plain_or_same : IsTrue to.tag → (kind_of from.bits ≡ 0) ⊎ (to ≡ from)

-- Derivation never widens: the result of a row derives from its source, and so do PCC after an instruction, the way back from a
-- jump, its target, and what a load puts into its register from what it loaded. The tagged result of a row comes of a source that
-- isn't sealed, or is the source itself. The way back is sealed, PCC goes four bytes on, and an authority that may not load
-- capabilities loads none with its tag.
pub record DerivationsNarrow : Type 0 where
  pub registers : (op : RegOp) (a b : Cap) → Derives a (reg_result op a b)
  pub immediates : (op : ImmOp) (a : Cap) (imm : ℤ) → Derives a (imm_result op a imm)
  pub upper : (op : UpperOp) (pcc : Cap) (imm : ℕ) → Derives pcc (upper_result op pcc imm)
  pub one : (op : OneOp) (a : Cap) → Derives a (one_result op a)
  pub next : (pcc : Cap) → Derives pcc (next_pcc pcc)
  pub back : (pcc : Cap) → Derives pcc (link pcc)
  pub target : (cap : Cap) (target : ℕ) → target < 2 ^ 64 → Derives cap (with_address (unsealed cap) target)
  pub loads : (op : LoadOp) (authority value : Cap) → Derives value (loaded op authority value)
  pub sealed_registers : (op : RegOp) (a b : Cap) → StaysSealed a (reg_result op a b)
  pub sealed_immediates : (op : ImmOp) (a : Cap) (imm : ℤ) → StaysSealed a (imm_result op a imm)
  pub sealed_upper : (op : UpperOp) (pcc : Cap) (imm : ℕ) → StaysSealed pcc (upper_result op pcc imm)
  pub sealed_one : (op : OneOp) (a : Cap) → StaysSealed a (one_result op a)
  pub sealed_back : (pcc : Cap) → kind_of (link pcc).bits ≡ 1
  pub four_on : (pcc : Cap) → address_of pcc.bits + 4 < 2 ^ 64 → address_of (next_pcc pcc).bits ≡ address_of pcc.bits + 4
  pub untagged : (authority value : Cap) → IsFalse (allows authority.bits permit_load_capability) → (loaded load.Clc authority value).tag ≡ false

-- no word was fetched, by this cause
pub record IsUnfetched (cause : Cause) (e : Effect) : Type 0 where
  pub end : e.end ≡ Fault cause
  pub word : e.word ≡ None

-- the bytes at PCC lie in its bounds
abbrev pub IsBound : State → Type 0
IsBound s = IsTrue (holds s.pcc.bits (address_of s.pcc.bits) 4)

-- the place of PCC in the region
abbrev pub place_of_code : State → ℕ → ℕ
place_of_code s region = place_in region (address_of s.pcc.bits)

-- The bytes at PCC lie in its bounds, and the page is absent or may not be executed.
pub record LacksCode (s : State) (region : ℕ) : Type 0 where
  pub bound : IsBound s
  pub page : (rights_of s.content region (page_of_place (place_of_code s region)) ≡ None) ⊎ LacksRight s.content Fetch region (place_of_code s region)

-- They lie there, the fetch wants a copy of its page, and all frames are used.
pub record FetchLacksFrame (s : State) (region : ℕ) : Type 0 where
  pub bound : IsBound s
  pub frame : LacksFrame s.content Fetch region (place_of_code s region)

-- Where no word is fetched: the bytes at PCC don't lie in its bounds, then there is no page to execute, then the fetch lacks a frame.
-- A word is fetched exactly where none of these holds.
pub record FetchesAreExact : Type 0 where
  pub bounds : (s : State) (region : ℕ) → IsFalse (holds s.pcc.bits (address_of s.pcc.bits) 4) → IsUnfetched CodeBounds (effect s region)
  pub page : (s : State) (region : ℕ) → LacksCode s region → IsUnfetched CodePage (effect s region)
  pub frame : (s : State) (region : ℕ) → FetchLacksFrame s region → IsUnfetched NoFrame (effect s region)
  pub none : (s : State) (region : ℕ) → (effect s region).word ≡ None → IsFalse (holds s.pcc.bits (address_of s.pcc.bits) 4) ⊎ (LacksCode s region ⊎ FetchLacksFrame s region)

-- how a load or a store accesses its page
abbrev pub kind_of_access : MemoryOp → Access
kind_of_access (Load op) = Read
kind_of_access (Store op value) = Write

-- The word at PCC is a load or a store whose tests pass, which wants a copy of its page, and all frames are used in what the fetch
-- left.
pub record AccessLacksFrame (s : State) (region : ℕ) : Type 0 where
  pub code : ℕ × Note
  pub fetched : (code_of s.content region s.pcc).answer ≡ Ok code
  pub demand : Demand
  pub asked : plan_of s (decoded code.0) ≡ asks demand
  pub passes : passed (tests_of_access demand.authority demand.address demand.op) ≡ Ok tt
  pub frame : LacksFrame (code_of s.content region s.pcc).after (kind_of_access demand.op) region (place_in region demand.address)

-- A process dies for want of a frame exactly where its fetch, or its load or store, lacks one; and never under `full`.
pub record FramesAreLacked : Type 0 where
  pub lacked : (s : State) (region : ℕ) → ((effect s region).end ≡ Fault NoFrame) ↔ (FetchLacksFrame s region ⊎ AccessLacksFrame s region)
  pub full : (s : State) (region : ℕ) → s.content.rule ≡ Full → (effect s region).end ≢ Fault NoFrame

-- Two effects that agree on the end, the word, the registers, PCC and the stores.
pub record AreSameEffects (e f : Effect) : Type 0 where
  pub end : f.end ≡ e.end
  pub word : f.word ≡ e.word
  pub left : IsLeft e.after f.after

-- Contents with the same stores, of any rules and accounts, give the same effect, where neither lacks a frame.
abbrev pub RulesAgreeOnEffects : Type 0
RulesAgreeOnEffects = (registers : List Cap) (pcc : Cap) (c d : Content) (region : ℕ) → HaveSameStores c d
    → (effect (state registers pcc c) region).end ≢ Fault NoFrame → (effect (state registers pcc d) region).end ≢ Fault NoFrame
    → AreSameEffects (effect (state registers pcc c) region) (effect (state registers pcc d) region)
