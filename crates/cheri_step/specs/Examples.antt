-- One instruction over small contents, worked out: where it lacks a frame, and what it touches.
use Rattle.std.specs.Prelude.{ℕ, ◌≡◌, ◌+◌, Some, None, List, [], ◌∷◌, replicate}
use Rattle.cap_format.specs.Numbers.{permit_execute, permit_load, permit_store}
use Rattle.cap_format.specs.Made.{null, root}
use Rattle.machine_types.specs.declared.cause.Cause.TheVariants.{NoFrame}
use Rattle.machine_types.specs.declared.config.Rule.{Rule}
use Rattle.machine_types.specs.declared.config.Rule.TheVariants.{Access, Pointer}
use Rattle.machine_types.specs.declared.touches.Touched.TheVariants.{Copied}
use Rattle.machine_types.specs.Numbers.{right_to_read, right_to_write, right_to_execute}
use Rattle.machine_types.specs.Registers.{with_register}
use Rattle.contents.specs.Content.{Content, nothing}
use Rattle.contents.specs.Accesses.{untouched}
use Rattle.contents.specs.Regions.{begin_of, add_page_of, fork_of}
use Rattle.contents.specs.Examples.{note}
use Rattle.cheri_step.specs.declared.step.StepEnd.TheVariants.{Next, Fault}
use Rattle.cheri_step.specs.Effect.{State, state, Effect, effect}

-- the word of `sb x0, 0(c2)`, and its bytes
abbrev pub store_word : ℕ
store_word = 0x00010023

abbrev pub store_bytes : List ℕ
store_bytes = 0x23 ∷ 0x00 ∷ 0x01 ∷ 0x00 ∷ []

-- region 0 has a page with this word, which region 1 has from it
abbrev pub shared_code : Rule → ℕ → Content
shared_code rule frames =
    (fork_of (add_page_of (begin_of (nothing rule frames) 0) 0 0 (right_to_read + right_to_write + right_to_execute) store_bytes).after 0 1).after

-- PCC is the region's code, and register 2 its data
abbrev pub at_start : ℕ → Content → State
at_start region c = state (with_register (replicate 32 null) 2 (root region (permit_load + permit_store))) (root region (permit_execute + permit_load)) c

-- the effect of the word in a region
abbrev pub store_effect : Rule → ℕ → ℕ → Effect
store_effect rule frames region = effect (at_start region (shared_code rule frames)) region

-- Under `access` and with one frame, the fetch of region 1 lacks a frame, and so does the store of region 0, whose fetch touches
-- nothing. With two frames the fetch of region 1 gets its copy, and the store touches nothing; under `pointer` it is the store that
-- gets it.
pub record AnInstructionLacksAFrame : Type 0 where
  pub fetch : (store_effect Access 1 1).end ≡ Fault NoFrame
  pub no_word : (store_effect Access 1 1).word ≡ None
  pub store : (store_effect Access 1 0).end ≡ Fault NoFrame
  pub word : (store_effect Access 1 0).word ≡ Some store_word
  pub goes_on : (store_effect Access 2 1).end ≡ Next
  pub copied : (store_effect Access 2 1).fetched ≡ note 0 Copied
  pub fit : (store_effect Access 2 1).touched ≡ untouched
  pub fit_before : (store_effect Pointer 2 1).fetched ≡ untouched
  pub copied_late : (store_effect Pointer 2 1).touched ≡ note 0 Copied
