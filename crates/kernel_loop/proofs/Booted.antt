-- The machine with which a kernel begins.
use Rattle.std.proofs.Common.{◌≡◌, ◌≢◌, ◌⊎◌, inl, inr, nat_eq, ◌∙◌, sym, ap, refl, subst, ℕ, zero, suc, ◌+◌, ◌-◌, ◌<◌, ◌≤◌, ◌||◌, cond, Bool, true, false, None, Option, Some, List, [], ◌∷◌, length, drop, get_or, replicate, slice_set, arith}
use Rattle.std.specs.List.{list_any}
use Rattle.std.proofs.lemmas.Bool.Decides.{eqb_tells}
use Rattle.std.proofs.lemmas.List.{length-replicate}
use Rattle.cap_format.specs.declared.cap.Cap.{Cap}
use Rattle.contents.specs.Content.{Content, nothing}
use Rattle.machine_types.specs.declared.config.Config.{Config}
use Rattle.elf_loader.specs.Numbers.{process_region}
use Rattle.elf_loader.specs.Loaded.{image_of}
use Rattle.elf_loader.specs.Start.{started, start_registers, start_pcc}
use Rattle.machine.specs.declared.process.Process.{Process}
use Rattle.machine.specs.Numbers.{pipe_count}
use Rattle.machine.specs.Processes.{process_at, lives_in}
use Rattle.machine.specs.Pipes.{Table, console_table, no_descriptors, is_unused, swept, swept_from}
use Rattle.machine.specs.Machines.{Machine}
use Rattle.machine.specs.Readiness.{is_ready, ready_in}
use Rattle.machine.specs.Shape.{IsConfig}
use Rattle.machine_steps.specs.Runs.{start, first_process, quanta_of}
use Rattle.process_table.specs.Tables as table
use Rattle.pipe_files.specs.Files.{Files}
use Rattle.trap_syscalls.specs.declared.world.World.{World}
use Rattle.trap_syscalls.specs.Worlds.{IsPlanOf}
use Rattle.kernel_loop.specs.declared.stepping.Core.{Core}
use Rattle.kernel_loop.specs.Boots.{IsEmptyWorld, first_with, admitted}
use Rattle.kernel_loop.specs.Stands.{machine_of, CoreStands, IsKept}
use Rattle.kernel_loop.proofs.Stepped.{machine-is}

-- the first of equal elements is another
pub set-first : {A : Type 0} (n : ℕ) (d x : A) → 1 ≤ n → slice_set (replicate n d) 0 x ≡ x ∷ replicate (n - 1) d
set-first zero d x some = absurd (omega (arith, some))
set-first (suc n) d x some = let e : suc n - 1 ≡ n = omega arith in rw e refl

-- so many elements past the end, and of equal ones
at-replicate : {A : Type 0} (n k : ℕ) (d : A) → get_or (replicate n d) k d ≡ d
at-replicate zero k d = refl
at-replicate (suc n) zero d = refl
at-replicate (suc n) (suc k) d = at-replicate n k d

-- pipes without a byte stay so
either-way : (b : Bool) (bytes : List ℕ) → cond b bytes bytes ≡ bytes
either-way true bytes = refl
either-way false bytes = refl

swept_from-empty : (tables : List Table) (k n : ℕ) → swept_from tables k (replicate n []) ≡ replicate n []
swept_from-empty tables k zero = refl
swept_from-empty tables k (suc n) = ap (λ (bytes : List ℕ). bytes ∷ swept_from tables (k + 1) (replicate n [])) (either-way (is_unused tables k) []) ∙ ap (λ (ps : List (List ℕ)). [] ∷ ps) (swept_from-empty tables (k + 1) n)

swept-empty : (tables : List Table) (n : ℕ) → swept tables (replicate n []) ≡ replicate n []
unfolding swept
swept-empty tables n = swept_from-empty tables 0 n

-- no region is one of a live process where there is none
none-in : (region n : ℕ) → list_any (lives_in region) (replicate n None) ≡ false
none-in region zero = refl
none-in region (suc n) = none-in region n

zero-other : (region : ℕ) → nat_eq process_region (suc region) ≡ false
zero-other region = by (nat_eq process_region (suc region)) (eqb_tells process_region (suc region))
  where
    by : (b : Bool) → ((b ≡ true) × (process_region ≡ suc region)) ⊎ ((b ≡ false) × (process_region ≢ suc region)) → b ≡ false
    by b (inl h) = absurd (omega (arith, h.1))
    by b (inr h) = h.0

-- the plan in which the first region alone is taken
plan-first : (regs : List Cap) (pcc : Cap) (n m : ℕ) → IsPlanOf (suc m) (Some (first_with regs pcc) ∷ replicate n None) (true ∷ replicate m false)
plan-first regs pcc n m = record { count = ap suc (length-replicate m false); taken = by }
  where
    by : (region : ℕ) → region < suc m → get_or (true ∷ replicate m false) region false ≡ list_any (lives_in region) (Some (first_with regs pcc) ∷ replicate n None)
    by zero low = refl
    by (suc region) low = at-replicate m region false ∙ sym (ap (λ (b : Bool). b || list_any (lives_in (suc region)) (replicate n None)) (zero-other region) ∙ none-in (suc region) n)

-- the first slot alone is ready
first-ready : (m : Machine) (regs : List Cap) (pcc : Cap) (n slot : ℕ) → m.processes ≡ Some (first_with regs pcc) ∷ replicate n None → get_or (true ∷ replicate n false) slot false ≡ is_ready m slot
unfolding is_ready
first-ready m regs pcc n zero same = sym (ap (λ (os : List (Option Process)). ready_in m 0 (process_at os 0)) same)
first-ready m regs pcc n (suc slot) same =
    at-replicate n slot false ∙ sym (ap (λ (os : List (Option Process)). ready_in m (suc slot) (process_at os (suc slot))) same ∙ ap (ready_in m (suc slot)) (at-replicate n slot None))

-- A world without a process, for a configuration within its limits.
module _ (config : Config) (input : List ℕ) (w : World) (is : IsConfig config) (empty : IsEmptyWorld config input w) (regs : List Cap) (pcc : Cap) where
  abbrev first : Process
  first = first_with regs pcc

  processes-are : (admitted w first).processes.processes ≡ Some first ∷ replicate (config.slots - 1) None
  processes-are = ap (λ (t : table.Table). slice_set t.processes 0 (Some first)) empty.processes ∙ set-first config.slots None (Some first) is.some_slots

  marks-are : (admitted w first).processes.marks ≡ true ∷ replicate (config.slots - 1) false
  marks-are = ap (λ (t : table.Table). slice_set t.marks 0 true) empty.processes ∙ set-first config.slots false true is.some_slots

  tables-are : (admitted w first).files.tables ≡ console_table ∷ replicate (config.slots - 1) no_descriptors
  tables-are = ap (λ (f : Files). slice_set f.tables 0 console_table) empty.files ∙ set-first config.slots no_descriptors console_table is.some_slots

  pipes-are : (admitted w first).files.pipes ≡ replicate pipe_count []
  pipes-are = ap (λ (f : Files). swept (slice_set f.tables 0 console_table) f.pipes) empty.files ∙ swept-empty (slice_set (replicate config.slots no_descriptors) 0 console_table) pipe_count

  plan-is : (admitted w first).plan ≡ true ∷ replicate (config.regions - 1) false
  plan-is = ap (λ (bs : List Bool). slice_set bs process_region true) empty.plan ∙ set-first config.regions false true is.some_regions

  input-is : drop w.taken w.input.items ≡ input
  input-is = ap (λ (n : ℕ). drop n w.input.items) empty.taken ∙ empty.input_is

  -- a kernel with that world and its first process
  module _ {S : Type 0} (stands_for : S → Content → Type 0) (k : Core S) (schedule : List (ℕ × ℕ)) (file : List ℕ) (config-is : k.config ≡ config) (world-is : k.world ≡ admitted w first)
      (clock-is : k.clock ≡ record { steps = 0; current = None; quantum = None; last = config.slots - 1; rest = quanta_of schedule }) where
    pub begins : regs ≡ start_registers → pcc ≡ start_pcc (image_of file).entry → stands_for k.space (started file (image_of file) (nothing config.rule config.frames))
        → CoreStands stands_for k (start (record { config = config; schedule = schedule; file = file; input = input }))
    begins regs-are pcc-is stands = record {
      space = stands;
      is = machine-is m k (sym config-is)
          (ap (λ (p : Process). Some p ∷ replicate (config.slots - 1) None) (sym first-is) ∙ sym processes-are ∙ ap (λ (x : World). x.processes.processes) (sym world-is))
          (sym tables-are ∙ ap (λ (x : World). x.files.tables) (sym world-is))
          (sym pipes-are ∙ ap (λ (x : World). x.files.pipes) (sym world-is))
          (sym input-is ∙ ap (λ (x : World). drop x.taken x.input.items) (sym world-is))
          (sym empty.forks ∙ ap (λ (x : World). x.forks) (sym world-is))
          (sym clock-is);
    }
      where
        m : Machine
        m = start (record { config = config; schedule = schedule; file = file; input = input })

        first-is : first ≡ first_process (image_of file).entry
        first-is = ap (λ (rs : List Cap). first_with rs pcc) regs-are ∙ ap (first_with start_registers) pcc-is

    pub keeps : k.printed ≡ 0 → IsKept k
    keeps none = record {
      plan = subst (λ (c : Config). IsPlanOf c.regions k.world.processes.processes k.world.plan) (sym config-is)
          (subst (λ (x : World). IsPlanOf config.regions x.processes.processes x.plan) (sym world-is)
          (subst (IsPlanOf config.regions (admitted w first).processes.processes) (sym plan-is)
          (subst (λ (os : List (Option Process)). IsPlanOf config.regions os (true ∷ replicate (config.regions - 1) false)) (sym processes-are)
          (subst (λ (n : ℕ). IsPlanOf n (Some first ∷ replicate (config.slots - 1) None) (true ∷ replicate (config.regions - 1) false)) one-more (plan-first regs pcc (config.slots - 1) (config.regions - 1))))));
      taken = subst (λ (x : World). x.taken ≤ length x.input.items) (sym world-is) (let none-taken = empty.taken in omega (arith, none-taken));
      buffer = ap (λ (x : World). length x.buffer.items) world-is ∙ empty.buffer;
      printed = omega (arith, none);
      long = ap (λ (x : World). length x.processes.marks) world-is ∙ ap (λ (bs : List Bool). length bs) marks-are
          ∙ ap suc (length-replicate (config.slots - 1) false ∙ sym (length-replicate (config.slots - 1) None))
          ∙ ap (λ (os : List (Option Process)). length os) (sym processes-are) ∙ ap (λ (x : World). length x.processes.processes) (sym world-is);
      marks = λ c slot low.
          ap (λ (x : World). get_or x.processes.marks slot false) world-is ∙ ap (λ (bs : List Bool). get_or bs slot false) marks-are
          ∙ first-ready (machine_of k c) regs pcc (config.slots - 1) slot (ap (λ (x : World). x.processes.processes) world-is ∙ processes-are);
    }
      where
        one-more : suc (config.regions - 1) ≡ config.regions
        one-more = let some = is.some_regions in omega (arith, some)
