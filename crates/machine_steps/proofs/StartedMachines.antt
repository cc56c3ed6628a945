-- The starting machine is good.
use Rattle.std.proofs.Common.{◌≡◌, ◌≢◌, ◌∙◌, ◌⊎◌, inl, inr, sym, ap, refl, subst, ℕ, zero, suc, ◌+◌, ◌-◌, ◌≤◌, ◌<◌, ◌^◌, nat_eq, is_some, replicate, Option, Some, None, List, [], ◌∷◌, true, false, arith}
use Rattle.std.proofs.lemmas.Bool.Decides.{eqb_tells}
use Rattle.std.proofs.lemmas.List.{get_or-replicate, length-replicate}
use Rattle.std.proofs.lemmas.List.Elements.{All-nil, All-cons, All-replicate}
use Rattle.cap_format.specs.declared.cap.Cap.{Cap}
use Rattle.cap_format.specs.ImageLaws.{ImagesAreSound}
use Rattle.machine_types.specs.MemoryLaws.{PagesAreMoved}
use Rattle.machine_types.specs.Registers.{IsRegisterFile}
use Rattle.machine_types.specs.Stores.{Store}
use Rattle.contents.specs.Content.{Content, nothing}
use Rattle.contents.specs.Whole.{CallsKeepWhole}
use Rattle.elf_loader.specs.Numbers.{process_region}
use Rattle.elf_loader.specs.Loaded.{image_of}
use Rattle.elf_loader.specs.Start.{start_registers, start_pcc}
use Rattle.elf_loader.specs.StartLaws.{StartsAreExact, StartsMayRun, started_from}
use Rattle.machine.specs.declared.process.Process.{Process}
use Rattle.machine.specs.declared.process.State.TheVariants.{Ready}
use Rattle.machine.specs.declared.process.Target.TheVariants.{ConsoleIn, ConsoleOut}
use Rattle.machine.specs.Numbers.{pipe_count}
use Rattle.machine.specs.Processes.{process_at, is_live, lives}
use Rattle.machine.specs.Pipes.{Table, table_at, no_descriptors, console_table}
use Rattle.machine.specs.Shape.{Slots, IsTarget, IsTable, AreTables, IsPipe, ArePipes, LivesWith, StoresAreOfLive, IsMachine}
use Rattle.machine.specs.Sound.{IsWithin, HasLive, IdsAreExact, IsUnderway, CallsAreUnderway, Sound}
use Rattle.machine.specs.Steady.{IsFine, IsGood, CutsAgree}
use Rattle.machine_steps.specs.Laws.{MayBoot}
use Rattle.machine_steps.specs.Runs.{Setup, first_process, start}
use Rattle.machine_steps.proofs.StartedClasses.{started-sound}

-- Slots.

-- The first of the slots has the process, and no other one has any.
only-slot : (first : Process) (more k : ℕ) (q : Process) → process_at (Some first ∷ replicate more None) k ≡ Some q → (k ≡ 0) × (first ≡ q)
only-slot first more zero q there = (refl, cc)
only-slot first zero (suc k) q there = absurd (cc)
only-slot first (suc more) (suc zero) q there = absurd (cc)
only-slot first (suc more) (suc (suc k)) q there = let rest = only-slot first more (suc k) q there in absurd (omega arith)

-- so what holds of that process there holds of each
only-process : (P : ℕ → Process → Type 0) (first : Process) (more : ℕ) → P 0 first → (k : ℕ) (q : Process) → process_at (Some first ∷ replicate more None) k ≡ Some q → P k q
only-process P first more here k q there =
    let is = only-slot first more k q there in
    rw (is.0, ← is.1) here

-- of a process alone
each-process : (P : Process → Type 0) (first : Process) (more : ℕ) → P first → (k : ℕ) (q : Process) → process_at (Some first ∷ replicate more None) k ≡ Some q → P q
each-process P first more here = only-process (λ k q. P q) first more here

-- Descriptors.

-- a table without a descriptor in use is one
no-table : IsTable no_descriptors
no-table = record { count = refl; targets = All-replicate IsTarget 16 None tt }

-- and so is that of the console
console-is-table : IsTable console_table
console-is-table = record {
  count = refl;
  targets = All-cons IsTarget (Some ConsoleIn) (Some ConsoleOut ∷ replicate 14 None) tt (All-cons IsTarget (Some ConsoleOut) (replicate 14 None) tt (All-replicate IsTarget 14 None tt));
}

-- each slot has a table, and those without the process have none in use
first-tables : (first : Process) (slots : ℕ) → 1 ≤ slots → is_live first.state ≡ true
    → AreTables (process_at (Some first ∷ replicate (slots - 1) None)) slots (console_table ∷ replicate (slots - 1) no_descriptors)
first-tables first slots some live = record { each = each; none = none }
  where
    rest : (k : ℕ) → suc k < slots → table_at (replicate (slots - 1) no_descriptors) k ≡ no_descriptors
    rest k low = get_or-replicate (slots - 1) k no_descriptors [] (omega arith)

    each : (k : ℕ) → k < slots → IsTable (table_at (console_table ∷ replicate (slots - 1) no_descriptors) k)
    each zero low = console-is-table
    each (suc k) low = subst IsTable (sym (rest k low)) no-table

    none : (k : ℕ) → k < slots → lives (process_at (Some first ∷ replicate (slots - 1) None) k) ≡ false → table_at (console_table ∷ replicate (slots - 1) no_descriptors) k ≡ no_descriptors
    none zero low dead = absurd (cc)
    none (suc k) low dead = rest k low

-- the pipes have no bytes
first-pipes : (tables : List Table) → ArePipes tables (replicate pipe_count [])
first-pipes tables = record {
  count = length-replicate {A = List ℕ} pipe_count [];
  each = λ k low. subst (IsPipe tables k) (sym (get_or-replicate pipe_count k [] [] low)) (record { fits = omega arith; bytes_are = All-nil (λ (byte : ℕ). byte < 256); free = λ unused. refl });
}

-- The process, and nothing in the other slots.
module _ (regs : List Cap) (pcc : Cap) (more : ℕ) where
  abbrev first : Process
  first = record { id = 1; parent = 0; region = process_region; regs = regs; pcc = pcc; state = Ready }

  abbrev slots : Slots
  slots = process_at (Some first ∷ replicate more None)

  -- the process is fine where its registers and its PCC are
  first-fine : (n : ℕ) (c : Content) → 1 ≤ n → IsWithin c first → IsRegisterFile regs → pcc.bits < 2 ^ 128 → (k : ℕ) (p : Process) → slots k ≡ Some p → IsFine n c p
  first-fine n c some within registers pattern = each-process (IsFine n c) first more (record {
    inside = λ live. within;
    process = record { registers = registers; pcc = pattern; zombie = λ status dead. absurd (cc); status = λ status dead. absurd (cc) };
    region = omega arith;
    zombie = λ dead. absurd (cc);
  })

  -- its id, its region and its parent are exact
  first-ids : IdsAreExact slots 0
  first-ids = record {
    regions = λ j k p q a b l m e. (only-slot first more j p a).0 ∙ sym (only-slot first more k q b).0;
    ids = λ j k p q a b e. (only-slot first more j p a).0 ∙ sym (only-slot first more k q b).0;
    first = each-process (λ p. 1 ≤ p.id) first more (omega arith);
    last = each-process (λ p. p.id ≤ 1 + 0) first more (omega arith);
    parents = each-process (λ p. (p.parent ≡ 0) ⊎ HasLive slots p.parent) first more (inl refl);
    older = each-process (λ p. p.parent < p.id) first more (omega arith);
  }

  -- its region alone has a store
  first-stores : (stores : ℕ → Option Store) → is_some (stores process_region) ≡ true → ((region : ℕ) → region ≢ process_region → stores region ≡ None) → StoresAreOfLive slots stores
  first-stores stores own others = record {
    some = each-process (λ p. is_live p.state ≡ true → is_some (stores p.region) ≡ true) first more (λ live. own);
    live = λ region there. by region there (eqb_tells region process_region);
  }
    where
      by : (region : ℕ) → is_some (stores region) ≡ true
          → ((nat_eq region process_region ≡ true) × (region ≡ process_region)) ⊎ ((nat_eq region process_region ≡ false) × (region ≢ process_region)) → LivesWith slots region
      by region there (inl (test, same)) = record { slot = 0; process = first; there = refl; live = refl; region_is = sym same }
      by region there (inr (test, other)) = let none = others region other in absurd (cc)

  -- no call is underway
  first-calls : (tables : List Table) (c : Content) → CallsAreUnderway slots tables c
  first-calls tables c = only-process (λ k p. IsUnderway p (table_at tables k) c p.state) first more tt

-- The machine.

module _ (images : ImagesAreSound) (moves : PagesAreMoved) (keep : CallsKeepWhole) (exact : StartsAreExact) (run : StartsMayRun) where
  -- the starting machine of an image that may be booted is good
  start-good : (setup : Setup) → MayBoot setup → IsGood (start setup)
  start-good setup boot =
      let before = nothing setup.config.rule setup.config.frames in
      let content = started_from setup.file before in
      let slots = setup.config.slots in
      let pcc = start_pcc (image_of setup.file).entry in
      let some : 1 ≤ slots = boot.config.some_slots in
      let count : suc (slots - 1) ≡ slots = omega arith in
      let setting = exact.setting setup.file before in
      record {
        steady = record {
          configured = record {
            config = boot.config;
            processes = ap suc (length-replicate (slots - 1) None) ∙ count;
            tables = ap suc (length-replicate (slots - 1) no_descriptors) ∙ count;
            frames = setting.frames;
            rule = setting.rule;
          };
          processes = record {
            content = started-sound images moves keep exact setup boot;
            fine = first-fine start_registers pcc (slots - 1) setup.config.regions content boot.config.some_regions
                (record { code = run.code setup.file boot.image; counter = λ tagged. run.counter setup.file boot.image; registers = run.inside }) run.registers (run.pcc setup.file boot.image).pattern;
            ids = first-ids start_registers pcc (slots - 1);
            stores = first-stores start_registers pcc (slots - 1) content.stores (exact.store setup.file before) (exact.others setup.file before);
            calls = first-calls start_registers pcc (slots - 1) (console_table ∷ replicate (slots - 1) no_descriptors) content;
            described = first-tables (first_process (image_of setup.file).entry) slots some refl;
          };
          pipes = first-pipes (console_table ∷ replicate (slots - 1) no_descriptors);
          input = boot.input;
        };
        clock = record { current = λ slot none. absurd (cc); quantum = tt; last = omega (arith, length-replicate {A = Option Process} (slots - 1) None); rest = boot.schedule };
        idle = λ none. refl;
        made = omega arith;
      }

  -- so it is a machine
  pub start-machine : CutsAgree → (setup : Setup) → MayBoot setup → IsMachine (start setup)
  start-machine cuts setup boot = cuts.machine (start setup) (start-good setup boot)

  -- and sound
  pub start-sound : CutsAgree → (setup : Setup) → MayBoot setup → Sound (start setup)
  start-sound cuts setup boot = cuts.sound (start setup) (start-good setup boot)
