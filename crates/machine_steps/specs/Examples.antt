-- Small machines, worked out step by step.
use Rattle.std.specs.Prelude.{ℕ, ◌≡◌, ◌+◌, true, false, pos, neg_ℤ, Option, Some, None, List, [], ◌∷◌, length, replicate}
use Rattle.cap_format.specs.Made.{null}
use Rattle.cap_format.specs.declared.cap.Cap.{Cap}
use Rattle.cap_format.specs.Region.{region_start}
use Rattle.machine_types.specs.declared.config.Rule.{Rule}
use Rattle.machine_types.specs.declared.config.Rule.TheVariants.{Full, Access, Pointer}
use Rattle.machine_types.specs.declared.config.Outcome.TheVariants.{Running, Done, Stuck}
use Rattle.machine_types.specs.declared.touches.Touched.TheVariants.{Copied}
use Rattle.machine_types.specs.Numbers.{right_to_read, right_to_write, right_to_execute}
use Rattle.machine_types.specs.Registers.{with_register}
use Rattle.contents.specs.Content.{Content, nothing}
use Rattle.contents.specs.Accesses.{untouched}
use Rattle.contents.specs.Regions.{begin_of, add_page_of, fork_of}
use Rattle.contents.specs.Examples.{note}
use Rattle.cheri_step.specs.Examples.{store_bytes}
use Rattle.elf_loader.specs.StartExamples.{worked_file}
use Rattle.elf_loader.specs.Start.{start_registers, start_pcc}
use Rattle.machine.specs.declared.process.Process.{Process}
use Rattle.machine.specs.declared.process.State.TheVariants.{Ready, InWrite}
use Rattle.machine.specs.declared.process.Target.TheVariants.{ConsoleIn, ConsoleOut}
use Rattle.machine.specs.declared.report.Quantum.{Quantum}
use Rattle.machine.specs.declared.report.Quantum.TheVariants.{Free, Steps}
use Rattle.machine.specs.declared.report.Work.TheVariants.{Instr, Resume}
use Rattle.machine.specs.declared.report.WorkEnd.TheVariants.{Plain, Answered, Waiting, Forked, Ended}
use Rattle.machine.specs.declared.report.StepReport.{StepReport}
use Rattle.machine.specs.Processes.{process_at, integer}
use Rattle.machine.specs.Pipes.{Table, no_descriptors}
use Rattle.machine.specs.Machines.{Machine}
use Rattle.machine.specs.Readiness.{outcome_of}
use Rattle.machine.specs.Examples.{process, whole, call_with, machine_of, with_page}
use Rattle.machine_steps.specs.Steps.{step_of, state}
use Rattle.machine_steps.specs.Runs.{start, is_over, status_of}

-- the word of `addi x5, x5, 1`
abbrev pub add_word : ℕ
add_word = 0x00128293

-- a region with a page of code
abbrev pub with_code : Content → ℕ → List ℕ → Content
with_code c region bytes = (add_page_of (begin_of c region) region 0 (right_to_read + right_to_execute) bytes).after

-- the descriptors of a console
abbrev pub machine_console : Table
machine_console = Some ConsoleIn ∷ Some ConsoleOut ∷ replicate 14 None

-- five steps were made, and a dispatch comes next, with this slot as the last one and this schedule
abbrev pub waiting : ℕ → Machine → List ℕ → Machine
waiting last m rest = record m { clock = record { steps = 5; current = None; quantum = None; last = last; rest = rest } }

-- the report of the step after so many steps
abbrev pub report_after : Machine → ℕ → StepReport
report_after m k = (step_of (state m k)).report

-- Two processes that add one to register 5 with each instruction, and four quanta of one step.
abbrev pub adding : ℕ → ℕ → Process
adding id region = process id 0 region (replicate 32 null) Ready

abbrev pub two_adding : Machine
two_adding =
    let page = 0x93 ∷ 0x82 ∷ 0x12 ∷ 0x00 ∷ 0x93 ∷ 0x82 ∷ 0x12 ∷ 0x00 ∷ 0x93 ∷ 0x82 ∷ 0x12 ∷ 0x00 ∷ 0x93 ∷ 0x82 ∷ 0x12 ∷ 0x00 ∷ [] in
    waiting 1 (machine_of Full 2 1 (Some (adding 1 0) ∷ Some (adding 2 1) ∷ []) (with_code (with_code (nothing Full 2) 0 page) 1 page) 2) (1 ∷ 1 ∷ 1 ∷ 1 ∷ [])

-- a step of an instruction without a touch, by the process of this id at a slot, at this offset of its region
abbrev pub plain_report : ℕ → ℕ → Option Quantum → ℕ → StepReport
plain_report id slot dispatch offset = record {
  id = id;
  slot = slot;
  dispatch = dispatch;
  work = Instr (region_start slot + offset) (Some add_word);
  touches = untouched ∷ untouched ∷ untouched ∷ [];
  printed = 0;
  end = Plain;
}

-- the integer of a register of the process at a slot
abbrev pub integer_in : ℕ → Option Process → Option ℕ
integer_in n None = None
integer_in n (Some p) = Some (integer p n)

abbrev pub integer_at : Machine → ℕ → ℕ → Option ℕ
integer_at m slot n = integer_in n (process_at m.processes slot)

-- They take turns, a step each, beginning with slot 0, since the slot dispatched last was the highest. After the last quantum a dispatch is free, and
-- its slot stays current.
pub record TwoProcessesTakeTurns : Type 0 where
  pub first : report_after two_adding 0 ≡ plain_report 1 0 (Some (Steps 1)) 0
  pub second : report_after two_adding 1 ≡ plain_report 2 1 (Some (Steps 1)) 0
  pub third : report_after two_adding 2 ≡ plain_report 1 0 (Some (Steps 1)) 4
  pub fourth : report_after two_adding 3 ≡ plain_report 2 1 (Some (Steps 1)) 4
  pub free : report_after two_adding 4 ≡ plain_report 1 0 (Some Free) 8
  pub stays : report_after two_adding 5 ≡ plain_report 1 0 None 12
  pub registers : integer_at (state two_adding 6) 0 5 ≡ Some 4
  pub others : integer_at (state two_adding 6) 1 5 ≡ Some 2
  pub steps : (state two_adding 6).clock ≡ record { steps = 11; current = Some 0; quantum = None; last = 0; rest = [] }

-- One process that makes a call with these registers, and then adds one; and one whose page has other bytes.
abbrev pub one_with : List Cap → List ℕ → Machine
one_with regs bytes =
    waiting 1 (record (machine_of Full 2 0 (Some (process 1 0 0 regs Ready) ∷ None ∷ []) (with_code (nothing Full 2) 0 bytes) 2) { tables = machine_console ∷ no_descriptors ∷ [] }) (9 ∷ 7 ∷ [])

abbrev pub calling : ℕ → ℕ → Machine
calling number x10 = one_with (call_with number x10 null 0) (0x73 ∷ 0x00 ∷ 0x00 ∷ 0x00 ∷ 0x93 ∷ 0x82 ∷ 0x12 ∷ 0x00 ∷ [])

-- After a fork the parent goes on, since its quantum isn't spent. A yield ends the dispatch, also where the same slot is dispatched again. An exit is
-- the end of the machine, which isn't over before, but where no step is allowed. A word without a row kills, and so does a fetch past the page.
pub record OneProcessCalls : Type 0 where
  pub fork : (report_after (calling 2 0) 0).end ≡ Forked (pos 2) 2 1 1
  pub parent : (report_after (calling 2 0) 1).slot ≡ 0
  pub answer : integer_at (state (calling 2 0) 1) 0 10 ≡ Some 2
  pub child : integer_at (state (calling 2 0) 1) 1 10 ≡ Some 0
  pub yield : (report_after (calling 12 5) 0).end ≡ Answered 12 (pos 0)
  pub again : (report_after (calling 12 5) 1).dispatch ≡ Some (Steps 7)
  pub number : (report_after (calling 4 0) 1).dispatch ≡ None
  pub exit : (report_after (calling 1 259) 0).end ≡ Ended 3
  pub over : outcome_of (state (calling 1 259) 1) ≡ Done
  pub not_over : is_over 9 (calling 1 259) ≡ false
  pub ended : is_over 9 (state (calling 1 259) 1) ≡ true
  pub stopped : is_over 0 (calling 1 259) ≡ true
  pub bad_word : (report_after (one_with (replicate 32 null) []) 0).end ≡ Ended 264
  pub no_page : (report_after (record (calling 4 0) { content = begin_of (nothing Full 2) 0 }) 0).end ≡ Ended 267
  pub no_word : (report_after (record (calling 4 0) { content = begin_of (nothing Full 2) 0 }) 0).work ≡ Instr (region_start 0) None
  pub done : status_of Done ≡ 0
  pub stuck : status_of Stuck ≡ 9
  pub running : status_of Running ≡ 8

-- A write of 5000 bytes that is underway: the step goes on with it and fetches nothing, its waiting attempt costs a step of the quantum, and the slot
-- stays current.
abbrev pub writing : Machine
writing =
    record (machine_of Full 1 0 (Some (process 1 0 0 (call_with 8 1 (whole 0) 5000) (InWrite 8)) ∷ []) (with_page (with_page (begin_of (nothing Full 2) 0) 0 0 []) 0 1 []) 2) {
      clock = record { steps = 3; current = Some 0; quantum = Some 6; last = 0; rest = [] };
    }

pub record AWriteGoesOn : Type 0 where
  pub work : (step_of writing).report.work ≡ Resume (region_start 0)
  pub end : (step_of writing).report.end ≡ Waiting 8
  pub count : (step_of writing).report.printed ≡ 4096
  pub piece : length (step_of writing).printed ≡ 4096
  pub clock : (step_of writing).next.clock ≡ record { steps = 4; current = Some 0; quantum = Some 5; last = 0; rest = [] }
  pub last : (report_after writing 1).end ≡ Answered 8 (pos 5000)

-- The process of region 1 shares its page of code with region 0, and works first. It is `sb x0, 0(c2)`, an ecall, or no instruction.
abbrev pub storing : Process
storing = process 2 0 1 (with_register (replicate 32 null) 2 (whole 1)) Ready

abbrev pub sharing_with : Rule → ℕ → List ℕ → Machine
sharing_with rule frames bytes =
    waiting 0 (machine_of rule 2 1 (Some (process 1 0 0 (replicate 32 null) Ready) ∷ Some storing ∷ [])
    (fork_of (add_page_of (begin_of (nothing rule frames) 0) 0 0 (right_to_read + right_to_write + right_to_execute) bytes).after 0 1).after frames) []

abbrev pub sharing : Rule → ℕ → Machine
sharing rule frames = sharing_with rule frames store_bytes

-- Under `access` its fetch touches, also where the word is then a call or a fault; without a free frame it is killed, and no word was fetched. Under
-- `pointer` its store touches, which is reported first, since the fetch made no touch. A write that goes on reports the touches of its transfer alone.
pub record TouchesAreReported : Type 0 where
  pub fetch : (step_of (sharing Access 2)).report.touches ≡ note 0 Copied ∷ untouched ∷ untouched ∷ []
  pub store : (step_of (sharing Pointer 2)).report.touches ≡ note 0 Copied ∷ untouched ∷ untouched ∷ []
  pub call : (step_of (sharing_with Access 2 (0x73 ∷ []))).report.touches ≡ note 0 Copied ∷ untouched ∷ untouched ∷ []
  pub call_end : (step_of (sharing_with Access 2 (0x73 ∷ []))).report.end ≡ Answered 0 (neg_ℤ (pos 38))
  pub bad_word : (step_of (sharing_with Access 2 [])).report.touches ≡ note 0 Copied ∷ untouched ∷ untouched ∷ []
  pub bad_word_end : (step_of (sharing_with Access 2 [])).report.end ≡ Ended 264
  pub killed : (step_of (sharing Access 1)).report.end ≡ Ended 268
  pub none : (step_of (sharing Access 1)).report.touches ≡ untouched ∷ untouched ∷ untouched ∷ []
  pub word : (step_of (sharing Access 1)).report.work ≡ Instr (region_start 1) None
  pub lacks : (step_of (sharing Access 1)).lacks ≡ true
  pub store_lacks : (step_of (sharing Pointer 1)).lacks ≡ true
  pub fits : (step_of (sharing Access 2)).lacks ≡ false
  pub other_lacks : (step_of (one_with (replicate 32 null) [])).lacks ≡ false

-- The start of an image of three pages, with three slots.
abbrev pub started_machine : Machine
started_machine = start (record { config = record { frames = 3; regions = 2; slots = 3; steps = 50; rule = Full }; schedule = (1, 2) ∷ (5, 1) ∷ []; file = worked_file; input = 7 ∷ [] })

pub record AnImageStarts : Type 0 where
  pub processes : started_machine.processes ≡ Some (record { id = 1; parent = 0; region = 0; regs = start_registers; pcc = start_pcc 4; state = Ready }) ∷ None ∷ None ∷ []
  pub tables : started_machine.tables ≡ (Some ConsoleIn ∷ Some ConsoleOut ∷ replicate 14 None) ∷ replicate 16 None ∷ replicate 16 None ∷ []
  pub pipes : started_machine.pipes ≡ replicate 16 []
  pub input : started_machine.input ≡ 7 ∷ []
  pub forks : started_machine.forks ≡ 0
  pub clock : started_machine.clock ≡ record { steps = 0; current = None; quantum = None; last = 2; rest = 1 ∷ 1 ∷ 5 ∷ [] }
