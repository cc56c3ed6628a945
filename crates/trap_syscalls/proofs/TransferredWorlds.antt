-- What comes about in one effect comes about in another.
use Rattle.std.proofs.Common.{◌≡◌, ◌∙◌, ℕ, ◌+◌, ◌-◌, ◌≤◌, List, Option, Some, Vec, Global, vec_len, length, take, drop, sym, ap}
use Rattle.std.proofs.lemmas.List.{drop-drop, length-drop}
use Rattle.machine_types.specs.declared.touches.Note.{Note}
use Rattle.contents.specs.Content.{Content}
use Rattle.machine.specs.declared.process.Process.{Process}
use Rattle.machine.specs.declared.process.Target.{Target}
use Rattle.machine.specs.Numbers.{first_argument}
use Rattle.machine.specs.Processes.{process_at, integer}
use Rattle.machine.specs.Pipes.{Table, table_at, target}
use Rattle.machine.specs.Machines.{Machine, View, view_of}
use Rattle.machine.specs.Effects.{Effect, Answer, answers}
use Rattle.machine.specs.Applying.{applied}
use Rattle.trap_syscalls.specs.declared.call.Call.{Call}
use Rattle.trap_syscalls.specs.declared.world.World.{World}
use Rattle.trap_syscalls.specs.declared.world.CallDone.{CallDone}
use Rattle.trap_syscalls.specs.Asked.{call_of}
use Rattle.trap_syscalls.specs.Worlds.{IsWorldOf, HasCalled}
use Rattle.trap_syscalls.specs.Calling.{IsAsked}

-- the call is what the process of the machine's slot asks for
pub asks : (m : Machine) (w : World) (call : Call) (p : Process) → IsAsked w call → IsWorldOf m w → process_at m.processes call.slot ≡ Some p → call ≡ call_of call.slot p
asks m w call p asked is there = asked p (ap (λ (processes : List (Option Process)). process_at processes call.slot) (sym is.processes) ∙ there)

-- what a descriptor names in the world it names in the view of the process
pub looked-at : (m : Machine) (w : World) (call : Call) (p : Process) (o : Option Target) → IsWorldOf m w → call ≡ call_of call.slot p → o ≡ target (table_at w.files.tables call.slot) call.first
    → o ≡ target (view_of m call.slot p).table (integer p first_argument)
looked-at m w call p o is asked looked =
    looked ∙ ap (λ (tables : List Table). target (table_at tables call.slot) call.first) (sym is.tables) ∙ ap (λ (first : ℕ). target (table_at m.tables call.slot) first) (ap (λ (call : Call). call.first) asked)

-- what comes about in one effect comes about in one that equals it
pub called-as : (m : Machine) (slot : ℕ) (p : Process) (e f : Effect) (result : CallDone) (w : World) → f ≡ e → HasCalled m slot p e result w → HasCalled m slot p f result w
called-as m slot p e f result w same called = rw same called

-- A call that printed nothing comes about as one that printed a piece, where a buffer that is as long has the piece in front.
pub with-piece : (m : Machine) (slot : ℕ) (p : Process) (e : Effect) (result : CallDone) (w : World) (piece : List ℕ) (count : ℕ) (buffer : Vec ℕ Global) → HasCalled m slot p e result w
    → length buffer.items ≡ length w.buffer.items → count ≡ length piece → take count buffer.items ≡ piece
    → HasCalled m slot p (record e { printed = piece }) (record result { printed = count }) (record w { buffer = buffer })
unfolding applied
with-piece m slot p e result w piece count buffer called as_long counted front = record {
  world = record {
    processes = called.world.processes;
    tables = called.world.tables;
    pipes = called.world.pipes;
    input = called.world.input;
    forks = called.world.forks;
    plan = called.world.plan;
    taken = called.world.taken;
    buffer = as_long ∙ called.world.buffer;
  };
  end = called.end;
  touches = called.touches;
  printed = counted;
  piece = front;
}

-- The world in which so many more bytes of the input are taken is that of the machine that has them no more.
pub taken-world : (m : Machine) (w : World) (size : ℕ) → IsWorldOf m w → w.taken + size ≤ length w.input.items → IsWorldOf (record m { input = drop size m.input }) (record w { taken = w.taken + size })
taken-world m w size is within = record {
  processes = is.processes;
  tables = is.tables;
  pipes = is.pipes;
  input = ap (drop size) is.input ∙ drop-drop size w.taken w.input.items;
  forks = is.forks;
  plan = is.plan;
  taken = within;
  buffer = is.buffer;
}

-- what is left of the input, where so much is taken
pub left-of : (m : Machine) (w : World) (count : ℕ) → IsWorldOf m w → count ≡ vec_len w.input → count - w.taken ≡ length m.input
left-of m w count is counted = ap (λ (count : ℕ). count - w.taken) (counted ∙ w.input.ok.0) ∙ sym (ap length is.input ∙ length-drop w.taken w.input.items)

-- a call that answers where the machine has another input comes about as one that leaves that input
pub with-input : (m : Machine) (slot : ℕ) (p : Process) (v : View) (c : Content) (notes : List Note) (answer : Answer) (input : List ℕ) (result : CallDone) (w : World)
    → HasCalled (record m { input = input }) slot p (answers v c notes answer) result w → HasCalled m slot p (record (answers v c notes answer) { input = Some input }) result w
unfolding applied
with-input m slot p v c notes answer input result w called = record { world = called.world; end = called.end; touches = called.touches; printed = called.printed; piece = called.piece }
