-- What the tests of a transfer come to, and what the effect of a transfer is.
use Rattle.std.proofs.Common.{◌≡◌, ◌≢◌, ◌∙◌, ◌⊎◌, inl, inr, ℕ, ◌+◌, ◌-◌, ◌≤◌, ◌==◌, ◌||◌, ◌&&◌, not, Bool, true, false, if◌then◌else◌, IsTrue, List, [], ◌∷◌, Option, Some, None, Result, Ok, Err, length, take, drop, refl, sym, ap, subst, arith}
use Rattle.std.specs.Prelude.{min}
use Rattle.std.specs.Option.{option_eq}
use Rattle.std.proofs.lemmas.Bool.{eq-eqb, ne_eqb}
use Rattle.std.proofs.lemmas.Bool.Decides.{eqb_tells}
use Rattle.cap_format.specs.Pattern.{address_of, kind_of}
use Rattle.cap_format.specs.Rights.{allows, holds}
use Rattle.machine_types.specs.declared.cause.Cause.{Cause}
use Rattle.machine_types.specs.declared.cause.Cause.TheVariants as cause
use Rattle.machine_types.specs.declared.errno.Errno.TheVariants.{Ebadf, Efault}
use Rattle.machine_types.specs.declared.touches.Access.{Access}
use Rattle.machine_types.specs.declared.touches.Access.TheVariants.{Read, Write, Fetch}
use Rattle.machine_types.specs.declared.touches.Note.{Note}
use Rattle.machine_types.specs.declared.touches.NoFrame.{NoFrame}
use Rattle.contents.specs.Numbers.{most_transfer}
use Rattle.contents.specs.Content.{Content, CallOutcome, page_at}
use Rattle.contents.specs.Accesses.{page_of_place, note_of}
use Rattle.contents.specs.Conditions.{Covers}
use Rattle.contents.specs.Regions.{end_of}
use Rattle.contents.specs.Transfers.{covers_of, may_access, overlaps_tag, Piece, pieces_of, two_notes, prepare_next, prepare_pieces, prepare_of, read_bytes_of, write_bytes_of}
use Rattle.machine.specs.declared.process.Process.{Process}
use Rattle.machine.specs.declared.process.State.TheVariants.{InWrite}
use Rattle.machine.specs.declared.process.Target.{Target}
use Rattle.machine.specs.declared.process.Target.TheVariants.{ConsoleIn, ConsoleOut, PipeRead, PipeWrite}
use Rattle.machine.specs.contracts.process.TargetPartialEq.TheImpl.{eq-value}
use Rattle.machine.specs.Numbers.{first_argument}
use Rattle.machine.specs.Processes.{integer}
use Rattle.machine.specs.Pipes.{target}
use Rattle.machine.specs.Machines.{View}
use Rattle.machine.specs.Effects.{Effect, Gives, answers, refuses, waits, ends, killed}
use Rattle.machine.specs.Calls.{is_fault, permission_of, count_of_call, place_of, done_of, sent, printed, console_write, read_size, taken, console_read, tested, is_for_reading, is_for_writing, row_read, row_write}
use Rattle.trap_syscalls.specs.declared.call.Call.{Call}
use Rattle.trap_syscalls.specs.Asked.{call_of, place_asked}

-- The tests.

-- a value that is the second test, where the first is passed, is both tests
pub and-true : (a b v : Bool) → a ≡ true → v ≡ b → v ≡ (a && b)
and-true a b v passed is = rw passed is

-- a value that is the first test, where that is failed, is both tests
pub and-false : (a b v : Bool) → a ≡ false → v ≡ a → v ≡ (a && b)
and-false a b v failed is = rw failed (is ∙ failed)

-- a test that says that two numbers are equal is their comparison
pub as-compared : (b : Bool) (j k : ℕ) → (IsTrue b → j ≡ k) × (j ≡ k → IsTrue b) → b ≡ (j == k)
as-compared b j k tells = by (eqb_tells j k)
  where
    by : (((j == k) ≡ true) × (j ≡ k)) ⊎ (((j == k) ≡ false) × (j ≢ k)) → b ≡ (j == k)
    by (inl (test, same)) = tells.1 same ∙ sym test
    by (inr (test, other)) = grind arith

-- a read wants to load
pub load-permission : (access : Access) (permission : ℕ) → access ≡ Read → permission ≡ 4 → permission ≡ permission_of access
load-permission access permission is this = rw is this

-- a write wants to store
pub store-permission : (access : Access) (permission : ℕ) → access ≢ Fetch → (access ≡ Write) ⊎ (access ≡ Fetch) → permission ≡ 8 → permission ≡ permission_of access
store-permission access permission transfer (inl is) this = rw is this
store-permission access permission transfer (inr fetch) this = absurd (transfer fetch)

-- no test refuses where each is passed
not-refused : (a b c d e : Bool) → not (not a || b || not c || not d || not e) ≡ ((((a && not b) && c) && d) && e)
not-refused false b c d e = refl
not-refused true true c d e = refl
not-refused true false false d e = refl
not-refused true false true false e = refl
not-refused true false true true false = refl
not-refused true false true true true = refl

-- a pointer is tagged and no entry
abbrev pub is_plain : Call → Bool
is_plain call = call.pointer.tag && not (kind_of call.pointer.bits == 1)

-- it has the permission, too
abbrev pub has_right : Call → Access → Bool
has_right call access = is_plain call && allows call.pointer.bits (permission_of access)

-- it holds the bytes, too
abbrev pub reaches : Call → Access → Bool
reaches call access = has_right call access && holds call.pointer.bits (address_of call.pointer.bits) call.count

-- and their pages are covered, too
abbrev pub passes : Content → Call → Access → Bool
passes c call access = reaches call access && covers_of c call.region (place_asked call) call.count access

-- the bytes that a process asks for may be accessed where its pointer passes these tests
pub no-fault : (p : Process) (c : Content) (access : Access) (call : Call) (slot : ℕ) → call ≡ call_of slot p → not (is_fault p c access call.count) ≡ passes c call access
unfolding is_fault
no-fault p c access call slot is =
    let asked : Call = call_of slot p in
    rw is
    (not-refused asked.pointer.tag (kind_of asked.pointer.bits == 1) (allows asked.pointer.bits (permission_of access)) (holds asked.pointer.bits (address_of asked.pointer.bits) asked.count)
    (covers_of c asked.region (place_asked asked) asked.count access))

-- The touches of a transfer.

-- part of what is covered is
pub covers-part : (c : Content) (region at count done size : ℕ) (access : Access) → done + size ≤ count → Covers region at count access c → Covers region (at + done) size access c
covers-part c region at count done size access within covered k below =
    let place : at + (done + k) ≡ at + done + k = omega arith in
    subst (λ p. may_access access (page_at c region (page_of_place p)) ≡ true) place (covered (done + k) (omega arith))

-- two notes, made two again, stay as they are
notes-stay : (notes : List Note) → two_notes notes ≡ two_notes (two_notes notes)
notes-stay [] = refl
notes-stay (note ∷ notes) = refl

-- what is answered after one touch is two notes, where what is answered after the rest is
next-two : (region : ℕ) (c : Content) (made notes : List Note) (rest : Content → List Note → CallOutcome (Result (List Note) NoFrame)) (o : Option Note)
    → ((d : Content) (made : List Note) → (rest d made).answer ≡ Ok notes → notes ≡ two_notes notes) → (prepare_next region c made rest o).answer ≡ Ok notes → notes ≡ two_notes notes
next-two region c made notes rest None later is = absurd (cc)
next-two region c made notes rest (Some note) later is = later _ _ is

-- what is answered after the touches of pieces is two notes
pieces-two : (region : ℕ) (access : Access) (pieces : List Piece) (c : Content) (made notes : List Note) → (prepare_pieces region access pieces c made).answer ≡ Ok notes → notes ≡ two_notes notes
pieces-two region access [] c made notes is =
    let same : two_notes made ≡ notes = cc in
    subst (λ (notes : List Note). notes ≡ two_notes notes) same (notes-stay made)
pieces-two region access (piece ∷ pieces) c made notes is =
    next-two region c made notes (prepare_pieces region access pieces) (note_of c access region (page_of_place piece.at) (overlaps_tag c region piece.at piece.count))
    (λ d made. pieces-two region access pieces d made notes) is

-- the touches that are answered are two notes
pub prepared-two : (c : Content) (region at n : ℕ) (access : Access) (notes : List Note) → Ok notes ≡ (prepare_of c region at n access).answer → notes ≡ two_notes notes
unfolding prepare_of
prepared-two c region at n access notes is = pieces-two region access (pieces_of at n) c [] notes (sym is)

-- The effect of a write.

-- a write answers where all is sent
pub sent-all : (v : View) (c : Content) (notes : List Note) (done : ℕ) → done ≡ count_of_call v → sent v c notes [] done ≡ answers v c notes (Gives done)
sent-all v c notes done all = rw (eq-eqb done (count_of_call v) all) refl

-- and else it goes on
pub sent-part : (v : View) (c : Content) (notes : List Note) (done : ℕ) → done ≢ count_of_call v → sent v c notes [] done ≡ waits v c notes (InWrite done)
sent-part v c notes done part = rw (ne_eqb done (count_of_call v) part) refl

-- either leaves the content as the touches left it
pub sent-content : (v : View) (c : Content) (notes : List Note) (piece : List ℕ) (done : ℕ) → (sent v c notes piece done).content ≡ c
sent-content v c notes piece done = by (done == count_of_call v)
  where
    by : (all : Bool) → (if all then answers v c notes (Gives done) else waits v c notes (InWrite done)).content ≡ c
    by true = refl
    by false = refl

-- a process that is killed leaves no store
pub killed-content : (v : View) (c : Content) (notes : List Note) (cause : Cause) (lacks : Bool) → (killed v c notes cause lacks).content ≡ end_of c v.process.region
unfolding ends
killed-content v c notes cause lacks = refl

-- a write by what its touches answer
write-of : (v : View) (c : Content) (done size : ℕ) → done ≡ done_of v.process.state → size ≡ min (count_of_call v - done) most_transfer
    → console_write v c (done_of v.process.state)
    ≡ printed v done size (prepare_of c v.process.region (place_of v.process + done) size Read).after (prepare_of c v.process.region (place_of v.process + done) size Read).answer
unfolding console_write
write-of v c done size done_is size_is = rw (size_is, done_is) refl

-- where they found their frames, the bytes are sent
printed-found : (v : View) (done size : ℕ) (c : Content) (answer : Result (List Note) NoFrame) (notes : List Note) → Ok notes ≡ answer
    → printed v done size c answer ≡ sent v c notes (read_bytes_of c v.process.region (place_of v.process + done) size) (done + size)
printed-found v done size c answer notes is = rw (← is) refl

-- where one lacked a frame, the process is killed
printed-lacking : (v : View) (done size : ℕ) (c : Content) (answer : Result (List Note) NoFrame) (lack : NoFrame) → Err lack ≡ answer
    → printed v done size c answer ≡ killed v c (lack.before ∷ []) cause.NoFrame true
printed-lacking v done size c answer lack is = rw (← is) refl

-- The effect of a read.

-- at the input's end it answers 0
pub read-nothing : (v : View) (c : Content) → length v.input ≡ 0 → console_read v c ≡ answers v c [] (Gives 0)
unfolding console_read
read-nothing v c none = rw (eq-eqb (length v.input) 0 none) refl

-- a read of some input by what its touches answer
read-of : (v : View) (c : Content) (size : ℕ) → length v.input ≢ 0 → size ≡ read_size v
    → console_read v c ≡ taken v size (prepare_of c v.process.region (place_of v.process) size Write).after (prepare_of c v.process.region (place_of v.process) size Write).answer
unfolding console_read
read-of v c size some size_is = rw (size_is, ne_eqb (length v.input) 0 some) refl

-- the effect of a read that took so many bytes, which then lie in the content
abbrev pub took : View → Content → List Note → ℕ → Effect
took v c notes size = record (answers v c notes (Gives size)) { input = Some (drop size v.input) }

-- where the touches found their frames, the bytes are taken
taken-found : (v : View) (size : ℕ) (c : Content) (answer : Result (List Note) NoFrame) (notes : List Note) → Ok notes ≡ answer
    → taken v size c answer ≡ took v (write_bytes_of c v.process.region (place_of v.process) (take size v.input)) notes size
taken-found v size c answer notes is = rw (← is) refl

-- where one lacked a frame, the process is killed
taken-lacking : (v : View) (size : ℕ) (c : Content) (answer : Result (List Note) NoFrame) (lack : NoFrame) → Err lack ≡ answer → taken v size c answer ≡ killed v c (lack.before ∷ []) cause.NoFrame true
taken-lacking v size c answer lack is = rw (← is) refl

-- A transfer of bytes that a process asks for, which lie from a place on.
module _ (v : View) (c : Content) (call : Call) (slot : ℕ) (asked : call ≡ call_of slot v.process) (at : ℕ) (at_is : at ≡ place_asked call) where
  -- its region and its place are those of the process
  region-of : call.region ≡ v.process.region
  region-of = ap (λ (call : Call). call.region) asked

  at-of : at ≡ place_of v.process
  at-of = at_is ∙ ap place_asked asked

  -- A write of which so many bytes are done, and this many are to be sent.
  module _ (done size : ℕ) (done_is : done ≡ done_of call.state) (size_is : size ≡ min (call.count - done) most_transfer) where
    abbrev touches_of_write : CallOutcome (Result (List Note) NoFrame)
    touches_of_write = prepare_of c call.region (at + done) size Read

    -- so are the bytes that are done, and the size
    done-of : done ≡ done_of v.process.state
    done-of = done_is ∙ ap (λ (call : Call). done_of call.state) asked

    write-size : size ≡ min (count_of_call v - done) most_transfer
    write-size = size_is ∙ ap (λ (call : Call). min (call.count - done) most_transfer) asked

    -- where the touches find their frames, the bytes are sent
    pub write-found : (notes : List Note) → Ok notes ≡ touches_of_write.answer
        → console_write v c (done_of v.process.state) ≡ sent v touches_of_write.after notes (read_bytes_of touches_of_write.after call.region (at + done) size) (done + size)
    write-found notes is =
        let found = rw (region-of, at-of) at is in
        rw (region-of, at-of) (write-of v c done size done-of write-size ∙ printed-found v done size _ _ notes found)

    -- and else the process is killed
    pub write-lacking : (lack : NoFrame) → Err lack ≡ touches_of_write.answer → console_write v c (done_of v.process.state) ≡ killed v touches_of_write.after (lack.before ∷ []) cause.NoFrame true
    write-lacking lack is =
        let lacking = rw (region-of, at-of) at is in
        rw (region-of, at-of) (write-of v c done size done-of write-size ∙ printed-lacking v done size _ _ lack lacking)

  -- A read where so many bytes of the input are left, and this many are to be taken.
  module _ (left size : ℕ) (left_is : left ≡ length v.input) (some : left ≢ 0) (size_is : size ≡ min (min call.count left) most_transfer) where
    abbrev touches_of_read : CallOutcome (Result (List Note) NoFrame)
    touches_of_read = prepare_of c call.region at size Write

    -- the size is that of the view, which has some input
    read-size : size ≡ read_size v
    read-size = size_is ∙ ap (λ (call : Call). min (min call.count left) most_transfer) asked ∙ ap (λ (left : ℕ). min (min (count_of_call v) left) most_transfer) left_is

    some-left : length v.input ≢ 0
    some-left none = some (left_is ∙ none)

    -- where the touches find their frames, the bytes are taken
    pub read-found : (notes : List Note) → Ok notes ≡ touches_of_read.answer
        → console_read v c ≡ took v (write_bytes_of touches_of_read.after call.region at (take size v.input)) notes size
    read-found notes is =
        let found = rw (region-of, at-of) at is in
        rw (region-of, at-of) (read-of v c size some-left read-size ∙ taken-found v size _ _ notes found)

    -- and else the process is killed
    pub read-lacking : (lack : NoFrame) → Err lack ≡ touches_of_read.answer → console_read v c ≡ killed v touches_of_read.after (lack.before ∷ []) cause.NoFrame true
    read-lacking lack is =
        let lacking = rw (region-of, at-of) at is in
        rw (region-of, at-of) (read-of v c size some-left read-size ∙ taken-lacking v size _ _ lack lacking)

-- The tests of a call, in their order.

module _ (v : View) (c : Content) (access : Access) (may : Bool) (transfer : Effect) where
  -- a descriptor that is not for this use
  pub tested-closed : may ≡ false → tested v c access may transfer ≡ refuses v c Ebadf
  tested-closed closed = rw closed refl

  -- a count of 0
  pub tested-nothing : may ≡ true → count_of_call v ≡ 0 → tested v c access may transfer ≡ answers v c [] (Gives 0)
  tested-nothing open_for none = rw (open_for, eq-eqb (count_of_call v) 0 none) refl

  -- bytes that may not be accessed
  pub tested-fault : may ≡ true → count_of_call v ≢ 0 → is_fault v.process c access (count_of_call v) ≡ true → tested v c access may transfer ≡ refuses v c Efault
  tested-fault open_for some fault = rw (open_for, ne_eqb (count_of_call v) 0 some, fault) refl

  -- and else the transfer
  pub tested-passed : may ≡ true → count_of_call v ≢ 0 → is_fault v.process c access (count_of_call v) ≡ false → tested v c access may transfer ≡ transfer
  tested-passed open_for some fault = rw (open_for, ne_eqb (count_of_call v) 0 some, fault) refl

-- a test that is turned says what it says turned back
turned-back : (b : Bool) → b ≡ not (not b)
turned-back true = refl
turned-back false = refl

-- a transfer that may be made has no fault, and one that may not has one
pub fault-of : (p : Process) (c : Content) (access : Access) (n count : ℕ) (may : Bool) → n ≡ count → may ≡ not (is_fault p c access n) → is_fault p c access count ≡ not may
fault-of p c access n count may same is = ap (is_fault p c access) (sym same) ∙ turned-back (is_fault p c access n) ∙ ap not (sym is)

-- a descriptor that is not the console's input is for no reading
not-input : (o : Option Target) → not (option_eq eq-value.it o (Some ConsoleIn)) ≡ not (is_for_reading o)
not-input None = refl
not-input (Some ConsoleIn) = refl
not-input (Some ConsoleOut) = refl
not-input (Some (PipeRead k)) = refl
not-input (Some (PipeWrite k)) = refl

-- so the comparison tells whether it is for reading
pub for-reading : (o : Option Target) (other : Bool) → other ≡ not (option_eq eq-value.it o (Some ConsoleIn)) → is_for_reading o ≡ not other
for-reading o other is = turned-back (is_for_reading o) ∙ ap not (sym (is ∙ not-input o))

-- one that is not the console's output is for no writing
not-output : (o : Option Target) → not (option_eq eq-value.it o (Some ConsoleOut)) ≡ not (is_for_writing o)
not-output None = refl
not-output (Some ConsoleIn) = refl
not-output (Some ConsoleOut) = refl
not-output (Some (PipeRead k)) = refl
not-output (Some (PipeWrite k)) = refl

-- so this comparison tells whether it is for writing
pub for-writing : (o : Option Target) (other : Bool) → other ≡ not (option_eq eq-value.it o (Some ConsoleOut)) → is_for_writing o ≡ not other
for-writing o other is = turned-back (is_for_writing o) ∙ ap not (sym (is ∙ not-output o))

-- a read by what its descriptor names
pub read-tested : (v : View) (c : Content) (o : Option Target) → o ≡ target v.table (integer v.process first_argument) → row_read v c ≡ tested v c Write (is_for_reading o) (console_read v c)
unfolding row_read
read-tested v c o looked = rw looked refl

-- a write by what its descriptor names
pub write-tested : (v : View) (c : Content) (o : Option Target) → o ≡ target v.table (integer v.process first_argument)
    → row_write v c ≡ tested v c Read (is_for_writing o) (console_write v c (done_of v.process.state))
unfolding row_write
write-tested v c o looked = rw looked refl
