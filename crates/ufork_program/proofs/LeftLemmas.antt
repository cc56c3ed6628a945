-- What a command leaves: the board of what stands, and the status.
use Rattle.std.proofs.Common.{◌≡◌, ◌≢◌, ℕ, Some, None, Ok, Err, Result, MatchResult, List, [], ◌∷◌, refl, ap}
use Rattle.std.specs.Bool.{⊤}
use Rattle.std.specs.declared.option.Option.{Option}
use Rattle.outside_io.specs.declared.streams.Failed.{Failed}
use Rattle.outside_io.specs.States.{SinkState, PrintsText}
use Rattle.outside_io.specs.Parts.{Part, Console, console, err_part, Prints}
use Rattle.outside_io.specs.Answers.{Answer, Answers, refusal, memory_wanted, write_fault}
use Rattle.outside_io.specs.Moments.{EndsAt}
use Rattle.outside_io.proofs.PartLemmas.{Prints-nothing, Prints-err, Prints-stop, Prints-gives}
use Rattle.outside_io.proofs.AnswerLemmas.{Ends-from, Answers-failed}
use Rattle.outside_io.proofs.MomentLemmas.{EndsAt-steady}
use Rattle.contents.specs.Content.{Content}
use Rattle.stores.specs.declared.board.Board.{Board}
use Rattle.stores.specs.Boards.{Stands, IsEmpty}
use Rattle.full_space.specs.declared.space.FullSpace.{FullSpace}
use Rattle.full_space.specs.Full.{FullStands}
use Rattle.machine.specs.Machines.{Machine}
use Rattle.ufork_program.specs.Run.{IsLeftIn}
use Rattle.ufork_program.specs.Answer.{shown_answer, refused}
use Rattle.ufork_program.specs.Headline.{IsLeftOn}
use Rattle.kernel_loop.specs.declared.kernel.Kernel.{Kernel}
use Rattle.stores.specs.declared.space.Stores.{Ghosts}

-- a board that stands for what a kernel's space did stands for the machine that stood in the kernel
pub left_on : {g : Ghosts FullSpace} (k : Kernel FullSpace g) (given left : Board) → ((c : Content) → FullStands k.core.space c → Stands left c)
    → (t : Option Machine) → IsLeftIn FullStands k t → IsLeftOn given left t
left_on k given left stands None h = absurd h
left_on k given left stands (Some m) h = stands m.content h.space

-- a board for whatever a space stood for
pub space_left : (space given : FullSpace) (left : Board) → given ≡ space → ((c : Content) → FullStands given c → Stands left c) → (c : Content) → FullStands space c → Stands left c
space_left space given left is h = rw is at h

-- the frames of a board of another size
pub size_set : (old new : Board) (n : ℕ) → new ≡ record old { pool = record old.pool { size = n } } → new.pool.size ≡ n
size_set old new n e = ap (λ b. b.pool.size) e

-- a board whose number of frames was set, and set again to what it was
pub size_back : (old new : Board) (n : ℕ) → new ≡ record (record old { pool = record old.pool { size = n } }) { pool = record (record old { pool = record old.pool { size = n } }).pool { size = old.pool.size } } → new ≡ old
size_back old new n e = e

-- what is answered while no machine stands leaves the board as it was
pub refused_ends : {E : Type 0} (answer : Answer) (a b : Console) (r : Result ℕ E) (status : ℕ) (given : Board) → IsEmpty given
    → Answers answer a b r → MatchResult r (λ answered. status ≡ answered) (λ _. status ≡ write_fault) → EndsAt (refused answer) (IsLeftOn given given) a b status
refused_ends answer a b r status given empty h e = EndsAt-steady None answer (IsLeftOn given given) a b status (refl, empty) (Ends-from answer a b r status h e)

-- where memory is wanted nothing is written
pub memory_ends : (a : Console) (status : ℕ) (given : Board) → IsEmpty given → status ≡ memory_wanted.status → EndsAt (refused memory_wanted) (IsLeftOn given given) a a status
memory_ends a status given empty e = refused_ends {E = ⊥} memory_wanted a a (Ok memory_wanted.status) status given empty (record { prints = Prints-nothing a memory_wanted.status; status = refl }) e

-- a line that was written, or cut, is the answer of its refusal
pub line_answered : (status : ℕ) (line : List ℕ) (out old new : SinkState) (written : Result (Unit {0}) Failed) (result : Result ℕ Failed) → line ≢ [] → PrintsText line old new written
    → MatchResult written (λ _. result ≡ Ok status) (λ failed. result ≡ Err failed) → Answers (refusal status line) (console out old) (console out new) result
line_answered status line out old new (Ok done) result some prints is =
    rw is (record { prints = Prints-gives _ _ _ _ _ (Prints-err _ _ _ _ _ tt prints); status = refl })
line_answered status line out old new (Err failed) result some prints is =
    rw is (Answers-failed _ _ _ _ (λ (other : Failed). ⊤) tt (Prints-stop (err_part line ∷ []) [] _ _ _ _ (λ (other : Failed). ⊤) tt (Prints-err _ _ _ _ _ some prints)))

-- what is shown of a file, and was written, or cut, is answered with 0
pub shown_answered : (parts : List Part) (old new : Console) (written : Result (Unit {0}) Failed) (result : Result ℕ Failed) → Prints parts old new written
    → MatchResult written (λ _. result ≡ Ok 0) (λ failed. result ≡ Err failed) → Answers (shown_answer parts) old new result
shown_answered parts old new (Ok done) result prints is = rw is (record { prints = Prints-gives _ _ _ _ _ prints; status = refl })
shown_answered parts old new (Err failed) result prints is = rw is (record { prints = record { whole = tt; quiet = tt; cut = prints.cut; later = prints.later }; status = tt })
