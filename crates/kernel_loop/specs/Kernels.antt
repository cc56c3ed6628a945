-- What a kernel's clauses speak of.
use Rattle.std.specs.Prelude.{ℕ, ◌≡◌, ◌<◌, List, take}
use Rattle.contents.specs.Content.{Content}
use Rattle.stores.specs.declared.space.Stores.{Ghosts}
use Rattle.machine.specs.Machines.{Machine}
use Rattle.kernel_loop.specs.Stands.{CoreStands}
use Rattle.kernel_loop.specs.declared.kernel.Kernel.{Kernel}
use Rattle.kernel_loop.specs.declared.kernel.BootReason.{BootReason}
use Rattle.kernel_loop.specs.declared.kernel.BootReason.TheVariants.{NoFrames, NoMemory}

-- It stands for the machine: its space stands for the stores and the account, and all else is equal.
abbrev pub KernelStands : {S : Type 0} {g : Ghosts S} → (S → Content → Type 0) → Kernel S g → Machine → Type 0
KernelStands stands_for k m = CoreStands stands_for k.core m

-- how many steps it made
abbrev pub steps_of : {S : Type 0} {g : Ghosts S} → Kernel S g → ℕ
steps_of k = k.core.clock.steps

-- what its last step printed
abbrev pub piece_of : {S : Type 0} {g : Ghosts S} → Kernel S g → List ℕ
piece_of k = take k.core.printed k.core.world.buffer.items

-- so many pages are more than so many frames, and both are told; or memory was wanted
abbrev pub IsReason : ℕ → ℕ → BootReason → Type 0
IsReason pages frames (NoFrames needed there) = (frames < pages) × (needed ≡ pages) × (there ≡ frames)
IsReason pages frames NoMemory = Unit {0}

-- so the reason says
abbrev pub ReasonsAreTold : Type 0
ReasonsAreTold = (pages frames needed there : ℕ) → IsReason pages frames (NoFrames needed there) → (frames < pages) × (needed ≡ pages) × (there ≡ frames)
