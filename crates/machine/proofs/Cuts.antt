-- The two cuts of a sound machine say the same.
use Rattle.std.proofs.Common.{◌≡◌, refl, ℕ, ◌+◌, ◌^◌, ◌≤◌, ◌<◌, ◌==◌, ◌||◌, ◌&&◌, nat_eq, List, [], ◌∷◌, cond, true, false, Bool, arith}
use Rattle.std.specs.Prelude.{All}
use Rattle.std.specs.List.{list_any}
use Rattle.std.proofs.lemmas.List.Elements.{All-weaker}
use Rattle.cap_format.specs.declared.cap.Cap.{Cap}
use Rattle.machine_types.specs.Lists.{count_of}
use Rattle.machine_types.specs.Held.{IsHeld, AreHeld}
use Rattle.machine_types.specs.MemoryLaws.{ArePatterns}
use Rattle.machine_types.specs.Accounts.{Class, Member, is_member, has_members}
use Rattle.contents.specs.Content.{Content}
use Rattle.contents.specs.Having.{MayHave}
use Rattle.contents.specs.Whole.{IsClass}
use Rattle.machine.specs.Machines.{Machine}
use Rattle.machine.specs.Shape.{IsMachine}
use Rattle.machine.specs.Sound.{IsClassOf, Sound}
use Rattle.machine.specs.Steady.{IsGood, CutsAgree}

-- What two facts say of each element, they say together.
All-both : {X : Type 0} (P Q R : X → Type 0) → ((x : X) → P x → Q x → R x) → (xs : List X) → All P xs → All Q xs → All R xs
All-both P Q R both xs p q = λ k d low. both _ (p k d low) (q k d low)

-- What a page holds is what its region may hold, exactly where each granule is a pattern and one that a process of the region may have.
held-from : (c : Content) (region : ℕ) (granules : List Cap) → ArePatterns granules → All (MayHave c region) granules → AreHeld region granules
held-from c region granules = All-both (λ cap. cap.bits < 2 ^ 128) (MayHave c region) (IsHeld region) (λ cap p h. record { pattern = p; inside = h }) granules

-- So each is a pattern,
held-patterns : (region : ℕ) (granules : List Cap) → AreHeld region granules → ArePatterns granules
held-patterns region granules = All-weaker (IsHeld region) (λ cap. cap.bits < 2 ^ 128) (λ cap h. h.pattern) granules

-- and one that a process of the region may have.
held-inside : (c : Content) (region : ℕ) (granules : List Cap) → AreHeld region granules → All (MayHave c region) granules
held-inside c region granules = All-weaker (IsHeld region) (MayHave c region) (λ cap h. h.inside) granules

-- A page is at most as often a member as its region.
fewer-members : (region page : ℕ) (members : List Member) → count_of (is_member region page) members ≤ count_of (λ m. m.region == region) members
fewer-members region page [] = omega arith
fewer-members region page (m ∷ members) = by (nat_eq m.region region) (nat_eq m.page page) (fewer-members region page members)
  where
    by : (a b : Bool) → count_of (is_member region page) members ≤ count_of (λ m. m.region == region) members
        → cond (a && b) (1 + count_of (is_member region page) members) (count_of (is_member region page) members)
        ≤ cond a (1 + count_of (λ m. m.region == region) members) (count_of (λ m. m.region == region) members)
    by true true h = omega arith
    by true false h = omega arith
    by false b h = h

-- what is counted at most once is counted exactly where it is found
counted-once : (passes : Member → Bool) (members : List Member) → count_of passes members ≤ 1 → count_of passes members ≡ cond (list_any passes members) 1 0
counted-once passes [] h = refl
counted-once passes (m ∷ members) h = by (passes m) refl (counted-once passes members)
  where
    by : (b : Bool) → passes m ≡ b → (count_of passes members ≤ 1 → count_of passes members ≡ cond (list_any passes members) 1 0)
        → cond b (1 + count_of passes members) (count_of passes members) ≡ cond (b || list_any passes members) 1 0
    by true e rest = let less : 1 + count_of passes members ≤ 1 = rw e at h in omega arith
    by false e rest = rest (rw e at h)

-- A class with members of different regions has each of them once.
class-from : (c : Content) (class : Class) → has_members class ≡ true → IsClassOf c class → IsClass class
class-from c class some is = record {
  some = some;
  once = λ region page. let most = is.different region in let less = fewer-members region page class.members in counted-once (is_member region page) class.members (omega arith);
}

-- From what a machine is and its seven parts to the cut by which steps keep them,
good-from : (m : Machine) → IsMachine m → Sound m → IsGood m
good-from m is sound = record {
  steady = record {
    configured = is.configured;
    processes = record {
      content = record {
        whole = record {
          stores = is.pages.stores;
          pages = sound.account.pages;
          classes = All-both (λ class. has_members class ≡ true) (IsClassOf m.content) IsClass (class-from m.content) m.content.account sound.account.some sound.account.classes;
          used = sound.account.within;
          held = λ region page p there. held-from m.content region p.granules (is.pages.patterns region page p there) (sound.inside.stores region page p there);
        };
        classes = sound.account.classes;
        range = sound.range.account;
        alone = sound.alone;
        rights = is.pages.rights;
      };
      fine = λ k p there. record { inside = sound.inside.processes k p there; process = is.processes k p there; region = sound.range.processes k p there; zombie = sound.range.zombies k p there };
      ids = sound.ids;
      stores = is.stores;
      calls = sound.calls;
      described = is.tables;
    };
    pipes = is.pipes;
    input = is.input;
  };
  clock = sound.clock;
  idle = is.idle;
  made = sound.range.made;
}

-- and back to what a machine is,
machine-from : (m : Machine) → IsGood m → IsMachine m
machine-from m good = record {
  configured = good.steady.configured;
  tables = good.steady.processes.described;
  pipes = good.steady.pipes;
  processes = λ k p there. (good.steady.processes.fine k p there).process;
  stores = good.steady.processes.stores;
  pages = record {
    stores = good.steady.processes.content.whole.stores;
    patterns = λ region page p there. held-patterns region p.granules (good.steady.processes.content.whole.held region page p there);
    rights = good.steady.processes.content.rights;
  };
  input = good.steady.input;
  idle = good.idle;
}

-- and to the seven parts.
sound-from : (m : Machine) → IsGood m → Sound m
sound-from m good = record {
  inside = record {
    processes = λ k p there. (good.steady.processes.fine k p there).inside;
    stores = λ region page p there. held-inside m.content region p.granules (good.steady.processes.content.whole.held region page p there);
  };
  account = record {
    pages = good.steady.processes.content.whole.pages;
    classes = good.steady.processes.content.classes;
    some = All-weaker IsClass (λ class. has_members class ≡ true) (λ class h. h.some) m.content.account good.steady.processes.content.whole.classes;
    within = good.steady.processes.content.whole.used;
  };
  ids = good.steady.processes.ids;
  range = record {
    processes = λ k p there. (good.steady.processes.fine k p there).region;
    account = good.steady.processes.content.range;
    zombies = λ k p there. (good.steady.processes.fine k p there).zombie;
    made = good.made;
  };
  alone = good.steady.processes.content.alone;
  clock = good.clock;
  calls = good.steady.processes.calls;
}

-- Both ways together.
pub cuts-agree : CutsAgree
cuts-agree = record { good = good-from; machine = machine-from; sound = sound-from }
