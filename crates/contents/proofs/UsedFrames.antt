-- No step uses more frames than there are, where no more were used.
use Rattle.std.proofs.Common.{◌≡◌, ◌≢◌, ◌≤◌, ◌+◌, ℕ, refl, arith, false, Bool, Some, List, length, map}
use Rattle.std.proofs.lemmas.Bool.{eq-eqb}
use Rattle.std.proofs.lemmas.List.{length-map, length-append}
use Rattle.std.proofs.lemmas.List.Sums.{length-filter, count_by-le-length}
use Rattle.machine_types.specs.declared.touches.Access.{Access}
use Rattle.machine_types.specs.declared.touches.Note.{Note}
use Rattle.machine_types.specs.declared.touches.Touched.{Touched}
use Rattle.machine_types.specs.declared.touches.Touched.TheVariants.{No, Copied, Moved}
use Rattle.machine_types.specs.Accounts.{Class, is_full, has_members, without_region, account_at_end}
use Rattle.machine_types.specs.Touches.{account_after}
use Rattle.contents.specs.Content.{Content, class_at, used_frames}
use Rattle.contents.specs.Accesses.{note_of, touched}
use Rattle.contents.proofs.CallShapes.{HoldsOfSteps}
use Rattle.contents.proofs.TouchLemmas.{account-used, note-copied}
use Rattle.contents.proofs.ForkLemmas.{fork-fits}

-- no more frames are used than there are, where no more were
abbrev pub StaysWithin : Content → Content → Type 0
StaysWithin before after = used_frames before ≤ before.frames → used_frames after ≤ after.frames

-- where not all are used, one more can be
room : (frames : ℕ) (account : List Class) → is_full frames account ≡ false → length account ≤ frames → length account + 1 ≤ frames
room frames account test within =
    let apart : length account ≢ frames = λ same. let t = eq-eqb (length account) frames same in cc in
    omega arith

-- a touch that copies only where not all are used
account-within : (t : Touched) (region page frames : ℕ) (account : List Class) → (t ≡ Copied → is_full frames account ≡ false) → length account ≤ frames
    → length (account_after t region page account) ≤ frames
account-within No region page frames account free within = within
account-within Moved region page frames account free within = omega (arith, account-used Moved region page account)
account-within Copied region page frames account free within = omega (arith, account-used Copied region page account, room frames account (free refl) within)

-- a touch of a note that an access finds
touch-within : (c : Content) (access : Access) (region page : ℕ) (tagged : Bool) (note : Note) → note_of c access region page tagged ≡ Some note → StaysWithin c (touched c region note)
touch-within c access region page tagged note e =
    account-within note.touched region note.page c.frames c.account (note-copied c access region page tagged (class_at c region page) note e)

-- no class is new where a region ends
end-length : (region : ℕ) (account : List Class) → length (account_at_end region account) ≤ length account
unfolding account_at_end
end-length region account =
    let kept : List Class = map (without_region region) account in
    rw (length-filter has_members kept) (omega (arith, count_by-le-length has_members kept, length-map account (without_region region)))

-- each step
pub within-steps : (region : ℕ) → HoldsOfSteps region StaysWithin
within-steps region = record {
  stores = record {
    touches = record {
      stays = λ c within. within;
      joins = λ a b c h k within. k (h within);
      touch = λ c access page tagged note e. touch-within c access region page tagged note e;
    };
    change = λ c change within. within;
  };
  store = λ c store within. within;
  end = λ c within. let fewer = end-length region c.account in omega arith;
  add = λ c page e within. let more = room c.frames c.account e within in simp length-append (omega arith);
  fork = λ c from pages account e within. fork-fits c.rule c.frames c.account from region pages account e within;
}
