-- An instruction leaves the rights of each page.
use Rattle.std.proofs.Common.{◌≡◌, ◌≢◌, ◌∙◌, ◌⊎◌, inl, inr, ℕ, refl, true, false, nat_eq}
use Rattle.std.proofs.lemmas.Bool.Decides.{eqb_tells}
use Rattle.cap_format.specs.declared.cap.Cap.{Cap}
use Rattle.machine_types.specs.declared.touches.Access.{Access}
use Rattle.contents.specs.Content.{Content}
use Rattle.contents.specs.Accesses.{write_of, write_cap_of}
use Rattle.contents.specs.Looks.{rights_of}
use Rattle.contents.specs.Laws.{OthersStay}
use Rattle.contents.proofs.CallShapes.{HoldsOfTouches, read-holds, read_cap-holds, write-holds, write_cap-holds}
use Rattle.contents.proofs.OtherStores.{other-steps}
use Rattle.contents.proofs.OwnStore.{rights-same}
use Rattle.contents.proofs.StayedElse.{write-rights, cap-rights}
use Rattle.cheri_step.specs.declared.memory.MemoryOp.{MemoryOp}
use Rattle.cheri_step.specs.Access.{place_in, accessed}
use Rattle.cheri_step.specs.Effect.{State, effect}
use Rattle.cheri_step.specs.Laws.{HasSameRights}
use Rattle.cheri_step.proofs.Accessed.{Accesses, by-access}
use Rattle.cheri_step.proofs.KeptByEffects.{effect-kept}

-- a touch leaves them
right-touches : (region : ℕ) → HoldsOfTouches region HasSameRights
unfolding rights_of
right-touches region = record {
  stays = λ c r page. refl;
  joins = λ a b c h k r page. k r page ∙ h r page;
  touch = λ c access n tagged note e r page. refl;
}

-- where the stores of the other regions stay, and the rights of the pages of the region do, those of all pages do
all-rights : (region : ℕ) (before after : Content) → OthersStay region before after → ((page : ℕ) → rights_of after region page ≡ rights_of before region page) → HasSameRights before after
all-rights region before after others own r page = by (eqb_tells r region)
  where
    by : ((nat_eq r region ≡ true) × (r ≡ region)) ⊎ ((nat_eq r region ≡ false) × (r ≢ region)) → rights_of after r page ≡ rights_of before r page
    by (inl (test, same)) = rw same (own page)
    by (inr (test, other)) = rights-same before after r page (others r other)

-- a store of a number leaves them
write-same : (c : Content) (region at size v : ℕ) → HasSameRights c (write_of c region at size v).after
write-same c region at size v =
    all-rights region c (write_of c region at size v).after (write-holds (OthersStay region) region (other-steps region).stores c at size v) (λ page. write-rights c region at size v page)

-- and a store of a capability
cap-same : (c : Content) (region at : ℕ) (cap : Cap) → HasSameRights c (write_cap_of c region at cap).after
cap-same c region at cap =
    all-rights region c (write_cap_of c region at cap).after (write_cap-holds (OthersStay region) region (other-steps region).stores c at cap) (λ page. cap-rights c region at page cap)

-- so does each access
accessed-rights : (region : ℕ) (c : Content) (address : ℕ) (op : MemoryOp) → HasSameRights c (accessed c region address op).after
unfolding accessed
accessed-rights region c address op =
    by-access (λ (access : Access) (f : Accesses). (d : Content) → HasSameRights d (f d).after) region at
    (λ d. read_cap-holds HasSameRights region (right-touches region) d at) (λ size d. read-holds HasSameRights region (right-touches region) d at size)
    (λ cap d. cap-same d region at cap) (λ size v d. write-same d region at size v) op c
  where
    at : ℕ
    at = place_in region address

-- and each instruction
pub effect-rights : (region : ℕ) (s : State) → HasSameRights s.content (effect s region).after.content
effect-rights region = effect-kept HasSameRights region (right-touches region) (accessed-rights region)
