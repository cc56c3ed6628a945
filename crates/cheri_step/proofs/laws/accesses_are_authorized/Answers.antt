use Rattle.cheri_step.proofs.Authorized.{access-authorized, access-unmade}
use Rattle.cheri_step.proofs.LeftByFaults.{word-bound}
use Rattle.cheri_step.proofs.laws.accesses_are_authorized.Goals as goal

pub returns : goal.returns
returns c = record { loads_and_stores = access-authorized; fetches = word-bound; untouched = access-unmade }
