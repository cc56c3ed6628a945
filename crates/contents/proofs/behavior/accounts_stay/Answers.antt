use Rattle.std.proofs.Common.{refl}
use Rattle.contents.specs.Regions.{begin_of, seed_cap_of}
use Rattle.contents.proofs.KeptAccounts.{bytes-account, added-account}
use Rattle.contents.proofs.behavior.accounts_stay.Goals as goal

pub returns : goal.returns
unfolding begin_of seed_cap_of
returns c = record { begin = λ c region. refl; seed_cap = λ c region at cap. refl; write_bytes = bytes-account; add_page = added-account }
