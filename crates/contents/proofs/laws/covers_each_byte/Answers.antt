use Rattle.contents.proofs.laws.covers_each_byte.Goals as goal
use Rattle.contents.proofs.Covered.{covered-by-scan, scan-of-covered}

pub returns : goal.returns
returns c = λ c' region at n access. (covered-by-scan c' region access at n, scan-of-covered c' region access at n)
