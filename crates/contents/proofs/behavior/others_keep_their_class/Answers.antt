use Rattle.contents.proofs.KeptAccounts.{others-homes, others-share}
use Rattle.contents.proofs.behavior.others_keep_their_class.Goals as goal

pub returns : goal.returns
returns c = record { homes = others-homes; sharing = λ c access region page tagged note r p s q whole. others-share c access region page tagged note r p s q }
