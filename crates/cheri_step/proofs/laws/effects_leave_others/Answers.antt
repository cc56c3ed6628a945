use Rattle.contents.specs.Laws.{OthersStay, HasSameSetting, HasSameRegions}
use Rattle.contents.proofs.OtherStores.{other-steps}
use Rattle.contents.proofs.Settings.{setting-steps}
use Rattle.contents.proofs.KeptRegions.{region-stores}
use Rattle.cheri_step.proofs.KeptByEffects.{effect-holds}
use Rattle.cheri_step.proofs.KeptRights.{effect-rights}
use Rattle.cheri_step.proofs.laws.effects_leave_others.Goals as goal

pub returns : goal.returns
returns c = record {
  others = λ s region. effect-holds (OthersStay region) region (other-steps region).stores s;
  setting = λ s region. effect-holds HasSameSetting region (setting-steps region).stores s;
  regions = λ s region. effect-holds HasSameRegions region (region-stores region) s;
  pages = λ s region. effect-rights region s;
}
