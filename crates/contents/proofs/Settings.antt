-- No step changes the copy rule or the number of frames.
use Rattle.std.proofs.Common.{ℕ, refl, ◌∙◌}
use Rattle.contents.specs.Laws.{HasSameSetting}
use Rattle.contents.proofs.CallShapes.{HoldsOfSteps}

-- the rule and the number of frames after each step are those before it
pub setting-steps : (region : ℕ) → HoldsOfSteps region HasSameSetting
setting-steps region = record {
  stores = record {
    touches = record {
      stays = λ c. record { rule = refl; frames = refl };
      joins = λ a b c h k. record { rule = k.rule ∙ h.rule; frames = k.frames ∙ h.frames };
      touch = λ c access page tagged note e. record { rule = refl; frames = refl };
    };
    change = λ c change. record { rule = refl; frames = refl };
  };
  store = λ c store. record { rule = refl; frames = refl };
  end = λ c. record { rule = refl; frames = refl };
  add = λ c page e. record { rule = refl; frames = refl };
  fork = λ c from pages account e. record { rule = refl; frames = refl };
}
