use Rattle.std.proofs.Common.{ℕ, ◌<◌, ◌≤◌, ◌⊎◌, inl, inr, arith}
use Rattle.std.proofs.lemmas.Bool.{cases_lt}
use Rattle.outside_io.specs.Faults.{Rose, Still, count_after}
use Rattle.outside_io.proofs.AnswerLemmas.{Still-not_Rose}
use Rattle.outside_io.proofs.laws.counts_tell.Goals as goal

rose-or-still : (before now : ℕ) → Rose before now ⊎ Still before now
rose-or-still before now = by (cases_lt now (count_after before))
  where
    by : (now < count_after before) ⊎ (count_after before ≤ now) → Rose before now ⊎ Still before now
    by (inl still) = inr still
    by (inr rose) = inl rose

pub returns : goal.returns
returns c = record {
  either = rose-or-still;
  apart = λ before now rose still. Still-not_Rose before now still rose;
  stays = λ count below. omega (arith, below);
  below = λ o files input out err. record { files = files; input = input; out = out; err = err };
  none = λ o below. record {
    files = omega (arith, below.files);
    input = omega (arith, below.input);
    sinks = record { out = omega (arith, below.out); err = omega (arith, below.err) };
  };
}
