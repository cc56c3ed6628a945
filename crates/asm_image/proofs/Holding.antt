-- Rules that all hold, in two parts.
use Rattle.std.proofs.Common.{List, [], ◌∷◌, ◌++◌}
use Rattle.cap_format.specs.Rules.{Rule, AllHold}

-- where the rules of both parts hold, all do
pub hold-append : (before after : List Rule) → AllHold before → AllHold after → AllHold (before ++ after)
hold-append [] after first second = second
hold-append (rule ∷ before) after (here, there) second = (here, hold-append before after there second)
