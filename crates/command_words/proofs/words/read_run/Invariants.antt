use Rattle.std.proofs.Common.{◌≡◌, ◌-◌, ◌≤◌, List, length, map, drop}
use Rattle.std.specs.Prelude.{string_bytes, codes}
use Rattle.command_words.specs.Grammar.{OptionRow}
use Rattle.command_words.specs.Commands.{read_of}
use Rattle.command_words.proofs.Reader.{read_from}
use Rattle.command_words.proofs.Names.{Offers}
use Rattle.command_words.proofs.words.read_run.Given as goal

-- With the options that are left, the words are read as those that are left are.
abbrev pub invariant-loop-at : goal.invariant-loop-at
invariant-loop-at l = record {
  within : l.at ≤ length l.words;
  all : length l.used ≡ 6;
  read : (left : List OptionRow) × Offers l.used left × (read_of (map string_bytes l.words) ≡ read_from (codes "run") left l.options l.at (drop l.at (map string_bytes l.words)));
}

abbrev pub decreases-loop-at : goal.decreases-loop-at
decreases-loop-at l = length l.words - l.at
