use Rattle.std.proofs.Common.{◌≡◌, ◌∙◌, sym, ap, ◌<◌, false, [], length, get_or, map, Some, None, arith}
use Rattle.std.specs.Prelude.{string_bytes, codes, bytes_eq}
use Rattle.std.proofs.lemmas.Bool.Decides.{nat_tests}
use Rattle.std.proofs.lemmas.List.{get_or-map, length-map}
use Rattle.command_words.specs.Commands.{read_of}
use Rattle.command_words.specs.Reading.{tool_of}
use Rattle.command_words.proofs.Tables.{same-text}
use Rattle.command_words.proofs.CommandLimits.{read-of-words}
use Rattle.command_words.proofs.CommandsRead.{tool-words, other-words, no-words-read}
use Rattle.command_words.proofs.words.read_words.Goals as goal
use Rattle.command_words.proofs.words.read_words.Goals.{After-as_str-name, After-read_last}

-- there is a first word
some-words : (c : After-as_str-name) → 0 < length (map string_bytes c.args.words.now)
some-words c = simp length-map (grind (arith, nat_tests))

-- the first word that was read
first-read : (c : After-as_str-name) → get_or (map string_bytes c.args.words.now) 0 [] ≡ c.as_str-name.result.now
first-read c =
    let word = c.index-words-0.result in
    let some : 0 < length c.args.words.now = grind (arith, nat_tests) in
    get_or-map string_bytes c.args.words.now 0 word [] some ∙ ap string_bytes (sym c.index-words-0.is) ∙ sym c.as_str-name.ensures.value

pub read_run-requires-clause-run : goal.read_run-requires-clause-run
read_run-requires-clause-run c =
    first-read (goal.at.read_run-requires-clause-run c).After-as_str-name ∙ same-text c.as_str-name.result.now (codes "run") (sym c.if-eq.ensures)

pub returns-then-is_empty-clause-is : goal.returns-then-is_empty-clause-is
returns-then-is_empty-clause-is c =
    let none : length c.args.words.now ≡ 0 = grind (arith, nat_tests) in
    c.fault.ensures ∙ sym (no-words-read (map string_bytes c.args.words.now) (simp length-map none))

pub returns-then-eq-clause-within : goal.returns-then-eq-clause-within
returns-then-eq-clause-within c =
    simp length-map at (read-of-words (map string_bytes c.args.words.now) c.read_run.result c.read_run.ensures)

-- a tool's words were read
tool-read : (c : After-read_last) → c.read_last.result ≡ read_of (map string_bytes c.args.words.now)
tool-read c =
    let read = (goal.at.returns-in-Some-clause-is c).After-as_str-name in
    let named : tool_of (get_or (map string_bytes c.args.words.now) 0 []) ≡ Some c.in-Some.command = ap tool_of (first-read read) ∙ sym c.in-Some.ensures in
    c.read_last.ensures ∙ sym (tool-words (map string_bytes c.args.words.now) c.in-Some.command (some-words read) named)

pub returns-in-Some-clause-is : goal.returns-in-Some-clause-is
returns-in-Some-clause-is c = tool-read c

pub returns-in-Some-clause-within : goal.returns-in-Some-clause-within
returns-in-Some-clause-within c =
    simp length-map at (read-of-words (map string_bytes c.args.words.now) c.read_last.result (tool-read c))

pub returns-in-None-clause-is : goal.returns-in-None-clause-is
returns-in-None-clause-is c =
    let read = (goal.at.returns-in-None-clause-is c).After-as_str-name in
    let words = map string_bytes c.args.words.now in
    let other : bytes_eq (get_or words 0 []) (codes "run") ≡ false = rw (first-read read) (sym c.if-eq.ensures) in
    let none : tool_of (get_or words 0 []) ≡ None = ap tool_of (first-read read) ∙ sym c.in-None.ensures in
    c.fault-in-None.ensures ∙ sym (other-words words (some-words read) other none)
