use Rattle.std.proofs.Common.{◌≡◌, ◌∙◌, sym, ◌+◌, ◌∷◌, map, drop, false, true, arith}
use Rattle.std.specs.Prelude.{string_bytes}
use Rattle.command_words.specs.Grammar.{is_file_name}
use Rattle.command_words.proofs.Steps.{word-and-more, some-word, no-word, none-last, other-last, more-last, file-last}
use Rattle.command_words.proofs.words.read_last.Goals as goal
use Rattle.command_words.proofs.words.read_last.Goals.{Else-not-is_file_name, then-at-words-via-then-at-words, then-at-words-via-else-at-words+then-not-is_file_name}

pub returns-then-at-words : goal.returns-then-at-words
returns-then-at-words c = elim c.then-at-words.branch [
  | then-at-words-via-then-at-words w ↦
      let none = no-word string_bytes c.args.words.now c.args.at (omega (arith, w.if-at-words.true)) in
      c.fault.ensures ∙ sym (rw none (none-last c.args.command c.args.at))
  | then-at-words-via-else-at-words+then-not-is_file_name w ↦
      let word = w.index-words-at.result in
      let other : is_file_name (string_bytes word) ≡ false = rw (← w.as_str.ensures.value) (sym w.if-not-is_file_name.ensures) in
      let words = word-and-more string_bytes c.args.words.now c.args.at word w.index-words-at.is (omega (arith, w.if-at-words.false)) in
      c.fault.ensures ∙ sym (rw words (other-last c.args.command c.args.at (string_bytes word) _ other))
]

-- the word that was read and those behind it
read-word : (c : Else-not-is_file_name) → drop c.args.at (map string_bytes c.args.words.now) ≡ string_bytes c.index-words-at.result ∷ drop (c.args.at + 1) (map string_bytes c.args.words.now)
read-word c = word-and-more string_bytes c.args.words.now c.args.at c.index-words-at.result c.index-words-at.is (omega (arith, c.if-at-words.false))

-- it is a file name
read-file : (c : Else-not-is_file_name) → is_file_name (string_bytes c.index-words-at.result) ≡ true
read-file c = rw (← c.as_str.ensures.value) (sym c.if-not-is_file_name.ensures)

pub returns-then-at-words-2 : goal.returns-then-at-words-2
returns-then-at-words-2 c =
    let read = (goal.at.returns-then-at-words-2 c).Else-not-is_file_name in
    let more = some-word string_bytes c.args.words.now (c.args.at + 1) c.if-at-words-2.true in
    c.fault-then-at-words-2.ensures ∙ sym (rw (read-word read, more) (more-last c.args.command c.args.at (string_bytes c.index-words-at.result) _ _ (read-file read)))

pub returns : goal.returns
returns c =
    let read = (goal.at.returns c).Else-not-is_file_name in
    let none = no-word string_bytes c.args.words.now (c.args.at + 1) c.if-at-words-2.false in
    sym (rw (read-word read, none) (file-last c.args.command c.args.at (string_bytes c.index-words-at.result) (read-file read)))
