use Rattle.std.proofs.Common.{◌∙◌, sym, ap, ◌+◌, length, arith, rules}
use Rattle.std.proofs.lemmas.Bool.{eqb-true}
use Rattle.asm_text.proofs.Lexemes.{some-bytes}
use Rattle.asm_text.proofs.Longest.{lexeme-of-lexeme}
use Rattle.asm_text.proofs.Fronts.{part_of, IsBehind, behind-blanks, front-nothing, front-comment, front-fault, front-token}
use Rattle.asm_text.proofs.cursor.front_of.Goals as goal
use Rattle.asm_text.proofs.cursor.front_of.Goals.{After-blanks}

-- what is left behind the blanks
read-behind : (c : After-blanks) → IsBehind c.args.text.now c.args.at c.args.past (c.args.at + c.blanks.result)
read-behind c = behind-blanks c.args.text.now c.args.at c.args.past (c.args.at + c.blanks.result) c.requires.from c.requires.to (ap (λ n. c.args.at + n) c.blanks.ensures)

pub overflow_add-first : goal.overflow_add-first
overflow_add-first c = let behind = read-behind c in omega arith

pub slice_bounds-bytes-count : goal.slice_bounds-bytes-count
slice_bounds-bytes-count c = (read-behind (goal.at.slice_bounds-bytes-count c).After-blanks).to

pub slice_bounds-bytes-start : goal.slice_bounds-bytes-start
slice_bounds-bytes-start c = let behind = read-behind (goal.at.slice_bounds-bytes-start c).After-blanks in search rules

pub returns-then-is_empty : goal.returns-then-is_empty
returns-then-is_empty c =
    let behind = read-behind (goal.at.returns-then-is_empty c).After-blanks in
    let first = c.args.at + c.blanks.result in
    front-nothing c.args.text.now c.args.at c.args.past first behind (eqb-true (length (part_of c.args.text.now first c.args.past)) 0 (sym c.if-is_empty.ensures))

pub returns-then-are_text : goal.returns-then-are_text
returns-then-are_text c =
    let behind = read-behind (goal.at.returns-then-are_text c).After-blanks in
    let first = c.args.at + c.blanks.result in
    let some = some-bytes (part_of c.args.text.now first c.args.past) (sym c.if-is_empty.ensures) in
    front-comment c.args.text.now c.args.at c.args.past first _ behind some c.if-bytes-eq35.true c.if-are_text.ensures

pub returns-else-are_text : goal.returns-else-are_text
returns-else-are_text c =
    let behind = read-behind (goal.at.returns-else-are_text c).After-blanks in
    let first = c.args.at + c.blanks.result in
    let some = some-bytes (part_of c.args.text.now first c.args.past) (sym c.if-is_empty.ensures) in
    front-comment c.args.text.now c.args.at c.args.past first _ behind some c.if-bytes-eq35.true c.if-are_text.ensures

pub token_of-requires : goal.token_of-requires
token_of-requires c = lexeme-of-lexeme (part_of c.args.text.now (c.args.at + c.blanks.result) c.args.past) c.lexeme_length-length.result c.lexeme_length-length.ensures.is

pub returns-in-Some : goal.returns-in-Some
returns-in-Some c =
    let behind = read-behind (goal.at.returns-in-Some c).After-blanks in
    let first = c.args.at + c.blanks.result in
    let some = some-bytes (part_of c.args.text.now first c.args.past) (sym c.if-is_empty.ensures) in
    front-token c.args.text.now c.args.at c.args.past first c.lexeme_length-length.result c.in-Some.token behind some c.if-bytes-eq35.false c.lexeme_length-length.ensures.is
    (sym c.token_of.ensures ∙ c.in-Some.is)

pub returns-in-None : goal.returns-in-None
returns-in-None c =
    let behind = read-behind (goal.at.returns-in-None c).After-blanks in
    let first = c.args.at + c.blanks.result in
    let some = some-bytes (part_of c.args.text.now first c.args.past) (sym c.if-is_empty.ensures) in
    front-fault c.args.text.now c.args.at c.args.past first c.lexeme_length-length.result behind some c.if-bytes-eq35.false c.lexeme_length-length.ensures.is
    (sym c.token_of.ensures ∙ c.in-None.is)
