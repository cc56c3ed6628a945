-- What stands at the front of what is left of a line.
use Rattle.std.proofs.Common.{◌≡◌, ◌∙◌, sym, ap, refl, ℕ, zero, suc, ◌+◌, ◌-◌, ◌<◌, ◌≤◌, Bool, true, false, List, [], length, get_or, take, drop, Some, None, option_map, arith}
use Rattle.std.proofs.lemmas.List.{drop-take, drop-drop, length-take-le, length-drop}
use Rattle.asm_text.specs.declared.tokens.Token.{Token}
use Rattle.asm_text.specs.Bytes.{is_blank, is_text, are}
use Rattle.asm_text.specs.Tokens.{token_of, lexeme_length}
use Rattle.asm_text.specs.Scanning.{run_length}
use Rattle.asm_text.specs.Lines.{lexed, led_by, lexeme_at}
use Rattle.asm_text.specs.Cursors.{Reading, left_from, behind, IsNext}
use Rattle.asm_text.proofs.Runs.{run-within, run-other}
use Rattle.asm_text.proofs.Longest.{lexeme-longest}
use Rattle.asm_text.proofs.LexedLines.{lexed-blanks, lexed-nothing, lexed-comment, lexed-longest}

-- the bytes from one place of a text up to another
abbrev pub part_of : List ℕ → ℕ → ℕ → List ℕ
part_of text at past = take (past - at) (drop at text)

-- are so many
pub part-length : (text : List ℕ) (at past : ℕ) → at ≤ past → past ≤ length text → length (part_of text at past) ≡ past - at
part-length text at past low high = length-take-le (past - at) (drop at text) (omega (arith, length-drop at text))

-- and without the first of them those from a later place on
pub part-drop : (text : List ℕ) (at past count next : ℕ) → next ≡ at + count → next ≤ past → drop count (part_of text at past) ≡ part_of text next past
part-drop text at past count next is within =
    let places : past - at ≡ count + (past - next) = omega arith in
    ap (λ n. drop count (take n (drop at text))) places ∙ drop-take count (past - next) (drop at text)
    ∙ ap (take (past - next)) (drop-drop count at text ∙ ap (λ n. drop n text) (sym is))

-- Behind the blanks the same is left, and its first byte is no blank.
pub record IsBehind (text : List ℕ) (at past first : ℕ) : Type 0 where
  pub from : at ≤ first
  pub to : first ≤ past
  pub within : past ≤ length text
  pub left : left_from text at past true ≡ lexed first 0 (part_of text first past)
  pub other : 0 < length (part_of text first past) → is_blank (get_or (part_of text first past) 0 0) ≡ false

pub behind-blanks : (text : List ℕ) (at past first : ℕ) → at ≤ past → past ≤ length text → first ≡ at + run_length is_blank (part_of text at past) → IsBehind text at past first
behind-blanks text at past first low high is =
    let within = run-within is_blank (part_of text at past) in
    let size = part-length text at past low high in
    let to : first ≤ past = omega arith in
    let rest = part-drop text at past (run_length is_blank (part_of text at past)) first is to in
    record {
      from = omega arith;
      to = to;
      within = high;
      left = lexed-blanks at (part_of text at past) ∙ ap (λ n. lexed n 0 (drop (run_length is_blank (part_of text at past)) (part_of text at past))) (sym is) ∙ ap (lexed first 0) rest;
      other = rw (← rest) (run-other is_blank (part_of text at past));
    }

-- nothing stands there
pub front-nothing : (text : List ℕ) (at past first : ℕ) → IsBehind text at past first → length (part_of text first past) ≡ 0
    → left_from text at past true ≡ record { lexemes = []; whole = true }
front-nothing text at past first behind none = behind.left ∙ lexed-nothing first (part_of text first past) none

-- a comment
pub front-comment : (text : List ℕ) (at past first : ℕ) (is : Bool) → IsBehind text at past first → 0 < length (part_of text first past) → get_or (part_of text first past) 0 0 ≡ 35
    → is ≡ are is_text (part_of text first past) → left_from text at past true ≡ record { lexemes = []; whole = is }
front-comment text at past first is behind some comment text-is =
    behind.left ∙ lexed-comment first (part_of text first past) some comment ∙ ap (λ b. record { lexemes = []; whole = b }) (sym text-is)

-- the token of so many bytes
found-lexeme : (place count : ℕ) (bytes : List ℕ) (token : Token) → token_of (take count bytes) ≡ Some token
    → lexeme_at place count bytes ≡ Some (record { token = token; span = record { first = place; past = place + count } })
found-lexeme place count bytes token is = ap (option_map (λ t. record { token = t; span = record { first = place; past = place + count } })) is

-- where it is none there is a fault
pub front-fault : (text : List ℕ) (at past first count : ℕ) → IsBehind text at past first → 0 < length (part_of text first past) → (get_or (part_of text first past) 0 0 ≡ 35 → ⊥)
    → count ≡ lexeme_length (part_of text first past) → token_of (take count (part_of text first past)) ≡ None
    → left_from text at past true ≡ record { lexemes = []; whole = false }
front-fault text at past first count behind some comment is none =
    let bytes = part_of text first past in
    let longest = lexed-longest first bytes some (behind.other some) comment in
    let nothing : lexeme_at first (lexeme_length bytes) bytes ≡ None =
    ap (λ n. lexeme_at first n bytes) (sym is) ∙ ap (option_map (λ t. record { token = t; span = record { first = first; past = first + count } })) none in
    behind.left ∙ longest ∙ ap (λ lexeme. led_by lexeme (lexed (first + lexeme_length bytes) 0 (drop (lexeme_length bytes) bytes))) nothing

-- a token has some bytes
some-count : (count : ℕ) (bytes : List ℕ) (token : Token) → token_of (take count bytes) ≡ Some token → 0 < count
some-count zero bytes token is = let none : None ≡ Some token = is in cc
some-count (suc count) bytes token is = omega arith

-- and else a token stands there
pub front-token : (text : List ℕ) (at past first count : ℕ) (token : Token) → IsBehind text at past first → 0 < length (part_of text first past) → (get_or (part_of text first past) 0 0 ≡ 35 → ⊥)
    → count ≡ lexeme_length (part_of text first past) → token_of (take count (part_of text first past)) ≡ Some token
    → IsNext text at past (record { token = token; span = record { first = first; past = first + count } })
front-token text at past first count token behind some comment is found =
    let bytes = part_of text first past in
    let within = (lexeme-longest bytes).within in
    let size = part-length text first past behind.to behind.within in
    let more = some-count count bytes token found in
    let to : first + count ≤ past = omega (arith, behind.to) in
    let longest = lexed-longest first bytes some (behind.other some) comment in
    record {
      placed = record { some = omega arith; within = omega (arith, behind.within) };
      from = omega (arith, behind.from);
      to = to;
      left = behind.left ∙ longest ∙ ap (λ n. led_by (lexeme_at first n bytes) (lexed (first + n) 0 (drop n bytes))) (sym is)
          ∙ ap (λ lexeme. led_by lexeme (lexed (first + count) 0 (drop count bytes))) (found-lexeme first count bytes token found)
          ∙ ap (λ rest. led_by (Some (record { token = token; span = record { first = first; past = first + count } })) (lexed (first + count) 0 rest)) (part-drop text first past count (first + count) refl to);
    }

-- at the end of a line nothing is left
left-at-end : (text : List ℕ) (past : ℕ) (whole : Bool) → left_from text past past whole ≡ record { lexemes = []; whole = whole }
left-at-end text past true = let none : past - past ≡ 0 = omega arith in rw none (lexed-nothing past [] refl)
left-at-end text past false = refl

-- where a line ends without a fault nothing but that is left of it
left-ends : (text : List ℕ) (at past : ℕ) (whole : Bool) → left_from text at past true ≡ record { lexemes = []; whole = true } → left_from text at past whole ≡ record { lexemes = []; whole = whole }
left-ends text at past true ends = ends
left-ends text at past false ends = refl

-- the reading behind that end
pub behind-end : (text : List ℕ) (at past : ℕ) (whole : Bool) → left_from text at past true ≡ record { lexemes = []; whole = true }
    → ◌≡◌ {A = Reading} (record { text = text; left = left_from text past past whole }) (behind (record { text = text; left = left_from text at past whole }))
behind-end text at past whole ends =
    ap (λ left. record { text = text; left = left }) (left-at-end text past whole)
    ∙ sym (ap (λ left. behind (record { text = text; left = left })) (left-ends text at past whole ends))
