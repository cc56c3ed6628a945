-- Some lines say what each of them says, or they have the fault of the first one that has one.
use Rattle.std.proofs.Common.{◌≡◌, ◌∙◌, sym, ap, refl, ℕ, suc, ◌+◌, ◌-◌, ◌<◌, ◌≤◌, List, [], ◌∷◌, ◌++◌, Result, Ok, Err, length, get_or, inl, inr, arith}
use Rattle.std.proofs.lemmas.Bool.{cases_eq}
use Rattle.asm_text.specs.declared.listing.Item.{Item}
use Rattle.asm_text.specs.declared.source.SourceFault.{SourceFault}
use Rattle.asm_text.specs.declared.source.SourceReason.{SourceReason}
use Rattle.asm_text.specs.Lines.{Line}
use Rattle.asm_text.specs.Source.{fault, joined, line_of, of_lines}
use Rattle.asm_text.specs.Laws.{items_in, all_items}

-- the line of a number among lines from another number on
abbrev pub line-numbered : ℕ → List Line → ℕ → Line
line-numbered first lines n = get_or lines (n - first) (record { place = 0; bytes = [] })

-- a line says items
abbrev pub IsGood : List ℕ → ℕ → List Line → ℕ → Type 0
IsGood text first lines n = (items : List Item) × (line_of text n (line-numbered first lines n) ≡ Ok items)

-- one of these lines has this fault, and none before it has one
pub record HasFault (text : List ℕ) (first : ℕ) (lines : List Line) (n : ℕ) (reason : SourceReason) : Type 0 where
  pub from : first ≤ n
  pub to : n < first + length lines
  pub here : line_of text n (line-numbered first lines n) ≡ Err reason
  pub before : (k : ℕ) → first ≤ k → k < n → IsGood text first lines k

-- the first line has the first number
line-first : (first : ℕ) (line : Line) (lines : List Line) → line-numbered first (line ∷ lines) first ≡ line
line-first first line lines =
    let none : first - first ≡ 0 = omega arith in
    rw none refl

-- and a line behind it is one of the others
line-behind : (first : ℕ) (line : Line) (lines : List Line) (n : ℕ) → first + 1 ≤ n → line-numbered first (line ∷ lines) n ≡ line-numbered (first + 1) lines n
line-behind first line lines n behind =
    let next : n - first ≡ suc (n - (first + 1)) = omega arith in
    rw next refl

-- the same of what such a line says
good-behind : (text : List ℕ) (first : ℕ) (line : Line) (lines : List Line) (n : ℕ) → first + 1 ≤ n → IsGood text first (line ∷ lines) n → IsGood text (first + 1) lines n
good-behind text first line lines n behind good = (good.0, rw (← line-behind first line lines n behind) good.1)

-- lines have the fault of the first one that has one
pub fault-found : (text : List ℕ) (first : ℕ) (lines : List Line) (n : ℕ) (reason : SourceReason) → HasFault text first lines n reason → of_lines text first lines ≡ Err (fault n reason)
fault-found text first [] n reason has = absurd (omega (arith, has.from, has.to))
fault-found text first (line ∷ lines) n reason has = elim (cases_eq n first) [
  | inl same ↦
      let here : line_of text first line ≡ Err reason = ap (line_of text first) (sym (line-first first line lines)) ∙ rw same at has.here in
      rw (here, same) refl
  | inr later ↦
      let good = has.before first (omega arith) (omega (arith, has.from)) in
      let here : line_of text first line ≡ Ok good.0 = ap (line_of text first) (sym (line-first first line lines)) ∙ good.1 in
      let rest : HasFault text (first + 1) lines n reason = record {
        from = omega (arith, has.from);
        to = omega (arith, has.to);
        here = rw (← line-behind first line lines n (omega (arith, has.from))) has.here;
        before = λ k from to. good-behind text first line lines k from (has.before k (omega arith) to);
      } in
      rw (here, fault-found text (first + 1) lines n reason rest) refl
]

-- the first line has a fault, or the others have one
fault-here : (text : List ℕ) (first : ℕ) (line : Line) (lines : List Line) (n : ℕ) (reason : SourceReason) (said : Result (List Item) SourceReason) (rest : Result (List Item) SourceFault)
    → line_of text first line ≡ said → joined first said rest ≡ Err (fault n reason) → (rest ≡ Err (fault n reason) → HasFault text (first + 1) lines n reason)
    → HasFault text first (line ∷ lines) n reason
fault-here text first line lines n reason (Err found) rest is joins behind =
    let equal : fault first found ≡ fault n reason = cc in
    let same : first ≡ n = ap (λ (f : SourceFault). f.line) equal in
    let same-reason : found ≡ reason = ap (λ (f : SourceFault). f.reason) equal in
    record {
      from = omega arith;
      to = omega arith;
      here = rw (← same) (ap (line_of text first) (line-first first line lines) ∙ is ∙ ap Err same-reason);
      before = λ k from to. absurd (omega arith);
    }
fault-here text first line lines n reason (Ok items) (Ok rest) is joins behind = cc
fault-here text first line lines n reason (Ok items) (Err later) is joins behind =
    let has = behind joins in
    record {
      from = omega (arith, has.from);
      to = omega (arith, has.to);
      here = rw (line-behind first line lines n has.from) has.here;
      before = λ k from to. elim (cases_eq k first) [
        | inl same ↦ (items, rw same (ap (line_of text first) (line-first first line lines) ∙ is))
        | inr later ↦
            let good = has.before k (omega arith) to in
            (good.0, rw (line-behind first line lines k (omega arith)) good.1)
      ];
    }

-- and the fault that lines have is that of such a line
pub fault-is : (text : List ℕ) (first : ℕ) (lines : List Line) (n : ℕ) (reason : SourceReason) → of_lines text first lines ≡ Err (fault n reason) → HasFault text first lines n reason
fault-is text first [] n reason is = cc
fault-is text first (line ∷ lines) n reason is =
    fault-here text first line lines n reason (line_of text first line) (of_lines text (first + 1) lines) refl is (fault-is text (first + 1) lines n reason)

-- lines of which none has a fault say what each says
pub lines-good : (text : List ℕ) (first : ℕ) (lines : List Line) → ((n : ℕ) → first ≤ n → n < first + length lines → IsGood text first lines n)
    → of_lines text first lines ≡ Ok (all_items text first lines)
lines-good text first [] good = refl
lines-good text first (line ∷ lines) good =
    let said = good first (omega arith) (omega arith) in
    let here : line_of text first line ≡ Ok said.0 = ap (line_of text first) (sym (line-first first line lines)) ∙ said.1 in
    let rest = lines-good text (first + 1) lines (λ n from to. good-behind text first line lines n from (good n (omega arith) (omega arith))) in
    rw (here, rest) refl

-- the items of one line and of the others
items-joined : (first : ℕ) (said : Result (List Item) SourceReason) (rest : Result (List Item) SourceFault) (items others : List Item) → joined first said rest ≡ Ok items
    → ((found : List Item) → rest ≡ Ok found → found ≡ others) → items ≡ items_in said ++ others
items-joined first (Err reason) rest items others is behind = cc
items-joined first (Ok here) (Err later) items others is behind = cc
items-joined first (Ok here) (Ok found) items others is behind =
    let same : items ≡ here ++ found = cc in
    same ∙ ap (λ x. here ++ x) (behind found refl)

-- what lines say is what each says
pub items-are : (text : List ℕ) (first : ℕ) (lines : List Line) (items : List Item) → of_lines text first lines ≡ Ok items → items ≡ all_items text first lines
items-are text first [] items is = cc
items-are text first (line ∷ lines) items is =
    items-joined first (line_of text first line) (of_lines text (first + 1) lines) items (all_items text (first + 1) lines) is (items-are text (first + 1) lines)
