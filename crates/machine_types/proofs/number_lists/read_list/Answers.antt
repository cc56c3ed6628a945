use Rattle.std.proofs.Common.{rules, ℕ, ◌≡◌, ◌∙◌, ◌≤◌, ◌+◌, Some, List, [], ◌∷◌, ◌++◌, length, length-drop, ◌-◌, take, drop, sym, refl, arith}
use Rattle.std.proofs.lemmas.List.{drop_all, take_rest}
use Rattle.machine_types.specs.NumberLists.{lines_of, entry_of}
use Rattle.machine_types.proofs.FirstPlaces.{lines-from}
use Rattle.machine_types.proofs.LinesRead.{joined-none, joined-all, line-read, wrong-read, late-read, short-text, long-text}
use Rattle.machine_types.proofs.number_lists.read_list.Goals as goal

pub returns-then-text-gt-LIST_BYTES : goal.returns-then-text-gt-LIST_BYTES
returns-then-text-gt-LIST_BYTES c = long-text _ _ _ c.if-text-gt-LIST_BYTES.true

pub loop-at-init : goal.loop-at-init
loop-at-init c = record { place = omega arith; count = omega arith; whole = rw c.new-entries.ensures.items (joined-none _) }

pub returns-in_default : goal.returns-in_default
returns-in_default c =
    let first = c.first_place-end.ensures in
    short-text _ _ _ c.if-text-gt-LIST_BYTES.false
    ∙ wrong-read _ _ _ _ _ _ _ _ c.loop-at.invariant.whole (lines-from _ _ _ _ refl c.loop-at-test.true first.within first.before first.found)
    (sym c.read_entry.ensures ∙ c.in_default.is)

pub returns-then-line-gt-MOST_LINES : goal.returns-then-line-gt-MOST_LINES
returns-then-line-gt-MOST_LINES c =
    let first = c.first_place-end.ensures in
    short-text _ _ _ c.if-text-gt-LIST_BYTES.false
    ∙ late-read _ _ _ _ _ _ _ _ c.loop-at.invariant.whole (lines-from _ _ _ _ refl c.loop-at-test.true first.within first.before first.found)
    c.if-line-gt-MOST_LINES.true

pub loop-at-preserved : goal.loop-at-preserved
loop-at-preserved c =
    let rest : List ℕ = take (length c.args.text.now - c.loop-at.at) (drop c.loop-at.at c.args.text.now) in
    let first = c.first_place-end.ensures in
    let place : c.first_place-end.result ≤ length c.args.text.now - c.loop-at.at = simp (take_rest, length-drop) at first.within in
    let items : c.push.new.self.items ≡ c.loop-at.entries.items ++ (c.in-Some.entry ∷ []) = search rules in
    let next : lines_of (drop c.loop-at.at c.args.text.now)
    ≡ take c.first_place-end.result rest ∷ lines_of (drop (c.loop-at.at + (c.first_place-end.result + 1)) c.args.text.now)
    = lines-from _ _ _ _ refl c.loop-at-test.true first.within first.before first.found in
    let said : entry_of c.args.least c.args.most (take c.first_place-end.result rest) ≡ Some c.in-Some.entry = sym c.read_entry.ensures ∙ c.in-Some.is in
    record {
      place = omega (arith, place);
      count = omega arith;
      whole = rw items (line-read _ _ _ (take c.first_place-end.result rest) _ _ _ _ c.if-line-gt-MOST_LINES.false said (rw next at c.loop-at.invariant.whole));
    }

pub returns : goal.returns
returns c =
    let end : drop c.loop-at.at c.args.text.now ≡ [] = drop_all _ _ c.loop-at-test.false in
    short-text _ _ _ c.if-text-gt-LIST_BYTES.false ∙ joined-all _ _ (rw end at c.loop-at.invariant.whole)
