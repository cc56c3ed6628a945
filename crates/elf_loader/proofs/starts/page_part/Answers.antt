use Rattle.std.proofs.Common.{◌≡◌, ◌∙◌, ℕ, ◌+◌, ◌-◌, ◌*◌, List, length, take, drop, min, ap, arith, length-drop}
use Rattle.std.proofs.lemmas.List.{drop_min, take_min}
use Rattle.cap_format.specs.Numbers.{page_bytes}
use Rattle.elf_loader.proofs.starts.page_part.Goals as goal

-- what stands from a place on, up to so many elements, where the list may end before
part-of-list : (xs : List ℕ) (from size start end : ℕ) → start ≡ min (length xs) from → end ≡ min (length xs) (start + size) → take (end - start) (drop start xs) ≡ take size (drop from xs)
part-of-list xs from size start end first last =
    let count : end - start ≡ min size (length (drop start xs)) = omega (arith, length-drop start xs) in
    let place : start ≡ min from (length xs) = omega arith in
    ap (λ n. take n (drop start xs)) count ∙ take_min size (drop start xs) ∙ ap (λ at. take size (drop at xs)) place ∙ ap (take size) (drop_min from xs)

pub returns-clause-is : goal.returns-clause-is
returns-clause-is c =
    let file = c.args.bytes.now in
    let segment = c.args.segment.now in
    let at = c.args.number * page_bytes in
    let same : segment.from + segment.file_size - segment.from ≡ segment.file_size = omega arith in
    part-of-list (take (segment.from + segment.file_size - segment.from) (drop segment.from file)) at page_bytes c.min-start.result c.min-end.result c.min-start.ensures c.min-end.ensures
    ∙ ap (λ n. take page_bytes (drop at (take n (drop segment.from file)))) same
