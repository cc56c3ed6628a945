-- What pages a fork gives the child, and when it gives none.
use Rattle.std.proofs.Common.{◌≡◌, ◌≤◌, ◌<◌, ◌+◌, ◌↔◌, ◌∙◌, ℕ, refl, sym, ap, arith, false, Option, Some, None, Ok, Err, length}
use Rattle.std.specs.Prelude.{is_some}
use Rattle.std.specs.Option.{option_map}
use Rattle.cap_format.specs.declared.cap.Cap.{Cap}
use Rattle.cap_format.specs.Moves.{moved}
use Rattle.machine_types.specs.declared.config.Rule.TheVariants.{Full}
use Rattle.machine_types.specs.Granules.{granule}
use Rattle.machine_types.specs.Stores.{Page, Store, moved_page, moved_store}
use Rattle.machine_types.proofs.MovedPages.{granule-moved_granules}
use Rattle.contents.specs.Content.{Content, page_in, page_at, used_frames}
use Rattle.contents.specs.Regions.{fork_of, no_frame, numbers_in}
use Rattle.contents.specs.Looks.{peek_of, rights_of}
use Rattle.contents.proofs.Options.{is_some-option_map, option_map-option_map}
use Rattle.contents.proofs.ForkLemmas.{fork-refused, fork-child}

-- where no more frames are used than there are, a fork under `full` is refused exactly where it would use more
pub refused-within : (c : Content) (from to : ℕ) → used_frames c ≤ c.frames → c.rule ≡ Full
    → ((fork_of c from to).answer ≡ Err no_frame) ↔ (c.frames < used_frames c + length (numbers_in (c.stores from)))
refused-within c from to within full =
    let lacks = fork-refused c from to full in
    (λ e. let fewer = lacks.0 e in omega arith, λ less. lacks.1 (omega arith))

-- a page of a moved store
page-moved : (from to page : ℕ) (o : Option Store) → page_in (option_map (moved_store from to) o) page ≡ option_map (moved_page from to) (page_in o page)
page-moved from to page None = refl
page-moved from to page (Some store) = refl

-- each page of the child is the parent's, moved
child-page : (c : Content) (from to page : ℕ) → (fork_of c from to).answer ≡ Ok tt → page_at (fork_of c from to).after to page ≡ option_map (moved_page from to) (page_at c from page)
child-page c from to page e = ap (λ (o : Option Store). page_in o page) (fork-child c from to e) ∙ page-moved from to page (c.stores from)

-- the rights of the child's pages
pub child-rights : (c : Content) (from to page : ℕ) → (fork_of c from to).answer ≡ Ok tt → rights_of (fork_of c from to).after to page ≡ rights_of c from page
unfolding rights_of
child-rights c from to page e = ap (option_map (λ (p : Page). p.rights)) (child-page c from to page e)
    ∙ option_map-option_map (λ p. p.rights) (moved_page from to) (λ p. p.rights) (λ p. refl) (page_at c from page)

-- what the child's pages hold
child-peek : (c : Content) (from to page g : ℕ) → (fork_of c from to).answer ≡ Ok tt → peek_of (fork_of c from to).after to page g ≡ option_map (λ cap. moved cap from to) (peek_of c from page g)
unfolding peek_of
child-peek c from to page g e =
    ap (option_map (λ (p : Page). granule p.granules g)) (child-page c from to page e)
    ∙ option_map-option_map (λ p. granule p.granules g) (moved_page from to) (λ p. moved (granule p.granules g) from to) (λ p. granule-moved_granules from to p.granules g) (page_at c from page)
    ∙ sym (option_map-option_map (λ cap. moved cap from to) (λ (p : Page). granule p.granules g) (λ p. moved (granule p.granules g) from to) (λ p. refl) (page_at c from page))

-- the child has the granules that the parent has
pub child-some : (c : Content) (from to page g : ℕ) → (fork_of c from to).answer ≡ Ok tt → is_some (peek_of (fork_of c from to).after to page g) ≡ is_some (peek_of c from page g)
child-some c from to page g e = ap is_some (child-peek c from to page g e) ∙ is_some-option_map (λ cap. moved cap from to) (peek_of c from page g)

-- a granule of the parent, moved
pub child-tagged : (c : Content) (from to page g : ℕ) (cap : Cap) → (fork_of c from to).answer ≡ Ok tt → peek_of c from page g ≡ Some cap → peek_of (fork_of c from to).after to page g ≡ Some (moved cap from to)
child-tagged c from to page g cap e is = child-peek c from to page g e ∙ rw is refl

-- one without a tag as it is
pub child-untagged : (c : Content) (from to page g : ℕ) (cap : Cap) → (fork_of c from to).answer ≡ Ok tt → peek_of c from page g ≡ Some cap → cap.tag ≡ false → peek_of (fork_of c from to).after to page g ≡ Some cap
child-untagged c from to page g cap e is untagged = child-tagged c from to page g cap e is ∙ rw untagged refl
