use Rattle.contents.proofs.AddedPages.{added-refused, added-done, added-used, added-rights, added-front, added-zeros, added-tags, added-own}
use Rattle.contents.proofs.behavior.pages_are_added.Goals as goal

pub returns : goal.returns
returns c = record { refused = added-refused; done = added-done; used = added-used; rights = added-rights; front = added-front; zeros = added-zeros; tags = added-tags; own = added-own }
