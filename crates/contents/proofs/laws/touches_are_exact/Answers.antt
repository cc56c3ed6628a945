use Rattle.std.proofs.Common.{refl}
use Rattle.std.proofs.lemmas.Bool.{eqb-true}
use Rattle.contents.specs.Content.{class_at}
use Rattle.contents.proofs.TouchLemmas.{touched-used, note-alone, note-lacks}
use Rattle.contents.proofs.laws.touches_are_exact.Goals as goal

pub returns : goal.returns
returns c = record {
  stores = λ c region note. refl;
  used = touched-used;
  alone = λ c access region page tagged class there one. rw there (note-alone c access region page tagged class one);
  lacks = λ c access region page tagged none. eqb-true _ _ (note-lacks c access region page tagged (class_at c region page) none);
}
