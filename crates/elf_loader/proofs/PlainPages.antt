-- Pages that are added have no tag.
use Rattle.std.proofs.Common.{◌≡◌, ◌≢◌, ◌∙◌, ◌⊎◌, inl, inr, ℕ, false, Some, None, List, ap, sym}
use Rattle.std.specs.Option.{option_map}
use Rattle.std.proofs.lemmas.Bool.{cases_eq}
use Rattle.cap_format.specs.declared.cap.Cap.{Cap}
use Rattle.machine_types.specs.Granules.{granule}
use Rattle.machine_types.specs.MemoryLaws.{PagesAreMade}
use Rattle.machine_types.specs.Stores.{Page, page_of_bytes}
use Rattle.contents.specs.Content.{Content, page_at}
use Rattle.contents.specs.Regions.{with_new_page}
use Rattle.contents.specs.Conditions.{HasStore}
use Rattle.contents.specs.Looks.{peek_of}
use Rattle.elf_loader.proofs.AddedPage.{put-store, put-there, put-elsewhere}

-- The region has a store, and no granule of its pages has a tag.
pub record IsPlain (region : ℕ) (c : Content) : Type 0 where
  pub store : HasStore region c
  pub plain : (page g : ℕ) (cap : Cap) → peek_of c region page g ≡ Some cap → cap.tag ≡ false

-- a store without pages has none
pub none-plain : (region : ℕ) (c : Content) → HasStore region c → ((page : ℕ) → page_at c region page ≡ None) → IsPlain region c
unfolding peek_of
none-plain region c store absent = record {
  store = store;
  plain = λ page g cap seen. let none : None ≡ Some cap = ap (option_map (λ (p : Page). granule p.granules g)) (sym (absent page)) ∙ seen in absurd (cc);
}

-- a page that is added has none
pub put-plain : PagesAreMade → (c : Content) (region page rights : ℕ) (bytes : List ℕ) → IsPlain region c → IsPlain region (with_new_page c region page rights bytes)
unfolding peek_of
put-plain made c region page rights bytes is = record { store = put-store c region page rights bytes is.store; plain = λ q g cap seen. by q g cap seen (cases_eq q page) }
  where
    at : ℕ → Page → Cap
    at g p = granule p.granules g

    by : (q g : ℕ) (cap : Cap) → option_map (at g) (page_at (with_new_page c region page rights bytes) region q) ≡ Some cap → (q ≡ page) ⊎ (q ≢ page) → cap.tag ≡ false
    by q g cap seen (inl same) =
        let one : Some (at g (page_of_bytes rights bytes)) ≡ Some cap = ap (option_map (at g)) (sym (put-there c region page rights bytes q same is.store)) ∙ seen in
        let it : at g (page_of_bytes rights bytes) ≡ cap = cc in
        ap (λ (cap : Cap). cap.tag) (sym it) ∙ made.tags rights bytes g
    by q g cap seen (inr apart) = is.plain q g cap (ap (option_map (at g)) (sym (put-elsewhere c region page rights bytes q apart is.store)) ∙ seen)
